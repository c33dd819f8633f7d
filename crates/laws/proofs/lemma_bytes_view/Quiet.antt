-- Entries that change a buffer in what bytes don't depend on: caught victims, and targets in SYSTEM and TT.
use Rattle.std.proofs.Common.{◌≡◌, ℕ, zero, suc, List, [], ◌∷◌, ◌++◌, Option, Some, None, refl, sym, ◌∙◌, ap, inl}
use Rattle.std.specs.Prelude.{zip, slice_get, slice_set, flat_map, filter_map, find, option_map, option_and_then, ◌==◌}
use Rattle.std.specs.List.{list_any}
use Rattle.ttm_base.specs.declared.Mem.{Mem}
use Rattle.ttm_base.specs.declared.Mem.TheVariants as mem
use Rattle.ttm_base.specs.declared.BufId.{BufId}
use Rattle.ttm_base.specs.declared.Span.{Span}
use Rattle.ttm_base.specs.Pages as pages
use Rattle.journal_model.specs.declared.script.Script.{Script}
use Rattle.journal_model.specs.declared.state.Core.{Core}
use Rattle.journal_model.specs.declared.state.Buffer.{Buffer}
use Rattle.journal_model.specs.declared.state.Targets.{Targets}
use Rattle.journal_model.specs.rules.State.{changed, with_target}
use Rattle.journal_model.specs.rules.Places.{pages_of, aperture, mapped_in, page_in, page_at}
use Rattle.journal_model.specs.rules.Waits.{same_job, jobs_before_read, jobs_before_write, jobs_before_target}
use Rattle.journal_model.specs.rules.PlainMemory.{Memory, OwedProbes}
use Rattle.journal_model.specs.rules.ApplyPages.{with_spans, with_kernel_fences}
use Rattle.journal_model.specs.rules.ApplyVictims.{leaves_tt}
use Rattle.laws.specs.lemma_bytes_model.View.{View, Good}
use Rattle.laws.specs.lemma_bytes_model.Entries.{retitled}
use Rattle.laws.proofs.lemma_bytes_model.Owners.{untake_keeps}
use Rattle.laws.specs.law_holders.Holding.{seen, kept_in, target_at, HeldOnce}
use Rattle.laws.proofs.law_holders.Owner.{owner_of}
use Rattle.laws.proofs.lemma_bytes_view.World.{Seen, bare}
use Rattle.laws.proofs.lemma_bytes_view.Kept.{keep_all, changing_kept, using_kept, ghostly_kept}
use Rattle.laws.proofs.lemma_bytes_view.PacketStep.{no_bytes}
use Rattle.laws.proofs.lemma_bytes_view.Titles.{kept_by, SameHolds, owners_same, retitled_seen}

-- pages, fences and mapped pages stay
pub record Quiet (f : Buffer → Buffer) : Type 0 where
  pub place : (x : Buffer) (i : ℕ) → page_at (f x) i ≡ page_at x i
  pub kept : (x : Buffer) (i : ℕ) → kept_in (f x).mem (f x) i ≡ kept_in x.mem x i
  pub target : (x : Buffer) (i : ℕ) → target_at (f x) i ≡ target_at x i
  pub readers : (x : Buffer) → jobs_before_read (f x) ≡ jobs_before_read x
  pub writers : (x : Buffer) → jobs_before_write (f x) ≡ jobs_before_write x
  pub mapped : (x : Buffer) → mapped_in (f x).mem (f x) ≡ mapped_in x.mem x

maps_same : (f : Buffer → Buffer) → ((x : Buffer) → mapped_in (f x).mem (f x) ≡ mapped_in x.mem x) → (bs : List (Option Buffer)) (i : ℕ) →
    flat_map (λ (x : Buffer). mapped_in x.mem x) (filter_map (λ x. x) (slice_set bs i (option_map f (option_and_then (λ x. x) (slice_get bs i))))) ≡ flat_map (λ (x : Buffer). mapped_in x.mem x) (filter_map (λ x. x) bs)
maps_same f same [] i = refl
maps_same f same (None ∷ bs) zero = refl
maps_same f same (Some x ∷ bs) zero = ap (λ l. l ++ flat_map (λ (x : Buffer). mapped_in x.mem x) (filter_map (λ x. x) bs)) (same x)
maps_same f same (None ∷ bs) (suc i) = maps_same f same bs i
maps_same f same (Some x ∷ bs) (suc i) = ap (λ l. mapped_in x.mem x ++ l) (maps_same f same bs i)

abbrev aperture_by : List (ℕ × ℕ) → List (ℕ × ℕ) → pages.Aperture
aperture_by live left = λ page. option_map (λ e. e.1) (find (λ e. e.0 == page) (live ++ left))

pub aperture_same : (f : Buffer → Buffer) → ((x : Buffer) → mapped_in (f x).mem (f x) ≡ mapped_in x.mem x) → (c : Core) (b : BufId) → aperture (record c { buffers = changed f c.buffers b }) ≡ aperture c
aperture_same f same c b = ap (λ l. aperture_by l (flat_map (λ g. zip (pages_of g.tt) g.frames) c.ghosts)) (maps_same f same c.buffers b.0)

module _ (script : Script) (c : Core) (owed_probes : OwedProbes) (m : Memory) (stores : pages.PageBytes) (v : View) (s : Seen script c owed_probes m stores v) (g : Good no_bytes v)
    (f : Buffer → Buffer) (b : BufId) (q : Quiet f) (once : HeldOnce (bare (record c { buffers = changed f c.buffers b }))) where
  abbrev pub after : Core
  after = record c { buffers = changed f c.buffers b }

  same_holds : SameHolds (bare c) (bare after)
  same_holds = record {
    live = λ e k. ap seen (kept_by (λ x. page_at x k) f (λ x. q.place x k) c b e);
    kept = λ e k. kept_by (λ x. kept_in x.mem x k) f (λ x. q.kept x k) c b e;
    target = λ e k. kept_by (λ x. target_at x k) f (λ x. q.target x k) c b e;
    ghosts = refl;
  }

  pub quiet_good : Good no_bytes (retitled v.fences (owner_of (bare after)) v)
  quiet_good = untake_keeps no_bytes v g (owner_of (bare after)) (λ x. inl (owners_same (bare c) (bare after) once same_holds x ∙ sym (s.owner x)))

  pub quiet_seen : Seen script after owed_probes m stores (retitled v.fences (owner_of (bare after)) v)
  quiet_seen =
      retitled_seen script c owed_probes m stores v (changed f c.buffers b) c.ghosts v.fences s
      (record {
        prior = refl;
        strong = λ e j h.
            changing_kept c after (keep_all c.jobs) e j
            (λ i w. ap (list_any (same_job i)) (kept_by jobs_before_read f q.readers c b e) ∙ w)
            (s.strong e j h);
        shared = λ e j h.
            using_kept c after (keep_all c.jobs) e j
            (λ i w. ap (list_any (same_job i)) (kept_by jobs_before_write f q.writers c b e) ∙ w)
            (s.shared e j h);
        ghost = λ n j h. ghostly_kept c after (keep_all c.jobs) n j (λ i y w. w) (s.ghost n j h);
        mover = refl;
        place = λ e i. kept_by (λ x. page_at x i) f (λ x. q.place x i) c b e;
        spared = λ i p. inl (ap (λ (a : pages.Aperture). a p) (aperture_same f q.mapped c b));
      })

-- ---- the kinds

-- targets are no pages of a buffer, and map none
retargeted : (l : Mem) (x : Buffer) (t : Targets) (i : ℕ) → page_in l (record x { targets = t }) i ≡ page_in l x i
retargeted mem.Tt x t i = refl
retargeted mem.Vram x t i = refl
retargeted mem.System x t i = refl

retargeted_kept : (l : Mem) (x : Buffer) (t : Targets) (i : ℕ) → kept_in l (record x { targets = t }) i ≡ kept_in l x i
retargeted_kept mem.Tt x t i = refl
retargeted_kept mem.Vram x t i = refl
retargeted_kept mem.System x t i = refl

retargeted_mapped : (l : Mem) (x : Buffer) (t : Targets) → mapped_in l (record x { targets = t }) ≡ mapped_in l x
retargeted_mapped mem.Tt x t = refl
retargeted_mapped mem.Vram x t = refl
retargeted_mapped mem.System x t = refl

leaving : (l : Mem) (x : Buffer) (i : ℕ) → page_at (leaves_tt l x) i ≡ page_at x i
leaving mem.Tt x i = retargeted x.mem x (with_target mem.System (Some []) x.targets) i
leaving mem.Vram x i = refl
leaving mem.System x i = refl

leaving_kept : (l : Mem) (x : Buffer) (i : ℕ) → kept_in (leaves_tt l x).mem (leaves_tt l x) i ≡ kept_in x.mem x i
leaving_kept mem.Tt x i = retargeted_kept x.mem x (with_target mem.System (Some []) x.targets) i
leaving_kept mem.Vram x i = refl
leaving_kept mem.System x i = refl

leaving_target : (l : Mem) (x : Buffer) (i : ℕ) → target_at (leaves_tt l x) i ≡ target_at x i
leaving_target mem.Tt x i = refl
leaving_target mem.Vram x i = refl
leaving_target mem.System x i = refl

leaving_readers : (l : Mem) (x : Buffer) → jobs_before_read (leaves_tt l x) ≡ jobs_before_read x
leaving_readers mem.Tt x = refl
leaving_readers mem.Vram x = refl
leaving_readers mem.System x = refl

leaving_writers : (l : Mem) (x : Buffer) → jobs_before_write (leaves_tt l x) ≡ jobs_before_write x
leaving_writers mem.Tt x = refl
leaving_writers mem.Vram x = refl
leaving_writers mem.System x = refl

leaving_mapped : (l : Mem) (x : Buffer) → mapped_in (leaves_tt l x).mem (leaves_tt l x) ≡ mapped_in x.mem x
leaving_mapped mem.Tt x = retargeted_mapped x.mem x (with_target mem.System (Some []) x.targets)
leaving_mapped mem.Vram x = refl
leaving_mapped mem.System x = refl

-- a victim is caught
pub catch_is_quiet : Quiet (λ x. leaves_tt x.mem x)
catch_is_quiet = record {
  place = λ x i. leaving x.mem x i;
  kept = λ x i. leaving_kept x.mem x i;
  target = λ x i. leaving_target x.mem x i;
  readers = λ x. leaving_readers x.mem x;
  writers = λ x. leaving_writers x.mem x;
  mapped = λ x. leaving_mapped x.mem x;
}

-- a target in SYSTEM or TT, or none any more
pub target_is_quiet : (l : Mem) → (l ≡ mem.Vram → ⊥) → (o : Option (List Span)) → Quiet (with_spans l o)
target_is_quiet mem.System ne o = record {
  place = λ x i. retargeted x.mem x (with_target mem.System o x.targets) i;
  kept = λ x i. retargeted_kept x.mem x (with_target mem.System o x.targets) i;
  target = λ x i. refl;
  readers = λ x. refl;
  writers = λ x. refl;
  mapped = λ x. retargeted_mapped x.mem x (with_target mem.System o x.targets);
}
target_is_quiet mem.Tt ne o = record {
  place = λ x i. retargeted x.mem x (with_target mem.Tt o x.targets) i;
  kept = λ x i. retargeted_kept x.mem x (with_target mem.Tt o x.targets) i;
  target = λ x i. refl;
  readers = λ x. refl;
  writers = λ x. refl;
  mapped = λ x. retargeted_mapped x.mem x (with_target mem.Tt o x.targets);
}
target_is_quiet mem.Vram ne o = absurd (ne refl)

-- no job comes with a target outside VRAM
pub no_job_joins : (c : Core) (l : Mem) → (l ≡ mem.Vram → ⊥) → (spans : List Span) (x : Buffer) → with_kernel_fences (jobs_before_target c l) (with_spans l (Some spans) x) ≡ with_spans l (Some spans) x
no_job_joins c mem.System ne spans x = refl
no_job_joins c mem.Tt ne spans x = refl
no_job_joins c mem.Vram ne spans x = absurd (ne refl)
