-- Entries on a buffer that put no byte and emit no job: made, freed, with targets, caught, bound, unbound, emptied.
use Rattle.std.proofs.Common.{◌≡◌, ℕ, Bool, true, false, List, [], ◌∷◌, ◌++◌, Option, Some, None, refl, sym, ◌∙◌, ap, inl}
use Rattle.std.specs.Prelude.{slice_set, not, is_some, unwrap_or, ◌&&◌, ◌||◌, if◌then◌else◌}
use Rattle.std.proofs.lemmas.Bool.{true≢false}
use Rattle.ttm_base.specs.declared.Mem.{Mem}
use Rattle.ttm_base.specs.declared.Mem.TheVariants as mem
use Rattle.ttm_base.specs.declared.BufId.{BufId}
use Rattle.ttm_base.specs.declared.Span.{Span}
use Rattle.ttm_base.specs.declared.Place.{Place}
use Rattle.ttm_base.specs.Pages as pages
use Rattle.journal_model.specs.declared.script.Script.{Script}
use Rattle.journal_model.specs.declared.state.Core.{Core}
use Rattle.journal_model.specs.declared.state.Buffer.{Buffer}
use Rattle.journal_model.specs.rules.State.{live_in, changed, new_buffer, has_target, target_of, target_spans}
use Rattle.journal_model.specs.rules.Places.{aperture, mapped_in, page_at}
use Rattle.journal_model.specs.rules.Choice.{choice}
use Rattle.journal_model.specs.rules.Ready.{has_some_target}
use Rattle.journal_model.specs.rules.Waits.{waited_for, jobs_before_write, jobs_before_target}
use Rattle.journal_model.specs.rules.PlainMemory.{Memory, OwedProbes, with_zeros}
use Rattle.journal_model.specs.rules.ApplyCommands.{ghost_of_freed}
use Rattle.journal_model.specs.rules.ApplyPages.{with_kernel_fences, with_spans, without_frames, bound, unbound}
use Rattle.journal_model.specs.rules.ApplyVictims.{leaves_tt}
use Rattle.laws.proofs.law_state.Rules.{Rules}
use Rattle.laws.proofs.law_owners.Law.{AreHeldOnce}
use Rattle.laws.specs.lemma_bytes_model.Memory.{touched}
use Rattle.laws.specs.lemma_bytes_model.Entries.{retitled, taking, freed}
use Rattle.laws.specs.law_holders.Holding.{seen, kept_in, HeldOnce}
use Rattle.laws.proofs.law_holders.HeldOnce.{held_once}
use Rattle.laws.proofs.law_holders.Owner.{owner_of}
use Rattle.laws.proofs.lemma_bytes_view.World.{bare}
use Rattle.laws.proofs.lemma_bytes_view.PacketStep.{no_bytes}
use Rattle.laws.proofs.lemma_bytes_view.Apertures.{Spared}
use Rattle.laws.proofs.lemma_bytes_view.Quiet.{Quiet, aperture_same, quiet_good, quiet_seen, catch_is_quiet, target_is_quiet}
use Rattle.laws.proofs.lemma_bytes_view.Binds.{IsAt, spared_but, carried_good, carried_seen, bind_good, bind_seen, unbind_good, unbind_seen, stands_by_table, keeps_none}
use Rattle.laws.proofs.lemma_bytes_view.News.{new_good, new_seen}
use Rattle.laws.proofs.lemma_bytes_view.Takes.{is_mover, take_good, take_seen}
use Rattle.laws.proofs.lemma_bytes_view.Drops.{drop_good, drop_seen, emptied_kept, emptied_place, untaken_place, untaken_kept, untaken_target}
use Rattle.laws.proofs.lemma_bytes_view.Frees.{without, free_good, free_seen}
use Rattle.laws.proofs.lemma_bytes_view.Leaves.{leave_viewed}
use Rattle.laws.proofs.lemma_bytes_view.Viewed.{Viewed}
use Rattle.laws.proofs.lemma_bytes_view.Tables.{AllFrames}
use Rattle.laws.proofs.law_transparent.Idles.{choice_free}

-- ---- memory types and options told apart

some_is : (x y : Buffer) → Some x ≡ Some y → x ≡ y
some_is x y e = cc

system-not-vram : mem.System ≡ mem.Vram → ⊥
system-not-vram e = cc

system-not-tt : mem.System ≡ mem.Tt → ⊥
system-not-tt e = cc

tt-not-vram : mem.Tt ≡ mem.Vram → ⊥
tt-not-vram e = cc

vram-not-tt : mem.Vram ≡ mem.Tt → ⊥
vram-not-tt e = cc

last_none : (p q r : Bool) → (p || q || r) ≡ false → r ≡ false
last_none false false false h = refl
last_none false false true h = cc
last_none false true r h = cc
last_none true q r h = cc

module _ (script : Script) (c : Core) (owed_probes : OwedProbes) (m : Memory) (bytes : pages.PageBytes) (u : Viewed script c owed_probes m bytes) (held : AreHeldOnce script c) where
  before : HeldOnce (bare c)
  before = held_once script (bare c) held

  -- a change that bytes don't depend on
  quiet_viewed : (f : Buffer → Buffer) (b : BufId) → Quiet f → AreHeldOnce script (record c { buffers = changed f c.buffers b }) → Viewed script (record c { buffers = changed f c.buffers b }) owed_probes m bytes
  quiet_viewed f b q once = record {
    view = retitled u.view.fences (owner_of (bare (record c { buffers = changed f c.buffers b }))) u.view;
    good = quiet_good script c owed_probes m bytes u.view u.seen u.good f b q (held_once script (bare (record c { buffers = changed f c.buffers b })) once);
    seen = quiet_seen script c owed_probes m bytes u.view u.seen u.good f b q (held_once script (bare (record c { buffers = changed f c.buffers b })) once);
  }

  pub catch_viewed : (b : BufId) → AreHeldOnce script (record c { buffers = changed (λ x. leaves_tt x.mem x) c.buffers b }) → Viewed script (record c { buffers = changed (λ x. leaves_tt x.mem x) c.buffers b }) owed_probes m bytes
  catch_viewed b once = quiet_viewed (λ x. leaves_tt x.mem x) b catch_is_quiet once

  pub new_viewed : (b : BufId) (n : ℕ) → live_in c.buffers b ≡ None → AreHeldOnce script (record c { buffers = slice_set c.buffers b.0 (Some (new_buffer n)) }) →
      Viewed script (record c { buffers = slice_set c.buffers b.0 (Some (new_buffer n)) }) owed_probes (with_zeros b m) bytes
  new_viewed b n dead once = record {
    view = retitled u.view.fences (owner_of (bare (record c { buffers = slice_set c.buffers b.0 (Some (new_buffer n)) }))) u.view;
    good = new_good script c owed_probes m bytes u.view u.seen u.good b n dead once;
    seen = new_seen script c owed_probes m bytes u.view u.seen u.good b n dead once;
  }

  module _ (b : BufId) (x : Buffer) (is : IsAt c b x) where
    pub free_viewed : waited_for c (jobs_before_write x) ≡ None → AreHeldOnce script (record c { buffers = slice_set c.buffers b.0 None }) → Viewed script (record c { buffers = slice_set c.buffers b.0 None }) owed_probes (with_zeros b m) bytes
    free_viewed idle once = record {
      view = record (freed b.0 (owner_of (bare (record c { buffers = slice_set c.buffers b.0 None }))) 0 (λ j. false) no_bytes u.view) {
        fences = without b.0 (freed b.0 (owner_of (bare (record c { buffers = slice_set c.buffers b.0 None }))) 0 (λ j. false) no_bytes u.view).fences;
      };
      good = free_good script c owed_probes m bytes u.view u.seen u.good b x is idle before once;
      seen = free_seen script c owed_probes m bytes u.view u.seen u.good b x is idle before once;
    }

    -- a number that is drawn isn't 0
    pub left_viewed : (gn : ℕ) (q : Bool) → q ≡ false → (x.mem ≡ mem.Tt → AllFrames x.table) →
        AreHeldOnce script (record c { buffers = slice_set c.buffers b.0 None; ghosts = (if q then c.ghosts else c.ghosts ++ ghost_of_freed c x gn ∷ []) }) →
        Viewed script (record c { buffers = slice_set c.buffers b.0 None; ghosts = (if q then c.ghosts else c.ghosts ++ ghost_of_freed c x gn ∷ []) }) owed_probes (with_zeros b m) bytes
    left_viewed gn false e full once = leave_viewed script c owed_probes m bytes u b x is gn held once full
    left_viewed gn true e full once = absurd (true≢false e)

    -- ---- targets

    no_target : (l : Mem) → has_target l x ≡ false → target_spans l x ≡ []
    no_target l h = by (target_of l x.targets) h
      where
        by : (o : Option (List Span)) → is_some o ≡ false → unwrap_or o [] ≡ []
        by None g = refl
        by (Some ss) g = absurd (true≢false g)

    pub take_viewed : Rules script → (l : Mem) (place : Place) (spans : List Span) → place.mem ≡ l → choice script c b place ≡ Some spans → (l ≡ mem.Vram → has_some_target x ≡ false) →
        AreHeldOnce script (record c { buffers = changed (λ y. with_kernel_fences (jobs_before_target c l) (with_spans l (Some spans) y)) c.buffers b }) →
        Viewed script (record c { buffers = changed (λ y. with_kernel_fences (jobs_before_target c l) (with_spans l (Some spans) y)) c.buffers b }) owed_probes m bytes
    take_viewed r mem.System place spans e ch free once = quiet_viewed (with_spans mem.System (Some spans)) b (target_is_quiet mem.System system-not-vram (Some spans)) once
    take_viewed r mem.Tt place spans e ch free once = quiet_viewed (with_spans mem.Tt (Some spans)) b (target_is_quiet mem.Tt tt-not-vram (Some spans)) once
    take_viewed r mem.Vram place spans e ch free once =
        let none : target_spans mem.Vram x ≡ [] = no_target mem.Vram (last_none (has_target mem.System x) (has_target mem.Tt x) (has_target mem.Vram x) (free refl)) in
        let pages = choice_free script c held r b place spans e ch in
        record {
          view = retitled (taking b.0 (λ j. is_mover u.view.fences.mover j && not (u.view.done j)) u.view.fences)
              (owner_of (bare (record c { buffers = changed (λ y. with_kernel_fences (jobs_before_target c mem.Vram) (with_spans mem.Vram (Some spans) y)) c.buffers b }))) u.view;
          good = take_good script c owed_probes m bytes u.view u.seen u.good b x is spans none before once pages;
          seen = take_seen script c owed_probes m bytes u.view u.seen u.good b x is spans none before once pages;
        }

    -- nothing of a buffer outside TT is mapped
    spared_so : (f : Buffer → Buffer) → (x.mem ≡ mem.Tt → ⊥) → AreHeldOnce script (record c { buffers = changed f c.buffers b }) → (i p : ℕ) →
        Spared (aperture c) (aperture (record c { buffers = changed f c.buffers b })) (touched (u.view.left i)) p
    spared_so f ne once i p =
        spared_but script f c b x is once u.view u.good i
        (λ q h w e.
        let both : Some x ≡ Some w.buffer = sym is.live ∙ ap (λ n. live_in c.buffers (record { 0 = n })) e ∙ w.live in
        let one : x ≡ w.buffer = some_is x w.buffer both in
        absurd (ne (ap (λ (y : Buffer). y.mem) one ∙ w.mem)))
        p

    pub untake_viewed : (l : Mem) → AreHeldOnce script (record c { buffers = changed (with_spans l None) c.buffers b }) → Viewed script (record c { buffers = changed (with_spans l None) c.buffers b }) owed_probes m bytes
    untake_viewed mem.System once = quiet_viewed (with_spans mem.System None) b (target_is_quiet mem.System system-not-vram None) once
    untake_viewed mem.Tt once = quiet_viewed (with_spans mem.Tt None) b (target_is_quiet mem.Tt tt-not-vram None) once
    untake_viewed mem.Vram once =
        let spared : (i p : ℕ) → Spared (aperture c) (aperture (record c { buffers = changed (with_spans mem.Vram None) c.buffers b })) (touched (u.view.left i)) p =
        λ i p. inl (ap (λ (a : pages.Aperture). a p) (aperture_same (with_spans mem.Vram None) (λ y. mapped y.mem y) c b)) in
        record {
          view = retitled u.view.fences (owner_of (bare (record c { buffers = changed (with_spans mem.Vram None) c.buffers b }))) u.view;
          good = drop_good script c owed_probes m bytes u.view u.seen u.good (with_spans mem.Vram None) b x is before once (λ i. untaken_place x i) (λ k. untaken_kept x k) (λ k. untaken_target x k) refl spared;
          seen = drop_seen script c owed_probes m bytes u.view u.seen u.good (with_spans mem.Vram None) b x is before once (λ i. untaken_place x i) (λ k. untaken_kept x k) (λ k. untaken_target x k) refl spared;
        }
      where
        mapped : (l : Mem) (y : Buffer) → mapped_in l (with_spans mem.Vram None y) ≡ mapped_in l y
        mapped mem.Tt y = refl
        mapped mem.Vram y = refl
        mapped mem.System y = refl

    pub depopulate_viewed : x.mem ≡ mem.Vram → AreHeldOnce script (record c { buffers = changed without_frames c.buffers b }) → Viewed script (record c { buffers = changed without_frames c.buffers b }) owed_probes m bytes
    depopulate_viewed e once =
        let spared = spared_so without_frames (λ q. vram-not-tt (sym e ∙ q)) once in
        record {
          view = retitled u.view.fences (owner_of (bare (record c { buffers = changed without_frames c.buffers b }))) u.view;
          good = drop_good script c owed_probes m bytes u.view u.seen u.good without_frames b x is before once (λ i. emptied_place x i e) (λ k. emptied_kept x k e) (λ k. inl refl) refl spared;
          seen = drop_seen script c owed_probes m bytes u.view u.seen u.good without_frames b x is before once (λ i. emptied_place x i e) (λ k. emptied_kept x k e) (λ k. inl refl) refl spared;
        }

    -- ---- between SYSTEM and TT

    pub bind_viewed : x.mem ≡ mem.System → AreHeldOnce script (record c { buffers = changed bound c.buffers b }) → Viewed script (record c { buffers = changed bound c.buffers b }) owed_probes m bytes
    bind_viewed e once = record {
      view = retitled u.view.fences (owner_of (bare (record c { buffers = changed bound c.buffers b }))) u.view;
      good = bind_good script c owed_probes m bytes u.view u.seen u.good b x is e once;
      seen = bind_seen script c owed_probes m bytes u.view u.seen u.good b x is e once;
    }

    -- one that isn't in VRAM, once its jobs are done
    pub unbind_viewed : (x.mem ≡ mem.Vram → ⊥) → waited_for c (jobs_before_write x) ≡ None → AreHeldOnce script (record c { buffers = changed unbound c.buffers b }) → Viewed script (record c { buffers = changed unbound c.buffers b }) owed_probes m bytes
    unbind_viewed ne idle once = by x.mem refl
      where
        in_system : x.mem ≡ mem.System → Viewed script (record c { buffers = changed unbound c.buffers b }) owed_probes m bytes
        in_system e =
            let place : (i : ℕ) → page_at (unbound x) i ≡ page_at x i = λ i. sym (stands_by_table x i ne) in
            let kept : (k : ℕ) → kept_in (unbound x).mem (unbound x) k ≡ kept_in x.mem x k = λ k. sym (keeps_none x k ne) in
            let spared = spared_so unbound (λ q. system-not-tt (sym e ∙ q)) once in
            record {
              view = retitled u.view.fences (owner_of (bare (record c { buffers = changed unbound c.buffers b }))) u.view;
              good = carried_good script c owed_probes m bytes u.view u.seen u.good unbound b x is once (λ k. ap seen (place k)) kept (λ k. refl) place refl spared;
              seen = carried_seen script c owed_probes m bytes u.view u.seen u.good unbound b x is once (λ k. ap seen (place k)) kept (λ k. refl) place refl spared;
            }

        by : (l : Mem) → x.mem ≡ l → Viewed script (record c { buffers = changed unbound c.buffers b }) owed_probes m bytes
        by mem.System e = in_system e
        by mem.Vram e = absurd (ne e)
        by mem.Tt e = record {
          view = retitled u.view.fences (owner_of (bare (record c { buffers = changed unbound c.buffers b }))) u.view;
          good = unbind_good script c owed_probes m bytes u.view u.seen u.good b x is e idle once before;
          seen = unbind_seen script c owed_probes m bytes u.view u.seen u.good b x is e idle once before;
        }
