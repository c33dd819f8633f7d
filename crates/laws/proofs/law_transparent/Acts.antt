-- What commands do and show: jobs that are armed, writes and reads.
use Rattle.std.proofs.Common.{◌≡◌, ℕ, ◌+◌, ◌*◌, ◌<◌, ◌≤◌, Bool, true, false, List, length, Some, None, refl, sym, subst, ◌∙◌, ap, arith, inl}
use Rattle.std.specs.Prelude.{slice_get, not, nat_le, slice_index, unwrap_or, ◌&&◌, ◌||◌, ◌==◌}
use Rattle.std.specs.List.{list_all}
use Rattle.std.proofs.lemmas.Bool.{and_parts, leb-true}
use Rattle.std.proofs.lemmas.Bool.Decides.{nat_tests}
use Rattle.ttm_base.specs.declared.Mem.{Mem}
use Rattle.ttm_base.specs.declared.Mem.TheVariants as mem
use Rattle.ttm_base.specs.declared.BufId.{BufId}
use Rattle.ttm_base.specs.declared.Op.{Op}
use Rattle.ttm_base.specs.declared.Loc.TheVariants as loc
use Rattle.ttm_base.specs.Pages as pages
use Rattle.ttm_base.specs.Reach.{same_mem}
use Rattle.journal_model.specs.declared.script.Script.{Script}
use Rattle.journal_model.specs.declared.script.Command.{Command}
use Rattle.journal_model.specs.declared.script.Command.TheVariants as command
use Rattle.journal_model.specs.declared.state.State.{State}
use Rattle.journal_model.specs.declared.state.Core.{Core}
use Rattle.journal_model.specs.declared.state.Job.{Job}
use Rattle.journal_model.specs.rules.State.{buffer, buffer_in, live_in, has_buffer}
use Rattle.journal_model.specs.rules.Commands.{decl, named}
use Rattle.journal_model.specs.scripts.CommandRules.{is_op, is_command, is_declared, is_between, is_byte}
use Rattle.journal_model.specs.rules.Places.{aperture, pages_of, page_in, page_in_vram, page_in_table, packet_place, name_in, frame_of}
use Rattle.journal_model.specs.rules.Ready.{has_all_frames, is_filled, is_in_place, is_ready, uses_bytes}
use Rattle.journal_model.specs.rules.Waits.{same_job, waited_for, jobs_before_write}
use Rattle.journal_model.specs.rules.PageSteps.{next_job}
use Rattle.journal_model.specs.rules.Stores.{within, put_bytes}
use Rattle.journal_model.specs.rules.PlainMemory.{Memory, OwedProbes, after_ops, pieces_shown, with_owed_probes, with_range}
use Rattle.journal_model.specs.rules.ApplyJobs.{core_after_arm}
use Rattle.laws.specs.law_state.GoodState.{GoodState, HasPages, last_number}
use Rattle.laws.proofs.law_owners.Law.{AreHeldOnce}
use Rattle.laws.specs.lemma_bytes_model.Memory.{Nowhere, Vram, Frame, Slot}
use Rattle.laws.specs.law_holders.Holding.{seen, live_at}
use Rattle.laws.proofs.law_holders.Mapped.{maps_aperture}
use Rattle.laws.proofs.lemma_bytes_view.Viewed.{Viewed}
use Rattle.laws.proofs.lemma_bytes_view.Tables.{get_at, full_is}
use Rattle.laws.proofs.lemma_bytes_arm.Arms.{Reached, arm_viewed}
use Rattle.laws.proofs.lemma_bytes_arm.Writes.{write_viewed}
use Rattle.laws.proofs.lemma_bytes_told.Shapes.{Shapely, HaveShapes}

-- ---- pages of a ready buffer

module _ (script : Script) (c : Core) (held : AreHeldOnce script c) (b : BufId) (there : live_in c.buffers b ≡ Some (buffer_in c b)) (sh : Shapely (buffer_in c b)) (filled : (buffer_in c b).mem ≡ mem.System → has_all_frames (buffer_in c b) ≡ true) where
  in_table : (i f : ℕ) → (l : Mem) → (buffer_in c b).mem ≡ l → (l ≡ mem.Vram → ⊥) → slice_get (buffer_in c b).table i ≡ Some (loc.Frame f) → live_at (buffer_in c b) i ≡ Frame f
  in_table i f mem.System e ne at = ap (λ k. seen (page_in k (buffer_in c b) i)) e ∙ ap (λ o. seen (page_in_table (unwrap_or o loc.Zero))) at
  in_table i f mem.Tt e ne at = ap (λ k. seen (page_in k (buffer_in c b) i)) e ∙ ap (λ o. seen (page_in_table (unwrap_or o loc.Zero))) at
  in_table i f mem.Vram e ne at = absurd (ne refl)

  pub reached : (i : ℕ) → i < length (buffer_in c b).table → Reached c b.0 i
  reached i l = by (buffer_in c b).mem refl
    where
      of_frame : (f : ℕ) → live_at (buffer_in c b) i ≡ Frame f → seen (pages.translated (aperture c) (packet_place (buffer_in c b) i)) ≡ Frame f → Reached c b.0 i
      of_frame f e n = record {
        somewhere = λ q. let z : Frame f ≡ Nowhere = sym e ∙ q in cc;
        unswapped = λ k q. let z : Frame f ≡ Slot k = sym e ∙ q in cc;
        names = n ∙ sym e;
      }

      by : (k : Mem) → (buffer_in c b).mem ≡ k → Reached c b.0 i
      by mem.System e =
          let r = full_is (buffer_in c b).table (filled e) i l in
          of_frame r.0 (in_table i r.0 mem.System e (λ z. cc) r.1)
          (ap (λ k. seen (pages.translated (aperture c) (name_in k (buffer_in c b) i))) e ∙ ap (λ o. Frame (unwrap_or (frame_of (unwrap_or o loc.Zero)) 0)) r.1)
      by mem.Tt e =
          let r = sh.full e i l in
          let long = sh.long (λ z. let w : mem.Tt ≡ mem.System = sym e ∙ z in cc) in
          let p = get_at (pages_of (buffer_in c b).spans) i (omega (arith, l, long)) in
          let mapped : aperture c p.0 ≡ Some r.0 = maps_aperture script c held p.0 r.0 (inl (record { b = b; buffer = buffer_in c b; live = there; mem = e; at = i; here = p.1; there = r.1 })) in
          of_frame r.0 (in_table i r.0 mem.Tt e (λ z. cc) r.1)
          (ap (λ k. seen (pages.translated (aperture c) (name_in k (buffer_in c b) i))) e
          ∙ ap (λ o. seen (pages.mapped_page (aperture c (unwrap_or o 0)))) p.1
          ∙ ap (λ o. seen (pages.mapped_page o)) mapped)
      by mem.Vram e =
          let long = sh.long (λ z. let w : mem.Vram ≡ mem.System = sym e ∙ z in cc) in
          let p = get_at (pages_of (buffer_in c b).spans) i (omega (arith, l, long)) in
          let at : live_at (buffer_in c b) i ≡ Vram p.0 = ap (λ k. seen (page_in k (buffer_in c b) i)) e ∙ ap (λ o. seen (page_in_vram o)) p.1 in
          record {
            somewhere = λ q. let z : Vram p.0 ≡ Nowhere = sym at ∙ q in cc;
            unswapped = λ k q. let z : Vram p.0 ≡ Slot k = sym at ∙ q in cc;
            names = ap (λ k. seen (pages.translated (aperture c) (name_in k (buffer_in c b) i))) e ∙ ap (λ o. Vram (unwrap_or o 0)) p.1 ∙ sym at;
          }

-- a ready buffer in SYSTEM has all frames, where the command uses bytes
pub ready_filled : (script : Script) (s : State) (cmd : Command) (b : BufId) → uses_bytes cmd ≡ true → is_ready script s cmd b ≡ true → (buffer s b).mem ≡ mem.System → has_all_frames (buffer s b) ≡ true
ready_filled script s cmd b u h e =
    let f = (and_parts (is_in_place script cmd b (buffer s b)) (is_filled cmd (buffer s b)) h).1 in
    last (uses_bytes cmd) (same_mem (buffer s b).mem mem.System) (has_all_frames (buffer s b)) u (ap (λ l. same_mem l mem.System) e) f
  where
    last : (p q r : Bool) → p ≡ true → q ≡ true → (not p || not q || r) ≡ true → r ≡ true
    last true true r a b h = h
    last true false r a b h = cc
    last false q r a b h = cc

-- ---- commands of a script

ops_of_command : (script : Script) (engine : ℕ) (ops : List Op) → is_command script (command.Submit engine ops) ≡ true → (1 ≤ engine) × (list_all (is_op script) ops ≡ true)
ops_of_command script engine ops h = parts (is_between 1 script.sizes.engines engine) (is_between 1 64 (length ops)) (list_all (is_op script) ops) (nat_le (length (named (command.Submit engine ops))) 16) h refl
  where
    low : (engine high : ℕ) → (nat_le 1 engine && nat_le engine high) ≡ true → 1 ≤ engine
    low engine high h = leb-true 1 engine (and_parts (nat_le 1 engine) (nat_le engine high) h).0

    parts : (p q r t : Bool) → (p && q && r && t) ≡ true → is_between 1 script.sizes.engines engine ≡ p → (1 ≤ engine) × (r ≡ true)
    parts true true true t h e = (low engine script.sizes.engines e, refl)
    parts true true false t h e = cc
    parts true false r t h e = cc
    parts false q r t h e = cc

range_of_write : (script : Script) (b : BufId) (off : ℕ) (bytes : List ℕ) → is_command script (command.Write b off bytes) ≡ true → off + length bytes ≤ 4096 * (decl script b).pages
range_of_write script b off bytes h =
    leb-true (off + length bytes) (4096 * (decl script b).pages)
    (last (is_declared script b) (nat_le off 16777216) (is_between 1 16777216 (length bytes)) (nat_le (off + length bytes) (4096 * (decl script b).pages)) (nat_le (length bytes) 256) (list_all is_byte bytes) h)
  where
    last : (p q r t y z : Bool) → ((p && q && r && t) && y && z) ≡ true → t ≡ true
    last true true true true y z h = refl
    last true true true false y z h = cc
    last true true false t y z h = cc
    last true false r t y z h = cc
    last false q r t y z h = cc

-- ---- a job

module _ (script : Script) (s : State) (owed_probes : OwedProbes) (m : Memory) (bytes : pages.PageBytes) (u : Viewed script s.core owed_probes m bytes) (held : AreHeldOnce script s.core) (good : GoodState script s) (shapes : HaveShapes s.core.buffers) where
  pages_of_table : (b : BufId) → live_in s.core.buffers b ≡ Some (buffer s b) → length (buffer s b).table ≡ (decl script b).pages
  pages_of_table b e = let t : HasPages script b (Some (buffer s b)) = subst (HasPages script b) e (good.tables b) in t

  reached_by : (cmd : Command) → uses_bytes cmd ≡ true → (b : BufId) → live_in s.core.buffers b ≡ Some (buffer s b) → is_ready script s cmd b ≡ true → (i : ℕ) → i < (decl script b).pages → Reached s.core b.0 i
  reached_by cmd uses b there ready i l =
      let e = pages_of_table b there in
      reached script s.core held b there (shapes b (buffer s b) there) (ready_filled script s cmd b uses ready) i (omega (arith, l, e))

  pub job_viewed : (engine : ℕ) (ops : List Op) → is_command script (command.Submit engine ops) ≡ true →
      ((b : BufId) → has_buffer (named (command.Submit engine ops)) b ≡ true → live_in s.core.buffers b ≡ Some (buffer s b)) →
      ((b : BufId) → has_buffer (named (command.Submit engine ops)) b ≡ true → is_ready script s (command.Submit engine ops) b ≡ true) →
      AreHeldOnce script (core_after_arm s.core (record { ctx = engine; num = next_job s engine }) ops (named (command.Submit engine ops))) →
      Viewed script (core_after_arm s.core (record { ctx = engine; num = next_job s engine }) ops (named (command.Submit engine ops))) (with_owed_probes (record { ctx = engine; num = next_job s engine }) (pieces_shown m ops) owed_probes) (after_ops m ops) bytes
  job_viewed engine ops fits live ready once =
      arm_viewed script s.core owed_probes m bytes u engine (next_job s engine) ops (ops_of_command script engine ops fits).1 held once
      (λ b h. record { buffer = buffer s b; live = live b h })
      (λ b h i l. reached_by (command.Submit engine ops) refl b (live b h) (ready b h) i l)
      fresh
    where
      apart : (e f n k last : ℕ) → (f ≡ e → k ≤ last) → n ≡ last + 1 → ((e == f) && (n == k)) ≡ false
      apart e f n k last h q = grind (arith, nat_tests)

      fresh : (i : ℕ) (x : Job) → slice_get s.core.jobs i ≡ Some x → same_job (record { ctx = engine; num = next_job s engine }) x.id ≡ false
      fresh i x e = apart engine x.id.ctx (next_job s engine) x.id.num (last_number s.last_jobs engine) (λ q. subst (λ n. x.id.num ≤ last_number s.last_jobs n) q (good.jobs.numbers i x e)) refl

  -- ---- a write

  pub written_viewed : (b : BufId) (off : ℕ) (values : List ℕ) → is_command script (command.Write b off values) ≡ true → live_in s.core.buffers b ≡ Some (buffer s b) → is_ready script s (command.Write b off values) b ≡ true →
      waited_for s.core (jobs_before_write (buffer s b)) ≡ None → Viewed script s.core owed_probes (with_range b off (length values) (slice_index values) m) (within script.sizes (put_bytes (buffer s b) off values bytes))
  written_viewed b off values fits there ready idle =
      write_viewed script s.core owed_probes m bytes u b (decl script b).pages held (λ i l. reached_by (command.Write b off values) refl b there ready i l) off values (range_of_write script b off values fits) idle

-- no job of a command is one of the move engine
pub engine_is_other : (script : Script) (engine : ℕ) (ops : List Op) (n k : ℕ) → is_command script (command.Submit engine ops) ≡ true → same_job (record { ctx = engine; num = n }) (record { ctx = 0; num = k }) ≡ false
engine_is_other script engine ops n k h = apart engine n k (ops_of_command script engine ops h).0
  where
    apart : (e n k : ℕ) → 1 ≤ e → ((e == 0) && (n == k)) ≡ false
    apart e n k l = grind (arith, nat_tests)
