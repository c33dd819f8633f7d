-- What there is, after a legal journal: contexts, declared buffers, and numbers that fit.
use Rattle.std.proofs.Common.{◌≡◌, ℕ, zero, suc, ◌+◌, ◌<◌, ◌≤◌, ◌^◌, List, [], ◌∷◌, Some, None, length, refl, sym, ◌∙◌, ap, arith}
use Rattle.std.specs.Prelude.{slice_get}
use Rattle.ttm_base.specs.declared.BufId.{BufId}
use Rattle.fence_core.specs.Timelines.{progress_of}
use Rattle.journal_model.specs.declared.script.Script.{Script}
use Rattle.journal_model.specs.declared.entry.Entry.{Entry}
use Rattle.journal_model.specs.rules.PageSteps.{next_job}
use Rattle.journal_model.specs.rules.Legal.{state_of}
use Rattle.laws.proofs.law_state.GoodStates.{good_law}
use Rattle.laws.proofs.law_counters.Law.{counters_law}
use Rattle.laws.proofs.law_sound.Along.{sound_law}
use Rattle.room_representation.specs.declared.parts.Parts.{Parts}
use Rattle.room_representation.specs.Held.{AreHeld}
use Rattle.room_representation.specs.Lines.{AreInLine}
use Rattle.room_representation.proofs.lemma_jobs.LegalJobs.{in_line}

-- a number below a list's length has something
pub get_below : {X : Type 0} (xs : List X) (i : ℕ) → i < length xs → (x : X) × (slice_get xs i ≡ Some x)
get_below [] i h = absurd (omega (arith, h))
get_below (x ∷ xs) zero h = (x, refl)
get_below (x ∷ xs) (suc i) h = get_below xs i (omega (arith, h))

-- a number after a list has nothing
pub past_end : {X : Type 0} (xs : List X) (i : ℕ) → length xs ≤ i → slice_get xs i ≡ None
past_end [] i h = refl
past_end (x ∷ xs) zero h = absurd (omega (arith, h))
past_end (x ∷ xs) (suc i) h = past_end xs i (omega (arith, h))

module _ (script : Script) (journal : List Entry) (p : Parts) (held : AreHeld script journal p) where
  -- the jobs of each context are in line
  pub rows : AreInLine (state_of script journal).last_jobs (state_of script journal).core.jobs
  rows = in_line script journal held.fits held.legal

  -- a context of the script is one of the state
  pub context_known : (ctx : ℕ) → ctx ≤ script.sizes.engines → ctx < length (state_of script journal).last_jobs
  context_known ctx h = let rooms = (good_law script held.fits journal held.legal).jobs.rooms in omega (arith, h, rooms)

  -- of the timeline
  pub line_context : (ctx : ℕ) → ctx ≤ script.sizes.engines → ctx < length p.timeline
  line_context ctx h = let k = context_known ctx h in let same = held.represents.timeline.contexts in omega (arith, k, same)

  -- and of the rings
  pub ring_context : (ctx : ℕ) → ctx ≤ script.sizes.engines → ctx < length p.rings
  ring_context ctx h = let k = context_known ctx h in let same = held.represents.rings.contexts in omega (arith, k, same)

  -- timeline and rings have the same contexts
  pub line_rings : length p.timeline ≡ length p.rings
  line_rings = held.represents.timeline.contexts ∙ sym held.represents.rings.contexts

  -- the next job of a context
  pub job_next : (ctx n : ℕ) → ctx ≤ script.sizes.engines → n ≡ (progress_of p.timeline ctx).emitted + 1 → n ≡ next_job (state_of script journal) ctx
  job_next ctx n h e = e ∙ ap (λ q. q.emitted + 1) (held.represents.timeline.each ctx (context_known ctx h))

  -- there is a next number for a ghost
  pub few_ghosts : p.last_ghost + 1 < 2 ^ 64
  few_ghosts = let few = (counters_law script journal held.fits held.legal).ghosts in let same = held.represents.ghost in omega (arith, few, same)

  -- a declared buffer has its place among the buffers of the state
  pub declared_known : (b : BufId) → b.0 < length script.buffers → b.0 < length (state_of script journal).core.buffers
  declared_known b h = let many = (good_law script held.fits journal held.legal).many in omega (arith, h, many)

  -- and can be lent
  pub declared_lent : (b : BufId) → b.0 < length script.buffers → b.0 < length p.bos.reservations
  declared_lent b h =
      let few = declared_known b h in
      let reservations = (sound_law script journal held.fits held.legal).owned.reservations in
      let same = ap length held.represents.bos.reservations_are in
      omega (arith, few, reservations, same)
