-- What a live buffer that the table lends has, and the ghost that it leaves.
use Rattle.std.proofs.Common.{◌≡◌, ℕ, List, [], ◌∷◌, Some, length, refl, sym, ◌∙◌, ap, ap₂}
use Rattle.std.specs.Prelude.{filter_map, replicate, unwrap_or}
use Rattle.ttm_base.specs.declared.BufId.{BufId}
use Rattle.ttm_base.specs.declared.Mem.{Mem}
use Rattle.ttm_base.specs.declared.Mem.TheVariants.{Tt, Vram}
use Rattle.ttm_base.specs.declared.Span.{Span}
use Rattle.ttm_base.specs.declared.Usage.TheVariants.{Read}
use Rattle.fence_core.specs.Fences.{nothing_kept, all_added}
use Rattle.resource_core.specs.Resources.{some_spans}
use Rattle.bo_table.specs.declared.bo.Bo.{Bo}
use Rattle.bo_table.specs.Seen.{IsBo}
use Rattle.journal_model.specs.declared.script.Script.{Script}
use Rattle.journal_model.specs.declared.state.Buffer.{Buffer}
use Rattle.journal_model.specs.declared.entry.Entry.{Entry}
use Rattle.journal_model.specs.rules.ApplyCommands.{ghost_of_freed}
use Rattle.journal_model.specs.rules.Holds.{spans_in}
use Rattle.journal_model.specs.rules.Legal.{state_of}
use Rattle.journal_model.specs.rules.Places.{frame_of}
use Rattle.journal_model.specs.rules.State.{buffer}
use Rattle.laws.specs.lemma_bytes_told.Told.{IsThere}
use Rattle.room_representation.proofs.lemma_jobs.Needs.{set_is}
use Rattle.room_representation.proofs.lemma_jobs.Sets.{set_length}
use Rattle.room_representation.proofs.lemma_jobs.BufferSets.{empty_set, freed_ghost}
use Rattle.room_representation.specs.declared.parts.Parts.{Parts}
use Rattle.room_representation.specs.Fences.{fences_of, set_at}
use Rattle.room_representation.specs.Ghosts.{IsGhost}
use Rattle.room_representation.specs.Held.{AreHeld}
use Rattle.room_representation.proofs.steps.Lent.{lent_is, lent_table, stands_at}
use Rattle.room_pages.specs.ghosts.Leaving.{all_jobs, ghost_of, spans_if}

-- spans that a manager keeps where there are some
pub kept_spans : (spans : List Span) → unwrap_or (some_spans spans) [] ≡ spans
kept_spans [] = refl
kept_spans (s ∷ spans) = refl

module _ (script : Script) (journal : List Entry) (p : Parts) (held : AreHeld script journal p) (b : BufId) (live : IsThere (state_of script journal) b) (bo : Bo) (lent : IsBo p.bos b bo) where
  abbrev x : Buffer
  x = buffer (state_of script journal) b

  -- its spans in a memory type
  pub lent_spans : (mine : Mem) → spans_if bo.mem mine bo.spans ≡ spans_in mine x
  lent_spans mine = ap (λ (y : Buffer). spans_if y.mem mine y.spans) (lent_is script journal p held b live bo lent)

  -- its jobs are those of its place in the table
  set_now : bo.resv.fences ≡ set_at p.bos.fences b
  set_now = ap (λ o. unwrap_or o []) (sym lent.fences)

  -- its set has all contexts
  contexts : length bo.resv.fences ≡ length (state_of script journal).last_jobs
  contexts =
      ap length (set_now ∙ set_is (state_of script journal).last_jobs (state_of script journal).core.buffers p.bos.fences held.represents.bos.fences_are b (Some x) (stands_at (state_of script journal).core.buffers b x live))
      ∙ set_length (length (state_of script journal).last_jobs) (fences_of (Some x))

  -- the ghost's set has them all
  jobs_now : all_jobs bo.resv.fences ≡ all_added Read (empty_set (state_of script journal)) (set_at p.bos.fences b)
  jobs_now = ap₂ (λ n set. all_added Read (replicate n nothing_kept) set) contexts set_now

  -- its ghost is the state's
  pub lent_ghost : (g : ℕ) → IsGhost (state_of script journal).core.jobs (state_of script journal).last_jobs (ghost_of_freed (state_of script journal).core x g) (ghost_of bo g)
  lent_ghost g =
      freed_ghost (state_of script journal) p.bos.fences held.represents.bos.fences_are b x live g (ghost_of bo g) refl (lent_spans Vram) (lent_spans Tt) (ap (filter_map frame_of) (lent_table script journal p held b live bo lent)) jobs_now
