-- A thread's next entry where its search has no choice, and where a victim is passed over or let go.
use Rattle.std.proofs.Common.{◌≡◌, ℕ, Bool, true, false, List, Option, Some, None, Ok, Err, refl, sym, ◌∙◌, ap}
use Rattle.std.specs.Prelude.{option_and_then, option_map}
use Rattle.ttm_base.specs.declared.Actor.TheVariants as actor
use Rattle.ttm_base.specs.declared.BufId.{BufId}
use Rattle.ttm_base.specs.declared.JobId.{JobId}
use Rattle.ttm_base.specs.declared.Need.TheVariants as need
use Rattle.ttm_base.specs.declared.Place.{Place}
use Rattle.journal_model.specs.declared.script.Script.{Script}
use Rattle.journal_model.specs.declared.state.Course.{Course}
use Rattle.journal_model.specs.declared.state.Ghost.{Ghost}
use Rattle.journal_model.specs.declared.state.State.{State}
use Rattle.journal_model.specs.declared.state.Stage.TheVariants as stage
use Rattle.journal_model.specs.declared.state.Task.TheVariants as task
use Rattle.journal_model.specs.declared.entry.CauseRow.{CauseRow}
use Rattle.journal_model.specs.declared.entry.DryWhy.TheVariants as dry
use Rattle.journal_model.specs.declared.entry.Kind.TheVariants as kind
use Rattle.journal_model.specs.declared.entry.Why.{Why}
use Rattle.journal_model.specs.declared.entry.Why.TheVariants as why
use Rattle.journal_model.specs.rules.State.{buffer, course}
use Rattle.journal_model.specs.rules.Dry.{causes, ghost_in, has_frame, is_long_enough, victim}
use Rattle.journal_model.specs.rules.Holds.{free_slot}
use Rattle.journal_model.specs.rules.Waits.{waited_for, jobs_before_write}
use Rattle.journal_model.specs.rules.PageSteps.{first_frame_page, step_of_empty, unless_waiting, why_caught}
use Rattle.journal_model.specs.rules.Search.{Step, step_of_crowded, why_of}
use Rattle.journal_model.specs.rules.Next.{next}
use Rattle.journal_model.specs.rules.Tasks.{stage_of, task_of}
use Rattle.journal_model.specs.rules.Legal.{World, shown_step}
use Rattle.room_state.specs.turns.Turns.{Kept, state_behind, world_behind}
use Rattle.room_state.specs.turns.Searching.{BufferSearch, finds_choice, buffer_search_of, place_at_work, victim_for, victim_of}
use Rattle.room_state.specs.turns.Turns.{entry_of}
use Rattle.room_state.proofs.turns.Threads.{command_at, entry_is, need_is, next_at}
use Rattle.room_state.proofs.turns.Finds.{crowded_next}
use Rattle.evict_core.specs.Tasks.{lets_go}

-- ---- searches

module _ (r : Kept) (t : ℕ) (h : BufferSearch) (at : buffer_search_of r.script (state_behind r) t ≡ Some h) (p : Place) (is : p ≡ place_at_work h.place_search) where
  abbrev s : State
  s = state_behind r

  abbrev long : Bool
  long = is_long_enough r.script h.b p

  abbrev found : Option BufId
  found = victim r.script s (course s t).skips p

  abbrev victim_by : Bool → Option BufId
  victim_by q = elim q [ true ↦ found | false ↦ None ]

  victim_at : victim_of r.script s t ≡ victim_by long
  victim_at = ap (option_and_then (victim_for r.script s t)) at ∙ ap (λ q. elim (is_long_enough r.script h.b q) [ true ↦ victim r.script s (course s t).skips q | false ↦ None ]) (sym is)

  -- nobody is evicted for a place that is too short
  pub no_victim : long ≡ false → None ≡ victim_of r.script s t
  no_victim e = sym (victim_at ∙ ap victim_by e)

  -- the victim of the place is the search's
  pub victim_is : long ≡ true → (o : Option BufId) → o ≡ found → o ≡ victim_of r.script s t
  victim_is e o f = f ∙ sym (victim_at ∙ ap victim_by e)

  module _ (none : finds_choice r.script s t ≡ false) where
    abbrev step_by_ghost : Option Ghost → Step
    step_by_ghost o = elim o [ Some g ↦ Err (need.Ghost g.num) | None ↦ Ok (kind.Dry h.b h.place_search.dry (dry.Of (causes r.script s p))) ]

    abbrev step_by_victim : Option BufId → Step
    step_by_victim o = elim o [ Some v ↦ Ok (kind.Catch v (why_of p.mem)) | None ↦ step_by_ghost (ghost_in r.script s p) ]

    abbrev step_by : Bool → Step
    step_by q = elim q [ false ↦ Ok (kind.Dry h.b h.place_search.dry dry.Short) | true ↦ step_by_victim found ]

    next_is : next r.script s (actor.Thread t) ≡ step_by long
    next_is = crowded_next r.script s t h at none ∙ ap (step_of_crowded r.script s (course s t) h.b h.place_search.dry) (sym is)

    -- the victim is caught
    pub entry_catches : (v : BufId) (w : Why) → Some v ≡ victim_of r.script s t → w ≡ why_of p.mem → entry_of r (actor.Thread t) ≡ Ok (record { who = actor.Thread t; kind = kind.Catch v w })
    entry_catches v w e why = entry_is r t (kind.Catch v w) refl (next_is ∙ by long found (sym victim_at ∙ sym e) ∙ ap (λ x. Ok (kind.Catch v x)) (sym why))
      where
        by : (q : Bool) (o : Option BufId) → elim q [ true ↦ o | false ↦ None ] ≡ Some v → ◌≡◌ {A = Step} (elim q [ false ↦ Ok (kind.Dry h.b h.place_search.dry dry.Short) | true ↦ step_by_victim o ]) (Ok (kind.Catch v (why_of p.mem)))
        by true o e = ap step_by_victim e
        by false o e = cc

    -- a place that is too short is dry
    pub entry_short : long ≡ false → entry_of r (actor.Thread t) ≡ Ok (record { who = actor.Thread t; kind = kind.Dry h.b h.place_search.dry dry.Short })
    entry_short e = entry_is r t (kind.Dry h.b h.place_search.dry dry.Short) refl (next_is ∙ ap step_by e)

    module _ (e : long ≡ true) (nobody : victim_of r.script s t ≡ None) where
      unfound : found ≡ None
      unfound = sym (ap victim_by e) ∙ sym victim_at ∙ nobody

      next_ghost : next r.script s (actor.Thread t) ≡ step_by_ghost (ghost_in r.script s p)
      next_ghost = next_is ∙ ap step_by e ∙ ap step_by_victim unfound

      -- a ghost is waited for
      pub entry_waits : (g : ℕ) → Some g ≡ option_map (λ (x : Ghost). x.num) (ghost_in r.script s p) → entry_of r (actor.Thread t) ≡ Err (need.Ghost g)
      entry_waits g f = need_is r t (need.Ghost g) (next_ghost ∙ by (ghost_in r.script s p) f)
        where
          by : (o : Option Ghost) → Some g ≡ option_map (λ (x : Ghost). x.num) o → step_by_ghost o ≡ Err (need.Ghost g)
          by None f = cc
          by (Some x) f = let same : g ≡ x.num = cc in ap (λ n. Err (need.Ghost n)) (sym same)

      -- without one the place is dry
      pub entry_dry : (rows : List CauseRow) → None ≡ option_map (λ (x : Ghost). x.num) (ghost_in r.script s p) → rows ≡ causes r.script s p →
          entry_of r (actor.Thread t) ≡ Ok (record { who = actor.Thread t; kind = kind.Dry h.b h.place_search.dry (dry.Of rows) })
      entry_dry rows f c = entry_is r t (kind.Dry h.b h.place_search.dry (dry.Of rows)) refl (next_ghost ∙ by (ghost_in r.script s p) f)
        where
          by : (o : Option Ghost) → None ≡ option_map (λ (x : Ghost). x.num) o → step_by_ghost o ≡ Ok (kind.Dry h.b h.place_search.dry (dry.Of rows))
          by None f = ap (λ x. Ok (kind.Dry h.b h.place_search.dry (dry.Of x))) (sym c)
          by (Some x) f = cc

-- ---- victims

-- one that is to be passed over
pub entry_skips : (r : Kept) (t : ℕ) (b : BufId) → task_of r.script (state_behind r) t ≡ task.Skip b → entry_of r (actor.Thread t) ≡ Ok (record { who = actor.Thread t; kind = kind.Skip b })
entry_skips r t b is =
    let work = command_at r.script (state_behind r) t stage.Fail (ap stage_of is) (λ e. cc) in
    entry_is r t (kind.Skip b) refl (next_at r.script (state_behind r) t work.0 (task.Skip b) work.1 is)

-- one that is let go, where it isn't swapped out first
module _ (script : Script) (w : World) (s : State) (c : Course) (t : ℕ) (b : BufId) where
  -- the step lets the victim go, or is no Loose
  abbrev IsLet : Step → Type 0
  IsLet step = lets_go (shown_step script w (actor.Thread t) step) ≡ true → step ≡ Ok (kind.Loose b)

  abbrev by_job : ℕ → Option JobId → Step
  by_job slot o = unless_waiting o (kind.SwapOut b (first_frame_page (buffer s b)) slot)

  abbrev by_slot : Option ℕ → Step
  by_slot o = elim o [ None ↦ Ok (kind.Loose b) | Some slot ↦ by_job slot (waited_for s.core (jobs_before_write (buffer s b))) ]

  abbrev by_frame : Bool → Step
  by_frame q = elim q [ false ↦ Ok (kind.Loose b) | true ↦ by_slot (free_slot script s.core) ]

  abbrev by_cause : Option Why → Step
  by_cause o = elim o [ Some w ↦ elim w [ why.Swap ↦ by_frame (has_frame (buffer s b)) | why.Tt ↦ Ok (kind.Loose b) | why.Vram ↦ Ok (kind.Loose b) ] | None ↦ Ok (kind.Loose b) ]

  let_job : (slot : ℕ) (o : Option JobId) → IsLet (by_job slot o)
  let_job slot None h = cc
  let_job slot (Some j) h = cc

  let_slot : (o : Option ℕ) → IsLet (by_slot o)
  let_slot None h = refl
  let_slot (Some slot) h = let_job slot (waited_for s.core (jobs_before_write (buffer s b))) h

  let_frame : (q : Bool) → IsLet (by_frame q)
  let_frame false h = refl
  let_frame true h = let_slot (free_slot script s.core) h

  let_cause : (o : Option Why) → IsLet (by_cause o)
  let_cause None h = refl
  let_cause (Some why.Swap) h = let_frame (has_frame (buffer s b)) h
  let_cause (Some why.Tt) h = refl
  let_cause (Some why.Vram) h = refl

  loosened : IsLet (step_of_empty script s c b)
  loosened h = let_cause (why_caught c b) h

pub entry_looses : (r : Kept) (t : ℕ) (b : BufId) → task_of r.script (state_behind r) t ≡ task.Empty b → lets_go (entry_of r (actor.Thread t)) ≡ true → entry_of r (actor.Thread t) ≡ Ok (record { who = actor.Thread t; kind = kind.Loose b })
entry_looses r t b is h =
    let work = command_at r.script (state_behind r) t stage.Empty (ap stage_of is) (λ e. cc) in
    let step = next_at r.script (state_behind r) t work.0 (task.Empty b) work.1 is in
    let goes = ap (λ x. lets_go (shown_step r.script (world_behind r) (actor.Thread t) x)) (sym step) ∙ h in
    entry_is r t (kind.Loose b) refl (step ∙ loosened r.script (world_behind r) (state_behind r) (course (state_behind r) t) t b goes)
