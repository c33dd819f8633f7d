-- What a buffer that is filled needs first, and the first ghost with a frame as the rooms tell it.
use Rattle.std.proofs.Common.{◌≡◌, ℕ, Bool, true, false, List, [], ◌∷◌, Option, Some, None, Ok, Err, length, refl, ◌∙◌, ap}
use Rattle.std.specs.Prelude.{◌&&◌, ◌||◌, find, is_some, nat_lt, option_map, if◌then◌else◌}
use Rattle.ttm_base.specs.declared.BufId.{BufId}
use Rattle.ttm_base.specs.declared.Need.TheVariants as need
use Rattle.journal_model.specs.declared.script.Script.{Script}
use Rattle.journal_model.specs.declared.state.State.{State}
use Rattle.journal_model.specs.declared.state.Job.{Job}
use Rattle.journal_model.specs.declared.state.Ghost as state
use Rattle.journal_model.specs.declared.entry.Kind.TheVariants as kind
use Rattle.journal_model.specs.declared.entry.Why.TheVariants as why
use Rattle.journal_model.specs.rules.State.{buffer}
use Rattle.journal_model.specs.rules.Dry.{ghost_with_frame, swap_victim}
use Rattle.journal_model.specs.rules.Holds.{free_frame, free_slot}
use Rattle.journal_model.specs.rules.PageSteps.{filled_by, page_to_fill, step_of_fill, step_without_victim}
use Rattle.journal_model.specs.rules.Places.{loc_of}
use Rattle.journal_model.specs.rules.Search.{Step}
use Rattle.room_representation.specs.declared.parts.Ghost.{Ghost}
use Rattle.room_representation.specs.Ghosts.{AreGhosts}
use Rattle.room_state.specs.turns.Acting.{made_unless}
use Rattle.room_state.specs.turns.Turns.{step_by}
use Rattle.swap_core.specs.Due.{ghost_before_frame}

-- ---- ghosts

abbrev kept_num : List Ghost → Option ℕ
kept_num rs = option_map (λ (r : Ghost). r.num) (find (λ (r : Ghost). nat_lt 0 (length r.frames)) rs)

abbrev state_num : List state.Ghost → Option ℕ
state_num gs = option_map (λ (g : state.Ghost). g.num) (find (λ (g : state.Ghost). nat_lt 0 (length g.frames)) gs)

first_same : (jobs : List Job) (last : List ℕ) (gs : List state.Ghost) (rs : List Ghost) → AreGhosts jobs last gs rs → kept_num rs ≡ state_num gs
first_same jobs last [] [] are = refl
first_same jobs last (g ∷ gs) (r ∷ rs) are =
    ap (λ (f : List ℕ). option_map (λ (r : Ghost). r.num) (if nat_lt 0 (length f) then Some r else find (λ (r : Ghost). nat_lt 0 (length r.frames)) rs)) are.0.frames
    ∙ by (first_same jobs last gs rs are.1) (nat_lt 0 (length g.frames))
  where
    by : kept_num rs ≡ state_num gs → (q : Bool) → option_map (λ (r : Ghost). r.num) (if q then Some r else find (λ (r : Ghost). nat_lt 0 (length r.frames)) rs)
        ≡ option_map (λ (g : state.Ghost). g.num) (if q then Some g else find (λ (g : state.Ghost). nat_lt 0 (length g.frames)) gs)
    by ih true = ap Some are.0.num
    by ih false = ih
first_same jobs last [] (r ∷ rs) are = absurd are
first_same jobs last (g ∷ gs) [] are = absurd are

-- from the number of the first ghost with a frame
abbrev pub told_step : BufId → Option ℕ → Step
told_step b (Some g) = Err (need.Ghost g)
told_step b None = Ok (kind.NoPages b)

pub without_victim : (s : State) (b : BufId) (rs : List Ghost) → AreGhosts s.core.jobs s.last_jobs s.core.ghosts rs → (o : Option ℕ) → o ≡ kept_num rs → told_step b o ≡ step_without_victim s b
without_victim s b rs are o e = ap (told_step b) (e ∙ first_same s.core.jobs s.last_jobs s.core.ghosts rs are) ∙ by (ghost_with_frame s)
  where
    by : (g : Option state.Ghost) → told_step b (option_map (λ (g : state.Ghost). g.num) g) ≡ elim g [ Some g ↦ Err (need.Ghost g.num) | None ↦ Ok (kind.NoPages b) ]
    by (Some g) = refl
    by None = refl

-- ---- what is needed first

pub fill_needs : (script : Script) (s : State) (b : BufId) → step_by (step_of_fill script s b) ≡ made_unless (ghost_before_frame script s)
fill_needs script s b = by (free_frame script s.core) (free_slot script s.core) (swap_victim s) (ghost_with_frame s)
  where
    by : (f k : Option ℕ) (v : Option BufId) (g : Option state.Ghost)
        → step_by (elim f [
          | Some frame ↦ Ok (filled_by b (page_to_fill (buffer s b)) frame (loc_of (buffer s b) (page_to_fill (buffer s b))))
          | None ↦ elim k [
            | None ↦ elim g [ Some g ↦ Err (need.Ghost g.num) | None ↦ Ok (kind.NoPages b) ]
            | Some slot ↦ elim v [ Some v ↦ Ok (kind.Catch v why.Swap) | None ↦ elim g [ Some g ↦ Err (need.Ghost g.num) | None ↦ Ok (kind.NoPages b) ] ]
          ]
        ])
        ≡ made_unless (if is_some f || (is_some k && is_some v) then None else option_map (λ (g : state.Ghost). need.Ghost g.num) g)
    by (Some f) k v g = refl
    by None None v None = refl
    by None None v (Some g) = refl
    by None (Some k) (Some v) g = refl
    by None (Some k) None None = refl
    by None (Some k) None (Some g) = refl
