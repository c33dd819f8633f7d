-- Bounds of the counters of a state.
use Rattle.std.specs.Prelude.{ℕ, ◌≤◌}
use Rattle.journal_model.specs.declared.state.State.{State}
use Rattle.laws.specs.law_state.GoodState.{last_number}

-- no counter is above n
pub record Below (n : ℕ) (s : State) : Type 0 where
  pub stamps : s.last_stamp ≤ n
  pub ghosts : s.last_ghost ≤ n
  pub jobs : (ctx : ℕ) → last_number s.last_jobs ctx ≤ n
