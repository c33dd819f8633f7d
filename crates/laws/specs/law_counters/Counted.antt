-- Bounds of the counters of a state that don't depend on the journal.
use Rattle.std.specs.Prelude.{ℕ, ◌<◌, ◌^◌}
use Rattle.journal_model.specs.declared.state.State.{State}
use Rattle.laws.specs.law_state.GoodState.{last_number}

-- each counter has a next number that fits
pub record AreCounted (s : State) : Type 0 where
  pub stamps : s.last_stamp < 2 ^ 63
  pub ghosts : s.last_ghost < 2 ^ 63
  pub jobs : (ctx : ℕ) → last_number s.last_jobs ctx < 2 ^ 63
