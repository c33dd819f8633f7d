-- Swap slots: which of them are held, and the bytes of all of them.
use Rattle.std.specs.Prelude.{ℕ, Bool, List}

-- for each slot whether it is held, and the bytes of all slots, one page after the other
pub record SwapSlots : Type 0 where
  pub held : List Bool
  pub bytes : List ℕ
