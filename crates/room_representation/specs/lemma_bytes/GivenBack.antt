-- A pool, or the slots of a swap store, after numbers were taken or given back.
use Rattle.std.specs.Prelude.{ℕ, Bool, true, false, List, [], fold, slice_set}
use Rattle.ttm_base.specs.declared.Mem.{Mem}
use Rattle.ttm_base.specs.declared.Mem.TheVariants.{System, Tt, Vram}
use Rattle.journal_model.specs.declared.state.Buffer.{Buffer}
use Rattle.journal_model.specs.rules.Places.{slots_of}

-- the pool, with the number held
abbrev pub taken : List Bool → ℕ → List Bool
taken pool k = slice_set pool k true

-- the pool, with the number free
abbrev pub given : List Bool → ℕ → List Bool
given pool k = slice_set pool k false

-- the pool, with the numbers free, given back in order
abbrev pub given_back : List Bool → List ℕ → List Bool
given_back pool ks = fold given pool ks

-- the slots that a moved buffer leaves: out of TT its table is emptied
abbrev pub slots_left : Mem → Buffer → List ℕ
slots_left Tt x = slots_of x
slots_left Vram x = []
slots_left System x = []
