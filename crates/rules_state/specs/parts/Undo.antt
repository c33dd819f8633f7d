-- What takes back an addition at the end, where a later one finds no memory.
use Rattle.std.specs.Prelude.{◌-◌, List, length, take}
use Rattle.journal_model.specs.declared.state.Buffer.{Buffer}

-- a list without its last element
abbrev pub without_last : {X : Type 0} → List X → List X
without_last xs = take (length xs - 1) xs

-- a buffer without its last fence
abbrev pub without_last_fence : Buffer → Buffer
without_last_fence x = record x { fences = without_last x.fences }
