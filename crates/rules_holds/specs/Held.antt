-- What a declared buffer holds, none where it isn't live.
use Rattle.std.specs.Prelude.{ℕ, List, [], ◌++◌, Option, Some, None}
use Rattle.ttm_base.specs.declared.Mem.{Mem}
use Rattle.ttm_base.specs.declared.Span.{Span}
use Rattle.journal_model.specs.declared.state.Buffer.{Buffer}
use Rattle.journal_model.specs.rules.State.{target_spans}
use Rattle.journal_model.specs.rules.Places.{frames_of, slots_of}
use Rattle.journal_model.specs.rules.Holds.{spans_in}

-- the spans of a buffer in a memory type, and those of its target
abbrev pub spans_of_slot : Mem → Option Buffer → List Span
spans_of_slot mem None = []
spans_of_slot mem (Some x) = spans_in mem x ++ target_spans mem x

-- the frames of a buffer
abbrev pub frames_of_slot : Option Buffer → List ℕ
frames_of_slot None = []
frames_of_slot (Some x) = frames_of x

-- the swap slots of a buffer
abbrev pub slots_of_slot : Option Buffer → List ℕ
slots_of_slot None = []
slots_of_slot (Some x) = slots_of x
