-- The amounts that buffers and ghosts hold of what is counted.
use Rattle.std.specs.Prelude.{ℕ, List, Option, Some, None, length, min}
use Rattle.ttm_base.specs.declared.Mem.{Mem}
use Rattle.ttm_base.specs.declared.Mem.TheVariants.{System, Tt, Vram}
use Rattle.ttm_base.specs.declared.Span.{Span}
use Rattle.journal_model.specs.declared.state.Buffer.{Buffer}
use Rattle.journal_model.specs.declared.state.Ghost.{Ghost}
use Rattle.journal_model.specs.rules.State.{target_spans}
use Rattle.journal_model.specs.rules.Places.{frames_of, slots_of}
use Rattle.journal_model.specs.rules.Holds.{spans_in}
use Rattle.journal_model.specs.statements.Account.{count_spans}
use Rattle.page_accounts.specs.declared.accounts.Accounts.{Accounts}
use Rattle.page_accounts.specs.Counting.{most}

-- what is counted: pages in a memory type, pages of targets there, frames, or slots
pub data Holding : Type 0 where
  Pages : Mem → Holding
  Targets : Mem → Holding
  Frames : Holding
  Slots : Holding

-- the amount that a buffer holds
abbrev pub amount : Holding → Buffer → ℕ
amount (Pages mem) x = count_spans (spans_in mem x)
amount (Targets mem) x = count_spans (target_spans mem x)
amount Frames x = length (frames_of x)
amount Slots x = length (slots_of x)

-- the amount that a buffer holds if it is live
abbrev pub amount_where_live : Holding → Option Buffer → ℕ
amount_where_live what None = 0
amount_where_live what (Some x) = amount what x

-- the amount that a ghost holds, with these pages of VRAM and TT, and this number of frames
abbrev pub amount_left : Holding → List Span → List Span → ℕ → ℕ
amount_left (Pages System) vram tt frames = 0
amount_left (Pages Tt) vram tt frames = count_spans tt
amount_left (Pages Vram) vram tt frames = count_spans vram
amount_left (Targets mem) vram tt frames = 0
amount_left Frames vram tt frames = frames
amount_left Slots vram tt frames = 0

abbrev pub amount_of_ghost : Holding → Ghost → ℕ
amount_of_ghost what g = amount_left what g.vram g.tt (length g.frames)

-- the accounts of what all buffers and all ghosts hold
abbrev pub counted : (Holding → ℕ) → (Holding → ℕ) → Accounts
counted held left =
    record {
      vram = record { free = 0; live = min (held (Pages Vram)) most; target = min (held (Targets Vram)) most; ghosts = min (left (Pages Vram)) most };
      tt = record { free = 0; live = min (held (Pages Tt)) most; target = min (held (Targets Tt)) most; ghosts = min (left (Pages Tt)) most };
      frames = record { free = 0; live = min (held Frames) most; target = 0; ghosts = min (left Frames) most };
      swap = record { free = 0; live = min (held Slots) most; target = 0; ghosts = 0 };
    }
