-- The text of an entry.
use Rattle.std.specs.Prelude.{ℕ, List, [], ◌∷◌, ◌++◌, map, decimal, codes}
use Rattle.journal_model.specs.Types.{Cause, CauseRow, Deny, DryWhy, Entry, Kind, Left, Script, Shown, Why}
use Rattle.ttm_base.specs.declared.Deny.TheVariants as deny
use Rattle.journal_model.specs.declared.entry.Kind.TheVariants as kind
use Rattle.journal_model.specs.declared.entry.Shown.TheVariants as shown
use Rattle.journal_model.specs.declared.entry.Why.TheVariants as why
use Rattle.journal_model.specs.declared.entry.Left.TheVariants as left
use Rattle.journal_model.specs.declared.entry.DryWhy.TheVariants as dry
use Rattle.journal_model.specs.declared.entry.Cause.TheVariants as cause
use Rattle.journal_model.specs.scripts.Words.{Text, listed, line, hex, mem_word, spans_word, name_of, actor_word}

-- the name of a refusal
abbrev pub deny_word : Deny → Text
deny_word deny.NoBuffer = codes "NoBuffer"
deny_word deny.Exists = codes "Exists"
deny_word deny.Pinned = codes "Pinned"
deny_word deny.NotPinned = codes "NotPinned"
deny_word deny.PinMax = codes "PinMax"
deny_word deny.NoSpace = codes "NoSpace"
deny_word deny.NoPages = codes "NoPages"
deny_word deny.NoSwap = codes "NoSwap"

-- for what a victim is caught
abbrev pub why_word : Why → Text
why_word why.Vram = codes "vram"
why_word why.Tt = codes "tt"
why_word why.Swap = codes "swap"

-- what is left behind
abbrev pub left_word : Left → Text
left_word left.Now = codes "now"
left_word (left.Ghost g) = decimal g

-- a cause
abbrev pub cause_word : Cause → Text
cause_word cause.Pinned = codes "pinned"
cause_word (cause.Reserved s) = codes "reserved:" ++ decimal s.0
cause_word cause.Outside = codes "outside"
cause_word cause.Skipped = codes "skipped"

-- a buffer with its cause
abbrev pub cause_row_word : Script → CauseRow → Text
cause_row_word script row = name_of script row.b ++ codes ":" ++ cause_word row.cause

-- why a place is dry
abbrev pub dry_word : Script → DryWhy → Text
dry_word script dry.Short = codes "short"
dry_word script (dry.Of rows) = listed (map (cause_row_word script) rows)

-- what a result shows
abbrev pub shown_words : Shown → List Text
shown_words shown.Plain = codes "ok" ∷ []
shown_words (shown.Read bytes) = codes "read" ∷ hex bytes ∷ []
shown_words (shown.Find mem spans) = codes "find" ∷ mem_word mem ∷ spans_word spans ∷ []

-- a probe's piece, where there is one
abbrev pub piece_words : List ℕ → List Text
piece_words [] = []
piece_words (b ∷ bytes) = hex (b ∷ bytes) ∷ []

-- an entry without its number and actor
abbrev pub kind_words : Script → Kind → List Text
kind_words script (kind.Ticket s) = codes "ticket" ∷ decimal s.0 ∷ []
kind_words script (kind.Reserve b) = codes "reserve" ∷ name_of script b ∷ []
kind_words script (kind.Backoff b s) = codes "backoff" ∷ name_of script b ∷ decimal s.0 ∷ []
kind_words script (kind.New b) = codes "new" ∷ name_of script b ∷ []
kind_words script (kind.Free b g) = codes "free" ∷ name_of script b ∷ decimal g ∷ []
kind_words script (kind.Take b mem spans) = codes "take" ∷ name_of script b ∷ mem_word mem ∷ spans_word spans ∷ []
kind_words script (kind.Untake b mem) = codes "untake" ∷ name_of script b ∷ mem_word mem ∷ []
kind_words script (kind.Populate b page f) = codes "populate" ∷ name_of script b ∷ decimal page ∷ decimal f ∷ []
kind_words script (kind.SwapIn b page k f) = codes "swapin" ∷ name_of script b ∷ decimal page ∷ decimal k ∷ decimal f ∷ []
kind_words script (kind.Depopulate b) = codes "depopulate" ∷ name_of script b ∷ []
kind_words script (kind.Bind b) = codes "bind" ∷ name_of script b ∷ []
kind_words script (kind.Unbind b) = codes "unbind" ∷ name_of script b ∷ []
kind_words script (kind.Move b mem n l) = codes "move" ∷ name_of script b ∷ mem_word mem ∷ decimal n ∷ left_word l ∷ []
kind_words script (kind.Catch b w) = codes "catch" ∷ name_of script b ∷ why_word w ∷ []
kind_words script (kind.Loose b) = codes "loose" ∷ name_of script b ∷ []
kind_words script (kind.Skip b) = codes "skip" ∷ name_of script b ∷ []
kind_words script (kind.Dry b k w) = codes "dry" ∷ name_of script b ∷ decimal k ∷ dry_word script w ∷ []
kind_words script (kind.SwapOut b page k) = codes "swapout" ∷ name_of script b ∷ decimal page ∷ decimal k ∷ []
kind_words script (kind.NoPages b) = codes "nopages" ∷ name_of script b ∷ []
kind_words script (kind.Arm engine n) = codes "arm" ∷ (codes "e" ++ decimal engine) ∷ decimal n ∷ []
kind_words script (kind.Packet n k piece) = codes "packet" ∷ decimal n ∷ decimal k ∷ piece_words piece
kind_words script (kind.Done n) = codes "done" ∷ decimal n ∷ []
kind_words script (kind.Reap g) = codes "reap" ∷ decimal g ∷ []
kind_words script (kind.Bulk group) = codes "bulk" ∷ decimal group ∷ []
kind_words script (kind.Result r) = codes "result" ∷ shown_words r
kind_words script (kind.Refused d) = codes "refused" ∷ deny_word d ∷ []

-- numbered from 1
abbrev pub entry_line : Script → ℕ × Entry → Text
entry_line script e = line (decimal e.0 ∷ actor_word e.1.who ∷ kind_words script e.1.kind)
