-- The entry that a line tells, if it tells one: the line is cut into words, and each word is read as what must stand there.
use Rattle.std.specs.Prelude.{ℕ, Bool, false, List, [], ◌∷◌, Option, Some, None, option_map, length, bytes_eq, codes, ◌==◌, nat_lt, if◌then◌else◌}
use Rattle.ttm_base.specs.declared.Span.{Span}
use Rattle.ttm_base.specs.declared.BufId.{BufId}
use Rattle.ttm_base.specs.declared.Deny.{Deny}
use Rattle.ttm_base.specs.declared.Deny.TheVariants as deny
use Rattle.journal_model.specs.declared.script.Script.{Script}
use Rattle.journal_model.specs.declared.line.ActorWord.{ActorWord}
use Rattle.journal_model.specs.declared.line.ActorWord.TheVariants as actor_word
use Rattle.journal_model.specs.declared.entry.Entry.{Entry}
use Rattle.journal_model.specs.declared.entry.Kind.{Kind}
use Rattle.journal_model.specs.declared.entry.Kind.TheVariants as kind
use Rattle.journal_model.specs.declared.entry.Shown.TheVariants as shown
use Rattle.journal_model.specs.declared.entry.Why.{Why}
use Rattle.journal_model.specs.declared.entry.Why.TheVariants as why
use Rattle.journal_model.specs.declared.entry.Left.{Left}
use Rattle.journal_model.specs.declared.entry.Left.TheVariants as left
use Rattle.journal_model.specs.declared.entry.DryWhy.{DryWhy}
use Rattle.journal_model.specs.declared.entry.DryWhy.TheVariants as dry
use Rattle.journal_model.specs.declared.entry.CauseRow.{CauseRow}
use Rattle.journal_model.specs.declared.entry.Cause.{Cause}
use Rattle.journal_model.specs.declared.entry.Cause.TheVariants as cause
use Rattle.journal_model.specs.scripts.Words.{Text}
use Rattle.journal_model.specs.scripts.Cut.{cut_at}
use Rattle.journal_model.specs.scripts.Reading.{number_in, known, names_of, bytes_in_hex, mem_of, actor_of}
use Rattle.journal_model.specs.scripts.FirstFault.{ends_line, without_end}

-- ---- parts that are all there, or none

-- a value of two parts
abbrev pub with_two : {A B C : Type 0} → (A → B → C) → Option A → Option B → Option C
with_two f None b = None
with_two f (Some a) b = option_map (f a) b

-- a value of three parts
abbrev pub with_three : {A B C D : Type 0} → (A → B → C → D) → Option A → Option B → Option C → Option D
with_three f None b c = None
with_three f (Some a) b c = with_two (f a) b c

-- a value of four parts
abbrev pub with_four : {A B C D E : Type 0} → (A → B → C → D → E) → Option A → Option B → Option C → Option D → Option E
with_four f None b c d = None
with_four f (Some a) b c d = with_three (f a) b c d

-- what each of the words tells
abbrev pub all_of : {A : Type 0} → (Text → Option A) → List Text → Option (List A)
all_of read [] = Some []
all_of read (w ∷ ws) = with_two (λ x xs. x ∷ xs) (read w) (all_of read ws)

-- items with a comma between each two, or a dash where there is none
abbrev pub list_of : {A : Type 0} → (Text → Option A) → Text → Option (List A)
list_of read word = if bytes_eq word (codes "-") then Some [] else all_of read (cut_at 44 word)

-- ---- words

-- a number of 32 bits
abbrev pub u32_of : Text → Option ℕ
u32_of word = number_in 0 4294967295 word

-- a number of 64 bits
abbrev pub u64_of : Text → Option ℕ
u64_of word = number_in 0 18446744073709551615 word

-- both ends of a span that has a page
abbrev pub span_between : ℕ → ℕ → Option Span
span_between first last = if nat_lt first last then Some (record { start = first; end = last }) else None

-- a span from both numbers
abbrev pub span_with : Option ℕ → Option ℕ → Option Span
span_with (Some first) (Some last) = span_between first last
span_with (Some first) None = None
span_with None last = None

-- a span of two words
abbrev pub span_parts : List Text → Option Span
span_parts (first ∷ last ∷ []) = span_with (u32_of first) (u32_of last)
span_parts _ = None

-- a span by its word
abbrev pub span_of : Text → Option Span
span_of word = span_parts (cut_at 45 word)

-- why a victim is caught
abbrev pub why_of : Text → Option Why
why_of word =
    if bytes_eq word (codes "vram") then Some why.Vram
    else if bytes_eq word (codes "tt") then Some why.Tt
    else if bytes_eq word (codes "swap") then Some why.Swap
    else None

-- what becomes of the pages that a move leaves
abbrev pub left_of : Text → Option Left
left_of word = if bytes_eq word (codes "now") then Some left.Now else option_map (λ g. left.Ghost g) (u64_of word)

-- a refusal that names a pin or a buffer
abbrev pub deny_of_buffer : Text → Option Deny
deny_of_buffer word =
    if bytes_eq word (codes "NoBuffer") then Some deny.NoBuffer
    else if bytes_eq word (codes "Exists") then Some deny.Exists
    else if bytes_eq word (codes "Pinned") then Some deny.Pinned
    else if bytes_eq word (codes "NotPinned") then Some deny.NotPinned
    else None

-- a refusal
abbrev pub deny_of : Text → Option Deny
deny_of word =
    if bytes_eq word (codes "PinMax") then Some deny.PinMax
    else if bytes_eq word (codes "NoSpace") then Some deny.NoSpace
    else if bytes_eq word (codes "NoPages") then Some deny.NoPages
    else if bytes_eq word (codes "NoSwap") then Some deny.NoSwap
    else deny_of_buffer word

-- a cause without a number
abbrev pub cause_of : Text → Option Cause
cause_of word =
    if bytes_eq word (codes "pinned") then Some cause.Pinned
    else if bytes_eq word (codes "outside") then Some cause.Outside
    else if bytes_eq word (codes "skipped") then Some cause.Skipped
    else None

-- a cause with a number
abbrev pub reserved_of : Text → Text → Option Cause
reserved_of word stamp =
    if bytes_eq word (codes "reserved") then option_map (λ s. cause.Reserved (record { 0 = s })) (u64_of stamp) else None

-- a buffer with its cause
abbrev pub row_with : BufId → Cause → CauseRow
row_with b c = record { b = b; cause = c }

-- a buffer with its cause by two or three words
abbrev pub row_parts : List Text → List Text → Option CauseRow
row_parts names (name ∷ word ∷ []) = with_two row_with (known names name) (cause_of word)
row_parts names (name ∷ word ∷ stamp ∷ []) = with_two row_with (known names name) (reserved_of word stamp)
row_parts names _ = None

-- a buffer with its cause by its word
abbrev pub row_of : List Text → Text → Option CauseRow
row_of names word = row_parts names (cut_at 58 word)

-- why a place is dry
abbrev pub dry_of : List Text → Text → Option DryWhy
dry_of names word = if bytes_eq word (codes "short") then Some dry.Short else option_map (λ rows. dry.Of rows) (list_of (row_of names) word)

-- a number after the letter of engines
abbrev pub engine_of : Text → Option ℕ
engine_of [] = None
engine_of (c ∷ number) = if c == 101 then u32_of number else None

-- a piece that isn't empty
abbrev pub piece_of : Text → Option (List ℕ)
piece_of [] = None
piece_of (c ∷ cs) = bytes_in_hex (c ∷ cs)

-- ---- kinds, by the number of their words

-- a verb that names a page table or a list, and its buffer
abbrev pub later_kind : Text → BufId → Option Kind
later_kind verb b =
    if bytes_eq verb (codes "unbind") then Some (kind.Unbind b)
    else if bytes_eq verb (codes "loose") then Some (kind.Loose b)
    else if bytes_eq verb (codes "skip") then Some (kind.Skip b)
    else if bytes_eq verb (codes "nopages") then Some (kind.NoPages b)
    else None

-- a verb and its buffer
abbrev pub buffer_kind : Text → BufId → Option Kind
buffer_kind verb b =
    if bytes_eq verb (codes "reserve") then Some (kind.Reserve b)
    else if bytes_eq verb (codes "new") then Some (kind.New b)
    else if bytes_eq verb (codes "depopulate") then Some (kind.Depopulate b)
    else if bytes_eq verb (codes "bind") then Some (kind.Bind b)
    else later_kind verb b

-- a verb and its buffer, where the buffer is declared
abbrev pub on_buffer : Text → Option BufId → Option Kind
on_buffer verb None = None
on_buffer verb (Some b) = buffer_kind verb b

-- an answer that shows nothing
abbrev pub plain_kind : Text → Option Kind
plain_kind word = if bytes_eq word (codes "ok") then Some (kind.Result shown.Plain) else None

-- a verb and one word
abbrev pub kind_of_one : List Text → Text → Text → Option Kind
kind_of_one names verb a =
    if bytes_eq verb (codes "ticket") then option_map (λ s. kind.Ticket (record { 0 = s })) (u64_of a)
    else if bytes_eq verb (codes "done") then option_map (λ n. kind.Done n) (u64_of a)
    else if bytes_eq verb (codes "reap") then option_map (λ g. kind.Reap g) (u64_of a)
    else if bytes_eq verb (codes "bulk") then option_map (λ n. kind.Bulk n) (u32_of a)
    else if bytes_eq verb (codes "result") then plain_kind a
    else if bytes_eq verb (codes "refused") then option_map (λ d. kind.Refused d) (deny_of a)
    else on_buffer verb (known names a)

-- an answer that shows bytes
abbrev pub read_kind : Text → Text → Option Kind
read_kind word a = if bytes_eq word (codes "read") then option_map (λ bytes. kind.Result (shown.Read bytes)) (bytes_in_hex a) else None

-- a packet without a piece
abbrev pub packet_of : Text → Text → Option Kind
packet_of a b = with_two (λ n k. kind.Packet n k []) (u64_of a) (u32_of b)

-- a verb, its buffer, and a word
abbrev pub worded_kind : Text → BufId → Text → Option Kind
worded_kind verb b word =
    if bytes_eq verb (codes "backoff") then option_map (λ s. kind.Backoff b (record { 0 = s })) (u64_of word)
    else if bytes_eq verb (codes "free") then option_map (λ g. kind.Free b g) (u64_of word)
    else if bytes_eq verb (codes "untake") then option_map (λ mem. kind.Untake b mem) (mem_of word)
    else if bytes_eq verb (codes "catch") then option_map (λ w. kind.Catch b w) (why_of word)
    else None

-- a verb, its buffer, and a word, where the buffer is declared
abbrev pub on_worded : Text → Option BufId → Text → Option Kind
on_worded verb None word = None
on_worded verb (Some b) word = worded_kind verb b word

-- a verb and two words, but for an answer
abbrev pub pair_kind : List Text → Text → Text → Text → Option Kind
pair_kind names verb a b =
    if bytes_eq verb (codes "arm") then with_two (λ e n. kind.Arm e n) (engine_of a) (u64_of b)
    else if bytes_eq verb (codes "packet") then packet_of a b
    else on_worded verb (known names a) b

-- a verb and two words
abbrev pub kind_of_two : List Text → Text → Text → Text → Option Kind
kind_of_two names verb a b = if bytes_eq verb (codes "result") then read_kind a b else pair_kind names verb a b

-- an answer that shows where a buffer stands
abbrev pub find_kind : Text → Text → Text → Option Kind
find_kind word a b =
    if bytes_eq word (codes "find") then with_two (λ mem spans. kind.Result (shown.Find mem spans)) (mem_of a) (list_of span_of b) else None

-- an entry that takes a target
abbrev pub take_of : List Text → Text → Text → Text → Option Kind
take_of names a b c = with_three (λ x mem spans. kind.Take x mem spans) (known names a) (mem_of b) (list_of span_of c)

-- an entry that a place is dry
abbrev pub dry_kind : List Text → Text → Text → Text → Option Kind
dry_kind names a b c = with_three (λ x k w. kind.Dry x k w) (known names a) (u32_of b) (dry_of names c)

-- a packet with a piece
abbrev pub probe_of : Text → Text → Text → Option Kind
probe_of a b c = with_three (λ n k piece. kind.Packet n k piece) (u64_of a) (u32_of b) (piece_of c)

-- a verb, a buffer, and two numbers
abbrev pub page_kind : List Text → Text → Text → Text → Text → Option Kind
page_kind names verb a b c =
    if bytes_eq verb (codes "populate") then with_three (λ x page f. kind.Populate x page f) (known names a) (u32_of b) (u32_of c)
    else if bytes_eq verb (codes "swapout") then with_three (λ x page k. kind.SwapOut x page k) (known names a) (u32_of b) (u32_of c)
    else None

-- a verb and three words
abbrev pub kind_of_three : List Text → Text → Text → Text → Text → Option Kind
kind_of_three names verb a b c =
    if bytes_eq verb (codes "take") then take_of names a b c
    else if bytes_eq verb (codes "dry") then dry_kind names a b c
    else if bytes_eq verb (codes "packet") then probe_of a b c
    else if bytes_eq verb (codes "result") then find_kind a b c
    else page_kind names verb a b c

-- a verb and four words
abbrev pub kind_of_four : List Text → Text → Text → Text → Text → Text → Option Kind
kind_of_four names verb a b c d =
    if bytes_eq verb (codes "swapin") then with_four (λ x page k f. kind.SwapIn x page k f) (known names a) (u32_of b) (u32_of c) (u32_of d)
    else if bytes_eq verb (codes "move") then with_four (λ x mem n l. kind.Move x mem n l) (known names a) (mem_of b) (u64_of c) (left_of d)
    else None

-- an entry's words without its number and actor
abbrev pub kind_of : List Text → List Text → Option Kind
kind_of names (verb ∷ a ∷ []) = kind_of_one names verb a
kind_of names (verb ∷ a ∷ b ∷ []) = kind_of_two names verb a b
kind_of names (verb ∷ a ∷ b ∷ c ∷ []) = kind_of_three names verb a b c
kind_of names (verb ∷ a ∷ b ∷ c ∷ d ∷ []) = kind_of_four names verb a b c d
kind_of names _ = None

-- ---- entries

-- the word is this number
abbrev pub is_number : ℕ → Option ℕ → Bool
is_number n None = false
is_number n (Some m) = m == n

-- an entry of an actor and a kind, where there are both
abbrev pub entry_by : ActorWord → Option Kind → Option Entry
entry_by (actor_word.Is who) k = option_map (λ k. record { who = who; kind = k }) k
entry_by _ k = None

-- the entry that an entry's words tell
abbrev pub entry_of_words : Script → ℕ → List Text → Option Entry
entry_of_words script n (number ∷ who ∷ words) =
    if is_number n (u64_of number)
    then entry_by (actor_of (length script.threads) script.sizes.engines who) (kind_of (names_of script.buffers) words)
    else None
entry_of_words script n _ = None

-- the entry that an entry's line tells
abbrev pub entry_of : Script → ℕ → Text → Option Entry
entry_of script n text = if ends_line text then entry_of_words script n (cut_at 32 (without_end text)) else None
