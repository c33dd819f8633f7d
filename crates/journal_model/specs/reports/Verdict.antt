-- The verdict on a script and a report after it: whether the report is that of a legal, complete journal of the script, and if not,
-- the first entry that isn't as it should be, and the rule that it breaks.
use Rattle.std.specs.Prelude.{◌≡◌, ℕ, ◌+◌, ◌<◌, ◌≤◌, Bool, true, false, List, [], ◌∷◌, ◌++◌, Result, Ok, Err, IsTrue, bytes_eq, codes, decimal, flat_map, length, if◌then◌else◌}
use Rattle.journal_model.specs.Types.{Actor, Entry, Kind, Need, Script}
use Rattle.ttm_base.specs.declared.Actor.TheVariants as actor
use Rattle.journal_model.specs.declared.entry.Kind.TheVariants as kind
use Rattle.journal_model.specs.declared.entry.Shown.TheVariants as shown
use Rattle.journal_model.specs.scripts.Words.{Text, line}
use Rattle.journal_model.specs.scripts.Cut.{lines_of}
use Rattle.journal_model.specs.scripts.CommandRules.{is_between}
use Rattle.journal_model.specs.rules.Next.{next}
use Rattle.journal_model.specs.rules.Legal.{World, IsLegal, IsLegalNext, world_of}
use Rattle.journal_model.specs.statements.Complete.{is_complete}
use Rattle.journal_model.specs.rules.Transparent.{IsTransparent}
use Rattle.journal_model.specs.reports.EntryText.{entry_line}
use Rattle.journal_model.specs.reports.ReportText.{report, report_head}
use Rattle.journal_model.specs.scripts.Readable.{is_readable, is_u64}

-- ---- where the script ends

-- the line that ends a script
abbrev pub ends_script : Text → Bool
ends_script text = bytes_eq text (line (codes "end" ∷ []))

-- the lines of the script: those up to the first that ends it, or all where none does
abbrev pub script_lines : List Text → List Text
script_lines [] = []
script_lines (text ∷ texts) = if ends_script text then text ∷ [] else text ∷ script_lines texts

-- the lines after it
abbrev pub report_lines : List Text → List Text
report_lines [] = []
report_lines (text ∷ texts) = if ends_script text then texts else report_lines texts

-- the bytes of the script
abbrev pub script_part : Text → Text
script_part bytes = flat_map (λ text. text) (script_lines (lines_of bytes))

-- the bytes after it
abbrev pub report_part : Text → Text
report_part bytes = flat_map (λ text. text) (report_lines (lines_of bytes))

-- more bytes than these aren't looked at
abbrev pub check_limit : ℕ
check_limit = 68157440

-- ---- the text of an entry

-- the script has the actor; engine 0 is the one that moves buffers
abbrev pub has_actor : Script → Actor → Bool
has_actor script (actor.Thread t) = is_between 1 (length script.threads) t
has_actor script (actor.Engine e) = is_between 0 script.sizes.engines e
has_actor script actor.Reaper = true

-- a text is that of an entry by an actor of the script
pub record IsEntryText (script : Script) (n : ℕ) (text : Text) (e : Entry) : Type 0 where
  pub readable : IsTrue (is_readable script e)
  pub actor : IsTrue (has_actor script e.who)
  pub says : text ≡ entry_line script (n, e)

-- texts are those of entries, numbered from here on
abbrev pub AreEntryTexts : Script → ℕ → List Text → List Entry → Type 0
AreEntryTexts script n [] [] = Unit {0}
AreEntryTexts script n [] (e ∷ es) = ⊥
AreEntryTexts script n (text ∷ texts) [] = ⊥
AreEntryTexts script n (text ∷ texts) (e ∷ es) = IsEntryText script n text e × AreEntryTexts script (n + 1) texts es

-- ---- what an entry shows

-- a step without what it shows
abbrev pub unshown : Kind → Kind
unshown (kind.Result r) = kind.Result shown.Plain
unshown (kind.Packet n k piece) = kind.Packet n k []
unshown k = k

-- the same of the step that comes next
abbrev pub unshown_step : Result Kind Need → Result Kind Need
unshown_step (Ok k) = Ok (unshown k)
unshown_step (Err need) = Err need

-- the entry is legal next but perhaps for what it shows
abbrev pub IsStep : Script → World → Entry → Type 0
IsStep script w e = unshown_step (next script w.state e.who) ≡ Ok (unshown e.kind)

-- ---- how far a report is right

-- the report's first two lines tell the script's version and a count of entries; these texts come after them
pub record HasHead (script : Script) (text : Text) (count : ℕ) (texts : List Text) : Type 0 where
  pub lines : lines_of text ≡ report_head script ∷ line (codes "journal" ∷ decimal count ∷ []) ∷ texts
  pub fits : IsTrue (is_u64 count)

-- the first entries of those that it counts are a legal journal; these texts come after them
pub record IsRightTo (script : Script) (text : Text) (count : ℕ) (journal : List Entry) (texts : List Text) : Type 0 where
  pub right : List Text
  pub head : HasHead script text count (right ++ texts)
  pub within : length journal ≤ count
  pub entries : AreEntryTexts script 1 right journal
  pub legal : IsLegal script journal

-- one of the entries that it counts comes next, and its line is there and says it
pub record TellsNext (script : Script) (text : Text) (count : ℕ) (journal : List Entry) (e : Entry) : Type 0 where
  pub next_line : Text
  pub behind : List Text
  pub right : IsRightTo script text count journal (next_line ∷ behind)
  pub counted : length journal < count
  pub entry : IsEntryText script (length journal + 1) next_line e

-- ---- the verdict

-- the report of a legal, complete journal; it is transparent, as each legal journal is
pub record IsAccepted (script : Script) (text : Text) : Type 0 where
  pub journal : List Entry
  pub legal : IsLegal script journal
  pub complete : IsTrue (is_complete script journal)
  pub transparent : IsTransparent script journal
  pub says : text ≡ report script journal

-- The first entry that isn't as it should be, counted from 1, and the rule that it breaks. Entry 0 stands for the first two lines, the
-- one after the last for what follows the journal. `VerdictOf.verdict_of` says the same as a function.
pub data IsRejected (script : Script) (text : Text) : ℕ → ℕ → Type 0 where
  -- the first two lines aren't those of a report of the script
  no_head : ((count : ℕ) (texts : List Text) → HasHead script text count texts → ⊥) → IsRejected script text 0 1
  -- the next line isn't there, or isn't the text of an entry by an actor of the script
  no_entry : (count : ℕ) (journal : List Entry) (texts : List Text) → IsRightTo script text count journal texts → length journal < count →
      ((e : Entry) → TellsNext script text count journal e → ⊥) → IsRejected script text (length journal + 1) 2
  -- the entry isn't legal next, whatever it shows
  no_step : (count : ℕ) (journal : List Entry) (e : Entry) → TellsNext script text count journal e →
      (IsStep script (world_of script journal) e → ⊥) → IsRejected script text (length journal + 1) 3
  -- it is legal next but for what it shows
  not_shown : (count : ℕ) (journal : List Entry) (e : Entry) → TellsNext script text count journal e →
      IsStep script (world_of script journal) e → (IsLegalNext script (world_of script journal) e → ⊥) → IsRejected script text (length journal + 1) 4
  -- the journal isn't complete
  not_complete : (journal : List Entry) (texts : List Text) → IsRightTo script text (length journal) journal texts →
      is_complete script journal ≡ false → IsRejected script text (length journal + 1) 5
  -- what follows the journal isn't the rest of its report
  no_end : (journal : List Entry) (texts : List Text) → IsRightTo script text (length journal) journal texts →
      is_complete script journal ≡ true → (text ≡ report script journal → ⊥) → IsRejected script text (length journal + 1) 6
