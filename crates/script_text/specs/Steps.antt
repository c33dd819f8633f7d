-- What holds between two lines, and what a step tells.
use Rattle.std.specs.Prelude.{◌≡◌, ℕ, ◌≤◌, Bool, List, true, false, Option, Some, None, Result, Ok, Err, is_none, length, nat_le}
use Rattle.std.specs.List.{list_all}
use Rattle.journal_model.specs.declared.script.Script.{Script}
use Rattle.journal_model.specs.declared.script.Decl.{Decl}
use Rattle.journal_model.specs.declared.script.Mark.{Mark}
use Rattle.journal_model.specs.declared.line.Progress.{Progress}
use Rattle.journal_model.specs.declared.line.Line.{Line}
use Rattle.journal_model.specs.declared.line.Line.TheVariants as line
use Rattle.journal_model.specs.scripts.Words.{Text}
use Rattle.journal_model.specs.rules.Commands.{commands_of}
use Rattle.journal_model.specs.scripts.Reading.{names_of}
use Rattle.journal_model.specs.declared.script.MarkKind.TheVariants as mark
use Rattle.journal_model.specs.scripts.MarkRules.{ThreadMappings, empty_thread_mappings, thread_mappings_after, thread_mappings_at_end}
use Rattle.journal_model.specs.scripts.FirstFault.{or_first, or_zero}
use Rattle.journal_model.specs.scripts.LineRules.{lacks_number, lacks_name, has_range_fault, is_one_too_many, is_too_long, lacks_page, rule_broken}
use Rattle.script_rules.specs.script_mappings.ThreadMappingLists.{Seen, IsThreadMappings}
use Rattle.script_text.specs.declared.ScriptFault.{ScriptFault}
use Rattle.script_text.specs.declared.ScriptFault.TheVariants as fault

-- a buffer has no more pages than it may have
abbrev pub has_few_pages : Decl → Bool
has_few_pages d = nat_le d.pages 4096

-- the mark stands in one of this many threads
abbrev pub is_up_to : ℕ → Mark → Bool
is_up_to threads m = nat_le m.thread threads

-- the limits hold, and the names are the declared ones
pub record IsSteady (names : List Text) (p : Progress) : Type 0 where
  pub same : names ≡ names_of p.script.buffers
  pub buffers : length p.script.buffers ≤ 256
  pub threads : length p.script.threads ≤ 16
  pub lines : p.lines ≤ 4096
  pub lens : p.lens ≤ 67108864

-- what is mapped is what the thread at work has mapped, and marks, commands and buffers are within limits
pub record IsKnown (seen : Seen) (p : Progress) : Type 0 where
  pub thread_mappings : IsThreadMappings seen (thread_mappings_at_end p.script)
  pub pages : list_all has_few_pages p.script.buffers ≡ true
  pub placed : list_all (is_up_to (length p.script.threads)) p.script.marks ≡ true
  pub commands : length (commands_of p.script (length p.script.threads)) ≤ p.lines

-- what the thread at work has mapped after a line
abbrev pub thread_mappings_next : ThreadMappings → Line → ThreadMappings
thread_mappings_next d line.Thread = empty_thread_mappings
thread_mappings_next d (line.Map b) = thread_mappings_after d (mark.Map (or_first b))
thread_mappings_next d (line.Unmap b) = thread_mappings_after d (mark.Unmap (or_first b))
thread_mappings_next d (line.Vmap va n b off) = thread_mappings_after d (mark.Vmap (or_zero va) (or_zero n) (or_first b) (or_zero off))
thread_mappings_next d (line.Vunmap va n) = thread_mappings_after d (mark.Vunmap (or_zero va) (or_zero n))
thread_mappings_next d _ = d

-- the numbers of a line are in the ranges that its words have
abbrev pub HasRanges : Line → Type 0
HasRanges (line.Buffer head want busy) = or_zero head.pages ≤ 4096
HasRanges (line.Placed head list) = or_zero head.pages ≤ 4096
HasRanges (line.Vmap va n b off) = is_none n ≡ false → 1 ≤ or_zero n
HasRanges (line.Vunmap va n) = is_none n ≡ false → 1 ≤ or_zero n
HasRanges _ = Unit {0}

-- a line that breaks none of the rules that its taking rests on
pub record IsClean (p : Progress) (l : Line) : Type 0 where
  pub numbers : lacks_number l ≡ false
  pub named : lacks_name p.script l ≡ false
  pub ranges : has_range_fault p.script l ≡ false
  pub fits : is_one_too_many p l ≡ false
  pub short : is_too_long p l ≡ false
  pub mapped : lacks_page (thread_mappings_at_end p.script) l ≡ false
  pub said : HasRanges l

-- a line breaks the rule and nothing is mapped by it, or it breaks none and its mappings are followed
abbrev pub IsJudged : Option ℕ → Seen → Progress → Line → Type 0
IsJudged None seen p l = (rule_broken p l ≡ None) × IsThreadMappings seen (thread_mappings_next (thread_mappings_at_end p.script) l)
IsJudged (Some rule) seen p l = (rule_broken p l ≡ Some rule) × IsKnown seen p

-- a line that is taken leads on, another breaks its rule
abbrev pub Leads : Option ℕ → Progress → Result Progress ℕ → Type 0
Leads None new after = after ≡ Ok new
Leads (Some rule) new after = after ≡ Err rule

-- what reading tells, unless memory ran out
abbrev pub Gives : Result Script ScriptFault → Result Script (ℕ × ℕ) → Type 0
Gives (Ok script) read = read ≡ Ok script
Gives (Err fault.NoMemory) read = Unit {0}
Gives (Err (fault.Bad line rule)) read = read ≡ Err (line, rule)
