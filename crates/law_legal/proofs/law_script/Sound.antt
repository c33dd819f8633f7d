-- What holds of the lines so far: their text, and that their script keeps its rules.
use Rattle.std.proofs.Common.{◌≡◌, ℕ, ◌<◌, ◌≤◌, Bool, true, List, [], ◌∷◌, ◌++◌, length}
use Rattle.std.specs.Prelude.{codes, decimal, flat_map, sum_by, if◌then◌else◌}
use Rattle.std.specs.List.{list_all}
use Rattle.journal_model.specs.declared.script.Script.{Script}
use Rattle.journal_model.specs.declared.line.Progress.{Progress}
use Rattle.journal_model.specs.declared.line.Phase.{Phase}
use Rattle.journal_model.specs.declared.line.Phase.TheVariants as phase
use Rattle.journal_model.specs.declared.line.Line.{Line}
use Rattle.journal_model.specs.scripts.Words.{Text, line}
use Rattle.journal_model.specs.scripts.Spelling.{buffer_line, turn_line}
use Rattle.journal_model.specs.scripts.CommandRules.{is_between, is_command, command_len}
use Rattle.journal_model.specs.scripts.ScriptRules.{has_sizes, is_decl, has_distinct_names, is_turn_line}
use Rattle.journal_model.specs.scripts.FirstFault.{with_line}
use Rattle.law_legal.specs.law_items.Items.{Item, Alone, Asks, ComesFrom, items_text, items_fit}
use Rattle.law_legal.proofs.law_items.ListFacts.{has_few, last_len}

-- sizes and buffers alone, which are all that a command speaks of
abbrev pub frame : Script → Script
frame s = record s { threads = []; turns = []; marks = [] }

-- and the threads, which are all that a schedule speaks of
abbrev pub seats : Script → Script
seats s = record s { turns = []; marks = [] }

-- ---- the text

-- the line of the version
abbrev pub first : Script → Text
first s = line (codes "ttm" ∷ decimal s.version ∷ [])

-- the line of VRAM
abbrev pub second : Script → Text
second s = line (codes "vram" ∷ (if s.sizes.buddy then codes "buddy" else codes "range") ∷ decimal s.sizes.vram ∷ [])

-- the line of TT
abbrev pub third : Script → Text
third s = line (codes "tt" ∷ decimal s.sizes.tt ∷ [])

-- the line of the frames
abbrev pub fourth : Script → Text
fourth s = line (codes "frames" ∷ decimal s.sizes.frames ∷ [])

-- the line of the slots
abbrev pub fifth : Script → Text
fifth s = line (codes "swap" ∷ decimal s.sizes.swap ∷ [])

-- the line of the engines
abbrev pub sixth : Script → Text
sixth s = line (codes "engines" ∷ decimal s.sizes.engines ∷ [])

-- the head
abbrev pub six : Script → Text
six s = first s ++ second s ++ third s ++ fourth s ++ fifth s ++ sixth s

-- all lines but the last
abbrev pub body : Script → List (List Item) → Text
body s lists = six s ++ flat_map (buffer_line s.version) s.buffers ++ flat_map (items_text (frame s)) lists ++ flat_map turn_line s.turns

-- the text of the lines so far
abbrev pub text : Phase → Script → List (List Item) → Text
text phase.Version s lists = []
text phase.Vram s lists = first s
text phase.Tt s lists = first s ++ second s
text phase.Frames s lists = first s ++ second s ++ third s
text phase.Swap s lists = first s ++ second s ++ third s ++ fourth s
text phase.Engines s lists = first s ++ second s ++ third s ++ fourth s ++ fifth s
text phase.Buffers s lists = body s lists
text phase.Threads s lists = body s lists
text phase.Turns s lists = body s lists
text phase.After s lists = body s lists ++ line (codes "end" ∷ [])

-- ---- the rules

-- the command of a line keeps its rules
abbrev pub is_asked : Script → Item → Bool
is_asked s (Alone m) = true
is_asked s (Asks ways c) = is_command s c

-- how many bytes the operations of a line take
abbrev pub item_len : Item → ℕ
item_len (Alone m) = 0
item_len (Asks ways c) = command_len c

-- nothing follows the head yet
pub record IsEarly (s : Script) : Type 0 where
  pub buffers : s.buffers ≡ []
  pub threads : s.threads ≡ []
  pub turns : s.turns ≡ []

-- what can't have come yet
abbrev pub Stage : Phase → Script → Type 0
Stage phase.Version s = IsEarly s
Stage phase.Vram s = IsEarly s
Stage phase.Tt s = IsEarly s
Stage phase.Frames s = IsEarly s
Stage phase.Swap s = IsEarly s
Stage phase.Engines s = IsEarly s
Stage phase.Buffers s = (s.threads ≡ []) × (s.turns ≡ [])
Stage phase.Threads s = (0 < length s.threads) × (s.turns ≡ [])
Stage phase.Turns s = Unit {0}
Stage phase.After s = Unit {0}

-- the script so far keeps its rules, with these lines in its threads
pub record Sound (p : Progress) (lists : List (List Item)) : Type 0 where
  pub version : is_between 1 2 p.script.version ≡ true
  pub sizes : has_sizes p.script ≡ true
  pub few_buffers : length p.script.buffers ≤ 256
  pub decls : list_all (is_decl p.script.version) p.script.buffers ≡ true
  pub names : has_distinct_names p.script.buffers ≡ true
  pub comes : ComesFrom p.script lists
  pub few_threads : length p.script.threads ≤ 16
  pub commands : list_all (list_all (is_asked (frame p.script))) lists ≡ true
  pub few_lines : list_all has_few lists ≡ true
  pub lines : p.lines ≡ last_len lists
  pub lens : p.lens ≡ sum_by (sum_by item_len) lists
  pub short : p.lens ≤ 67108864
  pub marks : list_all (items_fit (frame p.script)) lists ≡ true
  pub turns : list_all (is_turn_line (seats p.script)) p.script.turns ≡ true
  pub stage : Stage p.phase p.script

-- the text of the lines so far
abbrev pub text_of : Progress → List (List Item) → Text
text_of p lists = text p.phase p.script lists

-- a line leads on to a sound script, whose text is one line longer
pub record Grows (p : Progress) (lists : List (List Item)) (l : Line) (ws : List Text) : Type 0 where
  pub next : List (List Item)
  pub sound : Sound (with_line p l) next
  pub more : text_of (with_line p l) next ≡ text_of p lists ++ line ws
