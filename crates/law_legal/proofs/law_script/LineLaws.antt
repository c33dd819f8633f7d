-- The words of a line that breaks no rule are the words of what it says.
use Rattle.std.proofs.Common.{◌≡◌, ℕ, ◌<◌, ◌^◌, Bool, true, false, cond, [], ◌∷◌, Option, Some, None, refl, sym, arith}
use Rattle.std.specs.Prelude.{decimal, is_none, unwrap_or}
use Rattle.ttm_base.specs.declared.BufId.{BufId}
use Rattle.journal_model.specs.declared.script.Script.{Script}
use Rattle.journal_model.specs.declared.line.Progress.{Progress}
use Rattle.journal_model.specs.declared.line.Line.{Line}
use Rattle.journal_model.specs.declared.line.Verb.{Verb}
use Rattle.journal_model.specs.declared.line.Verb.TheVariants as verb
use Rattle.journal_model.specs.scripts.Words.{Text, name_of}
use Rattle.journal_model.specs.scripts.Spelling.{command_words}
use Rattle.journal_model.specs.scripts.Reading.{known, names_of, number_in, offset_of}
use Rattle.journal_model.specs.scripts.LineRules.{lacks_number, lacks_name, lacks_place, has_range_fault, has_byte_fault, has_job_fault, lacks_actor, is_one_too_many, is_too_long, has_map_fault, lacks_page, rule_broken}
use Rattle.journal_model.specs.scripts.MarkRules.{thread_mappings_at_end}
use Rattle.journal_model.specs.scripts.FirstFault.{or_zero, or_first, plain_command}
use Rattle.law_legal.proofs.law_script.NumberLaws.{number_takes}
use Rattle.law_legal.proofs.law_script.WordLaws.{known_is, verb_word}

abbrev none : Option ℕ
none = None

-- a line that is there
abbrev pub made : Line → Option Line
made l = Some l

-- each rule for itself
pub record Breaks_none (p : Progress) (l : Line) : Type 0 where
  pub numbers : lacks_number l ≡ false
  pub names : lacks_name p.script l ≡ false
  pub places : lacks_place l ≡ false
  pub ranges : has_range_fault p.script l ≡ false
  pub bytes : has_byte_fault l ≡ false
  pub jobs : has_job_fault (thread_mappings_at_end p.script) l ≡ false
  pub actors : lacks_actor l ≡ false
  pub counts : is_one_too_many p l ≡ false
  pub lens : is_too_long p l ≡ false
  pub maps : has_map_fault (thread_mappings_at_end p.script) l ≡ false
  pub pages : lacks_page (thread_mappings_at_end p.script) l ≡ false

step : (b : Bool) (rule : ℕ) (rest : Option ℕ) → cond b (Some rule) rest ≡ none → (b ≡ false) × (rest ≡ none)
step true rule rest h = absurd cc
step false rule rest h = (refl, h)

-- a line without a broken rule breaks none of them
pub breaks_none : (p : Progress) (l : Line) → rule_broken p l ≡ none → Breaks_none p l
breaks_none p l h =
    let a = step (lacks_number l) 5 _ h in
    let b = step (lacks_name p.script l) 6 _ a.1 in
    let c = step (lacks_place l) 7 _ b.1 in
    let d = step (has_range_fault p.script l) 8 _ c.1 in
    let e = step (has_byte_fault l) 9 _ d.1 in
    let f = step (has_job_fault (thread_mappings_at_end p.script) l) 10 _ e.1 in
    let g = step (lacks_actor l) 11 _ f.1 in
    let i = step (is_one_too_many p l) 12 _ g.1 in
    let j = step (is_too_long p l) 13 _ i.1 in
    let k = step (has_map_fault (thread_mappings_at_end p.script) l) 14 _ j.1 in
    let m = step (lacks_page (thread_mappings_at_end p.script) l) 15 None k.1 in
    record { numbers = a.0; names = b.0; places = c.0; ranges = d.0; bytes = e.0; jobs = f.0; actors = g.0; counts = i.0; lens = j.0; maps = k.0; pages = m.0 }

here : {X : Type 0} (o : Option X) (d : X) → is_none o ≡ false → o ≡ Some (unwrap_or o d)
here None d h = absurd cc
here (Some x) d h = refl

-- a number is spelled as it was read
pub number_word : (low high : ℕ) (w : Text) → high < 2 ^ 64 → is_none (number_in low high w) ≡ false → w ≡ decimal (or_zero (number_in low high w))
number_word low high w small h = (number_takes low high w (or_zero (number_in low high w)) small (here (number_in low high w) 0 h)).0

-- an offset is spelled as it was read
pub offset_word : (w : Text) → is_none (offset_of w) ≡ false → w ≡ decimal (or_zero (offset_of w))
offset_word w h = number_word 0 16777216 w (omega arith) h

-- a name is spelled as it was read
pub name_word : (script : Script) (w : Text) → is_none (known (names_of script.buffers) w) ≡ false → w ≡ name_of script (or_first (known (names_of script.buffers) w))
name_word script w h = sym (known_is script w (or_first (known (names_of script.buffers) w)) (here (known (names_of script.buffers) w) (record { 0 = 0 }) h)).0

-- ---- the words of what a command's line says

-- the words of a verb and a name
pub plain_words : (script : Script) (v : Verb) (b : BufId) → verb_word v ∷ name_of script b ∷ [] ≡ command_words script (plain_command v b)
plain_words script verb.New b = refl
plain_words script verb.Free b = refl
plain_words script verb.Pin b = refl
plain_words script verb.Unpin b = refl
plain_words script verb.Find b = refl
plain_words script verb.SwapOut b = refl
