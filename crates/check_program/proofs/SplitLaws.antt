-- The lines of a text up to the first that ends a script, and those after it.
use Rattle.std.proofs.Common.{◌≡◌, ℕ, ◌+◌, ◌<◌, ◌≤◌, Bool, true, false, cond, List, [], ◌∷◌, ◌++◌, length, take, drop, refl, ap, sym, ◌∙◌, arith, append_assoc, drop-drop, length-drop}
use Rattle.std.proofs.Math.Seq.{take-add}
use Rattle.std.proofs.lemmas.List.{append-nil, drop_all, length-take-le}
use Rattle.std.proofs.lemmas.List.Concat.{flat_map-cons}
use Rattle.journal_model.specs.scripts.Words.{Text}
use Rattle.journal_model.specs.scripts.Cut.{lines_of}
use Rattle.journal_model.specs.reports.Verdict.{ends_script, report_lines, report_part, script_lines, script_part}
use Rattle.law_legal.proofs.law_verdict.Passes.{joined, lines_are}
use Rattle.script_words.specs.Lines.{line_len}
use Rattle.script_text.proofs.Lines.{first_line, line_len-within, line_len-some}

-- ---- both parts, by the first line

abbrev script_by : (t : Bool) (first : Text) (texts : List Text) → Text
script_by t first texts = joined (cond t (first ∷ []) (first ∷ script_lines texts))

abbrev report_by : (t : Bool) (texts : List Text) → Text
report_by t texts = joined (cond t texts (report_lines texts))

module _ (text : Text) (some : 0 < length text) where
  abbrev first : Text
  first = take (line_len text) text

  abbrev others : Text
  others = drop (line_len text) text

  script_first : (t : Bool) → ends_script first ≡ t → script_part text ≡ script_by t first (lines_of others)
  script_first t h = ap (λ ls. joined (script_lines ls)) (first_line text some) ∙ ap (λ b. script_by b first (lines_of others)) h

  report_first : (t : Bool) → ends_script first ≡ t → report_part text ≡ report_by t (lines_of others)
  report_first t h = ap (λ ls. joined (report_lines ls)) (first_line text some) ∙ ap (λ b. report_by b (lines_of others)) h

  -- it ends the script
  script_ends : ends_script first ≡ true → script_part text ≡ first
  script_ends h = script_first true h ∙ flat_map-cons (λ t. t) first [] ∙ append-nil first

  report_begins : ends_script first ≡ true → report_part text ≡ others
  report_begins h = report_first true h ∙ lines_are others

  -- it doesn't
  script_goes_on : ends_script first ≡ false → script_part text ≡ first ++ script_part others
  script_goes_on h = script_first false h ∙ flat_map-cons (λ t. t) first (script_lines (lines_of others))

  report_waits : ends_script first ≡ false → report_part text ≡ report_part others
  report_waits h = report_first false h

-- ---- up to a place

-- no line before it ends the script
pub record GoesOn (bytes : Text) (place : ℕ) : Type 0 where
  pub within : place ≤ length bytes
  pub script : script_part bytes ≡ take place bytes ++ script_part (drop place bytes)
  pub report : report_part bytes ≡ report_part (drop place bytes)

pub at_first : (bytes : Text) → GoesOn bytes 0
at_first bytes = record { within = omega arith; script = refl; report = refl }

-- the line at a place
pub record IsLineAt (bytes : Text) (place : ℕ) (text : Text) : Type 0 where
  pub some : 0 < length (drop place bytes)
  pub len : length text ≡ line_len (drop place bytes)
  pub is : text ≡ take (line_len (drop place bytes)) (drop place bytes)

pub line_is : (bytes : Text) (place : ℕ) (text : Text) → place < length bytes → text ≡ take (line_len (drop place bytes)) (drop place bytes) → IsLineAt bytes place text
line_is bytes place text less is =
    let rest = drop place bytes in
    record {
      some = omega (arith, less, length-drop place bytes);
      len = ap length is ∙ length-take-le (line_len rest) rest (line_len-within rest);
      is = is;
    }

pub longer : (bytes : Text) (place : ℕ) (text : Text) → IsLineAt bytes place text → (0 < length text) × (place + length text ≤ length bytes)
longer bytes place text at =
    let rest = drop place bytes in
    let some = line_len-some rest at.some in
    let most = line_len-within rest in
    let len = at.len in
    let front = length-drop place bytes in
    let there = at.some in
    (omega (arith, some, len), omega (arith, most, len, front, there))

module _ (bytes : Text) (place : ℕ) (text : Text) (h : GoesOn bytes place) (at : IsLineAt bytes place text) where
  abbrev rest : Text
  rest = drop place bytes

  behind : drop (line_len rest) rest ≡ drop (place + length text) bytes
  behind = drop-drop (line_len rest) place bytes ∙ ap (λ n. drop (place + n) bytes) (sym at.len)

  front : take place bytes ++ text ≡ take (place + length text) bytes
  front = ap (λ t. take place bytes ++ t) at.is ∙ sym (take-add place (line_len rest) bytes) ∙ ap (λ n. take (place + n) bytes) (sym at.len)

  pub goes_on : ends_script text ≡ false → GoesOn bytes (place + length text)
  goes_on e =
      let not = sym (ap ends_script at.is) ∙ e in
      record {
        within = (longer bytes place text at).1;
        script = h.script ∙ ap (λ t. take place bytes ++ t) (script_goes_on rest at.some not)
            ∙ ap (λ t. take place bytes ++ (t ++ script_part (drop (line_len rest) rest))) (sym at.is)
            ∙ sym (append_assoc (take place bytes) text (script_part (drop (line_len rest) rest)))
            ∙ ap (λ t. t ++ script_part (drop (line_len rest) rest)) front
            ∙ ap (λ t. take (place + length text) bytes ++ script_part t) behind;
        report = h.report ∙ report_waits rest at.some not ∙ ap report_part behind;
      }

  pub script_is : ends_script text ≡ true → take (place + length text) bytes ≡ script_part bytes
  script_is e =
      let does = sym (ap ends_script at.is) ∙ e in
      sym (h.script ∙ ap (λ t. take place bytes ++ t) (script_ends rest at.some does ∙ sym at.is) ∙ front)

  pub report_is : ends_script text ≡ true → drop (place + length text) bytes ≡ report_part bytes
  report_is e =
      let does = sym (ap ends_script at.is) ∙ e in
      sym (h.report ∙ report_begins rest at.some does ∙ behind)

-- ---- to the last byte

pub script_all : (bytes : Text) (place : ℕ) → GoesOn bytes place → length bytes ≤ place → take place bytes ≡ script_part bytes
script_all bytes place h over =
    let none : drop place bytes ≡ [] = drop_all place bytes over in
    sym (h.script ∙ ap (λ t. take place bytes ++ script_part t) none ∙ append-nil (take place bytes))

pub report_all : (bytes : Text) (place : ℕ) → GoesOn bytes place → length bytes ≤ place → drop place bytes ≡ report_part bytes
report_all bytes place h over =
    let none : drop place bytes ≡ [] = drop_all place bytes over in
    none ∙ sym (h.report ∙ ap report_part none)
