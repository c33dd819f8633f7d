-- Texts without a line that ends a script.
use Rattle.std.proofs.Common.{◌≡◌, ℕ, Bool, true, false, cond, eqb, List, [], ◌∷◌, ◌++◌, refl, ap, sym, subst, ◌∙◌, append_assoc}
use Rattle.std.specs.Prelude.{flat_map}
use Rattle.std.proofs.lemmas.List.Concat.{flat_map-cons}
use Rattle.journal_model.specs.scripts.Words.{Text, line}
use Rattle.journal_model.specs.scripts.Cut.{lines_of, onto}
use Rattle.journal_model.specs.reports.Verdict.{ends_script, report_lines, report_part, script_lines, script_part}
use Rattle.law_legal.proofs.law_verdict.Lines.{line_of_words}
use Rattle.law_legal.proofs.law_verdict.ScriptWords.{AreWords, all_above}

-- ---- lines

abbrev pub joined : List Text → Text
joined lines = flat_map (λ text. text) lines

onto_joined : (b : ℕ) (lines : List Text) → joined (onto b lines) ≡ b ∷ joined lines
onto_joined b [] = refl
onto_joined b (part ∷ parts) = flat_map-cons (λ text. text) (b ∷ part) parts ∙ ap (λ t. b ∷ t) (sym (flat_map-cons (λ text. text) part parts))

lines_by : (t : Bool) (b : ℕ) (bs : Text) → joined (lines_of bs) ≡ bs → joined (cond t ((b ∷ []) ∷ lines_of bs) (onto b (lines_of bs))) ≡ b ∷ bs
lines_by true b bs h = flat_map-cons (λ text. text) (b ∷ []) (lines_of bs) ∙ ap (λ t. b ∷ t) h
lines_by false b bs h = onto_joined b (lines_of bs) ∙ ap (λ t. b ∷ t) h

-- the lines of a text are the text
pub lines_are : (text : Text) → joined (lines_of text) ≡ text
lines_are [] = refl
lines_are (b ∷ bs) = lines_by (eqb b 10) b bs (lines_are bs)

-- ---- no line of a text ends a script

-- whatever follows the text is cut as if it stood alone
pub record Passes (text : Text) : Type 0 where
  pub script : (rest : Text) → script_part (text ++ rest) ≡ text ++ script_part rest
  pub report : (rest : Text) → report_part (text ++ rest) ≡ report_part rest

pub none_passes : Passes []
none_passes = record { script = λ rest. refl; report = λ rest. refl }

pub both_pass : (a b : Text) → Passes a → Passes b → Passes (a ++ b)
both_pass a b h k =
    record {
      script = λ rest. ap script_part (append_assoc a b rest) ∙ h.script (b ++ rest) ∙ ap (λ t. a ++ t) (k.script rest) ∙ sym (append_assoc a b (script_part rest));
      report = λ rest. ap report_part (append_assoc a b rest) ∙ h.report (b ++ rest) ∙ k.report rest;
    }

pub line_passes : (ws : List Text) → AreWords ws → ends_script (line ws) ≡ false → Passes (line ws)
line_passes ws words goes =
    record {
      script = λ rest.
          ap (λ ls. joined (script_lines ls)) (line_of_words ws rest (all_above ws words))
          ∙ ap (λ b. joined (cond b (line ws ∷ []) (line ws ∷ script_lines (lines_of rest)))) goes
          ∙ flat_map-cons (λ text. text) (line ws) (script_lines (lines_of rest));
      report = λ rest.
          ap (λ ls. joined (report_lines ls)) (line_of_words ws rest (all_above ws words))
          ∙ ap (λ b. joined (cond b (lines_of rest) (report_lines (lines_of rest)))) goes;
    }

pub all_pass : {X : Type 0} (f : X → Text) (xs : List X) → ((x : X) → Passes (f x)) → Passes (flat_map f xs)
all_pass f [] h = none_passes
all_pass f (x ∷ xs) h = let both = both_pass (f x) (flat_map f xs) (h x) (all_pass f xs h) in subst Passes (sym (flat_map-cons f x xs)) both
