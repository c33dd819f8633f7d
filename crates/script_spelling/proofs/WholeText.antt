-- The parts of a script are its text.
use Rattle.std.proofs.Common.{◌≡◌, [], ◌∷◌, ◌++◌, refl, sym, ap, ◌∙◌, append_assoc}
use Rattle.std.specs.Prelude.{codes, flat_map}
use Rattle.std.specs.List.{enumerate_from}
use Rattle.journal_model.specs.declared.script.Script.{Script}
use Rattle.journal_model.specs.scripts.Words.{Text, line}
use Rattle.journal_model.specs.scripts.Spelling.{buffer_line, spelling, thread_lines, turn_line}
use Rattle.script_spelling.specs.Parts.{head_lines}

-- five parts, one after the other
joined : (a b c d e t0 t1 t2 t3 t4 t5 : Text) → t0 ≡ [] → t1 ≡ t0 ++ a → t2 ≡ t1 ++ b → t3 ≡ t2 ++ c → t4 ≡ t3 ++ d → t5 ≡ t4 ++ e → t5 ≡ (a ++ b ++ c ++ d) ++ e
joined a b c d e t0 t1 t2 t3 t4 t5 p q r s t u =
    u ∙ ap (λ x. x ++ e) (t ∙ ap (λ x. x ++ d) (s ∙ ap (λ x. x ++ c) (r ∙ ap (λ x. x ++ b) (q ∙ ap (λ x. x ++ a) p))))

whole : (s : Script) → (head_lines s ++ flat_map (buffer_line s.version) s.buffers ++ flat_map (thread_lines s) (enumerate_from 1 s.threads) ++ flat_map turn_line s.turns) ++ line (codes "end" ∷ []) ≡ spelling s
whole s = refl

-- the parts of a script
pub text_is : (s : Script) (t0 t1 t2 t3 t4 t5 : Text) → t0 ≡ [] → t1 ≡ t0 ++ head_lines s → t2 ≡ t1 ++ flat_map (buffer_line s.version) s.buffers
    → t3 ≡ t2 ++ flat_map (thread_lines s) (enumerate_from 1 s.threads) → t4 ≡ t3 ++ flat_map turn_line s.turns → t5 ≡ t4 ++ line (codes "end" ∷ []) → t5 ≡ spelling s
text_is s t0 t1 t2 t3 t4 t5 p q r t u v =
    joined (head_lines s) (flat_map (buffer_line s.version) s.buffers) (flat_map (thread_lines s) (enumerate_from 1 s.threads)) (flat_map turn_line s.turns) (line (codes "end" ∷ [])) t0 t1 t2 t3 t4 t5 p q r t u v
    ∙ whole s
