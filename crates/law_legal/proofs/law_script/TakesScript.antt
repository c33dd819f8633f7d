-- What the lines say is a script with these bytes.
use Rattle.std.proofs.Common.{◌≡◌, ℕ, Bool, true, false, cond, eqb, List, [], ◌∷◌, ◌++◌, length, Result, Ok, Err, refl, sym, ap, subst, ◌∙◌, arith}
use Rattle.std.specs.Prelude.{◌&&◌, codes, flat_map, sum_by, nat_le, nat_lt, IsTrue}
use Rattle.std.specs.List.{list_all}
use Rattle.std.proofs.lemmas.List.Concat.{flat_map-cons}
use Rattle.journal_model.specs.declared.script.Script.{Script}
use Rattle.journal_model.specs.declared.line.Progress.{Progress}
use Rattle.journal_model.specs.declared.line.Phase.{Phase}
use Rattle.journal_model.specs.declared.line.Phase.TheVariants as phase
use Rattle.journal_model.specs.scripts.Words.{Text, line}
use Rattle.journal_model.specs.scripts.Cut.{onto, lines_of}
use Rattle.journal_model.specs.scripts.Spelling.{buffer_line, turn_line, spelling}
use Rattle.journal_model.specs.scripts.CommandRules.{is_between, is_command, command_len}
use Rattle.journal_model.specs.scripts.MarkRules.{have_marks}
use Rattle.journal_model.specs.scripts.ScriptRules.{has_sizes, is_decl, has_distinct_names, is_turn_line, is_script, IsScript}
use Rattle.journal_model.specs.scripts.FirstFault.{is_behind_end, nothing_read, script_from}
use Rattle.law_legal.specs.law_script.ScriptLaws.{TakesScripts}
use Rattle.law_legal.specs.law_items.Items.{Item, ComesFrom, items_fit}
use Rattle.law_legal.proofs.law_items.Texts.{threads_text}
use Rattle.law_legal.proofs.law_items.Fits.{marks_of_items}
use Rattle.law_legal.proofs.law_script.Sound.{Sound, text, six, body}
use Rattle.law_legal.proofs.law_script.Takes.{runs}
use Rattle.law_legal.proofs.law_script.Asked.{asked_fit, asked_long}
use Rattle.law_legal.proofs.law_items.Tests.{is_le, not_less}
use Rattle.law_legal.proofs.law_script.Takes.{all_of}

-- ---- the lines of a text are the text

onto_all : (b : ℕ) (parts : List Text) → all_of (onto b parts) ≡ b ∷ all_of parts
onto_all b [] = flat_map-cons (λ (t : Text). t) (b ∷ []) []
onto_all b (p ∷ ps) = flat_map-cons (λ (t : Text). t) (b ∷ p) ps ∙ ap (λ t. b ∷ t) (sym (flat_map-cons (λ (t : Text). t) p ps))

one_line : (c : Bool) (b : ℕ) (parts : List Text) → all_of (cond c ((b ∷ []) ∷ parts) (onto b parts)) ≡ b ∷ all_of parts
one_line true b parts = flat_map-cons (λ (t : Text). t) (b ∷ []) parts
one_line false b parts = onto_all b parts

lines_are : (bytes : Text) → all_of (lines_of bytes) ≡ bytes
lines_are [] = refl
lines_are (b ∷ bytes) = one_line (eqb b 10) b (lines_of bytes) ∙ ap (λ t. b ∷ t) (lines_are bytes)

-- ---- the end

is_after : (ph : Phase) → is_behind_end ph ≡ true → (s : Script) (lists : List (List Item)) → text ph s lists ≡ body s lists ++ line (codes "end" ∷ [])
is_after phase.After h s lists = refl
is_after phase.Version h s lists = absurd cc
is_after phase.Vram h s lists = absurd cc
is_after phase.Tt h s lists = absurd cc
is_after phase.Frames h s lists = absurd cc
is_after phase.Swap h s lists = absurd cc
is_after phase.Engines h s lists = absurd cc
is_after phase.Buffers h s lists = absurd cc
is_after phase.Threads h s lists = absurd cc
is_after phase.Turns h s lists = absurd cc

ten : (a b c d e f g h i j : Bool) → a ≡ true → b ≡ true → c ≡ true → d ≡ true → e ≡ true → f ≡ true → g ≡ true → h ≡ true → i ≡ true → j ≡ true → (a && b && c && d && e && f && g && h && i && j) ≡ true
ten true true true true true true true true true j p1 p2 p3 p4 p5 p6 p7 p8 p9 p10 = p10
ten false b c d e f g h i j p1 p2 p3 p4 p5 p6 p7 p8 p9 p10 = absurd cc
ten true false c d e f g h i j p1 p2 p3 p4 p5 p6 p7 p8 p9 p10 = absurd cc
ten true true false d e f g h i j p1 p2 p3 p4 p5 p6 p7 p8 p9 p10 = absurd cc
ten true true true false e f g h i j p1 p2 p3 p4 p5 p6 p7 p8 p9 p10 = absurd cc
ten true true true true false f g h i j p1 p2 p3 p4 p5 p6 p7 p8 p9 p10 = absurd cc
ten true true true true true false g h i j p1 p2 p3 p4 p5 p6 p7 p8 p9 p10 = absurd cc
ten true true true true true true false h i j p1 p2 p3 p4 p5 p6 p7 p8 p9 p10 = absurd cc
ten true true true true true true true false i j p1 p2 p3 p4 p5 p6 p7 p8 p9 p10 = absurd cc
ten true true true true true true true true false j p1 p2 p3 p4 p5 p6 p7 p8 p9 p10 = absurd cc

keeps_rules : (q : Progress) (lists : List (List Item)) → Sound q lists → is_script q.script ≡ true
keeps_rules q lists h =
    let s = q.script in
    let lens = h.lens in
    let short = h.short in
    let long = ap (sum_by (sum_by command_len)) h.comes.threads ∙ sym (asked_long lists) in
    ten (is_between 1 2 s.version) (has_sizes s) (nat_le (length s.buffers) 256) (list_all (is_decl s.version) s.buffers) (has_distinct_names s.buffers)
    (nat_le (length s.threads) 16) (list_all (list_all (is_command s)) s.threads) (nat_le (sum_by (sum_by command_len) s.threads) 67108864) (list_all (is_turn_line s) s.turns) (have_marks s)
    h.version h.sizes (is_le (length s.buffers) 256 h.few_buffers) h.decls h.names (is_le (length s.threads) 16 h.few_threads)
    (ap (list_all (list_all (is_command s))) h.comes.threads ∙ asked_fit s lists h.commands)
    (is_le (sum_by (sum_by command_len) s.threads) 67108864 (omega (arith, lens, short, long))) h.turns (marks_of_items s lists h.comes h.few_lines h.marks)

nothing_sound : Sound nothing_read []
nothing_sound = record {
  version = refl;
  sizes = refl;
  few_buffers = omega arith;
  decls = refl;
  names = refl;
  comes = record { threads = refl; marks = refl };
  few_threads = omega arith;
  commands = refl;
  few_lines = refl;
  lines = refl;
  lens = refl;
  short = omega arith;
  turns = refl;
  marks = refl;
  stage = record { buffers = refl; threads = refl; turns = refl };
}

within : (b : Bool) (r : Result Script (ℕ × ℕ)) (s : Script) → (let x : Result Script (ℕ × ℕ) = cond b (Err (0, 1)) r in x ≡ Ok s) → (b ≡ false) × (r ≡ Ok s)
within true r s h = absurd cc
within false r s h = (refl, h)

true_is : (b : Bool) → b ≡ true → IsTrue b
true_is b h = h

-- the spelling of a script by the lines of its threads
pub spelled_by : (s : Script) (lists : List (List Item)) → ComesFrom s lists → list_all (items_fit s) lists ≡ true → spelling s ≡ body s lists ++ line (codes "end" ∷ [])
spelled_by s lists comes fit =
    ap (λ x. six s ++ flat_map (buffer_line s.version) s.buffers ++ x ++ flat_map turn_line s.turns ++ line (codes "end" ∷ [])) (threads_text s lists comes fit)

-- bytes that say a script are its spelling
pub takes_scripts : TakesScripts
takes_scripts bytes s h =
    let w = within (nat_lt 1048576 (length bytes)) (script_from nothing_read 0 (lines_of bytes)) s h in
    let e = runs (lines_of bytes) nothing_read [] 0 s nothing_sound w.1 in
    let spelled : bytes ≡ spelling e.q.script = sym (lines_are bytes) ∙ sym e.more ∙ is_after e.q.phase e.over e.q.script e.last ∙ sym (spelled_by e.q.script e.last e.sound.comes e.sound.marks) in
    let P : Script → Type 0 = λ x. IsScript bytes x in
    subst P e.is (record { spelled = spelled; fits = true_is (is_script e.q.script) (keeps_rules e.q e.last e.sound); short = not_less 1048576 (length bytes) w.0 })
