use Rattle.std.proofs.Common.{◌≡◌, ℕ, ◌+◌, ◌<◌, ◌≤◌, ◌∷◌, ◌++◌, ◌∙◌, length, drop, get_or, refl, ap, sym, arith, add-one, drop-cons}
use Rattle.std.specs.Prelude.{flat_map}
use Rattle.std.specs.List.{enumerate_from}
use Rattle.journal_model.specs.rules.Commands.{commands_of}
use Rattle.journal_model.specs.scripts.Spelling.{thread_lines}
use Rattle.script_spelling.specs.Cursors.{marks_from}
use Rattle.script_spelling.proofs.MarkText.{one_thread, next_thread, first_thread, thread_at}
use Rattle.script_spelling.proofs.script.put_threads.Goals as goal

pub loop-i-init : goal.loop-i-init
loop-i-init c = record {
  within = omega arith;
  text = refl;
  marks = c.items-marks.ensures ∙ first_thread c.args.script.now c.requires.placed.placed;
}

pub loop-i-preserved : goal.loop-i-preserved
loop-i-preserved c =
    let s = c.args.script.now in
    let ts = s.threads in
    let i : ℕ = c.loop-i.i in
    let cs = c.index-threads-i.result in
    let lt : i < length ts = omega (arith, ap length c.items-threads.ensures) in
    let is : cs ≡ get_or ts i cs = c.index-threads-i.is ∙ ap (λ xs. get_or xs i cs) c.items-threads.ensures in
    let rest : drop i ts ≡ get_or ts i cs ∷ drop (i + 1) ts = rw add-one (drop-cons ts i cs lt) in
    let first : drop i ts ≡ cs ∷ drop (i + 1) ts = rest ∙ ap (λ x. x ∷ drop (i + 1) ts) (sym is) in
    let len : length (commands_of s (i + 1)) ≡ length cs = ap length (thread_at s i cs lt ∙ sym is) in
    record {
      within = omega (arith, lt);
      text =
          one_thread s (i + 1) cs (drop (i + 1) ts) c.loop-i.text c.put_thread.new.text _
          (c.in_ok-marks.ensures.text ∙ ap (λ xs. c.loop-i.text ++ thread_lines s (i + 1, xs)) c.items.ensures)
          (ap (λ xs. c.loop-i.text ++ flat_map (thread_lines s) (enumerate_from (i + 1) xs)) (sym first) ∙ c.loop-i.invariant.text);
      marks = c.in_ok-marks.ensures.behind ∙ ap (λ xs. marks_from s.marks (i + 1) (length xs + 1)) c.items.ensures ∙ next_thread s (i + 1) (length cs) len c.requires.placed.placed;
    }
