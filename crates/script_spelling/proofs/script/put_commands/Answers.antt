use Rattle.std.proofs.Common.{◌≡◌, [], ℕ, ◌+◌, ◌<◌, ◌≤◌, ◌∷◌, ◌++◌, ◌∙◌, length, drop, get_or, ap, sym, arith, add-one, drop-cons}
use Rattle.journal_model.specs.scripts.Spelling.{command_lines}
use Rattle.script_spelling.proofs.MarkText.{one_command, last_marks, all_dropped}
use Rattle.script_spelling.proofs.script.put_commands.Goals as goal

pub loop-n-preserved : goal.loop-n-preserved
loop-n-preserved c =
    let s = c.args.script.now in
    let t : ℕ = c.args.thread in
    let n : ℕ = c.loop-n.n in
    let cs = c.args.commands.now in
    let cmd = c.index-commands-n.result in
    let lt : n < length cs = omega arith in
    let rest : drop n cs ≡ get_or cs n cmd ∷ drop (n + 1) cs = rw add-one (drop-cons cs n cmd lt) in
    let first : drop n cs ≡ cmd ∷ drop (n + 1) cs = rest ∙ ap (λ x. x ∷ drop (n + 1) cs) (sym c.index-commands-n.is) in
    record {
      within = omega (arith, lt);
      text =
          one_command s t n cmd (drop (n + 1) cs) c.split_at_place.result.0.now c.loop-n.text c.put_marks.new.text c.put_written.new.text _
          c.split_at_place.ensures.here c.in_ok-put_marks.ensures c.in_ok-put_written.ensures
          (ap (λ xs. c.loop-n.text ++ command_lines s t n xs) (sym first) ∙ c.loop-n.invariant.text);
      rest = c.split_at_place.ensures.behind;
    }

pub returns-clause-text : goal.returns-clause-text
returns-clause-text c =
    let s = c.args.script.now in
    let t : ℕ = c.args.thread in
    let n : ℕ = c.loop-n.n in
    let cs = c.args.commands.now in
    let same : n ≡ length cs = omega (arith, c.loop-n.invariant.within) in
    last_marks s t (length cs) c.split_at_place-2.result.0.now c.loop-n.text c.put_marks-2.new.text _
    c.split_at_place-2.ensures.here c.in_ok-put_marks-2.ensures
    (ap (λ k. c.loop-n.text ++ command_lines s t k []) (sym same) ∙ ap (λ xs. c.loop-n.text ++ command_lines s t n xs) (sym (all_dropped cs n (omega (arith, same)))) ∙ c.loop-n.invariant.text)
