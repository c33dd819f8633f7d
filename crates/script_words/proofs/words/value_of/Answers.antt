use Rattle.std.proofs.Common.{◌≡◌, true, ◌&&◌, ◌<◌, ◌+◌, length, get_or, drop, ap, sym, ◌∙◌, arith}
use Rattle.std.specs.List.{list_all}
use Rattle.std.proofs.lemmas.Grind.{common_steps}
use Rattle.journal_model.specs.scripts.Reading.{is_digit}
use Rattle.script_words.proofs.Cuts.{drop_here}
use Rattle.script_words.proofs.Numbers.{capped_step}
use Rattle.script_words.proofs.words.value_of.Goals as goal

pub loop-c-preserved : goal.loop-c-preserved
loop-c-preserved c =
    let word = c.args.word.now in
    let i = c.loop-c.c-index in
    let lt : i < length word = omega arith in
    let digit : is_digit (get_or word i 0) ≡ true = grind (arith, common_steps, c.is_decimal_digit.ensures, c.if-not-is_decimal_digit.false) in
    record {
      value = rw (c.min-n.ensures, c.from.ensures, c.saturating_sub.ensures) (capped_step c.loop-c.n i word lt c.loop-c.invariant.value);
      digits = sym (ap (list_all is_digit) (drop_here word i 0 lt) ∙ ap (λ b. b && list_all is_digit (drop (i + 1) word)) digit) ∙ c.loop-c.invariant.digits;
    }
