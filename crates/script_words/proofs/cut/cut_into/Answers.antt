use Rattle.std.specs.Prelude.{◌==◌}
use Rattle.std.proofs.Common.{◌≡◌, true, false, ◌<◌, length, get_or, map, ◌∙◌, ap, arith}
use Rattle.std.proofs.lemmas.Grind.{common_steps}
use Rattle.std.proofs.lemmas.List.{map-id}
use Rattle.journal_model.specs.scripts.Cut.{cut_at}
use Rattle.script_words.proofs.Cuts.{behind-nil, group_hit, group_miss}
use Rattle.script_words.proofs.cut.cut_into.Goals as goal
use Rattle.script_words.proofs.cut.cut_into.Goals.{then-text-i+in_ok-push, else-text-i}

pub loop-i-init : goal.loop-i-init
loop-i-init c =
    let whole = ap (map (λ w. w)) (behind-nil (λ b. b == c.args.separator) c.args.text.now) ∙ map-id (cut_at c.args.separator c.args.text.now) in
    record {
      order = omega arith;
      within = omega arith;
      so_far = rw c.clear.ensures whole;
    }

pub loop-i-preserved : goal.loop-i-preserved
loop-i-preserved c =
    let lt : c.loop-i.i < length c.args.text.now = omega arith in
    elim c.if-text-i.branch [
      | then-text-i+in_ok-push w ↦
          let hit : (get_or c.args.text.now c.loop-i.i 0 == c.args.separator) ≡ true = grind (arith, common_steps, w.if-text-i.true) in
          let step = group_hit (λ w. w) (λ b. b == c.args.separator) 0 c.loop-i.start c.loop-i.i c.args.text.now c.loop-i.words _ lt hit c.loop-i.invariant.so_far in
          record {
            order = omega (arith, w.start-is);
            within = omega arith;
            so_far = rw (w.words-is, w.start-is, w.in_ok-push.ensures.ok, w.new.ensures) step;
          }
      | else-text-i w ↦
          let miss : (get_or c.args.text.now c.loop-i.i 0 == c.args.separator) ≡ false = grind (arith, common_steps, w.if-text-i.false) in
          let step = group_miss (λ w. w) (λ b. b == c.args.separator) 0 c.loop-i.start c.loop-i.i c.args.text.now c.loop-i.words _ c.loop-i.invariant.order lt miss c.loop-i.invariant.so_far in
          record {
            order = omega (arith, w.start-is, c.loop-i.invariant.order);
            within = omega arith;
            so_far = rw (w.words-is, w.start-is) step;
          }
    ]
