use Rattle.std.proofs.Common.{◌≡◌, ◌<◌, true, false, length, get_or, sym, ap, ◌∙◌, map, arith}
use Rattle.journal_model.specs.scripts.Cut.{is_semicolon}
use Rattle.journal_model.specs.scripts.LineWords.{vop_of}
use Rattle.script_words.proofs.Cuts.{behind-nil, group_hit, group_miss}
use Rattle.script_lines.proofs.addresses.read_ops.Goals as goal
use Rattle.script_lines.proofs.addresses.read_ops.Goals.{then-is_lone_semicolon+in_ok-push, else-is_lone_semicolon}

pub loop-i-init : goal.loop-i-init
loop-i-init c =
    record {
      order = omega arith;
      within = omega arith;
      so_far = rw c.requires (ap (map vop_of) (behind-nil is_semicolon c.args.words.now));
    }

pub loop-i-preserved : goal.loop-i-preserved
loop-i-preserved c =
    let lt : c.loop-i.i < length c.args.words.now = omega arith in
    let d = c.index-words-i.result in
    elim c.if-is_lone_semicolon.branch [
      | then-is_lone_semicolon+in_ok-push w ↦
          let hit : is_semicolon (get_or c.args.words.now c.loop-i.i d) ≡ true = sym (ap is_semicolon c.index-words-i.is) ∙ sym c.is_lone_semicolon.ensures ∙ w.if-is_lone_semicolon.true in
          let step = group_hit vop_of is_semicolon d c.loop-i.start c.loop-i.i c.args.words.now c.loop-i.ops _ lt hit c.loop-i.invariant.so_far in
          record {
            order = omega (arith, w.start-is);
            within = omega arith;
            so_far = rw (w.ops-is, w.start-is, w.in_ok-push.ensures.ok, w.op.ensures) step;
          }
      | else-is_lone_semicolon w ↦
          let miss : is_semicolon (get_or c.args.words.now c.loop-i.i d) ≡ false = sym (ap is_semicolon c.index-words-i.is) ∙ sym c.is_lone_semicolon.ensures ∙ w.if-is_lone_semicolon.false in
          let step = group_miss vop_of is_semicolon d c.loop-i.start c.loop-i.i c.args.words.now c.loop-i.ops _ c.loop-i.invariant.order lt miss c.loop-i.invariant.so_far in
          record {
            order = omega (arith, w.start-is, c.loop-i.invariant.order);
            within = omega arith;
            so_far = rw (w.ops-is, w.start-is) step;
          }
    ]
