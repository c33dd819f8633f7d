use Rattle.std.proofs.Common.{◌/◌, refl, ap, sym, subst}
use Rattle.block_tree.proofs.SpanLaws.{IsCeil, ceil_same, ceil_next, pieces_are, pieces_none}
use Rattle.block_tree.proofs.request.Request.pieces.Goals as goal
use Rattle.block_tree.proofs.request.Request.pieces.Goals.{then-floor-len, else-floor-len, Joined-floor-len}

ceil : (c : Joined-floor-len) → IsCeil c.args.self.range.start c.block_len-len.result c.if-floor-len.first
ceil c = elim c.if-floor-len.branch [
  | then-floor-len w ↦ subst (IsCeil c.args.self.range.start c.block_len-len.result) (sym w.first-is) (ceil_same c.args.self.range.start c.block_len-len.result (c.args.self.range.start / c.block_len-len.result) c.block_len-len.ensures.some refl w.if-floor-len.true)
  | else-floor-len w ↦ subst (IsCeil c.args.self.range.start c.block_len-len.result) (sym w.first-is) (ceil_next c.args.self.range.start c.block_len-len.result (c.args.self.range.start / c.block_len-len.result) c.block_len-len.ensures.some refl w.if-floor-len.false)
]

pub returns-then-first-end : goal.returns-then-first-end
returns-then-first-end c = pieces_are c.args.self c.args.size c.if-floor-len.first (c.min.result / c.block_len-len.result) c.block_len-len.result c.block_len-len.ensures.value (ceil (goal.at.returns-then-first-end c).Joined-floor-len) (ap (λ n. n / c.block_len-len.result) c.min.ensures) c.if-first-end.true

pub returns-else-first-end : goal.returns-else-first-end
returns-else-first-end c = pieces_none c.args.self c.args.size c.if-floor-len.first (c.min.result / c.block_len-len.result) c.block_len-len.result c.block_len-len.ensures.value (ceil (goal.at.returns-else-first-end c).Joined-floor-len) (ap (λ n. n / c.block_len-len.result) c.min.ensures) c.if-first-end.false
