use Rattle.std.proofs.Common.{arith}
use Rattle.std.proofs.lemmas.Bool.Decides.{nat_tests}
use Rattle.state_words.proofs.ListLaws.{keeps_none, keeps_less, keeps_more, keeps_all}
use Rattle.room_pages.proofs.ghosts.courses.let_go.Goals as goal

pub loop-i-init : goal.loop-i-init
loop-i-init c = keeps_none _ _

pub loop-i-preserved-then-same_buffer : goal.loop-i-preserved-then-same_buffer
loop-i-preserved-then-same_buffer c = rw c.remove.ensures.left (keeps_less _ _ _ _ _ c.loop-i.invariant c.at.ensures (grind (arith, nat_tests)))

pub loop-i-preserved : goal.loop-i-preserved
loop-i-preserved c = keeps_more _ _ _ _ _ c.loop-i.invariant c.at.ensures (grind (arith, nat_tests))

pub returns : goal.returns
returns c = keeps_all _ _ _ _ c.loop-i.invariant (omega arith)
