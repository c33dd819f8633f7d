use Rattle.ttm_base.specs.Cutting.{packets_of}
use Rattle.laws.proofs.law_cutting.Whole.{each_at}
use Rattle.copy_packet.specs.Runs.{CanRun}
use Rattle.law_packets.proofs.Ready.{ops_can_run}
use Rattle.law_packets.proofs.packets_can_run.Goals as goal

pub returns : goal.returns
returns c = λ s names pages ops there inside short k p e. each_at (CanRun s) (packets_of names ops) k p (ops_can_run s names pages there ops inside short) e
