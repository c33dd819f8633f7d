use Rattle.bo_table.proofs.TableLaws.{made_is}
use Rattle.bo_table.proofs.bo.Bo.make.Goals as goal

pub returns : goal.returns
returns c = made_is c.args.self.now c.clear-2.new.self c.clear.new.self c.no_targets.result c.clear-3.new.self c.clear-2.ensures c.clear.ensures c.no_targets.ensures c.clear-3.ensures
