use Rattle.journal_model.specs.marks.Spaces.{regions_space}
use Rattle.gpu_spaces.proofs.Mapped.{mapped_op_is_there}
use Rattle.gpu_spaces.proofs.job.is_in_runs.Goals as goal

pub returns-then-is_in_run : goal.returns-then-is_in_run
returns-then-is_in_run c = λ rs h t.
    mapped_op_is_there rs c.args.op c.first_address.result c.second_address.result c.vop_len-len.result c.first_address.ensures c.second_address.ensures c.vop_len-len.ensures
    (c.is_in_run.ensures (regions_space rs) h c.if-is_in_run.true) (c.is_in_run-then-is_in_run.ensures (regions_space rs) h t)
