use Rattle.std.proofs.Common.{◌++◌, take, arith}
use Rattle.std.proofs.lemmas.Grind.{common_steps}
use Rattle.std.proofs.lemmas.Result.{err_from_is_err_and}
use Rattle.io_edge.proofs.Told.{prepend_known-twice}
use Rattle.io_edge.proofs.whole.read_all.Goals as goal

-- what was taken is what there was before and the piece for which there is no memory
pub returns-in_err-extend_from_slice-clause-taken : goal.returns-in_err-extend_from_slice-clause-taken
returns-in_err-extend_from_slice-clause-taken g c =
    let p = err_from_is_err_and c.from_residual-in_err-extend_from_slice.result c.from_residual-in_err-extend_from_slice.ensures.1 in
    rw (p.1, p.2) (c.loop-buffer.bytes.items ++ take c.in_ok-n.n c.read.new.buffer, grind (arith, common_steps), grind (arith, common_steps, prepend_known-twice))
