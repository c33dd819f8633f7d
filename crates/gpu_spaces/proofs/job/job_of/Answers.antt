use Rattle.std.proofs.Common.{◌≡◌, ◌+◌, ◌∷◌, ◌∙◌, ap, drop, get_or, Some, None, add-one, drop-cons}
use Rattle.std.specs.Prelude.{if◌then◌else◌}
use Rattle.journal_model.specs.declared.space.VOp.{VOp}
use Rattle.journal_model.specs.declared.space.VOp.TheVariants as vop
use Rattle.journal_model.specs.marks.ByName.{job_by_name, joined}
use Rattle.gpu_spaces.specs.Kept.{regions_in}
use Rattle.gpu_spaces.proofs.Cutting.{jobs_go_on}
use Rattle.gpu_spaces.proofs.job.job_of.Goals as goal

pub loop-op-preserved : goal.loop-op-preserved
loop-op-preserved c =
    let rs = regions_in c.args.mappings.now in
    let ops = c.args.ops.now in
    let i = c.loop-op.op-index in
    let v : VOp = get_or ops i (vop.Fill 0 0 0) in
    let rest : drop i ops ≡ v ∷ drop (i + 1) ops = rw add-one (drop-cons ops i (vop.Fill 0 0 0) c.loop-op-test.true) in
    jobs_go_on rs v (drop (i + 1) ops) c.loop-op.job c.push_ops.new.job (job_by_name rs ops)
    (c.loop-op.invariant ∙ ap (λ xs. joined (Some c.loop-op.job) (job_by_name rs xs)) rest)
    (c.in_ok-push_ops.ensures ∙ ap (λ b. if b then Some c.push_ops.new.job else None) c.if-not-branch.false)
