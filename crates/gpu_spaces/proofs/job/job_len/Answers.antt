use Rattle.std.proofs.Common.{◌≡◌, ◌+◌, ◌∷◌, ◌∙◌, ℕ, min, length, ap, drop, get_or, add-one, drop-cons, All, subst, sym}
use Rattle.std.specs.Prelude.{option_map}
use Rattle.journal_model.specs.declared.space.VOp.{VOp}
use Rattle.journal_model.specs.declared.space.VOp.TheVariants as vop
use Rattle.journal_model.specs.marks.ByName.{job_by_name}
use Rattle.journal_model.specs.marks.Spaces.{regions_space}
use Rattle.gpu_spaces.specs.Kept.{regions_in}
use Rattle.gpu_spaces.specs.Meaning.{IsMappedSpan}
use Rattle.gpu_spaces.proofs.Cutting.{job_counts_go_on, counted_few}
use Rattle.gpu_spaces.proofs.job.job_len.Goals as goal

pub count_ops-requires-clause-runs : goal.count_ops-requires-clause-runs
count_ops-requires-clause-runs c = subst (All (IsMappedSpan (regions_space (regions_in c.args.mappings.now)))) (sym c.items.ensures) c.runs_if-runs.ensures

pub loop-op-preserved : goal.loop-op-preserved
loop-op-preserved c =
    let rs = regions_in c.args.mappings.now in
    let ops = c.args.ops.now in
    let most : ℕ = c.args.most in
    let count : ℕ = c.loop-op.count in
    let i = c.loop-op.op-index in
    let v : VOp = get_or ops i (vop.Fill 0 0 0) in
    let rest : drop i ops ≡ v ∷ drop (i + 1) ops = rw add-one (drop-cons ops i (vop.Fill 0 0 0) c.loop-op-test.true) in
    record {
      runs = c.runs_if-runs.ensures;
      few = counted_few count c.in-Some.more most _ c.in-Some.ensures;
      made =
          job_counts_go_on rs v (drop (i + 1) ops) count c.in-Some.more most (option_map (λ job. min (length job) most) (job_by_name rs ops))
          (c.loop-op.invariant.made ∙ ap (λ xs. option_map (λ job. min (count + length job) most) (job_by_name rs xs)) rest) c.in-Some.ensures;
    }
