use Rattle.std.proofs.Common.{rules}
use Rattle.std.proofs.lemmas.List.Sorted.{IsPartitionPoint-from_clause}
use Rattle.map_access.specs.Parts.{is_before}
use Rattle.map_access.proofs.Order.{parted_before}
use Rattle.map_access.proofs.search.count_before.Goals as goal

pub returns-clause-point : goal.returns-clause-point
returns-clause-point c =
    IsPartitionPoint-from_clause (is_before c.args.thread c.args.n) _ _ c.partition_point.ensures.partitioned (parted_before c.args.thread c.args.n c.args.marks.now c.requires)
    (λ a r q k. search rules)
