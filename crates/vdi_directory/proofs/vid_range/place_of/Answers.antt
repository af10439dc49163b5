use Rattle.std.proofs.Common.{ltb, arith, rules}
use Rattle.std.proofs.lemmas.Bool.{ltb-true, ltb-false}
use Rattle.std.proofs.lemmas.List.Sorted.{IsPartitionPoint-from_clause, IsPartitionedBy-ltb}
use Rattle.vdi_directory.specs.declared.vid_range.VidRange.{VidRange}
use Rattle.vdi_directory.proofs.VidLemmas.{ranges-ascend}
use Rattle.vdi_directory.proofs.vid_range.place_of.Goals as goal

pub returns-clause-before : goal.returns-clause-before
returns-clause-before c =
    let parted = IsPartitionedBy-ltb (λ (range : VidRange). range.last) c.args.ranges.now c.args.vid (ranges-ascend c.args.ranges.now c.requires) in
    let point = IsPartitionPoint-from_clause (λ (range : VidRange). ltb range.last c.args.vid) c.args.ranges.now c.partition_point.result c.partition_point.ensures.partitioned parted (λ a r q k. search rules) in
    λ k d below. ltb-true _ _ (point.0 k d (omega arith) below)

pub returns-clause-behind : goal.returns-clause-behind
returns-clause-behind c =
    let parted = IsPartitionedBy-ltb (λ (range : VidRange). range.last) c.args.ranges.now c.args.vid (ranges-ascend c.args.ranges.now c.requires) in
    let point = IsPartitionPoint-from_clause (λ (range : VidRange). ltb range.last c.args.vid) c.args.ranges.now c.partition_point.result c.partition_point.ensures.partitioned parted (λ a r q k. search rules) in
    λ k d from within. ltb-false _ _ (point.1 k d from within)
