use Rattle.std.proofs.Common.{leb, leb-true, arith, rules}
use Rattle.std.proofs.lemmas.Bool.{leb-false}
use Rattle.std.proofs.lemmas.List.Sorted.{IsPartitionPoint-from_clause, IsPartitionedBy-leb}
use Rattle.vdi_directory.proofs.LiveLemmas.{ids_with-at}
use Rattle.vdi_directory.proofs.live_ids.place_of.Goals as goal

pub returns-clause-before : goal.returns-clause-before
returns-clause-before c k d below =
    let parted = IsPartitionedBy-leb (λ other. other) c.args.live.now c.args.vid c.requires in
    let point = IsPartitionPoint-from_clause (λ other. leb other c.args.vid) c.args.live.now c.partition_point.result c.partition_point.ensures.partitioned parted (λ a r q k. search rules) in
    leb-true _ _ (point.0 k d (let bound = c.partition_point.ensures.bound in omega (arith, bound, below)) below)

pub returns-clause-behind : goal.returns-clause-behind
returns-clause-behind c k d from within =
    let parted = IsPartitionedBy-leb (λ other. other) c.args.live.now c.args.vid c.requires in
    let point = IsPartitionPoint-from_clause (λ other. leb other c.args.vid) c.args.live.now c.partition_point.result c.partition_point.ensures.partitioned parted (λ a r q k. search rules) in
    leb-false _ _ (point.1 k d from within)

pub returns-clause-place : goal.returns-clause-place
returns-clause-place c =
    let parted = IsPartitionedBy-leb (λ other. other) c.args.live.now c.args.vid c.requires in
    let point = IsPartitionPoint-from_clause (λ other. leb other c.args.vid) c.args.live.now c.partition_point.result c.partition_point.ensures.partitioned parted (λ a r q k. search rules) in
    ids_with-at c.args.vid c.partition_point.result c.args.live.now c.partition_point.ensures.bound
    (λ k d below. leb-true _ _ (point.0 k d (omega arith) below))
    (λ k d from within. leb-false _ _ (point.1 k d from within))
