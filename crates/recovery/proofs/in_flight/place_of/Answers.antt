use Rattle.std.proofs.Common.{ltb, ltb-true, arith, rules}
use Rattle.std.proofs.lemmas.Bool.{ltb-false}
use Rattle.std.proofs.lemmas.List.Sorted.{IsPartitionPoint-from_clause, IsPartitionedBy-ltb}
use Rattle.recovery.specs.Kept.{sent_number}
use Rattle.recovery.proofs.FlightLemmas.{Sent, numbers-rise}
use Rattle.recovery.proofs.in_flight.place_of.Goals as goal

pub returns-clause-before : goal.returns-clause-before
returns-clause-before c =
    let parted = IsPartitionedBy-ltb sent_number c.args.sent.now c.args.number (numbers-rise c.args.sent.now c.requires) in
    let point = IsPartitionPoint-from_clause (λ (x : Sent). ltb x.0 c.args.number) c.args.sent.now c.partition_point.result c.partition_point.ensures.partitioned parted (λ a r q k. search rules) in
    λ k d below. ltb-true _ _ (point.0 k d (let bound = c.partition_point.ensures.bound in omega (arith, bound, below)) below)

pub returns-clause-behind : goal.returns-clause-behind
returns-clause-behind c =
    let parted = IsPartitionedBy-ltb sent_number c.args.sent.now c.args.number (numbers-rise c.args.sent.now c.requires) in
    let point = IsPartitionPoint-from_clause (λ (x : Sent). ltb x.0 c.args.number) c.args.sent.now c.partition_point.result c.partition_point.ensures.partitioned parted (λ a r q k. search rules) in
    λ k d from within. ltb-false _ _ (point.1 k d from within)
