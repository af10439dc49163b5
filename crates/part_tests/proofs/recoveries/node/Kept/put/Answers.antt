use Rattle.std.proofs.Common.{arith}
use Rattle.object_store.specs.Plain.{seen_rows}
use Rattle.object_store.specs.Store.{OpenUpTo, create_at}
use Rattle.object_store.proofs.StoreLaws.{OpenUpTo-create, Makes-keeps}
use Rattle.part_tests.proofs.recoveries.node.Kept.put.Goals as goal

pub invariant_of-self : goal.invariant_of-self
invariant_of-self c =
    let epoch = c.self.inside.epoch.0 in
    let rows = seen_rows c.self.inside.store in
    Makes-keeps (OpenUpTo epoch) (create_at rows c.args.key.now epoch c.args.length 0 c.args.bytes.now) rows (seen_rows c.create.new.self) c.create.result
    c.self.invariant
    (λ all is. OpenUpTo-create epoch rows all c.args.key.now epoch c.args.length 0 c.args.bytes.now (omega arith) c.self.invariant is)
    c.create.ensures.rows
