use Rattle.std.proofs.Common.{◌+◌, [], arith, sym, subst}
use Rattle.object_store.specs.Plain.{seen_rows}
use Rattle.object_store.specs.Store.{OpenUpTo}
use Rattle.object_store.proofs.StoreLaws.{OpenBelow-next, OpenUpTo-advance, OpenUpTo-later}
use Rattle.part_tests.proofs.recoveries.node.Kept.advance.Goals as goal

pub advance-requires : goal.advance-requires
advance-requires c =
    OpenBelow-next c.self.inside.epoch.0 (c.self.inside.epoch.0 + 1) (seen_rows c.self.inside.store) (omega arith) c.self.invariant

pub invariant_of-self : goal.invariant_of-self
invariant_of-self c =
    let epoch = c.self.inside.epoch.0 in
    OpenUpTo-later epoch (epoch + 1) (seen_rows c.advance.new.self) (omega arith)
    (subst (OpenUpTo epoch) (sym c.advance.ensures.rows) (OpenUpTo-advance epoch (seen_rows c.self.inside.store) [] (epoch + 1) c.self.invariant))
