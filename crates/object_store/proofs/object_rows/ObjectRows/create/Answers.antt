use Rattle.std.proofs.Common.{◌∙◌, ap}
use Rattle.object_store.specs.Rows.{ended}
use Rattle.object_store.proofs.RowLemmas.{orderly_pushed}
use Rattle.object_store.proofs.object_rows.ObjectRows.create.Goals as goal

pub invariant_of-self-2 : goal.invariant_of-self-2
invariant_of-self-2 g c =
    orderly_pushed c.args.index c.args.epoch.0 c.args.bytes c.self.inside.rows.items c.end_open.new.rows.items c.push.new.self.items
    (c.end_open.ensures.items ∙ ap (ended c.args.epoch.0) c.in_ok-reserve.ensures.items) c.in_ok-push.ensures.items
