use Rattle.std.proofs.Common.{sym}
use Rattle.message_wire.proofs.EntryLemmas.{found-find, find-missing}
use Rattle.message_wire.proofs.entries.value_at.Goals as goal

pub returns-in-Ok : goal.returns-in-Ok
returns-in-Ok g c =
    sym (found-find c.args.number c.index-entries-place.result c.in-Ok.place c.args.entries.now c.in-Ok.ensures.stands)

pub returns-in-Err : goal.returns-in-Err
returns-in-Err g c = sym (find-missing c.args.number c.in-Err.field-0 c.args.entries.now c.requires c.in-Err.ensures.stands)
