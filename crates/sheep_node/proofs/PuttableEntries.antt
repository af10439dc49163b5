-- An entry of a node's own, whose names may be taken, is one that a node may put.
use Rattle.std.proofs.Common.{◌≡◌, refl}
use Rattle.object_id.specs.declared.entry.Entry.{Entry}
use Rattle.object_id.specs.declared.entry.Entry.TheVariants.{Format, Join, Leave, Reweight, Recovered, Reserve, Publish, Clone, Snapshot, Delete, Lock, Unlock}
use Rattle.object_id.specs.declared.node.NodeId.{NodeId}
use Rattle.epoch_log.specs.Appending.{IsReservable}
use Rattle.sheep_node.specs.OwnEntries.{IsEntryOf}
use Rattle.sheep_node.specs.PuttableEntries.{IsPuttable}

pub own_puttable : (me : NodeId) (entry : Entry) → IsEntryOf me entry → IsReservable entry → IsPuttable entry
own_puttable me (Format members) own names = absurd own
own_puttable me (Join node zone vnodes) own names = absurd own
own_puttable me (Leave node) own names = absurd own
own_puttable me (Reweight node vnodes) own names = absurd own
own_puttable me (Recovered node epoch) own names = record { later = refl; plain = refl; reservable = names }
own_puttable me (Reserve by session name origin) own names = record { later = refl; plain = refl; reservable = names }
own_puttable me (Publish by vid) own names = record { later = refl; plain = refl; reservable = names }
own_puttable me (Clone by vid) own names = record { later = refl; plain = refl; reservable = names }
own_puttable me (Snapshot by old vid) own names = record { later = refl; plain = refl; reservable = names }
own_puttable me (Delete by session name tag) own names = record { later = refl; plain = refl; reservable = names }
own_puttable me (Lock by session name tag) own names = record { later = refl; plain = refl; reservable = names }
own_puttable me (Unlock by session vid) own names = record { later = refl; plain = refl; reservable = names }
