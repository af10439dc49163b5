-- What a node has to put may stand in the log.
use Rattle.std.proofs.Common.{◌≡◌, ◌<◌, false, List, [], ◌∷◌, All, Option, Some, slice_get, unwrap_or, refl, sym, ap, subst, ◌∙◌}
use Rattle.std.proofs.lemmas.List.Elements.{All-head}
use Rattle.object_id.specs.declared.entry.Entry.{Entry}
use Rattle.object_id.specs.declared.entry.Entry.TheVariants.{Join, Leave, Reweight}
use Rattle.object_id.specs.declared.entry.Member.{Member}
use Rattle.object_id.specs.declared.limits.TheConstants.{EPOCH_MAX}
use Rattle.object_id.specs.declared.node.NodeId.{NodeId}
use Rattle.epoch_log.specs.Epochs.{begins_epoch, epoch_of, members_in}
use Rattle.epoch_log.specs.Appending.{IsReservable, FitsMembers, MayAppend}
use Rattle.sheep_node.specs.OwnEntries.{IsEntryOf}
use Rattle.sheep_node.specs.PuttableEntries.{IsPuttable}
use Rattle.sheep_node.proofs.PuttableEntries.{own_puttable}

pub all_puttable : (me : NodeId) (outbox : List Entry) → All (IsEntryOf me) outbox → All IsReservable outbox → All IsPuttable outbox
all_puttable me outbox own names = λ k d within. own_puttable me _ (own k d within) (names k d within)

-- the first of these is what a step on Put puts
pub first_puttable : (outbox : List Entry) (entry : Entry) → slice_get outbox 0 ≡ Some entry → All IsPuttable outbox → IsPuttable entry
first_puttable [] entry none are = absurd (cc (none))
first_puttable (first ∷ later) entry some are =
    subst IsPuttable (ap (λ (found : Option Entry). unwrap_or found first) some) (All-head IsPuttable first later are)

fits : (members : List Member) (entry : Entry) → begins_epoch entry ≡ false → FitsMembers members entry
fits members (Join node zone vnodes) plain = absurd (cc (plain))
fits members (Leave node) plain = absurd (cc (plain))
fits members (Reweight node vnodes) plain = absurd (cc (plain))
fits members entry plain = tt

pub puttable_may_stand : (log : List Entry) (entry : Entry) → IsPuttable entry → epoch_of log < EPOCH_MAX → MayAppend log entry
puttable_may_stand log entry puttable room = record {
  later = puttable.later;
  reservable = puttable.reservable;
  fits = fits (members_in log (epoch_of log)) entry puttable.plain;
  room = room;
}
