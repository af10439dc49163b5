-- Where in the log an id was reserved, given to its writer and published, and where an incarnation of a node left: by epochs.
use Rattle.std.specs.Prelude.{ℕ, ◌+◌, ◌-◌, ◌==◌, ◌&&◌, ◌||◌, Bool, false, List, length, map, fold, zip, Option, Some, None, slice_get}
use Rattle.std.specs.Prelude.{if◌then◌else◌}
use Rattle.std.specs.Option.{option_map_or}
use Rattle.std.specs.List.{filter_map, range_with_len}
use Rattle.object_id.specs.declared.node.NodeId.{NodeId}
use Rattle.object_id.specs.declared.entry.Entry.{Entry}
use Rattle.object_id.specs.declared.entry.Entry.TheVariants.{Leave, Publish, Clone, Snapshot, Unlock}
use Rattle.epoch_log.specs.Epochs.{epoch_at}
use Rattle.disk_lock.specs.declared.holder.Holder.{Holder}
use Rattle.vdi_directory.specs.declared.effect.Reservation.{Reservation}
use Rattle.vdi_directory.specs.declared.effect.Effect.{Effect}
use Rattle.vdi_directory.specs.declared.effect.Effect.TheVariants.{Nothing, Reserved, Published, Snapped, Deleted, Held, Freed, Withdrawn}
use Rattle.vdi_directory.specs.declared.effect.Effect.TheVariants.{Left}
use Rattle.vdi_directory.specs.Effects.{grants, reservations_of, reservation_on, holder_of}
use Rattle.vdi_directory.specs.Decisions.{is_held_by, log_effects}

-- the epoch at each entry, which itself counts
abbrev pub epochs_at_entries : List Entry → List ℕ
epochs_at_entries log = map (λ place. epoch_at log (place + 1)) (range_with_len 0 (length log))

-- what each entry of the log did, with the epoch at it
unfoldable pub dated_effects : List Entry → List (ℕ × Effect)
dated_effects log = zip (epochs_at_entries log) (log_effects log)

-- the epoch so far, or that of one effect more, if it passes
abbrev pub later_if : (Effect → Bool) → ℕ → ℕ × Effect → ℕ
later_if passes epoch effect = if passes effect.1 then effect.0 else epoch

-- the epoch at the last entry whose effect passes; 0 where there is none
abbrev pub last_epoch : (Effect → Bool) → List Entry → ℕ
last_epoch passes log = fold (later_if passes) 0 (dated_effects log)

-- whether an effect lets a session write the objects of an id: it reserves the id, takes it in a snapshot's place, or locks it
abbrev pub gives : ℕ → Effect → Bool
gives vid Nothing = false
gives vid (Reserved grant) = grant.reservation.vid.0 == vid
gives vid (Published of name) = false
gives vid (Snapped snap) = snap.vid.0 == vid
gives vid (Deleted of name) = false
gives vid (Held of holder) = of.0 == vid
gives vid (Freed of) = false
gives vid (Withdrawn of) = false
gives vid (Left node) = false

-- whether an effect publishes an id
abbrev pub publishes : ℕ → Effect → Bool
publishes vid Nothing = false
publishes vid (Reserved grant) = false
publishes vid (Published of name) = of.0 == vid
publishes vid (Snapped snap) = snap.vid.0 == vid
publishes vid (Deleted of name) = false
publishes vid (Held of holder) = false
publishes vid (Freed of) = false
publishes vid (Withdrawn of) = false
publishes vid (Left node) = false

-- the epoch in which an id was reserved
abbrev pub reserved_in : List Entry → ℕ → ℕ
reserved_in log vid = last_epoch (grants vid) log

-- the epoch in which an id was given to the session that may write it
abbrev pub granted_in : List Entry → ℕ → ℕ
granted_in log vid = last_epoch (gives vid) log

-- the epoch in which an id was published
abbrev pub published_in : List Entry → ℕ → ℕ
published_in log vid = last_epoch (publishes vid) log

-- the session that has a reservation
abbrev pub reserver : Reservation → Holder
reserver reservation = record { node = reservation.by; session = reservation.session }

-- who may write the objects of an id: the session that has its standing reservation, or else the one that holds it
unfoldable pub writer_of : List Effect → ℕ → Option Holder
writer_of effects vid =
    option_map_or
    (λ (reservation : Reservation). Some (reserver reservation))
    (reservation_on (record { 0 = vid }) (reservations_of effects))
    (holder_of effects vid)

-- whether an effect takes an id from a session of the node that may write it
abbrev pub takes_writer : ℕ → NodeId → Effect → Bool
takes_writer vid node Nothing = false
takes_writer vid node (Reserved grant) = false
takes_writer vid node (Published of name) = of.0 == vid
takes_writer vid node (Snapped snap) = snap.old.0 == vid || snap.vid.0 == vid
takes_writer vid node (Deleted of name) = false
takes_writer vid node (Held of holder) = false
takes_writer vid node (Freed of) = of.0 == vid
takes_writer vid node (Withdrawn of) = of.0 == vid
takes_writer vid node (Left of) = node.0 == of.0

-- whether an entry can take an id from the session that may write it: the leave of its node, a snapshot of the disk, a publication of
-- the id by its node, and the session's own unlock
abbrev pub may_take_writer : ℕ → Holder → Entry → Bool
may_take_writer vid writer (Leave node) = writer.node.0 == node.0
may_take_writer vid writer (Publish by of) = of.0 == vid && by.0 == writer.node.0
may_take_writer vid writer (Clone by of) = of.0 == vid && by.0 == writer.node.0
may_take_writer vid writer (Snapshot by old of) = old.0 == vid || (of.0 == vid && by.0 == writer.node.0)
may_take_writer vid writer (Unlock by session of) = of.0 == vid && is_held_by by session (Some writer)
may_take_writer vid writer _ = false

-- the session to which an effect gives an id, if it gives one
abbrev pub given_to : Effect → Option Holder
given_to Nothing = None
given_to (Reserved grant) = Some (reserver grant.reservation)
given_to (Published of name) = None
given_to (Snapped snap) = Some snap.holder
given_to (Deleted of name) = None
given_to (Held of holder) = Some holder
given_to (Freed of) = None
given_to (Withdrawn of) = None
given_to (Left node) = None

-- the epoch of an effect that is the node's `Leave`
abbrev pub leave_epoch_of : ℕ → ℕ → Effect → Option ℕ
leave_epoch_of node epoch Nothing = None
leave_epoch_of node epoch (Reserved grant) = None
leave_epoch_of node epoch (Published vid name) = None
leave_epoch_of node epoch (Snapped snap) = None
leave_epoch_of node epoch (Deleted vid name) = None
leave_epoch_of node epoch (Held vid holder) = None
leave_epoch_of node epoch (Freed vid) = None
leave_epoch_of node epoch (Withdrawn vid) = None
leave_epoch_of node epoch (Left other) = if other.0 == node then Some epoch else None

-- the epochs that a node's `Leave` entries began, in their order
abbrev pub leaves_of : List Entry → ℕ → List ℕ
leaves_of log node = filter_map (λ (effect : ℕ × Effect). leave_epoch_of node effect.0 effect.1) (dated_effects log)

-- the epoch that the `Leave` of a node's incarnation began, if that stands in the log; incarnations are counted from 1
abbrev pub leave_of : List Entry → ℕ → ℕ → Option ℕ
leave_of log node incarnation = slice_get (leaves_of log node) (incarnation - 1)
