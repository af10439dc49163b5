-- The decision on an entry of the log, and what it changes, as a function of what the entries before it did.
use Rattle.std.specs.Prelude.{ℕ, ◌==◌, ◌&&◌, ◌||◌, Bool, true, false, List, [], ◌∷◌, ◌++◌, fold, Option, None, Some, Result, Ok, Err}
use Rattle.std.specs.Prelude.{is_some, if◌then◌else◌}
use Rattle.std.specs.List.{list_any}
use Rattle.object_id.specs.declared.oid.Vid.{Vid}
use Rattle.object_id.specs.declared.node.NodeId.{NodeId}
use Rattle.object_id.specs.declared.cause.Cause.{Cause}
use Rattle.object_id.specs.declared.cause.Cause.TheVariants as causes
use Rattle.object_id.specs.declared.entry.VdiSpec.{VdiSpec}
use Rattle.object_id.specs.declared.entry.Origin.{Origin}
use Rattle.object_id.specs.declared.entry.Origin.TheVariants.{Fresh, SnapshotOf, CloneOf}
use Rattle.object_id.specs.declared.entry.Entry.{Entry}
use Rattle.object_id.specs.declared.entry.Entry.TheVariants.{Format, Join, Leave, Reweight, Recovered, Reserve, Publish, Clone, Snapshot}
use Rattle.object_id.specs.declared.entry.Entry.TheVariants.{Delete, Lock, Unlock}
use Rattle.disk_lock.specs.declared.holder.Holder.{Holder}
use Rattle.vdi_directory.specs.declared.header.Header.{Header}
use Rattle.vdi_directory.specs.declared.effect.Source.{Source}
use Rattle.vdi_directory.specs.declared.effect.Source.TheVariants as sources
use Rattle.vdi_directory.specs.declared.effect.Reservation.{Reservation}
use Rattle.vdi_directory.specs.declared.effect.Effect.{Effect}
use Rattle.vdi_directory.specs.declared.effect.Effect.TheVariants as effects
use Rattle.vdi_directory.specs.declared.decision.Decision.{Decision}
use Rattle.vdi_directory.specs.declared.decision.Decision.TheVariants as decisions
use Rattle.vdi_directory.specs.declared.decision.Outcome.{Outcome}
use Rattle.vdi_directory.specs.Vids.{free_id}
use Rattle.vdi_directory.specs.Names.{is_same_bytes, count_risen, snapshot_with_tag, is_live_name}
use Rattle.vdi_directory.specs.Sources.{is_for, tag_for}
use Rattle.vdi_directory.specs.Effects.{is_used, header_of, name_of, reservations_of, reservation_on, holder_of}

-- the four kinds of outcome
abbrev pub nothing : Outcome
nothing = record { decision = decisions.None; effect = effects.Nothing }

abbrev pub silent_outcome : Effect → Outcome
silent_outcome effect = record { decision = decisions.None; effect = effect }

abbrev pub grant_outcome : Vid → Effect → Outcome
grant_outcome vid effect = record { decision = decisions.Granted vid; effect = effect }

abbrev pub refusal_outcome : Cause → Outcome
refusal_outcome cause = record { decision = decisions.Refused cause; effect = effects.Nothing }

-- who asks
abbrev pub is_held_by : NodeId → ℕ → Option Holder → Bool
is_held_by node session None = false
is_held_by node session (Some holder) = holder.node.0 == node.0 && holder.session == session

abbrev pub is_reserved_by : NodeId → ℕ → Option Reservation → Bool
is_reserved_by node session None = false
is_reserved_by node session (Some reservation) = reservation.by.0 == node.0 && reservation.session == session

abbrev pub names_reservation : List ℕ → Reservation → Bool
names_reservation name reservation = is_same_bytes reservation.name name

-- whether a new disk can't have the name: it has a published working disk, or a standing reservation
abbrev pub is_taken : List Effect → List ℕ → Bool
is_taken before name = is_some (name_of before name).working || list_any (names_reservation name) (reservations_of before)

-- a free id is reserved
abbrev pub grant_of : List Effect → NodeId → ℕ → List ℕ → Source → Option Vid → VdiSpec → ℕ → Outcome
grant_of before by session name source parent spec vid = grant_outcome (record { 0 = vid }) (effects.Reserved (record {
  reservation = record { vid = record { 0 = vid }; by = by; session = session; name = name; source = source };
  header = record { name = name; tag = []; snap_id = count_risen (name_of before name).taken; parent = parent; spec = spec };
}))

abbrev pub or_full : Option ℕ → (ℕ → Outcome) → Outcome
or_full None make = refusal_outcome causes.FullVdi
or_full (Some vid) make = make vid

abbrev pub reservation_outcome : List Effect → NodeId → ℕ → List ℕ → Source → Option Vid → VdiSpec → Outcome
reservation_outcome before by session name source parent spec =
    or_full (free_id name (is_used before)) (grant_of before by session name source parent spec)

-- a disk that is there has a header
abbrev pub with_spec : Option Header → (VdiSpec → Outcome) → Outcome
with_spec None make = nothing
with_spec (Some header) make = make header.spec

-- the working disk of the name, where the session holds it
abbrev pub held_disk : List Effect → NodeId → ℕ → Option Vid → Option Vid
held_disk before by session None = None
held_disk before by session (Some vid) = if is_held_by by session (holder_of before vid.0) then Some vid else None

abbrev pub reserved_snapshot : List Effect → NodeId → ℕ → List ℕ → List ℕ → Option Vid → Outcome
reserved_snapshot before by session name tag None = refusal_outcome causes.VdiNotLocked
reserved_snapshot before by session name tag (Some old) =
    if is_some (snapshot_with_tag tag (name_of before name)) then refusal_outcome causes.VdiExist
    else with_spec (header_of before old.0) (reservation_outcome before by session name (sources.Snapshot old tag) (Some old))

abbrev pub reserved_clone : List Effect → NodeId → ℕ → List ℕ → Option Vid → Outcome
reserved_clone before by session name None = refusal_outcome causes.NoTag
reserved_clone before by session name (Some base) =
    if is_taken before name then refusal_outcome causes.VdiExist
    else with_spec (header_of before base.0) (reservation_outcome before by session name sources.Clone (Some base))

abbrev pub reserve_outcome : List Effect → NodeId → ℕ → List ℕ → Origin → Outcome
reserve_outcome before by session name (Fresh spec) =
    if is_taken before name then refusal_outcome causes.VdiExist else reservation_outcome before by session name sources.Fresh None spec
reserve_outcome before by session name (SnapshotOf tag) =
    reserved_snapshot before by session name tag (held_disk before by session (name_of before name).working)
reserve_outcome before by session name (CloneOf base tag) =
    if is_live_name (name_of before base) then reserved_clone before by session name (snapshot_with_tag tag (name_of before base))
    else refusal_outcome causes.NoBaseVdi

-- a reserved id becomes the working disk of its name, where the reservation is the node's and of the right origin
abbrev pub publication : NodeId → (Source → Bool) → Option Reservation → Outcome
publication by is_right None = nothing
publication by is_right (Some reservation) =
    if reservation.by.0 == by.0 && is_right reservation.source
    then grant_outcome reservation.vid (effects.Published reservation.vid reservation.name)
    else nothing

-- a disk that is held becomes a snapshot, and the reserved id takes its place
abbrev pub replacement : Reservation → Vid → Option (List ℕ) → Option Holder → Outcome
replacement reservation old None holder = nothing
replacement reservation old (Some tag) None = nothing
replacement reservation old (Some tag) (Some holder) =
    grant_outcome reservation.vid
    (effects.Snapped (record { old = old; vid = reservation.vid; name = reservation.name; tag = tag; holder = holder }))

abbrev pub snapshot_outcome : List Effect → NodeId → Vid → Option Reservation → Outcome
snapshot_outcome before by old None = nothing
snapshot_outcome before by old (Some reservation) =
    if reservation.by.0 == by.0 then replacement reservation old (tag_for old reservation.source) (holder_of before old.0) else nothing

-- the working disk, where nobody holds it
abbrev pub unheld : Vid → Option Holder → Result Vid Cause
unheld vid None = Ok vid
unheld vid (Some holder) = Err (causes.VdiLocked holder.session)

abbrev pub free_disk : List Effect → Option Vid → Result Vid Cause
free_disk before None = Err causes.NoVdi
free_disk before (Some vid) = unheld vid (holder_of before vid.0)

abbrev pub or_no_tag : Option Vid → Result Vid Cause
or_no_tag None = Err causes.NoTag
or_no_tag (Some vid) = Ok vid

-- which disk or snapshot is meant by a name and a tag
abbrev pub target : List Effect → List ℕ → Option (List ℕ) → Result Vid Cause
target before name None = free_disk before (name_of before name).working
target before name (Some tag) =
    if is_live_name (name_of before name) then or_no_tag (snapshot_with_tag tag (name_of before name)) else Err causes.NoVdi

abbrev pub deletion : List ℕ → Result Vid Cause → Outcome
deletion name (Err cause) = refusal_outcome cause
deletion name (Ok vid) = grant_outcome vid (effects.Deleted vid name)

-- a snapshot is opened by everybody, and held by nobody
abbrev pub lock : Holder → Bool → Result Vid Cause → Outcome
lock holder is_snapshot (Err cause) = refusal_outcome cause
lock holder is_snapshot (Ok vid) = if is_snapshot then grant_outcome vid effects.Nothing else grant_outcome vid (effects.Held vid holder)

-- the lock or the reservation, whichever the session has
abbrev pub release : List Effect → NodeId → ℕ → Vid → Outcome
release before by session vid =
    if is_held_by by session (holder_of before vid.0) then silent_outcome (effects.Freed vid)
    else (if is_reserved_by by session (reservation_on vid (reservations_of before))
    then silent_outcome (effects.Withdrawn vid) else nothing)

-- the table: what is decided on an entry, and what it changes
abbrev pub outcome : List Effect → Entry → Outcome
outcome before (Format members) = nothing
outcome before (Join node zone vnodes) = nothing
outcome before (Leave node) = silent_outcome (effects.Left node)
outcome before (Reweight node vnodes) = nothing
outcome before (Recovered node epoch) = nothing
outcome before (Reserve by session name origin) = reserve_outcome before by session name origin
outcome before (Publish by vid) = publication by (is_for false) (reservation_on vid (reservations_of before))
outcome before (Clone by vid) = publication by (is_for true) (reservation_on vid (reservations_of before))
outcome before (Snapshot by old vid) = snapshot_outcome before by old (reservation_on vid (reservations_of before))
outcome before (Delete by session name tag) = deletion name (target before name tag)
outcome before (Lock by session name tag) = lock (record { node = by; session = session }) (is_some tag) (target before name tag)
outcome before (Unlock by session vid) = release before by session vid

-- whether an effect names a disk or has a tag, which are copied from the entry
abbrev pub has_names : Effect → Bool
has_names (effects.Reserved grant) = true
has_names (effects.Published vid name) = true
has_names (effects.Snapped snap) = true
has_names (effects.Deleted vid name) = true
has_names _ = false

-- one entry more
abbrev pub happens : List Effect → Entry → List Effect
happens before entry = before ++ (outcome before entry).effect ∷ []

-- what the entries did, one after another
unfoldable pub log_effects : List Entry → List Effect
log_effects entries = fold happens [] entries

-- the decision on an entry that follows on these
abbrev pub decision_after : List Entry → Entry → Decision
decision_after entries entry = (outcome (log_effects entries) entry).decision

-- which live published disk or snapshot a name and a tag find
abbrev pub disk_found : List Entry → List ℕ → Option (List ℕ) → Option Vid
disk_found entries name None = (name_of (log_effects entries) name).working
disk_found entries name (Some tag) = snapshot_with_tag tag (name_of (log_effects entries) name)
