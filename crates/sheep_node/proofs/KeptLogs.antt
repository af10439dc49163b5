-- What a node keeps of the entries that it has read: when there is a tally, and what the newest epoch of a log is.
use Rattle.std.proofs.Common.{◌≡◌, ℕ, zero, suc, ◌<◌, ◌≤◌, ◌||◌, false, cond, List, [], ◌∷◌, ◌++◌, length, filter, refl, ap, sym, subst, ◌∙◌, arith}
use Rattle.std.proofs.lemmas.Bool.{eq-eqb, ne_eqb}
use Rattle.object_id.specs.declared.node.NodeId.{NodeId}
use Rattle.object_id.specs.declared.policy.Policy.{Policy}
use Rattle.object_id.specs.declared.entry.Entry.{Entry}
use Rattle.object_id.specs.declared.entry.Entry.TheVariants.{Format, Join, Leave, Reweight, Recovered, Reserve, Publish, Clone, Snapshot}
use Rattle.object_id.specs.declared.entry.Entry.TheVariants.{Delete, Lock, Unlock}
use Rattle.epoch_log.specs.Epochs.{begins_epoch, epoch_of, members_in}
use Rattle.epoch_log.specs.Appending.{IsLog, IsReservable, MayAppend}
use Rattle.vnode_table.specs.Epochs.{EpochMembers, members_at, is_entered}
use Rattle.peer_service.specs.State.{Peer}
use Rattle.peer_service.specs.Epochs.{peer_in_next_epoch, peer_settled_to}
use Rattle.peer_service.specs.LogReading.{without_objects, read_entry}
use Rattle.peer_service.specs.Back.{closed_at_end, come_back}
use Rattle.sheep_node.specs.May.{MayRead}
use Rattle.sheep_node.specs.LogReading.{epochs_up_to}
use Rattle.sheep_node.specs.StepFacts.{IsLogSoFar, epochs_of, FollowsLog}

-- ---- entries that were read, the first of them among these

pub log_of_some : (entries : List Entry) → 1 ≤ length entries → IsLogSoFar entries → IsLog entries
log_of_some [] some log = absurd (omega arith)
log_of_some (first ∷ later) some log = log

pub log_so_far : (entries : List Entry) → IsLog entries → IsLogSoFar entries
log_so_far [] log = tt
log_so_far (first ∷ later) log = log

pub read_behind_some : (entries : List Entry) (entry : Entry) → 1 ≤ length entries → MayRead entries entry ≡ MayAppend entries entry
read_behind_some [] entry some = absurd (omega arith)
read_behind_some (first ∷ later) entry some = refl

pub appended : (entries : List Entry) (entry : Entry) → 1 ≤ length entries → MayRead entries entry → MayAppend entries entry
appended [] entry some may = absurd (omega arith)
appended (first ∷ later) entry some may = may

pub reservable : (entries : List Entry) (entry : Entry) → MayRead entries entry → IsReservable entry
reservable (first ∷ later) entry may = may.reservable
reservable [] (Format members) may = tt
reservable [] (Join node zone vnodes) may = absurd may
reservable [] (Leave node) may = absurd may
reservable [] (Reweight node vnodes) may = absurd may
reservable [] (Recovered node epoch) may = absurd may
reservable [] (Reserve by session name origin) may = absurd may
reservable [] (Publish by vid) may = absurd may
reservable [] (Clone by vid) may = absurd may
reservable [] (Snapshot by old vid) may = absurd may
reservable [] (Delete by session name tag) may = absurd may
reservable [] (Lock by session name tag) may = absurd may
reservable [] (Unlock by session vid) may = absurd may

pub some_read : (entries : List Entry) (entry : Entry) → 1 ≤ length (entries ++ entry ∷ [])
some_read [] entry = omega arith
some_read (first ∷ later) entry = omega arith

-- ---- the epochs of entries

newest_at : (entries : List Entry) (begun : ℕ) → members_at (epochs_up_to entries (suc begun)) (suc begun) ≡ members_in entries (suc begun)
unfolding epochs_up_to
newest_at entries begun =
    ap (λ b. cond b (members_in entries (suc begun)) (members_at (epochs_up_to entries begun) (suc begun))) (eq-eqb (suc begun) (suc begun) refl)

pub newest_members : (entries : List Entry) → members_at (epochs_up_to entries (epoch_of entries)) (epoch_of entries) ≡ members_in entries (epoch_of entries)
newest_members entries =
    let is : epoch_of entries ≡ suc (length (filter begins_epoch entries)) = omega arith in
    subst (λ (epoch : ℕ). members_at (epochs_up_to entries epoch) epoch ≡ members_in entries epoch) (sym is)
    (newest_at entries (length (filter begins_epoch entries)))

epochs_some : (entries : List Entry) → 1 ≤ length entries → epochs_of entries ≡ epochs_up_to entries (epoch_of entries)
epochs_some [] some = absurd (omega arith)
epochs_some (first ∷ later) some = refl

-- where epoch and epochs are those of entries, the members of the epoch are those of the newest one
pub members_of_newest : (epoch settled : ℕ) (epochs : List EpochMembers) (entries : List Entry) → FollowsLog epoch settled epochs entries
    → 1 ≤ length entries → members_at epochs epoch ≡ members_in entries (epoch_of entries)
members_of_newest epoch settled epochs entries follows some =
    ap (members_at epochs) follows.epoch_so
    ∙ ap (λ (epochs : List EpochMembers). members_at epochs (epoch_of entries)) (follows.epochs_so ∙ epochs_some entries some)
    ∙ newest_members entries

-- before the first entry there are none
pub members_of_none : (epoch settled : ℕ) (epochs : List EpochMembers) (entries : List Entry) → FollowsLog epoch settled epochs entries
    → entries ≡ [] → members_at epochs epoch ≡ []
members_of_none epoch settled epochs entries follows none =
    ap (λ (epochs : List EpochMembers). members_at epochs epoch) (follows.epochs_so ∙ ap epochs_of none)

pub not_entered : (entries : List Entry) (most epoch : ℕ) → most < epoch → is_entered (epochs_up_to entries most) epoch ≡ false
unfolding epochs_up_to
not_entered entries zero epoch later = refl
not_entered entries (suc most) epoch later =
    ap (λ b. b || is_entered (epochs_up_to entries most) epoch) (ne_eqb (suc most) epoch (λ same. (omega arith)))
    ∙ not_entered entries most epoch (omega arith)

pub later_not_entered : (entries : List Entry) (epoch : ℕ) → epoch_of entries < epoch → is_entered (epochs_of entries) epoch ≡ false
later_not_entered [] epoch later = refl
later_not_entered (first ∷ rest) epoch later = not_entered (first ∷ rest) (epoch_of (first ∷ rest)) epoch later

-- ---- what changes of a peer, and what stays of the entries

pub entries_settled : (settled : ℕ) (peer : Peer) → (peer_settled_to settled peer).entries ≡ peer.entries
unfolding peer_settled_to
entries_settled settled peer = refl

pub entries_with_one : (entry : Entry) (peer : Peer) → (read_entry entry peer).entries ≡ peer.entries ++ entry ∷ []
unfolding read_entry without_objects
entries_with_one entry peer = refl

pub entries_in_next : (me : NodeId) (targets : ℕ → ℕ → Policy → List NodeId) (peer : Peer) → (peer_in_next_epoch me targets peer).entries ≡ peer.entries
unfolding peer_in_next_epoch
entries_in_next me targets peer = refl

pub entries_kept_back : (entries : List Entry) (peer : Peer) → (come_back entries peer).entries ≡ entries
unfolding come_back closed_at_end peer_settled_to without_objects
entries_kept_back entries peer = refl
