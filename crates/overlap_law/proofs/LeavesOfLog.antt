-- Which entry adds to a node's leaves: its `Leave`, and no other.
use Rattle.std.proofs.Common.{◌≡◌, ℕ, ◌+◌, ◌==◌, ◌&&◌, Bool, true, false, cond, List, [], ◌∷◌, ◌++◌, Option, Some, None, is_some, Result}
use Rattle.std.proofs.Common.{Ok, Err, refl, ap, ◌∙◌, append-nil}
use Rattle.std.specs.List.{filter_map}
use Rattle.std.proofs.lemmas.Bool.{eq-eqb}
use Rattle.proof_tools.proofs.Booleans.{cond_either}
use Rattle.object_id.specs.declared.cause.Cause.{Cause}
use Rattle.object_id.specs.declared.entry.Entry.{Entry}
use Rattle.object_id.specs.declared.entry.Entry.TheVariants.{Format, Join, Leave, Reweight, Recovered, Reserve, Publish, Clone, Snapshot}
use Rattle.object_id.specs.declared.entry.Entry.TheVariants.{Delete, Lock, Unlock}
use Rattle.object_id.specs.declared.entry.Origin.{Origin}
use Rattle.object_id.specs.declared.node.NodeId.{NodeId}
use Rattle.object_id.specs.declared.oid.Vid.{Vid}
use Rattle.disk_lock.specs.declared.holder.Holder.{Holder}
use Rattle.epoch_log.specs.Epochs.{begins_epoch, epoch_of}
use Rattle.epoch_log.proofs.EpochLemmas.{epoch_of-append}
use Rattle.vdi_directory.specs.declared.effect.Reservation.{Reservation}
use Rattle.vdi_directory.specs.declared.effect.Source.{Source}
use Rattle.vdi_directory.specs.declared.effect.Effect.{Effect}
use Rattle.vdi_directory.specs.declared.effect.Effect.TheVariants as effects
use Rattle.vdi_directory.specs.declared.decision.Outcome.{Outcome}
use Rattle.vdi_directory.specs.Sources.{is_for, tag_for}
use Rattle.vdi_directory.specs.Effects.{reservations_of, reservation_on, holder_of}
use Rattle.vdi_directory.specs.Decisions.{nothing, silent_outcome, grant_outcome, is_held_by, is_reserved_by, reserve_outcome, publication}
use Rattle.vdi_directory.specs.Decisions.{replacement, snapshot_outcome, target, deletion, lock, release, outcome, log_effects}
use Rattle.overlap_law.specs.Grants.{leave_epoch_of, leaves_of}
use Rattle.overlap_law.proofs.ClosedReservations.{reserves_so}
use Rattle.overlap_law.proofs.GrantedEpochs.{leaves_push}

-- what an outcome does is no leave
abbrev LeavesNobody : Outcome → Type 0
LeavesNobody o = (node epoch : ℕ) → leave_epoch_of node epoch o.effect ≡ None

module _ (before : List Effect) where
  of_origin : (by : NodeId) (session : ℕ) (name : List ℕ) (origin : Origin) → LeavesNobody (reserve_outcome before by session name origin)
  of_origin by session name =
      reserves_so before by session name LeavesNobody (λ cause is node epoch. refl) (λ node epoch. refl)
      (λ source parent spec id node epoch. refl)

  of_publication : (by : NodeId) (is_right : Source → Bool) (o : Option Reservation) → LeavesNobody (publication by is_right o)
  of_publication by is_right None node epoch = refl
  of_publication by is_right (Some reservation) node epoch =
      cond_either LeavesNobody (reservation.by.0 == by.0 && is_right reservation.source)
      (grant_outcome reservation.vid (effects.Published reservation.vid reservation.name)) nothing (λ node epoch. refl) (λ node epoch. refl)
      node epoch

  of_replacement : (reservation : Reservation) (old : Vid) (tag : Option (List ℕ)) (holder : Option Holder)
      → LeavesNobody (replacement reservation old tag holder)
  of_replacement reservation old None holder node epoch = refl
  of_replacement reservation old (Some tag) None node epoch = refl
  of_replacement reservation old (Some tag) (Some holder) node epoch = refl

  of_taking : (by : NodeId) (old : Vid) (o : Option Reservation) → LeavesNobody (snapshot_outcome before by old o)
  of_taking by old None node epoch = refl
  of_taking by old (Some reservation) node epoch =
      cond_either LeavesNobody (reservation.by.0 == by.0) (replacement reservation old (tag_for old reservation.source)
      (holder_of before old.0)) nothing
      (of_replacement reservation old (tag_for old reservation.source) (holder_of before old.0)) (λ node epoch. refl) node epoch

  of_deletion : (name : List ℕ) (found : Result Vid Cause) → LeavesNobody (deletion name found)
  of_deletion name (Err cause) node epoch = refl
  of_deletion name (Ok vid) node epoch = refl

  of_lock : (holder : Holder) (is_snapshot : Bool) (found : Result Vid Cause) → LeavesNobody (lock holder is_snapshot found)
  of_lock holder is_snapshot (Err cause) node epoch = refl
  of_lock holder true (Ok vid) node epoch = refl
  of_lock holder false (Ok vid) node epoch = refl

  of_release : (by : NodeId) (session : ℕ) (vid : Vid) → LeavesNobody (release before by session vid)
  of_release by session vid =
      cond_either LeavesNobody (is_held_by by session (holder_of before vid.0)) (silent_outcome (effects.Freed vid))
      (cond (is_reserved_by by session (reservation_on vid (reservations_of before))) (silent_outcome (effects.Withdrawn vid)) nothing)
      (λ node epoch. refl)
      (cond_either LeavesNobody (is_reserved_by by session (reservation_on vid (reservations_of before)))
      (silent_outcome (effects.Withdrawn vid)) nothing
      (λ node epoch. refl) (λ node epoch. refl))

  -- an entry that begins no epoch is no leave
  plain_leaves : (entry : Entry) → begins_epoch entry ≡ false → LeavesNobody (outcome before entry)
  plain_leaves (Format members) plain node epoch = refl
  plain_leaves (Join other zone vnodes) plain node epoch = refl
  plain_leaves (Leave other) plain node epoch = absurd (cc (plain))
  plain_leaves (Reweight other vnodes) plain node epoch = refl
  plain_leaves (Recovered other of) plain node epoch = refl
  plain_leaves (Reserve by session name origin) plain node epoch = of_origin by session name origin node epoch
  plain_leaves (Publish by vid) plain node epoch = of_publication by (is_for false) (reservation_on vid (reservations_of before)) node epoch
  plain_leaves (Clone by vid) plain node epoch = of_publication by (is_for true) (reservation_on vid (reservations_of before)) node epoch
  plain_leaves (Snapshot by old vid) plain node epoch = of_taking by old (reservation_on vid (reservations_of before)) node epoch
  plain_leaves (Delete by session name tag) plain node epoch = of_deletion name (target before name tag) node epoch
  plain_leaves (Lock by session name tag) plain node epoch =
      of_lock (record { node = by; session = session }) (is_some tag) (target before name tag) node epoch
  plain_leaves (Unlock by session vid) plain node epoch = of_release by session vid node epoch

-- ---- the leaves of a node, by one entry more

abbrev told : ℕ → ℕ → Effect → List ℕ
told node epoch effect = filter_map (λ (effect : ℕ × Effect). leave_epoch_of node effect.0 effect.1) ((epoch, effect) ∷ [])

abbrev one_of : Option ℕ → List ℕ
one_of None = []
one_of (Some epoch) = epoch ∷ []

told_so : (node epoch : ℕ) (effect : Effect) (o : Option ℕ) → leave_epoch_of node epoch effect ≡ o → told node epoch effect ≡ one_of o
told_so node epoch effect o is = ap (λ (o : Option ℕ). filter_map (λ (one : Option ℕ). one) (o ∷ [])) is ∙ by_option o
  where
    by_option : (o : Option ℕ) → filter_map (λ (one : Option ℕ). one) (o ∷ []) ≡ one_of o
    by_option None = refl
    by_option (Some epoch) = refl

pub leaves_so : (log : List Entry) (entry : Entry) (node : ℕ) (o : Option ℕ)
    → leave_epoch_of node (epoch_of (log ++ entry ∷ [])) (outcome (log_effects log) entry).effect ≡ o
    → leaves_of (log ++ entry ∷ []) node ≡ leaves_of log node ++ one_of o
leaves_so log entry node o is =
    leaves_push log entry node
    ∙ ap (λ (more : List ℕ). leaves_of log node ++ more) (told_so node (epoch_of (log ++ entry ∷ []))
    (outcome (log_effects log) entry).effect o is)

leaves_stay : (log : List Entry) (entry : Entry) (node : ℕ)
    → leave_epoch_of node (epoch_of (log ++ entry ∷ [])) (outcome (log_effects log) entry).effect ≡ None
    → leaves_of (log ++ entry ∷ []) node ≡ leaves_of log node
leaves_stay log entry node none = leaves_so log entry node None none ∙ append-nil (leaves_of log node)

pub leaves_plain : (log : List Entry) (entry : Entry) (node : ℕ) → begins_epoch entry ≡ false
    → leaves_of (log ++ entry ∷ []) node ≡ leaves_of log node
leaves_plain log entry node plain =
    leaves_stay log entry node (plain_leaves (log_effects log) entry plain node (epoch_of (log ++ entry ∷ [])))

pub leaves_joined : (log : List Entry) (other : NodeId) (zone vnodes node : ℕ)
    → leaves_of (log ++ Join other zone vnodes ∷ []) node ≡ leaves_of log node
leaves_joined log other zone vnodes node = leaves_stay log (Join other zone vnodes) node refl

pub leaves_weighed : (log : List Entry) (other : NodeId) (vnodes node : ℕ)
    → leaves_of (log ++ Reweight other vnodes ∷ []) node ≡ leaves_of log node
leaves_weighed log other vnodes node = leaves_stay log (Reweight other vnodes) node refl

-- a leave adds the epoch that it begins to its node's, and nothing to others'
pub leaves_own : (log : List Entry) (n : ℕ)
    → leaves_of (log ++ Leave (record { 0 = n }) ∷ []) n ≡ leaves_of log n ++ (epoch_of log + 1) ∷ []
leaves_own log n =
    let entry = Leave (record { 0 = n }) in
    leaves_so log entry n (Some (epoch_of (log ++ entry ∷ []))) (ap (λ (b : Bool). cond b (Some (epoch_of (log ++ entry ∷ []))) None)
    (eq-eqb n n refl))
    ∙ ap (λ (epoch : ℕ). leaves_of log n ++ epoch ∷ []) (epoch_of-append log (entry ∷ []))

pub leaves_other : (log : List Entry) (k n : ℕ) → (k == n) ≡ false → leaves_of (log ++ Leave (record { 0 = k }) ∷ []) n ≡ leaves_of log n
leaves_other log k n apart =
    let entry = Leave (record { 0 = k }) in
    leaves_stay log entry n (ap (λ (b : Bool). cond b (Some (epoch_of (log ++ entry ∷ []))) None) apart)
