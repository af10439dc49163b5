-- Of whatever log: after a node's leave an id is its session's only by a later grant, so that is of the leave's epoch or a later one.
use Rattle.std.proofs.Common.{◌≡◌, ◌⊎◌, inl, inr, ⊎_elim, arith, ℕ, zero, suc, ◌-◌, ◌≤◌, ◌==◌, not, Bool, true, false, cond, List, [], ◌∷◌}
use Rattle.std.proofs.Common.{◌++◌, filter, Option, Some, None, slice_get, refl, sym, ap, ◌∙◌}
use Rattle.std.specs.List.{filter_map, find}
use Rattle.std.proofs.lemmas.Bool.{eq-eqb, eqb-true}
use Rattle.std.proofs.lemmas.Option.{same_Some}
use Rattle.object_id.specs.declared.entry.Entry.{Entry}
use Rattle.object_id.specs.declared.node.NodeId.{NodeId}
use Rattle.disk_lock.specs.declared.holder.Holder.{Holder}
use Rattle.disk_lock.specs.Locks.{is_of_node, without_node}
use Rattle.epoch_log.specs.Epochs.{epoch_of}
use Rattle.vdi_directory.specs.declared.effect.Effect.{Effect}
use Rattle.vdi_directory.specs.declared.effect.Effect.TheVariants as effects
use Rattle.vdi_directory.specs.declared.effect.Reservation.{Reservation}
use Rattle.vdi_directory.specs.Decisions.{outcome, log_effects}
use Rattle.vdi_directory.specs.Effects.{reservations_of, holder_of}
use Rattle.vdi_directory.proofs.LawfulEntries.{in-find}
use Rattle.vdi_directory.proofs.SoundEffects.{in-filter}
use Rattle.vdi_directory.proofs.StateLemmas.{log_effects-push}
use Rattle.overlap_law.specs.Grants.{gives, granted_in, leave_epoch_of, leaves_of, leave_of, reserver, writer_of}
use Rattle.overlap_law.proofs.DatedEffects.{epoch_rises, last_epoch-push}
use Rattle.overlap_law.proofs.GoneInRuns.{leaves_none}
use Rattle.overlap_law.proofs.GrantedEpochs.{from_front, leaves_push}
use Rattle.overlap_law.proofs.KnownFates.{got_either}
use Rattle.overlap_law.proofs.WriterChanges.{writer_by, writer-after, entry_gives_writer}

-- ---- a leave

abbrev is_on : ℕ → Reservation → Bool
is_on vid reservation = reservation.vid.0 == vid

abbrev stays_with : NodeId → Reservation → Bool
stays_with node reservation = not (reservation.by.0 == node.0)

-- who may write behind a node's leave isn't of the node
left_by_parts : (vid : ℕ) (node : NodeId) (all : List Reservation) (held : Option Holder) (writer : Holder) → writer.node.0 ≡ node.0
    → writer_by (find (is_on vid) (filter (stays_with node) all)) (without_node node.0 held) ≡ Some writer → ⊥
left_by_parts vid node all held writer own = by_found (find (is_on vid) (filter (stays_with node) all)) refl
  where
    by_holder : (held : Option Holder) → without_node node.0 held ≡ Some writer → ⊥
    by_holder None is = absurd (cc (is))
    by_holder (Some holder) is = by_test (is_of_node node.0 holder) refl is
      where
        by_test : (b : Bool) → is_of_node node.0 holder ≡ b → cond b None (Some holder) ≡ Some writer → ⊥
        by_test true leaves is = absurd (cc (is))
        by_test false stays is =
            let same : holder ≡ writer = same_Some holder writer is in
            let at : holder.node.0 ≡ node.0 = ap (λ (h : Holder). h.node.0) same ∙ own in
            let gone = eq-eqb holder.node.0 node.0 at in
            cc (gone, stays)

    by_found : (o : Option Reservation) → find (is_on vid) (filter (stays_with node) all) ≡ o
        → writer_by o (without_node node.0 held) ≡ Some writer → ⊥
    by_found None none is = by_holder held is
    by_found (Some reservation) found is =
        let same : reserver reservation ≡ writer = same_Some (reserver reservation) writer is in
        let at : reservation.by.0 ≡ node.0 = ap (λ (h : Holder). h.node.0) same ∙ own in
        let there = (in-find (is_on vid) reservation (filter (stays_with node) all) found).0 in
        let stays = (in-filter (stays_with node) reservation all there).1 in
        let gone = ap not (eq-eqb reservation.by.0 node.0 at) in
        cc (gone, stays)

pub left_loses : (before : List Effect) (vid : ℕ) (node : NodeId) (writer : Holder) → writer.node.0 ≡ node.0
    → writer_of (before ++ effects.Left node ∷ []) vid ≡ Some writer → ⊥
left_loses before vid node writer own is =
    left_by_parts vid node (reservations_of before) (holder_of before vid) writer own
    (sym (writer-after before (effects.Left node) vid) ∙ is)

-- an effect that is a leave
pub record IsLeave (node epoch found : ℕ) (effect : Effect) : Type 0 where
  pub other : NodeId
  pub is : effect ≡ effects.Left other
  pub own : other.0 ≡ node
  pub newest : found ≡ epoch

is_leave : (node epoch found : ℕ) (effect : Effect) → leave_epoch_of node epoch effect ≡ Some found → IsLeave node epoch found effect
is_leave node epoch found effects.Nothing is = absurd (cc (is))
is_leave node epoch found (effects.Reserved grant) is = absurd (cc (is))
is_leave node epoch found (effects.Published vid name) is = absurd (cc (is))
is_leave node epoch found (effects.Snapped snap) is = absurd (cc (is))
is_leave node epoch found (effects.Deleted vid name) is = absurd (cc (is))
is_leave node epoch found (effects.Held vid holder) is = absurd (cc (is))
is_leave node epoch found (effects.Freed vid) is = absurd (cc (is))
is_leave node epoch found (effects.Withdrawn vid) is = absurd (cc (is))
is_leave node epoch found (effects.Left other) is = by_test (other.0 == node) refl is
  where
    by_test : (b : Bool) → (other.0 == node) ≡ b → cond b (Some epoch) None ≡ Some found → IsLeave node epoch found (effects.Left other)
    by_test true own is = record { other = other; is = refl; own = eqb-true other.0 node own; newest = sym (same_Some epoch found is) }
    by_test false own is = absurd (cc (is))

got_new : {X : Type 0} (told : X → Option ℕ) (x : X) (k found : ℕ) → slice_get (filter_map told (x ∷ [])) k ≡ Some found
    → told x ≡ Some found
got_new {X} told x k found got = by_option (told x) k got
  where
    by_option : (o : Option ℕ) (k : ℕ) → slice_get (filter_map (λ (one : Option ℕ). one) (o ∷ [])) k ≡ Some found → o ≡ Some found
    by_option None k got = absurd (cc (got))
    by_option (Some one) zero got = got
    by_option (Some one) (suc k) got = absurd (cc (got))

-- ---- one entry more

module _ (log : List Entry) (entry : Entry) where
  abbrev longer : List Entry
  longer = log ++ entry ∷ []

  abbrev does : Effect
  does = (outcome (log_effects log) entry).effect

  -- a leave was there, or the entry is it
  pub leave_either : (node incarnation left : ℕ) → leave_of longer node incarnation ≡ Some left
      → (leave_of log node incarnation ≡ Some left) ⊎ IsLeave node (epoch_of longer) left does
  leave_either node incarnation left is =
      by_place (got_either (leaves_of log node)
      (filter_map (λ (effect : ℕ × Effect). leave_epoch_of node effect.0 effect.1) ((epoch_of longer, does) ∷ [])) (incarnation - 1) left
      (sym (ap (λ (all : List ℕ). slice_get all (incarnation - 1)) (leaves_push log entry node)) ∙ is))
    where
      by_place : (slice_get (leaves_of log node) (incarnation - 1) ≡ Some left) ⊎ ((k : ℕ) × (slice_get (filter_map
          (λ (effect : ℕ × Effect). leave_epoch_of node effect.0 effect.1) ((epoch_of longer, does) ∷ [])) k ≡ Some left))
          → (leave_of log node incarnation ≡ Some left) ⊎ IsLeave node (epoch_of longer) left does
      by_place (inl old) = inl old
      by_place (inr new) = inr (is_leave node (epoch_of longer) left does
          (got_new (λ (effect : ℕ × Effect). leave_epoch_of node effect.0 effect.1) (epoch_of longer, does) new.0 left new.1))

-- a leave is of no later epoch than the log's
abbrev LeavesAreWithin : List Entry → Type 0
LeavesAreWithin log = (node incarnation left : ℕ) → leave_of log node incarnation ≡ Some left → left ≤ epoch_of log

leaves_within : (log : List Entry) → LeavesAreWithin log
leaves_within log = from_front LeavesAreWithin next [] log none
  where
    none : LeavesAreWithin []
    none node incarnation left is =
        let nothing : None ≡ Some left = sym (ap (λ (all : List ℕ). slice_get all (incarnation - 1)) (leaves_none node)) ∙ is in
        absurd (cc (nothing))

    next : (log : List Entry) (entry : Entry) → LeavesAreWithin log → LeavesAreWithin (log ++ entry ∷ [])
    next log entry within node incarnation left is = ⊎_elim
        (λ (old : leave_of log node incarnation ≡ Some left).
        let most = within node incarnation left old in
        let rises = epoch_rises log entry in
        omega (arith, most, rises))
        (λ (new : IsLeave node (epoch_of (log ++ entry ∷ [])) left (outcome (log_effects log) entry).effect).
        let newest = new.newest in
        omega (arith, newest))
        (leave_either log entry node incarnation left is)

-- the grant of who may write an id is of no earlier epoch than a leave of its node
abbrev GrantsAreLater : List Entry → Type 0
GrantsAreLater log = (vid incarnation left : ℕ) (writer : Holder) → writer_of (log_effects log) vid ≡ Some writer
    → leave_of log writer.node.0 incarnation ≡ Some left → left ≤ granted_in log vid

pub grants_are_later : (log : List Entry) → GrantsAreLater log
grants_are_later log = from_front GrantsAreLater next [] log none
  where
    none : GrantsAreLater []
    none vid incarnation left writer may is =
        let nothing : None ≡ Some left = sym (ap (λ (all : List ℕ). slice_get all (incarnation - 1)) (leaves_none writer.node.0)) ∙ is in
        absurd (cc (nothing))

    next : (log : List Entry) (entry : Entry) → GrantsAreLater log → GrantsAreLater (log ++ entry ∷ [])
    next log entry later vid incarnation left writer may is = by_gift (gives vid does_now) refl
      where
        after : List Entry
        after = log ++ entry ∷ []

        does_now : Effect
        does_now = (outcome (log_effects log) entry).effect

        granted : (b : Bool) → gives vid does_now ≡ b → granted_in after vid ≡ cond b (epoch_of after) (granted_in log vid)
        granted b is = last_epoch-push (gives vid) log entry ∙ ap (λ c. cond c (epoch_of after) (granted_in log vid)) is

        by_gift : (b : Bool) → gives vid does_now ≡ b → left ≤ granted_in after vid
        by_gift true given =
            let newest = granted true given in
            let most = leaves_within after writer.node.0 incarnation left is in
            omega (arith, newest, most)
        by_gift false kept = ⊎_elim
            (λ (old : leave_of log writer.node.0 incarnation ≡ Some left). ⊎_elim
            (λ (was : writer_of (log_effects log) vid ≡ Some writer).
            let most = later vid incarnation left writer was old in
            let same = granted false kept in
            omega (arith, most, same))
            (λ (given : gives vid does_now ≡ true). absurd (cc (given, kept)))
            (entry_gives_writer log entry vid writer may))
            (λ (new : IsLeave writer.node.0 (epoch_of after) left does_now).
            let behind : writer_of (log_effects log ++ effects.Left new.other ∷ []) vid ≡ Some writer
            = sym (ap (λ (all : List Effect). writer_of all vid) (log_effects-push log entry
            ∙ ap (λ (effect : Effect). log_effects log ++ effect ∷ []) new.is)) ∙ may in
            absurd (left_loses (log_effects log) vid new.other writer (sym new.own) behind))
            (leave_either log entry writer.node.0 incarnation left is)
