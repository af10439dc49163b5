-- What is pending at a node is lacked: the node knows the object's policy, is one of its targets in the recovered epoch, and has no open
-- row of it. Each step of a recovery keeps that, where the node's open rows are of its own index in that epoch.
use Rattle.std.proofs.Common.{◌≡◌, ◌≢◌, ⊎_elim, ℕ, ◌-◌, ◌==◌, nat_eq, ◌&&◌, not, Bool, true, false, cond, List, [], ◌∷◌, ◌++◌, length}
use Rattle.std.proofs.Common.{filter, Option, Some, None, is_some, option_map, unwrap_or, refl, sym, ap, subst, ◌∙◌}
use Rattle.std.specs.Option.{option_map_or}
use Rattle.std.specs.List.{AllByRecursion}
use Rattle.std.specs.FinMap as tree
use Rattle.std.proofs.lemmas.Bool.{cases_eq, eq-eqb}
use Rattle.std.proofs.lemmas.Option.{same_Some}
use Rattle.proof_tools.proofs.Booleans.{cond_either}
use Rattle.object_id.specs.Fields.{zeros}
use Rattle.object_id.specs.Oid.{kind_of}
use Rattle.object_id.specs.Piece.{laid_over}
use Rattle.object_id.specs.declared.node.NodeId.{NodeId}
use Rattle.object_id.specs.declared.policy.Policy.{Policy}
use Rattle.gf256.specs.Part.{index_among}
use Rattle.object_store.specs.Rows.{is_open, open_at, is_replaced, ended}
use Rattle.object_store.specs.Store.{AllRows, SeenRow, rows_of, create_in}
use Rattle.object_store.proofs.RowLemmas.{AllClosed, closed_all-closed}
use Rattle.object_store.proofs.StoreLaws.{rows_of-insert_same, rows_of-insert_other}
use Rattle.recovery.specs.Shown.{NodeView, live_policy, is_pending_object, index_in, lacks_part, lacks_own_part, is_to_recover}
use Rattle.recovery.specs.Shown.{shown_with_pending, with_row}
use Rattle.recovery.specs.State.{RecoveryState, is_listed}
use Rattle.recovery.specs.Steps.{to_recover, at_start, recovery_from_epoch}
use Rattle.overlap_law.proofs.FirstSearches.{any_filtered}
use Rattle.overlap_law.proofs.RecoveryViews.{KeptByRecovery}
use Rattle.object_list.specs.Union.{union}

-- an object's policy is known, the node is a target of it in the epoch, and its rows are closed
pub record IsLackedBy (me : NodeId) (epoch : ℕ) (policy_of : ℕ → Option Policy) (targets : ℕ → ℕ → Policy → List NodeId) (rows : AllRows)
    (oid : ℕ) : Type 0 where
  pub policy : Policy
  pub policy_so : policy_of oid ≡ Some policy
  pub index : ℕ
  pub index_so : index_among me (targets epoch oid policy) policy (kind_of oid) ≡ Some index
  pub shut : AllClosed (rows_of rows oid)

-- so is each pending object
abbrev pub PendingIsLackedBy : NodeId → ℕ → (ℕ → Option Policy) → (ℕ → ℕ → Policy → List NodeId) → AllRows → Option (List ℕ) → Type 0
PendingIsLackedBy me epoch policy_of targets rows pending =
    (oid : ℕ) → is_pending_object oid pending ≡ true → IsLackedBy me epoch policy_of targets rows oid

abbrev pub PendingIsLackedIn : NodeId → ℕ → NodeView → Type 0
PendingIsLackedIn me epoch shown = PendingIsLackedBy me epoch shown.policy_of shown.targets shown.rows shown.pending

-- the open rows of an object are of the node's index in the epoch
abbrev pub OpenRowsAreOwn : NodeId → ℕ → NodeView → Type 0
OpenRowsAreOwn me epoch shown = (oid : ℕ) (policy : Policy) → shown.policy_of oid ≡ Some policy
    → AllByRecursion (λ row. is_open row ≡ true → index_in shown epoch oid policy me ≡ Some row.index) (rows_of shown.rows oid)

-- both
pub record IsInPlace (me : NodeId) (epoch : ℕ) (shown : NodeView) : Type 0 where
  pub own : OpenRowsAreOwn me epoch shown
  pub lacked : PendingIsLackedIn me epoch shown

-- what is pending where some of it went was pending
pub pending_before : (p : ℕ → Bool) (pending : Option (List ℕ)) (oid : ℕ) → is_pending_object oid (option_map (filter p) pending) ≡ true
    → (is_pending_object oid pending ≡ true) × (p oid ≡ true)
pending_before p None oid there = absurd (cc (there))
pending_before p (Some oids) oid there = any_filtered p oids oid there

pub not_itself : (oid other : ℕ) → not (oid == other) ≡ true → oid ≢ other
not_itself oid other apart same =
    let tie : (oid == other) ≡ true = eq-eqb oid other same in
    let no : not (oid == other) ≡ false = ap not tie in
    absurd (cc (apart, no))

-- ---- what is to be recovered is lacked

-- where no open row is of an index, and each open one would be, none is open
none_open : (index : ℕ) (o : Option ℕ) → o ≡ Some index → (rows : List SeenRow)
    → AllByRecursion (λ row. is_open row ≡ true → o ≡ Some row.index) rows → not (is_some (open_at index rows)) ≡ true → AllClosed rows
none_open index o at [] own none = tt
none_open index o at (row ∷ rows) own none =
    by_open (is_open row) refl (λ later. none_open index o at rows own.1 later) none
  where
    by_open : (b : Bool) → is_open row ≡ b → (not (is_some (open_at index rows)) ≡ true → AllClosed rows)
        → not (is_some (cond (b && nat_eq row.index index) (Some row) (open_at index rows))) ≡ true → AllClosed (row ∷ rows)
    by_open true still rest none =
        let same : index ≡ row.index = same_Some index row.index (sym at ∙ own.0 still) in
        let tie : nat_eq row.index index ≡ true = eq-eqb row.index index (sym same) in
        let no : not (is_some (cond true (Some row) (open_at index rows))) ≡ true
        = ap (λ (b : Bool). not (is_some (cond b (Some row) (open_at index rows)))) (sym tie) ∙ none in
        absurd (cc (no))
    by_open false shut rest none = (shut, rest none)

module _ (me : NodeId) (epoch : ℕ) (shown : NodeView) (own : OpenRowsAreOwn me epoch shown) where
  abbrev Lacked : ℕ → Type 0
  Lacked oid = IsLackedBy me epoch shown.policy_of shown.targets shown.rows oid

  by_index : (oid : ℕ) (policy : Policy) → shown.policy_of oid ≡ Some policy → (o : Option ℕ) → index_in shown epoch oid policy me ≡ o
      → option_map_or (lacks_part shown.rows oid) o false ≡ true → Lacked oid
  by_index oid policy known None at lacks = absurd (cc (lacks))
  by_index oid policy known (Some index) at lacks = record {
    policy = policy;
    policy_so = known;
    index = index;
    index_so = at;
    shut = none_open index (index_in shown epoch oid policy me) at (rows_of shown.rows oid) (own oid policy known) lacks;
  }

  by_policy : (oid : ℕ) (dead : Bool) (o : Option Policy) → shown.policy_of oid ≡ o
      → option_map_or (lacks_own_part me epoch shown oid) (cond dead None o) false ≡ true → Lacked oid
  by_policy oid true o known lacks = absurd (cc (lacks))
  by_policy oid false None known lacks = absurd (cc (lacks))
  by_policy oid false (Some policy) known lacks =
      by_index oid policy known (index_in shown epoch oid policy me) refl lacks

  pub to_recover-lacked : (oid : ℕ) → is_to_recover me epoch shown oid ≡ true → Lacked oid
  to_recover-lacked oid lacks = by_policy oid (shown.is_dead oid) (shown.policy_of oid) refl lacks

-- ---- steps of a recovery

listed_lacked : (state : RecoveryState) → OpenRowsAreOwn state.recovery.me state.recovery.epoch state.shown
    → PendingIsLackedIn state.recovery.me state.recovery.epoch (shown_with_pending (to_recover state) state.shown)
listed_lacked state own oid there =
    to_recover-lacked state.recovery.me state.recovery.epoch state.shown own oid
    (any_filtered (is_to_recover state.recovery.me state.recovery.epoch state.shown)
    (union state.recovery.lists.objects (tree.keys state.shown.rows)) oid there).1

-- closed rows have no open one
pub closed_own : (o : Option ℕ) (rows : List SeenRow) → AllClosed rows
    → AllByRecursion (λ row. is_open row ≡ true → o ≡ Some row.index) rows
closed_own o [] shut = tt
closed_own o (row ∷ rows) shut = (λ still. absurd (let closed = shut.0 in cc (closed, still)), closed_own o rows shut.1)

-- where the row of an object is put that was lacked
module _ (me : NodeId) (epoch : ℕ) (shown : NodeView) (is : IsInPlace me epoch shown) (oid : ℕ)
    (pending : is_pending_object oid shown.pending ≡ true) (policy : Policy) (known : shown.policy_of oid ≡ Some policy)
    (size : ℕ) (bytes : List ℕ) where
  abbrev index : ℕ
  index = unwrap_or (index_in shown epoch oid policy me) 0

  abbrev put : NodeView
  put = with_row (record { oid = oid; index = index }) size bytes shown

  abbrev new_rows : List SeenRow
  new_rows = create_in index shown.epoch size 0 bytes (rows_of shown.rows oid)

  -- the node's index is there
  index_there : index_in shown epoch oid policy me ≡ Some index
  index_there =
      let lacked = is.lacked oid pending in
      let same : lacked.policy ≡ policy = same_Some lacked.policy policy (sym lacked.policy_so ∙ known) in
      let at : index_in shown epoch oid policy me ≡ Some lacked.index
      = subst (λ (p : Policy). index_among me (shown.targets epoch oid p) p (kind_of oid) ≡ Some lacked.index) same lacked.index_so in
      at ∙ ap (λ (o : Option ℕ). Some (unwrap_or o 0)) (sym at)

  pushed_own : (o : Option ℕ) (rows : List SeenRow) (new : SeenRow) → AllByRecursion (λ row. is_open row ≡ true → o ≡ Some row.index) rows
      → o ≡ Some new.index → AllByRecursion (λ row. is_open row ≡ true → o ≡ Some row.index) (rows ++ new ∷ [])
  pushed_own o [] new all at = (λ still. at, tt)
  pushed_own o (row ∷ rows) new all at = (all.0, pushed_own o rows new all.1 at)

  new_own : AllByRecursion (λ row. is_open row ≡ true → index_in shown epoch oid policy me ≡ Some row.index) new_rows
  new_own =
      let new : SeenRow = record { index = index; from = record { 0 = shown.epoch }; to = None; bytes = laid_over (zeros size) 0 bytes } in
      let kept : List SeenRow = filter (λ (row : SeenRow). not (is_replaced shown.epoch row)) (rows_of shown.rows oid) in
      pushed_own (index_in shown epoch oid policy me) (ended shown.epoch (rows_of shown.rows oid)) new
      (closed_own (index_in shown epoch oid policy me) (ended shown.epoch (rows_of shown.rows oid))
      (closed_all-closed (shown.epoch - 1) kept))
      index_there

  put_own : OpenRowsAreOwn me epoch put
  put_own other other_policy other_known = ⊎_elim
      (λ (same : other ≡ oid).
      let policies : policy ≡ other_policy
      = same_Some policy other_policy (sym known ∙ ap shown.policy_of (sym same) ∙ other_known) in
      subst (λ (p : Policy). AllByRecursion (λ row. is_open row ≡ true → index_in shown epoch other p me ≡ Some row.index)
      (rows_of put.rows other)) policies
      (subst (λ (q : ℕ). AllByRecursion (λ row. is_open row ≡ true → index_in shown epoch q policy me ≡ Some row.index)
      (rows_of put.rows q)) (sym same)
      (subst (AllByRecursion (λ row. is_open row ≡ true → index_in shown epoch oid policy me ≡ Some row.index))
      (sym (rows_of-insert_same shown.rows oid new_rows)) new_own)))
      (λ (apart : other ≢ oid).
      subst (AllByRecursion (λ row. is_open row ≡ true → index_in shown epoch other other_policy me ≡ Some row.index))
      (sym (rows_of-insert_other shown.rows oid new_rows other apart)) (is.own other other_policy other_known))
      (cases_eq other oid)

  put_lacked : PendingIsLackedIn me epoch put
  put_lacked other there =
      let (was, apart) = pending_before (λ k. not (k == oid)) shown.pending other there in
      let lacked = is.lacked other was in
      record {
        policy = lacked.policy;
        policy_so = lacked.policy_so;
        index = lacked.index;
        index_so = lacked.index_so;
        shut = subst AllClosed (sym (rows_of-insert_other shown.rows oid new_rows other (not_itself other oid apart))) lacked.shut;
      }

  pub put-in_place : IsInPlace me epoch put
  put-in_place = record { own = put_own; lacked = put_lacked }

known_live : (shown : NodeView) (oid : ℕ) (policy : Policy) → live_policy shown oid ≡ Some policy → shown.policy_of oid ≡ Some policy
known_live shown oid policy live = by_dead (shown.is_dead oid) live
  where
    by_dead : (b : Bool) → cond b None (shown.policy_of oid) ≡ Some policy → shown.policy_of oid ≡ Some policy
    by_dead true live = absurd (cc (live))
    by_dead false live = live

pub in_place-kept : KeptByRecovery IsInPlace
in_place-kept = record {
  listed = λ state is. record { own = is.own; lacked = listed_lacked state is.own };
  gone = λ state oid is. record {
    own = is.own;
    lacked = λ other there. is.lacked other (pending_before (λ k. not (k == oid)) state.shown.pending other there).0;
  };
  found = λ state search policy bytes searched is.
      put-in_place state.recovery.me state.recovery.epoch state.shown is search.oid searched.pending policy
      (known_live state.shown search.oid policy searched.policy_so) (length bytes) bytes;
}

-- ---- a recovery begins

pub begun_lacked : (epoch : ℕ) (members : List NodeId) (state : RecoveryState) → OpenRowsAreOwn state.recovery.me epoch state.shown
    → PendingIsLackedBy (recovery_from_epoch epoch members state).recovery.me (recovery_from_epoch epoch members state).recovery.epoch
    state.shown.policy_of state.shown.targets (recovery_from_epoch epoch members state).shown.rows
    (recovery_from_epoch epoch members state).shown.pending
unfolding recovery_from_epoch
begun_lacked epoch members state own =
    let begun : RecoveryState = at_start epoch members state in
    cond_either
    (λ (s : RecoveryState).
    PendingIsLackedBy s.recovery.me s.recovery.epoch state.shown.policy_of state.shown.targets s.shown.rows s.shown.pending)
    (is_listed begun.recovery) (record begun { shown = shown_with_pending (to_recover begun) begun.shown }) begun
    (listed_lacked begun own) (λ oid there. absurd (cc (there)))
