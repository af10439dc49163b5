-- What is pending is what the node is a target of in the epoch that its recovery recovers, whatever the recovery finds; and where
-- nothing is pending, the recovery makes no rows.
use Rattle.std.proofs.Common.{◌≡◌, ⊎_elim, ℕ, ◌==◌, ◌||◌, Bool, true, false, not, cond, List, [], ◌∷◌, filter, Option, Some, None, is_some}
use Rattle.std.proofs.Common.{refl, sym, ap, ◌∙◌}
use Rattle.std.specs.FinMap as tree
use Rattle.std.specs.List.{list_any}
use Rattle.std.specs.Option.{option_map, option_map_or}
use Rattle.std.proofs.lemmas.Bool.{eqb-true, or_left, or_right, or_cases}
use Rattle.proof_tools.proofs.Booleans.{cond_either}
use Rattle.object_id.specs.declared.node.NodeId.{NodeId}
use Rattle.object_id.specs.declared.policy.Policy.{Policy}
use Rattle.object_id.specs.Oid.{kind_of}
use Rattle.gf256.specs.Part.{index_among}
use Rattle.object_list.specs.Gathered.{gathered_with_answer}
use Rattle.object_list.specs.Union.{union}
use Rattle.peer_proto.specs.declared.ask.PeerAsk.{PeerAsk}
use Rattle.peer_proto.specs.declared.ask.PeerAsk.TheVariants as asks
use Rattle.peer_proto.specs.declared.say.PeerSay.{PeerSay}
use Rattle.peer_proto.specs.declared.say.PeerSay.TheVariants as says
use Rattle.recovery.specs.Shown.{NodeView, live_policy, first_in, is_pending_object, index_in, lacks_part, lacks_own_part, is_to_recover}
use Rattle.recovery.specs.Shown.{shown_with_pending}
use Rattle.recovery.specs.State.{Message, Search, RecoveryState, still_on, search_on, is_listed, message_of}
use Rattle.recovery.specs.Level.{searching}
use Rattle.recovery.specs.Steps.{to_recover, without_unanswered, after_list, after_read, after_ask, message_end}
use Rattle.recovery.specs.Tick.{or_next, next_search, tick_messages, with_messages, state_after_tick}
use Rattle.recovery.proofs.FoundLemmas.{live_known}
use Rattle.overlap_law.proofs.RecoveryViews.{KeptByRecovery}

-- ---- whose targets a node is one of

-- the policy of an object is known, and a node is one of the object's targets in an epoch
pub record IsTargetBy (targets : ℕ → ℕ → Policy → List NodeId) (policy_of : ℕ → Option Policy) (me : NodeId) (epoch oid : ℕ)
    : Type 0 where
  pub policy : Policy
  pub known : policy_of oid ≡ Some policy
  pub among : is_some (index_among me (targets epoch oid policy) policy (kind_of oid)) ≡ true

-- a node is one of the targets of each object that is pending, as its recovery sees it
abbrev pub IsTargetOfPending : NodeId → ℕ → NodeView → Type 0
IsTargetOfPending me epoch shown = (oid : ℕ) → is_pending_object oid shown.pending ≡ true
    → IsTargetBy shown.targets shown.policy_of me epoch oid

-- what is to be recovered is such an object
target_of : (me : NodeId) (epoch : ℕ) (shown : NodeView) (oid : ℕ) → is_to_recover me epoch shown oid ≡ true
    → IsTargetBy shown.targets shown.policy_of me epoch oid
target_of me epoch shown oid is = by_policy (live_policy shown oid) refl is
  where
    by_policy : (o : Option Policy) → live_policy shown oid ≡ o → option_map_or (lacks_own_part me epoch shown oid) o false ≡ true
        → IsTargetBy shown.targets shown.policy_of me epoch oid
    by_policy None live is = absurd (cc (is))
    by_policy (Some policy) live is = record {
      policy = policy;
      known = live_known shown oid policy live;
      among = by_index (index_in shown epoch oid policy me) is;
    }
      where
        by_index : (o : Option ℕ) → option_map_or (lacks_part shown.rows oid) o false ≡ true → is_some o ≡ true
        by_index None is = absurd (cc (is))
        by_index (Some index) is = refl

-- ---- what is pending after a filter

-- whether an object is among some
abbrev is_among : ℕ → List ℕ → Bool
is_among oid oids = list_any (λ (other : ℕ). other == oid) oids

passes_filtered : (test : ℕ → Bool) (oid : ℕ) (oids : List ℕ) → is_among oid (filter test oids) ≡ true → test oid ≡ true
passes_filtered test oid [] is = absurd (cc (is))
passes_filtered test oid (first ∷ rest) is = by_test (test first) refl is (λ later. passes_filtered test oid rest later)
  where
    by_test : (b : Bool) → test first ≡ b → is_among oid (cond b (first ∷ filter test rest) (filter test rest)) ≡ true
        → (is_among oid (filter test rest) ≡ true → test oid ≡ true) → test oid ≡ true
    by_test true passes is later = ⊎_elim
        (λ (here : (first == oid) ≡ true). ap test (sym (eqb-true first oid here)) ∙ passes)
        (λ (behind : is_among oid (filter test rest) ≡ true). later behind)
        (or_cases (first == oid) (is_among oid (filter test rest)) is)
    by_test false goes is later = later is

was_among : (test : ℕ → Bool) (oid : ℕ) (oids : List ℕ) → is_among oid (filter test oids) ≡ true → is_among oid oids ≡ true
was_among test oid [] is = absurd (cc (is))
was_among test oid (first ∷ rest) is = by_test (test first) is (λ later. was_among test oid rest later)
  where
    by_test : (b : Bool) → is_among oid (cond b (first ∷ filter test rest) (filter test rest)) ≡ true
        → (is_among oid (filter test rest) ≡ true → is_among oid rest ≡ true) → ((first == oid) || is_among oid rest) ≡ true
    by_test true is later = ⊎_elim
        (λ (here : (first == oid) ≡ true). or_left (first == oid) (is_among oid rest) here)
        (λ (behind : is_among oid (filter test rest) ≡ true). or_right (first == oid) (is_among oid rest) (later behind))
        (or_cases (first == oid) (is_among oid (filter test rest)) is)
    by_test false is later = or_right (first == oid) (is_among oid rest) (later is)

pub pending_before : (test : ℕ → Bool) (oid : ℕ) (pending : Option (List ℕ))
    → is_pending_object oid (option_map (filter test) pending) ≡ true → is_pending_object oid pending ≡ true
pending_before test oid None is = absurd (cc (is))
pending_before test oid (Some oids) is = was_among test oid oids is

-- ---- the steps of a recovery

pub kept_targets : KeptByRecovery IsTargetOfPending
kept_targets = record {
  listed = λ state is oid pending.
      target_of state.recovery.me state.recovery.epoch state.shown oid
      (passes_filtered (is_to_recover state.recovery.me state.recovery.epoch state.shown) oid
      (union state.recovery.lists.objects (tree.keys state.shown.rows)) pending);
  gone = λ state oid is other pending. is other (pending_before (λ (k : ℕ). not (k == oid)) other state.shown.pending pending);
  found = λ state search policy bytes searched is other pending.
      is other (pending_before (λ (k : ℕ). not (k == search.oid)) other state.shown.pending pending);
}

-- what is first among the pending is pending
pub first_pending : (pending : Option (List ℕ)) (oid : ℕ) → first_in pending ≡ None → is_pending_object oid pending ≡ true → ⊥
first_pending None oid none is = cc (is)
first_pending (Some []) oid none is = cc (is)
first_pending (Some (first ∷ rest)) oid none is = cc (none)

-- ---- where nothing is pending no row is made

-- nothing is searched then
none_searched : (pending : Option (List ℕ)) (o : Option Search) → first_in pending ≡ None → still_on pending o ≡ None
none_searched pending None none = refl
none_searched pending (Some search) none = by_pending (is_pending_object search.oid pending) refl
  where
    by_pending : (b : Bool) → is_pending_object search.oid pending ≡ b → cond b (Some search) None ≡ None
    by_pending true is = absurd (first_pending pending search.oid none is)
    by_pending false is = refl

module _ (state : RecoveryState) (none : first_in state.shown.pending ≡ None) where
  -- the rows are as they were
  abbrev HasRows : RecoveryState → Type 0
  HasRows next = next.shown.rows ≡ state.shown.rows

  no_next : next_search state ≡ None
  no_next =
      (λ i. or_next state.recovery.epoch (none i) (none_searched state.shown.pending state.recovery.search none i))

  pub rows-after_tick : (first : ℕ) → (state_after_tick first state).shown.rows ≡ state.shown.rows
  unfolding state_after_tick
  rows-after_tick first =
      let sent : RecoveryState = with_messages (tick_messages first state) state in
      cond_either HasRows (is_listed state.recovery)
      (option_map_or (λ (search : Search). searching search sent) (next_search state) sent) sent
      (ap (λ (o : Option Search). (option_map_or (λ (search : Search). searching search sent) o sent).shown.rows) no_next) refl

  after_listing : (from : NodeId) (said : Option PeerSay) (rest : RecoveryState) → HasRows rest → HasRows (after_list from said rest)
  after_listing from None rest same = same
  after_listing from (Some says.Success) rest same = same
  after_listing from (Some (says.Piece bytes)) rest same = same
  after_listing from (Some (says.Objects oids)) rest same =
      let heard : RecoveryState
      = record rest { recovery = record rest.recovery { lists = gathered_with_answer from oids rest.recovery.lists } } in
      cond_either HasRows (is_listed heard.recovery) (record heard { shown = shown_with_pending (to_recover heard) heard.shown }) heard same
      same
  after_listing from (Some (says.Row row)) rest same = same
  after_listing from (Some says.NoRow) rest same = same
  after_listing from (Some (says.Refused refusal)) rest same = same

  module _ (number : ℕ) (said : Option PeerSay) where
    abbrev rest : RecoveryState
    rest = without_unanswered number state

    after_reading : (oid : ℕ) (from : NodeId) → HasRows (after_read oid from said (search_on rest) rest)
    after_reading oid from =
        ap (λ (o : Option Search). (after_read oid from said o rest).shown.rows)
        (none_searched state.shown.pending state.recovery.search none)

    after_asking : (ask : PeerAsk) (from : NodeId) → HasRows (after_ask ask from said rest)
    after_asking (asks.Create key size offset bytes) from = refl
    after_asking (asks.Write key offset bytes) from = refl
    after_asking (asks.Read key offset size) from = refl
    after_asking asks.List from = after_listing from said rest refl
    after_asking (asks.RecoverRead oid level) from = after_reading oid from

    by_message : (o : Option Message)
        → HasRows (option_map_or (λ (message : Message). after_ask message.request.ask message.to said rest) o rest)
    by_message None = refl
    by_message (Some message) = after_asking message.request.ask message.to

    pub rows-after_end : (message_end number said state).shown.rows ≡ state.shown.rows
    rows-after_end = by_message (message_of number state.recovery.unanswered)
