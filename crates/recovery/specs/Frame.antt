-- What the steps of a recovery keep.
use Rattle.std.specs.Prelude.{◌≡◌, ℕ, Bool, false, List, Option, None}
use Rattle.object_id.specs.declared.node.NodeId.{NodeId}
use Rattle.object_id.specs.declared.policy.Policy.{Policy}
use Rattle.recovery.specs.State.{Message, RecoveryState, is_listed}

-- what a tick and the end of a message leave, but for the messages that they send and end: the node, the epoch that is
-- recovered with its members, the unanswered messages, and all that the node shows beside its rows and what is pending
pub record Frame : Type 0 where
  pub me : NodeId
  pub recovered : ℕ
  pub members : List NodeId
  pub unanswered : List Message
  pub older : List Message
  pub epoch : ℕ
  pub settled : ℕ
  pub policy_of : ℕ → Option Policy
  pub is_dead : ℕ → Bool
  pub size_of : ℕ → Option ℕ
  pub targets : ℕ → ℕ → Policy → List NodeId

-- the frame of a state
abbrev pub frame : RecoveryState → Frame
frame state = record {
  me = state.recovery.me;
  recovered = state.recovery.epoch;
  members = state.recovery.members;
  unanswered = state.recovery.unanswered;
  older = state.recovery.older;
  epoch = state.shown.epoch;
  settled = state.shown.settled;
  policy_of = state.shown.policy_of;
  is_dead = state.shown.is_dead;
  size_of = state.shown.size_of;
  targets = state.shown.targets;
}

-- while a member hasn't named its objects, nothing is known to be pending, and nothing is searched
abbrev pub WaitsForLists : RecoveryState → Type 0
WaitsForLists state = is_listed state.recovery ≡ false → (state.shown.pending ≡ None) × (state.recovery.search ≡ None)
