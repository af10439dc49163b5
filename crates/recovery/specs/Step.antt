-- What a recovery and its node are to be so that the recovery can make a step.
use Rattle.std.specs.Prelude.{◌≡◌, ℕ, ◌*◌, ◌^◌, ◌<◌, ◌≤◌, List, [], ◌∷◌, length, All, Some}
use Rattle.std.specs.Option.{IfSome}
use Rattle.object_id.specs.declared.limits.TheConstants.{NODES_MAX, TARGETS_MAX}
use Rattle.object_id.specs.declared.policy.Policy.{Policy}
use Rattle.object_id.specs.Oid.{kind_of}
use Rattle.object_id.specs.Policy.{IsPolicy, need_of}
use Rattle.gf256.specs.Part.{IsAligned}
use Rattle.object_store.specs.declared.row.RowCopy.{RowCopy}
use Rattle.peer_proto.specs.declared.ask.PeerAsk.{PeerAsk}
use Rattle.peer_proto.specs.declared.ask.PeerAsk.TheVariants as asks
use Rattle.peer_proto.specs.declared.say.PeerSay.{PeerSay}
use Rattle.peer_proto.specs.declared.say.PeerSay.TheVariants as says
use Rattle.recovery.specs.Shown.{NodeView}
use Rattle.recovery.specs.declared.search.RowAnswer.{RowAnswer}
use Rattle.recovery.specs.State.{Message, Search, RecoveryState}

abbrev pub HaveSize : ℕ → List RowCopy → Type 0
HaveSize size [] = Unit {0}
HaveSize size (row ∷ rows) = (row.length ≡ size) × HaveSize size rows

-- a row that was answered of an object has the length that the object's rows have, and an index that there may be
abbrev pub IsFittingRow : NodeView → ℕ → RowCopy → Type 0
IsFittingRow shown oid row = (shown.size_of oid ≡ Some row.length) × (row.index < TARGETS_MAX)

abbrev pub AnswersFit : NodeView → ℕ → List RowAnswer → Type 0
AnswersFit shown oid [] = Unit {0}
AnswersFit shown oid (answer ∷ answers) = IfSome answer.row (IsFittingRow shown oid) × AnswersFit shown oid answers

-- what is told of an object is such a row, or none
abbrev pub IsFittingSay : NodeView → ℕ → PeerSay → Type 0
IsFittingSay shown oid says.Success = Unit {0}
IsFittingSay shown oid (says.Piece bytes) = Unit {0}
IsFittingSay shown oid (says.Objects oids) = Unit {0}
IsFittingSay shown oid (says.Row row) = IsFittingRow shown oid row
IsFittingSay shown oid says.NoRow = Unit {0}
IsFittingSay shown oid (says.Refused refusal) = Unit {0}

-- and of the object that is asked for
abbrev pub SaysOfRow : NodeView → PeerAsk → PeerSay → Type 0
SaysOfRow shown (asks.Create key size offset bytes) say = Unit {0}
SaysOfRow shown (asks.Write key offset bytes) say = Unit {0}
SaysOfRow shown (asks.Read key offset size) say = Unit {0}
SaysOfRow shown asks.List say = Unit {0}
SaysOfRow shown (asks.RecoverRead oid level) say = IsFittingSay shown oid say

-- the rows of an object have parts of whole blocks
abbrev pub IsPartSize : Policy → ℕ → ℕ → Type 0
IsPartSize policy oid size = (size < 2 ^ 32) × IsAligned policy (kind_of oid) (size * need_of policy (kind_of oid))

-- what a search and its node are to be so that its level can end
pub record MayEndLevel (epoch : ℕ) (shown : NodeView) (search : Search) : Type 0 where
  pub epoch_from : 1 ≤ epoch
  pub epoch_to : epoch ≤ shown.epoch
  pub from : 1 ≤ search.level
  pub to : search.level < epoch
  pub answers : AnswersFit shown search.oid search.answers
  pub policy : IfSome (shown.policy_of search.oid) IsPolicy
  pub size : (policy : Policy) (size : ℕ) → shown.policy_of search.oid ≡ Some policy → shown.size_of search.oid ≡ Some size
      → IsPartSize policy search.oid size

-- what a recovery and its node are to be at each tick and at each end of a message: the node has entered the epoch that is recovered and
-- has read a settled one, what is searched was kept in an epoch before, the answers that a search keeps and the object's rows are of one
-- length, parts of whole blocks, and no more nodes were asked or wanted than there may be
pub record MayStep (state : RecoveryState) : Type 0 where
  pub epoch : 1 ≤ state.recovery.epoch
  pub entered : state.recovery.epoch ≤ state.shown.epoch
  pub settled : 1 ≤ state.shown.settled
  pub waiting : length state.recovery.lists.waiting ≤ NODES_MAX
  pub policies : (oid : ℕ) → IfSome (state.shown.policy_of oid) IsPolicy
  pub sizes : (oid : ℕ) (policy : Policy) (size : ℕ) → state.shown.policy_of oid ≡ Some policy → state.shown.size_of oid ≡ Some size
      → IsPartSize policy oid size
  pub search : IfSome state.recovery.search (λ search.
      (1 ≤ search.level) × (search.level < state.recovery.epoch) × AnswersFit state.shown search.oid search.answers)
  pub wanted : All (λ (message : Message). message.wanted ≤ TARGETS_MAX) state.recovery.unanswered
