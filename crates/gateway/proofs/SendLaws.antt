-- The messages of an attempt: their numbers, the nodes that they go to, and their indexes.
use Rattle.std.proofs.Common.{◌≡◌, ◌⊎◌, ⊎_elim, ℕ, ◌+◌, ◌<◌, nat_lt, Bool, true, false, cond, List, [], ◌∷◌, length, map, refl, ap, ◌∙◌}
use Rattle.std.specs.List.{enumerate_from, range_with_len}
use Rattle.std.proofs.lemmas.Bool.{ltb-true, ltb-false}
use Rattle.object_id.specs.declared.cause.Cause.TheVariants.{Halt}
use Rattle.hash_ring.specs.Placement.{zone_count}
use Rattle.object_id.specs.declared.node.Epoch.{Epoch}
use Rattle.object_id.specs.declared.node.NodeId.{NodeId}
use Rattle.object_id.specs.declared.policy.Policy.{Policy}
use Rattle.object_id.specs.Oid.{kind_of}
use Rattle.vnode_table.specs.Epochs.{EpochMembers, members_at}
use Rattle.vnode_table.specs.Targets.{targets_in}
use Rattle.peer_proto.specs.declared.work.ObjWork.{ObjWork}
use Rattle.peer_proto.specs.declared.work.ObjWork.TheVariants.{Create, Write, Read, ReadAll}
use Rattle.gateway.specs.declared.message.Message.{Message}
use Rattle.gf256.specs.Part.{is_in_strips, index_at}
use Rattle.peer_proto.specs.Work.{oid_of, policy_of}
use Rattle.gateway.specs.Work.{is_making, read_from, targets_asked, zones_for}
use Rattle.gateway.specs.Attempt.{message_for, messages_of, send_of}
use Rattle.gateway.specs.State.{WaitsForMembers, Work, Gateway, is_touched}
use Rattle.gateway.specs.Step.{with_work, waiting_step, refusal_step, next_attempt, halt_step, open_step, attempt_step}
use Rattle.gateway.specs.Outcomes.{AreNumberedFrom, BeginsAttempt}

numbers-sent : (me : NodeId) (epoch : Epoch) (work : ObjWork) (first : ℕ) (targets : List (ℕ × NodeId))
    → AreNumberedFrom first (map (send_of me epoch work) (map (message_for work) (enumerate_from first targets)))
numbers-sent me epoch work first [] = refl
numbers-sent me epoch work first (target ∷ targets) = ap (λ ns. first ∷ ns) (numbers-sent me epoch work (first + 1) targets)

-- an attempt's sends are numbered upwards
pub sends-numbers : (me : NodeId) (epoch : Epoch) (work : ObjWork) (attempt first : ℕ) (targets : List NodeId)
    → AreNumberedFrom first (map (send_of me epoch work) (messages_of work attempt first targets))
sends-numbers me epoch work attempt first targets = numbers-sent me epoch work first (targets_asked work attempt targets)

nodes-targets_asked : (work : ObjWork) (first place : ℕ) (targets : List NodeId)
    → map (λ (message : Message). message.node) (map (message_for work) (enumerate_from first (enumerate_from place targets))) ≡ targets
nodes-targets_asked work first place [] = refl
nodes-targets_asked work first place (node ∷ targets) = ap (λ ns. node ∷ ns) (nodes-targets_asked work (first + 1) (place + 1) targets)

indexes-targets_asked : (work : ObjWork) (first place : ℕ) (targets : List NodeId)
    → map (λ (message : Message). message.index) (map (message_for work) (enumerate_from first (enumerate_from place targets)))
    ≡ map (index_at (policy_of work) (kind_of (oid_of work))) (range_with_len place (length targets))
indexes-targets_asked work first place [] = refl
indexes-targets_asked work first place (node ∷ targets) =
    ap (λ ns. index_at (policy_of work) (kind_of (oid_of work)) place ∷ ns) (indexes-targets_asked work (first + 1) (place + 1) targets)

all_asked : (work : ObjWork) (attempt : ℕ) (targets : List NodeId)
    → (is_making work ≡ true) ⊎ (is_in_strips (policy_of work) (kind_of (oid_of work)) ≡ true)
    → targets_asked work attempt targets ≡ enumerate_from 0 targets
all_asked (Create oid policy size offset bytes) attempt targets h = refl
all_asked (Write oid policy offset bytes) attempt targets h = refl
all_asked (Read oid policy offset size) attempt targets h =
    ⊎_elim (λ (e : false ≡ true). absurd (cc (e)))
    (λ (e : is_in_strips policy (kind_of oid) ≡ true). ap (λ b. read_from b attempt (enumerate_from 0 targets)) e) h
all_asked (ReadAll oid policy size) attempt targets h = refl

-- a create, a write and a read of strips ask every target, in order, each for the part of its index
pub nodes-all : (work : ObjWork) (attempt first : ℕ) (targets : List NodeId)
    → (is_making work ≡ true) ⊎ (is_in_strips (policy_of work) (kind_of (oid_of work)) ≡ true)
    → map (λ (message : Message). message.node) (messages_of work attempt first targets) ≡ targets
nodes-all work attempt first targets h =
    ap (λ places. map (λ (message : Message). message.node) (map (message_for work) (enumerate_from first places))) (all_asked work attempt targets h)
    ∙ nodes-targets_asked work first 0 targets

pub indexes-all : (work : ObjWork) (attempt first : ℕ) (targets : List NodeId)
    → (is_making work ≡ true) ⊎ (is_in_strips (policy_of work) (kind_of (oid_of work)) ≡ true)
    → map (λ (message : Message). message.index) (messages_of work attempt first targets)
    ≡ map (index_at (policy_of work) (kind_of (oid_of work))) (range_with_len 0 (length targets))
indexes-all work attempt first targets h =
    ap (λ places. map (λ (message : Message). message.index) (map (message_for work) (enumerate_from first places))) (all_asked work attempt targets h)
    ∙ indexes-targets_asked work first 0 targets

-- a read of all parts asks every target, in order, for its part from the front
pub nodes-read_all : (oid : ℕ) (policy : Policy) (size attempt first : ℕ) (targets : List NodeId)
    → map (λ (message : Message). message.node) (messages_of (ReadAll oid policy size) attempt first targets) ≡ targets
nodes-read_all oid policy size attempt first targets = nodes-targets_asked (ReadAll oid policy size) first 0 targets

pub indexes-read_all : (oid : ℕ) (policy : Policy) (size attempt first : ℕ) (targets : List NodeId)
    → map (λ (message : Message). message.index) (messages_of (ReadAll oid policy size) attempt first targets)
    ≡ map (index_at policy (kind_of oid)) (range_with_len 0 (length targets))
indexes-read_all oid policy size attempt first targets = indexes-targets_asked (ReadAll oid policy size) first 0 targets

halted_if : (gateway : Gateway) (req : ℕ) (work : Work) (epoch : Epoch) (first zones : ℕ) (b : Bool) → is_touched req gateway ≡ b
    → zones < zones_for work.work → BeginsAttempt gateway req work first zones
    (cond b (waiting_step (with_work req (record work { stage = WaitsForMembers epoch }) gateway)) (refusal_step gateway req work.work (Halt zones (zones_for work.work)))).act
halted_if gateway req work epoch first zones true e short = (short, e)
halted_if gateway req work epoch first zones false e short = (refl, refl, short, e, refl)

tried_if : (epochs : List EpochMembers) (gateway : Gateway) (req : ℕ) (work : Work) (first : ℕ) (epoch : Epoch) (b : Bool)
    → nat_lt (zone_count (members_at epochs epoch.0)) (zones_for work.work) ≡ b
    → BeginsAttempt gateway req work first (zone_count (members_at epochs epoch.0))
    (cond b
    (halt_step gateway req work epoch (zone_count (members_at epochs epoch.0)))
    (open_step gateway req work
    (next_attempt work first epoch (targets_in epochs epoch.0 (oid_of work.work) (policy_of work.work))))).act
tried_if epochs gateway req work first epoch true e =
    halted_if gateway req work epoch first (zone_count (members_at epochs epoch.0)) (is_touched req gateway) refl (ltb-true _ _ e)
tried_if epochs gateway req work first epoch false e = (
  ltb-false _ _ e,
  sends-numbers gateway.me epoch work.work work.ended first (targets_in epochs epoch.0 (oid_of work.work) (policy_of work.work)),
)

-- what is told where an attempt is to begin
pub attempt_step-begins : (epochs : List EpochMembers) (gateway : Gateway) (req : ℕ) (work : Work) (first : ℕ) (epoch : Epoch)
    → BeginsAttempt gateway req work first (zone_count (members_at epochs epoch.0)) (attempt_step epochs gateway req work first epoch).act
unfolding attempt_step
attempt_step-begins epochs gateway req work first epoch =
    tried_if epochs gateway req work first epoch (nat_lt (zone_count (members_at epochs epoch.0)) (zones_for work.work)) refl
