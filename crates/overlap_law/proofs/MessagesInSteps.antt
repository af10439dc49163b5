-- Each message of an open attempt, after a change of a node's step, was one before, at the same place, of the same work and epoch, with
-- what was known of it then or with what the step is told of it; or it is of an attempt that begins.
use Rattle.std.proofs.Common.{◌≡◌, ◌⊎◌, inl, inr, ℕ, ◌==◌, Bool, true, false, cond, Some, slice_get, refl}
use Rattle.std.proofs.Common.{sym, ap, subst, ◌∙◌}
use Rattle.std.specs.List.{list_any, enumerate_from}
use Rattle.std.specs.FinMap as tree
use Rattle.std.proofs.lemmas.Bool.{eqb-true}
use Rattle.peer_proto.specs.Work.{oid_of, policy_of}
use Rattle.vnode_table.specs.Targets.{targets_in}
use Rattle.gateway.specs.declared.message.Message.{Message}
use Rattle.gateway.specs.declared.message.Status.{Status}
use Rattle.gateway.specs.declared.message.Status.TheVariants.{Unanswered}
use Rattle.gateway.specs.Work.{targets_asked}
use Rattle.gateway.specs.Attempt as gateways
use Rattle.gateway.specs.Attempt.{is_awaited_message, message_for}
use Rattle.gateway.specs.State.{Work, WorkStage, Open, open_messages}
use Rattle.gateway.specs.Step.{attempt_with_status}
use Rattle.sheep_node.specs.declared.input.Input.{Input}
use Rattle.sheep_node.specs.State.{Node}
use Rattle.sheep_node.specs.StepState.{StepState}
use Rattle.sheep_node.specs.Changes.{IsTold, LearnsStatus}
use Rattle.sheep_node.specs.Changes.{Change}
use Rattle.sheep_node.proofs.AwaitedWorks.{Works}
use Rattle.sheep_node.proofs.OneWorkChanges.{StepHasOneWork}
use Rattle.std.proofs.Common.{arith, ◌+◌, List, map}
use Rattle.object_id.specs.declared.node.NodeId.{NodeId}
use Rattle.object_id.specs.Oid.{kind_of}
use Rattle.gf256.specs.Part.{index_at}
use Rattle.peer_proto.specs.declared.work.ObjWork.{ObjWork}
use Rattle.gateway.specs.Work.{asks_all}
use Rattle.sheep_node.specs.Changes.{IsTold, LearnsStatus, attempt_in}
use Rattle.overlap_law.proofs.AttemptMessages.{message_at_place, targets-of_all}
use Rattle.overlap_law.proofs.AttemptLists.{got_map}
use Rattle.overlap_law.proofs.ClosedAttempts.{OpenWork, Stayed, Learnt, Opened, open_work}

-- a message of a request's open work
pub record IsMessageOf (works : Works) (req : ℕ) (work : Work) (current : gateways.Attempt) (place : ℕ) (message : Message) : Type 0 where
  pub there : tree.get works req ≡ Some work
  pub stage : work.stage ≡ Open current
  pub at : slice_get current.messages place ≡ Some message

-- it was one before, and what is known of it was so then, or a step is told of it, which awaited it
pub record WasMessageOf (input : Input) (old : Works) (req : ℕ) (work : Work) (current : gateways.Attempt) (place : ℕ) (message : Message)
    : Type 0 where
  pub was : Work
  pub before : gateways.Attempt
  pub m : Message
  pub is : IsMessageOf old req was before place m
  pub number_so : message.number ≡ m.number
  pub index_so : message.index ≡ m.index
  pub work_so : work.work ≡ was.work
  pub epoch_so : current.epoch ≡ before.epoch
  pub status_so : (message.status ≡ m.status)
      ⊎ (IsTold input message.number message.status × (list_any (is_awaited_message message.number) before.messages ≡ true))

-- it is one of an attempt that begins: nothing came of it yet, and where all targets are asked it asks for the part of its place
pub record BeginsNow (work : Work) (place : ℕ) (message : Message) : Type 0 where
  pub unanswered : message.status ≡ Unanswered
  pub index_so : asks_all work.work ≡ true → message.index ≡ index_at (policy_of work.work) (kind_of (oid_of work.work)) place

index_by_place : (asked work : ObjWork) (ended first place : ℕ) (targets : List NodeId) (message : Message) → asked ≡ work
    → slice_get (map (message_for asked) (enumerate_from first (targets_asked asked ended targets))) place ≡ Some message
    → asks_all work ≡ true → message.index ≡ index_at (policy_of work) (kind_of (oid_of work)) place
index_by_place asked work ended first place targets message same there all =
    let own : asks_all asked ≡ true = ap (λ (w : ObjWork). asks_all w) same ∙ all in
    let at : slice_get (map (message_for asked) (enumerate_from first (enumerate_from 0 targets))) place ≡ Some message
    = subst (λ (places : List (ℕ × NodeId)). slice_get (map (message_for asked) (enumerate_from first places)) place ≡ Some message)
    (targets-of_all asked ended targets own) there in
    let from_zero : 0 + place ≡ place = omega arith in
    (message_at_place asked first 0 targets place message at).index_so
    ∙ ap (index_at (policy_of asked) (kind_of (oid_of asked))) from_zero
    ∙ ap (λ (w : ObjWork). index_at (policy_of w) (kind_of (oid_of w)) place) same

module _ (input : Input) where
  -- so it is of each message then
  abbrev pub WereMessages : StepState → StepState → Type 0
  WereMessages so_far next = (q : ℕ) (work : Work) (current : gateways.Attempt) (place : ℕ) (message : Message)
      → IsMessageOf next.node.gateway.works q work current place message
      → WasMessageOf input so_far.node.gateway.works q work current place message ⊎ BeginsNow work place message

  -- a message of a number is marked
  record IsMarkedFrom (number : ℕ) (status : Status) (m message : Message) : Type 0 where
    number_so : message.number ≡ m.number
    index_so : message.index ≡ m.index
    status_so : (message.status ≡ m.status) ⊎ ((message.number ≡ number) × (message.status ≡ status))

  marked_from : (number : ℕ) (status : Status) (m message : Message) (b : Bool) → (m.number == number) ≡ b
      → cond b (record m { status = status }) m ≡ message → IsMarkedFrom number status m message
  marked_from number status m message true tie is = record {
    number_so = sym (ap (λ (one : Message). one.number) is);
    index_so = sym (ap (λ (one : Message). one.index) is);
    status_so = inr (
      sym (ap (λ (one : Message). one.number) is) ∙ eqb-true m.number number tie,
      sym (ap (λ (one : Message). one.status) is),
    );
  }
  marked_from number status m message false tie is = record {
    number_so = sym (ap (λ (one : Message). one.number) is);
    index_so = sym (ap (λ (one : Message). one.index) is);
    status_so = inl (sym (ap (λ (one : Message). one.status) is));
  }

  module _ {node : Node} where
    marked : (so_far : StepState) (q number : ℕ) (was work : Work) (attempt current : gateways.Attempt) (status : Status)
        → LearnsStatus input node so_far q number was attempt status
        → work ≡ record was { stage = Open (attempt_with_status number status attempt) }
        → current ≡ attempt_with_status number status attempt → (place : ℕ) (message : Message)
        → slice_get current.messages place ≡ Some message → WasMessageOf input so_far.node.gateway.works q work current place message
    marked so_far q number was work attempt current status learns put same place message at =
        let (m, found, marks) = got_map (λ (one : Message). cond (one.number == number) (record one { status = status }) one)
        attempt.messages place message (ap (λ (a : gateways.Attempt). slice_get a.messages place) (sym same) ∙ at) in
        let so = marked_from number status m message (m.number == number) refl marks in
        record {
          was = was;
          before = attempt;
          m = m;
          is = record { there = learns.there; stage = learns.open_so; at = found };
          number_so = so.number_so;
          index_so = so.index_so;
          work_so = ap (λ (w : Work). w.work) put;
          epoch_so = ap (λ (a : gateways.Attempt). a.epoch) same;
          status_so = by_status message m so.status_so;
        }
      where
        awaited : list_any (is_awaited_message number) attempt.messages ≡ true
        awaited =
            sym (ap (λ (stage : WorkStage). list_any (is_awaited_message number) (open_messages stage)) learns.open_so) ∙ learns.awaited

        by_status : (message m : Message) → (message.status ≡ m.status) ⊎ ((message.number ≡ number) × (message.status ≡ status))
            → (message.status ≡ m.status)
            ⊎ (IsTold input message.number message.status × (list_any (is_awaited_message message.number) attempt.messages ≡ true))
        by_status message m (inl same) = inl same
        by_status message m (inr (number_so, status_so)) = inr (
          subst (λ (s : Status). IsTold input message.number s) (sym status_so)
              (subst (λ (k : ℕ). IsTold input k status) (sym number_so) learns.told),
          ap (λ (k : ℕ). list_any (is_awaited_message k) attempt.messages) number_so ∙ awaited,
        )

    pub change_messages : (so_far next : StepState) → StepHasOneWork so_far → Change input node so_far next → WereMessages so_far next
    change_messages so_far next good change q work current place message is =
        by_origin (open_work so_far next good change q work current is.there is.stage)
      where
        by_origin : OpenWork input node so_far next q work current
            → WasMessageOf input so_far.node.gateway.works q work current place message ⊎ BeginsNow work place message
        by_origin (Stayed there) = inl (record {
          was = work;
          before = current;
          m = message;
          is = record { there = there; stage = is.stage; at = is.at };
          number_so = refl;
          index_so = refl;
          work_so = refl;
          epoch_so = refl;
          status_so = inl refl;
        })
        by_origin (Learnt number was attempt status learns put same) =
            inl (marked so_far q number was work attempt current status learns put same place message is.at)
        -- of an attempt that opens nothing came yet
        by_origin (Opened session asked lined comes next_so put same) =
            let targets = targets_in lined.node.epochs lined.node.peer.epoch (oid_of asked.work) (policy_of asked.work) in
            let there : slice_get (attempt_in asked lined.node).messages place ≡ Some message
            = ap (λ (a : gateways.Attempt). slice_get a.messages place) (sym same) ∙ is.at in
            let (e, found, made) = got_map (message_for asked.work)
            (enumerate_from lined.node.sends (targets_asked asked.work asked.ended targets)) place message there in
            inr (record {
              unanswered = sym (ap (λ (m : Message). m.status) made);
              index_so = λ all.
                  index_by_place asked.work work.work asked.ended lined.node.sends place targets message
                  (sym (ap (λ (w : Work). w.work) put)) there all;
            })
