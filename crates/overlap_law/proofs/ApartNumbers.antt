-- A work that awaits the message of a number which a step is told of awaited it at each point of the step before, and was the same work:
-- what is sent in the step has later numbers.
use Rattle.std.proofs.Common.{◌≡◌, ◌≢◌, ⊎_elim, arith, ℕ, ◌+◌, ◌<◌, true, Some, refl, ap, ◌∙◌}
use Rattle.std.specs.List.{list_any}
use Rattle.std.specs.FinMap as tree
use Rattle.proof_tools.proofs.FiniteMaps.{get-insert_cases}
use Rattle.object_id.specs.declared.cause.Cause.TheVariants.{Halt}
use Rattle.vnode_table.specs.Targets.{targets_in}
use Rattle.peer_proto.specs.Work.{oid_of, policy_of}
use Rattle.peer_proto.specs.declared.work.ObjWork.{ObjWork}
use Rattle.gateway.specs.Attempt.{is_awaited_message}
use Rattle.gateway.specs.Work as works
use Rattle.gateway.specs.State.{Open, Ended, WaitsForMembers, Work, WorkStage, is_awaited_in, open_messages}
use Rattle.gateway.specs.Step.{attempt_with_status}
use Rattle.sheep_node.specs.declared.input.Input.{Input}
use Rattle.sheep_node.specs.State.{Node}
use Rattle.sheep_node.specs.StepState.{StepState}
use Rattle.sheep_node.specs.Changes as changes
use Rattle.sheep_node.specs.Changes.{Change, IsSoundStep, ToWork, ToEntry, ToReply, attempt_in, without_denied_work, without_ended_work}
use Rattle.sheep_node.specs.Changes.{zones_of_members}
use Rattle.sheep_node.proofs.AwaitedWorks.{Works}
use Rattle.sheep_node.proofs.MessageNumbers.{all_before, fresh_apart}
use Rattle.sheep_node.proofs.OneWorkChanges.{StepHasOneWork, never_alone}
use Rattle.overlap_law.proofs.OpenAttempts.{Fewer, all_stay, denied_fewer, ended_fewer, gone_fewer, next_fewer, refused_fewer, steps_fewer}
use Rattle.overlap_law.proofs.SendsOfChanges.{next_sends_nothing}

-- a request has this work, with a message of the number that is unanswered
pub record AwaitsIt (number : ℕ) (works : Works) (req : ℕ) (asked : ObjWork) : Type 0 where
  pub work : Work
  pub there : tree.get works req ≡ Some work
  pub awaits : is_awaited_in number work ≡ true
  pub same : work.work ≡ asked

-- who has it among new works had it among old ones
abbrev pub AwaitedIt : ℕ → Works → Works → Type 0
AwaitedIt number old new = (q : ℕ) (asked : ObjWork) → AwaitsIt number new q asked → AwaitsIt number old q asked

few : (number : ℕ) (old new : Works) → Fewer old new → AwaitedIt number old new
few number old new less q asked is =
    record { work = is.work; there = less q is.work is.there; awaits = is.awaits; same = is.same }

-- a work is put that awaits it only if the one before it did
put : (number : ℕ) (old middle : Works) (req : ℕ) (now : Work) → Fewer old middle
    → (is_awaited_in number now ≡ true → AwaitsIt number old req now.work) → AwaitedIt number old (tree.insert middle req now)
put number old middle req now less own q asked is = ⊎_elim
    (λ (here : (q ≡ req) × (now ≡ is.work)).
    let was = own (ap (is_awaited_in number) here.1 ∙ is.awaits) in
    record {
      work = was.work;
      there = ap (tree.get old) here.0 ∙ was.there;
      awaits = was.awaits;
      same = was.same ∙ ap (λ (w : Work). w.work) here.1 ∙ is.same;
    })
    (λ (other : (q ≢ req) × (tree.get middle q ≡ Some is.work)).
    record { work = is.work; there = less q is.work other.1; awaits = is.awaits; same = is.same })
    (get-insert_cases middle req now q is.work is.there)

module _ {input : Input} {node : Node} (sound : IsSoundStep input node) (number : ℕ) where
  pub change_awaited : (so_far next : StepState) → StepHasOneWork so_far → number < so_far.node.sends → Change input node so_far next
      → AwaitedIt number so_far.node.gateway.works next.node.gateway.works
  change_awaited so_far next good given (changes.Marks req told work attempt status learns over) =
      put number so_far.node.gateway.works so_far.node.gateway.works req
      (record work { stage = Open (attempt_with_status told status attempt) }) (all_stay so_far.node.gateway.works)
      (λ awaits. record {
        work = work;
        there = learns.there;
        awaits = ap (λ (stage : WorkStage). list_any (is_awaited_message number) (open_messages stage)) learns.open_so
            ∙ all_before told status (learns.settled sound) number attempt.messages awaits;
        same = refl;
      })
  change_awaited so_far next good given (changes.Fails session req told work attempt status course ends done why) =
      put number so_far.node.gateway.works so_far.node.gateway.works req (record work { ended = work.ended + 1; stage = Ended })
      (all_stay so_far.node.gateway.works) (λ awaits. absurd (cc (awaits)))
  change_awaited so_far next good given (changes.Stops session req told work attempt status course bytes ends over) =
      few number so_far.node.gateway.works next.node.gateway.works (gone_fewer so_far.node.gateway.works req)
  change_awaited so_far next good given (changes.Refuses session req told work attempt status course cause ends done why) =
      few number so_far.node.gateway.works next.node.gateway.works
      (refused_fewer so_far.node.gateway.works session req cause course (without_ended_work session req work status so_far)
      (gone_fewer so_far.node.gateway.works req))
  change_awaited so_far next good given (changes.Opens session req asked lined comes enough) =
      put number so_far.node.gateway.works lined.node.gateway.works req (record asked { stage = Open (attempt_in asked lined.node) })
      (next_fewer so_far session req asked lined comes)
      (λ awaits.
      let count : lined.node.sends ≡ so_far.node.sends = (next_sends_nothing so_far session req asked lined comes).0 in
      let none = fresh_apart lined.node.gateway.me (record { 0 = lined.node.peer.epoch }) asked.work lined.node.sends
      (works.targets_asked asked.work asked.ended
      (targets_in lined.node.epochs lined.node.peer.epoch (oid_of asked.work) (policy_of asked.work))) number
      (omega (arith, given, count)) in
      absurd (cc (awaits, none)))
  change_awaited so_far next good given (changes.Holds session req asked lined comes short touched) =
      put number so_far.node.gateway.works lined.node.gateway.works req
      (record asked { stage = WaitsForMembers (record { 0 = lined.node.peer.epoch }) })
      (next_fewer so_far session req asked lined comes) (λ awaits. absurd (cc (awaits)))
  change_awaited so_far next good given (changes.Denies session req asked lined request comes short untouched there own) =
      few number so_far.node.gateway.works next.node.gateway.works
      (denied_fewer so_far.node.gateway.works req (Halt (zones_of_members lined.node) (works.zones_for asked.work)) request
      (without_denied_work session req asked lined)
      (λ q other got.
      next_fewer so_far session req asked lined comes q other (gone_fewer lined.node.gateway.works req q other got)))
  change_awaited so_far next good given (changes.Strays req work gateway there none apart) =
      absurd (never_alone req work so_far there none good)
  change_awaited so_far next good given (changes.Lines session req work moved steps waits) =
      few number so_far.node.gateway.works next.node.gateway.works (steps_fewer so_far session req (ToWork work) moved steps)
  change_awaited so_far next good given (changes.Appends session req entry moved steps) =
      few number so_far.node.gateway.works next.node.gateway.works (steps_fewer so_far session req (ToEntry entry) moved steps)
  change_awaited so_far next good given (changes.Replies session req reply moved steps) =
      few number so_far.node.gateway.works next.node.gateway.works
      (ended_fewer so_far.node.gateway.works session req reply moved (steps_fewer so_far session req (ToReply reply) moved steps))
  change_awaited so_far next good given (changes.Arrives session req ask disk arrival on) =
      few number so_far.node.gateway.works next.node.gateway.works (all_stay so_far.node.gateway.works)
  change_awaited so_far next good given (changes.Rejects session req ask cause arrival) =
      few number so_far.node.gateway.works next.node.gateway.works (all_stay so_far.node.gateway.works)
  change_awaited so_far next good given (changes.Recovers due) =
      few number so_far.node.gateway.works next.node.gateway.works (all_stay so_far.node.gateway.works)
