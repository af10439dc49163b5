-- What a request waits for with the message that an input tells of is as it was where the step began, as long as it waits for that.
use Rattle.std.proofs.Common.{◌≡◌, ◌≢◌, ⊎_elim, arith, ℕ, ◌+◌, ◌<◌, ◌==◌, ◌||◌, Bool, true, false, cond, List, [], ◌∷◌, map, Some, refl}
use Rattle.std.proofs.Common.{sym, ap, ◌∙◌}
use Rattle.std.specs.List.{enumerate_from, list_any}
use Rattle.std.specs.Ordering.{nat_cmp}
use Rattle.std.specs.FinMap as tree
use Rattle.std.proofs.lemmas.Bool.{ne_eqb}
use Rattle.proof_tools.proofs.FiniteMaps.{get-insert_cases}
use Rattle.object_id.specs.declared.cause.Cause.TheVariants.{Halt}
use Rattle.object_id.specs.declared.node.NodeId.{NodeId}
use Rattle.peer_proto.specs.Work.{oid_of, policy_of}
use Rattle.peer_proto.specs.declared.work.ObjWork.{ObjWork}
use Rattle.vnode_table.specs.Targets.{targets_in}
use Rattle.gateway.specs.declared.message.Message.{Message}
use Rattle.gateway.specs.declared.message.Status.{Status}
use Rattle.gateway.specs.Work.{targets_asked, zones_for}
use Rattle.gateway.specs.Attempt.{is_awaited_message, is_unanswered, message_for, messages_with_status}
use Rattle.gateway.specs.State.{Work, Open, Ended, WaitsForMembers, is_awaited_in}
use Rattle.gateway.specs.Step.{attempt_with_status}
use Rattle.sheep_node.specs.declared.input.Input.{Input}
use Rattle.sheep_node.specs.declared.input.Input.TheVariants as inputs
use Rattle.sheep_node.specs.State.{Node}
use Rattle.sheep_node.specs.StepState.{StepState, at_first}
use Rattle.sheep_node.specs.Changes as changes
use Rattle.sheep_node.specs.Changes.{input_received, Change, Leads, IsTold, IsSoundStep, ToWork, ToEntry, ToReply, attempt_in}
use Rattle.sheep_node.specs.Changes.{without_denied_work, without_ended_work, zones_of_members}
use Rattle.sheep_node.proofs.AwaitedWorks.{Works}
use Rattle.sheep_node.proofs.NumberChanges.{both_in_chain}
use Rattle.sheep_node.proofs.OneWorkChanges.{never_alone}
use Rattle.sheep_node.proofs.ReceivedInputs.{received_keeps}
use Rattle.sheep_world.proofs.AskedWorks.{ToldIsBelow}
use Rattle.overlap_law.proofs.OpenAttempts.{Fewer, all_stay, denied_fewer, ended_fewer, gone_fewer, next_fewer, refused_fewer, steps_fewer}
use Rattle.overlap_law.proofs.SendsOfChanges.{next_sends_nothing, count_above}

-- an input tells of one message
told_once : (input : Input) (one other : ℕ) (status said : Status) → IsTold input one status → IsTold input other said → one ≡ other
told_once (inputs.Guest req session ask) one other status said first then = absurd first
told_once (inputs.Request request) one other status said first then = absurd first
told_once (inputs.Reply rsp) one other status said first then = sym first.0 ∙ then.0
told_once (inputs.Lost lost) one other status said first then = sym first.0 ∙ then.0
told_once (inputs.LogEntry entry) one other status said first then = absurd first
told_once inputs.Put one other status said first then = absurd first
told_once inputs.RecoverTick one other status said first then = absurd first
told_once inputs.RetryTick one other status said first then = absurd first
told_once (inputs.Back entries) one other status said first then = absurd first

-- what came to something isn't waited for any more
marked_none : (number : ℕ) (status : Status) → is_unanswered status ≡ false → (messages : List Message)
    → list_any (is_awaited_message number) (messages_with_status number status messages) ≡ false
marked_none number status settled [] = refl
marked_none number status settled (message ∷ later) =
    by_test (message.number == number) refl (marked_none number status settled later)
  where
    by_test : (b : Bool) → (message.number == number) ≡ b
        → list_any (is_awaited_message number) (messages_with_status number status later) ≡ false
        → (is_awaited_message number (cond b (record message { status = status }) message)
        || list_any (is_awaited_message number) (messages_with_status number status later)) ≡ false
    by_test true own rest = λ i. cond (own i) (settled i) false || rest i
    by_test false apart rest = λ i. cond (apart i) (is_unanswered message.status) false || rest i

-- nor is one of lower number than those of an attempt
above_none : (number : ℕ) (work : ObjWork) (first : ℕ) → number < first → (targets : List (ℕ × NodeId))
    → list_any (is_awaited_message number) (map (message_for work) (enumerate_from first targets)) ≡ false
above_none number work first below [] = refl
above_none number work first below (target ∷ later) =
    let apart : (first == number) ≡ false = ne_eqb first number (λ (same : first ≡ number). omega (arith, below, same)) in
    let rest = above_none number work (first + 1) (omega (arith, below)) later in
    λ i. cond (apart i) true false || rest i

module _ (input : Input) (node : Node) (sound : IsSoundStep input node) (given : ToldIsBelow input node.sends) (number : ℕ)
    (status : Status) (told : IsTold input number status) (req : ℕ) where
  -- what waits for the message is as it was
  abbrev AsItWas : Works → Type 0
  AsItWas works = (work : Work) → tree.get works req ≡ Some work → is_awaited_in number work ≡ true
      → tree.get node.gateway.works req ≡ Some work

  fewer_so : (old new : Works) → Fewer old new → AsItWas old → AsItWas new
  fewer_so old new less all work got waits = all work (less req work got) waits

  -- a work that doesn't wait for it
  put_so : (old middle new : Works) (q : ℕ) (now : Work) → Fewer old middle → new ≡ tree.insert middle q now
      → is_awaited_in number now ≡ false → AsItWas old → AsItWas new
  put_so old middle new q now less put none all work got waits = ⊎_elim
      (λ (own : (req ≡ q) × (now ≡ work)).
      let never = ap (is_awaited_in number) (sym own.1) ∙ none in absurd (cc (never, waits)))
      (λ (other : (req ≢ q) × (tree.get middle req ≡ Some work)). all work (less req work other.1) waits)
      (get-insert_cases middle q now req work (ap (λ (works : Works). tree.get works req) (sym put) ∙ got))

  change_so : (so_far next : StepState) → Leads input node (input_received input (at_first node)) so_far → Change input node so_far next
      → AsItWas so_far.node.gateway.works → AsItWas next.node.gateway.works
  change_so so_far next leads (changes.Marks q other work attempt said learns over) all =
      let same : other ≡ number = told_once input other number said status learns.told told in
      put_so so_far.node.gateway.works so_far.node.gateway.works next.node.gateway.works q
      (record work { stage = Open (attempt_with_status other said attempt) }) (all_stay so_far.node.gateway.works) refl
      (ap (λ (k : ℕ). list_any (is_awaited_message k) (messages_with_status other said attempt.messages)) (sym same)
      ∙ marked_none other said (learns.settled sound) attempt.messages) all
  change_so so_far next leads (changes.Fails session q other work attempt said course ends done why) all =
      put_so so_far.node.gateway.works so_far.node.gateway.works next.node.gateway.works q
      (record work { ended = work.ended + 1; stage = Ended }) (all_stay so_far.node.gateway.works) refl refl all
  change_so so_far next leads (changes.Stops session q other work attempt said course bytes ends over) all =
      fewer_so so_far.node.gateway.works next.node.gateway.works (gone_fewer so_far.node.gateway.works q) all
  change_so so_far next leads (changes.Refuses session q other work attempt said course cause ends done why) all =
      fewer_so so_far.node.gateway.works next.node.gateway.works
      (refused_fewer so_far.node.gateway.works session q cause course (without_ended_work session q work said so_far)
      (gone_fewer so_far.node.gateway.works q)) all
  change_so so_far next leads (changes.Opens session q asked lined comes enough) all =
      let count : lined.node.sends ≡ so_far.node.sends = (next_sends_nothing so_far session q asked lined comes).0 in
      let above = count_above so_far leads in
      let below = given number status told in
      put_so so_far.node.gateway.works lined.node.gateway.works next.node.gateway.works q
      (record asked { stage = Open (attempt_in asked lined.node) }) (next_fewer so_far session q asked lined comes) refl
      (above_none number asked.work lined.node.sends (omega (arith, count, above, below))
      (targets_asked asked.work asked.ended
      (targets_in lined.node.epochs lined.node.peer.epoch (oid_of asked.work) (policy_of asked.work)))) all
  change_so so_far next leads (changes.Holds session q asked lined comes short touched) all =
      put_so so_far.node.gateway.works lined.node.gateway.works next.node.gateway.works q
      (record asked { stage = WaitsForMembers (record { 0 = lined.node.peer.epoch }) }) (next_fewer so_far session q asked lined comes) refl
      refl all
  change_so so_far next leads (changes.Denies session q asked lined request comes short untouched there own) all =
      fewer_so so_far.node.gateway.works next.node.gateway.works
      (denied_fewer so_far.node.gateway.works q (Halt (zones_of_members lined.node) (zones_for asked.work)) request
      (without_denied_work session q asked lined)
      (λ k other got. next_fewer so_far session q asked lined comes k other (gone_fewer lined.node.gateway.works q k other got))) all
  change_so so_far next leads (changes.Strays q work gateway there none apart) all =
      absurd (never_alone q work so_far there none (both_in_chain input node sound so_far leads).0)
  change_so so_far next leads (changes.Lines session q work moved steps waits) all =
      fewer_so so_far.node.gateway.works next.node.gateway.works (steps_fewer so_far session q (ToWork work) moved steps) all
  change_so so_far next leads (changes.Appends session q entry moved steps) all =
      fewer_so so_far.node.gateway.works next.node.gateway.works (steps_fewer so_far session q (ToEntry entry) moved steps) all
  change_so so_far next leads (changes.Replies session q reply moved steps) all =
      fewer_so so_far.node.gateway.works next.node.gateway.works
      (ended_fewer so_far.node.gateway.works session q reply moved (steps_fewer so_far session q (ToReply reply) moved steps)) all
  change_so so_far next leads (changes.Arrives session q ask disk arrival on) all = all
  change_so so_far next leads (changes.Rejects session q ask cause arrival) all = all
  change_so so_far next leads (changes.Recovers due) all = all

  pub as_it_was : {so_far : StepState} → Leads input node (input_received input (at_first node)) so_far → (work : Work)
      → tree.get so_far.node.gateway.works req ≡ Some work → is_awaited_in number work ≡ true
      → tree.get node.gateway.works req ≡ Some work
  as_it_was changes.Still =
      received_keeps (λ works requests sessions. AsItWas works)
      (λ work got waits. let none = tree.get-empty {X = Work} nat_cmp req in absurd (cc (none, got))) input node
      (λ work got waits. got)
  as_it_was (changes.Then {so_far} {next} leads change) = change_so so_far next leads change (as_it_was leads)
