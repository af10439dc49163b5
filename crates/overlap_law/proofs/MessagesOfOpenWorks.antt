-- Each open create or write has a message: an attempt begins in as many zones as it has targets, and that is one at least.
use Rattle.std.proofs.Common.{◌≡◌, ◌≢◌, ⊎_elim, arith, ℕ, ◌+◌, ◌≤◌, ◌==◌, true, false, cond, List, [], ◌∷◌, length, map, slice_get, min}
use Rattle.std.proofs.Common.{Some, refl, sym, ap, ◌∙◌}
use Rattle.std.specs.List.{enumerate_from}
use Rattle.std.specs.Ordering.{nat_cmp}
use Rattle.std.specs.FinMap as tree
use Rattle.std.proofs.Math.Nat.{le-min}
use Rattle.std.proofs.lemmas.Bool.{ltb-false}
use Rattle.proof_tools.proofs.FiniteMaps.{get-insert_cases, get-insert_same}
use Rattle.object_id.specs.declared.cause.Cause.TheVariants.{Halt}
use Rattle.object_id.specs.declared.node.NodeId.{NodeId}
use Rattle.object_id.specs.declared.oid.Kind.{Kind}
use Rattle.object_id.specs.declared.oid.Kind.TheVariants.{Inode, Block}
use Rattle.object_id.specs.declared.policy.Policy.{Policy}
use Rattle.object_id.specs.declared.policy.Policy.TheVariants.{Copies, Coded}
use Rattle.object_id.specs.Policy.{IsPolicy, wanted_of}
use Rattle.object_id.specs.Oid.{kind_of}
use Rattle.hash_ring.specs.Circle.{hash_of_object}
use Rattle.hash_ring.specs.Placement.{zone_count}
use Rattle.hash_ring.proofs.TargetLaws.{length-targets_of}
use Rattle.vnode_table.specs.Epochs.{members_at}
use Rattle.vnode_table.specs.Targets.{targets_in}
use Rattle.peer_proto.specs.declared.work.ObjWork.{ObjWork}
use Rattle.peer_proto.specs.declared.work.ObjWork.TheVariants as works
use Rattle.peer_proto.specs.Work.{oid_of, policy_of}
use Rattle.gateway.specs.declared.message.Message.{Message}
use Rattle.gateway.specs.declared.message.Status.{Status}
use Rattle.gateway.specs.Work.{is_making, zones_for}
use Rattle.gateway.specs.Attempt as gateways
use Rattle.gateway.specs.Attempt.{message_for}
use Rattle.gateway.specs.State.{Work, Open, Ended, WaitsForMembers}
use Rattle.gateway.specs.Step.{attempt_with_status}
use Rattle.sheep_node.specs.declared.input.Input.{Input}
use Rattle.sheep_node.specs.State.{Node}
use Rattle.sheep_node.specs.StepState.{StepState}
use Rattle.sheep_node.specs.ValidDisks.{WorkHasPolicy}
use Rattle.sheep_node.specs.Changes as changes
use Rattle.sheep_node.specs.Changes.{IsSoundStep, Change, ToWork, ToEntry, ToReply, attempt_in, has_too_few_zones, without_ended_work}
use Rattle.sheep_node.specs.Changes.{without_denied_work, zones_of_members}
use Rattle.sheep_node.proofs.AwaitedWorks.{Works}
use Rattle.sheep_node.proofs.OneWorkChanges.{StepHasOneWork, never_alone}
use Rattle.overlap_law.proofs.AttemptMessages.{targets-of_making}
use Rattle.overlap_law.proofs.OpenAttempts.{Fewer, gone_fewer, ended_fewer, refused_fewer, denied_fewer, all_stay, steps_fewer, next_fewer}
use Rattle.overlap_law.proofs.OpenAttempts.{open_of}

-- each open create or write among some works has a message
abbrev pub WorksHaveMessages : Works → Type 0
WorksHaveMessages all = (q : ℕ) (work : Work) (current : gateways.Attempt) → tree.get all q ≡ Some work → is_making work.work ≡ true
    → work.stage ≡ Open current → (message : Message) × (slice_get current.messages 0 ≡ Some message)

pub fewer_have : (old new : Works) → Fewer old new → WorksHaveMessages old → WorksHaveMessages new
fewer_have old new less have q work current got making stage = have q work current (less q work got) making stage

pub none_have : WorksHaveMessages tree.empty
none_have q work current got making stage = let none = tree.get-empty {X = Work} nat_cmp q in absurd (cc (none, got))

-- one work is put
put_has : (all : Works) (req : ℕ) (now : Work)
    → ((current : gateways.Attempt) → is_making now.work ≡ true → now.stage ≡ Open current → (message : Message)
    × (slice_get current.messages 0 ≡ Some message))
    → WorksHaveMessages all → WorksHaveMessages (tree.insert all req now)
put_has all req now own have q work current got making stage = ⊎_elim
    (λ (here : (q ≡ req) × (now ≡ work)).
    own current (ap (λ (w : Work). is_making w.work) here.1 ∙ making) (ap (λ (w : Work). w.stage) here.1 ∙ stage))
    (λ (other : (q ≢ req) × (tree.get all q ≡ Some work)). have q work current other.1 making stage)
    (get-insert_cases all req now q work got)

-- ---- an attempt that begins

wants_some : (policy : Policy) (kind : Kind) → IsPolicy policy → 1 ≤ wanted_of policy kind
wants_some (Copies copies) kind is = is.0
wants_some (Coded d p) Block is = let some = is.1 in omega (arith, some)
wants_some (Coded d p) Inode is = omega arith

zones_of_making : (work : ObjWork) → is_making work ≡ true → zones_for work ≡ wanted_of (policy_of work) (kind_of (oid_of work))
zones_of_making (works.Create oid policy size offset bytes) making = refl
zones_of_making (works.Write oid policy offset bytes) making = refl
zones_of_making (works.Read oid policy offset size) making = absurd (cc (making))
zones_of_making (works.ReadAll oid policy size) making = absurd (cc (making))

-- it has a target
some_target : (asked : Work) (node : Node) → is_making asked.work ≡ true → has_too_few_zones asked node ≡ false → WorkHasPolicy asked.work
    → 1 ≤ length (targets_in node.epochs node.peer.epoch (oid_of asked.work) (policy_of asked.work))
unfolding targets_in
some_target asked node making enough policy =
    let wanted = wanted_of (policy_of asked.work) (kind_of (oid_of asked.work)) in
    let members = members_at node.epochs node.peer.epoch in
    let many = length-targets_of members (hash_of_object (oid_of asked.work)) wanted in
    let some : 1 ≤ wanted = wants_some (policy_of asked.work) (kind_of (oid_of asked.work)) policy in
    let zones : zones_for asked.work ≤ zone_count members = ltb-false (zone_count members) (zones_for asked.work) enough in
    let is : zones_for asked.work ≡ wanted = zones_of_making asked.work making in
    let room : 1 ≤ zone_count members = omega (arith, zones, is, some) in
    let least : 1 ≤ min wanted (zone_count members) = le-min some room in
    omega (arith, many, least)

first_of : (work : ObjWork) (first : ℕ) (targets : List NodeId) → 1 ≤ length targets
    → (message : Message) × (slice_get (map (message_for work) (enumerate_from first (enumerate_from 0 targets))) 0 ≡ Some message)
first_of work first [] some = absurd (omega (arith, some))
first_of work first (target ∷ targets) some = (message_for work (first, (0, target)), refl)

begun_has : (asked : Work) (node : Node) (current : gateways.Attempt) → is_making asked.work ≡ true → has_too_few_zones asked node ≡ false
    → WorkHasPolicy asked.work → Open (attempt_in asked node) ≡ Open current
    → (message : Message) × (slice_get current.messages 0 ≡ Some message)
begun_has asked node current making enough policy stage =
    let targets = targets_in node.epochs node.peer.epoch (oid_of asked.work) (policy_of asked.work) in
    let (message, got) = first_of asked.work node.sends targets (some_target asked node making enough policy) in
    let same : attempt_in asked node ≡ current = open_of (attempt_in asked node) current stage in (
      message,
      sym (ap (λ (attempt : gateways.Attempt). slice_get attempt.messages 0) same)
          ∙ ap (λ (places : List (ℕ × NodeId)). slice_get (map (message_for asked.work) (enumerate_from node.sends places)) 0)
          (targets-of_making asked.work asked.ended targets making)
          ∙ got,
    )

-- what is told of a message leaves it there
marked_has : (number : ℕ) (status : Status) (messages : List Message) → (message : Message) × (slice_get messages 0 ≡ Some message)
    → (message : Message) × (slice_get (gateways.messages_with_status number status messages) 0 ≡ Some message)
marked_has number status [] (message, got) = absurd (cc (got))
marked_has number status (first ∷ later) (message, got) = (cond (first.number == number) (record first { status = status }) first, refl)

-- ---- every change

abbrev pub HaveMessagesIn : StepState → Type 0
HaveMessagesIn so_far = WorksHaveMessages so_far.node.gateway.works

module _ {input : Input} {node : Node} (sound : IsSoundStep input node) where
  pub change_have : (so_far next : StepState) → Change input node so_far next → StepHasOneWork so_far
      → ((req : ℕ) (work : Work) → tree.get next.node.gateway.works req ≡ Some work → WorkHasPolicy work.work) → HaveMessagesIn so_far
      → HaveMessagesIn next
  change_have so_far next (changes.Marks req number work attempt status learns over) good valid have =
      let before = so_far.node.gateway.works in
      put_has before req (record work { stage = Open (attempt_with_status number status attempt) })
      (λ current making stage.
      let same : attempt_with_status number status attempt ≡ current = open_of (attempt_with_status number status attempt) current stage in
      let (message, got) = marked_has number status attempt.messages (have req work attempt learns.there making learns.open_so) in
      (message, sym (ap (λ (a : gateways.Attempt). slice_get a.messages 0) same) ∙ got)) have
  change_have so_far next (changes.Fails session req number work attempt status course ends done why) good valid have =
      put_has so_far.node.gateway.works req (record work { ended = work.ended + 1; stage = Ended })
      (λ current making stage. absurd (cc (stage))) have
  change_have so_far next (changes.Stops session req number work attempt status course bytes ends over) good valid have =
      fewer_have so_far.node.gateway.works next.node.gateway.works (gone_fewer so_far.node.gateway.works req) have
  change_have so_far next (changes.Refuses session req number work attempt status course cause ends done why) good valid have =
      fewer_have so_far.node.gateway.works next.node.gateway.works
      (refused_fewer so_far.node.gateway.works session req cause course (without_ended_work session req work status so_far)
      (gone_fewer so_far.node.gateway.works req)) have
  change_have so_far next (changes.Opens session req asked lined comes enough) good valid have =
      let now : Work = record asked { stage = Open (attempt_in asked lined.node) } in
      put_has lined.node.gateway.works req now
      (λ current making stage.
      begun_has asked lined.node current making enough (valid req now (get-insert_same lined.node.gateway.works req now)) stage)
      (fewer_have so_far.node.gateway.works lined.node.gateway.works (next_fewer so_far session req asked lined comes) have)
  change_have so_far next (changes.Holds session req asked lined comes short touched) good valid have =
      put_has lined.node.gateway.works req (record asked { stage = WaitsForMembers (record { 0 = lined.node.peer.epoch }) })
      (λ current making stage. absurd (cc (stage)))
      (fewer_have so_far.node.gateway.works lined.node.gateway.works (next_fewer so_far session req asked lined comes) have)
  change_have so_far next (changes.Denies session req asked lined request comes short untouched there own) good valid have =
      fewer_have so_far.node.gateway.works next.node.gateway.works
      (denied_fewer so_far.node.gateway.works req (Halt (zones_of_members lined.node) (zones_for asked.work)) request
      (without_denied_work session req asked lined) (λ q other got. next_fewer so_far session req asked lined comes q other
      (gone_fewer lined.node.gateway.works req q other got))) have
  change_have so_far next (changes.Strays req work gateway there none apart) good valid have =
      absurd (never_alone req work so_far there none good)
  change_have so_far next (changes.Lines session req work moved steps waits) good valid have =
      fewer_have so_far.node.gateway.works next.node.gateway.works (steps_fewer so_far session req (ToWork work) moved steps) have
  change_have so_far next (changes.Appends session req entry moved steps) good valid have =
      fewer_have so_far.node.gateway.works next.node.gateway.works (steps_fewer so_far session req (ToEntry entry) moved steps) have
  change_have so_far next (changes.Replies session req reply moved steps) good valid have =
      fewer_have so_far.node.gateway.works next.node.gateway.works
      (ended_fewer so_far.node.gateway.works session req reply moved (steps_fewer so_far session req (ToReply reply) moved steps)) have
  change_have so_far next (changes.Arrives session req ask disk arrival on) good valid have =
      fewer_have so_far.node.gateway.works next.node.gateway.works (all_stay so_far.node.gateway.works) have
  change_have so_far next (changes.Rejects session req ask cause arrival) good valid have = have
  change_have so_far next (changes.Recovers due) good valid have = have
