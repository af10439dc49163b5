-- Each attempt is shaped: it goes to the targets of its epoch, on an object of a disk that is known. It is so as it is opened, and stays so
-- as the log grows.
use Rattle.std.proofs.Common.{◌≡◌, ⊎_elim, arith, ℕ, zero, suc, ◌+◌, ◌≤◌, ◌||◌, Bool, true, List, [], ◌∷◌, ◌++◌, length, filter, map}
use Rattle.std.proofs.Common.{Option, Some, None, slice_get, refl, sym, ap, subst, ◌∙◌, ltb-false}
use Rattle.std.specs.Prelude.{min}
use Rattle.std.specs.Option.{option_map}
use Rattle.std.specs.List.{enumerate_from}
use Rattle.std.proofs.lemmas.Bool.{eq-eqb}
use Rattle.std.proofs.lemmas.Option.{same_Some}
use Rattle.proof_tools.proofs.FiniteMaps.{get-insert_same}
use Rattle.object_id.specs.declared.entry.Entry.{Entry}
use Rattle.object_id.specs.declared.entry.Member.{Member}
use Rattle.object_id.specs.declared.entry.VdiSpec.{VdiSpec}
use Rattle.object_id.specs.declared.node.NodeId.{NodeId}
use Rattle.object_id.specs.declared.policy.Policy.{Policy}
use Rattle.object_id.specs.Oid.{kind_of, vid_of}
use Rattle.object_id.specs.Policy.{wanted_of}
use Rattle.epoch_log.specs.Epochs.{begins_epoch, epoch_of}
use Rattle.epoch_log.proofs.EpochLemmas.{epoch_of-append, members_in-append}
use Rattle.hash_ring.specs.Circle.{hash_of_object}
use Rattle.hash_ring.specs.Placement.{targets_of}
use Rattle.vnode_table.specs.Epochs.{is_entered, members_at}
use Rattle.vnode_table.specs.Targets.{targets_in}
use Rattle.vdi_directory.specs.declared.effect.Effect.{Effect}
use Rattle.vdi_directory.specs.Effects.{header_of}
use Rattle.vdi_directory.specs.Decisions.{log_effects}
use Rattle.vdi_directory.proofs.StateLemmas.{log_effects-none}
use Rattle.cluster_script.specs.declared.statement.Statement.{Statement}
use Rattle.peer_proto.specs.declared.work.ObjWork.{ObjWork}
use Rattle.peer_proto.specs.declared.work.ObjWork.TheVariants as obj_works
use Rattle.peer_proto.specs.Work.{oid_of, policy_of}
use Rattle.peer_service.specs.State.{Peer}
use Rattle.gateway.specs.declared.message.Message.{Message}
use Rattle.gateway.specs.Work.{is_making, zones_for}
use Rattle.gateway.specs.Attempt.{message_for}
use Rattle.gateway.proofs.AskingLemmas.{targets-count}
use Rattle.sheep_node.specs.declared.input.Input.{Input}
use Rattle.sheep_node.specs.State.{Node}
use Rattle.sheep_node.specs.LogReading.{epochs_up_to}
use Rattle.sheep_node.specs.Step.{node_step}
use Rattle.sheep_node.specs.StepFacts.{read_after, epochs_of, IsByTheLog}
use Rattle.sheep_node.specs.Changes as changes
use Rattle.sheep_node.specs.Changes.{with_open_attempt, zones_of_members}
use Rattle.sheep_node.proofs.StepEffects.{Untouched, untouched_in}
use Rattle.sheep_node.proofs.StepResults.{step_peer, step_epochs, step_reads}
use Rattle.sheep_world.specs.World.{Host, World}
use Rattle.sheep_world.specs.Began.{Began}
use Rattle.sheep_world.specs.LogFronts.{IsFront}
use Rattle.sheep_world.specs.NodeCauses.{input_of_cause, event_of_cause, host_with_node, world_after_cause}
use Rattle.sheep_world.specs.EventKinds.{outcome_of_step}
use Rattle.sheep_world.proofs.BegunWorlds.{goes_on}
use Rattle.sheep_world.proofs.LogFrontLaws.{all_read}
use Rattle.sheep_world.proofs.NodesByTheLog.{by_the_log}
use Rattle.sheep_world.proofs.LogAtOpening.{nodes-valid}
use Rattle.overlap_law.specs.Attempts.{AttemptRecord, MessageFate, object_of}
use Rattle.overlap_law.specs.Each.{spec_in, policy_in}
use Rattle.overlap_law.specs.Grants.{reserved_in}
use Rattle.overlap_law.specs.Holders.{targets_by}
use Rattle.overlap_law.specs.Past.{MomentWithPast, first_moment}
use Rattle.overlap_law.specs.ShapedAttempts.{AreShaped}
use Rattle.overlap_law.specs.StepMoments.{first_in_step}
use Rattle.overlap_law.specs.MomentChanges.{MomentChange, RunsAreInRange, KeptByChanges}
use Rattle.overlap_law.proofs.AttemptMessages.{targets-of_making}
use Rattle.overlap_law.proofs.EpochsInRuns.{members_read}
use Rattle.overlap_law.proofs.GrantedEpochs.{IsReservedWithin, reserved_stays, reserved_within, spec_known, spec_used, spec_stays}
use Rattle.overlap_law.proofs.KnownDisks.{IsOnKnownDisk}
use Rattle.overlap_law.proofs.KnownDiskSteps.{effects_after, work_known}
use Rattle.overlap_law.proofs.KnownDisksInRuns.{caused_known, read_reservable, nodes_know}
use Rattle.overlap_law.proofs.LogsGrow.{logs_grow}
use Rattle.overlap_law.proofs.NewAttempts.{IsOpened, WasAttempt, come_from}
use Rattle.overlap_law.proofs.SendsOfChanges.{in_order_so_far}

-- ---- one attempt

-- an attempt is shaped, by a log
pub record IsShaped (log : List Entry) (attempt : AttemptRecord) : Type 0 where
  pub making : is_making attempt.work ≡ true
  pub disk : IsOnKnownDisk (log_effects log) (object_of attempt) (policy_of attempt.work)
  pub targets : attempt.targets ≡ targets_by log attempt.epoch (object_of attempt) (policy_of attempt.work)
  pub wanted : length attempt.targets ≡ wanted_of (policy_of attempt.work) (kind_of (object_of attempt))
  pub begun : attempt.epoch ≤ epoch_of log
  pub reserved : 1 ≤ reserved_in log (vid_of (object_of attempt))
  pub before : reserved_in log (vid_of (object_of attempt)) ≤ attempt.epoch

-- whatever its fates are
refated : (log : List Entry) (attempt : AttemptRecord) (fates : List MessageFate) → IsShaped log attempt
    → IsShaped log (record attempt { fates = fates })
refated log attempt fates is = record {
  making = is.making;
  disk = record { spec = is.disk.spec; made = is.disk.made; policy_so = is.disk.policy_so };
  targets = is.targets;
  wanted = is.wanted;
  begun = is.begun;
  reserved = is.reserved;
  before = is.before;
}

-- no disk is known before the first entry
none_known_yet : {P : Type 0} (log : List Entry) (vid : ℕ) (spec : VdiSpec) → spec_known (log_effects log) vid ≡ Some spec → log ≡ [] → P
unfolding header_of
none_known_yet log vid spec made none =
    let nothing : spec_known (log_effects log) vid ≡ None = ap (λ (log : List Entry). spec_known (log_effects log) vid) none
    ∙ ap (λ (known : List Effect). spec_known known vid) log_effects-none in
    absurd (cc (made, nothing))

pub some_entries : (log : List Entry) (vid : ℕ) (spec : VdiSpec) → spec_known (log_effects log) vid ≡ Some spec → 1 ≤ length log
some_entries [] vid spec made = none_known_yet [] vid spec made refl
some_entries (first ∷ later) vid spec made = omega arith

-- a log that grows gives an epoch that has begun the same targets
pub targets_stay : (log more : List Entry) (epoch oid : ℕ) (policy : Policy) → 1 ≤ length log → epoch ≤ epoch_of log
    → targets_by (log ++ more) epoch oid policy ≡ targets_by log epoch oid policy
unfolding targets_by
targets_stay log more epoch oid policy some begun =
    ap (λ (members : List Member). targets_of members (hash_of_object oid) (wanted_of policy (kind_of oid)))
    (members_in-append log more epoch some begun)

-- so the attempt stays shaped
grown : (log more : List Entry) (attempt : AttemptRecord) → IsShaped log attempt → IsShaped (log ++ more) attempt
grown log more attempt is =
    let vid = vid_of (object_of attempt) in
    let same : reserved_in (log ++ more) vid ≡ reserved_in log vid = reserved_stays log more vid
    (spec_used log vid is.disk.spec is.disk.made) in
    let least = is.reserved in
    let most = is.before in
    let grows : epoch_of (log ++ more) ≡ epoch_of log + length (filter begins_epoch more) = epoch_of-append log more in
    let begun = is.begun in
    record {
      making = is.making;
      disk = record { spec = is.disk.spec; made = spec_stays log more vid is.disk.spec is.disk.made; policy_so = is.disk.policy_so };
      targets = is.targets ∙ sym (targets_stay log more attempt.epoch (object_of attempt) (policy_of attempt.work)
          (some_entries log vid is.disk.spec is.disk.made) is.begun);
      wanted = is.wanted;
      begun = omega (arith, begun, grows);
      reserved = omega (arith, same, least);
      before = omega (arith, same, most);
    }

-- ---- an attempt that is opened

-- the newest epoch of a log that isn't empty was entered
entered_last : (entries : List Entry) (most : ℕ) → 1 ≤ most → is_entered (epochs_up_to entries most) most ≡ true
unfolding epochs_up_to
entered_last entries zero some = absurd (omega (arith, some))
entered_last entries (suc most) some =
    ap (λ (b : Bool). b || is_entered (epochs_up_to entries most) (suc most)) (eq-eqb (suc most) (suc most) refl)

pub entered_newest : (entries : List Entry) → 1 ≤ length entries → is_entered (epochs_of entries) (epoch_of entries) ≡ true
entered_newest [] some = absurd (omega (arith, some))
entered_newest (first ∷ later) some = entered_last (first ∷ later) (epoch_of (first ∷ later)) (omega arith)

-- a create or write goes to all targets, in their order
receivers_are : (work : ObjWork) (first from : ℕ) (targets : List NodeId)
    → map (λ (message : Message). message.node) (map (message_for work) (enumerate_from first (enumerate_from from targets))) ≡ targets
receivers_are work first from [] = refl
receivers_are work first from (target ∷ targets) =
    ap (λ (rest : List NodeId). target ∷ rest) (receivers_are work (first + 1) (from + 1) targets)

-- and begins in as many zones as are wanted
zones_of_making : (work : ObjWork) → is_making work ≡ true → zones_for work ≡ wanted_of (policy_of work) (kind_of (oid_of work))
zones_of_making (obj_works.Create oid policy size offset bytes) making = refl
zones_of_making (obj_works.Write oid policy offset bytes) making = refl
zones_of_making (obj_works.Read oid policy offset size) making = absurd (cc (making))
zones_of_making (obj_works.ReadAll oid policy size) making = absurd (cc (making))

module _ (script : List Statement) (range : RunsAreInRange script) (start : MomentWithPast) (began : Began script start.world)
    (after : MomentWithPast)
    (new : AttemptRecord) (o : IsOpened script start after new) where
  abbrev input : Input
  input = input_of_cause o.stepping.cause

  abbrev host : Host
  host = o.stepping.host

  abbrev last : Node
  last = (node_step input host.node).node

  abbrev entries : List Entry
  entries = read_after input host.node.peer.entries

  abbrev work : ObjWork
  work = o.asked.work

  abbrev world_after : World
  world_after = world_after_cause script o.stepping.n host o.stepping.cause start.world

  pub began_after : Began script world_after
  began_after =
      goes_on script (event_of_cause o.stepping.n o.stepping.cause) start.world
      (outcome_of_step script o.stepping.n host o.stepping.cause start.world) began o.is.made

  -- what the node has read by then are the first entries of the log
  pub front : IsFront last.peer.entries world_after.log
  front =
      all_read script world_after began_after o.stepping.n (host_with_node host last)
      (get-insert_same start.world.hosts o.stepping.n (host_with_node host last))

  pub log_so : after.world.log ≡ entries ++ front.rest
  log_so =
      ap (λ (m : MomentWithPast). m.world.log) o.moment_so ∙ front.is
      ∙ ap (λ (read : List Entry). read ++ front.rest) (step_reads input host.node)

  follows : IsByTheLog last
  follows =
      by_the_log script range.is_script range.room world_after began_after o.stepping.n (host_with_node host last)
      (get-insert_same start.world.hosts o.stepping.n (host_with_node host last))

  -- the node where the attempt is opened knows the same
  is_same : untouched_in (with_open_attempt o.req o.asked o.lined) ≡ untouched_in (first_in_step o.stepping)
  is_same =
      (in_order_so_far (with_open_attempt o.req o.asked o.lined) (changes.Then o.leads
      (changes.Opens o.session o.req o.asked o.lined o.comes o.enough))).same

  peer_so : o.lined.node.peer ≡ last.peer
  peer_so = ap (λ (u : Untouched). u.peer) is_same ∙ sym (step_peer input host.node)

  lined_epoch : o.lined.node.peer.epoch ≡ epoch_of entries
  lined_epoch = ap (λ (p : Peer). p.epoch) peer_so ∙ follows.epoch_so ∙ ap epoch_of (step_reads input host.node)

  lined_epochs : o.lined.node.epochs ≡ epochs_of entries
  lined_epochs =
      ap (λ (u : Untouched). u.epochs) is_same ∙ sym (step_epochs input host.node) ∙ follows.epochs_so
      ∙ ap epochs_of (step_reads input host.node)

  pub work_so : work ≡ new.work
  work_so = ap (λ (a : AttemptRecord). a.work) o.opened

  epoch_so : new.epoch ≡ epoch_of entries
  epoch_so = sym (ap (λ (a : AttemptRecord). a.epoch) o.opened) ∙ lined_epoch

  -- its disk is known
  disk : IsOnKnownDisk (log_effects entries) (oid_of work) (policy_of work)
  disk =
      (work_known input host.node (read_reservable script range start.world o.stepping.n host o.stepping.cause began_after)
      (caused_known script range.is_script (effects_after input host.node) start.world o.stepping.n host o.stepping.cause
      (nodes-valid script range.is_script range.room start.world began o.stepping.n host o.is.there) o.is.caused)
      (nodes_know script range start.world began o.stepping.n host o.is.there)
      o.so_far o.leads o.session o.req o.asked o.lined o.comes).making o.making

  some : 1 ≤ length entries
  some = some_entries entries (vid_of (oid_of work)) disk.spec disk.made

  abbrev asked_targets : List NodeId
  asked_targets = targets_in o.lined.node.epochs o.lined.node.peer.epoch (oid_of work) (policy_of work)

  goes_to : new.targets ≡ asked_targets
  goes_to =
      sym (ap (λ (a : AttemptRecord). a.targets) o.opened)
      ∙ ap (λ (places : List (ℕ × NodeId)). map (λ (message : Message). message.node)
      (map (message_for work) (enumerate_from o.lined.node.sends places))) (targets-of_making work o.asked.ended asked_targets o.making)
      ∙ receivers_are work o.lined.node.sends 0 asked_targets

  targets_are : asked_targets ≡ targets_by (entries ++ front.rest) (epoch_of entries) (oid_of work) (policy_of work)
  unfolding targets_in targets_by
  targets_are =
      ap (λ (members : List Member). targets_of members (hash_of_object (oid_of work)) (wanted_of (policy_of work) (kind_of (oid_of work))))
      ((λ i. members_at (lined_epochs i) (lined_epoch i)) ∙ members_read entries front.rest (epoch_of entries)
      (entered_newest entries some))

  count : length asked_targets ≡ wanted_of (policy_of work) (kind_of (oid_of work))
  count =
      let wanted : ℕ = wanted_of (policy_of work) (kind_of (oid_of work)) in
      let all : length asked_targets ≡ min wanted (zones_of_members o.lined.node)
      = targets-count o.lined.node.epochs o.lined.node.peer.epoch (oid_of work) (policy_of work) in
      let zones : zones_for work ≤ zones_of_members o.lined.node = ltb-false (zones_of_members o.lined.node) (zones_for work) o.enough in
      let needed : zones_for work ≡ wanted = zones_of_making work o.making in
      omega (arith, all, zones, needed)

  abbrev Targets : ObjWork → ℕ → Type 0
  Targets work epoch = new.targets ≡ targets_by (entries ++ front.rest) epoch (oid_of work) (policy_of work)

  shaped_then : IsShaped (entries ++ front.rest) new
  shaped_then =
      let vid = vid_of (oid_of work) in
      let used = spec_used entries vid disk.spec disk.made in
      let within : IsReservedWithin entries vid = reserved_within entries vid used in
      let same : reserved_in (entries ++ front.rest) vid ≡ reserved_in entries vid = reserved_stays entries front.rest vid used in
      let vid_so : reserved_in (entries ++ front.rest) (vid_of (object_of new)) ≡ reserved_in (entries ++ front.rest) vid
      = ap (λ (w : ObjWork). reserved_in (entries ++ front.rest) (vid_of (oid_of w))) (sym work_so) in
      let least = within.0 in
      let most = within.1 in
      let grows : epoch_of (entries ++ front.rest) ≡ epoch_of entries + length (filter begins_epoch front.rest) = epoch_of-append entries
      front.rest in
      let epoch : new.epoch ≡ epoch_of entries = epoch_so in
      record {
        making = ap is_making (sym work_so) ∙ o.making;
        disk = subst (λ (w : ObjWork). IsOnKnownDisk (log_effects (entries ++ front.rest)) (oid_of w) (policy_of w)) work_so
            (record { spec = disk.spec; made = spec_stays entries front.rest vid disk.spec disk.made; policy_so = disk.policy_so });
        targets = subst (λ (w : ObjWork). Targets w new.epoch) work_so (subst (Targets work) (sym epoch_so) (goes_to ∙ targets_are));
        wanted = subst (λ (w : ObjWork). length new.targets ≡ wanted_of (policy_of w) (kind_of (oid_of w))) work_so
            (ap length goes_to ∙ count);
        begun = omega (arith, epoch, grows);
        reserved = omega (arith, vid_so, same, least);
        before = omega (arith, vid_so, same, most, epoch);
      }

  pub opened_shaped : IsShaped after.world.log new
  opened_shaped = subst (λ (log : List Entry). IsShaped log new) (sym log_so) shaped_then

-- ---- as the invariant says it

policy_made : (known : List Effect) (oid : ℕ) (policy : Policy) → policy_in known oid ≡ Some policy → IsOnKnownDisk known oid policy
policy_made known oid policy is = by_spec (spec_in known (vid_of oid)) refl is
  where
    by_spec : (o : Option VdiSpec) → spec_in known (vid_of oid) ≡ o → option_map (λ (spec : VdiSpec). spec.policy) o ≡ Some policy
        → IsOnKnownDisk known oid policy
    by_spec None made is = absurd (cc (is))
    by_spec (Some spec) made is = record { spec = spec; made = made; policy_so = sym (same_Some spec.policy policy is) }

abbrev pub AllShaped : List Entry → List AttemptRecord → Type 0
AllShaped log attempts = (j : ℕ) (attempt : AttemptRecord) → slice_get attempts j ≡ Some attempt → IsShaped log attempt

pub shaped-each : (moment : MomentWithPast) → AreShaped moment → AllShaped moment.world.log moment.past.attempts
shaped-each moment are j attempt got = record {
  making = are.shape.making j attempt got;
  disk = policy_made (log_effects moment.world.log) (object_of attempt) (policy_of attempt.work) (are.shape.policy j attempt got);
  targets = are.shape.targets j attempt got;
  wanted = are.shape.wanted j attempt got;
  begun = are.shape.begun j attempt got;
  reserved = are.known.reserved j attempt got;
  before = are.known.before j attempt got;
}

pub shaped-all : (moment : MomentWithPast) → AllShaped moment.world.log moment.past.attempts → AreShaped moment
shaped-all moment all = record {
  shape = record {
    making = λ j attempt got. (all j attempt got).making;
    policy = λ j attempt got.
        let disk = (all j attempt got).disk in
        ap (option_map (λ (spec : VdiSpec). spec.policy)) disk.made ∙ ap Some (sym disk.policy_so);
    targets = λ j attempt got. (all j attempt got).targets;
    wanted = λ j attempt got. (all j attempt got).wanted;
    begun = λ j attempt got. (all j attempt got).begun;
  };
  known = record {
    reserved = λ j attempt got. (all j attempt got).reserved;
    before = λ j attempt got. (all j attempt got).before;
  };
}

-- ---- every change

pub opening_shaped : (script : List Statement) → AreShaped (first_moment script)
opening_shaped script = shaped-all (first_moment script) (λ j attempt got. absurd (cc (got)))

module _ (script : List Statement) (range : RunsAreInRange script) where
  pub change_shaped : (start before after : MomentWithPast) → Began script start.world → MomentChange script start before after
      → AreShaped before → AreShaped after
  change_shaped start before after began change are = shaped-all after (λ j now got. ⊎_elim
      (λ (w : WasAttempt before j now).
      let (more, grows) = logs_grow script change in
      subst (IsShaped after.world.log) w.same
      (refated after.world.log w.was w.fates
      (subst (λ (log : List Entry). IsShaped log w.was) (sym grows)
      (grown before.world.log more w.was (shaped-each before are j w.was w.at)))))
      (λ (o : IsOpened script start after now). opened_shaped script range start began after now o)
      (come_from script range start began change j now got))

  pub kept_shaped : KeptByChanges script AreShaped
  kept_shaped = record {
    opens = opening_shaped script;
    keeps = λ start before after began change are. change_shaped start before after began change are;
  }
