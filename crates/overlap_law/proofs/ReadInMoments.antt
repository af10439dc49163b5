-- In each moment on the way of an event a node has read the first entries of the log, and is in the epoch of those; and its recovery is of
-- the members that the log has of its epoch.
use Rattle.std.proofs.Common.{◌≡◌, ◌≢◌, ◌⊎◌, inl, inr, ⊎_elim, arith, ℕ, ◌+◌, ◌≤◌, ◌<◌, Bool, true, false, ◌||◌, List, [], ◌∷◌, filter}
use Rattle.std.proofs.Common.{length, Some, refl, sym, ap, subst, ◌∙◌}
use Rattle.std.specs.FinMap as tree
use Rattle.std.proofs.lemmas.Bool.{cases_lt}
use Rattle.proof_tools.proofs.FiniteMaps.{get-insert_same, get-insert_other, get-insert_cases}
use Rattle.object_id.specs.declared.entry.Entry.{Entry}
use Rattle.object_id.specs.declared.entry.Member.{Member}
use Rattle.object_id.specs.declared.node.NodeId.{NodeId}
use Rattle.epoch_log.specs.Members as members
use Rattle.epoch_log.specs.Epochs.{begins_epoch, epoch_of, members_in, settled_of}
use Rattle.epoch_log.proofs.EpochLemmas.{epoch_of-append, members_in-append}
use Rattle.object_list.specs.Gathered.{has_node}
use Rattle.cluster_script.specs.declared.statement.Statement.{Statement}
use Rattle.peer_service.specs.State.{Peer}
use Rattle.sheep_node.specs.StepState.{StepState}
use Rattle.sheep_node.proofs.StepChain.{step_chain}
use Rattle.sheep_node.proofs.StepEffects.{Untouched}
use Rattle.sheep_world.specs.World.{Host, World}
use Rattle.sheep_world.specs.NodeCauses.{input_of_cause, event_of_cause, host_with_node, world_after_cause}
use Rattle.sheep_world.specs.EventKinds.{outcome_of_step}
use Rattle.sheep_world.specs.Began.{Began}
use Rattle.sheep_world.specs.LogFronts.{IsFront}
use Rattle.sheep_world.proofs.BegunWorlds.{goes_on}
use Rattle.sheep_world.proofs.LogFrontLaws.{all_read}
use Rattle.sheep_world.proofs.NodesByTheLog.{by_the_log, knows_its_number}
use Rattle.overlap_law.specs.Past.{MomentWithPast, first_moment, run_with_past, run_on}
use Rattle.overlap_law.specs.StepMoments.{SteppingNode, IsStepping, first_in_step, last_in_step, LeadsInStep, hosts_in_step, moment_in_step}
use Rattle.overlap_law.specs.MomentChanges.{MomentChange, RunsAreInRange, KeptByChanges}
use Rattle.overlap_law.specs.NodeEpochs.{RecoveriesArePresent}
use Rattle.overlap_law.proofs.NoRecoveredDue.{began-with_past}
use Rattle.overlap_law.proofs.RecoveryMembers.{nodes_of_members}
use Rattle.overlap_law.proofs.SendsOfChanges.{in_order_so_far}
use Rattle.overlap_law.proofs.SoundNodes.{IsSoundNode, sound_in_worlds, sound_after}
use Rattle.overlap_law.proofs.ClosedWorlds.{world_after}

-- a node of this number has read the first entries of a log, and is in their epoch, with what they settle
pub record HasReadOf (log : List Entry) (n : ℕ) (me : NodeId) (peer : Peer) : Type 0 where
  pub own : me.0 ≡ n
  pub front : IsFront peer.entries log
  pub epoch_so : peer.epoch ≡ epoch_of peer.entries
  pub settled_so : peer.settled ≡ settled_of peer.entries

-- what holds of a host's node and of what it has read
pub record IsSoundHost (log : List Entry) (n : ℕ) (host : Host) : Type 0 where
  pub read : HasReadOf log n host.node.me host.node.peer
  pub sound : IsSoundNode host.node

-- ---- the members of its epochs

module _ (log : List Entry) (n : ℕ) (me : NodeId) (peer : Peer) (read : HasReadOf log n me peer) where
  pub epoch_within : peer.epoch ≤ epoch_of log
  epoch_within =
      let sum : epoch_of log ≡ epoch_of peer.entries + length (filter begins_epoch read.front.rest)
      = ap epoch_of read.front.is ∙ epoch_of-append peer.entries read.front.rest in
      let own : peer.epoch ≡ epoch_of peer.entries = read.epoch_so in
      omega (arith, sum, own)

  some_read : 1 < peer.epoch → 1 ≤ length peer.entries
  some_read later = by_entries peer.entries refl
    where
      by_entries : (entries : List Entry) → peer.entries ≡ entries → 1 ≤ length entries
      by_entries [] none = let first : peer.epoch ≡ 1 = read.epoch_so ∙ ap epoch_of none in absurd (omega (arith, first, later))
      by_entries (first ∷ rest) is = omega arith

  pub members_of : (epoch : ℕ) → 1 < peer.epoch → epoch ≤ peer.epoch → members_in log epoch ≡ members_in peer.entries epoch
  members_of epoch later within =
      let own : peer.epoch ≡ epoch_of peer.entries = read.epoch_so in
      ap (λ (entries : List Entry). members_in entries epoch) read.front.is
      ∙ members_in-append peer.entries read.front.rest epoch (some_read later) (omega (arith, own, within))

node_among : (other : NodeId) (list : List Member) → has_node other (nodes_of_members list) ≡ members.is_member other.0 list
node_among other [] = refl
node_among other (member ∷ list) = ap (λ (b : Bool). members.is_member_node other.0 member || b) (node_among other list)

-- the members of a recovery are those of its epoch
pub recovery_members : (log : List Entry) (n : ℕ) (host : Host) → IsSoundHost log n host → (other : NodeId) → 1 < host.node.recovery.epoch
    → has_node other host.node.recovery.members ≡ members.is_member other.0 (members_in log host.node.recovery.epoch)
recovery_members log n host is other later =
    let recovers = is.sound.recovers in
    let entered = recovers.entered in
    ap (has_node other) (recovers.members_so later)
    ∙ node_among other (members_in host.node.peer.entries host.node.recovery.epoch)
    ∙ ap (members.is_member other.0) (sym (members_of log n host.node.me host.node.peer is.read host.node.recovery.epoch
    (omega (arith, later, entered)) entered))

-- a node is among them
pub recovery_own : (log : List Entry) (n : ℕ) (host : Host) → IsSoundHost log n host → 1 < host.node.recovery.epoch
    → members.is_member n (members_in log host.node.recovery.epoch) ≡ true
recovery_own log n host is later =
    let recovers = is.sound.recovers in
    let entered = recovers.entered in
    ap (λ (k : ℕ). members.is_member k (members_in log host.node.recovery.epoch)) (sym is.read.own)
    ∙ ap (members.is_member host.node.me.0) (members_of log n host.node.me host.node.peer is.read host.node.recovery.epoch
    (omega (arith, later, entered)) entered)
    ∙ recovers.own later

-- its recovery is that of its epoch, if it is a member
pub recovery_present : (log : List Entry) (n : ℕ) (host : Host) → IsSoundHost log n host
    → (host.node.recovery.epoch ≡ host.node.peer.epoch) ⊎ (members.is_member n (members_in log host.node.peer.epoch) ≡ false)
recovery_present log n host is =
    let recovers = is.sound.recovers in
    ⊎_elim
    (λ (later : 1 < host.node.peer.epoch). ⊎_elim
    (λ (own : host.node.recovery.epoch ≡ host.node.peer.epoch). inl own)
    (λ (out : members.is_member host.node.me.0 (members_in host.node.peer.entries host.node.peer.epoch) ≡ false).
    inr (ap (λ (k : ℕ). members.is_member k (members_in log host.node.peer.epoch)) (sym is.read.own)
    ∙ ap (members.is_member host.node.me.0) (members_of log n host.node.me host.node.peer is.read host.node.peer.epoch later (omega arith))
    ∙ out)) recovers.present)
    (λ (first : host.node.peer.epoch ≤ 1).
    let begun = recovers.begun in
    let entered = recovers.entered in
    inl (omega (arith, first, begun, entered)))
    (cases_lt 1 host.node.peer.epoch)

-- each host is so
pub record HostsAreSound (moment : MomentWithPast) : Type 0 where
  pub each : (n : ℕ) (host : Host) → tree.get moment.world.hosts n ≡ Some host → IsSoundHost moment.world.log n host

pub are_present : (moment : MomentWithPast) → HostsAreSound moment → RecoveriesArePresent moment.world.log moment.world.hosts
are_present moment holds = record {
  epochs = λ n host there up. recovery_present moment.world.log n host (holds.each n host there);
  members = λ n host there other later. recovery_members moment.world.log n host (holds.each n host there) other later;
}

-- ---- in every moment

module _ (script : List Statement) (range : RunsAreInRange script) where
  pub read_in_world : (world : World) → Began script world → (n : ℕ) (host : Host) → tree.get world.hosts n ≡ Some host
      → HasReadOf world.log n host.node.me host.node.peer
  read_in_world world began n host there = record {
    own = knows_its_number script world began n host there;
    front = all_read script world began n host there;
    epoch_so = (by_the_log script range.is_script range.room world began n host there).epoch_so;
    settled_so = (by_the_log script range.is_script range.room world began n host there).settled_so;
  }

  pub sound_hosts : (moment : MomentWithPast) → Began script moment.world → HostsAreSound moment
  sound_hosts moment began = record {
    each = λ n host there. record {
      read = read_in_world moment.world began n host there;
      sound = sound_in_worlds script range moment.world began n host there;
    };
  }

  module _ (start : MomentWithPast) (began : Began script start.world) where
    read_in_step : (stepping : SteppingNode) → IsStepping script start.world stepping → (so_far : StepState)
        → LeadsInStep stepping (first_in_step stepping) so_far
        → (n : ℕ) (host : Host) → tree.get (hosts_in_step stepping start.world so_far) n ≡ Some host
        → HasReadOf (moment_in_step script stepping start so_far).world.log n host.node.me host.node.peer
    read_in_step stepping is so_far leads n host there =
        let last = host_with_node stepping.host (last_in_step stepping).node in
        let end = world_after_cause script stepping.n stepping.host stepping.cause start.world in
        let ended : Began script end = goes_on script (event_of_cause stepping.n stepping.cause) start.world
        (outcome_of_step script stepping.n stepping.host stepping.cause start.world) began is.made in
        let own_so : (last_in_step stepping).node.me ≡ so_far.node.me
        = ap (λ (u : Untouched). u.me) ((in_order_so_far (last_in_step stepping)
        (step_chain (input_of_cause stepping.cause) stepping.host.node)).same
        ∙ sym (in_order_so_far so_far leads).same) in
        let peer_so : (last_in_step stepping).node.peer ≡ so_far.node.peer
        = ap (λ (u : Untouched). u.peer) ((in_order_so_far (last_in_step stepping)
        (step_chain (input_of_cause stepping.cause) stepping.host.node)).same
        ∙ sym (in_order_so_far so_far leads).same) in
        ⊎_elim
        (λ (own : (n ≡ stepping.n) × (host_with_node stepping.host so_far.node ≡ host)).
        let at : tree.get end.hosts n ≡ Some last = ap (tree.get end.hosts) own.0 ∙ get-insert_same start.world.hosts stepping.n last in
        subst (λ (h : Host). HasReadOf end.log n h.node.me h.node.peer) own.1
        (subst (λ (me : NodeId). HasReadOf end.log n me so_far.node.peer) own_so
        (subst (HasReadOf end.log n (last_in_step stepping).node.me) peer_so (read_in_world end ended n last at))))
        (λ (other : (n ≢ stepping.n) × (tree.get start.world.hosts n ≡ Some host)).
        read_in_world end ended n host (get-insert_other start.world.hosts stepping.n last n other.0 ∙ other.1))
        (get-insert_cases start.world.hosts stepping.n (host_with_node stepping.host so_far.node) n host there)

    read_after : {before after : MomentWithPast} → MomentChange script start before after → (n : ℕ) (host : Host)
        → tree.get after.world.hosts n ≡ Some host → HasReadOf after.world.log n host.node.me host.node.peer
    read_after change =
        world_after script
        (λ (world : World). (n : ℕ) (host : Host) → tree.get world.hosts n ≡ Some host → HasReadOf world.log n host.node.me host.node.peer)
        read_in_world start began (λ stepping is by so_far leads. read_in_step stepping is so_far leads) change

    pub hosts_after_sound : {before after : MomentWithPast} → MomentChange script start before after → HostsAreSound after
    hosts_after_sound change = record {
      each = λ n host there. record {
        read = read_after change n host there;
        sound = sound_after script range start began change n host there;
      };
    }

  -- before the first event
  pub opening_began : Began script (first_moment script).world
  unfolding run_with_past run_on
  opening_began = began-with_past script [] (first_moment script) refl

  pub kept_sound : KeptByChanges script HostsAreSound
  kept_sound = record {
    opens = sound_hosts (first_moment script) opening_began;
    keeps = λ start before after began change holds. hosts_after_sound start began change;
  }
