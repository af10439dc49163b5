-- In each world of a run in range, if rows are at their targets in each, a pending object is one of which the node is a target and has
-- no open row, and whose id it knows.
use Rattle.std.proofs.Common.{◌≡◌, ⊎_elim, arith, ℕ, zero, suc, ◌+◌, ◌≤◌, nat_lt, ◌==◌, ◌||◌, not, Bool, true}
use Rattle.std.proofs.Common.{false, cond, List, [], ◌∷◌, length, Option, Some, None, is_some, option_map, slice_get, refl, sym, ap}
use Rattle.std.proofs.Common.{subst, ◌∙◌}
use Rattle.std.specs.List.{AllByRecursion, list_any, position_or_len}
use Rattle.std.specs.FinMap as tree
use Rattle.std.proofs.lemmas.Bool.{or_left, or_right, ltb-true, lt-ltb, eq-eqb, eqb-true}
use Rattle.std.proofs.lemmas.List.Folds.{Any-from_list_any, list_any-from_Any}
use Rattle.object_id.specs.Oid.{kind_of, vid_of}
use Rattle.object_id.specs.Policy.{wanted_of}
use Rattle.object_id.specs.declared.entry.Entry.{Entry}
use Rattle.object_id.specs.declared.entry.Member.{Member}
use Rattle.object_id.specs.declared.entry.VdiSpec.{VdiSpec}
use Rattle.object_id.specs.declared.node.NodeId.{NodeId}
use Rattle.object_id.specs.declared.oid.Kind.{Kind}
use Rattle.object_id.specs.declared.policy.Policy.{Policy}
use Rattle.epoch_log.specs.Epochs.{epoch_of, members_in}
use Rattle.epoch_log.specs.Members as members
use Rattle.epoch_log.proofs.EpochLemmas.{members_in-append}
use Rattle.gf256.specs.Part.{index_at, index_among}
use Rattle.hash_ring.specs.Circle.{hash_of_object}
use Rattle.hash_ring.specs.Placement.{targets_of}
use Rattle.hash_ring.proofs.TargetLaws.{targets_are_members}
use Rattle.object_list.specs.Gathered.{has_node, is_same_node}
use Rattle.object_store.specs.Rows.{is_open}
use Rattle.object_store.specs.Store.{SeenRow, rows_of}
use Rattle.cluster_script.specs.declared.statement.Statement.{Statement}
use Rattle.cluster_script.specs.Settings.{tries_of}
use Rattle.peer_service.specs.State.{Peer, object_policy, is_known}
use Rattle.vnode_table.specs.Epochs.{EpochMembers, is_entered, members_at}
use Rattle.vnode_table.specs.Targets.{targets_in}
use Rattle.vdi_directory.specs.declared.header.Header.{Header}
use Rattle.vdi_directory.specs.Effects.{header_of}
use Rattle.vdi_directory.specs.Decisions.{log_effects}
use Rattle.recovery.specs.Shown.{index_in}
use Rattle.sheep_node.specs.declared.input.Input.{Input}
use Rattle.sheep_node.specs.declared.input.Input.TheVariants as inputs
use Rattle.sheep_node.specs.State as nodes
use Rattle.sheep_node.specs.State.{Node}
use Rattle.sheep_node.specs.May.{MayRead}
use Rattle.sheep_node.specs.RecoveryView.{shown_node}
use Rattle.sheep_node.specs.Step.{node_step}
use Rattle.sheep_world.specs.World.{Host, World}
use Rattle.sheep_world.specs.Opening.{format_entry, initial_world}
use Rattle.sheep_world.specs.NodeCauses.{NodeCause, GuestAsks, RequestComes, ReplyComes, LossIsTold, EntryIsRead, EntryIsPut, RecoveryTicks}
use Rattle.sheep_world.specs.NodeCauses.{WorkIsRetried, ClientAsks, IsCause, input_of_cause}
use Rattle.sheep_world.specs.EventKinds.{log_after_return}
use Rattle.sheep_world.specs.HostChanges.{HostsKeep}
use Rattle.sheep_world.specs.Began.{Began}
use Rattle.sheep_world.proofs.BegunWorlds.{each_where}
use Rattle.sheep_world.proofs.LogAtOpening.{opens_log}
use Rattle.sheep_world.proofs.NextEntries.{reads-may}
use Rattle.sheep_world.proofs.ValidNodes.{first_may}
use Rattle.overlap_law.specs.Holders.{targets_by}
use Rattle.overlap_law.specs.Each.{row_covers, policy_in}
use Rattle.overlap_law.specs.MomentChanges.{RunsAreInRange}
use Rattle.overlap_law.specs.Rows.{RowsAreAtTargets}
use Rattle.overlap_law.proofs.CoveredLevels.{covers_by}
use Rattle.overlap_law.proofs.HolderLemmas.{target-member}
use Rattle.overlap_law.proofs.KnownSteps.{together}
use Rattle.overlap_law.proofs.LackedAtEntries.{policy_stays, none_known}
use Rattle.overlap_law.proofs.LackedInSteps.{step_lacks, step_back_lacks}
use Rattle.overlap_law.proofs.LackedServed.{NodeLacks}
use Rattle.overlap_law.proofs.LackedPending.{OpenRowsAreOwn}
use Rattle.overlap_law.proofs.ReadInMoments.{IsSoundHost, HasReadOf, recovery_present, read_in_world}
use Rattle.overlap_law.proofs.RecoveryMembers.{members_of_newest}
use Rattle.overlap_law.proofs.RowsInTurn.{within_at, end_open, open_from}
use Rattle.overlap_law.proofs.SoundNodes.{sound_in_worlds}
use Rattle.overlap_law.proofs.TurnsOfRows.{rows_in_turn}
use Rattle.sheep_world.proofs.NodesByTheLog.{by_the_log}

-- ---- words

-- who has an index is among the targets
any_from_place : (test : NodeId → Bool) (nodes : List NodeId) → nat_lt (position_or_len test nodes) (length nodes) ≡ true
    → list_any test nodes ≡ true
any_from_place test [] is = absurd (cc (is))
any_from_place test (node ∷ nodes) is = by_test (test node) refl (λ within. any_from_place test nodes within) is
  where
    by_test : (b : Bool) → test node ≡ b
        → (nat_lt (position_or_len test nodes) (length nodes) ≡ true → list_any test nodes ≡ true)
        → nat_lt (cond (not b) (1 + position_or_len test nodes) 0) (length (node ∷ nodes)) ≡ true
        → list_any test (node ∷ nodes) ≡ true
    by_test true here rest is = or_left (test node) (list_any test nodes) here
    by_test false other rest is =
        let less = ltb-true (1 + position_or_len test nodes) (length (node ∷ nodes)) is in
        or_right (test node) (list_any test nodes)
        (rest (lt-ltb (position_or_len test nodes) (length nodes) (omega (arith, less))))

pub index-has_node : (me : NodeId) (targets : List NodeId) (policy : Policy) (kind : Kind) (index : ℕ)
    → index_among me targets policy kind ≡ Some index → has_node me targets ≡ true
index-has_node me targets policy kind index is =
    by_place (nat_lt (position_or_len (is_same_node me) targets) (length targets)) refl is
  where
    by_place : (b : Bool) → nat_lt (position_or_len (is_same_node me) targets) (length targets) ≡ b
        → option_map (index_at policy kind) (cond b (Some (position_or_len (is_same_node me) targets)) None) ≡ Some index
        → has_node me targets ≡ true
    by_place true within is = any_from_place (is_same_node me) targets within
    by_place false outside is = absurd (cc (is))

-- a target is one of the members
pub among_members : (list : List Member) (hash wanted : ℕ) (node : NodeId) → has_node node (targets_of list hash wanted) ≡ true
    → members.is_member node.0 list ≡ true
among_members list hash wanted node there =
    let found = Any-from_list_any (is_same_node node) _ there in
    let member = targets_are_members list _ _ found.1 (found.0, found.2, found.3) in
    list_any-from_Any (members.is_member_node node.0) list (
      member.0,
      member.1,
      member.2,
      member.3,
      eq-eqb member.1.node.0 node.0 (ap (λ (other : NodeId). other.0) member.4 ∙ eqb-true found.1.0 node.0 found.4),
    )

-- a node is one of the targets that these members give
abbrev pub IsAmong : ℕ → Policy → NodeId → List Member → Type 0
IsAmong oid policy node list = has_node node (targets_of list (hash_of_object oid) (wanted_of policy (kind_of oid))) ≡ true

-- an epoch that wasn't entered has no members there
pub none_entered : (epochs : List EpochMembers) (epoch : ℕ) → is_entered epochs epoch ≡ false → members_at epochs epoch ≡ []
none_entered [] epoch none = refl
none_entered (entered ∷ earlier) epoch none = by_test (entered.epoch == epoch) refl none (none_entered earlier epoch)
  where
    by_test : (b : Bool) → (entered.epoch == epoch) ≡ b → (b || is_entered earlier epoch) ≡ false
        → (is_entered earlier epoch ≡ false → members_at earlier epoch ≡ []) → cond b entered.members (members_at earlier epoch) ≡ []
    by_test true here none rest = absurd (cc (none))
    by_test false other none rest = rest none

-- of rows at their places
all_at : (P : SeenRow → Type 0) (rows : List SeenRow) → ((i : ℕ) (row : SeenRow) → slice_get rows i ≡ Some row → P row)
    → AllByRecursion P rows
all_at P [] each = tt
all_at P (row ∷ rows) each = (each zero row refl, all_at P rows (λ i other got. each (suc i) other got))

-- an object whose policy is known is known
pub policy-known : (peer : Peer) (oid : ℕ) (policy : Policy) → object_policy peer oid ≡ Some policy → is_known peer oid ≡ true
policy-known peer oid policy is = by_header (header_of (log_effects peer.entries) (vid_of oid)) is
  where
    by_header : (o : Option Header)
        → option_map (λ (spec : VdiSpec). spec.policy) (option_map (λ (header : Header). header.spec) o) ≡ Some policy
        → is_some o ≡ true
    by_header None is = absurd (cc (is))
    by_header (Some header) is = refl

-- the log that has begun with what was read
some_entries : (entries : List Entry) (oid : ℕ) (policy : Policy) → policy_in (log_effects entries) oid ≡ Some policy → 1 ≤ length entries
some_entries [] oid policy is = none_known [] oid policy is refl
some_entries (first ∷ later) oid policy is = omega arith

abbrev entry_or : Entry → Input → Entry
entry_or none (inputs.LogEntry entry) = entry
entry_or none _ = none

one : 1 ≤ 1
one = omega arith

-- ---- every world

module _ (script : List Statement) (range : RunsAreInRange script)
    (placed : (world : World) → Began script world → RowsAreAtTargets (targets_by world.log) (log_effects world.log) world.hosts) where
  sound_at : (world : World) → Began script world → (n : ℕ) (host : Host) → tree.get world.hosts n ≡ Some host
      → IsSoundHost world.log n host
  sound_at world began n host there = record {
    read = read_in_world script range world began n host there;
    sound = sound_in_worlds script range world began n host there;
  }

  module _ (world : World) (began : Began script world) (n : ℕ) (host : Host) (there : tree.get world.hosts n ≡ Some host) where
    abbrev node : Node
    node = host.node

    abbrev read : HasReadOf world.log n node.me node.peer
    read = read_in_world script range world began n host there

    recovery_me : node.recovery.me ≡ node.me
    recovery_me = ((together script range world began).recoveries n host there).own

    pub own_name : node.recovery.me ≡ record { 0 = n }
    own_name = recovery_me ∙ (λ i. record { 0 = read.own i })

    -- what a node knows of a policy the log knows
    known_by_log : (oid : ℕ) (policy : Policy) → object_policy node.peer oid ≡ Some policy
        → policy_in (log_effects world.log) oid ≡ Some policy
    known_by_log oid policy known =
        ap (λ (log : List Entry). policy_in (log_effects log) oid) read.front.is
        ∙ policy_stays node.peer.entries read.front.rest oid policy known

    -- in its own epoch its targets are those of the log
    newest_targets : (oid : ℕ) (policy : Policy) → object_policy node.peer oid ≡ Some policy
        → targets_in node.epochs node.peer.epoch oid policy ≡ targets_by world.log node.peer.epoch oid policy
    unfolding targets_in targets_by
    newest_targets oid policy known =
        let some : 1 ≤ length node.peer.entries = some_entries node.peer.entries oid policy known in
        let at : node.peer.epoch ≡ epoch_of node.peer.entries = read.epoch_so in
        ap (λ (list : List Member). targets_of list (hash_of_object oid) (wanted_of policy (kind_of oid)))
        (members_of_newest node (by_the_log script range.is_script range.room world began n host there) some
        ∙ ap (members_in node.peer.entries) (sym at)
        ∙ sym (ap (λ (log : List Entry). members_in log node.peer.epoch) read.front.is
        ∙ members_in-append node.peer.entries read.front.rest node.peer.epoch some (omega (arith, at))))

    -- an open row covers the node's epoch
    open_covers : (oid i : ℕ) (row : SeenRow) → slice_get (rows_of node.peer.rows oid) i ≡ Some row → is_open row ≡ true
        → row_covers node.peer.epoch node.peer.epoch row ≡ true
    open_covers oid i row got still =
        let order = (within_at node.peer.epoch (rows_of node.peer.rows oid) i row got
        (rows_in_turn script range world began n host there oid)).0 in
        let ends = end_open row.to still node.peer.epoch in
        covers_by node.peer.epoch node.peer.epoch row (open_from node.peer.epoch row still order) (omega (arith, ends))

    own_rows : OpenRowsAreOwn node.recovery.me node.recovery.epoch (shown_node node)
    own_rows oid policy known =
        all_at (λ row. is_open row ≡ true → index_in (shown_node node) node.recovery.epoch oid policy node.recovery.me ≡ Some row.index)
        (rows_of node.peer.rows oid) each
      where
        each : (i : ℕ) (row : SeenRow) → slice_get (rows_of node.peer.rows oid) i ≡ Some row → is_open row ≡ true
            → index_in (shown_node node) node.recovery.epoch oid policy node.recovery.me ≡ Some row.index
        each i row got still = ⊎_elim
            (λ (same : node.recovery.epoch ≡ node.peer.epoch).
            ap (λ (epoch : ℕ). index_among node.recovery.me (targets_in node.epochs epoch oid policy) policy (kind_of oid)) same
            ∙ ap (λ (targets : List NodeId). index_among node.recovery.me targets policy (kind_of oid)) (newest_targets oid policy known)
            ∙ ap (λ (me : NodeId). index_among me (targets_by world.log node.peer.epoch oid policy) policy (kind_of oid)) own_name
            ∙ there_at)
            (λ (out : members.is_member n (members_in world.log node.peer.epoch) ≡ false).
            let member : members.is_member n (members_in world.log node.peer.epoch) ≡ true
            = target-member world.log node.peer.epoch oid policy (record { 0 = n })
            (index-has_node (record { 0 = n }) (targets_by world.log node.peer.epoch oid policy) policy (kind_of oid) row.index there_at) in
            absurd (cc (member, out)))
            (recovery_present world.log n host (sound_at world began n host there))
          where
            there_at : index_among (record { 0 = n }) (targets_by world.log node.peer.epoch oid policy) policy (kind_of oid)
                ≡ Some row.index
            there_at =
                (placed world began).each n host there oid i row got policy node.peer.epoch (known_by_log oid policy known)
                (open_covers oid i row got still)

    step_of : (input : Input) → ((entry : Entry) → input ≡ inputs.LogEntry entry → MayRead node.peer.entries entry) → NodeLacks node
        → NodeLacks (node_step input node).node
    step_of input may lacks =
        step_lacks node lacks recovery_me read.epoch_so (sound_in_worlds script range world began n host there).recovers.entered own_rows
        input may

    -- what a node reads it may read
    reads_may : (cause : NodeCause) → IsCause script world n host cause → (entry : Entry) → input_of_cause cause ≡ inputs.LogEntry entry
        → MayRead node.peer.entries entry
    reads_may (GuestAsks session req ask) so entry is = absurd (cc (is))
    reads_may (RequestComes name to request) so entry is = absurd (cc (is))
    reads_may (ReplyComes name from rsp) so entry is = absurd (cc (is))
    reads_may (LossIsTold name packet) so entry is = absurd (cc (is))
    reads_may (EntryIsRead told) so entry is =
        subst (MayRead node.peer.entries) (ap (entry_or told) is)
        (reads-may script range.is_script range.room world began n host told there so)
    reads_may (EntryIsPut told) so entry is = absurd (cc (is))
    reads_may RecoveryTicks so entry is = absurd (cc (is))
    reads_may WorkIsRetried so entry is = absurd (cc (is))
    reads_may (ClientAsks req ask) so entry is = absurd (cc (is))

  -- before the first entry nothing is pending
  first_lacks : (me : NodeId) (tries : ℕ) → NodeLacks (nodes.initial_node me tries)
  first_lacks me tries oid there = absurd (cc (there))

  -- and the first one leaves it so
  opening_lacks : (member : Member)
      → NodeLacks (node_step (inputs.LogEntry (format_entry script)) (nodes.initial_node member.node (tries_of script))).node
  unfolding initial_world
  opening_lacks member =
      step_lacks (nodes.initial_node member.node (tries_of script)) (first_lacks member.node (tries_of script)) refl refl one
      (λ oid policy known. none_known [] oid policy known refl) (inputs.LogEntry (format_entry script))
      (λ entry is.
      subst (MayRead []) (ap (entry_or (format_entry script)) is)
      (first_may (format_entry script) [] (opens_log script range.is_script).log))

  lacks_kept : HostsKeep script (Began script) (λ (world : World) (n : ℕ) (host : Host). NodeLacks host.node)
  unfolding initial_world
  lacks_kept = record {
    opens = opening_lacks;
    stays = λ event world made h began n host lacks. lacks;
    steps = λ world n host cause began there up caused lacks.
        step_of world began n host there (input_of_cause cause) (reads_may world began n host there cause caused) lacks;
    fails = λ world n host began lacks. lacks;
    returns = λ world n host began there lacks. step_back_lacks (log_after_return script n world) host.node;
    joins = λ world n began control. first_lacks (record { 0 = n }) (tries_of script);
  }

  pub lacks-in_world : (world : World) → Began script world → (n : ℕ) (host : Host) → tree.get world.hosts n ≡ Some host
      → NodeLacks host.node
  lacks-in_world =
      each_where script (Began script) (λ (world : World) (n : ℕ) (host : Host). NodeLacks host.node) (λ world began. began) lacks_kept
