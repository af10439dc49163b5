-- In each world of a run the rows of the nodes are as the rows of their objects are, if the creates in the wire are so, and nodes have
-- rows of few objects.
use Rattle.std.proofs.Common.{◌≡◌, ◌≢◌, ⊎_elim, arith, ℕ, true, List, [], ◌++◌, All, None, Some, refl, sym, ap, subst, ◌∙◌}
use Rattle.std.specs.FinMap as tree
use Rattle.std.proofs.lemmas.List.Elements.{All-weaker, All-get_or}
use Rattle.std.proofs.lemmas.Option.{get_or_from_slice_get, slice_get_within}
use Rattle.proof_tools.proofs.FiniteMaps.{get-insert_same, get-insert_cases}
use Rattle.object_id.specs.declared.entry.Entry.{Entry}
use Rattle.object_id.specs.declared.entry.Member.{Member}
use Rattle.object_id.specs.declared.entry.VdiSpec.{VdiSpec}
use Rattle.object_id.specs.Oid.{vid_of}
use Rattle.object_store.specs.Store.{SeenRow, rows_of}
use Rattle.cluster_script.specs.declared.statement.Statement.{Statement}
use Rattle.cluster_script.specs.Language.{IsScript}
use Rattle.cluster_script.specs.Settings.{tries_of}
use Rattle.peer_proto.specs.declared.ask.PeerAsk.{PeerAsk}
use Rattle.peer_proto.specs.declared.ask.PeerAsk.TheVariants as asks
use Rattle.peer_proto.specs.declared.ask.PeerReq.{PeerReq}
use Rattle.vdi_directory.specs.declared.effect.Effect.{Effect}
use Rattle.vdi_directory.specs.Decisions.{log_effects}
use Rattle.vdi_directory.specs.Effects.{header_of}
use Rattle.vdi_directory.proofs.StateLemmas.{log_effects-none}
use Rattle.sheep_node.specs.declared.event.Event.{Event}
use Rattle.sheep_node.specs.declared.input.Input.{Input}
use Rattle.sheep_node.specs.declared.input.Input.TheVariants as inputs
use Rattle.sheep_node.specs.declared.limits.TheConstants.{SENDS_MAX}
use Rattle.sheep_node.specs.State as nodes
use Rattle.sheep_node.specs.Step.{node_step}
use Rattle.sheep_node.specs.May.{May}
use Rattle.sheep_node.proofs.NodeLaws.{IsSoundNode-initial}
use Rattle.sheep_world.specs.World.{Host, World, is_host_up}
use Rattle.sheep_world.specs.Opening.{format_entry, initial_world, initial_member_node}
use Rattle.sheep_world.specs.MembershipChanges.{lost_host}
use Rattle.sheep_world.specs.Step.{EventOutcome}
use Rattle.sheep_world.specs.NodeCauses.{NodeCause, GuestAsks, RequestComes, ReplyComes, LossIsTold, EntryIsRead, EntryIsPut, RecoveryTicks}
use Rattle.sheep_world.specs.NodeCauses.{WorkIsRetried, ClientAsks, input_of_cause, IsCause}
use Rattle.sheep_world.specs.EventKinds.{log_after_return, world_after_return, IsNodeReturn, EventKind, NodeStep, UntoldLoss}
use Rattle.sheep_world.specs.EventKinds.{UnreadDelivery, NodeLoss, NodeLeave, NodeReweight, NodeJoin, NodeReturn, PhaseEnd}
use Rattle.sheep_world.specs.HostChanges.{host_after_step, host_after_return, joined_host}
use Rattle.sheep_world.specs.Began.{Began, IsInvariant, MakesMove}
use Rattle.sheep_world.specs.LogFronts.{IsFront}
use Rattle.sheep_world.specs.LogHolds.{MayGrow}
use Rattle.sheep_world.specs.HoldsTogether.{RepliesFit}
use Rattle.sheep_world.proofs.BegunWorlds.{goes_on, by_induction}
use Rattle.sheep_world.proofs.ClientReads.{goes_by_kind}
use Rattle.sheep_world.proofs.LogAtOpening.{opens_log, log-holds}
use Rattle.sheep_world.proofs.LogFrontLaws.{log_grows, all_read}
use Rattle.sheep_world.proofs.NodesByTheLog.{returns_on_may}
use Rattle.sheep_world.proofs.ValidNodes.{first_may}
use Rattle.sheep_world.proofs.WireAtOpening.{opening_found}
use Rattle.std.proofs.lemmas.Bool.{le-leb}
use Rattle.overlap_law.specs.Each.{spec_in}
use Rattle.overlap_law.specs.RowsInRange.{RowsCanBeTold, CreatesAsRowsAre, CreatesAreInRange, ObjectsAreFew}
use Rattle.overlap_law.proofs.FittingReplies.{replies_fit}
use Rattle.overlap_law.proofs.GrantedEpochs.{spec_stays}
use Rattle.overlap_law.proofs.RowsOfPeers.{IsRowBy, HasRowsBy}
use Rattle.overlap_law.proofs.RowsOfSteps.{none_yet, KnowsLess, StepsSo, stepped_rows}
use Rattle.overlap_law.proofs.SoundWorlds.{IsSoundHost, IsSoundWorld, asks_on_may, sound_after, opens_sound}

-- ---- a log that grows

module _ (log later : List Entry) where
  row_stays : (epoch oid : ℕ) (row : SeenRow) → IsRowBy (log_effects log) epoch oid row → IsRowBy (log_effects (log ++ later)) epoch oid row
  row_stays epoch oid row is = (
    record {
      spec = is.0.spec;
      made = spec_stays log later (vid_of oid) is.0.spec is.0.made;
      index = is.0.index;
      size = is.0.size;
      from = is.0.from;
      to = is.0.to;
    },
    is.1,
  )

  pub create_stays : (ask : PeerAsk) → CreatesAsRowsAre (log_effects log) ask → CreatesAsRowsAre (log_effects (log ++ later)) ask
  create_stays (asks.Create key size offset bytes) is = record {
    spec = is.spec;
    made = spec_stays log later (vid_of key.oid) is.spec is.made;
    index_below = is.index_below;
    size_so = is.size_so;
    inside = is.inside;
  }
  create_stays (asks.Write key offset bytes) is = tt
  create_stays (asks.Read key offset size) is = tt
  create_stays asks.List is = tt
  create_stays (asks.RecoverRead oid level) is = tt

-- a node that has read nothing knows no disk
none_known : (oid : ℕ) (spec : VdiSpec) → spec_in (log_effects []) (vid_of oid) ≡ Some spec → ⊥
unfolding header_of
none_known oid spec known =
    let none : None ≡ spec_in (log_effects []) (vid_of oid)
    = ap (λ (effects : List Effect). spec_in effects (vid_of oid)) (sym log_effects-none) in
    absurd (cc (none ∙ known))

-- the rows of each node are as those of their objects are, by these effects
abbrev pub EachHasRows : List Effect → World → Type 0
EachHasRows effects world = (n : ℕ) (host : Host) → tree.get world.hosts n ≡ Some host → HasRowsBy effects host.node.peer

pub told_where_rows : (world : World) → ObjectsAreFew world → EachHasRows (log_effects world.log) world → RowsCanBeTold world
told_where_rows world few are = record {
  rows = λ n host there oid place row got.
      let rows = rows_of host.node.peer.rows oid in
      (subst (IsRowBy (log_effects world.log) host.node.peer.epoch oid) (get_or_from_slice_get rows place row row got)
      (All-get_or (IsRowBy (log_effects world.log) host.node.peer.epoch oid) rows place row (slice_get_within rows place row got)
      (are n host there oid))).0;
  few = few.few;
}

module _ (script : List Statement) (is_script : IsScript script) (grows : (world : World) → Began script world → MayGrow world) where
  module _ (world : World) (began : Began script world) (is : IsSoundWorld script world)
      (before : EachHasRows (log_effects world.log) world)
      (few : ObjectsAreFew world) (creates : CreatesAreInRange world) (event : Event) (made : EventOutcome)
      (happened : MakesMove script event world made) where
    abbrev replies : RepliesFit world
    replies = replies_fit script is_script grows world began is (told_where_rows world few before)

    kind : EventKind script event world made
    kind = goes_by_kind script event world made happened

    front : IsFront world.log made.world.log
    front = log_grows script event world made kind

    abbrev effects : List Effect
    effects = log_effects made.world.log

    are : EachHasRows effects world
    are n host there oid =
        subst (λ (log : List Entry). All (IsRowBy (log_effects log) host.node.peer.epoch oid) (rows_of host.node.peer.rows oid))
        (sym front.is)
        (All-weaker (IsRowBy (log_effects world.log) host.node.peer.epoch oid)
        (IsRowBy (log_effects (world.log ++ front.rest)) host.node.peer.epoch oid) (row_stays world.log front.rest host.node.peer.epoch oid)
        (rows_of host.node.peer.rows oid) (before n host there oid))

    knows_less : (n : ℕ) (host : Host) → tree.get world.hosts n ≡ Some host → KnowsLess effects host.node
    knows_less n host there oid spec known =
        let read = all_read script world began n host there in
        ap (λ (log : List Entry). spec_in (log_effects log) (vid_of oid)) front.is
        ∙ spec_stays world.log front.rest (vid_of oid) spec
        (ap (λ (log : List Entry). spec_in (log_effects log) (vid_of oid)) read.is
        ∙ spec_stays host.node.peer.entries read.rest (vid_of oid) spec known)

    create_so : (ask : PeerAsk) → CreatesAsRowsAre (log_effects world.log) ask → CreatesAsRowsAre effects ask
    create_so ask so =
        subst (λ (log : List Entry). CreatesAsRowsAre (log_effects log) ask) (sym front.is) (create_stays world.log front.rest ask so)

    one_rows : (n : ℕ) (new : Host) → HasRowsBy effects new.node.peer → (m : ℕ) (now : Host)
        → tree.get (tree.insert world.hosts n new) m ≡ Some now
        → HasRowsBy effects now.node.peer
    one_rows n new so m now got = ⊎_elim
        (λ (own : (m ≡ n) × (new ≡ now)). subst (λ (h : Host). HasRowsBy effects h.node.peer) own.1 so)
        (λ (other : (m ≢ n) × (tree.get world.hosts m ≡ Some now)). are m now other.1)
        (get-insert_cases world.hosts n new m now got)

    module _ (n : ℕ) (host : Host) (there : tree.get world.hosts n ≡ Some host) (up : is_host_up host ≡ true) where
      abbrev stepped : (input : Input) → Type 0
      stepped input = HasRowsBy effects (node_step input host.node).node.peer

      abbrev may : (cause : NodeCause) → IsCause script world n host cause
          → ((request : PeerReq) → input_of_cause cause ≢ inputs.Request request) → May (input_of_cause cause) host.node
      may cause so other = asks_on_may script is_script grows world began is replies n host there up cause so other

      abbrev by : (input : Input)
          → StepsSo effects host.node (is.hosts n host there).node (knows_less n host there) (are n host there) input
          → stepped input
      by input steps = stepped_rows effects host.node (is.hosts n host there).node (knows_less n host there) (are n host there) input steps

      rows_after : (cause : NodeCause) → IsCause script world n host cause → stepped (input_of_cause cause)
      rows_after (GuestAsks session req ask) so =
          by (inputs.Guest req session.number ask) (may (GuestAsks session req ask) so (λ request same. absurd (cc (same))))
      rows_after (RequestComes name to request) so =
          by (inputs.Request request) (create_so request.ask (creates.each name to so.bytes request so.there so.read))
      rows_after (ReplyComes name from rsp) so =
          by (inputs.Reply rsp) (may (ReplyComes name from rsp) so (λ request same. absurd (cc (same))))
      rows_after (LossIsTold name packet) so =
          by (inputs.Lost name.number) (may (LossIsTold name packet) so (λ request same. absurd (cc (same))))
      rows_after (EntryIsRead entry) so = by (inputs.LogEntry entry) (may (EntryIsRead entry) so (λ request same. absurd (cc (same))))
      rows_after (EntryIsPut entry) so = by inputs.Put (may (EntryIsPut entry) so (λ request same. absurd (cc (same))))
      rows_after RecoveryTicks so = by inputs.RecoverTick (may RecoveryTicks so (λ request same. absurd (cc (same))))
      rows_after WorkIsRetried so = by inputs.RetryTick (may WorkIsRetried so (λ request same. absurd (cc (same))))
      rows_after (ClientAsks req ask) so = by (inputs.Guest req 0 ask) (may (ClientAsks req ask) so (λ request same. absurd (cc (same))))

    returned_rows : (h : IsNodeReturn script event world made)
        → HasRowsBy effects (host_after_return (log_after_return script h.n world) h.host).node.peer
    returned_rows h =
        let log : List Entry = log_after_return script h.n world in
        let here : IsSoundHost h.host = is.hosts h.n h.host h.there in
        let next : Began script (world_after_return script h.n h.host world)
        = subst (λ (m : EventOutcome). Began script m.world) (sym h.made_so) (goes_on script event world made began happened) in
        let after = log-holds script is_script grows (world_after_return script h.n h.host world) next in
        let member = (after.well h.n (host_after_return log h.host) (get-insert_same world.hosts h.n (host_after_return log h.host))).stands
        refl in
        stepped_rows effects h.host.node here.node (knows_less h.n h.host h.there) (are h.n h.host h.there) (inputs.Back log) (record {
          numbers = here.numbers h.lost;
          condition = returns_on_may script is_script grows world began h.n h.host h.there after.log member;
        })

    rows_of_hosts : EventKind script event world made → EachHasRows effects made.world
    rows_of_hosts (NodeStep h) =
        subst (λ (m : EventOutcome). EachHasRows effects m.world) h.made_so
        (one_rows h.n (host_after_step h.cause h.host) (rows_after h.n h.host h.there h.up h.cause h.caused))
    rows_of_hosts (UntoldLoss h) = subst (λ (m : EventOutcome). EachHasRows effects m.world) h.made_so are
    rows_of_hosts (UnreadDelivery h) = subst (λ (m : EventOutcome). EachHasRows effects m.world) h.made_so are
    rows_of_hosts (NodeLoss h) =
        subst (λ (m : EventOutcome). EachHasRows effects m.world) h.made_so (one_rows h.n (lost_host h.host) (are h.n h.host h.there))
    rows_of_hosts (NodeLeave h) = subst (λ (m : EventOutcome). EachHasRows effects m.world) h.made_so are
    rows_of_hosts (NodeReweight h) = subst (λ (m : EventOutcome). EachHasRows effects m.world) h.made_so are
    rows_of_hosts (NodeJoin h) =
        subst (λ (m : EventOutcome). EachHasRows effects m.world) h.made_so
        (one_rows h.n (joined_host script h.n) (none_yet effects (record { 0 = h.n }) (tries_of script)))
    rows_of_hosts (NodeReturn h) =
        subst (λ (m : EventOutcome). EachHasRows effects m.world) h.made_so
        (one_rows h.n (host_after_return (log_after_return script h.n world) h.host) (returned_rows h))
    rows_of_hosts (PhaseEnd h) = subst (λ (m : EventOutcome). EachHasRows effects m.world) h.made_so are

    pub both_after : IsSoundWorld script made.world × EachHasRows (log_effects made.world.log) made.world
    both_after = (sound_after script is_script grows world began is replies event made happened, rows_of_hosts kind)

  -- ---- every world

  opens_rows : EachHasRows (log_effects (initial_world script).log) (initial_world script)
  unfolding initial_world
  opens_rows n host got =
      let (member, own, is) = opening_found script n host got in
      subst (λ (h : Host). HasRowsBy (log_effects (initial_world script).log) h.node.peer) is (first_rows member)
    where
      first_rows : (member : Member) → HasRowsBy (log_effects (initial_world script).log) (initial_member_node script member).peer
      first_rows member =
          let node = nodes.initial_node member.node (tries_of script) in
          let effects : List Effect = log_effects (initial_world script).log in
          stepped_rows effects node (IsSoundNode-initial member.node (tries_of script))
          (λ oid spec known. absurd (none_known oid spec known)) (none_yet effects member.node (tries_of script))
          (inputs.LogEntry (format_entry script))
          (record {
            numbers = le-leb 0 SENDS_MAX (omega arith);
            condition = first_may (format_entry script) []
                (opens_log script is_script).log;
          })

  abbrev pub Both : World → Type 0
  Both world = IsSoundWorld script world × EachHasRows (log_effects world.log) world

  pub both_open : Both (initial_world script)
  both_open = (opens_sound script is_script grows, opens_rows)

  -- where creates are in range
  module _ (creates : (world : World) → Began script world → CreatesAreInRange world)
      (few : (world : World) → Began script world → ObjectsAreFew world) where
    both_invariant : IsInvariant script Both
    both_invariant = record {
      opens = both_open;
      keeps = λ event world made began happened both.
          both_after world began both.0 both.1 (few world began) (creates world began) event made happened;
    }

    pub rows_told : (world : World) → Began script world → RowsCanBeTold world
    rows_told world began = told_where_rows world (few world began) (by_induction script Both both_invariant world began).1
