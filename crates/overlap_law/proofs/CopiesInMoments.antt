-- Over each change of a moment copies stay of attempts, where the attempts go by whole units and what recoveries were told is of attempts.
use Rattle.std.proofs.Common.{◌≡◌, ℕ, Bool, List, [], ◌∷◌, slice_get, Some, sym, ap, subst, ◌∙◌}
use Rattle.std.specs.FinMap as tree
use Rattle.std.proofs.lemmas.Option.{same_Some}
use Rattle.object_id.specs.declared.entry.Entry.{Entry}
use Rattle.object_id.specs.declared.entry.VdiSpec.{VdiSpec}
use Rattle.object_id.specs.Oid.{kind_of, vid_of}
use Rattle.object_store.specs.Store.{SeenRow, rows_of}
use Rattle.object_store.proofs.StoreLaws.{rows_of-empty}
use Rattle.cluster_script.specs.declared.statement.Statement.{Statement}
use Rattle.peer_proto.specs.Work.{policy_of}
use Rattle.vdi_directory.specs.declared.effect.Effect.{Effect}
use Rattle.vdi_directory.specs.Decisions.{log_effects}
use Rattle.peer_service.specs.State.{Peer, object_size}
use Rattle.sheep_node.specs.declared.input.Input.TheVariants as inputs
use Rattle.sheep_node.specs.State as nodes
use Rattle.sheep_node.specs.Step.{node_step}
use Rattle.sheep_world.specs.World.{Host}
use Rattle.sheep_world.specs.NodeCauses.{input_of_cause, log_after_cause}
use Rattle.sheep_world.specs.EventKinds.{log_after_return}
use Rattle.sheep_world.specs.Began.{Began}
use Rattle.overlap_law.specs.Attempts.{object_of}
use Rattle.overlap_law.specs.Each.{spec_in, policy_in}
use Rattle.overlap_law.specs.Fates.{AttemptsAreWhole, IsWhole}
use Rattle.overlap_law.specs.Past.{MomentWithPast}
use Rattle.overlap_law.specs.MomentChanges.{MomentChange, RunsAreInRange}
use Rattle.overlap_law.specs.Searches.{ToldCopiesAreOfAttempts}
use Rattle.overlap_law.specs.ShapedAttempts.{AreShaped}
use Rattle.overlap_law.specs.Since.{CopiesAreOfAttempts}
use Rattle.overlap_law.specs.StepMoments.{SteppingNode, IsStepping}
use Rattle.overlap_law.specs.Traffic.{MakersAreOfAttempts}
use Rattle.overlap_law.proofs.CopiesInSteps.{RowIsSo, IsSoCopy}
use Rattle.overlap_law.proofs.GrantedEpochs.{spec_stays}
use Rattle.overlap_law.proofs.GrownAttempts.{traffic_goes_on, grows-object}
use Rattle.overlap_law.proofs.KnownPolicies.{policy_was_known}
use Rattle.overlap_law.proofs.LogsInMoments.{LogGrows, log_grows}
use Rattle.overlap_law.proofs.NodesInMoments.{NodeChange, PeerStays, NodeSteps, NodeReturns, NodeIsNew, nodes_change}
use Rattle.overlap_law.proofs.RowLists.{all_at}
use Rattle.overlap_law.proofs.TrafficOfChanges.{traffic}
use Rattle.overlap_law.proofs.CopiesAtSteps.{policy_spec, policy_later, CopiesBefore, stepped_so, returned_so}

module _ (script : List Statement) (range : RunsAreInRange script) (start before after : MomentWithPast) (began : Began script start.world)
    (change : MomentChange script start before after) (live : ℕ → Bool) (shaped : AreShaped before)
    (makers : MakersAreOfAttempts before.world.wire before.past.attempts)
    (whole : AttemptsAreWhole (log_effects before.world.log) before.past.attempts)
    (told : ToldCopiesAreOfAttempts (log_effects before.world.log) live before.world.hosts before.world.wire before.past.attempts)
    (copies : CopiesAreOfAttempts (log_effects before.world.log) live before.world.hosts before.past.attempts) where
  longer : LogGrows before.world.log after.world.log
  longer = log_grows script change

  abbrev effects_after : List Effect
  effects_after = log_effects after.world.log

  holds_then : CopiesBefore effects_after live before
  holds_then = record {
    policies = λ j attempt there.
        ap (λ (log : List Entry). policy_in (log_effects log) (object_of attempt)) longer.is
        ∙ policy_later before.world.log longer.rest (object_of attempt) (policy_of attempt.work) (shaped.shape.policy j attempt there);
    whole = record {
      each = λ j attempt there spec known.
          let (own, made) = policy_spec (log_effects before.world.log) (object_of attempt) (policy_of attempt.work)
          (shaped.shape.policy j attempt there) in
          let later : spec_in effects_after (vid_of (object_of attempt)) ≡ Some own
          = ap (λ (log : List Entry). spec_in (log_effects log) (vid_of (object_of attempt))) longer.is
          ∙ spec_stays before.world.log longer.rest (vid_of (object_of attempt)) own made in
          let same : own ≡ spec = same_Some own spec (sym later ∙ known) in
          subst (λ (s : VdiSpec). IsWhole (object_size s (kind_of (object_of attempt))) attempt.work) same
          (whole.each j attempt there own made);
    };
    makers = makers;
    rows = λ n host there oid i row got policy alive known.
        copies.each n host there oid i row got policy alive
        (policy_was_known script range start before after began change n host there oid i row got policy known);
    told = told;
  }

  -- at each node each copy is of the attempts before
  rows_so : (n : ℕ) (host : Host) → tree.get after.world.hosts n ≡ Some host → (oid i : ℕ) (row : SeenRow)
      → slice_get (rows_of host.node.peer.rows oid) i ≡ Some row → IsSoCopy effects_after live before.past.attempts oid row.index row.bytes
  rows_so n host there = by_change (nodes_change script range start began change n host there)
    where
      RowsOf : MomentWithPast → Peer → Type 0
      RowsOf moment peer = (oid i : ℕ) (row : SeenRow) → slice_get (rows_of peer.rows oid) i ≡ Some row
          → IsSoCopy effects_after live moment.past.attempts oid row.index row.bytes

      step_so : (stepping : SteppingNode) → IsStepping script start.world stepping
          → log_after_cause stepping.cause start.world.log ≡ after.world.log → LogGrows start.world.log after.world.log
          → CopiesBefore effects_after live start
          → RowsOf start (node_step (input_of_cause stepping.cause) stepping.host.node).node.peer
      step_so stepping is log_so grown at oid i row got =
          let peer : Peer = (node_step (input_of_cause stepping.cause) stepping.host.node).node.peer in
          all_at (RowIsSo effects_after live start.past.attempts peer.epoch oid) (rows_of peer.rows oid) i row got
          (stepped_so script range start began live after.world.log grown at stepping is log_so oid)

      back_so : (was : Host) → tree.get start.world.hosts n ≡ Some was → LogGrows start.world.log after.world.log
          → CopiesBefore effects_after live start
          → RowsOf start (node_step (inputs.Back (log_after_return script n start.world)) was.node).node.peer
      back_so was was_there grown at oid i row got =
          let peer : Peer = (node_step (inputs.Back (log_after_return script n start.world)) was.node).node.peer in
          all_at (RowIsSo effects_after live start.past.attempts peer.epoch oid) (rows_of peer.rows oid) i row got
          (returned_so script range start began live after.world.log grown at n was was_there (log_after_return script n start.world) oid)

      by_change : NodeChange script start before after n host → RowsOf before host.node.peer
      by_change (PeerStays was was_there same) =
          subst (RowsOf before) same (λ oid i row got. holds_then.rows n was was_there oid i row got)
      by_change (NodeSteps stepping is first own log_so same) =
          subst (RowsOf before) same
          (subst (λ (m : MomentWithPast). RowsOf m (node_step (input_of_cause stepping.cause) stepping.host.node).node.peer) first
          (step_so stepping is log_so (subst (λ (m : MomentWithPast). LogGrows m.world.log after.world.log) (sym first) longer)
          (subst (CopiesBefore effects_after live) (sym first) holds_then)))
      by_change (NodeReturns was was_there first same) =
          subst (RowsOf before) same
          (subst (λ (m : MomentWithPast). RowsOf m (node_step (inputs.Back (log_after_return script n m.world)) was.node).node.peer) first
          (back_so was (ap (λ (m : MomentWithPast). tree.get m.world.hosts n) first ∙ was_there)
          (subst (λ (m : MomentWithPast). LogGrows m.world.log after.world.log) (sym first) longer)
          (subst (CopiesBefore effects_after live) (sym first) holds_then)))
      by_change (NodeIsNew tries same) =
          subst (RowsOf before) same
          (λ oid i row got. absurd (none (rows_of (nodes.initial_node (record { 0 = n }) tries).peer.rows oid)
          (rows_of-empty oid) i row got))
        where
          none : (rows : List SeenRow) → rows ≡ [] → (i : ℕ) (row : SeenRow) → slice_get rows i ≡ Some row → ⊥
          none [] is i row got = cc (got)
          none (first ∷ rows) is i row got = cc (is)

  pub copies_after : CopiesAreOfAttempts effects_after live after.world.hosts after.past.attempts
  copies_after = record {
    each = λ n host there oid i row got policy alive known whole_copies.
        let was = rows_so n host there oid i row got policy alive known whole_copies in
        let grow = grows-object oid before.past.attempts after.past.attempts
        (traffic_goes_on before.world.hosts after.world.hosts before.world.wire before.past.attempts
        (traffic script range start began change)) in
        record {
          each = λ unit ends.
              let (k, attempt, at, has) = was.each unit ends in
              let (fates, now, muter) = grow.stays k attempt at in
              (k, record attempt { fates = fates }, now, has);
        };
  }
