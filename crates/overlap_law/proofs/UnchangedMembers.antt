-- Where no node is lost, leaves or joins in a run, each member of each epoch counts for it; so few losses hold at each moment.
use Rattle.std.proofs.Common.{◌≡◌, ◌≢◌, ⊎_elim, ℕ, ◌+◌, ◌≤◌, ◌==◌, min, Bool, true, false, not, ◌&&◌, ◌||◌, cond, List, [], ◌∷◌, ◌++◌}
use Rattle.std.proofs.Common.{length, map}
use Rattle.std.proofs.Common.{filter, Contains, Option, Some, None, is_some, refl, sym, ap, subst, ◌∙◌, arith}
use Rattle.std.specs.List.{list_any}
use Rattle.std.specs.Option.{option_map, option_map_or, option_and_then}
use Rattle.std.specs.FinMap as tree
use Rattle.std.proofs.lemmas.Bool.{eq-eqb, eqb-true, or_parts}
use Rattle.std.proofs.lemmas.List.{map-append}
use Rattle.std.proofs.lemmas.List.Folds.{list_any-append}
use Rattle.std.proofs.lemmas.Option.{same_Some}
use Rattle.proof_tools.proofs.FiniteMaps.{get-insert_cases}
use Rattle.proof_tools.proofs.Lists.{Contains-head, Contains-cons, find-contains, filter-contains}
use Rattle.object_id.specs.declared.node.NodeId.{NodeId}
use Rattle.object_id.specs.declared.entry.Entry.{Entry}
use Rattle.object_id.specs.declared.entry.Entry.TheVariants as entries
use Rattle.object_id.specs.declared.entry.Member.{Member}
use Rattle.object_id.specs.declared.oid.Kind.{Kind}
use Rattle.object_id.specs.declared.oid.Kind.TheVariants.{Inode, Block}
use Rattle.object_id.specs.declared.policy.Policy.{Policy}
use Rattle.object_id.specs.declared.policy.Policy.TheVariants.{Copies, Coded}
use Rattle.object_id.specs.Oid.{kind_of}
use Rattle.object_id.specs.Policy.{IsPolicy, need_of, wanted_of}
use Rattle.epoch_log.specs.Epochs.{epoch_of, members_in}
use Rattle.epoch_log.specs.Members as members
use Rattle.hash_ring.specs.Circle.{hash_of_object}
use Rattle.hash_ring.specs.Placement.{zone_count}
use Rattle.hash_ring.proofs.TargetLaws.{length-targets_of}
use Rattle.cluster_script.specs.declared.statement.Statement.{Statement}
use Rattle.disk_history.specs.Legal.{IsLegal}
use Rattle.peer_proto.specs.Work.{policy_of}
use Rattle.sheep_node.specs.declared.event.Event.{Event}
use Rattle.sheep_node.specs.Step.{node_step}
use Rattle.sheep_world.specs.Began.{Began}
use Rattle.sheep_world.specs.EventKinds.{EventKind, NodeStep, UntoldLoss, UnreadDelivery, NodeLoss, NodeLeave, NodeReweight, NodeJoin}
use Rattle.sheep_world.specs.EventKinds.{NodeReturn, PhaseEnd}
use Rattle.sheep_world.specs.Incarnations.{EndedIncarnation, had_reached, incarnation_in}
use Rattle.sheep_world.specs.NodeCauses.{NodeCause, GuestAsks, RequestComes, ReplyComes, LossIsTold, EntryIsRead, EntryIsPut, RecoveryTicks}
use Rattle.sheep_world.specs.NodeCauses.{WorkIsRetried, ClientAsks, IsCause, host_with_node, input_of_cause, log_after_cause}
use Rattle.sheep_world.specs.Opening.{initial_world}
use Rattle.sheep_world.specs.RunsWithAsks.{Move, event_of_move, made_by}
use Rattle.sheep_world.specs.Step.{EventOutcome}
use Rattle.sheep_world.specs.World.{Host, World}
use Rattle.sheep_world.proofs.BegunWorlds.{moves_on}
use Rattle.sheep_world.proofs.ClientReads.{goes_by_kind}
use Rattle.sheep_world.proofs.LogAtOpening.{log-holds, nodes-valid}
use Rattle.sheep_world.proofs.PuttableEntries.{each_puts}
use Rattle.sheep_world.proofs.WireAtOpening.{opening_found}
use Rattle.overlap_law.specs.Attempts.{AttemptRecord, attempts_on, object_of}
use Rattle.overlap_law.specs.FewLosses.{LossesAreFew, lost_members}
use Rattle.overlap_law.specs.FewLossesInRuns.{LossesAreFewAt, LossesAreFewInRun, changes_nodes}
use Rattle.overlap_law.specs.Holders.{creates, first_create, targets_by}
use Rattle.overlap_law.specs.MomentChanges.{RunsAreInRange}
use Rattle.overlap_law.specs.Past.{MomentWithPast, first_moment, moment_after, run_on, run_with_past}
use Rattle.overlap_law.specs.PastWords.{counts}
use Rattle.overlap_law.specs.ShapedAttempts.{AreShaped}
use Rattle.overlap_law.proofs.FewLossesInRuns.{whole_legal}
use Rattle.overlap_law.proofs.KeptLists.{policy_valid}
use Rattle.overlap_law.proofs.NoRecoveredDue.{began-with_past}
use Rattle.overlap_law.proofs.RequestsInRuns.{at_place}
use Rattle.overlap_law.proofs.ReweightedMembers.{first_incarnation, is_listed, moves_member, plain_moves_none, same_member}
use Rattle.overlap_law.proofs.ReweightedMembers.{same_zones}
use Rattle.overlap_law.proofs.RunsByChanges.{run-kept}
use Rattle.overlap_law.proofs.ShapedAttempts.{kept_shaped}

-- ---- a world whose nodes all are in their first incarnation, and in whose log none joins or leaves

pub record IsUnchanged (world : World) : Type 0 where
  pub log : list_any moves_member world.log ≡ false
  pub hosts : (n : ℕ) (host : Host) → tree.get world.hosts n ≡ Some host → (host.is_lost ≡ false) × (host.incarnation ≡ 1)

-- what passes no test is left out
none_left : {X : Type 0} (p : X → Bool) (xs : List X) → ((x : X) → Contains xs x → p x ≡ false) → filter p xs ≡ []
none_left p [] none = refl
none_left p (x ∷ xs) none =
    ap (λ (b : Bool). cond b (x ∷ filter p xs) (filter p xs)) (none x (Contains-head x xs))
    ∙ none_left p xs (λ y there. none y (Contains-cons x xs y there))

-- a read needs no more than are wanted
need_within : (policy : Policy) (kind : Kind) → IsPolicy policy → need_of policy kind ≤ wanted_of policy kind
need_within (Copies copies) Block is = is.0
need_within (Copies copies) Inode is = is.0
need_within (Coded d p) Block is = omega arith
need_within (Coded d p) Inode is = omega arith

module _ (script : List Statement) (range : RunsAreInRange script) where
  module _ (world : World) (began : Began script world) (same : IsUnchanged world) (ended : List EndedIncarnation) where
    counts_here : (host : Host) (incarnation : ℕ) → host.is_lost ≡ false → host.incarnation ≡ incarnation → (reached : Bool)
        → (not host.is_lost && (host.incarnation == incarnation || reached)) ≡ true
    counts_here host incarnation up is reached =
        let own = eq-eqb host.incarnation incarnation is in
        λ i. not (up i) && (own i || reached)

    module _ (epoch : ℕ) where
      member_counts : (member : Member) → Contains (members_in world.log epoch) member → counts ended world member.node epoch ≡ true
      member_counts member among =
          let holds = log-holds script range.is_script range.room world began in
          let n : ℕ = member.node.0 in
          let own : members.is_member n (members_in world.log epoch) ≡ true = is_listed member (members_in world.log epoch) among in
          by_host (tree.get world.hosts n) refl (holds.seated n (same_member world.log same.log n (epoch_of world.log) epoch ∙ own))
          (first_incarnation world.log holds.log same.log n epoch own)
        where
          by_host : (o : Option Host) → tree.get world.hosts member.node.0 ≡ o → is_some (tree.get world.hosts member.node.0) ≡ true
              → incarnation_in world.log epoch member.node.0 ≡ 1 → counts ended world member.node epoch ≡ true
          by_host None none some first =
              let off : is_some (tree.get world.hosts member.node.0) ≡ false = ap is_some none in absurd (cc (off, some))
          by_host (Some host) there some first =
              let (up, incarnation) = same.hosts member.node.0 host there in
              let counted = counts_here host (incarnation_in world.log epoch member.node.0) up (incarnation ∙ sym first)
              (had_reached member.node.0 (incarnation_in world.log epoch member.node.0) epoch ended) in
              ap (λ (o : Option Host).
              option_map_or (λ (h : Host).
              not h.is_lost
              && (h.incarnation == incarnation_in world.log epoch member.node.0
              || had_reached member.node.0 (incarnation_in world.log epoch member.node.0) epoch ended)) o false) there
              ∙ counted

      none_lost : lost_members (counts ended world) world.log epoch ≡ []
      none_lost =
          none_left (λ (member : Member). not (counts ended world member.node epoch)) (members_in world.log epoch)
          (λ member among. ap not (member_counts member among))

  -- ---- a moment of such a world

  module _ (moves : List Move) (moment : MomentWithPast) (ran : run_with_past script moves ≡ Some moment)
      (same : IsUnchanged moment.world) where
    began : Began script moment.world
    began = began-with_past script moves moment ran

    shaped : AreShaped moment
    shaped = run-kept script AreShaped (kept_shaped script range) moves moment ran

    few : (oid : ℕ) (create : AttemptRecord) → first_create oid moment.past.attempts ≡ Some create → (epoch : ℕ)
        → LossesAreFew (counts moment.past.ended moment.world) moment.world.log oid (policy_of create.work) epoch
    unfolding targets_by
    few oid create found epoch =
        let (on_it, is_create) = find-contains creates (attempts_on oid moment.past.attempts) create found in
        let (among, is_on) = filter-contains (λ (attempt : AttemptRecord). object_of attempt == oid) moment.past.attempts create on_it in
        let (j, got) = at_place moment.past.attempts create among in
        let object : object_of create ≡ oid = eqb-true (object_of create) oid is_on in
        let policy = policy_of create.work in
        let log = moment.world.log in
        let valid : IsPolicy policy
        = policy_valid log (log-holds script range.is_script range.room moment.world began).log (object_of create) policy
        (shaped.shape.policy j create got) in
        let wanted : ℕ = wanted_of policy (kind_of (object_of create)) in
        let count : length (targets_by log create.epoch (object_of create) policy) ≡ wanted
        = ap (λ (targets : List NodeId). length targets) (sym (shaped.shape.targets j create got)) ∙ shaped.shape.wanted j create got in
        let most : length (targets_by log create.epoch (object_of create) policy) ≡ min wanted (zone_count (members_in log create.epoch))
        = length-targets_of (members_in log create.epoch) (hash_of_object (object_of create)) wanted in
        let zones : wanted ≤ zone_count (members_in log create.epoch) = omega (arith, count, most) in
        let first = same_zones log same.log create.epoch epoch in
        let need = need_within policy (kind_of oid) valid in
        let kind : wanted_of policy (kind_of (object_of create)) ≡ wanted_of policy (kind_of oid)
        = ap (λ (id : ℕ). wanted_of policy (kind_of id)) object in
        let all : length (lost_members (counts moment.past.ended moment.world) log epoch) ≡ 0
        = ap (λ (list : List Member). length list) (none_lost moment.world began same moment.past.ended epoch) in
        record {
          zones = omega (arith, zones, kind, first);
          few = omega (arith, need, all);
        }

    few_here : LossesAreFewAt moment
    few_here = record { each = λ oid live create found epoch from below. few oid create found epoch }

  -- ---- one event

  module _ (event : Event) (plain : changes_nodes event ≡ false) (world : World) (began : Began script world)
      (same : IsUnchanged world) where
    -- an entry more that moves no member
    one_more : (entry : Entry) → moves_member entry ≡ false → list_any moves_member (world.log ++ entry ∷ []) ≡ false
    one_more entry none =
        let old = same.log in
        list_any-append moves_member world.log (entry ∷ []) ∙ (λ i. old i || (none i || false))

    -- what a node puts is one
    put_same : (n : ℕ) (host : Host) → tree.get world.hosts n ≡ Some host → (cause : NodeCause) → IsCause script world n host cause
        → list_any moves_member (log_after_cause cause world.log) ≡ false
    put_same n host there (GuestAsks session req ask) caused = same.log
    put_same n host there (RequestComes name to request) caused = same.log
    put_same n host there (ReplyComes name from rsp) caused = same.log
    put_same n host there (LossIsTold name packet) caused = same.log
    put_same n host there (EntryIsRead entry) caused = same.log
    put_same n host there (EntryIsPut entry) (later, first) =
        let puttable = each_puts script world began (nodes-valid script range.is_script range.room world began) n host entry later there
        first in
        one_more entry (plain_moves_none entry puttable.plain)
    put_same n host there RecoveryTicks caused = same.log
    put_same n host there WorkIsRetried caused = same.log
    put_same n host there (ClientAsks req ask) caused = same.log

    no_change : (other : Event) → changes_nodes other ≡ true → other ≡ event → ⊥
    no_change other changes is =
        let does : changes_nodes event ≡ true = sym (ap changes_nodes is) ∙ changes in
        let none = plain in
        cc (does, none)

    kind_same : (made : EventOutcome) → EventKind script event world made → IsUnchanged made.world
    kind_same made (NodeStep h) = subst (λ (m : EventOutcome). IsUnchanged m.world) h.made_so (record {
      log = put_same h.n h.host h.there h.cause h.caused;
      hosts = λ n host got. ⊎_elim
          (λ (own : (n ≡ h.n) × (host_with_node h.host (node_step (input_of_cause h.cause) h.host.node).node ≡ host)).
          subst (λ (one : Host). (one.is_lost ≡ false) × (one.incarnation ≡ 1)) own.1 (same.hosts h.n h.host h.there))
          (λ (other : (n ≢ h.n) × (tree.get world.hosts n ≡ Some host)). same.hosts n host other.1)
          (get-insert_cases world.hosts h.n (host_with_node h.host (node_step (input_of_cause h.cause) h.host.node).node) n host got);
    })
    kind_same made (UntoldLoss h) =
        subst (λ (m : EventOutcome). IsUnchanged m.world) h.made_so (record { log = same.log; hosts = same.hosts })
    kind_same made (UnreadDelivery h) =
        subst (λ (m : EventOutcome). IsUnchanged m.world) h.made_so (record { log = same.log; hosts = same.hosts })
    kind_same made (NodeLoss h) = absurd (no_change _ refl h.event_so)
    kind_same made (NodeLeave h) = absurd (no_change _ refl h.event_so)
    kind_same made (NodeReweight h) = subst (λ (m : EventOutcome). IsUnchanged m.world) h.made_so (record {
      log = one_more (entries.Reweight (record { 0 = h.n }) h.vnodes) refl;
      hosts = same.hosts;
    })
    kind_same made (NodeJoin h) = absurd (no_change _ refl h.event_so)
    kind_same made (NodeReturn h) =
        let lost = h.lost in
        let up = (same.hosts h.n h.host h.there).0 in
        absurd (cc (lost, up))
    kind_same made (PhaseEnd h) =
        subst (λ (m : EventOutcome). IsUnchanged m.world) h.made_so (record { log = same.log; hosts = same.hosts })

  -- ---- a run

  opens_same : IsUnchanged (first_moment script).world
  unfolding initial_world
  opens_same = record {
    log = refl;
    hosts = λ n host got.
        let (member, own, is) = opening_found script n host got in
        subst (λ (h : Host). (h.is_lost ≡ false) × (h.incarnation ≡ 1)) is (refl, refl);
  }

  -- the events as which moves are told of
  abbrev AreCalm : List Move → Type 0
  AreCalm moves = list_any changes_nodes (map event_of_move moves) ≡ false

  same_on : (moves : List Move) (first last : MomentWithPast) → Began script first.world → IsUnchanged first.world → AreCalm moves
      → run_on script first moves ≡ Some last → IsUnchanged last.world
  unfolding run_on
  same_on [] first last begun same plain is = subst (λ (m : MomentWithPast). IsUnchanged m.world) (same_Some first last is) same
  same_on (move ∷ moves) first last begun same plain is =
      by_outcome (made_by script move first.world) refl is
      (λ next begun_next same_next so. same_on moves next last begun_next same_next parts.1 so)
    where
      parts : (changes_nodes (event_of_move move) ≡ false) × (list_any changes_nodes (map event_of_move moves) ≡ false)
      parts = or_parts (changes_nodes (event_of_move move)) (list_any changes_nodes (map event_of_move moves)) plain

      by_outcome : (o : Option EventOutcome) → made_by script move first.world ≡ o
          → option_and_then (λ (next : MomentWithPast). run_on script next moves)
          (option_map (moment_after script (event_of_move move) first) o) ≡ Some last
          → ((next : MomentWithPast) → Began script next.world → IsUnchanged next.world → run_on script next moves ≡ Some last
          → IsUnchanged last.world)
          → IsUnchanged last.world
      by_outcome None made so later = absurd (cc (so))
      by_outcome (Some made) is_made so later =
          later (moment_after script (event_of_move move) first made) (moves_on script move first.world made begun is_made)
          (kind_same (event_of_move move) parts.0 first.world begun same made
          (goes_by_kind script (event_of_move move) first.world made (record { move = move; event_so = refl; made_so = is_made })))
          so

  first_began : Began script (first_moment script).world
  unfolding run_with_past run_on
  first_began = began-with_past script [] (first_moment script) refl

  unchanged_in_run : (moves : List Move) (moment : MomentWithPast) → run_with_past script moves ≡ Some moment → AreCalm moves
      → IsUnchanged moment.world
  unfolding run_with_past
  unchanged_in_run moves moment run plain = same_on moves (first_moment script) moment first_began opens_same plain run

  pub few_in_run : (moves : List Move) → AreCalm moves → LossesAreFewInRun script moves
  few_in_run moves plain = record {
    at = λ earlier later moment parts ran.
        let both : list_any changes_nodes (map event_of_move earlier ++ map event_of_move later) ≡ false
        = ap (list_any changes_nodes) (sym (map-append event_of_move earlier later))
        ∙ ap (λ (list : List Move). list_any changes_nodes (map event_of_move list)) (sym parts) ∙ plain in
        let front = (or_parts (list_any changes_nodes (map event_of_move earlier)) (list_any changes_nodes (map event_of_move later))
        (sym (list_any-append changes_nodes (map event_of_move earlier) (map event_of_move later)) ∙ both)).0 in
        few_here earlier moment ran (unchanged_in_run earlier moment ran front);
  }

  pub unchanged_legal : (moves : List Move) (moment : MomentWithPast) → run_with_past script moves ≡ Some moment
      → list_any changes_nodes (map event_of_move moves) ≡ false → IsLegal moment.past.history
  unchanged_legal moves moment run plain = whole_legal script range moves moment run (few_in_run moves plain)
