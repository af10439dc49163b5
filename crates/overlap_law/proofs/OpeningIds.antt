-- In every run in range the ids whose entries count, as the inode of a disk or snapshot is read that a command opens, are the disk's own
-- and all above it.
use Rattle.std.proofs.Common.{◌≡◌, ◌≢◌, ◌⊎◌, ⊎_elim, ℕ, ◌==◌, Bool, true, false, List, [], ◌∷◌, ◌++◌, Option, Some, None, is_some}
use Rattle.std.proofs.Common.{option_map, refl, sym, ap, subst, ◌∙◌}
use Rattle.std.specs.List.{list_any}
use Rattle.std.specs.Option.{option_and_then}
use Rattle.std.specs.Ordering.{nat_cmp}
use Rattle.std.specs.FinMap as tree
use Rattle.std.proofs.lemmas.Bool.{eq-eqb, or_left, or_right}
use Rattle.std.proofs.lemmas.Option.{same_Some}
use Rattle.proof_tools.proofs.FiniteMaps.{get-insert_same, get-insert_other, get-insert_cases}
use Rattle.object_id.specs.declared.entry.Entry.{Entry}
use Rattle.object_id.specs.declared.entry.Entry.TheVariants as entries
use Rattle.object_id.specs.declared.entry.Origin.TheVariants.{Fresh, SnapshotOf, CloneOf}
use Rattle.object_id.specs.declared.entry.VdiSpec.{VdiSpec}
use Rattle.object_id.specs.declared.node.NodeId.{NodeId}
use Rattle.object_id.specs.declared.oid.Vid.{Vid}
use Rattle.inode.specs.Layout.{Content}
use Rattle.cluster_script.specs.declared.statement.Statement.{Statement}
use Rattle.peer_proto.specs.declared.guest.VdiAsk.{VdiAsk}
use Rattle.peer_service.specs.LogReading.{decision_on}
use Rattle.peer_service.specs.State.{effects_of}
use Rattle.vdi_directory.specs.Chains.{chain_of, is_above}
use Rattle.vdi_directory.specs.Decisions.{decision_after, log_effects}
use Rattle.vdi_directory.specs.Effects.{header_of}
use Rattle.vdi_directory.specs.declared.decision.Decision.{Decision}
use Rattle.vdi_directory.specs.declared.decision.Decision.TheVariants as decisions
use Rattle.vdi_directory.specs.declared.effect.Effect.{Effect}
use Rattle.vdi_directory.specs.declared.header.Header.{Header}
use Rattle.vdi_ops.specs.Op.{Op, OpStep, OpStage, Asked, Working, Publishing, Answered, Task, Opening, WritingBack, Tagging, Copying}
use Rattle.vdi_ops.specs.Op.{Making}
use Rattle.vdi_ops.specs.Steps.{begin_command, tag_step, copy_step, step_after_grant, step_after_decision, decided_at}
use Rattle.vdi_ops.specs.Steps.{on_decision}
use Rattle.vdi_ops.specs.Steps.{done_at, task_done, op_on_done}
use Rattle.sheep_node.specs.declared.course.Course.TheVariants.{Commanding}
use Rattle.sheep_node.specs.declared.course.Request.{Request}
use Rattle.sheep_world.specs.Began.{Began}
use Rattle.sheep_world.specs.NodeCauses.{input_of_cause, host_with_node}
use Rattle.sheep_world.specs.World.{Host}
use Rattle.sheep_world.proofs.LogFrontLaws.{all_read}
use Rattle.sheep_world.specs.RunsWithAsks.{Move}
use Rattle.overlap_law.specs.LastReads.{was_snapped}
use Rattle.overlap_law.specs.Each.{EachUp}
use Rattle.overlap_law.specs.MomentChanges.{MomentChange, MomentTrail, RunsAreInRange, KeptByChanges}
use Rattle.overlap_law.specs.Past.{MomentWithPast, run_with_past}
use Rattle.overlap_law.proofs.ClosedFirstStages.{begins_first}
use Rattle.overlap_law.proofs.AnswersInMoments.{not_lost}
use Rattle.overlap_law.proofs.AwaitedCommands.{waits_at}
use Rattle.overlap_law.proofs.CountedEntries.{same_entry}
use Rattle.overlap_law.proofs.GrantedIds.{snapshot_found}
use Rattle.overlap_law.proofs.LogsOfMoments.{log_by_changes}
use Rattle.overlap_law.proofs.SnapshotChains.{snapshot_was}
use Rattle.overlap_law.proofs.GuestsInMoments.{GuestsChange, GuestsStay, GuestsAreNone, IsGoingOn, IsBetween, between}
use Rattle.overlap_law.proofs.LogsOfMoments.{log_of_change}
use Rattle.overlap_law.proofs.OpeningOverlap.{no_request}
use Rattle.overlap_law.proofs.ReadInMoments.{HostsAreSound, kept_sound}
use Rattle.overlap_law.proofs.RunsByChanges.{on_the_way}
use Rattle.overlap_law.proofs.StagesFrom.{IsNotAtFirst, ComesNow, IsDecidedNow, stage_or_decided}
use Rattle.overlap_law.proofs.WholeIds.{AreWholeIds, whole_next, whole_later, snapped_later}

-- ---- as it is decided

module _ (vid : Vid) (snapshot : Bool) (ids : List ℕ) (header : Header) where
  abbrev IsAtOpening : OpStage → Type 0
  IsAtOpening stage = stage ≡ Working vid (Opening snapshot ids header)

  abbrev NeverCame : Op → List ℕ → Type 0
  NeverCame op bytes = ⊥

  -- the ids are those that the node knows of, as the lock is granted that was asked for
  record IsOfKnown (known : List Effect) (op : Op) (decision : Decision) : Type 0 where
    by : NodeId
    session : ℕ
    name : List ℕ
    tag : Option (List ℕ)
    asked : op.stage ≡ Asked (entries.Lock by session name tag)
    granted : decision ≡ decisions.Granted vid
    kind : is_some tag ≡ snapshot
    own : vid.0 ∷ chain_of known vid.0 ≡ ids
    there : header_of known vid.0 ≡ Some header

  begun : (by : NodeId) (session : ℕ) (ask : VdiAsk) (disk : Option Content) (step : OpStep)
      → begin_command by session ask disk ≡ Some step → step.op.stage ≡ Working vid (Opening snapshot ids header) → ⊥
  begun by session ask disk step is at =
      let (entry, first) = begins_first by session ask disk step is in
      let stage = ap (λ (s : OpStep). s.op.stage) first ∙ at in cc (stage)

  done : (op : Op) (bytes : List ℕ) (step : OpStep) → op_on_done bytes op ≡ Some step
      → step.op.stage ≡ Working vid (Opening snapshot ids header) → ⊥
  unfolding op_on_done
  done op bytes step is at = by_stage op.stage is
    where
      by_task : (of : Vid) (task : Task) → task_done op of bytes task ≡ step → ⊥
      by_task of (Opening true ids header) is = let stage = ap (λ (s : OpStep). s.op.stage) is ∙ at in cc (stage)
      by_task of (Opening false ids header) is = let stage = ap (λ (s : OpStep). s.op.stage) is ∙ at in cc (stage)
      by_task of (WritingBack inode) is = let stage = ap (λ (s : OpStep). s.op.stage) is ∙ at in cc (stage)
      by_task of (Tagging old inode) is = let stage = ap (λ (s : OpStep). s.op.stage) is ∙ at in cc (stage)
      by_task of (Copying ids header) is = let stage = ap (λ (s : OpStep). s.op.stage) is ∙ at in cc (stage)
      by_task of (Making entry made) is = let stage = ap (λ (s : OpStep). s.op.stage) is ∙ at in cc (stage)

      by_stage : (stage : OpStage) → done_at bytes op stage ≡ Some step → ⊥
      by_stage (Asked entry) is = cc (is)
      by_stage (Working of task) is = by_task of task (same_Some (task_done op of bytes task) step is)
      by_stage (Publishing entry made) is = cc (is)
      by_stage (Answered change) is = cc (is)

  not_first : IsNotAtFirst IsAtOpening NeverCame
  not_first = record {
    begins = λ by session ask disk step is at. begun by session ask disk step is at;
    goes = λ op bytes step is at. absurd (done op bytes step is at);
  }

  module _ (known : List Effect) (disk : Option Content) (op : Op) (step : OpStep)
      (at : step.op.stage ≡ Working vid (Opening snapshot ids header)) where
    -- another step isn't at that
    never : {P : Type 0} (one : OpStep) → Some one ≡ Some step → (one.op.stage ≡ Working vid (Opening snapshot ids header) → ⊥) → P
    never one is apart = absurd (apart (ap (λ (s : OpStep). s.op.stage) (same_Some one step is) ∙ at))

    granted_so : (of : Vid) (entry : Entry) (h : Header) → header_of known of.0 ≡ Some h → op.stage ≡ Asked entry
        → step_after_grant op of (chain_of known of.0) disk entry h ≡ Some step → IsOfKnown known op (decisions.Granted of)
    granted_so of (entries.Format members) h there asks is = absurd (cc (is))
    granted_so of (entries.Join node zone vnodes) h there asks is = absurd (cc (is))
    granted_so of (entries.Leave node) h there asks is = absurd (cc (is))
    granted_so of (entries.Reweight node vnodes) h there asks is = absurd (cc (is))
    granted_so of (entries.Recovered node epoch) h there asks is = absurd (cc (is))
    granted_so of (entries.Reserve by session name (Fresh spec)) h there asks is = never _ is (λ same. cc (same))
    granted_so of (entries.Reserve by session name (SnapshotOf tag)) h there asks is = by_disk disk is
      where
        by_disk : (o : Option Content) → option_map (tag_step op of tag h) o ≡ Some step → IsOfKnown known op (decisions.Granted of)
        by_disk None is = absurd (cc (is))
        by_disk (Some old) is = never (tag_step op of tag h old) is (λ same. cc (same))
    granted_so of (entries.Reserve by session name (CloneOf base tag)) h there asks is = by_parent h.parent is
      where
        by_parent : (o : Option Vid) → option_map (copy_step op of (chain_of known of.0) h) o ≡ Some step → IsOfKnown known op
            (decisions.Granted of)
        by_parent None is = absurd (cc (is))
        by_parent (Some parent) is = never (copy_step op of (chain_of known of.0) h parent) is (λ same. cc (same))
    granted_so of (entries.Publish by id) h there asks is = absurd (cc (is))
    granted_so of (entries.Clone by id) h there asks is = absurd (cc (is))
    granted_so of (entries.Snapshot by old id) h there asks is = absurd (cc (is))
    granted_so of (entries.Delete by session name tag) h there asks is = never _ is (λ same. cc (same))
    granted_so of (entries.Lock by session name tag) h there asks is =
        let stage : Working of (Opening (is_some tag) (of.0 ∷ chain_of known of.0) h) ≡ Working vid (Opening snapshot ids header)
        = ap (λ (o : Option OpStep). stage_in o) is ∙ at in
        let id : of ≡ vid = cc (stage) in
        let listed : of.0 ∷ chain_of known of.0 ≡ ids = cc (stage) in
        let head : h ≡ header = cc (stage) in
        let kind_so : is_some tag ≡ snapshot = cc (stage) in
        record {
          by = by;
          session = session;
          name = name;
          tag = tag;
          asked = asks;
          granted = ap (λ (v : Vid). decisions.Granted v) id;
          kind = kind_so;
          own = ap (λ (v : Vid). v.0 ∷ chain_of known v.0) (sym id) ∙ listed;
          there = ap (λ (v : Vid). header_of known v.0) (sym id) ∙ there ∙ ap (λ (x : Header). Some x) head;
        }
      where
        stage_in : Option OpStep → OpStage
        stage_in None = step.op.stage
        stage_in (Some one) = one.op.stage
    granted_so of (entries.Unlock by session id) h there asks is = never _ is (λ same. cc (same))

    decision_so : (entry : Entry) (decision : Decision) → op.stage ≡ Asked entry
        → step_after_decision known disk op entry decision ≡ Some step → IsOfKnown known op decision
    decision_so entry decisions.None asks is = never _ is (λ same. cc (same))
    decision_so entry (decisions.Granted of) asks is = by_header (header_of known of.0) refl is
      where
        by_header : (o : Option Header) → header_of known of.0 ≡ o
            → option_and_then (step_after_grant op of (chain_of known of.0) disk entry) o ≡ Some step
            → IsOfKnown known op (decisions.Granted of)
        by_header None none is = absurd (cc (is))
        by_header (Some h) there is = granted_so of entry h there asks is
    decision_so entry (decisions.Refused cause) asks is = never _ is (λ same. cc (same))

    decided_so : (decision : Decision) → on_decision known disk decision op ≡ Some step → IsOfKnown known op decision
    unfolding on_decision
    decided_so decision is = by_stage op.stage refl is
      where
        by_stage : (stage : OpStage) → op.stage ≡ stage → decided_at known disk decision op stage ≡ Some step
            → IsOfKnown known op decision
        by_stage (Asked entry) asks is = decision_so entry decision asks is
        by_stage (Working of task) asks is = absurd (cc (is))
        by_stage (Publishing entry made) asks is = never _ is (λ same. cc (same))
        by_stage (Answered change) asks is = absurd (cc (is))

  -- so they are a disk's own and all above it
  whole_so_far : (log : List Entry) (op : Op) (decision : Decision) → IsOfKnown (log_effects log) op decision
      → AreWholeIds log vid.0 false header.spec ids
  unfolding is_above
  whole_so_far log op decision is = record {
    snapped = λ never. absurd (cc (never));
    made = ap (option_map (λ (h : Header). h.spec)) is.there;
    each = λ elder of. ap (list_any (λ (id : ℕ). id == elder)) (sym is.own) ∙ ⊎_elim
        (λ (own : elder ≡ vid.0).
        or_left (vid.0 == elder) (list_any (λ id. id == elder) (chain_of (log_effects log) vid.0)) (eq-eqb vid.0 elder (sym own)))
        (λ (above : is_above (log_effects log) elder vid.0 ≡ true).
        or_right (vid.0 == elder) (list_any (λ id. id == elder) (chain_of (log_effects log) vid.0)) above)
        of;
  }

-- ---- every run

-- the ids of each command that reads an inode to open it are whole
abbrev pub OpeningsAreWhole : MomentWithPast → Type 0
OpeningsAreWhole moment = EachUp moment.world.hosts (λ n node. (req : ℕ) (request : Request) (op : Op) (vid : Vid) (snapshot : Bool)
    (ids : List ℕ) (header : Header) → tree.get node.requests req ≡ Some request → request.course ≡ Commanding op
    → op.stage ≡ Working vid (Opening snapshot ids header) → AreWholeIds moment.world.log vid.0 snapshot header.spec ids)

-- what a moment has of it
record HasWhole (moment : MomentWithPast) : Type 0 where
  sound : HostsAreSound moment
  openings : OpeningsAreWhole moment

module _ (script : List Statement) (range : RunsAreInRange script) where
  module _ (start before after : MomentWithPast) (began : Began script start.world) (change : MomentChange script start before after)
      (has : HasWhole before) where
    grown : (vid : ℕ) (snapshot : Bool) (spec : VdiSpec) (ids : List ℕ) → AreWholeIds before.world.log vid snapshot spec ids
        → AreWholeIds after.world.log vid snapshot spec ids
    grown vid snapshot spec ids is = ⊎_elim
        (λ (same : after.world.log ≡ before.world.log). subst (λ (log : List Entry). AreWholeIds log vid snapshot spec ids) (sym same) is)
        (λ (more : (entry : Entry) × (after.world.log ≡ before.world.log ++ entry ∷ [])).
        subst (λ (log : List Entry). AreWholeIds log vid snapshot spec ids) (sym more.1) (whole_next vid snapshot spec ids before.world.log
        more.0 is))
        (log_of_change script change)

    module _ (n : ℕ) (host : Host) (there : tree.get after.world.hosts n ≡ Some host) (up : host.is_lost ≡ false) (req : ℕ)
        (request : Request) (op : Op) (vid : Vid) (snapshot : Bool) (ids : List ℕ) (header : Header)
        (got : tree.get host.node.requests req ≡ Some request) (command : request.course ≡ Commanding op)
        (at : op.stage ≡ Working vid (Opening snapshot ids header)) where
      abbrev IsWholeBefore : Type 0
      IsWholeBefore = AreWholeIds before.world.log vid.0 snapshot header.spec ids

      by_guests : GuestsChange before n host → AreWholeIds before.world.log vid.0 snapshot header.spec ids
      by_guests (GuestsStay old old_there old_up gateway sessions requests) =
          has.openings n old old_there (old_up up) req request op vid snapshot ids header
          (ap (λ (r : tree.FinMap nat_cmp Request). tree.get r req) (sym requests) ∙ got) command at
      by_guests (GuestsAreNone sessions none) =
          let empty : tree.get host.node.requests req ≡ None
          = ap (λ (r : tree.FinMap nat_cmp Request). tree.get r req) none ∙ tree.get-empty {X = Request} nat_cmp req in
          absurd (cc (empty, got))

      -- what is opened as a snapshot was one when the lock was granted
      was_one : (g : IsGoingOn script start before after)
          (d : IsDecidedNow (input_of_cause g.stepping.cause) g.stepping.host.node g.so_far request)
          → IsOfKnown vid snapshot ids header (effects_of g.so_far.node.peer) d.op (decision_on d.entry g.stepping.host.node.peer)
          → snapshot ≡ true → was_snapped before.world.log vid.0 ≡ true
      was_one g d known opens = by_tag known.tag refl
        where
          read : List Entry
          read = g.stepping.host.node.peer.entries

          same_log : before.world.log ≡ start.world.log
          same_log =
              ap (λ (m : MomentWithPast). m.world.log) g.before_so ∙ log_by_changes g.stepping.cause g.by start.world.log

          entry_so : entries.Lock known.by known.session known.name known.tag ≡ d.entry
          entry_so =
              same_entry (entries.Lock known.by known.session known.name known.tag) d.entry
              (subst (λ (stage : OpStage). waits_at d.entry stage ≡ true) known.asked d.waits)

          by_tag : (o : Option (List ℕ)) → known.tag ≡ o → was_snapped before.world.log vid.0 ≡ true
          by_tag None none =
              let kind : false ≡ true = sym (ap is_some none) ∙ known.kind ∙ opens in absurd (cc (kind))
          by_tag (Some tag) is =
              let granted : decision_after g.stepping.host.node.peer.entries
              (entries.Lock known.by known.session known.name (Some tag)) ≡ decisions.Granted vid
              = ap (λ (o : Option (List ℕ)). decision_after g.stepping.host.node.peer.entries
              (entries.Lock known.by known.session known.name o)) (sym is)
              ∙ ap (decision_after g.stepping.host.node.peer.entries) entry_so ∙ known.granted in
              let live = snapshot_found g.stepping.host.node.peer.entries known.by known.session known.name tag vid granted in
              let front = all_read script start.world began g.stepping.n g.stepping.host g.is.there in
              ap (λ (log : List Entry). was_snapped log vid.0) (same_log ∙ front.is)
              ∙ snapped_later vid.0 g.stepping.host.node.peer.entries front.rest
              (snapshot_was vid.0 g.stepping.host.node.peer.entries live)

      own_decided : (g : IsGoingOn script start before after)
          → IsDecidedNow (input_of_cause g.stepping.cause) g.stepping.host.node g.so_far request
          → AreWholeIds before.world.log vid.0 snapshot header.spec ids
      own_decided g d =
          let same : Commanding op ≡ Commanding d.step.op = sym command ∙ d.course_so in
          let one : op ≡ d.step.op = cc (same) in
          let known = decided_so vid snapshot ids header (effects_of g.so_far.node.peer) d.disk d.op d.step
          (ap (λ (o : Op). o.stage) (sym one) ∙ at) (decision_on d.entry g.stepping.host.node.peer) d.is in
          let was_there : tree.get before.world.hosts g.stepping.n ≡ Some (host_with_node g.stepping.host g.so_far.node)
          = ap (λ (m : MomentWithPast). tree.get m.world.hosts g.stepping.n) g.before_so
          ∙ get-insert_same start.world.hosts g.stepping.n (host_with_node g.stepping.host g.so_far.node) in
          let front = (has.sound.each g.stepping.n (host_with_node g.stepping.host g.so_far.node) was_there).read.front in
          let whole = whole_later vid.0 false header.spec ids g.so_far.node.peer.entries front.rest
          (whole_so_far vid snapshot ids header g.so_far.node.peer.entries d.op (decision_on d.entry g.stepping.host.node.peer) known) in
          let whole_before : AreWholeIds before.world.log vid.0 false header.spec ids
          = subst (λ (log : List Entry). AreWholeIds log vid.0 false header.spec ids) (sym front.is) whole in
          record { snapped = was_one g d known; made = whole_before.made; each = whole_before.each }

      going_on : IsGoingOn script start before after → AreWholeIds before.world.log vid.0 snapshot header.spec ids
      going_on g = ⊎_elim
          (λ (mine : (n ≡ g.stepping.n) × (host_with_node g.stepping.host g.next.node ≡ host)). ⊎_elim
          (λ (had : tree.get g.so_far.node.requests req ≡ Some request).
          has.openings g.stepping.n (host_with_node g.stepping.host g.so_far.node)
          (ap (λ (m : MomentWithPast). tree.get m.world.hosts g.stepping.n) g.before_so
          ∙ get-insert_same start.world.hosts g.stepping.n (host_with_node g.stepping.host g.so_far.node))
          (not_lost g.stepping.host g.is.up) req request op vid snapshot ids header had command at)
          (λ (other : ComesNow (NeverCame vid snapshot ids header) (input_of_cause g.stepping.cause) g.stepping.host.node req
          request.session
          g.so_far ⊎ IsDecidedNow (input_of_cause g.stepping.cause) g.stepping.host.node g.so_far request). ⊎_elim
          (λ (c : ComesNow (NeverCame vid snapshot ids header) (input_of_cause g.stepping.cause) g.stepping.host.node req request.session
          g.so_far). absurd c.came)
          (λ (d : IsDecidedNow (input_of_cause g.stepping.cause) g.stepping.host.node g.so_far request). own_decided g d)
          other)
          (stage_or_decided (IsAtOpening vid snapshot ids header) (NeverCame vid snapshot ids header) (not_first vid snapshot ids header)
          req
          (input_of_cause g.stepping.cause) g.stepping.host.node g.so_far g.next g.within.change request op
          (ap (λ (h : Host). tree.get h.node.requests req) mine.1 ∙ got) command at))
          (λ (other : (n ≢ g.stepping.n) × (tree.get start.world.hosts n ≡ Some host)).
          has.openings n host
          (ap (λ (m : MomentWithPast). tree.get m.world.hosts n) g.before_so
          ∙ get-insert_other start.world.hosts g.stepping.n (host_with_node g.stepping.host g.so_far.node) n other.0 ∙ other.1) up req
          request
          op vid snapshot ids header got command at)
          (get-insert_cases start.world.hosts g.stepping.n (host_with_node g.stepping.host g.next.node) n host
          (sym (ap (λ (m : MomentWithPast). tree.get m.world.hosts n) g.after_so) ∙ there))

      whole_then : AreWholeIds after.world.log vid.0 snapshot header.spec ids
      whole_then = grown vid.0 snapshot header.spec ids (⊎_elim
          (λ (g : IsGoingOn script start before after). going_on g)
          (λ (b : IsBetween before after). by_guests (b.0 n host there))
          (between script start change))

    keeps_whole : HasWhole after
    keeps_whole = record {
      sound = (kept_sound script range).keeps start before after began change has.sound;
      openings = λ n host there up req request op vid snapshot ids header got command at.
          whole_then n host there up req request op vid snapshot ids header got command at;
    }

  kept_whole : KeptByChanges script HasWhole
  kept_whole = record {
    opens = record {
      sound = (kept_sound script range).opens;
      openings = λ n host there up req request op vid snapshot ids header got command at. no_request script n host there req request got;
    };
    keeps = λ start before after began change has. keeps_whole start before after began change has;
  }

  pub openings_in_run : (events : List Move) (start moment : MomentWithPast) → run_with_past script events ≡ Some start
      → MomentTrail script start moment → OpeningsAreWhole moment
  openings_in_run events start moment ran trail = (on_the_way script HasWhole kept_whole events start moment ran trail).openings
