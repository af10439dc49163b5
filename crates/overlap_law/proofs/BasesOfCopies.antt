-- A command that reads the inode of a clone's base knows it by the log: the header of the id that it was granted names the base, and the
-- ids that count are those above that id. So it is in every run, at each moment on the way of an event.
use Rattle.std.proofs.Common.{◌≡◌, ◌≢◌, ⊎_elim, ℕ, Bool, true, false, cond, List, [], ◌∷◌, ◌++◌, Option, Some, None, is_some}
use Rattle.std.proofs.Common.{option_map, refl, sym, ap, subst, ◌∙◌}
use Rattle.std.specs.FinMap as tree
use Rattle.std.specs.Ordering.{nat_cmp}
use Rattle.std.specs.Option.{option_and_then}
use Rattle.std.proofs.lemmas.Option.{same_Some}
use Rattle.proof_tools.proofs.FiniteMaps.{get-insert_same, get-insert_other, get-insert_cases}
use Rattle.object_id.specs.declared.entry.Entry.{Entry}
use Rattle.object_id.specs.declared.entry.Entry.TheVariants as entries
use Rattle.object_id.specs.declared.entry.Origin.TheVariants.{Fresh, SnapshotOf, CloneOf}
use Rattle.object_id.specs.declared.node.NodeId.{NodeId}
use Rattle.object_id.specs.declared.oid.Vid.{Vid}
use Rattle.inode.specs.Layout.{Content}
use Rattle.cluster_script.specs.declared.statement.Statement.{Statement}
use Rattle.vdi_directory.specs.declared.decision.Decision.{Decision}
use Rattle.vdi_directory.specs.declared.decision.Decision.TheVariants as decisions
use Rattle.vdi_directory.specs.declared.effect.Effect.{Effect}
use Rattle.vdi_directory.specs.declared.effect.Effect.TheVariants as effects
use Rattle.vdi_directory.specs.declared.header.Header.{Header}
use Rattle.vdi_directory.specs.Chains.{chain_of, chain_after, chain_from}
use Rattle.vdi_directory.specs.Decisions.{outcome, log_effects}
use Rattle.vdi_directory.specs.Effects.{grants, header_of, is_used}
use Rattle.vdi_directory.specs.References.{header_parent, parent_of}
use Rattle.vdi_directory.proofs.ChainLemmas.{chain_of-push}
use Rattle.vdi_directory.proofs.LineLemmas.{line-log_effects}
use Rattle.vdi_directory.proofs.StateLemmas.{log_effects-push}
use Rattle.peer_proto.specs.declared.guest.DiskAsk.{DiskAsk}
use Rattle.peer_proto.specs.declared.guest.VdiAsk.{VdiAsk}
use Rattle.peer_service.specs.LogReading.{decision_on}
use Rattle.peer_service.specs.State.{effects_of}
use Rattle.vdi_ops.specs.Op.{Op, OpStep, OpStage, Asked, Working, Publishing, Answered, Task, Opening, WritingBack, Tagging, Copying}
use Rattle.vdi_ops.specs.Op.{Making}
use Rattle.vdi_ops.specs.Steps.{begin_command, tag_step, copy_step, step_after_grant, step_after_decision, decided_at}
use Rattle.vdi_ops.specs.Steps.{on_decision, task_done, done_at, op_on_done}
use Rattle.sheep_node.specs.declared.course.Course.{Course}
use Rattle.sheep_node.specs.declared.course.Course.TheVariants.{Waiting, Commanding}
use Rattle.sheep_node.specs.declared.course.Request.{Request}
use Rattle.sheep_node.specs.Changes.{Outcome, RequestSteps, DiskBegins, DiskGoesOn, CommandBegins, CommandGoesOn, CommandDecided}
use Rattle.sheep_node.specs.Changes.{CheckBegins, CheckGoesOn, ObjectBegins, ObjectIsDone, EntryBegins, EntryDecided}
use Rattle.sheep_node.specs.Courses.{inode_open}
use Rattle.sheep_node.specs.StepState.{StepState, session_in}
use Rattle.sheep_node.proofs.OneWorkParts.{Requests}
use Rattle.sheep_world.specs.LogFronts.{IsFront}
use Rattle.sheep_world.specs.NodeCauses.{input_of_cause, host_with_node}
use Rattle.sheep_world.specs.World.{Host}
use Rattle.sheep_world.specs.RunsWithAsks.{Move}
use Rattle.overlap_law.specs.Each.{spec_in}
use Rattle.overlap_law.specs.MomentChanges.{MomentChange, MomentTrail, RunsAreInRange, KeptByChanges}
use Rattle.overlap_law.specs.Past.{MomentWithPast, run_with_past}
use Rattle.overlap_law.specs.StepMoments.{SteppingNode, IsStepping, IsWithinStep, moment_in_step}
use Rattle.overlap_law.proofs.ClosedFirstStages.{begins_first}
use Rattle.overlap_law.proofs.AnswersInMoments.{not_lost}
use Rattle.overlap_law.proofs.CoursesCome.{StepsNow, courses_come}
use Rattle.overlap_law.proofs.DraftsOfLogs.{parent_stays}
use Rattle.overlap_law.proofs.GrantedEpochs.{from_front, not_again, spec_stays, used_next}
use Rattle.overlap_law.proofs.GuestsInMoments.{GuestsChange, GuestsStay, GuestsAreNone, IsGoingOn, IsBetween, between}
use Rattle.overlap_law.proofs.LogsOfMoments.{IsOrGrows, log_of_change}
use Rattle.overlap_law.proofs.OpeningOverlap.{no_request}
use Rattle.overlap_law.proofs.ReadInMoments.{HostsAreSound, kept_sound}
use Rattle.overlap_law.proofs.RunsByChanges.{on_the_way}

-- ---- the log

-- what a command goes on with is of the log: the header of the id names its base, and these are the ids above it
pub record KnowsBase (log : List Entry) (vid : ℕ) (ids : List ℕ) (header : Header) : Type 0 where
  pub used : is_used (log_effects log) vid ≡ true
  pub parent : parent_of (log_effects log) vid ≡ header.parent
  pub chain : chain_of (log_effects log) vid ≡ ids
  pub some : is_some header.parent ≡ true
  pub spec : spec_in (log_effects log) vid ≡ Some header.spec

chain_kept : (chains : ℕ → List ℕ) (effect : Effect) (vid : ℕ) → grants vid effect ≡ false → chain_after chains effect vid ≡ chains vid
chain_kept chains effects.Nothing vid other = refl
chain_kept chains (effects.Reserved grant) vid other =
    ap (λ (b : Bool). cond b (chain_from chains grant.header.parent) (chains vid)) other
chain_kept chains (effects.Published id name) vid other = refl
chain_kept chains (effects.Snapped snap) vid other = refl
chain_kept chains (effects.Deleted id name) vid other = refl
chain_kept chains (effects.Held id holder) vid other = refl
chain_kept chains (effects.Freed id) vid other = refl
chain_kept chains (effects.Withdrawn id) vid other = refl
chain_kept chains (effects.Left node) vid other = refl

abbrev HasChain : List Entry → ℕ → List Entry → Type 0
HasChain log vid all = (is_used (log_effects all) vid ≡ true) × (chain_of (log_effects all) vid ≡ chain_of (log_effects log) vid)

chain_next : (log : List Entry) (vid : ℕ) (all : List Entry) (entry : Entry) → HasChain log vid all → HasChain log vid (all ++ entry ∷ [])
chain_next log vid all entry is =
    let effect : Effect = (outcome (log_effects all) entry).effect in (
      used_next all entry vid is.0,
      ap (λ (known : List Effect). chain_of known vid) (log_effects-push all entry) ∙ chain_of-push (log_effects all) effect vid
          ∙ chain_kept (chain_of (log_effects all)) effect vid (not_again all entry vid is.0) ∙ is.1,
    )

knows_with : (log later : List Entry) (vid : ℕ) (ids : List ℕ) (header : Header) → KnowsBase log vid ids header
    → KnowsBase (log ++ later) vid ids header
knows_with log later vid ids header knows =
    let chain = from_front (HasChain log vid) (chain_next log vid) log later (knows.used, refl) in
    record {
      used = chain.0;
      parent = parent_stays log later vid knows.used ∙ knows.parent;
      chain = chain.1 ∙ knows.chain;
      some = knows.some;
      spec = spec_stays log later vid header.spec knows.spec;
    }

knows_later : (log later : List Entry) → IsOrGrows log later → (vid : ℕ) (ids : List ℕ) (header : Header) → KnowsBase log vid ids header
    → KnowsBase later vid ids header
knows_later log later grows vid ids header knows = ⊎_elim
    (λ (same : later ≡ log). subst (λ (l : List Entry). KnowsBase l vid ids header) (sym same) knows)
    (λ (more : (entry : Entry) × (later ≡ log ++ entry ∷ [])).
    subst (λ (l : List Entry). KnowsBase l vid ids header) (sym more.1) (knows_with log (more.0 ∷ []) vid ids header knows))
    grows

-- ---- a command

module _ (vid : Vid) (ids : List ℕ) (header : Header) where
  abbrev IsCopying : OpStage → Type 0
  IsCopying stage = stage ≡ Working vid (Copying ids header)

  begins_not : (by : NodeId) (session : ℕ) (ask : VdiAsk) (disk : Option Content) (step : OpStep)
      → begin_command by session ask disk ≡ Some step → IsCopying step.op.stage → ⊥
  begins_not by session ask disk step is at =
      let (entry, first) = begins_first by session ask disk step is in
      let same = ap (λ (s : OpStep). s.op.stage) first in cc (same, at)

  task_not : (op : Op) (of : Vid) (bytes : List ℕ) (task : Task) → IsCopying (task_done op of bytes task).op.stage → ⊥
  task_not op of bytes (Opening true own has) at = cc (at)
  task_not op of bytes (Opening false own has) at = cc (at)
  task_not op of bytes (WritingBack inode) at = cc (at)
  task_not op of bytes (Tagging old inode) at = cc (at)
  task_not op of bytes (Copying own has) at = cc (at)
  task_not op of bytes (Making entry opened) at = cc (at)

  goes_not : (bytes : List ℕ) (op : Op) (step : OpStep) → op_on_done bytes op ≡ Some step → IsCopying step.op.stage → ⊥
  unfolding op_on_done
  goes_not bytes op step is at = by_stage op.stage is
    where
      by_stage : (stage : OpStage) → done_at bytes op stage ≡ Some step → ⊥
      by_stage (Asked entry) is = cc (is)
      by_stage (Working of task) is =
          task_not op of bytes task (ap (λ (s : OpStep). s.op.stage) (same_Some (task_done op of bytes task) step is) ∙ at)
      by_stage (Publishing entry opened) is = cc (is)
      by_stage (Answered change) is = cc (is)

  module _ (known : List Effect) (disk : Option Content) (op : Op) (step : OpStep)
      (at : step.op.stage ≡ Working vid (Copying ids header)) where
    abbrev IsBasesHeader : Type 0
    IsBasesHeader = (header_of known vid.0 ≡ Some header) × (chain_of known vid.0 ≡ ids) × (is_some header.parent ≡ true)

    stage_of : (one : OpStep) → Some one ≡ Some step → IsCopying one.op.stage
    stage_of one is = ap (λ (s : OpStep). s.op.stage) (same_Some one step is) ∙ at

    by_grant : (of : Vid) (entry : Entry) (has : Header) → header_of known of.0 ≡ Some has
        → step_after_grant op of (chain_of known of.0) disk entry has ≡ Some step → IsBasesHeader
    by_grant of (entries.Format members) has there is = absurd (cc (is))
    by_grant of (entries.Join node zone vnodes) has there is = absurd (cc (is))
    by_grant of (entries.Leave node) has there is = absurd (cc (is))
    by_grant of (entries.Reweight node vnodes) has there is = absurd (cc (is))
    by_grant of (entries.Recovered node epoch) has there is = absurd (cc (is))
    by_grant of (entries.Reserve by session name (Fresh spec)) has there is = let same = stage_of _ is in absurd (cc (same))
    by_grant of (entries.Reserve by session name (SnapshotOf tag)) has there is = by_disk disk is
      where
        by_disk : (o : Option Content) → option_map (tag_step op of tag has) o ≡ Some step → IsBasesHeader
        by_disk None is = absurd (cc (is))
        by_disk (Some inode) is = let same = stage_of (tag_step op of tag has inode) is in absurd (cc (same))
    by_grant of (entries.Reserve by session name (CloneOf base tag)) has there is = by_parent has.parent refl is
      where
        by_parent : (o : Option Vid) → has.parent ≡ o → option_map (copy_step op of (chain_of known of.0) has) o ≡ Some step → IsBasesHeader
        by_parent None none is = absurd (cc (is))
        by_parent (Some parent) from is =
            let same = stage_of (copy_step op of (chain_of known of.0) has parent) is in
            let id : of ≡ vid = cc (same) in
            let own : has ≡ header = cc (same) in
            let all : chain_of known of.0 ≡ ids = cc (same) in (
              ap (λ (v : Vid). header_of known v.0) (sym id) ∙ there ∙ ap (λ (h : Header). Some h) own,
              ap (λ (v : Vid). chain_of known v.0) (sym id) ∙ all,
              ap (λ (h : Header). is_some h.parent) (sym own) ∙ ap is_some from,
            )
    by_grant of (entries.Publish by id) has there is = absurd (cc (is))
    by_grant of (entries.Clone by id) has there is = absurd (cc (is))
    by_grant of (entries.Snapshot by old id) has there is = absurd (cc (is))
    by_grant of (entries.Delete by session name tag) has there is = let same = stage_of _ is in absurd (cc (same))
    by_grant of (entries.Lock by session name tag) has there is = let same = stage_of _ is in absurd (cc (same))
    by_grant of (entries.Unlock by session id) has there is = let same = stage_of _ is in absurd (cc (same))

    by_decision : (entry : Entry) (decision : Decision) → step_after_decision known disk op entry decision ≡ Some step → IsBasesHeader
    by_decision entry decisions.None is = let same = stage_of _ is in absurd (cc (same))
    by_decision entry (decisions.Granted of) is = by_header (header_of known of.0) refl is
      where
        by_header : (o : Option Header) → header_of known of.0 ≡ o
            → option_and_then (step_after_grant op of (chain_of known of.0) disk entry) o ≡ Some step → IsBasesHeader
        by_header None none is = absurd (cc (is))
        by_header (Some has) there is = by_grant of entry has there is
    by_decision entry (decisions.Refused cause) is = let same = stage_of _ is in absurd (cc (same))

    decided_copy : (decision : Decision) → on_decision known disk decision op ≡ Some step
        → (header_of known vid.0 ≡ Some header) × (chain_of known vid.0 ≡ ids) × (is_some header.parent ≡ true)
    unfolding on_decision
    decided_copy decision is = by_stage op.stage is
      where
        by_stage : (stage : OpStage) → decided_at known disk decision op stage ≡ Some step → IsBasesHeader
        by_stage (Asked entry) is = by_decision entry decision is
        by_stage (Working of task) is = absurd (cc (is))
        by_stage (Publishing entry opened) is = let same = stage_of _ is in absurd (cc (same))
        by_stage (Answered change) is = absurd (cc (is))

-- ---- in a moment

pub record IsCopyOf (requests : Requests) (vid : Vid) (ids : List ℕ) (header : Header) : Type 0 where
  pub req : ℕ
  pub request : Request
  pub op : Op
  pub there : tree.get requests req ≡ Some request
  pub command : request.course ≡ Commanding op
  pub at : op.stage ≡ Working vid (Copying ids header)

abbrev pub CopiesKnow : MomentWithPast → Type 0
CopiesKnow moment = (n : ℕ) (host : Host) → tree.get moment.world.hosts n ≡ Some host → host.is_lost ≡ false
    → (vid : Vid) (ids : List ℕ) (header : Header) → IsCopyOf host.node.requests vid ids header
    → KnowsBase moment.world.log vid.0 ids header

module _ (script : List Statement) (start : MomentWithPast) where
  -- a node that kept its requests
  still : (before after : MomentWithPast) → MomentChange script start before after → CopiesKnow before → (n : ℕ) (host : Host)
      → host.is_lost ≡ false → GuestsChange before n host → (vid : Vid) (ids : List ℕ) (header : Header)
      → IsCopyOf host.node.requests vid ids header → KnowsBase after.world.log vid.0 ids header
  still before after change all n host up (GuestsStay was there was_up gateway sessions requests) vid ids header copies =
      knows_later before.world.log after.world.log (log_of_change script change) vid.0 ids header
      (all n was there (was_up up) vid ids header (subst (λ (r : Requests). IsCopyOf r vid ids header) requests copies))
  still before after change all n host up (GuestsAreNone none requests) vid ids header copies =
      let empty = ap (λ (r : Requests). tree.get r copies.req) requests ∙ tree.get-empty {X = Request} nat_cmp copies.req in
      let there = copies.there in
      absurd (cc (empty, there))

  module _ (on : SteppingNode) (so_far next : StepState) (steps : IsStepping script start.world on) (within : IsWithinStep on so_far next)
      (sound : HostsAreSound (moment_in_step script on start so_far)) (all : CopiesKnow (moment_in_step script on start so_far)) where
    abbrev here : MomentWithPast
    here = moment_in_step script on start so_far

    abbrev was : Host
    was = host_with_node on.host so_far.node

    seat : tree.get (moment_in_step script on start so_far).world.hosts on.n ≡ Some (host_with_node on.host so_far.node)
    seat = get-insert_same start.world.hosts on.n was

    module _ (vid : Vid) (ids : List ℕ) (header : Header) where
      abbrev Knows : Type 0
      Knows = KnowsBase (moment_in_step script on start so_far).world.log vid.0 ids header

      -- the command reads the base as its entry is decided
      decided_now : (header_of (effects_of so_far.node.peer) vid.0 ≡ Some header) × (chain_of (effects_of so_far.node.peer) vid.0 ≡ ids)
          × (is_some header.parent ≡ true) → Knows
      decided_now (there, chain, some) =
          let front : IsFront so_far.node.peer.entries here.world.log = (sound.each on.n was seat).read.front in
          subst (λ (l : List Entry). KnowsBase l vid.0 ids header) (sym front.is)
          (knows_with so_far.node.peer.entries front.rest vid.0 ids header (record {
            used = (line-log_effects so_far.node.peer.entries).known vid.0 ∙ ap is_some there;
            parent = ap header_parent there;
            chain = chain;
            some = some;
            spec = ap (option_map (λ (h : Header). h.spec)) there;
          }))

      module _ (req : ℕ) (request : Request) (op : Op) (command : request.course ≡ Commanding op)
          (at : op.stage ≡ Working vid (Copying ids header)) where
        was_so : tree.get so_far.node.requests req ≡ Some request → Knows
        was_so there =
            all on.n was seat (not_lost on.host steps.up) vid ids header
            (record { req = req; request = request; op = op; there = there; command = command; at = at })

        -- another course is none of a command
        other : (session : ℕ) (course : Course) → ((op : Op) → course ≢ Commanding op)
            → tree.get (tree.insert so_far.node.requests req (record { session = session; course = course })) req ≡ Some request → Knows
        other session course apart got =
            absurd (apart op (ap (λ (r : Request). r.course)
            (same_Some (record { session = session; course = course }) request
            (sym (get-insert_same so_far.node.requests req (record { session = session; course = course })) ∙ got)) ∙ command))

        -- a command has this stage
        stage_so : (session : ℕ) (step : OpStep)
            → tree.get (tree.insert so_far.node.requests req (record { session = session; course = Commanding step.op })) req ≡ Some request
            → step.op.stage ≡ Working vid (Copying ids header)
        stage_so session step got =
            let same : Commanding step.op ≡ Commanding op
            = ap (λ (r : Request). r.course)
            (same_Some (record { session = session; course = Commanding step.op }) request
            (sym (get-insert_same so_far.node.requests req (record { session = session; course = Commanding step.op })) ∙ got)) ∙ command in
            let one : step.op ≡ op = cc (same) in
            ap (λ (o : Op). o.stage) one ∙ at

        by_steps : (session : ℕ) (outcome : Outcome) (moved : StepState)
            → RequestSteps (input_of_cause on.cause) on.host.node so_far session req outcome moved
            → tree.get moved.node.requests req ≡ Some request → Knows
        by_steps session outcome moved (DiskBegins ask disk there may on) got = other session _ (λ o same. cc (same)) got
        by_steps session outcome moved (DiskGoesOn number work attempt status bytes driver disk step ends may is) got =
            other session _ (λ o same. cc (same)) got
        by_steps session outcome moved (CommandBegins ask step arrival is) got =
            absurd (begins_not vid ids header so_far.node.me session ask (inode_open (session_in session so_far).disk) step is
            (stage_so session step got))
        by_steps session outcome moved (CommandGoesOn number work attempt status bytes before step ends is) got =
            absurd (goes_not vid ids header bytes before step is (stage_so session step got))
        by_steps session outcome moved (CommandDecided entry before step from read there waits is) got =
            decided_now (decided_copy vid ids header (effects_of so_far.node.peer) (inode_open (session_in session so_far).disk) before step
            (stage_so session step got) (decision_on entry on.host.node.peer) is)
        by_steps session outcome moved (CheckBegins inode arrival may) got = other session _ (λ o same. cc (same)) got
        by_steps session outcome moved (CheckGoesOn number work attempt status bytes check step ends is) got =
            other session _ (λ o same. cc (same)) got
        by_steps session outcome moved (ObjectBegins asked arrival) got = other session _ (λ o same. cc (same)) got
        by_steps session outcome moved (ObjectIsDone number work attempt status bytes asked ends) got = was_so got
        by_steps session outcome moved (EntryBegins entry arrival) got = other session _ (λ o same. cc (same)) got
        by_steps session outcome moved (EntryDecided entry awaited from read there waits) got = was_so got

        own : tree.get next.node.requests req ≡ Some request → Knows
        own got = ⊎_elim
            (λ (had : tree.get so_far.node.requests req ≡ Some request). was_so had)
            (⊎_elim
            (λ (s : StepsNow (input_of_cause on.cause) on.host.node so_far req request). by_steps s.session s.next s.moved s.steps s.there)
            (λ (waits : (ask : DiskAsk) × (request.course ≡ Waiting ask)). let both = sym waits.1 ∙ command in absurd (cc (both))))
            (courses_come req (input_of_cause on.cause) on.host.node so_far next within.change request got)

    going_on : CopiesKnow (moment_in_step script on start next)
    going_on n host at up vid ids header copies = ⊎_elim
        (λ (mine : (n ≡ on.n) × (host_with_node on.host next.node ≡ host)).
        own vid ids header copies.req copies.request copies.op copies.command copies.at
        (ap (λ (h : Host). tree.get h.node.requests copies.req) mine.1 ∙ copies.there))
        (λ (other : (n ≢ on.n) × (tree.get start.world.hosts n ≡ Some host)).
        all n host (get-insert_other start.world.hosts on.n was n other.0 ∙ other.1) up vid ids header copies)
        (get-insert_cases start.world.hosts on.n (host_with_node on.host next.node) n host at)

  copies_after : (before after : MomentWithPast) → MomentChange script start before after → HostsAreSound before → CopiesKnow before
      → CopiesKnow after
  copies_after before after change sound all = ⊎_elim
      (λ (g : IsGoingOn script start before after).
      subst CopiesKnow (sym g.after_so)
      (going_on g.stepping g.so_far g.next g.is g.within (subst HostsAreSound g.before_so sound) (subst CopiesKnow g.before_so all)))
      (λ (b : IsBetween before after).
      λ n host at up vid ids header copies. still before after change all n host up (b.0 n host at) vid ids header copies)
      (between script start change)

-- ---- every run

module _ (script : List Statement) (range : RunsAreInRange script) where
  record CopiesAreSound (moment : MomentWithPast) : Type 0 where
    sound : HostsAreSound moment
    know : CopiesKnow moment

  kept_copies : KeptByChanges script CopiesAreSound
  kept_copies = record {
    opens = record {
      sound = (kept_sound script range).opens;
      know = λ n host at up vid ids header copies. no_request script n host at copies.req copies.request copies.there;
    };
    keeps = λ start before after began change are. record {
      sound = (kept_sound script range).keeps start before after began change are.sound;
      know = copies_after script start before after change are.sound are.know;
    };
  }

  pub copies-on_the_way : (events : List Move) (start moment : MomentWithPast) → run_with_past script events ≡ Some start
      → MomentTrail script start moment → CopiesKnow moment
  copies-on_the_way events start moment is trail = (on_the_way script CopiesAreSound kept_copies events start moment is trail).know
