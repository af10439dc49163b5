-- Each reply to a check of the script that isn't a refusal is of a check that the node has under way as the move comes, or of a disk
-- without own objects: for a check replies at once only where nothing is to be compared, and else as a work of it is done, which no request
-- that comes with the move has.
use Rattle.std.proofs.Common.{◌≡◌, ◌⊎◌, inl, inr, ℕ, ◌+◌, ◌-◌, ◌*◌, ◌/◌, ◌%◌, ◌^◌, ◌<◌, ◌≤◌, ◌++◌, false, true, Bool, List, []}
use Rattle.std.proofs.Common.{◌∷◌, Contains, Option, Some, None, refl, sym, ap, subst, ◌∙◌, ⊎_elim, pow_pos, arith}
use Rattle.std.specs.Option.{option_and_then, option_map, option_map_or}
use Rattle.std.specs.FinMap as tree
use Rattle.std.proofs.Math.Nat.{mod-lt}
use Rattle.std.proofs.lemmas.Bool.{eqb-true}
use Rattle.std.proofs.lemmas.Nat.{div-add-mod'}
use Rattle.std.proofs.lemmas.Option.{same_Some}
use Rattle.proof_tools.proofs.Lists.{Contains-nil, find-contains}
use Rattle.object_id.specs.declared.limits.TheConstants.{BLOCK_BYTES}
use Rattle.object_id.specs.Spec.{IsSpec}
use Rattle.cluster_script.specs.declared.statement.Statement.{Statement}
use Rattle.cluster_script.specs.declared.statement.Statement.TheVariants as lines
use Rattle.cluster_script.specs.NumberedRequests.{request_at, session_of}
use Rattle.cluster_script.specs.Sessions.{ScriptSession, has_session_number, sessions_of}
use Rattle.cluster_script.specs.Statements.{is_check}
use Rattle.disk_check.specs.Check.{Check, CheckStep, begin_check, check_on, check_on_done}
use Rattle.disk_check.specs.Check as checks
use Rattle.disk_check.specs.Table.{own_indexes}
use Rattle.disk_history.specs.Ledger as histories
use Rattle.gateway.specs.declared.message.Status.{Status}
use Rattle.gateway.specs.Attempt.{Attempt}
use Rattle.gateway.specs.State.{Work}
use Rattle.guest_driver.specs.declared.disk.Disk.{Disk}
use Rattle.inode.specs.Layout.{Content}
use Rattle.peer_proto.specs.declared.guest.GuestRsp.{GuestRsp}
use Rattle.peer_proto.specs.declared.guest.VdiAsk.TheVariants as disk_commands
use Rattle.vdi_directory.specs.Decisions.{log_effects}
use Rattle.sheep_node.specs.declared.ask.Ask.{Ask}
use Rattle.sheep_node.specs.declared.ask.Ask.TheVariants as asks
use Rattle.sheep_node.specs.declared.course.Course.TheVariants.{Checking}
use Rattle.sheep_node.specs.declared.course.Request.{Request}
use Rattle.sheep_node.specs.declared.event.Event.{Event}
use Rattle.sheep_node.specs.declared.input.Input.{Input}
use Rattle.sheep_node.specs.declared.input.Input.TheVariants as inputs
use Rattle.sheep_node.specs.Changes.{Arrival, EndsWork, IsTold, RequestSteps, ToReply, outcome_of_check}
use Rattle.sheep_node.specs.Courses.{inode_open}
use Rattle.sheep_node.specs.SessionQueues.{session_among}
use Rattle.sheep_node.specs.State.{Node, session_at}
use Rattle.sheep_node.specs.StepState.{StepState, session_in}
use Rattle.sheep_node.proofs.StepChain.{kept_by_chain}
use Rattle.sheep_world.specs.Asking.{ask_of_statement}
use Rattle.sheep_world.specs.Began.{Began, MakesMove}
use Rattle.sheep_world.specs.Effects.{open_disk_at}
use Rattle.sheep_world.specs.HistoryAdditions.{disk_of}
use Rattle.sheep_world.specs.NodeCauses.{input_of_cause}
use Rattle.sheep_world.specs.Run as runs
use Rattle.sheep_world.specs.RunsWithAsks.{Move, event_of_move, run_with_asks}
use Rattle.sheep_world.specs.Step.{EventOutcome}
use Rattle.sheep_world.specs.World.{Host, World, node_at}
use Rattle.sheep_world.proofs.ClientReads.{goes_by_kind}
use Rattle.overlap_law.specs.CheckDone.{HasOneValue, HasReplyToCheck, IsOfCheckUnderWay, IsOnDiskOpen, LeavesOneValue, RepliesToCheck}
use Rattle.overlap_law.specs.CheckDone.{disk_open_by}
use Rattle.overlap_law.specs.Checks.{IsCheckOn}
use Rattle.overlap_law.specs.Headline.{ledger_of}
use Rattle.overlap_law.specs.HistoryGrowth.{world_at_cause}
use Rattle.overlap_law.specs.MomentChanges.{RunsAreInRange}
use Rattle.overlap_law.specs.Past.{MomentWithPast, moment_after, next_moment, run_with_past, without_past}
use Rattle.overlap_law.specs.PastWords.{is_refusal}
use Rattle.overlap_law.specs.DoneOnDisks.{world_without_reply}
use Rattle.overlap_law.specs.StepMoments.{SteppingNode, IsStepping, StepsByChanges, LeadsInStep, first_in_step}
use Rattle.overlap_law.specs.ToldReads.{IsDiskOf}
use Rattle.overlap_law.specs.WrittenBlocks.{blocks_per_object}
use Rattle.overlap_law.proofs.AheadOfChecks.{object_blocks}
use Rattle.overlap_law.proofs.AnswersInMoments.{not_lost}
use Rattle.overlap_law.proofs.CausedWorks.{by_changes}
use Rattle.overlap_law.proofs.CheckDoneInRuns.{value_made}
use Rattle.overlap_law.proofs.CheckedBefore.{old, on_before}
use Rattle.overlap_law.proofs.CoursesOfScript.{asked_by}
use Rattle.overlap_law.proofs.DisksOfWriters.{no_command}
use Rattle.overlap_law.proofs.GoingOn.{HasGone, has_gone}
use Rattle.overlap_law.proofs.InsideDisks.{known_here}
use Rattle.overlap_law.proofs.ItemsOfReplies.{is_check_at}
use Rattle.overlap_law.proofs.NoRecoveredDue.{began-with_past}
use Rattle.overlap_law.proofs.OpenDisksOfHistory.{working_of_history}
use Rattle.overlap_law.proofs.CheckRepliesInFull.{begins_on, check_answers, placed}
use Rattle.overlap_law.proofs.RepliesInRuns.{kind_tells}
use Rattle.overlap_law.proofs.ReadsToldDisks.{began_on}
use Rattle.overlap_law.proofs.RequestsInSteps.{KnownIn, change_known, received_none, received_replies}
use Rattle.overlap_law.proofs.RunLemmas.{past-follows}
use Rattle.overlap_law.proofs.SessionsOfRequests.{IsAskedIn, are_asked_by_line, brought, by_line, of_test}

-- a check that replies as it begins has nothing to compare
replies_at_once : (inode : Content) (rsp : GuestRsp) → outcome_of_check (begin_check inode).act ≡ ToReply rsp → own_indexes inode ≡ []
unfolding begin_check
replies_at_once inode rsp = by_own (own_indexes inode)
  where
    by_own : (own : List ℕ) → outcome_of_check (check_on (checks.begun_check inode) own).act ≡ ToReply rsp → own ≡ []
    by_own [] replies = refl
    by_own (index ∷ later) replies = absurd (cc (replies))

-- a disk that is open has its inode
record IsOpenWith (disk : Option Disk) (inode : Content) : Type 0 where
  opened : Disk
  there : disk ≡ Some opened
  same : opened.inode ≡ inode

open_with : (disk : Option Disk) (inode : Content) → inode_open disk ≡ Some inode → IsOpenWith disk inode
open_with None inode on = absurd (cc (on))
open_with (Some disk) inode on = record { opened = disk; there = refl; same = same_Some disk.inode inode on }

-- ---- what a node has before it steps

-- a request is there before
record WasThere (node : Node) (req : ℕ) : Type 0 where
  request : Request
  got : tree.get node.requests req ≡ Some request

-- a message that is told of is no guest's request
no_guest : (input : Input) (number : ℕ) (status : Status) → IsTold input number status → (req session : ℕ) (ask : Ask)
    → input ≡ inputs.Guest req session ask → ⊥
no_guest input number status told req session ask from = subst (λ (i : Input). IsTold i number status) from told

module _ (script : List Statement) (range : RunsAreInRange script) (events : List Move) (start : MomentWithPast)
    (run : run_with_past script events ≡ Some start) where
  began : Began script start.world
  began = began-with_past script events start run

  -- a check of a session that was under way, on the disk that the session has open and on which it began; or this disk has no own objects
  record WasUnderWay (req : ℕ) (opened : Disk) (disk : histories.Disk) : Type 0 where
    n : ℕ
    host : Host
    there : tree.get start.world.hosts n ≡ Some host
    up : host.is_lost ≡ false
    check : Check
    on : IsCheckOn (ledger_of start.past.history) host.node req check opened disk
    large : opened.inode.spec.size / BLOCK_BYTES ≤ disk.blocks
    valid : IsSpec opened.inode.spec

  record IsOnItsDisk (world : World) (req session : ℕ) : Type 0 where
    opened : Disk
    open_so : disk_open_by script session start.world ≡ Some opened
    begun : disk_of script req world ≡ Some opened.inode.vid
    how : ((disk : histories.Disk) × WasUnderWay req opened disk) ⊎ (own_indexes opened.inode ≡ [])

  -- the disk that a session has at its node
  open_at : (n incarnation : ℕ) (host : Host) → tree.get start.world.hosts n ≡ Some host → (req session : ℕ) (opened : Disk)
      → IsAskedIn script n incarnation req session → (session_among session host.node.sessions).disk ≡ Some opened
      → disk_open_by script session start.world ≡ Some opened
  open_at n incarnation host there req session opened is on =
      let number : is.of.number ≡ session
      = eqb-true is.of.number session (find-contains (has_session_number session) (sessions_of script) is.of is.declared).1 in
      ap (option_and_then (λ (of : ScriptSession). open_disk_at of start.world)) is.declared
      ∙ ap (λ (k : ℕ). option_and_then (λ (node : Node). (session_at is.of.number node).disk) (node_at k start.world)) is.of_node
      ∙ ap (λ (o : Option Host).
      option_and_then (λ (node : Node). (session_at is.of.number node).disk) (option_map (λ (host : Host). host.node) o)) there
      ∙ ap (λ (k : ℕ). (session_among k host.node.sessions).disk) number ∙ on

  -- ---- a step

  module _ (stepping : SteppingNode) (is : IsStepping script start.world stepping) (by : StepsByChanges stepping.cause) (so_far : StepState)
      (leads : LeadsInStep stepping (first_in_step stepping) so_far) (of req session : ℕ)
      (asked : request_at script req ≡ Some (lines.Check of)) where
    abbrev Tells : GuestRsp → Type 0
    Tells rsp = IsOnItsDisk (world_at_cause start.world stepping.cause) req of

    abbrev here : Node
    here = stepping.host.node

    asks_so : asked_by script req ≡ Some (asks.Vdi disk_commands.Check)
    asks_so = ap (option_and_then ask_of_statement) asked

    checks_so : is_check_at script req ≡ true
    checks_so = ap (λ (o : Option Statement). option_map_or is_check o false) asked

    -- what is asked of a session is asked of its own
    own_session : IsAskedIn script stepping.n stepping.host.incarnation req session → session ≡ of
    own_session asks = same_Some session of (sym asks.asking ∙ ap (option_and_then session_of) asked)

    -- it replies as it begins
    begins_so : (inode : Content) → Arrival (input_of_cause stepping.cause) here so_far session req (asks.Vdi disk_commands.Check) None
        → inode_open (session_in session so_far).disk ≡ Some inode → (rsp : GuestRsp)
        → outcome_of_check (begin_check inode).act ≡ ToReply rsp → Tells rsp
    begins_so inode arrival on rsp replies =
        let open_there = open_with (session_in session so_far).disk inode on in
        let asking = by_line script stepping.n stepping.host.incarnation req session
        (brought script start.world stepping.n stepping.host stepping.cause is.caused req session (asks.Vdi disk_commands.Check)
        arrival.from) (of_test script is_check req checks_so) in
        let at_host : (session_among session here.sessions).disk ≡ Some open_there.opened
        = sym (ap (λ (s : StepState). (session_in session s).disk) arrival.first) ∙ open_there.there in
        record {
          opened = open_there.opened;
          open_so = subst (λ (k : ℕ). disk_open_by script k start.world ≡ Some open_there.opened) (own_session asking)
              (open_at stepping.n stepping.host.incarnation stepping.host is.there req session open_there.opened asking at_host);
          begun = begins_on script range events start run stepping is by so_far leads session req asks_so inode arrival on
              ∙ ap (λ (i : Content). Some i.vid) (sym open_there.same);
          how = inr (ap own_indexes open_there.same ∙ replies_at_once inode rsp replies);
        }

    -- it was there before a work of it is done
    abbrev IsKnown : ℕ → ℕ → Bool → Type 0
    IsKnown q session disk = WasThere here q

    was_there : ((q session : ℕ) (ask : Ask) → input_of_cause stepping.cause ≡ inputs.Guest q session ask → ⊥) → (request : Request)
        → tree.get so_far.node.requests req ≡ Some request → WasThere here req
    was_there none request got =
        (kept_by_chain (KnownIn IsKnown)
        (change_known IsKnown (input_of_cause stepping.cause) here (λ q session ask from. absurd (none q session ask from))) leads
        (received_none IsKnown (input_of_cause stepping.cause) here (received_replies (input_of_cause stepping.cause) here)
        (λ q request got. record { request = request; got = got }))).asked req request got

    goes_on_so : (number : ℕ) (work : Work) (attempt : Attempt) (status : Status) (bytes : List ℕ) (check : Check) (step : CheckStep)
        → EndsWork (input_of_cause stepping.cause) here so_far session req number work attempt status (Checking check) bytes
        → check_on_done bytes check ≡ Some step → (rsp : GuestRsp) → outcome_of_check step.act ≡ ToReply rsp → Tells rsp
    goes_on_so number work attempt status bytes check step ends done rsp replies =
        let got = ends.ends.request in
        let was = was_there (no_guest (input_of_cause stepping.cause) number status ends.ends.learns.told)
        (record { session = session; course = Checking check }) got in
        let by_cause = by_changes stepping.cause by in
        let before = old script range start.world began stepping.n stepping.host is.there is.up stepping.cause by_cause is.caused so_far
        leads req session check got was.request was.got in
        let (on_disk, on_it, course) = placed script range events start run stepping is by so_far leads session req asks_so (Checking check)
        got in
        let opened : Disk = course.on.disk in
        let at_host : (session_among was.request.session here.sessions).disk ≡ Some opened
        = on_before script range start.world began stepping.n stepping.host is.there is.up stepping.cause by_cause is.caused so_far leads
        req session check got was.request was.got opened course.on.there in
        let asking = are_asked_by_line script start.world began stepping.n stepping.host is.there req was.request was.got
        (of_test script is_check req checks_so) in
        let own : was.request.session ≡ of
        = same_Some was.request.session of (sym asking.asking ∙ ap (option_and_then session_of) asked) in
        let known : IsDiskOf (ledger_of start.past.history) (log_effects start.world.log) opened.inode
        = (working_of_history script range events start run).each stepping.n stepping.host is.there (not_lost stepping.host is.up)
        was.request.session opened at_host course.working
        (no_command script range start.world began stepping.n stepping.host is.there req was.request was.got (inr checks_so)) in
        record {
          opened = opened;
          open_so = subst (λ (k : ℕ). disk_open_by script k start.world ≡ Some opened) own
              (open_at stepping.n stepping.host.incarnation stepping.host is.there req was.request.session opened asking at_host);
          begun = began_on script range events start run stepping is by so_far leads req on_disk on_it ∙ course.on.same;
          how = inl (
            known.disk,
            record {
              n = stepping.n;
              host = stepping.host;
              there = is.there;
              up = not_lost stepping.host is.up;
              check = before.check;
              on = record {
                request = record { session = was.request.session; course = Checking before.check };
                on = record { there = before.got; on = at_host; known = known.there };
                course = refl;
              };
              large = known.large;
              valid = (known_here script range start.world began stepping.n stepping.host is.there was.request.session opened
                  at_host).disk.spec_valid;
            },
          );
        }

    step_tells : (rsp : GuestRsp) (moved : StepState)
        → RequestSteps (input_of_cause stepping.cause) here so_far session req (ToReply rsp) moved → Tells rsp
    step_tells rsp moved steps =
        check_answers script range events start run stepping is by so_far leads session req asks_so Tells begins_so goes_on_so
        (ToReply rsp) moved steps rsp refl

  -- ---- a move

  -- a reply to a check of the script that doesn't refuse it is of one under way, or of a disk without own objects
  abbrev IsSo : World → ℕ → GuestRsp → Type 0
  IsSo world req rsp =
      (session : ℕ) → request_at script req ≡ Some (lines.Check session) → is_refusal rsp ≡ false → IsOnItsDisk world req session

  module _ (event : Event) (made : EventOutcome) (happened : MakesMove script event start.world made) (req session : ℕ)
      (replies : HasReplyToCheck script made.world req session) where
    on_its_disk : IsOnItsDisk (world_without_reply script event start.world) req session
    on_its_disk =
        kind_tells script IsSo (λ world q cause own asked is. absurd (cc (is))) start
        (λ stepping is by so_far next within trail own q rsp moved steps of asked fine.
        step_tells stepping is by so_far within.leads of q own asked rsp moved steps) event made happened
        (goes_by_kind script event start.world made happened) (req, replies.reply) replies.among session replies.asked replies.no_refusal

    on : IsOnDiskOpen script event start.world req session on_its_disk.opened
    on = record { open_so = on_its_disk.open_so; began = on_its_disk.begun }

    abbrev after : MomentWithPast
    after = moment_after script event start made

    -- what was under way is replied to
    replied : (opened : Disk) (disk : histories.Disk) → WasUnderWay req opened disk → RepliesToCheck start after req opened disk
    replied opened disk was = record {
      n = was.n;
      host = was.host;
      there = was.there;
      up = was.up;
      check = was.check;
      on = was.on;
      reply = replies.reply;
      among = replies.among;
      accepts = replies.no_refusal;
    }

    under_way : ((disk : histories.Disk) × RepliesToCheck start after req on_its_disk.opened disk)
        ⊎ (own_indexes on_its_disk.opened.inode ≡ [])
    under_way = ⊎_elim
        (λ (was : (disk : histories.Disk) × WasUnderWay req on_its_disk.opened disk).
        inl (was.0, replied on_its_disk.opened was.0 was.1))
        (λ (none : own_indexes on_its_disk.opened.inode ≡ []). inr none)
        on_its_disk.how

    abbrev HasValueAt : Disk → ℕ → Type 0
    HasValueAt opened block =
        (bytes : List ℕ) × HasOneValue (ledger_of (start.past.history ++ made.grown)) opened.inode.vid block req bytes

    value_at : (opened : Disk) → ((disk : histories.Disk) × WasUnderWay req opened disk) ⊎ (own_indexes opened.inode ≡ [])
        → (block : ℕ) → block < opened.inode.spec.size / BLOCK_BYTES
        → Contains (own_indexes opened.inode) (block / blocks_per_object opened.inode.spec) → HasValueAt opened block
    value_at opened (inl (disk, was)) block within own =
        let k : ℕ = blocks_per_object opened.inode.spec in
        let blocks : 2 ^ opened.inode.spec.shift ≡ 512 * 2 ^ (opened.inode.spec.shift - 9) = object_blocks opened.inode.spec was.valid in
        let wide : 0 < 2 ^ opened.inode.spec.shift = pow_pos opened.inode.spec.shift in
        let some : 0 < blocks_per_object opened.inode.spec = omega (arith, blocks, wide) in
        let parts : block / k * k + block % k ≡ block = div-add-mod' block k in
        let large : opened.inode.spec.size / BLOCK_BYTES ≤ disk.blocks = was.large in
        let inside : block < disk.blocks = omega (arith, within, large) in
        subst (λ (at : ℕ). HasValueAt opened at) parts
        (value_made script range events start run event made happened req opened disk (replied opened disk was) (block / k) (block % k) own
        (record { inside = mod-lt block some; block = subst (λ (at : ℕ). at < disk.blocks) (sym parts) inside }))
    value_at opened (inr none) block within own =
        absurd (Contains-nil (block / blocks_per_object opened.inode.spec)
        (subst (λ (list : List ℕ). Contains list (block / blocks_per_object opened.inode.spec)) none own))

    pub leaves_value : LeavesOneValue script event start.world (start.past.history ++ made.grown) req session
    leaves_value = record { opened = on_its_disk.opened; on = on; each = value_at on_its_disk.opened on_its_disk.how }

  pub of_check : (move : Move) (after : MomentWithPast) → next_moment script move start ≡ Some after → (req session : ℕ)
      → HasReplyToCheck script after.world req session → IsOfCheckUnderWay script move start after req session
  of_check move after is req session replies =
      let gone : HasGone script move start after = has_gone script move start after is in
      let here : HasReplyToCheck script gone.made.world req session
      = subst (λ (m : MomentWithPast). HasReplyToCheck script m.world req session) (sym gone.after_so) replies in
      subst (λ (m : MomentWithPast). IsOfCheckUnderWay script move start m req session) gone.after_so (record {
        opened = (on_its_disk (event_of_move move) gone.made gone.goes req session here).opened;
        on = on (event_of_move move) gone.made gone.goes req session here;
        under_way = under_way (event_of_move move) gone.made gone.goes req session here;
      })

-- in each run
pub one_value : (script : List Statement) → RunsAreInRange script → (moves : List Move) (last : runs.Moment)
    → run_with_asks script moves ≡ Some last → (event : Event) (made : EventOutcome) → MakesMove script event last.world made
    → (req session : ℕ) → HasReplyToCheck script made.world req session
    → LeavesOneValue script event last.world (last.history ++ made.grown) req session
one_value script range moves last run event made happened req session replies = by_past (run_with_past script moves) refl
  where
    by_past : (o : Option MomentWithPast) → run_with_past script moves ≡ o
        → LeavesOneValue script event last.world (last.history ++ made.grown) req session
    by_past None none =
        let no_run : None ≡ Some last = sym (ap (option_map without_past) none) ∙ past-follows script moves ∙ run in absurd (cc (no_run))
    by_past (Some moment) led =
        let there : Some (without_past moment) ≡ Some last = sym (ap (option_map without_past) led) ∙ past-follows script moves ∙ run in
        let same : without_past moment ≡ last = same_Some (without_past moment) last there in
        let now : MakesMove script event moment.world made
        = subst (λ (m : runs.Moment). MakesMove script event m.world made) (sym same) happened in
        subst (λ (m : runs.Moment). LeavesOneValue script event m.world (m.history ++ made.grown) req session) same
        (leaves_value script range moves moment led event made now req session replies)
