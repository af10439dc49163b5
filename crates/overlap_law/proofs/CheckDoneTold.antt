-- A check that a step replies to, and doesn't refuse, had begun a write of each block of its disk's own objects, and the reply acknowledges
-- them.
use Rattle.std.proofs.Common.{◌≡◌, inl, inr, ⊎_elim, ℕ, ◌+◌, ◌*◌, ◌/◌, ◌<◌, ◌==◌, Bool, true, false, not, ◌||◌, List, [], ◌∷◌, ◌++◌, length}
use Rattle.std.proofs.Common.{Contains, Option, Some, None, refl, sym, ap, subst, ◌∙◌, ◌⊎◌, is_some, arith}
use Rattle.std.specs.Prelude.{flat_map, nat_lt}
use Rattle.std.specs.List.{list_any}
use Rattle.std.specs.Option.{option_map_or}
use Rattle.std.specs.FinMap as tree
use Rattle.std.proofs.lemmas.Bool.{and_from, eq-eqb, lt-ltb, or_right}
use Rattle.std.proofs.lemmas.Option.{same_Some}
use Rattle.proof_tools.proofs.Lists.{Contains-nil, list_any-none}
use Rattle.object_id.specs.declared.entry.VdiSpec.{VdiSpec}
use Rattle.object_id.specs.declared.limits.TheConstants.{BLOCK_BYTES}
use Rattle.cluster_script.specs.declared.statement.Statement.{Statement}
use Rattle.cluster_script.specs.NumberedRequests.{request_at}
use Rattle.cluster_script.specs.Statements.{is_check}
use Rattle.disk_check.specs.Check.{Check, CheckStage, CheckStep, Comparing, WritingBack, Answered, check_done_at, check_on_done}
use Rattle.disk_check.specs.Check.{read_copies}
use Rattle.disk_check.specs.Check.{left_of, write_value}
use Rattle.disk_check.specs.Table.{own_indexes}
use Rattle.disk_check.specs.Value.{pieces_in, value_of}
use Rattle.disk_history.specs.declared.event.HistEvent.{HistEvent}
use Rattle.disk_history.specs.declared.event.HistEvent.TheVariants.{WriteStart, WriteDone}
use Rattle.guest_driver.specs.declared.disk.Disk.{Disk}
use Rattle.peer_proto.specs.declared.guest.GuestRsp.{GuestRsp}
use Rattle.peer_proto.specs.declared.guest.GuestRsp.TheVariants as answers
use Rattle.peer_proto.specs.declared.guest.VdiAsk.{VdiAsk}
use Rattle.peer_proto.specs.declared.guest.VdiAsk.TheVariants as disk_commands
use Rattle.vdi_ops.specs.Op.{Op}
use Rattle.sheep_node.specs.declared.ask.Ask.{Ask}
use Rattle.sheep_node.specs.declared.ask.Ask.TheVariants as asks
use Rattle.sheep_node.specs.declared.check_write.CheckWrite.{CheckWrite}
use Rattle.sheep_node.specs.declared.course.Course.{Course}
use Rattle.sheep_node.specs.declared.course.Course.TheVariants.{Waiting, Driving, Commanding, Checking, DoingWork, AwaitingDecision}
use Rattle.sheep_node.specs.declared.course.Request.{Request}
use Rattle.sheep_node.specs.Changes as changes
use Rattle.sheep_node.specs.Changes.{Arrival, IsSoundStep, Outcome, ToReply, ToWork, RequestSteps, DiskBegins, DiskGoesOn, CommandBegins}
use Rattle.sheep_node.specs.Changes.{CommandGoesOn, CommandDecided, CheckBegins, CheckGoesOn, ObjectBegins, ObjectIsDone, EntryBegins}
use Rattle.sheep_node.specs.Changes.{EntryDecided, outcome_of_check}
use Rattle.sheep_node.specs.CheckWrites.{has_check_written, has_course_written}
use Rattle.sheep_node.specs.SessionQueues.{session_among}
use Rattle.sheep_node.specs.State.{Node}
use Rattle.sheep_node.specs.StepState.{StepState}
use Rattle.sheep_node.proofs.StepChain.{kept_by_chain}
use Rattle.sheep_world.specs.Began.{Began}
use Rattle.sheep_world.specs.Effects.{open_disk_at}
use Rattle.sheep_world.specs.HistoryAdditions.{gateway_of, has_begun_check_write, is_write_of, write_ended}
use Rattle.sheep_world.specs.NodeCauses.{NodeCause, GuestAsks, RequestComes, ReplyComes, LossIsTold, EntryIsRead, EntryIsPut, RecoveryTicks}
use Rattle.sheep_world.specs.NodeCauses.{WorkIsRetried, ClientAsks, input_of_cause}
use Rattle.sheep_world.specs.RunsWithAsks.{Move}
use Rattle.sheep_world.specs.World.{World}
use Rattle.overlap_law.specs.Checks.{has_come_to}
use Rattle.overlap_law.specs.HistoryGrowth.{added_at_cause, added_by_reply, check_write_at, world_at_cause}
use Rattle.overlap_law.specs.MomentChanges.{RunsAreInRange}
use Rattle.overlap_law.specs.Past.{MomentWithPast, run_with_past}
use Rattle.overlap_law.specs.PastWords.{is_refusal}
use Rattle.overlap_law.specs.RequestsOfScript.{IsCheckOfAsk, IsCourseOfAsk, IsStageOfAsk, indexes_left}
use Rattle.overlap_law.specs.StepMoments.{SteppingNode, IsStepping, StepsByChanges, LeadsInStep, first_in_step}
use Rattle.overlap_law.specs.Words.{Hosts}
use Rattle.overlap_law.specs.WrittenBlocks.{blocks_per_object}
use Rattle.overlap_law.proofs.AloneItemsInSteps.{course_in_step}
use Rattle.overlap_law.proofs.AloneStepsOnDisks.{check_asked}
use Rattle.overlap_law.proofs.AnswersInMoments.{not_lost}
use Rattle.overlap_law.proofs.BegunWriters.{begun_in}
use Rattle.overlap_law.proofs.CausedWorks.{by_changes}
use Rattle.overlap_law.proofs.CheckedBefore as before_now
use Rattle.overlap_law.proofs.CheckedBefore.{left_same, old, on_before}
use Rattle.overlap_law.proofs.CheckedBehind.{all_then}
use Rattle.overlap_law.proofs.CheckedCourses.{is_left, left_begun}
use Rattle.overlap_law.proofs.CheckedInRuns as checked
use Rattle.overlap_law.proofs.CheckedStarts.{IsBegunAt}
use Rattle.overlap_law.proofs.CoursesOfAsks.{asked_none}
use Rattle.overlap_law.proofs.CoursesOfScript.{asked_by, BeganOn, found_began}
use Rattle.overlap_law.proofs.DisksOfWriters.{stage_none}
use Rattle.overlap_law.proofs.ItemsAtBegin.{check_begins, request_begins}
use Rattle.overlap_law.proofs.ItemsOfReplies.{check_does, is_check_at, is_write_at}
use Rattle.overlap_law.proofs.ItemsOfRequests.{begins_write_of}
use Rattle.overlap_law.proofs.ItemsOfWriters.{gateway_here}
use Rattle.overlap_law.proofs.KnownSteps.{known_step}
use Rattle.overlap_law.proofs.NoRecoveredDue.{began-with_past}
use Rattle.overlap_law.proofs.PlacedOfScript.{placed_of_script}
use Rattle.overlap_law.proofs.RepliedNow.{IsRepliedBy, replied_by}
use Rattle.overlap_law.proofs.RepliesApart.{ApartIn, change_apart, none_apart}
use Rattle.overlap_law.proofs.RepliesOfChanges.{IsFree, RepliesGrow, Silent, Replied, change_replies}
use Rattle.overlap_law.proofs.RequestsInSteps.{received_replies, replies-in_order}
use Rattle.overlap_law.proofs.SessionsOfRequests.{are_asked_by_line, of_test}
use Rattle.overlap_law.proofs.StandingInRuns.{check_no_write}
use Rattle.overlap_law.proofs.UnderWayInRuns as under_way
use Rattle.overlap_law.proofs.UnwrittenReplies.{Does, hosts_so, told_adds}

-- ---- lists

-- a reply that is there was there, or its request had none
old_or_free : (reply : ℕ × GuestRsp) (replies next : List (ℕ × GuestRsp)) → RepliesGrow replies next → Contains next reply
    → Contains replies reply ⊎ IsFree reply.0 replies
old_or_free reply replies next Silent among = inl among
old_or_free reply replies next (Replied new free) among = ⊎_elim
    (λ (own : new ≡ reply). inr (subst (λ (r : ℕ × GuestRsp). IsFree r.0 replies) own free))
    (λ (old : Contains replies reply). inl old)
    (replies-in_order new replies reply among)

-- an index of a list is listed
listed : (index : ℕ) (indexes : List ℕ) → Contains indexes index → list_any (λ own. own == index) indexes ≡ true
listed index indexes among = by_test (list_any (λ (own : ℕ). own == index) indexes) refl
  where
    by_test : (b : Bool) → list_any (λ (own : ℕ). own == index) indexes ≡ b → list_any (λ own. own == index) indexes ≡ true
    by_test true is = is
    by_test false none =
        let off : (index == index) ≡ false = list_any-none (λ (own : ℕ). own == index) indexes index none among in
        let same : (index == index) ≡ true = eq-eqb index index refl in
        absurd (cc (off, same))

-- what doesn't refuse acknowledges
pub accepted : (req : ℕ) (rsp : GuestRsp) → is_refusal rsp ≡ false → write_ended req rsp ≡ WriteDone req
accepted req answers.Done accepts = refl
accepted req (answers.Piece bytes) accepts = refl
accepted req (answers.Refused cause) accepts = absurd (cc (accepts))
accepted req (answers.Granted vid) accepts = refl
accepted req (answers.Checked found) accepts = refl

module _ (script : List Statement) (range : RunsAreInRange script) (moves : List Move) (start : MomentWithPast)
    (ran : run_with_past script moves ≡ Some start) (on : SteppingNode) (is : IsStepping script start.world on)
    (by : StepsByChanges on.cause) (req : ℕ) (rsp : GuestRsp) (accepts : is_refusal rsp ≡ false) (checks : is_check_at script req ≡ true)
    (was : Request) (had : tree.get on.host.node.requests req ≡ Some was) where
  began : Began script start.world
  began = began-with_past script moves start ran

  sound : IsSoundStep (input_of_cause on.cause) on.host.node
  sound = (known_step script range start.world began on is).sound

  asks_check : asked_by script req ≡ Some (asks.Vdi disk_commands.Check)
  asks_check = check_asked (request_at script req) checks

  -- ---- where it is replied to, nothing is left to write

  pub record IsAnswered : Type 0 where
    pub at : StepState
    pub leads : LeadsInStep on (first_in_step on) at
    pub session : ℕ
    pub check : Check
    pub got : tree.get at.node.requests req ≡ Some (record { session = session; course = Checking check })
    pub stage : check.stage ≡ WritingBack []

  module _ (so_far : StepState) (leads : LeadsInStep on (first_in_step on) so_far) where
    placed : (session : ℕ) (course : Course) → tree.get so_far.node.requests req ≡ Some (record { session = session; course = course })
        → (disk : Option ℕ) × IsCourseOfAsk (asked_by script req) (session_among session so_far.node.sessions).disk disk course
    placed session course got =
        course_in_step script range moves start ran on is by so_far leads req (record { session = session; course = course }) got
        (asked_none (asked_by script req) (asks.Vdi disk_commands.Check) course asks_check)

    no_command : (session : ℕ) (op : Op)
        → tree.get so_far.node.requests req ≡ Some (record { session = session; course = Commanding op }) → ⊥
    no_command session op got =
        let is_op = (placed session (Commanding op) got).1 in
        let of = is_op.of in
        let own = asks_check in
        let same : is_op.ask ≡ disk_commands.Check = cc (of, own) in
        stage_none op.by op.session op.stage (subst (λ (a : VdiAsk). IsStageOfAsk op.by op.session a op.stage) same is_op.is)

    not_arrived : (session : ℕ) (ask : Ask) → Arrival (input_of_cause on.cause) on.host.node so_far session req ask None → ⊥
    not_arrived session ask arrival =
        let none : tree.get so_far.node.requests req ≡ None = arrival.none sound in
        let same : tree.get so_far.node.requests req ≡ tree.get on.host.node.requests req
        = ap (λ (s : StepState). tree.get s.node.requests req) arrival.first in
        let there = had in
        cc (none, same, there)

    goes_on : (session : ℕ) (bytes : List ℕ) (check : Check) (step : CheckStep)
        → tree.get so_far.node.requests req ≡ Some (record { session = session; course = Checking check })
        → check_on_done bytes check ≡ Some step → outcome_of_check step.act ≡ ToReply rsp → IsAnswered
    unfolding check_on_done
    goes_on session bytes check step got goes to = by_stage check.stage refl goes
      where
        acts : (made : CheckStep) → Some made ≡ Some step → outcome_of_check made.act ≡ ToReply rsp
        acts made so = ap (λ (s : CheckStep). outcome_of_check s.act) (same_Some made step so) ∙ to

        by_stage : (stage : CheckStage) → check.stage ≡ stage → check_done_at bytes check stage ≡ Some step → IsAnswered
        by_stage (Comparing index later) at goes =
            let both : ToWork (write_value check index (value_of check.spec.policy (pieces_in check.spec bytes))) ≡ ToReply rsp
            = acts _ goes in
            absurd (cc (both))
        by_stage (WritingBack []) at goes =
            record { at = so_far; leads = leads; session = session; check = check; got = got; stage = at }
        by_stage (WritingBack (index ∷ later)) at goes =
            let both : ToWork (read_copies check index) ≡ ToReply rsp = acts _ goes in absurd (cc (both))
        by_stage Answered at goes = absurd (cc (goes))

    by_steps : (session : ℕ) (outcome : Outcome) (moved : StepState)
        → RequestSteps (input_of_cause on.cause) on.host.node so_far session req outcome moved → outcome ≡ ToReply rsp → IsAnswered
    by_steps session outcome moved (DiskBegins ask disk got on_disk may) to =
        let of = (placed session (Waiting ask) got).1.0 in
        let own = asks_check in
        absurd (cc (of, own))
    by_steps session outcome moved (DiskGoesOn k work attempt status bytes driver disk step ends on_disk goes) to =
        let of = (placed session (Driving driver) ends.ends.request).1.of in
        let own = asks_check in
        absurd (cc (of, own))
    by_steps session outcome moved (CommandBegins ask step arrival goes) to = absurd (not_arrived session (asks.Vdi ask) arrival)
    by_steps session outcome moved (CommandGoesOn k work attempt status bytes op step ends goes) to =
        absurd (no_command session op ends.ends.request)
    by_steps session outcome moved (CommandDecided entry op step from read got waits goes) to = absurd (no_command session op got)
    by_steps session outcome moved (CheckBegins inode arrival on_disk) to =
        absurd (not_arrived session (asks.Vdi disk_commands.Check) arrival)
    by_steps session outcome moved (CheckGoesOn k work attempt status bytes check step ends goes) to =
        goes_on session bytes check step ends.ends.request goes to
    by_steps session outcome moved (ObjectBegins what arrival) to = absurd (not_arrived session (asks.Object what) arrival)
    by_steps session outcome moved (ObjectIsDone k work attempt status bytes what ends) to =
        absurd (placed session (DoingWork what) ends.ends.request).1
    by_steps session outcome moved (EntryBegins entry arrival) to = absurd (not_arrived session (asks.Entry entry) arrival)
    by_steps session outcome moved (EntryDecided entry wanted from read got waits) to =
        absurd (placed session (AwaitingDecision wanted) got).1

    are_apart : ApartIn so_far
    are_apart =
        kept_by_chain ApartIn
        (λ now next change apart. change_apart (input_of_cause on.cause) on.host.node sound now next change apart) leads
        (none_apart (first_in_step on).node.requests (first_in_step on).outputs.replies
        (received_replies (input_of_cause on.cause) on.host.node))

  pub answered : {so_far : StepState} → LeadsInStep on (first_in_step on) so_far → Contains so_far.outputs.replies (req, rsp) → IsAnswered
  answered changes.Still among =
      absurd (Contains-nil (req, rsp) (subst (λ (replies : List (ℕ × GuestRsp)). Contains replies (req, rsp))
      (received_replies (input_of_cause on.cause) on.host.node) among))
  answered (changes.Then {so_far} {next} leads change) among = ⊎_elim
      (λ (old : Contains so_far.outputs.replies (req, rsp)). answered leads old)
      (λ (free : IsFree req so_far.outputs.replies).
      let now : IsRepliedBy (input_of_cause on.cause) on.host.node so_far next change (req, rsp)
      = replied_by (input_of_cause on.cause) on.host.node so_far (req, rsp) accepts free next change among in
      by_steps so_far leads now.session (ToReply rsp) now.moved now.steps refl)
      (old_or_free (req, rsp) so_far.outputs.replies next.outputs.replies
      (change_replies (input_of_cause on.cause) on.host.node so_far next change (are_apart so_far leads)) among)

  -- ---- so each block of the own objects began

  module _ (now : IsAnswered) (opened : Disk) (open_so : (session_among was.session on.host.node.sessions).disk ≡ Some opened) (index : ℕ)
      (own : Contains (own_indexes opened.inode) index) where
    course : (disk : Option ℕ) × IsCheckOfAsk (asked_by script req) (session_among now.session now.at.node.sessions).disk disk now.check
    course = placed now.at now.leads now.session (Checking now.check) now.got

    same : course.1.on.disk ≡ opened
    same =
        same_Some course.1.on.disk opened
        (sym (on_before script range start.world began on.n on.host is.there is.up on.cause (by_changes on.cause by) is.caused now.at
        now.leads req now.session now.check now.got was had course.1.on.disk course.1.on.there) ∙ open_so)

    on_now : (session_among now.session now.at.node.sessions).disk ≡ Some opened
    on_now = course.1.on.there ∙ ap (λ (d : Disk). Some d) same

    not_left : is_left index now.check ≡ false
    not_left = ap (λ (s : CheckStage). list_any (λ (left : ℕ). left == index) (left_of s)) now.stage

    come : has_come_to index opened.inode now.check ≡ true
    come =
        and_from (list_any (λ own. own == index) (own_indexes opened.inode)) (not (is_left index now.check))
        (listed index (own_indexes opened.inode) own) (ap not not_left)

    vid_so : now.check.vid ≡ opened.inode.vid
    vid_so = course.1.is.vid ∙ ap (λ (d : Disk). d.inode.vid) same

    spec_so : now.check.spec ≡ opened.inode.spec
    spec_so = course.1.is.spec ∙ ap (λ (d : Disk). d.inode.spec) same

    abbrev added : List HistEvent
    added = added_at_cause script start.world on.cause

    abbrev Begins : List HistEvent → ℕ → Type 0
    Begins history unit = (coded : Bool) × (bytes : List ℕ)
        × Contains history (WriteStart req opened.inode.vid (index * blocks_per_object opened.inode.spec + unit) coded bytes)

    module _ (unit : ℕ) (inside : unit < blocks_per_object opened.inode.spec)
        (within : index * blocks_per_object opened.inode.spec + unit < opened.inode.spec.size / BLOCK_BYTES) where
      -- in whichever history it is said of the check
      of_check : (history : List HistEvent) (value : List ℕ)
          → IsBegunAt history req now.check.vid now.check.spec index (write_value now.check index value) → Begins history unit
      of_check history value begun =
          let at_spec = subst (λ (s : VdiSpec). IsBegunAt history req now.check.vid s index (write_value now.check index value)) spec_so
          begun in
          let at_vid = subst (λ (v : ℕ). IsBegunAt history req v opened.inode.spec index (write_value now.check index value)) vid_so
          at_spec in
          let (coded, among) = at_vid unit inside within in
          (coded, _, among)

      pub begins : Begins (start.past.history ++ (added_at_cause script start.world on.cause ++ [])) unit
      begins =
          let all = all_then script range start.world began on.n on.host is.there is.up on.cause (by_changes on.cause by) is.caused now.at
          now.leads start.past.history (λ r. under_way.begun-in_run script range r moves start ran)
          (checked.begun-in_run script range moves start ran on.n on.host is.there (not_lost on.host is.up)) [] (λ r. refl) in
          let (value, begun) = all.1 req now.session now.check now.got opened on_now index come in
          of_check (start.past.history ++ (added_at_cause script start.world on.cause ++ [])) value begun

      -- ---- and the reply acknowledges them

      -- what begins a write of the check in the step is the write that it comes to
      comes_by : (cause : NodeCause) → list_any (begins_write_of req) (added_at_cause script start.world cause) ≡ true
          → option_map_or (is_write_of req) (check_write_at start.world cause) false ≡ true
      comes_by (GuestAsks session other ask) begins_so =
          let own_write = request_begins req other (open_disk_at session start.world) (request_at script other) begins_so in
          let write : is_write_at script req ≡ true = ap (is_write_at script) (sym own_write.0) ∙ own_write.2 in
          let none = check_no_write (request_at script req) checks in
          absurd (cc (write, none))
      comes_by (RequestComes name to request) begins_so = absurd (cc (begins_so))
      comes_by (ReplyComes name from answer) begins_so =
          let (comes, is, own, checks_it) = check_begins script req (check_write_at start.world (ReplyComes name from answer)) begins_so in
          ap (λ (o : Option CheckWrite). option_map_or (is_write_of req) o false) is ∙ eq-eqb comes.req req own
      comes_by (LossIsTold name packet) begins_so = absurd (cc (begins_so))
      comes_by (EntryIsRead entry) begins_so = absurd (cc (begins_so))
      comes_by (EntryIsPut entry) begins_so = absurd (cc (begins_so))
      comes_by RecoveryTicks begins_so = absurd (cc (begins_so))
      comes_by WorkIsRetried begins_so = absurd (cc (begins_so))
      comes_by (ClientAsks other ask) begins_so = absurd (cc (begins_so))

      abbrev found : World
      found = world_at_cause start.world on.cause

      abbrev write : Option CheckWrite
      write = check_write_at start.world on.cause

      abbrev first : Check
      first =
          (old script range start.world began on.n on.host is.there is.up on.cause (by_changes on.cause by) is.caused now.at now.leads req
          now.session now.check now.got was had).check

      first_got : tree.get on.host.node.requests req ≡ Some (record { session = was.session; course = Checking first })
      first_got =
          (old script range start.world began on.n on.host is.there is.up on.cause (by_changes on.cause by) is.caused now.at now.leads req
          now.session now.check now.got was had).got

      -- it had counted an own object, or comes to the write of the first
      counted : nat_lt 0 first.found.objects ≡ true → Does script range moves start ran on is by now.at now.leads req
      counted counts =
          let asked = are_asked_by_line script start.world began on.n on.host is.there req was had (of_test script is_check req checks) in
          let at_host : has_check_written req on.host.node ≡ true
          = ap (λ (o : Option Request). option_map_or (λ (r : Request). has_course_written r.course) o false) first_got ∙ counts in
          let gateway : gateway_of script req found ≡ Some on.host.node
          = gateway_here script range req start.world began on.n on.host is.there found
          (ap (λ (hosts : Hosts). tree.get hosts on.n)
          (hosts_so script range moves start ran on is by now.at now.leads on.cause) ∙ is.there) req was.session asked in
          let by_gateway : option_map_or (has_check_written req) (gateway_of script req found) false ≡ true
          = ap (λ (o : Option Node). option_map_or (has_check_written req) o false) gateway ∙ at_host in
          check_does script (has_begun_check_write script req found write) req checks
          (λ i. by_gateway i || option_map_or (is_write_of req) write false)

      fresh : is_left index first ≡ true → Does script range moves start ran on is by now.at now.leads req
      fresh left =
          let (value, begun) = left_begun script range start.world began on.n on.host is.there is.up on.cause (by_changes on.cause by)
          is.caused req
          (before_now.checks script range start.world began on.n on.host is.there is.up on.cause (by_changes on.cause by) is.caused now.at
          now.leads req now.session now.check now.got was had) was had now.leads now.session now.check now.got index left not_left in
          let (coded, bytes, among) = of_check (added_at_cause script start.world on.cause) value begun in
          let comes = comes_by on.cause
          (begun_in (added_at_cause script start.world on.cause) req opened.inode.vid
          (index * blocks_per_object opened.inode.spec + unit) coded bytes among) in
          check_does script (has_begun_check_write script req found write) req checks
          (or_right (option_map_or (has_check_written req) (gateway_of script req found) false)
          (option_map_or (is_write_of req) write false) comes)

      first_course : (disk : Option ℕ) × BeganOn script start.world.guests req disk
          × IsCheckOfAsk (asked_by script req) (session_among was.session on.host.node.sessions).disk disk first
      first_course =
          placed_of_script script range start.world began on.n on.host is.there req
          (record { session = was.session; course = Checking first }) first_got (of_test script is_check req checks)

      does : Does script range moves start ran on is by now.at now.leads req
      does = by_before first_course.2.is.before refl
        where
          by_before : (before : List ℕ) → first_course.2.is.before ≡ before
              → Does script range moves start ran on is by now.at now.leads req
          by_before [] none =
              let disk_so : first_course.2.on.disk ≡ opened
              = same_Some first_course.2.on.disk opened (sym first_course.2.on.there ∙ open_so) in
              let all : left_of first.stage ≡ own_indexes opened.inode
              = sym (left_same first.stage) ∙ ap (λ (list : List ℕ). list ++ indexes_left first.stage) (sym none)
              ∙ first_course.2.is.indexes ∙ ap (λ (d : Disk). own_indexes d.inode) disk_so in
              fresh (ap (list_any (λ (left : ℕ). left == index)) all ∙ listed index (own_indexes opened.inode) own)
          by_before (one ∷ more) some =
              counted (ap (nat_lt 0) (first_course.2.is.objects ∙ ap (λ (list : List ℕ). length list) some)
              ∙ lt-ltb 0 (length (one ∷ more)) (omega arith))

      pub ends : (last : StepState) → (to : LeadsInStep on (first_in_step on) last) → Contains last.outputs.replies (req, rsp)
          → Contains (flat_map (added_by_reply script start.world on.cause) last.outputs.replies) (WriteDone req)
      ends last to among =
          subst (Contains (flat_map (added_by_reply script start.world on.cause) last.outputs.replies)) (accepted req rsp accepts)
          (told_adds script range moves start ran on is by last to req does first_course.0
          (ap is_some first_course.2.on.same)
          (found_began script start.world on.n on.host on.cause req first_course.0 first_course.1) rsp among)
