-- In the middle of a step no block is told by a reply in which a request has an item whose write the step ends: what ends the write is the
-- message that the step is told of, so the write has gone on since the step began; and who was replied to since then are reads that began
-- meanwhile, as they came to holes alone.
use Rattle.std.proofs.Common.{◌≡◌, ◌≢◌, inl, inr, ⊎_elim, arith, ℕ, ◌/◌, ◌%◌, ◌<◌, ◌==◌, ◌&&◌, not, true, false, All, Contains, List, []}
use Rattle.std.proofs.Common.{◌∷◌, length, Some, refl, sym, ap, subst, ◌∙◌}
use Rattle.std.specs.Option.{option_and_then}
use Rattle.std.specs.FinMap as tree
use Rattle.std.proofs.lemmas.Bool.{and_parts, eqb-true}
use Rattle.std.proofs.lemmas.List.Elements.{All-cons, All-nil}
use Rattle.std.proofs.lemmas.Option.{same_Some}
use Rattle.proof_tools.proofs.Lists.{Contains-nil}
use Rattle.object_id.specs.declared.entry.Entry.{Entry}
use Rattle.object_id.specs.Spec.{IsSpec}
use Rattle.inode.specs.Layout.{Content}
use Rattle.cluster_script.specs.declared.statement.Statement.{Statement}
use Rattle.cluster_script.specs.declared.statement.Statement.TheVariants as lines
use Rattle.cluster_script.specs.NumberedRequests.{request_at}
use Rattle.disk_history.specs.Ledger.{empty_ledger}
use Rattle.gateway.specs.Attempt as gateways
use Rattle.gateway.specs.declared.message.Status.{Status}
use Rattle.gateway.specs.State as gateway_states
use Rattle.gateway.specs.State.{Work}
use Rattle.gateway_queue.specs.Queue.{may_run}
use Rattle.guest_driver.specs.declared.act.DriverAct.{DriverAct}
use Rattle.guest_driver.specs.declared.act.DriverAct.TheVariants as acts
use Rattle.guest_driver.specs.declared.disk.Disk.{Disk}
use Rattle.guest_driver.specs.Driver.{begin_driver}
use Rattle.guest_driver.specs.Pieces.{Piece, is_ask, pieces}
use Rattle.guest_driver.proofs.ExtentLemmas.{place_at-past}
use Rattle.peer_proto.specs.declared.guest.DiskAsk.{DiskAsk}
use Rattle.peer_proto.specs.declared.guest.DiskAsk.TheVariants as disk_asks
use Rattle.peer_proto.specs.declared.guest.GuestRsp.{GuestRsp}
use Rattle.peer_proto.specs.declared.guest.GuestRsp.TheVariants as answers
use Rattle.peer_proto.specs.declared.guest.VdiAsk.TheVariants as disk_commands
use Rattle.peer_proto.specs.declared.work.ObjWork.{ObjWork}
use Rattle.sheep_node.specs.declared.ask.Ask.{Ask}
use Rattle.sheep_node.specs.declared.ask.Ask.TheVariants as asks
use Rattle.sheep_node.specs.declared.course.Course.{Course}
use Rattle.sheep_node.specs.declared.course.Course.TheVariants.{Waiting, Driving, Commanding, Checking, DoingWork}
use Rattle.sheep_node.specs.declared.course.Request.{Request}
use Rattle.sheep_node.specs.declared.input.Input.{Input}
use Rattle.sheep_node.specs.declared.input.Input.TheVariants as inputs
use Rattle.sheep_node.specs.Changes as changes
use Rattle.sheep_node.specs.Changes.{Change, EndsWork, HasRequest, IsTold, Outcome, RequestSteps, ToReply, outcome_of_driver}
use Rattle.sheep_node.specs.Changes.{DiskBegins, DiskGoesOn, CommandBegins, CommandGoesOn, CommandDecided, CheckBegins, CheckGoesOn}
use Rattle.sheep_node.specs.Changes.{ObjectBegins, ObjectIsDone, EntryBegins, EntryDecided}
use Rattle.sheep_node.specs.SessionQueues.{queue_in, session_among}
use Rattle.sheep_node.specs.State.{Node, session_at}
use Rattle.sheep_node.specs.StepState.{StepState}
use Rattle.sheep_node.proofs.NumberChanges.{HasOneWorkAndNumber, both_in_chain}
use Rattle.sheep_world.specs.Asking.{ask_of_statement}
use Rattle.sheep_world.specs.Began.{Began}
use Rattle.sheep_world.specs.HistoryAdditions.{disk_of}
use Rattle.sheep_world.specs.NodeCauses.{input_of_cause}
use Rattle.sheep_world.specs.RunsWithAsks.{Move}
use Rattle.overlap_law.specs.HistoryGrowth.{world_at_cause}
use Rattle.overlap_law.specs.MomentChanges.{RunsAreInRange}
use Rattle.overlap_law.specs.Past.{MomentWithPast, run_with_past}
use Rattle.overlap_law.specs.PastWords.{is_refusal}
use Rattle.overlap_law.specs.StepMoments.{SteppingNode, IsStepping, StepsByChanges, LeadsInStep, first_in_step, last_in_step}
use Rattle.overlap_law.specs.ToldReads.{HoleMayBeRead, extent_on}
use Rattle.overlap_law.proofs.ApartEvents.{TellsBlock}
use Rattle.overlap_law.proofs.ApartNumbers.{AwaitsIt, change_awaited}
use Rattle.overlap_law.proofs.ApartReads.{AsCheck, AsWrite, WritesBlock, no_check, no_write, same_disk, well}
use Rattle.overlap_law.proofs.CoursesOfScript.{asked_by}
use Rattle.overlap_law.proofs.EntryWorks.{known_disk}
use Rattle.overlap_law.proofs.GuestsOfScript.{guest_asks}
use Rattle.overlap_law.proofs.KnownSteps.{IsKnownStep, known_step}
use Rattle.overlap_law.proofs.LedReads.{begins_led}
use Rattle.overlap_law.proofs.MomentTrails.{leads_joined}
use Rattle.overlap_law.proofs.NoRecoveredDue.{began-with_past}
use Rattle.overlap_law.proofs.QueuesInMoments.{HasGoodQueues, covered_in_world, queues_then}
use Rattle.overlap_law.proofs.ReadsInSteps.{alone_so_far, may, queued, sole}
use Rattle.overlap_law.proofs.ReadsToldDisks.{placed_at}
use Rattle.overlap_law.proofs.RepliedNow.{replied_by}
use Rattle.overlap_law.proofs.RepliesApart.{apart_so_far}
use Rattle.overlap_law.proofs.RequestsInSteps.{received_replies}
use Rattle.overlap_law.proofs.SendsOfChanges.{count_above}
use Rattle.overlap_law.proofs.CausedWorks.{by_changes}
use Rattle.overlap_law.proofs.StandingReplies.{Alone, MayAnswer, Ran, comes_from}

-- ---- how long a read's reply is that comes at once

any_hole : (inode : Content) (list : List Piece) → All (HoleMayBeRead (λ items bytes. Unit {0}) empty_ledger [] (λ vid. false) inode) list
any_hole inode [] = All-nil (HoleMayBeRead (λ items bytes. Unit {0}) empty_ledger [] (λ vid. false) inode)
any_hole inode (piece ∷ rest) =
    All-cons (HoleMayBeRead (λ items bytes. Unit {0}) empty_ledger [] (λ vid. false) inode) piece rest (λ unit disk hole block. tt)
    (any_hole inode rest)

told_long : (disk : Disk) (offset size : ℕ) (told : List ℕ) → IsSpec disk.inode.spec → is_ask (disk_asks.Read offset size) ≡ true
    → (begin_driver disk (disk_asks.Read offset size)).act ≡ acts.Reply (answers.Piece told) → length told ≡ size
told_long disk offset size told sound whole replies =
    let all = (begins_led (λ items bytes. Unit {0}) empty_ledger [] (λ vid. false) (Some (asks.Disk (disk_asks.Read offset size))) disk
    (disk_asks.Read offset size) sound (λ from long same. any_hole disk.inode (pieces disk.inode.spec.shift from long))
    (refl, whole)).told (answers.Piece told) replies offset size told refl refl in
    all.2.long ∙ place_at-past (extent_on disk.inode offset size) all.0

-- an input tells of one message
one_number : (input : Input) (number other : ℕ) (status later : Status) → IsTold input number status → IsTold input other later
    → number ≡ other
one_number (inputs.Guest req session ask) number other status later one two = absurd one
one_number (inputs.Request request) number other status later one two = absurd one
one_number (inputs.Reply rsp) number other status later one two = sym one.0 ∙ two.0
one_number (inputs.Lost lost) number other status later one two = sym one.0 ∙ two.0
one_number (inputs.LogEntry entry) number other status later one two = absurd one
one_number inputs.Put number other status later one two = absurd one
one_number inputs.RecoverTick number other status later one two = absurd one
one_number inputs.RetryTick number other status later one two = absurd one
one_number (inputs.Back entries) number other status later one two = absurd one

module _ (script : List Statement) (range : RunsAreInRange script) (events : List Move) (start : MomentWithPast)
    (run : run_with_past script events ≡ Some start) (stepping : SteppingNode) (is : IsStepping script start.world stepping)
    (by : StepsByChanges stepping.cause) where
  began : Began script start.world
  began = began-with_past script events start run

  abbrev input : Input
  input = input_of_cause stepping.cause

  abbrev node : Node
  node = stepping.host.node

  known : IsKnownStep script start.world stepping
  known = known_step script range start.world began stepping is

  abbrev LeadsTo : StepState → Type 0
  LeadsTo x = LeadsInStep stepping (first_in_step stepping) x

  pub numbered : (x : StepState) → LeadsInStep stepping (first_in_step stepping) x → HasOneWorkAndNumber x
  numbered x leads = both_in_chain (input_of_cause stepping.cause) stepping.host.node known.sound x leads

  -- the disk of a request, by what was started
  abbrev pub IsOn : ℕ → ℕ → Type 0
  IsOn req vid = disk_of script req (world_at_cause start.world stepping.cause) ≡ Some vid

  module _ (number : ℕ) (status : Status) (told : IsTold (input_of_cause stepping.cause) number status) where
    -- ---- a work that awaits it, at earlier points

    given : (x : StepState) → LeadsInStep stepping (first_in_step stepping) x → number < x.node.sends
    given x leads =
        let least = count_above {input = input_of_cause stepping.cause} {node = stepping.host.node} x leads in
        let below = known.given number status told in
        omega (arith, least, below)

    pub awaited_before : (x next : StepState) → LeadsInStep stepping (first_in_step stepping) x
        → Change (input_of_cause stepping.cause) stepping.host.node x next → (req : ℕ) (asked : ObjWork)
        → AwaitsIt number next.node.gateway.works req asked → AwaitsIt number x.node.gateway.works req asked
    awaited_before x next leads change req asked awaits =
        change_awaited known.sound number x next (numbered x leads).0 (given x leads) change req asked awaits

    -- as the step began, too
    pub awaited_first : {x : StepState} → LeadsInStep stepping (first_in_step stepping) x → (req : ℕ) (asked : ObjWork)
        → AwaitsIt number x.node.gateway.works req asked → AwaitsIt number (first_in_step stepping).node.gateway.works req asked
    awaited_first changes.Still req asked awaits = awaits
    awaited_first (changes.Then {so_far} {next} leads change) req asked awaits =
        awaited_first leads req asked (awaited_before so_far next leads change req asked awaits)

    -- ---- a read that is replied to beside it

    module _ (req : ℕ) (asked : ObjWork) (vid block : ℕ) (writer : WritesBlock script req block) (on_it : IsOn req vid) where
      abbrev Tells : ℕ × GuestRsp → Type 0
      Tells reply =
          TellsBlock reply.1 (disk_of script reply.0 (world_at_cause start.world stepping.cause)) (request_at script reply.0) vid block

      module _ (x : StepState) (leads : LeadsInStep stepping (first_in_step stepping) x)
          (rest : LeadsInStep stepping x (last_in_step stepping)) (awaits : AwaitsIt number x.node.gateway.works req asked)
          (reply : ℕ × GuestRsp) (tells : TellsBlock reply.1 (disk_of script reply.0 (world_at_cause start.world stepping.cause))
          (request_at script reply.0) vid block) where
        asks_read : asked_by script reply.0 ≡ Some (asks.Disk (disk_asks.Read tells.offset tells.size))
        asks_read = ap (option_and_then ask_of_statement) tells.reads

        apart : reply.0 ≢ req
        apart same = by_writer writer (ap (asked_by script) (sym same) ∙ asks_read)
          where
            by_writer : WritesBlock script req block → asked_by script req ≡ Some (asks.Disk (disk_asks.Read tells.offset tells.size))
                → ⊥
            by_writer (AsWrite offset payload place writes inside at) reads = cc (writes, reads)
            by_writer (AsCheck checks) reads = cc (checks, reads)

        whole : is_ask (disk_asks.Read tells.offset tells.size) ≡ true
        whole =
            guest_asks stepping.host.node script range.is_script reply.0 (lines.Read tells.session tells.offset tells.size)
            (asks.Disk (disk_asks.Read tells.offset tells.size)) tells.reads refl

        -- it has another work than that of the message
        not_done : (session other : ℕ) (work : Work) (attempt : gateways.Attempt) (later : Status) (course : Course) (bytes : List ℕ)
            → EndsWork (input_of_cause stepping.cause) stepping.host.node x session reply.0 other work attempt later course bytes → ⊥
        not_done session other work attempt later course bytes ends =
            let same : number ≡ other = one_number (input_of_cause stepping.cause) number other status later told ends.ends.learns.told in
            apart (sym ((numbered x leads).1.once number req reply.0 awaits.work work awaits.there ends.ends.learns.there awaits.awaits
            (ap (λ (k : ℕ). gateway_states.is_awaited_in k work) same ∙ ends.ends.learns.awaited)))

        not_asked : (other session : ℕ) (ask : Ask) → input_of_cause stepping.cause ≡ inputs.Guest other session ask → ⊥
        not_asked other session ask from = subst (λ (i : Input). IsTold i number status) from told

        not_read : (entry : Entry) → input_of_cause stepping.cause ≡ inputs.LogEntry entry → ⊥
        not_read entry from = subst (λ (i : Input). IsTold i number status) from told

        -- so it begins, and comes to holes alone
        begins : (session : ℕ) (ask : DiskAsk) (disk : Disk) → HasRequest session reply.0 (Waiting ask) x
            → (session_among session x.node.sessions).disk ≡ Some disk → may_run reply.0 (queue_in session x.node.sessions) ≡ true
            → (begin_driver disk ask).act ≡ acts.Reply reply.1 → ⊥
        begins session ask disk there opened runs replies =
            let (started, at, (asked_so, on)) = placed_at script range events start run stepping is by x leads session reply.0 (Waiting ask)
            there in
            let read : ask ≡ disk_asks.Read tells.offset tells.size = cc (asked_so, asks_read) in
            let got : HasRequest session reply.0 (Waiting (disk_asks.Read tells.offset tells.size)) x
            = subst (λ (a : DiskAsk). HasRequest session reply.0 (Waiting a) x) read there in
            let same : on.disk ≡ disk = same_Some on.disk disk (sym on.there ∙ opened) in
            let its_disk : disk.inode.vid ≡ vid
            = ap (λ (d : Disk). d.inode.vid) (sym same)
            ∙ same_disk script range events start run stepping is by x leads rest reply.0 (session_at session x.node).disk started at on vid
            tells.on in
            let known = known_disk x.node (well script range events start run stepping is by x leads rest) session disk opened in
            let sound = known.disk.spec_valid in
            let long : length tells.told ≡ tells.size
            = told_long disk tells.offset tells.size tells.told sound whole
            (ap (λ (a : DiskAsk). (begin_driver disk a).act) (sym read) ∙ replies ∙ ap (λ (r : GuestRsp). acts.Reply r) tells.tells) in
            let parts = and_parts (tells.offset % 512 == 0 && tells.size % 512 == 0) (not (tells.size == 0)) whole in
            let aligned : tells.offset % 512 ≡ 0
            = eqb-true (tells.offset % 512) 0 (and_parts (tells.offset % 512 == 0) (tells.size % 512 == 0) parts.0).0 in
            by_writer session disk got opened runs its_disk aligned long writer
          where
            by_writer : (session : ℕ) (disk : Disk)
                → HasRequest session reply.0 (Waiting (disk_asks.Read tells.offset tells.size)) x
                → (session_among session x.node.sessions).disk ≡ Some disk → may_run reply.0 (queue_in session x.node.sessions) ≡ true
                → disk.inode.vid ≡ vid → tells.offset % 512 ≡ 0 → length tells.told ≡ tells.size → WritesBlock script req block → ⊥
            by_writer session disk got opened runs its_disk aligned long (AsWrite offset payload place writes inside at) =
                let read : tells.place < tells.size / 512 = subst (λ (k : ℕ). tells.place < k / 512) long tells.inside in
                no_write script range events start run stepping is by x leads rest session reply.0 tells.offset tells.size disk got opened
                runs vid its_disk aligned req number asked awaits apart offset payload writes on_it place tells.place inside read
                (sym tells.at ∙ at)
            by_writer session disk got opened runs its_disk aligned long (AsCheck checks) =
                no_check script range events start run stepping is by x leads rest session reply.0 tells.offset tells.size disk got opened
                runs vid its_disk req number asked awaits apart checks on_it

        by_act : (act : DriverAct) → outcome_of_driver act ≡ ToReply reply.1 → act ≡ acts.Reply reply.1
        by_act (acts.Work work) to = absurd (cc (to))
        by_act (acts.Reply other) to = let same : other ≡ reply.1 = cc (to) in ap (λ (r : GuestRsp). acts.Reply r) same

        none_steps : (session : ℕ) (outcome : Outcome) (moved : StepState)
            → RequestSteps (input_of_cause stepping.cause) stepping.host.node x session reply.0 outcome moved → outcome ≡ ToReply reply.1
            → ⊥
        none_steps session outcome moved (DiskBegins ask disk there opened runs) to =
            begins session ask disk there opened runs (by_act (begin_driver disk ask).act to)
        none_steps session outcome moved (DiskGoesOn other work attempt later bytes driver disk step ends opened goes) to =
            not_done session other work attempt later (Driving driver) bytes ends
        none_steps session outcome moved (CommandBegins ask step arrival goes) to = not_asked reply.0 session (asks.Vdi ask) arrival.from
        none_steps session outcome moved (CommandGoesOn other work attempt later bytes op step ends goes) to =
            not_done session other work attempt later (Commanding op) bytes ends
        none_steps session outcome moved (CommandDecided entry op step from read there waits goes) to = not_read entry from
        none_steps session outcome moved (CheckBegins inode arrival opened) to =
            not_asked reply.0 session (asks.Vdi disk_commands.Check) arrival.from
        none_steps session outcome moved (CheckGoesOn other work attempt later bytes check step ends goes) to =
            not_done session other work attempt later (Checking check) bytes ends
        none_steps session outcome moved (ObjectBegins what arrival) to = not_asked reply.0 session (asks.Object what) arrival.from
        none_steps session outcome moved (ObjectIsDone other work attempt later bytes what ends) to =
            not_done session other work attempt later (DoingWork what) bytes ends
        none_steps session outcome moved (EntryBegins entry arrival) to = not_asked reply.0 session (asks.Entry entry) arrival.from
        none_steps session outcome moved (EntryDecided entry wanted from read there waits) to = not_read entry from

        -- it refuses nothing
        accepts : is_refusal reply.1 ≡ false
        accepts = ap is_refusal tells.tells

        -- a request that is answered is there
        is_there : MayAnswer (input_of_cause stepping.cause) x reply.0
            → (request : Request) × (tree.get x.node.requests reply.0 ≡ Some request)
        is_there (Ran session course found is_disk runs) = (record { session = session; course = course }, found)
        is_there (Alone session (inl (course, found)) free) = (record { session = session; course = course }, found)
        is_there (Alone session (inr (ask, from)) free) = absurd (not_asked reply.0 session ask from)

        at_change : (next : StepState) → Change (input_of_cause stepping.cause) stepping.host.node x next
            → Contains next.outputs.replies reply → MayAnswer (input_of_cause stepping.cause) x reply.0 → ⊥
        at_change next change among may_answer =
            let (request, found) = is_there may_answer in
            let replied = replied_by (input_of_cause stepping.cause) stepping.host.node x reply accepts
            (λ one before.
            apart_so_far (input_of_cause stepping.cause) stepping.host.node known.sound leads reply.0 request one found before) next change
            among in
            none_steps replied.session (ToReply reply.1) replied.moved replied.steps refl

      -- none is among the replies so far
      pub none_replied : {so_far : StepState} → LeadsInStep stepping (first_in_step stepping) so_far
          → LeadsInStep stepping so_far (last_in_step stepping) → AwaitsIt number so_far.node.gateway.works req asked
          → (reply : ℕ × GuestRsp) → Contains so_far.outputs.replies reply
          → TellsBlock reply.1 (disk_of script reply.0 (world_at_cause start.world stepping.cause)) (request_at script reply.0) vid block
          → ⊥
      none_replied changes.Still rest awaits reply among tells =
          Contains-nil reply
          (subst (λ (list : List (ℕ × GuestRsp)). Contains list reply)
          (received_replies (input_of_cause stepping.cause) stepping.host.node) among)
      none_replied (changes.Then {so_far} {next} leads change) rest awaits reply among tells =
          let earlier = leads_joined (changes.Then changes.Still change) rest in
          let before = awaited_before so_far next leads change req asked awaits in
          let good : HasGoodQueues so_far.node
          = queues_then script range start.world began stepping.n stepping.host is.there is.up stepping.cause (by_changes stepping.cause by)
          is.caused (covered_in_world script range start.world began stepping.n stepping.host is.there) so_far leads in
          ⊎_elim
          (λ (old : Contains so_far.outputs.replies reply). none_replied leads earlier before reply old tells)
          (λ (new : MayAnswer (input_of_cause stepping.cause) so_far reply.0).
          at_change so_far leads earlier before reply tells next change among new)
          (comes_from (input_of_cause stepping.cause) stepping.host.node (may script range start began stepping is by)
          (queued script range start began stepping is by) (sole script range start began stepping is by) so_far
          (alone_so_far script range start began stepping is by so_far leads) good.covered next change reply among
          (accepts so_far leads earlier before reply tells))
