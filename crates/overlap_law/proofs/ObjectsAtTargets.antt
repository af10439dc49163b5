-- A node in whose epoch a message for a disk was asked doesn't refuse it for want of the object, if the disk was available, and is neither
-- deleted nor given back: for it is a target of the object, which was created by that epoch, so it has a row, or has still to recover it.
use Rattle.std.proofs.Common.{◌≡◌, ◌≢◌, ◌⊎◌, ⊎_elim, ℕ, ◌≤◌, not, Bool, true, false, List, Option, Some, None, refl, sym, ap, subst, ◌∙◌}
use Rattle.std.specs.Option.{option_map_or}
use Rattle.std.specs.FinMap as tree
use Rattle.std.proofs.lemmas.Bool.{and_parts, not-true}
use Rattle.object_id.specs.declared.node.NodeId.{NodeId}
use Rattle.object_id.specs.Oid.{kind_of, vid_of}
use Rattle.epoch_log.specs.Members.{is_member}
use Rattle.epoch_log.specs.Epochs.{members_in}
use Rattle.vdi_directory.specs.Chains.{is_above}
use Rattle.vdi_directory.specs.Dead.{is_gone}
use Rattle.vdi_directory.specs.Decisions.{log_effects}
use Rattle.vdi_directory.specs.States.{state_of}
use Rattle.cluster_script.specs.declared.statement.Statement.{Statement}
use Rattle.peer_proto.specs.declared.ask.PeerReq.{PeerReq}
use Rattle.peer_proto.specs.declared.say.PeerSay.TheVariants as says
use Rattle.peer_proto.specs.declared.say.Refusal.TheVariants as refusals
use Rattle.peer_proto.specs.declared.work.ObjWork.{ObjWork}
use Rattle.peer_proto.specs.Work.{oid_of}
use Rattle.peer_service.specs.State.{is_object_awaited}
use Rattle.peer_service.specs.Serve.{peer_step}
use Rattle.gateway.specs.declared.message.Message.{Message}
use Rattle.gateway.specs.declared.message.Status.TheVariants as statuses
use Rattle.gateway.specs.Work.{is_making}
use Rattle.gateway.specs.Attempt.{send_of}
use Rattle.guest_driver.specs.declared.disk.Disk.{Disk}
use Rattle.message_wire.specs.declared.name.MessageName.{MessageName}
use Rattle.message_wire.specs.declared.packet.Packet.TheVariants.{Request}
use Rattle.message_wire.specs.Message.{message_name}
use Rattle.recovery.specs.Shown.{is_pending_object}
use Rattle.recovery.specs.State.{is_listed}
use Rattle.sheep_node.specs.declared.course.Course.{Course}
use Rattle.sheep_node.specs.declared.course.Course.TheVariants.{Waiting, Driving, Commanding, Checking, DoingWork, AwaitingDecision}
use Rattle.sheep_node.specs.declared.course.Request as requests
use Rattle.sheep_node.specs.May.{has_numbers}
use Rattle.sheep_world.specs.Began.{Began}
use Rattle.sheep_world.specs.NodeCauses.{RequestComes, RequestIsHere}
use Rattle.sheep_world.specs.World.{Host, is_host_up}
use Rattle.sheep_world.proofs.LogFrontLaws.{all_read}
use Rattle.sheep_world.proofs.RecoveryMessages.{same_asked}
use Rattle.sheep_world.specs.RunsWithAsks.{Move}
use Rattle.overlap_law.specs.AskedTargets.{IsTargetOf}
use Rattle.overlap_law.specs.BornObjects.{IsBorn}
use Rattle.overlap_law.specs.Each.{index_of_part}
use Rattle.overlap_law.specs.Fates.{IsCreated, CreatesComeFirst}
use Rattle.overlap_law.specs.Holders.{targets_by, creates, is_create_work}
use Rattle.overlap_law.specs.Lists.{HasOpenRow, WhatIsNotPendingIsThere}
use Rattle.overlap_law.specs.MomentChanges.{RunsAreInRange, Still}
use Rattle.overlap_law.specs.NoObjects.{IsMessageFor, disk_for}
use Rattle.overlap_law.specs.Past.{MomentWithPast, run_with_past}
use Rattle.overlap_law.specs.RequestsOfScript.{is_of_client}
use Rattle.overlap_law.specs.Rows.{IsMadeBy}
use Rattle.overlap_law.specs.Sessions.{is_of_client_at}
use Rattle.overlap_law.specs.Tables.{every_id, TablesAreMade, PublishedInodesAreMade}
use Rattle.overlap_law.proofs.AwaitedPackets.{packets_go}
use Rattle.overlap_law.proofs.BornStays.{born_among}
use Rattle.overlap_law.proofs.ClaimsInRuns.{claimed_in_worlds}
use Rattle.overlap_law.proofs.CoursesOfScript.{asked_by, BeganOn, requests_placed}
use Rattle.overlap_law.proofs.FirstSearchesInRuns.{listing-on_the_way}
use Rattle.overlap_law.proofs.HolderLemmas.{target-member}
use Rattle.overlap_law.proofs.KeptByMoves.{writers-in_run}
use Rattle.overlap_law.proofs.LackedInRuns.{index-has_node}
use Rattle.overlap_law.proofs.LatestInRuns.{latest-in_run}
use Rattle.overlap_law.proofs.MadeForDisks.{IsForMade, IsFoundIn, work_found}
use Rattle.overlap_law.proofs.NoRecoveredDue.{began-with_past}
use Rattle.overlap_law.proofs.OpenTables.{entries_of_chain, whole_tables}
use Rattle.overlap_law.proofs.RefusedRows.{LacksRow, row_asked, row_of_work, row_target, lacks_row}
use Rattle.overlap_law.proofs.ServedInRuns.{may-in_run}
use Rattle.overlap_law.proofs.SharedInRuns.{sharing_in_world}
use Rattle.overlap_law.proofs.TargetsInRuns.{asks_go_to_targets}
use Rattle.overlap_law.proofs.TermsInRuns.{present-on_the_way}
use Rattle.overlap_law.proofs.ToldFates.{asked_message}
use Rattle.overlap_law.proofs.WaitedInRuns.{works_waited}
use Rattle.overlap_law.proofs.WholeInRuns.{sound_world}
use Rattle.overlap_law.proofs.WorksInMoments.{well_in_world}

-- ---- requests

-- what is for a disk isn't a client's
not_client : (opened : Option Disk) (oid vid : ℕ) (course : Course) → disk_for opened oid course ≡ Some vid → is_of_client course ≡ false
not_client opened oid vid (Waiting ask) meant = refl
not_client opened oid vid (Driving driver) meant = refl
not_client opened oid vid (Commanding op) meant = refl
not_client opened oid vid (Checking check) meant = refl
not_client opened oid vid (DoingWork work) meant = absurd (cc (meant))
not_client opened oid vid (AwaitingDecision entry) meant = absurd (cc (meant))

-- ---- what a node has still to recover

-- what it waits for is pending where its list is finished
none_pending : (oid : ℕ) (pending : Option (List ℕ)) → is_object_awaited oid pending ≡ false → is_pending_object oid pending ≡ true → ⊥
none_pending oid None waits is = cc (is)
none_pending oid (Some oids) waits is = cc (waits, is)

some_pending : (oid : ℕ) (pending : Option (List ℕ)) → is_object_awaited oid pending ≡ false → pending ≡ None → ⊥
some_pending oid pending waits none =
    let awaited : is_object_awaited oid pending ≡ true = ap (is_object_awaited oid) none in
    cc (waits, awaited)

-- ---- a message and who is asked

module _ (script : List Statement) (range : RunsAreInRange script) (events : List Move) (start : MomentWithPast)
    (ran : run_with_past script events ≡ Some start) (good good_id : ℕ → Bool)
    (first : CreatesComeFirst start.past.attempts)
    (table_made : TablesAreMade (log_effects start.world.log) good_id start.world.hosts start.past.attempts)
    (published : PublishedInodesAreMade start.world.log every_id start.past.attempts)
    (has : WhatIsNotPendingIsThere (targets_by start.world.log) (log_effects start.world.log) good start.world.hosts start.past.attempts)
  where
    began : Began script start.world
    began = began-with_past script events start ran

    found_in : (n : ℕ) (host : Host) → tree.get start.world.hosts n ≡ Some host → host.is_lost ≡ false
        → IsFoundIn start.world.log (asked_by script) (BeganOn script start.world.guests) host.node
    found_in n host there up = record {
      front = all_read script start.world began n host there;
      claims = claimed_in_worlds script range start.world began n host there up;
      shared = sharing_in_world script range start.world began n host there;
      waiting = (works_waited script range start.world began n host there).1;
      sound = ((sound_world script range start.world began).hosts n host there).node.sound_works;
      well = well_in_world script range start.world began n host there;
      placed = requests_placed script range start.world began n host there;
    }

    -- objects of the chain of such a disk are good
    abbrev pub AreGoodBelow : ℕ → Type 0
    AreGoodBelow vid = (oid : ℕ) → (vid_of oid ≡ vid) ⊎ (is_above (log_effects start.world.log) (vid_of oid) vid ≡ true)
        → IsBorn start.past.attempts oid → good oid ≡ true

    module _ (n : ℕ) (host : Host) (there : tree.get start.world.hosts n ≡ Some host) (up : host.is_lost ≡ false) (vid : ℕ)
        (message : Message) (meant : IsMessageFor host.node vid message) (new : message.status ≡ statuses.Unanswered)
        (stands : is_gone (state_of (log_effects start.world.log) vid) ≡ false) (available : good_id vid ≡ true)
        (goods : AreGoodBelow vid) where
      abbrev oid : ℕ
      oid = oid_of meant.work.work

      abbrev epoch : ℕ
      epoch = meant.current.epoch.0

      found : IsForMade (log_effects start.world.log) start.past.attempts vid meant.work.work
      found =
          work_found start.world.log (asked_by script) (BeganOn script start.world.guests) good_id start.world.hosts start.past.attempts
          table_made published (whole_tables script range events start start ran Still)
          (entries_of_chain script range events start start ran Still)
          n host there up (found_in n host there up) meant.req meant.work meant.there meant.request meant.asker vid stands available
          meant.disk

      -- its object was created by the epoch of the attempt
      created : is_create_work meant.work.work ≡ false → IsCreated start.past.attempts oid epoch
      created other = by_making (is_making meant.work.work) refl
        where
          own_client : is_of_client_at meant.req host.node ≡ false
          own_client =
              ap (λ (o : Option requests.Request). option_map_or (λ (request : requests.Request). is_of_client request.course) o false)
              meant.asker
              ∙ not_client _ oid vid meant.request.course meant.disk

          by_making : (b : Bool) → is_making meant.work.work ≡ b → IsCreated start.past.attempts oid epoch
          by_making true making =
              let (j, attempt, last, opened) = (latest-in_run script range events start start ran Still).each n host there up meant.req
              meant.work
              meant.current meant.there making meant.stage in
              let writes : creates attempt ≡ false = ap is_create_work opened.same.work ∙ other in
              let is = (first.each j attempt last.there writes).0 in
              subst (λ (work : ObjWork). IsCreated start.past.attempts (oid_of work) epoch) opened.same.work
              (subst (IsCreated start.past.attempts (oid_of attempt.work)) opened.same.epoch is)
          by_making false reads =
              let (some, is) = found.created reads in
              record {
                place = is.place;
                create = is.create;
                there = is.there;
                object = is.object;
                creating = is.creating;
                made = is.made;
                epoch_of_it =
                    (writers-in_run script range events start ran).read_last.epochs n host there up meant.req meant.work meant.current
                    meant.there
                    reads own_client meant.stage is.place is.create is.there is.object;
              }

      -- who is asked for it is a target, and came to that epoch
      module _ (q : ℕ) (holder : Host) (at : tree.get start.world.hosts q ≡ Some holder) (able : is_host_up holder ≡ true)
          (name : MessageName) (to : NodeId) (request : PeerReq) (comes : RequestIsHere start.world q name to request)
          (named : message_name n message.number ≡ name)
        where
          request_so : request ≡ (send_of host.node.me meant.current.epoch meant.work.work message).1
          request_so =
              let send = send_of host.node.me meant.current.epoch meant.work.work message in
              let goes = packets_go script range start.world began n host there up message.number (Request to comes.bytes)
              (ap (tree.get start.world.wire) named ∙ comes.there) in
              same_asked request send.1
              (sym comes.read
              ∙ goes.as_sent send
              (asked_message host.node meant.req meant.work meant.current meant.place message meant.there meant.stage meant.among new) refl)

          awake : holder.is_lost ≡ false
          awake = not-true holder.is_lost (and_parts (not holder.is_lost) (has_numbers holder.node) able).0

          module _ (lacks : LacksRow holder.node.peer request) where
            target : IsTargetOf start.world.log to request.epoch.0 lacks.key
            target =
                row_target start.world.log to request.epoch.0 request.ask lacks.key lacks.asks
                ((asks_go_to_targets script range start.world began).each name to comes.bytes request comes.there comes.read)

            of_work : row_asked request.ask ≡ Some lacks.key → (lacks.key.oid ≡ oid) × (is_create_work meant.work.work ≡ false)
            of_work asks =
                let is = row_of_work meant.work.work message.index lacks.key
                (ap (λ (r : PeerReq). row_asked r.ask) (sym request_so) ∙ asks) in
                (is.oid, is.writes)

            here : to ≡ record { 0 = q }
            here = λ i. record { 0 = comes.here i }

            member : is_member q (members_in start.world.log request.epoch.0) ≡ true
            member =
                target-member start.world.log request.epoch.0 lacks.key.oid target.policy (record { 0 = q })
                (index-has_node (record { 0 = q }) (targets_by start.world.log request.epoch.0 lacks.key.oid target.policy) target.policy
                (kind_of lacks.key.oid) lacks.key.index
                (ap (index_of_part (targets_by start.world.log) request.epoch.0 lacks.key.oid target.policy) (sym here) ∙ target.at))

            recovers : holder.node.recovery.epoch ≡ request.epoch.0
            recovers = ⊎_elim
                (λ (own : holder.node.recovery.epoch ≡ holder.node.peer.epoch). own ∙ lacks.epoch)
                (λ (out : is_member q (members_in start.world.log holder.node.peer.epoch) ≡ false).
                let never : is_member q (members_in start.world.log request.epoch.0) ≡ false
                = ap (λ (k : ℕ). is_member q (members_in start.world.log k)) (sym lacks.epoch) ∙ out in
                let member_of = member in
                absurd (cc (never, member_of)))
                ((present-on_the_way script range events start start ran Still).epochs q holder at awake)

            listed : is_listed holder.node.recovery ≡ true
            listed = by_list (is_listed holder.node.recovery) refl
              where
                by_list : (b : Bool) → is_listed holder.node.recovery ≡ b → b ≡ true
                by_list true is = refl
                by_list false is =
                    absurd (some_pending lacks.key.oid holder.node.peer.pending lacks.done
                    ((listing-on_the_way script range events start start ran Still).pending q holder at awake is))

            placed : index_of_part (targets_by start.world.log) holder.node.recovery.epoch lacks.key.oid target.policy (record { 0 = q })
                ≡ Some lacks.key.index
            placed =
                (λ i. index_of_part (targets_by start.world.log) (recovers i) lacks.key.oid target.policy (sym here i)) ∙ target.at

            is_created : IsCreated start.past.attempts lacks.key.oid epoch
            is_created =
                subst (λ (k : ℕ). IsCreated start.past.attempts k epoch) (sym (of_work lacks.asks).0) (created (of_work lacks.asks).1)

            made : IsMadeBy start.past.attempts lacks.key.oid holder.node.recovery.epoch
            made = record {
              place = is_created.place;
              attempt = is_created.create;
              there = is_created.there;
              object = is_created.object;
              made = is_created.made;
              before = subst (λ (k : ℕ). is_created.create.epoch ≤ k) (sym (recovers ∙ ap (λ (r : PeerReq). r.epoch.0) request_so))
                  is_created.epoch_of_it;
            }

            good_so : good lacks.key.oid ≡ true
            good_so =
                let same = (of_work lacks.asks).0 in
                goods lacks.key.oid
                (subst (λ (k : ℕ). (vid_of k ≡ vid) ⊎ (is_above (log_effects start.world.log) (vid_of k) vid ≡ true)) (sym same)
                found.chain) (subst (IsBorn start.past.attempts) is_created.object
                (born_among start.past.attempts is_created.place is_created.create is_created.there is_created.creating))

            none_lacks : ⊥
            none_lacks = ⊎_elim
                (λ (pending : is_pending_object lacks.key.oid holder.node.peer.pending ≡ true).
                none_pending lacks.key.oid holder.node.peer.pending lacks.done pending)
                (λ (row : HasOpenRow holder.node.peer.rows lacks.key.oid lacks.key.index).
                let some = row.found in
                let none = lacks.none in
                cc (some, none))
                (has.each q holder at awake lacks.key.oid lacks.key.index target.policy listed good_so target.made placed made)

          pub not_refused : (peer_step holder.node.peer request).say ≢ says.Refused refusals.NoObj
          not_refused refused =
              none_lacks
              (lacks_row holder.node.peer request
              (may-in_run script range start.world began q holder at able (RequestComes name to request) comes).condition refused)
