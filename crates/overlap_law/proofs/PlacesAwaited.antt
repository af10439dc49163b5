-- Each attempt on the inode of an id that is reserved to take a disk's place, where the reserver's node is up, is of a command there that
-- makes the inode or waits for its publication, or it comes to nothing: over each change of a moment on the way of an event.
use Rattle.std.specs.FinMap as tree
use Rattle.std.proofs.Common.{◌≡◌, ◌≢◌, ◌⊎◌, inl, inr, ⊎_elim, arith, ℕ, true, false, List, [], ◌∷◌, ◌++◌, Contains, append-nil, length}
use Rattle.std.proofs.Common.{Some, is_some, slice_get, refl, sym, ap, subst, ◌∙◌}
use Rattle.proof_tools.proofs.FiniteMaps.{get-insert_same, get-insert_other, get-insert_cases}
use Rattle.object_id.specs.declared.cause.Cause.{Cause}
use Rattle.object_id.specs.declared.entry.Entry.{Entry}
use Rattle.object_id.specs.Oid.{IsVid, inode_number, vid_of}
use Rattle.cluster_script.specs.declared.statement.Statement.{Statement}
use Rattle.inode.specs.Layout.{Content}
use Rattle.peer_proto.specs.declared.guest.GuestRsp.TheVariants as replies
use Rattle.vdi_directory.specs.declared.effect.Reservation.{Reservation}
use Rattle.vdi_directory.specs.Decisions.{log_effects}
use Rattle.vdi_directory.specs.Effects.{is_used, reservation_on, reservations_of}
use Rattle.vdi_ops.specs.Op.{Asked, Working, Publishing, Answered, Op, OpStage}
use Rattle.sheep_node.specs.declared.course.Course.TheVariants.{Commanding}
use Rattle.sheep_node.specs.declared.course.Request.{Request}
use Rattle.sheep_node.specs.declared.input.Input.{Input}
use Rattle.sheep_node.specs.declared.input.Input.TheVariants as inputs
use Rattle.sheep_node.specs.AwaitedEntry.{waits_for_entry}
use Rattle.sheep_node.specs.Changes as changes
use Rattle.sheep_node.specs.Changes.{input_received, Leads}
use Rattle.sheep_node.specs.LogReading.{entry_read}
use Rattle.sheep_node.specs.State.{Node}
use Rattle.sheep_node.specs.StepState.{at_first, StepState}
use Rattle.sheep_world.specs.Began.{Began}
use Rattle.sheep_world.specs.NodeCauses.{NodeCause, GuestAsks, RequestComes, ReplyComes, LossIsTold, EntryIsRead, EntryIsPut, RecoveryTicks}
use Rattle.sheep_world.specs.NodeCauses.{WorkIsRetried, ClientAsks, host_with_node, input_of_cause, IsCause}
use Rattle.sheep_world.specs.World.{Host, World}
use Rattle.sheep_world.specs.RunsWithAsks.{Move}
use Rattle.overlap_law.specs.Attempts.{AttemptRecord, object_of}
use Rattle.overlap_law.specs.Holders.{is_object_among}
use Rattle.overlap_law.specs.MomentChanges as moments
use Rattle.overlap_law.specs.MomentChanges.{MomentChange, MomentTrail, RunsAreInRange}
use Rattle.overlap_law.specs.Past.{MomentWithPast, run_with_past}
use Rattle.overlap_law.specs.PastWords.{refused_in, refuses_request}
use Rattle.overlap_law.specs.ShapedAttempts.{AreShaped}
use Rattle.overlap_law.specs.StepMoments.{first_in_step, hosts_in_step, LeadsInStep}
use Rattle.overlap_law.specs.TiedAttempts.{IsTied}
use Rattle.overlap_law.specs.ToCome.{comes_to_nothing}
use Rattle.overlap_law.proofs.AnswersInMoments.{not_lost}
use Rattle.overlap_law.proofs.AwaitedCommands.{waits_at}
use Rattle.overlap_law.proofs.AwaitedEntriesInMoments.{entries_so}
use Rattle.overlap_law.proofs.BeyondInMoments.{vain_later}
use Rattle.overlap_law.proofs.CountedEntries.{same_entry}
use Rattle.overlap_law.proofs.EndsKeepBlocks.{nothing-on_the_way}
use Rattle.overlap_law.proofs.FinishedInMoments.{TermsHold, kept_terms}
use Rattle.overlap_law.proofs.GrantedEpochs.{spec_used}
use Rattle.overlap_law.proofs.GuestsInMoments.{IsGoingOn, IsBetween, between}
use Rattle.overlap_law.proofs.KnownDisks.{vid-of_inode}
use Rattle.overlap_law.proofs.KnownSteps.{known_step}
use Rattle.overlap_law.proofs.LastEntriesInRuns.{had}
use Rattle.overlap_law.proofs.LogsOfMoments.{log_by_changes, log_of_change}
use Rattle.overlap_law.proofs.MakingStages.{IsPublishingStage}
use Rattle.overlap_law.proofs.NewAttempts.{IsOpened, WasAttempt, come_from}
use Rattle.overlap_law.proofs.NoRecoveredDue.{began-with_past}
use Rattle.overlap_law.proofs.OldReservations.{reservation_was}
use Rattle.overlap_law.proofs.PlacesBegun.{IsOfPlace, IsPlacing, begins_placing}
use Rattle.overlap_law.proofs.PlacesClaimed.{placed_lock, reserved_unlocked}
use Rattle.overlap_law.proofs.PlacesGoOn.{IsDecided, IsRefused, PlaceAfter, StaysPlaced, place_after}
use Rattle.overlap_law.proofs.PlaceTables.{IsPlaceStage}
use Rattle.overlap_law.proofs.RefusedInMoments.{among_of, refused_of}
use Rattle.overlap_law.proofs.ReservedHosts.{MembersWereUp, were_up}
use Rattle.overlap_law.proofs.ReservedMembers.{StandsReserved, reserver_member}
use Rattle.overlap_law.proofs.RunsByChanges.{on_the_way}
use Rattle.overlap_law.proofs.ShapedAttempts.{kept_shaped, shaped-each}
use Rattle.overlap_law.proofs.SourcesInRuns.{IsSourced, sourced_in_world}
use Rattle.overlap_law.proofs.SourceStages.{AreSourced, sourced_in_chain}
use Rattle.overlap_law.proofs.TiedInRuns.{kept_tied}
use Rattle.overlap_law.proofs.ToComeStays.{nothing_by}
use Rattle.overlap_law.proofs.TouchedInMoments.{refused_in_step}
use Rattle.overlap_law.proofs.AttemptsOfScript.{AreForRequests, kept_for}

-- a node places the inode by the request of an attempt, or the attempt comes to nothing
abbrev pub IsPlacedOrNothing : MomentWithPast → AttemptRecord → ℕ → ℕ → Host → Type 0
IsPlacedOrNothing moment attempt vid session host =
    (comes_to_nothing moment.world.hosts attempt ≡ true) ⊎ IsPlacing host.node attempt.req attempt.work vid session

abbrev pub PlacesAreAwaited : MomentWithPast → Type 0
PlacesAreAwaited moment = (j : ℕ) (attempt : AttemptRecord) → slice_get moment.past.attempts j ≡ Some attempt → (vid : ℕ)
    (r : Reservation) → IsOfPlace moment attempt vid r → (host : Host) → tree.get moment.world.hosts r.by.0 ≡ Some host
    → host.is_lost ≡ false → IsPlacedOrNothing moment attempt vid r.session host

-- an id whose inode an attempt is on is used
pub inode_used : (script : List Statement) → RunsAreInRange script → (events : List Move) (start moment : MomentWithPast)
    → run_with_past script events ≡ Some start → MomentTrail script start moment → (vid : ℕ) → IsVid vid → (j : ℕ)
    (attempt : AttemptRecord) → slice_get moment.past.attempts j ≡ Some attempt → object_of attempt ≡ inode_number vid
    → is_used (log_effects moment.world.log) vid ≡ true
inode_used script range events start moment ran trail vid id j attempt at object =
    let shaped = shaped-each moment (on_the_way script AreShaped (kept_shaped script range) events start moment ran trail) j attempt at in
    ap (is_used (log_effects moment.world.log)) (sym (ap vid_of object ∙ vid-of_inode vid id))
    ∙ spec_used moment.world.log (vid_of (object_of attempt)) shaped.disk.spec shaped.disk.made

-- ---- the entry that is read next

read_next : (script : List Statement) (world : World) (n : ℕ) (host : Host) (cause : NodeCause) (entry : Entry)
    → input_of_cause cause ≡ inputs.LogEntry entry → IsCause script world n host cause
    → slice_get world.log (length host.node.peer.entries) ≡ Some entry
read_next script world n host (GuestAsks session req ask) entry from so = absurd (cc (from))
read_next script world n host (RequestComes name to request) entry from so = absurd (cc (from))
read_next script world n host (ReplyComes name sender rsp) entry from so = absurd (cc (from))
read_next script world n host (LossIsTold name packet) entry from so = absurd (cc (from))
read_next script world n host (EntryIsRead read) entry from so =
    let same : read ≡ entry = cc (from) in so ∙ ap (λ (e : Entry). Some e) same
read_next script world n host (EntryIsPut put) entry from so = absurd (cc (from))
read_next script world n host RecoveryTicks entry from so = absurd (cc (from))
read_next script world n host WorkIsRetried entry from so = absurd (cc (from))
read_next script world n host (ClientAsks req ask) entry from so = absurd (cc (from))

-- who waits for an entry at such a stage waits for its publication
waits_published : (inode : Content) (entry : Entry) (stage : OpStage) → IsPlaceStage inode stage → waits_at entry stage ≡ true
    → stage ≡ Publishing entry (Some inode)
waits_published inode entry (Asked wanted) (inl never) waits = absurd never
waits_published inode entry (Asked wanted) (inr never) waits = absurd never
waits_published inode entry (Working vid task) place waits = absurd (cc (waits))
waits_published inode entry (Publishing wanted made) (inl never) waits = absurd never
waits_published inode entry (Publishing wanted made) (inr own) waits =
    let same = same_entry wanted entry waits in λ i. Publishing (same i) (own i)
waits_published inode entry (Answered change) (inl never) waits = absurd never
waits_published inode entry (Answered change) (inr never) waits = absurd never

-- an entry's node had the command before it read that
had_command : (node : Node) (entry : Entry) (so_far : StepState)
    → Leads (inputs.LogEntry entry) node (input_received (inputs.LogEntry entry) (at_first node)) so_far → (req : ℕ) (request : Request)
    (op : Op) (inode : Content) → tree.get so_far.node.requests req ≡ Some request → request.course ≡ Commanding op
    → IsPublishingStage inode op.stage → tree.get node.requests req ≡ Some request
unfolding entry_read
had_command node entry so_far leads req request op inode got command at = had entry node leads req request op inode got command at

module _ (script : List Statement) (range : RunsAreInRange script) (events : List Move) (start before after : MomentWithPast)
    (ran : run_with_past script events ≡ Some start) (trail : MomentTrail script start before)
    (change : MomentChange script start before after) (all : PlacesAreAwaited before) where
  began : Began script start.world
  began = began-with_past script events start ran

  trail_then : MomentTrail script start after
  trail_then = moments.Then trail change

  grows : (later : List Entry) × (after.world.log ≡ before.world.log ++ later)
  grows = ⊎_elim
      (λ (same : after.world.log ≡ before.world.log). ([], same ∙ sym (append-nil before.world.log)))
      (λ (more : (entry : Entry) × (after.world.log ≡ before.world.log ++ entry ∷ [])). (more.0 ∷ [], more.1))
      (log_of_change script change)

  module _ (j : ℕ) (attempt : AttemptRecord) (got : slice_get after.past.attempts j ≡ Some attempt) (vid : ℕ) (r : Reservation)
      (p : IsOfPlace after attempt vid r) (host : Host) (there : tree.get after.world.hosts r.by.0 ≡ Some host)
      (up : host.is_lost ≡ false) where
    abbrev Result : Type 0
    Result = IsPlacedOrNothing after attempt vid r.session host

    -- ---- an attempt that was there

    module _ (w : WasAttempt before j attempt) where
      object : object_of w.was ≡ inode_number vid
      object = ap (λ (a : AttemptRecord). object_of a) w.same ∙ p.object

      stood : StandsReserved before.world.log vid r
      stood =
          reservation_was before.world.log grows.0 vid r
          (inode_used script range events start before ran trail vid p.id j w.was w.at object)
          (ap (λ (log : List Entry). reservation_on (record { 0 = vid }) (reservations_of (log_effects log))) (sym grows.1) ∙ p.stands)

      was_of_place : IsOfPlace before w.was vid r
      was_of_place = record { id = p.id; stands = stood; old = p.old; tag = p.tag; from = p.from; object = object }

      nothing_still : comes_to_nothing before.world.hosts w.was ≡ true → comes_to_nothing after.world.hosts attempt ≡ true
      nothing_still nothing =
          nothing_by before.world.hosts after.world.hosts w.was attempt
          (vain_later script range start before after began change
          (on_the_way script TermsHold (kept_terms script range) events start before ran trail)
          (on_the_way script AreShaped (kept_shaped script range) events start before ran trail)
          (on_the_way script IsTied (kept_tied script range) events start before ran trail) j w.was attempt w.at got) nothing

      -- as its node was
      as_before : (old : Host) → tree.get before.world.hosts r.by.0 ≡ Some old → old.is_lost ≡ false
          → (IsPlacing old.node w.was.req w.was.work vid r.session → Result) → Result
      as_before old old_there old_up goes_on = ⊎_elim
          (λ (nothing : comes_to_nothing before.world.hosts w.was ≡ true). inl (nothing_still nothing))
          goes_on
          (all j w.was w.at vid r was_of_place old old_there old_up)

      -- the same of the attempt as it is now
      now_placing : (node : Node) → IsPlacing node w.was.req w.was.work vid r.session
          → IsPlacing node attempt.req attempt.work vid r.session
      now_placing node placing = subst (λ (a : AttemptRecord). IsPlacing node a.req a.work vid r.session) w.same placing

      -- ---- a node goes on in its step

      module _ (g : IsGoingOn script start before after) where
        abbrev was : Host
        was = host_with_node g.stepping.host g.so_far.node

        abbrev now : Host
        now = host_with_node g.stepping.host g.next.node

        leads_then : LeadsInStep g.stepping (first_in_step g.stepping) g.next
        leads_then = changes.Then g.within.leads g.within.change

        same_log : after.world.log ≡ start.world.log
        same_log =
            ap (λ (m : MomentWithPast). m.world.log) g.after_so ∙ log_by_changes g.stepping.cause g.by start.world.log

        -- the request is refused
        refused : (cause : Cause) → Contains g.next.outputs.replies (w.was.req, replies.Refused cause) → Result
        refused cause replied =
            let asked = on_the_way script (AreForRequests script) (kept_for script range) events start before ran trail j w.was w.at in
            let refuses : refuses_request script (w.was.req, replies.Refused cause) ≡ true = ap is_some asked.asking in
            let among : is_object_among w.was.req after.past.refused ≡ true
            = ap (λ (m : MomentWithPast). is_object_among w.was.req m.past.refused) g.after_so
            ∙ ap (is_object_among w.was.req) (refused_in_step script g.stepping start g.next)
            ∙ among_of w.was.req start.past.refused (refused_in script g.next.outputs.replies)
            (inr (refused_of script g.next.outputs.replies (w.was.req, replies.Refused cause) replied refuses)) in
            inl (nothing-on_the_way script range events start after ran trail_then w.was.req among j attempt got
            (sym (ap (λ (a : AttemptRecord). a.req) w.same))).1

        -- its entry was read
        decided : (placing : IsPlacing g.so_far.node w.was.req w.was.work vid r.session) (entry : Entry)
            → input_of_cause g.stepping.cause ≡ inputs.LogEntry entry → waits_for_entry entry (Commanding placing.yet.op) ≡ true → Result
        decided placing entry from waits =
            let op : Op = placing.yet.op in
            let request : Request = record { session = r.session; course = Commanding op } in
            let at : op.stage ≡ Publishing entry (Some placing.inode)
            = waits_published placing.inode entry op.stage placing.yet.place waits in
            let asked : tree.get g.stepping.host.node.requests w.was.req ≡ Some request
            = had_command g.stepping.host.node entry g.so_far
            (subst (λ (i : Input). Leads i g.stepping.host.node (input_received i (at_first g.stepping.host.node)) g.so_far) from
            g.within.leads) w.was.req request op placing.inode placing.yet.there refl
            (subst (IsPublishingStage placing.inode) (sym at) refl) in
            let entries : List Entry = g.stepping.host.node.peer.entries in
            let lock = placed_lock script range events start ran g.stepping.n g.stepping.host g.is.there
            (not_lost g.stepping.host g.is.up) w.was.req request op asked refl placing.inode entry at (length entries) (omega arith)
            (read_next script start.world g.stepping.n g.stepping.host g.stepping.cause entry from g.is.caused) in
            absurd (reserved_unlocked start.world.log placing.inode.vid r
            (ap (λ (v : ℕ). reservation_on (record { 0 = v }) (reservations_of (log_effects start.world.log))) placing.own
            ∙ ap (λ (log : List Entry). reservation_on (record { 0 = vid }) (reservations_of (log_effects log))) (sym same_log)
            ∙ p.stands)
            g.stepping.host.node.outbox g.stepping.host.node.me r.session _ lock)

        goes : (placing : IsPlacing g.so_far.node w.was.req w.was.work vid r.session)
            → PlaceAfter (input_of_cause g.stepping.cause) w.was.req r.session placing.yet.op placing.inode g.next
            → host_with_node g.stepping.host g.next.node ≡ host → Result
        goes placing (StaysPlaced yet) same =
            inr (subst (λ (h : Host). IsPlacing h.node attempt.req attempt.work vid r.session) same
            (now_placing g.next.node
            (record { inode = placing.inode; yet = yet; own = placing.own; work_of = placing.work_of })))
        goes placing (IsRefused cause replied) same = refused cause replied
        goes placing (IsDecided entry from waits) same = decided placing entry from waits

        old_going : Result
        old_going = ⊎_elim
            (λ (own : (r.by.0 ≡ g.stepping.n) × (host_with_node g.stepping.host g.next.node ≡ host)).
            as_before was
            (ap (λ (m : MomentWithPast). tree.get m.world.hosts r.by.0) g.before_so
            ∙ ap (tree.get (hosts_in_step g.stepping start.world g.so_far)) own.0 ∙ get-insert_same start.world.hosts g.stepping.n was)
            (not_lost g.stepping.host g.is.up)
            (λ (placing : IsPlacing g.so_far.node w.was.req w.was.work vid r.session).
            goes placing
            (place_after (input_of_cause g.stepping.cause) g.stepping.host.node (known_step script range start.world began g.stepping
            g.is).sound g.so_far w.was.req r.session placing.yet.op placing.yet.there placing.inode placing.yet.place g.next
            g.within.change) own.1))
            (λ (other : (r.by.0 ≢ g.stepping.n) × (tree.get start.world.hosts r.by.0 ≡ Some host)).
            as_before host
            (ap (λ (m : MomentWithPast). tree.get m.world.hosts r.by.0) g.before_so
            ∙ get-insert_other start.world.hosts g.stepping.n was r.by.0 other.0 ∙ other.1) up
            (λ (placing : IsPlacing host.node w.was.req w.was.work vid r.session). inr (now_placing host.node placing)))
            (get-insert_cases start.world.hosts g.stepping.n now r.by.0 host
            (sym (ap (λ (m : MomentWithPast). tree.get m.world.hosts r.by.0) g.after_so) ∙ there))

      -- ---- or nothing of its requests changes

      old_resting : (before ≡ start) → MembersWereUp script range start began after.world.hosts → Result
      old_resting same members =
          let stands : StandsReserved start.world.log vid r = subst (λ (m : MomentWithPast). StandsReserved m.world.log vid r) same stood in
          let then = members r.by.0 host there up (reserver_member script range events start ran vid r stands) in
          as_before then.old (ap (λ (m : MomentWithPast). tree.get m.world.hosts r.by.0) same ∙ then.there) then.up
          (λ (placing : IsPlacing then.old.node w.was.req w.was.work vid r.session).
          inr (now_placing host.node (record {
            inode = placing.inode;
            yet = record {
              op = placing.yet.op;
              there = ap (λ requests. tree.get requests w.was.req) then.requests ∙ placing.yet.there;
              place = placing.yet.place;
            };
            own = placing.own;
            work_of = placing.work_of;
          })))

    -- ---- what commands of the node are for

    sourced_going : IsGoingOn script start before after → IsSourced host.node
    sourced_going g = ⊎_elim
        (λ (own : (r.by.0 ≡ g.stepping.n) × (host_with_node g.stepping.host g.next.node ≡ host)).
        subst (λ (h : Host). IsSourced h.node) own.1
        (let input = input_of_cause g.stepping.cause in
        let node : Node = g.stepping.host.node in
        let leads = changes.Then g.within.leads g.within.change in
        subst (λ (read : List Entry). AreSourced read g.next.node.requests g.next.node.sessions) (sym (entries_so input node g.next leads))
        (sourced_in_chain input node (sourced_in_world script start.world began g.stepping.n g.stepping.host g.is.there) g.next leads)))
        (λ (other : (r.by.0 ≢ g.stepping.n) × (tree.get start.world.hosts r.by.0 ≡ Some host)).
        sourced_in_world script start.world began r.by.0 host other.1)
        (get-insert_cases start.world.hosts g.stepping.n (host_with_node g.stepping.host g.next.node) r.by.0 host
        (sym (ap (λ (m : MomentWithPast). tree.get m.world.hosts r.by.0) g.after_so) ∙ there))

    going : IsGoingOn script start before after → Result
    going g = ⊎_elim
        (λ (w : WasAttempt before j attempt). old_going w g)
        (λ (o : IsOpened script start after attempt).
        inr (begins_placing script range events start before after ran trail change attempt vid r p o host there up (sourced_going g)))
        (come_from script range start began change j attempt got)

    awaited_now : Result
    awaited_now = ⊎_elim
        going
        (λ (b : IsBetween before after). ⊎_elim
        going
        (λ (rests : (before ≡ start) × MembersWereUp script range start began after.world.hosts).
        old_resting (b.1 j attempt got) rests.0 rests.1)
        (were_up script range start began change))
        (between script start change)

  pub awaited_places : PlacesAreAwaited after
  awaited_places j attempt got vid r p host there up = awaited_now j attempt got vid r p host there up
