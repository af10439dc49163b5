-- A command that begins: its entry is put, and a close lets the session's disk go.
use Rattle.object_id.specs.declared.entry.Origin.TheVariants.{Fresh, SnapshotOf, CloneOf}
use Rattle.overlap_law.proofs.SessionCommands.{begins-own}
use Rattle.std.proofs.Common.{◌≡◌, ◌≢◌, inl, inr, ⊎_elim, ℕ, ◌+◌, Bool, true, false, List, [], ◌∷◌, ◌++◌, Option, Some, None, refl, sym, ap}
use Rattle.std.proofs.Common.{subst, ◌∙◌, arith, option_map, unwrap_or}
use Rattle.std.specs.FinMap as tree
use Rattle.std.proofs.lemmas.Option.{same_Some}
use Rattle.proof_tools.proofs.FiniteMaps.{get-insert_same, get-insert_cases}
use Rattle.object_id.specs.declared.node.NodeId.{NodeId}
use Rattle.object_id.specs.declared.oid.Vid.{Vid}
use Rattle.object_id.specs.declared.entry.Entry.{Entry}
use Rattle.object_id.specs.declared.entry.Entry.TheVariants.{Recovered, Unlock, Format, Join, Leave, Reweight, Reserve, Publish, Clone}
use Rattle.object_id.specs.declared.entry.Entry.TheVariants.{Snapshot, Delete, Lock}
use Rattle.epoch_log.specs.Epochs.{epoch_of}
use Rattle.inode.specs.Layout.{Content}
use Rattle.vdi_directory.specs.Decisions.{log_effects}
use Rattle.peer_proto.specs.declared.guest.VdiAsk.{VdiAsk}
use Rattle.peer_proto.specs.declared.guest.VdiAsk.TheVariants as disk_commands
use Rattle.guest_driver.specs.declared.disk.Disk.{Disk}
use Rattle.vdi_ops.specs.declared.act.OpAct.{OpAct}
use Rattle.vdi_ops.specs.declared.act.OpAct.TheVariants as op_acts
use Rattle.vdi_ops.specs.Entries.{unlock_of, first_entry}
use Rattle.vdi_ops.specs.Op.{OpStage, Asked, disk_change_at, Op, OpStep, IsAwaitedAtOpStage}
use Rattle.vdi_ops.specs.Steps.{begin_command, first_step}
use Rattle.sheep_node.specs.declared.ask.Ask.TheVariants as asks
use Rattle.sheep_node.specs.declared.input.Input.{Input}
use Rattle.sheep_node.specs.declared.course.Request.{Request}
use Rattle.sheep_node.specs.declared.session.Session.{Session}
use Rattle.sheep_node.specs.declared.course.Course.TheVariants.{Commanding}
use Rattle.sheep_node.specs.State.{Node, new_session}
use Rattle.sheep_node.specs.StepState.{StepState, session_in}
use Rattle.sheep_node.specs.Courses.{inode_open, disk_after, after_command_step}
use Rattle.sheep_node.specs.Changes.{Arrival, Outcome, outcome_of_command}
use Rattle.overlap_law.specs.AwaitedEntries.{IsCommandEntry, IsSessionsEntry, IsSessionsStage}
use Rattle.overlap_law.specs.CommandDisks.{opened_as, opened_in}
use Rattle.overlap_law.specs.WriterClaims.{IsStageKept, LetsGo, IsDiskKept, IsUnlockKept, HasClaims, IsFirstEntry, IsPublicationKept}
use Rattle.overlap_law.specs.WriterClaims.{HasLockYet}
use Rattle.overlap_law.specs.Writers.{unlocks}
use Rattle.overlap_law.proofs.AwaitedChanges.{Requests, AreAwaitedSoFar, none_on_the_way}
use Rattle.overlap_law.proofs.AwaitedCommands.{is_command}
use Rattle.overlap_law.proofs.AwaitedSteps.{entry_of_input, MeetsCommands}
use Rattle.overlap_law.proofs.ClaimChanges.{disk_of, IsOfSession, more_claims}
use Rattle.overlap_law.proofs.ClaimUnlocks.{unlocked_claims}
use Rattle.overlap_law.proofs.ClaimCommands.{IsDiskSafe, AreSafe, begins_kept, IsUnseen}
use Rattle.overlap_law.proofs.CountedEntries.{times}
use Rattle.overlap_law.proofs.KeptIds.{lock-writer, lock_yet}
use Rattle.overlap_law.proofs.ClaimRequests.{IsReadOf, HasSoFar, IsNextKept, IsSoleIn, none_kept, counted_from, safe_disks, stepped}
use Rattle.overlap_law.proofs.ClaimRequests.{put_there, reply_next, unpublished}

module _ (read unread : List Entry) (input : Input) (node : Node) (meets : MeetsCommands read input node) (log : List Entry) (from : ℕ)
    (reads : IsReadOf log read unread from input node) where
  abbrev Is : StepState → Type 0
  Is = AreAwaitedSoFar read node.me unread (entry_of_input input)

  abbrev Has : StepState → Type 0
  Has = HasSoFar read unread input node meets log from reads

  abbrev IsNext : StepState → ℕ → Outcome → Type 0
  IsNext = IsNextKept read unread input node meets log from reads

  abbrev IsSole : Requests → ℕ → ℕ → Type 0
  IsSole = IsSoleIn read unread input node meets log from reads

  -- ---- a command begins

  module _ (so_far : StepState) (so : Is so_far) (has : Has so_far) (session req : ℕ) (ask : VdiAsk) (step : OpStep)
      (arrival : Arrival input node so_far session req (asks.Vdi ask) None)
      (is : begin_command node.me session ask (inode_open (session_in session so_far).disk) ≡ Some step) where
    begins_free : (other : ℕ) (request : Request) → tree.get so_far.node.requests other ≡ Some request → is_command request.course ≡ true
        → request.session ≢ session
    begins_free other request got =
        meets.free req session (asks.Vdi ask) arrival.from other request
        (ap (λ (s : StepState). tree.get s.node.requests other) (sym arrival.first) ∙ got)

    begins_own : IsOfSession so_far.node.requests req session
    begins_own old got = let none = arrival.none (meets.sound req session (asks.Vdi ask) arrival.from) in absurd (cc (none, got))

    begins_sole : IsSole so_far.node.requests req session
    begins_sole other request got command of = absurd (begins_free other request got command of)

    begins_unseen : (entry : Entry) → IsCommandEntry node.me entry → step.op.stage ≡ Asked entry → IsUnseen log from entry
    begins_unseen entry own at place after got =
        let its = begins-own (log_effects read) node.me session ask (inode_open (session_in session so_far).disk) step is in
        let sessions_own : IsSessionsEntry (log_effects read) node.me session entry
        = subst (IsSessionsStage (log_effects read) node.me session) at its.stage in
        let none =
        none_on_the_way read node.me unread (entry_of_input input) so_far.node.me so_far.node.requests so_far.node.outbox so session
        (λ other request got command of entry waits. begins_free other request got command of) entry own sessions_own in
        let there = counted_from log from place entry after got in
        let same = ap (times entry) (reads.unread_so (λ other reads. absurd (cc (ap entry_of_input (sym arrival.from) ∙ reads)))) in
        omega (arith, none, there, same)

    begins_safe : (outbox : List Entry) → HasClaims log outbox read from node.me so_far.node.requests so_far.node.sessions
        → AreSafe log outbox read from node.me session (session_in session so_far).disk
    begins_safe outbox has =
        safe_disks read unread input node meets log from reads outbox so_far.node.requests so_far.node.sessions has session
        (λ vid goes. begins_free goes.req goes.request goes.there (ap is_command goes.command) goes.of)

    -- with this outbox
    pub begins_in : (outbox : List Entry) → HasClaims log outbox read from node.me so_far.node.requests so_far.node.sessions
        → HasClaims log outbox read from node.me (after_command_step session req step so_far).node.requests
        (after_command_step session req step so_far).node.sessions
    begins_in outbox has =
        stepped read unread input node meets log from reads outbox so_far has session req step begins_own begins_sole
        (begins_kept log outbox read from node.me session step begins_unseen (session_in session so_far).disk ask (begins_safe outbox has)
        arrival.refused is)

    begun_stage : (outbox : List Entry) → HasClaims log outbox read from node.me so_far.node.requests so_far.node.sessions → (entry : Entry)
        → step.op.stage ≡ Asked entry → IsFirstEntry entry
    begun_stage outbox has entry at =
        (subst (IsStageKept log outbox read from node.me session (opened_as
        (disk_after (disk_change_at step.op.stage) (session_in session so_far).disk))) at
        (begins_kept log outbox read from node.me session step begins_unseen (session_in session so_far).disk ask (begins_safe outbox has)
        arrival.refused is).stage).first

    -- the entry of a close
    closes_disk : (by : NodeId) (of : ℕ) (id : Vid) → step.op.stage ≡ Asked (Unlock by of id)
        → (disk : Disk) × ((session_in session so_far).disk ≡ Some disk) × (Unlock by of id ≡ unlock_of node.me session disk.inode.vid)
    unfolding begin_command
    closes_disk by of id at = by_ask ask is
      where
        first : (entry : Entry) → Some (first_step node.me session entry) ≡ Some step → entry ≡ Unlock by of id
        first entry made =
            let same : Asked entry ≡ Asked (Unlock by of id)
            = ap (λ (s : OpStep). s.op.stage) (same_Some (first_step node.me session entry) step made) ∙ at in
            cc (same)

        by_disk : (disk : Option Disk)
            → option_map (first_step node.me session) (first_entry node.me session (inode_open disk) disk_commands.Close) ≡ Some step
            → (d : Disk) × (disk ≡ Some d) × (Unlock by of id ≡ unlock_of node.me session d.inode.vid)
        by_disk None made = absurd (cc (made))
        by_disk (Some disk) made = (disk, refl, sym (first (unlock_of node.me session disk.inode.vid) made))

        taken : (disk : Option Content) (tag : List ℕ)
            → option_map (first_step node.me session) (first_entry node.me session disk (disk_commands.Snapshot tag)) ≡ Some step → ⊥
        taken None tag made = cc (made)
        taken (Some inode) tag made = let same = first (Reserve node.me session inode.name (SnapshotOf tag)) made in cc (same)

        by_ask : (ask : VdiAsk)
            → option_map (first_step node.me session) (first_entry node.me session (inode_open (session_in session so_far).disk) ask)
            ≡ Some step
            → (d : Disk) × ((session_in session so_far).disk ≡ Some d) × (Unlock by of id ≡ unlock_of node.me session d.inode.vid)
        by_ask (disk_commands.Create name spec) made =
            let same = first (Reserve node.me session name (Fresh spec)) made in absurd (cc (same))
        by_ask (disk_commands.Attach name tag) made = let same = first (Lock node.me session name tag) made in absurd (cc (same))
        by_ask disk_commands.Close made = by_disk (session_in session so_far).disk made
        by_ask (disk_commands.Snapshot tag) made = absurd (taken (inode_open (session_in session so_far).disk) tag made)
        by_ask (disk_commands.Clone base tag name) made =
            let same = first (Reserve node.me session name (CloneOf base tag)) made in absurd (cc (same))
        by_ask (disk_commands.Delete name tag) made = let same = first (Delete node.me session name tag) made in absurd (cc (same))
        by_ask disk_commands.Check made = absurd (cc (made))

    abbrev moved : StepState
    moved = after_command_step session req step so_far

    -- the lock's end is put: the command lets the disk go
    close_kept : (disk : Disk) → (session_in session so_far).disk ≡ Some disk
        → step.op.stage ≡ Asked (unlock_of node.me session disk.inode.vid)
        → HasClaims log (so_far.node.outbox ++ unlock_of node.me session disk.inode.vid ∷ []) read from node.me
        (after_command_step session req step so_far).node.requests (after_command_step session req step so_far).node.sessions
    close_kept disk opened at =
        unlocked_claims log read from node.me so_far.node.outbox moved.node.requests moved.node.sessions session disk.inode.vid
        (may disk.snapshot (begins_safe so_far.node.outbox has disk opened))
        (unpublished read unread input node meets log from reads so_far.node.outbox moved.node.requests moved.node.sessions
        (begins_in so_far.node.outbox has) unlock (λ session opened made never. never))
        own_stage own_disk own_yet (begins_in so_far.node.outbox has)
      where
        unlock : Entry
        unlock = unlock_of node.me session disk.inode.vid

        may : (snapshot : Bool) → IsDiskSafe log so_far.node.outbox read from node.me session snapshot disk.inode
            → IsUnlockKept log node.me session disk.inode.vid (times (unlock_of node.me session disk.inode.vid) so_far.node.outbox + 1)
        may true gone = inl gone
        may false (named, lock) =
            inr (
              lock-writer log so_far.node.outbox node.me session (epoch_of read) disk.inode.vid lock,
              (let none = none_kept node.me session disk.inode.vid so_far.node.outbox lock.kept in omega (arith, none)),
            )

        -- the session's command is this one
        is_this : (q : ℕ) (request : Request) (op : Op) → tree.get moved.node.requests q ≡ Some request → request.course ≡ Commanding op
            → request.session ≡ session → (q ≡ req) × (request ≡ record { session = session; course = Commanding step.op })
        is_this q request op got command of = ⊎_elim
            (λ (own : (q ≡ req) × (record { session = session; course = Commanding step.op } ≡ request)). (own.0, sym own.1))
            (λ (other : (q ≢ req) × (tree.get so_far.node.requests q ≡ Some request)).
            absurd (begins_free q request other.1 (ap is_command command) of))
            (get-insert_cases so_far.node.requests req (record { session = session; course = Commanding step.op }) q request got)

        own_stage : (q : ℕ) (request : Request) (op : Op) → tree.get moved.node.requests q ≡ Some request → request.course ≡ Commanding op
            → request.session ≡ session
            → IsStageKept log (so_far.node.outbox ++ unlock_of node.me session disk.inode.vid ∷ []) read from node.me request.session
            (opened_in request.session moved.node.sessions) op.stage
        own_stage q request op got command of =
            let this = is_this q request op got command of in
            let course : Commanding step.op ≡ Commanding op = sym (ap (λ (r : Request). r.course) this.1) ∙ command in
            let same : step.op ≡ op = cc (course) in
            subst (IsStageKept log (so_far.node.outbox ++ unlock ∷ []) read from node.me request.session
            (opened_in request.session moved.node.sessions)) (sym at ∙ ap (λ (o : Op). o.stage) same)
            (record { first = tt; granted = λ place after got vid granted. tt; for_disk = tt })

        after : Option Disk
        after = disk_after (disk_change_at step.op.stage) (session_in session so_far).disk

        stays : after ≡ Some disk
        stays = ap (λ (stage : OpStage). disk_after (disk_change_at stage) (session_in session so_far).disk) at ∙ opened

        here : (d : Disk) → disk_of session moved.node.sessions ≡ Some d → disk ≡ d
        here d got = same_Some disk d (sym stays
            ∙ sym (ap (λ (o : Option Session). (unwrap_or o new_session).disk) (get-insert_same so_far.node.sessions session
            (record (session_in session so_far) { disk = after; command = Some req })))
            ∙ got)

        yet_here : (b : Bool) → b ≡ false → IsDiskSafe log so_far.node.outbox read from node.me session b disk.inode
            → HasLockYet log node.me session (epoch_of read) disk.inode.vid
        yet_here true working is = absurd (cc (working))
        yet_here false working (named, lock) = lock_yet log so_far.node.outbox node.me session (epoch_of read) disk.inode.vid lock

        own_yet : (d : Disk) → disk_of session moved.node.sessions ≡ Some d → d.snapshot ≡ false
            → HasLockYet log node.me session (epoch_of read) d.inode.vid
        own_yet d got working =
            let same = here d got in
            subst (λ (e : Disk). HasLockYet log node.me session (epoch_of read) e.inode.vid) same
            (yet_here disk.snapshot (ap (λ (e : Disk). e.snapshot) same ∙ working) (begins_safe so_far.node.outbox has disk opened))

        own_disk : (d : Disk) → disk_of session moved.node.sessions ≡ Some d
            → IsDiskKept log (so_far.node.outbox ++ unlock_of node.me session disk.inode.vid ∷ []) read node.me moved.node.requests session
            d.snapshot d.inode
        own_disk d got =
            subst (λ (e : Disk). IsDiskKept log (so_far.node.outbox ++ unlock ∷ []) read node.me moved.node.requests session e.snapshot
            e.inode) (here d got) (by_kind disk.snapshot (begins_safe so_far.node.outbox has disk opened))
          where
            by_kind : (b : Bool) → IsDiskSafe log so_far.node.outbox read from node.me session b disk.inode
                → IsDiskKept log (so_far.node.outbox ++ unlock ∷ []) read node.me moved.node.requests session b disk.inode
            by_kind true gone = gone
            by_kind false (named, lock) = (
              named,
              inr (record {
                req = req;
                request = record { session = session; course = Commanding step.op };
                op = step.op;
                there = put_there read unread input node meets log from reads so_far session req step;
                of = refl;
                command = refl;
                lets = subst (LetsGo disk.inode.vid) (sym at) refl;
              }),
            )

    -- another first entry is put
    first_kept : (entry : Entry) → IsFirstEntry entry → step.op.stage ≡ Asked entry
        → HasClaims log (so_far.node.outbox ++ entry ∷ []) read from node.me (after_command_step session req step so_far).node.requests
        (after_command_step session req step so_far).node.sessions
    first_kept entry first at = by_entry entry first at
      where
        puts : (entry : Entry) → ((s vid : ℕ) → unlocks s vid entry ≡ false)
            → ((s : ℕ) (opened : Option (Bool × ℕ)) (made : Option Content)
            → IsPublicationKept log so_far.node.outbox read from node.me s opened entry made → ⊥)
            → HasClaims log (so_far.node.outbox ++ entry ∷ []) read from node.me moved.node.requests moved.node.sessions
        puts entry other never =
            begins_in (so_far.node.outbox ++ entry ∷ [])
            (more_claims log read from node.me so_far.node.outbox so_far.node.requests so_far.node.sessions entry other
            (unpublished read unread input node meets log from reads so_far.node.outbox so_far.node.requests so_far.node.sessions has entry
            never) has)

        by_entry : (entry : Entry) → IsFirstEntry entry → step.op.stage ≡ Asked entry
            → HasClaims log (so_far.node.outbox ++ entry ∷ []) read from node.me moved.node.requests moved.node.sessions
        by_entry (Format members) first at = absurd first
        by_entry (Join of zone vnodes) first at = absurd first
        by_entry (Leave of) first at = absurd first
        by_entry (Reweight of vnodes) first at = absurd first
        by_entry (Recovered of epoch) first at = absurd first
        by_entry (Reserve by of name origin) first at = puts (Reserve by of name origin) (λ s vid. refl) (λ s opened made never. never)
        by_entry (Publish by of) first at = absurd first
        by_entry (Clone by of) first at = absurd first
        by_entry (Snapshot by old of) first at = absurd first
        by_entry (Delete by of name tag) first at = puts (Delete by of name tag) (λ s vid. refl) (λ s opened made never. never)
        by_entry (Lock by of name tag) first at = puts (Lock by of name tag) (λ s vid. refl) (λ s opened made never. never)
        by_entry (Unlock by of id) first at =
            let (disk, opened, same) = closes_disk by of id at in
            subst (λ (e : Entry). HasClaims log (so_far.node.outbox ++ e ∷ []) read from node.me moved.node.requests moved.node.sessions)
            (sym same) (close_kept disk opened (at ∙ ap Asked same))

    pub begins_next : (act : OpAct) → IsAwaitedAtOpStage act step.op.stage
        → IsNext (after_command_step session req step so_far) req (outcome_of_command act)
    unfolding begin_command
    begins_next (op_acts.Work work) awaited = tt
    begins_next (op_acts.Reply reply) awaited = reply_next read unread input node meets log from reads so_far session req step reply awaited
    begins_next (op_acts.Append entry) awaited =
        let at = asked_at ask is in
        subst (λ (e : Entry). HasClaims log (so_far.node.outbox ++ e ∷ []) read from node.me moved.node.requests moved.node.sessions)
        (put_of entry at.0 (subst (IsAwaitedAtOpStage (op_acts.Append entry)) at.1 awaited))
        (first_kept at.0 (begun_stage so_far.node.outbox has at.0 at.1) at.1)
      where
        put_of : (entry wanted : Entry) → op_acts.Append entry ≡ op_acts.Append wanted → wanted ≡ entry
        put_of entry wanted is = let same : entry ≡ wanted = cc (is) in sym same

        asked_at : (ask : VdiAsk) → begin_command node.me session ask (inode_open (session_in session so_far).disk) ≡ Some step
            → (wanted : Entry) × (step.op.stage ≡ Asked wanted)
        asked_at ask is = by_entry (first_entry node.me session (inode_open (session_in session so_far).disk) ask) is
          where
            by_entry : (entry : Option Entry) → option_map (first_step node.me session) entry ≡ Some step
                → (wanted : Entry) × (step.op.stage ≡ Asked wanted)
            by_entry None is = absurd (cc (is))
            by_entry (Some entry) is = (entry, sym (ap (λ (s : OpStep). s.op.stage) (same_Some (first_step node.me session entry) step is)))
