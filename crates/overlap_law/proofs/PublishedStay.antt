-- Over each change of a moment the inode that a session is to have open once it is published may come to have its table alone: as its
-- creation is done this is all that is to come, and nobody begins anything on it until it is open.
use Rattle.std.proofs.Common.{◌≡◌, ◌≢◌, ◌⊎◌, inl, inr, ⊎_elim, arith, ℕ, ◌≤◌, ◌+◌, Bool, true, false, List, [], ◌∷◌, ◌++◌}
use Rattle.std.proofs.Common.{length, Option, Some, None, refl, sym, ap, subst, ◌∙◌}
use Rattle.std.specs.Ordering.{nat_cmp}
use Rattle.std.specs.FinMap as tree
use Rattle.std.proofs.lemmas.Bool.{both_ways}
use Rattle.std.proofs.lemmas.Option.{same_Some}
use Rattle.proof_tools.proofs.FiniteMaps.{get-insert_same, get-insert_other, get-insert_cases}
use Rattle.disk_lock.specs.declared.holder.Holder.{Holder}
use Rattle.object_id.specs.declared.entry.Entry.{Entry}
use Rattle.object_id.specs.declared.entry.Entry.TheVariants.{Format, Join, Leave, Reweight, Recovered, Reserve, Publish, Clone, Snapshot}
use Rattle.object_id.specs.declared.entry.Entry.TheVariants.{Delete, Lock, Unlock}
use Rattle.object_id.specs.Oid.{inode_number, vid_of}
use Rattle.epoch_log.specs.Epochs.{epoch_of}
use Rattle.inode.specs.Layout.{Content, header_bytes, unread_zeros}
use Rattle.inode.specs.declared.layout.TheConstants.{INODE_HEADER_BYTES}
use Rattle.cluster_script.specs.declared.statement.Statement.{Statement}
use Rattle.peer_proto.specs.Work.{oid_of}
use Rattle.peer_proto.specs.declared.work.ObjWork.{ObjWork}
use Rattle.gateway.specs.State.{Open, Work}
use Rattle.vdi_directory.specs.Decisions.{outcome, log_effects}
use Rattle.vdi_ops.proofs.TableLemmas.{blank_fills, header_length}
use Rattle.vdi_ops.specs.declared.act.OpAct.TheVariants as op_acts
use Rattle.vdi_ops.specs.Op.{OpStage, Publishing, Op, IsAwaitedAtOpStage}
use Rattle.sheep_node.specs.AwaitedEntry.{waits_for_entry}
use Rattle.sheep_node.specs.Changes.{attempt_in}
use Rattle.sheep_node.specs.Courses.{inode_open}
use Rattle.sheep_node.specs.May.{is_disk_course}
use Rattle.sheep_node.specs.SessionQueues.{session_among, command_in}
use Rattle.sheep_node.specs.SoundWorks.{IsSoundStage}
use Rattle.sheep_node.specs.WantedWorks.{IsWantedAt, IsWorkWanted}
use Rattle.sheep_node.specs.declared.course.Course.{Course}
use Rattle.sheep_node.specs.declared.course.Course.TheVariants.{Commanding}
use Rattle.sheep_node.specs.declared.course.Request.{Request}
use Rattle.sheep_world.proofs.NodesByTheLog.{knows_its_number}
use Rattle.sheep_world.specs.Began.{Began}
use Rattle.sheep_world.specs.NodeCauses.{input_of_cause, host_with_node}
use Rattle.sheep_world.specs.World.{Host}
use Rattle.sheep_world.specs.RunsWithAsks.{Move}
use Rattle.overlap_law.specs.Attempts.{AttemptRecord, object_of}
use Rattle.overlap_law.specs.CommandDisks.{opened_in, IsOpenAtLast, IsOpenAtStage, IsOpenAtCourse}
use Rattle.overlap_law.specs.Grants.{gives, given_to, writer_of}
use Rattle.overlap_law.specs.MomentChanges as moments
use Rattle.overlap_law.specs.MomentChanges.{MomentChange, MomentTrail, RunsAreInRange, KeptByChanges}
use Rattle.overlap_law.specs.Past.{MomentWithPast, run_with_past}
use Rattle.overlap_law.specs.ToCome.{IsEntryToCome}
use Rattle.overlap_law.specs.WriterClaims.{holder_at, IsStageKept, IsPublicationKept}
use Rattle.overlap_law.specs.Writers.{session_holder}
use Rattle.overlap_law.proofs.AwaitedCommands.{waits_at}
use Rattle.overlap_law.proofs.CausedWorks.{HasWellWorks}
use Rattle.overlap_law.proofs.ClaimsInRuns.{claims-in_run}
use Rattle.overlap_law.proofs.CountedEntries.{times, once_if, times-cons, itself, same_entry}
use Rattle.overlap_law.proofs.GivenByEntries.{given_by_entry}
use Rattle.overlap_law.proofs.GrantedAttempts.{only_writer-in_run}
use Rattle.overlap_law.proofs.GrantsAtPuts.{PutsFor, puts_for}
use Rattle.overlap_law.proofs.GuestsInMoments.{GuestsChange, GuestsStay, GuestsAreNone, IsGoingOn, IsBetween, between}
use Rattle.overlap_law.proofs.KeptIds.{reservation-writer}
use Rattle.overlap_law.proofs.KnownDisks.{IsKnownInode, IsKnownCourse, IsKnownStage, vid-of_inode}
use Rattle.overlap_law.proofs.MakingStages.{IsMakingStage, WasTagging, making_of_works}
use Rattle.overlap_law.proofs.NamedEntries.{opened_there, opened_up}
use Rattle.overlap_law.proofs.NewAttempts.{IsOpened}
use Rattle.overlap_law.proofs.NoRecoveredDue.{began-with_past}
use Rattle.overlap_law.proofs.OpenDisksInRuns.{disks_fit-in_run}
use Rattle.overlap_law.proofs.OpeningOverlap.{no_request}
use Rattle.overlap_law.proofs.LogsOfMoments.{IsOfMembers}
use Rattle.overlap_law.proofs.PublishedInodes.{members_give, IsPutNow, log_gets}
use Rattle.overlap_law.proofs.ShortTags.{knows_works}
use Rattle.overlap_law.proofs.StagesFrom.{ComesNow, stage_from}
use Rattle.overlap_law.proofs.WholeInRuns.{sound_world}
use Rattle.overlap_law.proofs.WorksInMoments.{well_along}
use Rattle.overlap_law.proofs.WriterChanges.{entry_gives_writer, entry_gives_to}

-- ---- the header of what is created

abbrev pub HasHead : Content → Type 0
HasHead inode = length (header_bytes inode (unread_zeros inode)) ≡ INODE_HEADER_BYTES

-- an inode that is created to take a disk's place fills its header
abbrev pub MakingsFit : MomentWithPast → Type 0
MakingsFit moment = (n : ℕ) (host : Host) → tree.get moment.world.hosts n ≡ Some host → (req : ℕ) (request : Request) (op : Op)
    (inode : Content) → tree.get host.node.requests req ≡ Some request → request.course ≡ Commanding op → IsMakingStage inode op.stage
    → HasHead inode

module _ (script : List Statement) (range : RunsAreInRange script) where
  module _ (start before after : MomentWithPast) (began : Began script start.world) (change : MomentChange script start before after)
      (all : MakingsFit before) where
    still_fit : (n : ℕ) (host : Host) → GuestsChange before n host → (req : ℕ) (request : Request) (op : Op) (inode : Content)
        → tree.get host.node.requests req ≡ Some request → request.course ≡ Commanding op → IsMakingStage inode op.stage → HasHead inode
    still_fit n host (GuestsStay was there up gateway sessions requests) req request op inode got command holds =
        all n was there req request op inode (ap (λ (r : tree.FinMap nat_cmp Request). tree.get r req) (sym requests) ∙ got) command holds
    still_fit n host (GuestsAreNone sessions none) req request op inode got command holds =
        let empty : tree.get host.node.requests req ≡ None
        = ap (λ (r : tree.FinMap nat_cmp Request). tree.get r req) none ∙ tree.get-empty {X = Request} nat_cmp req in
        absurd (cc (empty, got))

    own_fit : (g : IsGoingOn script start before after) (req : ℕ) (request : Request) (op : Op) (inode : Content)
        → tree.get g.next.node.requests req ≡ Some request → request.course ≡ Commanding op → IsMakingStage inode op.stage → HasHead inode
    own_fit g req request op inode got command holds = ⊎_elim
        (λ (had : tree.get g.so_far.node.requests req ≡ Some request).
        all g.stepping.n (host_with_node g.stepping.host g.so_far.node)
        (ap (λ (m : MomentWithPast). tree.get m.world.hosts g.stepping.n) g.before_so
        ∙ get-insert_same start.world.hosts g.stepping.n (host_with_node g.stepping.host g.so_far.node)) req request op inode had command
        holds)
        (λ (c : ComesNow (WasTagging inode) (input_of_cause g.stepping.cause) g.stepping.host.node req request.session g.so_far).
        let (vid, old, at) = c.came in
        let sound = subst IsSoundStage at ((knows_works script range start began g.stepping g.is g.by g.so_far g.within.leads).sound.courses
        req (record { session = request.session; course = Commanding c.op }) c.ends.ends.request) in
        header_length inode (unread_zeros inode) (blank_fills inode sound.1 sound.2))
        (stage_from (IsMakingStage inode) (WasTagging inode) (making_of_works inode) req (input_of_cause g.stepping.cause)
        g.stepping.host.node g.so_far g.next g.within.change request op got command holds)

    keeps_fit : MakingsFit after
    keeps_fit n host there req request op inode got command holds = ⊎_elim
        (λ (g : IsGoingOn script start before after). ⊎_elim
        (λ (own : (n ≡ g.stepping.n) × (host_with_node g.stepping.host g.next.node ≡ host)).
        own_fit g req request op inode (ap (λ (h : Host). tree.get h.node.requests req) own.1 ∙ got) command holds)
        (λ (other : (n ≢ g.stepping.n) × (tree.get start.world.hosts n ≡ Some host)).
        all n host
        (ap (λ (m : MomentWithPast). tree.get m.world.hosts n) g.before_so
        ∙ get-insert_other start.world.hosts g.stepping.n (host_with_node g.stepping.host g.so_far.node) n other.0 ∙ other.1)
        req request op inode got command holds)
        (get-insert_cases start.world.hosts g.stepping.n (host_with_node g.stepping.host g.next.node) n host
        (sym (ap (λ (m : MomentWithPast). tree.get m.world.hosts n) g.after_so) ∙ there)))
        (λ (b : IsBetween before after). still_fit n host (b.0 n host there) req request op inode got command holds)
        (between script start change)

  pub kept_fit : KeptByChanges script MakingsFit
  kept_fit = record {
    opens = λ n host there req request op inode got command holds. no_request script n host there req request got;
    keeps = λ start before after began change all. keeps_fit start before after began change all;
  }

-- ---- what is published

module _ (script : List Statement) (range : RunsAreInRange script) (events : List Move) (start : MomentWithPast)
    (ran : run_with_past script events ≡ Some start) where
  began : Began script start.world
  began = began-with_past script events start ran

  module _ (moment : MomentWithPast) (trail : MomentTrail script start moment) (n : ℕ) (host : Host)
      (there : tree.get moment.world.hosts n ≡ Some host) (up : host.is_lost ≡ false) (req : ℕ) (request : Request) (op : Op)
      (entry : Entry) (inode : Content) (got : tree.get host.node.requests req ≡ Some request) (command : request.course ≡ Commanding op)
      (at : op.stage ≡ Publishing entry (Some inode)) where
    well : HasWellWorks host.node
    well = well_along script range start began trail n host there

    known : IsKnownInode well.known inode
    known =
        subst (IsKnownStage well.known) at
        (subst (IsKnownCourse well.known) command (well.on_known.courses req request got))

    -- nothing begins on it
    pub none_begins : writer_of (log_effects moment.world.log) inode.vid ≡ Some (session_holder n request.session) → (index j : ℕ)
        (attempt : AttemptRecord) → IsEntryToCome moment.world.hosts moment.past.attempts inode.vid index j attempt
        → IsOpened script start moment attempt → ⊥
    none_begins writer index j attempt comes o =
        let work : Work = record o.asked { stage = Open (attempt_in o.asked o.lined.node) } in
        let writes = (only_writer-in_run script range events start moment ran trail).each o.stepping.n
        (host_with_node o.stepping.host o.next.node)
        (opened_there script start moment attempt o) (opened_up script start moment attempt o) o.req work o.at_gateway o.making in
        let object : oid_of o.asked.work ≡ inode_number inode.vid = ap (λ (a : AttemptRecord). object_of a) o.opened ∙ comes.object in
        let holder : session_holder o.stepping.n writes.request.session ≡ session_holder n request.session
        = same_Some (session_holder o.stepping.n writes.request.session) (session_holder n request.session)
        (sym writes.may.writer ∙ ap (writer_of (log_effects moment.world.log)) (ap vid_of object ∙ vid-of_inode inode.vid known.disk.id)
        ∙ writer) in
        let number : o.stepping.n ≡ n = ap (λ (h : Holder). h.node.0) holder in
        let session : writes.request.session ≡ request.session = ap (λ (h : Holder). h.session) holder in
        let same : host_with_node o.stepping.host o.next.node ≡ host
        = same_Some (host_with_node o.stepping.host o.next.node) host
        (sym (opened_there script start moment attempt o) ∙ ap (tree.get moment.world.hosts) number ∙ there) in
        let there_so : tree.get host.node.requests o.req ≡ Some writes.request
        = ap (λ (h : Host). tree.get h.node.requests o.req) (sym same) ∙ writes.there in
        let at_gateway : tree.get host.node.gateway.works o.req ≡ Some work
        = ap (λ (h : Host). tree.get h.node.gateway.works o.req) (sym same) ∙ o.at_gateway in
        let named : command_in request.session host.node.sessions ≡ Some req
        = well.alone.named req request got (ap is_disk_course command) in
        let one : o.req ≡ req = well.alone.alone request.session req o.req writes.request named there_so session in
        let its : writes.request ≡ request
        = same_Some writes.request request (sym there_so ∙ ap (tree.get host.node.requests) one ∙ got) in
        let wanted : IsWorkWanted (inode_open (session_among writes.request.session host.node.sessions).disk) writes.request.course
        o.asked.work
        = subst (λ (o : Option Request). IsWantedAt host.node.sessions o work.work) there_so
        (well.wanted o.req work.work (inl (work, at_gateway, refl))) in
        never
        (subst (λ (stage : OpStage). IsAwaitedAtOpStage (op_acts.Work o.asked.work) stage) at
        (subst (λ (c : Course). IsWorkWanted (inode_open (session_among writes.request.session host.node.sessions).disk) c o.asked.work)
        (ap (λ (r : Request). r.course) its ∙ command) wanted))
      where
        never : {work : ObjWork} → IsAwaitedAtOpStage (op_acts.Work work) (Publishing entry (Some inode)) → ⊥
        never is = cc (is)

    -- while its entry is to be put, the id is reserved for the session
    to_put : (later : List Entry) → host.node.outbox ≡ entry ∷ later
        → writer_of (log_effects moment.world.log) inode.vid ≡ Some (holder_at host.node.me request.session)
    to_put later first =
        by_entry entry refl
        (subst (IsOpenAtStage (opened_in request.session host.node.sessions)) at
        (subst (IsOpenAtCourse (opened_in request.session host.node.sessions)) command
        ((disks_fit-in_run script range events start moment ran trail).each n host there up req request got)))
        (subst (IsStageKept moment.world.log host.node.outbox host.node.peer.entries (length host.node.peer.entries) host.node.me
        request.session (opened_in request.session host.node.sessions)) at
        (((claims-in_run script range events start moment ran trail).each n host there up).commands req request op got command))
      where
        once : 1 ≤ times entry host.node.outbox
        once =
            let all : times entry (entry ∷ later) ≡ 1 + times entry later
            = times-cons entry entry later ∙ ap (λ (b : Bool). once_if b + times entry later) (itself entry) in
            let same : times entry host.node.outbox ≡ times entry (entry ∷ later) = ap (times entry) first in
            omega (arith, all, same)

        by_entry : (e : Entry) → entry ≡ e → IsOpenAtLast (opened_in request.session host.node.sessions) e (Some inode)
            → IsPublicationKept moment.world.log host.node.outbox host.node.peer.entries (length host.node.peer.entries) host.node.me
            request.session (opened_in request.session host.node.sessions) e (Some inode)
            → writer_of (log_effects moment.world.log) inode.vid ≡ Some (holder_at host.node.me request.session)
        by_entry (Format members) is fits kept = absurd kept
        by_entry (Join node zone vnodes) is fits kept = absurd kept
        by_entry (Leave node) is fits kept = absurd kept
        by_entry (Reweight node vnodes) is fits kept = absurd kept
        by_entry (Recovered node epoch) is fits kept = absurd kept
        by_entry (Reserve by session name origin) is fits kept = absurd kept
        by_entry (Publish by vid) is fits kept = absurd (cc (fits))
        by_entry (Clone by vid) is fits kept = absurd (cc (fits))
        by_entry (Snapshot by old vid) is fits kept =
            ap (writer_of (log_effects moment.world.log)) fits.1
            ∙ reservation-writer moment.world.log host.node.outbox host.node.me request.session (epoch_of host.node.peer.entries) vid.0
            (kept.to_put (subst (λ (e : Entry). 1 ≤ times e host.node.outbox) is once)).has
        by_entry (Delete by session name tag) is fits kept = absurd kept
        by_entry (Lock by session name tag) is fits kept = absurd kept
        by_entry (Unlock by session vid) is fits kept = absurd kept

  -- who may write the id then might before
  module _ (before after : MomentWithPast) (trail : MomentTrail script start before) (change : MomentChange script start before after)
      (n : ℕ) (host : Host) (there : tree.get before.world.hosts n ≡ Some host) (up : host.is_lost ≡ false) (req : ℕ) (request : Request)
      (op : Op) (entry : Entry) (inode : Content) (got : tree.get host.node.requests req ≡ Some request)
      (command : request.course ≡ Commanding op) (at : op.stage ≡ Publishing entry (Some inode))
      (writes : writer_of (log_effects after.world.log) inode.vid ≡ Some (session_holder n request.session)) where
    abbrev Writes : MomentWithPast → Type 0
    Writes moment = writer_of (log_effects moment.world.log) inode.vid ≡ Some (session_holder n request.session)

    -- an entry that gives the id to the session is the one that its command waits for
    put_now : (put : Entry) → IsPutNow start.world.hosts put → tree.get start.world.hosts n ≡ Some host
        → gives inode.vid (outcome (log_effects start.world.log) put).effect ≡ true
        → writer_of (log_effects (start.world.log ++ put ∷ [])) inode.vid ≡ Some (session_holder n request.session)
        → writer_of (log_effects start.world.log) inode.vid ≡ Some (session_holder n request.session)
    put_now put now there_so given then =
        let holder : Holder = session_holder n request.session in
        let to : given_to (outcome (log_effects start.world.log) put).effect ≡ Some holder
        = sym (entry_gives_to start.world.log put inode.vid given) ∙ then in
        let p : PutsFor script range start began now.n now.host now.there now.up put (now.later, now.first) holder
        = puts_for script range start began now.n now.host now.there now.up put (now.later, now.first) holder to put refl
        (given_by_entry (log_effects start.world.log) holder put to) in
        let own : now.host.node.me.0 ≡ n = ap (λ (h : Holder). h.node.0) p.own in
        let place : now.n ≡ n = sym (knows_its_number script start.world began now.n now.host now.there) ∙ own in
        let one : now.host ≡ host
        = same_Some now.host host (sym now.there ∙ ap (tree.get start.world.hosts) place ∙ there_so) in
        let session : p.request.session ≡ request.session = ap (λ (h : Holder). h.session) p.own in
        let asked : tree.get host.node.requests p.req ≡ Some p.request
        = ap (λ (h : Host). tree.get h.node.requests p.req) (sym one) ∙ p.asked in
        let sole = ((sound_world script range start.world began).hosts n host there_so).node.sole_commands in
        let named : command_in p.request.session host.node.sessions ≡ Some p.req = sole.named p.req p.request asked p.sole in
        let same : req ≡ p.req = sole.alone p.request.session p.req req request named got (sym session) in
        let its : p.request ≡ request = same_Some p.request request (sym asked ∙ ap (tree.get host.node.requests) (sym same) ∙ got) in
        let waits : waits_for_entry put (Commanding op) ≡ true
        = ap (waits_for_entry put) (sym (ap (λ (r : Request). r.course) its ∙ command)) ∙ p.waits in
        let entry_so : entry ≡ put
        = same_entry entry put (subst (λ (stage : OpStage). waits_at put stage ≡ true) at waits) in
        to_put start moments.Still n host there_so up req request op entry inode got command at now.later
        (ap (λ (h : Host). h.node.outbox) (sym one) ∙ now.first ∙ ap (λ (e : Entry). e ∷ now.later) (sym entry_so))
        ∙ ap (λ (k : ℕ). Some (session_holder k request.session)) (knows_its_number script start.world began n host there_so)

    pub wrote : writer_of (log_effects before.world.log) inode.vid ≡ Some (session_holder n request.session)
    wrote = by_log (log_gets script change)
      where
        given_now : (put : Entry) → gives inode.vid (outcome (log_effects before.world.log) put).effect ≡ true
            → writer_of (log_effects (before.world.log ++ put ∷ [])) inode.vid ≡ Some (session_holder n request.session)
            → IsOfMembers put ⊎ ((before ≡ start) × IsPutNow before.world.hosts put)
            → writer_of (log_effects before.world.log) inode.vid ≡ Some (session_holder n request.session)
        given_now put given then (inl members) =
            absurd (both_ways (gives inode.vid (outcome (log_effects before.world.log) put).effect)
            (members_give (log_effects before.world.log) inode.vid put members) given)
        given_now put given then (inr (same, now)) =
            subst Writes (sym same)
            (put_now put (subst (λ (m : MomentWithPast). IsPutNow m.world.hosts put) same now)
            (subst (λ (m : MomentWithPast). tree.get m.world.hosts n ≡ Some host) same there)
            (subst (λ (m : MomentWithPast). gives inode.vid (outcome (log_effects m.world.log) put).effect ≡ true) same given)
            (subst (λ (m : MomentWithPast). writer_of (log_effects (m.world.log ++ put ∷ [])) inode.vid
            ≡ Some (session_holder n request.session)) same then))

        by_log : (after.world.log ≡ before.world.log) ⊎ ((put : Entry) × (after.world.log ≡ before.world.log ++ put ∷ [])
            × (IsOfMembers put ⊎ ((before ≡ start) × IsPutNow before.world.hosts put)))
            → writer_of (log_effects before.world.log) inode.vid ≡ Some (session_holder n request.session)
        by_log (inl same) = ap (λ (log : List Entry). writer_of (log_effects log) inode.vid) (sym same) ∙ writes
        by_log (inr (put, longer, whose)) =
            let then : writer_of (log_effects (before.world.log ++ put ∷ [])) inode.vid ≡ Some (session_holder n request.session)
            = ap (λ (log : List Entry). writer_of (log_effects log) inode.vid) (sym longer) ∙ writes in
            ⊎_elim
            (λ (was : writer_of (log_effects before.world.log) inode.vid ≡ Some (session_holder n request.session)). was)
            (λ (given : gives inode.vid (outcome (log_effects before.world.log) put).effect ≡ true). given_now put given then whose)
            (entry_gives_writer before.world.log put inode.vid (session_holder n request.session) then)
