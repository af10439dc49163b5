-- An entry by which a session loses an id finds nothing in flight of the session's attempts on it, or is the leave of its node.
use Rattle.std.proofs.Common.{◌≡◌, ◌≢◌, inl, ⊎_elim, ℕ, ◌≤◌, ◌==◌, Bool, true, false, ◌&&◌, ◌||◌, List, ◌∷◌, All, length, Option, Some}
use Rattle.std.proofs.Common.{None, refl, sym, ap, subst, ◌∙◌}
use Rattle.std.specs.List.{list_any, slice_get}
use Rattle.std.specs.FinMap as tree
use Rattle.std.proofs.lemmas.Bool.{and_from, and_parts, both_ways, cases_eq, eq-eqb, eqb-true, or_parts}
use Rattle.std.proofs.lemmas.List.Elements.{All-head}
use Rattle.std.proofs.lemmas.Option.{same_Some}
use Rattle.object_id.specs.declared.entry.Entry.{Entry}
use Rattle.object_id.specs.declared.entry.Entry.TheVariants.{Format, Join, Leave, Reweight, Recovered, Reserve, Publish, Clone, Snapshot}
use Rattle.object_id.specs.declared.entry.Entry.TheVariants.{Delete, Lock, Unlock}
use Rattle.object_id.specs.declared.node.NodeId.{NodeId}
use Rattle.object_id.specs.Oid.{vid_of}
use Rattle.cluster_script.specs.declared.statement.Statement.{Statement}
use Rattle.disk_lock.specs.declared.holder.Holder.{Holder}
use Rattle.epoch_log.specs.Epochs.{epoch_of}
use Rattle.vdi_directory.specs.Decisions.{outcome, log_effects}
use Rattle.peer_proto.specs.Work.{oid_of}
use Rattle.gateway.specs.State.{Work}
use Rattle.vdi_ops.specs.Op.{Publishing, IsAwaitedAtOpStage}
use Rattle.vdi_ops.specs.declared.act.OpAct.TheVariants as op_acts
use Rattle.sheep_node.specs.declared.course.Course.{Course}
use Rattle.sheep_node.specs.declared.course.Request.{Request}
use Rattle.sheep_node.specs.Courses.{inode_open}
use Rattle.sheep_node.specs.May.{is_disk_course}
use Rattle.sheep_node.specs.OwnEntries.{IsEntryOf}
use Rattle.sheep_node.specs.SessionQueues.{session_among, command_in}
use Rattle.sheep_node.specs.WantedWorks.{IsWorkWanted, IsWantedAt}
use Rattle.sheep_world.specs.Began.{Began}
use Rattle.sheep_world.specs.NodeCauses.{EntryIsPut, IsCause}
use Rattle.sheep_world.specs.World.{Host, is_host_up}
use Rattle.sheep_world.proofs.NodesByTheLog.{knows_its_number}
use Rattle.overlap_law.specs.Attempts.{AttemptRecord, object_of}
use Rattle.overlap_law.specs.AwaitedEntries.{IsCommandEntry}
use Rattle.overlap_law.specs.CommandDisks.{opened_in}
use Rattle.overlap_law.specs.Grants.{writer_of, takes_writer, may_take_writer}
use Rattle.overlap_law.specs.MomentChanges.{RunsAreInRange}
use Rattle.overlap_law.specs.OpenWorks.{PacketsAreOfOpenWorks}
use Rattle.overlap_law.specs.Packets.{is_name_in_wire, message_name_at, IsQuiet}
use Rattle.overlap_law.specs.Past.{MomentWithPast}
use Rattle.overlap_law.specs.WriterClaims.{holder_at, IsFirstEntry, IsStageKept, IsReplacing, HasReservation, HasClaims}
use Rattle.overlap_law.specs.Writers.{unlocks, session_holder, IsUnderTheGrant, EndsInOrder}
use Rattle.overlap_law.proofs.AwaitedEntriesInMoments.{unread_of, own_entries}
use Rattle.overlap_law.proofs.AwaitedChanges.{AreAwaited}
use Rattle.overlap_law.proofs.AwaitedInRuns.{awaited_in_worlds}
use Rattle.overlap_law.proofs.CausedWorks.{HasWellWorks}
use Rattle.overlap_law.proofs.ClaimPuts.{here_once}
use Rattle.overlap_law.proofs.ClaimsElsewhere.{other_spares}
use Rattle.overlap_law.proofs.CountedEntries.{times}
use Rattle.overlap_law.proofs.ClaimsInRuns.{claimed_in_worlds, snaps}
use Rattle.overlap_law.proofs.ClaimsOfPuts.{Publisher, publisher}
use Rattle.overlap_law.proofs.KeptIds.{lock-writer, reservation-writer}
use Rattle.overlap_law.proofs.TakenIds.{taken_by_entry}
use Rattle.overlap_law.proofs.WorksInMoments.{well_in_world}
use Rattle.overlap_law.proofs.WritersOfWorks.{works_may-at_start}

-- ---- an entry that a node puts

module _ (script : List Statement) (range : RunsAreInRange script) (start : MomentWithPast) (began : Began script start.world) (n : ℕ)
    (host : Host)
    (there : tree.get start.world.hosts n ≡ Some host) (up : is_host_up host ≡ true) (up_so : host.is_lost ≡ false) (entry : Entry)
    (so : IsCause script start.world n host (EntryIsPut entry)) where
  abbrev log : List Entry
  log = start.world.log

  abbrev me : NodeId
  me = host.node.me

  number : host.node.me.0 ≡ n
  number = knows_its_number script start.world began n host there

  first_own : All (IsEntryOf host.node.me) (entry ∷ so.0)
  first_own = subst (All (IsEntryOf host.node.me)) so.1 (own_entries script start.world began n host there).entries

  has : HasClaims start.world.log (entry ∷ so.0) host.node.peer.entries (length host.node.peer.entries) host.node.me host.node.requests
      host.node.sessions
  has =
      subst (λ (outbox : List Entry). HasClaims log outbox host.node.peer.entries (length host.node.peer.entries) me host.node.requests
      host.node.sessions) so.1 (claimed_in_worlds script range start.world began n host there up_so)

  awaits : AreAwaited host.node.peer.entries host.node.me (unread_of start.world.log host.node) None host.node.me host.node.requests
      (entry ∷ so.0)
  awaits =
      subst (λ (outbox : List Entry). AreAwaited host.node.peer.entries me (unread_of log host.node) None me host.node.requests outbox) so.1
      ((awaited_in_worlds script range start.world began).each n host there up_so)

  well : HasWellWorks host.node
  well = well_in_world script range start.world began n host there

  -- who puts what another node's session loses isn't there
  pub spares_others : (other : NodeId) (session vid : ℕ) → other.0 ≢ n
      → writer_of (log_effects start.world.log) vid ≡ Some (holder_at other session)
      → may_take_writer vid (holder_at other session) entry ≡ false
  spares_others other session vid apart writer =
      other_spares log other me (λ same. apart (same ∙ number)) entry (All-head (IsEntryOf me) entry so.0 first_own)
      (snaps script range start.world began n host there up up_so (claimed_in_worlds script range start.world began) entry so) session vid
      writer

  module _ (req : ℕ) (work : Work) (got : tree.get host.node.gateway.works req ≡ Some work) (request : Request)
      (asked : tree.get host.node.requests req ≡ Some request) (vid : ℕ)
      (writer : writer_of (log_effects start.world.log) vid ≡ Some (holder_at host.node.me request.session))
      (kept : list_any (unlocks request.session vid) host.node.outbox ≡ false) where
    abbrev Spared : Type 0
    Spared = may_take_writer vid (holder_at host.node.me request.session) entry ≡ false

    -- a command that waits for the decision on an entry has no work
    no_publisher : (p : Publisher start.world.log entry so.0 host.node.peer.entries (length host.node.peer.entries) host.node.me
        (unread_of start.world.log host.node) host.node.requests host.node.sessions first_own awaits has)
        → writer_of (log_effects start.world.log) vid ≡ Some (holder_at host.node.me p.request.session) → ⊥
    no_publisher p theirs =
        let session : p.request.session ≡ request.session
        = ap (λ (h : Holder). h.session) (same_Some (holder_at me p.request.session) (holder_at me request.session)
        (sym theirs ∙ writer)) in
        let named : command_in request.session host.node.sessions ≡ Some p.req
        = subst (λ (k : ℕ). command_in k host.node.sessions ≡ Some p.req) session
        (well.alone.named p.req p.request p.there (ap is_disk_course p.command)) in
        let same : req ≡ p.req = well.alone.alone request.session p.req req request named asked refl in
        let wanted = subst (λ (o : Option Request). IsWantedAt host.node.sessions o work.work)
        (ap (tree.get host.node.requests) same ∙ p.there)
        (well.wanted req work.work (inl (work, got, refl))) in
        let staged = subst (λ (course : Course). IsWorkWanted (inode_open (session_among p.request.session host.node.sessions).disk) course
        work.work)
        p.command wanted in
        let put = subst (IsAwaitedAtOpStage (op_acts.Work work.work)) p.at staged in
        never entry put
      where
        never : (appended : Entry) → op_acts.Work work.work ≡ op_acts.Append appended → ⊥
        never appended is = cc (is)

    abbrev Put : Type 0
    Put = Publisher start.world.log entry so.0 host.node.peer.entries (length host.node.peer.entries) host.node.me
        (unread_of start.world.log host.node) host.node.requests host.node.sessions first_own awaits has

    here : (put : Entry) → entry ≡ put → 1 ≤ times put (entry ∷ so.0)
    here put same =
        subst (λ (e : Entry). 1 ≤ times e (entry ∷ so.0)) same
        (here_once log entry so.0 host.node.peer.entries (length host.node.peer.entries) me host.node.requests host.node.sessions first_own
        has)

    who_puts : (put : Entry) → entry ≡ put → (IsFirstEntry put → ⊥) → IsCommandEntry host.node.me put → Put
    who_puts put same not_first is =
        publisher log entry so.0 host.node.peer.entries (length host.node.peer.entries) me (unread_of log host.node) host.node.requests
        host.node.sessions first_own awaits has (λ first. not_first (subst IsFirstEntry same first))
        (subst (IsCommandEntry me) (sym same) is)

    kept_by : (put : Entry) → entry ≡ put → (p : Put)
        → IsStageKept start.world.log (entry ∷ so.0) host.node.peer.entries (length host.node.peer.entries) host.node.me p.request.session
        (opened_in p.request.session host.node.sessions) (Publishing put p.made)
    kept_by put same p =
        subst (IsStageKept log (entry ∷ so.0) host.node.peer.entries (length host.node.peer.entries) me p.request.session
        (opened_in p.request.session host.node.sessions)) (p.at ∙ ap (λ (e : Entry). Publishing e p.made) same)
        (has.commands p.req p.request p.op p.there p.command)

    reserved_writes : (p : Put) (of : ℕ)
        → HasReservation start.world.log (entry ∷ so.0) host.node.me p.request.session (epoch_of host.node.peer.entries) of → of ≡ vid → ⊥
    reserved_writes p of reserved same =
        no_publisher p (ap (writer_of (log_effects log)) (sym same)
        ∙ reservation-writer log (entry ∷ so.0) me p.request.session (epoch_of host.node.peer.entries) of reserved)

    abbrev IsSparedBy : Entry → Type 0
    IsSparedBy put = may_take_writer vid (holder_at host.node.me request.session) put ≡ false

    untaken : (b : Bool) → (b ≡ true → ⊥) → b ≡ false
    untaken true never = absurd (never refl)
    untaken false never = refl

    spares_own : (put : Entry) → entry ≡ put → IsSparedBy put
    spares_own (Format members) same = refl
    spares_own (Join of zone vnodes) same = refl
    spares_own (Leave of) same = absurd (subst (IsEntryOf me) same (All-head (IsEntryOf me) entry so.0 first_own))
    spares_own (Reweight of vnodes) same = refl
    spares_own (Recovered of epoch) same = refl
    spares_own (Reserve by of name origin) same = refl
    spares_own (Publish by of) same = untaken (may_take_writer vid (holder_at me request.session) (Publish by of)) (λ takes.
        let mine : by ≡ me = subst (IsEntryOf me) same (All-head (IsEntryOf me) entry so.0 first_own) in
        let p = who_puts (Publish by of) same (λ first. first) mine in
        reserved_writes p of.0 (kept_by (Publish by of) same p (here (Publish by of) same))
        (eqb-true of.0 vid (and_parts (of.0 == vid) (by.0 == me.0) takes).0))
    spares_own (Clone by of) same = untaken (may_take_writer vid (holder_at me request.session) (Clone by of)) (λ takes.
        let mine : by ≡ me = subst (IsEntryOf me) same (All-head (IsEntryOf me) entry so.0 first_own) in
        let p = who_puts (Clone by of) same (λ first. first) mine in
        reserved_writes p of.0 (kept_by (Clone by of) same p (here (Clone by of) same))
        (eqb-true of.0 vid (and_parts (of.0 == vid) (by.0 == me.0) takes).0))
    spares_own (Snapshot by old of) same =
        untaken (may_take_writer vid (holder_at me request.session) (Snapshot by old of)) (λ takes. by_parts (old.0 == vid) refl takes)
      where
        p : Put
        p = who_puts (Snapshot by old of) same (λ first. first) (subst (IsEntryOf me) same (All-head (IsEntryOf me) entry so.0 first_own))

        kept_so : IsReplacing start.world.log (entry ∷ so.0) host.node.peer.entries (length host.node.peer.entries) host.node.me
            p.request.session
            (opened_in p.request.session host.node.sessions) old of (Snapshot by old of) p.made
        kept_so = kept_by (Snapshot by old of) same p

        by_parts : (b : Bool) → (old.0 == vid) ≡ b → (b || (of.0 == vid && by.0 == me.0)) ≡ true → ⊥
        by_parts true is takes =
            no_publisher p (ap (writer_of (log_effects log)) (sym (eqb-true old.0 vid is))
            ∙ lock-writer log (entry ∷ so.0) me p.request.session (epoch_of host.node.peer.entries) old.0
            (kept_so.of_disk (here (Snapshot by old of) same)))
        by_parts false is takes =
            reserved_writes p of.0 (kept_so.to_put (here (Snapshot by old of) same)).has
            (eqb-true of.0 vid (and_parts (of.0 == vid) (by.0 == me.0) takes).0)
    spares_own (Delete by of name tag) same = refl
    spares_own (Lock by of name tag) same = refl
    spares_own (Unlock by of id) same = untaken (may_take_writer vid (holder_at me request.session) (Unlock by of id)) (λ takes.
        let (id_so, whose) = and_parts (id.0 == vid) (me.0 == by.0 && request.session == of) takes in
        let session_so : request.session ≡ of = eqb-true request.session of (and_parts (me.0 == by.0) (request.session == of) whose).1 in
        let is : unlocks request.session vid entry ≡ true
        = ap (unlocks request.session vid) same ∙ and_from (of == request.session) (id.0 == vid)
        (eq-eqb of request.session (sym session_so)) id_so in
        let none = (or_parts (unlocks request.session vid entry) (list_any (unlocks request.session vid) so.0)
        (ap (list_any (unlocks request.session vid)) (sym so.1) ∙ kept)).0 in
        both_ways (unlocks request.session vid entry) none is)

  -- ---- what a put entry owes

  module _ (awaited : PacketsAreOfOpenWorks start.world.hosts start.world.wire start.past.attempts) (j : ℕ) (attempt : AttemptRecord)
      (got : slice_get start.past.attempts j ≡ Some attempt) (under : IsUnderTheGrant start.world.log attempt (vid_of (object_of attempt)))
      (takes : takes_writer (vid_of (object_of attempt)) attempt.gateway (outcome (log_effects start.world.log) entry).effect ≡ true) where
    abbrev id : ℕ
    id = vid_of (object_of attempt)

    may_take : may_take_writer (vid_of (object_of attempt)) (session_holder attempt.gateway.0 attempt.session) entry ≡ true
    may_take = taken_by_entry log entry id (session_holder attempt.gateway.0 attempt.session) under.writer takes

    quiet : attempt.gateway.0 ≡ n → IsQuiet start.world.wire attempt
    quiet gateway =
        record {
          none = λ place target among. by_test place target among (is_name_in_wire start.world.wire (message_name_at attempt place)) refl;
        }
      where
        by_test : (place : ℕ) (target : NodeId) → slice_get attempt.targets place ≡ Some target → (b : Bool)
            → is_name_in_wire start.world.wire (message_name_at attempt place) ≡ b
            → is_name_in_wire start.world.wire (message_name_at attempt place) ≡ false
        by_test place target among false none = none
        by_test place target among true flies =
            let a = awaited.each n host there up_so j attempt got gateway place target (record { among = among; there = flies }) in
            let w = (works_may-at_start script range start began).each n host there up_so attempt.req a.work a.opened.there
            a.opened.making in
            let same : vid_of (oid_of a.work.work) ≡ id = ap (λ work. vid_of (oid_of work)) (sym a.opened.same.work) in
            let writer : writer_of (log_effects log) id ≡ Some (holder_at me w.request.session)
            = ap (writer_of (log_effects log)) (sym same) ∙ w.may.writer
            ∙ ap (λ (k : ℕ). Some (record { node = record { 0 = k }; session = w.request.session })) (sym number) in
            let kept : list_any (unlocks w.request.session id) host.node.outbox ≡ false
            = ap (λ (v : ℕ). list_any (unlocks w.request.session v) host.node.outbox) (sym same) ∙ w.may.kept in
            let holder : session_holder attempt.gateway.0 attempt.session ≡ holder_at me w.request.session
            = same_Some (session_holder attempt.gateway.0 attempt.session) (holder_at me w.request.session) (sym under.writer ∙ writer) in
            let spared = spares_own attempt.req a.work a.opened.there w.request w.there id writer kept entry refl in
            let taken : may_take_writer id (holder_at me w.request.session) entry ≡ true
            = ap (λ (h : Holder). may_take_writer id h entry) (sym holder) ∙ may_take in
            absurd (both_ways (may_take_writer id (holder_at me w.request.session) entry) spared taken)

    pub ends_put : EndsInOrder start.world.log entry start.world.wire attempt
    ends_put = ⊎_elim
        (λ (own : attempt.gateway.0 ≡ n). inl (quiet own))
        (λ (apart : attempt.gateway.0 ≢ n).
        absurd (both_ways (may_take_writer id (session_holder attempt.gateway.0 attempt.session) entry)
        (spares_others attempt.gateway attempt.session id apart under.writer) may_take))
        (cases_eq attempt.gateway.0 n)
