-- The attempts of a request that may still make something are under the grant, on each id that its session may write: over each change of a
-- moment, and so in every run in range. So only the writer of an id has creates and writes open on it, with attempts under its grant.
use Rattle.std.proofs.Common.{◌≡◌, inl, ⊎_elim, ℕ, ◌≤◌, Bool, true, false, cond, List, [], ◌∷◌, ◌++◌, Option, Some, None, refl}
use Rattle.std.proofs.Common.{sym, ap, subst, ◌∙◌}
use Rattle.std.specs.FinMap as tree
use Rattle.object_id.specs.declared.entry.Entry.{Entry}
use Rattle.object_id.specs.declared.entry.Entry.TheVariants as entries
use Rattle.object_id.specs.Oid.{vid_of}
use Rattle.cluster_script.specs.declared.statement.Statement.{Statement}
use Rattle.cluster_script.specs.Settings.{vnodes_of}
use Rattle.disk_lock.specs.declared.holder.Holder.{Holder}
use Rattle.epoch_log.specs.Epochs.{epoch_of}
use Rattle.peer_proto.specs.Work.{oid_of}
use Rattle.peer_proto.specs.declared.work.ObjWork.{ObjWork}
use Rattle.vdi_directory.specs.Decisions.{outcome, log_effects}
use Rattle.vdi_ops.specs.declared.act.OpAct.TheVariants as op_acts
use Rattle.vdi_ops.specs.Op.{OpStage, Asked, Working, Publishing, Answered, IsAwaitedAtOpStage}
use Rattle.inode.specs.Layout.{Content}
use Rattle.sheep_node.specs.declared.course.Course.{Course}
use Rattle.sheep_node.specs.declared.course.Course.TheVariants.{Waiting, Driving, Commanding, Checking, DoingWork, AwaitingDecision}
use Rattle.sheep_node.specs.declared.course.Request.{Request}
use Rattle.sheep_node.specs.Courses.{inode_open}
use Rattle.sheep_node.specs.SessionQueues.{session_among}
use Rattle.sheep_node.specs.WantedWorks.{IsWorkWanted, IsWantedAt}
use Rattle.sheep_world.specs.Began.{Began}
use Rattle.sheep_world.specs.MembershipChanges.{join_of, last_weight}
use Rattle.sheep_world.specs.NodeCauses.{NodeCause, GuestAsks, RequestComes, ReplyComes, LossIsTold, EntryIsRead, EntryIsPut, RecoveryTicks}
use Rattle.sheep_world.specs.NodeCauses.{WorkIsRetried, IsCause, log_after_cause}
use Rattle.sheep_world.specs.NodeCauses.{ClientAsks}
use Rattle.sheep_world.specs.Step.{EventOutcome}
use Rattle.sheep_world.specs.World.{Host, is_host_up}
use Rattle.sheep_world.specs.RunsWithAsks.{Move}
use Rattle.overlap_law.specs.Attempts.{AttemptRecord, object_of}
use Rattle.overlap_law.specs.Grants.{gives, given_to, granted_in, writer_of}
use Rattle.overlap_law.specs.GrantedAttempts.{is_past_works, has_made_all, AttemptsAreUnderTheGrant}
use Rattle.overlap_law.specs.MomentChanges as moments
use Rattle.overlap_law.specs.MomentChanges.{MomentChange, MomentTrail, RunsAreInRange}
use Rattle.overlap_law.specs.Past.{MomentWithPast, moment_after, first_moment, run_with_past}
use Rattle.overlap_law.specs.Writers.{session_holder, OnlyTheWriterWrites}
use Rattle.overlap_law.proofs.DatedEffects.{last_epoch-push}
use Rattle.overlap_law.proofs.DrivenInMoments.{RequestsHaveWorked, change_worked}
use Rattle.overlap_law.proofs.FreshRequests.{none_for_new}
use Rattle.overlap_law.proofs.GrantsAtPuts.{gives_not}
use Rattle.overlap_law.proofs.LogsOfMoments.{log_of_change, log_by_changes}
use Rattle.overlap_law.proofs.MakingCourses.{WasMaking, HadMaking, each_had_making}
use Rattle.overlap_law.proofs.MomentTrails.{event_trail}
use Rattle.overlap_law.proofs.NewAttempts.{WasAttempt, IsOpened, come_from}
use Rattle.overlap_law.proofs.NoRecoveredDue.{began-with_past}
use Rattle.overlap_law.proofs.RunsByEvents.{KeptByEvents, run-kept_by_events}
use Rattle.overlap_law.proofs.StartedAttempts.{StartedAt, opening_started, events_started}
use Rattle.overlap_law.proofs.TouchedInMoments.{BeginsWith}
use Rattle.overlap_law.proofs.TurnsInRuns.{opened_writes, pushed, never_pushed, up_not_lost}
use Rattle.overlap_law.proofs.UnansweredInMoments.{IsNewer}
use Rattle.overlap_law.proofs.WorkedCourses.{may_have_worked}
use Rattle.overlap_law.proofs.WorksInMoments.{well_along}
use Rattle.overlap_law.proofs.WriterChanges.{entry_gives_writer, entry_gives_to}
use Rattle.overlap_law.proofs.WritersOfWorks.{works_may-in_run}
use Rattle.overlap_law.proofs.GoingOn.{next_by}

-- ---- an entry gives nothing to a session of which a request works

-- to no session of which a request has worked and may still make something
abbrev GivesToNone : MomentWithPast → Entry → Type 0
GivesToNone before entry = (n : ℕ) (host : Host) → tree.get before.world.hosts n ≡ Some host → (req : ℕ) (request : Request)
    → tree.get host.node.requests req ≡ Some request → may_have_worked request.course ≡ true → has_made_all request.course ≡ false
    → given_to (outcome (log_effects before.world.log) entry).effect ≡ Some (session_holder n request.session) → ⊥

abbrev GivesNoneAtEntries : MomentWithPast → MomentWithPast → Type 0
GivesNoneAtEntries before after = (entry : Entry) → after.world.log ≡ before.world.log ++ entry ∷ [] → GivesToNone before entry

module _ (before after : MomentWithPast) where
  none_put : after.world.log ≡ before.world.log → GivesNoneAtEntries before after
  none_put same entry more = absurd (never_pushed before.world.log entry (sym same ∙ more))

  one_put : (last : Entry) → after.world.log ≡ before.world.log ++ last ∷ [] → GivesToNone before last → GivesNoneAtEntries before after
  one_put last is none entry more = subst (GivesToNone before) (pushed before.world.log last entry (sym is ∙ more)) none

  -- an entry that gives nothing
  gives_nobody : (last : Entry) → given_to (outcome (log_effects before.world.log) last).effect ≡ None → GivesToNone before last
  gives_nobody last nobody n host there req request asked worked making to = absurd (cc (sym nobody ∙ to))

module _ (script : List Statement) (range : RunsAreInRange script) (start : MomentWithPast) (began : Began script start.world) where
  stepped_gives : (n : ℕ) (host : Host) → tree.get start.world.hosts n ≡ Some host → is_host_up host ≡ true → (cause : NodeCause)
      → IsCause script start.world n host cause → (entry : Entry) → log_after_cause cause start.world.log ≡ start.world.log ++ entry ∷ []
      → GivesToNone start entry
  stepped_gives n host there up (GuestAsks session req ask) so entry more = absurd (never_pushed start.world.log entry more)
  stepped_gives n host there up (RequestComes name to request) so entry more = absurd (never_pushed start.world.log entry more)
  stepped_gives n host there up (ReplyComes name from rsp) so entry more = absurd (never_pushed start.world.log entry more)
  stepped_gives n host there up (LossIsTold name packet) so entry more = absurd (never_pushed start.world.log entry more)
  stepped_gives n host there up (EntryIsRead read) so entry more = absurd (never_pushed start.world.log entry more)
  stepped_gives n host there up (EntryIsPut put) so entry more =
      subst (GivesToNone start) (pushed start.world.log put entry more)
      (λ q at found req request asked worked making to.
      gives_not script range start began n host there (up_not_lost script range start began host up) put so q at found req request asked
      worked making to)
  stepped_gives n host there up RecoveryTicks so entry more = absurd (never_pushed start.world.log entry more)
  stepped_gives n host there up WorkIsRetried so entry more = absurd (never_pushed start.world.log entry more)
  stepped_gives n host there up (ClientAsks req ask) so entry more = absurd (never_pushed start.world.log entry more)

  gives_none : {before after : MomentWithPast} → MomentChange script start before after → GivesNoneAtEntries before after
  gives_none {before} {after} (moments.StepBegins stepping is by) = none_put before after (log_by_changes stepping.cause by start.world.log)
  gives_none {before} {after} (moments.StepGoesOn stepping so_far next is by within) = none_put before after refl
  gives_none (moments.StepIsMade stepping is by) = stepped_gives stepping.n stepping.host is.there is.up stepping.cause is.caused
  gives_none {before} {after} (moments.LossIsUntold event made happened h) =
      none_put before after (ap (λ (m : EventOutcome). m.world.log) (sym h.made_so))
  gives_none {before} {after} (moments.DeliveryIsUnread event made happened h) =
      none_put before after (ap (λ (m : EventOutcome). m.world.log) (sym h.made_so))
  gives_none {before} {after} (moments.NodeIsLost event made happened h) =
      none_put before after (ap (λ (m : EventOutcome). m.world.log) (sym h.made_so))
  gives_none {before} {after} (moments.NodeLeaves event made happened h) =
      one_put before after (entries.Leave (record { 0 = h.n })) (ap (λ (m : EventOutcome). m.world.log) (sym h.made_so))
      (gives_nobody before after (entries.Leave (record { 0 = h.n })) refl)
  gives_none {before} {after} (moments.NodeIsReweighted event made happened h) =
      one_put before after (entries.Reweight (record { 0 = h.n }) h.vnodes) (ap (λ (m : EventOutcome). m.world.log) (sym h.made_so))
      (gives_nobody before after (entries.Reweight (record { 0 = h.n }) h.vnodes) refl)
  gives_none {before} {after} (moments.NodeJoins event made happened h) =
      one_put before after (join_of script h.n (vnodes_of script)) (ap (λ (m : EventOutcome). m.world.log) (sym h.made_so))
      (gives_nobody before after (join_of script h.n (vnodes_of script)) refl)
  gives_none {before} {after} (moments.NodeComesBack event made happened h) =
      one_put before after (join_of script h.n (last_weight start.world.log h.n)) (ap (λ (m : EventOutcome). m.world.log) (sym h.made_so))
      (gives_nobody before after (join_of script h.n (last_weight start.world.log h.n)) refl)
  gives_none {before} {after} (moments.PhaseEnds event made happened h) =
      none_put before after (ap (λ (m : EventOutcome). m.world.log) (sym h.made_so))

  -- ---- each change

  module _ {before after : MomentWithPast} (change : MomentChange script start before after) (started : StartedAt script start)
      (worked : RequestsHaveWorked before) (granted : AttemptsAreUnderTheGrant before.world.log before.world.hosts
      before.past.attempts) where
    module _ (n : ℕ) (host : Host) (there : tree.get after.world.hosts n ≡ Some host) (up : host.is_lost ≡ false) (j : ℕ)
        (attempt : AttemptRecord)
        (gateway : attempt.gateway.0 ≡ n) (request : Request) (asked : tree.get host.node.requests attempt.req ≡ Some request)
        (making : has_made_all request.course ≡ false)
        (writer : writer_of (log_effects after.world.log) (vid_of (object_of attempt)) ≡ Some (session_holder n request.session)) where
      abbrev id : ℕ
      id = vid_of (object_of attempt)

      abbrev IsGranted : Type 0
      IsGranted = granted_in after.world.log (vid_of (object_of attempt)) ≤ attempt.epoch

      module _ (w : WasAttempt before j attempt) (had : HadMaking script start before n host)
          (was : WasMaking attempt.req request had.old.node.requests) where
        of_gateway : w.was.gateway.0 ≡ n
        of_gateway = ap (λ (a : AttemptRecord). a.gateway.0) w.same ∙ gateway

        asked_then : tree.get had.old.node.requests w.was.req ≡ Some was.request
        asked_then = ap (λ (a : AttemptRecord). tree.get had.old.node.requests a.req) w.same ∙ was.there

        session_then : session_holder n was.request.session ≡ session_holder n request.session
        session_then = ap (session_holder n) was.session

        -- if the session could write the id before
        granted_before : writer_of (log_effects before.world.log) (vid_of (object_of attempt)) ≡ Some (session_holder n request.session)
            → granted_in before.world.log (vid_of (object_of attempt)) ≤ attempt.epoch
        granted_before wrote =
            subst (λ (a : AttemptRecord). granted_in before.world.log (vid_of (object_of a)) ≤ a.epoch) w.same
            (granted.each n had.old had.there had.up j w.was w.at of_gateway was.request asked_then was.making
            (ap (λ (a : AttemptRecord). writer_of (log_effects before.world.log) (vid_of (object_of a))) w.same ∙ wrote
            ∙ ap (λ (h : Holder). Some h) (sym session_then)))

        -- it isn't given the id by the change
        not_given : (entry : Entry) → after.world.log ≡ before.world.log ++ entry ∷ []
            → gives (vid_of (object_of attempt)) (outcome (log_effects before.world.log) entry).effect ≡ true → ⊥
        not_given entry more given =
            let to : given_to (outcome (log_effects before.world.log) entry).effect ≡ Some (session_holder n was.request.session)
            = sym (entry_gives_to before.world.log entry id given) ∙ sym (ap (λ (log : List Entry). writer_of (log_effects log) id) more)
            ∙ writer
            ∙ ap (λ (h : Holder). Some h) (sym session_then) in
            gives_none change entry more n had.old had.there w.was.req was.request asked_then
            (worked n had.old had.there had.up j w.was w.at of_gateway was.request asked_then) was.making to

        by_entry : (entry : Entry) → after.world.log ≡ before.world.log ++ entry ∷ [] → (b : Bool)
            → gives (vid_of (object_of attempt)) (outcome (log_effects before.world.log) entry).effect ≡ b → IsGranted
        by_entry entry more true given = absurd (not_given entry more given)
        by_entry entry more false kept =
            let wrote : writer_of (log_effects before.world.log) id ≡ Some (session_holder n request.session)
            = ⊎_elim
            (λ (wrote : writer_of (log_effects before.world.log) id ≡ Some (session_holder n request.session)). wrote)
            (λ (given : gives id (outcome (log_effects before.world.log) entry).effect ≡ true). absurd (not_given entry more given))
            (entry_gives_writer before.world.log entry id (session_holder n request.session)
            (sym (ap (λ (log : List Entry). writer_of (log_effects log) id) more) ∙ writer)) in
            let same : granted_in after.world.log id ≡ granted_in before.world.log id
            = ap (λ (log : List Entry). granted_in log id) more ∙ last_epoch-push (gives id) before.world.log entry
            ∙ ap (λ (b : Bool). cond b (epoch_of (before.world.log ++ entry ∷ [])) (granted_in before.world.log id)) kept in
            subst (λ (k : ℕ). k ≤ attempt.epoch) (sym same) (granted_before wrote)

        was_granted : IsGranted
        was_granted = ⊎_elim
            (λ (same : after.world.log ≡ before.world.log).
            subst (λ (log : List Entry). granted_in log id ≤ attempt.epoch) (sym same)
            (granted_before (sym (ap (λ (log : List Entry). writer_of (log_effects log) id) same) ∙ writer)))
            (λ (put : (entry : Entry) × (after.world.log ≡ before.world.log ++ entry ∷ [])).
            by_entry put.0 put.1 (gives id (outcome (log_effects before.world.log) put.0).effect) refl)
            (log_of_change script change)

      old_granted : WasAttempt before j attempt → IsGranted
      old_granted w = ⊎_elim
          (λ (had : HadMaking script start before n host). ⊎_elim
          (λ (was : WasMaking attempt.req request had.old.node.requests). was_granted w had was)
          (λ (b : BeginsWith script start before attempt.req).
          absurd (none_for_new script start before started j w.was w.at
          (subst (BeginsWith script start before) (sym (ap (λ (a : AttemptRecord). a.req) w.same)) b)))
          (had.requests attempt.req request asked making))
          (λ (newer : IsNewer before n host). absurd (newer.none attempt.req request asked))
          (each_had_making script range start began change n host there up)

    pub keeps_granted : AttemptsAreUnderTheGrant after.world.log after.world.hosts after.past.attempts
    keeps_granted = record {
      each = λ n host there up j attempt got gateway request asked making writer. ⊎_elim
          (λ (w : WasAttempt before j attempt). old_granted n host there up j attempt gateway request asked making writer w)
          (λ (o : IsOpened script start after attempt). (opened_writes script range start began change attempt o).since)
          (come_from script range start began change j attempt got);
    }

-- ---- every run

module _ (script : List Statement) (range : RunsAreInRange script) where
  record HoldsWithin (moment : MomentWithPast) : Type 0 where
    pub worked : RequestsHaveWorked moment
    pub granted : AttemptsAreUnderTheGrant moment.world.log moment.world.hosts moment.past.attempts

  record HoldsAt (moment : MomentWithPast) : Type 0 where
    pub within : HoldsWithin moment
    pub started : StartedAt script moment

  along : (start : MomentWithPast) → Began script start.world → HoldsAt start → {moment : MomentWithPast} → MomentTrail script start moment
      → HoldsWithin moment
  along start began holds moments.Still = holds.within
  along start began holds (moments.Then {moment} {next} trail change) =
      let before = along start began holds trail in
      record {
        worked = change_worked script range start began moment next change holds.started before.worked;
        granted = keeps_granted script range start began change holds.started before.worked before.granted;
      }

  opens_so : HoldsAt (first_moment script)
  opens_so = record {
    within = record {
      worked = λ n host there up j attempt got. absurd (cc (got));
      granted = record { each = λ n host there up j attempt got. absurd (cc (got)) };
    };
    started = opening_started script;
  }

  events_keep : KeptByEvents script HoldsAt
  events_keep event before made began is holds = record {
    within = along before began holds (event_trail script is.move before (moment_after script event before made)
        (next_by script event before made is));
    started = events_started script range event before made began is holds.started;
  }

  holds_then : (events : List Move) (moment : MomentWithPast) → run_with_past script events ≡ Some moment → HoldsAt moment
  holds_then = run-kept_by_events script HoldsAt opens_so events_keep

  pub under_the_grant-in_run : (events : List Move) (start moment : MomentWithPast) → run_with_past script events ≡ Some start
      → MomentTrail script start moment → AttemptsAreUnderTheGrant moment.world.log moment.world.hosts moment.past.attempts
  under_the_grant-in_run events start moment is trail =
      (along start (began-with_past script events start is) (holds_then events start is) trail).granted

  -- ---- so only the writer writes

  stage_makes : (stage : OpStage) (work : ObjWork) → IsAwaitedAtOpStage (op_acts.Work work) stage → is_past_works stage ≡ false
  stage_makes (Asked entry) work wanted = refl
  stage_makes (Working vid task) work wanted = refl
  stage_makes (Publishing entry made) work wanted = absurd (cc (wanted))
  stage_makes (Answered change) work (reply, same) = absurd (cc (same))

  -- a request with a work hasn't made all
  course_makes : (inode : Option Content) (course : Course) (work : ObjWork) → IsWorkWanted inode course work → has_made_all course ≡ false
  course_makes inode (Waiting ask) work wanted = refl
  course_makes inode (Driving driver) work wanted = refl
  course_makes inode (Commanding op) work wanted = stage_makes op.stage work wanted
  course_makes inode (Checking check) work wanted = refl
  course_makes inode (DoingWork asked) work wanted = refl
  course_makes inode (AwaitingDecision entry) work wanted = refl

  pub only_writer-in_run : (events : List Move) (start moment : MomentWithPast) → run_with_past script events ≡ Some start
      → MomentTrail script start moment → OnlyTheWriterWrites moment.world.log moment.world.hosts moment.past.attempts
  only_writer-in_run events start moment is trail = record {
    each = λ n host there up req work got making.
        let w = (works_may-in_run script range events start moment is trail).each n host there up req work got making in
        let well = well_along script range start (began-with_past script events start is) trail n host there in
        let wanted = subst (λ (o : Option Request). IsWantedAt host.node.sessions o work.work) w.there
        (well.wanted req work.work (inl (work, got, refl))) in
        let makes = course_makes (inode_open (session_among w.request.session host.node.sessions).disk) w.request.course work.work wanted in
        record {
          request = w.request;
          there = w.there;
          may = w.may;
          granted = λ j attempt at gateway own same.
              let object : object_of attempt ≡ oid_of work.work = ap oid_of same in
              subst (λ (oid : ℕ). granted_in moment.world.log (vid_of oid) ≤ attempt.epoch) object
              ((under_the_grant-in_run events start moment is trail).each n host there up j attempt at gateway w.request
              (ap (tree.get host.node.requests) own ∙ w.there) makes
              (ap (λ (oid : ℕ). writer_of (log_effects moment.world.log) (vid_of oid)) object ∙ w.may.writer));
        };
  }
