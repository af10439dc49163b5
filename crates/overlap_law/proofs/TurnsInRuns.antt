-- Writers take turns over each change of a moment; so there is one writer of each id, in every run in range.
use Rattle.std.proofs.Common.{◌≡◌, inl, inr, ⊎_elim, ℕ, suc, ◌+◌, ◌-◌, ◌≤◌, ◌<◌, true, false, List, [], ◌∷◌, ◌++◌, length, Some, refl, sym}
use Rattle.std.proofs.Common.{ap, subst, ◌∙◌, arith, not}
use Rattle.std.specs.List.{slice_get}
use Rattle.std.specs.FinMap as tree
use Rattle.std.proofs.lemmas.Bool.{and_parts, both_ways, cases_lt, eqb-true, not-true}
use Rattle.std.proofs.lemmas.Option.{same_Some}
use Rattle.proof_tools.proofs.FiniteMaps.{get-insert_same}
use Rattle.object_id.specs.declared.entry.Entry.{Entry}
use Rattle.object_id.specs.declared.entry.Entry.TheVariants as entries
use Rattle.object_id.specs.Oid.{vid_of}
use Rattle.cluster_script.specs.declared.statement.Statement.{Statement}
use Rattle.cluster_script.specs.Settings.{vnodes_of}
use Rattle.disk_lock.specs.declared.holder.Holder.{Holder}
use Rattle.epoch_log.specs.Epochs.{epoch_of}
use Rattle.vdi_directory.specs.Decisions.{outcome, log_effects}
use Rattle.sheep_node.specs.May.{has_numbers}
use Rattle.sheep_node.proofs.LogLaws.{epoch_more}
use Rattle.sheep_world.specs.Began.{Began}
use Rattle.sheep_world.specs.MembershipChanges.{join_of, last_weight}
use Rattle.sheep_world.specs.NodeCauses.{NodeCause, GuestAsks, RequestComes, ReplyComes, LossIsTold, EntryIsRead, EntryIsPut, RecoveryTicks}
use Rattle.sheep_world.specs.NodeCauses.{WorkIsRetried, ClientAsks, IsCause, host_with_node, log_after_cause}
use Rattle.sheep_world.specs.Step.{EventOutcome}
use Rattle.sheep_world.specs.World.{Host, is_host_up}
use Rattle.sheep_world.specs.RunsWithAsks.{Move}
use Rattle.overlap_law.specs.Attempts.{AttemptRecord, object_of}
use Rattle.overlap_law.specs.Each.{EachAttempt}
use Rattle.overlap_law.specs.Grants.{leaves_of, leave_of, takes_writer, may_take_writer}
use Rattle.overlap_law.specs.Past.{MomentWithPast, run_with_past}
use Rattle.overlap_law.specs.MomentChanges as moments
use Rattle.overlap_law.specs.MomentChanges.{MomentChange, MomentTrail, RunsAreInRange, KeptByChanges}
use Rattle.overlap_law.specs.OpenWorks.{PacketsAreOfOpenWorks}
use Rattle.overlap_law.specs.TiedAttempts.{IsTied}
use Rattle.overlap_law.specs.Writers.{session_holder, IsUnderTheGrant, EndsInOrder, AttemptsHaveBegun, ThereIsOneWriter, WritersTakeTurns}
use Rattle.overlap_law.proofs.AwaitedInMoments.{change_awaited, awaited_kept}
use Rattle.overlap_law.proofs.EpochsOfAttempts.{change_begun}
use Rattle.overlap_law.proofs.GoneInRuns.{at_end, at_push, all_fenced}
use Rattle.overlap_law.proofs.LeavesOfLog.{leaves_own}
use Rattle.overlap_law.proofs.LogsOfMoments.{log_by_changes, log_or_start}
use Rattle.overlap_law.proofs.NewAttempts.{WasAttempt, IsOpened, come_from}
use Rattle.overlap_law.proofs.ReadInMoments.{hosts_after_sound}
use Rattle.overlap_law.proofs.RunsByChanges.{on_the_way}
use Rattle.overlap_law.proofs.TakenIds.{taken_by_entry}
use Rattle.overlap_law.proofs.TiedInRuns.{change_tied}
use Rattle.overlap_law.proofs.TrafficWriters.{keeps_one_writer}
use Rattle.overlap_law.proofs.WritersEnd.{ends_put}
use Rattle.overlap_law.proofs.WritersOfWorks.{works_may-after}

-- what is pushed
pub pushed : {X : Type 0} (xs : List X) (x y : X) → xs ++ x ∷ [] ≡ xs ++ y ∷ [] → x ≡ y
pushed xs x y same = same_Some x y (sym (at_push xs x) ∙ ap (λ all. slice_get all (length xs)) same ∙ at_push xs y)

pub never_pushed : {X : Type 0} (xs : List X) (x : X) → xs ≡ xs ++ x ∷ [] → ⊥
never_pushed xs x same =
    let some = at_push xs x in
    let none = at_end xs in
    absurd (cc (sym none ∙ ap (λ all. slice_get all (length xs)) same ∙ some))

-- what each attempt of a writer owes at an entry
abbrev EndAll : MomentWithPast → Entry → Type 0
EndAll before entry = EachAttempt before.past.attempts (λ j attempt. IsUnderTheGrant before.world.log attempt (vid_of (object_of attempt))
    → takes_writer (vid_of (object_of attempt)) attempt.gateway (outcome (log_effects before.world.log) entry).effect ≡ true
    → EndsInOrder before.world.log entry before.world.wire attempt)

abbrev EndAtEntries : MomentWithPast → MomentWithPast → Type 0
EndAtEntries before after = (entry : Entry) → after.world.log ≡ before.world.log ++ entry ∷ [] → EndAll before entry

module _ (before after : MomentWithPast) where
  none_put : after.world.log ≡ before.world.log → EndAtEntries before after
  none_put same entry more = absurd (never_pushed before.world.log entry (sym same ∙ more))

  one_put : (last : Entry) → after.world.log ≡ before.world.log ++ last ∷ [] → EndAll before last → EndAtEntries before after
  one_put last is ends entry more = subst (EndAll before) (pushed before.world.log last entry (sym is ∙ more)) ends

  -- an entry that takes nothing
  spares_all : (last : Entry) → ((vid : ℕ) (writer : Holder) → may_take_writer vid writer last ≡ false) → EndAll before last
  spares_all last nothing j attempt got under takes =
      absurd (both_ways (may_take_writer (vid_of (object_of attempt)) (session_holder attempt.gateway.0 attempt.session) last)
      (nothing (vid_of (object_of attempt)) (session_holder attempt.gateway.0 attempt.session))
      (taken_by_entry before.world.log last (vid_of (object_of attempt)) (session_holder attempt.gateway.0 attempt.session) under.writer
      takes))

module _ (script : List Statement) (range : RunsAreInRange script) (start : MomentWithPast) (began : Began script start.world) where
  -- ---- a leave

  module _ (tied : IsTied start) (n : ℕ) (host : Host) (there : tree.get start.world.hosts n ≡ Some host)
      (counted : length (leaves_of start.world.log n) + 1 ≡ host.incarnation) where
    abbrev leave : Entry
    leave = entries.Leave (record { 0 = n })

    leaves_now : leave_of (start.world.log ++ entries.Leave (record { 0 = n }) ∷ []) n host.incarnation
        ≡ Some (epoch_of start.world.log + 1)
    leaves_now =
        let place : host.incarnation - 1 ≡ length (leaves_of start.world.log n) = omega (arith, counted) in
        ap (slice_get (leaves_of (start.world.log ++ leave ∷ []) n)) place
        ∙ ap (λ (leaves : List ℕ). slice_get leaves (length (leaves_of start.world.log n))) (leaves_own start.world.log n)
        ∙ at_push (leaves_of start.world.log n) (epoch_of start.world.log + 1)

    leave_ends : EndAll start (entries.Leave (record { 0 = n }))
    leave_ends j attempt got under takes =
        let may = taken_by_entry start.world.log leave (vid_of (object_of attempt)) (session_holder attempt.gateway.0 attempt.session)
        under.writer takes in
        let gateway : attempt.gateway.0 ≡ n = eqb-true attempt.gateway.0 n may in
        let at : tree.get start.world.hosts attempt.gateway.0 ≡ Some host = ap (tree.get start.world.hosts) gateway ∙ there in
        let most = tied.incarnations.began j attempt got host at in
        ⊎_elim
        (λ (earlier : attempt.incarnation < host.incarnation). inl (tied.incarnations.earlier j attempt got host at earlier))
        (λ (last : host.incarnation ≤ attempt.incarnation).
        let same : attempt.incarnation ≡ host.incarnation = omega (arith, most, last) in
        let next : epoch_of (start.world.log ++ leave ∷ []) ≡ suc (epoch_of start.world.log) = epoch_more start.world.log leave refl in
        let now : epoch_of (start.world.log ++ leave ∷ []) ≡ epoch_of start.world.log + 1 = omega (arith, next) in
        inr (
          (λ i. leave_of (start.world.log ++ leave ∷ []) (gateway i) (same i)) ∙ leaves_now ∙ ap (λ (k : ℕ). Some k) (sym now),
          omega (arith, now),
        ))
        (cases_lt attempt.incarnation host.incarnation)

  -- ---- each change

  pub up_not_lost : (host : Host) → is_host_up host ≡ true → host.is_lost ≡ false
  up_not_lost host up = not-true host.is_lost (and_parts (not host.is_lost) (has_numbers host.node) up).0

  stepped_ends : PacketsAreOfOpenWorks start.world.hosts start.world.wire start.past.attempts → (n : ℕ) (host : Host)
      → tree.get start.world.hosts n ≡ Some host → is_host_up host ≡ true → (cause : NodeCause) → IsCause script start.world n host cause
      → (entry : Entry) → log_after_cause cause start.world.log ≡ start.world.log ++ entry ∷ [] → EndAll start entry
  stepped_ends awaited n host there up (GuestAsks session req ask) so entry more = absurd (never_pushed start.world.log entry more)
  stepped_ends awaited n host there up (RequestComes name to request) so entry more = absurd (never_pushed start.world.log entry more)
  stepped_ends awaited n host there up (ReplyComes name from rsp) so entry more = absurd (never_pushed start.world.log entry more)
  stepped_ends awaited n host there up (LossIsTold name packet) so entry more = absurd (never_pushed start.world.log entry more)
  stepped_ends awaited n host there up (EntryIsRead read) so entry more = absurd (never_pushed start.world.log entry more)
  stepped_ends awaited n host there up (EntryIsPut put) so entry more =
      subst (EndAll start) (pushed start.world.log put entry more)
      (λ j attempt got under takes.
      ends_put script range start began n host there up (up_not_lost host up) put so awaited j attempt got under takes)
  stepped_ends awaited n host there up RecoveryTicks so entry more = absurd (never_pushed start.world.log entry more)
  stepped_ends awaited n host there up WorkIsRetried so entry more = absurd (never_pushed start.world.log entry more)
  stepped_ends awaited n host there up (ClientAsks req ask) so entry more = absurd (never_pushed start.world.log entry more)

  ends : {before after : MomentWithPast} → MomentChange script start before after → IsTied before
      → PacketsAreOfOpenWorks before.world.hosts before.world.wire before.past.attempts → EndAtEntries before after
  ends {before} {after} (moments.StepBegins stepping is by) tied awaited =
      none_put before after (log_by_changes stepping.cause by start.world.log)
  ends {before} {after} (moments.StepGoesOn stepping so_far next is by within) tied awaited = none_put before after refl
  ends (moments.StepIsMade stepping is by) tied awaited =
      stepped_ends awaited stepping.n stepping.host is.there is.up stepping.cause is.caused
  ends {before} {after} (moments.LossIsUntold event made happened h) tied awaited =
      none_put before after (ap (λ (m : EventOutcome). m.world.log) (sym h.made_so))
  ends {before} {after} (moments.DeliveryIsUnread event made happened h) tied awaited =
      none_put before after (ap (λ (m : EventOutcome). m.world.log) (sym h.made_so))
  ends {before} {after} (moments.NodeIsLost event made happened h) tied awaited =
      none_put before after (ap (λ (m : EventOutcome). m.world.log) (sym h.made_so))
  ends {before} {after} (moments.NodeLeaves event made happened h) tied awaited =
      one_put before after (entries.Leave (record { 0 = h.n })) (ap (λ (m : EventOutcome). m.world.log) (sym h.made_so))
      (leave_ends tied h.n h.host h.there (((all_fenced script range start.world began).each h.n h.host h.there).counted.member h.member))
  ends {before} {after} (moments.NodeIsReweighted event made happened h) tied awaited =
      one_put before after (entries.Reweight (record { 0 = h.n }) h.vnodes) (ap (λ (m : EventOutcome). m.world.log) (sym h.made_so))
      (spares_all before after (entries.Reweight (record { 0 = h.n }) h.vnodes) (λ vid writer. refl))
  ends {before} {after} (moments.NodeJoins event made happened h) tied awaited =
      one_put before after (join_of script h.n (vnodes_of script)) (ap (λ (m : EventOutcome). m.world.log) (sym h.made_so))
      (spares_all before after (join_of script h.n (vnodes_of script)) (λ vid writer. refl))
  ends {before} {after} (moments.NodeComesBack event made happened h) tied awaited =
      one_put before after (join_of script h.n (last_weight start.world.log h.n)) (ap (λ (m : EventOutcome). m.world.log) (sym h.made_so))
      (spares_all before after (join_of script h.n (last_weight start.world.log h.n)) (λ vid writer. refl))
  ends {before} {after} (moments.PhaseEnds event made happened h) tied awaited =
      none_put before after (ap (λ (m : EventOutcome). m.world.log) (sym h.made_so))

  -- where the log is as the event began with, it was so before the change
  log_before : {before after : MomentWithPast} → MomentChange script start before after → after.world.log ≡ start.world.log
      → after.world.log ≡ before.world.log
  log_before {before} {after} change same = ⊎_elim
      (λ (stays : after.world.log ≡ before.world.log). stays)
      (λ (first : before ≡ start). same ∙ ap (λ (m : MomentWithPast). m.world.log) (sym first))
      (log_or_start script change)

  -- ---- an attempt that begins

  module _ {before after : MomentWithPast} (change : MomentChange script start before after) where
    pub opened_writes : (attempt : AttemptRecord) → IsOpened script start after attempt
        → IsUnderTheGrant after.world.log attempt (vid_of (object_of attempt))
    opened_writes attempt o =
        let then = host_with_node o.stepping.host o.next.node in
        let at : tree.get after.world.hosts o.stepping.n ≡ Some then
        = ap (λ (m : MomentWithPast). tree.get m.world.hosts o.stepping.n) o.moment_so
        ∙ get-insert_same start.world.hosts o.stepping.n then in
        let w = (works_may-after script range start began change).each o.stepping.n then at (up_not_lost o.stepping.host o.is.up) o.req _
        o.at_gateway o.making in
        let read = ((hosts_after_sound script range start began change).each o.stepping.n then at).read in
        let same : w.request ≡ o.request
        = same_Some w.request o.request (sym w.there ∙ ap (λ requests. tree.get requests o.req) o.requests_so ∙ o.there) in
        let number : o.stepping.n ≡ o.lined.node.me.0 = sym read.own ∙ ap (λ m. m.0) o.me_so in
        let since = w.may.read in
        let epoch = o.epoch_so in
        subst (λ (a : AttemptRecord). IsUnderTheGrant after.world.log a (vid_of (object_of a))) o.opened
        (record {
          writer = w.may.writer ∙ (λ i. Some (session_holder (number i) (same i).session));
          since = omega (arith, since, epoch);
        })

    pub opened_at : (attempt : AttemptRecord) → after.past.attempts ≡ before.past.attempts ++ attempt ∷ []
        → IsOpened script start after attempt
    opened_at attempt more = ⊎_elim
        (λ (was : WasAttempt before (length before.past.attempts) attempt).
        let some = was.at in
        let none = at_end before.past.attempts in
        absurd (cc (none, some)))
        (λ (opened : IsOpened script start after attempt). opened)
        (come_from script range start began change (length before.past.attempts) attempt
        (ap (λ (all : List AttemptRecord). slice_get all (length before.past.attempts)) more ∙ at_push before.past.attempts attempt))

    begins : (attempt : AttemptRecord) → after.past.attempts ≡ before.past.attempts ++ attempt ∷ []
        → IsUnderTheGrant after.world.log attempt (vid_of (object_of attempt))
    begins attempt more = opened_writes attempt (opened_at attempt more)

    -- by then the log is as it was
    opened_log : (attempt : AttemptRecord) → IsOpened script start after attempt → after.world.log ≡ start.world.log
    opened_log attempt o = ap (λ (m : MomentWithPast). m.world.log) o.moment_so ∙ log_by_changes o.stepping.cause o.by start.world.log

    pub begins_before : (attempt : AttemptRecord) → after.past.attempts ≡ before.past.attempts ++ attempt ∷ []
        → IsUnderTheGrant before.world.log attempt (vid_of (object_of attempt))
    begins_before attempt more =
        subst (λ (log : List Entry). IsUnderTheGrant log attempt (vid_of (object_of attempt)))
        (log_before change (opened_log attempt (opened_at attempt more))) (begins attempt more)

    pub turns_taken : IsTied before → PacketsAreOfOpenWorks before.world.hosts before.world.wire before.past.attempts
        → WritersTakeTurns before.world.log after.world.log before.world.wire before.past.attempts after.past.attempts
    turns_taken tied awaited = record { begins = begins; ends = ends change tied awaited }

-- ---- every run

pub record HasOneWriter (moment : MomentWithPast) : Type 0 where
  pub tied : IsTied moment
  pub awaited : PacketsAreOfOpenWorks moment.world.hosts moment.world.wire moment.past.attempts
  pub begun : AttemptsHaveBegun moment.world.log moment.past.attempts
  pub one : ThereIsOneWriter moment.world.log moment.world.wire moment.past.attempts

module _ (script : List Statement) (range : RunsAreInRange script) where
  pub kept_one : KeptByChanges script HasOneWriter
  kept_one = record {
    opens = record {
      tied = (awaited_kept script range).opens.0;
      awaited = (awaited_kept script range).opens.1;
      begun = λ j attempt got. absurd (cc (got));
      one = record { each = λ j attempt got. absurd (cc (got)) };
    };
    keeps = λ start before after began change has. record {
      tied = change_tied script range start before after began change has.tied;
      awaited = change_awaited script range start before after began change has.tied has.awaited;
      begun = change_begun script range start began change has.begun;
      one = keeps_one_writer script range start before after began change has.tied has.begun
          (turns_taken script range start began change has.tied has.awaited) has.one;
    };
  }

  pub one_writer-in_run : (events : List Move) (start moment : MomentWithPast) → run_with_past script events ≡ Some start
      → MomentTrail script start moment → ThereIsOneWriter moment.world.log moment.world.wire moment.past.attempts
  one_writer-in_run events start moment is trail = (on_the_way script HasOneWriter kept_one events start moment is trail).one
