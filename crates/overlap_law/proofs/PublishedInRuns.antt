-- The inode of an id that an outbox publishes was created by the epoch of its node, and that of an id that is published by the epoch of its
-- publication: in each run in range.
use Rattle.std.proofs.Common.{◌≡◌, zero, suc, ◌+◌, drop, arith, ℕ, ◌≤◌, true, List, [], ◌∷◌}
use Rattle.std.proofs.Common.{◌++◌, Some, slice_get, length, refl, sym, ap, subst, ◌∙◌}
use Rattle.std.proofs.lemmas.List.Elements.{All-contains}
use Rattle.std.proofs.lemmas.Option.{same_Some}
use Rattle.object_id.specs.declared.entry.Entry.{Entry}
use Rattle.object_id.specs.declared.entry.Entry.TheVariants as entries
use Rattle.object_id.specs.declared.node.NodeId.{NodeId}
use Rattle.object_id.specs.declared.oid.Vid.{Vid}
use Rattle.object_id.specs.Same.{is_same_entry}
use Rattle.cluster_script.specs.declared.statement.Statement.{Statement}
use Rattle.vdi_directory.specs.Decisions.{log_effects}
use Rattle.vdi_ops.specs.Op.{OpStage, Asked, Working, Publishing, Answered, Op}
use Rattle.sheep_node.specs.declared.course.Course.{Course}
use Rattle.sheep_node.specs.declared.course.Course.TheVariants.{Waiting, Driving, Commanding, Checking, DoingWork, AwaitingDecision}
use Rattle.sheep_node.specs.AwaitedEntry.{waits_for_entry}
use Rattle.sheep_node.specs.OwnEntries.{IsEntryOf}
use Rattle.sheep_world.specs.Opening.{initial_world}
use Rattle.sheep_world.specs.RunsWithAsks.{Move}
use Rattle.overlap_law.specs.AwaitedEntries.{IsCommandEntry, HasAsker}
use Rattle.overlap_law.specs.CommandDisks.{opened_in}
use Rattle.overlap_law.specs.Drafts.{published_by}
use Rattle.overlap_law.specs.MomentChanges.{MomentTrail, RunsAreInRange}
use Rattle.overlap_law.specs.MomentChanges as moments
use Rattle.overlap_law.specs.Past.{MomentWithPast, first_moment, run_with_past}
use Rattle.overlap_law.specs.WriterClaims.{IsFirstEntry, IsStageKept}
use Rattle.overlap_law.proofs.AttemptMessages.{contains_at}
use Rattle.overlap_law.proofs.AwaitedChanges.{IsOwnCourse}
use Rattle.overlap_law.proofs.AwaitedCommands.{waits_at}
use Rattle.overlap_law.proofs.AwaitedEntriesInMoments.{own_entries}
use Rattle.overlap_law.proofs.AwaitedInRuns.{awaited_in_worlds, entries_awaited-in_run}
use Rattle.overlap_law.proofs.ClaimsInRuns.{claims-in_run}
use Rattle.overlap_law.proofs.CountedEntries.{times, once_if, times-append, times-cons, same_entry, itself}
use Rattle.overlap_law.proofs.NoRecoveredDue.{began-with_past}
use Rattle.overlap_law.proofs.PublishingStages.{published_at, published_in_course}
use Rattle.overlap_law.proofs.PublishedInodes.{OutboxesAreCreated, WhatWasPublishedIsCreated, published_after}
use Rattle.overlap_law.proofs.ReadInMoments.{HostsAreSound, kept_sound}
use Rattle.overlap_law.proofs.RunsByChanges.{on_the_way}
use Rattle.overlap_law.proofs.CreatedFirst.{publications-on_the_way}
use Rattle.overlap_law.proofs.KeptInRuns.{KeptOnTheWay, kept_on_the_way}

-- ---- what is to be put

-- who publishes an id is the command of the node
publishes_own : (me : NodeId) (entry : Entry) (vid : Vid) → IsEntryOf me entry → published_by entry ≡ Some vid → IsCommandEntry me entry
publishes_own me (entries.Format members) vid own says = absurd own
publishes_own me (entries.Join node zone vnodes) vid own says = absurd own
publishes_own me (entries.Leave node) vid own says = absurd own
publishes_own me (entries.Reweight node vnodes) vid own says = absurd own
publishes_own me (entries.Recovered node epoch) vid own says = absurd (cc (says))
publishes_own me (entries.Reserve by number name origin) vid own says = absurd (cc (says))
publishes_own me (entries.Publish by id) vid own says = own
publishes_own me (entries.Clone by id) vid own says = own
publishes_own me (entries.Snapshot by old id) vid own says = own
publishes_own me (entries.Delete by number name tag) vid own says = absurd (cc (says))
publishes_own me (entries.Lock by number name tag) vid own says = absurd (cc (says))
publishes_own me (entries.Unlock by number id) vid own says = absurd (cc (says))

-- and waits for it as its last entry
not_first : (entry : Entry) (vid : Vid) → published_by entry ≡ Some vid → IsFirstEntry entry → ⊥
not_first (entries.Format members) vid says first = first
not_first (entries.Join node zone vnodes) vid says first = first
not_first (entries.Leave node) vid says first = first
not_first (entries.Reweight node vnodes) vid says first = first
not_first (entries.Recovered node epoch) vid says first = first
not_first (entries.Reserve by number name origin) vid says first = cc (says)
not_first (entries.Publish by id) vid says first = first
not_first (entries.Clone by id) vid says first = first
not_first (entries.Snapshot by old id) vid says first = first
not_first (entries.Delete by number name tag) vid says first = cc (says)
not_first (entries.Lock by number name tag) vid says first = cc (says)
not_first (entries.Unlock by number id) vid says first = cc (says)

once_there : (entry : Entry) (xs : List Entry) (place : ℕ) → slice_get xs place ≡ Some entry → 1 ≤ times entry xs
once_there entry [] place got = absurd (cc (got))
once_there entry (x ∷ xs) zero got =
    let more : times entry (x ∷ xs) ≡ once_if (is_same_entry entry x) + times entry xs = times-cons entry x xs in
    let one : once_if (is_same_entry entry x) ≡ 1
    = ap once_if (ap (is_same_entry entry) (same_Some x entry got) ∙ itself entry) in
    omega (arith, more, one)
once_there entry (x ∷ xs) (suc place) got =
    let more : times entry (x ∷ xs) ≡ once_if (is_same_entry entry x) + times entry xs = times-cons entry x xs in
    let rest = once_there entry xs place got in
    omega (arith, more, rest)

module _ (script : List Statement) (range : RunsAreInRange script) (events : List Move) (moment : MomentWithPast)
    (is : run_with_past script events ≡ Some moment) where
  pub outboxes-in_run : OutboxesAreCreated moment
  outboxes-in_run n host there up place entry vid got says =
      publications-on_the_way script range events moment moment is moments.Still n host there up asker.req asker.request vid asker.there
      (by_course asker.request.course refl asker.waits)
    where
      own : IsEntryOf host.node.me entry
      own = All-contains (IsEntryOf host.node.me) host.node.outbox entry
          (own_entries script moment.world (began-with_past script events moment is) n host there).entries
          (contains_at host.node.outbox place entry got)

      asker : HasAsker host.node.requests entry
      asker =
          let on_its_way : times entry (drop (length host.node.peer.entries) moment.world.log ++ host.node.outbox)
          ≡ times entry (drop (length host.node.peer.entries) moment.world.log) + times entry host.node.outbox
          = times-append entry (drop (length host.node.peer.entries) moment.world.log) host.node.outbox in
          let once = once_there entry host.node.outbox place got in
          (entries_awaited-in_run script range events moment moment is moments.Still).awaited n host there up entry
          (publishes_own host.node.me entry vid own says) (omega (arith, on_its_way, once))

      by_stage : (op : Op) → asker.request.course ≡ Commanding op → (stage : OpStage) → op.stage ≡ stage → waits_at entry stage ≡ true
          → published_at stage ≡ Some vid
      by_stage op command (Asked wanted) at waits =
          let claims = (claims-in_run script range events moment moment is moments.Still).each n host there up in
          let first = (subst (IsStageKept moment.world.log host.node.outbox host.node.peer.entries (length host.node.peer.entries)
          host.node.me
          asker.request.session (opened_in asker.request.session host.node.sessions)) at
          (claims.commands asker.req asker.request op asker.there command)).first in
          absurd (not_first entry vid says (subst IsFirstEntry (same_entry wanted entry waits) first))
      by_stage op command (Working of task) at waits = absurd (cc (waits))
      by_stage op command (Publishing wanted made) at waits = ap published_by (same_entry wanted entry waits) ∙ says
      by_stage op command (Answered change) at waits = absurd (cc (waits))

      none_decided : (wanted : Entry) → asker.request.course ≡ AwaitingDecision wanted → ⊥
      none_decided wanted same =
          subst (IsOwnCourse host.node.peer.entries host.node.me asker.request.session) same
          (((awaited_in_worlds script range moment.world (began-with_past script events moment is)).each n host there up).commands.own
          asker.req
          asker.request asker.there)

      by_course : (course : Course) → asker.request.course ≡ course → waits_for_entry entry asker.request.course ≡ true
          → published_in_course asker.request.course ≡ Some vid
      by_course course same waits = ap published_in_course same ∙ at_course course same (ap (waits_for_entry entry) (sym same) ∙ waits)
        where
          at_course : (course : Course) → asker.request.course ≡ course → waits_for_entry entry course ≡ true
              → published_in_course course ≡ Some vid
          at_course (Waiting ask) same waits = absurd (cc (waits))
          at_course (Driving driver) same waits = absurd (cc (waits))
          at_course (Commanding op) same waits = by_stage op same op.stage refl waits
          at_course (Checking check) same waits = absurd (cc (waits))
          at_course (DoingWork work) same waits = absurd (cc (waits))
          at_course (AwaitingDecision wanted) same waits = absurd (none_decided wanted same)

-- ---- and so what is published was created

module _ (script : List Statement) (range : RunsAreInRange script) where
  abbrev PublishedIsCreated : MomentWithPast → Type 0
  PublishedIsCreated moment = WhatWasPublishedIsCreated moment.world.log moment.past.attempts

  opens_so : PublishedIsCreated (first_moment script)
  unfolding initial_world log_effects
  opens_so vid was = absurd (cc (was))

  change_keeps : KeptOnTheWay script PublishedIsCreated
  change_keeps events start before after is trail change published =
      published_after script range start before after (began-with_past script events start is) change
      (on_the_way script HostsAreSound (kept_sound script range) events start before is trail)
      (outboxes-in_run script range events start is) published

  pub published-on_the_way : (events : List Move) (start moment : MomentWithPast) → run_with_past script events ≡ Some start
      → MomentTrail script start moment → WhatWasPublishedIsCreated moment.world.log moment.past.attempts
  published-on_the_way = kept_on_the_way script PublishedIsCreated opens_so change_keeps
