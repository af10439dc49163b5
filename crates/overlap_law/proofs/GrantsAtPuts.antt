-- An entry that a node puts gives an id to no session with a request that has worked and may still make something.
use Rattle.std.proofs.Common.{◌≡◌, ℕ, ◌≤◌, true, false, List, ◌∷◌, All, length, Some, None, refl, sym, ap, subst, ◌∙◌, arith}
use Rattle.std.specs.FinMap as tree
use Rattle.std.proofs.lemmas.Bool.{both_ways}
use Rattle.std.proofs.lemmas.List.Elements.{All-head}
use Rattle.std.proofs.lemmas.Option.{same_Some}
use Rattle.object_id.specs.declared.entry.Entry.{Entry}
use Rattle.object_id.specs.declared.entry.Entry.TheVariants.{Format, Join, Leave, Reweight, Recovered, Reserve, Publish, Clone, Snapshot}
use Rattle.object_id.specs.declared.entry.Entry.TheVariants.{Delete, Lock, Unlock}
use Rattle.object_id.specs.declared.node.NodeId.{NodeId}
use Rattle.object_id.specs.declared.oid.Vid.{Vid}
use Rattle.cluster_script.specs.declared.statement.Statement.{Statement}
use Rattle.disk_lock.specs.declared.holder.Holder.{Holder}
use Rattle.epoch_log.specs.Epochs.{epoch_of}
use Rattle.vdi_directory.specs.Decisions.{outcome, log_effects}
use Rattle.vdi_ops.specs.Op.{OpStage, Asked, Working, Publishing, Answered}
use Rattle.sheep_node.specs.AwaitedEntry.{waits_for_entry}
use Rattle.sheep_node.specs.declared.course.Course.{Course}
use Rattle.sheep_node.specs.declared.course.Course.TheVariants.{Waiting, Driving, Commanding, Checking, DoingWork, AwaitingDecision}
use Rattle.sheep_node.specs.declared.course.Request.{Request}
use Rattle.sheep_node.specs.May.{is_disk_course}
use Rattle.sheep_node.specs.OwnEntries.{IsEntryOf}
use Rattle.sheep_node.specs.SessionQueues.{command_in}
use Rattle.sheep_world.specs.Began.{Began}
use Rattle.sheep_world.specs.NodeCauses.{EntryIsPut, IsCause}
use Rattle.sheep_world.specs.World.{Host}
use Rattle.sheep_world.proofs.NodesByTheLog.{knows_its_number}
use Rattle.overlap_law.specs.AwaitedEntries.{IsCommandEntry, HasAsker, IsSessionsEntry}
use Rattle.overlap_law.specs.CommandDisks.{opened_in}
use Rattle.overlap_law.specs.GrantedAttempts.{is_past_works, has_made_all}
use Rattle.overlap_law.specs.Grants.{given_to}
use Rattle.overlap_law.specs.MomentChanges.{RunsAreInRange}
use Rattle.overlap_law.specs.Past.{MomentWithPast}
use Rattle.overlap_law.specs.WriterClaims.{holder_at, IsFirstEntry, IsStageKept, IsReplacing, HasClaims}
use Rattle.overlap_law.specs.Writers.{session_holder}
use Rattle.overlap_law.proofs.AwaitedChanges.{IsOwnCourse, AreAwaited}
use Rattle.overlap_law.proofs.AwaitedCommands.{waits_at, waited_own}
use Rattle.overlap_law.proofs.AwaitedEntriesInMoments.{unread_of, own_entries}
use Rattle.overlap_law.proofs.AwaitedInRuns.{awaited_in_worlds}
use Rattle.overlap_law.proofs.CausedWorks.{HasWellWorks}
use Rattle.overlap_law.proofs.ClaimPuts.{here_once}
use Rattle.overlap_law.proofs.ClaimsInRuns.{claimed_in_worlds}
use Rattle.overlap_law.proofs.ClaimsOfPuts.{Publisher, publisher}
use Rattle.overlap_law.proofs.CountedEntries.{times, itself}
use Rattle.overlap_law.proofs.GivenByEntries.{GivesTo, given_by_entry}
use Rattle.overlap_law.proofs.GrantedIds.{replaced_effect}
use Rattle.overlap_law.proofs.WorkedCourses.{is_past_first, may_have_worked}
use Rattle.overlap_law.proofs.WorksInMoments.{well_in_world}

-- ---- a request that has worked and may still make something waits for no entry

stage_for_none : (entry : Entry) (stage : OpStage) → is_past_first stage ≡ true → is_past_works stage ≡ false → waits_at entry stage ≡ false
stage_for_none entry (Asked wanted) worked making = absurd (cc (worked))
stage_for_none entry (Working vid task) worked making = refl
stage_for_none entry (Publishing wanted made) worked making = absurd (cc (making))
stage_for_none entry (Answered change) worked making = refl

waits_for_none : (entry : Entry) (course : Course) → may_have_worked course ≡ true → has_made_all course ≡ false
    → waits_for_entry entry course ≡ false
waits_for_none entry (Waiting ask) worked making = refl
waits_for_none entry (Driving driver) worked making = refl
waits_for_none entry (Commanding op) worked making = stage_for_none entry op.stage worked making
waits_for_none entry (Checking check) worked making = refl
waits_for_none entry (DoingWork work) worked making = refl
waits_for_none entry (AwaitingDecision wanted) worked making = absurd (cc (worked))

module _ (script : List Statement) (range : RunsAreInRange script) (start : MomentWithPast) (began : Began script start.world) (n : ℕ)
    (host : Host)
    (there : tree.get start.world.hosts n ≡ Some host) (up : host.is_lost ≡ false) (entry : Entry)
    (so : IsCause script start.world n host (EntryIsPut entry)) where
  abbrev log : List Entry
  log = start.world.log

  abbrev me : NodeId
  me = host.node.me

  number : host.node.me.0 ≡ n
  number = knows_its_number script start.world began n host there

  first_own : All (IsEntryOf host.node.me) (entry ∷ so.0)
  first_own = subst (All (IsEntryOf host.node.me)) so.1 (own_entries script start.world began n host there).entries

  has : HasClaims start.world.log (entry ∷ so.0) host.node.peer.entries (length host.node.peer.entries) host.node.me host.node.requests
      host.node.sessions
  has =
      subst (λ (outbox : List Entry). HasClaims log outbox host.node.peer.entries (length host.node.peer.entries) me host.node.requests
      host.node.sessions) so.1 (claimed_in_worlds script range start.world began n host there up)

  awaits : AreAwaited host.node.peer.entries host.node.me (unread_of start.world.log host.node) None host.node.me host.node.requests
      (entry ∷ so.0)
  awaits =
      subst (λ (outbox : List Entry). AreAwaited host.node.peer.entries me (unread_of log host.node) None me host.node.requests outbox) so.1
      ((awaited_in_worlds script range start.world began).each n host there up)

  well : HasWellWorks host.node
  well = well_in_world script range start.world began n host there

  here : (put : Entry) → entry ≡ put → 1 ≤ times put (entry ∷ so.0)
  here put same =
      subst (λ (e : Entry). 1 ≤ times e (entry ∷ so.0)) same
      (here_once log entry so.0 host.node.peer.entries (length host.node.peer.entries) me host.node.requests host.node.sessions first_own
      has)

  -- ---- who asked for the entry

  -- a command of the session to which it gives something waits for it
  pub record PutsFor (holder : Holder) : Type 0 where
    pub req : ℕ
    pub request : Request
    pub asked : tree.get host.node.requests req ≡ Some request
    pub own : holder_at host.node.me request.session ≡ holder
    pub waits : waits_for_entry entry request.course ≡ true
    pub sole : is_disk_course request.course ≡ false

  its_session : (session : ℕ) (course : Course) → IsOwnCourse host.node.peer.entries host.node.me session course
      → waits_for_entry entry course ≡ true
      → (is_disk_course course ≡ false) × IsSessionsEntry (log_effects host.node.peer.entries) host.node.me session entry
  its_session session (Waiting ask) own waits = absurd (cc (waits))
  its_session session (Driving driver) own waits = absurd (cc (waits))
  its_session session (Commanding op) own waits =
      (refl, waited_own (log_effects host.node.peer.entries) host.node.me session entry op.stage own.stage waits)
  its_session session (Checking check) own waits = absurd (cc (waits))
  its_session session (DoingWork work) own waits = absurd (cc (waits))
  its_session session (AwaitingDecision wanted) own waits = absurd own

  asker : IsCommandEntry host.node.me entry → HasAsker host.node.requests entry
  asker is = awaits.awaited entry is (let once = here entry refl in omega (arith, once))

  -- one that names its session
  puts_for_named : (holder : Holder) (put : Entry) → entry ≡ put → IsCommandEntry host.node.me put → (by : NodeId) (of : ℕ)
      → holder_at by of ≡ holder
      → ((session : ℕ) → IsSessionsEntry (log_effects host.node.peer.entries) host.node.me session put → (by ≡ host.node.me)
      × (of ≡ session))
      → PutsFor holder
  puts_for_named holder put same is by of gives names =
      let a = asker (subst (IsCommandEntry me) (sym same) is) in
      let (sole, its) = its_session a.request.session a.request.course (awaits.commands.own a.req a.request a.there) a.waits in
      let (mine, session) = names a.request.session (subst (IsSessionsEntry (log_effects host.node.peer.entries) me a.request.session) same
      its) in
      record {
        req = a.req;
        request = a.request;
        asked = a.there;
        own = sym (λ i. holder_at (mine i) (session i)) ∙ gives;
        waits = a.waits;
        sole = sole;
      }

  -- a snapshot
  module _ (by : NodeId) (old of : Vid) (same : entry ≡ Snapshot by old of) where
    mine : by ≡ host.node.me
    mine = subst (IsEntryOf host.node.me) same (All-head (IsEntryOf host.node.me) entry so.0 first_own)

    publishes_it : Publisher start.world.log entry so.0 host.node.peer.entries (length host.node.peer.entries) host.node.me
        (unread_of start.world.log host.node) host.node.requests host.node.sessions first_own awaits has
    publishes_it =
        publisher log entry so.0 host.node.peer.entries (length host.node.peer.entries) me (unread_of log host.node) host.node.requests
        host.node.sessions first_own awaits has (λ first. subst IsFirstEntry same first) (subst (IsCommandEntry me) (sym same) mine)

    replaces : IsReplacing start.world.log (entry ∷ so.0) host.node.peer.entries (length host.node.peer.entries) host.node.me
        publishes_it.request.session
        (opened_in publishes_it.request.session host.node.sessions) old of (Snapshot by old of) publishes_it.made
    replaces =
        let p = publishes_it in
        subst (IsStageKept log (entry ∷ so.0) host.node.peer.entries (length host.node.peer.entries) me p.request.session
        (opened_in p.request.session host.node.sessions)) (p.at ∙ ap (λ (e : Entry). Publishing e p.made) same)
        (has.commands p.req p.request p.op p.there p.command)

    puts_for_snapshot : (holder : Holder) → given_to (outcome (log_effects start.world.log) entry).effect ≡ Some holder → PutsFor holder
    puts_for_snapshot holder to =
        let p = publishes_it in
        let once = here (Snapshot by old of) same in
        let effect = replaced_effect log (entry ∷ so.0) me p.request.session (epoch_of host.node.peer.entries) old of (replaces.to_put once)
        (replaces.of_disk once) in
        let is : entry ≡ Snapshot me old of = same ∙ ap (λ (whose : NodeId). Snapshot whose old of) mine in
        let given : given_to (outcome (log_effects start.world.log) entry).effect ≡ Some (holder_at me p.request.session)
        = ap (λ (e : Entry). given_to (outcome (log_effects start.world.log) e).effect) is ∙ ap given_to effect in
        record {
          req = p.req;
          request = p.request;
          asked = p.there;
          own = same_Some (holder_at me p.request.session) holder (sym given ∙ to);
          waits = ap (waits_for_entry entry) p.command ∙ ap (waits_at entry) p.at ∙ itself entry;
          sole = ap is_disk_course p.command;
        }

  pub puts_for : (holder : Holder) → given_to (outcome (log_effects start.world.log) entry).effect ≡ Some holder → (put : Entry)
      → entry ≡ put
      → GivesTo holder put → PutsFor holder
  puts_for holder to (Format members) same gives = absurd gives
  puts_for holder to (Join node zone vnodes) same gives = absurd gives
  puts_for holder to (Leave node) same gives = absurd gives
  puts_for holder to (Reweight node vnodes) same gives = absurd gives
  puts_for holder to (Recovered node epoch) same gives = absurd gives
  puts_for holder to (Reserve by of name origin) same gives =
      puts_for_named holder (Reserve by of name origin) same (subst (IsEntryOf me) same (All-head (IsEntryOf me) entry so.0 first_own)) by
      of gives (λ session its. its)
  puts_for holder to (Publish by of) same gives = absurd gives
  puts_for holder to (Clone by of) same gives = absurd gives
  puts_for holder to (Snapshot by old of) same gives = puts_for_snapshot by old of same holder to
  puts_for holder to (Delete by of name tag) same gives = absurd gives
  puts_for holder to (Lock by of name tag) same gives =
      puts_for_named holder (Lock by of name tag) same (subst (IsEntryOf me) same (All-head (IsEntryOf me) entry so.0 first_own)) by of
      gives (λ session its. its)
  puts_for holder to (Unlock by of id) same gives = absurd gives

  -- ---- it is alone in its session

  pub gives_not : (q : ℕ) (at : Host) → tree.get start.world.hosts q ≡ Some at → (req : ℕ) (request : Request)
      → tree.get at.node.requests req ≡ Some request → may_have_worked request.course ≡ true → has_made_all request.course ≡ false
      → given_to (outcome (log_effects start.world.log) entry).effect ≡ Some (session_holder q request.session) → ⊥
  gives_not q at found req request asked worked making to =
      let holder = session_holder q request.session in
      let p = puts_for holder to entry refl (given_by_entry (log_effects start.world.log) holder entry to) in
      let place : q ≡ n = sym (ap (λ (h : Holder). h.node.0) p.own) ∙ number in
      let one : at ≡ host = same_Some at host (sym found ∙ ap (tree.get start.world.hosts) place ∙ there) in
      let session : request.session ≡ p.request.session = sym (ap (λ (h : Holder). h.session) p.own) in
      let asked_here : tree.get host.node.requests req ≡ Some request = ap (λ (h : Host). tree.get h.node.requests req) (sym one) ∙ asked in
      let named : command_in p.request.session host.node.sessions ≡ Some p.req = well.alone.named p.req p.request p.asked p.sole in
      let same : req ≡ p.req = well.alone.alone p.request.session p.req req request named asked_here session in
      let its : p.request ≡ request = same_Some p.request request (sym p.asked ∙ ap (tree.get host.node.requests) (sym same)
      ∙ asked_here) in
      let waits : waits_for_entry entry request.course ≡ true = sym (ap (λ (r : Request). waits_for_entry entry r.course) its) ∙ p.waits in
      both_ways (waits_for_entry entry request.course) (waits_for_none entry request.course worked making) waits
