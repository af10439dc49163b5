-- At each event the entries of nodes' commands that are on their way stay awaited; so they are in each world of a run, and along its
-- trails.
use Rattle.std.proofs.Common.{◌≡◌, ◌≢◌, ⊎_elim, arith, ℕ, ◌+◌, ◌≤◌, Bool, true, false, List, [], ◌∷◌, ◌++◌, drop, length, Option, Some}
use Rattle.std.proofs.Common.{None, is_some, refl, sym, ap, subst, ◌∙◌}
use Rattle.std.specs.FinMap as tree
use Rattle.std.proofs.lemmas.Bool.{cases_eq}
use Rattle.std.proofs.Math.Seq.{drop-length}
use Rattle.proof_tools.proofs.FiniteMaps.{get-insert_same, get-insert_other, get-insert_cases}
use Rattle.object_id.specs.declared.node.NodeId.{NodeId}
use Rattle.object_id.specs.declared.entry.Entry.{Entry}
use Rattle.object_id.specs.declared.entry.Entry.TheVariants as entries
use Rattle.cluster_script.specs.declared.statement.Statement.{Statement}
use Rattle.cluster_script.specs.declared.statement.Statement.TheVariants as lines
use Rattle.cluster_script.specs.Settings.{tries_of, vnodes_of}
use Rattle.sheep_node.specs.declared.event.Event.{Event}
use Rattle.sheep_node.specs.declared.input.Input.TheVariants as inputs
use Rattle.sheep_node.specs.Changes.{input_received}
use Rattle.sheep_node.specs.StepState.{at_first, StepState}
use Rattle.sheep_node.specs.State as nodes
use Rattle.sheep_node.specs.Step.{node_step}
use Rattle.sheep_node.proofs.StepChain.{step_chain}
use Rattle.sheep_world.specs.World.{Host, World}
use Rattle.sheep_world.specs.Began.{Began}
use Rattle.sheep_world.specs.EventKinds.{log_after_return, EventKind, NodeStep, UntoldLoss, UnreadDelivery, NodeLoss, NodeLeave}
use Rattle.sheep_world.specs.EventKinds.{NodeReweight, NodeJoin, NodeReturn, PhaseEnd}
use Rattle.sheep_world.specs.HostChanges.{joined_host, host_after_return}
use Rattle.sheep_world.specs.MembershipChanges.{lost_host, join_of, last_weight}
use Rattle.sheep_world.specs.NodeCauses.{input_of_cause}
use Rattle.sheep_world.specs.Opening.{format_entry, initial_world}
use Rattle.sheep_world.specs.Step.{EventOutcome}
use Rattle.sheep_world.proofs.BegunWorlds.{by_induction}
use Rattle.sheep_world.proofs.ControlLaws.{next_fits}
use Rattle.sheep_world.proofs.ClientReads.{goes_by_kind}
use Rattle.sheep_world.proofs.LogFrontLaws.{all_read}
use Rattle.sheep_world.proofs.WireAtOpening.{opening_found}
use Rattle.sheep_world.specs.RunsWithAsks.{Move}
use Rattle.overlap_law.specs.AwaitedEntries.{IsCommandEntry, CommandEntriesAreAwaited, CommandsAreTheSessions}
use Rattle.overlap_law.specs.Past.{MomentWithPast, run_with_past}
use Rattle.overlap_law.specs.MomentChanges.{MomentChange, MomentTrail, RunsAreInRange}
use Rattle.overlap_law.specs.Reached.{Hosts}
use Rattle.overlap_law.specs.StepMoments.{first_in_step, SteppingNode, IsStepping, StepsByChanges, LeadsInStep, moment_in_step}
use Rattle.overlap_law.proofs.AwaitedChanges.{IsOwnCourse}
use Rattle.overlap_law.proofs.AwaitedEntriesInMoments.{unread_of, AreAwaitedAmong, unread_more, meets_otherwise, along_chain, step_awaited}
use Rattle.overlap_law.proofs.AwaitedInputs.{AreAwaitedAt, IsThen, none_awaited, back_awaited, received_awaited, one_more_unread}
use Rattle.overlap_law.proofs.CountedEntries.{times, once_if, times-append, times-push, times-none, none_of_them}
use Rattle.overlap_law.proofs.KnownSteps.{together}
use Rattle.overlap_law.proofs.NoRecoveredDue.{began-with_past}
use Rattle.overlap_law.proofs.ClosedWorlds.{world_after, world_along}

-- ---- an entry that no node puts

abbrev pub IsNobodys : Entry → Type 0
IsNobodys entry = (me : NodeId) → IsCommandEntry me entry → ⊥

pub no_count : (log : List Entry) (last : Entry) → IsNobodys last → (me : NodeId) (entry : Entry) → IsCommandEntry me entry
    → times entry log ≡ 0
    → times entry (log ++ last ∷ []) ≡ 0
no_count log last nobodys me entry is none =
    let more : times entry (log ++ last ∷ []) ≡ times entry log + 0
    = times-push entry log last ∙ ap (λ (b : Bool). times entry log + once_if b) (none_of_them me entry last is (nobodys me)) in
    omega (arith, more, none)

module _ (script : List Statement) (range : RunsAreInRange script) where
  module _ (world : World) (began : Began script world) (all : AreAwaitedAmong world.log world.hosts) (last : Entry)
      (nobodys : IsNobodys last) where
    each_more : (n : ℕ) (host : Host) → tree.get world.hosts n ≡ Some host → host.is_lost ≡ false
        → AreAwaitedAt (unread_of (world.log ++ last ∷ []) host.node) host.node
    each_more n host there up =
        subst (λ (unread : List Entry). AreAwaitedAt unread host.node)
        (sym (unread_more world.log host.node last (all_read script world began n host there)))
        (one_more_unread host.node.peer.entries host.node.me (unread_of world.log host.node) host.node.requests host.node.outbox last
        (λ entry is. none_of_them host.node.me entry last is (nobodys host.node.me)) (all.each n host there up))

    absent_more : (n : ℕ) (entry : Entry) → tree.get world.hosts n ≡ None → IsCommandEntry (record { 0 = n }) entry
        → times entry (world.log ++ last ∷ []) ≡ 0
    absent_more n entry gone is = no_count world.log last nobodys (record { 0 = n }) entry is (all.absent n entry gone is)

    log_awaited : AreAwaitedAmong (world.log ++ last ∷ []) world.hosts
    log_awaited = record { each = each_more; absent = absent_more }

    -- and a node comes
    one_comes : (n : ℕ) (new : Host) → AreAwaitedAt (unread_of (world.log ++ last ∷ []) new.node) new.node
        → AreAwaitedAmong (world.log ++ last ∷ []) (tree.insert world.hosts n new)
    one_comes n new so = record {
      each = λ q host at up. ⊎_elim
          (λ (own : (q ≡ n) × (new ≡ host)). subst (λ (h : Host). AreAwaitedAt (unread_of (world.log ++ last ∷ []) h.node) h.node) own.1 so)
          (λ (apart : (q ≢ n) × (tree.get world.hosts q ≡ Some host)). each_more q host apart.1 up)
          (get-insert_cases world.hosts n new q host at);
      absent = λ q entry gone is. ⊎_elim
          (λ (own : q ≡ n).
          let here = ap (tree.get (tree.insert world.hosts n new)) own ∙ get-insert_same world.hosts n new in
          absurd (cc (gone, here)))
          (λ (apart : q ≢ n). absent_more q entry (sym (get-insert_other world.hosts n new q apart) ∙ gone) is)
          (cases_eq q n);
    }

  -- a node is lost
  one_lost : (world : World) (n : ℕ) (host : Host) → AreAwaitedAmong world.log world.hosts
      → AreAwaitedAmong world.log (tree.insert world.hosts n (lost_host host))
  one_lost world n host all = record {
    each = λ q other at up. ⊎_elim
        (λ (own : (q ≡ n) × (lost_host host ≡ other)).
        let lost : other.is_lost ≡ true = ap (λ (h : Host). h.is_lost) (sym own.1) in
        absurd (cc (lost, up)))
        (λ (apart : (q ≢ n) × (tree.get world.hosts q ≡ Some other)). all.each q other apart.1 up)
        (get-insert_cases world.hosts n (lost_host host) q other at);
    absent = λ q entry gone is. ⊎_elim
        (λ (own : q ≡ n).
        let here = ap (tree.get (tree.insert world.hosts n (lost_host host))) own ∙ get-insert_same world.hosts n (lost_host host) in
        absurd (cc (gone, here)))
        (λ (apart : q ≢ n). all.absent q entry (sym (get-insert_other world.hosts n (lost_host host) q apart) ∙ gone) is)
        (cases_eq q n);
  }

  -- a node that has read nothing yet, and has nothing in the log
  pub new_node : (log : List Entry) (me : NodeId) → ((entry : Entry) → IsCommandEntry me entry → times entry log ≡ 0)
      → AreAwaitedAt (unread_of log (nodes.initial_node me (tries_of script))) (nodes.initial_node me (tries_of script))
  new_node log me none = none_awaited [] me log None none

  -- a node that comes back has read all
  back_node : (log : List Entry) (host : Host)
      → AreAwaitedAt (unread_of log (node_step (inputs.Back log) host.node).node) (node_step (inputs.Back log) host.node).node
  back_node log host =
      along_chain log (inputs.Back log) host.node (meets_otherwise (inputs.Back log) host.node (λ req session ask from. absurd (cc (from))))
      (back_awaited host.node log (drop (length log) log) (drop-length log)) (node_step (inputs.Back log) host.node)
      (step_chain (inputs.Back log) host.node)

  kept : (event : Event) (world : World) (made : EventOutcome) → Began script world → EventKind script event world made
      → AreAwaitedAmong world.log world.hosts → AreAwaitedAmong made.world.log made.world.hosts
  kept event world made began (NodeStep h) all =
      subst (λ (m : EventOutcome). AreAwaitedAmong m.world.log m.world.hosts) h.made_so
      (step_awaited script range world began h.n h.host h.there h.up h.cause h.caused all (node_step (input_of_cause h.cause) h.host.node)
      (step_chain (input_of_cause h.cause) h.host.node))
  kept event world made began (UntoldLoss h) all = subst (λ (m : EventOutcome). AreAwaitedAmong m.world.log m.world.hosts) h.made_so all
  kept event world made began (UnreadDelivery h) all = subst (λ (m : EventOutcome). AreAwaitedAmong m.world.log m.world.hosts) h.made_so all
  kept event world made began (NodeLoss h) all =
      subst (λ (m : EventOutcome). AreAwaitedAmong m.world.log m.world.hosts) h.made_so (one_lost world h.n h.host all)
  kept event world made began (NodeLeave h) all =
      subst (λ (m : EventOutcome). AreAwaitedAmong m.world.log m.world.hosts) h.made_so
      (log_awaited world began all (entries.Leave (record { 0 = h.n })) (λ me is. is))
  kept event world made began (NodeReweight h) all =
      subst (λ (m : EventOutcome). AreAwaitedAmong m.world.log m.world.hosts) h.made_so
      (log_awaited world began all (entries.Reweight (record { 0 = h.n }) h.vnodes) (λ me is. is))
  kept event world made began (NodeJoin h) all =
      subst (λ (m : EventOutcome). AreAwaitedAmong m.world.log m.world.hosts) h.made_so
      (one_comes world began all joins (λ me is. is) h.n (joined_host script h.n)
      (new_node (world.log ++ joins ∷ []) (record { 0 = h.n })
      (λ entry is. absent_more world began all joins (λ me is. is) h.n entry (was_absent (tree.get world.hosts h.n) refl) is)))
    where
      joins : Entry
      joins = join_of script h.n (vnodes_of script)

      was_absent : (o : Option Host) → tree.get world.hosts h.n ≡ o → tree.get world.hosts h.n ≡ None
      was_absent None is = is
      was_absent (Some host) is =
          let none : is_some (tree.get world.hosts h.n) ≡ false = (next_fits script world (lines.Join h.n) h.control
          (together script range world began).fit).1 in
          absurd (cc (sym none ∙ ap (λ (o : Option Host). is_some o) is))
  kept event world made began (NodeReturn h) all =
      subst (λ (m : EventOutcome). AreAwaitedAmong m.world.log m.world.hosts) h.made_so
      (one_comes world began all (join_of script h.n (last_weight world.log h.n)) (λ me is. is) h.n
      (host_after_return (log_after_return script h.n world) h.host) (back_node (log_after_return script h.n world) h.host))
  kept event world made began (PhaseEnd h) all = subst (λ (m : EventOutcome). AreAwaitedAmong m.world.log m.world.hosts) h.made_so all

  -- a node that opens, once it received the log's first entry
  pub opening_first : (me : NodeId) → IsThen (nodes.initial_node me (tries_of script)) (inputs.LogEntry (format_entry script)) []
      (input_received (inputs.LogEntry (format_entry script)) (at_first (nodes.initial_node me (tries_of script))))
  opening_first me =
      received_awaited (nodes.initial_node me (tries_of script)) (format_entry script ∷ []) (inputs.LogEntry (format_entry script)) [] refl
      (new_node (format_entry script ∷ []) me (λ entry is. no_count [] (format_entry script) (λ me is. is) me entry is (times-none entry)))

  opens : AreAwaitedAmong (initial_world script).log (initial_world script).hosts
  unfolding initial_world
  opens = record {
    each = λ q host got up.
        let (member, own, is) = opening_found script q host got in
        subst (λ (h : Host). AreAwaitedAt (unread_of (format_entry script ∷ []) h.node) h.node) is
        (let new = nodes.initial_node member.node (tries_of script) in
        let input = inputs.LogEntry (format_entry script) in
        along_chain (format_entry script ∷ []) input new (meets_otherwise input new (λ req session ask from. absurd (cc (from))))
        (opening_first member.node) (node_step input new) (step_chain input new));
    absent = λ q entry gone is. no_count [] (format_entry script) (λ me is. is) (record { 0 = q }) entry is (times-none entry);
  }

  pub awaited_in_worlds : (world : World) → Began script world → AreAwaitedAmong world.log world.hosts
  awaited_in_worlds = by_induction script (λ (world : World). AreAwaitedAmong world.log world.hosts) (record {
    opens = opens;
    keeps = λ event world made began is all. kept event world made began (goes_by_kind script event world made is) all;
  })

  -- ---- along trails

  module _ (start : MomentWithPast) (began : Began script start.world) where
    abbrev Among : World → Type 0
    Among world = AreAwaitedAmong world.log world.hosts

    in_step : (stepping : SteppingNode) → IsStepping script start.world stepping → StepsByChanges stepping.cause → (so_far : StepState)
        → LeadsInStep stepping (first_in_step stepping) so_far → Among (moment_in_step script stepping start so_far).world
    in_step stepping is by so_far leads =
        step_awaited script range start.world began stepping.n stepping.host is.there is.up stepping.cause is.caused
        (awaited_in_worlds start.world began) so_far leads

    pub awaited_after : {before after : MomentWithPast} → MomentChange script start before after
        → AreAwaitedAmong after.world.log after.world.hosts
    awaited_after change = world_after script Among awaited_in_worlds start began in_step change

    along_trail : {moment : MomentWithPast} → MomentTrail script start moment → AreAwaitedAmong moment.world.log moment.world.hosts
    along_trail trail = world_along script Among awaited_in_worlds start began in_step trail

  -- ---- as it is said

  module _ (log : List Entry) (hosts : Hosts) (all : AreAwaitedAmong log hosts) where
    said_awaited : CommandEntriesAreAwaited log hosts
    said_awaited = record {
      awaited = λ n host there up entry is some. (all.each n host there up).awaited entry is
          (subst (λ (k : ℕ). 1 ≤ k) (times-append entry (unread_of log host.node) host.node.outbox) some);
      once = λ n host there up entry is. subst (λ (k : ℕ). k ≤ 1) (sym (times-append entry (unread_of log host.node) host.node.outbox))
          ((all.each n host there up).once entry is);
    }

    pub said_sessions : CommandsAreTheSessions hosts
    said_sessions = record {
      each = λ n host there up req request op got command.
          subst (IsOwnCourse host.node.peer.entries host.node.me request.session) command
          ((all.each n host there up).commands.own req request got);
    }

  module _ (events : List Move) (start moment : MomentWithPast) (is : run_with_past script events ≡ Some start)
      (trail : MomentTrail script start moment) where
    there_along : AreAwaitedAmong moment.world.log moment.world.hosts
    there_along = along_trail start (began-with_past script events start is) trail

    pub entries_awaited-in_run : CommandEntriesAreAwaited moment.world.log moment.world.hosts
    entries_awaited-in_run = said_awaited moment.world.log moment.world.hosts there_along

    pub commands_sessions-in_run : CommandsAreTheSessions moment.world.hosts
    commands_sessions-in_run = said_sessions moment.world.log moment.world.hosts there_along
