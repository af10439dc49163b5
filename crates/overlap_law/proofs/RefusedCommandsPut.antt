-- In every run in range an entry by which a disk is published, replaced or deleted was put for a request.
use Rattle.std.proofs.Common.{◌≡◌, ◌⊎◌, ⊎_elim, ℕ, ◌+◌, Bool, true, false, not, List, [], ◌∷◌, ◌++◌, All, Some, refl, sym, ap, subst, ◌∙◌}
use Rattle.std.proofs.Common.{arith}
use Rattle.std.specs.Option.{option_and_then}
use Rattle.std.proofs.lemmas.Bool.{and_parts, not-true}
use Rattle.std.proofs.lemmas.List.Elements.{All-head}
use Rattle.object_id.specs.declared.node.NodeId.{NodeId}
use Rattle.object_id.specs.declared.entry.Entry.{Entry}
use Rattle.object_id.specs.declared.entry.Entry.TheVariants as entries
use Rattle.cluster_script.specs.declared.statement.Statement.{Statement}
use Rattle.cluster_script.specs.Settings.{vnodes_of}
use Rattle.sheep_node.specs.declared.event.Event.{Event}
use Rattle.sheep_node.specs.declared.event.Event.TheVariants as events
use Rattle.sheep_node.specs.May.{has_numbers}
use Rattle.sheep_node.specs.OwnEntries.{IsEntryOf}
use Rattle.sheep_world.specs.Began.{Began, MakesMove}
use Rattle.sheep_world.specs.EventKinds.{EventKind, NodeStep, UntoldLoss, UnreadDelivery, NodeLoss, NodeLeave, NodeReweight, NodeJoin}
use Rattle.sheep_world.specs.EventKinds.{NodeReturn, PhaseEnd, IsNodeStep}
use Rattle.sheep_world.specs.MembershipChanges.{join_of, last_weight}
use Rattle.sheep_world.specs.NodeCauses.{NodeCause, GuestAsks, RequestComes, ReplyComes, LossIsTold, EntryIsRead, EntryIsPut, RecoveryTicks}
use Rattle.sheep_world.specs.NodeCauses.{WorkIsRetried, ClientAsks, event_of_cause, IsCause, log_after_cause}
use Rattle.sheep_world.specs.Opening.{format_entry, initial_world}
use Rattle.sheep_world.specs.RunsWithAsks.{Move, Happens, Asks, event_of_move}
use Rattle.sheep_world.specs.Step.{EventOutcome}
use Rattle.sheep_world.proofs.ClientReads.{goes_by_kind}
use Rattle.overlap_law.specs.AwaitedEntries.{IsCommandEntry, HasAsker}
use Rattle.overlap_law.specs.MomentChanges.{RunsAreInRange}
use Rattle.overlap_law.specs.Past.{MomentWithPast, moment_after, next_moment, run_on, first_moment, run_with_past}
use Rattle.overlap_law.specs.RefusedCommands.{effect_behind, changes_disks, WasPutFor}
use Rattle.overlap_law.proofs.AwaitedEntriesInMoments.{unread_of, own_entries}
use Rattle.overlap_law.proofs.AwaitedInputs.{AreAwaitedAt}
use Rattle.overlap_law.proofs.AwaitedInRuns.{awaited_in_worlds}
use Rattle.overlap_law.proofs.CountedEntries.{times, once_if, times-cons, itself}
use Rattle.overlap_law.proofs.GoingOn.{next_by}
use Rattle.overlap_law.proofs.RefusedCommandStages.{IsUndone}
use Rattle.overlap_law.proofs.RefusedCommandsInRuns.{cut_last, command_or_undone}
use Rattle.overlap_law.proofs.RunsByEvents.{KeptByEvents, run-kept_by_events}
use Rattle.overlap_law.proofs.RunsWithOneMore.{run_with_one_more, run_on-append}

-- a move that is told of as a put is one
move_of_put : (move : Move) (node : NodeId) → event_of_move move ≡ events.Put node → move ≡ Happens (events.Put node)
move_of_put (Happens event) node is = ap (λ (e : Event). Happens e) is
move_of_put (Asks other ask) node is = absurd (cc (is))

module _ (script : List Statement) (range : RunsAreInRange script) where
  -- an entry behind these was put for a request
  abbrev WasPut : MomentWithPast → List Entry → Entry → Type 0
  WasPut moment earlier entry =
      (node : NodeId) × (incarnation : ℕ) × (req : ℕ) × WasPutFor script moment earlier entry node incarnation req

  -- a run leads to the moment, and each entry that changes a disk was put for a request
  record ArePut (moment : MomentWithPast) : Type 0 where
    moves : List Move
    ran : run_with_past script moves ≡ Some moment
    each : (earlier later : List Entry) (entry : Entry) → moment.world.log ≡ earlier ++ entry ∷ later
        → changes_disks (effect_behind earlier entry) ≡ true → WasPut moment earlier entry

  module _ (event : Event) (moment : MomentWithPast) (made : EventOutcome) (began : Began script moment.world)
      (goes : MakesMove script event moment.world made) (are : ArePut moment) where
    after : MomentWithPast
    after = moment_after script event moment made

    -- what was put before
    still_put : (earlier : List Entry) (entry : Entry) → WasPut moment earlier entry → WasPut (moment_after script event moment made)
        earlier entry
    unfolding run_on
    still_put earlier entry (node, incarnation, req, was) = (
      node,
      incarnation,
      req,
      record {
        moves = was.moves;
        before = was.before;
        ran = was.ran;
        behind = was.behind;
        to_put = was.to_put;
        more = was.more ++ goes.move ∷ [];
        led = run_on-append script (Happens (events.Put node) ∷ was.more) (goes.move ∷ []) was.before
            ∙ ap (option_and_then (λ (then : MomentWithPast). run_on script then (goes.move ∷ []))) was.led
            ∙ ap (option_and_then (λ (then : MomentWithPast). run_on script then [])) (next_by script event moment made goes);
      },
    )

    -- what is put now
    module _ (h : IsNodeStep script event moment.world made) (put : Entry) (cause_so : h.cause ≡ EntryIsPut put)
        (changes : changes_disks (effect_behind moment.world.log put) ≡ true) where
      caused : IsCause script moment.world h.n h.host (EntryIsPut put)
      caused = subst (λ (why : NodeCause). IsCause script moment.world h.n h.host why) cause_so h.caused

      up : h.host.is_lost ≡ false
      up = not-true h.host.is_lost (and_parts (not h.host.is_lost) (has_numbers h.host.node) h.up).0

      awaited : AreAwaitedAt (unread_of moment.world.log h.host.node) h.host.node
      awaited = (awaited_in_worlds script range moment.world began).each h.n h.host h.there up

      own : IsEntryOf h.host.node.me put
      own =
          All-head (IsEntryOf h.host.node.me) put caused.0
          (subst (All (IsEntryOf h.host.node.me)) caused.1 (own_entries script moment.world began h.n h.host h.there).entries)

      command : IsCommandEntry h.host.node.me put
      command = ⊎_elim
          (λ (is : IsCommandEntry h.host.node.me put). is)
          (λ (undone : IsUndone (effect_behind moment.world.log put)). let none = undone.0 in absurd (cc (none, changes)))
          (command_or_undone moment.world.log h.host.node.me put own)

      asker : HasAsker h.host.node.requests put
      asker =
          let first : times put h.host.node.outbox ≡ times put (put ∷ caused.0) = ap (times put) caused.1 in
          let more : times put (put ∷ caused.0) ≡ 1 + times put caused.0
          = times-cons put put caused.0 ∙ ap (λ (b : Bool). once_if b + times put caused.0) (itself put) in
          awaited.awaited put command (omega (arith, first, more))

      event_so : events.Put (record { 0 = h.n }) ≡ event
      event_so = sym (ap (event_of_cause h.n) cause_so) ∙ h.event_so

      move_so : goes.move ≡ Happens (events.Put (record { 0 = h.n }))
      move_so = move_of_put goes.move (record { 0 = h.n }) (goes.event_so ∙ sym event_so)

      put_now : WasPut (moment_after script event moment made) moment.world.log put
      unfolding run_on
      put_now = (
        record { 0 = h.n },
        h.host.incarnation,
        asker.req,
        record {
          moves = are.moves;
          before = moment;
          ran = are.ran;
          behind = refl;
          to_put = record {
            host = h.host;
            there = h.there;
            lived = refl;
            later = caused.0;
            next = caused.1;
            request = asker.request;
            asked = asker.there;
            waits = asker.waits;
          };
          more = [];
          led = ap (option_and_then (λ (then : MomentWithPast). run_on script then []))
              (ap (λ (move : Move). next_moment script move moment) (sym move_so) ∙ next_by script event moment made goes);
        },
      )

    -- ---- each kind of event

    abbrev EachPut : List Entry → Type 0
    EachPut log = (earlier later : List Entry) (entry : Entry) → log ≡ earlier ++ entry ∷ later
        → changes_disks (effect_behind earlier entry) ≡ true → WasPut (moment_after script event moment made) earlier entry

    same_log : EachPut moment.world.log
    same_log earlier later entry is changes = still_put earlier entry (are.each earlier later entry is changes)

    more_log : (last : Entry)
        → (changes_disks (effect_behind moment.world.log last) ≡ true → WasPut (moment_after script event moment made) moment.world.log
        last)
        → EachPut (moment.world.log ++ last ∷ [])
    more_log last new earlier later entry is changes = ⊎_elim
        (λ (here : (moment.world.log ≡ earlier) × (last ≡ entry)).
        subst (λ (e : Entry). WasPut (moment_after script event moment made) earlier e) here.1
        (subst (λ (list : List Entry). WasPut (moment_after script event moment made) list last) here.0
        (new (subst (λ (list : List Entry). changes_disks (effect_behind list last) ≡ true) (sym here.0)
        (subst (λ (e : Entry). changes_disks (effect_behind earlier e) ≡ true) (sym here.1) changes)))))
        (λ (before : (rest : List Entry) × (moment.world.log ≡ earlier ++ entry ∷ rest)). same_log earlier before.0 entry before.1 changes)
        (cut_last earlier later moment.world.log entry last is)

    by_cause : (h : IsNodeStep script event moment.world made) (cause : NodeCause) → h.cause ≡ cause
        → EachPut (log_after_cause cause moment.world.log)
    by_cause h (GuestAsks asking number ask) is = same_log
    by_cause h (RequestComes name to request) is = same_log
    by_cause h (ReplyComes name of rsp) is = same_log
    by_cause h (LossIsTold name packet) is = same_log
    by_cause h (EntryIsRead read) is = same_log
    by_cause h (EntryIsPut put) is = more_log put (λ changes. put_now h put is changes)
    by_cause h RecoveryTicks is = same_log
    by_cause h WorkIsRetried is = same_log
    by_cause h (ClientAsks number ask) is = same_log

    abbrev EachIn : EventOutcome → Type 0
    EachIn m = EachPut m.world.log

    by_kind : EventKind script event moment.world made → EachPut made.world.log
    by_kind (NodeStep h) = subst EachIn h.made_so (by_cause h h.cause refl)
    by_kind (UntoldLoss h) = subst EachIn h.made_so same_log
    by_kind (UnreadDelivery h) = subst EachIn h.made_so same_log
    by_kind (NodeLoss h) = subst EachIn h.made_so same_log
    by_kind (NodeLeave h) = subst EachIn h.made_so (more_log (entries.Leave (record { 0 = h.n })) (λ changes. absurd (cc (changes))))
    by_kind (NodeReweight h) =
        subst EachIn h.made_so (more_log (entries.Reweight (record { 0 = h.n }) h.vnodes) (λ changes. absurd (cc (changes))))
    by_kind (NodeJoin h) = subst EachIn h.made_so (more_log (join_of script h.n (vnodes_of script)) (λ changes. absurd (cc (changes))))
    by_kind (NodeReturn h) =
        subst EachIn h.made_so (more_log (join_of script h.n (last_weight moment.world.log h.n)) (λ changes. absurd (cc (changes))))
    by_kind (PhaseEnd h) = subst EachIn h.made_so same_log

  kept_put : KeptByEvents script ArePut
  kept_put event moment made began goes are = record {
    moves = are.moves ++ goes.move ∷ [];
    ran = run_with_one_more script event made are.moves moment goes are.ran;
    each = by_kind event moment made began goes are (goes_by_kind script event moment.world made goes);
  }

  none_before : (earlier later : List Entry) (entry : Entry) → [] ≡ earlier ++ entry ∷ later → ⊥
  none_before [] later entry none = cc (none)
  none_before (x ∷ xs) later entry none = cc (none)

  opens_put : ArePut (first_moment script)
  unfolding initial_world run_with_past run_on
  opens_put = record {
    moves = [];
    ran = refl;
    each = λ earlier later entry is changes. ⊎_elim
        (λ (here : ([] ≡ earlier) × (format_entry script ≡ entry)).
        let same = subst (λ (e : Entry). changes_disks (effect_behind earlier e) ≡ true) (sym here.1) changes in absurd (cc (same)))
        (λ (before : (rest : List Entry) × ([] ≡ earlier ++ entry ∷ rest)). absurd (none_before earlier before.0 entry before.1))
        (cut_last earlier later [] entry (format_entry script) is);
  }

  pub put_in_run : (moves : List Move) (moment : MomentWithPast) → run_with_past script moves ≡ Some moment
      → (earlier later : List Entry) (entry : Entry) → moment.world.log ≡ earlier ++ entry ∷ later
      → changes_disks (effect_behind earlier entry) ≡ true
      → (node : NodeId) × (incarnation : ℕ) × (req : ℕ) × WasPutFor script moment earlier entry node incarnation req
  put_in_run moves moment ran = (run-kept_by_events script ArePut opens_put kept_put moves moment ran).each
