-- Each item of a block of a disk in strips is of a coded write before each change on the way of an event too, and behind it.
use Rattle.std.proofs.Common.{◌≡◌, ℕ, true, List, [], ◌∷◌, ◌++◌, Option, Some, None, option_map, fold, refl, sym, ap, subst, ◌∙◌}
use Rattle.std.specs.Option.{option_and_then}
use Rattle.std.specs.FinMap as tree
use Rattle.object_id.specs.declared.entry.Entry.{Entry}
use Rattle.cluster_script.specs.declared.statement.Statement.{Statement}
use Rattle.disk_history.specs.Ledger.{ledger_after}
use Rattle.vdi_directory.specs.Decisions.{log_effects}
use Rattle.sheep_node.specs.declared.event.Event.{Event}
use Rattle.sheep_node.specs.declared.input.Input.{Input}
use Rattle.sheep_node.specs.declared.input.Input.TheVariants as inputs
use Rattle.sheep_node.specs.CheckWrites.{check_write_on}
use Rattle.sheep_node.specs.StepState.{StepState}
use Rattle.sheep_world.specs.HistoryAdditions.{check_write_by}
use Rattle.sheep_world.specs.NodeCauses.{NodeCause, GuestAsks, RequestComes, ReplyComes, LossIsTold, EntryIsRead, EntryIsPut, RecoveryTicks}
use Rattle.sheep_world.specs.NodeCauses.{WorkIsRetried, IsCause, history_of_cause, input_of_cause}
use Rattle.sheep_world.specs.Step.{EventOutcome}
use Rattle.sheep_world.specs.NodeCauses.{ClientAsks}
use Rattle.sheep_world.specs.World.{Host, World, is_host_up, node_at}
use Rattle.sheep_world.specs.RunsWithAsks.{Move}
use Rattle.sheep_world.specs.Began.{MakesMove}
use Rattle.overlap_law.specs.Headline.{ledger_of}
use Rattle.overlap_law.specs.MomentChanges.{MomentChange, RunsAreInRange}
use Rattle.overlap_law.specs.Past.{MomentWithPast, moment_after, past_after_event, run_with_past}
use Rattle.overlap_law.specs.SoundCoded.{StripItemsAreCoded}
use Rattle.overlap_law.specs.StepMoments.{SteppingNode, IsStepping, StepsByChanges, first_in_step, world_in_step, moment_in_step}
use Rattle.overlap_law.proofs.EventsOfChanges.{by_change}
use Rattle.overlap_law.proofs.LogsOfMoments.{log_by_changes}
use Rattle.overlap_law.proofs.RunsWithOneMore.{run_with_one_more}
use Rattle.overlap_law.proofs.SoundCodedRuns.{AllCoded, are_coded, asks_coded, came_coded, comes_harmless, split, told}
use Rattle.overlap_law.proofs.SoundCodedRuns.{all_coded-in_run, coded-in_run}

module _ (script : List Statement) (range : RunsAreInRange script) (events : List Move) (start : MomentWithPast)
    (run : run_with_past script events ≡ Some start) where
  all : AllCoded start.world.log (ledger_of start.past.history)
  all = all_coded-in_run script range events start run

  -- ---- in the middle of a step

  so_far_coded : (n : ℕ) (host : Host) → tree.get start.world.hosts n ≡ Some host → is_host_up host ≡ true → (cause : NodeCause)
      → IsCause script start.world n host cause → StepsByChanges cause → (after : World) → after.input ≡ Some (input_of_cause cause)
      → AllCoded start.world.log (fold ledger_after (ledger_of start.past.history) (history_of_cause script cause start.world after))
  so_far_coded n host there up (GuestAsks session other ask) caused by after input =
      asks_coded script range events start run all n host there up session other ask caused after
  so_far_coded n host there up (RequestComes name to request) caused by after input = absurd by
  so_far_coded n host there up (ReplyComes name from rsp) caused by after input =
      let is : check_write_by name start.world after ≡ check_write_on (inputs.Reply rsp) host.node
      = ap (λ (o : Option Input).
      option_and_then (λ (i : Input). option_and_then (check_write_on i) (node_at name.sender.0 start.world)) o) input
      ∙ ap (λ (k : ℕ). option_and_then (check_write_on (inputs.Reply rsp)) (node_at k start.world)) caused.here
      ∙ ap (λ (o : Option Host). option_and_then (check_write_on (inputs.Reply rsp)) (option_map (λ (h : Host). h.node) o)) there in
      came_coded script range events start run all n host there up (check_write_by name start.world after) after
      (comes_harmless script range events start run all n host there up rsp (check_write_by name start.world after) is)
  so_far_coded n host there up (LossIsTold name packet) caused by after input =
      told script range events start run all start.world after None
  so_far_coded n host there up (EntryIsRead entry) caused by after input = told script range events start run all start.world after None
  so_far_coded n host there up (EntryIsPut entry) caused by after input = absurd by
  so_far_coded n host there up RecoveryTicks caused by after input = absurd by
  so_far_coded n host there up WorkIsRetried caused by after input = told script range events start run all start.world after None
  so_far_coded n host there up (ClientAsks req ask) caused by after input = told script range events start run all start.world after None

  coded_in_step : (stepping : SteppingNode) → IsStepping script start.world stepping → StepsByChanges stepping.cause
      → (so_far : StepState) → AllCoded start.world.log (ledger_of (moment_in_step script stepping start so_far).past.history)
  unfolding past_after_event
  coded_in_step stepping is by so_far =
      let after : World = world_in_step script stepping start.world so_far in
      subst (AllCoded start.world.log)
      (sym (split script range events start run all (history_of_cause script stepping.cause start.world after)))
      (so_far_coded stepping.n stepping.host is.there is.up stepping.cause is.caused by after refl)

  -- ---- before each change

  then_coded : (stepping : SteppingNode) → IsStepping script start.world stepping → StepsByChanges stepping.cause → (so_far : StepState)
      → StripItemsAreCoded (ledger_of (moment_in_step script stepping start so_far).past.history)
      (log_effects (moment_in_step script stepping start so_far).world.log)
  then_coded stepping is by so_far =
      are_coded (moment_in_step script stepping start so_far).world.log
      (ledger_of (moment_in_step script stepping start so_far).past.history)
      (subst (λ (log : List Entry). AllCoded log (ledger_of (moment_in_step script stepping start so_far).past.history))
      (sym (log_by_changes stepping.cause by start.world.log)) (coded_in_step stepping is by so_far))

  at_start : StripItemsAreCoded (ledger_of start.past.history) (log_effects start.world.log)
  at_start = coded-in_run script range events start run

  pub coded_before : {before after : MomentWithPast} → MomentChange script start before after
      → StripItemsAreCoded (ledger_of before.past.history) (log_effects before.world.log)
  coded_before change =
      by_change script start
      (λ before after. StripItemsAreCoded (ledger_of before.past.history) (log_effects before.world.log))
      (λ stepping is by. at_start)
      (λ stepping is by so_far next within. then_coded stepping is by so_far)
      (λ event made happened. at_start) change

  -- ---- and behind it

  at_end : (event : Event) (made : EventOutcome) → MakesMove script event start.world made
      → StripItemsAreCoded (ledger_of (moment_after script event start made).past.history)
      (log_effects (moment_after script event start made).world.log)
  at_end event made happened =
      coded-in_run script range (events ++ happened.move ∷ []) (moment_after script event start made)
      (run_with_one_more script event made events start happened run)

  pub coded_after : {before after : MomentWithPast} → MomentChange script start before after
      → StripItemsAreCoded (ledger_of after.past.history) (log_effects after.world.log)
  coded_after change =
      by_change script start
      (λ before after. StripItemsAreCoded (ledger_of after.past.history) (log_effects after.world.log))
      (λ stepping is by. then_coded stepping is by (first_in_step stepping))
      (λ stepping is by so_far next within. then_coded stepping is by next) at_end change
