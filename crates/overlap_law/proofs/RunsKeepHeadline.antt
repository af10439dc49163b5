-- The headline of each run of events in range, as a call that made it may promise it, and what stands beside it.
use Rattle.std.proofs.Common.{◌≡◌, false, List, [], ◌∷◌, map, Option, Some, None, refl, sym, ap, subst, ◌∙◌}
use Rattle.std.specs.List.{list_any}
use Rattle.std.specs.Option.{option_map}
use Rattle.std.proofs.lemmas.Option.{same_Some}
use Rattle.disk_history.specs.declared.event.HistEvent.{HistEvent}
use Rattle.disk_history.specs.Legal.{IsLegal}
use Rattle.cluster_script.specs.declared.statement.Statement.{Statement}
use Rattle.sheep_node.specs.declared.event.Event.{Event}
use Rattle.sheep_world.specs.Run as runs
use Rattle.sheep_world.specs.RunsWithAsks.{Happens, event_of_move}
use Rattle.sheep_world.proofs.ClientLaws.{run-events}
use Rattle.overlap_law.specs.FewLossesInRuns.{changes_nodes}
use Rattle.overlap_law.specs.Headline.{Headline}
use Rattle.overlap_law.specs.HeadlineOfRuns.{RunKeepsHeadline}
use Rattle.overlap_law.specs.MomentChanges.{RunsAreInRange}
use Rattle.overlap_law.specs.Past.{MomentWithPast, run_with_past, without_past}
use Rattle.overlap_law.proofs.CarriedTables.{tables-in_run}
use Rattle.overlap_law.proofs.CheckDoneReplies.{leaves_value}
use Rattle.overlap_law.proofs.FewLossesInRuns.{whole_legal}
use Rattle.overlap_law.proofs.GoingOn.{event_makes}
use Rattle.overlap_law.proofs.HeadlineInRuns.{headline_holds}
use Rattle.overlap_law.proofs.MakingInRuns.{creates_first-in_run}
use Rattle.overlap_law.proofs.NothingLacked.{missing-in_run}
use Rattle.overlap_law.proofs.RunLemmas.{past-follows}
use Rattle.overlap_law.proofs.UnchangedMembers.{unchanged_legal}

-- events are told of as themselves
events_told : (events : List Event) → map event_of_move (map Happens events) ≡ events
events_told [] = refl
events_told (event ∷ events) = ap (λ (later : List Event). event ∷ later) (events_told events)

-- a run has its past, and so its headline, and what stands beside it
pub run_keeps_headline : (script : List Statement) → RunsAreInRange script → (events : List Event) (last : runs.Moment)
    → runs.run script events ≡ Some last → RunKeepsHeadline script events last.history
run_keeps_headline script range events last run = by_past (run_with_past script (map Happens events)) refl
  where
    headline : Headline script
    headline = headline_holds script range

    follows : option_map without_past (run_with_past script (map Happens events)) ≡ Some last
    follows = past-follows script (map Happens events) ∙ run-events script events ∙ run

    history_so : (moment : MomentWithPast) → Some (without_past moment) ≡ Some last → moment.past.history ≡ last.history
    history_so moment there = ap (λ (m : runs.Moment). m.history) (same_Some (without_past moment) last there)

    by_past : (o : Option MomentWithPast) → run_with_past script (map Happens events) ≡ o → RunKeepsHeadline script events last.history
    by_past None none = let no_run : None ≡ Some last = sym (ap (option_map without_past) none) ∙ follows in absurd (cc (no_run))
    by_past (Some moment) led =
        let there : Some (without_past moment) ≡ Some last = sym (ap (option_map without_past) led) ∙ follows in
        record {
          last = moment;
          led = led;
          same = history_so moment there;
          at_end = headline range.is_script (map Happens events) moment led;
          before = λ earlier later there parts so. headline range.is_script (map Happens earlier) there so;
          missing = λ before event made is.
              missing-in_run script range (creates_first-in_run script range)
              (λ earlier there so. (tables-in_run script range earlier there so).tables.tables)
              (map Happens is.earlier) before event made is.led
              (event_makes script event made before.world before refl is.made_so);
          checked = λ before event made is.
              leaves_value script range (map Happens is.earlier) before is.led event made
              (event_makes script event made before.world before refl is.made_so);
          few_losses = λ few.
              subst (λ (history : List HistEvent). IsLegal history) (history_so moment there)
              (whole_legal script range (map Happens events) moment led few);
          unchanged_members = λ plain.
              subst (λ (history : List HistEvent). IsLegal history) (history_so moment there)
              (unchanged_legal script range (map Happens events) moment led
              (ap (λ (told : List Event). list_any changes_nodes told) (events_told events) ∙ plain));
        }
