-- In every run in range refused commands change nothing.
use Rattle.std.proofs.Common.{◌≡◌, List, [], ◌∷◌, ◌++◌, false, Some, sym, subst}
use Rattle.object_id.specs.declared.entry.Entry.{Entry}
use Rattle.cluster_script.specs.declared.statement.Statement.{Statement}
use Rattle.sheep_world.specs.RunsWithAsks.{Move}
use Rattle.overlap_law.specs.MomentChanges.{RunsAreInRange}
use Rattle.overlap_law.specs.Past.{MomentWithPast, run_with_past}
use Rattle.overlap_law.specs.RefusedCommands.{effect_behind, changes_disks, giving_back, IsGivenBack, RefusedCommandsChangeNothing}
use Rattle.overlap_law.proofs.RefusedCommandsInRuns.{undone_after}
use Rattle.overlap_law.proofs.RefusedCommandsPut.{put_in_run}

pub commands-in_run : (script : List Statement) → RunsAreInRange script → (moves : List Move) (moment : MomentWithPast)
    → run_with_past script moves ≡ Some moment → RefusedCommandsChangeNothing script moment
commands-in_run script range moves moment ran = record {
  put = put_in_run script range moves moment ran;
  nothing = λ earlier entry node incarnation req was refused.
      subst (λ (log : List Entry). changes_disks (effect_behind log entry) ≡ false) was.behind
      (undone_after script range was.moves was.before was.ran entry node incarnation req was.to_put was.more moment was.led refused).0;
  given_back = λ earlier later entry unlock node incarnation req was refused log_so gives.
      subst (λ (log : List Entry). IsGivenBack moment.world node incarnation (log ++ entry ∷ []) later unlock) was.behind
      ((undone_after script range was.moves was.before was.ran entry node incarnation req was.to_put was.more moment was.led refused).1 later
      unlock (subst (λ (log : List Entry). moment.world.log ≡ log ++ entry ∷ later) (sym was.behind) log_so)
      (subst (λ (log : List Entry). giving_back (effect_behind log entry) ≡ Some unlock) (sym was.behind) gives));
}
