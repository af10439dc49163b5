-- In each run in range a working disk that a session has open, in which no command goes on, is one of the history, as large as its inode
-- says.
use Rattle.std.proofs.Common.{◌≡◌, List, Some, sym, ap, ◌∙◌, arith}
use Rattle.std.specs.Prelude.{◌/◌}
use Rattle.std.proofs.lemmas.Option.{same_Some}
use Rattle.object_id.specs.declared.entry.VdiSpec.{VdiSpec}
use Rattle.cluster_script.specs.declared.statement.Statement.{Statement}
use Rattle.vdi_directory.specs.Decisions.{log_effects}
use Rattle.vdi_directory.specs.States.{Working, is_live_state, state_of}
use Rattle.vdi_directory.proofs.DecisionLaws.{held-works}
use Rattle.overlap_law.specs.MomentChanges as moments
use Rattle.overlap_law.specs.MomentChanges.{RunsAreInRange}
use Rattle.overlap_law.specs.Past.{MomentWithPast, run_with_past}
use Rattle.overlap_law.specs.StandingReads.{WorkingDisksAreOfHistory}
use Rattle.overlap_law.specs.Writers.{session_holder}
use Rattle.overlap_law.proofs.BeginningWrites.{there_by_history}
use Rattle.overlap_law.proofs.BlocksInRuns.{blocks-in_run}
use Rattle.overlap_law.proofs.EntriesFollow.{AreShown, kept_shown}
use Rattle.overlap_law.proofs.HoldersInWorlds.{working_held}
use Rattle.overlap_law.proofs.InsideDisks.{open_spec}
use Rattle.overlap_law.proofs.NoRecoveredDue.{began-with_past}
use Rattle.overlap_law.proofs.RunsByChanges.{on_the_way}
use Rattle.sheep_world.specs.RunsWithAsks.{Move}

pub working_of_history : (script : List Statement) → RunsAreInRange script → (events : List Move) (moment : MomentWithPast)
    → run_with_past script events ≡ Some moment → WorkingDisksAreOfHistory moment
working_of_history script range events moment run = record {
  each = λ n host there up session disk opened working alone.
      let began = began-with_past script events moment run in
      let works : state_of (log_effects moment.world.log) disk.inode.vid ≡ Working
      = held-works moment.world.log disk.inode.vid (session_holder n session)
      (working_held script range moment.world began n host there up session disk opened working alone) in
      let (found, got) = there_by_history moment.world.log moment.past.history
      (on_the_way script AreShown (kept_shown script range) events moment moment run moments.Still) disk.inode.vid works in
      let has = blocks-in_run script range events moment run disk.inode.vid found got in
      let made = open_spec script range moment.world began n host there session disk opened in
      let same : has.spec ≡ disk.inode.spec = same_Some has.spec disk.inode.spec (sym has.made ∙ made) in
      let whole : found.blocks ≡ disk.inode.spec.size / 512 = has.whole ∙ ap (λ (s : VdiSpec). s.size / 512) same in
      record {
        disk = found;
        there = got;
        large = omega (arith, whole);
        made_with = made;
        live = λ kept. ap is_live_state works;
      };
}
