-- What is kept by each change of a moment holds at each moment on the way of an event of a run; so the group of epochs and nodes does.
use Rattle.std.proofs.Common.{◌≡◌, List, Some}
use Rattle.cluster_script.specs.declared.statement.Statement.{Statement}
use Rattle.overlap_law.specs.Past.{MomentWithPast, run_with_past}
use Rattle.overlap_law.specs.MomentChanges.{MomentTrail, Still, RunsAreInRange}
use Rattle.overlap_law.specs.Groups.{TermsAreKept}
use Rattle.overlap_law.specs.NodeEpochs.{TheUpHaveStayed, LeaversAreBeyond, RecoveriesArePresent, AnswerersHaveCome, TheRecoveredHaveAll}
use Rattle.overlap_law.specs.NodeEpochs.{TheUnfinishedAreUnsettled}
use Rattle.overlap_law.proofs.EpochsInRuns.{members-in_run, read-in_run, settled-in_run}
use Rattle.overlap_law.proofs.FinishedInMoments.{TermsHold, kept_terms}
use Rattle.overlap_law.proofs.OverlapLemmas.{settled-recovered}
use Rattle.overlap_law.proofs.ReadInMoments.{are_present}
use Rattle.overlap_law.proofs.RecoveredInMoments.{have_all}
use Rattle.overlap_law.proofs.RunsByChanges.{on_the_way}
use Rattle.overlap_law.proofs.StoodNodes.{have_stayed, are_beyond}
use Rattle.overlap_law.proofs.UnsettledInMoments.{are_unsettled}
use Rattle.sheep_world.specs.RunsWithAsks.{Move}

module _ (script : List Statement) (range : RunsAreInRange script) (events : List Move) (start moment : MomentWithPast)
    (is : run_with_past script events ≡ Some start) (trail : MomentTrail script start moment) where
  terms : TermsHold moment
  terms = on_the_way script TermsHold (kept_terms script range) events start moment is trail

  pub stayed-on_the_way : TheUpHaveStayed moment.world.log moment.world.hosts
  stayed-on_the_way = have_stayed moment.world.log moment.world.hosts terms.stood

  pub left-on_the_way : LeaversAreBeyond moment.world.log moment.world.hosts
  left-on_the_way = are_beyond moment.world.log moment.world.hosts terms.stood

  pub present-on_the_way : RecoveriesArePresent moment.world.log moment.world.hosts
  present-on_the_way = are_present moment terms.sound

  pub answered-on_the_way : AnswerersHaveCome moment.world.hosts
  answered-on_the_way = terms.answers.answered

  pub recovered-on_the_way : TheRecoveredHaveAll moment.world.log moment.world.hosts
  recovered-on_the_way = have_all moment terms.sound terms.came

  pub unsettled-on_the_way : TheUnfinishedAreUnsettled moment.world.log moment.world.hosts
  unsettled-on_the_way = are_unsettled moment terms

-- and at the end of each event the whole group does
module _ (script : List Statement) (range : RunsAreInRange script) (events : List Move) (moment : MomentWithPast)
    (is : run_with_past script events ≡ Some moment) where
  pub terms-in_run : TermsAreKept moment.world.log moment.world.hosts
  terms-in_run = record {
    up_member = members-in_run script range events moment is;
    stayed = stayed-on_the_way script range events moment moment is Still;
    left = left-on_the_way script range events moment moment is Still;
    read = read-in_run script range events moment is;
    present = present-on_the_way script range events moment moment is Still;
    answered = answered-on_the_way script range events moment moment is Still;
    recovered = recovered-on_the_way script range events moment moment is Still;
    unsettled = unsettled-on_the_way script range events moment moment is Still;
    settled_read = settled-in_run script range events moment is;
    settles = settled-recovered moment.world.log moment.world.hosts;
  }
