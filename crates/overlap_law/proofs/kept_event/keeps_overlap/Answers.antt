use Rattle.std.proofs.lemmas.Result.{IfOk-weaker}
use Rattle.overlap_law.proofs.CarriedTables.{tables-in_run}
use Rattle.overlap_law.proofs.CheckDoneReplies.{leaves_value}
use Rattle.overlap_law.proofs.FewLossesInRuns.{whole_legal}
use Rattle.overlap_law.proofs.GoingOn.{event_makes}
use Rattle.overlap_law.proofs.HeadlineInRuns.{headline_holds}
use Rattle.overlap_law.proofs.KeptByMoves.{beside_overlap}
use Rattle.overlap_law.proofs.KeptFacts.{facts_kept}
use Rattle.overlap_law.proofs.MakingInRuns.{creates_first-in_run}
use Rattle.overlap_law.proofs.NothingLacked.{missing-in_run}
use Rattle.overlap_law.proofs.OverlapInRuns.{overlap_holds}
use Rattle.overlap_law.proofs.RunsWithOneMore.{run_with_one_more}
use Rattle.overlap_law.proofs.UnchangedMembers.{unchanged_legal}
use Rattle.overlap_law.proofs.kept_event.keeps_overlap.Goals as goal

pub returns-clause-run : goal.returns-clause-run
returns-clause-run c =
    IfOk-weaker c.apply.result _ _
    (λ grown made moves moment is at. run_with_one_more c.args.script.now c.args.event
    (record { world = c.apply.new.self.world; grown = grown }) moves moment
    (event_makes c.args.script.now c.args.event (record { world = c.apply.new.self.world; grown = grown }) _ moment at made) is)
    c.apply.ensures.made

pub returns-clause-missing : goal.returns-clause-missing
returns-clause-missing c =
    IfOk-weaker c.apply.result _ _
    (λ grown made moves moment range is at.
    missing-in_run c.args.script.now range (creates_first-in_run c.args.script.now range)
    (λ earlier there so. (tables-in_run c.args.script.now range earlier there so).tables.tables) moves moment c.args.event
    (record { world = c.apply.new.self.world; grown = grown }) is
    (event_makes c.args.script.now c.args.event (record { world = c.apply.new.self.world; grown = grown }) _ moment at made))
    c.apply.ensures.made

pub returns-clause-checked : goal.returns-clause-checked
returns-clause-checked c =
    IfOk-weaker c.apply.result _ _
    (λ grown made moves moment range is at.
    leaves_value c.args.script.now range moves moment is c.args.event (record { world = c.apply.new.self.world; grown = grown })
    (event_makes c.args.script.now c.args.event (record { world = c.apply.new.self.world; grown = grown }) _ moment at made))
    c.apply.ensures.made

pub returns-clause-overlap : goal.returns-clause-overlap
returns-clause-overlap c =
    IfOk-weaker c.apply.result _ _
    (λ grown made moves moment range is at. overlap_holds c.args.script.now range moves moment is)
    c.apply.ensures.made

pub returns-clause-facts : goal.returns-clause-facts
returns-clause-facts c =
    IfOk-weaker c.apply.result _ _
    (λ grown made moves moment range is at. (facts_kept c.args.script.now range moves moment is).facts)
    c.apply.ensures.made

pub returns-clause-beside : goal.returns-clause-beside
returns-clause-beside c =
    IfOk-weaker c.apply.result _ _
    (λ grown made moves moment range is at. beside_overlap c.args.script.now range moves moment is)
    c.apply.ensures.made

pub returns-clause-headline : goal.returns-clause-headline
returns-clause-headline c =
    IfOk-weaker c.apply.result _ _
    (λ grown made moves moment range is at. headline_holds c.args.script.now range range.is_script moves moment is)
    c.apply.ensures.made

pub returns-clause-few_losses : goal.returns-clause-few_losses
returns-clause-few_losses c =
    IfOk-weaker c.apply.result _ _
    (λ grown made moves moment range is at few. whole_legal c.args.script.now range moves moment is few)
    c.apply.ensures.made

pub returns-clause-unchanged_members : goal.returns-clause-unchanged_members
returns-clause-unchanged_members c =
    IfOk-weaker c.apply.result _ _
    (λ grown made moves moment range is at plain. unchanged_legal c.args.script.now range moves moment is plain)
    c.apply.ensures.made
