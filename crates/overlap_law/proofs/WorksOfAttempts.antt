-- In each run in range each attempt is of a work that there may be: it is of one that its node had or asked for.
use Rattle.std.proofs.Common.{⊎_elim, List, subst}
use Rattle.cluster_script.specs.declared.statement.Statement.{Statement}
use Rattle.peer_proto.specs.declared.work.ObjWork.{ObjWork}
use Rattle.peer_proto.specs.Work.{IsWork}
use Rattle.sheep_world.specs.Began.{Began}
use Rattle.overlap_law.specs.Attempts.{AttemptRecord}
use Rattle.overlap_law.specs.MomentChanges.{MomentChange, RunsAreInRange, KeptByChanges}
use Rattle.overlap_law.specs.Past.{MomentWithPast}
use Rattle.overlap_law.specs.WorksOfAttempts.{AttemptsAreOfWorks}
use Rattle.overlap_law.proofs.NewAttempts.{IsOpened, WasAttempt, come_from}
use Rattle.overlap_law.proofs.ShapedAttempts.{work_so}
use Rattle.overlap_law.proofs.WholeInRuns.{asked_whole}

-- the attempts of a moment are so
abbrev pub AreOfWorks : MomentWithPast → Type 0
AreOfWorks moment = AttemptsAreOfWorks moment.past.attempts

module _ (script : List Statement) (range : RunsAreInRange script) where
  pub change_works : (start before after : MomentWithPast) → Began script start.world → MomentChange script start before after
      → AreOfWorks before → AreOfWorks after
  change_works start before after began change are = record {
    each = λ j now got. ⊎_elim
        (λ (w : WasAttempt before j now). subst (λ (a : AttemptRecord). IsWork a.work) w.same (are.each j w.was w.at))
        (λ (o : IsOpened script start after now).
        subst (λ (work : ObjWork). IsWork work) (work_so script range start began after now o)
        (asked_whole script range start began after now o).0.is_work)
        (come_from script range start began change j now got);
  }

  pub kept_works : KeptByChanges script AreOfWorks
  kept_works = record {
    opens = record { each = λ j attempt got. absurd (cc (got)) };
    keeps = λ start before after began change are. change_works start before after began change are;
  }
