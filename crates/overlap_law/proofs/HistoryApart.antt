-- Behind each change on the way of an event: a write that is done in it has no item in a block that was read, and no other request writes
-- where a write is at.
use Rattle.std.proofs.Common.{◌≡◌, List, refl, sym, subst, inr}
use Rattle.cluster_script.specs.declared.statement.Statement.{Statement}
use Rattle.overlap_law.specs.CopiedStrips.{NoneElseWrites}
use Rattle.overlap_law.specs.Headline.{ledger_of}
use Rattle.overlap_law.specs.MomentChanges.{MomentTrail, RunsAreInRange}
use Rattle.overlap_law.specs.Past.{MomentWithPast, run_with_past}
use Rattle.overlap_law.specs.ReadsToldApart.{IsApartFromReads, DoneWritesAreApart}
use Rattle.overlap_law.specs.StepMoments.{moment_in_step}
use Rattle.guest_driver.specs.Driver.{Writes}
use Rattle.std.specs.Prelude.{Some}
use Rattle.overlap_law.proofs.ApartDone.{told_apart}
use Rattle.overlap_law.proofs.UnwrittenInRuns.{none_meet}
use Rattle.overlap_law.proofs.UnwrittenTold.{apart_from_open}
use Rattle.sheep_world.specs.RunsWithAsks.{Move}

module _ (script : List Statement) (range : RunsAreInRange script) (events : List Move) (start : MomentWithPast)
    (run : run_with_past script events ≡ Some start) where
  pub done_apart : (before after : MomentWithPast) → MomentTrail script start before → DoneWritesAreApart script start before after
  done_apart before after trail = record {
    each = λ stepping so_far next is by within at_before at_after reply among free accepts ends.
        let along : MomentTrail script start (moment_in_step script stepping start so_far)
        = subst (λ (m : MomentWithPast). MomentTrail script start m) at_before trail in
        subst (λ (m : MomentWithPast). IsApartFromReads script start m after reply.0) (sym at_before)
        (subst (λ (m : MomentWithPast). IsApartFromReads script start (moment_in_step script stepping start so_far) m reply.0)
        (sym at_after) (record {
          standing = apart_from_open script range events start run stepping is by so_far next within along reply among free accepts;
          told = told_apart script range events start run stepping is by so_far next within reply among free accepts;
        }));
  }

  pub none_else : {moment : MomentWithPast} → MomentTrail script start moment
      → NoneElseWrites (ledger_of moment.past.history) moment.world.hosts moment.past.attempts
  none_else trail = record {
    each = λ n host there up req unit request opened disk payload stage piece rest got on course known inside below being apart.
        none_meet script range events start run trail n host there up req unit request opened disk (Writes payload stage piece rest) piece
        rest got on course refl known inside below being (inr apart);
  }
