use Rattle.std.specs.FinMap as tree
use Rattle.overlap_law.proofs.CheckedMoments.{with_course}
use Rattle.overlap_law.proofs.AloneChecksOpenRuns.{open_works-in_run}
use Rattle.overlap_law.proofs.alone_checks.checks_have_their_works.Goals as goal

pub returns : goal.returns
returns c = λ script moves start moment range ran trail n host at req request check there course waits.
    open_works-in_run script range moves start moment ran trail n host at req (record {
      session = request.session;
      check = check;
      got = with_course (tree.get host.node.requests req) request check there course;
      waits = waits;
    })
