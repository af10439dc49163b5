use Rattle.overlap_law.proofs.BornFirst.{of_the_born}
use Rattle.overlap_law.proofs.EndTests.{holds_before}
use Rattle.overlap_law.proofs.overlap.the_overlap_holds_by_the_tests_of_an_events_end.Goals as goal

pub returns : goal.returns
returns c = λ script moves move before after range run next overlap.
    holds_before script range moves move before after run next (of_the_born before.past.attempts overlap.attempts.create_first) overlap
