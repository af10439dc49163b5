use Rattle.std.proofs.Common.{◌≡◌, ⊎_elim, arith, ◌<◌, List, length, Some, slice_get, ap, ◌∙◌}
use Rattle.std.proofs.lemmas.Option.{slice_get_within}
use Rattle.overlap_law.specs.Attempts.{AttemptRecord}
use Rattle.overlap_law.proofs.AloneCheckers.{check_begins_it}
use Rattle.overlap_law.proofs.AttemptLists.{got_last}
use Rattle.overlap_law.proofs.NewAttempts.{WasAttempt, IsOpened, come_from}
use Rattle.overlap_law.proofs.NoRecoveredDue.{began-with_past}
use Rattle.overlap_law.proofs.alone.only_a_check_writes_its_disk.Goals as goal

pub returns : goal.returns
returns c = λ script moves start before after range ran trail change attempt grows n host at_host up req index request opened check there at
    course few object.
    let got : slice_get after.past.attempts (length before.past.attempts) ≡ Some attempt
    = ap (λ (all : List AttemptRecord). slice_get all (length before.past.attempts)) grows ∙ got_last before.past.attempts attempt in
    ⊎_elim
    (λ (w : WasAttempt before (length before.past.attempts) attempt).
    let within : length before.past.attempts < length before.past.attempts
    = slice_get_within before.past.attempts (length before.past.attempts) w.was w.at in
    absurd (omega (arith, within)))
    (λ (o : IsOpened script start after attempt).
    check_begins_it script range moves start before after ran trail change n host at_host up req index request there opened at check course
    few attempt o object)
    (come_from script range start (began-with_past script moves start ran) change (length before.past.attempts) attempt got)
