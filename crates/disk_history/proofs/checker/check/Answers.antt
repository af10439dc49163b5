-- The state tells whether the next event may follow.
use Rattle.std.proofs.Common.{◌≡◌, sym, subst, ◌∙◌}
use Rattle.disk_history.specs.Legal.{IsFirstIllegal}
use Rattle.disk_history.specs.Ledger.{ledger_after}
use Rattle.disk_history.proofs.LegalLemmas.{legal_on, illegal_at}
use Rattle.disk_history.proofs.checker.check.Goals as goal

pub returns-then-not-branch-clause-illegal : goal.returns-then-not-branch-clause-illegal
returns-then-not-branch-clause-illegal c = λ place is.
    let same : c.loop-place.place ≡ place = cc in
    let told = c.in_ok-enter.ensures c.loop-place.invariant.0 c.loop-place.invariant.2 in
    subst (IsFirstIllegal c.args.events.now) same
    (illegal_at c.args.events.now c.loop-place.place c.index-events-place.result c.loop-place.invariant.0 c.loop-place-test.true c.index-events-place.is
    c.loop-place.invariant.1 (sym told.0 ∙ c.if-not-branch.true))

pub loop-place-preserved : goal.loop-place-preserved
loop-place-preserved c =
    let told = c.in_ok-enter.ensures c.loop-place.invariant.0 c.loop-place.invariant.2 in (
      ledger_after c.loop-place.invariant.0 c.index-events-place.result,
      legal_on c.args.events.now c.loop-place.place c.index-events-place.result c.loop-place.invariant.0 c.loop-place-test.true c.index-events-place.is
          c.loop-place.invariant.1 (sym told.0 ∙ c.if-not-branch.false),
      told.1 c.if-not-branch.false,
    )
