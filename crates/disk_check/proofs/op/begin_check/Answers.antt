use Rattle.std.proofs.Common.{◌∙◌, sym, ap, subst}
use Rattle.object_id.specs.Spec.{IsSpec}
use Rattle.disk_check.specs.Check.{CheckStep, CheckBeginsWork}
use Rattle.disk_check.proofs.WorkLemmas.{begin-work}
use Rattle.disk_check.proofs.OpLemmas.{begun-is, check_on-begun}
use Rattle.disk_check.proofs.op.begin_check.Goals as goal

pub invariant_of-check : goal.invariant_of-check
invariant_of-check c =
    begun-is c.args.inode.now c.vid.result.0 c.spec-spec.result c.in_ok-entries.entries.inherited c.new.result c.in_ok-entries.entries.own.items
    (rw c.vid.ensures c.requires) c.spec-spec.ensures.valid c.in_ok-entries.ensures.most c.new.ensures c.in_ok-entries.ensures.own

pub returns-clause-ok : goal.returns-clause-ok
returns-clause-ok c =
    sym c.in_ok-act.ensures.ok
    ∙ check_on-begun c.args.inode.now c.vid.result.0 c.spec-spec.result c.in_ok-entries.entries.inherited c.new.result
    c.in_ok-entries.entries.own.items c.vid.ensures c.spec-spec.ensures.value c.in_ok-entries.ensures.inherited c.new.ensures
    c.in_ok-entries.ensures.own

pub returns-clause-work : goal.returns-clause-work
returns-clause-work c =
    subst CheckBeginsWork (sym (ap (λ (step : CheckStep). step.act) (returns-clause-ok c)))
    (begin-work c.args.inode.now (subst IsSpec c.spec-spec.ensures.value c.spec-spec.ensures.valid))
