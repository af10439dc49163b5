use Rattle.std.proofs.Common.{sym, subst}
use Rattle.cluster_script.specs.Language.{MayStand}
use Rattle.cluster_script.proofs.Noted.{script-more, total-more, marked-more, may-be-marked}
use Rattle.cluster_script.proofs.draft.Draft.push.Goals as goal

pub marked-numbers-requires : goal.marked-numbers-requires
marked-numbers-requires c =
    may-be-marked c.self.inside.statements c.args.s c.self.invariant.0 (subst (λ b. MayStand b c.args.s) (sym c.self.view_is) c.requires)

pub invariant_of-self-2 : goal.invariant_of-self-2
invariant_of-self-2 c =
    let may : MayStand c.self.inside.statements c.args.s = subst (λ b. MayStand b c.args.s) (sym c.self.view_is) c.requires in (
      rw c.in_ok-push.ensures.ok (script-more c.self.inside.statements c.args.s c.self.invariant.0 may),
      rw (c.in_ok-push.ensures.ok, c.counted-totals.ensures) (total-more c.self.inside.statements c.self.inside.totals c.args.s c.self.invariant.1 may),
      rw c.in_ok-push.ensures.ok (marked-more c.self.inside.statements c.self.inside.numbers c.marked-numbers.result c.args.s c.self.invariant.2 c.marked-numbers.ensures),
    )
