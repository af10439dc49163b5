use Rattle.std.proofs.Common.{◌≡◌, ℕ, cond, true, false, Option, Some, None, ap, sym, subst, ◌∙◌}
use Rattle.std.specs.Option.{option_copied}
use Rattle.std.specs.Ordering.{nat_cmp}
use Rattle.std.specs.FinMap as tree
use Rattle.gateway.specs.State.{Work, Gateway, asker}
use Rattle.gateway.specs.Kept.{asked_in, asked_at}
use Rattle.gateway.proofs.AskerLemmas.{asked-is}
use Rattle.gateway.proofs.gateway.Gateway.asked.Goals as goal

pub returns-then-waits_for : goal.returns-then-waits_for
returns-then-waits_for c =
    let works : tree.FinMap nat_cmp Work = c.self.inside.works in
    let number : ℕ = c.args.number in
    let req : ℕ = c.in-Some.req in
    let work : Work = c.in-Some-get.work.now in
    let leads : tree.get c.self.inside.askers number ≡ Some req = sym c.request.ensures ∙ c.in-Some.is in
    let at : tree.get works req ≡ Some work = sym c.get.ensures ∙ ap option_copied c.in-Some-get.is in
    let seen : Gateway = record { me = c.self.inside.me; tries = c.self.inside.tries; works = works; touched = c.self.inside.touched } in
    subst (λ (g : Gateway). Some (req, work) ≡ asker number g) c.self.view_is
    (sym
    (asked-is number c.self.inside.askers seen c.self.invariant
    ∙ ap (λ (o : Option ℕ). asked_at number o works) leads ∙ ap (asked_in number req) at
    ∙ ap (λ b. cond b (Some (req, work)) None) (sym c.waits_for.ensures ∙ c.if-waits_for.true)))

pub returns-else-waits_for : goal.returns-else-waits_for
returns-else-waits_for c =
    let works : tree.FinMap nat_cmp Work = c.self.inside.works in
    let number : ℕ = c.args.number in
    let req : ℕ = c.in-Some.req in
    let work : Work = c.in-Some-get.work.now in
    let leads : tree.get c.self.inside.askers number ≡ Some req = sym c.request.ensures ∙ c.in-Some.is in
    let at : tree.get works req ≡ Some work = sym c.get.ensures ∙ ap option_copied c.in-Some-get.is in
    let seen : Gateway = record { me = c.self.inside.me; tries = c.self.inside.tries; works = works; touched = c.self.inside.touched } in
    subst (λ (g : Gateway). None ≡ asker number g) c.self.view_is
    (sym
    (asked-is number c.self.inside.askers seen c.self.invariant
    ∙ ap (λ (o : Option ℕ). asked_at number o works) leads ∙ ap (asked_in number req) at
    ∙ ap (λ b. cond b (Some (req, work)) None) (sym c.waits_for.ensures ∙ c.if-waits_for.false)))

pub returns-in_default : goal.returns-in_default
returns-in_default c =
    let number : ℕ = c.args.number in
    let leads : tree.get c.self.inside.askers number ≡ None = sym c.request.ensures ∙ c.in_default.is in
    let seen : Gateway = record { me = c.self.inside.me; tries = c.self.inside.tries; works = c.self.inside.works; touched = c.self.inside.touched } in
    subst (λ (g : Gateway). None ≡ asker number g) c.self.view_is
    (sym (asked-is number c.self.inside.askers seen c.self.invariant ∙ ap (λ (o : Option ℕ). asked_at number o c.self.inside.works) leads))

pub returns-in_default-get : goal.returns-in_default-get
returns-in_default-get c =
    let works : tree.FinMap nat_cmp Work = c.self.inside.works in
    let number : ℕ = c.args.number in
    let req : ℕ = c.in-Some.req in
    let leads : tree.get c.self.inside.askers number ≡ Some req = sym c.request.ensures ∙ c.in-Some.is in
    let at : tree.get works req ≡ None = sym c.get.ensures ∙ ap option_copied c.in_default-get.is in
    let seen : Gateway = record { me = c.self.inside.me; tries = c.self.inside.tries; works = works; touched = c.self.inside.touched } in
    subst (λ (g : Gateway). None ≡ asker number g) c.self.view_is
    (sym
    (asked-is number c.self.inside.askers seen c.self.invariant
    ∙ ap (λ (o : Option ℕ). asked_at number o works) leads ∙ ap (asked_in number req) at))
