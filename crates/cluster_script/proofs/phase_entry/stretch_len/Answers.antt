use Rattle.std.proofs.Common.{rules, ◌≡◌, ◌+◌, ◌≤◌, suc, true, false, ◌∷◌, length, take, drop, sym, subst, ◌∙◌, arith}
use Rattle.std.specs.List.{list_any}
use Rattle.std.proofs.lemmas.List.{take_all}
use Rattle.cluster_script.specs.Phases.{is_barrier, stretches}
use Rattle.cluster_script.proofs.Stretches.{stretch-ends, stretch-whole}
use Rattle.cluster_script.proofs.phase_entry.stretch_len.Goals as goal

pub returns-then-is_barrier-clause-stretch : goal.returns-then-is_barrier-clause-stretch
returns-then-is_barrier-clause-stretch c =
    let ends : c.is_barrier.result ≡ true = search rules in
    let next : suc c.loop-place.place ≡ c.loop-place.place + 1 = omega arith in
    subst (λ k. stretches c.args.statements.now ≡ take k c.args.statements.now ∷ stretches (drop k c.args.statements.now)) next
    (stretch-ends c.args.statements.now c.loop-place.place c.index-statements-place.result c.loop-place.invariant c.loop-place-test.true
    (subst (λ s. is_barrier s ≡ true) c.index-statements-place.is (sym c.is_barrier.ensures ∙ ends)))

pub returns-clause-stretch : goal.returns-clause-stretch
returns-clause-stretch c =
    let past : length c.args.statements.now ≤ c.loop-place.place = omega (arith, c.loop-place-test.false) in
    stretch-whole c.args.statements.now c.requires
    (subst (λ xs. list_any is_barrier xs ≡ false) (take_all c.loop-place.place c.args.statements.now past) c.loop-place.invariant)
