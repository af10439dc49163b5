use Rattle.std.proofs.Common.{rules, ◌≡◌, ◌≤◌, true, false, length, sym, subst, ◌∙◌, arith}
use Rattle.std.specs.List.{list_all}
use Rattle.std.proofs.lemmas.List.{take_all, drop_all}
use Rattle.cluster_script.specs.Statements.{is_setting}
use Rattle.cluster_script.proofs.Stretches.{others-from, others-none}
use Rattle.cluster_script.proofs.phase_entry.setting_count.Goals as goal

pub returns-then-not-is_setting-clause-behind : goal.returns-then-not-is_setting-clause-behind
returns-then-not-is_setting-clause-behind c =
    let no : c.is_setting.result ≡ false = search rules in
    others-from c.args.statements.now c.loop-place.place c.index-statements-place.result c.requires c.loop-place.invariant
    c.loop-place-test.true
    (subst (λ s. is_setting s ≡ false) c.index-statements-place.is (sym c.is_setting.ensures ∙ no))

pub returns-clause-behind : goal.returns-clause-behind
returns-clause-behind c =
    let past : length c.args.statements.now ≤ c.loop-place.place = omega (arith, c.loop-place-test.false) in
    let all : list_all is_setting c.args.statements.now ≡ true
    = subst (λ xs. list_all is_setting xs ≡ true) (take_all c.loop-place.place c.args.statements.now past) c.loop-place.invariant in
    drop_all (length c.args.statements.now) c.args.statements.now (omega arith) ∙ sym (others-none c.args.statements.now all)
