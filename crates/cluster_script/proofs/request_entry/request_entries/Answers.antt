use Rattle.std.proofs.Common.{◌≡◌, ◌≤◌, ◌++◌, List, length, sym, ap, subst, ◌∙◌, arith}
use Rattle.std.proofs.lemmas.List.{append-nil, drop_all}
use Rattle.cluster_script.specs.declared.request_entry.RequestEntry.{RequestEntry}
use Rattle.cluster_script.specs.KeptIndex.{request_entries}
use Rattle.cluster_script.proofs.TableLemmas.{few-entries}
use Rattle.cluster_script.proofs.request_entry.request_entries.Goals as goal

pub returns-clause-few : goal.returns-clause-few
returns-clause-few c =
    let past : length c.args.statements.now ≤ c.loop-s.s-index = omega (arith, c.loop-s-test.false) in
    let whole : c.loop-s.entries ≡ request_entries 0 0 c.args.statements.now
    = sym (append-nil c.loop-s.entries)
    ∙ ap (λ rest. c.loop-s.entries ++ request_entries c.loop-s.place c.loop-s.phase rest)
    (sym (drop_all c.loop-s.s-index c.args.statements.now past))
    ∙ c.loop-s.invariant.entries in
    subst (λ (entries : List RequestEntry). length entries ≤ length c.args.statements.now) (sym whole)
    (few-entries 0 0 c.args.statements.now)
