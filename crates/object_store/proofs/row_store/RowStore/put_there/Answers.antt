use Rattle.std.proofs.Common.{refl, ◌≡◌, ◌∙◌, [], Some, IsSome, cond, unwrap_or, ap, sym, subst}
use Rattle.std.specs.Option.{option_copied_mut}
use Rattle.std.specs.Map.{lookup}
use Rattle.std.specs.BTreeMap.{is_at}
use Rattle.std.specs.Ordering.{nat_cmp}
use Rattle.std.proofs.lemmas.Result.{IfOk-weaker}
use Rattle.std.proofs.lemmas.Map.Steps.{set_value_same}
use Rattle.object_store.specs.Rows.{created}
use Rattle.object_store.specs.Objects.{kept_of, HaveIds}
use Rattle.object_store.proofs.AnswerLemmas.{OnErr-weaker}
use Rattle.object_store.proofs.DiskLemmas.{ids_after}
use Rattle.object_store.proofs.row_store.RowStore.put_there.Goals as goal

pub returns-clause-ok : goal.returns-clause-ok
returns-clause-ok g c =
    let key = c.args.key.now in
    let es = c.self.inside.objects.entries in
    let new = c.create.new.self in
    let found : lookup (is_at (nat_cmp key.oid)) es ≡ Some c.in-Some.rows.now = sym c.get_mut.ensures.value ∙ ap option_copied_mut c.in-Some.is in
    let old : c.in-Some.rows.now ≡ kept_of c.args.self.now key.oid =
    sym (ap (λ o. unwrap_or o []) found) ∙ ap (λ os. kept_of os key.oid) c.self.view_is in
    IfOk-weaker c.create.result (λ _. new ≡ created key.index c.args.epoch.0 c.args.bytes c.in-Some.rows.now) _
    (λ _ is q. ((c.get_mut.follows.holds new).3 (subst IsSome (sym found) refl)).0 q
    ∙ (λ i. cond (is_at (nat_cmp key.oid) q) (Some ((is ∙ ap (created key.index c.args.epoch.0 c.args.bytes) old) i)) (lookup (is_at (nat_cmp q)) (c.self.view_is i))))
    c.create.ensures.ok

pub returns-clause-err : goal.returns-clause-err
returns-clause-err g c =
    let key = c.args.key.now in
    let es = c.self.inside.objects.entries in
    let new = c.create.new.self in
    let found : lookup (is_at (nat_cmp key.oid)) es ≡ Some c.in-Some.rows.now = sym c.get_mut.ensures.value ∙ ap option_copied_mut c.in-Some.is in
    OnErr-weaker c.create.result (new ≡ c.in-Some.rows.now) _
    (λ same. (c.get_mut.follows.holds new).0 ∙ set_value_same (is_at (nat_cmp key.oid)) es new (found ∙ ap Some (sym same)) ∙ c.self.view_is)
    c.create.ensures.err

pub invariant_of-self-2 : goal.invariant_of-self-2
invariant_of-self-2 g c =
    let key = c.args.key.now in
    let es = c.self.inside.objects.entries in
    let new = c.create.new.self in
    let found : lookup (is_at (nat_cmp key.oid)) es ≡ Some c.in-Some.rows.now = sym c.get_mut.ensures.value ∙ ap option_copied_mut c.in-Some.is in
    ids_after key.oid (Some new) es (c.get_mut.follows.lender new).entries (λ _. c.self.invariant key.oid (subst IsSome (sym found) refl))
    ((c.get_mut.follows.holds new).3 (subst IsSome (sym found) refl)).0 c.self.invariant
