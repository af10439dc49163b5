use Rattle.std.proofs.Common.{◌≡◌, ◌∙◌, [], Some, cond, unwrap_or, ap, sym, subst}
use Rattle.std.specs.Map.{lookup}
use Rattle.std.specs.BTreeMap.{is_at}
use Rattle.std.specs.Ordering.{nat_cmp}
use Rattle.object_store.specs.Rows.{created}
use Rattle.object_store.specs.Objects.{kept_of, HaveIds}
use Rattle.object_id.specs.Oid.{IsOid}
use Rattle.object_store.proofs.DiskLemmas.{ids_after}
use Rattle.object_store.proofs.row_store.RowStore.put_new.Goals as goal

pub returns-clause-ok : goal.returns-clause-ok
returns-clause-ok g c =
    let bytes = g.B.RowBytes.bytes in
    let key = c.args.key.now in
    let rows : c.create.new.self ≡ created key.index c.args.epoch.0 c.args.bytes (kept_of c.args.self.now key.oid) =
    c.in_ok-create.ensures.ok ∙ ap (created key.index c.args.epoch.0 c.args.bytes) (c.new-rows.ensures ∙ sym (ap (λ o. unwrap_or o []) c.requires)) in
    λ q. c.in_ok-insert.ensures.updates.0 q
    ∙ (λ i. cond (is_at (nat_cmp key.oid) q) (Some (rows i)) (lookup (is_at (nat_cmp q)) (c.self.view_is i)))

pub invariant_of-self : goal.invariant_of-self
invariant_of-self g c = subst HaveIds (sym c.in_err-insert.ensures.err) c.self.invariant

pub invariant_of-self-2 : goal.invariant_of-self-2
invariant_of-self-2 g c =
    ids_after c.args.key.now.oid (Some c.create.new.self) c.self.inside.objects.entries c.insert.new.self.entries
    (λ _. subst IsOid c.as_u64-number.ensures.value c.as_u64-number.ensures.valid) c.in_ok-insert.ensures.updates.0 c.self.invariant
