use Rattle.std.proofs.Common.{◌≡◌, ◌∙◌, [], Some, None, unwrap_or, ap, sym}
use Rattle.std.specs.Option.{option_map, option_copied}
use Rattle.std.specs.Map.{lookup}
use Rattle.std.specs.BTreeMap.{is_at}
use Rattle.std.specs.Ordering.{nat_cmp}
use Rattle.object_store.specs.Rows.{open_at}
use Rattle.object_store.specs.Store.{open_row}
use Rattle.object_store.specs.KeptRows.{seen_row}
use Rattle.object_store.specs.Objects.{seen_objects}
use Rattle.object_store.proofs.ObjectLemmas.{open_row-seen_objects, kept_of-found}
use Rattle.object_store.proofs.row_store.RowStore.open_row.Goals as goal

pub returns-in-Some : goal.returns-in-Some
returns-in-Some g c =
    let bytes = g.B.RowBytes.bytes in
    let es = c.self.inside.objects.entries in
    let key = c.args.key.now in
    let found : lookup (is_at (nat_cmp key.oid)) es ≡ Some c.in-Some.rows.now = sym c.get.ensures.value ∙ ap option_copied c.in-Some.is in
    ap (option_map (seen_row bytes)) (c.open_row.ensures ∙ ap (open_at key.index) (sym (kept_of-found es key.oid c.in-Some.rows.now found)))
    ∙ sym (open_row-seen_objects bytes es key) ∙ ap (λ os. open_row (seen_objects bytes os) key) c.self.view_is

pub returns-in-None : goal.returns-in-None
returns-in-None g c =
    let bytes = g.B.RowBytes.bytes in
    let es = c.self.inside.objects.entries in
    let key = c.args.key.now in
    let found : lookup (is_at (nat_cmp key.oid)) es ≡ None = sym c.get.ensures.value ∙ ap option_copied c.in-None.is in
    sym (ap (λ os. open_row (seen_objects bytes os) key) (sym c.self.view_is) ∙ open_row-seen_objects bytes es key
    ∙ ap (λ o. option_map (seen_row bytes) (open_at key.index (unwrap_or o []))) found)
