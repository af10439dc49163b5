use Rattle.std.proofs.Common.{◌≡◌, ◌∙◌, [], Some, None, map, slice_get, unwrap_or, ap, sym}
use Rattle.std.specs.Option.{option_map, option_copied}
use Rattle.std.specs.Map.{lookup}
use Rattle.std.specs.BTreeMap.{is_at}
use Rattle.std.specs.Ordering.{nat_cmp}
use Rattle.object_store.specs.Store.{rows_of}
use Rattle.object_store.specs.KeptRows.{seen_row}
use Rattle.object_store.specs.Objects.{seen_objects}
use Rattle.std.proofs.lemmas.Option.{slice_get-map}
use Rattle.object_store.proofs.ObjectLemmas.{rows_of-seen_objects, kept_of-found}
use Rattle.object_store.proofs.row_store.RowStore.row.Goals as goal

pub returns-in-Some : goal.returns-in-Some
returns-in-Some g c =
    let bytes = g.B.RowBytes.bytes in
    let es = c.self.inside.objects.entries in
    let oid = c.args.oid in
    let k = c.args.k in
    let found : lookup (is_at (nat_cmp oid)) es ≡ Some c.in-Some.rows.now = sym c.get.ensures.value ∙ ap option_copied c.in-Some.is in
    ap (option_map (seen_row bytes)) c.get-in-Some.ensures
    ∙ sym (slice_get-map (seen_row bytes) c.in-Some.rows.now k)
    ∙ ap (λ rows. slice_get rows k) (sym (rows_of-seen_objects bytes es oid ∙ ap (map (seen_row bytes)) (kept_of-found es oid c.in-Some.rows.now found)))
    ∙ ap (λ os. slice_get (rows_of (seen_objects bytes os) oid) k) c.self.view_is

pub returns-in-None : goal.returns-in-None
returns-in-None g c =
    let bytes = g.B.RowBytes.bytes in
    let es = c.self.inside.objects.entries in
    let oid = c.args.oid in
    let k = c.args.k in
    let found : lookup (is_at (nat_cmp oid)) es ≡ None = sym c.get.ensures.value ∙ ap option_copied c.in-None.is in
    sym (ap (λ os. slice_get (rows_of (seen_objects bytes os) oid) k) (sym c.self.view_is)
    ∙ ap (λ rows. slice_get rows k) (rows_of-seen_objects bytes es oid ∙ ap (λ o. map (seen_row bytes) (unwrap_or o [])) found))
