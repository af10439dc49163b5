use Rattle.std.proofs.Common.{◌≡◌, ◌∙◌, [], Some, None, unwrap_or, ap, sym}
use Rattle.std.specs.Option.{option_map, option_copied}
use Rattle.std.specs.Map.{lookup}
use Rattle.std.specs.BTreeMap.{is_at}
use Rattle.std.specs.Ordering.{nat_cmp}
use Rattle.object_store.specs.Rows.{row_holding}
use Rattle.object_store.specs.Store.{copy_of, copy_at}
use Rattle.object_store.specs.KeptRows.{seen_row}
use Rattle.object_store.specs.Objects.{seen_objects}
use Rattle.object_store.proofs.AnswerLemmas.{copy_at-seen_objects}
use Rattle.object_store.proofs.row_store.RowStoreObjStore.row_at.Goals as goal

pub returns-in_default : goal.returns-in_default
returns-in_default g c =
    let bytes = g.B.RowBytes.bytes in
    let es = c.self.inside.objects.entries in
    let level = c.args.level.0 in
    let found : lookup (is_at (nat_cmp c.args.oid)) es ≡ None = sym c.get.ensures.value ∙ ap option_copied c.in_default.is in
    sym (ap (λ os. copy_at (seen_objects bytes os) c.args.oid level) (sym c.self.view_is) ∙ copy_at-seen_objects bytes es c.args.oid level
    ∙ ap (λ o. option_map copy_of (option_map (seen_row bytes) (row_holding level (unwrap_or o [])))) found)

pub returns-in_default-row_holding : goal.returns-in_default-row_holding
returns-in_default-row_holding g c =
    let bytes = g.B.RowBytes.bytes in
    let es = c.self.inside.objects.entries in
    let level = c.args.level.0 in
    let found : lookup (is_at (nat_cmp c.args.oid)) es ≡ Some c.in-Some.rows.now = sym c.get.ensures.value ∙ ap option_copied c.in-Some.is in
    let none : row_holding level c.in-Some.rows.now ≡ None = sym c.row_holding.ensures ∙ ap option_copied c.in_default-row_holding.is in
    sym (ap (λ os. copy_at (seen_objects bytes os) c.args.oid level) (sym c.self.view_is) ∙ copy_at-seen_objects bytes es c.args.oid level
    ∙ ap (λ o. option_map copy_of (option_map (seen_row bytes) (row_holding level (unwrap_or o [])))) found
    ∙ ap (λ o. option_map copy_of (option_map (seen_row bytes) o)) none)

pub returns : goal.returns
returns g c =
    let bytes = g.B.RowBytes.bytes in
    let es = c.self.inside.objects.entries in
    let level = c.args.level.0 in
    let found : lookup (is_at (nat_cmp c.args.oid)) es ≡ Some c.in-Some.rows.now = sym c.get.ensures.value ∙ ap option_copied c.in-Some.is in
    let held : row_holding level c.in-Some.rows.now ≡ Some c.in-Some-row_holding.row.now = sym c.row_holding.ensures ∙ ap option_copied c.in-Some-row_holding.is in
    ap Some c.in_ok-copy_row.ensures
    ∙ sym (ap (λ os. copy_at (seen_objects bytes os) c.args.oid level) (sym c.self.view_is) ∙ copy_at-seen_objects bytes es c.args.oid level
    ∙ ap (λ o. option_map copy_of (option_map (seen_row bytes) (row_holding level (unwrap_or o [])))) found
    ∙ ap (λ o. option_map copy_of (option_map (seen_row bytes) o)) held)
