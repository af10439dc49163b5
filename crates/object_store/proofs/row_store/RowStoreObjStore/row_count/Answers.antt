use Rattle.std.proofs.Common.{◌≡◌, ◌∙◌, List, length, ap, sym, rules}
use Rattle.std.proofs.iter.runs.Made.{chains}
use Rattle.std.specs.List.{sum_by}
use Rattle.std.specs.Map.{values_of}
use Rattle.object_store.specs.declared.row.Row.{Row}
use Rattle.object_store.specs.Store.{row_count}
use Rattle.object_store.specs.Objects.{seen_objects}
use Rattle.object_store.proofs.ObjectLemmas.{row_count-seen_objects}
use Rattle.object_store.proofs.row_store.RowStoreObjStore.row_count.Goals as goal

pub returns : goal.returns
returns g c =
    let bytes = g.B.RowBytes.bytes in
    let es = c.self.inside.objects.entries in
    let sum : c.sum.result ≡ sum_by length (values_of es) = search (rules, chains) in
    sum ∙ sym (row_count-seen_objects bytes es c.len-objects.ensures.ordered) ∙ ap (λ os. row_count (seen_objects bytes os)) c.self.view_is
