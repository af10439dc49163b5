use Rattle.std.proofs.Common.{ap, ◌∙◌}
use Rattle.std.proofs.lemmas.List.{nil_from_length}
use Rattle.object_store.specs.Objects.{seen_objects}
use Rattle.object_store.proofs.ObjectLemmas.{seen_objects-none}
use Rattle.object_store.proofs.row_store.RowStore.new.Goals as goal

pub returns : goal.returns
returns g c =
    let bytes = g.B.RowBytes.bytes in
    ap (seen_objects bytes) (nil_from_length c.new.result.entries c.new.ensures.len) ∙ seen_objects-none bytes
