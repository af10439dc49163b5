use Rattle.std.proofs.Common.{◌∙◌, sym}
use Rattle.object_store.proofs.row_store.RowStoreObjStore.reserve_write.Goals as goal

pub keep-requires : goal.keep-requires
keep-requires g c = sym c.check_piece.ensures ∙ c.in_ok-check_piece.was
