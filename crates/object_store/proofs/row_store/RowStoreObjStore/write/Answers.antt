use Rattle.std.proofs.Common.{◌≡◌, ◌∙◌, refl, Ok, sym, subst}
use Rattle.object_store.specs.Answers.{MakesSurely}
use Rattle.object_store.specs.Objects.{seen_objects}
use Rattle.object_store.proofs.row_store.RowStoreObjStore.write.Goals as goal

pub lay-requires-clause-there : goal.lay-requires-clause-there
lay-requires-clause-there g c = sym c.check_piece.ensures ∙ c.in_ok-check_piece.was

pub returns-clause-rows : goal.returns-clause-rows
returns-clause-rows g c =
    let bytes = g.B.RowBytes.bytes in
    subst (λ step. MakesSurely step (λ all. seen_objects bytes c.lay.new.self ≡ all) (seen_objects bytes c.lay.new.self ≡ seen_objects bytes c.args.self.now) (Ok (tt {0})))
    (sym c.lay.ensures.rows) refl
