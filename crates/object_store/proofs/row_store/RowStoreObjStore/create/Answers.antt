use Rattle.std.proofs.Common.{◌≡◌, ◌∙◌, ◌+◌, length, Ok, ap, sym, subst}
use Rattle.std.specs.FinMap as tree
use Rattle.object_store.specs.Rows.{created}
use Rattle.object_store.specs.Store.{AllRows, rows_of, value_within, create_in}
use Rattle.object_store.specs.Answers.{Makes}
use Rattle.object_store.specs.Objects.{seen_objects, HaveRows-seen_objects, kept_of}
use Rattle.object_store.proofs.SeenLemmas.{seen_row-created}
use Rattle.object_store.proofs.ObjectLemmas.{one_put, rows_of-seen_objects}
use Rattle.object_store.proofs.ThereLemmas.{HaveRows-create}
use Rattle.object_store.proofs.AnswerLemmas.{value_within-Ok, ends_within}
use Rattle.object_store.proofs.row_store.RowStoreObjStore.create.Goals as goal

pub returns-clause-rows : goal.returns-clause-rows
returns-clause-rows g c =
    let bytes = g.B.RowBytes.bytes in
    let es = c.args.self.now in
    let key = c.args.key in
    let epoch = c.args.epoch.0 in
    let piece = c.args.bytes.now in
    let there : value_within (c.args.offset + length piece) c.args.length (tt {0}) ≡ Ok (tt {0}) = sym c.check_end.ensures ∙ c.in_ok-check_end.was in
    let all : AllRows = tree.insert (seen_objects bytes es) key.oid (create_in key.index epoch c.args.length c.args.offset piece (rows_of (seen_objects bytes es) key.oid)) in
    let made : seen_objects bytes c.put.new.self ≡ all =
    one_put bytes es c.put.new.self key.oid _ _ c.in_ok-put.ensures.ok
    (seen_row-created bytes key.index epoch c.in_ok-kept.kept (kept_of es key.oid)
    ∙ (λ i. created key.index epoch (c.in_ok-kept.ensures i) (sym (rows_of-seen_objects bytes es key.oid) i)))
    (HaveRows-create (seen_objects bytes es) key epoch c.args.length c.args.offset piece (HaveRows-seen_objects bytes es)) in
    subst (λ step. Makes step (λ all. seen_objects bytes c.put.new.self ≡ all) (seen_objects bytes c.put.new.self ≡ seen_objects bytes es) (Ok (tt {0})))
    (sym (value_within-Ok (c.args.offset + length piece) c.args.length all there)) made

pub new-requires : goal.new-requires
new-requires g c =
    let piece = c.args.bytes.now in
    let there : value_within (c.args.offset + length piece) c.args.length (tt {0}) ≡ Ok (tt {0}) = sym c.check_end.ensures ∙ c.in_ok-check_end.was in
    ends_within (c.args.offset + length piece) c.args.length there
