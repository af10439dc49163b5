use Rattle.std.proofs.Common.{◌≡◌, ◌∙◌, ◌++◌, ap, sym, subst}
use Rattle.std.proofs.lemmas.List.{append-nil}
use Rattle.std.specs.List.Sorted.{IsStrictlyIncreasing}
use Rattle.std.specs.FinMap as tree
use Rattle.object_store.specs.Objects.{seen_objects}
use Rattle.object_store.proofs.ObjectLemmas.{ids_of, one_id_more, keys-seen_objects, ids-ascend}
use Rattle.object_store.proofs.row_store.RowStoreObjStore.list.Goals as goal

pub loop-oid-init : goal.loop-oid-init
loop-oid-init g c =
    ap (λ ids. ids ++ ids_of c.into_iter-oid-iterator.result) c.new-oids.ensures.items
    ∙ ap ids_of (c.into_iter-oid-iterator.ensures.into_iter_gives ∙ c.iter-oid-items.ensures.rest ∙ c.self.view_is)

pub loop-oid-preserved : goal.loop-oid-preserved
loop-oid-preserved g c =
    one_id_more c.loop-oid.oids.items c.add_id.new.oids.items (ids_of c.args.self.now) c.loop-oid.oid-iterator c.next.new.self c.in-Some.oid.now c.in-Some.rows.now
    c.in-Some.ensures.steps c.in_ok-add_id.ensures c.loop-oid.invariant

pub from_vec-requires : goal.from_vec-requires
from_vec-requires g c =
    let bytes = g.B.RowBytes.bytes in
    let es = c.self.inside.objects.entries in
    let items : c.loop-oid.oids.items ≡ ids_of c.args.self.now =
    sym (append-nil c.loop-oid.oids.items) ∙ ap (λ left. c.loop-oid.oids.items ++ ids_of left) (sym c.in-None.ensures.steps.0) ∙ c.loop-oid.invariant in
    subst IsStrictlyIncreasing (keys-seen_objects bytes es c.iter-oid-items.ensures.ordered ∙ ap ids_of c.self.view_is ∙ sym items) (ids-ascend bytes es)

pub returns : goal.returns
returns g c =
    let bytes = g.B.RowBytes.bytes in
    let es = c.self.inside.objects.entries in
    let items : c.loop-oid.oids.items ≡ ids_of c.args.self.now =
    sym (append-nil c.loop-oid.oids.items) ∙ ap (λ left. c.loop-oid.oids.items ++ ids_of left) (sym c.in-None.ensures.steps.0) ∙ c.loop-oid.invariant in
    c.from_vec.ensures ∙ items ∙ sym (keys-seen_objects bytes es c.iter-oid-items.ensures.ordered ∙ ap ids_of c.self.view_is)
    ∙ ap (λ os. tree.keys (seen_objects bytes os)) c.self.view_is
