use Rattle.std.proofs.Common.{◌≡◌, ◌∙◌, ap, sym, subst, refl, rules}
use Rattle.object_store.specs.Rows.{advanced}
use Rattle.object_store.specs.Store.{each_entry, each}
use Rattle.object_store.specs.Answers.{KeepsRoom}
use Rattle.object_store.specs.Objects.{seen_objects, HasRoomIn}
use Rattle.object_store.proofs.MapLemmas.{retained}
use Rattle.object_store.proofs.SeenLemmas.{seen_row-advanced}
use Rattle.object_store.proofs.RoomLemmas.{KeepsRowRoom-advanced}
use Rattle.object_store.proofs.ObjectLemmas.{seen_objects-each_entry, KeepsRoom-each_entry}
use Rattle.object_store.proofs.row_store.RowStoreObjStore.advance.Goals as goal

pub returns-clause-rows : goal.returns-clause-rows
returns-clause-rows g c =
    let bytes = g.B.RowBytes.bytes in
    let keeps = c.args.keeps.now in
    let next = c.args.next.0 in
    let es = c.self.inside.objects.entries in
    let kept : c.retain.new.self.entries ≡ each_entry (advanced keeps next) es = retained _ (advanced keeps next) _ (λ k v b w f' t. search rules) es _ c.retain.ensures.filtered in
    ap (seen_objects bytes) kept ∙ seen_objects-each_entry bytes (advanced keeps next) (advanced keeps next) (λ _. refl) (seen_row-advanced bytes keeps next) es c.retain.ensures.was_ordered
    ∙ ap (λ os. each (advanced keeps next) (seen_objects bytes os)) c.self.view_is

pub returns-clause-room : goal.returns-clause-room
returns-clause-room g c =
    let HasRoom = g.B.RowBytes.HasRoom in
    let keeps = c.args.keeps.now in
    let next = c.args.next.0 in
    let es = c.self.inside.objects.entries in
    let kept : c.retain.new.self.entries ≡ each_entry (advanced keeps next) es = retained _ (advanced keeps next) _ (λ k v b w f' t. search rules) es _ c.retain.ensures.filtered in
    subst (λ os. KeepsRoom (HasRoomIn HasRoom os) (HasRoomIn HasRoom c.retain.new.self.entries)) c.self.view_is
    (subst (λ os. KeepsRoom (HasRoomIn HasRoom es) (HasRoomIn HasRoom os)) (sym kept)
    (KeepsRoom-each_entry HasRoom (advanced keeps next) (λ _. refl) (KeepsRowRoom-advanced HasRoom keeps next) es c.retain.ensures.was_ordered))

pub invariant_of-self : goal.invariant_of-self
invariant_of-self g c = λ q found. c.self.invariant q (c.retain.ensures.no_new_key q found)
