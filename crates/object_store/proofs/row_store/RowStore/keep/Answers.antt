use Rattle.std.proofs.Common.{refl, ◌≡◌, ◌∙◌, ◌+◌, ◌≤◌, [], Some, IsSome, IfSome, cond, length, unwrap_or, ap, sym, subst}
use Rattle.std.specs.Option.{option_copied_mut}
use Rattle.std.specs.Map.{lookup}
use Rattle.std.specs.BTreeMap.{is_at}
use Rattle.std.specs.Ordering.{nat_cmp}
use Rattle.std.proofs.lemmas.Result.{IfOk-weaker}
use Rattle.object_store.specs.Rows.{open_at}
use Rattle.object_store.specs.KeptRows.{RoomIn, KeepsRowRoom}
use Rattle.object_store.specs.Objects.{kept_of, HaveIds}
use Rattle.object_store.proofs.ObjectLemmas.{put_unseen, KeepsRoom-put, HasRoomIn-put}
use Rattle.object_store.proofs.AnswerLemmas.{piece_there-value_within}
use Rattle.object_store.proofs.DiskLemmas.{ids_after}
use Rattle.object_store.proofs.row_store.RowStore.keep.Goals as goal

pub reserve-requires : goal.reserve-requires
reserve-requires g c =
    let bytes = g.B.RowBytes.bytes in
    let key = c.args.key.now in
    let found : lookup (is_at (nat_cmp key.oid)) c.self.inside.objects.entries ≡ Some c.in-Some.rows.now = sym c.get_mut.ensures.value ∙ ap option_copied_mut c.in-Some.is in
    let old : kept_of c.args.self.now key.oid ≡ c.in-Some.rows.now = ap (λ os. kept_of os key.oid) (sym c.self.view_is) ∙ ap (λ o. unwrap_or o []) found in
    subst (λ rows. IfSome (open_at key.index rows) (λ row. c.args.offset + c.args.count ≤ length (bytes row.bytes))) old
    (piece_there-value_within bytes c.args.self.now key c.args.offset c.args.count c.requires)

pub returns-clause-rows : goal.returns-clause-rows
returns-clause-rows g c =
    let key = c.args.key.now in
    let es = c.self.inside.objects.entries in
    let new = c.reserve.new.self in
    let found : lookup (is_at (nat_cmp key.oid)) es ≡ Some c.in-Some.rows.now = sym c.get_mut.ensures.value ∙ ap option_copied_mut c.in-Some.is in
    put_unseen g.B.RowBytes.bytes c.args.self.now (c.get_mut.follows.lender new).entries key.oid new c.in-Some.rows.now
    (λ q. ((c.get_mut.follows.holds new).3 (subst IsSome (sym found) refl)).0 q ∙ ap (λ os. cond (is_at (nat_cmp key.oid) q) (Some new) (lookup (is_at (nat_cmp q)) os)) c.self.view_is)
    (ap (lookup (is_at (nat_cmp key.oid))) (sym c.self.view_is) ∙ found)
    c.reserve.ensures.rows

pub returns-clause-room : goal.returns-clause-room
returns-clause-room g c =
    let HasRoom = g.B.RowBytes.HasRoom in
    let key = c.args.key.now in
    let es = c.self.inside.objects.entries in
    let new = c.reserve.new.self in
    let found : lookup (is_at (nat_cmp key.oid)) es ≡ Some c.in-Some.rows.now = sym c.get_mut.ensures.value ∙ ap option_copied_mut c.in-Some.is in
    let old : kept_of c.args.self.now key.oid ≡ c.in-Some.rows.now = ap (λ os. kept_of os key.oid) (sym c.self.view_is) ∙ ap (λ o. unwrap_or o []) found in
    KeepsRoom-put HasRoom c.args.self.now (c.get_mut.follows.lender new).entries key.oid new
    (λ q. ((c.get_mut.follows.holds new).3 (subst IsSome (sym found) refl)).0 q ∙ ap (λ os. cond (is_at (nat_cmp key.oid) q) (Some new) (lookup (is_at (nat_cmp q)) os)) c.self.view_is)
    (subst (λ rows. KeepsRowRoom HasRoom rows new) (sym old) c.reserve.ensures.room)

pub returns-clause-ok : goal.returns-clause-ok
returns-clause-ok g c =
    let HasRoom = g.B.RowBytes.HasRoom in
    let key = c.args.key.now in
    let es = c.self.inside.objects.entries in
    let new = c.reserve.new.self in
    let found : lookup (is_at (nat_cmp key.oid)) es ≡ Some c.in-Some.rows.now = sym c.get_mut.ensures.value ∙ ap option_copied_mut c.in-Some.is in
    IfOk-weaker c.reserve.result (λ _. RoomIn HasRoom (open_at key.index new) c.args.offset c.args.count) _
    (λ _ room. HasRoomIn-put HasRoom c.args.self.now (c.get_mut.follows.lender new).entries key new c.args.offset c.args.count
    (λ q. ((c.get_mut.follows.holds new).3 (subst IsSome (sym found) refl)).0 q ∙ ap (λ os. cond (is_at (nat_cmp key.oid) q) (Some new) (lookup (is_at (nat_cmp q)) os)) c.self.view_is)
    room)
    c.reserve.ensures.ok

pub invariant_of-self : goal.invariant_of-self
invariant_of-self g c = subst (λ m. HaveIds m.entries) (sym c.get_mut.follows.holds-at-none) c.self.invariant

pub invariant_of-self-2 : goal.invariant_of-self-2
invariant_of-self-2 g c =
    let key = c.args.key.now in
    let es = c.self.inside.objects.entries in
    let new = c.reserve.new.self in
    let found : lookup (is_at (nat_cmp key.oid)) es ≡ Some c.in-Some.rows.now = sym c.get_mut.ensures.value ∙ ap option_copied_mut c.in-Some.is in
    ids_after key.oid (Some new) es (c.get_mut.follows.lender new).entries (λ _. c.self.invariant key.oid (subst IsSome (sym found) refl))
    ((c.get_mut.follows.holds new).3 (subst IsSome (sym found) refl)).0 c.self.invariant
