use Rattle.std.proofs.Common.{refl, ◌≡◌, ◌∙◌, ◌+◌, ◌≤◌, [], Some, None, IsSome, IfSome, cond, length, map, unwrap_or, ap, sym, subst}
use Rattle.std.specs.Option.{option_copied_mut}
use Rattle.std.specs.Map.{lookup}
use Rattle.std.specs.BTreeMap.{is_at}
use Rattle.std.specs.Ordering.{nat_cmp}
use Rattle.object_store.specs.Rows.{open_at}
use Rattle.object_store.specs.Store.{write_in}
use Rattle.object_store.specs.KeptRows.{seen_row, RoomIn, KeepsRowRoom}
use Rattle.object_store.specs.Objects.{kept_of, HaveIds}
use Rattle.object_store.proofs.ObjectLemmas.{KeepsRoom-put}
use Rattle.object_store.proofs.AnswerLemmas.{piece_there-value_within, piece_there-found, write_at-put}
use Rattle.object_store.proofs.DiskLemmas.{ids_after}
use Rattle.object_store.proofs.row_store.RowStore.lay.Goals as goal

pub write-requires-clause-within : goal.write-requires-clause-within
write-requires-clause-within g c =
    let bytes = g.B.RowBytes.bytes in
    let key = c.args.key.now in
    let found : lookup (is_at (nat_cmp key.oid)) c.self.inside.objects.entries ≡ Some c.in-Some.rows.now = sym c.get_mut.ensures.value ∙ ap option_copied_mut c.in-Some.is in
    let old : kept_of c.args.self.now key.oid ≡ c.in-Some.rows.now = ap (λ os. kept_of os key.oid) (sym c.self.view_is) ∙ ap (λ o. unwrap_or o []) found in
    subst (λ rows. IfSome (open_at key.index rows) (λ row. c.args.offset + length c.args.piece.now ≤ length (bytes row.bytes))) old
    (piece_there-value_within bytes c.args.self.now key c.args.offset (length c.args.piece.now) c.requires.there)

pub write-requires-clause-room : goal.write-requires-clause-room
write-requires-clause-room g c =
    let key = c.args.key.now in
    let found : lookup (is_at (nat_cmp key.oid)) c.self.inside.objects.entries ≡ Some c.in-Some.rows.now = sym c.get_mut.ensures.value ∙ ap option_copied_mut c.in-Some.is in
    let old : kept_of c.args.self.now key.oid ≡ c.in-Some.rows.now = ap (λ os. kept_of os key.oid) (sym c.self.view_is) ∙ ap (λ o. unwrap_or o []) found in
    subst (λ rows. RoomIn g.B.RowBytes.HasRoom (open_at key.index rows) c.args.offset (length c.args.piece.now)) old c.requires.room

pub returns-clause-rows : goal.returns-clause-rows
returns-clause-rows g c =
    let bytes = g.B.RowBytes.bytes in
    let key = c.args.key.now in
    let es = c.self.inside.objects.entries in
    let new = c.write.new.self in
    let found : lookup (is_at (nat_cmp key.oid)) es ≡ Some c.in-Some.rows.now = sym c.get_mut.ensures.value ∙ ap option_copied_mut c.in-Some.is in
    let old : c.in-Some.rows.now ≡ kept_of c.args.self.now key.oid =
    sym (ap (λ o. unwrap_or o []) found) ∙ ap (λ os. kept_of os key.oid) c.self.view_is in
    write_at-put bytes c.args.self.now (c.get_mut.follows.lender new).entries key c.args.offset c.args.piece.now new c.requires.there
    (λ q. ((c.get_mut.follows.holds new).3 (subst IsSome (sym found) refl)).0 q ∙ ap (λ os. cond (is_at (nat_cmp key.oid) q) (Some new) (lookup (is_at (nat_cmp q)) os)) c.self.view_is)
    (c.write.ensures.rows ∙ ap (λ rows. write_in key.index c.args.offset c.args.piece.now (map (seen_row bytes) rows)) old)

pub returns-clause-room : goal.returns-clause-room
returns-clause-room g c =
    let HasRoom = g.B.RowBytes.HasRoom in
    let key = c.args.key.now in
    let es = c.self.inside.objects.entries in
    let new = c.write.new.self in
    let found : lookup (is_at (nat_cmp key.oid)) es ≡ Some c.in-Some.rows.now = sym c.get_mut.ensures.value ∙ ap option_copied_mut c.in-Some.is in
    let old : c.in-Some.rows.now ≡ kept_of c.args.self.now key.oid =
    sym (ap (λ o. unwrap_or o []) found) ∙ ap (λ os. kept_of os key.oid) c.self.view_is in
    KeepsRoom-put HasRoom c.args.self.now (c.get_mut.follows.lender new).entries key.oid new
    (λ q. ((c.get_mut.follows.holds new).3 (subst IsSome (sym found) refl)).0 q ∙ ap (λ os. cond (is_at (nat_cmp key.oid) q) (Some new) (lookup (is_at (nat_cmp q)) os)) c.self.view_is)
    (subst (λ rows. KeepsRowRoom HasRoom rows new) old c.write.ensures.room)

-- the piece is in a row, so the object is there
pub returns-in_default-clause-rows : goal.returns-in_default-clause-rows
returns-in_default-clause-rows g c =
    let key = c.args.key.now in
    let none : lookup (is_at (nat_cmp key.oid)) c.args.self.now ≡ None =
    ap (lookup (is_at (nat_cmp key.oid))) (sym c.self.view_is) ∙ sym c.get_mut.ensures.value ∙ ap option_copied_mut c.in_default.is in
    let there = piece_there-found g.B.RowBytes.bytes c.args.self.now key c.args.offset (length c.args.piece.now) c.requires.there in
    absurd (cc (subst IsSome none there))

pub invariant_of-self : goal.invariant_of-self
invariant_of-self g c = subst (λ m. HaveIds m.entries) (sym c.get_mut.follows.holds-at-none) c.self.invariant

pub invariant_of-self-2 : goal.invariant_of-self-2
invariant_of-self-2 g c =
    let key = c.args.key.now in
    let es = c.self.inside.objects.entries in
    let new = c.write.new.self in
    let found : lookup (is_at (nat_cmp key.oid)) es ≡ Some c.in-Some.rows.now = sym c.get_mut.ensures.value ∙ ap option_copied_mut c.in-Some.is in
    ids_after key.oid (Some new) es (c.get_mut.follows.lender new).entries (λ _. c.self.invariant key.oid (subst IsSome (sym found) refl))
    ((c.get_mut.follows.holds new).3 (subst IsSome (sym found) refl)).0 c.self.invariant
