use Rattle.std.proofs.Common.{◌≡◌, ◌∙◌, ◌+◌, ◌-◌, ◌≤◌, ap, sym, subst, length, map, cond, Some, None, true, IfSome, arith}
use Rattle.std.proofs.lemmas.Result.{IfOk-weaker}
use Rattle.object_store.specs.Rows.{is_open_at, open_at}
use Rattle.object_store.specs.KeptRows.{seen_row, RoomIn}
use Rattle.object_store.proofs.RowLemmas.{open_last_at, orderly_set, map_set_same}
use Rattle.object_store.proofs.KeptLemmas.{KeepsRowRoom-set, RoomIn-set}
use Rattle.object_store.proofs.object_rows.ObjectRows.reserve.Goals as goal

pub reserve_in-requires : goal.reserve_in-requires
reserve_in-requires g c = λ is.
    let found = ap (open_at c.args.index) (sym c.self.view_is)
    ∙ open_last_at c.args.index c.self.inside.rows.items (c.len-rows.result - 1) c.index_mut.result.now (omega arith) c.self.invariant c.index_mut.ensures.value
    ∙ ap (λ b. cond b (Some c.index_mut.result.now) None) is in
    subst (λ o. IfSome o (λ row. c.args.offset + c.args.count ≤ length (g.B.RowBytes.bytes row.bytes))) found c.requires

pub invariant_of-self : goal.invariant_of-self
invariant_of-self g c = orderly_set c.self.inside.rows.items (c.len-rows.result - 1) _ (omega arith) c.self.invariant

pub returns-clause-rows : goal.returns-clause-rows
returns-clause-rows g c =
    let seen = seen_row g.B.RowBytes.bytes in
    map_set_same seen c.self.inside.rows.items (c.len-rows.result - 1) c.index_mut.result.now c.reserve_in.new.row (omega arith) c.index_mut.ensures.value c.reserve_in.ensures.row
    ∙ ap (map seen) c.self.view_is

pub returns-clause-room : goal.returns-clause-room
returns-clause-room g c = λ index offset n had.
    KeepsRowRoom-set g.B.RowBytes.HasRoom c.self.inside.rows.items (c.len-rows.result - 1) c.index_mut.result.now c.reserve_in.new.row (omega arith) c.self.invariant
    c.index_mut.ensures.value (λ at. ap (is_open_at at) c.reserve_in.ensures.row) c.reserve_in.ensures.room index offset n
    (subst (λ rows. RoomIn g.B.RowBytes.HasRoom (open_at index rows) offset n) (sym c.self.view_is) had)

pub returns-clause-ok : goal.returns-clause-ok
returns-clause-ok g c =
    IfOk-weaker c.reserve_in.result (λ _. is_open_at c.args.index c.reserve_in.new.row ≡ true → g.B.RowBytes.HasRoom c.reserve_in.new.row.bytes c.args.offset c.args.count) _
    (λ _ room. RoomIn-set g.B.RowBytes.HasRoom c.args.index c.args.offset c.args.count c.self.inside.rows.items (c.len-rows.result - 1) c.reserve_in.new.row (omega arith) c.self.invariant room)
    c.reserve_in.ensures.ok
