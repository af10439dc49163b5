use Rattle.std.proofs.Common.{◌∙◌, ◌+◌, ◌-◌, ◌≤◌, ap, sym, subst, length, map, cond, Some, None, IfSome, arith}
use Rattle.object_id.specs.Piece.{laid_over}
use Rattle.object_store.specs.Rows.{is_open_at, open_at}
use Rattle.object_store.specs.Store.{write_in}
use Rattle.object_store.specs.KeptRows.{seen_row, RoomIn}
use Rattle.object_store.proofs.RowLemmas.{open_last_at, orderly_set}
use Rattle.object_store.proofs.KeptLemmas.{KeepsRowRoom-set, is_open_at-laid, seen_row-set}
use Rattle.object_store.proofs.object_rows.ObjectRows.write.Goals as goal

pub write_in-requires-clause-within : goal.write_in-requires-clause-within
write_in-requires-clause-within g c = λ is.
    let found = ap (open_at c.args.index) (sym c.self.view_is)
    ∙ open_last_at c.args.index c.self.inside.rows.items (c.len-count.result - 1) c.index_mut.result.now (omega arith) c.self.invariant c.index_mut.ensures.value
    ∙ ap (λ b. cond b (Some c.index_mut.result.now) None) is in
    subst (λ o. IfSome o (λ row. c.args.offset + length c.args.piece.now ≤ length (g.B.RowBytes.bytes row.bytes))) found c.requires.within

pub write_in-requires-clause-room : goal.write_in-requires-clause-room
write_in-requires-clause-room g c = λ is.
    let found = ap (open_at c.args.index) (sym c.self.view_is)
    ∙ open_last_at c.args.index c.self.inside.rows.items (c.len-count.result - 1) c.index_mut.result.now (omega arith) c.self.invariant c.index_mut.ensures.value
    ∙ ap (λ b. cond b (Some c.index_mut.result.now) None) is in
    subst (λ o. RoomIn g.B.RowBytes.HasRoom o c.args.offset (length c.args.piece.now)) found c.requires.room

pub invariant_of-self : goal.invariant_of-self
invariant_of-self g c = orderly_set c.self.inside.rows.items (c.len-count.result - 1) _ (omega arith) c.self.invariant

pub returns-then-count-gt0-clause-rows : goal.returns-then-count-gt0-clause-rows
returns-then-count-gt0-clause-rows g c =
    seen_row-set g.B.RowBytes.bytes c.args.index c.args.offset c.args.piece.now c.self.inside.rows.items (c.len-count.result - 1) c.index_mut.result.now c.write_in.new.row
    (omega arith) c.self.invariant c.index_mut.ensures.value c.write_in.ensures.row
    ∙ ap (λ rows. write_in c.args.index c.args.offset c.args.piece.now (map (seen_row g.B.RowBytes.bytes) rows)) c.self.view_is

pub returns-then-count-gt0-clause-room : goal.returns-then-count-gt0-clause-room
returns-then-count-gt0-clause-room g c = λ index offset n had.
    KeepsRowRoom-set g.B.RowBytes.HasRoom c.self.inside.rows.items (c.len-count.result - 1) c.index_mut.result.now c.write_in.new.row (omega arith) c.self.invariant
    c.index_mut.ensures.value
    (is_open_at-laid g.B.RowBytes.bytes (is_open_at c.args.index c.index_mut.result.now)
    (laid_over (g.B.RowBytes.bytes c.index_mut.result.now.bytes) c.args.offset c.args.piece.now) c.index_mut.result.now c.write_in.new.row c.write_in.ensures.row)
    c.write_in.ensures.room index offset n
    (subst (λ rows. RoomIn g.B.RowBytes.HasRoom (open_at index rows) offset n) (sym c.self.view_is) had)
