use Rattle.std.proofs.Common.{◌≡◌, ◌≤◌, ◌-◌, length, take}
use Rattle.object_id.specs.Piece.{laid_over}
use Rattle.page_store.proofs.page_row.PageRowRowBytes.write.Given as goal

-- the first bytes of the piece are laid over
abbrev pub invariant-loop-done : goal.invariant-loop-done
invariant-loop-done l = record {
  bytes : l.self.bytes ≡ laid_over l.fn.self.bytes l.offset (take l.done l.piece);
  pages : l.self.pages ≡ l.fn.self.pages;
  within : l.done ≤ length l.piece;
}

abbrev pub decreases-loop-done : goal.decreases-loop-done
decreases-loop-done l = length l.piece - l.done
