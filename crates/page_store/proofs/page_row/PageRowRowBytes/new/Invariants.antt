use Rattle.std.proofs.Common.{◌≡◌, ◌≤◌, ◌-◌, length, take}
use Rattle.object_id.specs.Piece.{laid_over}
use Rattle.object_id.specs.Fields.{zeros}
use Rattle.page_store.proofs.page_row.PageRowRowBytes.new.Given as goal

-- the first bytes of the piece are laid over zeros
abbrev pub invariant-loop-done : goal.invariant-loop-done
invariant-loop-done l = record {
  bytes : l.row.bytes ≡ laid_over (zeros l.size) l.offset (take l.done l.piece);
  within : l.done ≤ length l.piece;
}

abbrev pub decreases-loop-done : goal.decreases-loop-done
decreases-loop-done l = length l.piece - l.done
