use Rattle.std.proofs.Common.{ℕ, ◌+◌, drop}
use Rattle.vdi_directory.specs.References.{AreReferenceCounts, AreLosses, parent_in, count_in, left_in, reserved_by}
use Rattle.vdi_directory.proofs.losses.Losses.drop_references_of.Given as goal

-- the reservations from here on are still to be taken
abbrev pub invariant-loop-reservation : goal.invariant-loop-reservation
invariant-loop-reservation l = record {
  loses : (own : ℕ → ℕ) → AreReferenceCounts (parent_in l.headers) (λ vid. own vid + reserved_by l.node l.reservations vid) (left_in l.references l.fn.self.left)
      → AreReferenceCounts (parent_in l.headers) (λ vid. own vid + reserved_by l.node (drop l.reservation-index l.reservations) vid) (left_in l.references l.self.left);
  can : (own : ℕ → ℕ) × AreReferenceCounts (parent_in l.headers) (λ vid. own vid + reserved_by l.node (drop l.reservation-index l.reservations) vid) (left_in l.references l.self.left);
  are : AreLosses (count_in l.references) (left_in l.references l.self.left) l.self.dead.items;
}
