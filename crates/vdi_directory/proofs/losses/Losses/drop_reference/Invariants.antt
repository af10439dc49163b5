use Rattle.std.proofs.Common.{ℕ, ◌+◌}
use Rattle.vdi_directory.specs.References.{one, one_parent_reference, total, KEY_COUNT, AreReferenceCounts, AreLosses, parent_in, count_in, left_in}
use Rattle.vdi_directory.proofs.losses.Losses.drop_reference.Given as goal

-- the one that is to lose a reference next has one too many
abbrev pub invariant-loop-next : goal.invariant-loop-next
invariant-loop-next l = record {
  loses : (own : ℕ → ℕ) → AreReferenceCounts (parent_in l.headers) (λ vid. own vid + one l.fn.vid.0 vid) (left_in l.references l.fn.self.left)
      → AreReferenceCounts (parent_in l.headers) (λ vid. own vid + one_parent_reference l.next vid) (left_in l.references l.self.left);
  can : (own : ℕ → ℕ) × AreReferenceCounts (parent_in l.headers) (λ vid. own vid + one_parent_reference l.next vid) (left_in l.references l.self.left);
  are : AreLosses (count_in l.references) (left_in l.references l.self.left) l.self.dead.items;
}

abbrev pub decreases-loop-next : goal.decreases-loop-next
decreases-loop-next l = total (left_in l.references l.self.left) KEY_COUNT
