use Rattle.std.proofs.Common.{ℕ, ◌+◌}
use Rattle.vdi_directory.specs.References.{one, one_parent_reference, total, KEY_COUNT, AreReferenceCounts, parent_in, count_in}
use Rattle.vdi_directory.proofs.references.drop_reference.Given as goal

-- the one that is to lose a reference next has one too many
abbrev pub invariant-loop-next : goal.invariant-loop-next
invariant-loop-next l = record {
  loses : (own : ℕ → ℕ) → AreReferenceCounts (parent_in l.headers) (λ vid. own vid + one l.fn.vid.0 vid) (count_in l.fn.references)
      → AreReferenceCounts (parent_in l.headers) (λ vid. own vid + one_parent_reference l.next vid) (count_in l.references);
  can : (own : ℕ → ℕ) × AreReferenceCounts (parent_in l.headers) (λ vid. own vid + one_parent_reference l.next vid) (count_in l.references);
}

abbrev pub decreases-loop-next : goal.decreases-loop-next
decreases-loop-next l = total (count_in l.references) KEY_COUNT
