use Rattle.std.proofs.Common.{ℕ, List, subst}
use Rattle.vdi_directory.specs.declared.effect.Reservation.{Reservation}
use Rattle.vdi_directory.specs.References.{reserved_by, parent_in, left_in, LosesReferences}
use Rattle.vdi_directory.proofs.directory_state.DirectoryState.dead_without_node.Goals as goal

pub returns : goal.returns
returns c =
    let left : ℕ → ℕ = left_in c.args.self.now.references c.drop_references_of.new.self.left in record {
      left = left;
      loses = subst (λ (old : ℕ → ℕ). LosesReferences (reserved_by c.args.node c.args.self.now.reservations.items) (parent_in c.args.self.now.headers) old left)
          (λ i vid. c.new-losses.ensures.left c.args.self.now.references vid i)
          (subst (λ (reservations : List Reservation). LosesReferences (reserved_by c.args.node reservations) (parent_in c.args.self.now.headers)
          (left_in c.args.self.now.references c.new-losses.result.left) left) c.as_slice.ensures.value c.in_ok-drop_references_of.ensures.loses);
      are = c.in_ok-drop_references_of.ensures.are;
    }
