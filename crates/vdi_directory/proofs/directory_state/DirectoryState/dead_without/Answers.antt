use Rattle.std.proofs.Common.{ℕ, subst}
use Rattle.vdi_directory.specs.References.{one, parent_in, left_in, LosesReferences}
use Rattle.vdi_directory.proofs.directory_state.DirectoryState.dead_without.Goals as goal

pub returns : goal.returns
returns c =
    let left : ℕ → ℕ = left_in c.args.self.now.references c.drop_reference.new.self.left in record {
      left = left;
      loses = subst (λ (old : ℕ → ℕ). LosesReferences (one c.args.vid.0) (parent_in c.args.self.now.headers) old left)
          (λ i vid. c.new-losses.ensures.left c.args.self.now.references vid i) c.in_ok-drop_reference.ensures.loses;
      are = c.in_ok-drop_reference.ensures.are;
    }
