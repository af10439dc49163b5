use Rattle.std.proofs.Common.{ap, sym, subst, ◌∙◌, List}
use Rattle.vdi_directory.specs.declared.effect.Effect.{Effect}
use Rattle.vdi_directory.specs.Decisions.{log_effects}
use Rattle.vdi_directory.specs.DirectoryState.{IsDirectoryState}
use Rattle.vdi_directory.proofs.StateLemmas.{log_effects-none}
use Rattle.vdi_directory.proofs.directory.Directory.new.Goals as goal

pub invariant_of-result : goal.invariant_of-result
invariant_of-result c =
    subst (λ (before : List Effect). IsDirectoryState before c.new-2.result) (sym (ap log_effects c.new.ensures.items ∙ log_effects-none)) c.new-2.ensures
