use Rattle.vdi_directory.proofs.LossLemmas.{nothing-dies}
use Rattle.vdi_directory.proofs.directory_state.DirectoryState.dead_by.Goals as goal

pub returns-in_default-clause-dead : goal.returns-in_default-clause-dead
returns-in_default-clause-dead c =
    nothing-dies c.args.effect.now c.args.self.now c.new.result.items c.new.ensures.items c.in_default.not-Deleted c.in_default.not-Withdrawn c.in_default.not-Left
