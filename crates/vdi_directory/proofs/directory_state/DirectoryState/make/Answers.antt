use Rattle.std.proofs.Common.{ap, sym, subst, ◌∙◌}
use Rattle.std.specs.FinMap as tree
use Rattle.std.proofs.lemmas.Result.{on_ok_weaker}
use Rattle.vdi_directory.specs.declared.effect.Effect.{Effect}
use Rattle.vdi_directory.specs.DirectoryState.{AreLocksMade}
use Rattle.vdi_directory.proofs.LockLemmas.{get-granted, get-freed}
use Rattle.vdi_directory.proofs.directory_state.DirectoryState.make.Goals as goal

pub returns-in-Held-clause-locks : goal.returns-in-Held-clause-locks
returns-in-Held-clause-locks c =
    on_ok_weaker c.grant.result
    (λ made. subst (λ (effect : Effect). AreLocksMade effect c.args.locks.now c.grant.new.self) (sym c.in-Held.is)
    (λ vid. ap (λ locks. tree.get locks vid) made ∙ get-granted c.args.locks.now c.in-Held.vid.0 c.in-Held.holder vid))
    c.grant.ensures.ok

pub returns-in-Freed-clause-locks : goal.returns-in-Freed-clause-locks
returns-in-Freed-clause-locks c =
    subst (λ (effect : Effect). AreLocksMade effect c.args.locks.now c.free.new.self) (sym c.in-Freed.is)
    (λ vid. ap (λ locks. tree.get locks vid) c.free.ensures ∙ get-freed c.args.locks.now c.in-Freed.vid.0 vid)
