-- The next entry of a log that holds may be read.
use Rattle.std.proofs.Common.{◌≡◌, arith, ℕ, List, [], ◌∷◌, ◌++◌, length, Some, sym, ap, subst, ◌∙◌}
use Rattle.std.specs.List.{slice_get}
use Rattle.std.specs.FinMap as tree
use Rattle.object_id.specs.declared.entry.Entry.{Entry}
use Rattle.epoch_log.specs.Appending.{IsLog}
use Rattle.epoch_log.proofs.MembersLemmas.{IsLog-prefix}
use Rattle.cluster_script.specs.declared.statement.Statement.{Statement}
use Rattle.cluster_script.specs.Language.{IsScript}
use Rattle.sheep_node.specs.May.{MayRead}
use Rattle.sheep_world.specs.World.{Host, World}
use Rattle.sheep_world.specs.Began.{Began}
use Rattle.sheep_world.specs.LogHolds.{MayGrow}
use Rattle.sheep_world.proofs.LogFrontLaws.{next_after, all_read}
use Rattle.sheep_world.proofs.ValidNodes.{first_may}
use Rattle.sheep_world.proofs.LogAtOpening.{log-holds}

pub next_may : (read later : List Entry) (entry : Entry) → IsLog (read ++ entry ∷ later) → MayRead read entry
next_may [] later entry log = first_may entry later log
next_may (first ∷ read) later entry log = (IsLog-prefix (first ∷ read) (entry ∷ later) (omega arith) log).1.0

-- what a node reads next it may read
pub reads-may : (statements : List Statement) → IsScript statements → ((world : World) → Began statements world → MayGrow world)
    → (world : World) → Began statements world → (n : ℕ) (host : Host) (entry : Entry) → tree.get world.hosts n ≡ Some host
    → slice_get world.log (length host.node.peer.entries) ≡ Some entry → MayRead host.node.peer.entries entry
reads-may statements script grows world began n host entry there next =
    let front = all_read statements world began n host there in
    let read = host.node.peer.entries in
    let (later, is) = next_after read front.rest entry (ap (λ (log : List Entry). slice_get log (length read)) (sym front.is) ∙ next) in
    next_may read later entry
    (subst IsLog (front.is ∙ ap (λ (rest : List Entry). read ++ rest) is) (log-holds statements script grows world began).log)
