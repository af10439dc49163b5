use Rattle.std.proofs.Common.{◌≡◌, ◌∙◌, length, List, [], ◌∷◌, ap, sym, subst, rules}
use Rattle.std.specs.FinMap as tree
use Rattle.object_id.specs.declared.entry.Entry.{Entry}
use Rattle.disk_lock.specs.Locks.{Holders}
use Rattle.vdi_directory.specs.Decisions.{log_effects}
use Rattle.vdi_directory.specs.DirectoryState.{AreLocks}
use Rattle.peer_service.proofs.BackLemmas.{nothing_held}
use Rattle.part_tests.proofs.peers.entries.first_locks.Goals as goal

nobody_holds : (entries : List Entry) (locks : Holders) → length entries ≡ 0 → locks ≡ tree.empty → AreLocks (log_effects entries) locks
nobody_holds (entry ∷ entries) locks none empty = absurd (cc (none))
nobody_holds [] locks none empty = subst (AreLocks (log_effects [])) (sym empty) nothing_held

pub returns-then-is_empty : goal.returns-then-is_empty
returns-then-is_empty c =
    nobody_holds c.args.peer.now.entries c.new.result (ap length (sym (c.entries.ensures ∙ c.directory.ensures)) ∙ search rules) c.new.ensures
