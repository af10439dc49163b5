use Rattle.std.proofs.Common.{◌≡◌, ℕ}
use Rattle.std.specs.List.{find}
use Rattle.std.specs.Option.{option_map}
use Rattle.std.specs.FinMap as tree
use Rattle.sheep_node.specs.AwaitedNumbers.{waits_there}
use Rattle.sheep_node.specs.KeptLog.{asker_among}
use Rattle.sheep_node.proofs.requests.Requests.find_by_entry.Given as goal

abbrev pub invariant-loop-req : goal.invariant-loop-req
invariant-loop-req l =
    option_map (λ (mark : ℕ × ℕ). mark.1) (find (λ (mark : ℕ × ℕ). waits_there l.entry (tree.get l.self mark.1)) l.req-iterator)
    ≡ asker_among l.entry l.self
