use Rattle.std.proofs.Common.{◌≡◌, ◌==◌, ℕ, Some, cond, take}
use Rattle.std.specs.List.{list_any}
use Rattle.std.specs.FinMap as tree
use Rattle.gateway.specs.declared.message.Message.{Message}
use Rattle.gateway.proofs.askers.Askers.put_all.Given as goal

abbrev pub invariant-loop-message : goal.invariant-loop-message
invariant-loop-message l =
    (number : ℕ) → tree.get l.self number
    ≡ cond (list_any (λ (message : Message). message.number == number) (take l.message-index l.messages)) (Some l.req) (tree.get l.fn.self number)
