use Rattle.std.proofs.Common.{◌≡◌, ℕ}
use Rattle.std.specs.List.{find}
use Rattle.std.specs.FinMap as tree
use Rattle.gateway.specs.State.{Work, may_try}
use Rattle.gateway.proofs.works.Works.next_try.Given as goal

abbrev pub invariant-loop-req : goal.invariant-loop-req
invariant-loop-req l =
    find (λ (entry : ℕ × Work). may_try l.epoch entry.1.stage) l.req-iterator
    ≡ find (λ (entry : ℕ × Work). may_try l.epoch entry.1.stage) (tree.entries l.self)
