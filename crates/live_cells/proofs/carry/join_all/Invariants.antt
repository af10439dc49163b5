use Rattle.std.proofs.Common.{◌≡◌, ◌<◌, ◌≤◌, ◌++◌, ℕ, List, All, vec_len}
use Rattle.live_cells.specs.Seats.{IsInformed}
use Rattle.live_cells.proofs.carry.join_all.Given as goal

-- what was joined so far stood behind what is left, and the seat is above it
abbrev pub invariant-loop-carry : goal.invariant-loop-carry
invariant-loop-carry g l =
    (l.seat.clock ≡ l.fn.seat.clock) × IsInformed l.fn.seat l.seat
    × ((joined : List ℕ) × (l.initial.brought.items ≡ l.brought.items ++ joined) × All (λ (stamp : ℕ). stamp < l.seat.seen) joined)

abbrev pub decreases-loop-carry : goal.decreases-loop-carry
decreases-loop-carry g l = vec_len l.brought
