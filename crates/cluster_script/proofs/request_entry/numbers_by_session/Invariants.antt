use Rattle.std.proofs.Common.{◌≡◌}
use Rattle.std.specs.Prelude.{map}
use Rattle.std.specs.List.{range_with_len}
use Rattle.cluster_script.specs.KeptIndex.{numbers_asked}
use Rattle.cluster_script.proofs.request_entry.numbers_by_session.Given as goal

-- so many sessions have their numbers
abbrev pub invariant-loop-count : goal.invariant-loop-count
invariant-loop-count l = l.lists ≡ map (λ session. numbers_asked session 1 l.entries) (range_with_len 1 l.count)
