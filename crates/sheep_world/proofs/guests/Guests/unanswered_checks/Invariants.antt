use Rattle.std.proofs.Common.{◌≡◌, ◌++◌, flat_map}
use Rattle.sheep_world.specs.RepliesInParts.{checks_of_session, unanswered_checks}
use Rattle.sheep_world.proofs.guests.Guests.unanswered_checks.Given as goal

-- the checks so far and those of the sessions that are left are all of them
abbrev pub invariant-loop-progress : goal.invariant-loop-progress
invariant-loop-progress l =
    l.checks ++ flat_map (checks_of_session l.script) l.progress-iterator ≡ unanswered_checks l.script l.self
