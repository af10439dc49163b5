use Rattle.std.proofs.Common.{◌≡◌, map, take}
use Rattle.gf256.specs.Strip.{basis}
use Rattle.strip_coding.proofs.interpolate.fill_row.Given as goal

-- the row of the points so far
abbrev pub invariant-loop-m : goal.invariant-loop-m
invariant-loop-m l = take l.m l.row ≡ map (λ point. basis l.points point l.x) (take l.m l.points)
