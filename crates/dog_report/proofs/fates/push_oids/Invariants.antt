use Rattle.std.proofs.Common.{◌≡◌, ◌++◌, drop, map}
use Rattle.dog_report.specs.Words.{hex, following_words}
use Rattle.dog_report.proofs.fates.push_oids.Given as goal

-- what was added, with the ids that are left, is all of them
abbrev pub invariant-loop-oid : goal.invariant-loop-oid
invariant-loop-oid l =
    l.text.items ++ following_words (map (hex 16) (drop l.oid-index l.oids))
    ≡ l.fn.text.items ++ following_words (map (hex 16) l.oids)
