use Rattle.std.proofs.Common.{◌≡◌, fold, take}
use Rattle.object_id.specs.Hash.{fnv1a_step}
use Rattle.object_id.proofs.hash.FnvHasher.write.Given as goal

abbrev pub invariant-loop-byte : goal.invariant-loop-byte
invariant-loop-byte l = l.self-inside.hash ≡ fold fnv1a_step l.initial.self-inside.hash (take l.byte-index l.piece)
