use Rattle.std.proofs.Common.{◌^◌}
use Rattle.std.specs.Int.{w32, w64}
use Rattle.object_id.proofs.FieldLemmas.{wide32, wide64, stands-u8, stands-u16, stands-u32, stands-u64, stands-numbers}
use Rattle.object_id.proofs.laws.read_numbers_stand.Goals as goal

pub returns-clause-one : goal.returns-clause-one
returns-clause-one c = stands-u8

pub returns-clause-two : goal.returns-clause-two
returns-clause-two c = stands-u16

pub returns-clause-four : goal.returns-clause-four
returns-clause-four c = stands-u32

pub returns-clause-eight : goal.returns-clause-eight
returns-clause-eight c = stands-u64

pub returns-clause-fours : goal.returns-clause-fours
returns-clause-fours c = stands-numbers w32 (2 ^ 32) wide32

pub returns-clause-eights : goal.returns-clause-eights
returns-clause-eights c = stands-numbers w64 (2 ^ 64) wide64
