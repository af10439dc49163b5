use Rattle.std.proofs.Common.{◌^◌}
use Rattle.std.specs.Int.{w32, w64}
use Rattle.object_id.proofs.FieldLemmas.{wide32, wide64, u8-read, u16-read, u32-read, u64-read, numbers-read}
use Rattle.object_id.proofs.laws.spelled_numbers_are_read.Goals as goal

pub returns-clause-one : goal.returns-clause-one
returns-clause-one c = u8-read

pub returns-clause-two : goal.returns-clause-two
returns-clause-two c = u16-read

pub returns-clause-four : goal.returns-clause-four
returns-clause-four c = u32-read

pub returns-clause-eight : goal.returns-clause-eight
returns-clause-eight c = u64-read

pub returns-clause-fours : goal.returns-clause-fours
returns-clause-fours c = numbers-read w32 (2 ^ 32) wide32

pub returns-clause-eights : goal.returns-clause-eights
returns-clause-eights c = numbers-read w64 (2 ^ 64) wide64
