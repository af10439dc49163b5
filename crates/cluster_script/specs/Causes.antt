-- The numbers by which reports name the causes.
use Rattle.std.specs.Prelude.{ℕ}
use Rattle.cluster_script.specs.declared.fault.LineCause.{LineCause}
use Rattle.cluster_script.specs.declared.fault.LineCause.TheVariants.{Word, Number, Range, Unaligned, Twice, Unknown, TooMany, NotUtf8}

-- 1 to 8, in the order of the enum
abbrev pub number_of_cause : LineCause → ℕ
number_of_cause Word = 1
number_of_cause Number = 2
number_of_cause Range = 3
number_of_cause Unaligned = 4
number_of_cause Twice = 5
number_of_cause Unknown = 6
number_of_cause TooMany = 7
number_of_cause NotUtf8 = 8
