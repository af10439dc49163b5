use Rattle.std.proofs.Common.{◌≡◌, ◌<◌, ◌^◌, take}
use Rattle.cluster_script.specs.Numbers.{digits_value}
use Rattle.cluster_script.proofs.number.decimal.Given as goal

-- the value of the digits that were read
abbrev pub invariant-loop-digit : goal.invariant-loop-digit
invariant-loop-digit l = record {
  value : l.value ≡ digits_value (take l.digit-index l.digits);
  fits : l.value < 2 ^ 64;
}
