-- The laws are the lemmas of FieldLaws and, for sums, those of XOR.
use Rattle.std.specs.Int.Bits.{xor_comm, xor_assoc, xor_zero_r, xor_self, xor_lt}
use Rattle.gf256.proofs.FieldLaws.{times_comm, times_assoc, times-one, times-inverse, times-plus, no_zero_divisors, times_byte}
use Rattle.gf256.proofs.laws.field_laws.Goals as goal

pub returns : goal.returns
returns c = record {
  sum_comm = xor_comm;
  sum_assoc = xor_assoc;
  sum_zero = xor_zero_r;
  sum_self = xor_self;
  product_comm = times_comm;
  product_assoc = times_assoc;
  product_one = times-one;
  product_inverse = times-inverse;
  distributive = times-plus;
  no_zero_divisors = no_zero_divisors;
  sum_byte = xor_lt 8;
  product_byte = times_byte;
}
