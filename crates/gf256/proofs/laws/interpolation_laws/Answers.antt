-- The laws are lemmas of Interpolation.
use Rattle.gf256.proofs.Interpolation.{lagrange_polynomial, lagrange_value, roots_of_zero, same_polynomial}
use Rattle.gf256.proofs.laws.interpolation_laws.Goals as goal

pub returns : goal.returns
returns c = record {
  polynomial = lagrange_polynomial;
  value = lagrange_value;
  roots = roots_of_zero;
  only = same_polynomial;
}
