-- The laws are lemmas of PartLaws.
use Rattle.gf256.proofs.PartLaws.{bytes_of_parts-part, same_bytes}
use Rattle.gf256.proofs.laws.enough_parts.Goals as goal

pub returns : goal.returns
returns c = record {
  back = bytes_of_parts-part;
  same = same_bytes;
}
