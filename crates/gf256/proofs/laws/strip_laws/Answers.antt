-- The laws are lemmas of StripLaws.
use Rattle.gf256.proofs.StripLaws.{length-strip, strip_is_bytes, data_strip, strip-block_through, one_block}
use Rattle.gf256.proofs.laws.strip_laws.Goals as goal

pub returns : goal.returns
returns c = record {
  width = length-strip;
  bytes = strip_is_bytes;
  data_strips = data_strip;
  any_strips = strip-block_through;
  one_block = one_block;
}
