-- The laws are lemmas of PartLaws.
use Rattle.gf256.proofs.PartLaws.{length-part, part_size-add, part_is_bytes, part-zeros, part-append, part-piece, part-laid_over, part_of_block, parts_in-laid}
use Rattle.gf256.proofs.laws.part_laws.Goals as goal

pub returns : goal.returns
returns c = record {
  size = length-part;
  sizes_add = part_size-add;
  bytes = part_is_bytes;
  zeros = part-zeros;
  joined = part-append;
  piece = part-piece;
  over = part-laid_over;
  block = part_of_block;
  laid = parts_in-laid;
}
