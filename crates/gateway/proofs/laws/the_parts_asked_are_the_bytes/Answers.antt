use Rattle.object_id.specs.Oid.{kind_of}
use Rattle.gf256.proofs.PartLaws.{bytes_of_parts-part}
use Rattle.gateway.proofs.laws.the_parts_asked_are_the_bytes.Goals as goal

pub returns : goal.returns
returns c = record {
  create = λ oid size offset policy bytes indexes. bytes_of_parts-part policy (kind_of oid) indexes bytes;
  write = λ oid offset policy bytes indexes. bytes_of_parts-part policy (kind_of oid) indexes bytes;
}
