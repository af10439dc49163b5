use Rattle.std.proofs.Common.{refl}
use Rattle.peer_proto.specs.declared.work.ObjWork.TheVariants.{ReadAll}
use Rattle.gateway.proofs.AnswerLaws.{enough_from, pieces_given}
use Rattle.gateway.proofs.SendLaws.{nodes-read_all, indexes-read_all}
use Rattle.gateway.proofs.laws.all_parts_are_read.Goals as goal

pub returns : goal.returns
returns c = record {
  nodes = nodes-read_all;
  indexes = indexes-read_all;
  done = λ oid policy size messages e. enough_from (ReadAll oid policy size) messages e;
  pieces = λ oid policy size pieces messages e. pieces_given pieces messages e;
  untouched = λ req oid policy size status gateway. refl;
}
