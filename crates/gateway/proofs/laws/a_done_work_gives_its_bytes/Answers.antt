use Rattle.gateway.proofs.LengthLaws.{length-bytes_given, bytes_of_work-object}
use Rattle.gateway.proofs.laws.a_done_work_gives_its_bytes.Goals as goal

pub returns : goal.returns
returns c = record { given = length-bytes_given; object = bytes_of_work-object }
