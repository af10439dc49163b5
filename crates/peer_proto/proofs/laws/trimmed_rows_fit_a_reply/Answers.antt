use Rattle.peer_proto.proofs.RowLemmas.{ends-trimmed_bytes, length-trimmed_bytes}
use Rattle.peer_proto.proofs.laws.trimmed_rows_fit_a_reply.Goals as goal

pub returns : goal.returns
returns c = record { trimmed = ends-trimmed_bytes; within = length-trimmed_bytes }
