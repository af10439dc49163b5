use Rattle.std.proofs.Common.{false}
use Rattle.cluster_script.proofs.TableLemmas.{get_or-same}
use Rattle.cluster_script.proofs.marks.Marks.none.Goals as goal

pub returns : goal.returns
returns c = λ k. get_or-same 65 k false
