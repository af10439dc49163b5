use Rattle.sheep_node.proofs.RefusalLaws.{refused_work-outbox}
use Rattle.sheep_node.proofs.laws.a_refused_work_gives_its_id_back.Goals as goal

pub returns : goal.returns
returns c = refused_work-outbox
