use Rattle.sheep_world.proofs.AskReplies.{ask-by_script}
use Rattle.sheep_world.proofs.laws.an_ask_is_told_to_no_session.Goals as goal

pub returns : goal.returns
returns c = ask-by_script
