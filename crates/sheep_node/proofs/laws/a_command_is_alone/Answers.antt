use Rattle.sheep_node.proofs.SoleCommands.{commands_alone_at_opening, commands_stay_alone}
use Rattle.sheep_node.proofs.laws.a_command_is_alone.Goals as goal

pub returns : goal.returns
returns c = record { opens = commands_alone_at_opening; stays = commands_stay_alone }
