use Rattle.sheep_world.proofs.ReadMoves.{read_is_made, made_may, names_an_object, reads_where_named}
use Rattle.sheep_world.proofs.laws.a_clients_read_is_made_as_asked.Goals as goal

pub returns : goal.returns
returns c = record { made = read_is_made; taken = made_may; reads = λ ask. (names_an_object ask, reads_where_named ask) }
