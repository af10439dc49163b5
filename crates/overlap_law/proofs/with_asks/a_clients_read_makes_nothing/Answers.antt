use Rattle.overlap_law.proofs.AskedReads.{read-begins_none, read-leaves, ask-leaves_others, ask-leaves_log, ask-leaves_lives}
use Rattle.overlap_law.proofs.with_asks.a_clients_read_makes_nothing.Goals as goal

pub returns : goal.returns
returns c = record {
  attempts = λ node ask world host reads there given. read-begins_none node ask world host reads there given;
  stays = λ node ask world host after reads there got.
      let is = read-leaves node ask world host reads there after got in (is.peer, is.epochs, is.recovery);
  touched = λ node ask world host after req reads there got is. (read-leaves node ask world host reads there after got).touched req is;
  lives = ask-leaves_lives;
  others = λ node ask world other apart. ask-leaves_others node ask world other apart;
  log = ask-leaves_log;
}
