use Rattle.schedule.proofs.RunLaws.{not-stopped, runs-through, first-stop}
use Rattle.schedule.proofs.laws.a_stop_is_the_first.Goals as goal

pub returns : goal.returns
returns c = record { none = not-stopped; run = runs-through; stop = first-stop }
