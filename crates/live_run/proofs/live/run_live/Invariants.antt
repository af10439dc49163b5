use Rattle.live_run.proofs.live.run_live.Given as goal

-- each time the cluster lives by its own clock
abbrev pub ghosts-live_once : goal.ghosts-live_once
ghosts-live_once g a = record { clock = a.clock.id }
