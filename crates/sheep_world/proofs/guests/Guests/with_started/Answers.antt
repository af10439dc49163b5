use Rattle.std.proofs.Common.{◌≡◌, OnOk, subst}
use Rattle.sheep_world.specs.World.{no_progress}
use Rattle.sheep_world.specs.Effects.{progress_with_started}
use Rattle.sheep_world.proofs.TakenValues.{put-back}
use Rattle.sheep_world.proofs.guests.Guests.with_started.Goals as goal

pub returns : goal.returns
returns c =
    subst (λ guests. OnOk c.put.result (c.put.new.self ≡ guests))
    (put-back c.args.self.now c.args.number (progress_with_started c.args.started) no_progress c.take-progress.result
    c.in_ok-with_started.field-0 c.take-progress.new.self c.take-progress.ensures.others c.take-progress.ensures.session
    c.in_ok-with_started.ensures)
    c.put.ensures
