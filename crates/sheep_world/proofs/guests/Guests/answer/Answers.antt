use Rattle.std.proofs.Common.{◌≡◌, OnOk, sym, ap, subst, ◌∙◌}
use Rattle.sheep_world.specs.World.{no_progress}
use Rattle.sheep_world.specs.NodeSteps.{progress_without_request, progress_after_reply_in}
use Rattle.sheep_world.proofs.TakenValues.{put-back}
use Rattle.sheep_world.proofs.guests.Guests.answer.Goals as goal

pub returns-in-Some : goal.returns-in-Some
returns-in-Some c =
    subst (λ guests. OnOk c.put.result (c.put.new.self ≡ guests))
    (put-back c.args.self.now c.in-Some.number (progress_without_request c.args.req) no_progress
    c.take-progress.result c.without_request.result
    c.take-progress.new.self c.take-progress.ensures.others c.take-progress.ensures.session c.without_request.ensures
    ∙ sym (ap (λ asking. progress_after_reply_in c.args.req asking c.args.self.now) c.in-Some.is))
    c.put.ensures
