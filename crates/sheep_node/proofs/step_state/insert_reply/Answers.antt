use Rattle.std.proofs.Common.{ap, sym, ◌∙◌}
use Rattle.std.specs.List.{position}
use Rattle.sheep_node.specs.Kept.{is_reply_behind}
use Rattle.sheep_node.proofs.StepStates.{reply_inserted, reply_added}
use Rattle.sheep_node.proofs.step_state.insert_reply.Goals as goal

pub returns-in_ok-insert-in-Some : goal.returns-in_ok-insert-in-Some
returns-in_ok-insert-in-Some c =
    c.in_ok-insert-in-Some.ensures.items
    ∙ reply_inserted c.args.req c.in-Some.place c.args.reply c.args.replies.now.items
    (ap (position (is_reply_behind c.args.req)) (sym c.as_slice.ensures.value) ∙ sym c.place_of.ensures ∙ c.in-Some.is)

pub returns-in_ok-push-in-None : goal.returns-in_ok-push-in-None
returns-in_ok-push-in-None c =
    c.in_ok-push-in-None.ensures.items
    ∙ reply_added c.args.req c.args.reply c.args.replies.now.items
    (ap (position (is_reply_behind c.args.req)) (sym c.as_slice.ensures.value) ∙ sym c.place_of.ensures ∙ c.in-None.is)
