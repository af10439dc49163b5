use Rattle.std.proofs.Common.{ap, sym, subst, ◌∙◌}
use Rattle.gateway.specs.Attempt.{messages_with_status}
use Rattle.gateway.specs.Messages.{AreMessagesFor}
use Rattle.gateway.proofs.MessageLemmas.{AreMessagesFor-with_status}
use Rattle.gateway.proofs.open_work.bytes_with.Goals as goal

pub bytes_if_done-requires-clause-messages : goal.bytes_if_done-requires-clause-messages
bytes_if_done-requires-clause-messages c =
    subst (AreMessagesFor c.args.work.now)
    (sym (c.as_slice.ensures ∙ c.set_status.ensures ∙ ap (messages_with_status c.args.number c.args.status) c.in_ok-told.ensures))
    (AreMessagesFor-with_status c.args.work.now c.args.number c.args.status c.args.messages.now c.requires.piece c.requires.messages)
