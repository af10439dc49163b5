use Rattle.std.proofs.Common.{◌∙◌, sym, subst}
use Rattle.gateway.specs.Messages.{IndexesFit}
use Rattle.gateway.proofs.AskingLemmas.{IndexesFit-messages_of}
use Rattle.gateway.proofs.beginning.sent.Goals as goal

pub sends_of-requires-clause-indexes : goal.sends_of-requires-clause-indexes
sends_of-requires-clause-indexes c =
    subst IndexesFit (sym (c.as_slice.ensures ∙ c.in_ok-messages.ensures))
    (IndexesFit-messages_of c.args.work.now c.args.ended c.args.first c.args.targets.now c.requires.few)
