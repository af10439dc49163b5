use Rattle.std.proofs.Common.{◌≡◌, ◌==◌, ℕ, false, cond, Some, ap, sym, ◌∙◌}
use Rattle.std.specs.FinMap as tree
use Rattle.std.specs.Ordering.{nat_cmp}
use Rattle.std.proofs.lemmas.List.{get_or_default}
use Rattle.gateway.specs.declared.message.Message.{Message}
use Rattle.gateway.proofs.AskerLemmas.{asked-push, asked-some, on_err}
use Rattle.gateway.proofs.askers.Askers.put_all.Goals as goal

pub returns-in_err-put-clause-err : goal.returns-in_err-put-clause-err
returns-in_err-put-clause-err c =
    on_err c.from_residual.result (λ number none.
    ap (λ (m : tree.FinMap nat_cmp ℕ). tree.get m number) c.in_err-put.ensures.err
    ∙ c.loop-message.invariant number
    ∙ ap (λ b. cond b (Some c.args.req) (tree.get c.args.self.now number)) (asked-some number c.loop-message.message-index c.args.messages.now none))

pub loop-message-preserved : goal.loop-message-preserved
loop-message-preserved c =
    asked-push c.args.self.now c.loop-message.self c.put.new.self c.args.messages.now c.loop-message.message-index c.args.req c.message-item.result
    c.loop-message-test.true c.loop-message.invariant
    (c.in_ok-put.ensures.ok ∙ ap (λ (message : Message). tree.insert c.loop-message.self message.number c.args.req) c.message-item.is)
