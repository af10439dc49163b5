use Rattle.std.proofs.Common.{◌≡◌, ◌∷◌, [], ◌++◌, ◌%◌, ℕ, length, ◌<◌, get_or, ap, ap₂, ◌∙◌, refl, List, arith}
use Rattle.object_id.specs.declared.node.NodeId.{NodeId}
use Rattle.gateway.specs.declared.message.Message.{Message}
use Rattle.gateway.specs.Attempt.{message_for}
use Rattle.gateway.proofs.AskingLemmas.{message-in_turn}
use Rattle.gateway.proofs.asking.message_in_turn.Goals as goal

pub returns : goal.returns
returns c =
    let none : NodeId = record { 0 = 0 } in
    let targets : List NodeId = c.args.targets.now in
    let place : ℕ = c.args.ended % length targets in
    let below : place < length targets = omega (arith, c.requires.some) in
    c.in_ok-push.ensures.ok ∙ ap₂ (λ (xs : List Message) (x : Message). xs ++ x ∷ []) c.new-messages.ensures c.message_for.ensures
    ∙ message-in_turn c.args.work.now c.args.ended c.args.first place targets (get_or targets place none) none c.requires.one refl below refl
