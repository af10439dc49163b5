use Rattle.std.proofs.Common.{◌≡◌, ◌+◌, ◌++◌, ◌∷◌, [], length, take, get_or, sym, ap, ◌∙◌, map, ℕ, List, arith}
use Rattle.std.specs.List.{enumerate_from}
use Rattle.std.proofs.lemmas.List.{take_more, length-take-le}
use Rattle.object_id.specs.declared.node.NodeId.{NodeId}
use Rattle.gateway.specs.declared.message.Message.{Message}
use Rattle.gateway.specs.Attempt.{message_for}
use Rattle.gateway.proofs.AskingLemmas.{messages-push}
use Rattle.gateway.proofs.asking.messages_to_all.Goals as goal

pub loop-place-preserved : goal.loop-place-preserved
loop-place-preserved c =
    let work = c.args.work.now in
    let first : ℕ = c.args.first in
    let targets : List NodeId = c.args.targets.now in
    let place : ℕ = c.loop-place.place in
    let none : NodeId = record { 0 = 0 } in
    let node : NodeId = get_or targets place none in
    let long : length (take place targets) ≡ place = length-take-le place targets (omega (arith, c.loop-place-test.true)) in
    c.in_ok-push.ensures.ok
    ∙ ap (λ (messages : List Message). messages ++ c.message_for.result ∷ []) c.loop-place.invariant
    ∙ ap (λ (message : Message). map (message_for work) (enumerate_from first (enumerate_from 0 (take place targets))) ++ message ∷ []) c.message_for.ensures
    ∙ ap (λ (k : ℕ). map (message_for work) (enumerate_from first (enumerate_from 0 (take place targets))) ++ message_for work (first + k, (k, node)) ∷ []) (sym long)
    ∙ sym (ap (λ ts. map (message_for work) (enumerate_from first (enumerate_from 0 ts))) (take_more targets place none c.loop-place-test.true)
    ∙ messages-push work first (take place targets) node)
