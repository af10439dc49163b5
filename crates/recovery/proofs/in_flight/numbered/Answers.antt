use Rattle.std.proofs.Common.{◌≡◌, ◌+◌, ◌++◌, ◌∷◌, [], length, take, get_or, sym, ap, ◌∙◌, ℕ, List, arith}
use Rattle.std.specs.List.{enumerate_from}
use Rattle.std.proofs.lemmas.List.{take_more, length-take-le}
use Rattle.object_id.specs.declared.node.NodeId.{NodeId}
use Rattle.recovery.proofs.FlightLemmas.{Sent, enumerate-push}
use Rattle.recovery.proofs.in_flight.numbered.Goals as goal

pub loop-place-preserved : goal.loop-place-preserved
loop-place-preserved c =
    let first : ℕ = c.args.first in
    let nodes : List NodeId = c.args.nodes.now in
    let place : ℕ = c.loop-place.place in
    let none : NodeId = record { 0 = 0 } in
    let node : NodeId = get_or nodes place none in
    let long : length (take place nodes) ≡ place = length-take-le place nodes (omega (arith, c.loop-place-test.true)) in
    c.in_ok-push.ensures.items
    ∙ ap (λ (sent : List Sent). sent ++ (first + place, node) ∷ []) c.loop-place.invariant
    ∙ ap (λ (k : ℕ). enumerate_from first (take place nodes) ++ (first + k, node) ∷ []) (sym long)
    ∙ sym (ap (enumerate_from first) (take_more nodes place none c.loop-place-test.true) ∙ enumerate-push first (take place nodes) node)
