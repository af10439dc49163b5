-- The sends of a tick of the recovery are numbered upwards, and so are sends behind others.
use Rattle.std.proofs.Common.{◌≡◌, ℕ, suc, ◌+◌, List, [], ◌∷◌, ◌++◌, length, map, refl, ap, sym, ◌∙◌, arith}
use Rattle.std.specs.List.{range_with_len}
use Rattle.std.proofs.lemmas.List.{map-append, length-append, length-map}
use Rattle.object_id.specs.declared.node.NodeId.{NodeId}
use Rattle.peer_proto.specs.declared.ask.PeerReq.{PeerReq}
use Rattle.gateway.specs.Outcomes.{AreNumberedFrom}
use Rattle.recovery.specs.State as recoveries
use Rattle.recovery.specs.Tick.{tick_messages, tick_sends}
use Rattle.recovery.proofs.StepLemmas.{numbers_of_tick}

same_numbers : (messages : List recoveries.Message)
    → map (λ (send : NodeId × PeerReq). send.1.number) (map (λ (message : recoveries.Message). (message.to, message.request)) messages)
    ≡ map (λ (message : recoveries.Message). message.request.number) messages
same_numbers [] = refl
same_numbers (message ∷ messages) = ap (λ numbers. message.request.number ∷ numbers) (same_numbers messages)

-- of a tick of the recovery
pub tick_numbers : (first : ℕ) (state : recoveries.RecoveryState) → AreNumberedFrom first (tick_sends first state)
unfolding tick_sends
tick_numbers first state =
    same_numbers (tick_messages first state)
    ∙ numbers_of_tick first state
    ∙ ap (range_with_len first) (sym (length-map (tick_messages first state) (λ (message : recoveries.Message). (message.to, message.request))))

range_joined : {X : Type 0} (xs : List X) (first n : ℕ)
    → range_with_len first (length xs + n) ≡ range_with_len first (length xs) ++ range_with_len (first + length xs) n
range_joined [] first n =
    let none : 0 + n ≡ n = omega arith in
    let here : first ≡ first + 0 = omega arith in
    ap (range_with_len first) none ∙ ap (λ (k : ℕ). range_with_len k n) here
range_joined (x ∷ xs) first n =
    let one_more : length (x ∷ xs) + n ≡ suc (length xs + n) = omega arith in
    let next : first + 1 + length xs ≡ first + length (x ∷ xs) = omega arith in
    ap (range_with_len first) one_more
    ∙ ap (λ (numbers : List ℕ). first ∷ numbers) (range_joined xs (first + 1) n)
    ∙ ap (λ (k : ℕ). first ∷ (range_with_len (first + 1) (length xs) ++ range_with_len k n)) next

-- sends behind sends that are numbered up to their first
pub numbers_joined : (first : ℕ) (before after : List (NodeId × PeerReq)) → AreNumberedFrom first before
    → AreNumberedFrom (first + length before) after → AreNumberedFrom first (before ++ after)
numbers_joined first before after b a =
    map-append (λ (send : NodeId × PeerReq). send.1.number) before after
    ∙ ap (λ numbers. numbers ++ map (λ (send : NodeId × PeerReq). send.1.number) after) b
    ∙ ap (λ numbers. range_with_len first (length before) ++ numbers) a
    ∙ sym (range_joined before first (length after))
    ∙ ap (range_with_len first) (sym (length-append before after))
