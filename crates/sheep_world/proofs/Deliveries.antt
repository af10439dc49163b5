-- A message that is refused is unreadable, unless memory was wanting.
use Rattle.std.proofs.Common.{◌≡◌, ◌≢◌, Result, Ok, Err, IfOk, IsOk, refl, ◌∙◌}
use Rattle.peer_proto.specs.declared.say.PeerRsp.{PeerRsp}
use Rattle.peer_proto.specs.declared.fault.PeerFault.{PeerFault}
use Rattle.peer_proto.specs.declared.fault.PeerFault.TheVariants as faults
use Rattle.object_id.specs.declared.memory.NoMemory.{NoMemory}
use Rattle.sheep_world.specs.declared.delivery.Delivery.{Delivery}
use Rattle.peer_proto.specs.Header.{AnswersBytes}
use Rattle.sheep_world.specs.declared.delivery.Delivery.TheVariants.{Unreadable}
use Rattle.sheep_world.specs.Deliveries.{delivery_of_reply}

reply-refused : (read : Result PeerRsp PeerFault) (fault : PeerFault) → AnswersBytes read (Err fault) → fault ≢ faults.NoMemory
    → Unreadable ≡ delivery_of_reply read
reply-refused (Ok rsp) fault refused other = absurd (other refused)
reply-refused (Err own) fault refused other = refl

-- what a refused reply comes to
pub reply-unreadable : (read : Result PeerRsp PeerFault) (fault : PeerFault) (result : Result Delivery NoMemory) → AnswersBytes read (Err fault)
    → IfOk result (λ delivery. delivery ≡ Unreadable) → (IsOk result → fault ≢ faults.NoMemory)
    → IfOk result (λ delivery. delivery ≡ delivery_of_reply read)
reply-unreadable read fault (Ok delivery) refused is other = is ∙ reply-refused read fault refused (other refl)
reply-unreadable read fault (Err error) refused is other = tt
