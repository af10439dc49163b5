-- What it changes of an attempt that the status of one of its messages is known: not its other numbers, its targets, nor how it began.
use Rattle.std.proofs.Common.{◌≡◌, ◌≢◌, ℕ, ◌==◌, Bool, true, false, ◌&&◌, ◌||◌, cond, List, [], ◌∷◌, map, None, option_map, refl, sym, ap}
use Rattle.std.proofs.Common.{◌∙◌}
use Rattle.std.specs.List.{list_any}
use Rattle.std.specs.FinMap as tree
use Rattle.std.proofs.lemmas.Bool.{eqb-true, ne_eqb}
use Rattle.peer_proto.specs.declared.work.ObjWork.{ObjWork}
use Rattle.gateway.specs.declared.message.Message.{Message}
use Rattle.gateway.specs.declared.message.Status.{Status}
use Rattle.gateway.specs.Work.{is_making}
use Rattle.gateway.specs.Attempt as gateways
use Rattle.gateway.specs.Attempt.{is_awaited_message, is_unanswered, is_over, messages_with_status}
use Rattle.gateway.specs.State.{Open}
use Rattle.gateway.specs.Step.{attempt_with_status}
use Rattle.sheep_node.specs.declared.course.Request.{Request}
use Rattle.sheep_node.specs.State.{Node}
use Rattle.sheep_world.specs.World.{Host}
use Rattle.sheep_world.specs.NodeCauses.{host_with_node}
use Rattle.sheep_world.proofs.AttemptSends.{over_none}
use Rattle.overlap_law.specs.Attempts.{Flying, receivers, is_first, beginning, beginning_with}

module _ (number : ℕ) (status : Status) where
  module _ (k : ℕ) (apart : k ≢ number) where
    -- one message of another number, whether marked or not
    awaited_same : (message : Message) (b : Bool) → (message.number == number) ≡ b
        → is_awaited_message k (cond b (record message { status = status }) message) ≡ is_awaited_message k message
    awaited_same message true is =
        let own : message.number ≡ number = eqb-true message.number number is in
        let other : (message.number == k) ≡ false = ne_eqb message.number k (λ (same : message.number ≡ k). apart (sym same ∙ own)) in
        ap (λ (b : Bool). cond b (is_unanswered status) false) other
        ∙ sym (ap (λ (b : Bool). cond b (is_unanswered message.status) false) other)
    awaited_same message false is = refl

    pub awaited-marked : (messages : List Message)
        → list_any (is_awaited_message k) (messages_with_status number status messages) ≡ list_any (is_awaited_message k) messages
    awaited-marked [] = refl
    awaited-marked (message ∷ messages) =
        λ i. awaited_same message (message.number == number) refl i || awaited-marked messages i

    -- of an attempt that is over with it no other message was awaited
    pub none_awaited-over : (messages : List Message) → is_over (messages_with_status number status messages) ≡ true
        → list_any (is_awaited_message k) messages ≡ false
    none_awaited-over messages over = sym (awaited-marked messages) ∙ over_none k (messages_with_status number status messages) over

  pub number-marked : (message : Message) (b : Bool) → (cond b (record message { status = status }) message).number ≡ message.number
  number-marked message true = refl
  number-marked message false = refl

  node-marked : (message : Message) (b : Bool) → (cond b (record message { status = status }) message).node ≡ message.node
  node-marked message true = refl
  node-marked message false = refl

  first-marked : (k : ℕ) (messages : List Message) → is_first k (messages_with_status number status messages) ≡ is_first k messages
  first-marked k [] = refl
  first-marked k (message ∷ messages) = ap (λ (n : ℕ). n == k) (number-marked message (message.number == number))

  pub receivers-marked : (messages : List Message) → receivers (messages_with_status number status messages) ≡ receivers messages
  receivers-marked [] = refl
  receivers-marked (message ∷ messages) = λ i. node-marked message (message.number == number) i ∷ receivers-marked messages i

  flying-marked : (messages : List Message)
      → map (λ (message : Message). Flying) (messages_with_status number status messages) ≡ map (λ (message : Message). Flying) messages
  flying-marked [] = refl
  flying-marked (message ∷ messages) = λ i. Flying ∷ flying-marked messages i

  -- a marked attempt began as it did
  pub begins-marked : (host : Host) (k : ℕ) (node : Node) (req : ℕ) (work : ObjWork) (attempt : gateways.Attempt)
      → beginning_with (host_with_node host node) k req work (Open (attempt_with_status number status attempt))
      ≡ beginning_with (host_with_node host node) k req work (Open attempt)
  begins-marked host k node req work attempt =
      λ i. cond (is_making work && first-marked k attempt.messages i)
      (option_map (λ (request : Request). record (beginning (host_with_node host node) k req work attempt request) {
        targets = receivers-marked attempt.messages i;
        fates = flying-marked attempt.messages i;
      }) (tree.get node.requests req)) None
