-- The replies of a step are to one request each, and each is one that its node had, or with which the step begins.
use Rattle.std.proofs.Common.{◌≡◌, ◌⊎◌, inl, inr, ⊎_elim, ℕ, Bool, true, false, cond, List, [], ◌∷◌, Contains, Some, sym, ap, subst, ◌∙◌}
use Rattle.std.specs.Prelude.{nat_lt}
use Rattle.std.specs.FinMap as tree
use Rattle.proof_tools.proofs.Lists.{Contains-nil, Contains-cons, Contains-head}
use Rattle.peer_proto.specs.declared.guest.GuestRsp.{GuestRsp}
use Rattle.sheep_node.specs.declared.ask.Ask.{Ask}
use Rattle.sheep_node.specs.declared.course.Request.{Request}
use Rattle.sheep_node.specs.declared.input.Input.{Input}
use Rattle.sheep_node.specs.declared.input.Input.TheVariants as inputs
use Rattle.sheep_node.specs.Changes.{IsSoundStep, input_received}
use Rattle.sheep_node.specs.State.{Node}
use Rattle.sheep_node.specs.Step.{node_step}
use Rattle.sheep_node.specs.StepState.{StepState, at_first, replies_in_order}
use Rattle.sheep_node.proofs.StepChain.{kept_by_chain, step_chain}
use Rattle.overlap_law.proofs.FollowingEvents.{AreToOthers}
use Rattle.overlap_law.proofs.RepliesApart.{ApartIn, change_apart, none_apart}
use Rattle.overlap_law.proofs.RepliesOfChanges.{IsFree, RepliesGrow, Silent, Replied, change_replies}
use Rattle.overlap_law.proofs.RequestsInSteps.{replies-in_order, received_replies, KnownIn, received_none, change_known}

-- ---- the replies of a step are to one request each

replied_once : (reply : ℕ × GuestRsp) (replies : List (ℕ × GuestRsp)) → IsFree reply.0 replies → AreToOthers replies
    → AreToOthers (replies_in_order reply replies)
replied_once reply [] free apart = (λ one there. absurd (Contains-nil one there), tt)
replied_once reply (first ∷ later) free apart =
    by_test (nat_lt reply.0 first.0) (replied_once reply later (λ one there. free one (Contains-cons first later one there)) apart.1)
  where
    by_test : (b : Bool) → AreToOthers (replies_in_order reply later)
        → AreToOthers (cond b (reply ∷ first ∷ later) (first ∷ replies_in_order reply later))
    by_test true rest = (free, apart)
    by_test false rest = (
      λ one there. ⊎_elim
          (λ (new : reply ≡ one).
          λ (same : one.0 ≡ first.0). free first (Contains-head first later) (sym same ∙ sym (ap (λ (r : ℕ × GuestRsp). r.0) new)))
          (λ (old : Contains later one). apart.0 one old)
          (replies-in_order reply later one there),
      rest,
    )

still_once : (replies next : List (ℕ × GuestRsp)) → RepliesGrow replies next → AreToOthers replies → AreToOthers next
still_once replies next Silent apart = apart
still_once replies next (Replied reply free) apart = replied_once reply replies free apart

none_once : (replies : List (ℕ × GuestRsp)) → replies ≡ [] → AreToOthers replies
none_once replies none = subst AreToOthers (sym none) tt

pub step_once : (input : Input) (node : Node) → IsSoundStep input node → AreToOthers (node_step input node).outputs.replies
step_once input node sound =
    (kept_by_chain (λ (so_far : StepState). ApartIn so_far × AreToOthers so_far.outputs.replies)
    (λ so_far next change both. (
      change_apart input node sound so_far next change both.0,
      still_once so_far.outputs.replies next.outputs.replies (change_replies input node so_far next change both.0) both.1,
    ))
    (step_chain input node)
    (apart_at_first input node, none_once (received input node).outputs.replies (received_replies input node))).1
  where
    received : (input : Input) (node : Node) → StepState
    received input node = input_received input (at_first node)

    apart_at_first : (input : Input) (node : Node) → ApartIn (received input node)
    apart_at_first input node =
        none_apart (received input node).node.requests (received input node).outputs.replies (received_replies input node)

-- ---- whom a step has, or replies to

abbrev pub IsHere : Input → Node → ℕ → Type 0
IsHere input node q = ((request : Request) × (tree.get node.requests q ≡ Some request))
    ⊎ ((number : ℕ) × (ask : Ask) × (input ≡ inputs.Guest q number ask))

pub all_here : (input : Input) (node : Node) → KnownIn (λ (q session : ℕ) (disk : Bool). IsHere input node q) (node_step input node)
all_here input node =
    kept_by_chain (KnownIn (λ (q session : ℕ) (disk : Bool). IsHere input node q))
    (change_known (λ (q session : ℕ) (disk : Bool). IsHere input node q) input node (λ q session ask from. inr (session, ask, from)))
    (step_chain input node)
    (received_none (λ (q session : ℕ) (disk : Bool). IsHere input node q) input node (received_replies input node)
    (λ q request got. inl (request, got)))
