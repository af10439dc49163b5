-- A touched work is not refused at its start.
use Rattle.std.proofs.Common.{◌≡◌, ℕ, true, false, refl}
use Rattle.hash_ring.specs.Placement.{zone_count}
use Rattle.vnode_table.specs.Epochs.{members_at}
use Rattle.peer_proto.specs.declared.work.ObjWork.{ObjWork}
use Rattle.gateway.specs.declared.act.Act.{Act}
use Rattle.gateway.specs.declared.act.Act.TheVariants as acts
use Rattle.gateway.specs.State.{Ended, Work, Gateway, is_touched}
use Rattle.gateway.specs.Step.{start_step}
use Rattle.gateway.specs.Outcomes.{BeginsAttempt}
use Rattle.gateway.proofs.SendLaws.{attempt_step-begins}
use Rattle.sheep_node.specs.StepState.{StepState, with_gateway}
use Rattle.sheep_node.specs.RequestWorks.{after_start, start_of, work_begun}

abbrev SameReplies : StepState → StepState → Type 0
SameReplies old new = new.outputs.replies ≡ old.outputs.replies

quiet_start : (gateway : Gateway) (of : ℕ) (work : Work) (first zones : ℕ) (number : ℕ) (act : Act) (so_far : StepState)
    → BeginsAttempt gateway of work first zones act → is_touched of gateway ≡ true → SameReplies so_far (after_start number act so_far)
quiet_start gateway of work first zones number (acts.Send sends) so_far b touched = refl
quiet_start gateway of work first zones number acts.Wait so_far b touched = refl
quiet_start gateway of work first zones number (acts.Done ended done) so_far b touched = absurd b
quiet_start gateway of work first zones number (acts.Refused ended refused cause) so_far b touched =
    let untouched : is_touched of gateway ≡ false = b.3 in
    absurd (cc (touched, untouched))

pub touched_start : (number req : ℕ) (work : ObjWork) (so_far : StepState) → is_touched req so_far.node.gateway ≡ true
    → (work_begun number req work so_far).outputs.replies ≡ so_far.outputs.replies
unfolding work_begun start_step
touched_start number req work so_far touched =
    quiet_start so_far.node.gateway req (record { work = work; ended = 0; stage = Ended }) so_far.node.sends
    (zone_count (members_at so_far.node.epochs so_far.node.peer.epoch)) number (start_of req work so_far.node).act
    (with_gateway (start_of req work so_far.node).gateway so_far)
    (attempt_step-begins so_far.node.epochs so_far.node.gateway req (record { work = work; ended = 0; stage = Ended }) so_far.node.sends (record { 0 = so_far.node.peer.epoch }))
    touched
