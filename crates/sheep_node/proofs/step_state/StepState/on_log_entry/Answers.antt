use Rattle.std.proofs.Common.{OnOk, ◌≡◌, ◌∙◌, ap, sym, subst}
use Rattle.vdi_directory.specs.declared.decision.Decision.{Decision}
use Rattle.peer_service.specs.LogReading.{decision_on}
use Rattle.sheep_node.specs.StepState.{StepState, with_node}
use Rattle.sheep_node.specs.LogReading.{entry_read, on_log_entry}
use Rattle.sheep_node.specs.Kept.{told_if_asked}
use Rattle.sheep_node.specs.InStep.{MayBeToldIfAsked}
use Rattle.sheep_node.proofs.ToldRequests.{node_read, whoever_may_be_told, told_whoever_asked}
use Rattle.sheep_node.proofs.step_state.StepState.on_log_entry.Goals as goal

pub tell_if_asked-requires : goal.tell_if_asked-requires
tell_if_asked-requires c =
    let entry = c.args.entry.now in
    let node = c.args.self.now.node in
    let after = c.read_entry.new.self in
    let asker = c.asker-asker.result in
    let seen : after ≡ node_read entry node
    = c.in-Ok.ensures.step ∙ ap (λ (so_far : StepState). with_node (entry_read entry so_far.node) so_far) c.requires.start in
    subst (λ (decision : Decision). MayBeToldIfAsked asker decision after) (sym c.in-Ok.ensures.decision)
    (subst (MayBeToldIfAsked asker (decision_on entry node.peer)) (sym seen)
    (whoever_may_be_told entry node c.requires.may c.requires.sound asker (sym c.asker-asker.ensures)))

pub returns-in-Ok : goal.returns-in-Ok
unfolding on_log_entry
returns-in-Ok c =
    let entry = c.args.entry.now in
    let node = c.args.self.now.node in
    let after = c.read_entry.new.self in
    let asker = c.asker-asker.result in
    let seen : after ≡ node_read entry node
    = c.in-Ok.ensures.step ∙ ap (λ (so_far : StepState). with_node (entry_read entry so_far.node) so_far) c.requires.start in
    subst (λ (last : StepState). OnOk c.tell_if_asked.result (c.tell_if_asked.new.self ≡ last))
    (ap (λ (decision : Decision). told_if_asked asker decision after) c.in-Ok.ensures.decision
    ∙ ap (told_if_asked asker (decision_on entry node.peer)) seen
    ∙ told_whoever_asked entry node asker (sym c.asker-asker.ensures)
    ∙ sym (ap (on_log_entry entry) c.requires.start))
    c.tell_if_asked.ensures
