use Rattle.std.proofs.Common.{sym, ap, subst, OnOk, ◌≡◌, ◌∙◌}
use Rattle.std.proofs.lemmas.Bool.{leb-true}
use Rattle.gateway.specs.declared.act.Act.{Act}
use Rattle.sheep_node.specs.State.{Node}
use Rattle.sheep_node.specs.StepState.{StepState}
use Rattle.sheep_node.specs.MayBegin.{MayBeginWork, MayBeFollowed}
use Rattle.sheep_node.specs.RequestWorks.{after_start, start_of, work_begun}
use Rattle.sheep_node.proofs.BeginningWorks.{may_send_here, start_follows}
use Rattle.sheep_node.proofs.step_state.StepState.begin_work.Goals as goal

pub start_work-requires-clause-may_send : goal.start_work-requires-clause-may_send
start_work-requires-clause-may_send c =
    may_send_here c.args.req c.args.work c.self.inside.node
    (subst (λ (so_far : StepState). MayBeginWork c.args.req c.args.work so_far.node) (sym c.self.view_is) c.requires)
    (leb-true _ _ (sym c.has_numbers.ensures ∙ c.if-not-has_numbers.false))

pub after_start-requires : goal.after_start-requires
after_start-requires c =
    subst (λ (act : Act). MayBeFollowed act c.start_work.new.self) (sym c.in_ok-act.ensures.act)
    (subst (MayBeFollowed (start_of c.args.req c.args.work c.self.inside.node).act) (sym c.in_ok-act.ensures.node)
    (start_follows c.args.req c.args.work c.self.inside.node
    (subst (λ (so_far : StepState). MayBeginWork c.args.req c.args.work so_far.node) (sym c.self.view_is) c.requires)
    (leb-true _ _ (sym c.has_numbers.ensures ∙ c.if-not-has_numbers.false))))

pub returns : goal.returns
unfolding work_begun
returns c =
    let number = c.args.number in
    let step = start_of c.args.req c.args.work c.self.inside.node in
    let seen_with : Node → StepState = λ (node : Node). record {
      node = node;
      outputs = record {
        sends = c.self.inside.sends.items;
        say = c.self.inside.say;
        replies = c.self.inside.replies.items;
        put = c.self.inside.put;
      };
    } in
    let begun : after_start number c.in_ok-act.act (seen_with c.start_work.new.self) ≡ work_begun number c.args.req c.args.work c.args.self.now
    = ap (λ (act : Act). after_start number act (seen_with c.start_work.new.self)) c.in_ok-act.ensures.act
    ∙ ap (λ (node : Node). after_start number step.act (seen_with node)) c.in_ok-act.ensures.node
    ∙ ap (work_begun number c.args.req c.args.work) c.self.view_is in
    subst (λ (after : StepState). OnOk c.after_start.result (c.after_start.new.self ≡ after)) begun c.after_start.ensures
