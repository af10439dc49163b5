use Rattle.std.proofs.Common.{◌≡◌, Bool, true, false, cond, Option, Some, None, ap, sym, subst, ◌∙◌}
use Rattle.std.specs.Option.{option_and_then}
use Rattle.std.proofs.lemmas.Result.{IfOk-weaker}
use Rattle.gateway.specs.State.{fits_gateway}
use Rattle.gateway.specs.Step.{gateway_on_reply}
use Rattle.gateway.specs.Outcomes.{work_done_in, IsWorkDone}
use Rattle.sheep_node.specs.declared.check_write.CheckWrite.{CheckWrite}
use Rattle.sheep_node.specs.declared.input.Input.TheVariants as inputs
use Rattle.sheep_node.specs.State.{Node}
use Rattle.sheep_node.specs.CheckWrites.{check_write_on, write_after_work}
use Rattle.sheep_node.proofs.CheckWriteLemmas.{reply-writes_nothing}
use Rattle.sheep_node.proofs.state.NodeState.check_write_on.Goals as goal

pub returns-then-not-fits-clause-write : goal.returns-then-not-fits-clause-write
unfolding check_write_on
returns-then-not-fits-clause-write c =
    let node : Node = c.args.self.now in
    let none : fits_gateway c.args.rsp.now node.gateway ≡ false
    = ap (λ (node : Node). fits_gateway c.args.rsp.now node.gateway) (sym c.self.view_is) ∙ sym c.fits.ensures ∙ c.if-not-fits.true in
    sym
    (ap (λ (b : Bool). cond b (option_and_then (write_after_work node) (work_done_in (gateway_on_reply node.gateway c.args.rsp.now).act)) None) none)

pub returns-then-not-is_message_comparing-clause-write : goal.returns-then-not-is_message_comparing-clause-write
unfolding check_write_on
returns-then-not-is_message_comparing-clause-write c =
    let node : Node = c.args.self.now in
    let fits : fits_gateway c.args.rsp.now node.gateway ≡ true
    = ap (λ (node : Node). fits_gateway c.args.rsp.now node.gateway) (sym c.self.view_is) ∙ sym c.fits.ensures ∙ c.if-not-fits.false in
    sym
    (ap (λ (b : Bool). cond b (option_and_then (write_after_work node) (work_done_in (gateway_on_reply node.gateway c.args.rsp.now).act)) None) fits
    ∙ reply-writes_nothing c.args.rsp.now node (sym c.is_message_comparing.ensures ∙ c.if-not-is_message_comparing.true))

pub write_after_work-requires-clause-done : goal.write_after_work-requires-clause-done
write_after_work-requires-clause-done c =
    subst (λ (node : Node). IsWorkDone node.gateway c.in-Some.done) c.self.view_is
    (rw c.in-Some.is at c.in_ok-done.ensures.given)

pub returns-in-Some-clause-write : goal.returns-in-Some-clause-write
unfolding check_write_on
returns-in-Some-clause-write c =
    let node : Node = c.args.self.now in
    let fits : fits_gateway c.args.rsp.now node.gateway ≡ true
    = ap (λ (node : Node). fits_gateway c.args.rsp.now node.gateway) (sym c.self.view_is) ∙ sym c.fits.ensures ∙ c.if-not-fits.false in
    let told : work_done_in (gateway_on_reply node.gateway c.args.rsp.now).act ≡ Some c.in-Some.done
    = ap (λ (node : Node). work_done_in (gateway_on_reply node.gateway c.args.rsp.now).act) (sym c.self.view_is)
    ∙ sym c.in_ok-done.ensures.done ∙ c.in-Some.is in
    let is : check_write_on (inputs.Reply c.args.rsp.now) node ≡ write_after_work node c.in-Some.done
    = ap (λ (b : Bool). cond b (option_and_then (write_after_work node) (work_done_in (gateway_on_reply node.gateway c.args.rsp.now).act)) None) fits
    ∙ ap (option_and_then (write_after_work node)) told in
    IfOk-weaker c.write_after_work.result
    (λ (write : Option CheckWrite). write ≡ write_after_work node c.in-Some.done)
    (λ (write : Option CheckWrite). write ≡ check_write_on (inputs.Reply c.args.rsp.now) node)
    (λ write e. e ∙ sym is) c.write_after_work.ensures

pub returns-in-None-clause-write : goal.returns-in-None-clause-write
unfolding check_write_on
returns-in-None-clause-write c =
    let node : Node = c.args.self.now in
    let fits : fits_gateway c.args.rsp.now node.gateway ≡ true
    = ap (λ (node : Node). fits_gateway c.args.rsp.now node.gateway) (sym c.self.view_is) ∙ sym c.fits.ensures ∙ c.if-not-fits.false in
    let told : work_done_in (gateway_on_reply node.gateway c.args.rsp.now).act ≡ None
    = ap (λ (node : Node). work_done_in (gateway_on_reply node.gateway c.args.rsp.now).act) (sym c.self.view_is)
    ∙ sym c.in_ok-done.ensures.done ∙ c.in-None.is in
    sym
    (ap (λ (b : Bool). cond b (option_and_then (write_after_work node) (work_done_in (gateway_on_reply node.gateway c.args.rsp.now).act)) None) fits
    ∙ ap (option_and_then (write_after_work node)) told)
