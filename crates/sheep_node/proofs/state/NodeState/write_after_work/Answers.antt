use Rattle.std.proofs.Common.{◌≡◌, Option, Some, None, ap, sym, ◌∙◌}
use Rattle.std.specs.Option.{option_copied, option_and_then}
use Rattle.std.specs.FinMap as tree
use Rattle.std.proofs.lemmas.Result.{IfOk-weaker}
use Rattle.sheep_node.specs.declared.check_write.CheckWrite.{CheckWrite}
use Rattle.sheep_node.specs.declared.course.Request.{Request}
use Rattle.sheep_node.specs.State.{Node}
use Rattle.sheep_node.specs.CheckWrites.{write_of_course, write_after_work}
use Rattle.sheep_node.proofs.CheckWriteLemmas.{done-bytes}
use Rattle.sheep_node.proofs.state.NodeState.write_after_work.Goals as goal

pub write_of_course-requires : goal.write_of_course-requires
write_of_course-requires c =
    let got : tree.get c.args.self.now.requests c.args.done.now.req ≡ Some c.in-Some.request.now
    = ap (λ (node : Node). tree.get node.requests c.args.done.now.req) (sym c.self.view_is) ∙ sym c.get.ensures ∙ ap option_copied c.in-Some.is in
    λ check is. done-bytes c.args.self.now c.args.done.now c.in-Some.request.now check c.requires.sound c.requires.done got is

pub returns-in-Some : goal.returns-in-Some
returns-in-Some c =
    let got : tree.get c.args.self.now.requests c.args.done.now.req ≡ Some c.in-Some.request.now
    = ap (λ (node : Node). tree.get node.requests c.args.done.now.req) (sym c.self.view_is) ∙ sym c.get.ensures ∙ ap option_copied c.in-Some.is in
    IfOk-weaker c.write_of_course.result
    (λ (write : Option CheckWrite). write ≡ write_of_course c.args.done.now.req c.args.done.now.bytes c.in-Some.request.now.course)
    (λ (write : Option CheckWrite). write ≡ write_after_work c.args.self.now c.args.done.now)
    (λ write e. e ∙ sym (ap (option_and_then (λ (request : Request). write_of_course c.args.done.now.req c.args.done.now.bytes request.course)) got))
    c.write_of_course.ensures

pub returns-in-None : goal.returns-in-None
returns-in-None c =
    let got : tree.get c.args.self.now.requests c.args.done.now.req ≡ None
    = ap (λ (node : Node). tree.get node.requests c.args.done.now.req) (sym c.self.view_is) ∙ sym c.get.ensures ∙ ap option_copied c.in-None.is in
    sym (ap (option_and_then (λ (request : Request). write_of_course c.args.done.now.req c.args.done.now.bytes request.course)) got)
