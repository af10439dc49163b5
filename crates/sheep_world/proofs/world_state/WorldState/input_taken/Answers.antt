use Rattle.std.proofs.Common.{◌≡◌, ◌++◌, Option, Some, None, IfOk, sym, ap, subst, ◌∙◌}
use Rattle.std.specs.Option.{option_map_or}
use Rattle.sheep_node.specs.declared.input.Input.{Input}
use Rattle.sheep_world.specs.Asking.{input_of}
use Rattle.sheep_world.specs.NodeSteps.{node_stepped}
use Rattle.sheep_world.specs.HistoryAdditions.{replies_grown}
use Rattle.sheep_world.proofs.world_state.WorldState.input_taken.Goals as goal

pub returns-in-Some-clause-world : goal.returns-in-Some-clause-world
returns-in-Some-clause-world c =
    let asked : input_of c.args.script.now c.args.req ≡ Some c.in-Some.input = sym c.in_ok-input.ensures ∙ c.in-Some.is in
    subst (λ (input : Option Input). IfOk c.replied.result (λ made. made.0
    ≡ option_map_or (λ (input : Input). node_stepped c.args.script.now c.args.node input c.args.self) input c.args.self))
    (sym asked) c.replied.ensures.world

pub returns-in-Some-clause-grown : goal.returns-in-Some-clause-grown
returns-in-Some-clause-grown c =
    let asked : input_of c.args.script.now c.args.req ≡ Some c.in-Some.input = sym c.in_ok-input.ensures ∙ c.in-Some.is in
    subst (λ (input : Option Input). IfOk c.replied.result (λ made. made.1
    ≡ option_map_or (λ (input : Input). c.args.earlier ++ replies_grown c.args.script.now c.args.self None made.0) input c.args.earlier))
    (sym asked) c.replied.ensures.grown

pub returns-in-None-clause-world : goal.returns-in-None-clause-world
returns-in-None-clause-world c =
    let asked : input_of c.args.script.now c.args.req ≡ None = sym c.in_ok-input.ensures ∙ c.in-None.is in
    sym (ap (λ (input : Option Input).
    option_map_or (λ (input : Input). node_stepped c.args.script.now c.args.node input c.args.self) input c.args.self) asked)

pub returns-in-None-clause-grown : goal.returns-in-None-clause-grown
returns-in-None-clause-grown c =
    let asked : input_of c.args.script.now c.args.req ≡ None = sym c.in_ok-input.ensures ∙ c.in-None.is in
    sym (ap (λ (input : Option Input).
    option_map_or (λ (input : Input). c.args.earlier ++ replies_grown c.args.script.now c.args.self None c.args.self) input c.args.earlier)
    asked)
