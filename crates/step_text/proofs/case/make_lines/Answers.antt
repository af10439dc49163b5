use Rattle.std.proofs.Common.{ℕ, List, [], ◌∷◌, Contains, sym, subst}
use Rattle.std.proofs.lemmas.List.Elements.{Contains-append_right}
use Rattle.step_text.specs.Traces.{AreTaken}
use Rattle.step_text.proofs.case.make_lines.Goals as goal

-- what is left behind a line was left before it, and the line was taken
pub loop-line-preserved : goal.loop-line-preserved
loop-line-preserved c = record {
  live = c.in_ok-make_line.ensures.live;
  within = λ line has.
      c.loop-line.invariant.within line
      (subst (λ (lines : List (List ℕ)). Contains lines line) (sym c.in-Some.ensures)
      (Contains-append_right (c.in-Some.line.now ∷ []) c.next.new.self line has));
  taken = λ now rest.
      c.loop-line.invariant.taken now
      (subst (λ (lines : List (List ℕ)). AreTaken c.args.script.now lines c.loop-line.world now) (sym c.in-Some.ensures)
      (c.make_line.new.world, c.in_ok-make_line.ensures.taken, rest));
}
