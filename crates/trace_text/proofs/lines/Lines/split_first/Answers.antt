use Rattle.std.proofs.Common.{◌∙◌, sym}
use Rattle.trace_text.proofs.LineLaws.{first-line, only-line}
use Rattle.trace_text.proofs.lines.Lines.split_first.Goals as goal

pub returns-in-Some : goal.returns-in-Some
returns-in-Some c =
    sym c.self.view_is
    ∙ first-line c.self.inside.rest.now c.in-Some.line.now c.in-Some.rest.now c.in-Some.ensures.parts c.in-Some.ensures.first

pub returns-in-None : goal.returns-in-None
returns-in-None c =
    sym c.self.view_is
    ∙ only-line c.self.inside.rest.now (sym c.is_empty.ensures ∙ c.if-is_empty.false) c.in-None.ensures.none
