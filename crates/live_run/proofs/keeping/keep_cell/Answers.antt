use Rattle.std.proofs.Common.{rules, sym, ◌∙◌}
use Rattle.live_run.proofs.KeptNumbers.{kept_below}
use Rattle.live_run.proofs.keeping.keep_cell.Goals as goal

pub returns-in_ok-add_cell-in-Some : goal.returns-in_ok-add_cell-in-Some
returns-in_ok-add_cell-in-Some g c =
    kept_below c.args.kept.now c.add_cell.new.self c.in-Some.cell c.into_cell-number.result.0 c.args.least
    c.in_ok-add_cell-in-Some.ensures (search rules) (sym c.spent.ensures ∙ c.if-spent.false) (search rules) c.requires
