-- The row is the one at the index in the table of d.
use Rattle.gf256.proofs.Widths.{is_sixteen}
use Rattle.strip_coding.proofs.RowLaws.{rows_of_2, rows_of_4, rows_of_8, rows_of_16, row_of}
use Rattle.strip_coding.proofs.rows.parity_row.Goals as goal

pub returns-then-d-eq2 : goal.returns-then-d-eq2
returns-then-d-eq2 c = row_of 2 29 _ c.args.d c.args.index rows_of_2 c.if-d-eq2.true c.requires.parity c.requires.index

pub returns-then-d-eq4 : goal.returns-then-d-eq4
returns-then-d-eq4 c = row_of 4 27 _ c.args.d c.args.index rows_of_4 c.if-d-eq4.true c.requires.parity c.requires.index

pub returns-then-d-eq8 : goal.returns-then-d-eq8
returns-then-d-eq8 c = row_of 8 23 _ c.args.d c.args.index rows_of_8 c.if-d-eq8.true c.requires.parity c.requires.index

pub returns-else-d-eq8 : goal.returns-else-d-eq8
returns-else-d-eq8 c =
    row_of 16 15 _ c.args.d c.args.index rows_of_16
    (is_sixteen c.args.d c.requires.width c.if-d-eq2.false c.if-d-eq4.false c.if-d-eq8.false)
    c.requires.parity c.requires.index
