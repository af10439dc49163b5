-- A data strip is copied, and a parity strip is the sum of the data strips by its coefficients.
use Rattle.std.proofs.Common.{◌<◌, ◌^◌, length, arith}
use Rattle.std.proofs.lemmas.List.Elements.{All-from_get_or}
use Rattle.gf256.proofs.Points.{bytes_of_all}
use Rattle.strip_coding.proofs.CodingLaws.{rows_fit, data_within, encoded, copied}
use Rattle.strip_coding.proofs.coding.strip.Goals as goal

pub combine-requires-clause-both : goal.combine-requires-clause-both
combine-requires-clause-both g c =
    rows_fit c.args.d c.args.index c.parity_row.result.now c.requires.width c.parity_row.ensures

pub combine-requires-clause-within : goal.combine-requires-clause-within
combine-requires-clause-within g c =
    data_within c.args.d (length c.args.out.now) (length c.args.block.now) c.requires.width c.requires.room c.requires.block

pub returns-then-index-d : goal.returns-then-index-d
returns-then-index-d g c =
    copied c.args.d c.args.index (length c.args.out.now) c.args.block.now c.copy_from_slice.new.self c.requires.width
    (bytes_of_all c.args.block.now (All-from_get_or (λ b. b < 2 ^ 8) c.args.block.now 0 (λ k l. let fits = c.type_inv.block k in omega arith)), c.requires.block) c.if-index-d.true c.requires.room c.copy_from_slice.ensures.after

pub returns-else-index-d : goal.returns-else-index-d
returns-else-index-d g c =
    encoded c.args.d c.args.index (length c.args.out.now) c.args.block.now c.parity_row.result.now c.combine.new.sum
    c.requires.width c.parity_row.ensures c.requires.room c.combine.auto.sum c.combine.ensures
