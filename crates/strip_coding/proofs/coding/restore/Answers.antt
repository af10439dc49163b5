-- A strip that is at hand is copied, and another is the sum of those at hand by its coefficients.
use Rattle.std.proofs.Common.{◌∙◌, ◌<◌, ◌^◌, ◌+◌, ◌*◌, sym, ap, map, length, get_or, arith}
use Rattle.std.proofs.lemmas.List.Elements.{All-from_get_or}
use Rattle.gf256.proofs.Points.{bytes_of_all}
use Rattle.strip_coding.proofs.InterpolateLaws.{apart_from}
use Rattle.strip_coding.proofs.CodingLaws.{at_hand, summed}
use Rattle.strip_coding.proofs.coding.restore.Goals as goal

pub returns-in-Some : goal.returns-in-Some
returns-in-Some g c =
    λ k h.
    ap (λ out. get_or out k 0) c.copy_from_slice.ensures.after
    ∙ at_hand c.args.points.now c.args.places.now c.args.strips.now c.args.index c.in-Some.m (length c.args.out.now) k
    c.requires.differ c.requires.both
    (bytes_of_all c.args.strips.now
    (All-from_get_or (λ b. b < 2 ^ 8) c.args.strips.now 0 (λ i l. let fits = c.type_inv.strips i in omega arith)))
    (sym c.place_of.ensures ∙ c.in-Some.is) h

pub returns-in_default : goal.returns-in_default
returns-in_default g c =
    λ k h.
    c.combine.ensures k h
    ∙ summed c.args.points.now c.fill_row.new.row c.args.index
    (map (λ place. get_or c.args.strips.now (place * length c.args.out.now + k) 0) c.args.places.now)
    c.fill_row.ensures

pub fill_row-requires-clause-apart : goal.fill_row-requires-clause-apart
fill_row-requires-clause-apart g c =
    apart_from c.args.points.now c.args.index (sym c.place_of.ensures ∙ c.in_default.is)
