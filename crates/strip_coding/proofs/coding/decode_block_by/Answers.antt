-- The block through the chosen strips is the one block that has them.
use Rattle.std.proofs.Common.{◌≡◌, ◌+◌, ◌*◌, ◌/◌, ◌<◌, ◌≤◌, ◌^◌, ◌∙◌, refl, sym, ap₂, subst, arith, length, map}
use Rattle.std.specs.List.{All}
use Rattle.std.proofs.lemmas.List.Elements.{All-from_get_or}
use Rattle.object_id.specs.Fields.{AreBytes}
use Rattle.gf256.specs.Polynomial.{ArePoints}
use Rattle.gf256.specs.Strip.{block_through}
use Rattle.gf256.proofs.Points.{bytes_of_all}
use Rattle.strip_coding.specs.Choice.{strip_at, distinct_places, chosen_block, HasStrips}
use Rattle.strip_coding.proofs.ChosenLaws.{chosen_points}
use Rattle.strip_coding.proofs.DecodeLaws.{chosen_fit, enough_from, has_strips, only_block}
use Rattle.strip_coding.proofs.coding.decode_block_by.Goals as goal

pub block-requires-clause-differ : goal.block-requires-clause-differ
block-requires-clause-differ g c =
    subst ArePoints (sym c.in_ok-choice.ensures.points) (chosen_points c.args.d c.args.indexes.now c.requires.indexes)

pub block-requires-clause-within : goal.block-requires-clause-within
block-requires-clause-within g c =
    subst
    (λ places. All (λ place. (place + 1) * (512 / c.args.d) ≤ length c.args.strips.now) places)
    (sym c.in_ok-choice.ensures.places)
    (chosen_fit c.args.d c.args.indexes.now (512 / c.args.d) (512 / c.args.d) (length c.args.strips.now) refl c.requires.strips)

decoded : (g : _) (c : goal.After-block g) → c.block.new.out ≡ chosen_block c.args.d c.args.indexes.now c.args.strips.now
decoded g c =
    c.block.ensures
    ∙ ap₂ (λ points places. block_through c.args.d points (map (strip_at c.args.d c.args.strips.now) places))
    c.in_ok-choice.ensures.points c.in_ok-choice.ensures.places

enough : (g : _) (c : goal.After-block g) → c.args.d ≤ length (distinct_places c.args.indexes.now)
enough g c = enough_from (length (distinct_places c.args.indexes.now)) c.args.d c.in_ok-choice.ensures.few.1

strip_bytes : (g : _) (c : goal.After-block g) → AreBytes c.args.strips.now
strip_bytes g c =
    bytes_of_all c.args.strips.now
    (All-from_get_or (λ b. b < 2 ^ 8) c.args.strips.now 0 (λ i l. let fits = c.type_inv.strips i in omega arith))

pub returns-clause-block : goal.returns-clause-block
returns-clause-block g c = decoded g c

pub returns-clause-strips : goal.returns-clause-strips
returns-clause-strips g c =
    subst (HasStrips c.args.d c.args.indexes.now c.args.strips.now) (sym (decoded g c))
    (has_strips c.args.d c.args.indexes.now c.args.strips.now c.requires.width (strip_bytes g c)
    c.requires.indexes c.requires.strips (enough g c))

pub returns-clause-only : goal.returns-clause-only
returns-clause-only g c =
    λ block is_block has.
    only_block c.args.d c.args.indexes.now c.args.strips.now block c.requires.width c.requires.indexes (enough g c) is_block has
    ∙ sym (decoded g c)
