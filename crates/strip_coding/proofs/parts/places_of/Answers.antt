-- One place more.
use Rattle.std.proofs.Common.{◌+◌, ◌*◌, ◌++◌, ◌∷◌, [], ◌∙◌, ap, sym, arith}
use Rattle.std.proofs.lemmas.List.{length-set, take_more_set}
use Rattle.std.proofs.lemmas.List.FromFn.{map-range_with_len_more}
use Rattle.strip_coding.proofs.parts.places_of.Goals as goal

pub loop-part-preserved : goal.loop-part-preserved
loop-part-preserved c =
    let place = c.loop-part.part * c.args.strips + c.args.k in
    let below = c.loop-part-test.true in
    record {
      room = length-set c.loop-part.places c.loop-part.part place ∙ c.loop-part.invariant.room;
      so_far =
          take_more_set c.loop-part.places c.loop-part.part place (omega (arith, below, c.requires.most, c.loop-part.invariant.room))
          ∙ ap (λ front. front ++ place ∷ []) c.loop-part.invariant.so_far
          ∙ sym (map-range_with_len_more (λ part. part * c.args.strips + c.args.k) 0 c.loop-part.part c.loop-part.part (omega arith));
    }
