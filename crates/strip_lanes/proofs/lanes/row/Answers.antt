use Rattle.std.proofs.Common.{◌≡◌, ◌*◌, ◌%◌, ◌++◌, length, get_or, refl, ◌∙◌, arith}
use Rattle.std.specs.Simd.Lanes.{chunk}
use Rattle.std.proofs.lemmas.Simd.{length-chunk, get_or-chunk}
use Rattle.std.proofs.lemmas.List.FromFn.{get_or-map-range_with_len}
use Rattle.std.proofs.lemmas.List.{get_or_append_left}
use Rattle.strip_lanes.proofs.lanes.row.Goals as goal

pub returns : goal.returns
returns c =
    let from = c.args.element * 16 in
    let half = chunk from 16 c.args.table.now in
    let long : length half ≡ 16 = length-chunk from 16 c.args.table.now (omega arith) in
    record {
      long = refl;
      each = λ k l.
          get_or-map-range_with_len (λ j. get_or (half ++ half) (j % 16) 0) 0 32 k k 0 l (omega arith)
          ∙ get_or_append_left half half 0 (k % 16) (omega arith)
          ∙ get_or-chunk from 16 c.args.table.now (k % 16) 0 (omega arith);
    }
