use Rattle.std.proofs.Common.{◌≡◌, arith, ap, ◌∙◌}
use Rattle.std.specs.Vec.{vec_len}
use Rattle.cluster_script.specs.NumberedRequests.{payload_of}
use Rattle.sheep_world.proofs.ScriptLookUps.{payload_of-block}
use Rattle.sheep_world.proofs.script_requests.payload.Goals as goal

pub loop-done-preserved : goal.loop-done-preserved
loop-done-preserved c = record {
  stand =
      c.in_ok-resize.ensures.items
      ∙ payload_of-block c.args.pattern c.loop-done.done c.byte_of-byte.result c.count_in_block-done.result (vec_len c.loop-done.bytes)
      c.loop-done.bytes.items c.byte_of-byte.ensures c.count_in_block-done.ensures.block c.loop-done.invariant.long
      c.loop-done.invariant.stand;
  long = c.in_ok-resize.ensures.len;
  within = omega (arith, c.count_in_block-done.ensures.within, c.loop-done-test.true);
}

pub returns : goal.returns
returns c =
    let all : c.loop-done.done ≡ c.args.length = omega (arith, c.loop-done.invariant.within, c.loop-done-test.false) in
    c.from_vec.ensures ∙ c.loop-done.invariant.stand ∙ ap (payload_of c.args.pattern) all
