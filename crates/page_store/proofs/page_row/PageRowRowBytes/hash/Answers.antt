use Rattle.std.proofs.Common.{[], arith}
use Rattle.object_id.specs.Hash.{fnv1a_of, fnv1a_step}
use Rattle.page_store.proofs.PieceLemmas.{folded_on}
use Rattle.page_store.proofs.page_row.PageRowRowBytes.hash.Goals as goal

pub loop-done-preserved : goal.loop-done-preserved
loop-done-preserved c = record {
  so_far = folded_on fnv1a_step (fnv1a_of []) c.loop-done.hash c.write.new.self c.loop-done.done c.count_in_page-count.result c.args.self.now.bytes c.part.result.now
      c.part.ensures.value c.loop-done.invariant.so_far c.write.ensures;
  within = omega (arith, c.count_in_page-count.ensures.within, c.loop-done-test.true);
}
