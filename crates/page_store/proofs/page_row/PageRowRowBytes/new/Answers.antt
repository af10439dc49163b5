use Rattle.std.proofs.Common.{◌≡◌, ℕ, ◌+◌, ◌-◌, length, take, drop, arith}
use Rattle.std.proofs.lemmas.List.{length-replicate, length-drop, length-take-le}
use Rattle.object_id.specs.Fields.{zeros}
use Rattle.page_store.proofs.PieceLemmas.{laid_over-next}
use Rattle.page_store.proofs.ZeroLemmas.{zeros_behind}
use Rattle.page_store.proofs.page_row.PageRowRowBytes.new.Goals as goal

pub put_part-requires-clause-zeros : goal.put_part-requires-clause-zeros
put_part-requires-clause-zeros c =
    let done = c.loop-done.done in
    let piece = c.args.piece.now in
    let count = c.count_in_page-count.result in
    let rest : length (drop done piece) ≡ length piece - done = length-drop done piece in
    let long : length (take (done + count - done) (drop done piece)) ≡ done + count - done =
    length-take-le (done + count - done) (drop done piece) (omega (arith, rest, c.count_in_page-count.ensures.within, c.loop-done-test.true)) in
    zeros_behind c.args.size c.args.offset done (length (take (done + count - done) (drop done piece))) piece c.loop-done.row.bytes c.requires
    (omega (arith, long, c.count_in_page-count.ensures.within, c.loop-done-test.true)) c.loop-done.invariant.bytes

pub loop-done-preserved : goal.loop-done-preserved
loop-done-preserved c =
    let done = c.loop-done.done in
    let count = c.count_in_page-count.result in
    let same : done + count - done ≡ count = omega arith in
    let full : length (zeros c.args.size) ≡ c.args.size = length-replicate {A = ℕ} c.args.size 0 in
    record {
      bytes = laid_over-next (zeros c.args.size) c.loop-done.row.bytes c.put_part.new.self.bytes c.args.offset done count (done + count - done) c.args.piece.now
          (omega (arith, full, c.requires)) (omega (arith, c.count_in_page-count.ensures.within, c.loop-done-test.true)) same c.loop-done.invariant.bytes
          c.in_ok-put_part.ensures;
      within = omega (arith, c.count_in_page-count.ensures.within, c.loop-done-test.true);
    }
