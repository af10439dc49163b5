use Rattle.std.proofs.Common.{◌≡◌, ◌∙◌, ◌+◌, ◌-◌, sym, subst, arith}
use Rattle.page_store.specs.Pages.{HasPages}
use Rattle.page_store.proofs.PieceLemmas.{laid_over-next}
use Rattle.page_store.proofs.page_row.PageRowRowBytes.write.Goals as goal

pub loop-done-preserved : goal.loop-done-preserved
loop-done-preserved c =
    let done = c.loop-done.done in
    let count = c.count_in_page-count.result in
    let same : done + count - done ≡ count = omega arith in
    record {
      bytes = laid_over-next c.args.self.now.bytes c.loop-done.self.bytes c.write_part.new.self.bytes c.args.offset done count (done + count - done) c.args.piece.now
          c.requires.within (omega (arith, c.count_in_page-count.ensures.within, c.loop-done-test.true)) same c.loop-done.invariant.bytes c.write_part.ensures.bytes;
      pages = c.write_part.ensures.pages ∙ c.loop-done.invariant.pages;
      within = omega (arith, c.count_in_page-count.ensures.within, c.loop-done-test.true);
    }

pub returns-clause-room : goal.returns-clause-room
returns-clause-room c = λ offset n had. subst (λ pages. HasPages pages offset n) (sym c.loop-done.invariant.pages) had
