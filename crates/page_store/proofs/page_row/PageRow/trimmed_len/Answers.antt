use Rattle.std.proofs.Common.{◌≡◌, ◌∙◌, ◌+◌, ◌-◌, ◌*◌, ◌/◌, arith}
use Rattle.page_store.specs.declared.page.TheConstants.{PAGE_BYTES}
use Rattle.page_store.proofs.TrimLemmas.{trimmed_bytes-part, trimmed_bytes-no_part}
use Rattle.page_store.proofs.page_row.PageRow.trimmed_len.Goals as goal

pub returns-then-count-gt0-clause-value : goal.returns-then-count-gt0-clause-value
returns-then-count-gt0-clause-value c =
    let bytes = c.args.self.now.bytes in
    let end = c.loop-end.end in
    let start = (end - 1) / PAGE_BYTES * PAGE_BYTES in
    let whole : start + (end - start) ≡ end = omega arith in
    trimmed_bytes-part bytes start (end - start) c.trimmed_len-count.result end c.part.result.now whole c.loop-end.invariant.within c.part.ensures.value
    (omega (arith, c.trimmed_len-count.ensures.within, c.part.ensures.len)) c.trimmed_len-count.ensures.value c.if-count-gt0.true
    ∙ c.loop-end.invariant.value

pub loop-end-preserved : goal.loop-end-preserved
loop-end-preserved c =
    let bytes = c.args.self.now.bytes in
    let end = c.loop-end.end in
    let start = (end - 1) / PAGE_BYTES * PAGE_BYTES in
    let whole : start + (end - start) ≡ end = omega arith in
    record {
      value =
          trimmed_bytes-no_part bytes start (end - start) c.trimmed_len-count.result end c.part.result.now whole c.part.ensures.value c.trimmed_len-count.ensures.value
          (omega (arith, c.if-count-gt0.false)) ∙ c.loop-end.invariant.value;
      within = omega (arith, whole, c.loop-end.invariant.within);
    }
