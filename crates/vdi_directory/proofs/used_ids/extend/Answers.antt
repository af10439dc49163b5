use Rattle.std.proofs.Common.{◌+◌, ap, ◌∙◌, refl, arith}
use Rattle.std.proofs.lemmas.List.{get_or_default}
use Rattle.vdi_directory.specs.declared.vid_range.VidRange.{VidRange}
use Rattle.vdi_directory.proofs.UsedLemmas.{extended-ranges_with, extended-only}
use Rattle.vdi_directory.proofs.used_ids.extend.Goals as goal
use Rattle.vdi_directory.proofs.used_ids.extend.Goals.{else-place-len-via-then-place-len+else-index-vid, else-place-len-via-else-place-len}

pub returns-then-index-vid : goal.returns-then-index-vid
returns-then-index-vid c =
    λ d. extended-ranges_with c.args.used.now.items c.remove-last.new.self.items c.args.place (c.args.place + 1) c.args.vid
    c.index.result.now c.index-then-place-len.result.now c.remove-last.result d refl (omega arith)
    c.index.ensures c.index-then-place-len.ensures c.if-index-vid.true c.remove-last.ensures.value c.remove-last.ensures.items

pub returns-else-place-len : goal.returns-else-place-len
returns-else-place-len c =
    let items = c.args.used.now.items in
    λ d. extended-only items c.args.place (c.args.place + 1) c.args.vid c.index.result.now d refl (omega arith) c.index.ensures
    (elim c.else-place-len.branch [
      | else-place-len-via-then-place-len+else-index-vid w ↦ λ e there touches.
          w.if-index-vid.false (ap (λ (r : VidRange). r.first) (w.index-then-place-len.ensures
          ∙ get_or_default items (c.args.place + 1) w.index-then-place-len.result.now e there) ∙ touches)
      | else-place-len-via-else-place-len w ↦ λ e there touches. absurd (omega arith)
    ])
