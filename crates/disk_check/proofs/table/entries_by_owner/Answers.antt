use Rattle.std.proofs.Common.{◌<◌, ℕ, List, length, slice_index, sym, ap, subst, ◌∙◌}
use Rattle.disk_check.proofs.TableLemmas.{own_entry, inherited_entry, hole_entry}
use Rattle.disk_check.proofs.table.entries_by_owner.Goals.{then-entry-vid+in_ok-push, else-entry-vid+then-entry-ne0, else-entry-vid+else-entry-ne0}
use Rattle.disk_check.proofs.table.entries_by_owner.Goals as goal

pub loop-index-preserved : goal.loop-index-preserved
loop-index-preserved c =
    let table : List ℕ = c.args.inode.now.table in
    let k : ℕ = c.loop-index.index in
    let vid : ℕ = c.args.inode.now.vid in
    let entry = ap (λ (xs : List ℕ). slice_index xs k) (sym c.entries-entry-items.ensures.value) in
    let within = subst (λ (xs : List ℕ). k < length xs) c.entries-entry-items.ensures.value c.loop-index-test.true in
    elim c.if-entry-vid.branch [
      | then-entry-vid+in_ok-push w ↦
          rw (w.own-is, w.inherited-is, w.in_ok-push.ensures.items)
          (own_entry vid table k c.loop-index.own.items c.loop-index.inherited within (entry ∙ w.if-entry-vid.true ∙ c.vid-vid.ensures) c.loop-index.invariant)
      | else-entry-vid+then-entry-ne0 w ↦
          rw (w.own-is, w.inherited-is)
          (inherited_entry vid table k c.loop-index.own.items c.loop-index.inherited within
          (λ e. w.if-entry-vid.false (sym entry ∙ e ∙ sym c.vid-vid.ensures)) (λ e. w.if-entry-ne0.true (sym entry ∙ e)) c.loop-index.invariant)
      | else-entry-vid+else-entry-ne0 w ↦
          rw (w.own-is, w.inherited-is)
          (hole_entry vid table k c.loop-index.own.items c.loop-index.inherited within
          (λ e. w.if-entry-vid.false (sym entry ∙ e ∙ sym c.vid-vid.ensures)) (entry ∙ w.if-entry-ne0.false) c.loop-index.invariant)
    ]
