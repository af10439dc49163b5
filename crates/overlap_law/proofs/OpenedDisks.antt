-- A working disk that a session has open after a change of its node was open before, or the session's command opens it now: its inode was
-- written back, or the snapshot is decided of which it takes the place.
use Rattle.std.proofs.Common.{◌≡◌, ◌⊎◌, inl, inr, ℕ, Bool, true, false, Option, Some, None, refl, sym, ap, subst, ◌∙◌}
use Rattle.std.specs.FinMap as tree
use Rattle.std.proofs.lemmas.Option.{same_Some}
use Rattle.inode.specs.Layout.{Content}
use Rattle.guest_driver.specs.declared.disk.Disk.{Disk}
use Rattle.vdi_ops.specs.Op.{Op, OpStage, Asked, Working, Publishing, Answered, Task, Opening, WritingBack, Tagging, Copying, Making}
use Rattle.sheep_node.specs.declared.course.Course.TheVariants.{Commanding}
use Rattle.sheep_node.specs.declared.input.Input.{Input}
use Rattle.sheep_node.specs.Changes.{Change}
use Rattle.sheep_node.specs.SessionQueues.{session_among}
use Rattle.sheep_node.specs.State.{Node}
use Rattle.sheep_node.specs.StepState.{StepState}
use Rattle.sheep_node.proofs.WantedSteps.{driver_goes_on-wanted}
use Rattle.overlap_law.specs.CommandDisks.{opened_as, opened_in}
use Rattle.overlap_law.specs.OpenedTables.{OpensNow, ReadsIt, WroteIt, ByWork, ByEntry}
use Rattle.overlap_law.proofs.DisksAfter.{DiskAfter, Stayed, Drove, Opened, disk_from}

-- ---- what a command opens

-- a command opens the working disk of an id next: once its inode is written back, or the last entry is decided
abbrev pub IsOpeningTask : ℕ → Task → Type 0
IsOpeningTask vid (Opening snapshot ids header) = ⊥
IsOpeningTask vid (WritingBack inode) = inode.vid ≡ vid
IsOpeningTask vid (Tagging old inode) = ⊥
IsOpeningTask vid (Copying ids header) = ⊥
IsOpeningTask vid (Making entry made) = ⊥

abbrev pub IsOpening : ℕ → OpStage → Type 0
IsOpening vid (Asked entry) = ⊥
IsOpening vid (Working of task) = IsOpeningTask vid task
IsOpening vid (Publishing entry made) = (inode : Content) × (made ≡ Some inode) × (inode.vid ≡ vid)
IsOpening vid (Answered change) = ⊥

-- ---- over a change of a node

-- a command of a session opens the disk next
pub record IsOpeningNow (number vid : ℕ) (so_far : StepState) : Type 0 where
  pub req : ℕ
  pub op : Op
  pub there : tree.get so_far.node.requests req ≡ Some (record { session = number; course = Commanding op })
  pub at : IsOpening vid op.stage

module _ (q : ℕ) (vid : ℕ) (input : Input) (node : Node) where
  abbrev pub HadOrOpens : StepState → Type 0
  HadOrOpens so_far = (opened_in q so_far.node.sessions ≡ Some (false, vid)) ⊎ IsOpeningNow q vid so_far

  module _ (so_far : StepState) (disk : Disk) (working : opened_as (Some disk) ≡ Some (false, vid)) where
    named : disk.inode.vid ≡ vid
    named = ap (λ (p : Bool × ℕ). p.1) (same_Some (disk.snapshot, disk.inode.vid) (false, vid) working)

    opens_now : OpensNow input node so_far q disk → HadOrOpens so_far
    opens_now (ByWork (ReadsIt req number work attempt status bytes op of ids header ends at is)) =
        let clash : true ≡ false
        = sym (ap (λ (d : Disk). d.snapshot) is)
        ∙ ap (λ (p : Bool × ℕ). p.0) (same_Some (disk.snapshot, disk.inode.vid) (false, vid) working) in
        absurd (cc (clash))
    opens_now (ByWork (WroteIt req number work attempt status bytes op of inode ends at is)) = inr (record {
      req = req;
      op = op;
      there = ends.ends.request;
      at = subst (IsOpening vid) (sym at) (sym (ap (λ (d : Disk). d.inode.vid) is) ∙ named);
    })
    opens_now (ByEntry req op entry inode there at is) = inr (record {
      req = req;
      op = op;
      there = there;
      at = subst (IsOpening vid) (sym at) (inode, refl, sym (ap (λ (d : Disk). d.inode.vid) is) ∙ named);
    })

    by_origin : DiskAfter input node so_far q disk → HadOrOpens so_far
    by_origin (Stayed is) = inl (ap opened_as is ∙ working)
    by_origin (Drove was req number work attempt status bytes driver step ends opened goes is) =
        let same = (driver_goes_on-wanted was.inode bytes driver step goes).vid in
        inl (ap opened_as opened ∙ sym (ap (λ (v : ℕ). Some (was.snapshot, v)) same)
        ∙ sym (ap (λ (d : Disk). opened_as (Some d)) is) ∙ working)
    by_origin (Opened now) = opens_now now

  pub opened_from : (so_far next : StepState) → Change input node so_far next → opened_in q next.node.sessions ≡ Some (false, vid)
      → HadOrOpens so_far
  opened_from so_far next change opened = by_disk (session_among q next.node.sessions).disk refl opened
    where
      by_disk : (o : Option Disk) → (session_among q next.node.sessions).disk ≡ o → opened_as o ≡ Some (false, vid) → HadOrOpens so_far
      by_disk None at working = absurd (cc (working))
      by_disk (Some disk) at working = by_origin so_far disk working (disk_from q disk input node so_far next change at)
