-- A command comes to the creation of the inode that takes a disk's place only by the tag that it writes to the disk's, and to its
-- publication only by the creation: by no decision, and not as it begins.
use Rattle.std.proofs.Common.{◌≡◌, ℕ, Bool, true, false, List, Option, Some, None}
use Rattle.std.proofs.Common.{refl, sym, ap, subst, ◌∙◌}
use Rattle.std.proofs.lemmas.Option.{same_Some}
use Rattle.object_id.specs.declared.entry.Entry.{Entry}
use Rattle.object_id.specs.declared.entry.Entry.TheVariants as entries
use Rattle.object_id.specs.declared.node.NodeId.{NodeId}
use Rattle.object_id.specs.declared.oid.Vid.{Vid}
use Rattle.inode.specs.Layout.{Content}
use Rattle.peer_proto.specs.declared.guest.VdiAsk.{VdiAsk}
use Rattle.vdi_directory.specs.declared.decision.Decision.{Decision}
use Rattle.vdi_directory.specs.declared.effect.Effect.{Effect}
use Rattle.vdi_directory.specs.declared.header.Header.{Header}
use Rattle.vdi_ops.specs.Op.{DiskChange, Stays, Opens, Closes, Op, OpStep, OpStage, Asked, Working, Publishing, Answered}
use Rattle.vdi_ops.specs.Op.{Task, Opening, WritingBack, Tagging, Copying, Making}
use Rattle.vdi_ops.specs.Steps.{begin_command}
use Rattle.vdi_ops.specs.Steps.{done_at, task_done, op_on_done, on_decision}
use Rattle.overlap_law.proofs.ClosedFirstStages.{HoldsAtFirst, begins_so, decided_so}
use Rattle.overlap_law.proofs.StagesFrom.{IsOfWorks}

-- what holds of no command that has just begun, or whose entry was decided
pub record IsNoneAtFirst (P : OpStage → Type 0) : Type 0 where
  pub asked : (entry : Entry) → P (Asked entry) → ⊥
  pub answered : (change : DiskChange) → P (Answered change) → ⊥
  pub opening : (vid : Vid) (snapshot : Bool) (ids : List ℕ) (header : Header) → P (Working vid (Opening snapshot ids header)) → ⊥
  pub tagging : (vid old : Vid) (inode : Content) → P (Working vid (Tagging old inode)) → ⊥
  pub copying : (vid : Vid) (ids : List ℕ) (header : Header) → P (Working vid (Copying ids header)) → ⊥
  pub making : (vid : Vid) (entry : Entry) → P (Working vid (Making entry None)) → ⊥

module _ (P : OpStage → Type 0) (none : IsNoneAtFirst P) where
  abbrev Never : OpStage → Type 0
  Never stage = P stage → ⊥

  never_at_first : HoldsAtFirst (λ (stage : OpStage). P stage → ⊥)
  never_at_first = record {
    stays = none.answered Stays;
    closes = none.answered Closes;
    opening = none.opening;
    tagging = none.tagging;
    copying = none.copying;
    making = λ vid by. none.making vid (entries.Publish by vid);
  }

  pub none_begins : (by : NodeId) (session : ℕ) (ask : VdiAsk) (disk : Option Content) (step : OpStep)
      → begin_command by session ask disk ≡ Some step → P step.op.stage → ⊥
  none_begins = begins_so Never none.asked

  pub none_decided : (op : Op) (known : List Effect) (disk : Option Content) (decision : Decision) (step : OpStep)
      → on_decision known disk decision op ≡ Some step → P step.op.stage → ⊥
  none_decided op = decided_so Never never_at_first op (λ inode. none.answered (Opens false inode))

-- ---- the creation of this inode, and its publication

abbrev pub IsMakingTask : Content → Task → Type 0
IsMakingTask inode (Opening snapshot ids header) = ⊥
IsMakingTask inode (WritingBack other) = ⊥
IsMakingTask inode (Tagging old other) = ⊥
IsMakingTask inode (Copying ids header) = ⊥
IsMakingTask inode (Making entry made) = made ≡ Some inode

abbrev pub IsMakingStage : Content → OpStage → Type 0
IsMakingStage inode (Asked entry) = ⊥
IsMakingStage inode (Working vid task) = IsMakingTask inode task
IsMakingStage inode (Publishing entry made) = ⊥
IsMakingStage inode (Answered change) = ⊥

abbrev pub IsPublishingStage : Content → OpStage → Type 0
IsPublishingStage inode (Asked entry) = ⊥
IsPublishingStage inode (Working vid task) = ⊥
IsPublishingStage inode (Publishing entry made) = made ≡ Some inode
IsPublishingStage inode (Answered change) = ⊥

-- the tag was written, or the creation done
abbrev pub WasTagging : Content → Op → List ℕ → Type 0
WasTagging inode op bytes = (vid : Vid) × (old : Vid) × (op.stage ≡ Working vid (Tagging old inode))

abbrev pub WasMaking : Content → Op → List ℕ → Type 0
WasMaking inode op bytes = (vid : Vid) × (entry : Entry) × (op.stage ≡ Working vid (Making entry (Some inode)))

module _ (inode : Content) where
  no_making : IsNoneAtFirst (IsMakingStage inode)
  no_making = record {
    asked = λ entry never. never;
    answered = λ change never. never;
    opening = λ vid snapshot ids header never. never;
    tagging = λ vid old other never. never;
    copying = λ vid ids header never. never;
    making = λ vid entry same. cc (same);
  }

  no_publishing : IsNoneAtFirst (IsPublishingStage inode)
  no_publishing = record {
    asked = λ entry never. never;
    answered = λ change never. never;
    opening = λ vid snapshot ids header never. never;
    tagging = λ vid old other never. never;
    copying = λ vid ids header never. never;
    making = λ vid entry never. never;
  }

  module _ (op : Op) (bytes : List ℕ) (step : OpStep) where
    tagged : (of : Vid) (task : Task) → op.stage ≡ Working of task → IsMakingStage inode (task_done op of bytes task).op.stage
        → WasTagging inode op bytes
    tagged of (Opening true ids header) at is = absurd is
    tagged of (Opening false ids header) at is = absurd is
    tagged of (WritingBack other) at is = absurd is
    tagged of (Tagging old other) at is =
        (of, old, at ∙ ap (λ (i : Content). Working of (Tagging old i)) (same_Some other inode is))
    tagged of (Copying ids header) at is = absurd (cc (is))
    tagged of (Making entry made) at is = absurd is

    done_tagging : op_on_done bytes op ≡ Some step → IsMakingStage inode step.op.stage → WasTagging inode op bytes
    unfolding op_on_done
    done_tagging next is = by_stage op.stage refl next
      where
        by_stage : (stage : OpStage) → op.stage ≡ stage → done_at bytes op stage ≡ Some step → WasTagging inode op bytes
        by_stage (Asked entry) at next = absurd (cc (next))
        by_stage (Working of task) at next =
            tagged of task at
            (subst (λ (s : OpStep). IsMakingStage inode s.op.stage) (sym (same_Some (task_done op of bytes task) step next)) is)
        by_stage (Publishing entry made) at next = absurd (cc (next))
        by_stage (Answered change) at next = absurd (cc (next))

    created : (of : Vid) (task : Task) → op.stage ≡ Working of task → IsPublishingStage inode (task_done op of bytes task).op.stage
        → WasMaking inode op bytes
    created of (Opening true ids header) at is = absurd is
    created of (Opening false ids header) at is = absurd is
    created of (WritingBack other) at is = absurd is
    created of (Tagging old other) at is = absurd is
    created of (Copying ids header) at is = absurd is
    created of (Making entry made) at is =
        (of, entry, at ∙ ap (λ (o : Option Content). Working of (Making entry o)) is)

    done_making : op_on_done bytes op ≡ Some step → IsPublishingStage inode step.op.stage → WasMaking inode op bytes
    unfolding op_on_done
    done_making next is = by_stage op.stage refl next
      where
        by_stage : (stage : OpStage) → op.stage ≡ stage → done_at bytes op stage ≡ Some step → WasMaking inode op bytes
        by_stage (Asked entry) at next = absurd (cc (next))
        by_stage (Working of task) at next =
            created of task at
            (subst (λ (s : OpStep). IsPublishingStage inode s.op.stage) (sym (same_Some (task_done op of bytes task) step next)) is)
        by_stage (Publishing entry made) at next = absurd (cc (next))
        by_stage (Answered change) at next = absurd (cc (next))

  pub making_of_works : IsOfWorks (IsMakingStage inode) (WasTagging inode)
  making_of_works = record {
    begins = λ by session ask disk step is. none_begins (IsMakingStage inode) no_making by session ask disk step is;
    decided = λ known disk decision op step is. none_decided (IsMakingStage inode) no_making op known disk decision step is;
    goes = λ op bytes step is holds. done_tagging op bytes step is holds;
  }

  pub publishing_of_works : IsOfWorks (IsPublishingStage inode) (WasMaking inode)
  publishing_of_works = record {
    begins = λ by session ask disk step is. none_begins (IsPublishingStage inode) no_publishing by session ask disk step is;
    decided = λ known disk decision op step is. none_decided (IsPublishingStage inode) no_publishing op known disk decision step is;
    goes = λ op bytes step is holds. done_making op bytes step is holds;
  }
