-- What a command comes to rests on what it had: with a grant on what was granted, with a work that is done on what that went on for, with
-- its last entry on the reservation; and what it leaves open is the session's.
use Rattle.std.proofs.Common.{◌≡◌, ℕ, ◌+◌, ◌≤◌, Bool, true, false, List, take, Option, Some, None, IfSome, option_map, option_and_then}
use Rattle.std.proofs.Common.{refl, sym, ap, subst, ◌∙◌, arith}
use Rattle.std.specs.List.{slice_get}
use Rattle.std.specs.Option.{option_map_or}
use Rattle.std.proofs.lemmas.Option.{same_Some}
use Rattle.object_id.specs.declared.entry.Entry.{Entry}
use Rattle.object_id.specs.declared.entry.Entry.TheVariants as entries
use Rattle.object_id.specs.declared.entry.Entry.TheVariants.{Format, Join, Leave, Reweight, Recovered, Reserve, Publish, Lock, Unlock}
use Rattle.object_id.specs.declared.entry.Origin.TheVariants.{Fresh, SnapshotOf, CloneOf}
use Rattle.object_id.specs.declared.node.NodeId.{NodeId}
use Rattle.object_id.specs.declared.oid.Vid.{Vid}
use Rattle.epoch_log.specs.Epochs.{epoch_of}
use Rattle.inode.specs.Layout.{Content}
use Rattle.peer_proto.specs.declared.guest.VdiAsk.{VdiAsk}
use Rattle.peer_proto.specs.declared.guest.VdiAsk.TheVariants.{Create, Attach, Close, Snapshot, Clone, Delete, Check}
use Rattle.vdi_directory.specs.declared.decision.Decision.{Decision}
use Rattle.vdi_directory.specs.declared.decision.Decision.TheVariants as decisions
use Rattle.vdi_directory.specs.declared.effect.Effect.{Effect}
use Rattle.vdi_directory.specs.declared.header.Header.{Header}
use Rattle.vdi_directory.specs.Chains.{chain_of}
use Rattle.vdi_directory.specs.Decisions.{decision_after}
use Rattle.vdi_directory.specs.Effects.{header_of}
use Rattle.guest_driver.specs.declared.disk.Disk.{Disk}
use Rattle.vdi_ops.specs.Entries.{first_entry, command_refusal}
use Rattle.vdi_ops.specs.Op.{Task, Opening, WritingBack, Tagging, Copying, Making, OpStage, Asked, Working, Publishing, Answered, Stays}
use Rattle.vdi_ops.specs.Op.{Opens, disk_change_at, Op, OpStep}
use Rattle.vdi_ops.specs.Steps.{first_step, begin_command, change_without_grant, tag_step, copy_step, step_after_grant, step_after_decision}
use Rattle.vdi_ops.specs.Steps.{decided_at, on_decision, task_done, done_at, op_on_done}
use Rattle.sheep_node.specs.Courses.{inode_open, disk_after}
use Rattle.sheep_node.specs.Guests.{seen_by_command}
use Rattle.sheep_node.proofs.ValidSteps.{given}
use Rattle.overlap_law.specs.AwaitedEntries.{IsCommandEntry}
use Rattle.overlap_law.specs.CommandDisks.{opened_as, IsOpenAtLast, IsOpenAtTask, IsOpenAtStage}
use Rattle.overlap_law.specs.WriterClaims.{HasLock, HasReservation, HasPlace, IsGivenNoMore, IsNamed, IsFirstEntry, IsForDisk, IsGrantKept}
use Rattle.overlap_law.specs.WriterClaims.{IsAskedSo, IsMakingKept, IsTaskKept, IsPublicationKept, IsReplacing, IsStageKept, LetsGoBy}

-- an entry isn't in the log from a place on, which is where the node is to read of it
abbrev pub IsUnseen : List Entry → ℕ → Entry → Type 0
IsUnseen log from entry = (place : ℕ) → from ≤ place → slice_get log place ≡ Some entry → ⊥

-- a command waits for this entry
abbrev pub IsWaitedAt : Entry → OpStage → Type 0
IsWaitedAt entry (Asked wanted) = wanted ≡ entry
IsWaitedAt entry (Working vid task) = ⊥
IsWaitedAt entry (Publishing wanted made) = wanted ≡ entry
IsWaitedAt entry (Answered change) = ⊥

module _ (log outbox read : List Entry) (from : ℕ) (me : NodeId) (session : ℕ) where
  -- an open disk is a snapshot, or has its name and the session its lock
  abbrev pub IsDiskSafe : Bool → Content → Type 0
  IsDiskSafe true inode = IsGivenNoMore log inode.vid
  IsDiskSafe false inode = IsNamed log inode.vid inode.name × HasLock log outbox me session (epoch_of read) inode.vid

  abbrev pub AreSafe : Option Disk → Type 0
  AreSafe disk = (open_disk : Disk) → disk ≡ Some open_disk → IsDiskSafe open_disk.snapshot open_disk.inode

  -- what a step leaves: the command's ground, and a safe disk
  pub record IsStepKept (disk : Option Disk) (step : OpStep) : Type 0 where
    pub stage : IsStageKept log outbox read from me session (opened_as (disk_after (disk_change_at step.op.stage) disk)) step.op.stage
    pub safe : AreSafe (disk_after (disk_change_at step.op.stage) disk)

  none_open : AreSafe None
  none_open open_disk opened = absurd (cc (opened))

  one_open : (snapshot : Bool) (inode : Content) → IsDiskSafe snapshot inode
      → AreSafe (Some (record { inode = inode; snapshot = snapshot }))
  one_open snapshot inode safe open_disk opened =
      subst (λ (d : Disk). IsDiskSafe d.snapshot d.inode) (same_Some (record { inode = inode; snapshot = snapshot }) open_disk opened) safe

  module _ (opened : Option (Bool × ℕ)) where
    -- ---- it begins

    unseen_asked : (entry : Entry) → IsUnseen log from entry → IsFirstEntry entry → IsForDisk log outbox read from me session opened entry
        → IsAskedSo log outbox read from me session opened entry
    unseen_asked entry unseen first for_disk = record {
      first = first;
      granted = λ place after got vid granted. absurd (unseen place after got);
      for_disk = for_disk;
    }

    -- of entries that grant nothing
    unlock_asked : (id : Vid) → IsAskedSo log outbox read from me session opened (Unlock me session id)
    unlock_asked id = record { first = tt; granted = λ place after got vid granted. tt; for_disk = tt }

  abbrev Begins : Option Disk → VdiAsk → OpStep → Type 0
  Begins disk ask step =
      command_refusal (seen_by_command disk) ask ≡ None
      → option_map (first_step me session) (first_entry me session (inode_open disk) ask) ≡ Some step → IsStepKept disk step

  module _ (step : OpStep) (unseen : (entry : Entry) → IsCommandEntry me entry → step.op.stage ≡ Asked entry
      → IsUnseen log from entry) where
    -- the entry of a first step that was made is unseen
    unseen_first : (entry : Entry) → IsCommandEntry me entry → Some (first_step me session entry) ≡ Some step → IsUnseen log from entry
    unseen_first entry own is = unseen entry own (sym (ap (λ (s : OpStep). s.op.stage) (same_Some (first_step me session entry) step is)))

    closed_kept : (disk : Option Disk) → AreSafe disk → Begins disk Close step
    closed_kept None safe allowed is = absurd (cc (is))
    closed_kept (Some disk) safe allowed is =
        given (IsStepKept (Some disk)) is
        (record { stage = unlock_asked (opened_as (Some disk)) (record { 0 = disk.inode.vid }); safe = safe })

    taken_kept : (disk : Option Disk) (tag : List ℕ) → AreSafe disk → Begins disk (Snapshot tag) step
    taken_kept None tag safe allowed is = absurd (cc (is))
    taken_kept (Some disk) tag safe allowed is = by_kind disk.snapshot refl
      where
        entry : Entry
        entry = Reserve me session disk.inode.name (SnapshotOf tag)

        by_kind : (b : Bool) → disk.snapshot ≡ b → IsStepKept (Some disk) step
        by_kind true snapshot =
            let refused =
            ap (λ (b : Bool). command_refusal (Some (record { inode = disk.inode; snapshot = b })) (Snapshot tag)) (sym snapshot)
            ∙ allowed in
            absurd (cc (refused))
        by_kind false working =
            let named = (subst (λ (b : Bool). IsDiskSafe b disk.inode) working (safe disk refl)).0 in
            given (IsStepKept (Some disk)) is (record {
              stage = unseen_asked (opened_as (Some disk)) entry (unseen_first entry refl is) tt
                  (disk.inode.vid, ap (λ (b : Bool). Some (b, disk.inode.vid)) working, named);
              safe = safe;
            })

    pub begins_kept : (disk : Option Disk) (ask : VdiAsk) → AreSafe disk → command_refusal (seen_by_command disk) ask ≡ None
        → begin_command me session ask (inode_open disk) ≡ Some step → IsStepKept disk step
    unfolding begin_command
    begins_kept disk (Create name spec) safe allowed is =
        given (IsStepKept disk) is (record {
          stage = unseen_asked (opened_as disk) (Reserve me session name (Fresh spec))
              (unseen_first (Reserve me session name (Fresh spec)) refl is) tt tt;
          safe = safe;
        })
    begins_kept disk (Attach name tag) safe allowed is =
        given (IsStepKept disk) is (record {
          stage = unseen_asked (opened_as disk) (Lock me session name tag) (unseen_first (Lock me session name tag) refl is) tt tt;
          safe = safe;
        })
    begins_kept disk Close safe allowed is = closed_kept disk safe allowed is
    begins_kept disk (Snapshot tag) safe allowed is = taken_kept disk tag safe allowed is
    begins_kept disk (Clone base tag name) safe allowed is =
        given (IsStepKept disk) is (record {
          stage =
              unseen_asked (opened_as disk) (Reserve me session name (CloneOf base tag))
              (unseen_first (Reserve me session name (CloneOf base tag)) refl is) tt tt;
          safe = safe;
        })
    begins_kept disk (Delete name tag) safe allowed is =
        given (IsStepKept disk) is (record {
          stage = unseen_asked (opened_as disk) (entries.Delete me session name tag)
              (unseen_first (entries.Delete me session name tag) refl is) tt tt;
          safe = safe;
        })
    begins_kept disk Check safe allowed is = absurd (cc (is))

  -- ---- its work is done

  module _ (op : Op) (disk : Option Disk) (safe : AreSafe disk) where
    -- what was made is published
    made_kept : (vid : Vid) (entry : Entry) (made : Option Content) → IsUnseen log from entry → IsOpenAtLast (opened_as disk) entry made
        → IsMakingKept log outbox read from me session (opened_as disk) vid entry made
        → IsPublicationKept log outbox read from me session (opened_as disk) entry made
    made_kept vid (Format members) made unseen fits is = is
    made_kept vid (Join node zone vnodes) made unseen fits is = is
    made_kept vid (Leave node) made unseen fits is = is
    made_kept vid (Reweight node vnodes) made unseen fits is = is
    made_kept vid (Recovered node of) made unseen fits is = is
    made_kept vid (Reserve by of name origin) made unseen fits is = is
    made_kept vid (Publish by of) made unseen fits is =
        λ there. subst (λ (v : Vid). HasReservation log outbox me session (epoch_of read) v.0) (sym is.0) is.1
    made_kept vid (entries.Clone by of) made unseen fits is =
        λ there. subst (λ (v : Vid). HasReservation log outbox me session (epoch_of read) v.0) (sym is.0) is.1
    made_kept vid (entries.Snapshot by old of) made unseen fits is =
        subst (λ (v : Vid). IsReplacing log outbox read from me session (opened_as disk) old v (entries.Snapshot by old of) made) (sym is.0)
        (record {
          to_put = λ there. is.1;
          of_disk = λ there. locked disk safe fits.0;
          placed = λ place after got. absurd (unseen place after got);
          named = is.2;
        })
      where
        locked : (disk : Option Disk) → AreSafe disk → opened_as disk ≡ Some (false, old.0)
            → HasLock log outbox me session (epoch_of read) old.0
        locked None safe opened = absurd (cc (opened))
        locked (Some disk) safe opened =
            let both : (disk.snapshot, disk.inode.vid) ≡ (false, old.0) = same_Some (disk.snapshot, disk.inode.vid) (false, old.0) opened in
            let working : disk.snapshot ≡ false = ap (λ (p : Bool × ℕ). p.0) both in
            let id : disk.inode.vid ≡ old.0 = ap (λ (p : Bool × ℕ). p.1) both in
            subst (λ (v : ℕ). HasLock log outbox me session (epoch_of read) v) id
            (subst (λ (b : Bool). IsDiskSafe b disk.inode) working (safe disk refl)).1
    made_kept vid (entries.Delete by of name tag) made unseen fits is = is
    made_kept vid (Lock by of name tag) made unseen fits is = is
    made_kept vid (Unlock by of old) made unseen fits is = is

    task_kept : (vid : Vid) (bytes : List ℕ) (task : Task)
        → ((entry : Entry) (made : Option Content) → task ≡ Making entry made → IsUnseen log from entry)
        → IsOpenAtTask (opened_as disk) vid task
        → IsTaskKept log outbox read from me session (opened_as disk) vid task → IsStepKept disk (task_done op vid bytes task)
    task_kept vid bytes (Opening true ids header) unseen fits is = record { stage = tt; safe = one_open true _ is }
    task_kept vid bytes (Opening false ids header) unseen fits is = record { stage = is; safe = safe }
    task_kept vid bytes (WritingBack inode) unseen fits is = record {
      stage = tt;
      safe = one_open false inode (
        subst (λ (v : ℕ). IsNamed log v inode.name) (sym fits.1) is.1,
        subst (λ (v : ℕ). HasLock log outbox me session (epoch_of read) v) (sym fits.1) is.0,
      );
    }
    task_kept vid bytes (Tagging old inode) unseen fits is = record { stage = (refl, is.0, (inode, refl, is.1)); safe = safe }
    task_kept vid bytes (Copying ids header) unseen fits is = record { stage = (refl, is); safe = safe }
    task_kept vid bytes (Making entry made) unseen fits is =
        record { stage = made_kept vid entry made (unseen entry made refl) fits is; safe = safe }

    pub goes_on_kept : (bytes : List ℕ) (step : OpStep) → op_on_done bytes op ≡ Some step
        → ((vid : Vid) (entry : Entry) (made : Option Content) → op.stage ≡ Working vid (Making entry made) → IsUnseen log from entry)
        → IsOpenAtStage (opened_as disk) op.stage → IsStageKept log outbox read from me session (opened_as disk) op.stage
        → IsStepKept disk step
    unfolding op_on_done
    goes_on_kept bytes step next unseen fits is = by_stage op.stage refl next fits is
      where
        by_stage : (stage : OpStage) → op.stage ≡ stage → done_at bytes op stage ≡ Some step → IsOpenAtStage (opened_as disk) stage
            → IsStageKept log outbox read from me session (opened_as disk) stage → IsStepKept disk step
        by_stage (Asked entry) at next fits is = absurd (cc (next))
        by_stage (Working vid task) at next fits is =
            given (IsStepKept disk) next
            (task_kept vid bytes task (λ entry made same. unseen vid entry made (at ∙ ap (Working vid) same)) fits is)
        by_stage (Publishing entry made) at next fits is = absurd (cc (next))
        by_stage (Answered change) at next fits is = absurd (cc (next))

  -- ---- its entry is decided

  -- the disk is safe, if the entry that was waited for doesn't let it go
  abbrev pub AreSafeUnless : Entry → Option Disk → Type 0
  AreSafeUnless entry disk =
      (open_disk : Disk) → disk ≡ Some open_disk → (LetsGoBy open_disk.inode.vid entry → ⊥) → IsDiskSafe open_disk.snapshot open_disk.inode

  module _ (op : Op) (known : List Effect) (named : (vid : ℕ) (header : Header) → header_of known vid ≡ Some header
      → IsNamed log vid header.name) where
    module _ (vid : Vid) (header : Header) (is_named : IsNamed log vid.0 header.name) where
      tagged_kept : (disk : Option Disk) (tag : List ℕ) → AreSafe disk
          → ((old : ℕ) × (opened_as disk ≡ Some (false, old)) × HasPlace log outbox me session (epoch_of read) vid.0 old)
          → IfSome (option_map (tag_step op vid tag header) (inode_open disk)) (IsStepKept disk)
      tagged_kept None tag safe is = tt
      tagged_kept (Some disk) tag safe is =
          let same : (disk.snapshot, disk.inode.vid) ≡ (false, is.0) = same_Some (disk.snapshot, disk.inode.vid) (false, is.0) is.1 in
          record {
            stage = (
              subst (λ (v : ℕ). HasPlace log outbox me session (epoch_of read) vid.0 v) (sym (ap (λ (p : Bool × ℕ). p.1) same)) is.2,
              is_named,
            );
            safe = safe;
          }

      copied_kept : (disk : Option Disk) (chain : List ℕ) (parent : Option Vid) → AreSafe disk
          → HasReservation log outbox me session (epoch_of read) vid.0
          → IfSome (option_map (copy_step op vid chain header) parent) (IsStepKept disk)
      copied_kept disk chain None safe is = tt
      copied_kept disk chain (Some parent) safe is = record { stage = is; safe = safe }

      granted_kept : (disk : Option Disk) (chain : List ℕ) (entry : Entry) → AreSafeUnless entry disk
          → IsGrantKept log outbox read from me session (opened_as disk) (epoch_of read) vid.0 entry
          → IfSome (step_after_grant op vid chain (inode_open disk) entry header) (IsStepKept disk)
      granted_kept disk chain (Reserve by of name (Fresh spec)) safe is =
          record { stage = (refl, is); safe = λ open_disk opened. safe open_disk opened (λ never. never) }
      granted_kept disk chain (Reserve by of name (SnapshotOf tag)) safe is =
          tagged_kept disk tag (λ open_disk opened. safe open_disk opened (λ never. never)) is
      granted_kept disk chain (Reserve by of name (CloneOf base tag)) safe is =
          copied_kept disk chain header.parent (λ open_disk opened. safe open_disk opened (λ never. never)) is
      granted_kept disk chain (Lock by of name None) safe is =
          record { stage = (is, is_named); safe = λ open_disk opened. safe open_disk opened (λ never. never) }
      granted_kept disk chain (Lock by of name (Some tag)) safe is =
          record { stage = is; safe = λ open_disk opened. safe open_disk opened (λ never. never) }
      granted_kept disk chain (Unlock by of id) safe is = record { stage = tt; safe = none_open }
      granted_kept disk chain (entries.Delete by of name tag) safe is =
          record { stage = tt; safe = λ open_disk opened. safe open_disk opened (λ never. never) }
      granted_kept disk chain (Format members) safe is = tt
      granted_kept disk chain (Join node zone vnodes) safe is = tt
      granted_kept disk chain (Leave node) safe is = tt
      granted_kept disk chain (Reweight node vnodes) safe is = tt
      granted_kept disk chain (Recovered node of) safe is = tt
      granted_kept disk chain (Publish by of) safe is = tt
      granted_kept disk chain (entries.Clone by of) safe is = tt
      granted_kept disk chain (entries.Snapshot by old of) safe is = tt

    -- a command that is granted nothing: a close leaves none open
    ended_kept : (disk : Option Disk) (entry : Entry) → IsFirstEntry entry → AreSafeUnless entry disk
        → AreSafe (disk_after (change_without_grant entry) disk)
    ended_kept disk (Format members) asked safe = absurd asked
    ended_kept disk (Join node zone vnodes) asked safe = absurd asked
    ended_kept disk (Leave node) asked safe = absurd asked
    ended_kept disk (Reweight node vnodes) asked safe = absurd asked
    ended_kept disk (Recovered node of) asked safe = absurd asked
    ended_kept disk (Reserve by of name origin) asked safe = λ open_disk opened. safe open_disk opened (λ never. never)
    ended_kept disk (Publish by of) asked safe = absurd asked
    ended_kept disk (entries.Clone by of) asked safe = absurd asked
    ended_kept disk (entries.Snapshot by old of) asked safe = absurd asked
    ended_kept disk (entries.Delete by of name tag) asked safe = λ open_disk opened. safe open_disk opened (λ never. never)
    ended_kept disk (Lock by of name tag) asked safe = λ open_disk opened. safe open_disk opened (λ never. never)
    ended_kept disk (Unlock by of id) asked safe = none_open

    asked_kept : (disk : Option Disk) (entry : Entry) (decision : Decision) → IsFirstEntry entry → AreSafeUnless entry disk
        → ((vid : Vid) → decision ≡ decisions.Granted vid → IsGrantKept log outbox read from me session (opened_as disk) (epoch_of read)
        vid.0 entry)
        → IfSome (step_after_decision known (inode_open disk) op entry decision) (IsStepKept disk)
    asked_kept disk entry decisions.None asked safe is = record { stage = tt; safe = ended_kept disk entry asked safe }
    asked_kept disk entry (decisions.Granted vid) asked safe is = by_header (header_of known vid.0) refl
      where
        by_header : (header : Option Header) → header_of known vid.0 ≡ header
            → IfSome (option_and_then (step_after_grant op vid (chain_of known vid.0) (inode_open disk) entry) header) (IsStepKept disk)
        by_header None found = tt
        by_header (Some header) found =
            granted_kept vid header (named vid.0 header found) disk (chain_of known vid.0) entry safe (is vid refl)
    asked_kept disk entry (decisions.Refused cause) asked safe is = record { stage = tt; safe = ended_kept disk entry asked safe }

    -- its last entry is
    module _ (entry : Entry) (got : slice_get log from ≡ Some entry) (upto : take (from + 1) log ≡ read) where
      published_kept : (disk : Option Disk) (made : Option Content) → IsOpenAtLast (opened_as disk) entry made → AreSafeUnless entry disk
          → IsPublicationKept log outbox read from me session (opened_as disk) entry made
          → AreSafe (disk_after (option_map_or (Opens false) made Stays) disk)
      published_kept disk made fits safe is = by_entry entry refl fits safe is
        where
          stays : (put : Entry) → ((vid : ℕ) → LetsGoBy vid put → ⊥) → made ≡ None → AreSafeUnless put disk
              → AreSafe (disk_after (option_map_or (Opens false) made Stays) disk)
          stays put never none safe =
              subst (λ (m : Option Content). AreSafe (disk_after (option_map_or (Opens false) m Stays) disk)) (sym none)
              (λ open_disk opened. safe open_disk opened (never open_disk.inode.vid))

          by_entry : (put : Entry) → entry ≡ put → IsOpenAtLast (opened_as disk) put made → AreSafeUnless put disk
              → IsPublicationKept log outbox read from me session (opened_as disk) put made
              → AreSafe (disk_after (option_map_or (Opens false) made Stays) disk)
          by_entry (Format members) same fits safe is = absurd is
          by_entry (Join node zone vnodes) same fits safe is = absurd is
          by_entry (Leave node) same fits safe is = absurd is
          by_entry (Reweight node vnodes) same fits safe is = absurd is
          by_entry (Recovered node of) same fits safe is = absurd is
          by_entry (Reserve by of name origin) same fits safe is = absurd is
          by_entry (Publish by of) same fits safe is = stays (Publish by of) (λ vid never. never) fits safe
          by_entry (entries.Clone by of) same fits safe is = stays (entries.Clone by of) (λ vid never. never) fits safe
          by_entry (entries.Snapshot by old of) same fits safe is =
              let (inode, so, name) = is.named in
              let id : inode.vid ≡ of.0 = subst (λ (m : Option Content). IfSome m (λ (i : Content). i.vid ≡ of.0)) so fits.1 in
              let lock : HasLock log outbox me session (epoch_of read) of.0
              = subst (λ (all : List Entry). HasLock log outbox me session (epoch_of all) of.0) upto
              (is.placed from (omega arith) (got ∙ ap (λ (e : Entry). Some e) same)) in
              subst (λ (m : Option Content). AreSafe (disk_after (option_map_or (Opens false) m Stays) disk)) (sym so)
              (one_open false inode (
                subst (λ (v : ℕ). IsNamed log v inode.name) (sym id) name,
                subst (λ (v : ℕ). HasLock log outbox me session (epoch_of read) v) (sym id) lock,
              ))
          by_entry (entries.Delete by of name tag) same fits safe is = absurd is
          by_entry (Lock by of name tag) same fits safe is = absurd is
          by_entry (Unlock by of id) same fits safe is = absurd is

      pub decided_kept : (disk : Option Disk) (decision : Decision) (step : OpStep)
          → on_decision known (inode_open disk) decision op ≡ Some step
          → decision ≡ decision_after (take from log) entry → IsWaitedAt entry op.stage
          → IsOpenAtStage (opened_as disk) op.stage → AreSafeUnless entry disk
          → IsStageKept log outbox read from me session (opened_as disk) op.stage → IsStepKept disk step
      unfolding on_decision
      decided_kept disk decision step next decided waits fits safe is =
          subst (λ (o : Option OpStep). IfSome o (IsStepKept disk)) next (by_stage op.stage waits fits is)
        where
          by_stage : (stage : OpStage) → IsWaitedAt entry stage → IsOpenAtStage (opened_as disk) stage
              → IsStageKept log outbox read from me session (opened_as disk) stage
              → IfSome (decided_at known (inode_open disk) decision op stage) (IsStepKept disk)
          by_stage (Asked wanted) same fits is =
              subst (λ (e : Entry). IfSome (step_after_decision known (inode_open disk) op e decision) (IsStepKept disk)) (sym same)
              (asked_kept disk entry decision (subst IsFirstEntry same is.first) safe (λ vid granted.
              subst (λ (all : List Entry). IsGrantKept log outbox read from me session (opened_as disk) (epoch_of all) vid.0 entry) upto
              ((subst (IsAskedSo log outbox read from me session (opened_as disk)) same is).granted from (omega arith) got vid
              (sym decided ∙ granted))))
          by_stage (Working vid task) waits fits is = absurd waits
          by_stage (Publishing wanted made) same fits is =
              record {
                stage = answered made;
                safe = published_kept disk made (subst (λ (e : Entry). IsOpenAtLast (opened_as disk) e made) same fits) safe
                    (subst (λ (e : Entry). IsPublicationKept log outbox read from me session (opened_as disk) e made) same is);
              }
            where
              answered : (made : Option Content) → IsStageKept log outbox read from me session
                  (opened_as (disk_after (option_map_or (Opens false) made Stays) disk)) (Answered (option_map_or (Opens false) made Stays))
              answered made = tt
          by_stage (Answered change) waits fits is = absurd waits
