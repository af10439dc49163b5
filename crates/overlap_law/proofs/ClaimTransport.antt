-- What a command and an open disk rest on is so still where the outbox is another, and where the log has an entry more that takes nothing.
use Rattle.std.proofs.Common.{◌≡◌, inl, inr, ⊎_elim, ℕ, zero, suc, ◌+◌, ◌≤◌, ◌<◌, Bool, true, false, List, [], ◌∷◌, ◌++◌, length, take}
use Rattle.std.proofs.Common.{Option, Some, None, refl, sym, ap, subst, ◌∙◌, arith}
use Rattle.std.specs.List.{list_any, slice_get}
use Rattle.std.specs.Ordering.{nat_cmp}
use Rattle.std.specs.FinMap as tree
use Rattle.std.proofs.lemmas.List.{take-append-le, take_all, length-append}
use Rattle.object_id.specs.declared.entry.Entry.{Entry}
use Rattle.object_id.specs.declared.entry.Entry.TheVariants.{Format, Join, Leave, Reweight, Recovered, Reserve, Publish, Clone, Snapshot}
use Rattle.object_id.specs.declared.entry.Entry.TheVariants.{Delete, Lock, Unlock}
use Rattle.object_id.specs.declared.entry.Origin.TheVariants.{Fresh, SnapshotOf, CloneOf}
use Rattle.object_id.specs.declared.node.NodeId.{NodeId}
use Rattle.object_id.specs.declared.oid.Vid.{Vid}
use Rattle.epoch_log.specs.Epochs.{epoch_of}
use Rattle.inode.specs.Layout.{Content}
use Rattle.vdi_directory.specs.declared.decision.Decision.TheVariants as decisions
use Rattle.vdi_directory.specs.Decisions.{log_effects, decision_after}
use Rattle.vdi_ops.specs.Op.{Task, Opening, WritingBack, Tagging, Copying, Making, OpStage, Asked, Working, Publishing, Answered}
use Rattle.sheep_node.specs.declared.course.Request.{Request}
use Rattle.overlap_law.specs.Grants.{writer_of, may_take_writer}
use Rattle.overlap_law.specs.WriterClaims.{holder_at, HasLock, HasReservation, HasPlace, IsGrantKept, IsForDisk, IsAskedSo, IsMadeFor}
use Rattle.overlap_law.specs.WriterClaims.{IsMakingKept, IsTaskKept, IsReplacing, IsPublicationKept, IsStageKept, IsLetGo, IsDiskKept}
use Rattle.overlap_law.specs.Writers.{unlocks}
use Rattle.overlap_law.proofs.AttemptLists.{got_more}
use Rattle.overlap_law.proofs.CountedEntries.{times}
use Rattle.overlap_law.proofs.KeptIds.{no_more_stays, named_stays, lock-writer, reservation-writer, lock_stays, reserved_stays, place_stays}
use Rattle.overlap_law.proofs.KeptIds.{lock_with, reserved_with, place_with}

-- ---- another outbox

-- it has no unlock of an id of the session's either
abbrev pub KeepsAll : ℕ → List Entry → List Entry → Type 0
KeepsAll session outbox later = (vid : ℕ) → list_any (unlocks session vid) outbox ≡ false → list_any (unlocks session vid) later ≡ false

-- nor has it an entry that is to be published, which the other hasn't
abbrev pub PutsNoMore : List Entry → List Entry → OpStage → Type 0
PutsNoMore outbox later stage =
    (entry : Entry) (made : Option Content) → stage ≡ Publishing entry made → 1 ≤ times entry later → 1 ≤ times entry outbox

module _ (log outbox later read : List Entry) (from : ℕ) (me : NodeId) (session : ℕ) (kept : KeepsAll session outbox later) where
  lock_over : (epoch vid : ℕ) → HasLock log outbox me session epoch vid → HasLock log later me session epoch vid
  lock_over epoch vid has = lock_with log outbox me session epoch vid later (kept vid has.kept) has

  reserved_over : (epoch vid : ℕ) → HasReservation log outbox me session epoch vid → HasReservation log later me session epoch vid
  reserved_over epoch vid has = reserved_with log outbox me session epoch vid later (kept vid has.kept) has

  place_over : (epoch vid old : ℕ) → HasPlace log outbox me session epoch vid old → HasPlace log later me session epoch vid old
  place_over epoch vid old has = place_with log outbox me session epoch vid later (kept vid has.has.kept) old has

  module _ (opened : Option (Bool × ℕ)) where
    abbrev Had : OpStage → Type 0
    Had = IsStageKept log outbox read from me session opened

    abbrev Has : OpStage → Type 0
    Has = IsStageKept log later read from me session opened

    grant_over : (epoch vid : ℕ) (entry : Entry) → IsGrantKept log outbox read from me session opened epoch vid entry
        → IsGrantKept log later read from me session opened epoch vid entry
    grant_over epoch vid (Format members) is = tt
    grant_over epoch vid (Join node zone vnodes) is = tt
    grant_over epoch vid (Leave node) is = tt
    grant_over epoch vid (Reweight node vnodes) is = tt
    grant_over epoch vid (Recovered node of) is = tt
    grant_over epoch vid (Reserve by of name (Fresh spec)) is = reserved_over epoch vid is
    grant_over epoch vid (Reserve by of name (SnapshotOf tag)) is = (is.0, is.1, place_over epoch vid is.0 is.2)
    grant_over epoch vid (Reserve by of name (CloneOf base tag)) is = reserved_over epoch vid is
    grant_over epoch vid (Publish by of) is = tt
    grant_over epoch vid (Clone by of) is = tt
    grant_over epoch vid (Snapshot by old of) is = tt
    grant_over epoch vid (Delete by of name tag) is = tt
    grant_over epoch vid (Lock by of name None) is = lock_over epoch vid is
    grant_over epoch vid (Lock by of name (Some tag)) is = is
    grant_over epoch vid (Unlock by of old) is = tt

    making_over : (vid : Vid) (entry : Entry) (made : Option Content) → IsMakingKept log outbox read from me session opened vid entry made
        → IsMakingKept log later read from me session opened vid entry made
    making_over vid (Format members) made is = is
    making_over vid (Join node zone vnodes) made is = is
    making_over vid (Leave node) made is = is
    making_over vid (Reweight node vnodes) made is = is
    making_over vid (Recovered node of) made is = is
    making_over vid (Reserve by of name origin) made is = is
    making_over vid (Publish by of) made is = (is.0, reserved_over (epoch_of read) vid.0 is.1)
    making_over vid (Clone by of) made is = (is.0, reserved_over (epoch_of read) vid.0 is.1)
    making_over vid (Snapshot by old of) made is = (is.0, place_over (epoch_of read) vid.0 old.0 is.1, is.2)
    making_over vid (Delete by of name tag) made is = is
    making_over vid (Lock by of name tag) made is = is
    making_over vid (Unlock by of old) made is = is

    task_over : (vid : Vid) (task : Task) → IsTaskKept log outbox read from me session opened vid task
        → IsTaskKept log later read from me session opened vid task
    task_over vid (Opening true ids header) is = is
    task_over vid (Opening false ids header) is = (lock_over (epoch_of read) vid.0 is.0, is.1)
    task_over vid (WritingBack inode) is = (lock_over (epoch_of read) vid.0 is.0, is.1)
    task_over vid (Tagging old inode) is = (place_over (epoch_of read) vid.0 old.0 is.0, is.1)
    task_over vid (Copying ids header) is = reserved_over (epoch_of read) vid.0 is
    task_over vid (Making entry made) is = making_over vid entry made is

    publication_over : (entry : Entry) (made : Option Content) → (1 ≤ times entry later → 1 ≤ times entry outbox)
        → IsPublicationKept log outbox read from me session opened entry made
        → IsPublicationKept log later read from me session opened entry made
    publication_over (Format members) made no_more is = is
    publication_over (Join node zone vnodes) made no_more is = is
    publication_over (Leave node) made no_more is = is
    publication_over (Reweight node vnodes) made no_more is = is
    publication_over (Recovered node of) made no_more is = is
    publication_over (Reserve by of name origin) made no_more is = is
    publication_over (Publish by of) made no_more is = λ there. reserved_over (epoch_of read) of.0 (is (no_more there))
    publication_over (Clone by of) made no_more is = λ there. reserved_over (epoch_of read) of.0 (is (no_more there))
    publication_over (Snapshot by old of) made no_more is = record {
      to_put = λ there. place_over (epoch_of read) of.0 old.0 (is.to_put (no_more there));
      of_disk = λ there. lock_over (epoch_of read) old.0 (is.of_disk (no_more there));
      placed = λ place after got. lock_over (epoch_of (take (place + 1) log)) of.0 (is.placed place after got);
      named = is.named;
    }
    publication_over (Delete by of name tag) made no_more is = is
    publication_over (Lock by of name tag) made no_more is = is
    publication_over (Unlock by of old) made no_more is = is

    pub stage_over : (stage : OpStage) → PutsNoMore outbox later stage → IsStageKept log outbox read from me session opened stage
        → IsStageKept log later read from me session opened stage
    stage_over (Asked entry) no_more is = record {
      first = is.first;
      granted = λ place after got vid granted. grant_over (epoch_of (take (place + 1) log)) vid.0 entry
          (is.granted place after got vid granted);
      for_disk = is.for_disk;
    }
    stage_over (Working vid task) no_more is = task_over vid task is
    stage_over (Publishing entry made) no_more is = publication_over entry made (no_more entry made refl) is
    stage_over (Answered change) no_more is = tt

  pub disk_over : (requests : tree.FinMap nat_cmp Request) (snapshot : Bool) (inode : Content)
      → IsDiskKept log outbox read me requests session snapshot inode
      → IsDiskKept log later read me requests session snapshot inode
  disk_over requests true inode is = is
  disk_over requests false inode (named, is) = (
    named,
    ⊎_elim
        (λ (lock : HasLock log outbox me session (epoch_of read) inode.vid). inl (lock_over (epoch_of read) inode.vid lock))
        (λ (goes : IsLetGo requests session inode.vid). inr goes) is,
  )

-- ---- an entry more in the log

-- places before it are as they were
pub earlier : (log : List Entry) (last : Entry) (place : ℕ) → place < length log + 1 → take place (log ++ last ∷ []) ≡ take place log
earlier log last place below = take-append-le place log (last ∷ []) (omega (arith, below))

pub got_below : (log : List Entry) (place : ℕ) (entry : Entry) → slice_get log place ≡ Some entry → place < length log
got_below [] place entry got = absurd (cc (got))
got_below (first ∷ log) zero entry got = omega arith
got_below (first ∷ log) (suc place) entry got = let below = got_below log place entry got in omega (arith, below)

-- what the entry would take is none of the session's, as far as it has no unlock of it to put
abbrev pub TakesNone : List Entry → List Entry → NodeId → ℕ → Entry → Type 0
TakesNone log outbox me session last =
    (vid : ℕ) → writer_of (log_effects log) vid ≡ Some (holder_at me session) → list_any (unlocks session vid) outbox ≡ false
    → may_take_writer vid (holder_at me session) last ≡ false

module _ (log outbox read : List Entry) (from : ℕ) (me : NodeId) (session : ℕ) (last : Entry)
    (none : TakesNone log outbox me session last) where
  abbrev longer : List Entry
  longer = log ++ last ∷ []

  pub lock_on : (epoch vid : ℕ) → HasLock log outbox me session epoch vid → HasLock (log ++ last ∷ []) outbox me session epoch vid
  lock_on epoch vid has =
      lock_stays log outbox me session epoch vid last (none vid (lock-writer log outbox me session epoch vid has) has.kept) has

  reserved_on : (epoch vid : ℕ) → HasReservation log outbox me session epoch vid
      → HasReservation (log ++ last ∷ []) outbox me session epoch vid
  reserved_on epoch vid has =
      reserved_stays log outbox me session epoch vid last (none vid (reservation-writer log outbox me session epoch vid has) has.kept) has

  place_on : (epoch vid old : ℕ) → HasPlace log outbox me session epoch vid old
      → HasPlace (log ++ last ∷ []) outbox me session epoch vid old
  place_on epoch vid old has =
      place_stays log outbox me session epoch vid last (none vid (reservation-writer log outbox me session epoch vid has.has) has.has.kept)
      old has

  module _ (opened : Option (Bool × ℕ)) where
    grant_on : (epoch vid : ℕ) (entry : Entry) → IsGrantKept log outbox read from me session opened epoch vid entry
        → IsGrantKept (log ++ last ∷ []) outbox read from me session opened epoch vid entry
    grant_on epoch vid (Format members) is = tt
    grant_on epoch vid (Join node zone vnodes) is = tt
    grant_on epoch vid (Leave node) is = tt
    grant_on epoch vid (Reweight node vnodes) is = tt
    grant_on epoch vid (Recovered node of) is = tt
    grant_on epoch vid (Reserve by of name (Fresh spec)) is = reserved_on epoch vid is
    grant_on epoch vid (Reserve by of name (SnapshotOf tag)) is = (is.0, is.1, place_on epoch vid is.0 is.2)
    grant_on epoch vid (Reserve by of name (CloneOf base tag)) is = reserved_on epoch vid is
    grant_on epoch vid (Publish by of) is = tt
    grant_on epoch vid (Clone by of) is = tt
    grant_on epoch vid (Snapshot by old of) is = tt
    grant_on epoch vid (Delete by of name tag) is = tt
    grant_on epoch vid (Lock by of name None) is = lock_on epoch vid is
    grant_on epoch vid (Lock by of name (Some tag)) is = no_more_stays log last vid is
    grant_on epoch vid (Unlock by of old) is = tt

    for_disk_on : (entry : Entry) → IsForDisk log outbox read from me session opened entry
        → IsForDisk (log ++ last ∷ []) outbox read from me session opened entry
    for_disk_on (Format members) is = tt
    for_disk_on (Join node zone vnodes) is = tt
    for_disk_on (Leave node) is = tt
    for_disk_on (Reweight node vnodes) is = tt
    for_disk_on (Recovered node of) is = tt
    for_disk_on (Reserve by of name (Fresh spec)) is = tt
    for_disk_on (Reserve by of name (SnapshotOf tag)) is = (is.0, is.1, named_stays log last is.0 name is.2)
    for_disk_on (Reserve by of name (CloneOf base tag)) is = tt
    for_disk_on (Publish by of) is = tt
    for_disk_on (Clone by of) is = tt
    for_disk_on (Snapshot by old of) is = tt
    for_disk_on (Delete by of name tag) is = tt
    for_disk_on (Lock by of name tag) is = tt
    for_disk_on (Unlock by of old) is = tt

    named_on : (vid : ℕ) (made : Option Content) → IsMadeFor log outbox read from me session opened vid made
        → IsMadeFor (log ++ last ∷ []) outbox read from me session opened vid made
    named_on vid made is = (is.0, is.1, named_stays log last vid is.0.name is.2)

    making_on : (vid : Vid) (entry : Entry) (made : Option Content) → IsMakingKept log outbox read from me session opened vid entry made
        → IsMakingKept (log ++ last ∷ []) outbox read from me session opened vid entry made
    making_on vid (Format members) made is = is
    making_on vid (Join node zone vnodes) made is = is
    making_on vid (Leave node) made is = is
    making_on vid (Reweight node vnodes) made is = is
    making_on vid (Recovered node of) made is = is
    making_on vid (Reserve by of name origin) made is = is
    making_on vid (Publish by of) made is = (is.0, reserved_on (epoch_of read) vid.0 is.1)
    making_on vid (Clone by of) made is = (is.0, reserved_on (epoch_of read) vid.0 is.1)
    making_on vid (Snapshot by old of) made is = (is.0, place_on (epoch_of read) vid.0 old.0 is.1, named_on vid.0 made is.2)
    making_on vid (Delete by of name tag) made is = is
    making_on vid (Lock by of name tag) made is = is
    making_on vid (Unlock by of old) made is = is

    pub task_on : (vid : Vid) (task : Task) → IsTaskKept log outbox read from me session opened vid task
        → IsTaskKept (log ++ last ∷ []) outbox read from me session opened vid task
    task_on vid (Opening true ids header) is = no_more_stays log last vid.0 is
    task_on vid (Opening false ids header) is = (lock_on (epoch_of read) vid.0 is.0, named_stays log last vid.0 header.name is.1)
    task_on vid (WritingBack inode) is = (lock_on (epoch_of read) vid.0 is.0, named_stays log last vid.0 inode.name is.1)
    task_on vid (Tagging old inode) is = (place_on (epoch_of read) vid.0 old.0 is.0, named_stays log last vid.0 inode.name is.1)
    task_on vid (Copying ids header) is = reserved_on (epoch_of read) vid.0 is
    task_on vid (Making entry made) is = making_on vid entry made is

    -- what the entry itself was granted
    abbrev pub GivesAsked : Entry → Type 0
    GivesAsked entry = last ≡ entry → (vid : Vid) → decision_after log entry ≡ decisions.Granted vid
        → IsGrantKept (log ++ last ∷ []) outbox read from me session opened (epoch_of (log ++ last ∷ [])) vid.0 entry

    -- that of a snapshot: its session has the lock
    abbrev pub GivesReplaced : Entry → Type 0
    GivesReplaced (Snapshot by old of) =
        last ≡ Snapshot by old of → HasLock (log ++ last ∷ []) outbox me session (epoch_of (log ++ last ∷ [])) of.0
    GivesReplaced entry = Unit {0}

    pub asked_on : (entry : Entry) → GivesAsked entry → IsAskedSo log outbox read from me session opened entry
        → IsAskedSo (log ++ last ∷ []) outbox read from me session opened entry
    asked_on entry gives is = record {
      first = is.first;
      granted = λ place after got vid granted. ⊎_elim
          (λ (old : slice_get log place ≡ Some entry).
          let below = got_below log place entry old in
          let shorter = earlier log last place (omega (arith, below)) in
          let next = earlier log last (place + 1) (omega (arith, below)) in
          grant_on (epoch_of (take (place + 1) (log ++ last ∷ []))) vid.0 entry
          (subst (λ (upto : List Entry). IsGrantKept log outbox read from me session opened (epoch_of upto) vid.0 entry) (sym next)
          (is.granted place after old vid (ap (λ (upto : List Entry). decision_after upto entry) (sym shorter) ∙ granted))))
          (λ (new : (place ≡ length log) × (last ≡ entry)).
          let shorter : take place (log ++ last ∷ []) ≡ log
          = ap (λ (k : ℕ). take k (log ++ last ∷ [])) new.0 ∙ earlier log last (length log) (omega arith)
          ∙ take_all (length log) log (omega arith) in
          let count : length (log ++ last ∷ []) ≡ length log + 1 = length-append log (last ∷ []) in
          let all : take (place + 1) (log ++ last ∷ []) ≡ log ++ last ∷ []
          = ap (λ (k : ℕ). take (k + 1) (log ++ last ∷ [])) new.0 ∙ take_all (length log + 1) (log ++ last ∷ []) (omega (arith, count)) in
          subst (λ (upto : List Entry). IsGrantKept (log ++ last ∷ []) outbox read from me session opened (epoch_of upto) vid.0 entry)
          (sym all) (gives new.1 vid (ap (λ (upto : List Entry). decision_after upto entry) (sym shorter) ∙ granted)))
          (got_more log last place entry got);
      for_disk = for_disk_on entry is.for_disk;
    }

    module _ (old of : Vid) (entry : Entry) (made : Option Content)
        (gives : last ≡ entry → HasLock (log ++ last ∷ []) outbox me session (epoch_of (log ++ last ∷ [])) of.0) where
      -- the lock that a snapshot's entry gave
      pub placed_on : ((place : ℕ) → from ≤ place → slice_get log place ≡ Some entry
          → HasLock log outbox me session (epoch_of (take (place + 1) log)) of.0)
          → (place : ℕ) → from ≤ place → slice_get (log ++ last ∷ []) place ≡ Some entry
          → HasLock (log ++ last ∷ []) outbox me session (epoch_of (take (place + 1) (log ++ last ∷ []))) of.0
      placed_on is place after got = ⊎_elim
          (λ (there : slice_get log place ≡ Some entry).
          let below = got_below log place entry there in
          let next = earlier log last (place + 1) (omega (arith, below)) in
          subst (λ (upto : List Entry). HasLock (log ++ last ∷ []) outbox me session (epoch_of upto) of.0) (sym next)
          (lock_on (epoch_of (take (place + 1) log)) of.0 (is place after there)))
          (λ (new : (place ≡ length log) × (last ≡ entry)).
          let count : length (log ++ last ∷ []) ≡ length log + 1 = length-append log (last ∷ []) in
          let all : take (place + 1) (log ++ last ∷ []) ≡ log ++ last ∷ []
          = ap (λ (k : ℕ). take (k + 1) (log ++ last ∷ [])) new.0 ∙ take_all (length log + 1) (log ++ last ∷ []) (omega (arith, count)) in
          subst (λ (upto : List Entry). HasLock (log ++ last ∷ []) outbox me session (epoch_of upto) of.0) (sym all) (gives new.1))
          (got_more log last place entry got)

      pub replacing_on : IsReplacing log outbox read from me session opened old of entry made
          → IsReplacing (log ++ last ∷ []) outbox read from me session opened old of entry made
      replacing_on is = record {
        to_put = λ there. place_on (epoch_of read) of.0 old.0 (is.to_put there);
        of_disk = λ there. lock_on (epoch_of read) old.0 (is.of_disk there);
        placed = placed_on is.placed;
        named = named_on of.0 made is.named;
      }

    pub publication_on : (entry : Entry) (made : Option Content) → GivesReplaced entry
        → IsPublicationKept log outbox read from me session opened entry made
        → IsPublicationKept (log ++ last ∷ []) outbox read from me session opened entry made
    publication_on (Format members) made gives is = is
    publication_on (Join node zone vnodes) made gives is = is
    publication_on (Leave node) made gives is = is
    publication_on (Reweight node vnodes) made gives is = is
    publication_on (Recovered node of) made gives is = is
    publication_on (Reserve by of name origin) made gives is = is
    publication_on (Publish by of) made gives is = λ there. reserved_on (epoch_of read) of.0 (is there)
    publication_on (Clone by of) made gives is = λ there. reserved_on (epoch_of read) of.0 (is there)
    publication_on (Snapshot by old of) made gives is = replacing_on old of (Snapshot by old of) made gives is
    publication_on (Delete by of name tag) made gives is = is
    publication_on (Lock by of name tag) made gives is = is
    publication_on (Unlock by of old) made gives is = is

    -- what the entry gives, where a command waits for it
    abbrev pub GivesStage : OpStage → Type 0
    GivesStage (Asked entry) = GivesAsked entry
    GivesStage (Working vid task) = Unit {0}
    GivesStage (Publishing entry made) = GivesReplaced entry
    GivesStage (Answered change) = Unit {0}

    pub stage_on : (stage : OpStage) → GivesStage stage → IsStageKept log outbox read from me session opened stage
        → IsStageKept (log ++ last ∷ []) outbox read from me session opened stage
    stage_on (Asked entry) gives is = asked_on entry gives is
    stage_on (Working vid task) gives is = task_on vid task is
    stage_on (Publishing entry made) gives is = publication_on entry made gives is
    stage_on (Answered change) gives is = tt

  pub disk_on : (requests : tree.FinMap nat_cmp Request) (snapshot : Bool) (inode : Content)
      → IsDiskKept log outbox read me requests session snapshot inode
      → IsDiskKept (log ++ last ∷ []) outbox read me requests session snapshot inode
  disk_on requests true inode is = no_more_stays log last inode.vid is
  disk_on requests false inode (named, is) = (
    named_stays log last inode.vid inode.name named,
    ⊎_elim
        (λ (lock : HasLock log outbox me session (epoch_of read) inode.vid). inl (lock_on (epoch_of read) inode.vid lock))
        (λ (goes : IsLetGo requests session inode.vid). inr goes) is,
  )
