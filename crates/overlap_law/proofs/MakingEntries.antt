-- What is known of the id for which an inode is made, by the entry that is to be put then: the id is reserved, and the inode that is open
-- is of it.
use Rattle.std.proofs.Common.{◌≡◌, ℕ, Bool, List, Option, Some, ap, ◌∙◌}
use Rattle.object_id.specs.declared.entry.Entry.{Entry}
use Rattle.object_id.specs.declared.entry.Entry.TheVariants.{Format, Join, Leave, Reweight, Recovered, Reserve, Publish, Clone, Snapshot}
use Rattle.object_id.specs.declared.entry.Entry.TheVariants.{Delete, Lock, Unlock}
use Rattle.object_id.specs.declared.node.NodeId.{NodeId}
use Rattle.object_id.specs.declared.oid.Vid.{Vid}
use Rattle.epoch_log.specs.Epochs.{epoch_of}
use Rattle.inode.specs.Layout.{Content}
use Rattle.overlap_law.specs.CommandDisks.{IsOpenAtLast}
use Rattle.overlap_law.specs.WriterClaims.{HasReservation, IsMakingKept}

module _ (log outbox read : List Entry) (from : ℕ) (me : NodeId) (session : ℕ) (opened : Option (Bool × ℕ)) (vid : Vid) where
  pub making_reserved : (entry : Entry) (made : Option Content) → IsMakingKept log outbox read from me session opened vid entry made
      → HasReservation log outbox me session (epoch_of read) vid.0
  making_reserved (Format members) made kept = absurd kept
  making_reserved (Join of zone vnodes) made kept = absurd kept
  making_reserved (Leave of) made kept = absurd kept
  making_reserved (Reweight of vnodes) made kept = absurd kept
  making_reserved (Recovered of epoch) made kept = absurd kept
  making_reserved (Reserve by of name origin) made kept = absurd kept
  making_reserved (Publish by of) made kept = kept.1
  making_reserved (Clone by of) made kept = kept.1
  making_reserved (Snapshot by old of) made kept = kept.1.has
  making_reserved (Delete by of name tag) made kept = absurd kept
  making_reserved (Lock by of name tag) made kept = absurd kept
  making_reserved (Unlock by of id) made kept = absurd kept

  pub making_vid : (entry : Entry) (inode : Content) → IsMakingKept log outbox read from me session opened vid entry (Some inode)
      → IsOpenAtLast opened entry (Some inode) → inode.vid ≡ vid.0
  making_vid (Format members) inode kept open_so = absurd kept
  making_vid (Join of zone vnodes) inode kept open_so = absurd kept
  making_vid (Leave of) inode kept open_so = absurd kept
  making_vid (Reweight of vnodes) inode kept open_so = absurd kept
  making_vid (Recovered of epoch) inode kept open_so = absurd kept
  making_vid (Reserve by of name origin) inode kept open_so = absurd kept
  making_vid (Publish by of) inode kept open_so = absurd (cc (open_so))
  making_vid (Clone by of) inode kept open_so = absurd (cc (open_so))
  making_vid (Snapshot by old of) inode kept open_so = open_so.1 ∙ ap (λ (v : Vid). v.0) kept.0
  making_vid (Delete by of name tag) inode kept open_so = absurd kept
  making_vid (Lock by of name tag) inode kept open_so = absurd kept
  making_vid (Unlock by of id) inode kept open_so = absurd kept
