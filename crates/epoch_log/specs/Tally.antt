-- What is kept beside the entries of a log, so that no question scans them, and what each of it is of the entries.
use Rattle.std.specs.Prelude.{◌≡◌, ℕ, ◌+◌, ◌<◌, Bool, not, List, length, take, filter, slice_index_or}
use Rattle.std.specs.declared.cmp.Ordering.{Ordering}
use Rattle.std.specs.Ordering.{nat_cmp, ordering_then}
use Rattle.std.specs.BTreeSet.{BTreeSet, contains}
use Rattle.object_id.specs.declared.node.NodeId.{NodeId}
use Rattle.object_id.specs.declared.node.Epoch.{Epoch}
use Rattle.object_id.specs.declared.entry.Member.{Member}
use Rattle.object_id.specs.declared.entry.Entry.{Entry}
use Rattle.epoch_log.specs.declared.epoch_record.EpochRecord.{EpochRecord}
use Rattle.epoch_log.specs.declared.epoch_record.Mark.{Mark}
use Rattle.epoch_log.specs.declared.tally.Tally.{Tally}
use Rattle.epoch_log.specs.Members.{members_without}
use Rattle.epoch_log.specs.Epochs.{epoch_of, members_in, missing_in, has_recovered, settled_of}

-- an epoch's members, and those of them that have not recovered in it
abbrev pub term_in : List Entry → ℕ → EpochRecord
term_in entries epoch = record { members = members_in entries epoch; missing = missing_in entries epoch }

-- by epoch, then by node
abbrev pub early_cmp : Epoch × NodeId → Epoch × NodeId → Ordering
early_cmp (epoch, node) (other, by) = ordering_then (nat_cmp epoch.0 other.0) (nat_cmp node.0 by.0)

-- whether the node recovered in the epoch before that began
unfoldable pub is_early : BTreeSet (Epoch × NodeId) → ℕ → ℕ → Bool
is_early early epoch node = contains early_cmp early (record { 0 = epoch }, record { 0 = node })

-- each epoch that has begun has its term; an entry that came before its epoch is kept aside
pub record IsTally (entries : List Entry) (tally : Tally) : Type 0 where
  pub epochs : length tally.terms.items ≡ epoch_of entries
  pub terms : (k : ℕ) (d : EpochRecord) → k < length tally.terms.items → slice_index_or tally.terms.items k d ≡ term_in entries (k + 1)
  pub early : (epoch node : ℕ) → epoch_of entries < epoch → is_early tally.early epoch node ≡ has_recovered entries epoch node
  pub settled : tally.settled.0 ≡ settled_of entries

-- the term of a new epoch, with those missing that did not recover early
abbrev pub new_term : BTreeSet (Epoch × NodeId) → ℕ → List Member → EpochRecord
new_term early epoch members = record {
  members = members;
  missing = filter (λ (member : Member). not (is_early early epoch member.node.0)) members;
}

-- a term once a node has recovered
abbrev pub lacking : ℕ → EpochRecord → EpochRecord
lacking node term = record term { missing = members_without node term.missing }

-- the newest epoch and the settled one
abbrev pub mark_of : List Entry → Mark
mark_of entries = record { epoch = record { 0 = epoch_of entries }; settled = record { 0 = settled_of entries } }

-- each entry has the mark of the entries up to it
pub record AreMarks (entries : List Entry) (marks : List Mark) : Type 0 where
  pub count : length marks ≡ length entries
  pub each : (k : ℕ) (d : Mark) → k < length marks → slice_index_or marks k d ≡ mark_of (take (k + 1) entries)
