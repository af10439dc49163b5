-- The create of a disk's inode covers each entry of its table, so an inode that was created may be read to have some entry at each index.
-- And what all that may come of it agrees on is what it is read to have.
use Rattle.std.proofs.Common.{◌≡◌, ◌≤◌, ◌<◌, arith, ℕ, ◌+◌, ◌-◌, ◌*◌, ◌==◌, nat_le, nat_lt, Bool, true, false, cond}
use Rattle.std.proofs.Common.{List, [], ◌∷◌, length, All, Option, Some, None, option_map, refl, sym, ap, subst, ◌∙◌}
use Rattle.std.proofs.lemmas.Bool.{le-leb, ltb-true, or_left, eq-eqb}
use Rattle.object_id.specs.declared.entry.Entry.{Entry}
use Rattle.object_id.specs.declared.entry.VdiSpec.{VdiSpec}
use Rattle.object_id.specs.declared.limits.TheConstants.{OBJECTS_MAX}
use Rattle.object_id.specs.declared.oid.Kind.{Kind}
use Rattle.object_id.specs.declared.oid.Kind.TheVariants.{Inode}
use Rattle.object_id.specs.Oid.{IsVid, inode_number, kind_of, vid_of}
use Rattle.object_id.specs.Spec.{IsSpec, objects_of}
use Rattle.inode.specs.declared.layout.TheConstants.{INODE_BYTES, INODE_HEADER_BYTES}
use Rattle.disk_check.proofs.TableLemmas.{objects_of-most}
use Rattle.epoch_log.specs.Appending.{IsReservable}
use Rattle.peer_proto.specs.declared.work.ObjWork.{ObjWork}
use Rattle.peer_proto.specs.declared.work.ObjWork.TheVariants.{Create, Write, Read, ReadAll}
use Rattle.peer_proto.specs.Work.{oid_of}
use Rattle.peer_service.specs.State.{object_size}
use Rattle.vdi_directory.specs.declared.header.Header.{Header}
use Rattle.vdi_directory.specs.Decisions.{log_effects}
use Rattle.vdi_directory.specs.Effects.{header_of}
use Rattle.vdi_directory.specs.States.{VdiState, state_of, is_live_state}
use Rattle.vdi_directory.specs.States as states
use Rattle.vdi_directory.proofs.ValidLemmas.{header-valid}
use Rattle.overlap_law.specs.Attempts.{AttemptRecord, object_of}
use Rattle.overlap_law.specs.Each.{EachAttempt, spec_in}
use Rattle.overlap_law.specs.Fates.{IsWhole, AttemptsAreWhole, IsCreated}
use Rattle.overlap_law.specs.Grants.{published_in}
use Rattle.overlap_law.specs.Holders.{is_create_work}
use Rattle.overlap_law.specs.Tables.{entry_unit, entry_by, candidates, AreAmong, IsOneEntry, is_snapshot_effect, PublishedInodesAreMade}
use Rattle.overlap_law.specs.Tables.{SnapshotsAreFrozen}
use Rattle.overlap_law.specs.ToCome.{SnapshotsStayFrozen}
use Rattle.overlap_law.specs.Units.{unit_end, covers_by}
use Rattle.overlap_law.specs.Words.{Hosts}
use Rattle.overlap_law.proofs.Candidates.{HasMade, candidate_comes, are_candidates, are_among}
use Rattle.overlap_law.proofs.KnownDisks.{vid-of_inode, kind-of_inode}

-- ---- what a create covers

entry_end : (index : ℕ) → index < OBJECTS_MAX → unit_end Inode (entry_unit index) ≤ INODE_BYTES
entry_end index few = by_test (nat_lt (INODE_HEADER_BYTES + index) INODE_HEADER_BYTES) refl
  where
    by_test : (b : Bool) → nat_lt (INODE_HEADER_BYTES + index) INODE_HEADER_BYTES ≡ b
        → cond b (INODE_HEADER_BYTES + index) (INODE_HEADER_BYTES + 4 * ((INODE_HEADER_BYTES + index) - INODE_HEADER_BYTES)) + cond b 1 4
        ≤ INODE_BYTES
    by_test true low = let below = ltb-true (INODE_HEADER_BYTES + index) INODE_HEADER_BYTES low in absurd (omega (arith, below))
    by_test false high = omega (arith, few)

create_covers : (vid index : ℕ) → IsVid vid → index < OBJECTS_MAX → (spec : VdiSpec) (work : ObjWork) → is_create_work work ≡ true
    → oid_of work ≡ inode_number vid → IsWhole (object_size spec (kind_of (oid_of work))) work → covers_by (entry_unit index) work ≡ true
create_covers vid index is_vid few spec (Create oid policy size offset bytes) creating object whole =
    let kind : kind_of oid ≡ Inode = ap kind_of object ∙ kind-of_inode vid is_vid in
    let long : size ≡ INODE_BYTES = whole.0 ∙ ap (object_size spec) kind in
    ap (λ (k : Kind). nat_le (unit_end k (entry_unit index)) size) kind
    ∙ ap (λ (n : ℕ). nat_le (unit_end Inode (entry_unit index)) n) long
    ∙ le-leb (unit_end Inode (entry_unit index)) INODE_BYTES (entry_end index few)
create_covers vid index is_vid few spec (Write oid policy offset bytes) creating object whole = absurd (cc (creating))
create_covers vid index is_vid few spec (Read oid policy offset size) creating object whole = absurd (cc (creating))
create_covers vid index is_vid few spec (ReadAll oid policy size) creating object whole = absurd (cc (creating))

-- a disk that is known has a valid header
pub header_is : (log : List Entry) → All IsReservable log → (vid : ℕ) (spec : VdiSpec) → spec_in (log_effects log) vid ≡ Some spec
    → IsVid vid × IsSpec spec
header_is log reservable vid spec known = by_header (header_of (log_effects log) vid) refl known
  where
    by_header : (o : Option Header) → header_of (log_effects log) vid ≡ o → option_map (λ (header : Header). header.spec) o ≡ Some spec
        → IsVid vid × IsSpec spec
    by_header None there known = absurd (cc (known))
    by_header (Some header) there known =
        let same : header.spec ≡ spec = cc (known) in
        let valid = header-valid log reservable vid header there in
        (valid.id, subst IsSpec same valid.spec)

live_snapshot : (state : VdiState) → is_snapshot_effect state ≡ true → is_live_state state ≡ true
live_snapshot states.Unused is = absurd (cc (is))
live_snapshot (states.Reserved by) is = absurd (cc (is))
live_snapshot states.Working is = absurd (cc (is))
live_snapshot (states.Snapshot tag) is = refl
live_snapshot states.Deleted is = absurd (cc (is))
live_snapshot states.Freed is = absurd (cc (is))

-- ---- at some moment

module _ (log : List Entry) (reservable : All IsReservable log) (hosts : Hosts) (attempts : List AttemptRecord)
    (shaped : AttemptsAreWhole (log_effects log) attempts)
    (whole : EachAttempt attempts (λ j attempt. length attempt.fates ≡ length attempt.targets)) where
  pub created_made : (vid index epoch : ℕ) (spec : VdiSpec) → spec_in (log_effects log) vid ≡ Some spec → index < objects_of spec
      → IsCreated attempts (inode_number vid) epoch → HasMade hosts (inode_number vid) (entry_unit index) attempts
  created_made vid index epoch spec known within created =
      let (is_vid, is_spec) = header_is log reservable vid spec known in
      let most = objects_of-most spec is_spec in
      let of_vid : vid_of (object_of created.create) ≡ vid = ap vid_of created.object ∙ vid-of_inode vid is_vid in
      record {
        place = created.place;
        base = created.create;
        there = created.there;
        object = created.object;
        covers = create_covers vid index is_vid (omega (arith, within, most)) spec created.create.work created.creating created.object
            (shaped.each created.place created.create created.there spec (ap (spec_in (log_effects log)) of_vid ∙ known));
        made = created.made;
      }

  module _ (good_id : ℕ → Bool) (published : PublishedInodesAreMade log good_id attempts) where
    pub frozen_by : SnapshotsStayFrozen (log_effects log) good_id hosts attempts → SnapshotsAreFrozen (log_effects log) good_id attempts
    frozen_by frozen = record { each = λ vid index spec snapshot good known within. one vid index spec snapshot good known within }
      where
        one : (vid index : ℕ) (spec : VdiSpec) → is_snapshot_effect (state_of (log_effects log) vid) ≡ true → good_id vid ≡ true
            → spec_in (log_effects log) vid ≡ Some spec → index < objects_of spec → IsOneEntry (candidates attempts vid index)
        one vid index spec snapshot good known within =
            let made = created_made vid index (published_in log vid) spec known within
            (published.each vid (live_snapshot (state_of (log_effects log) vid) snapshot) good) in
            let (first, rest, is) = are_candidates hosts attempts whole vid index made in
            let (i, base, comes, own) = candidate_comes hosts attempts whole vid index (first ∷ rest) is 0 first refl in
            subst IsOneEntry (sym is) (
              first,
              subst (AreAmong (first ∷ [])) is (are_among hosts attempts whole vid index made (first ∷ [])
                  (λ j attempt may.
                  or_left (first == entry_by index attempt) false
                  (eq-eqb first (entry_by index attempt)
                  (sym own ∙ frozen.each vid index spec snapshot good known within i j base attempt comes may)))),
            )
