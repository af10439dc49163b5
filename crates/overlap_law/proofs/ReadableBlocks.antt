-- What stays written is written: what a block may be read as is among what it may come to be read as. And its inode has an entry, and what
-- an entry names was made, by the tables' part of the invariant.
use Rattle.std.proofs.Common.{◌≡◌, ◌≢◌, ◌⊎◌, inl, inr, ⊎_elim, arith, ℕ, zero, suc, ◌<◌, ◌≤◌, ◌+◌, ◌*◌, ◌==◌, nat_lt, nat_le, Bool, true}
use Rattle.std.proofs.Common.{false, List, [], ◌∷◌, All, length, Option, Some, None, option_map, slice_get, refl, sym, ap, subst, ◌∙◌}
use Rattle.std.specs.Prelude.{◌^◌}
use Rattle.std.specs.List.{list_any}
use Rattle.std.specs.Str.{bytes_eq}
use Rattle.std.proofs.lemmas.Bool.{or_cases, or_left, or_right, eqb-true, le-leb}
use Rattle.std.proofs.lemmas.List.Elements.{All-head, All-tail}
use Rattle.std.proofs.lemmas.Option.{same_Some}
use Rattle.object_id.specs.declared.entry.Entry.{Entry}
use Rattle.object_id.specs.declared.entry.VdiSpec.{VdiSpec}
use Rattle.object_id.specs.declared.limits.TheConstants.{BLOCK_BYTES, OBJECTS_MAX}
use Rattle.object_id.specs.declared.oid.Kind.{Kind}
use Rattle.object_id.specs.declared.oid.Kind.TheVariants.{Block}
use Rattle.object_id.specs.Fields.{zeros}
use Rattle.object_id.specs.Oid.{kind_of, vid_of, object_number}
use Rattle.epoch_log.specs.Appending.{IsReservable}
use Rattle.disk_history.specs.Ledger.{Item, Disk, Ledger}
use Rattle.disk_history.specs.Legal.{standing}
use Rattle.peer_proto.specs.declared.work.ObjWork.{ObjWork}
use Rattle.peer_proto.specs.declared.work.ObjWork.TheVariants.{Create, Write, Read, ReadAll}
use Rattle.peer_proto.specs.Work.{oid_of}
use Rattle.peer_service.specs.State.{object_size}
use Rattle.vdi_directory.specs.declared.header.Header.{Header}
use Rattle.vdi_directory.specs.Chains.{chain_of, is_above}
use Rattle.vdi_directory.specs.Decisions.{log_effects}
use Rattle.vdi_directory.specs.Effects.{header_of}
use Rattle.overlap_law.specs.Attempts.{AttemptRecord, object_of}
use Rattle.overlap_law.specs.Each.{EachAttempt, spec_in}
use Rattle.overlap_law.specs.Fates.{IsWhole, AttemptsAreWhole, IsCreated}
use Rattle.overlap_law.specs.Grants.{published_in}
use Rattle.overlap_law.specs.Holders.{is_create_work}
use Rattle.overlap_law.specs.StayingBlocks.{MayStay, IsHomeToCome, BlocksStayWritten, InodesAreLive}
use Rattle.overlap_law.specs.Tables.{entry_by, EntriesAreMade, PublishedInodesAreMade}
use Rattle.overlap_law.specs.Units.{unit_end, covers_by}
use Rattle.overlap_law.specs.Words.{Hosts, bytes_by}
use Rattle.overlap_law.specs.WrittenBlocks.{is_allowed, IsBlockOfDisk, items_at, is_torn_here, blocks_per_object, IsCandidate, IsHome}
use Rattle.overlap_law.specs.WrittenBlocks.{outcomes_in, AreAllowed, BlocksAreWritten}
use Rattle.overlap_law.proofs.BlocksOfAnyDisk.{live_alive, any_block}
use Rattle.overlap_law.proofs.LiveIds.{few_objects}
use Rattle.overlap_law.proofs.PublishedInodes.{live_was}
use Rattle.overlap_law.proofs.Candidates.{HasMade, candidate_comes, are_candidates}
use Rattle.overlap_law.proofs.CreatedInodes.{created_made}
use Rattle.overlap_law.proofs.KnownDisks.{IsKnownDisk, vid-of_object, kind-of_object}
use Rattle.overlap_law.proofs.KnownTables.{AreOfSpec, with_chain_known}
use Rattle.overlap_law.proofs.OutcomesToCome.{all_by, outcomes_come, made_comes}

any_at : {X : Type 0} (test : X → Bool) (xs : List X) (place : ℕ) (x : X) → slice_get xs place ≡ Some x → test x ≡ true
    → list_any test xs ≡ true
any_at test [] place x at is = absurd (cc (at))
any_at test (y ∷ xs) zero x at is = or_left (test y) (list_any test xs) (ap test (same_Some y x at) ∙ is)
any_at test (y ∷ xs) (suc place) x at is = or_right (test y) (list_any test xs) (any_at test xs place x at is)

pub may_allowed : (attempts : List AttemptRecord) (items : List Item) (by : Option ℕ) (bytes : List ℕ) → MayStay attempts items by bytes
    → is_allowed items bytes ≡ true
may_allowed attempts items by bytes may =
    any_at (λ (item : Item). bytes_eq item.bytes bytes) (standing items) may.place may.item may.among may.same

-- who is in a chain is above
in_chain : (P : ℕ → Type 0) (elder : ℕ) (ids : List ℕ) → All P ids → list_any (λ id. id == elder) ids ≡ true → P elder
in_chain P elder [] all is = absurd (cc (is))
in_chain P elder (id ∷ ids) all is = ⊎_elim
    (λ (own : (id == elder) ≡ true). subst P (eqb-true id elder own) (All-head P id ids all))
    (λ (later : list_any (λ id. id == elder) ids ≡ true). in_chain P elder ids (All-tail P id ids all) later)
    (or_cases (id == elder) (list_any (λ id. id == elder) ids) is)

-- the create of a data object covers each of its blocks
block_covered : (spec : VdiSpec) (unit : ℕ) (work : ObjWork) → is_create_work work ≡ true → kind_of (oid_of work) ≡ Block
    → IsWhole (object_size spec (kind_of (oid_of work))) work → unit < blocks_per_object spec → covers_by unit work ≡ true
block_covered spec unit (Create oid policy size offset bytes) creating kind whole inside =
    let long : size ≡ 2 ^ spec.shift = whole.0 ∙ ap (object_size spec) kind in
    let fits : BLOCK_BYTES * unit + BLOCK_BYTES ≤ size = omega (arith, inside, long) in
    ap (λ (k : Kind). nat_le (unit_end k unit) size) kind ∙ le-leb (unit_end Block unit) size fits
block_covered spec unit (Write oid policy offset bytes) creating kind whole inside = absurd (cc (creating))
block_covered spec unit (Read oid policy offset size) creating kind whole inside = absurd (cc (creating))
block_covered spec unit (ReadAll oid policy size) creating kind whole inside = absurd (cc (creating))

module _ (ledger : Ledger) (log : List Entry) (reservable : All IsReservable log) (good_id : ℕ → Bool) (hosts : Hosts)
    (attempts : List AttemptRecord)
    (shaped : AttemptsAreWhole (log_effects log) attempts)
    (whole : EachAttempt attempts (λ j attempt. length attempt.fates ≡ length attempt.targets)) where
  abbrev IsBlock : ℕ → Disk → VdiSpec → ℕ → ℕ → Type 0
  IsBlock vid disk spec index unit = IsBlockOfDisk ledger (log_effects log) good_id vid disk spec index unit

  home_comes : (vid index home : ℕ) → IsHome attempts vid index home → IsHomeToCome hosts attempts vid index home
  home_comes vid index home (inl of) = inl (candidate_comes hosts attempts whole vid index of.entries of.there of.place home of.among)
  home_comes vid index home (inr own) = inr own

  module _ (written : BlocksStayWritten ledger (log_effects log) good_id hosts attempts) where
    holes_read : (vid index unit : ℕ) (disk : Disk) (spec : VdiSpec) → IsBlock vid disk spec index unit → IsCandidate attempts vid index 0
        → is_allowed (items_at disk spec index unit) (zeros BLOCK_BYTES) ≡ true
    holes_read vid index unit disk spec block of =
        let (j, entry, comes, is) = candidate_comes hosts attempts whole vid index of.entries of.there of.place 0 of.among in
        may_allowed attempts (items_at disk spec index unit) None (zeros BLOCK_BYTES)
        (written.holes vid index unit disk spec (any_block ledger (log_effects log) good_id vid disk spec index unit block) j entry
        comes is)

    outcomes_allowed : (vid index unit home : ℕ) (disk : Disk) (spec : VdiSpec) → IsBlock vid disk spec index unit
        → IsHome attempts vid index home → home ≢ 0 → is_torn_here spec (items_at disk spec index unit) ≡ false
        → AreAllowed (items_at disk spec index unit) unit (outcomes_in hosts attempts vid home index unit)
    outcomes_allowed vid index unit home disk spec block to_come some sound =
        all_by (λ (attempt : AttemptRecord). is_allowed (items_at disk spec index unit) (bytes_by unit attempt.work))
        (outcomes_in hosts attempts vid home index unit)
        (λ p attempt at.
        let (j, comes) = outcomes_come hosts (object_number home index) unit (home == vid) attempts whole p attempt at in
        may_allowed attempts (items_at disk spec index unit) (Some attempt.req) (bytes_by unit attempt.work)
        (written.each vid index unit disk spec (any_block ledger (log_effects log) good_id vid disk spec index unit block) sound home
        (home_comes vid index home to_come) some j attempt comes))

    module _ (live : ℕ → Bool) (inodes : InodesAreLive (log_effects log) live good_id)
        (published : PublishedInodesAreMade log good_id attempts)
        (made : EntriesAreMade (log_effects log) live good_id attempts) where
      entered : (vid index unit : ℕ) (disk : Disk) (spec : VdiSpec) → IsBlock vid disk spec index unit
          → (entry : ℕ) × IsCandidate attempts vid index entry
      entered vid index unit disk spec block =
          let (first, rest, is) = are_candidates hosts attempts whole vid index
          (created_made log reservable hosts attempts shaped whole vid index (published_in log vid) spec block.made_with block.object
          (published.each vid block.live block.good)) in
          (first, record { entries = first ∷ rest; place = 0; there = is; among = refl })

      module _ (vid index unit : ℕ) (disk : Disk) (spec : VdiSpec) (block : IsBlock vid disk spec index unit) where
        few : index < OBJECTS_MAX
        few = few_objects log reservable vid index spec block.made_with block.object

        -- whose objects an entry may name, that was made like the disk
        chain_known : (home : ℕ) → (home ≡ vid) ⊎ (is_above (log_effects log) home vid ≡ true) → IsKnownDisk (log_effects log) home spec
        unfolding is_above
        chain_known home stands = by_header (header_of (log_effects log) vid) refl block.made_with
          where
            by_header : (o : Option Header) → header_of (log_effects log) vid ≡ o
                → option_map (λ (header : Header). header.spec) o ≡ Some spec
                → IsKnownDisk (log_effects log) home spec
            by_header None there known = absurd (cc (known))
            by_header (Some header) there known =
                let same : header.spec ≡ spec = cc (known) in
                let all : AreOfSpec (log_effects log) spec (vid ∷ chain_of (log_effects log) vid)
                = subst (λ (s : VdiSpec). AreOfSpec (log_effects log) s (vid ∷ chain_of (log_effects log) vid)) same
                (with_chain_known log reservable vid header there) in
                ⊎_elim
                (λ (own : home ≡ vid).
                subst (λ (v : ℕ). IsKnownDisk (log_effects log) v spec) (sym own)
                (All-head (λ (id : ℕ). IsKnownDisk (log_effects log) id spec) vid (chain_of (log_effects log) vid) all))
                (λ (above : is_above (log_effects log) home vid ≡ true).
                in_chain (λ (id : ℕ). IsKnownDisk (log_effects log) id spec) home (chain_of (log_effects log) vid)
                (All-tail (λ (id : ℕ). IsKnownDisk (log_effects log) id spec) vid (chain_of (log_effects log) vid) all) above)
                stands

        -- an object that was created has its block made
        created_block : (home epoch : ℕ) → IsKnownDisk (log_effects log) home spec → IsCreated attempts (object_number home index) epoch
            → HasMade hosts (object_number home index) unit attempts
        created_block home epoch known created =
            let of_vid : vid_of (object_of created.create) ≡ home = ap vid_of created.object ∙ vid-of_object home index known.id few in
            record {
              place = created.place;
              base = created.create;
              there = created.there;
              object = created.object;
              covers = block_covered spec unit created.create.work created.creating
                  (ap kind_of created.object ∙ kind-of_object home index known.id few)
                  (shaped.each created.place created.create created.there spec
                  (ap (spec_in (log_effects log)) of_vid ∙ known.made)) block.inside;
              made = created.made;
            }

        has_outcome : (home : ℕ) → IsCandidate attempts vid index home → home ≢ 0
            → nat_lt 0 (length (outcomes_in hosts attempts vid home index unit)) ≡ true
        has_outcome home of some =
            let (j, entry, comes, is) = candidate_comes hosts attempts whole vid index of.entries of.there of.place home of.among in
            let stands = made.each j entry comes.there vid index comes.object
            (inodes.each vid (live_was vid log block.live) (live_alive (log_effects log) vid block.live) block.good) block.good few
            comes.covers (λ none. some (sym is ∙ none)) in
            subst (λ (h : ℕ). nat_lt 0 (length (outcomes_in hosts attempts vid h index unit)) ≡ true) is
            (made_comes hosts (object_number (entry_by index entry) index) unit (entry_by index entry == vid) attempts
            (created_block (entry_by index entry) entry.epoch (chain_known (entry_by index entry) stands.chain) stands.created))

      pub are_written : BlocksAreWritten ledger (log_effects log) good_id hosts attempts
      are_written = record {
        entered = entered;
        holes = holes_read;
        made = λ vid index unit home disk spec block of some sound. has_outcome vid index unit disk spec block home of some;
        each = outcomes_allowed;
      }
