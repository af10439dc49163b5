-- What a read or write, or a check, reads lies inside an object of a disk that is known: for it reads an object that an entry of the table
-- names.
use Rattle.std.proofs.Common.{◌≡◌, ◌≢◌, inl, inr, arith, ℕ, ◌+◌, ◌≤◌, ◌==◌, Bool, true, false, cond, List, [], ◌∷◌, ◌++◌, length, All}
use Rattle.std.proofs.Common.{Option, Some, None, IsTrue, refl, sym, ap, subst, ◌∙◌}
use Rattle.std.proofs.lemmas.Bool.{eq-eqb}
use Rattle.std.proofs.lemmas.List.{length-set}
use Rattle.std.proofs.lemmas.List.Elements.{All-head, All-tail, All-set}
use Rattle.object_id.specs.declared.cause.Cause.{Cause}
use Rattle.object_id.specs.declared.entry.VdiSpec.{VdiSpec}
use Rattle.object_id.specs.declared.oid.Kind.{Kind}
use Rattle.object_id.specs.declared.oid.Kind.TheVariants.{Block}
use Rattle.object_id.specs.Fields.{zeros}
use Rattle.object_id.specs.Oid.{vid_of, kind_of}
use Rattle.inode.specs.Layout.{Content}
use Rattle.peer_proto.specs.Work.{oid_of, policy_of}
use Rattle.peer_proto.specs.declared.guest.DiskAsk.{DiskAsk}
use Rattle.peer_proto.specs.declared.guest.DiskAsk.TheVariants as disk_asks
use Rattle.peer_proto.specs.declared.work.ObjWork.{ObjWork}
use Rattle.peer_proto.specs.declared.work.ObjWork.TheVariants as works
use Rattle.peer_service.specs.State.{object_size}
use Rattle.vdi_directory.specs.declared.effect.Effect.{Effect}
use Rattle.guest_driver.specs.declared.disk.Disk.{Disk}
use Rattle.guest_driver.specs.Pieces.{Piece, pieces, is_ask}
use Rattle.guest_driver.specs.PieceWorks.{Backing, Hole, Own, Inherited, entry_of, backing_of, read_piece, read_object, table_with_entry}
use Rattle.guest_driver.specs.Refusals.{refusal_on}
use Rattle.guest_driver.specs.OnDisk.{pieces_left, IsPieceOf, IsDriverOn}
use Rattle.guest_driver.specs.Driver as drivers
use Rattle.guest_driver.specs.Driver.{DriverStage, InPlace, Fetching, Creating, Entering, Driver, Reads, Writes, DriverStep, work_step}
use Rattle.guest_driver.specs.Driver.{read_on, write_piece_on, write_on, begin_unless_refused, begin_driver, write_done, driver_on_done}
use Rattle.guest_driver.proofs.BeginLemmas.{asks-some, ends-inside, pieces-are}
use Rattle.disk_check.specs.Check as checks
use Rattle.disk_check.specs.Check.{Check, CheckStage, CheckStep, Comparing, WritingBack as Rewriting, check_on, begun_check, begin_check}
use Rattle.disk_check.specs.Check.{check_done_at, check_on_done, left_of}
use Rattle.disk_check.specs.Table.{own_indexes}
use Rattle.disk_check.proofs.TableLemmas.{own_indexes-own}
use Rattle.sheep_node.specs.Changes.{Outcome, ToWork, ToEntry, ToReply, outcome_of_driver, outcome_of_check}
use Rattle.sheep_node.proofs.ValidSteps.{given}
use Rattle.overlap_law.specs.Tables.{IsOfChain}
use Rattle.overlap_law.proofs.ChainTables.{HasChainTable, HasChains, names_known}
use Rattle.overlap_law.proofs.GrantedEpochs.{spec_known}
use Rattle.overlap_law.proofs.KnownDisks.{Few, FewAt, IsKnownDisk, IsKnownInode, IsKnownCheck, vid-of_object, kind-of_object, all_few}
use Rattle.overlap_law.proofs.KnownDisks.{with_entry}
use Rattle.overlap_law.proofs.KnownTables.{entry_known}

-- what a work reads ends inside an object that is so long, and a check reads all of it
abbrev pub ReadsInside : ℕ → ObjWork → Type 0
ReadsInside size (works.Create oid policy all offset bytes) = Unit {0}
ReadsInside size (works.Write oid policy offset bytes) = Unit {0}
ReadsInside size (works.Read oid policy offset long) = offset + long ≤ size
ReadsInside size (works.ReadAll oid policy all) = all ≡ size

module _ (known : List Effect) where
  -- a work reads inside an object of a disk that is known, and has its policy
  pub record IsReadOn (work : ObjWork) : Type 0 where
    pub spec : VdiSpec
    pub made : spec_known known (vid_of (oid_of work)) ≡ Some spec
    pub policy_so : policy_of work ≡ spec.policy
    pub inside : ReadsInside (object_size spec (kind_of (oid_of work))) work

  -- of what makes something nothing is asked
  abbrev pub ReadsOn : ObjWork → Type 0
  ReadsOn (works.Create oid policy size offset bytes) = Unit {0}
  ReadsOn (works.Write oid policy offset bytes) = Unit {0}
  ReadsOn (works.Read oid policy offset size) = IsReadOn (works.Read oid policy offset size)
  ReadsOn (works.ReadAll oid policy size) = IsReadOn (works.ReadAll oid policy size)

  abbrev pub IsReadOutcome : Outcome → Type 0
  IsReadOutcome (ToWork work) = ReadsOn work
  IsReadOutcome (ToEntry entry) = Unit {0}
  IsReadOutcome (ToReply reply) = Unit {0}

  pub inside_on : (vid : ℕ) (spec : VdiSpec) (kind : Kind) (work : ObjWork) → IsKnownDisk known vid spec → vid_of (oid_of work) ≡ vid
      → kind_of (oid_of work) ≡ kind → policy_of work ≡ spec.policy → ReadsInside (object_size spec kind) work → IsReadOn work
  inside_on vid spec kind work disk of_disk of_kind policy inside = record {
    spec = spec;
    made = ap (spec_known known) of_disk ∙ disk.made;
    policy_so = policy;
    inside = subst (λ (k : Kind). ReadsInside (object_size spec k) work) (sym of_kind) inside;
  }

  -- ---- a read or write

  -- the table of the disk has none but its own id and those above it, and what is read is inside
  pub record IsReadStep (step : DriverStep) : Type 0 where
    pub table : HasChainTable known step.inode
    pub outcome : IsReadOutcome (outcome_of_driver step.act)

  module _ (chains : HasChains known) where
    module _ (inode : Content) (is : IsKnownInode known inode) (table : HasChainTable known inode) where
      -- an entry that names a disk names a known one
      named : (piece : Piece) → entry_of inode piece ≢ 0 → IsKnownDisk known (entry_of inode piece) inode.spec
      named piece = entry_known known inode.spec inode.table piece.index (names_known known chains inode is table)

      names : (piece : Piece) → (entry_of inode piece == 0) ≡ false → entry_of inode piece ≢ 0
      names piece some none = let zero = eq-eqb (entry_of inode piece) 0 none in absurd (cc (some, zero))

      piece_inside : (piece : Piece) (vid : ℕ) → FewAt piece → IsPieceOf inode.spec piece → IsKnownDisk known vid inode.spec
          → ReadsOn (read_piece inode piece vid)
      piece_inside piece vid few of disk =
          inside_on vid inode.spec Block (read_piece inode piece vid) disk (vid-of_object vid piece.index disk.id few)
          (kind-of_object vid piece.index disk.id few) refl of.within.inside

      object_inside : (piece : Piece) (vid : ℕ) → FewAt piece → IsKnownDisk known vid inode.spec → ReadsOn (read_object inode piece vid)
      object_inside piece vid few disk =
          inside_on vid inode.spec Block (read_object inode piece vid) disk (vid-of_object vid piece.index disk.id few)
          (kind-of_object vid piece.index disk.id few) refl (omega arith)

      reads_inside : (told : List ℕ) (rest : List Piece) → All FewAt rest → All (IsPieceOf inode.spec) rest
          → IsReadStep (read_on inode told rest)
      unfolding read_on
      reads_inside told [] few on = record { table = table; outcome = tt }
      reads_inside told (piece ∷ rest) few on =
          by_hole (entry_of inode piece == 0) refl
          (reads_inside (told ++ zeros piece.size) rest (All-tail FewAt piece rest few) (All-tail (IsPieceOf inode.spec) piece rest on))
        where
          by_hole : (b : Bool) → (entry_of inode piece == 0) ≡ b → IsReadStep (read_on inode (told ++ zeros piece.size) rest)
              → IsReadStep (cond b (read_on inode (told ++ zeros piece.size) rest)
              (work_step inode (Reads told piece rest) (read_piece inode piece (entry_of inode piece))))
          by_hole true none later = later
          by_hole false some later = record {
            table = table;
            outcome = piece_inside piece (entry_of inode piece) (All-head FewAt piece rest few)
                (All-head (IsPieceOf inode.spec) piece rest on) (named piece (names piece some));
          }

      inherited : (piece : Piece) (vid : ℕ) → backing_of inode piece ≡ Inherited vid → IsKnownDisk known vid inode.spec
      inherited piece vid = by_hole (entry_of inode piece == 0) refl
        where
          by_own : (b : Bool) → (entry_of inode piece == 0) ≡ false → cond b Own (Inherited (entry_of inode piece)) ≡ Inherited vid
              → IsKnownDisk known vid inode.spec
          by_own true some back = absurd (cc (back))
          by_own false some back =
              let same : entry_of inode piece ≡ vid = cc (back) in
              subst (λ (v : ℕ). IsKnownDisk known v inode.spec) same (named piece (names piece some))

          by_hole : (b : Bool) → (entry_of inode piece == 0) ≡ b
              → cond b Hole (cond (entry_of inode piece == inode.vid) Own (Inherited (entry_of inode piece))) ≡ Inherited vid
              → IsKnownDisk known vid inode.spec
          by_hole true none back = absurd (cc (back))
          by_hole false some back = by_own (entry_of inode piece == inode.vid) some back

      backed_inside : (payload : List ℕ) (piece : Piece) (rest : List Piece) (backing : Backing) → backing_of inode piece ≡ backing
          → FewAt piece → IsReadStep (write_piece_on inode payload piece rest backing)
      backed_inside payload piece rest Hole back few = record { table = table; outcome = tt }
      backed_inside payload piece rest Own back few = record { table = table; outcome = tt }
      backed_inside payload piece rest (Inherited vid) back few =
          record { table = table; outcome = object_inside piece vid few (inherited piece vid back) }

      writes_inside : (payload : List ℕ) (rest : List Piece) → All FewAt rest → IsReadStep (write_on inode payload rest)
      writes_inside payload [] few = record { table = table; outcome = tt }
      writes_inside payload (piece ∷ rest) few =
          backed_inside payload piece rest (backing_of inode piece) refl (All-head FewAt piece rest few)

    begun_inside : (disk : Disk) (ask : DiskAsk) (refusal : Option Cause) → IsKnownInode known disk.inode → HasChainTable known disk.inode
        → IsTrue (is_ask ask) → refusal_on disk false ask ≡ refusal → IsReadStep (begin_unless_refused disk.inode ask refusal)
    begun_inside disk ask (Some cause) is table whole so = record { table = table; outcome = tt }
    begun_inside disk (disk_asks.Read offset size) None is table whole so =
        let some = asks-some (disk_asks.Read offset size) whole in
        let within = ends-inside disk (disk_asks.Read offset size) so in
        reads_inside disk.inode is table [] (pieces disk.inode.spec.shift offset size) (all_few known disk.inode is offset size some within)
        (pieces-are disk.inode.spec offset size some within)
    begun_inside disk (disk_asks.Write offset payload) None is table whole so =
        writes_inside disk.inode is table payload (pieces disk.inode.spec.shift offset (length payload))
        (all_few known disk.inode is offset (length payload) (asks-some (disk_asks.Write offset payload) whole)
        (ends-inside disk (disk_asks.Write offset payload) so))

    pub driver_begins-inside : (disk : Disk) (ask : DiskAsk) → IsKnownInode known disk.inode → HasChainTable known disk.inode
        → IsTrue (is_ask ask) → IsReadStep (begin_driver disk ask)
    unfolding begin_driver
    driver_begins-inside disk ask is table whole = begun_inside disk ask (refusal_on disk false ask) is table whole refl

    done_inside : (inode : Content) (bytes payload : List ℕ) (piece : Piece) (rest : List Piece) (stage : DriverStage)
        → IsKnownInode known inode → HasChainTable known inode → All FewAt (piece ∷ rest)
        → IsReadStep (write_done inode bytes payload piece rest stage)
    done_inside inode bytes payload piece rest InPlace is table few =
        writes_inside inode is table payload rest (All-tail FewAt piece rest few)
    done_inside inode bytes payload piece rest Fetching is table few = record { table = table; outcome = tt }
    done_inside inode bytes payload piece rest Creating is table few = record { table = table; outcome = tt }
    done_inside inode bytes payload piece rest Entering is table few =
        writes_inside (table_with_entry inode piece) (with_entry known inode is piece)
        (record {
          entries = All-set (IsOfChain known inode.vid) inode.table piece.index inode.vid (inr (inl refl)) table.entries;
          whole = length-set inode.table piece.index inode.vid ∙ table.whole;
        }) payload rest (All-tail FewAt piece rest few)

    pub driver_goes_on-inside : (inode : Content) (bytes : List ℕ) (driver : Driver) (step : DriverStep)
        → driver_on_done inode bytes driver ≡ Some step → IsKnownInode known inode → HasChainTable known inode
        → All FewAt (pieces_left driver) → IsDriverOn inode driver → IsReadStep step
    unfolding driver_on_done
    driver_goes_on-inside inode bytes (Reads told piece rest) step next is table few on =
        given IsReadStep next
        (reads_inside inode is table (told ++ bytes) rest (All-tail FewAt piece rest few) (All-tail (IsPieceOf inode.spec) piece rest on))
    driver_goes_on-inside inode bytes (Writes payload stage piece rest) step next is table few on =
        given IsReadStep next (done_inside inode bytes payload piece rest stage is table few)
    driver_goes_on-inside inode bytes drivers.Answered step next is table few on = absurd (cc (next))

  -- ---- a check

  check_on-inside : (check : Check) (left : List ℕ) → IsKnownDisk known check.vid check.spec → All Few left
      → IsReadOutcome (outcome_of_check (check_on check left).act)
  check_on-inside check [] disk few = tt
  check_on-inside check (index ∷ later) disk few =
      let here : Few index = All-head Few index later few in
      inside_on check.vid check.spec Block (checks.read_copies check index) disk (vid-of_object check.vid index disk.id here)
      (kind-of_object check.vid index disk.id here) refl refl

  pub check_begins-inside : (inode : Content) → IsKnownInode known inode → IsReadOutcome (outcome_of_check (begin_check inode).act)
  unfolding begin_check
  check_begins-inside inode is =
      let count = is.count in
      check_on-inside (begun_check inode) (own_indexes inode) is.disk
      (λ k d within. let here = (own_indexes-own inode k d within).0 in omega (arith, here, count))

  pub check_goes_on-inside : (bytes : List ℕ) (check : Check) (step : CheckStep) → check_on_done bytes check ≡ Some step
      → IsKnownCheck known check → IsReadOutcome (outcome_of_check step.act)
  unfolding check_on_done
  check_goes_on-inside bytes check step next is = by_stage check.stage next is.within
    where
      by_stage : (stage : CheckStage) → check_done_at bytes check stage ≡ Some step → All Few (left_of stage)
          → IsReadOutcome (outcome_of_check step.act)
      by_stage (Comparing index later) next few = given (λ (s : CheckStep). IsReadOutcome (outcome_of_check s.act)) next tt
      by_stage (Rewriting later) next few =
          given (λ (s : CheckStep). IsReadOutcome (outcome_of_check s.act)) next (check_on-inside check later is.disk few)
      by_stage checks.Answered next few = absurd (cc (next))
