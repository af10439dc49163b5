-- The entries of a table name nothing, the disk itself, or a disk that became a snapshot by what the node has read: so it is of each disk
-- that a session has open, and of the tables that commands go on with.
use Rattle.std.proofs.Common.{◌≡◌, ◌⊎◌, inl, inr, ℕ, ◌==◌, ◌||◌, Bool, true, false, cond, List, [], ◌∷◌, ◌++◌, All, Option, Some, None}
use Rattle.std.proofs.Common.{IfSome, map, refl, sym, subst}
use Rattle.std.specs.List.{list_any}
use Rattle.std.proofs.lemmas.Bool.{eqb-true}
use Rattle.std.proofs.lemmas.List.Elements.{All-nil, All-cons, All-head, All-tail, All-set}
use Rattle.std.proofs.lemmas.Option.{same_Some}
use Rattle.object_id.specs.declared.cause.Cause.{Cause}
use Rattle.object_id.specs.declared.entry.Entry.{Entry}
use Rattle.object_id.specs.declared.entry.Entry.TheVariants as entries
use Rattle.object_id.specs.declared.entry.VdiSpec.{VdiSpec}
use Rattle.object_id.specs.declared.oid.Vid.{Vid}
use Rattle.object_id.specs.Fields.{zeros}
use Rattle.inode.specs.Layout.{Content}
use Rattle.peer_proto.specs.declared.guest.DiskAsk.{DiskAsk}
use Rattle.peer_proto.specs.declared.guest.DiskAsk.TheVariants as disk_asks
use Rattle.guest_driver.specs.declared.disk.Disk.{Disk}
use Rattle.guest_driver.specs.Pieces.{Piece, pieces}
use Rattle.guest_driver.specs.PieceWorks.{Backing, Hole, Own, Inherited, entry_of, backing_of, read_piece, table_with_entry}
use Rattle.guest_driver.specs.Refusals.{refusal_on}
use Rattle.guest_driver.specs.Driver as drivers
use Rattle.guest_driver.specs.Driver.{DriverStage, InPlace, Fetching, Creating, Entering, Driver, Reads, Writes, DriverStep, work_step}
use Rattle.guest_driver.specs.Driver.{read_on, write_piece_on, write_on, begin_unless_refused, begin_driver, write_done, driver_on_done}
use Rattle.vdi_ops.specs.Op.{Task, Opening, WritingBack, Tagging, Copying, Making, DiskChange, Stays, Opens, Closes, OpStage, Asked}
use Rattle.vdi_ops.specs.Op.{Working, Publishing, Answered}
use Rattle.vdi_ops.specs.Tables.{kept_entry, table_in}
use Rattle.overlap_law.specs.LastReads.{was_snapped}

-- ---- what is shared

module _ (read : List Entry) where
  -- an entry of a disk's table
  abbrev pub IsSharedEntry : ℕ → ℕ → Type 0
  IsSharedEntry vid entry = (entry ≡ 0) ⊎ ((entry ≡ vid) ⊎ (was_snapped read entry ≡ true))

  abbrev pub AreShared : ℕ → List ℕ → Type 0
  AreShared vid table = All (IsSharedEntry vid) table

  -- an open disk has such a table, and a snapshot that is open became one
  pub record IsSharedDisk (disk : Disk) : Type 0 where
    pub closed : disk.snapshot ≡ true → was_snapped read disk.inode.vid ≡ true
    pub table : AreShared disk.inode.vid disk.inode.table

  -- the inode that is to be made for a snapshot has the table of the disk
  abbrev pub IsSharedMaking : Entry → Option Content → Type 0
  IsSharedMaking (entries.Snapshot by old vid) made = IfSome made (λ (inode : Content). AreShared old.0 inode.table)
  IsSharedMaking entry made = made ≡ None

  -- an inode is read for these ids
  pub record IsSharedOpening (snapshot : Bool) (vid : ℕ) (ids : List ℕ) : Type 0 where
    pub closed : snapshot ≡ true → was_snapped read vid ≡ true
    pub ids_so : AreShared vid ids

  abbrev pub IsSharedTask : Vid → Task → Type 0
  IsSharedTask vid (Opening snapshot ids header) = IsSharedOpening snapshot vid.0 ids
  IsSharedTask vid (WritingBack inode) = AreShared inode.vid inode.table
  IsSharedTask vid (Tagging old inode) = AreShared old.0 inode.table
  IsSharedTask vid (Copying ids header) = IfSome header.parent (λ (parent : Vid). was_snapped read parent.0 ≡ true)
  IsSharedTask vid (Making entry made) = IsSharedMaking entry made

  abbrev pub IsSharedChange : DiskChange → Type 0
  IsSharedChange Stays = Unit {0}
  IsSharedChange (Opens snapshot inode) = IsSharedDisk (record { inode = inode; snapshot = snapshot })
  IsSharedChange Closes = Unit {0}

  abbrev pub IsSharedStage : OpStage → Type 0
  IsSharedStage (Asked entry) = Unit {0}
  IsSharedStage (Working vid task) = IsSharedTask vid task
  IsSharedStage (Publishing entry made) = IsSharedMaking entry made
  IsSharedStage (Answered change) = IsSharedChange change

-- ---- a table that is read of an inode

module _ (P : ℕ → Type 0) (none : P 0) where
  among_ids : (ids : List ℕ) (entry : ℕ) → All P ids → list_any (λ id. id == entry) ids ≡ true → P entry
  among_ids [] entry all is = absurd (cc (is))
  among_ids (id ∷ ids) entry all is = by_tie (id == entry) refl (among_ids ids entry (All-tail P id ids all)) is
    where
      by_tie : (b : Bool) → (id == entry) ≡ b → (list_any (λ id. id == entry) ids ≡ true → P entry)
          → (b || list_any (λ id. id == entry) ids) ≡ true → P entry
      by_tie true same rest is = subst P (eqb-true id entry same) (All-head P id ids all)
      by_tie false other rest is = rest is

  entry_so : (ids : List ℕ) (entry : ℕ) → All P ids → P (kept_entry ids entry)
  entry_so ids entry all = by_test (list_any (λ id. id == entry) ids) refl
    where
      by_test : (b : Bool) → list_any (λ id. id == entry) ids ≡ b → P (cond b entry 0)
      by_test true is = among_ids ids entry all is
      by_test false is = none

  entries_so : (ids given : List ℕ) → All P ids → All P (map (kept_entry ids) given)
  entries_so ids [] all = All-nil P
  entries_so ids (entry ∷ given) all =
      All-cons P (kept_entry ids entry) (map (kept_entry ids) given) (entry_so ids entry all) (entries_so ids given all)

  pub table_so : (spec : VdiSpec) (ids bytes : List ℕ) → All P ids → All P (table_in ids spec bytes)
  table_so spec ids bytes all = entries_so ids _ all

-- ---- a driver

-- it leaves the inode as it is, or with an entry for the own object
abbrev LeavesTable : Content → Content → Type 0
LeavesTable was now = (now ≡ was) ⊎ ((piece : Piece) × (now ≡ table_with_entry was piece))

module _ (inode : Content) where
  read_leaves : (told : List ℕ) (rest : List Piece) → (read_on inode told rest).inode ≡ inode
  unfolding read_on
  read_leaves told [] = refl
  read_leaves told (piece ∷ rest) = by_hole (entry_of inode piece == 0) (read_leaves (told ++ zeros piece.size) rest)
    where
      by_hole : (b : Bool) → (read_on inode (told ++ zeros piece.size) rest).inode ≡ inode
          → (cond b (read_on inode (told ++ zeros piece.size) rest)
          (work_step inode (Reads told piece rest) (read_piece inode piece (entry_of inode piece)))).inode ≡ inode
      by_hole true later = later
      by_hole false later = refl

  piece_leaves : (payload : List ℕ) (piece : Piece) (rest : List Piece) (backing : Backing)
      → (write_piece_on inode payload piece rest backing).inode ≡ inode
  piece_leaves payload piece rest Hole = refl
  piece_leaves payload piece rest Own = refl
  piece_leaves payload piece rest (Inherited vid) = refl

  write_leaves : (payload : List ℕ) (rest : List Piece) → (write_on inode payload rest).inode ≡ inode
  write_leaves payload [] = refl
  write_leaves payload (piece ∷ rest) = piece_leaves payload piece rest (backing_of inode piece)

  begun_leaves : (ask : DiskAsk) (cause : Option Cause) → (begin_unless_refused inode ask cause).inode ≡ inode
  begun_leaves ask (Some cause) = refl
  begun_leaves (disk_asks.Read offset size) None = read_leaves [] (pieces inode.spec.shift offset size)
  begun_leaves (disk_asks.Write offset payload) None = write_leaves payload (pieces inode.spec.shift offset _)

begins_leave : (disk : Disk) (ask : DiskAsk) → (begin_driver disk ask).inode ≡ disk.inode
unfolding begin_driver
begins_leave disk ask = begun_leaves disk.inode ask (refusal_on disk false ask)

done_leaves : (inode : Content) (bytes payload : List ℕ) (piece : Piece) (rest : List Piece) (stage : DriverStage)
    → LeavesTable inode (write_done inode bytes payload piece rest stage).inode
done_leaves inode bytes payload piece rest InPlace = inl (write_leaves inode payload rest)
done_leaves inode bytes payload piece rest Fetching = inl refl
done_leaves inode bytes payload piece rest Creating = inl refl
done_leaves inode bytes payload piece rest Entering = inr (piece, write_leaves (table_with_entry inode piece) payload rest)

goes_on_leaves : (inode : Content) (bytes : List ℕ) (driver : Driver) (step : DriverStep) → driver_on_done inode bytes driver ≡ Some step
    → LeavesTable inode step.inode
unfolding driver_on_done
goes_on_leaves inode bytes (Reads told piece rest) step next =
    subst (λ (s : DriverStep). LeavesTable inode s.inode) (same_Some (read_on inode (told ++ bytes) rest) step next)
    (inl (read_leaves inode (told ++ bytes) rest))
goes_on_leaves inode bytes (Writes payload stage piece rest) step next =
    subst (λ (s : DriverStep). LeavesTable inode s.inode) (same_Some (write_done inode bytes payload piece rest stage) step next)
    (done_leaves inode bytes payload piece rest stage)
goes_on_leaves inode bytes drivers.Answered step next = absurd (cc (next))

module _ (read : List Entry) (disk : Disk) (is : IsSharedDisk read disk) where
  with_inode : (inode : Content) → LeavesTable disk.inode inode → IsSharedDisk read (record disk { inode = inode })
  with_inode inode (inl same) = subst (λ (i : Content). IsSharedDisk read (record disk { inode = i })) (sym same) is
  with_inode inode (inr (piece, same)) =
      subst (λ (i : Content). IsSharedDisk read (record disk { inode = i })) (sym same) (record {
        closed = is.closed;
        table = All-set (IsSharedEntry read disk.inode.vid) disk.inode.table piece.index disk.inode.vid (inr (inl refl)) is.table;
      })

  pub begins_shared : (ask : DiskAsk) → IsSharedDisk read (record disk { inode = (begin_driver disk ask).inode })
  begins_shared ask = with_inode (begin_driver disk ask).inode (inl (begins_leave disk ask))

  pub goes_on_shared : (bytes : List ℕ) (driver : Driver) (step : DriverStep) → driver_on_done disk.inode bytes driver ≡ Some step
      → IsSharedDisk read (record disk { inode = step.inode })
  goes_on_shared bytes driver step next = with_inode step.inode (goes_on_leaves disk.inode bytes driver step next)
