-- While a session has a disk open, each copy of its inode that reaches the own base of an entry has the entry of the session's table, or
-- the disk's own id while that is being written: what the copy has there is of an attempt that may come to be read, as the own base is made
-- and so is owed; and what the inode may come to have is the table's.
use Rattle.std.proofs.Common.{◌≡◌, ◌⊎◌, inl, inr, ⊎_elim, arith, ℕ, ◌≤◌, ◌==◌, ◌&&◌, Bool, true, false}
use Rattle.std.proofs.Common.{List, slice_get, slice_index, Some, sym, ap, subst, ◌∙◌}
use Rattle.std.specs.FinMap as tree
use Rattle.std.proofs.lemmas.Bool.{and_parts, eqb-true}
use Rattle.object_id.specs.declared.entry.Entry.{Entry}
use Rattle.object_id.specs.declared.oid.Kind.{Kind}
use Rattle.object_id.specs.declared.oid.Kind.TheVariants.{Inode}
use Rattle.object_id.specs.Fields.{u32_at}
use Rattle.object_id.specs.Oid.{IsVid, kind_of, inode_number}
use Rattle.object_store.specs.Store.{SeenRow, rows_of}
use Rattle.gf256.specs.Part.{part, is_in_strips}
use Rattle.vdi_directory.specs.Dead.{is_dead}
use Rattle.vdi_directory.specs.Decisions.{log_effects}
use Rattle.peer_proto.specs.Work.{policy_of}
use Rattle.sheep_world.specs.World.{Host}
use Rattle.overlap_law.specs.Attempts.{AttemptRecord, object_of, attempts_on}
use Rattle.overlap_law.specs.Each.{Placing, end_of_row, policy_in}
use Rattle.overlap_law.specs.Facts.{entry_in, CopiesHaveTheTable, HasTableEntry}
use Rattle.overlap_law.specs.Fates.{FatesAreOfTheWire, AttemptsAreShaped}
use Rattle.overlap_law.specs.Packets.{Wire}
use Rattle.overlap_law.specs.Rows.{RowsHaveEnds, RowsAreAtTargets}
use Rattle.overlap_law.specs.Since.{RowsAreSince, reading_by, IsCopyFrom}
use Rattle.overlap_law.specs.Tables.{entry_unit, entry_by}
use Rattle.overlap_law.specs.ToCome.{IsToCome, IsBeingEntered, TablesStayTheInodes}
use Rattle.overlap_law.specs.Units.{row_bytes_at, covers_unit, bytes_by}
use Rattle.overlap_law.specs.Words.{Hosts, is_made, is_doomed, own_base_of}
use Rattle.overlap_law.proofs.Candidates.{heard_stands}
use Rattle.overlap_law.proofs.ContentsOfRows.{owes_made}
use Rattle.overlap_law.proofs.CopyUnits.{whole_part}
use Rattle.overlap_law.proofs.EntriesOfInodes.{inodes_whole, entry_of_unit}
use Rattle.overlap_law.proofs.FateLemmas.{made-not_doomed}
use Rattle.overlap_law.proofs.FilteredOrder.{StandsAmongAll, stands_among_all}
use Rattle.overlap_law.proofs.KnownDisks.{kind-of_inode}
use Rattle.overlap_law.proofs.LastAttempts.{IsLast, own_last}

unmade : (a b : Bool) → a ≡ true → (a && b) ≡ false → b ≡ false
unmade true b is none = none
unmade false b is none = absurd (cc (is))

module _ {T : Placing} {log : List Entry} {hosts : Hosts} {wire : Wire} {attempts : List AttemptRecord} {good good_id : ℕ → Bool}
    (fates : FatesAreOfTheWire wire attempts) (shape : AttemptsAreShaped T log attempts) (ends : RowsHaveEnds hosts)
    (placed : RowsAreAtTargets T (log_effects log) hosts) (since : RowsAreSince (log_effects log) good hosts attempts)
    (tables : TablesStayTheInodes (log_effects log) good_id hosts attempts) (vid : ℕ) (id : IsVid vid)
    (is_good : good (inode_number vid) ≡ true) (is_good_id : good_id vid ≡ true) (alive : is_dead (log_effects log) vid ≡ false) where
  abbrev oid : ℕ
  oid = inode_number vid

  abbrev on : List AttemptRecord
  on = attempts_on (inode_number vid) attempts

  abbrev is_on : AttemptRecord → Bool
  is_on attempt = object_of attempt == inode_number vid

  kind : kind_of (inode_number vid) ≡ Inode
  kind = kind-of_inode vid id

  -- an attempt on the inode, with its place among all
  stands : (j : ℕ) (attempt : AttemptRecord) → slice_get on j ≡ Some attempt → StandsAmongAll is_on attempts on j attempt
  stands = stands_among_all is_on attempts

  module _ (index : ℕ) (own : AttemptRecord) (own_is : own_base_of (entry_unit index) on ≡ Some own) where
    last : IsLast (λ (a : AttemptRecord). covers_unit (entry_unit index) a && is_made a) on own
    last = own_last (entry_unit index) on own own_is

    among : StandsAmongAll is_on attempts on last.place own
    among = stands last.place own last.there

    own_on : object_of own ≡ inode_number vid
    own_on = eqb-true (object_of own) (inode_number vid) among.passed

    known : policy_in (log_effects log) (inode_number vid) ≡ Some (policy_of own.work)
    known = subst (λ (q : ℕ). policy_in (log_effects log) q ≡ Some (policy_of own.work)) own_on (shape.policy among.place own among.there)

    whole : is_in_strips (policy_of own.work) (kind_of (inode_number vid)) ≡ false
    whole = ap (is_in_strips (policy_of own.work)) kind ∙ inodes_whole (policy_of own.work)

    -- of the attempt that a copy has there it may come to be read, and it has that entry
    module _ (n : ℕ) (host : Host) (at : tree.get hosts n ≡ Some host) (i : ℕ) (row : SeenRow)
        (row_at : slice_get (rows_of host.node.peer.rows (inode_number vid)) i ≡ Some row)
        (reaches : own.epoch ≤ end_of_row host.node.peer.epoch row.to) where
      abbrev unit : ℕ
      unit = entry_unit index

      abbrev in_row : List ℕ
      in_row = row_bytes_at (policy_of own.work) (kind_of (inode_number vid)) (entry_unit index) row.bytes

      read : IsCopyFrom on (entry_unit index) last.place row.index in_row
      read = ⊎_elim
          (λ (doomed : is_doomed hosts own ≡ true).
          let stays = made-not_doomed hosts own (and_parts (covers_unit unit own) (is_made own) last.passed).1 in
          absurd (cc (doomed, stays)))
          (λ (reads : reading_by (is_in_strips (policy_of own.work) (kind_of (inode_number vid))) on (entry_unit index) last.place row.index
          in_row). subst (λ (b : Bool). reading_by b on (entry_unit index) last.place row.index in_row) whole reads)
          ((since.each n host at (inode_number vid) i row row_at (policy_of own.work) is_good known).each last.place own last.there unit
          (and_parts (covers_unit unit own) (is_made own) last.passed).0
          (owes_made fates shape ends placed n host at (inode_number vid) i row row_at among.place own among.there own_on
          (and_parts (covers_unit unit own) (is_made own) last.passed).1 reaches))

      abbrev one : AttemptRecord
      one = read.attempt

      there : StandsAmongAll is_on attempts on read.place one
      there = stands read.place one read.there

      one_on : object_of one ≡ inode_number vid
      one_on = eqb-true (object_of one) (inode_number vid) there.passed

      comes : IsToCome hosts attempts (inode_number vid) (entry_unit index) there.place one
      comes = record {
        there = there.there;
        object = one_on;
        covers = read.covering;
        stands = heard_stands hosts one (fates.whole there.place one there.there) read.served;
        last = λ k later at_k behind on_it covers.
            let found = there.later k later at_k behind (ap (λ (o : ℕ). o == inode_number vid) on_it ∙ is_itself) in
            let less = found.2 in
            let before = read.no_earlier in
            unmade (covers_unit unit later) (is_made later) covers (last.none found.0 later found.1 (omega (arith, less, before)));
      }
        where
          is_itself : (inode_number vid == inode_number vid) ≡ true
          is_itself = ap (λ (o : ℕ). o == inode_number vid) (sym one_on) ∙ there.passed

      has_entry : entry_in index row.bytes ≡ entry_by index one
      has_entry =
          sym (entry_of_unit (policy_of own.work) index row.bytes)
          ∙ ap (λ (k : Kind). u32_at 0 (row_bytes_at (policy_of own.work) k unit row.bytes)) (sym kind)
          ∙ ap (u32_at 0) read.same
          ∙ ap (λ (k : Kind). u32_at 0 (part (policy_of one.work) k row.index (bytes_by unit one.work))) (ap kind_of one_on ∙ kind)
          ∙ ap (u32_at 0) (whole_part (policy_of one.work) Inode (inodes_whole (policy_of one.work)) row.index (bytes_by unit one.work))

  pub copies_have_table : CopiesHaveTheTable (log_effects log) hosts vid attempts
  copies_have_table m home home_at up number index session disk of opened same_id yet inside own own_is n host at i row row_at reaches =
      by_case
      (tables.each m home home_at up number index session disk of opened (ap good_id same_id ∙ is_good_id)
      (ap (is_dead (log_effects log)) same_id ∙ alive) inside yet (there index own own_is n host at i row row_at reaches).place
      (one index own own_is n host at i row row_at reaches)
      (subst
      (λ (v : ℕ). IsToCome hosts attempts (inode_number v) (entry_unit index)
      (there index own own_is n host at i row row_at reaches).place (one index own own_is n host at i row row_at reaches))
      (sym same_id) (comes index own own_is n host at i row row_at reaches)))
    where
      has : entry_in index row.bytes ≡ entry_by index (one index own own_is n host at i row row_at reaches)
      has = has_entry index own own_is n host at i row row_at reaches

      by_case : (entry_by index (one index own own_is n host at i row row_at reaches) ≡ slice_index disk.inode.table index)
          ⊎ ((disk.snapshot ≡ false)
          × IsBeingEntered m home.node disk.inode.vid index (one index own own_is n host at i row row_at reaches))
          → HasTableEntry home.node disk index row.bytes
      by_case (inl kept) = inl (has ∙ kept)
      by_case (inr (working, entered)) = inr (working, has ∙ entered.own, entered.opened)
