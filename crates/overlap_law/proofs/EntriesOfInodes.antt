-- What the copies of inodes say: an own entry stands for an object that was made, as the attempt that wrote it does; and where the last
-- attempt on an inode is made, the copies that reach its epoch agree on what it covers.
use Rattle.std.proofs.Common.{◌≡◌, ◌⊎◌, inl, inr, ⊎_elim, arith, ℕ, suc, ◌+◌, ◌*◌, ◌-◌, ◌<◌, ◌≤◌, ◌==◌, ◌&&◌, nat_le, Bool, true}
use Rattle.std.proofs.Common.{false, List, [], ◌∷◌, length, take, drop, Option, Some, None, slice_get, refl, sym, ap, subst, ◌∙◌}
use Rattle.std.specs.Int.{w32, from_le_bytes}
use Rattle.std.specs.List.{last_or, list_any}
use Rattle.std.specs.FinMap as tree
use Rattle.std.proofs.lemmas.Bool.{eq-eqb, eqb-true, le-leb}
use Rattle.std.proofs.lemmas.List.{take-take}
use Rattle.std.proofs.lemmas.Map.Keys.{any_passes_from_place}
use Rattle.std.proofs.lemmas.Option.{same_Some, slice_get_within}
use Rattle.object_id.specs.declared.entry.Entry.{Entry}
use Rattle.object_id.specs.declared.limits.TheConstants.{OBJECTS_MAX}
use Rattle.object_id.specs.declared.oid.Kind.{Kind}
use Rattle.object_id.specs.declared.oid.Kind.TheVariants.{Inode}
use Rattle.object_id.specs.declared.policy.Policy.{Policy}
use Rattle.object_id.specs.declared.policy.Policy.TheVariants.{Copies, Coded}
use Rattle.object_id.specs.Fields.{u32_at}
use Rattle.object_id.specs.Oid.{IsVid, kind_of, inode_number, object_number}
use Rattle.object_store.specs.Bytes.{piece_at}
use Rattle.object_store.specs.Store.{SeenRow, rows_of}
use Rattle.gf256.specs.Part.{part, is_in_strips}
use Rattle.inode.specs.declared.layout.TheConstants.{INODE_HEADER_BYTES, INODE_BYTES}
use Rattle.vdi_directory.specs.Decisions.{log_effects}
use Rattle.peer_service.specs.State.{row_size}
use Rattle.peer_proto.specs.Work.{policy_of}
use Rattle.sheep_world.specs.World.{Host}
use Rattle.overlap_law.specs.Attempts.{AttemptRecord, object_of, attempts_on}
use Rattle.overlap_law.specs.BornObjects.{IsBorn}
use Rattle.overlap_law.specs.Each.{Placing, end_of_row, policy_in}
use Rattle.overlap_law.specs.Facts.{entry_in, is_made_create, HaveOneTable, EntriesNameMadeObjects}
use Rattle.overlap_law.specs.Fates.{FatesAreOfTheWire, AttemptsAreShaped, IsCreated}
use Rattle.overlap_law.specs.Holders.{creates}
use Rattle.overlap_law.specs.Overlap.{CallsFewer}
use Rattle.overlap_law.specs.Packets.{Wire}
use Rattle.overlap_law.specs.Rows.{RowsHaveEnds, RowsAreAtTargets, RowsAreWhole}
use Rattle.overlap_law.specs.Since.{RowsAreSince, CopiesAreOfAttempts, reading_by}
use Rattle.overlap_law.specs.Tables.{entry_unit, entry_by, OwnEntriesAreMade}
use Rattle.overlap_law.specs.Units.{unit_start, unit_size, unit_end, row_bytes_at, covers_unit, bytes_by, unit_part_by}
use Rattle.overlap_law.specs.Words.{Hosts, is_made, is_doomed, last_of}
use Rattle.overlap_law.proofs.AvailableTargets.{first_there, first_at}
use Rattle.overlap_law.proofs.ContentsOfRows.{owes_made, spec_there}
use Rattle.overlap_law.proofs.CopyUnits.{whole_part, whole_size}
use Rattle.overlap_law.proofs.EntryWrites.{entry_start, entry_size}
use Rattle.overlap_law.proofs.FateLemmas.{made-not_doomed}
use Rattle.overlap_law.proofs.KnownDisks.{kind-of_inode}
use Rattle.overlap_law.proofs.OverlapLemmas.{filter-passed}

-- inodes are kept in whole copies
pub inodes_whole : (policy : Policy) → is_in_strips policy Inode ≡ false
inodes_whole (Copies copies) = refl
inodes_whole (Coded d p) = refl

-- ---- own entries

-- the entry in a copy is that of its unit
pub entry_of_unit : (policy : Policy) (index : ℕ) (bytes : List ℕ)
    → u32_at 0 (row_bytes_at policy Inode (entry_unit index) bytes) ≡ entry_in index bytes
entry_of_unit policy index bytes =
    let at : ℕ = INODE_HEADER_BYTES + 4 * index in
    let start = whole_size policy Inode (inodes_whole policy) (unit_start Inode (entry_unit index)) ∙ entry_start index in
    let size = whole_size policy Inode (inodes_whole policy) (unit_size Inode (entry_unit index)) ∙ entry_size index in
    let four : 4 ≡ at + 4 - at = omega arith in
    (λ i. u32_at 0 (piece_at bytes (start i) (size i)))
    ∙ ap from_four (take-take 4 4 (drop at bytes) (omega arith) ∙ ap (λ (n : ℕ). take n (drop at bytes)) four)
  where
    from_four : List ℕ → ℕ
    from_four bytes = from_le_bytes w32 bytes

all_three : (a b c : Bool) → a ≡ true → b ≡ true → c ≡ true → (a && b && c) ≡ true
all_three a b c one two three = cc (one, two, three)

created_among : (attempts : List AttemptRecord) (oid epoch : ℕ) → IsCreated attempts oid epoch
    → list_any (is_made_create oid) attempts ≡ true
created_among attempts oid epoch is = any_passes_from_place (is_made_create oid) attempts is.place is.create is.there
    (all_three (object_of is.create == oid) (creates is.create) (is_made is.create)
    (eq-eqb (object_of is.create) oid is.object) is.creating is.made)

module _ {T : Placing} {log : List Entry} {hosts : Hosts} {attempts : List AttemptRecord} {live : ℕ → Bool}
    (shape : AttemptsAreShaped T log attempts) (row_shape : RowsAreWhole (log_effects log) hosts)
    (of_attempts : CopiesAreOfAttempts (log_effects log) live hosts attempts) (own : OwnEntriesAreMade live attempts)
    (born : (oid : ℕ) → live oid ≡ true → IsBorn attempts oid) where
  pub own_entries : (vid : ℕ) → IsVid vid → live (inode_number vid) ≡ true → (n : ℕ) (host : Host) → tree.get hosts n ≡ Some host → (i : ℕ)
      → (row : SeenRow) → slice_get (rows_of host.node.peer.rows (inode_number vid)) i ≡ Some row → (index : ℕ) → index < OBJECTS_MAX
      → entry_in index row.bytes ≡ vid → list_any (is_made_create (object_number vid index)) attempts ≡ true
  own_entries vid id lives n host at i row row_at index below says = by_attempt copies
    where
      oid : ℕ
      oid = inode_number vid

      first : (create : AttemptRecord) × (place : ℕ) × (slice_get attempts place ≡ Some create) × (object_of create ≡ oid)
      first =
          let one = first_there oid attempts (born oid lives) in
          let there = first_at oid attempts one.0 one.1 in
          (one.0, there.0, there.1, there.2)

      policy : Policy
      policy = policy_of first.0.work

      known : policy_in (log_effects log) oid ≡ Some policy
      known = subst (λ (q : ℕ). policy_in (log_effects log) q ≡ Some policy) first.3 (shape.policy first.1 first.0 first.2)

      kind : kind_of oid ≡ Inode
      kind = kind-of_inode vid id

      long : length row.bytes ≡ INODE_BYTES
      long =
          let spec = spec_there log oid policy known in
          row_shape.each n host at oid i row row_at spec.0 spec.1 ∙ ap (λ (k : Kind). row_size k spec.0) kind
          ∙ whole_size spec.0.policy Inode (inodes_whole spec.0.policy) INODE_BYTES

      inside : nat_le (unit_end Inode (entry_unit index)) (length row.bytes) ≡ true
      inside =
          let start = entry_start index in
          let size = entry_size index in
          le-leb (unit_end Inode (entry_unit index)) (length row.bytes) (omega (arith, start, size, long, below))

      HasIt : ℕ → AttemptRecord → Type 0
      HasIt j attempt = (slice_get (attempts_on oid attempts) j ≡ Some attempt) × (covers_unit (entry_unit index) attempt ≡ true)
          × (row_bytes_at policy Inode (entry_unit index) row.bytes ≡ unit_part_by row.index (entry_unit index) attempt.work)

      copies : (j : ℕ) × (attempt : AttemptRecord) × HasIt j attempt
      copies =
          let of_them = of_attempts.each n host at oid i row row_at policy lives known
          (ap (λ (k : Kind). is_in_strips policy k) kind ∙ inodes_whole policy) in
          let found = of_them.each (entry_unit index)
          (ap (λ (k : Kind). nat_le (unit_end k (entry_unit index)) (length row.bytes)) kind ∙ inside) in (
            found.0,
            found.1,
            (
              found.2,
              found.3.0,
              sym (ap (λ (k : Kind). row_bytes_at policy k (entry_unit index) row.bytes) kind) ∙ found.3.1,
            ),
          )

      by_attempt : (j : ℕ) × (attempt : AttemptRecord) × HasIt j attempt
          → list_any (is_made_create (object_number vid index)) attempts ≡ true
      by_attempt (j, attempt, (there, covers, same)) =
          let found = filter-passed (λ (a : AttemptRecord). object_of a == oid) attempts j attempt there in
          let object = eqb-true (object_of attempt) oid found.passed in
          let inode : kind_of (object_of attempt) ≡ Inode = ap kind_of object ∙ kind in
          let part_is : unit_part_by row.index (entry_unit index) attempt.work ≡ bytes_by (entry_unit index) attempt.work
          = ap (λ (k : Kind). part (policy_of attempt.work) k row.index (bytes_by (entry_unit index) attempt.work)) inode
          ∙ whole_part (policy_of attempt.work) Inode (inodes_whole (policy_of attempt.work)) row.index
          (bytes_by (entry_unit index) attempt.work) in
          let entry : entry_by index attempt ≡ vid
          = ap (λ (bytes : List ℕ). u32_at 0 bytes) (sym (same ∙ part_is)) ∙ entry_of_unit policy index row.bytes ∙ says in
          created_among attempts (object_number vid index) attempt.epoch
          (own.each found.place attempt found.there vid index id object lives below covers entry)

-- ---- one table

-- the last of some attempts ends them
ends_them : (attempts : List AttemptRecord) (first : Option AttemptRecord) (last : AttemptRecord) → last_or first attempts ≡ Some last
    → ((first ≡ Some last) × (length attempts ≡ 0))
    ⊎ ((place : ℕ) × (slice_get attempts place ≡ Some last) × (length attempts ≡ suc place))
ends_them [] first last is = inl (is, refl)
ends_them (attempt ∷ attempts) first last is = ⊎_elim
    (λ (none : (Some attempt ≡ Some last) × (length attempts ≡ 0)). inr (0, none.0, ap suc none.1))
    (λ (some : (place : ℕ) × (slice_get attempts place ≡ Some last) × (length attempts ≡ suc place)).
    inr (suc some.0, some.1, ap suc some.2))
    (ends_them attempts (Some attempt) last is)

last_ends : (attempts : List AttemptRecord) (last : AttemptRecord) → last_of attempts ≡ Some last
    → (place : ℕ) × (slice_get attempts place ≡ Some last) × (length attempts ≡ suc place)
last_ends attempts last is = ⊎_elim
    (λ (none : (None ≡ Some last) × (length attempts ≡ 0)). absurd (cc (none.0)))
    (λ (some : (place : ℕ) × (slice_get attempts place ≡ Some last) × (length attempts ≡ suc place)). some)
    (ends_them attempts None last is)

module _ {T : Placing} {log : List Entry} {hosts : Hosts} {wire : Wire} {attempts : List AttemptRecord} {good : ℕ → Bool}
    (fates : FatesAreOfTheWire wire attempts) (shape : AttemptsAreShaped T log attempts) (ends : RowsHaveEnds hosts)
    (placed : RowsAreAtTargets T (log_effects log) hosts) (since : RowsAreSince (log_effects log) good hosts attempts) (vid : ℕ)
    (id : IsVid vid)
    (is_good : good (inode_number vid) ≡ true) (last : AttemptRecord)
    (is_last : last_of (attempts_on (inode_number vid) attempts) ≡ Some last) (made : is_made last ≡ true) where
  abbrev oid : ℕ
  oid = inode_number vid

  abbrev on : List AttemptRecord
  on = attempts_on (inode_number vid) attempts

  at_end : (place : ℕ) × (slice_get on place ≡ Some last) × (length on ≡ suc place)
  at_end = last_ends on last is_last

  among : (place : ℕ) × (slice_get attempts place ≡ Some last) × (object_of last ≡ oid)
  among =
      let found = filter-passed (λ (a : AttemptRecord). object_of a == oid) attempts at_end.0 last at_end.1 in
      (found.place, found.there, eqb-true (object_of last) oid found.passed)

  -- a copy that reaches its epoch has its bytes
  has_last : (n : ℕ) (host : Host) → tree.get hosts n ≡ Some host → (i : ℕ) (row : SeenRow)
      → slice_get (rows_of host.node.peer.rows oid) i ≡ Some row → last.epoch ≤ end_of_row host.node.peer.epoch row.to → (unit : ℕ)
      → covers_unit unit last ≡ true
      → row_bytes_at (policy_of last.work) (kind_of (object_of last)) unit row.bytes ≡ bytes_by unit last.work
  has_last n host at i row row_at reaches unit covers = ⊎_elim
      (λ (doomed : is_doomed hosts last ≡ true). absurd (let stands = made-not_doomed hosts last made in cc (doomed, stands)))
      (λ (read : reading_by (is_in_strips (policy_of last.work) (kind_of oid)) on unit at_end.0 row.index
      (row_bytes_at (policy_of last.work) (kind_of oid) unit row.bytes)).
      ap (λ (q : ℕ). row_bytes_at (policy_of last.work) (kind_of q) unit row.bytes) among.2
      ∙ of_copy (row_bytes_at (policy_of last.work) (kind_of oid) unit row.bytes)
      (subst
      (λ (b : Bool). reading_by b on unit at_end.0 row.index (row_bytes_at (policy_of last.work) (kind_of oid) unit row.bytes)) whole read))
      ((since.each n host at oid i row row_at (policy_of last.work) is_good policy).each at_end.0 last at_end.1 unit covers
      (owes_made fates shape ends placed n host at oid i row row_at among.0 last among.1 among.2 made reaches))
    where
      policy : policy_in (log_effects log) oid ≡ Some (policy_of last.work)
      policy = subst (λ (q : ℕ). policy_in (log_effects log) q ≡ Some (policy_of last.work)) among.2 (shape.policy among.0 last among.1)

      whole : is_in_strips (policy_of last.work) (kind_of oid) ≡ false
      whole = ap (λ (k : Kind). is_in_strips (policy_of last.work) k) (kind-of_inode vid id) ∙ inodes_whole (policy_of last.work)

      kind : kind_of (object_of last) ≡ Inode
      kind = ap kind_of among.2 ∙ kind-of_inode vid id

      of_copy : (bytes : List ℕ) → reading_by false on unit at_end.0 row.index bytes → bytes ≡ bytes_by unit last.work
      of_copy bytes read =
          let within = slice_get_within on read.place read.attempt read.there in
          let long = at_end.2 in
          let below = read.no_earlier in
          let same_place : read.place ≡ at_end.0 = omega (arith, within, long, below) in
          let there = subst (λ (k : ℕ). slice_get on k ≡ Some read.attempt) same_place read.there in
          let one : read.attempt ≡ last = same_Some read.attempt last (sym there ∙ at_end.1) in
          read.same ∙ ap (λ (a : AttemptRecord). unit_part_by row.index unit a.work) one
          ∙ ap (λ (k : Kind). part (policy_of last.work) k row.index (bytes_by unit last.work)) kind
          ∙ whole_part (policy_of last.work) Inode (inodes_whole (policy_of last.work)) row.index (bytes_by unit last.work)

  -- so two of them agree
  pub one_table : (n : ℕ) (host : Host) → tree.get hosts n ≡ Some host → (i : ℕ) (row : SeenRow)
      → slice_get (rows_of host.node.peer.rows oid) i ≡ Some row → last.epoch ≤ end_of_row host.node.peer.epoch row.to
      → (m : ℕ) (other : Host) → tree.get hosts m ≡ Some other → (k : ℕ) (copy : SeenRow)
      → slice_get (rows_of other.node.peer.rows oid) k ≡ Some copy → last.epoch ≤ end_of_row other.node.peer.epoch copy.to
      → HaveOneTable last row.bytes copy.bytes
  one_table n host at i row row_at reaches m other at_other k copy copy_at reaches_too unit table covers =
      has_last n host at i row row_at reaches unit covers ∙ sym (has_last m other at_other k copy copy_at reaches_too unit covers)

-- ---- both, of an inode that is good

module _ {T : Placing} {log : List Entry} {hosts : Hosts} {wire : Wire} {attempts : List AttemptRecord} {live good : ℕ → Bool}
    (lives : CallsFewer good live) (born : (oid : ℕ) → live oid ≡ true → IsBorn attempts oid) (fates : FatesAreOfTheWire wire attempts)
    (shape : AttemptsAreShaped T log attempts) (ends : RowsHaveEnds hosts) (row_shape : RowsAreWhole (log_effects log) hosts)
    (placed : RowsAreAtTargets T (log_effects log) hosts) (of_attempts : CopiesAreOfAttempts (log_effects log) live hosts attempts)
    (since : RowsAreSince (log_effects log) good hosts attempts) (own : OwnEntriesAreMade live attempts) where
  pub entries_named : (vid : ℕ) → IsVid vid → good (inode_number vid) ≡ true → EntriesNameMadeObjects hosts vid attempts
  entries_named vid id is_good = record {
    own = own_entries shape row_shape of_attempts own born vid id (lives (inode_number vid) is_good);
    one_table = λ last is_last made. one_table fates shape ends placed since vid id is_good last is_last made;
  }
