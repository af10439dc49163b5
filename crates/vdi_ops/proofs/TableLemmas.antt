-- What is taken from an inode that is read, and what is written back.
use Rattle.std.proofs.Common.{◌≡◌, ◌⊎◌, inl, inr, ℕ, ◌+◌, ◌-◌, ◌*◌, ◌/◌, ◌^◌, ◌<◌, ◌≤◌, ◌==◌, Bool, true, false, List, [], ◌∷◌, ◌++◌, length, take, drop, map, All, cond, refl, ap, sym, subst, ◌∙◌, arith, append_assoc}
use Rattle.std.specs.List.{list_any}
use Rattle.std.specs.Int.{w32}
use Rattle.std.proofs.lemmas.Bool.{cond-true, eqb-true}
use Rattle.std.proofs.lemmas.List.{length-append, length-map, length-replicate, drop-append-le, drop_all, drop-drop}
use Rattle.std.proofs.lemmas.List.Elements.{All-nil, All-cons, All-weaker}
use Rattle.std.proofs.lemmas.List.Folds.{Any-from_list_any}
use Rattle.std.proofs.lemmas.Nat.{pow_pos}
use Rattle.std.proofs.Math.Nat.{div-lt_iff_lt-mul}
use Rattle.std.proofs.Math.Seq.{take-append_seam}
use Rattle.object_id.specs.declared.entry.VdiSpec.{VdiSpec}
use Rattle.object_id.specs.Oid.{IsVid}
use Rattle.object_id.specs.Spec.{IsSpec, objects_of}
use Rattle.object_id.specs.Policy.{policy_byte, strips_of}
use Rattle.object_id.specs.Fields.{u8_bytes, u32_bytes, u64_bytes, numbers_bytes, numbers_at, zeros, Stands}
use Rattle.object_id.proofs.FieldLemmas.{wide32, numbers-read, length-numbers_at}
use Rattle.inode.specs.declared.layout.TheConstants.{INODE_BYTES, INODE_HEADER_BYTES, TEXT_BYTES, CHILDREN_BYTES}
use Rattle.inode.specs.Layout.{Content, UnreadParts, Fills, text_bytes, header_bytes, inode_bytes, unread_zeros, no_children, SpellsInode, IsFieldText, IsEntry}
use Rattle.inode.proofs.TableLemmas.{entries-fit}
use Rattle.vdi_ops.specs.Tables.{kept_entry, table_in}
use Rattle.vdi_ops.specs.InodeWorks.{written_bytes, written_back}

-- ---- the entries that count

kept_as : (ids : List ℕ) (entry : ℕ) (there : Bool) → list_any (λ id. id == entry) ids ≡ there
    → (cond there entry 0 ≡ 0) ⊎ (list_any (λ id. id == cond there entry 0) ids ≡ true)
kept_as ids entry true is = inr is
kept_as ids entry false is = inl refl

kept_counts : (ids : List ℕ) (entry : ℕ) → (kept_entry ids entry ≡ 0) ⊎ (list_any (λ id. id == kept_entry ids entry) ids ≡ true)
kept_counts ids entry = kept_as ids entry (list_any (λ id. id == entry) ids) refl

kept_all : (ids entries : List ℕ) → All (λ entry. (entry ≡ 0) ⊎ (list_any (λ id. id == entry) ids ≡ true)) (map (kept_entry ids) entries)
kept_all ids [] = All-nil (λ (entry : ℕ). (entry ≡ 0) ⊎ (list_any (λ id. id == entry) ids ≡ true))
kept_all ids (entry ∷ entries) =
    All-cons (λ (e : ℕ). (e ≡ 0) ⊎ (list_any (λ id. id == e) ids ≡ true)) (kept_entry ids entry) (map (kept_entry ids) entries)
    (kept_counts ids entry) (kept_all ids entries)

pub table_counts : (ids : List ℕ) (spec : VdiSpec) (bytes : List ℕ)
    → All (λ entry. (entry ≡ 0) ⊎ (list_any (λ id. id == entry) ids ≡ true)) (table_in ids spec bytes)
table_counts ids spec bytes = kept_all ids (numbers_at w32 (objects_of spec) INODE_HEADER_BYTES bytes)

-- where the ids that count are ids, each entry is 0 or an id

counting_id : (ids : List ℕ) (entry : ℕ) → All IsVid ids → list_any (λ id. id == entry) ids ≡ true → IsVid entry
counting_id ids entry all there =
    let found = Any-from_list_any (λ id. id == entry) ids there in
    subst IsVid (found.3 ∙ eqb-true found.1 entry found.4) (all found.0 found.1 found.2)

counting_entry : (ids : List ℕ) (entry : ℕ) → All IsVid ids → (entry ≡ 0) ⊎ (list_any (λ id. id == entry) ids ≡ true) → IsEntry entry
counting_entry ids entry all (inl hole) = omega (arith, hole)
counting_entry ids entry all (inr there) = (counting_id ids entry all there).1

pub table_entries : (ids : List ℕ) (spec : VdiSpec) (bytes : List ℕ) → All IsVid ids → All IsEntry (table_in ids spec bytes)
table_entries ids spec bytes all =
    All-weaker (λ entry. (entry ≡ 0) ⊎ (list_any (λ id. id == entry) ids ≡ true)) IsEntry
    (λ entry counts. counting_entry ids entry all counts) (table_in ids spec bytes) (table_counts ids spec bytes)

pub kept_stays : (ids : List ℕ) (entry : ℕ) → list_any (λ id. id == entry) ids ≡ true → kept_entry ids entry ≡ entry
kept_stays ids entry there = cond-true (list_any (λ id. id == entry) ids) entry 0 there

pub table_length : (ids : List ℕ) (spec : VdiSpec) (bytes : List ℕ) → length (table_in ids spec bytes) ≡ objects_of spec
table_length ids spec bytes =
    length-map (numbers_at w32 (objects_of spec) INODE_HEADER_BYTES bytes) (kept_entry ids)
    ∙ length-numbers_at w32 (objects_of spec) INODE_HEADER_BYTES bytes

-- ---- the header in front of the table

thirteen : (a b c d e f g h i j k l m : List ℕ)
    → length (a ++ b ++ c ++ d ++ e ++ f ++ g ++ h ++ i ++ j ++ k ++ l ++ m)
    ≡ length a + length b + length c + length d + length e + length f + length g + length h + length i + length j + length k + length l + length m
thirteen a b c d e f g h i j k l m = simp length-append

pub header_length : (content : Content) (unread : UnreadParts) → Fills content unread → length (header_bytes content unread) ≡ INODE_HEADER_BYTES
header_length content unread fills =
    let sum = thirteen
    (text_bytes content.name unread.after_name) (text_bytes content.tag unread.after_tag) unread.times
    (u64_bytes content.spec.size) unread.vm_state_size (u8_bytes (policy_byte content.spec.policy)) unread.store_policy
    (u8_bytes (strips_of content.spec.policy)) (u8_bytes content.spec.shift) (u32_bytes content.snap_id)
    (u32_bytes content.vid) (u32_bytes content.parent) unread.children in
    let eight : length (u64_bytes content.spec.size) ≡ 8 = refl in
    let policy : length (u8_bytes (policy_byte content.spec.policy)) ≡ 1 = refl in
    let strips : length (u8_bytes (strips_of content.spec.policy)) ≡ 1 = refl in
    let shift : length (u8_bytes content.spec.shift) ≡ 1 = refl in
    let snap_id : length (u32_bytes content.snap_id) ≡ 4 = refl in
    let vid : length (u32_bytes content.vid) ≡ 4 = refl in
    let parent : length (u32_bytes content.parent) ≡ 4 = refl in
    omega (arith, sum, fills.name, fills.tag, fills.times, fills.vm_state_size, fills.store_policy, fills.children, eight, policy, strips, shift, snap_id, vid, parent)

behind_front : (front back : List ℕ) (n : ℕ) → length front ≡ n → drop n (front ++ back) ≡ back
behind_front front back n long =
    drop-append-le n front back (omega (arith, long)) ∙ ap (λ xs. xs ++ back) (drop_all n front (omega (arith, long)))

-- what stands behind the header of bytes that spell an inode
behind_header : (bytes : List ℕ) (read : Content) (s : SpellsInode bytes read)
    → drop INODE_HEADER_BYTES bytes ≡ numbers_bytes w32 read.table ++ s.rest
behind_header bytes read s =
    let parts : bytes ≡ header_bytes read s.unread ++ (numbers_bytes w32 read.table ++ s.rest)
    = s.whole ∙ append_assoc (header_bytes read s.unread) (numbers_bytes w32 read.table) s.rest in
    ap (drop INODE_HEADER_BYTES) parts
    ∙ behind_front (header_bytes read s.unread) (numbers_bytes w32 read.table ++ s.rest) INODE_HEADER_BYTES
    (header_length read s.unread s.fills)

table_stands : (bytes : List ℕ) (read : Content) (s : SpellsInode bytes read)
    → Stands bytes INODE_HEADER_BYTES (INODE_HEADER_BYTES + length (numbers_bytes w32 read.table)) (numbers_bytes w32 read.table)
table_stands bytes read s =
    let behind : drop (INODE_HEADER_BYTES + length (numbers_bytes w32 read.table)) bytes ≡ s.rest
    = sym (drop-drop (length (numbers_bytes w32 read.table)) INODE_HEADER_BYTES bytes)
    ∙ ap (drop (length (numbers_bytes w32 read.table))) (behind_header bytes read s)
    ∙ behind_front (numbers_bytes w32 read.table) s.rest (length (numbers_bytes w32 read.table)) refl in
    record { parts = behind_header bytes read s ∙ ap (λ rest. numbers_bytes w32 read.table ++ rest) (sym behind) }

pub table_read : (ids : List ℕ) (spec : VdiSpec) (bytes : List ℕ) (read : Content) → SpellsInode bytes read
    → All IsEntry read.table → length read.table ≡ objects_of spec → table_in ids spec bytes ≡ map (kept_entry ids) read.table
table_read ids spec bytes read s entries count =
    ap (λ n. map (kept_entry ids) (numbers_at w32 n INODE_HEADER_BYTES bytes)) (sym count)
    ∙ ap (map (kept_entry ids))
    (numbers-read w32 (2 ^ 32) wide32 bytes read.table INODE_HEADER_BYTES
    (INODE_HEADER_BYTES + length (numbers_bytes w32 read.table)) (entries-fit read.table entries) (table_stands bytes read s))

pub text_fills : (text : List ℕ) → length text < TEXT_BYTES → length (text_bytes text (zeros (TEXT_BYTES - 1 - length text))) ≡ TEXT_BYTES
text_fills text long =
    omega (arith, length-append text (0 ∷ zeros (TEXT_BYTES - 1 - length text)), length-replicate {A = ℕ} (TEXT_BYTES - 1 - length text) 0)

children_fill : length no_children ≡ CHILDREN_BYTES
unfolding no_children
children_fill = length-replicate {A = ℕ} CHILDREN_BYTES 0

pub blank_fills : (content : Content) → IsFieldText content.name → IsFieldText content.tag → Fills content (unread_zeros content)
blank_fills content name tag = record {
  name = text_fills content.name name.0;
  tag = text_fills content.tag tag.0;
  times = refl;
  vm_state_size = refl;
  store_policy = refl;
  children = children_fill;
}

pub written_spells : (inode read : Content) (bytes : List ℕ) → IsFieldText inode.name → IsFieldText inode.tag → SpellsInode bytes read
    → SpellsInode (written_back inode bytes) (record inode { table = read.table })
written_spells inode read bytes name tag s =
    let head : List ℕ = header_bytes inode (unread_zeros inode) in
    let fills : Fills inode (unread_zeros inode) = blank_fills inode name tag in
    let long : 0 + length head ≡ INODE_HEADER_BYTES = ap (λ n. 0 + n) (header_length inode (unread_zeros inode) fills) in
    record {
      unread = unread_zeros inode;
      rest = s.rest;
      fills = blank_fills (record inode { table = read.table }) name tag;
      whole =
          ap (λ n. head ++ drop n bytes) long
          ∙ ap (λ xs. head ++ xs) (behind_header bytes read s)
          ∙ sym (append_assoc head (numbers_bytes w32 read.table) s.rest);
    }

-- the header's bytes are the first of an inode's
pub first_bytes : (inode : Content) → IsFieldText inode.name → IsFieldText inode.tag
    → take INODE_HEADER_BYTES (inode_bytes inode (unread_zeros inode)) ≡ header_bytes inode (unread_zeros inode)
first_bytes inode name tag =
    let head : List ℕ = header_bytes inode (unread_zeros inode) in
    ap (λ n. take n (head ++ numbers_bytes w32 inode.table)) (sym (header_length inode (unread_zeros inode) (blank_fills inode name tag)))
    ∙ take-append_seam head (numbers_bytes w32 inode.table)

-- as many as the entries of a table
pub spelled_length : (inode : Content) → IsFieldText inode.name → IsFieldText inode.tag
    → INODE_HEADER_BYTES ≤ length (inode_bytes inode (unread_zeros inode))
spelled_length inode name tag =
    let head : List ℕ = header_bytes inode (unread_zeros inode) in
    let long = header_length inode (unread_zeros inode) (blank_fills inode name tag) in
    let sum = length-append head (numbers_bytes w32 inode.table) in
    omega (arith, long, sum)

-- ---- how long it is

div_most : (size object : ℕ) → 0 < object → size ≤ 2 ^ 20 * object → (size + object - 1) / object ≤ 2 ^ 20
div_most size object some most =
    let below : size + object - 1 < (2 ^ 20 + 1) * object = omega (arith, some, most) in
    let quotient : (size + object - 1) / object < 2 ^ 20 + 1 = (div-lt_iff_lt-mul some).1 below in
    omega (arith, quotient)

pub objects_most : (spec : VdiSpec) → IsSpec spec → objects_of spec ≤ 2 ^ 20
objects_most spec valid = div_most spec.size (2 ^ spec.shift) (pow_pos spec.shift) valid.size.1

pub room : (spec : VdiSpec) → IsSpec spec → written_bytes spec ≤ INODE_BYTES
room spec valid = omega (arith, objects_most spec valid)
