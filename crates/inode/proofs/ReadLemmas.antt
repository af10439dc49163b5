-- What is spelled at the front of the bytes is read.
use Rattle.std.proofs.Common.{◌≡◌, ℕ, ◌+◌, ◌-◌, ◌*◌, ◌^◌, ◌<◌, ◌≤◌, Bool, true, false, cond, ltb, List, ◌∷◌, ◌++◌, length, Result, Ok, Err, refl, sym, ap, subst, ◌∙◌, arith, All, append_assoc, lit<}
use Rattle.std.specs.List.{list_all}
use Rattle.std.specs.Int.{w32}
use Rattle.std.proofs.Math.Nat.{pow-le-pow_right, mul-le-mul_left}
use Rattle.std.proofs.lemmas.Bool.{le-ltb}
use Rattle.std.proofs.lemmas.List.{length-append, length-replicate}
use Rattle.object_id.specs.declared.entry.VdiSpec.{VdiSpec}
use Rattle.object_id.specs.Policy.{policy_byte, strips_of}
use Rattle.object_id.specs.Oid.{IsVid}
use Rattle.object_id.specs.Spec.{IsSpec, objects_of}
use Rattle.object_id.specs.Fields.{u8_bytes, u32_bytes, u64_bytes, numbers_bytes, u32_at, u64_at, numbers_at, zeros, Stands}
use Rattle.object_id.proofs.FieldLemmas.{stands-first, stands-second, stands-front, wide32, u8-read, u32-read, u64-read, numbers-read, length-numbers}
use Rattle.inode.specs.declared.layout.TheConstants.{INODE_HEADER_BYTES, TEXT_BYTES, CHILDREN_BYTES}
use Rattle.inode.specs.declared.fault.InodeFault.{InodeFault}
use Rattle.inode.specs.declared.fault.InodeFault.TheVariants as faults
use Rattle.inode.specs.Layout.{Content, UnreadParts, Fills, text_bytes, inode_bytes, unread_zeros, no_children, SpellsInode, IsContent, IsFieldText, IsEntry}
use Rattle.inode.specs.Reading.{GivesOrNoMemory, is_entry, text_at, spec_at, vid_at, table_at, content_at, inode_of}
use Rattle.inode.proofs.TextLemmas.{text-is_read}
use Rattle.inode.proofs.TableLemmas.{pass-entries, entries-fit}
use Rattle.inode.proofs.SpecLemmas.{goes-on, spec-again, vid-again}

-- ---- the parts of a spelling, each in its place

-- the first of two texts, and the second, where the first is so long
record AreNext (bytes : List ℕ) (from at to : ℕ) (first rest : List ℕ) : Type 0 where
  here : Stands bytes from at first
  then : Stands bytes at to rest

next : (bytes : List ℕ) (from at to : ℕ) (first rest : List ℕ) → at ≡ from + length first → Stands bytes from to (first ++ rest) → AreNext bytes from at to first rest
next bytes from at to first rest long stands = record {
  here = stands-first bytes from at to first rest long stands;
  then = stands-second bytes from at to first rest long stands;
}

-- fourteen parts, grouped from the right
grouped : (a b c d e f g h i j k l m t : List ℕ)
    → a ++ b ++ c ++ d ++ e ++ f ++ g ++ h ++ i ++ j ++ k ++ l ++ m ++ t
    ≡ a ++ (b ++ (c ++ (d ++ (e ++ (f ++ (g ++ (h ++ (i ++ (j ++ (k ++ (l ++ (m ++ t))))))))))))
grouped a b c d e f g h i j k l m t = simp append_assoc

-- how long they are together
fourteen : (a b c d e f g h i j k l m t : List ℕ)
    → length (a ++ (b ++ (c ++ (d ++ (e ++ (f ++ (g ++ (h ++ (i ++ (j ++ (k ++ (l ++ (m ++ t)))))))))))))
    ≡ length a + (length b + (length c + (length d + (length e + (length f + (length g + (length h + (length i + (length j + (length k + (length l + (length m + length t))))))))))))
fourteen a b c d e f g h i j k l m t = simp length-append

record ArePlaced (bytes : List ℕ) (content : Content) (unread : UnreadParts) : Type 0 where
  name : Stands bytes 0 256 (text_bytes content.name unread.after_name)
  tag : Stands bytes 256 512 (text_bytes content.tag unread.after_tag)
  size : Stands bytes 536 544 (u64_bytes content.spec.size)
  byte : Stands bytes 552 553 (u8_bytes (policy_byte content.spec.policy))
  copies : Stands bytes 554 555 (u8_bytes (strips_of content.spec.policy))
  shift : Stands bytes 555 556 (u8_bytes content.spec.shift)
  snap_id : Stands bytes 556 560 (u32_bytes content.snap_id)
  vid : Stands bytes 560 564 (u32_bytes content.vid)
  parent : Stands bytes 564 568 (u32_bytes content.parent)
  table : Stands bytes INODE_HEADER_BYTES (INODE_HEADER_BYTES + 4 * length content.table) (numbers_bytes w32 content.table)
  long : INODE_HEADER_BYTES + 4 * length content.table ≤ length bytes

-- fourteen texts of these lengths that stand at the front stand in these places
record AreCut (bytes : List ℕ) (a b c d e f g h i j k l m t : List ℕ) (to : ℕ) : Type 0 where
  at_0 : Stands bytes 0 256 a
  at_256 : Stands bytes 256 512 b
  at_536 : Stands bytes 536 544 d
  at_552 : Stands bytes 552 553 f
  at_554 : Stands bytes 554 555 h
  at_555 : Stands bytes 555 556 i
  at_556 : Stands bytes 556 560 j
  at_560 : Stands bytes 560 564 k
  at_564 : Stands bytes 564 568 l
  at_4664 : Stands bytes INODE_HEADER_BYTES to t

cut : (bytes : List ℕ) (a b c d e f g h i j k l m t : List ℕ) (to : ℕ) → length a ≡ 256 → length b ≡ 256 → length c ≡ 24 → length d ≡ 8 → length e ≡ 8
    → length f ≡ 1 → length g ≡ 1 → length h ≡ 1 → length i ≡ 1 → length j ≡ 4 → length k ≡ 4 → length l ≡ 4 → length m ≡ CHILDREN_BYTES
    → Stands bytes 0 to (a ++ (b ++ (c ++ (d ++ (e ++ (f ++ (g ++ (h ++ (i ++ (j ++ (k ++ (l ++ (m ++ t)))))))))))))
    → AreCut bytes a b c d e f g h i j k l m t to
cut bytes a b c d e f g h i j k l m t to la lb lc ld le lf lg lh li lj lk ll lm whole =
    let pa = next bytes 0 256 to a _ (omega arith) whole in
    let pb = next bytes 256 512 to b _ (omega arith) pa.then in
    let pc = next bytes 512 536 to c _ (omega arith) pb.then in
    let pd = next bytes 536 544 to d _ (omega arith) pc.then in
    let pe = next bytes 544 552 to e _ (omega arith) pd.then in
    let pf = next bytes 552 553 to f _ (omega arith) pe.then in
    let pg = next bytes 553 554 to g _ (omega arith) pf.then in
    let ph = next bytes 554 555 to h _ (omega arith) pg.then in
    let pi = next bytes 555 556 to i _ (omega arith) ph.then in
    let pj = next bytes 556 560 to j _ (omega arith) pi.then in
    let pk = next bytes 560 564 to k _ (omega arith) pj.then in
    let pl = next bytes 564 568 to l _ (omega arith) pk.then in
    let pm = next bytes 568 INODE_HEADER_BYTES to m _ (omega arith) pl.then in
    record {
      at_0 = pa.here;
      at_256 = pb.here;
      at_536 = pd.here;
      at_552 = pf.here;
      at_554 = ph.here;
      at_555 = pi.here;
      at_556 = pj.here;
      at_560 = pk.here;
      at_564 = pl.here;
      at_4664 = pm.then;
    }

placed : (bytes : List ℕ) (content : Content) (unread : UnreadParts) (rest : List ℕ) → Fills content unread → bytes ≡ inode_bytes content unread ++ rest
    → ArePlaced bytes content unread
placed bytes content unread rest fills whole =
    let a : List ℕ = text_bytes content.name unread.after_name in
    let b : List ℕ = text_bytes content.tag unread.after_tag in
    let c : List ℕ = unread.times in
    let d : List ℕ = u64_bytes content.spec.size in
    let e : List ℕ = unread.vm_state_size in
    let f : List ℕ = u8_bytes (policy_byte content.spec.policy) in
    let g : List ℕ = unread.store_policy in
    let h : List ℕ = u8_bytes (strips_of content.spec.policy) in
    let i : List ℕ = u8_bytes content.spec.shift in
    let j : List ℕ = u32_bytes content.snap_id in
    let k : List ℕ = u32_bytes content.vid in
    let l : List ℕ = u32_bytes content.parent in
    let m : List ℕ = unread.children in
    let t : List ℕ = numbers_bytes w32 content.table in
    let all : List ℕ = a ++ (b ++ (c ++ (d ++ (e ++ (f ++ (g ++ (h ++ (i ++ (j ++ (k ++ (l ++ (m ++ t)))))))))))) in
    let same : inode_bytes content unread ≡ all = grouped a b c d e f g h i j k l m t in
    let table_long : length t ≡ 4 * length content.table = length-numbers w32 (2 ^ 32) wide32 content.table in
    let sum = fourteen a b c d e f g h i j k l m t in
    let long : INODE_HEADER_BYTES + 4 * length content.table ≡ length all
    = omega (arith, sum, fills.name, fills.tag, fills.times, fills.vm_state_size, fills.store_policy, fills.children, table_long) in
    let front : bytes ≡ all ++ rest = whole ∙ ap (λ (x : List ℕ). x ++ rest) same in
    let stands : Stands bytes 0 (INODE_HEADER_BYTES + 4 * length content.table) all = stands-front bytes all rest (INODE_HEADER_BYTES + 4 * length content.table) long front in
    let parts = cut bytes a b c d e f g h i j k l m t (INODE_HEADER_BYTES + 4 * length content.table) fills.name fills.tag fills.times refl fills.vm_state_size refl fills.store_policy refl refl refl refl refl fills.children stands in
    record {
      name = parts.at_0;
      tag = parts.at_256;
      size = parts.at_536;
      byte = parts.at_552;
      copies = parts.at_554;
      shift = parts.at_555;
      snap_id = parts.at_556;
      vid = parts.at_560;
      parent = parts.at_564;
      table = parts.at_4664;
      long = omega (arith, ap length front, length-append all rest, long);
    }

-- ---- reading them

not-refused : {A : Type 0} (b : Bool) (fault : InodeFault) (x y : Result A InodeFault) → b ≡ false → x ≡ y → cond b (Err fault) x ≡ y
not-refused b fault x y e h = rw e h

let-through : {A : Type 0} (b : Bool) (x : A) (fault : InodeFault) (y : Result A InodeFault) → b ≡ true → Ok x ≡ y → cond b (Ok x) (Err fault) ≡ y
let-through b x fault y e h = rw e h

table-again : (bytes : List ℕ) (spec : VdiSpec) (table : List ℕ) → length table ≡ objects_of spec → All IsEntry table
    → INODE_HEADER_BYTES + 4 * objects_of spec ≤ length bytes → Stands bytes INODE_HEADER_BYTES (INODE_HEADER_BYTES + 4 * length table) (numbers_bytes w32 table)
    → table_at spec bytes ≡ Ok table
unfolding table_at
table-again bytes spec table count entries long stands =
    let read : numbers_at w32 (objects_of spec) INODE_HEADER_BYTES bytes ≡ table
    = ap (λ n. numbers_at w32 n INODE_HEADER_BYTES bytes) (sym count)
    ∙ numbers-read w32 (2 ^ 32) wide32 bytes table INODE_HEADER_BYTES (INODE_HEADER_BYTES + 4 * length table) (entries-fit table entries) stands in
    not-refused (ltb (length bytes) (INODE_HEADER_BYTES + 4 * objects_of spec)) faults.ShortInode _ (Ok table) (le-ltb (length bytes) (INODE_HEADER_BYTES + 4 * objects_of spec) long)
    (let-through (list_all is_entry (numbers_at w32 (objects_of spec) INODE_HEADER_BYTES bytes)) (numbers_at w32 (objects_of spec) INODE_HEADER_BYTES bytes) faults.BadEntry (Ok table)
    (ap (list_all is_entry) read ∙ pass-entries table entries) (ap (λ (t : List ℕ). Ok t) read))

same-content : (name tag : List ℕ) (spec : VdiSpec) (snap_id vid parent : ℕ) (table : List ℕ) (content : Content) → name ≡ content.name → tag ≡ content.tag
    → spec ≡ content.spec → snap_id ≡ content.snap_id → vid ≡ content.vid → parent ≡ content.parent → table ≡ content.table
    → (let made : Content = record { name = name; tag = tag; spec = spec; snap_id = snap_id; vid = vid; parent = parent; table = table } in made ≡ content)
same-content name tag spec snap_id vid parent table content a b c d e f g = rw (a, b, c, d, e, f, g) refl

size-fits : (spec : VdiSpec) → IsSpec spec → spec.size < 2 ^ 64
size-fits spec valid =
    let power : 2 ^ spec.shift ≤ 2 ^ 24 = pow-le-pow_right (lit< tt) valid.shift.1 in
    let most : 2 ^ 20 * 2 ^ spec.shift ≤ 2 ^ 20 * 2 ^ 24 = mul-le-mul_left (2 ^ 20) power in
    let limit : 2 ^ 20 * 2 ^ 24 < 2 ^ 64 = lit< tt in
    omega (arith, valid.size.1, most, limit)

vid-fits : (vid : ℕ) → IsVid vid → vid < 2 ^ 32
vid-fits vid valid = omega (arith, valid.1)

pub inode-again : (bytes : List ℕ) (content : Content) → IsContent content → SpellsInode bytes content → inode_of bytes ≡ Ok content
unfolding content_at inode_of
inode-again bytes content fits spells =
    let at = placed bytes content spells.unread spells.rest spells.fills spells.whole in
    let size : u64_at 536 bytes ≡ content.spec.size = u64-read bytes 536 544 content.spec.size (size-fits content.spec fits.spec) at.size in
    let long : INODE_HEADER_BYTES ≤ length bytes = omega (arith, at.long) in
    let whole : INODE_HEADER_BYTES + 4 * objects_of content.spec ≤ length bytes = subst (λ n. INODE_HEADER_BYTES + 4 * n ≤ length bytes) fits.count at.long in
    let name : text_at 0 bytes ≡ Ok content.name = text-is_read bytes 0 256 content.name spells.unread.after_name fits.name spells.fills.name at.name in
    let tag : text_at TEXT_BYTES bytes ≡ Ok content.tag = text-is_read bytes TEXT_BYTES 512 content.tag spells.unread.after_tag fits.tag spells.fills.tag at.tag in
    let spec : spec_at bytes ≡ Ok content.spec
    = spec-again bytes content.spec (record {
      valid = fits.spec;
      shift = u8-read bytes 555 556 content.spec.shift at.shift;
      byte = u8-read bytes 552 553 (policy_byte content.spec.policy) at.byte;
      copies = u8-read bytes 554 555 (strips_of content.spec.policy) at.copies;
      size = size;
    }) in
    let vid : vid_at bytes ≡ Ok content.vid = vid-again bytes content.vid (u32-read bytes 560 564 content.vid (vid-fits content.vid fits.vid) at.vid) fits.vid in
    let table : table_at content.spec bytes ≡ Ok content.table = table-again bytes content.spec content.table fits.count fits.entries whole at.table in
    let snap_id : u32_at 556 bytes ≡ content.snap_id = u32-read bytes 556 560 content.snap_id fits.snap_id at.snap_id in
    let parent : u32_at 564 bytes ≡ content.parent = u32-read bytes 564 568 content.parent fits.parent at.parent in
    not-refused (ltb (length bytes) INODE_HEADER_BYTES) faults.ShortInode (content_at bytes) (Ok content) (le-ltb (length bytes) INODE_HEADER_BYTES long)
    (goes-on (text_at 0 bytes) content.name _ (Ok content) name
    (goes-on (text_at TEXT_BYTES bytes) content.tag _ (Ok content) tag
    (goes-on (spec_at bytes) content.spec _ (Ok content) spec
    (goes-on (vid_at bytes) content.vid _ (Ok content) vid
    (goes-on (table_at content.spec bytes) content.table _ (Ok content) table
    (ap (λ (c : Content). Ok c) (same-content content.name content.tag content.spec (u32_at 556 bytes) content.vid (u32_at 564 bytes) content.table content refl refl refl snap_id refl parent refl)))))))

pub inode-is_read : (bytes : List ℕ) (r : Result Content InodeFault) (content : Content) → GivesOrNoMemory (λ (i : Content). i) r (inode_of bytes) → IsContent content
    → SpellsInode bytes content → GivesOrNoMemory (λ (i : Content). i) r (Ok content)
inode-is_read bytes r content given fits spells =
    subst (λ (read : Result Content InodeFault). GivesOrNoMemory (λ (i : Content). i) r read) (inode-again bytes content fits spells) given

pub one-inode : (bytes : List ℕ) (a b : Content) → IsContent a → IsContent b → SpellsInode bytes a → SpellsInode bytes b → a ≡ b
one-inode bytes a b fits_a fits_b spells_a spells_b =
    let same : Ok a ≡ Ok b = sym (inode-again bytes a fits_a spells_a) ∙ inode-again bytes b fits_b spells_b in cc

text-fills : (text : List ℕ) → length text < TEXT_BYTES → length (text_bytes text (zeros (TEXT_BYTES - 1 - length text))) ≡ TEXT_BYTES
text-fills text long =
    omega (arith, length-append text (0 ∷ zeros (TEXT_BYTES - 1 - length text)), length-replicate {A = ℕ} (TEXT_BYTES - 1 - length text) 0)

children-fill : length no_children ≡ CHILDREN_BYTES
unfolding no_children
children-fill = length-replicate {A = ℕ} CHILDREN_BYTES 0

-- what this store writes fills each place
pub zeros-fill : (content : Content) → IsFieldText content.name → IsFieldText content.tag → Fills content (unread_zeros content)
zeros-fill content name tag = record {
  name = text-fills content.name name.0;
  tag = text-fills content.tag tag.0;
  times = refl;
  vm_state_size = refl;
  store_policy = refl;
  children = children-fill;
}

pub encoded-inode : (content : Content) (rest : List ℕ) → IsFieldText content.name → IsFieldText content.tag → SpellsInode (inode_bytes content (unread_zeros content) ++ rest) content
encoded-inode content rest name tag = record {
  unread = unread_zeros content;
  rest = rest;
  fills = zeros-fill content name tag;
  whole = refl;
}
