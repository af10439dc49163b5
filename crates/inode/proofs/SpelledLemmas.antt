-- What is read of an inode is spelled at the front of the bytes.
use Rattle.std.proofs.Common.{◌≡◌, ℕ, ◌+◌, ◌*◌, ◌^◌, ◌<◌, ◌≤◌, Bool, true, false, cond, ltb, List, length, take, drop, Result, Ok, Err, refl, sym, ap, subst, ◌∙◌, arith, All}
use Rattle.std.specs.Prelude.{IfOk}
use Rattle.std.specs.List.{list_all}
use Rattle.std.specs.Int.{w32}
use Rattle.std.proofs.lemmas.Bool.{ltb-false}
use Rattle.std.proofs.lemmas.List.{length-take-le, length-drop}
use Rattle.object_id.specs.declared.entry.VdiSpec.{VdiSpec}
use Rattle.object_id.specs.Policy.{policy_byte, strips_of}
use Rattle.object_id.specs.Spec.{objects_of}
use Rattle.object_id.specs.Fields.{u8_bytes, u32_bytes, u64_bytes, numbers_bytes, u8_at, u32_at, u64_at, numbers_at, AreBytes, Stands}
use Rattle.object_id.proofs.FieldLemmas.{stands-then, stands-part, stands-u8, stands-u32, stands-u64, stands-numbers, wide32, u32-below, length-numbers_at, part-length}
use Rattle.inode.specs.declared.layout.TheConstants.{INODE_HEADER_BYTES, TEXT_BYTES, CHILDREN_BYTES}
use Rattle.inode.specs.declared.fault.InodeFault.{InodeFault}
use Rattle.inode.specs.declared.fault.InodeFault.TheVariants as faults
use Rattle.inode.specs.Layout.{Content, UnreadParts, text_bytes, SpellsInode, IsContent, IsEntry}
use Rattle.inode.specs.Reading.{FailsField, GivesOrNoMemory, is_entry, text_at, spec_at, vid_at, table_at, content_at, inode_of}
use Rattle.inode.proofs.TextLemmas.{text-stands}
use Rattle.inode.proofs.TableLemmas.{entries-pass}
use Rattle.inode.proofs.SpecLemmas.{bind-ok, spec-read, vid-read}

-- what is known of a table that was read
record IsTable (spec : VdiSpec) (bytes table : List ℕ) : Type 0 where
  long : INODE_HEADER_BYTES + 4 * objects_of spec ≤ length bytes
  is : numbers_at w32 (objects_of spec) INODE_HEADER_BYTES bytes ≡ table
  entries : All IsEntry table

-- a test that refuses, and one that lets through
refused-not : {A : Type 0} (b : Bool) (fault : InodeFault) (x : Result A InodeFault) (y : A) → cond b (Err fault) x ≡ Ok y → (b ≡ false) × (x ≡ Ok y)
refused-not true fault x y e = absurd cc
refused-not false fault x y e = (refl, e)

let-in : {A : Type 0} (b : Bool) (x y : A) (fault : InodeFault) → cond b (Ok x) (Err fault) ≡ Ok y → (b ≡ true) × (x ≡ y)
let-in true x y fault e = (refl, cc)
let-in false x y fault e = absurd cc

table-read : (spec : VdiSpec) (bytes table : List ℕ) → table_at spec bytes ≡ Ok table → IsTable spec bytes table
unfolding table_at
table-read spec bytes table e =
    let read : List ℕ = numbers_at w32 (objects_of spec) INODE_HEADER_BYTES bytes in
    let short = refused-not (ltb (length bytes) (INODE_HEADER_BYTES + 4 * objects_of spec)) faults.ShortInode _ table e in
    let through = let-in (list_all is_entry read) read table faults.BadEntry short.1 in
    record {
      long = ltb-false (length bytes) (INODE_HEADER_BYTES + 4 * objects_of spec) short.0;
      is = through.1;
      entries = subst (λ (t : List ℕ). All IsEntry t) through.1 (entries-pass read through.0);
    }

-- the parts that were read, each in its place
record IsReadAs (bytes : List ℕ) (content : Content) : Type 0 where
  name : text_at 0 bytes ≡ Ok content.name
  tag : text_at TEXT_BYTES bytes ≡ Ok content.tag
  spec : spec_at bytes ≡ Ok content.spec
  vid : vid_at bytes ≡ Ok content.vid
  table : table_at content.spec bytes ≡ Ok content.table
  snap_id : u32_at 556 bytes ≡ content.snap_id
  parent : u32_at 564 bytes ≡ content.parent

read-as : (bytes : List ℕ) (content : Content) → content_at bytes ≡ Ok content → IsReadAs bytes content
unfolding content_at
read-as bytes content e =
    let n = bind-ok (text_at 0 bytes) _ content e in
    let t = bind-ok (text_at TEXT_BYTES bytes) _ content n.2 in
    let s = bind-ok (spec_at bytes) _ content t.2 in
    let v = bind-ok (vid_at bytes) _ content s.2 in
    let w = bind-ok (table_at s.0 bytes) _ content v.2 in
    let made : Content = record { name = n.0; tag = t.0; spec = s.0; snap_id = u32_at 556 bytes; vid = v.0; parent = u32_at 564 bytes; table = w.0 } in
    let same : made ≡ content = let ok : Ok made ≡ Ok content = w.2 in cc in
    subst (λ (c : Content). IsReadAs bytes c) same (record { name = n.1; tag = t.1; spec = s.1; vid = v.1; table = w.1; snap_id = refl; parent = refl })

content-fits : (bytes : List ℕ) (content : Content) → AreBytes bytes → INODE_HEADER_BYTES ≤ length bytes → IsReadAs bytes content → IsContent content
content-fits bytes content fits long read =
    let table = table-read content.spec bytes content.table read.table in
    record {
      name = (text-stands bytes 0 content.name (omega arith) read.name).valid;
      tag = (text-stands bytes TEXT_BYTES content.tag (omega arith) read.tag).valid;
      spec = (spec-read bytes content.spec read.spec).valid;
      snap_id = subst (λ n. n < 2 ^ 32) read.snap_id (u32-below bytes 556 fits);
      vid = (vid-read bytes content.vid read.vid).1;
      parent = subst (λ n. n < 2 ^ 32) read.parent (u32-below bytes 564 fits);
      count = sym (ap length table.is) ∙ length-numbers_at w32 (objects_of content.spec) INODE_HEADER_BYTES bytes;
      entries = table.entries;
    }

-- the number that was read, in its place
u8-as : (bytes : List ℕ) (at number : ℕ) → at < length bytes → u8_at at bytes ≡ number → Stands bytes at (at + 1) (u8_bytes number)
u8-as bytes at number within is = subst (λ n. Stands bytes at (at + 1) (u8_bytes n)) is (stands-u8 bytes at within)

u32-as : (bytes : List ℕ) (at number : ℕ) → AreBytes bytes → at + 4 ≤ length bytes → u32_at at bytes ≡ number → Stands bytes at (at + 4) (u32_bytes number)
u32-as bytes at number fits within is = subst (λ n. Stands bytes at (at + 4) (u32_bytes n)) is (stands-u32 bytes at fits within)

u64-as : (bytes : List ℕ) (at number : ℕ) → AreBytes bytes → at + 8 ≤ length bytes → u64_at at bytes ≡ number → Stands bytes at (at + 8) (u64_bytes number)
u64-as bytes at number fits within is = subst (λ n. Stands bytes at (at + 8) (u64_bytes n)) is (stands-u64 bytes at fits within)

content-spelled : (bytes : List ℕ) (content : Content) → AreBytes bytes → INODE_HEADER_BYTES ≤ length bytes → IsReadAs bytes content → SpellsInode bytes content
content-spelled bytes content fits long read =
    let name = text-stands bytes 0 content.name (omega arith) read.name in
    let tag = text-stands bytes TEXT_BYTES content.tag (omega arith) read.tag in
    let spec = spec-read bytes content.spec read.spec in
    let vid = vid-read bytes content.vid read.vid in
    let table = table-read content.spec bytes content.table read.table in
    let unread : UnreadParts = record {
      after_name = name.after;
      after_tag = tag.after;
      times = take 24 (drop 512 bytes);
      vm_state_size = take 8 (drop 544 bytes);
      store_policy = take 1 (drop 553 bytes);
      children = take CHILDREN_BYTES (drop 568 bytes);
    } in
    let to_512 = stands-then bytes 0 256 512 (text_bytes content.name name.after) (text_bytes content.tag tag.after) name.stands tag.stands in
    let to_536 = stands-then bytes 0 512 536 _ (take 24 (drop 512 bytes)) to_512 (stands-part bytes 512 24) in
    let to_544 = stands-then bytes 0 536 544 _ (u64_bytes content.spec.size) to_536 (u64-as bytes 536 content.spec.size fits (omega arith) spec.size) in
    let to_552 = stands-then bytes 0 544 552 _ (take 8 (drop 544 bytes)) to_544 (stands-part bytes 544 8) in
    let to_553 = stands-then bytes 0 552 553 _ (u8_bytes (policy_byte content.spec.policy)) to_552 (u8-as bytes 552 (policy_byte content.spec.policy) (omega arith) spec.byte) in
    let to_554 = stands-then bytes 0 553 554 _ (take 1 (drop 553 bytes)) to_553 (stands-part bytes 553 1) in
    let to_555 = stands-then bytes 0 554 555 _ (u8_bytes (strips_of content.spec.policy)) to_554 (u8-as bytes 554 (strips_of content.spec.policy) (omega arith) spec.copies) in
    let to_556 = stands-then bytes 0 555 556 _ (u8_bytes content.spec.shift) to_555 (u8-as bytes 555 content.spec.shift (omega arith) spec.shift) in
    let to_560 = stands-then bytes 0 556 560 _ (u32_bytes content.snap_id) to_556 (u32-as bytes 556 content.snap_id fits (omega arith) read.snap_id) in
    let to_564 = stands-then bytes 0 560 564 _ (u32_bytes content.vid) to_560 (u32-as bytes 560 content.vid fits (omega arith) vid.0) in
    let to_568 = stands-then bytes 0 564 568 _ (u32_bytes content.parent) to_564 (u32-as bytes 564 content.parent fits (omega arith) read.parent) in
    let to_4664 = stands-then bytes 0 568 INODE_HEADER_BYTES _ (take CHILDREN_BYTES (drop 568 bytes)) to_568 (stands-part bytes 568 CHILDREN_BYTES) in
    let entries : Stands bytes INODE_HEADER_BYTES (INODE_HEADER_BYTES + 4 * objects_of content.spec) (numbers_bytes w32 content.table)
    = subst (λ (t : List ℕ). Stands bytes INODE_HEADER_BYTES (INODE_HEADER_BYTES + 4 * objects_of content.spec) (numbers_bytes w32 t)) table.is
    (stands-numbers w32 (2 ^ 32) wide32 bytes fits (objects_of content.spec) INODE_HEADER_BYTES table.long) in
    let whole = stands-then bytes 0 INODE_HEADER_BYTES (INODE_HEADER_BYTES + 4 * objects_of content.spec) _ (numbers_bytes w32 content.table) to_4664 entries in
    record {
      unread = unread;
      rest = drop (INODE_HEADER_BYTES + 4 * objects_of content.spec) bytes;
      fills = record {
        name = name.long;
        tag = tag.long;
        times = part-length bytes 512 24 (omega arith);
        vm_state_size = part-length bytes 544 8 (omega arith);
        store_policy = part-length bytes 553 1 (omega arith);
        children = part-length bytes 568 CHILDREN_BYTES (omega arith);
      };
      whole = whole.parts;
    }

pub inode-spelled : (bytes : List ℕ) (content : Content) → AreBytes bytes → inode_of bytes ≡ Ok content → IsContent content × SpellsInode bytes content
unfolding inode_of
inode-spelled bytes content fits e =
    let short = refused-not (ltb (length bytes) INODE_HEADER_BYTES) faults.ShortInode (content_at bytes) content e in
    let long : INODE_HEADER_BYTES ≤ length bytes = ltb-false (length bytes) INODE_HEADER_BYTES short.0 in
    let read = read-as bytes content short.1 in
    (content-fits bytes content fits long read, content-spelled bytes content fits long read)

-- a refusal that reading gives
pub fails-as : (fault : InodeFault) (read : Result Content InodeFault) → read ≡ Err fault → FailsField fault read
fails-as faults.NoMemory read e = tt
fails-as fault read e = e

pub inode-is_spelled : (bytes : List ℕ) (r : Result Content InodeFault) → AreBytes bytes → GivesOrNoMemory (λ (i : Content). i) r (inode_of bytes)
    → IfOk r (λ (i : Content). IsContent i × SpellsInode bytes i)
inode-is_spelled bytes (Ok content) fits e = inode-spelled bytes content fits e
inode-is_spelled bytes (Err fault) fits e = tt
