-- How long an inode's spelling is.
use Rattle.std.proofs.Common.{◌≡◌, ℕ, ◌+◌, ◌*◌, ◌^◌, List, ◌++◌, length, refl, ap₂, ◌∙◌, arith}
use Rattle.std.specs.Int.{w32}
use Rattle.std.proofs.lemmas.List.{length-append}
use Rattle.object_id.specs.Fields.{u8_bytes, u32_bytes, u64_bytes, numbers_bytes}
use Rattle.object_id.specs.Policy.{policy_byte, strips_of}
use Rattle.object_id.proofs.FieldLemmas.{wide32, length-numbers}
use Rattle.inode.specs.declared.layout.TheConstants.{INODE_HEADER_BYTES}
use Rattle.inode.specs.Layout.{Content, UnreadParts, Fills, IsFieldText, text_bytes, header_bytes, inode_bytes, unread_zeros}
use Rattle.inode.proofs.ReadLemmas.{zeros-fill}

six_long : (a b c d e f : List ℕ) → length (a ++ b ++ c ++ d ++ e ++ f) ≡ length a + length b + length c + length d + length e + length f
six_long a b c d e f =
    omega (
      arith,
      length-append (a ++ b ++ c ++ d ++ e) f,
      length-append (a ++ b ++ c ++ d) e,
      length-append (a ++ b ++ c) d,
      length-append (a ++ b) c,
      length-append a b,
    )

pub length-header_bytes : (content : Content) (unread : UnreadParts) → Fills content unread
    → length (header_bytes content unread) ≡ INODE_HEADER_BYTES
length-header_bytes content unread fills =
    let a : List ℕ = text_bytes content.name unread.after_name in
    let b : List ℕ = text_bytes content.tag unread.after_tag in
    let d : List ℕ = u64_bytes content.spec.size in
    let f : List ℕ = u8_bytes (policy_byte content.spec.policy) in
    let front : List ℕ = a ++ b ++ unread.times ++ d ++ unread.vm_state_size ++ f in
    let h : List ℕ = u8_bytes (strips_of content.spec.policy) in
    let i : List ℕ = u8_bytes content.spec.shift in
    let j : List ℕ = u32_bytes content.snap_id in
    let k : List ℕ = u32_bytes content.vid in
    let middle : List ℕ = front ++ unread.store_policy ++ h ++ i ++ j ++ k in
    let l : List ℕ = u32_bytes content.parent in
    let of_d : length d ≡ 8 = refl in
    let of_f : length f ≡ 1 = refl in
    let of_h : length h ≡ 1 = refl in
    let of_i : length i ≡ 1 = refl in
    let of_j : length j ≡ 4 = refl in
    let of_k : length k ≡ 4 = refl in
    let of_l : length l ≡ 4 = refl in
    let of_front = six_long a b unread.times d unread.vm_state_size f in
    let of_middle = six_long front unread.store_policy h i j k in
    omega (
      arith,
      of_d,
      of_f,
      of_h,
      of_i,
      of_j,
      of_k,
      of_l,
      of_front,
      of_middle,
      fills.name,
      fills.tag,
      fills.times,
      fills.vm_state_size,
      fills.store_policy,
      fills.children,
      length-append (middle ++ l) unread.children,
      length-append middle l,
    )

pub length-inode_bytes : (content : Content) (unread : UnreadParts) → Fills content unread
    → length (inode_bytes content unread) ≡ INODE_HEADER_BYTES + 4 * length content.table
length-inode_bytes content unread fills =
    length-append (header_bytes content unread) (numbers_bytes w32 content.table)
    ∙ ap₂ ◌+◌ (length-header_bytes content unread fills) (length-numbers w32 (2 ^ 32) wide32 content.table)

pub length-written : (content : Content) → IsFieldText content.name → IsFieldText content.tag
    → length (inode_bytes content (unread_zeros content)) ≡ INODE_HEADER_BYTES + 4 * length content.table
length-written content name tag = length-inode_bytes content (unread_zeros content) (zeros-fill content name tag)
