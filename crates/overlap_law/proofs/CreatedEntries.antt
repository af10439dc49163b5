-- The entry of an index that the creation of an inode gives it: that of the inode's table, or nothing behind its end.
use Rattle.std.proofs.Common.{◌≡◌, arith, ℕ, zero, suc, ◌+◌, ◌*◌, ◌-◌, ◌^◌, ◌<◌, List, [], ◌∷◌, ◌++◌, length, slice_index, All}
use Rattle.std.proofs.Common.{take, drop, refl, sym, ap, subst, ◌∙◌, append_assoc}
use Rattle.std.specs.Int.{w32, from_le_bytes}
use Rattle.std.proofs.lemmas.List.{length-append, drop-replicate}
use Rattle.std.proofs.lemmas.List.Elements.{All-head, All-tail, All-weaker}
use Rattle.object_id.specs.declared.oid.Kind.{Kind}
use Rattle.object_id.specs.Fields.{u32_at, u32_bytes, numbers_bytes, zeros}
use Rattle.object_id.specs.Oid.{IsVid}
use Rattle.object_id.specs.Piece.{laid_over}
use Rattle.object_id.proofs.FieldLemmas.{u32-read}
use Rattle.object_store.specs.Bytes.{piece_at}
use Rattle.inode.specs.Layout.{Content, IsEntry, header_bytes, inode_bytes, unread_zeros}
use Rattle.inode.specs.declared.layout.TheConstants.{INODE_BYTES, INODE_HEADER_BYTES}
use Rattle.vdi_ops.specs.InodeWorks.{create_inode}
use Rattle.overlap_law.specs.Tables.{entry_unit}
use Rattle.overlap_law.specs.ToDo.{entry_made}
use Rattle.overlap_law.specs.Units.{unit_start, unit_size}
use Rattle.overlap_law.proofs.ChainTables.{at_index}
use Rattle.overlap_law.proofs.DoneReads.{number_in_piece}
use Rattle.overlap_law.proofs.EntryWrites.{entry_start, entry_size}
use Rattle.overlap_law.proofs.KnownDisks.{kind-of_inode}

-- behind a front
pub behind : (front back : List ℕ) (n : ℕ) → drop (length front + n) (front ++ back) ≡ drop n back
behind [] back n = let same : 0 + n ≡ n = omega arith in ap (λ (k : ℕ). drop k back) same
behind (first ∷ front) back n =
    let same : suc (length front) + n ≡ suc (length front + n) = omega arith in
    ap (λ (k : ℕ). drop k (first ∷ (front ++ back))) same ∙ behind front back n

-- zeros are read as none
pub none_in : (count : ℕ) → from_le_bytes w32 (take 4 (zeros count)) ≡ 0
none_in zero = refl
none_in (suc zero) = refl
none_in (suc (suc zero)) = refl
none_in (suc (suc (suc zero))) = refl
none_in (suc (suc (suc (suc count)))) = refl

-- an entry of a table is below what four bytes can say
abbrev Fits : ℕ → Type 0
Fits entry = entry < 2 ^ 32

-- behind a front there are the entries of the table, and behind these none
number_among : (count : ℕ) (front table : List ℕ) (index : ℕ) → All Fits table
    → u32_at (length front + 4 * index) (front ++ (numbers_bytes w32 table ++ zeros count)) ≡ slice_index table index
number_among count front [] index all =
    let at : ℕ = length front + 4 * index in
    let four : at + 4 - at ≡ 4 = omega arith in
    (λ i. from_le_bytes w32 (take (four i) (drop at (front ++ zeros count))))
    ∙ ap (λ (xs : List ℕ). from_le_bytes w32 (take 4 xs)) (behind front (zeros count) (4 * index) ∙ drop-replicate (4 * index) count 0)
    ∙ none_in (count - 4 * index)
number_among count front (first ∷ table) zero all =
    let here = All-head Fits first table all in
    let rest : List ℕ = numbers_bytes w32 table ++ zeros count in
    let at : ℕ = length front + 4 * 0 in
    let bytes : List ℕ = front ++ ((u32_bytes first ++ numbers_bytes w32 table) ++ zeros count) in
    let four : at + 4 ≡ length front + 4 = omega arith in
    let starts : drop at bytes ≡ u32_bytes first ++ rest
    = behind front ((u32_bytes first ++ numbers_bytes w32 table) ++ zeros count) 0
    ∙ append_assoc (u32_bytes first) (numbers_bytes w32 table) (zeros count) in
    let later : drop (at + 4) bytes ≡ rest
    = ap (λ (k : ℕ). drop k bytes) four ∙ behind front ((u32_bytes first ++ numbers_bytes w32 table) ++ zeros count) 4 in
    u32-read bytes at (at + 4) first here
    (record { parts = starts ∙ ap (λ (xs : List ℕ). u32_bytes first ++ xs) (sym later) })
number_among count front (first ∷ table) (suc index) all =
    let four : length (u32_bytes first) ≡ 4 = refl in
    let sum : length (front ++ u32_bytes first) ≡ length front + length (u32_bytes first) = length-append front (u32_bytes first) in
    let at : length (front ++ u32_bytes first) + 4 * index ≡ length front + 4 * suc index = omega (arith, sum, four) in
    let regrouped : (front ++ u32_bytes first) ++ (numbers_bytes w32 table ++ zeros count)
    ≡ front ++ ((u32_bytes first ++ numbers_bytes w32 table) ++ zeros count)
    = append_assoc front (u32_bytes first) (numbers_bytes w32 table ++ zeros count)
    ∙ ap (λ (xs : List ℕ). front ++ xs) (sym (append_assoc (u32_bytes first) (numbers_bytes w32 table) (zeros count))) in
    sym (λ i. u32_at (at i) (regrouped i))
    ∙ number_among count (front ++ u32_bytes first) table index (All-tail Fits first table all)

-- the entry of an index that is created is that of the table, or none
pub created_at : (inode : Content) (index : ℕ) → IsVid inode.vid
    → length (header_bytes inode (unread_zeros inode)) ≡ INODE_HEADER_BYTES → All IsEntry inode.table
    → entry_made index (create_inode inode) ≡ slice_index inode.table index
created_at inode index id head all =
    let unit : ℕ = entry_unit index in
    let header : List ℕ = header_bytes inode (unread_zeros inode) in
    let numbers : List ℕ = numbers_bytes w32 inode.table in
    let left : ℕ = INODE_BYTES - (0 + length (inode_bytes inode (unread_zeros inode))) in
    let whole : List ℕ = laid_over (zeros INODE_BYTES) 0 (inode_bytes inode (unread_zeros inode)) in
    let from : ℕ = INODE_HEADER_BYTES + 4 * index in
    let so : from ≡ length header + 4 * index = omega (arith, head) in
    let same : whole ≡ header ++ (numbers ++ zeros left)
    = ap (λ (xs : List ℕ). (header ++ numbers) ++ xs) (drop-replicate (0 + length (header ++ numbers)) INODE_BYTES 0)
    ∙ append_assoc header numbers (zeros left) in
    let is : entry_made index (create_inode inode) ≡ u32_at (length header + 4 * index) (header ++ (numbers ++ zeros left))
    = ap (λ (k : Kind). u32_at 0 (piece_at whole (unit_start k unit) (unit_size k unit))) (kind-of_inode inode.vid id)
    ∙ (λ i. u32_at 0 (piece_at whole (entry_start index i) (entry_size index i)))
    ∙ number_in_piece whole from
    ∙ (λ i. u32_at (so i) (same i)) in
    is ∙ number_among left header inode.table index
    (All-weaker IsEntry Fits (λ (entry : ℕ) (most : IsEntry entry). omega (arith, most)) inode.table all)

-- so it is as each of the table's, if none is so
pub created_entry : (P : ℕ → Type 0) → P 0 → (inode : Content) (index : ℕ) → IsVid inode.vid
    → length (header_bytes inode (unread_zeros inode)) ≡ INODE_HEADER_BYTES → All (λ (entry : ℕ). IsEntry entry × P entry) inode.table
    → P (entry_made index (create_inode inode))
created_entry P none inode index id head all =
    subst P
    (sym (created_at inode index id head
    (All-weaker (λ (entry : ℕ). IsEntry entry × P entry) IsEntry (λ entry is. is.0) inode.table all)))
    (at_index P none inode.table index
    (All-weaker (λ (entry : ℕ). IsEntry entry × P entry) P (λ entry is. is.1) inode.table all))
