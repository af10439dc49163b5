-- What a snapshot writes of its tag, over the bytes that its disk's inode had.
use Rattle.std.proofs.Common.{◌≡◌, ℕ, ◌+◌, ◌-◌, ◌<◌, suc, List, [], ◌∷◌, ◌++◌, length, ap, sym, ◌∙◌, append_assoc, arith}
use Rattle.std.specs.Int.{w32}
use Rattle.std.proofs.lemmas.List.{length-replicate, replicate-append-replicate}
use Rattle.object_id.specs.declared.policy.Policy.{Policy}
use Rattle.object_id.specs.Policy.{policy_byte, strips_of}
use Rattle.object_id.specs.Fields.{u8_bytes, u32_bytes, u64_bytes, numbers_bytes, zeros}
use Rattle.object_id.specs.Piece.{laid_over}
use Rattle.object_id.proofs.PieceLemmas.{laid_over-parts}
use Rattle.inode.specs.declared.layout.TheConstants.{TEXT_BYTES}
use Rattle.inode.specs.Layout.{Content, text_bytes, inode_bytes, unread_zeros, no_children, IsFieldText}
use Rattle.peer_proto.specs.declared.work.ObjWork.TheVariants.{Write}
use Rattle.vdi_ops.specs.InodeWorks.{write_tag}
use Rattle.vdi_ops.proofs.TableLemmas.{text_fills}

-- a text in its field of the header
abbrev field : List ℕ → List ℕ
field text = text_bytes text (zeros (TEXT_BYTES - 1 - length text))

-- a text takes the place of an empty one
laid_over-field : (front text rest : List ℕ) → length front ≡ TEXT_BYTES → length text < TEXT_BYTES
    → laid_over (front ++ (field [] ++ rest)) TEXT_BYTES text ≡ front ++ (field text ++ rest)
laid_over-field front text rest at short =
    let end : List ℕ = 0 ∷ zeros (TEXT_BYTES - 1 - length text) in
    let parts : TEXT_BYTES ≡ length text + suc (TEXT_BYTES - 1 - length text) = omega (arith, short) in
    let empty : field [] ≡ zeros (length text) ++ end
    = ap zeros parts ∙ sym (replicate-append-replicate (length text) (suc (TEXT_BYTES - 1 - length text)) 0) in
    ap (λ bytes. laid_over (front ++ (bytes ++ rest)) TEXT_BYTES text) empty
    ∙ ap (λ bytes. laid_over (front ++ bytes) TEXT_BYTES text) (append_assoc (zeros (length text)) end rest)
    ∙ ap (λ place. laid_over (front ++ (zeros (length text) ++ (end ++ rest))) place text) (sym at)
    ∙ laid_over-parts front (zeros (length text)) (end ++ rest) text (length-replicate {A = ℕ} (length text) 0)
    ∙ append_assoc front text (end ++ rest)
    ∙ ap (λ bytes. front ++ bytes) (sym (append_assoc text end rest))

regrouped : (a b c d e f g h i j k l m n rest : List ℕ)
    → (a ++ b ++ c ++ d ++ e ++ f ++ g ++ h ++ i ++ j ++ k ++ l ++ m ++ n) ++ rest
    ≡ a ++ (b ++ (c ++ (d ++ (e ++ (f ++ (g ++ (h ++ (i ++ (j ++ (k ++ (l ++ (m ++ (n ++ rest)))))))))))))
regrouped a b c d e f g h i j k l m n rest = simp append_assoc

-- what stands behind the tag, in an inode as this store writes it
abbrev behind_tag : Content → List ℕ → List ℕ
behind_tag inode rest =
    zeros 24 ++ (u64_bytes inode.spec.size ++ (zeros 8 ++ (u8_bytes (policy_byte inode.spec.policy) ++ (zeros 1
    ++ (u8_bytes (strips_of inode.spec.policy) ++ (u8_bytes inode.spec.shift ++ (u32_bytes inode.snap_id
    ++ (u32_bytes inode.vid ++ (u32_bytes inode.parent ++ (no_children ++ (numbers_bytes w32 inode.table ++ rest)))))))))))

by_fields : (inode : Content) (rest : List ℕ)
    → inode_bytes inode (unread_zeros inode) ++ rest ≡ field inode.name ++ (field inode.tag ++ behind_tag inode rest)
by_fields inode rest = regrouped
    (field inode.name) (field inode.tag) (zeros 24) (u64_bytes inode.spec.size) (zeros 8) (u8_bytes (policy_byte inode.spec.policy))
    (zeros 1) (u8_bytes (strips_of inode.spec.policy)) (u8_bytes inode.spec.shift) (u32_bytes inode.snap_id)
    (u32_bytes inode.vid) (u32_bytes inode.parent) no_children (numbers_bytes w32 inode.table) rest

pub tag_spells : (inode : Content) (tag rest : List ℕ) (oid : ℕ) (policy : Policy) (offset : ℕ) (written : List ℕ)
    → IsFieldText inode.name → IsFieldText tag → write_tag inode tag ≡ Write oid policy offset written
    → laid_over (inode_bytes (record inode { tag = [] }) (unread_zeros (record inode { tag = [] })) ++ rest) offset written
    ≡ inode_bytes (record inode { tag = tag }) (unread_zeros (record inode { tag = tag })) ++ rest
tag_spells inode tag rest oid policy offset written name long is =
    let bytes : List ℕ = field inode.name ++ (field [] ++ behind_tag inode rest) in
    let place : offset ≡ TEXT_BYTES = cc (is) in
    let piece : written ≡ tag = cc (is) in
    ap (λ bytes. laid_over bytes offset written) (by_fields (record inode { tag = [] }) rest)
    ∙ ap (λ place. laid_over bytes place written) place
    ∙ ap (λ piece. laid_over bytes TEXT_BYTES piece) piece
    ∙ laid_over-field (field inode.name) tag (behind_tag inode rest) (text_fills inode.name name.0) long.0
    ∙ sym (by_fields (record inode { tag = tag }) rest)
