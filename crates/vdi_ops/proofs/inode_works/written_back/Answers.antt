use Rattle.std.proofs.Common.{◌≤◌, ℕ, List, length, take, ap, sym, subst, ◌∙◌}
use Rattle.inode.specs.declared.layout.TheConstants.{INODE_HEADER_BYTES}
use Rattle.object_id.specs.Piece.{laid_over}
use Rattle.vdi_ops.proofs.IdLemmas.{whole_slice}
use Rattle.vdi_ops.proofs.TableLemmas.{first_bytes, spelled_length}
use Rattle.vdi_ops.proofs.inode_works.written_back.Goals as goal

pub lay_header-requires-clause-whole : goal.lay_header-requires-clause-whole
lay_header-requires-clause-whole c =
    subst (λ (xs : List ℕ). INODE_HEADER_BYTES ≤ length xs) (sym (c.as_slice.ensures ∙ c.in_ok-spelled.ensures))
    (spelled_length c.args.inode.now c.requires.texts.0 c.requires.texts.1)

pub returns : goal.returns
returns c =
    let bytes : List ℕ = c.args.bytes.now in
    let items = c.as_mut_slice.ensures.value in
    c.from_vec.ensures
    ∙ whole_slice c.in_ok-written.written.len c.lay_header.new.bytes c.in_ok-written.written.items c.in_ok-written.written.ok.0
    (c.lay_header.auto.bytes ∙ ap length items)
    ∙ c.lay_header.ensures
    ∙ ap (λ (xs : List ℕ). laid_over xs 0 (take INODE_HEADER_BYTES c.as_slice.result.now)) (items ∙ c.in_ok-written.ensures.items)
    ∙ ap (λ (xs : List ℕ). laid_over bytes 0 (take INODE_HEADER_BYTES xs)) (c.as_slice.ensures ∙ c.in_ok-spelled.ensures)
    ∙ ap (laid_over bytes 0) (first_bytes c.args.inode.now c.requires.texts.0 c.requires.texts.1)
