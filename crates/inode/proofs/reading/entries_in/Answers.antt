use Rattle.std.proofs.Common.{◌≡◌, ◌∙◌, sym, ap, length, arith}
use Rattle.std.specs.Int.{w32}
use Rattle.object_id.proofs.FieldLemmas.{numbers-more, length-numbers_at}
use Rattle.inode.specs.declared.layout.TheConstants.{INODE_HEADER_BYTES}
use Rattle.inode.proofs.reading.entries_in.Goals as goal

pub loop-place-preserved : goal.loop-place-preserved
loop-place-preserved c =
    rw (c.in_ok-push.ensures.items, c.loop-place.invariant, c.entry_at.ensures) (sym (numbers-more w32 c.loop-place.place INODE_HEADER_BYTES c.args.bytes.now))

pub returns-clause-count : goal.returns-clause-count
returns-clause-count c =
    let at_end : c.loop-place.place ≡ c.args.count = omega arith in
    ap length c.loop-place.invariant ∙ length-numbers_at w32 c.loop-place.place INODE_HEADER_BYTES c.args.bytes.now ∙ at_end
