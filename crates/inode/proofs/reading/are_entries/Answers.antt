use Rattle.std.proofs.Common.{◌∙◌, sym, ap}
use Rattle.std.proofs.lemmas.Bool.{lt-leb, le-leb}
use Rattle.object_id.specs.declared.limits.TheConstants.{VID_MAX}
use Rattle.inode.specs.declared.layout.TheConstants.{INODE_HEADER_BYTES}
use Rattle.inode.specs.Reading.{is_entry}
use Rattle.inode.proofs.TableLemmas.{test-goes_on, test-fails}
use Rattle.inode.proofs.reading.are_entries.Goals as goal

pub returns-then-u32_at-gt-VID_MAX : goal.returns-then-u32_at-gt-VID_MAX
returns-then-u32_at-gt-VID_MAX c =
    test-fails c.args.count c.loop-place.place INODE_HEADER_BYTES c.args.bytes.now _ c.loop-place-test.true
    (ap is_entry (sym c.u32_at.ensures) ∙ lt-leb c.u32_at.result VID_MAX c.if-u32_at-gt-VID_MAX.true) c.loop-place.invariant

pub loop-place-preserved : goal.loop-place-preserved
loop-place-preserved c =
    test-goes_on c.args.count c.loop-place.place INODE_HEADER_BYTES c.args.bytes.now _ c.loop-place-test.true
    (ap is_entry (sym c.u32_at.ensures) ∙ le-leb c.u32_at.result VID_MAX c.if-u32_at-gt-VID_MAX.false) c.loop-place.invariant
