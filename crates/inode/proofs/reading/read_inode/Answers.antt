use Rattle.std.proofs.Common.{◌≤◌, ◌∙◌, length}
use Rattle.std.proofs.lemmas.Bool.{le-ltb, cond-false}
use Rattle.std.proofs.lemmas.Result.{err_from_is_err_and}
use Rattle.inode.specs.declared.layout.TheConstants.{INODE_HEADER_BYTES}
use Rattle.inode.specs.Reading.{inode_of}
use Rattle.inode.proofs.SpelledLemmas.{fails-as}
use Rattle.inode.proofs.reading.read_inode.Goals as goal

pub returns-in_err-parts : goal.returns-in_err-parts
unfolding inode_of
returns-in_err-parts c =
    let p = err_from_is_err_and c.from_residual.result c.from_residual.ensures.1 in
    let long : INODE_HEADER_BYTES ≤ length c.args.bytes.now = c.if-bytes-lt-INODE_HEADER_BYTES.false in
    rw (p.1, p.2) (fails-as c.in_err-parts.field-0.0 (inode_of c.args.bytes.now)
    (cond-false _ _ _ (le-ltb (length c.args.bytes.now) INODE_HEADER_BYTES long) ∙ c.in_err-parts.ensures.value))
