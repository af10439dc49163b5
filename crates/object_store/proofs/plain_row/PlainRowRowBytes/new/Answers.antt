use Rattle.std.proofs.Common.{◌≡◌, ◌++◌, arith}
use Rattle.std.proofs.lemmas.Grind.{common_steps}
use Rattle.std.proofs.lemmas.List.{length-append, length-replicate}
use Rattle.object_id.specs.Fields.{zeros}
use Rattle.object_store.proofs.ByteLemmas.{laid_over-zeros}
use Rattle.object_store.proofs.plain_row.PlainRowRowBytes.new.Goals as goal

pub returns : goal.returns
returns c =
    let kept : c.extend_from_slice.new.self.items ≡ zeros c.args.offset ++ c.args.piece.now = grind (arith, common_steps) in
    rw (kept, length-append, length-replicate) (laid_over-zeros c.args.size c.args.offset c.args.piece.now c.requires)
