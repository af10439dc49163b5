use Rattle.std.proofs.Common.{◌+◌, ◌<◌, sym, ap, subst, ◌∙◌, arith}
use Rattle.object_id.specs.Spec.{objects_of}
use Rattle.inode.specs.Layout.{Content}
use Rattle.guest_driver.specs.Pieces.{Piece}
use Rattle.guest_driver.specs.PieceWorks.{write_entry}
use Rattle.guest_driver.specs.Driver.{Creating}
use Rattle.guest_driver.specs.Extent.{piece_at_index, piece_of, pieces_from}
use Rattle.guest_driver.proofs.NextLemmas.{WritesNow, writes-now, stage-writes, at-stage, on-each, done-creating}
use Rattle.guest_driver.proofs.driver.Driver.write_entry.Goals as goal

pub write_entry-requires-clause-index : goal.write_entry-requires-clause-index
write_entry-requires-clause-index c =
    let now : WritesNow c.args.self.now c.self.inside.extent c.self.inside.index c.self.inside.payload
    = writes-now c.args.self.now c.self.inside.progress c.self.inside.extent c.self.inside.index c.self.inside.told.items c.self.inside.payload
    c.self.view_is (stage-writes c.args.self.now Creating c.requires.stage) c.self.invariant in
    let there : c.self.inside.index < objects_of c.args.disk.now.inode.spec
    = (on-each c.args.disk.now.inode c.args.self.now c.self.inside.extent c.self.inside.index now.left now.at c.requires.on
    c.self.inside.index (omega arith) now.at.last).object in
    subst (λ (inode : Content). c.piece-piece.result.index < objects_of inode.spec) (sym c.inode.ensures.value)
    (subst (λ k. k < objects_of c.args.disk.now.inode.spec) (sym c.piece-piece.ensures.index) there)

pub returns-clause-ok : goal.returns-clause-ok
returns-clause-ok c bytes =
    let now : WritesNow c.args.self.now c.self.inside.extent c.self.inside.index c.self.inside.payload
    = writes-now c.args.self.now c.self.inside.progress c.self.inside.extent c.self.inside.index c.self.inside.told.items c.self.inside.payload
    c.self.view_is (stage-writes c.args.self.now Creating c.requires.stage) c.self.invariant in
    done-creating c.args.disk.now.inode bytes c.self.inside.payload (piece_at_index c.self.inside.extent c.self.inside.index)
    (pieces_from c.self.inside.extent (c.self.inside.index + 1)) c.args.self.now c.in_ok-work.work
    (at-stage c.args.self.now Creating c.self.inside.extent c.self.inside.index c.self.inside.payload c.requires.stage now)
    (c.in_ok-work.ensures.value
    ∙ ap (λ (inode : Content). write_entry inode (piece_of c.piece-piece.result)) c.inode.ensures.value
    ∙ ap (λ (piece : Piece). write_entry c.args.disk.now.inode piece) c.piece-piece.ensures.value)
