use Rattle.std.proofs.Common.{◌≡◌, ℕ, ◌+◌, ◌^◌, ◌<◌, ◌≤◌, List, length, Option, unwrap_or, sym, ap, subst, ◌∙◌, arith}
use Rattle.object_id.specs.Spec.{objects_of}
use Rattle.inode.specs.Layout.{Content}
use Rattle.guest_driver.specs.Pieces.{Piece}
use Rattle.guest_driver.specs.PieceWorks.{create_copy}
use Rattle.guest_driver.specs.Driver.{Fetching, Writes, driver_bytes_wanted}
use Rattle.guest_driver.specs.Extent.{piece_at_index, piece_of, pieces_from}
use Rattle.guest_driver.proofs.NextLemmas.{WritesNow, writes-now, stage-writes, at-stage, on-each, done-fetching}
use Rattle.guest_driver.proofs.driver.Driver.write_copy.Goals as goal

pub create_copy-requires-clause-index : goal.create_copy-requires-clause-index
create_copy-requires-clause-index c =
    let now : WritesNow c.args.self.now c.self.inside.extent c.self.inside.index c.self.inside.payload
    = writes-now c.args.self.now c.self.inside.progress c.self.inside.extent c.self.inside.index c.self.inside.told.items c.self.inside.payload
    c.self.view_is (stage-writes c.args.self.now Fetching c.requires.stage) c.self.invariant in
    let there : c.self.inside.index < objects_of c.args.disk.now.inode.spec
    = (on-each c.args.disk.now.inode c.args.self.now c.self.inside.extent c.self.inside.index now.left now.at c.requires.on
    c.self.inside.index (omega arith) now.at.last).object in
    subst (λ (inode : Content). c.piece-piece.result.index < objects_of inode.spec) (sym c.inode.ensures.value)
    (subst (λ k. k < objects_of c.args.disk.now.inode.spec) (sym c.piece-piece.ensures.index) there)

pub create_copy-requires-clause-inside : goal.create_copy-requires-clause-inside
create_copy-requires-clause-inside c =
    let now : WritesNow c.args.self.now c.self.inside.extent c.self.inside.index c.self.inside.payload
    = writes-now c.args.self.now c.self.inside.progress c.self.inside.extent c.self.inside.index c.self.inside.told.items c.self.inside.payload
    c.self.view_is (stage-writes c.args.self.now Fetching c.requires.stage) c.self.invariant in
    let long : length c.as_slice.result.now ≡ c.self.inside.extent.size = ap length c.as_slice.ensures ∙ now.whole in
    subst (λ n. c.piece-piece.result.place + c.piece-piece.result.size ≤ n) (sym long) c.piece-piece.ensures.within

pub create_copy-requires-clause-room : goal.create_copy-requires-clause-room
create_copy-requires-clause-room c =
    let now : WritesNow c.args.self.now c.self.inside.extent c.self.inside.index c.self.inside.payload
    = writes-now c.args.self.now c.self.inside.progress c.self.inside.extent c.self.inside.index c.self.inside.told.items c.self.inside.payload
    c.self.view_is (stage-writes c.args.self.now Fetching c.requires.stage) c.self.invariant in
    let is : c.args.self.now ≡ Writes c.self.inside.payload Fetching (piece_at_index c.self.inside.extent c.self.inside.index) (pieces_from c.self.inside.extent (c.self.inside.index + 1))
    = at-stage c.args.self.now Fetching c.self.inside.extent c.self.inside.index c.self.inside.payload c.requires.stage now in
    let long : 2 ^ c.args.disk.now.inode.spec.shift ≡ length c.args.bytes.now
    = ap (λ (wanted : Option ℕ). unwrap_or wanted 0)
    (sym (ap (driver_bytes_wanted c.args.disk.now.inode) is) ∙ c.requires.whole) in
    let inside = (on-each c.args.disk.now.inode c.args.self.now c.self.inside.extent c.self.inside.index now.left now.at c.requires.on
    c.self.inside.index (omega arith) now.at.last).within.inside in
    subst (λ n. c.piece-piece.result.offset + c.piece-piece.result.size ≤ n) long
    (subst (λ (piece : Piece). piece.offset + piece.size ≤ 2 ^ c.args.disk.now.inode.spec.shift) (sym c.piece-piece.ensures.value) inside)

pub create_copy-requires-clause-whole : goal.create_copy-requires-clause-whole
create_copy-requires-clause-whole c =
    let now : WritesNow c.args.self.now c.self.inside.extent c.self.inside.index c.self.inside.payload
    = writes-now c.args.self.now c.self.inside.progress c.self.inside.extent c.self.inside.index c.self.inside.told.items c.self.inside.payload
    c.self.view_is (stage-writes c.args.self.now Fetching c.requires.stage) c.self.invariant in
    let is : c.args.self.now ≡ Writes c.self.inside.payload Fetching (piece_at_index c.self.inside.extent c.self.inside.index) (pieces_from c.self.inside.extent (c.self.inside.index + 1))
    = at-stage c.args.self.now Fetching c.self.inside.extent c.self.inside.index c.self.inside.payload c.requires.stage now in
    let long : 2 ^ c.args.disk.now.inode.spec.shift ≡ length c.args.bytes.now
    = ap (λ (wanted : Option ℕ). unwrap_or wanted 0)
    (sym (ap (driver_bytes_wanted c.args.disk.now.inode) is) ∙ c.requires.whole) in
    subst (λ (inode : Content). length c.args.bytes.now ≡ 2 ^ inode.spec.shift) (sym c.inode.ensures.value) (sym long)

pub returns-clause-ok : goal.returns-clause-ok
returns-clause-ok c =
    let now : WritesNow c.args.self.now c.self.inside.extent c.self.inside.index c.self.inside.payload
    = writes-now c.args.self.now c.self.inside.progress c.self.inside.extent c.self.inside.index c.self.inside.told.items c.self.inside.payload
    c.self.view_is (stage-writes c.args.self.now Fetching c.requires.stage) c.self.invariant in
    done-fetching c.args.disk.now.inode c.args.bytes.now c.self.inside.payload (piece_at_index c.self.inside.extent c.self.inside.index)
    (pieces_from c.self.inside.extent (c.self.inside.index + 1)) c.args.self.now c.in_ok-work.work
    (at-stage c.args.self.now Fetching c.self.inside.extent c.self.inside.index c.self.inside.payload c.requires.stage now)
    (c.in_ok-work.ensures.value
    ∙ ap (λ (inode : Content). create_copy inode c.as_slice.result.now (piece_of c.piece-piece.result) c.args.bytes.now) c.inode.ensures.value
    ∙ ap (λ (payload : List ℕ). create_copy c.args.disk.now.inode payload (piece_of c.piece-piece.result) c.args.bytes.now) c.as_slice.ensures
    ∙ ap (λ (piece : Piece). create_copy c.args.disk.now.inode c.self.inside.payload piece c.args.bytes.now) c.piece-piece.ensures.value)
