use Rattle.std.proofs.Common.{◌≡◌, ℕ, ◌+◌, List, length, take, Option, Some, unwrap_or, Vec, Global, sym, ap, subst, ◌∙◌, arith}
use Rattle.object_id.specs.Piece.{laid_over}
use Rattle.guest_driver.specs.declared.extent.Extent.{Extent}
use Rattle.guest_driver.specs.Pieces.{Piece}
use Rattle.guest_driver.specs.Driver.{Driver, DriverStep, driver_bytes_wanted}
use Rattle.guest_driver.specs.Extent.{last_index_of, piece_at_index, place_at}
use Rattle.guest_driver.specs.Progress.{IsToldUpTo}
use Rattle.guest_driver.specs.OnDisk.{pieces_left}
use Rattle.guest_driver.proofs.ExtentLemmas.{piece-within, place_at-next}
use Rattle.guest_driver.proofs.NextLemmas.{ReadsNow, reads-now, on-each, told-over, done-reading}
use Rattle.guest_driver.proofs.driver.Driver.read_next.Goals as goal

pub with_piece-told-requires : goal.with_piece-told-requires
with_piece-told-requires c =
    let now : ReadsNow c.args.self.now c.self.inside.extent c.self.inside.index c.self.inside.told.items
    = reads-now c.args.self.now c.self.inside.progress c.self.inside.extent c.self.inside.index c.self.inside.told.items c.self.inside.payload
    c.self.view_is c.requires.reads c.self.invariant in
    let long : (piece_at_index c.self.inside.extent c.self.inside.index).size ≡ length c.args.bytes.now
    = ap (λ (wanted : Option ℕ). unwrap_or wanted 0)
    (sym (ap (driver_bytes_wanted c.args.disk.now.inode) now.is) ∙ c.requires.whole) in
    let size : c.piece-piece.result.size ≡ length c.args.bytes.now = ap (λ (piece : Piece). piece.size) c.piece-piece.ensures.value ∙ long in
    let whole : length c.replace-told.result.items ≡ c.self.inside.extent.size
    = ap (λ (told : Vec ℕ Global). length told.items) c.replace-told.ensures.value ∙ now.up_to.whole in
    let within = c.piece-piece.ensures.within in
    omega (arith, size, whole, within)

pub read_on-driver-requires-clause-told : goal.read_on-driver-requires-clause-told
read_on-driver-requires-clause-told c =
    let extent : Extent = c.self.inside.extent in
    let index : ℕ = c.self.inside.index in
    let told : List ℕ = c.self.inside.told.items in
    let now : ReadsNow c.args.self.now extent index told
    = reads-now c.args.self.now c.self.inside.progress extent index told c.self.inside.payload c.self.view_is c.requires.reads c.self.invariant in
    let long : (piece_at_index extent index).size ≡ length c.args.bytes.now
    = ap (λ (wanted : Option ℕ). unwrap_or wanted 0)
    (sym (ap (driver_bytes_wanted c.args.disk.now.inode) now.is) ∙ c.requires.whole) in
    let next : place_at extent (index + 1) ≡ (piece_at_index extent index).place + length c.args.bytes.now
    = place_at-next extent index now.at ∙ ap (λ n. (piece_at_index extent index).place + n) long in
    let within = piece-within extent index now.at in
    let over = told-over extent.size told (piece_at_index extent index).place c.args.bytes.now (place_at extent (index + 1)) now.up_to (omega (arith, long, within)) next in
    let is : c.with_piece-told.result.items ≡ laid_over told (piece_at_index extent index).place c.args.bytes.now
    = c.with_piece-told.ensures
    ∙ ap (λ (v : Vec ℕ Global). laid_over v.items c.piece-piece.result.place c.args.bytes.now) c.replace-told.ensures.value
    ∙ ap (λ (piece : Piece). laid_over told piece.place c.args.bytes.now) c.piece-piece.ensures.value in
    subst (λ (xs : List ℕ). IsToldUpTo extent.size xs (place_at extent (index + 1))) (sym is) over.1

pub read_on-driver-requires-clause-there : goal.read_on-driver-requires-clause-there
read_on-driver-requires-clause-there c =
    let extent : Extent = c.self.inside.extent in
    let index : ℕ = c.self.inside.index in
    let now : ReadsNow c.args.self.now extent index c.self.inside.told.items
    = reads-now c.args.self.now c.self.inside.progress extent index c.self.inside.told.items c.self.inside.payload c.self.view_is c.requires.reads c.self.invariant in
    (on-each c.args.disk.now.inode c.args.self.now extent index (ap pieces_left now.is) now.at c.requires.on
    (last_index_of extent) now.at.last (omega arith)).object

pub returns-clause-step : goal.returns-clause-step
returns-clause-step c =
    let extent : Extent = c.self.inside.extent in
    let index : ℕ = c.self.inside.index in
    let told : List ℕ = c.self.inside.told.items in
    let now : ReadsNow c.args.self.now extent index told
    = reads-now c.args.self.now c.self.inside.progress extent index told c.self.inside.payload c.self.view_is c.requires.reads c.self.invariant in
    let long : (piece_at_index extent index).size ≡ length c.args.bytes.now
    = ap (λ (wanted : Option ℕ). unwrap_or wanted 0)
    (sym (ap (driver_bytes_wanted c.args.disk.now.inode) now.is) ∙ c.requires.whole) in
    let next : place_at extent (index + 1) ≡ (piece_at_index extent index).place + length c.args.bytes.now
    = place_at-next extent index now.at ∙ ap (λ n. (piece_at_index extent index).place + n) long in
    let within = piece-within extent index now.at in
    let over = told-over extent.size told (piece_at_index extent index).place c.args.bytes.now (place_at extent (index + 1)) now.up_to (omega (arith, long, within)) next in
    let is : c.with_piece-told.result.items ≡ laid_over told (piece_at_index extent index).place c.args.bytes.now
    = c.with_piece-told.ensures
    ∙ ap (λ (v : Vec ℕ Global). laid_over v.items c.piece-piece.result.place c.args.bytes.now) c.replace-told.ensures.value
    ∙ ap (λ (piece : Piece). laid_over told piece.place c.args.bytes.now) c.piece-piece.ensures.value in
    done-reading c.args.disk.now.inode c.args.bytes.now c.args.self.now extent index told c.with_piece-told.result.items now
    (ap (λ (xs : List ℕ). take (place_at extent (index + 1)) xs) is ∙ over.0)
    ∙ ap (λ (step : DriverStep). Some step) c.read_on-driver.ensures.step
    ∙ sym (ap (λ (driver : Driver). Some (record { driver = driver; act = c.read_on-driver.result.1; inode = c.args.disk.now.inode })) c.drop.view_is)
