use Rattle.std.proofs.Common.{◌≡◌, ℕ, ◌+◌, ◌≤◌, List, sym, ap, subst, ◌∙◌, arith}
use Rattle.inode.specs.Layout.{Content}
use Rattle.guest_driver.specs.declared.extent.Extent.{Extent}
use Rattle.guest_driver.specs.Pieces.{IsPiece}
use Rattle.guest_driver.specs.PieceWorks.{backing_of}
use Rattle.guest_driver.specs.Driver.{Writes, DriverStep, work_step, write_piece_on, write_on}
use Rattle.guest_driver.specs.Extent.{Touches, first_index_of, last_index_of, piece_at_index, pieces_from}
use Rattle.guest_driver.specs.Progress.{driver_stage}
use Rattle.guest_driver.specs.OnDisk.{act_takes_memory}
use Rattle.guest_driver.proofs.ExtentLemmas.{first-le-last, piece-inside}
use Rattle.guest_driver.proofs.NextLemmas.{write_on-piece}
use Rattle.guest_driver.proofs.writes.begin_write.Goals as goal

pub first_work-requires-clause-inside : goal.first_work-requires-clause-inside
first_work-requires-clause-inside c =
    let extent : Extent = c.args.extent in
    let first : c.first-index.result ≡ first_index_of extent = c.first-index.ensures in
    let within : c.first-index.result ≤ last_index_of extent
    = subst (λ k. k ≤ last_index_of extent) (sym first) (first-le-last extent c.requires.extent) in
    let at : Touches extent c.first-index.result = record { is = c.requires.extent; first = omega (arith, first); last = within } in
    subst (λ shift. IsPiece shift (piece_at_index extent c.first-index.result)) c.requires.shift (piece-inside extent c.first-index.result at)

pub returns-in_err-stage-clause-memory : goal.returns-in_err-stage-clause-memory
returns-in_err-stage-clause-memory c none =
    let inode : Content = c.args.disk.now.inode in
    let extent : Extent = c.args.extent in
    let index : ℕ = c.first-index.result in
    let within : index ≤ last_index_of extent
    = subst (λ k. k ≤ last_index_of extent) (sym c.first-index.ensures) (first-le-last extent c.requires.extent) in
    let is = ap (λ k. write_on inode c.args.payload (pieces_from extent k)) (sym c.first-index.ensures) ∙ write_on-piece inode c.args.payload extent index within in
    let wrong = c.in_err-stage.ensures.memory
    (ap
    (λ (bytes : List ℕ). act_takes_memory (write_piece_on inode bytes (piece_at_index extent index) (pieces_from extent (index + 1)) (backing_of inode (piece_at_index extent index))).act)
    c.as_slice.ensures
    ∙ sym (ap (λ (step : DriverStep). act_takes_memory step.act) is) ∙ none) in
    absurd (cc (wrong))

pub returns-clause-ok : goal.returns-clause-ok
returns-clause-ok c =
    let inode : Content = c.args.disk.now.inode in
    let extent : Extent = c.args.extent in
    let index : ℕ = c.first-index.result in
    let within : index ≤ last_index_of extent
    = subst (λ k. k ≤ last_index_of extent) (sym c.first-index.ensures) (first-le-last extent c.requires.extent) in
    ap (λ k. write_on inode c.args.payload (pieces_from extent k)) (sym c.first-index.ensures)
    ∙ write_on-piece inode c.args.payload extent index within
    ∙ subst
    (λ (bytes : List ℕ). write_piece_on inode bytes (piece_at_index extent index) (pieces_from extent (index + 1)) (backing_of inode (piece_at_index extent index))
    ≡ work_step inode (Writes bytes (driver_stage c.in_ok-stage.stage) (piece_at_index extent index) (pieces_from extent (index + 1))) c.in_ok-stage.work)
    c.as_slice.ensures c.in_ok-stage.ensures.ok
