use Rattle.std.proofs.Common.{◌≡◌, ℕ, ◌+◌, ◌≤◌, List, sym, ap, subst, ◌∙◌, arith}
use Rattle.inode.specs.Layout.{Content}
use Rattle.guest_driver.specs.declared.extent.Extent.{Extent}
use Rattle.guest_driver.specs.PieceWorks.{backing_of}
use Rattle.guest_driver.specs.Driver.{Writes, DriverStep, work_step, write_piece_on}
use Rattle.guest_driver.specs.Extent.{last_index_of, piece_at_index, pieces_from}
use Rattle.guest_driver.specs.Progress.{driver_stage}
use Rattle.guest_driver.specs.OnDisk.{act_takes_memory}
use Rattle.guest_driver.proofs.NextLemmas.{WritesNow, writes-now, on-each, next-within, write_on-last, write_on-next}
use Rattle.guest_driver.proofs.driver.Driver.write_next.Goals as goal

pub returns-then-self-last-clause-ok : goal.returns-then-self-last-clause-ok
returns-then-self-last-clause-ok c =
    let now : WritesNow c.args.self.now c.self.inside.extent c.self.inside.index c.self.inside.payload
    = writes-now c.args.self.now c.self.inside.progress c.self.inside.extent c.self.inside.index c.self.inside.told.items c.self.inside.payload
    c.self.view_is c.requires.writes c.self.invariant in
    write_on-last c.args.disk.now.inode c.args.self.now c.self.inside.extent c.self.inside.index c.self.inside.payload now
    (c.if-self-last.true ∙ c.last.ensures.value)

pub first_work-requires-clause-there : goal.first_work-requires-clause-there
first_work-requires-clause-there c =
    let now : WritesNow c.args.self.now c.self.inside.extent c.self.inside.index c.self.inside.payload
    = writes-now c.args.self.now c.self.inside.progress c.self.inside.extent c.self.inside.index c.self.inside.told.items c.self.inside.payload
    c.self.view_is c.requires.writes c.self.invariant in
    let within : c.self.inside.index + 1 ≤ last_index_of c.self.inside.extent
    = next-within c.self.inside.index (last_index_of c.self.inside.extent) c.last.result now.at.last c.last.ensures.value c.if-self-last.false in
    (on-each c.args.disk.now.inode c.args.self.now c.self.inside.extent c.self.inside.index now.left now.at c.requires.on
    (c.self.inside.index + 1) (omega arith) within).object

pub first_work-requires-clause-inside : goal.first_work-requires-clause-inside
first_work-requires-clause-inside c =
    let now : WritesNow c.args.self.now c.self.inside.extent c.self.inside.index c.self.inside.payload
    = writes-now c.args.self.now c.self.inside.progress c.self.inside.extent c.self.inside.index c.self.inside.told.items c.self.inside.payload
    c.self.view_is c.requires.writes c.self.invariant in
    let within : c.self.inside.index + 1 ≤ last_index_of c.self.inside.extent
    = next-within c.self.inside.index (last_index_of c.self.inside.extent) c.last.result now.at.last c.last.ensures.value c.if-self-last.false in
    (on-each c.args.disk.now.inode c.args.self.now c.self.inside.extent c.self.inside.index now.left now.at c.requires.on
    (c.self.inside.index + 1) (omega arith) within).within

pub returns-in_err-stage-clause-memory : goal.returns-in_err-stage-clause-memory
returns-in_err-stage-clause-memory c none =
    let now : WritesNow c.args.self.now c.self.inside.extent c.self.inside.index c.self.inside.payload
    = writes-now c.args.self.now c.self.inside.progress c.self.inside.extent c.self.inside.index c.self.inside.told.items c.self.inside.payload
    c.self.view_is c.requires.writes c.self.invariant in
    let inode : Content = c.args.disk.now.inode in
    let extent : Extent = c.self.inside.extent in
    let index : ℕ = c.self.inside.index in
    let within : index + 1 ≤ last_index_of extent
    = next-within index (last_index_of extent) c.last.result now.at.last c.last.ensures.value c.if-self-last.false in
    let is = write_on-next inode c.args.self.now extent index c.self.inside.payload now within in
    let wrong = c.in_err-stage.ensures.memory
    (ap
    (λ (bytes : List ℕ). act_takes_memory (write_piece_on inode bytes (piece_at_index extent (index + 1)) (pieces_from extent (index + 1 + 1)) (backing_of inode (piece_at_index extent (index + 1)))).act)
    c.as_slice.ensures
    ∙ sym (ap (λ (step : DriverStep). act_takes_memory step.act) is) ∙ none) in
    absurd (cc (wrong))

pub invariant_of-self-2 : goal.invariant_of-self-2
invariant_of-self-2 c =
    let now : WritesNow c.args.self.now c.self.inside.extent c.self.inside.index c.self.inside.payload
    = writes-now c.args.self.now c.self.inside.progress c.self.inside.extent c.self.inside.index c.self.inside.told.items c.self.inside.payload
    c.self.view_is c.requires.writes c.self.invariant in
    let within : c.self.inside.index + 1 ≤ last_index_of c.self.inside.extent
    = next-within c.self.inside.index (last_index_of c.self.inside.extent) c.last.result now.at.last c.last.ensures.value c.if-self-last.false in
    let first = now.at.first in
    (record { is = now.at.is; first = omega (arith, first); last = within }, now.whole)

pub returns-clause-ok : goal.returns-clause-ok
returns-clause-ok c =
    let now : WritesNow c.args.self.now c.self.inside.extent c.self.inside.index c.self.inside.payload
    = writes-now c.args.self.now c.self.inside.progress c.self.inside.extent c.self.inside.index c.self.inside.told.items c.self.inside.payload
    c.self.view_is c.requires.writes c.self.invariant in
    let inode : Content = c.args.disk.now.inode in
    let extent : Extent = c.self.inside.extent in
    let index : ℕ = c.self.inside.index in
    let within : index + 1 ≤ last_index_of extent
    = next-within index (last_index_of extent) c.last.result now.at.last c.last.ensures.value c.if-self-last.false in
    write_on-next inode c.args.self.now extent index c.self.inside.payload now within
    ∙ subst
    (λ (bytes : List ℕ). write_piece_on inode bytes (piece_at_index extent (index + 1)) (pieces_from extent (index + 1 + 1)) (backing_of inode (piece_at_index extent (index + 1)))
    ≡ work_step inode (Writes bytes (driver_stage c.in_ok-stage.stage) (piece_at_index extent (index + 1)) (pieces_from extent (index + 1 + 1))) c.in_ok-stage.work)
    c.as_slice.ensures c.in_ok-stage.ensures.ok
