use Rattle.std.proofs.Common.{◌≡◌, ℕ, ◌+◌, List, [], false, Option, Some, IfSome, IsOk, refl, sym, ap, subst, ◌∙◌, arith}
use Rattle.std.proofs.lemmas.Result.{IfOk-weaker}
use Rattle.inode.specs.Layout.{Content}
use Rattle.guest_driver.specs.declared.extent.Extent.{Extent}
use Rattle.guest_driver.specs.declared.progress.Stage.{Stage}
use Rattle.guest_driver.specs.PieceWorks.{table_with_entry}
use Rattle.guest_driver.specs.Driver.{InPlace, Entering, DriverStep, write_on, driver_on_done}
use Rattle.guest_driver.specs.Extent.{piece_at_index, pieces_from}
use Rattle.guest_driver.specs.Progress.{driver_stage, payload_in_write, rest_of, stage_of}
use Rattle.guest_driver.specs.OnDisk.{IsDriverOn, act_takes_memory}
use Rattle.guest_driver.proofs.NextLemmas.{WritesNow, writes-now, stage-writes, stage-known, on-each, done-in-place, entered, fetching-takes-memory, creating-takes-memory, stays-on, no-memory-wanted}
use Rattle.guest_driver.proofs.driver.Driver.on_done.Goals as goal

pub returns-in-Writing-InPlace-clause-ok : goal.returns-in-Writing-InPlace-clause-ok
returns-in-Writing-InPlace-clause-ok c =
    let stage : stage_of c.args.self.now ≡ Some InPlace
    = stage-known c.args.self.now c.self.inside.progress c.self.inside.told.items c.self.inside.payload
    (piece_at_index c.self.inside.extent c.self.inside.index) (pieces_from c.self.inside.extent (c.self.inside.index + 1)) c.in-Writing-InPlace.field-0
    c.self.view_is c.in-Writing-InPlace.is
    ∙ ap (λ (kept : Stage). Some (driver_stage kept)) (rw (c.in-Writing-InPlace.is) at c.in-Writing-InPlace.field-0-is) in
    IfOk-weaker c.write_next.result
    (λ act. write_on c.args.disk.now.inode (payload_in_write c.args.self.now) (rest_of c.args.self.now)
    ≡ record { driver = c.write_next.new.self; act = act; inode = c.args.disk.now.inode })
    (λ act. driver_on_done c.args.disk.now.inode c.args.done.now.bytes c.args.self.now
    ≡ Some (record { driver = c.write_next.new.self; act = act; inode = c.args.disk.now.inode }))
    (λ act made. done-in-place c.args.disk.now.inode c.args.done.now.bytes c.args.self.now stage ∙ ap (λ (step : DriverStep). Some step) made)
    c.write_next.ensures.ok

pub returns-in-Writing-InPlace-clause-on : goal.returns-in-Writing-InPlace-clause-on
returns-in-Writing-InPlace-clause-on c =
    let stage : stage_of c.args.self.now ≡ Some InPlace
    = stage-known c.args.self.now c.self.inside.progress c.self.inside.told.items c.self.inside.payload
    (piece_at_index c.self.inside.extent c.self.inside.index) (pieces_from c.self.inside.extent (c.self.inside.index + 1)) c.in-Writing-InPlace.field-0
    c.self.view_is c.in-Writing-InPlace.is
    ∙ ap (λ (kept : Stage). Some (driver_stage kept)) (rw (c.in-Writing-InPlace.is) at c.in-Writing-InPlace.field-0-is) in
    IfOk-weaker c.write_next.result
    (λ act. write_on c.args.disk.now.inode (payload_in_write c.args.self.now) (rest_of c.args.self.now)
    ≡ record { driver = c.write_next.new.self; act = act; inode = c.args.disk.now.inode })
    (λ act. IsDriverOn c.args.disk.now.inode c.write_next.new.self)
    (λ act made. stays-on c.args.disk.now.inode c.args.disk.now.inode [] c.args.self.now c.write_next.new.self act c.requires.on refl
    (done-in-place c.args.disk.now.inode [] c.args.self.now stage ∙ ap (λ (step : DriverStep). Some step) made))
    c.write_next.ensures.ok

pub returns-in-Writing-InPlace-clause-memory : goal.returns-in-Writing-InPlace-clause-memory
returns-in-Writing-InPlace-clause-memory c =
    let stage : stage_of c.args.self.now ≡ Some InPlace
    = stage-known c.args.self.now c.self.inside.progress c.self.inside.told.items c.self.inside.payload
    (piece_at_index c.self.inside.extent c.self.inside.index) (pieces_from c.self.inside.extent (c.self.inside.index + 1)) c.in-Writing-InPlace.field-0
    c.self.view_is c.in-Writing-InPlace.is
    ∙ ap (λ (kept : Stage). Some (driver_stage kept)) (rw (c.in-Writing-InPlace.is) at c.in-Writing-InPlace.field-0-is) in
    subst (λ (step : Option DriverStep). IfSome step (λ step. act_takes_memory step.act ≡ false → IsOk c.write_next.result))
    (sym (done-in-place c.args.disk.now.inode c.args.done.now.bytes c.args.self.now stage)) c.write_next.ensures.memory

pub returns-in-Writing-Fetching-clause-on : goal.returns-in-Writing-Fetching-clause-on
returns-in-Writing-Fetching-clause-on c =
    IfOk-weaker c.write_copy.result
    (λ act. driver_on_done c.args.disk.now.inode c.as_slice-bytes.result.now c.args.self.now
    ≡ Some (record { driver = c.write_copy.new.self; act = act; inode = c.args.disk.now.inode }))
    (λ act. IsDriverOn c.args.disk.now.inode c.write_copy.new.self)
    (λ act made. stays-on c.args.disk.now.inode c.args.disk.now.inode c.as_slice-bytes.result.now c.args.self.now c.write_copy.new.self act c.requires.on refl made)
    c.write_copy.ensures.ok

pub returns-in-Writing-Fetching-clause-memory : goal.returns-in-Writing-Fetching-clause-memory
returns-in-Writing-Fetching-clause-memory c =
    fetching-takes-memory c.args.disk.now.inode c.args.done.now.bytes c.args.self.now (IsOk c.write_copy.result)
    (stage-known c.args.self.now c.self.inside.progress c.self.inside.told.items c.self.inside.payload
    (piece_at_index c.self.inside.extent c.self.inside.index) (pieces_from c.self.inside.extent (c.self.inside.index + 1)) c.in-Writing-Fetching.field-0
    c.self.view_is c.in-Writing-Fetching.is
    ∙ ap (λ (kept : Stage). Some (driver_stage kept)) (rw (c.in-Writing-Fetching.is) at c.in-Writing-Fetching.field-0-is))

pub returns-in-Writing-Creating-clause-on : goal.returns-in-Writing-Creating-clause-on
returns-in-Writing-Creating-clause-on c =
    IfOk-weaker c.write_entry.result
    (λ act. (bytes : List ℕ) → driver_on_done c.args.disk.now.inode bytes c.args.self.now
    ≡ Some (record { driver = c.write_entry.new.self; act = act; inode = c.args.disk.now.inode }))
    (λ act. IsDriverOn c.args.disk.now.inode c.write_entry.new.self)
    (λ act made. stays-on c.args.disk.now.inode c.args.disk.now.inode [] c.args.self.now c.write_entry.new.self act c.requires.on refl (made []))
    c.write_entry.ensures.ok

pub returns-in-Writing-Creating-clause-memory : goal.returns-in-Writing-Creating-clause-memory
returns-in-Writing-Creating-clause-memory c =
    creating-takes-memory c.args.disk.now.inode c.args.done.now.bytes c.args.self.now (IsOk c.write_entry.result)
    (stage-known c.args.self.now c.self.inside.progress c.self.inside.told.items c.self.inside.payload
    (piece_at_index c.self.inside.extent c.self.inside.index) (pieces_from c.self.inside.extent (c.self.inside.index + 1)) c.in-Writing-Creating.field-0
    c.self.view_is c.in-Writing-Creating.is
    ∙ ap (λ (kept : Stage). Some (driver_stage kept)) (rw (c.in-Writing-Creating.is) at c.in-Writing-Creating.field-0-is))

pub returns-in_err-act-in-Writing-Entering-clause-memory : goal.returns-in_err-act-in-Writing-Entering-clause-memory
returns-in_err-act-in-Writing-Entering-clause-memory c =
    let stage : stage_of c.args.self.now ≡ Some Entering
    = stage-known c.args.self.now c.self.inside.progress c.self.inside.told.items c.self.inside.payload
    (piece_at_index c.self.inside.extent c.self.inside.index) (pieces_from c.self.inside.extent (c.self.inside.index + 1)) c.in-Writing-Entering.field-0
    c.self.view_is c.in-Writing-Entering.is
    ∙ ap (λ (kept : Stage). Some (driver_stage kept)) (rw (c.in-Writing-Entering.is) at c.in-Writing-Entering.field-0-is) in
    let now : WritesNow c.args.self.now c.self.inside.extent c.self.inside.index c.self.inside.payload
    = writes-now c.args.self.now c.self.inside.progress c.self.inside.extent c.self.inside.index c.self.inside.told.items c.self.inside.payload
    c.self.view_is (stage-writes c.args.self.now Entering stage) c.self.invariant in
    subst (λ (step : Option DriverStep). IfSome step (λ step. act_takes_memory step.act ≡ false → IsOk c.from_residual.result))
    (sym (entered c.args.disk.now.inode c.args.done.now.bytes c.args.self.now c.self.inside.extent c.self.inside.index c.self.inside.payload stage now))
    (λ (none : act_takes_memory (write_on c.args.disk.now.inode (payload_in_write c.args.self.now) (rest_of c.args.self.now)).act ≡ false).
    let wrong = c.in_err-act-in-Writing-Entering.ensures.memory none in absurd (cc (wrong)))

pub enter-requires : goal.enter-requires
enter-requires c =
    let stage : stage_of c.args.self.now ≡ Some Entering
    = stage-known c.args.self.now c.self.inside.progress c.self.inside.told.items c.self.inside.payload
    (piece_at_index c.self.inside.extent c.self.inside.index) (pieces_from c.self.inside.extent (c.self.inside.index + 1)) c.in-Writing-Entering.field-0
    c.self.view_is c.in-Writing-Entering.is
    ∙ ap (λ (kept : Stage). Some (driver_stage kept)) (rw (c.in-Writing-Entering.is) at c.in-Writing-Entering.field-0-is) in
    let now : WritesNow c.args.self.now c.self.inside.extent c.self.inside.index c.self.inside.payload
    = writes-now c.args.self.now c.self.inside.progress c.self.inside.extent c.self.inside.index c.self.inside.told.items c.self.inside.payload
    c.self.view_is (stage-writes c.args.self.now Entering stage) c.self.invariant in
    (on-each c.args.disk.now.inode c.args.self.now c.self.inside.extent c.self.inside.index now.left now.at c.requires.on
    c.self.inside.index (omega arith) now.at.last).object

pub returns-in_ok-act-in-Writing-Entering-clause-ok : goal.returns-in_ok-act-in-Writing-Entering-clause-ok
returns-in_ok-act-in-Writing-Entering-clause-ok c =
    let inode : Content = c.args.disk.now.inode in
    let extent : Extent = c.self.inside.extent in
    let index : ℕ = c.self.inside.index in
    let stage : stage_of c.args.self.now ≡ Some Entering
    = stage-known c.args.self.now c.self.inside.progress c.self.inside.told.items c.self.inside.payload (piece_at_index extent index)
    (pieces_from extent (index + 1)) c.in-Writing-Entering.field-0 c.self.view_is c.in-Writing-Entering.is
    ∙ ap (λ (kept : Stage). Some (driver_stage kept)) (rw (c.in-Writing-Entering.is) at c.in-Writing-Entering.field-0-is) in
    let now : WritesNow c.args.self.now extent index c.self.inside.payload
    = writes-now c.args.self.now c.self.inside.progress extent index c.self.inside.told.items c.self.inside.payload
    c.self.view_is (stage-writes c.args.self.now Entering stage) c.self.invariant in
    entered inode c.args.done.now.bytes c.args.self.now extent index c.self.inside.payload stage now
    ∙ ap (λ (step : DriverStep). Some (record step { inode = table_with_entry inode (piece_at_index extent index) })) c.in_ok-act-in-Writing-Entering.ensures.ok
    ∙ sym (ap (λ (after : Content). Some (record { driver = c.write_next-in-Writing-Entering.new.self; act = c.in_ok-act-in-Writing-Entering.act; inode = after }))
    c.enter.ensures.inode)

pub returns-in_ok-act-in-Writing-Entering-clause-on : goal.returns-in_ok-act-in-Writing-Entering-clause-on
returns-in_ok-act-in-Writing-Entering-clause-on c =
    let inode : Content = c.args.disk.now.inode in
    let extent : Extent = c.self.inside.extent in
    let index : ℕ = c.self.inside.index in
    let stage : stage_of c.args.self.now ≡ Some Entering
    = stage-known c.args.self.now c.self.inside.progress c.self.inside.told.items c.self.inside.payload (piece_at_index extent index)
    (pieces_from extent (index + 1)) c.in-Writing-Entering.field-0 c.self.view_is c.in-Writing-Entering.is
    ∙ ap (λ (kept : Stage). Some (driver_stage kept)) (rw (c.in-Writing-Entering.is) at c.in-Writing-Entering.field-0-is) in
    let now : WritesNow c.args.self.now extent index c.self.inside.payload
    = writes-now c.args.self.now c.self.inside.progress extent index c.self.inside.told.items c.self.inside.payload
    c.self.view_is (stage-writes c.args.self.now Entering stage) c.self.invariant in
    stays-on inode c.enter.new.self.inode c.args.done.now.bytes c.args.self.now c.write_next-in-Writing-Entering.new.self
    c.in_ok-act-in-Writing-Entering.act c.requires.on (ap (λ (after : Content). after.spec) c.enter.ensures.inode)
    (entered inode c.args.done.now.bytes c.args.self.now extent index c.self.inside.payload stage now
    ∙ ap (λ (step : DriverStep). Some (record step { inode = table_with_entry inode (piece_at_index extent index) })) c.in_ok-act-in-Writing-Entering.ensures.ok
    ∙ sym (ap (λ (after : Content). Some (record { driver = c.write_next-in-Writing-Entering.new.self; act = c.in_ok-act-in-Writing-Entering.act; inode = after }))
    c.enter.ensures.inode))

pub returns-in_default : goal.returns-in_default
returns-in_default c =
    let inode : Content = c.args.disk.now.inode in
    let ok : driver_on_done inode c.args.done.now.bytes c.args.self.now
    ≡ Some (record { driver = c.read_next.new.self; act = c.read_next.result; inode = inode })
    = ap (λ (bytes : List ℕ). driver_on_done inode bytes c.args.self.now) (sym c.as_slice-bytes.ensures) ∙ c.read_next.ensures.step in
    record {
      ok = ok;
      snapshot = refl;
      on = stays-on inode inode c.args.done.now.bytes c.args.self.now c.read_next.new.self c.read_next.result c.requires.on refl ok;
      work = c.read_next.ensures.work;
      err = tt;
      memory = no-memory-wanted (driver_on_done inode c.args.done.now.bytes c.args.self.now);
    }
