use Rattle.std.proofs.Common.{◌≡◌, ℕ, ◌+◌, ◌%◌, ◌≤◌, List, [], length, false, None, sym, ap, subst, ◌∙◌}
use Rattle.std.proofs.lemmas.Result.{IfOk-weaker}
use Rattle.object_id.specs.declared.entry.VdiSpec.{VdiSpec}
use Rattle.object_id.specs.Spec.{IsSpec}
use Rattle.inode.specs.Layout.{Content}
use Rattle.peer_proto.specs.declared.guest.DiskAsk.{DiskAsk}
use Rattle.guest_driver.specs.declared.act.DriverAct.{DriverAct}
use Rattle.guest_driver.specs.declared.disk.Disk.{Disk}
use Rattle.guest_driver.specs.declared.extent.Extent.{Extent}
use Rattle.guest_driver.specs.Pieces.{offset_of, size_of, pieces}
use Rattle.guest_driver.specs.Refusals.{refusal_on}
use Rattle.guest_driver.specs.Driver.{Driver, Answered, DriverStep, read_on, write_on, begin_driver}
use Rattle.guest_driver.specs.Extent.{first_index_of, pieces_from}
use Rattle.guest_driver.specs.OnDisk.{IsDriverOn, act_takes_memory}
use Rattle.guest_driver.specs.BegunWorks.{BeginsWork}
use Rattle.guest_driver.proofs.ExtentLemmas.{pieces_from-first}
use Rattle.guest_driver.proofs.BeginLemmas.{not-refused, begin-refused, begin-read, begin-write, ends-inside, asks-some, asks-blocks, extent-is, read-begins-on, write-begins-on, begin-memory}
use Rattle.guest_driver.proofs.driver.begin_disk.Goals as goal

pub returns-in-Some-clause-step : goal.returns-in-Some-clause-step
returns-in-Some-clause-step c =
    let inode : Content = c.args.disk.now.inode in
    begin-refused c.args.disk.now c.args.ask c.in-Some.cause (sym c.refusal_on.ensures ∙ c.in-Some.is)
    ∙ sym (ap (λ (act : DriverAct). record { driver = Answered; act = act; inode = inode }) c.answered.ensures.act)
    ∙ sym (ap (λ (driver : Driver). record { driver = driver; act = c.answered.result.1; inode = inode }) c.answered.ensures.driver)

pub returns-in-Some-clause-work : goal.returns-in-Some-clause-work
returns-in-Some-clause-work c = subst BeginsWork (sym c.answered.ensures.act) tt

pub begin_read-requires-clause-extent : goal.begin_read-requires-clause-extent
begin_read-requires-clause-extent c =
    let disk : Disk = c.args.disk.now in
    let none : refusal_on disk false c.args.ask ≡ None = sym c.refusal_on.ensures ∙ not-refused c.refusal_on.result c.in_default.not-Some in
    let spec : c.spec-shift.result ≡ disk.inode.spec = c.spec-shift.ensures.value ∙ ap (λ (inode : Content). inode.spec) c.inode.ensures.value in
    extent-is disk.inode.spec c.spec-shift.result.shift c.in-Read.offset c.in-Read.length (subst IsSpec spec c.spec-shift.ensures.valid)
    (ap (λ (spec : VdiSpec). spec.shift) spec)
    (subst (λ (ask : DiskAsk). 1 ≤ size_of ask) c.in-Read.is (asks-some c.args.ask c.requires))
    (subst (λ (ask : DiskAsk). (offset_of ask % 512 ≡ 0) × (size_of ask % 512 ≡ 0)) c.in-Read.is (asks-blocks c.args.ask c.requires))
    (subst (λ (ask : DiskAsk). offset_of ask + size_of ask ≤ disk.inode.spec.size) c.in-Read.is (ends-inside disk c.args.ask none))

pub begin_write-requires-clause-extent : goal.begin_write-requires-clause-extent
begin_write-requires-clause-extent c =
    let disk : Disk = c.args.disk.now in
    let none : refusal_on disk false c.args.ask ≡ None = sym c.refusal_on.ensures ∙ not-refused c.refusal_on.result c.in_default.not-Some in
    let spec : c.spec-shift.result ≡ disk.inode.spec = c.spec-shift.ensures.value ∙ ap (λ (inode : Content). inode.spec) c.inode.ensures.value in
    extent-is disk.inode.spec c.spec-shift.result.shift c.in-Write.offset c.len.result (subst IsSpec spec c.spec-shift.ensures.valid)
    (ap (λ (spec : VdiSpec). spec.shift) spec)
    (subst (λ n. 1 ≤ n) (sym c.len.ensures) (subst (λ (ask : DiskAsk). 1 ≤ size_of ask) c.in-Write.is (asks-some c.args.ask c.requires)))
    (subst (λ n. (c.in-Write.offset % 512 ≡ 0) × (n % 512 ≡ 0)) (sym c.len.ensures)
    (subst (λ (ask : DiskAsk). (offset_of ask % 512 ≡ 0) × (size_of ask % 512 ≡ 0)) c.in-Write.is (asks-blocks c.args.ask c.requires)))
    (subst (λ n. c.in-Write.offset + n ≤ disk.inode.spec.size) (sym c.len.ensures)
    (subst (λ (ask : DiskAsk). offset_of ask + size_of ask ≤ disk.inode.spec.size) c.in-Write.is (ends-inside disk c.args.ask none)))

pub returns-in-Read-clause-step : goal.returns-in-Read-clause-step
returns-in-Read-clause-step c =
    let disk : Disk = c.args.disk.now in
    let none : refusal_on disk false c.args.ask ≡ None = sym c.refusal_on.ensures ∙ not-refused c.refusal_on.result c.in_default.not-Some in
    let spec : c.spec-shift.result ≡ disk.inode.spec = c.spec-shift.ensures.value ∙ ap (λ (inode : Content). inode.spec) c.inode.ensures.value in
    let extent : Extent = record { shift = c.spec-shift.result.shift; offset = c.in-Read.offset; size = c.in-Read.length } in
    IfOk-weaker c.begin_read.result
    (λ begun. read_on disk.inode [] (pieces_from extent (first_index_of extent)) ≡ record { driver = begun.0; act = begun.1; inode = disk.inode })
    (λ begun. begin_driver disk c.args.ask ≡ record { driver = begun.0; act = begun.1; inode = disk.inode })
    (λ begun made. begin-read disk c.args.ask c.in-Read.offset c.in-Read.length c.in-Read.is none
    ∙ sym (ap (λ (spec : VdiSpec). read_on disk.inode [] (pieces spec.shift c.in-Read.offset c.in-Read.length)) spec)
    ∙ ap (read_on disk.inode []) (pieces_from-first extent) ∙ made)
    c.begin_read.ensures.step

pub returns-in-Read-clause-on : goal.returns-in-Read-clause-on
returns-in-Read-clause-on c =
    let disk : Disk = c.args.disk.now in
    let none : refusal_on disk false c.args.ask ≡ None = sym c.refusal_on.ensures ∙ not-refused c.refusal_on.result c.in_default.not-Some in
    let spec : c.spec-shift.result ≡ disk.inode.spec = c.spec-shift.ensures.value ∙ ap (λ (inode : Content). inode.spec) c.inode.ensures.value in
    let extent : Extent = record { shift = c.spec-shift.result.shift; offset = c.in-Read.offset; size = c.in-Read.length } in
    IfOk-weaker c.begin_read.result
    (λ begun. read_on disk.inode [] (pieces_from extent (first_index_of extent)) ≡ record { driver = begun.0; act = begun.1; inode = disk.inode })
    (λ begun. IsDriverOn disk.inode begun.0)
    (λ begun made. subst (λ (step : DriverStep). IsDriverOn disk.inode step.driver)
    (sym (ap (λ (spec : VdiSpec). read_on disk.inode [] (pieces spec.shift c.in-Read.offset c.in-Read.length)) spec)
    ∙ ap (read_on disk.inode []) (pieces_from-first extent) ∙ made)
    (read-begins-on disk.inode c.in-Read.offset c.in-Read.length
    (subst (λ (ask : DiskAsk). 1 ≤ size_of ask) c.in-Read.is (asks-some c.args.ask c.requires))
    (subst (λ (ask : DiskAsk). offset_of ask + size_of ask ≤ disk.inode.spec.size) c.in-Read.is (ends-inside disk c.args.ask none))))
    c.begin_read.ensures.step

pub begin_write-requires-clause-shift : goal.begin_write-requires-clause-shift
begin_write-requires-clause-shift c =
    let spec : c.spec-shift.result ≡ c.args.disk.now.inode.spec = c.spec-shift.ensures.value ∙ ap (λ (inode : Content). inode.spec) c.inode.ensures.value in
    ap (λ (spec : VdiSpec). spec.shift) spec

pub returns-in-Write-clause-step : goal.returns-in-Write-clause-step
returns-in-Write-clause-step c =
    let disk : Disk = c.args.disk.now in
    let payload : List ℕ = c.in-Write.bytes in
    let none : refusal_on disk false c.args.ask ≡ None = sym c.refusal_on.ensures ∙ not-refused c.refusal_on.result c.in_default.not-Some in
    let spec : c.spec-shift.result ≡ disk.inode.spec = c.spec-shift.ensures.value ∙ ap (λ (inode : Content). inode.spec) c.inode.ensures.value in
    let extent : Extent = record { shift = c.spec-shift.result.shift; offset = c.in-Write.offset; size = c.len.result } in
    IfOk-weaker c.begin_write.result
    (λ begun. write_on disk.inode payload (pieces_from extent (first_index_of extent)) ≡ record { driver = begun.0; act = begun.1; inode = disk.inode })
    (λ begun. begin_driver disk c.args.ask ≡ record { driver = begun.0; act = begun.1; inode = disk.inode })
    (λ begun made. begin-write disk c.args.ask c.in-Write.offset payload c.in-Write.is none
    ∙ sym (ap (λ (spec : VdiSpec). write_on disk.inode payload (pieces spec.shift c.in-Write.offset (length payload))) spec)
    ∙ sym (ap (λ n. write_on disk.inode payload (pieces c.spec-shift.result.shift c.in-Write.offset n)) c.len.ensures)
    ∙ ap (write_on disk.inode payload) (pieces_from-first extent) ∙ made)
    c.begin_write.ensures.ok

pub returns-in-Write-clause-on : goal.returns-in-Write-clause-on
returns-in-Write-clause-on c =
    let disk : Disk = c.args.disk.now in
    let payload : List ℕ = c.in-Write.bytes in
    let none : refusal_on disk false c.args.ask ≡ None = sym c.refusal_on.ensures ∙ not-refused c.refusal_on.result c.in_default.not-Some in
    let spec : c.spec-shift.result ≡ disk.inode.spec = c.spec-shift.ensures.value ∙ ap (λ (inode : Content). inode.spec) c.inode.ensures.value in
    let extent : Extent = record { shift = c.spec-shift.result.shift; offset = c.in-Write.offset; size = c.len.result } in
    IfOk-weaker c.begin_write.result
    (λ begun. write_on disk.inode payload (pieces_from extent (first_index_of extent)) ≡ record { driver = begun.0; act = begun.1; inode = disk.inode })
    (λ begun. IsDriverOn disk.inode begun.0)
    (λ begun made. subst (λ (step : DriverStep). IsDriverOn disk.inode step.driver)
    (sym (ap (λ (spec : VdiSpec). write_on disk.inode payload (pieces spec.shift c.in-Write.offset (length payload))) spec)
    ∙ sym (ap (λ n. write_on disk.inode payload (pieces c.spec-shift.result.shift c.in-Write.offset n)) c.len.ensures)
    ∙ ap (write_on disk.inode payload) (pieces_from-first extent) ∙ made)
    (write-begins-on disk.inode c.in-Write.offset payload
    (subst (λ (ask : DiskAsk). 1 ≤ size_of ask) c.in-Write.is (asks-some c.args.ask c.requires))
    (subst (λ (ask : DiskAsk). offset_of ask + size_of ask ≤ disk.inode.spec.size) c.in-Write.is (ends-inside disk c.args.ask none))))
    c.begin_write.ensures.ok

pub returns-in-Write-clause-memory : goal.returns-in-Write-clause-memory
returns-in-Write-clause-memory c takes_none =
    let disk : Disk = c.args.disk.now in
    let payload : List ℕ = c.in-Write.bytes in
    let none : refusal_on disk false c.args.ask ≡ None = sym c.refusal_on.ensures ∙ not-refused c.refusal_on.result c.in_default.not-Some in
    let spec : c.spec-shift.result ≡ disk.inode.spec = c.spec-shift.ensures.value ∙ ap (λ (inode : Content). inode.spec) c.inode.ensures.value in
    let extent : Extent = record { shift = c.spec-shift.result.shift; offset = c.in-Write.offset; size = c.len.result } in
    let is : begin_driver disk c.args.ask ≡ write_on disk.inode payload (pieces_from extent (first_index_of extent))
    = begin-write disk c.args.ask c.in-Write.offset payload c.in-Write.is none
    ∙ sym (ap (λ (spec : VdiSpec). write_on disk.inode payload (pieces spec.shift c.in-Write.offset (length payload))) spec)
    ∙ sym (ap (λ n. write_on disk.inode payload (pieces c.spec-shift.result.shift c.in-Write.offset n)) c.len.ensures)
    ∙ ap (write_on disk.inode payload) (pieces_from-first extent) in
    c.begin_write.ensures.memory
    (sym (ap (λ (step : DriverStep). act_takes_memory step.act) is)
    ∙ sym (begin-memory disk c.args.ask c.in-Write.offset payload c.in-Write.is none) ∙ takes_none)
