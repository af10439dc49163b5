use Rattle.std.proofs.Common.{◌≡◌, ℕ, ◌+◌, ◌-◌, ◌≤◌, List, take, slice_index, sym, ap, subst, ◌∙◌, arith}
use Rattle.inode.specs.Layout.{Content}
use Rattle.peer_proto.specs.declared.work.ObjWork.{ObjWork}
use Rattle.peer_proto.specs.declared.guest.GuestRsp.TheVariants.{Piece as Told}
use Rattle.guest_driver.specs.declared.act.DriverAct.{DriverAct}
use Rattle.guest_driver.specs.declared.act.DriverAct.TheVariants.{Reply}
use Rattle.guest_driver.specs.declared.extent.Extent.{Extent}
use Rattle.guest_driver.specs.Pieces.{Piece}
use Rattle.guest_driver.specs.PieceWorks.{read_piece}
use Rattle.guest_driver.specs.Driver.{Driver, Reads, Answered, work_step}
use Rattle.guest_driver.specs.Extent.{Touches, last_index_of, piece_at_index, piece_of, pieces_from}
use Rattle.guest_driver.specs.Progress.{IsToldUpTo}
use Rattle.guest_driver.specs.BegunWorks.{BeginsWork}
use Rattle.guest_driver.proofs.ExtentLemmas.{place_at-here}
use Rattle.guest_driver.proofs.NextLemmas.{holes-passed, read_on-past, read_on-object, index-within}
use Rattle.guest_driver.proofs.reads.read_on.Goals as goal

pub returns-then-index-end-clause-step : goal.returns-then-index-end-clause-step
returns-then-index-end-clause-step c =
    let inode : Content = c.args.disk.now.inode in
    let extent : Extent = c.args.extent in
    let end : ℕ = last_index_of extent + 1 in
    let last : c.last-end.result ≡ last_index_of extent = c.last-end.ensures.value in
    let at : c.next_object-index.result ≡ end = c.if-index-end.true ∙ ap (λ n. n + 1) last in
    let bound = c.requires.from.1 in
    let passed = holes-passed inode extent c.args.told.items (end - c.args.from) c.args.from end c.requires.extent c.requires.from.0
    (omega (arith, bound)) (omega arith)
    (λ k low high. subst (λ (table : List ℕ). slice_index table k ≡ 0) (c.entries.ensures.value ∙ ap (λ (i : Content). i.table) c.inode.ensures.value)
    (c.next_object-index.ensures.holes k low (omega (arith, at, high))))
    c.requires.told in
    passed.0
    ∙ read_on-past inode extent c.args.told.items c.requires.extent c.requires.told.whole
    ∙ ap (λ (bytes : List ℕ). record { driver = Answered; act = Reply (Told bytes); inode = inode }) (sym c.from_vec.ensures)
    ∙ sym (ap (λ (act : DriverAct). record { driver = Answered; act = act; inode = inode }) c.answered.ensures.act)
    ∙ sym (ap (λ (driver : Driver). record { driver = driver; act = c.answered.result.1; inode = inode }) c.answered.ensures.driver)

pub returns-then-index-end-clause-work : goal.returns-then-index-end-clause-work
returns-then-index-end-clause-work c = subst BeginsWork (sym c.answered.ensures.act) tt

pub invariant_of-driver : goal.invariant_of-driver
invariant_of-driver c =
    let extent : Extent = c.args.extent in
    let index : ℕ = c.next_object-index.result in
    let first = c.requires.from.0 in
    let low = c.next_object-index.ensures.within.0 in
    let within : index ≤ last_index_of extent
    = index-within index (c.last-end.result + 1) (last_index_of extent) (ap (λ n. n + 1) c.last-end.ensures.value) c.next_object-index.ensures.within.1
    c.if-index-end.false in
    let at : Touches extent index = record { is = c.requires.extent; first = omega (arith, first, low); last = within } in
    let passed = holes-passed c.args.disk.now.inode extent c.args.told.items (index - c.args.from) c.args.from index c.requires.extent c.requires.from.0
    (omega (arith, low)) (omega (arith, within))
    (λ k from to. subst (λ (table : List ℕ). slice_index table k ≡ 0) (c.entries.ensures.value ∙ ap (λ (i : Content). i.table) c.inode.ensures.value)
    (c.next_object-index.ensures.holes k from to))
    c.requires.told in
    (at, subst (IsToldUpTo extent.size c.args.told.items) (place_at-here extent index at) passed.1)

pub returns-clause-step : goal.returns-clause-step
returns-clause-step c =
    let inode : Content = c.args.disk.now.inode in
    let extent : Extent = c.args.extent in
    let index : ℕ = c.next_object-index.result in
    let first = c.requires.from.0 in
    let low = c.next_object-index.ensures.within.0 in
    let end : c.last-end.result + 1 ≡ last_index_of extent + 1 = ap (λ n. n + 1) c.last-end.ensures.value in
    let within : index ≤ last_index_of extent
    = index-within index (c.last-end.result + 1) (last_index_of extent) end c.next_object-index.ensures.within.1 c.if-index-end.false in
    let at : Touches extent index = record { is = c.requires.extent; first = omega (arith, first, low); last = within } in
    let table : c.entries.result.now ≡ inode.table = c.entries.ensures.value ∙ ap (λ (i : Content). i.table) c.inode.ensures.value in
    let passed = holes-passed inode extent c.args.told.items (index - c.args.from) c.args.from index c.requires.extent c.requires.from.0
    (omega (arith, low)) (omega (arith, within))
    (λ k from to. subst (λ (table : List ℕ). slice_index table k ≡ 0) table (c.next_object-index.ensures.holes k from to))
    c.requires.told in
    passed.0
    ∙ read_on-object inode extent c.args.told.items index at
    (λ (none : slice_index inode.table index ≡ 0).
    c.next_object-index.ensures.object (omega (arith, within, end)) (ap (λ (table : List ℕ). slice_index table index) table ∙ none))
    ∙ sym (ap (λ (work : ObjWork). work_step inode (Reads (take (piece_at_index extent index).place c.args.told.items) (piece_at_index extent index) (pieces_from extent (index + 1))) work)
    (c.read_piece-work.ensures.value
    ∙ ap (λ (i : Content). read_piece i (piece_of c.piece.result) c.entry.result) c.inode-3.ensures.value
    ∙ ap (λ (piece : Piece). read_piece inode piece c.entry.result) c.piece.ensures.value
    ∙ ap (λ entry. read_piece inode (piece_at_index extent index) entry)
    (c.entry.ensures ∙ ap (λ (i : Content). slice_index i.table index) c.inode-2.ensures.value)))
