-- A guest's write that isn't refused as it comes begins blocks alone that its disk has.
use Rattle.std.proofs.Common.{◌≡◌, ℕ, zero, suc, ◌+◌, ◌<◌, ◌≤◌, Bool, true, false, List, [], ◌++◌, map, fold, length, Option, Some, None}
use Rattle.std.proofs.Common.{refl, sym, ap, subst, arith, ◌∙◌}
use Rattle.std.specs.Prelude.{◌/◌}
use Rattle.std.specs.List.{range_with_len}
use Rattle.std.specs.Option.{option_map_or}
use Rattle.std.specs.FinMap as tree
use Rattle.std.proofs.lemmas.Bool.{lt-ltb}
use Rattle.std.proofs.lemmas.List.Sums.{fold-append}
use Rattle.std.proofs.lemmas.Option.{same_Some}
use Rattle.object_id.specs.declared.entry.Entry.{Entry}
use Rattle.object_id.specs.declared.entry.VdiSpec.{VdiSpec}
use Rattle.object_id.specs.declared.limits.TheConstants.{BLOCK_BYTES}
use Rattle.object_id.specs.declared.oid.Kind.TheVariants.{Block}
use Rattle.gf256.specs.Part.{is_in_strips}
use Rattle.disk_history.specs.declared.event.HistEvent.{HistEvent}
use Rattle.disk_history.specs.declared.event.HistEvent.TheVariants.{WriteStart}
use Rattle.disk_history.specs.Changes.{blocks_in}
use Rattle.disk_history.specs.Ledger as histories
use Rattle.disk_history.specs.Ledger.{Ledger, empty_ledger, has_block, ledger_after}
use Rattle.cluster_script.specs.declared.statement.Statement.{Statement}
use Rattle.cluster_script.specs.declared.statement.Statement.TheVariants as lines
use Rattle.cluster_script.specs.NumberedRequests.{payload_of}
use Rattle.cluster_script.specs.Sessions.{ScriptSession}
use Rattle.guest_driver.specs.declared.disk.Disk.{Disk}
use Rattle.guest_driver.specs.Refusals.{refusal_on}
use Rattle.peer_proto.specs.declared.guest.DiskAsk.TheVariants as disk_asks
use Rattle.sheep_node.specs.declared.ask.Ask.{Ask}
use Rattle.sheep_node.specs.declared.ask.Ask.TheVariants as asks
use Rattle.sheep_node.specs.Guests.{is_open_disk_deleted, request_refusal}
use Rattle.sheep_node.specs.SessionQueues.{session_among}
use Rattle.sheep_world.specs.World.{Host, World, is_host_up}
use Rattle.sheep_world.specs.Asking.{ask_of_statement}
use Rattle.sheep_world.specs.Began.{Began}
use Rattle.sheep_world.specs.Effects.{open_disk_at}
use Rattle.sheep_world.specs.HistoryAdditions.{begins_on, block_in, request_grown}
use Rattle.sheep_world.specs.NodeCauses.{GuestAsks, IsCause}
use Rattle.vdi_directory.specs.Decisions.{log_effects}
use Rattle.vdi_directory.specs.States.{Working, state_of}
use Rattle.vdi_directory.proofs.DecisionLaws.{held-works}
use Rattle.overlap_law.specs.DiskBlocks.{DisksHaveTheirBlocks}
use Rattle.overlap_law.specs.Headline.{ledger_of}
use Rattle.overlap_law.specs.MomentChanges.{RunsAreInRange}
use Rattle.overlap_law.specs.Writers.{session_holder}
use Rattle.overlap_law.proofs.AnswersInMoments.{not_lost}
use Rattle.overlap_law.proofs.BlockItems.{blocks_stay}
use Rattle.overlap_law.proofs.DiskShapes.{shape, shapes, shapes_so}
use Rattle.overlap_law.proofs.DrawnClones.{shown}
use Rattle.overlap_law.proofs.HoldersInWorlds.{begins_alone, open_here, working_held}
use Rattle.overlap_law.proofs.InsideDisks.{open_spec, write_fits}
use Rattle.overlap_law.proofs.WritesTold.{IsOnDisks, on_begins}

-- ---- blocks of a disk

pub has_one : (found : Option histories.Disk) (many block : ℕ) → blocks_in found ≡ Some many → block < many → has_block found block ≡ true
has_one None many block is below = absurd (cc (is))
has_one (Some disk) many block is below =
    let same : disk.blocks ≡ many = same_Some disk.blocks many is in
    lt-ltb block disk.blocks (omega (arith, below, same))

-- a request that begins blocks of it is no more stray than before
module _ (req vid first : ℕ) (coded : Bool) (piece : ℕ → List ℕ) (many : ℕ) where
  starts_on : (from count : ℕ) (ledger : Ledger) → blocks_in (ledger.disks vid) ≡ Some many → first + (from + count) ≤ many
      → IsOnDisks req ledger
      → IsOnDisks req (fold ledger_after ledger
      (map (λ (place : ℕ). WriteStart req vid (first + place) coded (piece place)) (range_with_len from count)))
  starts_on from zero ledger have inside on = on
  starts_on from (suc count) ledger have inside on =
      let event : HistEvent = WriteStart req vid (first + from) coded (piece from) in
      let below : first + from < many = omega (arith, inside) in
      starts_on (from + 1) count (ledger_after ledger event) (blocks_stay vid 0 ledger event refl ∙ have) (omega (arith, inside))
      (on_begins req vid (first + from) coded (piece from) ledger (has_one (ledger.disks vid) many (first + from) have below) on)

-- ---- a disk that works by the log is there by the history

module _ (log : List Entry) (history : List HistEvent) (are_shown : (v : ℕ) → shapes history v ≡ shown (state_of (log_effects log) v)) where
  pub there_by_history : (vid : ℕ) → state_of (log_effects log) vid ≡ Working
      → (disk : histories.Disk) × ((ledger_of history).disks vid ≡ Some disk)
  there_by_history vid works = by_found ((ledger_of history).disks vid) refl
    where
      is : shape ((ledger_of history).disks vid) ≡ Some false
      is = shapes_so history vid ∙ are_shown vid ∙ ap shown works

      by_found : (found : Option histories.Disk) → (ledger_of history).disks vid ≡ found
          → (disk : histories.Disk) × ((ledger_of history).disks vid ≡ Some disk)
      by_found None none = let unseen : shape ((ledger_of history).disks vid) ≡ None = ap shape none in absurd (cc (is, unseen))
      by_found (Some disk) got = (disk, got)

-- ---- a disk that is held

module _ (script : List Statement) (range : RunsAreInRange script) (world : World) (began : Began script world) (n : ℕ) (host : Host)
    (there : tree.get world.hosts n ≡ Some host) (up : is_host_up host ≡ true) (session : ScriptSession) (other : ℕ) (ask : Ask)
    (caused : IsCause script world n host (GuestAsks session other ask)) (history : List HistEvent)
    (are_shown : (v : ℕ) → shapes history v ≡ shown (state_of (log_effects world.log) v))
    (blocks : DisksHaveTheirBlocks world.log history) where
  -- it may not be refused
  abbrev pub IsTaken : Type 0
  IsTaken = request_refusal host.node.peer (session_among session.number host.node.sessions).disk ask ≡ None

  module _ (taken : IsTaken) (disk : Disk) (opened : open_disk_at session world ≡ Some disk) (offset : ℕ) (payload : List ℕ)
      (asked : ask ≡ asks.Disk (disk_asks.Write offset payload)) where
    here : (session_among session.number host.node.sessions).disk ≡ Some disk
    here = sym (open_here script range world began n host there up session other ask caused) ∙ opened

    unrefused : refusal_on disk (is_open_disk_deleted host.node.peer (Some disk)) (disk_asks.Write offset payload) ≡ None
    unrefused = sym (λ i. request_refusal host.node.peer (here i) (asked i)) ∙ taken

    working : disk.snapshot ≡ false
    working = by_kind disk.snapshot refl
      where
        by_kind : (b : Bool) → disk.snapshot ≡ b → disk.snapshot ≡ false
        by_kind false is = is
        by_kind true snapshot =
            let refused = ap (λ (b : Bool). refusal_on (record { inode = disk.inode; snapshot = b })
            (is_open_disk_deleted host.node.peer (Some disk)) (disk_asks.Write offset payload)) (sym snapshot) ∙ unrefused in
            absurd (cc (refused))

    works : state_of (log_effects world.log) disk.inode.vid ≡ Working
    works =
        held-works world.log disk.inode.vid (session_holder n session.number)
        (working_held script range world began n host there (not_lost host up) session.number disk here working
        (begins_alone script range world began n host there up session other ask caused))

    payload_on : IsOnDisks other (ledger_of history)
        → IsOnDisks other (fold ledger_after (ledger_of history)
        (map (λ (place : ℕ). WriteStart other disk.inode.vid (offset / BLOCK_BYTES + place) (is_in_strips disk.inode.spec.policy Block)
        (block_in payload place)) (range_with_len 0 (length payload / BLOCK_BYTES))))
    payload_on on =
        let (found, got) = there_by_history world.log history are_shown disk.inode.vid works in
        let has = blocks disk.inode.vid found got in
        let same : has.spec ≡ disk.inode.spec
        = same_Some has.spec disk.inode.spec
        (sym has.made ∙ open_spec script range world began n host there session.number disk here) in
        let whole : found.blocks ≡ disk.inode.spec.size / 512 = has.whole ∙ ap (λ (s : VdiSpec). s.size / 512) same in
        let fits = write_fits disk (is_open_disk_deleted host.node.peer (Some disk)) offset payload working unrefused in
        let inside : offset / 512 + (0 + length payload / 512) ≤ found.blocks = omega (arith, whole, fits) in
        starts_on other disk.inode.vid (offset / BLOCK_BYTES) (is_in_strips disk.inode.spec.policy Block) (block_in payload) found.blocks
        0 (length payload / BLOCK_BYTES) (ledger_of history) (ap blocks_in got) inside on

  line_on : IsTaken → (line : Statement) → ask_of_statement line ≡ Some ask → (o : Option Disk) → open_disk_at session world ≡ o
      → IsOnDisks other (ledger_of history) → IsOnDisks other (fold ledger_after (ledger_of history) (begins_on other o line))
  line_on taken (lines.Write number offset size pattern) asked None opened on = on
  line_on taken (lines.Write number offset size pattern) asked (Some disk) opened on =
      payload_on taken disk opened offset (payload_of pattern size)
      (sym (same_Some (asks.Disk (disk_asks.Write offset (payload_of pattern size))) ask asked)) on
  line_on taken s asked o opened on = on

  pub begins_there : IsTaken → IsOnDisks other (ledger_of history)
      → IsOnDisks other (ledger_of (history ++ request_grown script world session (Some other)))
  begins_there taken on =
      subst (IsOnDisks other)
      (ap (λ (s : Option Statement).
      fold ledger_after (ledger_of history) (option_map_or (begins_on other (open_disk_at session world)) s [])) (sym caused.stands)
      ∙ sym (fold-append ledger_after empty_ledger history (request_grown script world session (Some other))))
      (line_on taken caused.line caused.asks (open_disk_at session world) refl on)
