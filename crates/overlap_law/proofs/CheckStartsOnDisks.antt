-- What a check begins to write is on its disk: the blocks of the value that the disk has.
use Rattle.std.proofs.Common.{◌≡◌, inr, ℕ, zero, suc, ◌+◌, ◌<◌, ◌≤◌, Bool, true, false, cond, List, [], ◌∷◌, ◌++◌, length, filter, fold}
use Rattle.std.proofs.Common.{Some, refl, sym, ap, subst, arith, ◌∙◌}
use Rattle.std.specs.Prelude.{◌/◌, flat_map}
use Rattle.std.specs.List.{range_with_len}
use Rattle.std.specs.Option.{option_map, option_map_or}
use Rattle.std.specs.FinMap as tree
use Rattle.std.proofs.lemmas.Bool.{ltb-true}
use Rattle.std.proofs.lemmas.List.Sums.{fold-append}
use Rattle.std.proofs.lemmas.Option.{same_Some}
use Rattle.object_id.specs.declared.entry.VdiSpec.{VdiSpec}
use Rattle.object_id.specs.declared.limits.TheConstants.{BLOCK_BYTES}
use Rattle.object_id.specs.declared.oid.Kind.TheVariants.{Block}
use Rattle.gf256.specs.Part.{is_in_strips}
use Rattle.cluster_script.specs.declared.statement.Statement.{Statement}
use Rattle.cluster_script.specs.NumberedRequests.{request_at}
use Rattle.cluster_script.specs.Statements.{is_check}
use Rattle.disk_check.specs.Check.{CheckStage, Comparing, WritingBack, Answered, value_at_stage}
use Rattle.disk_history.specs.declared.event.HistEvent.{HistEvent}
use Rattle.disk_history.specs.declared.event.HistEvent.TheVariants.{WriteStart}
use Rattle.disk_history.specs.Changes.{blocks_in}
use Rattle.disk_history.specs.Ledger.{Ledger, empty_ledger, ledger_after}
use Rattle.inode.specs.Layout.{Content}
use Rattle.peer_proto.specs.declared.say.PeerRsp.{PeerRsp}
use Rattle.sheep_node.specs.declared.check_write.CheckWrite.{CheckWrite}
use Rattle.sheep_node.specs.declared.course.Course.TheVariants.{Checking}
use Rattle.sheep_node.specs.declared.input.Input.TheVariants as inputs
use Rattle.sheep_node.specs.CheckWrites.{check_write_on, write_of_value}
use Rattle.sheep_world.specs.World.{Host, is_host_up}
use Rattle.sheep_world.specs.HistoryAdditions.{block_checked, block_in, block_written, check_write_adds, check_write_grown, is_on_disk}
use Rattle.sheep_world.specs.RunsWithAsks.{Move}
use Rattle.overlap_law.specs.Headline.{ledger_of}
use Rattle.overlap_law.specs.MomentChanges.{RunsAreInRange}
use Rattle.overlap_law.specs.Past.{MomentWithPast, run_with_past}
use Rattle.overlap_law.proofs.AnswersInMoments.{not_lost}
use Rattle.overlap_law.proofs.BeginningWrites.{has_one}
use Rattle.overlap_law.proofs.BlockItems.{blocks_stay}
use Rattle.overlap_law.proofs.ComingWrites.{IsComing, coming}
use Rattle.overlap_law.proofs.CoursesOfAsks.{IsPlacedIn}
use Rattle.overlap_law.proofs.CoursesOfScript.{asked_by, BeganOn, requests_placed}
use Rattle.overlap_law.proofs.DisksOfWriters.{no_command}
use Rattle.overlap_law.proofs.NoRecoveredDue.{began-with_past}
use Rattle.overlap_law.proofs.OpenDisksOfHistory.{working_of_history}
use Rattle.overlap_law.proofs.WritesTold.{IsOnDisks, on_begins}

module _ (write : CheckWrite) (many : ℕ) (large : write.spec.size / BLOCK_BYTES ≤ many) where
  abbrev begins : ℕ → HistEvent
  begins place =
      WriteStart write.req write.vid.0 (block_written write place) (is_in_strips write.spec.policy Block) (block_in write.value place)

  abbrev places : ℕ → ℕ → List ℕ
  places from count = filter (is_on_disk write) (range_with_len from count)

  abbrev Stays : ℕ → ℕ → Type 0
  Stays from count = (ledger : Ledger) → blocks_in (ledger.disks write.vid.0) ≡ Some many → IsOnDisks write.req ledger
      → IsOnDisks write.req (fold ledger_after ledger (flat_map (block_checked write) (places from count)))

  begins_on : (place : ℕ) (ledger : Ledger) → blocks_in (ledger.disks write.vid.0) ≡ Some many → is_on_disk write place ≡ true
      → IsOnDisks write.req ledger → IsOnDisks write.req (ledger_after ledger (begins place))
  begins_on place ledger have is on =
      let below : block_written write place < write.spec.size / BLOCK_BYTES
      = ltb-true (block_written write place) (write.spec.size / BLOCK_BYTES) is in
      on_begins write.req write.vid.0 (block_written write place) (is_in_strips write.spec.policy Block) (block_in write.value place) ledger
      (has_one (ledger.disks write.vid.0) many (block_written write place) have (omega (arith, below, large))) on

  adds_on : (from count : ℕ) → Stays from count
  adds_on from zero ledger have on = on
  adds_on from (suc count) ledger have on = by_test (is_on_disk write from) refl (adds_on (from + 1) count)
    where
      by_test : (b : Bool) → is_on_disk write from ≡ b → Stays (from + 1) count
          → IsOnDisks write.req
          (fold ledger_after ledger (flat_map (block_checked write) (cond b (from ∷ places (from + 1) count) (places (from + 1) count))))
      by_test true is again =
          again (ledger_after ledger (begins from)) (blocks_stay write.vid.0 0 ledger (begins from) refl ∙ have)
          (begins_on from ledger have is on)
      by_test false is again = again ledger have on

module _ (script : List Statement) (range : RunsAreInRange script) (events : List Move) (moment : MomentWithPast)
    (run : run_with_past script events ≡ Some moment) (n : ℕ) (host : Host) (there : tree.get moment.world.hosts n ≡ Some host)
    (up : is_host_up host ≡ true) (rsp : PeerRsp) (write : CheckWrite) (is : check_write_on (inputs.Reply rsp) host.node ≡ Some write)
    (checks : option_map_or is_check (request_at script write.req) false ≡ true) where
  abbrev comes : IsComing write host.node
  comes = coming write rsp host.node is

  -- its disk is as large as its inode says
  of_inode : (inode : Content) → comes.check.vid ≡ inode.vid → comes.check.spec ≡ inode.spec → (many : ℕ)
      → blocks_in ((ledger_of moment.past.history).disks inode.vid) ≡ Some many → inode.spec.size / BLOCK_BYTES ≤ many
      → (stage : CheckStage) → comes.check.stage ≡ stage
      → option_map (write_of_value write.req comes.check) (value_at_stage comes.bytes comes.check.spec stage) ≡ Some write
      → IsOnDisks write.req (ledger_of moment.past.history)
      → IsOnDisks write.req (fold ledger_after (ledger_of moment.past.history) (check_write_adds write))
  of_inode inode vid spec many have large (Comparing index later) at so on =
      let made = same_Some _ write so in
      let of_vid : inode.vid ≡ write.vid.0 = sym vid ∙ ap (λ (w : CheckWrite). w.vid.0) made in
      let of_spec : inode.spec ≡ write.spec = sym spec ∙ ap (λ (w : CheckWrite). w.spec) made in
      adds_on write many (subst (λ (s : VdiSpec). s.size / BLOCK_BYTES ≤ many) of_spec large) 0 (length write.value / BLOCK_BYTES)
      (ledger_of moment.past.history)
      (subst (λ (k : ℕ). blocks_in ((ledger_of moment.past.history).disks k) ≡ Some many) of_vid have) on
  of_inode inode vid spec many have large (WritingBack later) at so on = absurd (cc (so))
  of_inode inode vid spec many have large Answered at so on = absurd (cc (so))

  pub starts_on-in_run : IsOnDisks write.req (ledger_of moment.past.history)
      → IsOnDisks write.req (ledger_of (moment.past.history ++ check_write_grown script write))
  starts_on-in_run on =
      let began = began-with_past script events moment run in
      let (disk, placed, course) = subst (IsPlacedIn (asked_by script) (BeganOn script moment.world.guests) write.req host.node.sessions)
      comes.there (requests_placed script range moment.world began n host there write.req) in
      let open_disk = course.on.disk in
      let of = (working_of_history script range events moment run).each n host there (not_lost host up) comes.session open_disk
      course.on.there course.working
      (no_command script range moment.world began n host there write.req
      (record { session = comes.session; course = Checking comes.check }) comes.there (inr checks)) in
      let all = of_inode open_disk.inode course.is.vid course.is.spec of.disk.blocks (ap blocks_in of.there) of.large comes.check.stage refl
      comes.comes on in
      subst (IsOnDisks write.req)
      (sym (fold-append ledger_after empty_ledger moment.past.history (check_write_grown script write)
      ∙ ap (λ (b : Bool). fold ledger_after (ledger_of moment.past.history) (cond b (check_write_adds write) [])) checks)) all
