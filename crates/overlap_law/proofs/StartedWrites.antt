-- In each run in range the history has that each block of a write under way has begun, and the write ends inside its disk: so the disk has
-- the block, and its item is open.
use Rattle.std.proofs.Common.{◌≡◌, ◌≢◌, inl, ℕ, zero, suc, ◌+◌, ◌<◌, ◌≤◌, Bool, true, false, List, [], ◌++◌, length, Contains, Option, Some}
use Rattle.std.proofs.Common.{None, refl, sym, subst, arith, ⊎_elim, ap, option_map, ◌∙◌}
use Rattle.std.specs.Prelude.{◌/◌}
use Rattle.std.specs.List.{range_with_len}
use Rattle.std.specs.Option.{option_map_or, option_and_then}
use Rattle.std.specs.FinMap as tree
use Rattle.std.proofs.lemmas.Bool.{cases_eq, cases_lt, lt-ltb}
use Rattle.std.proofs.lemmas.List.Elements.{Contains-append_left, Contains-append_right}
use Rattle.std.proofs.lemmas.Option.{same_Some}
use Rattle.proof_tools.proofs.Lists.{Contains-cons, Contains-first, Contains-map}
use Rattle.object_id.specs.declared.limits.TheConstants.{BLOCK_BYTES}
use Rattle.object_id.specs.declared.oid.Kind.TheVariants.{Block}
use Rattle.gf256.specs.Part.{is_in_strips}
use Rattle.object_id.specs.declared.entry.Entry.{Entry}
use Rattle.disk_history.specs.declared.event.HistEvent.{HistEvent}
use Rattle.disk_history.specs.declared.event.HistEvent.TheVariants.{WriteStart}
use Rattle.disk_history.specs.Changes.{items_in}
use Rattle.disk_history.specs.Ledger.{has_block}
use Rattle.disk_history.specs.Ledger as histories
use Rattle.object_id.specs.declared.entry.VdiSpec.{VdiSpec}
use Rattle.vdi_directory.specs.Decisions.{log_effects}
use Rattle.cluster_script.specs.declared.statement.Statement.{Statement}
use Rattle.cluster_script.specs.declared.statement.Statement.TheVariants as lines
use Rattle.cluster_script.specs.NumberedRequests.{request_at, payload_of}
use Rattle.guest_driver.specs.declared.disk.Disk.{Disk}
use Rattle.guest_driver.specs.Refusals.{refusal_on}
use Rattle.peer_proto.specs.declared.guest.DiskAsk.TheVariants as disk_asks
use Rattle.sheep_node.specs.declared.ask.Ask.{Ask}
use Rattle.sheep_node.specs.declared.ask.Ask.TheVariants as asks
use Rattle.sheep_node.specs.declared.input.Input.TheVariants as inputs
use Rattle.sheep_node.specs.Guests.{is_open_disk_deleted, request_refusal}
use Rattle.sheep_node.specs.SessionQueues.{session_among}
use Rattle.sheep_node.specs.State.{Node, session_at}
use Rattle.sheep_node.specs.Step.{node_step}
use Rattle.sheep_world.specs.World.{Host}
use Rattle.sheep_world.proofs.BegunRequestLaws.{new-begun, were_begun}
use Rattle.sheep_world.specs.Asking.{ask_of_statement}
use Rattle.sheep_world.specs.Effects.{open_disk_at, request_started}
use Rattle.sheep_world.specs.EventKinds.{outcome_of_step}
use Rattle.sheep_world.specs.HistoryAdditions.{begins_on, block_in, is_write, replies_grown, request_grown}
use Rattle.sheep_world.specs.NodeCauses.{GuestAsks, world_after_cause}
use Rattle.sheep_world.specs.RunsWithAsks.{Move}
use Rattle.overlap_law.specs.DiskEvents.{BlocksUnderWayAreOpen, HasOpenItem}
use Rattle.overlap_law.specs.Each.{spec_in}
use Rattle.overlap_law.specs.Headline.{ledger_of}
use Rattle.overlap_law.specs.MomentChanges.{RunsAreInRange}
use Rattle.overlap_law.specs.Past.{MomentWithPast, run_with_past}
use Rattle.overlap_law.proofs.BlocksInRuns.{blocks-in_run}
use Rattle.overlap_law.proofs.DisksOfWriters.{IsWriterAt}
use Rattle.overlap_law.proofs.GrantedEpochs.{spec_stays}
use Rattle.overlap_law.proofs.InsideDisks.{not_refused, open_spec, write_fits}
use Rattle.overlap_law.proofs.OpenItemsInRuns.{under_way-in_run}
use Rattle.overlap_law.proofs.UnderWay.{IsKeptOnHeld}
use Rattle.overlap_law.proofs.UnderWayInRuns.{holds-in_run}
use Rattle.overlap_law.proofs.UnderWayOfEvents.{HoldsAtBegin}

-- numbers in a row
pub in_range : (first count k : ℕ) → first ≤ k → k < first + count → Contains (range_with_len first count) k
in_range first zero k from below = absurd (omega (arith, from, below))
in_range first (suc count) k from below = ⊎_elim
    (λ (own : first ≡ k). Contains-first first k (range_with_len (first + 1) count) own)
    (λ (other : first ≢ k).
    let next : first + 1 ≤ k = ⊎_elim (λ (more : first < k). omega (arith, more))
    (λ (less : k ≤ first). absurd (other (omega (arith, from, less)))) (cases_lt first k) in
    let within : k < first + 1 + count = omega (arith, below) in
    Contains-cons first (range_with_len (first + 1) count) k (in_range (first + 1) count k next within))
    (cases_eq first k)

abbrev pub WritesBytes : ℕ → List ℕ → Option Ask → Type 0
WritesBytes offset payload asked = asked ≡ Some (asks.Disk (disk_asks.Write offset payload))

pub writes_is : (offset : ℕ) (payload : List ℕ) (s : Option Statement) → WritesBytes offset payload (option_and_then ask_of_statement s)
    → option_map_or is_write s false ≡ true
writes_is offset payload None is = absurd (cc (is))
writes_is offset payload (Some (lines.Write number from size pattern)) is = refl
writes_is offset payload (Some (lines.Create session policy shift name size)) is = absurd (cc (is))
writes_is offset payload (Some (lines.OpenDisk session name tag)) is = absurd (cc (is))
writes_is offset payload (Some (lines.Close session)) is = absurd (cc (is))
writes_is offset payload (Some (lines.Read session from size)) is = absurd (cc (is))
writes_is offset payload (Some (lines.Snapshot session tag)) is = absurd (cc (is))
writes_is offset payload (Some (lines.Clone session base tag name)) is = absurd (cc (is))
writes_is offset payload (Some (lines.Delete session name tag)) is = absurd (cc (is))
writes_is offset payload (Some (lines.Check session)) is = absurd (cc (is))
writes_is offset payload (Some s) is = absurd (cc (is))

-- a write that begins on an open disk begins each of its blocks
module _ (other offset place : ℕ) (payload : List ℕ) (disk : Disk) (inside : place < length payload / BLOCK_BYTES) where
  abbrev pub Begun : List HistEvent → ℕ → List ℕ → Type 0
  Begun events from bytes =
      Contains events (WriteStart other disk.inode.vid (from / BLOCK_BYTES + place) (is_in_strips disk.inode.spec.policy Block)
      (block_in bytes place))

  block_begins : (s : Statement) → WritesBytes offset payload (ask_of_statement s) → Begun (begins_on other (Some disk) s) offset payload
  block_begins (lines.Write number from size pattern) is =
      let start : from ≡ offset = cc (is) in
      let bytes : payload_of pattern size ≡ payload = cc (is) in
      let within : place < length (payload_of pattern size) / BLOCK_BYTES
      = subst (λ (list : List ℕ). place < length list / BLOCK_BYTES) (sym bytes) inside in
      let events = begins_on other (Some disk) (lines.Write number from size pattern) in
      let own : Begun (begins_on other (Some disk) (lines.Write number from size pattern)) from (payload_of pattern size)
      = Contains-map
      (λ (at : ℕ).
      WriteStart other disk.inode.vid (from / BLOCK_BYTES + at) (is_in_strips disk.inode.spec.policy Block)
      (block_in (payload_of pattern size) at))
      (range_with_len 0 (length (payload_of pattern size) / BLOCK_BYTES)) place
      (in_range 0 (length (payload_of pattern size) / BLOCK_BYTES) place (omega arith) (omega (arith, within))) in
      subst (λ (k : ℕ). Begun events k payload) start (subst (λ (list : List ℕ). Begun events from list) bytes own)
  block_begins (lines.Create session policy shift name size) is = absurd (cc (is))
  block_begins (lines.OpenDisk session name tag) is = absurd (cc (is))
  block_begins (lines.Close session) is = absurd (cc (is))
  block_begins (lines.Read session from size) is = absurd (cc (is))
  block_begins (lines.Snapshot session tag) is = absurd (cc (is))
  block_begins (lines.Clone session base tag name) is = absurd (cc (is))
  block_begins (lines.Delete session name tag) is = absurd (cc (is))
  block_begins (lines.Check session) is = absurd (cc (is))
  block_begins s is = absurd (cc (is))

  pub block_of : (o : Option Disk) (s : Option Statement) → o ≡ Some disk → WritesBytes offset payload (option_and_then ask_of_statement s)
      → Begun (option_map_or (begins_on other o) s []) offset payload
  block_of o None opened is = absurd (cc (is))
  block_of o (Some s) opened is =
      subst (λ (found : Option Disk). Begun (begins_on other found s) offset payload) (sym opened) (block_begins s is)

module _ (script : List Statement) (range : RunsAreInRange script) (req offset : ℕ) (payload : List ℕ)
    (is : WritesBytes offset payload (option_and_then ask_of_statement (request_at script req))) where
  writer : IsWriterAt script req
  writer = inl (writes_is offset payload (request_at script req) is)

  -- each block has begun
  abbrev HasBegunOn : List Entry → List HistEvent → ℕ → Type 0
  HasBegunOn log history vid = (place : ℕ) → place < length payload / BLOCK_BYTES
      → (coded : Bool) × Contains history (WriteStart req vid (offset / BLOCK_BYTES + place) coded (block_in payload place))

  begun_keeps : IsKeptOnHeld script range req writer HasBegunOn
  begun_keeps world began event made happened grows n host there up request got disk opened working others ends history was place inside =
      let (coded, there_is) = was place inside in (
        coded,
        Contains-append_left history made.grown
            (WriteStart req disk.inode.vid (offset / BLOCK_BYTES + place) coded (block_in payload place)) there_is,
      )

  begun_starts : HoldsAtBegin script range req writer HasBegunOn
  begun_starts world began n host there session other ask caused own request got disk opened working others ends history unbegun place
      inside =
      let coded = is_in_strips disk.inode.spec.policy Block in
      let asked : WritesBytes offset payload (option_and_then ask_of_statement (request_at script other))
      = subst (λ (k : ℕ). WritesBytes offset payload (option_and_then ask_of_statement (request_at script k))) (sym own) is in
      let starts = request_grown script world session (Some other) in
      let told = replies_grown script (request_started session (Some other) world) None
      (world_after_cause script n host (GuestAsks session other ask) world) in
      let event : HistEvent = WriteStart other disk.inode.vid (offset / BLOCK_BYTES + place) coded (block_in payload place) in
      let there_is : Contains (history ++ (starts ++ told)) event
      = Contains-append_right history (starts ++ told) event
      (Contains-append_left starts told event
      (block_of other offset place payload disk inside (open_disk_at session world) (request_at script other) opened asked)) in (
        coded,
        subst (λ (k : ℕ).
            Contains (history ++ (outcome_of_step script n host (GuestAsks session other ask) world).grown)
            (WriteStart k disk.inode.vid (offset / BLOCK_BYTES + place) coded (block_in payload place))) own there_is,
      )

module _ (script : List Statement) (range : RunsAreInRange script) (req offset : ℕ) (payload : List ℕ)
    (is : WritesBytes offset payload (option_and_then ask_of_statement (request_at script req))) where
  -- the write ends inside the disk, as the log says that it was made
  abbrev FitsOn : List Entry → List HistEvent → ℕ → Type 0
  FitsOn log history vid =
      (spec : VdiSpec) × (spec_in (log_effects log) vid ≡ Some spec) × (offset + length payload ≤ spec.size)

  fits_keeps : IsKeptOnHeld script range req (writer script range req offset payload is) FitsOn
  fits_keeps world began event made happened grows n host there up request got disk opened working others ends history was =
      let (spec, made_so, fits) = was in (
        spec,
        ap (λ (log : List Entry). spec_in (log_effects log) disk.inode.vid) grows.1
            ∙ spec_stays world.log grows.0 disk.inode.vid spec made_so,
        fits,
      )

  fits_starts : HoldsAtBegin script range req (writer script range req offset payload is) FitsOn
  fits_starts world began n host there session other ask caused own request got disk opened working others ends history unbegun =
      let found : tree.get world.hosts session.node ≡ Some host = ap (tree.get world.hosts) caused.gateway ∙ there in
      let here : (session_among session.number host.node.sessions).disk ≡ Some disk
      = sym (ap (λ (o : Option Host).
      option_and_then (λ (node : Node). (session_at session.number node).disk) (option_map (λ (h : Host). h.node) o)) found) ∙ opened in
      let free : tree.get host.node.requests other ≡ None
      = new-begun script session.number world (were_begun script world began) session other host caused.declared caused.next found in
      let got_own : tree.get (node_step (inputs.Guest other session.number ask) host.node).node.requests other ≡ Some request
      = ap (tree.get (node_step (inputs.Guest other session.number ask) host.node).node.requests) own ∙ got in
      let asked : Some ask ≡ Some (asks.Disk (disk_asks.Write offset payload))
      = sym (ap (option_and_then ask_of_statement) caused.stands ∙ caused.asks)
      ∙ ap (λ (k : ℕ). option_and_then ask_of_statement (request_at script k)) own ∙ is in
      let none : request_refusal host.node.peer (session_among session.number host.node.sessions).disk ask ≡ None
      = not_refused other session.number ask host.node request free got_own in
      let of_disk : refusal_on disk (is_open_disk_deleted host.node.peer (Some disk)) (disk_asks.Write offset payload) ≡ None
      = sym (λ i. request_refusal host.node.peer (here i) (same_Some ask (asks.Disk (disk_asks.Write offset payload)) asked i))
      ∙ none in (
        disk.inode.spec,
        open_spec script range world began n host there session.number disk here,
        write_fits disk (is_open_disk_deleted host.node.peer (Some disk)) offset payload working of_disk,
      )

pub blocks_open-in_run : (script : List Statement) → RunsAreInRange script → (events : List Move) (moment : MomentWithPast)
    → run_with_past script events ≡ Some moment → BlocksUnderWayAreOpen script moment.past.history moment.world.hosts
blocks_open-in_run script range events moment is = record {
  each = λ n host there up req offset place payload opened disk way asked inside known.
      let (coded, begun) = holds-in_run script range req (writer script range req offset payload asked)
      (HasBegunOn script range req offset payload asked) (begun_keeps script range req offset payload asked)
      (begun_starts script range req offset payload asked) events moment is n host there up opened way place inside in
      let (spec, made, fits) = holds-in_run script range req (writer script range req offset payload asked)
      (FitsOn script range req offset payload asked) (fits_keeps script range req offset payload asked)
      (fits_starts script range req offset payload asked) events moment is n host there up opened way in
      let blocks = blocks-in_run script range events moment is opened.inode.vid disk known in
      let same : blocks.spec ≡ spec = same_Some blocks.spec spec (sym blocks.made ∙ made) in
      let many : disk.blocks ≡ spec.size / 512 = blocks.whole ∙ ap (λ (s : VdiSpec). s.size / 512) same in
      let within : offset / 512 + place < disk.blocks = omega (arith, fits, inside, many) in
      let has : has_block ((ledger_of moment.past.history).disks opened.inode.vid) (offset / BLOCK_BYTES + place) ≡ true
      = ap (λ (o : Option histories.Disk). has_block o (offset / BLOCK_BYTES + place)) known
      ∙ lt-ltb (offset / BLOCK_BYTES + place) disk.blocks within in (
        within,
        subst (λ (o : Option histories.Disk).
            HasOpenItem (items_in o (offset / BLOCK_BYTES + place)) req (block_in payload place)) known
            ((under_way-in_run script range events moment is).each n host there up req (offset / BLOCK_BYTES + place) opened coded
            (block_in payload place) way begun has),
      );
}
