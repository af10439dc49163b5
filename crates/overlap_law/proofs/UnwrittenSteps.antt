-- In the middle of a step of a run in range a request with an open item in a block, of which an attempt is made, writes the block at a
-- node, on the disk that its session has open: for a reply in the step would have ended its writes.
use Rattle.std.proofs.Common.{◌≡◌, ◌≢◌, inl, inr, ⊎_elim, ℕ, ◌<◌, Bool, true, false, List, ◌++◌, fold, Option, Some, None}
use Rattle.std.proofs.Common.{is_some, slice_get, refl, sym, ap, subst, ◌∙◌}
use Rattle.std.specs.Prelude.{flat_map}
use Rattle.std.specs.List.{list_any}
use Rattle.std.specs.Option.{option_map_or}
use Rattle.std.specs.FinMap as tree
use Rattle.std.proofs.lemmas.Bool.{both_ways, cases_eq, lt-ltb, ltb-true, or_right}
use Rattle.std.proofs.lemmas.List.Sums.{fold-append}
use Rattle.std.proofs.lemmas.Option.{same_Some}
use Rattle.proof_tools.proofs.FiniteMaps.{get-insert_cases, get-insert_other, get-insert_same}
use Rattle.cluster_script.specs.declared.statement.Statement.{Statement}
use Rattle.cluster_script.specs.Sessions.{ScriptSession}
use Rattle.disk_history.specs.declared.event.HistEvent.{HistEvent}
use Rattle.disk_history.specs.Changes.{items_in}
use Rattle.disk_history.specs.Ledger.{Item, Disk, Ledger, empty_ledger, has_block, is_item_of, ledger_after}
use Rattle.sheep_node.specs.declared.ask.Ask.{Ask}
use Rattle.sheep_node.specs.declared.check_write.CheckWrite.{CheckWrite}
use Rattle.sheep_node.specs.declared.course.Request.{Request}
use Rattle.sheep_node.specs.declared.input.Input.TheVariants as inputs
use Rattle.sheep_node.specs.CheckWrites.{has_check_written}
use Rattle.sheep_node.specs.SessionQueues.{session_among}
use Rattle.sheep_node.specs.StepState.{StepState}
use Rattle.sheep_world.specs.Began.{Began}
use Rattle.sheep_world.specs.HistoryAdditions.{gateway_of, has_begun_check_write, is_write_of}
use Rattle.sheep_world.specs.HistoryAdditions.{is_write}
use Rattle.sheep_world.specs.NodeCauses.{GuestAsks}
use Rattle.sheep_world.specs.NodeCauses.{host_with_node, input_of_cause, progress_at_cause, IsCause}
use Rattle.sheep_world.specs.World.{Host, World}
use Rattle.sheep_world.specs.RunsWithAsks.{Move}
use Rattle.overlap_law.specs.AloneItems.{IsOwnItem}
use Rattle.overlap_law.specs.Attempts.{AttemptRecord}
use Rattle.overlap_law.specs.DiskEvents.{ends_write_of}
use Rattle.overlap_law.specs.Headline.{ledger_of}
use Rattle.overlap_law.specs.HistoryGrowth.{added_at_cause, added_by_reply, check_write_at, world_at_cause}
use Rattle.overlap_law.specs.MomentChanges.{MomentTrail, RunsAreInRange}
use Rattle.overlap_law.specs.Past.{MomentWithPast, run_with_past}
use Rattle.overlap_law.specs.SoundItems.{IsUnderWayOn}
use Rattle.overlap_law.specs.StepMoments.{SteppingNode, IsStepping, StepsByChanges, LeadsInStep, first_in_step, moment_in_step}
use Rattle.overlap_law.proofs.AloneItemsInRuns.{own_items-in_run}
use Rattle.overlap_law.proofs.AloneItemsInSteps.{course_in_step, own_in_step}
use Rattle.overlap_law.proofs.AloneStepsOnDisks.{on_disk_in_step}
use Rattle.overlap_law.proofs.AnswersInMoments.{not_lost}
use Rattle.overlap_law.proofs.BlockItems.{blocks_along, has_alike, makes_disk}
use Rattle.overlap_law.proofs.CoursesOfAsks.{id_of_disk, asked_none}
use Rattle.overlap_law.proofs.CoursesOfScript.{asked_by, BeganOn, brings}
use Rattle.overlap_law.proofs.DisksOfWriters.{IsWriterAt, plain_course, of_writer, some_asked}
use Rattle.overlap_law.proofs.DiskShapes.{cause_plain, flat_plain, reply_plain}
use Rattle.overlap_law.proofs.HistoryInMoments.{history_so}
use Rattle.overlap_law.proofs.ItemsOfReplies as replied
use Rattle.overlap_law.proofs.ItemsOfReplies.{check_does, is_check_at, is_write_at, write_does}
use Rattle.overlap_law.proofs.ItemsOfRequests.{begins_write_of}
use Rattle.overlap_law.proofs.ItemsOfWriters.{Writing}
use Rattle.overlap_law.proofs.NoRecoveredDue.{began-with_past}
use Rattle.overlap_law.proofs.RefusedInRuns.{node_begun}
use Rattle.overlap_law.proofs.SessionsOfRequests.{of_test}
use Rattle.overlap_law.proofs.SoundInRuns.{has_item, item_writer, open_under_way-in_run, writes}
use Rattle.overlap_law.proofs.StartedAttempts.{IsStarted, next_is_new}
use Rattle.overlap_law.proofs.UnwrittenItems.{HasOpenOne, is_open_of, none_behind, none_ended, one_open, plain_makes}
use Rattle.overlap_law.proofs.UnwrittenMade.{IsAtNode, IsAtNodeOrTold, made_there}
use Rattle.overlap_law.proofs.UnwrittenMeets.{IsOwnBlock, WritesAt}
use Rattle.overlap_law.proofs.UnwrittenReplies.{NewWriter, AsksNow, ComesNow, asks_so, had_written, new_writer, stays, told_ends}
use Rattle.overlap_law.proofs.PlacedOfScript.{placed_of_script}
use Rattle.overlap_law.proofs.PlacedAnew.{brought_as}

-- a disk that has a block
disk_with : (o : Option Disk) (block : ℕ) → has_block o block ≡ true → (disk : Disk) × (o ≡ Some disk) × (block < disk.blocks)
disk_with None block has = absurd (cc (has))
disk_with (Some disk) block has = (disk, refl, ltb-true block disk.blocks has)

-- an item of a disk that is there
in_items : (o : Option Disk) (disk : Disk) (block place : ℕ) (item : Item) → o ≡ Some disk → slice_get (items_in o block) place ≡ Some item
    → slice_get (disk.items block) place ≡ Some item
in_items o disk block place item same got = ap (λ (o : Option Disk). slice_get (items_in o block) place) (sym same) ∙ got

-- what an item of its own says of a block
pub own_block : (vid offset : ℕ) (payload : List ℕ) (block : ℕ) (bytes : List ℕ) → IsOwnItem vid offset payload vid block bytes
    → IsOwnBlock offset payload block
own_block vid offset payload block bytes own = record { place = own.place; inside = own.inside; at = own.at }

module _ (script : List Statement) (range : RunsAreInRange script) (events : List Move) (start : MomentWithPast)
    (ran : run_with_past script events ≡ Some start) (on : SteppingNode) (is : IsStepping script start.world on)
    (by : StepsByChanges on.cause) (so_far : StepState) (leads : LeadsInStep on (first_in_step on) so_far)
    (trail : MomentTrail script start (moment_in_step script on start so_far)) where
  began : Began script start.world
  began = began-with_past script events start ran

  abbrev here : MomentWithPast
  here = moment_in_step script on start so_far

  abbrev found : World
  found = world_at_cause start.world on.cause

  abbrev write : Option CheckWrite
  write = check_write_at start.world on.cause

  abbrev added : List HistEvent
  added = added_at_cause script start.world on.cause

  abbrev base : List HistEvent
  base = start.past.history ++ added_at_cause script start.world on.cause

  abbrev told : List HistEvent
  told = flat_map (added_by_reply script start.world on.cause) so_far.outputs.replies

  -- where the node has a request that has an item in a block
  pub written_there : (q vid block place : ℕ) (item : Item)
      → slice_get (items_in ((ledger_of (moment_in_step script on start so_far).past.history).disks vid) block) place ≡ Some item
      → is_item_of q item ≡ true → (now : Request) → tree.get so_far.node.requests q ≡ Some now → IsWriterAt script q
      → (w : WritesAt script range events start (moment_in_step script on start so_far) ran trail q vid block) × (w.n ≡ on.n)
  written_there q vid block place item at of now got writer =
      let asks = asks_so script q writer in
      let (ask, asks_it) = some_asked (asked_by script q) asks in
      let (start_disk, course) = course_in_step script range events start ran on is by so_far leads q now got
      (asked_none (asked_by script q) ask now.course asks_it) in
      let plain = plain_course (asked_by script q) asks (session_among now.session so_far.node.sessions).disk start_disk now.course
      course in
      let same : vid ≡ plain.on.disk.inode.vid
      = on_disk_in_step script range events start ran on is by so_far leads q now got plain.on.disk plain.on.there vid block place item at
      of in (
        record {
          n = on.n;
          host = host_with_node on.host so_far.node;
          there = get-insert_same start.world.hosts on.n (host_with_node on.host so_far.node);
          up = not_lost on.host is.up;
          request = now;
          got = got;
          opened = plain.on.disk;
          on = plain.on.there;
          same = sym same;
          writes = record {
            writes = asks;
            began = start_disk;
            is = course;
            own = λ offset payload asked.
                own_block vid offset payload block item.bytes
                (subst (λ (k : ℕ). IsOwnItem k offset payload vid block item.bytes) (sym same)
                (own_in_step script range events start ran on is by so_far leads q now got plain.on.disk plain.on.there offset payload asked
                vid block place item at of));
          };
        },
        refl,
      )

  -- ---- the block

  module _ (q vid block : ℕ) (disk : Disk) (known : (ledger_of (moment_in_step script on start so_far).past.history).disks vid ≡ Some disk)
      (below : block < disk.blocks) (open_now : list_any (is_open_of q) (disk.items block) ≡ true)
      (j : ℕ) (made : AttemptRecord) (made_here : slice_get (moment_in_step script on start so_far).past.attempts j ≡ Some made)
      (made_of : made.req ≡ q) where
    abbrev Here : Type 0
    Here = WritesAt script range events start (moment_in_step script on start so_far) ran trail q vid block

    one : HasOpenOne q (disk.items block)
    one = one_open q (disk.items block) open_now

    there_now : (now : Request) → tree.get so_far.node.requests q ≡ Some now → IsWriterAt script q → Here
    there_now now got writer =
        (written_there q vid block one.place one.item
        (ap (λ (o : Option Disk). slice_get (items_in o block) one.place) known ∙ one.got) one.of now got writer).0

    -- where another node has it
    elsewhere : (way : IsUnderWayOn start.world.hosts q vid) → way.n ≢ on.n → IsWriterAt script q → (was : Disk)
        → (ledger_of start.past.history).disks vid ≡ Some was → (place : ℕ) (item : Item) → slice_get (was.items block) place ≡ Some item
        → is_item_of q item ≡ true → Here
    elsewhere way apart writer was known_then place item got of =
        let (start_disk, at, course) = placed_of_script script range start.world began way.n way.host way.there q way.way.request
        way.way.there (of_writer script q writer) in
        let found_at : slice_get (items_in ((ledger_of start.past.history).disks vid) block) place ≡ Some item
        = ap (λ (o : Option Disk). slice_get (items_in o block) place) known_then ∙ got in
        record {
          n = way.n;
          host = way.host;
          there = get-insert_other start.world.hosts on.n (host_with_node on.host so_far.node) way.n apart ∙ way.there;
          up = way.up;
          request = way.way.request;
          got = way.way.there;
          opened = way.opened;
          on = way.way.on;
          same = way.on;
          writes = record {
            writes = asks_so script q writer;
            began = start_disk;
            is = course;
            own = λ offset payload asked.
                own_block vid offset payload block item.bytes
                (subst (λ (k : ℕ). IsOwnItem k offset payload vid block item.bytes) way.on
                ((own_items-in_run script range events start ran).each way.n way.host way.there way.up q offset payload way.opened way.way
                asked vid block place item found_at of));
          };
        }

    -- ---- where its item comes from

    makes_told : list_any (makes_disk vid block) (flat_map (added_by_reply script start.world on.cause) so_far.outputs.replies) ≡ false
    makes_told =
        plain_makes vid block told
        (flat_plain (added_by_reply script start.world on.cause) (reply_plain script start.world on.cause) so_far.outputs.replies)

    makes_added : list_any (makes_disk vid block) (added_at_cause script start.world on.cause) ≡ false
    makes_added = plain_makes vid block added (cause_plain script start.world on.cause)

    told_begins : list_any (begins_write_of q) (flat_map (added_by_reply script start.world on.cause) so_far.outputs.replies) ≡ false
    told_begins = replied.replies_none script q found write so_far.outputs.replies

    ledger_so : ledger_of (moment_in_step script on start so_far).past.history
        ≡ fold ledger_after (ledger_of (start.past.history ++ added_at_cause script start.world on.cause))
        (flat_map (added_by_reply script start.world on.cause) so_far.outputs.replies)
    ledger_so =
        ap ledger_of (history_so script range start began on by so_far) ∙ fold-append ledger_after empty_ledger base told

    base_so : ledger_of (start.past.history ++ added_at_cause script start.world on.cause)
        ≡ fold ledger_after (ledger_of start.past.history) (added_at_cause script start.world on.cause)
    base_so = fold-append ledger_after empty_ledger start.past.history added

    abbrev HasBlock : Ledger → Type 0
    HasBlock ledger = has_block (ledger.disks vid) block ≡ true

    has_before : (grown : List HistEvent) (ledger : Ledger) → list_any (makes_disk vid block) grown ≡ false
        → HasBlock (fold ledger_after ledger grown) → HasBlock ledger
    has_before grown ledger makes has =
        has_alike vid block ((fold ledger_after ledger grown).disks vid) (ledger.disks vid) (blocks_along vid block grown ledger makes)
        ∙ has

    has_base : HasBlock (ledger_of (start.past.history ++ added_at_cause script start.world on.cause))
    has_base =
        has_before told (ledger_of base) makes_told
        (subst HasBlock ledger_so
        (ap (λ (o : Option Disk). has_block o block) known ∙ lt-ltb block disk.blocks below))

    has_start : HasBlock (ledger_of start.past.history)
    has_start = has_before added (ledger_of start.past.history) makes_added (subst HasBlock base_so has_base)

    abbrev OpenIn : Ledger → Bool
    OpenIn ledger = list_any (is_open_of q) (items_in (ledger.disks vid) block)

    stands_open : OpenIn (fold ledger_after (ledger_of (start.past.history ++ added_at_cause script start.world on.cause))
        (flat_map (added_by_reply script start.world on.cause) so_far.outputs.replies)) ≡ true
    stands_open =
        ap OpenIn (sym ledger_so) ∙ ap (λ (o : Option Disk). list_any (is_open_of q) (items_in o block)) known ∙ open_now

    unended : list_any (ends_write_of q) (flat_map (added_by_reply script start.world on.cause) so_far.outputs.replies) ≡ false
    unended = by_value (list_any (ends_write_of q) told) refl
      where
        by_value : (b : Bool) → list_any (ends_write_of q) told ≡ b → b ≡ false
        by_value false none = refl
        by_value true ends =
            absurd (both_ways (OpenIn (fold ledger_after (ledger_of base) told))
            (none_ended q vid block told (ledger_of base) makes_told told_begins has_base ends) stands_open)

    open_base : OpenIn (ledger_of (start.past.history ++ added_at_cause script start.world on.cause)) ≡ true
    open_base = by_value (OpenIn (ledger_of base)) refl
      where
        by_value : (b : Bool) → OpenIn (ledger_of base) ≡ b → b ≡ true
        by_value true is_so = refl
        by_value false none =
            absurd (both_ways (OpenIn (fold ledger_after (ledger_of base) told))
            (none_behind q vid block told (ledger_of base) makes_told told_begins has_base none) stands_open)

    -- ---- it was open as the event began

    module _ (open_then : OpenIn (ledger_of start.past.history) ≡ true) where
      was : (was : Disk) × ((ledger_of start.past.history).disks vid ≡ Some was) × (block < was.blocks)
      was = disk_with ((ledger_of start.past.history).disks vid) block has_start

      one_then : HasOpenOne q (was.0.items block)
      one_then =
          one_open q (was.0.items block)
          (ap (λ (o : Option Disk). list_any (is_open_of q) (items_in o block)) (sym was.1) ∙ open_then)

      way : IsUnderWayOn start.world.hosts q vid
      way =
          let all = open_under_way-in_run script range events start ran in
          all.each q vid block one_then.place was.0 one_then.item was.1 was.2 one_then.got one_then.of
          (all.unended q vid block one_then.place was.0 one_then.item was.1 one_then.got one_then.of one_then.mark)

      writer : IsWriterAt script q
      writer = item_writer script range events start ran q vid block one_then.place was.0 one_then.item was.1 was.2 one_then.got one_then.of

      its_writes : Writing script range q start.world.hosts
      its_writes =
          writes script range events start ran q vid
          (has_item script range events start ran q vid block one_then.place was.0 one_then.item was.1 was.2 one_then.got one_then.of)

      at_node : (request : Request) → tree.get on.host.node.requests q ≡ Some request → Here
      at_node request got =
          let (now, got_now) = stays script range events start ran on is by so_far leads q request got writer
          (had_written script range events start ran on is by so_far leads q request got its_writes) unended in
          there_now now got_now writer

      was_open : Here
      was_open = ⊎_elim
          (λ (same : way.n ≡ on.n).
          let host_so : way.host ≡ on.host
          = same_Some way.host on.host (sym way.there ∙ ap (tree.get start.world.hosts) same ∙ is.there) in
          at_node way.way.request (ap (λ (h : Host). tree.get h.node.requests q) (sym host_so) ∙ way.way.there))
          (λ (apart : way.n ≢ on.n).
          elsewhere way apart writer was.0 was.1 one_then.place one_then.item one_then.got one_then.of)
          (cases_eq way.n on.n)

    -- ---- or began in it

    -- as a guest asks for it
    module _ (asking : ScriptSession) (ask : Ask) (asks_it : on.cause ≡ GuestAsks asking q ask)
        (on_disk : is_some (id_of_disk (session_among asking.number on.host.node.sessions).disk) ≡ true)
        (writes_it : is_write_at script q ≡ true) where
      caused : IsCause script start.world on.n on.host (GuestAsks asking q ask)
      caused = subst (IsCause script start.world on.n on.host) asks_it is.caused

      fresh : IsStarted script start.world.guests q → ⊥
      fresh = next_is_new script start.world.guests asking.number q caused.next

      -- an attempt of it was made, so it is there
      asked_now : Here
      asked_now = by_place (made_there script range events start ran q fresh trail j made made_here made_of)
        where
          at_place : (at : IsAtNode (moment_in_step script on start so_far) q) → Here
          at_place at = ⊎_elim
              (λ (own : (at.n ≡ on.n) × (host_with_node on.host so_far.node ≡ at.host)).
              there_now at.request (ap (λ (h : Host). tree.get h.node.requests q) own.1 ∙ at.got) (inl writes_it))
              (λ (other : (at.n ≢ on.n) × (tree.get start.world.hosts at.n ≡ Some at.host)).
              absurd (fresh (
                at.request.session,
                node_begun script start.world began at.n at.host other.1 q at.request at.got (of_test script is_write q writes_it),
              )))
              (get-insert_cases start.world.hosts on.n (host_with_node on.host so_far.node) at.n at.host at.there)

          by_place : IsAtNodeOrTold (moment_in_step script on start so_far) q → Here
          by_place (inl at) = at_place at
          by_place (inr (rsp, among)) =
              let from : input_of_cause on.cause ≡ inputs.Guest q asking.number ask = ap input_of_cause asks_it in
              let (what, asks_what) = some_asked (asked_by script q) (asks_so script q (inl writes_it)) in
              let brought = brought_as (asked_by script) (BeganOn script (progress_at_cause on.cause start.world)) q
              (session_among asking.number on.host.node.sessions).disk ask what asks_what
              (brings script start.world on.n on.host on.cause is.there is.caused q asking.number ask from) in
              absurd (both_ways (list_any (ends_write_of q) told) unended
              (told_ends script range events start ran on is by so_far leads q
              (write_does script (has_begun_check_write script q found write) q writes_it)
              (id_of_disk (session_among asking.number on.host.node.sessions).disk) on_disk brought.2 rsp among))

    -- as a check comes to a write
    comes_now : (request : Request) → tree.get on.host.node.requests q ≡ Some request → is_check_at script q ≡ true
        → option_map_or (is_write_of q) (check_write_at start.world on.cause) false ≡ true → Here
    comes_now request got checks its =
        let (now, got_now) = stays script range events start ran on is by so_far leads q request got (inr checks)
        (check_does script (has_begun_check_write script q found write) q checks
        (or_right (option_map_or (has_check_written q) (gateway_of script q found) false) (option_map_or (is_write_of q) write false) its))
        unended in
        there_now now got_now (inr checks)

    began_now : NewWriter script range events start ran on is by so_far leads q on.cause → Here
    began_now (AsksNow asking ask asks_it on_disk writes_it) = asked_now asking ask asks_it on_disk writes_it
    began_now (ComesNow request got checks its) = comes_now request got checks its

    -- so it writes the block then
    pub writes_here : WritesAt script range events start (moment_in_step script on start so_far) ran trail q vid block
    writes_here = by_start (OpenIn (ledger_of start.past.history)) refl
      where
        by_added : OpenIn (ledger_of start.past.history) ≡ false → (b : Bool)
            → list_any (begins_write_of q) (added_at_cause script start.world on.cause) ≡ b → Here
        by_added none true so = began_now (new_writer script range events start ran on is by so_far leads q on.cause is.caused so)
        by_added none false begins =
            absurd (both_ways (OpenIn (ledger_of base))
            (ap OpenIn base_so ∙ none_behind q vid block added (ledger_of start.past.history) makes_added begins has_start none) open_base)

        by_start : (b : Bool) → OpenIn (ledger_of start.past.history) ≡ b → Here
        by_start true open_then = was_open open_then
        by_start false none = by_added none (list_any (begins_write_of q) added) refl
