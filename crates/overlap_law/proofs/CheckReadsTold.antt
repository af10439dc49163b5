-- In each run in range, where blocks stay written as an event begins, what a check reads of an object, as it comes to the write of its
-- value by a reply, may be read, of the disks that were available then: each block in its turn, since the write that begins behind a
-- block's read is of that block alone.
use Rattle.std.proofs.Common.{◌≡◌, ◌⊎◌, inl, inr, arith, ℕ, zero, suc, ◌+◌, ◌*◌, ◌/◌, ◌^◌, ◌<◌, ◌≤◌, ◌==◌, Bool, true, false, cond}
use Rattle.std.proofs.Common.{List, [], ◌∷◌, ◌++◌, filter, flat_map, length, Option, Some, refl, sym, ap, subst, ◌∙◌}
use Rattle.std.specs.FinMap as tree
use Rattle.std.specs.List.{range_with_len}
use Rattle.std.specs.Option.{option_and_then, option_map, option_map_or}
use Rattle.std.proofs.lemmas.Bool.{and_parts, eq-eqb, eqb-true, ltb-true}
use Rattle.object_id.specs.declared.entry.VdiSpec.{VdiSpec}
use Rattle.object_id.specs.declared.limits.TheConstants.{BLOCK_BYTES}
use Rattle.object_id.specs.declared.oid.Kind.TheVariants.{Block}
use Rattle.object_id.specs.Oid.{object_number}
use Rattle.gf256.specs.Part.{is_in_strips}
use Rattle.cluster_script.specs.declared.statement.Statement.{Statement}
use Rattle.cluster_script.specs.NumberedRequests.{request_at}
use Rattle.cluster_script.specs.Statements.{is_check}
use Rattle.disk_check.specs.Check.{read_copies}
use Rattle.disk_check.specs.Value.{pieces_in, value_of}
use Rattle.disk_history.specs.declared.event.HistEvent.TheVariants.{WriteStart}
use Rattle.disk_history.specs.Ledger as histories
use Rattle.disk_history.specs.Ledger.{Item, Ledger, changed_at, has_block, ledger_after, with_item}
use Rattle.disk_history.specs.Legal.{is_torn}
use Rattle.message_wire.specs.declared.name.MessageName.{MessageName}
use Rattle.object_id.specs.declared.node.NodeId.{NodeId}
use Rattle.peer_proto.specs.declared.say.PeerRsp.{PeerRsp}
use Rattle.gateway.specs.Attempt.{bytes_given}
use Rattle.sheep_node.specs.declared.check_write.CheckWrite.{CheckWrite}
use Rattle.sheep_node.specs.declared.input.Input.TheVariants as inputs
use Rattle.sheep_node.specs.CheckWrites.{check_write_on, write_of_value}
use Rattle.sheep_world.specs.HistoryAdditions.{block_checked, block_in, block_written, check_write_adds, check_write_grown, is_on_disk}
use Rattle.sheep_world.specs.NodeCauses.{NodeCause, GuestAsks, RequestComes, ReplyComes, LossIsTold, EntryIsRead, EntryIsPut}
use Rattle.sheep_world.specs.NodeCauses.{RecoveryTicks, WorkIsRetried, ClientAsks, IsCause, ReplyIsHere}
use Rattle.sheep_world.specs.World.{Host, is_host_up, node_at}
use Rattle.sheep_world.specs.RunsWithAsks.{Move}
use Rattle.vdi_directory.specs.Decisions.{log_effects}
use Rattle.overlap_law.specs.Headline.{ledger_of}
use Rattle.overlap_law.specs.HistoryGrowth.{check_write_at}
use Rattle.overlap_law.specs.MomentChanges.{RunsAreInRange}
use Rattle.overlap_law.specs.Past.{MomentWithPast, run_with_past}
use Rattle.overlap_law.specs.StayingBlocks.{BlocksStayWritten}
use Rattle.overlap_law.specs.StepMoments.{SteppingNode, IsStepping}
use Rattle.overlap_law.specs.ToldReads.{MayBeToldOf, WhatIsToldMayBeRead}
use Rattle.overlap_law.specs.WrittenBlocks.{blocks_per_object, is_allowed, is_torn_here, items_at}
use Rattle.overlap_law.proofs.AheadOfChecks.{first_block}
use Rattle.overlap_law.proofs.AnswersInMoments.{not_lost}
use Rattle.overlap_law.proofs.BlockItems.{new_item}
use Rattle.overlap_law.proofs.CarriedTables.{good_id_at}
use Rattle.overlap_law.proofs.CheckReadsBlocks.{block_allowed}
use Rattle.overlap_law.proofs.CheckReadsBytes.{StripsStandAsBytes, strips_stand-in_run}
use Rattle.overlap_law.proofs.CheckReadsComing.{ComesByReply, coming_by_reply, messages_heard}
use Rattle.overlap_law.proofs.CheckReadsMessages.{IsAllRead, all_read, value_read}
use Rattle.overlap_law.proofs.CheckReadsObject.{IsCheckedObject, checked_object, is_compared, work_so}
use Rattle.overlap_law.proofs.EndingWrites.{whole_block}
use Rattle.overlap_law.proofs.KnownDisks.{kind-of_object}
use Rattle.overlap_law.proofs.LongValues.{value-long}
use Rattle.overlap_law.proofs.NoRecoveredDue.{began-with_past}
use Rattle.overlap_law.proofs.WholeInRuns.{sound_here}

-- ---- a write that begins on another block of the disk leaves what may be told of one

module _ (ledger : Ledger) (req vid at : ℕ) (coded : Bool) (written : List ℕ) (block : ℕ) (bytes : List ℕ)
    (apart : (block == at) ≡ false) (told : MayBeToldOf ledger vid block bytes) where
  abbrev item : Item
  item = new_item req coded written

  abbrev Then : Bool → Option histories.Disk
  Then b = cond b (changed_at vid (option_map (with_item at item) (ledger.disks vid)) ledger.disks) ledger.disks vid

  changed_so : changed_at vid (option_map (with_item at item) (ledger.disks vid)) ledger.disks vid ≡ Some (with_item at item told.disk)
  changed_so = λ i. cond (eq-eqb vid vid refl i) (option_map (with_item at item) (told.there i)) (told.there i)

  items_so : (with_item at item told.disk).items block ≡ told.disk.items block
  items_so = ap (λ (b : Bool). cond b (told.disk.items at ++ item ∷ []) (told.disk.items block)) apart

  by_block : (b : Bool) → has_block (ledger.disks vid) at ≡ b
      → MayBeToldOf (ledger_after ledger (WriteStart req vid at coded written)) vid block bytes
  by_block true has = record {
    disk = with_item at item told.disk;
    there = ap Then has ∙ changed_so;
    within = told.within;
    whole = told.whole;
    given = subst
        (λ (items : List Item). (told.disk.deleted ≡ true) ⊎ ((is_torn items ≡ true) ⊎ (is_allowed items bytes ≡ true))) (sym items_so)
        told.given;
  }
  by_block false has = record {
    disk = told.disk;
    there = ap Then has ∙ told.there;
    within = told.within;
    whole = told.whole;
    given = told.given;
  }

  told_stays : MayBeToldOf (ledger_after ledger (WriteStart req vid at coded written)) vid block bytes
  told_stays = by_block (has_block (ledger.disks vid) at) refl

-- ---- block by block

-- what stands apart differs
apart_so : (a b : ℕ) → a < b → (b == a) ≡ false
apart_so a b less = by_test (b == a) refl
  where
    by_test : (t : Bool) → (b == a) ≡ t → t ≡ false
    by_test false is = refl
    by_test true is = let same = eqb-true b a is in absurd (omega (arith, less, same))

module _ (good_id : ℕ → Bool) (write : CheckWrite) where
  abbrev places : ℕ → ℕ → List ℕ
  places from count = filter (is_on_disk write) (range_with_len from count)

  abbrev coded : Bool
  coded = is_in_strips write.spec.policy Block

  -- each block that the disk has, from a place on, may be told of
  abbrev MayBeToldFrom : ℕ → ℕ → Ledger → Type 0
  MayBeToldFrom from end ledger = (place : ℕ) → from ≤ place → place < end → is_on_disk write place ≡ true
      → good_id write.vid.0 ≡ true → MayBeToldOf ledger write.vid.0 (block_written write place) (block_in write.value place)

  later_told : (from end : ℕ) (ledger : Ledger) → MayBeToldFrom from end ledger
      → MayBeToldFrom (from + 1) end
      (ledger_after ledger
      (WriteStart write.req write.vid.0 (block_written write from) coded (block_in write.value from)))
  later_told from end ledger all place further before on good =
      told_stays ledger write.req write.vid.0 (block_written write from) coded (block_in write.value from) (block_written write place)
      (block_in write.value place) (apart_so (block_written write from) (block_written write place) (omega (arith, further)))
      (all place (omega (arith, further)) before on good)

  told_from : (from count end : ℕ) (ledger : Ledger) → from + count ≤ end → MayBeToldFrom from end ledger
      → WhatIsToldMayBeRead good_id ledger (flat_map (block_checked write) (places from count))
  told_from from zero end ledger within all = tt
  told_from from (suc count) end ledger within all =
      by_test (is_on_disk write from) refl
      (told_from (from + 1) count end
      (ledger_after ledger (WriteStart write.req write.vid.0 (block_written write from) coded (block_in write.value from)))
      (omega (arith, within)) (later_told from end ledger all))
      (told_from (from + 1) count end ledger (omega (arith, within))
      (λ place further before on good. all place (omega (arith, further)) before on good))
    where
      by_test : (b : Bool) → is_on_disk write from ≡ b
          → WhatIsToldMayBeRead good_id
          (ledger_after ledger (WriteStart write.req write.vid.0 (block_written write from) coded (block_in write.value from)))
          (flat_map (block_checked write) (places (from + 1) count))
          → WhatIsToldMayBeRead good_id ledger (flat_map (block_checked write) (places (from + 1) count))
          → WhatIsToldMayBeRead good_id ledger
          (flat_map (block_checked write) (cond b (from ∷ places (from + 1) count) (places (from + 1) count)))
      by_test true on then rest = (λ good. all from (omega arith) (omega (arith, within)) on good, (tt, then))
      by_test false off then rest = rest

  pub adds_told : (ledger : Ledger) → MayBeToldFrom 0 (length write.value / BLOCK_BYTES) ledger
      → WhatIsToldMayBeRead good_id ledger (check_write_adds write)
  adds_told ledger all =
      told_from 0 (length write.value / BLOCK_BYTES) (length write.value / BLOCK_BYTES) ledger (omega arith) all

-- ---- a check that comes to a write

module _ (script : List Statement) (range : RunsAreInRange script) (events : List Move) (start : MomentWithPast)
    (run : run_with_past script events ≡ Some start)
    (stays : BlocksStayWritten (ledger_of start.past.history) (log_effects start.world.log) (good_id_at start) start.world.hosts
    start.past.attempts) (of_bytes : StripsStandAsBytes start) where
  module _ (n : ℕ) (host : Host) (there : tree.get start.world.hosts n ≡ Some host) (up : is_host_up host ≡ true) (name : MessageName)
      (from : NodeId) (rsp : PeerRsp) (caused : ReplyIsHere start.world n name from rsp) (write : CheckWrite)
      (comes : ComesByReply write rsp host.node) (long : length write.value ≡ 2 ^ write.spec.shift)
      (checks : option_map_or is_check (request_at script write.req) false ≡ true) (index : ℕ)
      (all : comes.work.work ≡ read_copies comes.check index) (of : IsCheckedObject start host comes.check index)
      (made : write_of_value write.req comes.check (
        index,
        value_of comes.check.spec.policy
            (pieces_in comes.check.spec (bytes_given comes.work.work (messages_heard rsp comes.attempt))),
      ) ≡ write) where
    abbrev spec : VdiSpec
    spec = comes.check.spec

    abbrev value : List ℕ
    value = value_of comes.check.spec.policy (pieces_in comes.check.spec (bytes_given comes.work.work (messages_heard rsp comes.attempt)))

    abbrev of_value : CheckWrite
    of_value = write_of_value write.req comes.check (index, value)

    value_length : length value ≡ 2 ^ comes.check.spec.shift
    value_length = subst (λ (w : CheckWrite). length w.value ≡ 2 ^ w.spec.shift) (sym made) long

    read : IsAllRead start comes.check.spec (object_number comes.check.vid index) comes.attempt.epoch.0 (messages_heard rsp comes.attempt)
    read =
        all_read script range events start run n host there (not_lost host up) name from rsp caused write comes index all
        (kind-of_object comes.check.vid index of.vid of.few)

    module _ (place : ℕ) (within : place < length value / BLOCK_BYTES) (on : is_on_disk of_value place ≡ true)
        (good : good_id_at start comes.check.vid ≡ true) where
      abbrev items : List Item
      items = items_at of.disk comes.check.spec index place

      inside : place < blocks_per_object comes.check.spec
      inside = let size = value_length in omega (arith, within, size)

      block_so : index * blocks_per_object comes.check.spec + place ≡ block_written of_value place
      block_so = let same = first_block spec index of.spec in omega (arith, same)

      on_disk : index * blocks_per_object comes.check.spec + place < comes.check.spec.size / BLOCK_BYTES
      on_disk =
          let low : block_written of_value place < spec.size / BLOCK_BYTES
          = ltb-true (block_written of_value place) (spec.size / BLOCK_BYTES) on in
          let same = block_so in
          omega (arith, same, low)

      abbrev IsGivenSo : Type 0
      IsGivenSo = (is_torn (items_at of.disk comes.check.spec index place) ≡ true)
          ⊎ (is_allowed (items_at of.disk comes.check.spec index place) (block_in value place) ≡ true)

      untorn_read : of.disk.deleted ≡ false → (b : Bool) → is_torn_here comes.check.spec (items_at of.disk comes.check.spec index place) ≡ b
          → IsGivenSo
      untorn_read kept true torn = inl (and_parts (is_in_strips spec.policy Block) (is_torn items) torn).1
      untorn_read kept false whole =
          inr (ap (λ (bytes : List ℕ). is_allowed items (block_in bytes place))
          (value_read script range events start run n host there (not_lost host up) name from rsp caused write comes index all
          (kind-of_object comes.check.vid index of.vid of.few))
          ∙ block_allowed script range events start run host comes.check index of stays good kept place inside on_disk whole
          (λ strips k item among.
          of_bytes comes.check.vid (index * blocks_per_object spec + place) k of.disk spec item of.known of.made_with strips
          (let less = on_disk in let large = of.large in omega (arith, less, large)) among)
          comes.attempt.epoch.0 (messages_heard rsp comes.attempt) read)

      given : (b : Bool) → of.disk.deleted ≡ b → (of.disk.deleted ≡ true) ⊎ IsGivenSo
      given true gone = inl gone
      given false kept = inr (untorn_read kept (is_torn_here spec items) refl)

      place_told : MayBeToldOf (ledger_of start.past.history) comes.check.vid (block_written of_value place) (block_in value place)
      place_told =
          subst (λ (b : ℕ). MayBeToldOf (ledger_of start.past.history) comes.check.vid b (block_in value place)) block_so (record {
            disk = of.disk;
            there = of.known;
            within = let less = on_disk in let large = of.large in omega (arith, less, large);
            whole = whole_block value place within;
            given = given of.disk.deleted refl;
          })

    value_told : WhatIsToldMayBeRead (good_id_at start) (ledger_of start.past.history) (check_write_adds write)
    value_told =
        subst (λ (w : CheckWrite). WhatIsToldMayBeRead (good_id_at start) (ledger_of start.past.history) (check_write_adds w)) made
        (adds_told (good_id_at start) of_value (ledger_of start.past.history) (λ place from_first within on good.
        place_told place within on good))

  -- ---- by the cause of a step

  module _ (n : ℕ) (host : Host) (there : tree.get start.world.hosts n ≡ Some host) (up : is_host_up host ≡ true) (write : CheckWrite) where
    by_reply : (name : MessageName) (from : NodeId) (rsp : PeerRsp) → ReplyIsHere start.world n name from rsp
        → check_write_on (inputs.Reply rsp) host.node ≡ Some write → (b : Bool)
        → option_map_or is_check (request_at script write.req) false ≡ b
        → WhatIsToldMayBeRead (good_id_at start) (ledger_of start.past.history) (cond b (check_write_adds write) [])
    by_reply name from rsp caused is false checks = tt
    by_reply name from rsp caused is true checks =
        let began = began-with_past script events start run in
        let comes = coming_by_reply write rsp host.node is in
        let at = is_compared script range events start run n host there up write rsp comes checks in
        value_told n host there up name from rsp caused write comes
        (value-long write rsp host.node (sound_here script range start.world began n host there up) is) checks at.index
        (work_so script range events start run n host there up write rsp comes checks)
        (checked_object script range events start run n host there up write rsp comes checks) at.made

    pub check_told : (cause : NodeCause) → IsCause script start.world n host cause → check_write_at start.world cause ≡ Some write
        → WhatIsToldMayBeRead (good_id_at start) (ledger_of start.past.history) (check_write_grown script write)
    check_told (GuestAsks session req ask) caused comes = absurd (cc (comes))
    check_told (RequestComes name to request) caused comes = absurd (cc (comes))
    check_told (ReplyComes name from rsp) caused comes =
        let here : check_write_at start.world (ReplyComes name from rsp) ≡ check_write_on (inputs.Reply rsp) host.node
        = ap (λ (k : ℕ). option_and_then (check_write_on (inputs.Reply rsp)) (node_at k start.world)) caused.here
        ∙ ap (λ (o : Option Host). option_and_then (check_write_on (inputs.Reply rsp)) (option_map (λ (h : Host). h.node) o)) there in
        by_reply name from rsp caused (sym here ∙ comes) (option_map_or is_check (request_at script write.req) false) refl
    check_told (LossIsTold name packet) caused comes = absurd (cc (comes))
    check_told (EntryIsRead entry) caused comes = absurd (cc (comes))
    check_told (EntryIsPut entry) caused comes = absurd (cc (comes))
    check_told RecoveryTicks caused comes = absurd (cc (comes))
    check_told WorkIsRetried caused comes = absurd (cc (comes))
    check_told (ClientAsks req ask) caused comes = absurd (cc (comes))

-- ---- each event

pub checks_read : (script : List Statement) → RunsAreInRange script → (events : List Move) (start : MomentWithPast)
    (stepping : SteppingNode) (write : CheckWrite) → run_with_past script events ≡ Some start
    → BlocksStayWritten (ledger_of start.past.history) (log_effects start.world.log) (good_id_at start) start.world.hosts
    start.past.attempts → IsStepping script start.world stepping → check_write_at start.world stepping.cause ≡ Some write
    → WhatIsToldMayBeRead (good_id_at start) (ledger_of start.past.history) (check_write_grown script write)
checks_read script range events start stepping write run written is comes =
    check_told script range events start run written (strips_stand-in_run script range events start run) stepping.n stepping.host
    is.there is.up write stepping.cause is.caused comes
