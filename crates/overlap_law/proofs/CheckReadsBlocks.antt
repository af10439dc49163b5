-- In each run in range, where a check comes to a write by a reply: the bytes that it has of a block may be read of it, where the history
-- stands, if the disk is there and was available, and the block isn't torn. For what they come from may come to be read of the block.
use Rattle.std.proofs.Common.{◌≡◌, ⊎_elim, inl, inr, refl, arith, ℕ, ◌+◌, ◌*◌, ◌/◌, ◌^◌, ◌<◌, ◌≤◌, ◌&&◌, Bool, true, false, List, map}
use Rattle.std.proofs.Common.{option_map, slice_get, Some, sym, ap, subst, ◌∙◌}
use Rattle.std.specs.Str.{bytes_eq}
use Rattle.std.proofs.lemmas.Slice.Eq.{bytes_eq-Decides}
use Rattle.object_id.specs.declared.entry.VdiSpec.{VdiSpec}
use Rattle.object_id.specs.declared.limits.TheConstants.{BLOCK_BYTES}
use Rattle.object_id.specs.declared.oid.Kind.{Kind}
use Rattle.object_id.specs.declared.oid.Kind.TheVariants.{Block}
use Rattle.object_id.specs.declared.policy.Policy.{Policy}
use Rattle.object_id.specs.declared.policy.Policy.TheVariants.{Copies, Coded}
use Rattle.object_id.specs.Fields.{AreBytes}
use Rattle.object_id.specs.Oid.{kind_of, object_number, vid_of}
use Rattle.gf256.specs.Part.{is_in_strips}
use Rattle.cluster_script.specs.declared.statement.Statement.{Statement}
use Rattle.disk_check.specs.Check.{Check}
use Rattle.disk_check.specs.Value.{value_of}
use Rattle.disk_history.specs.Ledger.{Item}
use Rattle.disk_history.specs.Legal.{is_torn, standing}
use Rattle.gateway.specs.declared.message.Message.{Message}
use Rattle.peer_service.specs.State.{object_size}
use Rattle.sheep_world.specs.HistoryAdditions.{block_in}
use Rattle.sheep_world.specs.World.{Host}
use Rattle.sheep_world.specs.RunsWithAsks.{Move}
use Rattle.vdi_directory.specs.declared.effect.Effect.{Effect}
use Rattle.vdi_directory.specs.Decisions.{log_effects}
use Rattle.vdi_directory.specs.States.{state_of}
use Rattle.overlap_law.specs.Attempts.{AttemptRecord, object_of}
use Rattle.overlap_law.specs.BornObjects.{IsBorn}
use Rattle.overlap_law.specs.Each.{spec_in}
use Rattle.overlap_law.specs.Fates.{IsCreated}
use Rattle.overlap_law.specs.Headline.{ledger_of}
use Rattle.overlap_law.specs.MomentChanges.{RunsAreInRange, Still}
use Rattle.overlap_law.specs.Past.{MomentWithPast, run_with_past}
use Rattle.overlap_law.specs.SoundUnwritten.{IsBeingWritten}
use Rattle.overlap_law.specs.StayingBlocks.{BlocksStayWritten, MayStay}
use Rattle.overlap_law.specs.ToCome.{IsToCome}
use Rattle.overlap_law.specs.Units.{bytes_by, covers_unit, unit_end}
use Rattle.overlap_law.specs.WrittenBlocks.{IsBlockOfDisk, blocks_per_object, is_allowed, is_torn_here, items_at}
use Rattle.overlap_law.proofs.BlocksOfAnyDisk.{any_block}
use Rattle.overlap_law.proofs.BornStays.{born_among}
use Rattle.overlap_law.proofs.CarriedRows.{good_at}
use Rattle.overlap_law.proofs.CarriedTables.{good_id_at}
use Rattle.overlap_law.proofs.CheckReadsMessages.{IsAllRead}
use Rattle.overlap_law.proofs.CheckReadsObject.{IsCheckedObject}
use Rattle.overlap_law.proofs.CheckReadsParts.{ComesToBe, IsReadBlock, copy_comes, strips_come}
use Rattle.overlap_law.proofs.CheckReadsValue.{piece_of}
use Rattle.overlap_law.proofs.GoodDisks.{good_below}
use Rattle.overlap_law.proofs.KnownDisks.{kind-of_object, vid-of_object}
use Rattle.overlap_law.proofs.NoMissingObjects.{live_stands}
use Rattle.overlap_law.proofs.ReadUnits.{created_covers}
use Rattle.overlap_law.proofs.RunsByChanges.{on_the_way}
use Rattle.overlap_law.proofs.SoundAlike.{any_at, come_alike}
use Rattle.overlap_law.proofs.SoundCodedRuns.{coded-in_run}
use Rattle.overlap_law.proofs.TellersOfPieces.{tellers-on_the_way}
use Rattle.overlap_law.proofs.WholeInRuns.{whole-on_the_way}
use Rattle.overlap_law.proofs.WorksOfAttempts.{AreOfWorks, kept_works}

module _ (script : List Statement) (range : RunsAreInRange script) (events : List Move) (start : MomentWithPast)
    (run : run_with_past script events ≡ Some start) (host : Host) (check : Check) (index : ℕ) (of : IsCheckedObject start host check index)
    (stays : BlocksStayWritten (ledger_of start.past.history) (log_effects start.world.log) (good_id_at start) start.world.hosts
    start.past.attempts) (good : good_id_at start check.vid ≡ true) (kept : of.disk.deleted ≡ false) (unit : ℕ)
    (inside : unit < blocks_per_object check.spec)
    (on_disk : index * blocks_per_object check.spec + unit < check.spec.size / 512)
    (whole : is_torn_here check.spec (items_at of.disk check.spec index unit) ≡ false)
    (of_bytes : is_in_strips check.spec.policy Block ≡ true → (place : ℕ) (item : Item)
    → slice_get (standing (items_at of.disk check.spec index unit)) place ≡ Some item → AreBytes item.bytes) where
  abbrev vid : ℕ
  vid = check.vid

  abbrev spec : VdiSpec
  spec = check.spec

  abbrev oid : ℕ
  oid = object_number check.vid index

  abbrev effects : List Effect
  effects = log_effects start.world.log

  abbrev items : List Item
  items = items_at of.disk check.spec index unit

  named : check.vid ≡ 0 → ⊥
  named none = let some = of.vid.0 in absurd (omega (arith, some, none))

  vid_so : vid_of (object_number check.vid index) ≡ check.vid
  vid_so = vid-of_object vid index of.vid of.few

  kind_so : kind_of (object_number check.vid index) ≡ Block
  kind_so = kind-of_object vid index of.vid of.few

  spec_known : spec_in (log_effects start.world.log) (vid_of (object_number check.vid index)) ≡ Some check.spec
  spec_known = ap (spec_in effects) vid_so ∙ of.made_with

  below : index * blocks_per_object check.spec + unit < of.disk.blocks
  below = let large = of.large in omega (arith, on_disk, large)

  block : IsBlockOfDisk (ledger_of start.past.history) (log_effects start.world.log) (good_id_at start) check.vid of.disk check.spec index
      unit
  block = record {
    there = of.known;
    kept = kept;
    live = of.live kept;
    good = good;
    made_with = of.made_with;
    object = of.within;
    inside = inside;
    block = below;
  }

  -- ---- what it may come to be read as, in its own object, may be read of it

  may_stay : (j : ℕ) (one : AttemptRecord) → IsToCome start.world.hosts start.past.attempts (object_number check.vid index) unit j one
      → MayStay start.past.attempts (items_at of.disk check.spec index unit) (Some one.req) (bytes_by unit one.work)
  may_stay j one comes =
      stays.each vid index unit of.disk spec
      (any_block (ledger_of start.past.history) effects (good_id_at start) vid of.disk spec index unit block) whole vid (inr refl) named j
      one comes

  pub is_read : (bytes : List ℕ) → ComesToBe start (object_number check.vid index) unit bytes
      → is_allowed (items_at of.disk check.spec index unit) bytes ≡ true
  is_read bytes comes =
      let may = may_stay comes.place comes.one comes.to_come in
      ap (is_allowed items) comes.same
      ∙ any_at (λ (item : Item). bytes_eq item.bytes (bytes_by unit comes.one.work)) (standing items) may.place may.item may.among may.same

  -- ---- the object was created, and is good

  created : IsCreated start.past.attempts (object_number check.vid index) host.node.peer.epoch
  created = of.created good kept

  good_object : good_at start (object_number check.vid index) ≡ true
  good_object =
      good_below start.world.log vid oid (live_stands (state_of effects vid) (of.live kept)) start.past.attempts start.past.unavailable good
      (inl vid_so)
      (subst (IsBorn start.past.attempts) created.object
      (born_among start.past.attempts created.place created.create created.there created.creating))

  ends_inside : BLOCK_BYTES * unit + BLOCK_BYTES ≤ 2 ^ check.spec.shift
  ends_inside = omega (arith, inside)

  covers : covers_unit unit created.create ≡ true
  covers =
      created_covers unit (object_size spec (kind_of (object_of created.create))) created.create.work created.creating
      ((whole-on_the_way script range events start start run Still).each created.place created.create created.there spec
      (ap (λ (o : ℕ). spec_in effects (vid_of o)) created.object ∙ spec_known))
      (subst (λ (o : ℕ). unit_end (kind_of o) unit ≤ object_size spec (kind_of o)) (sym created.object)
      (subst (λ (k : Kind). unit_end k unit ≤ object_size spec k) (sym kind_so) ends_inside))

  read_block : IsReadBlock start check.spec (object_number check.vid index) unit
  read_block = record {
    policy = of.spec.policy;
    kind_so = kind_so;
    known = ap (option_map (λ (s : VdiSpec). s.policy)) spec_known;
    is_good = good_object;
    inside = ends_inside;
    place = created.place;
    made = created.create;
    there = created.there;
    on = created.object;
    covers = covers;
    is_made_one = created.made;
  }

  -- ---- nobody writes its strips, so what they may come to be read as is one

  module _ (strips : is_in_strips check.spec.policy Block ≡ true) where
    untorn : is_torn (items_at of.disk check.spec index unit) ≡ false
    untorn = sym (ap (λ (b : Bool). b && is_torn items) strips) ∙ whole

    alike : (i k : ℕ) (one two : AttemptRecord)
        → IsToCome start.world.hosts start.past.attempts (object_number check.vid index) unit i one
        → IsToCome start.world.hosts start.past.attempts (object_number check.vid index) unit k two
        → bytes_by unit one.work ≡ bytes_by unit two.work
    alike i k one two first second = ⊎_elim
        (λ (being : IsBeingWritten start.past.attempts (items_at of.disk check.spec index unit)).
        absurd (of.unwritten (index * blocks_per_object spec + unit) (omega arith) below being))
        (λ (same : bytes_by unit one.work ≡ bytes_by unit two.work). same)
        ((come_alike (ledger_of start.past.history) effects (good_id_at start) start.world.hosts start.past.attempts
        (coded-in_run script range events start run) stays).each vid index unit vid vid i k of.disk spec one two
        (any_block (ledger_of start.past.history) effects (good_id_at start) vid of.disk spec index unit block) strips untorn (inr refl)
        named (inr refl) named first second)

    -- and is bytes, as it stands
    bytes_so : (i : ℕ) (one : AttemptRecord) → IsToCome start.world.hosts start.past.attempts (object_number check.vid index) unit i one
        → AreBytes (bytes_by unit one.work)
    bytes_so i one comes =
        let may = may_stay i one comes in
        subst AreBytes ((bytes_eq-Decides may.item.bytes (bytes_by unit one.work)).0 may.same)
        (of_bytes strips may.place may.item may.among)

  -- ---- what was read of it

  pub block_allowed : (epoch : ℕ) (heard : List Message) → IsAllRead start check.spec (object_number check.vid index) epoch heard
      → is_allowed (items_at of.disk check.spec index unit) (block_in (value_of check.spec.policy (map piece_of heard)) unit) ≡ true
  block_allowed epoch heard read = is_read (block_in (value_of spec.policy (map piece_of heard)) unit) (by_policy spec.policy refl)
    where
      by_policy : (q : Policy) → check.spec.policy ≡ q
          → ComesToBe start (object_number check.vid index) unit (block_in (value_of check.spec.policy (map piece_of heard)) unit)
      by_policy (Copies copies) policy_is =
          copy_comes start (tellers-on_the_way script range events start start run Still)
          (on_the_way script AreOfWorks (kept_works script range) events start start run Still) spec oid epoch unit heard read read_block
          copies policy_is
      by_policy (Coded d p) policy_is =
          let strips : is_in_strips spec.policy Block ≡ true = ap (λ (q : Policy). is_in_strips q Block) policy_is in
          strips_come start (tellers-on_the_way script range events start start run Still)
          (on_the_way script AreOfWorks (kept_works script range) events start start run Still) spec oid epoch unit heard read read_block
          d p policy_is (alike strips) (bytes_so strips)
