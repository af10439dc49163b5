-- What a block may come to be read as may be read of it still after a history gets an event that keeps it so.
use Rattle.std.proofs.Common.{◌≡◌, ◌≢◌, inl, inr, ⊎_elim, ℕ, zero, ◌+◌, ◌*◌, ◌<◌, ◌==◌, ◌&&◌, not, Bool, true, false, cond, List, [], ◌∷◌}
use Rattle.std.proofs.Common.{◌++◌, map, filter, fold, Option, Some, None, option_map, slice_get, refl, sym, ap, subst, ◌∙◌}
use Rattle.std.proofs.lemmas.Bool.{both_ways, eqb-true}
use Rattle.std.proofs.lemmas.Option.{same_Some}
use Rattle.object_id.specs.declared.entry.VdiSpec.{VdiSpec}
use Rattle.object_id.specs.declared.limits.TheConstants.{BLOCK_BYTES}
use Rattle.object_id.specs.declared.oid.Kind.TheVariants.{Block}
use Rattle.object_id.specs.Fields.{zeros}
use Rattle.object_id.specs.Oid.{object_number}
use Rattle.gf256.specs.Part.{is_in_strips}
use Rattle.disk_history.specs.declared.event.HistEvent.{HistEvent}
use Rattle.disk_history.specs.declared.event.HistEvent.TheVariants.{Create, Copy, Delete, WriteStart, WriteDone, WriteRefused, WriterLost}
use Rattle.disk_history.specs.declared.event.HistEvent.TheVariants.{Read}
use Rattle.disk_history.specs.Changes.{items_in}
use Rattle.disk_history.specs.Legal.{is_torn, standing}
use Rattle.disk_history.specs.Ledger.{Open, Acknowledged, Lost, Item, Disk, Ledger, zeros_item, is_item_of, item_with_mark, changed_at}
use Rattle.disk_history.specs.Ledger.{with_item, has_block, ledger_after}
use Rattle.vdi_directory.specs.declared.effect.Effect.{Effect}
use Rattle.overlap_law.specs.Attempts.{AttemptRecord}
use Rattle.overlap_law.specs.Each.{spec_in}
use Rattle.overlap_law.specs.StayingBlocks.{IsBlockOfAnyDisk, WasServed, MayStay, IsHomeToCome, ItemsAreOpen, IsMadeBlank, IsMadeLike}
use Rattle.overlap_law.specs.StayingBlocks.{HasEntryOf, IsAloneWhereWritten, ComesToNothing, KeepsBlocks, AllKeepBlocks}
use Rattle.overlap_law.specs.Tables.{entry_by}
use Rattle.overlap_law.specs.ToCome.{comes_to_nothing, IsToCome, IsEntryToCome}
use Rattle.overlap_law.specs.Words.{Hosts, is_mute, bytes_by}
use Rattle.overlap_law.specs.WrittenBlocks.{blocks_per_object, items_at, is_torn_here}
use Rattle.overlap_law.proofs.ItemsStayOpen.{open_later}
use Rattle.overlap_law.proofs.StandingItems.{as_acknowledged, StandsDone, done_stand}
use Rattle.overlap_law.proofs.ItemsGoOn.{same_bytes, GoOn, All, alike_go_on, more_go_on, lost_go_on, refused_go_on}

-- ---- disks

module _ (effects : List Effect) (good_id : ℕ → Bool) where
  abbrev Block_of : Ledger → ℕ → Disk → VdiSpec → ℕ → ℕ → Type 0
  Block_of ledger vid disk spec index unit = IsBlockOfAnyDisk ledger effects good_id vid disk spec index unit

  -- a block of a disk that was there before, with these items then
  record WasThere (ledger : Ledger) (vid : ℕ) (disk : Disk) (spec : VdiSpec) (index unit : ℕ)
      (change : List Item → List Item) : Type 0 where
    pub was : Disk
    pub block : Block_of ledger vid was spec index unit
    pub items : items_at disk spec index unit ≡ change (items_at was spec index unit)

  module _ (ledger later : Ledger) (vid : ℕ) (disk : Disk) (spec : VdiSpec) (index unit : ℕ)
      (block : Block_of later vid disk spec index unit) where
    back : (was : Disk) → ledger.disks vid ≡ Some was → disk.blocks ≡ was.blocks → Block_of ledger vid was spec index unit
    back was there blocks = record {
      there = there;
      alive = block.alive;
      good = block.good;
      made_with = block.made_with;
      object = block.object;
      inside = block.inside;
      block = subst (λ (n : ℕ). index * blocks_per_object spec + unit < n) blocks block.block;
    }

    -- the disks that are the same
    unchanged : ledger.disks vid ≡ Some disk → Block_of ledger vid disk spec index unit
    unchanged there = back disk there refl

    -- all items changed alike
    changed : (change : List Item → List Item)
        → option_map (λ (disk : Disk). record disk { items = λ block. change (disk.items block) }) (ledger.disks vid) ≡ Some disk
        → WasThere ledger vid disk spec index unit change
    changed change there = by_disk (ledger.disks vid) refl there
      where
        by_disk : (o : Option Disk) → ledger.disks vid ≡ o
            → option_map (λ (disk : Disk). record disk { items = λ block. change (disk.items block) }) o ≡ Some disk
            → WasThere ledger vid disk spec index unit change
        by_disk None is there = absurd (cc (there))
        by_disk (Some was) is there =
            let same = same_Some (record was { items = λ block. change (was.items block) }) disk there in
            record {
              was = was;
              block = back was is (ap (λ (d : Disk). d.blocks) (sym same));
              items = ap (λ (d : Disk). items_at d spec index unit) (sym same);
            }

-- of these attempts some count, by a block's spec and their places; and of those which were served, these are known
module _ (effects : List Effect) (good_id : ℕ → Bool) (hosts : Hosts) (attempts : List AttemptRecord) (Counts : VdiSpec → ℕ → Type 0)
    (counted : List AttemptRecord) (known : (req : ℕ) → WasServed counted req → WasServed attempts req)
    (real : (vid : ℕ) (spec : VdiSpec) → spec_in effects vid ≡ Some spec → vid ≢ 0) where
  abbrev IsBlock : Ledger → ℕ → Disk → VdiSpec → ℕ → ℕ → Type 0
  IsBlock ledger vid disk spec index unit = IsBlockOfAnyDisk ledger effects good_id vid disk spec index unit

  -- what a block with these items may come to be read as may be read of it, of the attempts that count
  pub record HoldsAt (vid index unit : ℕ) (spec : VdiSpec) (items : List Item) : Type 0 where
    pub holes : (j : ℕ) (entry : AttemptRecord) → IsEntryToCome hosts attempts vid index j entry → entry_by index entry ≡ 0
        → MayStay counted items None (zeros BLOCK_BYTES)
    pub each : is_torn_here spec items ≡ false → (home : ℕ) → IsHomeToCome hosts attempts vid index home → home ≢ 0
        → (j : ℕ) (attempt : AttemptRecord) → IsToCome hosts attempts (object_number home index) unit j attempt → Counts spec j
        → MayStay counted items (Some attempt.req) (bytes_by unit attempt.work)

  abbrev pub AreWritten : Ledger → Type 0
  AreWritten ledger = (vid : ℕ) (disk : Disk) (spec : VdiSpec) (index unit : ℕ) → IsBlock ledger vid disk spec index unit
      → HoldsAt vid index unit spec (items_at disk spec index unit)

  whole_here : (b t u : Bool) → (t ≡ false → u ≡ false) → (b && t) ≡ false → (b && u) ≡ false
  whole_here true t u whole is = whole is
  whole_here false t u whole is = refl

  goes_on : (Apart : Option ℕ → Type 0) (vid index unit : ℕ) (spec : VdiSpec) (items later : List Item) → GoOn counted Apart items later
      → Apart None → ((oid unit j : ℕ) (attempt : AttemptRecord) → IsToCome hosts attempts oid unit j attempt → Apart (Some attempt.req))
      → HoldsAt vid index unit spec items → HoldsAt vid index unit spec later
  goes_on Apart vid index unit spec items later goes nobody apart holds = record {
    holes = λ j entry comes hole. goes.stay None (zeros BLOCK_BYTES) nobody (holds.holes j entry comes hole);
    each = λ whole home to_come some j attempt comes below.
        goes.stay (Some attempt.req) (bytes_by unit attempt.work) (apart (object_number home index) unit j attempt comes)
        (holds.each (whole_here (is_in_strips spec.policy Block) (is_torn later)
        (is_torn items) goes.whole whole) home to_come some j attempt
        comes below);
  }

  -- all items of a ledger change alike
  all_go_on : (Apart : Option ℕ → Type 0) (ledger later : Ledger) (change : List Item → List Item)
      → ((vid : ℕ) (disk : Disk) → later.disks vid ≡ Some disk
      → option_map (λ (disk : Disk). record disk { items = λ block. change (disk.items block) }) (ledger.disks vid) ≡ Some disk)
      → ((vid : ℕ) (was : Disk) → ledger.disks vid ≡ Some was → (block : ℕ)
      → GoOn counted Apart (was.items block) (change (was.items block)))
      → Apart None → ((oid unit j : ℕ) (attempt : AttemptRecord) → IsToCome hosts attempts oid unit j attempt → Apart (Some attempt.req))
      → AreWritten ledger → AreWritten later
  all_go_on Apart ledger later change so goes nobody apart all vid disk spec index unit block =
      let before = changed effects good_id ledger later vid disk spec index unit block change (so vid disk block.there) in
      subst (HoldsAt vid index unit spec) (sym before.items)
      (goes_on Apart vid index unit spec (items_at before.was spec index unit) (change (items_at before.was spec index unit))
      (goes vid before.was before.block.there (index * blocks_per_object spec + unit)) nobody apart
      (all vid before.was spec index unit before.block))

  -- one disk changes
  one_changes : (ledger later : Ledger) (place : ℕ) (new : Option Disk)
      → ((vid : ℕ) → later.disks vid ≡ changed_at place new ledger.disks vid)
      → ((disk : Disk) (spec : VdiSpec) (index unit : ℕ) → IsBlock later place disk spec index unit → new ≡ Some disk
      → HoldsAt place index unit spec (items_at disk spec index unit))
      → AreWritten ledger → AreWritten later
  one_changes ledger later place new so own all vid disk spec index unit block =
      by_test (vid == place) refl (sym (so vid) ∙ block.there)
    where
      by_test : (b : Bool) → (vid == place) ≡ b → cond b new (ledger.disks vid) ≡ Some disk
          → HoldsAt vid index unit spec (items_at disk spec index unit)
      by_test true same there =
          let is : vid ≡ place = eqb-true vid place same in
          subst (λ (v : ℕ). HoldsAt v index unit spec (items_at disk spec index unit)) (sym is)
          (own disk spec index unit (subst (λ (v : ℕ). IsBlock later v disk spec index unit) is block) there)
      by_test false apart there =
          all vid disk spec index unit (unchanged effects good_id ledger later vid disk spec index unit block there)

  -- ---- what an event makes

  made_holds : (ledger : Ledger) (vid blocks : ℕ) → IsMadeBlank effects good_id hosts attempts vid → AreWritten ledger
      → AreWritten (ledger_after ledger (Create vid blocks))
  made_holds ledger vid blocks blank =
      one_changes ledger (ledger_after ledger (Create vid blocks)) vid
      (Some (record { blocks = blocks; items = λ block. zeros_item ∷ []; deleted = false })) (λ v. refl)
      (λ disk spec index unit block there.
      subst (HoldsAt vid index unit spec)
      (ap (λ (d : Disk). items_at d spec index unit)
      (same_Some (record { blocks = blocks; items = λ block. zeros_item ∷ []; deleted = false }) disk there))
      (record {
        holes = λ j entry comes hole. record {
          place = zero;
          item = zeros_item;
          among = refl;
          same = same_bytes (zeros BLOCK_BYTES);
          stays = inl refl;
        };
        each = λ whole home to_come some j attempt comes below.
            absurd (nothing index unit home (entry_of block) to_come some j attempt comes);
      }))
    where
      entry_of : {disk : Disk} {spec : VdiSpec} {index unit : ℕ}
          → IsBlock (ledger_after ledger (Create vid blocks)) vid disk spec index unit
          → HasEntryOf effects good_id vid index
      entry_of {disk} {spec} block =
          record { alive = block.alive; good = block.good; spec = spec; made_with = block.made_with; object = block.object }

      nothing : (index unit home : ℕ) → HasEntryOf effects good_id vid index → IsHomeToCome hosts attempts vid index home → home ≢ 0
          → (j : ℕ) (attempt : AttemptRecord) → IsToCome hosts attempts (object_number home index) unit j attempt → ⊥
      nothing index unit home has (inl (i, entry, comes, is)) some j attempt there = some (sym is ∙ blank.entry index i entry has comes)
      nothing index unit home has (inr is) some j attempt there =
          blank.own index unit j attempt has (subst (λ (v : ℕ). IsToCome hosts attempts (object_number v index) unit j attempt) is there)

  copied_holds : (ledger : Ledger) (old new : ℕ) → IsMadeLike effects good_id hosts attempts ledger old new → AreWritten ledger
      → AreWritten (ledger_after ledger (Copy old new))
  copied_holds ledger old new like all =
      one_changes ledger (ledger_after ledger (Copy old new)) new
      (option_map (λ (disk : Disk). record disk { deleted = false }) (ledger.disks old)) (λ v. refl) own all
    where
      own : (disk : Disk) (spec : VdiSpec) (index unit : ℕ) → IsBlock (ledger_after ledger (Copy old new)) new disk spec index unit
          → option_map (λ (disk : Disk). record disk { deleted = false }) (ledger.disks old) ≡ Some disk
          → HoldsAt new index unit spec (items_at disk spec index unit)
      own disk spec index unit block there =
          let (was, before) = like.block index unit disk spec block in
          let same : record was { deleted = false } ≡ disk
          = same_Some (record was { deleted = false }) disk
          (sym (ap (option_map (λ (disk : Disk). record disk { deleted = false })) before.there) ∙ there) in
          subst (HoldsAt new index unit spec) (ap (λ (d : Disk). items_at d spec index unit) same)
          (of_old index unit spec (items_at was spec index unit)
          (record { alive = block.alive; good = block.good; spec = spec; made_with = block.made_with; object = block.object })
          (all old was spec index unit before))
        where
          of_old : (index unit : ℕ) (spec : VdiSpec) (items : List Item) → HasEntryOf effects good_id new index
              → HoldsAt old index unit spec items → HoldsAt new index unit spec items
          of_old index unit spec items has holds = record {
            holes = λ j entry comes hole.
                let (i, other, there, same) = like.entry index j entry has comes in holds.holes i other there (same ∙ hole);
            each = λ whole home to_come some j attempt comes below.
                holds.each whole home (home_of_old home j attempt comes to_come) some j attempt comes below;
          }
            where
              home_of_old : (home j : ℕ) (attempt : AttemptRecord)
                  → IsToCome hosts attempts (object_number home index) unit j attempt
                  → IsHomeToCome hosts attempts new index home → IsHomeToCome hosts attempts old index home
              home_of_old home j attempt comes (inl (i, entry, there, is)) =
                  let (k, other, found, same) = like.entry index i entry has there in inl (k, other, found, same ∙ is)
              home_of_old home j attempt comes (inr is) =
                  absurd (like.own index unit j attempt has
                  (subst (λ (v : ℕ). IsToCome hosts attempts (object_number v index) unit j attempt) is comes))

  deleted_holds : (ledger : Ledger) (vid : ℕ) → AreWritten ledger → AreWritten (ledger_after ledger (Delete vid))
  deleted_holds ledger vid =
      λ all. one_changes ledger (ledger_after ledger (Delete vid)) vid
      (option_map (λ (disk : Disk). record disk { deleted = true }) (ledger.disks vid)) (λ v. refl) (own all) all
    where
      own : AreWritten ledger → (disk : Disk) (spec : VdiSpec) (index unit : ℕ)
          → IsBlock (ledger_after ledger (Delete vid)) vid disk spec index unit
          → option_map (λ (disk : Disk). record disk { deleted = true }) (ledger.disks vid) ≡ Some disk
          → HoldsAt vid index unit spec (items_at disk spec index unit)
      own all disk spec index unit block there = by_disk (ledger.disks vid) refl there
        where
          by_disk : (o : Option Disk) → ledger.disks vid ≡ o → option_map (λ (disk : Disk). record disk { deleted = true }) o ≡ Some disk
              → HoldsAt vid index unit spec (items_at disk spec index unit)
          by_disk None is there = absurd (cc (there))
          by_disk (Some was) is there =
              let same : record was { deleted = true } ≡ disk = same_Some (record was { deleted = true }) disk there in
              subst (HoldsAt vid index unit spec) (ap (λ (d : Disk). items_at d spec index unit) same)
              (all vid was spec index unit
              (back effects good_id ledger (ledger_after ledger (Delete vid)) vid disk spec index unit block was is
              (ap (λ (d : Disk). d.blocks) (sym same))))

  started_holds : (ledger : Ledger) (req vid at : ℕ) (coded : Bool) (bytes : List ℕ) → AreWritten ledger
      → AreWritten (ledger_after ledger (WriteStart req vid at coded bytes))
  started_holds ledger req vid at coded bytes all = by_test (has_block (ledger.disks vid) at) refl
    where
      new : Item
      new = record { request = Some req; bytes = bytes; coded = coded; mark = Open }

      later : Ledger
      later = ledger_after ledger (WriteStart req vid at coded bytes)

      written : Option Disk
      written = option_map (with_item at new) (ledger.disks vid)

      own : (disk : Disk) (spec : VdiSpec) (index unit : ℕ) → IsBlock later vid disk spec index unit → written ≡ Some disk
          → HoldsAt vid index unit spec (items_at disk spec index unit)
      own disk spec index unit block there = by_disk (ledger.disks vid) refl there
        where
          k : ℕ
          k = index * blocks_per_object spec + unit

          by_disk : (o : Option Disk) → ledger.disks vid ≡ o → option_map (with_item at new) o ≡ Some disk
              → HoldsAt vid index unit spec (items_at disk spec index unit)
          by_disk None is there = absurd (cc (there))
          by_disk (Some was) is there =
              subst (HoldsAt vid index unit spec) (ap (λ (d : Disk). items_at d spec index unit) same) (by_block (k == at) refl)
            where
              same : with_item at new was ≡ disk
              same = same_Some (with_item at new was) disk there

              before : HoldsAt vid index unit spec (was.items k)
              before = all vid was spec index unit
                  (back effects good_id ledger later vid disk spec index unit block was is (ap (λ (d : Disk). d.blocks) (sym same)))

              by_block : (b : Bool) → (k == at) ≡ b → HoldsAt vid index unit spec (cond b (was.items at ++ new ∷ []) (was.items k))
              by_block true here =
                  goes_on (All counted) vid index unit spec (was.items at) (was.items at ++ new ∷ [])
                  (more_go_on counted (was.items at) new refl) tt (λ oid u j attempt comes. tt)
                  (subst (λ (n : ℕ). HoldsAt vid index unit spec (was.items n)) (eqb-true k at here) before)
              by_block false apart = before

      by_test : (b : Bool) → has_block (ledger.disks vid) at ≡ b → AreWritten later
      by_test true has =
          one_changes ledger later vid written
          (λ v. ap (λ (b : Bool). cond b (changed_at vid written ledger.disks) ledger.disks v) has) own all
      by_test false none = λ v disk spec index unit block.
          all v disk spec index unit
          (unchanged effects good_id ledger later v disk spec index unit block
          (sym (ap (λ (b : Bool). cond b (changed_at vid written ledger.disks) ledger.disks v) none) ∙ block.there))

  module _ (ledger : Ledger) (unended : ItemsAreOpen ledger) (req : ℕ) where
    -- the items of a request that hasn't ended
    open_at : (ledger.requests req).ended ≡ false → (vid : ℕ) (was : Disk) → ledger.disks vid ≡ Some was → (block place : ℕ) (item : Item)
        → slice_get (was.items block) place ≡ Some item → is_item_of req item ≡ true → item.mark ≡ Open
    open_at going vid was there block place item got is =
        unended.each req vid block place item going
        (ap (λ (o : Option Disk). slice_get (items_in o block) place) there ∙ got) is

    lost_holds : (ledger.requests req).ended ≡ false → AreWritten ledger → AreWritten (ledger_after ledger (WriterLost req))
    lost_holds going =
        all_go_on (All counted) ledger (ledger_after ledger (WriterLost req)) (map (item_with_mark Lost req)) (λ vid disk there. there)
        (λ vid was there block. lost_go_on counted req (was.items block) (open_at going vid was there block)) tt
        (λ oid u j attempt comes. tt)

    refused_holds : (ledger.requests req).ended ≡ false → ComesToNothing hosts attempts req → AreWritten ledger
        → AreWritten (ledger_after ledger (WriteRefused req))
    refused_holds going nothing =
        all_go_on (λ (by : Option ℕ). by ≡ Some req → ⊥) ledger (ledger_after ledger (WriteRefused req))
        (filter (λ item. not (is_item_of req item))) (λ vid disk there. there)
        (λ vid was there block. refused_go_on counted req (was.items block) (open_at going vid was there block)
        (λ was. unserved (known req was))) (λ is. cc (is)) apart
      where
        unserved : WasServed attempts req → ⊥
        unserved was =
            let (mute, none) = nothing was.place was.attempt was.there was.of in
            both_ways (is_mute was.attempt) was.served mute

        apart : (oid unit j : ℕ) (attempt : AttemptRecord) → IsToCome hosts attempts oid unit j attempt → Some attempt.req ≡ Some req → ⊥
        apart oid unit j attempt comes is =
            let (mute, none) = nothing j attempt comes.there (same_Some attempt.req req is) in
            both_ways (comes_to_nothing hosts attempt) comes.stands none

  module _ (ledger : Ledger) (req : ℕ) (alone : IsAloneWhereWritten effects good_id hosts attempts ledger req) (all : AreWritten ledger)
      (vid : ℕ) (disk : Disk) (spec : VdiSpec) (index unit : ℕ)
      (block : IsBlock (ledger_after ledger (WriteDone req)) vid disk spec index unit)
    where
      abbrev before : WasThere effects good_id ledger vid disk spec index unit (as_acknowledged req)
      before = changed effects good_id ledger (ledger_after ledger (WriteDone req)) vid disk spec index unit block (as_acknowledged req)
          block.there

      abbrev items : List Item
      items = items_at before.was spec index unit

      held : HoldsAt vid index unit spec items
      held = all vid before.was spec index unit before.block

      -- where an item of the request stood, and stands acknowledged
      module _ (stood : StandsDone req items) where
        own_entry : (j : ℕ) (entry : AttemptRecord) → IsEntryToCome hosts attempts vid index j entry → entry_by index entry ≡ vid
        own_entry = alone.entry vid index unit stood.place before.was spec stood.item before.block stood.among stood.of

        own_home : (home : ℕ) → IsHomeToCome hosts attempts vid index home → home ≡ vid
        own_home home (inl (j, entry, comes, is)) = sym is ∙ own_entry j entry comes
        own_home home (inr is) = is

        by_own : HoldsAt vid index unit spec (as_acknowledged req items)
        by_own = record {
          holes = λ j entry comes hole. absurd (real vid spec block.made_with (sym (own_entry j entry comes) ∙ hole));
          each = λ whole home to_come some j attempt comes below. record {
            place = stood.at;
            item = record stood.item { mark = Acknowledged };
            among = stood.found;
            same = alone.bytes vid index unit stood.place before.was spec stood.item before.block stood.among stood.of j attempt
                (subst (λ (v : ℕ). IsToCome hosts attempts (object_number v index) unit j attempt) (own_home home to_come) comes);
            stays = inr (inr (inl refl));
          };
        }

      done_at : HoldsAt vid index unit spec (items_at disk spec index unit)
      done_at = subst (HoldsAt vid index unit spec) (sym before.items) (⊎_elim
          (λ (stood : StandsDone req items). by_own stood)
          (λ (alike : standing (as_acknowledged req items) ≡ standing items).
          goes_on (All counted) vid index unit spec items (as_acknowledged req items)
          (alike_go_on counted items (as_acknowledged req items) alike) tt (λ oid u j attempt comes. tt) held)
          (done_stand req items))

  done_holds : (ledger : Ledger) (req : ℕ) → IsAloneWhereWritten effects good_id hosts attempts ledger req → AreWritten ledger
      → AreWritten (ledger_after ledger (WriteDone req))
  done_holds ledger req alone all vid disk spec index unit block = done_at ledger req alone all vid disk spec index unit block

  event_holds : (ledger : Ledger) (event : HistEvent) → ItemsAreOpen ledger → KeepsBlocks effects good_id hosts attempts ledger event
      → AreWritten ledger → AreWritten (ledger_after ledger event)
  event_holds ledger (Create vid blocks) unended keeps = made_holds ledger vid blocks keeps
  event_holds ledger (Copy old new) unended keeps = copied_holds ledger old new keeps
  event_holds ledger (Delete vid) unended keeps = deleted_holds ledger vid
  event_holds ledger (WriteStart req vid at coded bytes) unended keeps = started_holds ledger req vid at coded bytes
  event_holds ledger (WriteDone req) unended keeps = done_holds ledger req keeps
  event_holds ledger (WriteRefused req) unended keeps = refused_holds ledger unended req keeps.0 keeps.1
  event_holds ledger (WriterLost req) unended keeps = lost_holds ledger unended req keeps
  event_holds ledger (Read vid at bytes) unended keeps = λ all v disk spec index unit block.
      all v disk spec index unit
      (unchanged effects good_id ledger (ledger_after ledger (Read vid at bytes)) v disk spec index unit block block.there)

  pub events_hold : (events : List HistEvent) (ledger : Ledger) → ItemsAreOpen ledger
      → AllKeepBlocks effects good_id hosts attempts ledger events → AreWritten ledger → AreWritten (fold ledger_after ledger events)
  events_hold [] ledger unended keep all = all
  events_hold (event ∷ events) ledger unended keep all =
      events_hold events (ledger_after ledger event) (open_later ledger event unended) keep.1 (event_holds ledger event unended keep.0 all)

  -- where the disks are alike
  pub alike_written : (ledger later : Ledger) → ((v : ℕ) → later.disks v ≡ ledger.disks v) → AreWritten ledger → AreWritten later
  alike_written ledger later alike all vid disk spec index unit block =
      all vid disk spec index unit
      (unchanged effects good_id ledger later vid disk spec index unit block (sym (alike vid) ∙ block.there))
