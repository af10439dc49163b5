-- Over each change of a moment what a block may come to be read as stays among what may be read of it, if the history grows so that it
-- does, and if what works make may be read.
use Rattle.std.proofs.Common.{◌≡◌, ◌≢◌, ◌⊎◌, inl, inr, ⊎_elim, arith, ℕ, ◌<◌, ◌≤◌, Bool, true, false, List, [], ◌∷◌, ◌++◌, All, fold}
use Rattle.std.proofs.Common.{length, Option, Some, None, slice_get, get_or, refl, sym, ap, subst, ◌∙◌}
use Rattle.std.proofs.lemmas.Bool.{both_ways, false_from_ne_true}
use Rattle.std.proofs.lemmas.List.Sums.{fold-append}
use Rattle.std.proofs.lemmas.Option.{same_Some, slice_get_cases}
use Rattle.object_id.specs.declared.entry.Entry.{Entry}
use Rattle.object_id.specs.declared.entry.VdiSpec.{VdiSpec}
use Rattle.object_id.specs.declared.limits.TheConstants.{BLOCK_BYTES, OBJECTS_MAX}
use Rattle.object_id.specs.Fields.{zeros}
use Rattle.object_id.specs.Oid.{vid_of, object_number}
use Rattle.epoch_log.specs.Appending.{IsReservable}
use Rattle.disk_history.specs.declared.event.HistEvent.{HistEvent}
use Rattle.disk_history.specs.Ledger.{Item, Disk, Ledger, empty_ledger, ledger_after}
use Rattle.cluster_script.specs.declared.statement.Statement.{Statement}
use Rattle.vdi_directory.specs.declared.effect.Effect.{Effect}
use Rattle.vdi_directory.specs.Chains.{is_above}
use Rattle.vdi_directory.specs.Dead.{is_dead}
use Rattle.vdi_directory.specs.Decisions.{log_effects}
use Rattle.vdi_directory.proofs.DeadLemmas.{chained, chain-used}
use Rattle.peer_proto.specs.declared.work.ObjWork.{ObjWork}
use Rattle.peer_proto.specs.Work.{oid_of}
use Rattle.sheep_world.specs.Began.{Began}
use Rattle.sheep_world.specs.RunsWithAsks.{Move}
use Rattle.overlap_law.specs.Attempts.{AttemptRecord, MessageFate, object_of}
use Rattle.overlap_law.specs.Grants.{writer_of}
use Rattle.overlap_law.specs.Each.{spec_in}
use Rattle.overlap_law.specs.Headline.{ledger_of}
use Rattle.overlap_law.specs.MomentChanges.{MomentChange, MomentTrail, Then, RunsAreInRange}
use Rattle.overlap_law.specs.Past.{MomentWithPast, run_with_past}
use Rattle.overlap_law.specs.ShapedAttempts.{AreShaped}
use Rattle.overlap_law.specs.StayingBlocks.{IsBlockOfAnyDisk, WasServed, Stays, MayStay, IsHomeToCome, BlocksStayWritten, WorksMayStay}
use Rattle.overlap_law.specs.StayingBlocks.{HasEntryOf, EntersWhatMayCome, GrowsKeeping, DisksArePublished, InodesAreLive}
use Rattle.overlap_law.specs.Tables.{entry_by, EntriesAreMade}
use Rattle.overlap_law.specs.TiedAttempts.{IsTied}
use Rattle.overlap_law.specs.ToCome.{IsToCome, IsEntryToCome}
use Rattle.overlap_law.specs.Traffic.{Traffic}
use Rattle.overlap_law.specs.Units.{covers_by}
use Rattle.overlap_law.specs.Words.{Hosts, is_mute, bytes_by}
use Rattle.overlap_law.specs.WrittenBlocks.{items_at, is_torn_here}
use Rattle.overlap_law.proofs.AttemptsBegin.{IsNew, old_or_new}
use Rattle.overlap_law.proofs.ClosedSnapshots.{snapped-no_writer}
use Rattle.overlap_law.proofs.FinishedInMoments.{TermsHold, kept_terms}
use Rattle.overlap_law.proofs.GrantedAttempts.{only_writer-in_run}
use Rattle.overlap_law.proofs.GrownAttempts.{traffic_goes_on, goes_on-grows}
use Rattle.overlap_law.proofs.EndsApart.{all_behind}
use Rattle.overlap_law.proofs.KeptBlocks.{AreWritten, events_hold, alike_written}
use Rattle.overlap_law.proofs.KnownDisks.{vid-of_object}
use Rattle.overlap_law.proofs.LogsInMoments.{log_grows}
use Rattle.overlap_law.proofs.LogsReservable.{kept_reservable, LogIsReservable}
use Rattle.overlap_law.proofs.NoRecoveredDue.{began-with_past}
use Rattle.overlap_law.proofs.ItemsStayOpen.{items_open}
use Rattle.overlap_law.proofs.ReadingLaws.{AttemptsGrow}
use Rattle.overlap_law.proofs.RunsByChanges.{on_the_way}
use Rattle.overlap_law.proofs.ShapedAttempts.{kept_shaped}
use Rattle.overlap_law.proofs.PublishedChains.{chain_was_snapped, published_used, published_later}
use Rattle.overlap_law.proofs.PublishedInodes.{was_published}
use Rattle.overlap_law.proofs.TiedInRuns.{kept_tied}
use Rattle.overlap_law.proofs.ToComeStays.{might_before}
use Rattle.overlap_law.proofs.TrafficOfChanges.{traffic}
use Rattle.overlap_law.proofs.CreatedInodes.{header_is}
use Rattle.overlap_law.proofs.DraftsOfLogs.{spec_was}
use Rattle.overlap_law.proofs.LiveIds.{used_vid, few_objects}
use Rattle.overlap_law.proofs.StayingRows.{dead_later}

-- ---- a change

module _ (script : List Statement) (range : RunsAreInRange script) (events : List Move) (start before after : MomentWithPast)
    (is : run_with_past script events ≡ Some start) (trail : MomentTrail script start before)
    (change : MomentChange script start before after) where
  abbrev effects : List Effect
  effects = log_effects after.world.log

  abbrev hosts : Hosts
  hosts = after.world.hosts

  abbrev attempts : List AttemptRecord
  attempts = after.past.attempts

  began : Began script start.world
  began = began-with_past script events start is

  kind : Traffic before.world.hosts hosts before.world.wire before.past.attempts after.world.wire attempts
  kind = traffic script range start began change

  reservable : All IsReservable after.world.log
  reservable = (on_the_way script LogIsReservable (kept_reservable script range) events start after is (Then trail change)).all

  grows : AttemptsGrow before.past.attempts attempts
  grows = goes_on-grows before.past.attempts attempts
      (traffic_goes_on before.world.hosts hosts before.world.wire before.past.attempts kind)

  still_served : (was : AttemptRecord) (fates : List MessageFate) → (is_mute (record was { fates = fates }) ≡ true → is_mute was ≡ true)
      → is_mute was ≡ false → is_mute (record was { fates = fates }) ≡ false
  still_served was fates muter served = false_from_ne_true (is_mute (record was { fates = fates }))
      (λ mute. both_ways (is_mute was) served (muter mute))

  -- what was served is, so what might stay may
  pub served_still : (req : ℕ) → WasServed before.past.attempts req → WasServed attempts req
  served_still req was =
      let (fates, there, muter) = grows.stays was.place was.attempt was.there in
      record {
        place = was.place;
        attempt = record was.attempt { fates = fates };
        there = there;
        of = was.of;
        served = still_served was.attempt fates muter was.served;
      }

  stays_still : (item : Item) → Stays before.past.attempts item → Stays attempts item
  stays_still item (inl none) = inl none
  stays_still item (inr (inl done)) = inr (inl done)
  stays_still item (inr (inr (req, of, served))) = inr (inr (req, of, served_still req served))

  pub may_still : (items : List Item) (by : Option ℕ) (bytes : List ℕ) → MayStay before.past.attempts items by bytes
      → MayStay attempts items by bytes
  may_still items by bytes may = record {
    place = may.place;
    item = may.item;
    among = may.among;
    same = may.same;
    stays = ⊎_elim
        (λ (own : may.item.request ≡ by). inl own)
        (λ (stays : Stays before.past.attempts may.item). inr (stays_still may.item stays))
        may.stays;
  }

  -- an attempt that was there, by which a unit may come to be read, might be read by it before
  pub record Might (oid unit j : ℕ) (now : AttemptRecord) : Type 0 where
    pub was : AttemptRecord
    pub comes : IsToCome before.world.hosts before.past.attempts oid unit j was
    pub work : was.work ≡ now.work
    pub req : was.req ≡ now.req

  pub might : (oid unit j : ℕ) (now : AttemptRecord) → IsToCome hosts attempts oid unit j now → j < length before.past.attempts
      → Might oid unit j now
  might oid unit j now comes below = by_cases (slice_get_cases before.past.attempts j).1
    where
      by_old : (was : AttemptRecord) → slice_get before.past.attempts j ≡ Some was → Might oid unit j now
      by_old was at =
          let (fates, there, muter) = grows.stays j was at in
          let same : record was { fates = fates } ≡ now = same_Some (record was { fates = fates }) now (sym there ∙ comes.there) in
          record {
            was = was;
            comes = might_before script range start before after began change
                (on_the_way script TermsHold (kept_terms script range) events start before is trail)
                (on_the_way script AreShaped (kept_shaped script range) events start before is trail)
                (on_the_way script IsTied (kept_tied script range) events start before is trail) oid unit j was now at comes;
            work = ap (λ (a : AttemptRecord). a.work) same;
            req = ap (λ (a : AttemptRecord). a.req) same;
          }

      by_cases : ((x : AttemptRecord) × (j < length before.past.attempts) × (slice_get before.past.attempts j ≡ Some x)
          × (get_or before.past.attempts j x ≡ x))
          ⊎ ((length before.past.attempts ≤ j) × (slice_get before.past.attempts j ≡ None)) → Might oid unit j now
      by_cases (inl (was, within, at, same)) = by_old was at
      by_cases (inr (far, none)) = absurd (omega (arith, far, below))

  module _ (good_id : ℕ → Bool)
      (were_published : DisksArePublished (ledger_of before.past.history) (log_effects before.world.log))
      (are_published : DisksArePublished (ledger_of after.past.history) (log_effects after.world.log))
      (enters : EntersWhatMayCome good_id before after)
      (written : BlocksStayWritten (ledger_of before.past.history)
      (log_effects before.world.log) good_id before.world.hosts before.past.attempts)
    where
      abbrev pub HomeBefore : ℕ → ℕ → ℕ → Type 0
      HomeBefore vid index home = IsHomeToCome before.world.hosts before.past.attempts vid index home

      -- an entry that may come is the own one, or might come before
      pub entry_before : (vid index j : ℕ) (entry : AttemptRecord) → was_published after.world.log vid ≡ true
          → HasEntryOf effects good_id vid index → IsEntryToCome hosts attempts vid index j entry
          → HomeBefore vid index (entry_by index entry)
      entry_before vid index j entry published has comes = ⊎_elim
          (λ (old : j < length before.past.attempts).
          let was = might _ _ j entry comes old in
          inl (j, was.was, was.comes, ap (λ (w : ObjWork). entry_by index (record entry { work = w })) was.work))
          (λ (new : IsNew before.world.hosts hosts before.past.attempts attempts entry).
          by_entry (enters.enters entry (new.begins.is ∙ ap (λ (a : AttemptRecord). before.past.attempts ++ a ∷ []) new.same) vid index
          published has comes.object comes.covers))
          (old_or_new before.world.hosts hosts before.world.wire after.world.wire before.past.attempts attempts kind j entry comes.there)
        where
          by_entry : (entry_by index entry ≡ vid)
              ⊎ ((i : ℕ) × (other : AttemptRecord) × IsEntryToCome before.world.hosts before.past.attempts vid index i other
              × (entry_by index other ≡ entry_by index entry)) → HomeBefore vid index (entry_by index entry)
          by_entry (inl own) = inr own
          by_entry (inr found) = inl found

      pub home_before : (vid index home : ℕ) → was_published after.world.log vid ≡ true → HasEntryOf effects good_id vid index
          → IsHomeToCome hosts attempts vid index home → HomeBefore vid index home
      home_before vid index home published has (inl (j, entry, comes, is)) =
          subst (HomeBefore vid index) is (entry_before vid index j entry published has comes)
      home_before vid index home published has (inr is) = inr is

      pub has_entry : (ledger : Ledger) (vid index unit : ℕ) (disk : Disk) (spec : VdiSpec)
          → IsBlockOfAnyDisk ledger effects good_id vid disk spec index unit
          → HasEntryOf effects good_id vid index
      has_entry ledger vid index unit disk spec block = record {
        alive = block.alive;
        good = block.good;
        spec = spec;
        made_with = block.made_with;
        object = block.object;
      }

      pub real : (vid : ℕ) (spec : VdiSpec) → spec_in effects vid ≡ Some spec → vid ≢ 0
      real vid spec made = let some = (header_is after.world.log reservable vid spec made).0.0 in λ none. omega (arith, some, none)

      abbrev Written : Ledger → Type 0
      Written = AreWritten effects good_id hosts attempts (λ spec j. j < length before.past.attempts) attempts (λ req was. was) real

      -- a disk that the history had was published, and its blocks were so before
      module _ (vid : ℕ) (disk : Disk) (spec : VdiSpec) (index unit : ℕ)
          (block : IsBlockOfAnyDisk (ledger_of before.past.history) effects good_id vid disk spec index unit) where
        was : was_published before.world.log vid ≡ true
        was = were_published.each vid disk block.there

        pub published_then : was_published after.world.log vid ≡ true
        published_then =
            ap (λ (log : List Entry). was_published log vid) (log_grows script change).is
            ∙ published_later before.world.log (log_grows script change).rest vid was

        alive_then : is_dead (log_effects before.world.log) vid ≡ false
        alive_then = false_from_ne_true (is_dead (log_effects before.world.log) vid) (λ dead.
            let still : is_dead effects vid ≡ true
            = ap (λ (log : List Entry). is_dead (log_effects log) vid) (log_grows script change).is
            ∙ dead_later before.world.log (log_grows script change).rest vid dead in
            both_ways (is_dead effects vid) block.alive still)

        pub block_before : IsBlockOfAnyDisk (ledger_of before.past.history) (log_effects before.world.log) good_id vid disk spec index unit
        block_before = record {
          there = block.there;
          alive = alive_then;
          good = block.good;
          made_with = spec_was before.world.log (log_grows script change).rest vid spec (published_used before.world.log vid was)
              (ap (λ (log : List Entry). spec_in (log_effects log) vid) (sym (log_grows script change).is) ∙ block.made_with);
          object = block.object;
          inside = block.inside;
          block = block.block;
        }

      -- before the history grows
      first : Written (ledger_of before.past.history)
      first vid disk spec index unit block = record {
        holes = λ j entry comes hole. hole_before (subst (HomeBefore vid index) hole (entry_before vid index j entry published has comes));
        each = λ whole home to_come some j attempt comes below.
            let was = might (object_number home index) unit j attempt comes below in
            subst (λ (q : ℕ). MayStay attempts items (Some q) (bytes_by unit attempt.work)) was.req
            (subst (λ (w : ObjWork). MayStay attempts items (Some was.was.req) (bytes_by unit w)) was.work
            (may_still items (Some was.was.req) (bytes_by unit was.was.work)
            (written.each vid index unit disk spec then whole home (home_before vid index home published has to_come) some j was.was
            was.comes)));
      }
        where
          items : List Item
          items = items_at disk spec index unit

          has : HasEntryOf effects good_id vid index
          has = has_entry (ledger_of before.past.history) vid index unit disk spec block

          published : was_published after.world.log vid ≡ true
          published = published_then vid disk spec index unit block

          then : IsBlockOfAnyDisk (ledger_of before.past.history) (log_effects before.world.log) good_id vid disk spec index unit
          then = block_before vid disk spec index unit block

          hole_before : HomeBefore vid index 0 → MayStay attempts items None (zeros BLOCK_BYTES)
          hole_before (inl (i, other, comes, is)) =
              may_still items None (zeros BLOCK_BYTES) (written.holes vid index unit disk spec then i other comes is)
          hole_before (inr own) = absurd (real vid spec block.made_with (sym own))

      module _ (grows_so : GrowsKeeping effects good_id hosts attempts before.past.history after.past.history) where
        -- what is added stands behind
        pub ledger_so : (v : ℕ) → (ledger_of after.past.history).disks v
            ≡ (fold ledger_after (ledger_of before.past.history) grows_so.added).disks v
        ledger_so v =
            ap (λ (history : List HistEvent). (ledger_of history).disks v) grows_so.now
            ∙ ap (λ (ledger : Ledger). ledger.disks v)
            (fold-append ledger_after empty_ledger (grows_so.front ++ grows_so.added) grows_so.back
            ∙ ap (λ (ledger : Ledger). fold ledger_after ledger grows_so.back)
            (fold-append ledger_after empty_ledger grows_so.front grows_so.added))
            ∙ all_behind grows_so.added grows_so.back grows_so.apart (ledger_of grows_so.front) v
            ∙ ap (λ (ledger : Ledger). (fold ledger_after ledger grows_so.added).disks v)
            (sym (fold-append ledger_after empty_ledger grows_so.front grows_so.back) ∙ ap ledger_of (sym grows_so.were))

        old_written : Written (ledger_of after.past.history)
        old_written =
            alike_written effects good_id hosts attempts (λ spec j. j < length before.past.attempts) attempts (λ req was. was) real
            (fold ledger_after (ledger_of before.past.history) grows_so.added) (ledger_of after.past.history) ledger_so
            (events_hold effects good_id hosts attempts (λ spec j. j < length before.past.attempts) attempts (λ req was. was) real
            grows_so.added (ledger_of before.past.history) (items_open before.past.history) grows_so.keep first)

        -- a hole may be read as zeros
        pub holes_stay : (vid index unit : ℕ) (disk : Disk) (spec : VdiSpec)
            → IsBlockOfAnyDisk (ledger_of after.past.history) effects good_id vid disk spec index unit → (j : ℕ) (entry : AttemptRecord)
            → IsEntryToCome hosts attempts vid index j entry → entry_by index entry ≡ 0
            → MayStay attempts (items_at disk spec index unit) None (zeros BLOCK_BYTES)
        holes_stay vid index unit disk spec block = (old_written vid disk spec index unit block).holes

        -- and what was there before may be
        pub old_stays : (vid index unit : ℕ) (disk : Disk) (spec : VdiSpec)
            → IsBlockOfAnyDisk (ledger_of after.past.history) effects good_id vid disk spec index unit
            → is_torn_here spec (items_at disk spec index unit) ≡ false → (home : ℕ) → IsHomeToCome hosts attempts vid index home
            → home ≢ 0 → (j : ℕ) (attempt : AttemptRecord) → IsToCome hosts attempts (object_number home index) unit j attempt
            → j < length before.past.attempts
            → MayStay attempts (items_at disk spec index unit) (Some attempt.req) (bytes_by unit attempt.work)
        old_stays vid index unit disk spec block = (old_written vid disk spec index unit block).each

        module _ (live : ℕ → Bool) (inodes : InodesAreLive effects live good_id) (made : EntriesAreMade effects live good_id attempts)
            (works : WorksMayStay (ledger_of after.past.history) effects good_id hosts attempts) where
          module _ (vid index unit : ℕ) (disk : Disk) (spec : VdiSpec)
              (block : IsBlockOfAnyDisk (ledger_of after.past.history) effects good_id vid disk spec index unit)
              (whole : is_torn_here spec (items_at disk spec index unit) ≡ false) (j : ℕ) (attempt : AttemptRecord)
              (new : IsNew before.world.hosts hosts before.past.attempts attempts attempt) where
            published : was_published after.world.log vid ≡ true
            published = are_published.each vid disk block.there

            few : index < OBJECTS_MAX
            few = few_objects after.world.log reservable vid index spec block.made_with block.object

            -- what begins is on an id that its session may write
            no_snapshot : (home : ℕ) → object_of attempt ≡ object_number home index → is_above effects home vid ≡ true → ⊥
            no_snapshot home object above =
                let opened = new.begins.begun.opened in
                let writer = ((only_writer-in_run script range events start after is (Then trail change)).each new.begins.n
                new.begins.begun.sent_by.after new.begins.begun.sent_by.there_after new.begins.begun.up new.begins.attempt.req
                new.begins.begun.work opened.there opened.making).may.writer in
                let on : vid_of (oid_of new.begins.begun.work.work) ≡ home
                = ap (λ (w : ObjWork). vid_of (oid_of w)) (sym opened.same.work)
                ∙ ap (λ (a : AttemptRecord). vid_of (object_of a)) new.same ∙ ap vid_of object
                ∙ vid-of_object home index (used_vid after.world.log reservable home
                (chain-used effects (chained after.world.log) home vid above).0) few in
                snapped-no_writer after.world.log home _ (chain_was_snapped after.world.log home vid published above)
                (ap (λ (v : ℕ). writer_of effects v) (sym on) ∙ writer)

            own_home : (home : ℕ) → object_of attempt ≡ object_number home index → IsHomeToCome hosts attempts vid index home → home ≢ 0
                → home ≡ vid
            own_home home object (inr is) some = is
            own_home home object (inl (i, entry, comes, is)) some =
                let stands = made.each i entry comes.there vid index comes.object
                (inodes.each vid published block.alive block.good) block.good few comes.covers (λ none. some (sym is ∙ none)) in
                ⊎_elim
                (λ (own : entry_by index entry ≡ vid). sym is ∙ own)
                (λ (above : is_above effects (entry_by index entry) vid ≡ true).
                absurd (no_snapshot home object (subst (λ (h : ℕ). is_above effects h vid ≡ true) is above)))
                stands.chain

            new_may : (home : ℕ) → IsHomeToCome hosts attempts vid index home → home ≢ 0
                → IsToCome hosts attempts (object_number home index) unit j attempt
                → MayStay attempts (items_at disk spec index unit) (Some attempt.req) (bytes_by unit attempt.work)
            new_may home to_come some comes =
                let opened = new.begins.begun.opened in
                let own = own_home home comes.object to_come some in
                let same : attempt.work ≡ new.begins.begun.work.work
                = ap (λ (a : AttemptRecord). a.work) (sym new.same) ∙ opened.same.work in
                subst (λ (w : ObjWork). MayStay attempts (items_at disk spec index unit) (Some attempt.req) (bytes_by unit w)) (sym same)
                (subst (λ (q : ℕ). MayStay attempts (items_at disk spec index unit) (Some q) (bytes_by unit new.begins.begun.work.work))
                (ap (λ (a : AttemptRecord). a.req) new.same)
                (works.each new.begins.n new.begins.begun.sent_by.after new.begins.begun.sent_by.there_after new.begins.begun.up
                new.begins.attempt.req vid index unit new.begins.begun.work disk spec opened.there
                (ap oid_of (sym same) ∙ comes.object ∙ ap (λ (h : ℕ). object_number h index) own) block
                (ap (λ (w : ObjWork). covers_by unit w) (sym same) ∙ comes.covers) whole))

          pub blocks_stay : BlocksStayWritten (ledger_of after.past.history) effects good_id hosts attempts
          blocks_stay = record {
            holes = holes_stay;
            each = λ vid index unit disk spec block whole home to_come some j attempt comes. ⊎_elim
                (λ (old : j < length before.past.attempts).
                old_stays vid index unit disk spec block whole home to_come some j attempt comes old)
                (λ (new : IsNew before.world.hosts hosts before.past.attempts attempts attempt).
                new_may vid index unit disk spec block whole j attempt new home to_come some comes)
                (old_or_new before.world.hosts hosts before.world.wire after.world.wire before.past.attempts attempts kind j attempt
                comes.there);
          }
