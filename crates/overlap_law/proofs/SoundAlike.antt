-- Of strips that aren't torn, one acknowledged item stands; so attempts by which a block may come to be read are alike there, unless the
-- block is being written.
use Rattle.std.proofs.Common.{◌≡◌, ◌≢◌, ◌⊎◌, inl, inr, ⊎_elim, ℕ, zero, suc, ◌+◌, ◌*◌, ◌<◌, ◌==◌, ◌&&◌, ◌||◌, not, Bool, true, false, cond}
use Rattle.std.proofs.Common.{List, [], ◌∷◌, ◌++◌, length, filter, Option, Some, None, slice_get, refl, sym, ap, subst, ◌∙◌}
use Rattle.std.specs.List.{list_any}
use Rattle.std.specs.Str.{bytes_eq}
use Rattle.std.proofs.lemmas.Bool.{and_from, both_ways, or_left, or_right}
use Rattle.std.proofs.lemmas.Option.{same_Some}
use Rattle.std.proofs.lemmas.Slice.Eq.{bytes_eq-Decides}
use Rattle.object_id.specs.declared.entry.VdiSpec.{VdiSpec}
use Rattle.object_id.specs.declared.oid.Kind.TheVariants.{Block}
use Rattle.object_id.specs.Oid.{object_number}
use Rattle.gf256.specs.Part.{is_in_strips}
use Rattle.disk_history.specs.Ledger.{Mark, Open, Acknowledged, Lost, Item, Disk, Ledger}
use Rattle.disk_history.specs.Legal.{is_acknowledged, is_writer_lost, is_torn, standing}
use Rattle.vdi_directory.specs.declared.effect.Effect.{Effect}
use Rattle.overlap_law.specs.Attempts.{AttemptRecord, attempts_on}
use Rattle.overlap_law.specs.Each.{EachAttempt}
use Rattle.overlap_law.specs.SoundCoded.{StripItemsAreCoded}
use Rattle.overlap_law.specs.SoundUnwritten.{IsBeingWritten, StripsComeAlike, StripsAreSoundUnlessWritten}
use Rattle.overlap_law.specs.StayingBlocks.{IsBlockOfAnyDisk, IsHomeToCome, MayStay, BlocksStayWritten, Stays, WasServed}
use Rattle.overlap_law.specs.ToCome.{IsToCome}
use Rattle.overlap_law.specs.Words.{Hosts, is_doomed, is_mute, bytes_by, covering, own_base_of, later_on}
use Rattle.overlap_law.specs.WrittenBlocks.{IsBlockOfDisk, IsHome, blocks_per_object, is_torn_here, items_at, may_come_out, outcomes}
use Rattle.overlap_law.specs.WrittenBlocks.{outcomes_by}
use Rattle.overlap_law.proofs.AttemptLists.{got_more}
use Rattle.overlap_law.proofs.BlocksOfAnyDisk.{any_block}
use Rattle.overlap_law.proofs.Candidates.{candidate_comes}
use Rattle.overlap_law.proofs.OutcomesToCome.{outcomes_come}
use Rattle.overlap_law.proofs.StandingItems.{by_pushes, stands_alone, stands_among, stands_behind, still_left}

-- ---- items

-- one that is there and passes is found
pub any_at : {X : Type 0} (p : X → Bool) (xs : List X) (place : ℕ) (x : X) → slice_get xs place ≡ Some x → p x ≡ true → list_any p xs ≡ true
any_at p [] place x got passes = absurd (cc (got))
any_at p (y ∷ xs) zero x got passes = or_left (p y) (list_any p xs) (ap p (same_Some y x got) ∙ passes)
any_at p (y ∷ xs) (suc place) x got passes = or_right (p y) (list_any p xs) (any_at p xs place x got passes)

-- what stands acknowledged stands first
first_done : (items : List Item) (place : ℕ) (item : Item) → slice_get (standing items) place ≡ Some item → is_acknowledged item ≡ true
    → place ≡ 0
first_done = by_pushes
    (λ (items : List Item). (place : ℕ) (item : Item) → slice_get (standing items) place ≡ Some item → is_acknowledged item ≡ true
    → place ≡ 0)
    (λ place item is done. absurd (cc (is))) more
  where
    more : (items : List Item) (new : Item)
        → ((place : ℕ) (item : Item) → slice_get (standing items) place ≡ Some item → is_acknowledged item ≡ true → place ≡ 0)
        → (place : ℕ) (item : Item) → slice_get (standing (items ++ new ∷ [])) place ≡ Some item → is_acknowledged item ≡ true
        → place ≡ 0
    more items new before place item is done = by_mark (is_acknowledged new) refl
      where
        only : (place : ℕ) → slice_get (new ∷ []) place ≡ Some item → place ≡ 0
        only zero is = refl
        only (suc place) is = absurd (cc (is))

        by_mark : (b : Bool) → is_acknowledged new ≡ b → place ≡ 0
        by_mark true own = only place (ap (λ (list : List Item). slice_get list place) (sym (stands_alone items new own)) ∙ is)
        by_mark false going = ⊎_elim
            (λ (old : slice_get (standing items) place ≡ Some item). before place item old done)
            (λ (last : (place ≡ length (standing items)) × (new ≡ item)).
            absurd (both_ways (is_acknowledged new) going (ap is_acknowledged last.1 ∙ done)))
            (got_more (standing items) new place item
            (ap (λ (list : List Item). slice_get list place) (sym (stands_behind items new going)) ∙ is))

pub marked_done : (item : Item) → item.mark ≡ Acknowledged → is_acknowledged item ≡ true
marked_done item is = subst (λ (m : Mark). is_acknowledged (record item { mark = m }) ≡ true) (sym is) refl

pub marked_lost : (item : Item) → item.mark ≡ Lost → is_writer_lost item ≡ true
marked_lost item is = subst (λ (m : Mark). is_writer_lost (record item { mark = m }) ≡ true) (sym is) refl

-- bytes are those of an acknowledged item that stands
pub record IsDone (items : List Item) (bytes : List ℕ) : Type 0 where
  pub place : ℕ
  pub item : Item
  pub among : slice_get (standing items) place ≡ Some item
  pub done : is_acknowledged item ≡ true
  pub same : bytes_eq item.bytes bytes ≡ true

-- so are two
pub done_alike : (items : List Item) (one two : List ℕ) → IsDone items one → IsDone items two → one ≡ two
done_alike items one two first second =
    let same : first.item ≡ second.item
    = same_Some first.item second.item
    (sym first.among
    ∙ ap (slice_get (standing items)) (first_done items first.place first.item first.among first.done
    ∙ sym (first_done items second.place second.item second.among second.done)) ∙ second.among) in
    sym ((bytes_eq-Decides first.item.bytes one).0 first.same)
    ∙ ap (λ (i : Item). i.bytes) same ∙ (bytes_eq-Decides second.item.bytes two).0 second.same

module _ (ledger : Ledger) (effects : List Effect) (good_id : ℕ → Bool) (hosts : Hosts) (attempts : List AttemptRecord)
    (coded : StripItemsAreCoded ledger effects) where
  module _ (vid index unit : ℕ) (disk : Disk) (spec : VdiSpec) (block : IsBlockOfAnyDisk ledger effects good_id vid disk spec index unit)
      (strips : is_in_strips spec.policy Block ≡ true) (whole : is_torn (items_at disk spec index unit) ≡ false) where
    abbrev items : List Item
    items = items_at disk spec index unit

    abbrev pub Kind : List ℕ → Type 0
    Kind bytes = IsBeingWritten attempts (items_at disk spec index unit) ⊎ IsDone (items_at disk spec index unit) bytes

    -- what stands of a request is acknowledged, or is being written
    of_request : (bytes : List ℕ) (place : ℕ) (item : Item) → slice_get (standing (items_at disk spec index unit)) place ≡ Some item
        → bytes_eq item.bytes bytes ≡ true → (j : ℕ) (attempt : AttemptRecord) → slice_get attempts j ≡ Some attempt
        → item.request ≡ Some attempt.req → Kind bytes
    of_request bytes place item among same j attempt there of = by_mark item.mark refl
      where
        by_mark : (m : Mark) → item.mark ≡ m → Kind bytes
        by_mark Open is =
            inl (record { place = place; item = item; among = among; mark = is; j = j; attempt = attempt; there = there; of = of })
        by_mark Acknowledged is =
            inr (record { place = place; item = item; among = among; done = marked_done item is; same = same })
        by_mark Lost is =
            let (at, got) = stands_among (items_at disk spec index unit) place item among in
            let code = coded.each vid (index * blocks_per_object spec + unit) at attempt.req disk spec item block.there
            block.made_with strips block.block got of in
            let torn : is_torn (items_at disk spec index unit) ≡ true
            = any_at (λ (i : Item). i.coded && is_writer_lost i) (standing (items_at disk spec index unit)) place item among
            (and_from item.coded (is_writer_lost item) code (marked_lost item is)) in
            absurd (both_ways (is_torn (items_at disk spec index unit)) whole torn)

    pub kind_of : (bytes : List ℕ) (j : ℕ) (attempt : AttemptRecord) → slice_get attempts j ≡ Some attempt
        → MayStay attempts (items_at disk spec index unit) (Some attempt.req) bytes → Kind bytes
    kind_of bytes j attempt there may = by_stay may.stays
      where
        by_stay : (may.item.request ≡ Some attempt.req) ⊎ Stays attempts may.item → Kind bytes
        by_stay (inl own) = of_request bytes may.place may.item may.among may.same j attempt there own
        by_stay (inr (inl none)) =
            let (at, got) = stands_among (items_at disk spec index unit) may.place may.item may.among in
            inr (record {
              place = may.place;
              item = may.item;
              among = may.among;
              done = coded.nobodys vid (index * blocks_per_object spec + unit) at disk spec may.item block.there block.made_with block.block
                  got none;
              same = may.same;
            })
        by_stay (inr (inr (inl done))) =
            inr (record { place = may.place; item = may.item; among = may.among; done = done; same = may.same })
        by_stay (inr (inr (inr (req, of, was)))) =
            of_request bytes may.place may.item may.among may.same was.place was.attempt was.there
            (of ∙ ap (λ (k : ℕ). Some k) (sym was.of))

    torn_here : is_torn_here spec (items_at disk spec index unit) ≡ false
    torn_here = ap (λ (b : Bool). b && is_torn (items_at disk spec index unit)) strips ∙ whole

    pub both_alike : (one two : List ℕ) → Kind one → Kind two → IsBeingWritten attempts (items_at disk spec index unit) ⊎ (one ≡ two)
    both_alike one two (inl written_now) second = inl written_now
    both_alike one two (inr first) (inl written_now) = inl written_now
    both_alike one two (inr first) (inr second) = inr (done_alike (items_at disk spec index unit) one two first second)

  module _ (written : BlocksStayWritten ledger effects good_id hosts attempts) where
    module _ (vid index unit : ℕ) (disk : Disk) (spec : VdiSpec) (block : IsBlockOfAnyDisk ledger effects good_id vid disk spec index unit)
        (strips : is_in_strips spec.policy Block ≡ true) (whole : is_torn (items_at disk spec index unit) ≡ false) (home : ℕ)
        (to_come : IsHomeToCome hosts attempts vid index home) (some : home ≢ 0) (j : ℕ) (attempt : AttemptRecord)
        (comes : IsToCome hosts attempts (object_number home index) unit j attempt) where
      comes_kind : IsBeingWritten attempts (items_at disk spec index unit)
          ⊎ IsDone (items_at disk spec index unit) (bytes_by unit attempt.work)
      comes_kind =
          kind_of vid index unit disk spec block strips whole (bytes_by unit attempt.work) j attempt comes.there
          (written.each vid index unit disk spec block (torn_here vid index unit disk spec block strips whole) home to_come some j attempt
          comes)

    pub come_alike : StripsComeAlike ledger effects good_id hosts attempts
    come_alike = record {
      each = λ vid index unit home other i j disk spec one two block strips whole to_come some to_come_too some_too comes comes_too.
          both_alike vid index unit disk spec block strips whole (bytes_by unit one.work) (bytes_by unit two.work)
          (comes_kind vid index unit disk spec block strips whole home to_come some i one comes)
          (comes_kind vid index unit disk spec block strips whole other to_come_too some_too j two comes_too);
    }

    -- ---- the own base, and those behind it

    module _ (fates : EachAttempt attempts (λ j attempt. length attempt.fates ≡ length attempt.targets)) where
      pub home_comes : (vid index home : ℕ) → IsHome attempts vid index home → IsHomeToCome hosts attempts vid index home
      home_comes vid index home (inl of) =
          inl (candidate_comes hosts attempts fates vid index of.entries of.there of.place home of.among)
      home_comes vid index home (inr own) = inr own

      module _ (oid unit place : ℕ) (base later : AttemptRecord) (base_is : own_base_of unit (attempts_on oid attempts) ≡ Some base)
          (got : slice_get (later_on unit (attempts_on oid attempts)) place ≡ Some later) (heard : is_mute later ≡ false) where
        abbrev results : List AttemptRecord
        results = outcomes hosts false unit (attempts_on oid attempts)

        abbrev behind : List AttemptRecord
        behind = filter (may_come_out hosts) (later_on unit (attempts_on oid attempts))

        are : outcomes hosts false unit (attempts_on oid attempts)
            ≡ base ∷ filter (may_come_out hosts) (later_on unit (attempts_on oid attempts))
        are = ap (outcomes_by hosts false (covering unit (attempts_on oid attempts)) (later_on unit (attempts_on oid attempts))) base_is

        pub base_comes : (j : ℕ) × IsToCome hosts attempts oid unit j base
        base_comes =
            outcomes_come hosts oid unit false attempts fates zero base (ap (λ (list : List AttemptRecord). slice_get list zero) are)

        pub later_comes : (j : ℕ) × IsToCome hosts attempts oid unit j later
        later_comes =
            let (at, found) = still_left (may_come_out hosts) (later_on unit (attempts_on oid attempts)) place later got
            (ap (λ (b : Bool). not (b && is_doomed hosts later)) heard) in
            outcomes_come hosts oid unit false attempts fates (suc at) later
            (ap (λ (list : List AttemptRecord). slice_get list (suc at)) are ∙ found)

      by_mute : (vid index unit home place : ℕ) (disk : Disk) (spec : VdiSpec) (base later : AttemptRecord)
          → IsBlockOfDisk ledger effects good_id vid disk spec index unit → is_in_strips spec.policy Block ≡ true
          → IsHome attempts vid index home → home ≢ 0 → is_torn (items_at disk spec index unit) ≡ false
          → own_base_of unit (attempts_on (object_number home index) attempts) ≡ Some base
          → slice_get (later_on unit (attempts_on (object_number home index) attempts)) place ≡ Some later → (b : Bool)
          → is_mute later ≡ b
          → (is_mute later ≡ true)
          ⊎ (IsBeingWritten attempts (items_at disk spec index unit) ⊎ (bytes_by unit later.work ≡ bytes_by unit base.work))
      by_mute vid index unit home place disk spec base later block strips of some whole base_is got true mute = inl mute
      by_mute vid index unit home place disk spec base later block strips of some whole base_is got false heard =
          let oid = object_number home index in
          let to_come = home_comes vid index home of in
          let (i, base_to) = base_comes oid unit place base later base_is got heard in
          let (j, later_to) = later_comes oid unit place base later base_is got heard in
          inr (come_alike.each vid index unit home home j i disk spec later base
          (any_block ledger effects good_id vid disk spec index unit block) strips whole to_come some to_come some later_to base_to)

      pub sound_unless_written : StripsAreSoundUnlessWritten ledger effects good_id attempts
      sound_unless_written = record {
        each = λ vid index unit home place disk spec base later block strips of some whole base_is got.
            by_mute vid index unit home place disk spec base later block strips of some whole base_is got (is_mute later) refl;
      }
