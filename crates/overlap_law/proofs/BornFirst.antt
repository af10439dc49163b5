-- Where a create of each object comes before its writes, the first attempt on an object is a create: so none is of an epoch before that in
-- which the object was born. And a create that stands among the attempts stands there still after a change of a moment.
use Rattle.std.proofs.Common.{◌≡◌, ◌⊎◌, inl, inr, ⊎_elim, arith, ℕ, zero, suc, ◌==◌, ◌≤◌, ◌<◌, Bool, true, false, cond, List, [], ◌∷◌, ◌++◌}
use Rattle.std.proofs.Common.{filter, map, Some, option_map, slice_get, find, refl, sym, ap, ◌∙◌}
use Rattle.std.proofs.lemmas.Bool.{cases_lt, eqb-true, eq-eqb, or_left, or_right}
use Rattle.std.proofs.lemmas.Option.{same_Some}
use Rattle.object_id.specs.declared.node.NodeId.{NodeId}
use Rattle.cluster_script.specs.declared.statement.Statement.{Statement}
use Rattle.message_wire.specs.declared.packet.Packet.{Packet}
use Rattle.message_wire.specs.declared.packet.Packet.TheVariants.{Request, Reply}
use Rattle.sheep_world.specs.Began.{Began}
use Rattle.overlap_law.specs.Attempts.{AttemptRecord, MessageFate, Doomed, attempt_with_fate, attempts_with_fate, fate_of_say, object_of}
use Rattle.overlap_law.specs.Attempts.{attempts_on}
use Rattle.overlap_law.specs.Each.{EachAttempt}
use Rattle.overlap_law.specs.Fates.{AttemptsAreOrdered, CreatesComeFirst}
use Rattle.overlap_law.specs.HeldLevels.{NoneIsBeforeBirth}
use Rattle.overlap_law.specs.BornObjects.{IsBorn, AttemptsAreOfTheBorn}
use Rattle.overlap_law.specs.Holders.{creates, first_create, born_objects, is_object_among}
use Rattle.overlap_law.specs.MomentChanges.{MomentChange, RunsAreInRange}
use Rattle.overlap_law.specs.Packets.{Wire}
use Rattle.overlap_law.specs.Past.{MomentWithPast}
use Rattle.overlap_law.specs.Reached.{Hosts}
use Rattle.overlap_law.specs.StepMoments.{attempts_with_loss}
use Rattle.overlap_law.specs.Traffic.{Traffic, NothingMoves, MessageIsLost, ReplyIsReceived, RequestIsAnswered, RequestsAreSent}
use Rattle.overlap_law.specs.Traffic.{AttemptBegins, RepliesGo}
use Rattle.overlap_law.specs.Words.{is_made}
use Rattle.overlap_law.proofs.AttemptLists.{fates_told, got_still, map_got, marked_shape}
use Rattle.overlap_law.proofs.AvailableTargets.{IsBornBy}
use Rattle.overlap_law.proofs.FateLemmas.{made-marked}
use Rattle.overlap_law.proofs.TrafficOfChanges.{traffic}

-- ---- the first create

-- an attempt stands at a place, on an object, and none that creates it stands before
pub record IsFirst (attempts : List AttemptRecord) (oid k : ℕ) (first : AttemptRecord) : Type 0 where
  pub place : ℕ
  pub there : slice_get attempts place ≡ Some first
  pub object : object_of first ≡ oid
  pub least : place ≤ k

-- the first create stands no later than any other
pub first_is : (oid : ℕ) (attempts : List AttemptRecord) (first : AttemptRecord) → first_create oid attempts ≡ Some first → (k : ℕ)
    (create : AttemptRecord) → slice_get attempts k ≡ Some create → object_of create ≡ oid → creates create ≡ true
    → IsFirst attempts oid k first
first_is oid [] first is k create there object creating = absurd (cc (is))
first_is oid (attempt ∷ attempts) first is k create there object creating =
    by_tests (object_of attempt == oid) (creates attempt) refl refl is k there
    (λ later j at. first_is oid attempts first later j create at object creating)
  where
    -- the create stands behind
    behind : (k : ℕ) → slice_get (attempt ∷ attempts) k ≡ Some create → (object_of attempt == oid) ≡ false ⊎ (creates attempt ≡ false)
        → find creates (attempts_on oid attempts) ≡ Some first
        → (find creates (attempts_on oid attempts) ≡ Some first → (j : ℕ) → slice_get attempts j ≡ Some create
        → IsFirst attempts oid j first)
        → IsFirst (attempt ∷ attempts) oid k first
    behind zero there other found rest =
        let same : attempt ≡ create = same_Some attempt create there in
        ⊎_elim
        (λ (apart : (object_of attempt == oid) ≡ false).
        let own = eq-eqb (object_of attempt) oid (ap object_of same ∙ object) in absurd (cc (own, apart)))
        (λ (writes : creates attempt ≡ false).
        let makes : creates attempt ≡ true = ap (λ (a : AttemptRecord). creates a) same ∙ creating in absurd (cc (makes, writes)))
        other
    behind (suc j) there other found rest =
        let later = rest found j there in
        record {
          place = suc later.place;
          there = later.there;
          object = later.object;
          least = (let less = later.least in omega (arith, less));
        }

    by_tests : (b c : Bool) → (object_of attempt == oid) ≡ b → creates attempt ≡ c
        → find creates (cond b (attempt ∷ attempts_on oid attempts) (attempts_on oid attempts)) ≡ Some first → (k : ℕ)
        → slice_get (attempt ∷ attempts) k ≡ Some create
        → (find creates (attempts_on oid attempts) ≡ Some first → (j : ℕ) → slice_get attempts j ≡ Some create
        → IsFirst attempts oid j first)
        → IsFirst (attempt ∷ attempts) oid k first
    by_tests true true own makes found k there rest =
        let same : attempt ≡ first
        = same_Some attempt first (sym (ap (λ (b : Bool). cond b (Some attempt) (find creates (attempts_on oid attempts))) makes)
        ∙ found) in
        record {
          place = zero;
          there = ap (λ (a : AttemptRecord). Some a) same;
          object = ap object_of (sym same) ∙ eqb-true (object_of attempt) oid own;
          least = omega arith;
        }
    by_tests true false own writes found k there rest =
        behind k there (inr writes) (sym (ap (λ (b : Bool). cond b (Some attempt) (find creates (attempts_on oid attempts))) writes)
        ∙ found) rest
    by_tests false c apart makes found k there rest = behind k there (inl apart) found rest

-- where some attempt creates an object there is a first one
some_first : (oid : ℕ) (attempts : List AttemptRecord) (k : ℕ) (create : AttemptRecord) → slice_get attempts k ≡ Some create
    → object_of create ≡ oid → creates create ≡ true → (first : AttemptRecord) × (first_create oid attempts ≡ Some first)
some_first oid [] k create there object creating = absurd (cc (there))
some_first oid (attempt ∷ attempts) k create there object creating =
    by_tests (object_of attempt == oid) (creates attempt) refl refl k there (λ j at. some_first oid attempts j create at object creating)
  where
    behind : (k : ℕ) → slice_get (attempt ∷ attempts) k ≡ Some create → ((object_of attempt == oid) ≡ false) ⊎ (creates attempt ≡ false)
        → ((j : ℕ) → slice_get attempts j ≡ Some create → (first : AttemptRecord) × (first_create oid attempts ≡ Some first))
        → (first : AttemptRecord) × (first_create oid attempts ≡ Some first)
    behind zero there other rest =
        let same : attempt ≡ create = same_Some attempt create there in
        ⊎_elim
        (λ (apart : (object_of attempt == oid) ≡ false).
        let own = eq-eqb (object_of attempt) oid (ap object_of same ∙ object) in absurd (cc (own, apart)))
        (λ (writes : creates attempt ≡ false).
        let makes : creates attempt ≡ true = ap (λ (a : AttemptRecord). creates a) same ∙ creating in absurd (cc (makes, writes)))
        other
    behind (suc j) there other rest = rest j there

    by_tests : (b c : Bool) → (object_of attempt == oid) ≡ b → creates attempt ≡ c → (k : ℕ)
        → slice_get (attempt ∷ attempts) k ≡ Some create
        → ((j : ℕ) → slice_get attempts j ≡ Some create → (first : AttemptRecord) × (first_create oid attempts ≡ Some first))
        → (first : AttemptRecord) × (find creates (cond b (attempt ∷ attempts_on oid attempts) (attempts_on oid attempts)) ≡ Some first)
    by_tests true true own makes k there rest =
        (attempt, ap (λ (b : Bool). cond b (Some attempt) (find creates (attempts_on oid attempts))) makes)
    by_tests true false own writes k there rest =
        let (first, is) = behind k there (inr writes) rest in
        (first, ap (λ (b : Bool). cond b (Some attempt) (find creates (attempts_on oid attempts))) writes ∙ is)
    by_tests false c apart makes k there rest = behind k there (inl apart) rest

-- who has a first create was born
pub first_born : (oid : ℕ) (attempts : List AttemptRecord) (first : AttemptRecord) → first_create oid attempts ≡ Some first
    → IsBorn attempts oid
first_born oid [] first is = absurd (cc (is))
first_born oid (attempt ∷ attempts) first is =
    by_tests (creates attempt) (object_of attempt == oid) refl refl is (λ later. first_born oid attempts first later)
  where
    by_tests : (b c : Bool) → creates attempt ≡ b → (object_of attempt == oid) ≡ c
        → find creates (cond c (attempt ∷ attempts_on oid attempts) (attempts_on oid attempts)) ≡ Some first
        → (find creates (attempts_on oid attempts) ≡ Some first → IsBorn attempts oid)
        → is_object_among oid (map object_of (cond b (attempt ∷ filter creates attempts) (filter creates attempts))) ≡ true
    by_tests true true makes own is rest = or_left (object_of attempt == oid) (is_object_among oid (born_objects attempts)) own
    by_tests true false makes apart is rest = or_right (object_of attempt == oid) (is_object_among oid (born_objects attempts)) (rest is)
    by_tests false true writes own is rest =
        rest (sym (ap (λ (b : Bool). cond b (Some attempt) (find creates (attempts_on oid attempts))) writes) ∙ is)
    by_tests false false writes apart is rest = rest is

-- the first create stays the first where more attempts stand behind
pub first_more : (oid : ℕ) (attempts more : List AttemptRecord) (first : AttemptRecord) → first_create oid attempts ≡ Some first
    → first_create oid (attempts ++ more) ≡ Some first
first_more oid [] more first is = absurd (cc (is))
first_more oid (attempt ∷ attempts) more first is =
    by_tests (object_of attempt == oid) (creates attempt) refl is (λ later. first_more oid attempts more first later)
  where
    by_creates : (c : Bool) → creates attempt ≡ c → find creates (attempt ∷ attempts_on oid attempts) ≡ Some first
        → (find creates (attempts_on oid attempts) ≡ Some first → find creates (attempts_on oid (attempts ++ more)) ≡ Some first)
        → find creates (attempt ∷ attempts_on oid (attempts ++ more)) ≡ Some first
    by_creates true makes is rest =
        ap (λ (b : Bool). cond b (Some attempt) (find creates (attempts_on oid (attempts ++ more)))) makes
        ∙ sym (ap (λ (b : Bool). cond b (Some attempt) (find creates (attempts_on oid attempts))) makes) ∙ is
    by_creates false writes is rest =
        ap (λ (b : Bool). cond b (Some attempt) (find creates (attempts_on oid (attempts ++ more)))) writes
        ∙ rest (sym (ap (λ (b : Bool). cond b (Some attempt) (find creates (attempts_on oid attempts))) writes) ∙ is)

    by_tests : (b c : Bool) → creates attempt ≡ c
        → find creates (cond b (attempt ∷ attempts_on oid attempts) (attempts_on oid attempts)) ≡ Some first
        → (find creates (attempts_on oid attempts) ≡ Some first → find creates (attempts_on oid (attempts ++ more)) ≡ Some first)
        → find creates (cond b (attempt ∷ attempts_on oid (attempts ++ more)) (attempts_on oid (attempts ++ more))) ≡ Some first
    by_tests true c makes is rest = by_creates c makes is rest
    by_tests false c makes is rest = rest is

-- ---- births

-- each attempt is on an object that was born
pub of_the_born : (attempts : List AttemptRecord) → CreatesComeFirst attempts → AttemptsAreOfTheBorn attempts
of_the_born attempts creates_first j attempt there = by_kind (creates attempt) refl
  where
    by_create : (k : ℕ) (create : AttemptRecord) → slice_get attempts k ≡ Some create → object_of create ≡ object_of attempt
        → creates create ≡ true → IsBorn attempts (object_of attempt)
    by_create k create at object creating =
        let (first, found) = some_first (object_of attempt) attempts k create at object creating in
        first_born (object_of attempt) attempts first found

    by_kind : (b : Bool) → creates attempt ≡ b → IsBorn attempts (object_of attempt)
    by_kind true makes = by_create j attempt there refl makes
    by_kind false writes =
        let (created, before) = creates_first.each j attempt there writes in
        by_create created.place created.create created.there created.object created.creating

module _ (wire : Wire) (attempts : List AttemptRecord) (ordered : AttemptsAreOrdered wire attempts) where
  -- the first create is of no later epoch than an attempt behind it
  first_early : (oid k : ℕ) (first : AttemptRecord) → IsFirst attempts oid k first → (j : ℕ) (attempt : AttemptRecord)
      → slice_get attempts j ≡ Some attempt → object_of attempt ≡ oid → k ≤ j → first.epoch ≤ attempt.epoch
  first_early oid k first is j attempt there object behind = ⊎_elim
      (λ (before : is.place < j).
      (ordered.each is.place first is.there j attempt there before (is.object ∙ sym object)).epochs)
      (λ (last : j ≤ is.place).
      let least = is.least in
      let same : is.place ≡ j = omega (arith, least, behind, last) in
      let one : first ≡ attempt = same_Some first attempt (sym is.there ∙ ap (slice_get attempts) same ∙ there) in
      let epochs : first.epoch ≡ attempt.epoch = ap (λ (a : AttemptRecord). a.epoch) one in omega (arith, epochs))
      (cases_lt is.place j)

  module _ (creates_first : CreatesComeFirst attempts) where
    -- the object of an attempt was born, in no later epoch
    pub born_by : EachAttempt attempts (λ j attempt. IsBornBy attempts attempt)
    born_by j attempt there = by_kind (creates attempt) refl
      where
        by_create : (k : ℕ) (create : AttemptRecord) → slice_get attempts k ≡ Some create → object_of create ≡ object_of attempt
            → creates create ≡ true → k ≤ j → IsBornBy attempts attempt
        by_create k create at object creating behind =
            let (first, found) = some_first (object_of attempt) attempts k create at object creating in
            record {
              create = first;
              first = found;
              early =
                  first_early (object_of attempt) k first (first_is (object_of attempt) attempts first found k create at object creating)
                  j attempt there refl behind;
            }

        by_kind : (b : Bool) → creates attempt ≡ b → IsBornBy attempts attempt
        by_kind true makes = by_create j attempt there refl makes (omega arith)
        by_kind false writes =
            let (created, before) = creates_first.each j attempt there writes in
            by_create created.place created.create created.there created.object created.creating (omega (arith, before))

    -- whichever objects are good: no attempt is of an epoch before the birth of its object
    pub none_early : (good : ℕ → Bool) → NoneIsBeforeBirth good attempts
    none_early good = record {
      each = λ j attempt there birth is_good is.
          let b : IsBornBy attempts attempt = born_by j attempt there in
          let same : b.create.epoch ≡ birth
          = same_Some b.create.epoch birth (sym (ap (option_map (λ (create : AttemptRecord). create.epoch)) b.first) ∙ is) in
          let early = b.early in
          omega (arith, same, early);
    }

-- ---- a made create stays

-- an attempt is there still, made if it was
pub record StaysMade (attempts : List AttemptRecord) (j : ℕ) (was : AttemptRecord) : Type 0 where
  pub now : AttemptRecord
  pub there : slice_get attempts j ≡ Some now
  pub fates : List MessageFate
  pub same : record was { fates = fates } ≡ now
  pub made : is_made was ≡ true → is_made now ≡ true

unmarked : (attempts : List AttemptRecord) (j : ℕ) (was : AttemptRecord) → slice_get attempts j ≡ Some was → StaysMade attempts j was
unmarked attempts j was there = record { now = was; there = there; fates = was.fates; same = refl; made = λ made. made }

marked : (told : MessageFate) (sender : NodeId) (number : ℕ) (attempts : List AttemptRecord) (j : ℕ) (was : AttemptRecord)
    → slice_get attempts j ≡ Some was → StaysMade (attempts_with_fate told sender number attempts) j was
unfolding attempts_with_fate
marked told sender number attempts j was there = record {
  now = attempt_with_fate told sender number was;
  there = map_got (attempt_with_fate told sender number) attempts j was there;
  fates = fates_told told sender number was;
  same = sym (marked_shape told sender number was);
  made = made-marked told sender number was;
}

traffic_made : (hosts hosts_after : Hosts) (wire later : Wire) (attempts after : List AttemptRecord)
    → Traffic hosts hosts_after wire attempts later after → (j : ℕ) (was : AttemptRecord) → slice_get attempts j ≡ Some was
    → StaysMade after j was
traffic_made hosts hosts_after wire later attempts after NothingMoves j was there = unmarked attempts j was there
traffic_made hosts hosts_after wire later attempts after (MessageIsLost name packet lost) j was there = by_packet packet
  where
    by_packet : (packet : Packet) → StaysMade (attempts_with_loss name packet attempts) j was
    by_packet (Request to bytes) = marked Doomed name.sender name.number attempts j was there
    by_packet (Reply from bytes) = unmarked attempts j was there
traffic_made hosts hosts_after wire later attempts after (ReplyIsReceived name from bytes got) j was there = unmarked attempts j was there
traffic_made hosts hosts_after wire later attempts after (RequestIsAnswered name to bytes up rsp got answer) j was there =
    marked (fate_of_say rsp.say) name.sender name.number attempts j was there
traffic_made hosts hosts_after wire later attempts after (RequestsAreSent n sends by nothing) j was there = unmarked attempts j was there
traffic_made hosts hosts_after wire later attempts after (AttemptBegins n sends new begun) j was there =
    record { now = was; there = got_still attempts new j was there; fates = was.fates; same = refl; made = λ made. made }
traffic_made hosts hosts_after wire later attempts after (RepliesGo n) j was there = unmarked attempts j was there

pub stays_made : (script : List Statement) → RunsAreInRange script → (start before after : MomentWithPast) → Began script start.world
    → MomentChange script start before after → (j : ℕ) (was : AttemptRecord) → slice_get before.past.attempts j ≡ Some was
    → StaysMade after.past.attempts j was
stays_made script range start before after began change =
    traffic_made before.world.hosts after.world.hosts before.world.wire after.world.wire before.past.attempts after.past.attempts
    (traffic script range start began change)
