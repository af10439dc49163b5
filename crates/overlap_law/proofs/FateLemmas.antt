-- How the fates of messages make an attempt made or doomed, and what stays so.
use Rattle.std.proofs.Common.{◌≡◌, ◌≢◌, ⊎_elim, ℕ, zero, suc, ◌-◌, Bool, true, false, cond, List, [], ◌∷◌, Some, refl, ap, slice_get}
use Rattle.std.specs.List.{list_all}
use Rattle.std.proofs.lemmas.Bool.{or_left, or_right, or_cases}
use Rattle.object_id.specs.declared.node.NodeId.{NodeId}
use Rattle.overlap_law.specs.Attempts.{MessageFate, Flying, Served, Doomed, AttemptRecord, has_message, known_fate, fates_with}
use Rattle.overlap_law.specs.Attempts.{attempt_with_fate}
use Rattle.overlap_law.specs.Words.{Hosts, is_beyond, is_served, is_made, is_in_vain, is_one_in_vain, is_doomed}

all_served-not_in_vain : (hosts : Hosts) (epoch : ℕ) (targets : List NodeId) (fates : List MessageFate) → list_all is_served fates ≡ true
    → is_one_in_vain hosts epoch targets fates ≡ false
all_served-not_in_vain hosts epoch [] fates e = refl
all_served-not_in_vain hosts epoch (target ∷ targets) [] e = refl
all_served-not_in_vain hosts epoch (target ∷ targets) (Flying ∷ fates) e = absurd (cc)
all_served-not_in_vain hosts epoch (target ∷ targets) (Served ∷ fates) e = all_served-not_in_vain hosts epoch targets fates e
all_served-not_in_vain hosts epoch (target ∷ targets) (Doomed ∷ fates) e = absurd (cc)

pub made-not_doomed : (hosts : Hosts) (attempt : AttemptRecord) → is_made attempt ≡ true → is_doomed hosts attempt ≡ false
made-not_doomed hosts attempt e = all_served-not_in_vain hosts attempt.epoch attempt.targets attempt.fates e

told-all_served : (place : ℕ) (told : MessageFate) (fates : List MessageFate) → list_all is_served fates ≡ true
    → list_all is_served (fates_with place told fates) ≡ true
told-all_served place told [] e = refl
told-all_served zero told (Flying ∷ fates) e = absurd (cc)
told-all_served zero told (Served ∷ fates) e = e
told-all_served zero told (Doomed ∷ fates) e = absurd (cc)
told-all_served (suc place) told (Flying ∷ fates) e = absurd (cc)
told-all_served (suc place) told (Served ∷ fates) e = told-all_served place told fates e
told-all_served (suc place) told (Doomed ∷ fates) e = absurd (cc)

made_if : (told : MessageFate) (number : ℕ) (attempt : AttemptRecord) (b : Bool) → is_made attempt ≡ true
    → is_made (cond b (record attempt { fates = fates_with (number - attempt.first) told attempt.fates }) attempt) ≡ true
made_if told number attempt true e = told-all_served (number - attempt.first) told attempt.fates e
made_if told number attempt false e = e

pub made-marked : (told : MessageFate) (sender : NodeId) (number : ℕ) (attempt : AttemptRecord) → is_made attempt ≡ true
    → is_made (attempt_with_fate told sender number attempt) ≡ true
made-marked told sender number attempt e = made_if told number attempt (has_message sender number attempt) e

pub in_vain-grows : (old new : Hosts) (epoch : ℕ) (target : NodeId) (fate : MessageFate)
    → (is_beyond old epoch target ≡ true → is_beyond new epoch target ≡ true)
    → is_in_vain old epoch target fate ≡ true → is_in_vain new epoch target fate ≡ true
in_vain-grows old new epoch target Flying grows e = grows e
in_vain-grows old new epoch target Served grows e = absurd (cc)
in_vain-grows old new epoch target Doomed grows e = refl

one_in_vain-grows : (old new : Hosts) (epoch : ℕ) → ((node : NodeId) → is_beyond old epoch node ≡ true → is_beyond new epoch node ≡ true)
    → (targets : List NodeId) (fates : List MessageFate) → is_one_in_vain old epoch targets fates ≡ true
    → is_one_in_vain new epoch targets fates ≡ true
one_in_vain-grows old new epoch grows [] fates e = absurd (cc)
one_in_vain-grows old new epoch grows (target ∷ targets) [] e = absurd (cc)
one_in_vain-grows old new epoch grows (target ∷ targets) (fate ∷ fates) e = ⊎_elim
    (λ (h : is_in_vain old epoch target fate ≡ true). or_left (is_in_vain new epoch target fate) (is_one_in_vain new epoch targets fates)
    (in_vain-grows old new epoch target fate (grows target) h))
    (λ (h : is_one_in_vain old epoch targets fates ≡ true). or_right (is_in_vain new epoch target fate)
    (is_one_in_vain new epoch targets fates) (one_in_vain-grows old new epoch grows targets fates h))
    (or_cases (is_in_vain old epoch target fate) (is_one_in_vain old epoch targets fates) e)

pub doomed-grows : (old new : Hosts) (attempt : AttemptRecord)
    → ((node : NodeId) → is_beyond old attempt.epoch node ≡ true → is_beyond new attempt.epoch node ≡ true)
    → is_doomed old attempt ≡ true → is_doomed new attempt ≡ true
doomed-grows old new attempt grows e = one_in_vain-grows old new attempt.epoch grows attempt.targets attempt.fates e

-- what is told of a message leaves it in vain, where no target is beyond that is told to have served it
told-in_vain : (hosts : Hosts) (epoch : ℕ) (target : NodeId) (told fate : MessageFate)
    → (told ≡ Served → is_beyond hosts epoch target ≡ false)
    → told ≢ Flying → is_in_vain hosts epoch target fate ≡ true → is_in_vain hosts epoch target (known_fate told fate) ≡ true
told-in_vain hosts epoch target Flying Flying within known e = e
told-in_vain hosts epoch target Served Flying within known e = absurd (cc (within refl, e))
told-in_vain hosts epoch target Doomed Flying within known e = refl
told-in_vain hosts epoch target told Served within known e = absurd (cc)
told-in_vain hosts epoch target told Doomed within known e = refl

pub told-one_in_vain : (hosts : Hosts) (epoch : ℕ) (told : MessageFate) → told ≢ Flying
    → (targets : List NodeId) (fates : List MessageFate) (place : ℕ)
    → ((target : NodeId) → slice_get targets place ≡ Some target → told ≡ Served → is_beyond hosts epoch target ≡ false)
    → is_one_in_vain hosts epoch targets fates ≡ true → is_one_in_vain hosts epoch targets (fates_with place told fates) ≡ true
told-one_in_vain hosts epoch told known [] fates place within e = absurd (cc)
told-one_in_vain hosts epoch told known (target ∷ targets) [] place within e = absurd (cc)
told-one_in_vain hosts epoch told known (target ∷ targets) (fate ∷ fates) zero within e = ⊎_elim
    (λ (h : is_in_vain hosts epoch target fate ≡ true). or_left (is_in_vain hosts epoch target (known_fate told fate))
    (is_one_in_vain hosts epoch targets fates) (told-in_vain hosts epoch target told fate (within target refl) known h))
    (λ (h : is_one_in_vain hosts epoch targets fates ≡ true). or_right (is_in_vain hosts epoch target (known_fate told fate))
    (is_one_in_vain hosts epoch targets fates) h) (or_cases (is_in_vain hosts epoch target fate) (is_one_in_vain hosts epoch targets fates)
    e)
told-one_in_vain hosts epoch told known (target ∷ targets) (fate ∷ fates) (suc place) within e = ⊎_elim
    (λ (h : is_in_vain hosts epoch target fate ≡ true). or_left (is_in_vain hosts epoch target fate)
    (is_one_in_vain hosts epoch targets (fates_with place told fates)) h)
    (λ (h : is_one_in_vain hosts epoch targets fates ≡ true). or_right (is_in_vain hosts epoch target fate)
    (is_one_in_vain hosts epoch targets (fates_with place told fates))
    (told-one_in_vain hosts epoch told known targets fates place within h))
    (or_cases (is_in_vain hosts epoch target fate) (is_one_in_vain hosts epoch targets fates) e)

doomed_if : (hosts : Hosts) (told : MessageFate) (number : ℕ) (attempt : AttemptRecord) → told ≢ Flying
    → ((target : NodeId) → slice_get attempt.targets (number - attempt.first) ≡ Some target → told ≡ Served
    → is_beyond hosts attempt.epoch target ≡ false)
    → (b : Bool) → is_doomed hosts attempt ≡ true
    → is_doomed hosts (cond b (record attempt { fates = fates_with (number - attempt.first) told attempt.fates }) attempt) ≡ true
doomed_if hosts told number attempt known within true e =
    told-one_in_vain hosts attempt.epoch told known attempt.targets attempt.fates (number - attempt.first) within e
doomed_if hosts told number attempt known within false e = e

pub doomed-marked : (hosts : Hosts) (told : MessageFate) (sender : NodeId) (number : ℕ) (attempt : AttemptRecord) → told ≢ Flying
    → ((target : NodeId) → slice_get attempt.targets (number - attempt.first) ≡ Some target → told ≡ Served
    → is_beyond hosts attempt.epoch target ≡ false)
    → is_doomed hosts attempt ≡ true → is_doomed hosts (attempt_with_fate told sender number attempt) ≡ true
doomed-marked hosts told sender number attempt known within e =
    doomed_if hosts told number attempt known within (has_message sender number attempt) e

pub other-marked : (told : MessageFate) (sender : NodeId) (number : ℕ) (attempt : AttemptRecord) → has_message sender number attempt ≡ false
    → attempt_with_fate told sender number attempt ≡ attempt
other-marked told sender number attempt e =
    ap (λ (b : Bool). cond b (record attempt { fates = fates_with (number - attempt.first) told attempt.fates }) attempt) e
