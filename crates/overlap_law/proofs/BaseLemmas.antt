-- What a base is, who served a made attempt, and what becomes of one whose targets went on.
use Rattle.std.proofs.Common.{◌≡◌, ⊎_elim, ℕ, ◌==◌, ◌&&◌, Bool, true, false, cond, List, [], ◌∷◌, length, filter, Option, Some, None, refl}
use Rattle.std.proofs.Common.{ap, subst}
use Rattle.std.specs.List.{list_all, last_or, AllByRecursion}
use Rattle.std.proofs.lemmas.Bool.{and_parts, or_left, or_right, or_cases}
use Rattle.object_id.specs.declared.node.NodeId.{NodeId}
use Rattle.object_list.specs.Gathered.{has_node}
use Rattle.overlap_law.specs.Attempts.{MessageFate, Flying, Served, Doomed, AttemptRecord}
use Rattle.overlap_law.specs.Words.{Hosts, is_beyond, is_served, is_made, is_one_in_vain, is_doomed, is_served_by, has_served, covers_unit}
use Rattle.overlap_law.specs.Words.{covering, last_of, base_of, own_base_of}

-- where every target is beyond the epoch, what isn't served is in vain
unserved-in_vain : (hosts : Hosts) (epoch : ℕ) (targets : List NodeId) (fates : List MessageFate) → length fates ≡ length targets
    → list_all (is_beyond hosts epoch) targets ≡ true → list_all is_served fates ≡ false → is_one_in_vain hosts epoch targets fates ≡ true
unserved-in_vain hosts epoch [] [] long beyond e = absurd (cc)
unserved-in_vain hosts epoch [] (fate ∷ fates) long beyond e = absurd (cc)
unserved-in_vain hosts epoch (target ∷ targets) [] long beyond e = absurd (cc)
unserved-in_vain hosts epoch (target ∷ targets) (Flying ∷ fates) long beyond e = or_left
    (is_beyond hosts epoch target) (is_one_in_vain hosts epoch targets fates)
    (and_parts (is_beyond hosts epoch target) (list_all (is_beyond hosts epoch) targets) beyond).0
unserved-in_vain hosts epoch (target ∷ targets) (Served ∷ fates) long beyond e = unserved-in_vain hosts epoch targets fates (cc (long))
    (and_parts (is_beyond hosts epoch target) (list_all (is_beyond hosts epoch) targets) beyond).1 e
unserved-in_vain hosts epoch (target ∷ targets) (Doomed ∷ fates) long beyond e = refl

pub unmade-doomed : (hosts : Hosts) (attempt : AttemptRecord) → length attempt.fates ≡ length attempt.targets
    → list_all (is_beyond hosts attempt.epoch) attempt.targets ≡ true → is_made attempt ≡ false → is_doomed hosts attempt ≡ true
unmade-doomed hosts attempt long beyond e = unserved-in_vain hosts attempt.epoch attempt.targets attempt.fates long beyond e

all_served-each : (node : NodeId) (targets : List NodeId) (fates : List MessageFate) → length fates ≡ length targets
    → list_all is_served fates ≡ true → has_node node targets ≡ true → is_served_by node targets fates ≡ true
all_served-each node [] fates long e there = absurd (cc)
all_served-each node (target ∷ targets) [] long e there = absurd (cc)
all_served-each node (target ∷ targets) (Flying ∷ fates) long e there = absurd (cc)
all_served-each node (target ∷ targets) (Served ∷ fates) long e there = ⊎_elim
    (λ (h : (target.0 == node.0) ≡ true). or_left ((target.0 == node.0) && true) (is_served_by node targets fates)
    (ap (λ (b : Bool). b && true) h))
    (λ (h : has_node node targets ≡ true). or_right ((target.0 == node.0) && true) (is_served_by node targets fates)
    (all_served-each node targets fates (cc (long)) e h))
    (or_cases (target.0 == node.0) (has_node node targets) there)
all_served-each node (target ∷ targets) (Doomed ∷ fates) long e there = absurd (cc)

pub made-served : (node : NodeId) (attempt : AttemptRecord) → length attempt.fates ≡ length attempt.targets → is_made attempt ≡ true
    → has_node node attempt.targets ≡ true → has_served node attempt ≡ true
made-served node attempt long e there = all_served-each node attempt.targets attempt.fates long e there

kept_if : (P : AttemptRecord → Type 0) (passes : AttemptRecord → Bool) (attempt : AttemptRecord) (attempts : List AttemptRecord) → P attempt
    → AllByRecursion P (filter passes attempts) → (b : Bool)
    → AllByRecursion P (cond b (attempt ∷ filter passes attempts) (filter passes attempts))
kept_if P passes attempt attempts here later true = (here, later)
kept_if P passes attempt attempts here later false = later

passed_if : (passes : AttemptRecord → Bool) (attempt : AttemptRecord) (attempts : List AttemptRecord)
    → AllByRecursion (λ (a : AttemptRecord). passes a ≡ true) (filter passes attempts) → (b : Bool) → passes attempt ≡ b
    → AllByRecursion (λ (a : AttemptRecord). passes a ≡ true) (cond b (attempt ∷ filter passes attempts) (filter passes attempts))
passed_if passes attempt attempts later true e = (e, later)
passed_if passes attempt attempts later false e = later

same-some : (one two : AttemptRecord) → Some one ≡ Some two → one ≡ two
same-some one two e = cc

-- what holds of all holds of those that pass a test, which it does too
filter-keeps : (P : AttemptRecord → Type 0) (passes : AttemptRecord → Bool) (attempts : List AttemptRecord) → AllByRecursion P attempts
    → AllByRecursion P (filter passes attempts)
filter-keeps P passes [] all = tt
filter-keeps P passes (attempt ∷ attempts) all =
    kept_if P passes attempt attempts all.0 (filter-keeps P passes attempts all.1) (passes attempt)

filter-passes : (passes : AttemptRecord → Bool) (attempts : List AttemptRecord)
    → AllByRecursion (λ (attempt : AttemptRecord). passes attempt ≡ true) (filter passes attempts)
filter-passes passes [] = tt
filter-passes passes (attempt ∷ attempts) = passed_if passes attempt attempts (filter-passes passes attempts) (passes attempt) refl

-- what holds of all holds of the last
last-holds : (P : AttemptRecord → Type 0) (first : Option AttemptRecord) (attempts : List AttemptRecord) (found : AttemptRecord)
    → (first ≡ Some found → P found) → AllByRecursion P attempts → last_or first attempts ≡ Some found → P found
last-holds P first [] found given all h = given h
last-holds P first (attempt ∷ attempts) found given all h = last-holds
    P (Some attempt) attempts found (λ (same : Some attempt ≡ Some found). subst P (same-some attempt found same) all.0) all.1 h

last_of-holds : (P : AttemptRecord → Type 0) (attempts : List AttemptRecord) (found : AttemptRecord) → AllByRecursion P attempts
    → last_of attempts ≡ Some found → P found
last_of-holds P attempts found all h = last-holds P None attempts found (λ (none : None ≡ Some found). absurd (cc (none))) all h

pub base-made : (attempts : List AttemptRecord) (base : AttemptRecord) → base_of attempts ≡ Some base → is_made base ≡ true
base-made attempts base h =
    last_of-holds (λ (attempt : AttemptRecord). is_made attempt ≡ true) (filter is_made attempts) base (filter-passes is_made attempts) h

pub own_base-covers_unit : (unit : ℕ) (attempts : List AttemptRecord) (own : AttemptRecord) → own_base_of unit attempts ≡ Some own
    → covers_unit unit own ≡ true
own_base-covers_unit unit attempts own h = last_of-holds
    (λ (attempt : AttemptRecord). covers_unit unit attempt ≡ true) (filter is_made (covering unit attempts)) own
    (filter-keeps (λ (attempt : AttemptRecord). covers_unit unit attempt ≡ true) is_made (covering unit attempts)
    (filter-passes (covers_unit unit) attempts)) h
