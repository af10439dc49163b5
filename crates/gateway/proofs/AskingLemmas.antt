-- The messages that an attempt's code makes, one after another.
use Rattle.std.proofs.Common.{◌≡◌, ℕ, zero, suc, ◌+◌, ◌<◌, ◌≤◌, ◌^◌, ◌%◌, ◌==◌, Bool, true, false, cond, List, [], ◌∷◌, ◌++◌, length, min, take, drop, get_or, map, refl, sym, ap, ap₂, subst, ◌∙◌, arith}
use Rattle.std.specs.List.{enumerate_from, range_with_len}
use Rattle.std.proofs.lemmas.Bool.{ne_eqb}
use Rattle.std.proofs.lemmas.List.{map-append, length-map}
use Rattle.object_id.specs.declared.node.NodeId.{NodeId}
use Rattle.object_id.specs.declared.limits.TheConstants.{TARGETS_MAX}
use Rattle.object_id.specs.declared.oid.Kind.{Kind}
use Rattle.object_id.specs.declared.oid.Kind.TheVariants.{Block, Inode}
use Rattle.object_id.specs.declared.policy.Policy.{Policy}
use Rattle.object_id.specs.declared.policy.Policy.TheVariants.{Copies, Coded}
use Rattle.object_id.specs.Policy.{IsPolicy, need_of, wanted_of}
use Rattle.hash_ring.specs.Circle.{hash_of_object}
use Rattle.hash_ring.specs.Placement.{zone_count}
use Rattle.hash_ring.proofs.TargetLaws.{length-targets_of}
use Rattle.vnode_table.specs.Epochs.{EpochMembers, members_at}
use Rattle.vnode_table.specs.Targets.{targets_in}
use Rattle.gf256.proofs.Points.{points_to, range_points}
use Rattle.gf256.proofs.Widths.{by_cases, width_most}
use Rattle.gf256.specs.Polynomial.{ArePoints}
use Rattle.object_id.specs.Oid.{kind_of}
use Rattle.gf256.specs.Part.{part_size, is_in_strips}
use Rattle.peer_proto.specs.declared.work.ObjWork.{ObjWork}
use Rattle.peer_proto.specs.declared.work.ObjWork.TheVariants.{Create, Write, Read, ReadAll}
use Rattle.peer_proto.specs.Work.{IsWork, oid_of, policy_of}
use Rattle.gateway.specs.declared.message.Message.{Message}
use Rattle.gateway.specs.Work.{asks_all, read_from, targets_asked, zones_for}
use Rattle.gateway.specs.Attempt.{message_for, messages_of}
use Rattle.gateway.specs.Messages.{HasNoNumber, NumbersDiffer, HaveLength, ArePiecesFor, IndexesDiffer, HaveCountFor, IndexesFit, AreMessagesFor}

-- one more target
enumerate-push : {X : Type 0} → (n : ℕ) (xs : List X) (x : X) → enumerate_from n (xs ++ x ∷ []) ≡ enumerate_from n xs ++ (n + length xs, x) ∷ []
enumerate-push n [] x = let e : n ≡ n + 0 = omega arith in ap (λ k. (k, x) ∷ []) e
enumerate-push n (y ∷ xs) x =
    let e : n + 1 + length xs ≡ n + suc (length xs) = omega arith in
    ap (λ ys. (n, y) ∷ ys) (enumerate-push (n + 1) xs x ∙ ap (λ k. enumerate_from (n + 1) xs ++ (k, x) ∷ []) e)

length-enumerate : {X : Type 0} → (n : ℕ) (xs : List X) → length (enumerate_from n xs) ≡ length xs
length-enumerate n [] = refl
length-enumerate n (x ∷ xs) = ap suc (length-enumerate (n + 1) xs)

pub messages-push : (work : ObjWork) (first : ℕ) (targets : List NodeId) (node : NodeId)
    → map (message_for work) (enumerate_from first (enumerate_from 0 (targets ++ node ∷ [])))
    ≡ map (message_for work) (enumerate_from first (enumerate_from 0 targets)) ++ message_for work (first + length targets, (length targets, node)) ∷ []
messages-push work first targets node =
    let z : 0 + length targets ≡ length targets = omega arith in
    ap (λ places. map (message_for work) (enumerate_from first places))
    (enumerate-push 0 targets node ∙ ap (λ k. enumerate_from 0 targets ++ (k, node) ∷ []) z)
    ∙ ap (map (message_for work)) (enumerate-push first (enumerate_from 0 targets) (length targets, node))
    ∙ map-append (message_for work) (enumerate_from first (enumerate_from 0 targets)) ((first + length (enumerate_from 0 targets), (length targets, node)) ∷ [])
    ∙ ap (λ k. map (message_for work) (enumerate_from first (enumerate_from 0 targets)) ++ message_for work (first + k, (length targets, node)) ∷ [])
    (length-enumerate 0 targets)

-- the target at a place, with its place
place_alone : (n k : ℕ) (targets : List NodeId) (d : NodeId) → k < length targets
    → take 1 (drop k (enumerate_from n targets)) ≡ (n + k, get_or targets k d) ∷ []
place_alone n k [] d below = absurd (omega (arith, below))
place_alone n zero (node ∷ targets) d below = let e : n ≡ n + 0 = omega arith in ap (λ i. (i, node) ∷ []) e
place_alone n (suc k) (node ∷ targets) d below =
    let e : n + 1 + k ≡ n + suc k = omega arith in
    place_alone (n + 1) k targets d (omega (arith, below)) ∙ ap (λ i. (i, get_or targets k d) ∷ []) e

pub message-in_turn : (work : ObjWork) (ended first place : ℕ) (targets : List NodeId) (node d : NodeId) → asks_all work ≡ false
    → place ≡ ended % length targets → place < length targets → node ≡ get_or targets place d
    → message_for work (first, (place, node)) ∷ [] ≡ messages_of work ended first targets
message-in_turn (Create oid policy size offset bytes) ended first place targets node d one turn below is = absurd (cc (one))
message-in_turn (Write oid policy offset bytes) ended first place targets node d one turn below is = absurd (cc (one))
message-in_turn (ReadAll oid policy size) ended first place targets node d one turn below is = absurd (cc (one))
message-in_turn (Read oid policy offset size) ended first place targets node d one turn below is =
    let work : ObjWork = Read oid policy offset size in
    let z : 0 + place ≡ place = omega arith in
    sym
    (ap (λ b. map (message_for work) (enumerate_from first (read_from b ended (enumerate_from 0 targets)))) one
    ∙ ap (λ n. map (message_for work) (enumerate_from first (take 1 (drop (ended % n) (enumerate_from 0 targets))))) (length-enumerate 0 targets)
    ∙ ap (λ k. map (message_for work) (enumerate_from first (take 1 (drop k (enumerate_from 0 targets))))) (sym turn)
    ∙ ap (λ places. map (message_for work) (enumerate_from first places)) (place_alone 0 place targets d below ∙ ap (λ k. (k, get_or targets place d) ∷ []) z)
    ∙ ap (λ n. message_for work (first, (place, n)) ∷ []) (sym is))

pub messages-to_all : (work : ObjWork) (ended first : ℕ) (targets : List NodeId) → asks_all work ≡ true
    → map (message_for work) (enumerate_from first (enumerate_from 0 targets)) ≡ messages_of work ended first targets
messages-to_all (Create oid policy size offset bytes) ended first targets all = refl
messages-to_all (Write oid policy offset bytes) ended first targets all = refl
messages-to_all (ReadAll oid policy size) ended first targets all = refl
messages-to_all (Read oid policy offset size) ended first targets all =
    sym (ap (λ b. map (message_for (Read oid policy offset size)) (enumerate_from first (read_from b ended (enumerate_from 0 targets)))) all)

-- ---- how many targets there are

need_wanted : (policy : Policy) (kind : Kind) → IsPolicy policy → need_of policy kind ≤ wanted_of policy kind
need_wanted (Copies copies) Block is = is.0
need_wanted (Copies copies) Inode is = is.0
need_wanted (Coded d p) Block is = omega arith
need_wanted (Coded d p) Inode is = omega arith

pub need_one : (policy : Policy) (kind : Kind) → IsPolicy policy → 1 ≤ need_of policy kind
need_one (Copies copies) Block is = omega arith
need_one (Copies copies) Inode is = omega arith
need_one (Coded d p) Block is = by_cases (λ d. 1 ≤ d) (omega arith) (omega arith) (omega arith) (omega arith) d is.0
need_one (Coded d p) Inode is = omega arith

pub wanted_most : (policy : Policy) (kind : Kind) → IsPolicy policy → wanted_of policy kind ≤ TARGETS_MAX
wanted_most (Copies copies) Block is = is.1
wanted_most (Copies copies) Inode is = is.1
wanted_most (Coded d p) Block is = let most : d ≤ 16 = width_most d is.0 in omega (arith, most, is.2)
wanted_most (Coded d p) Inode is = omega (arith, is.2)

-- the policy of a work is one
pub policy_is : (work : ObjWork) → IsWork work → IsPolicy (policy_of work)
policy_is (Create oid policy size offset bytes) is = is.0
policy_is (Write oid policy offset bytes) is = is.0
policy_is (Read oid policy offset size) is = is.0
policy_is (ReadAll oid policy size) is = is.0

pub zones_wanted : (work : ObjWork) → IsWork work → zones_for work ≤ wanted_of (policy_of work) (kind_of (oid_of work))
zones_wanted (Create oid policy size offset bytes) is = omega arith
zones_wanted (Write oid policy offset bytes) is = omega arith
zones_wanted (Read oid policy offset size) is = need_wanted policy (kind_of oid) is.0
zones_wanted (ReadAll oid policy size) is =
    let few : need_of policy (kind_of oid) ≤ wanted_of policy (kind_of oid) = need_wanted policy (kind_of oid) is.0 in
    omega (arith, few)

pub zones_one : (work : ObjWork) → IsWork work → 1 ≤ zones_for work
zones_one (Create oid policy size offset bytes) is =
    let one : 1 ≤ need_of policy (kind_of oid) = need_one policy (kind_of oid) is.0 in
    let few : need_of policy (kind_of oid) ≤ wanted_of policy (kind_of oid) = need_wanted policy (kind_of oid) is.0 in
    omega (arith, one, few)
zones_one (Write oid policy offset bytes) is =
    let one : 1 ≤ need_of policy (kind_of oid) = need_one policy (kind_of oid) is.0 in
    let few : need_of policy (kind_of oid) ≤ wanted_of policy (kind_of oid) = need_wanted policy (kind_of oid) is.0 in
    omega (arith, one, few)
zones_one (Read oid policy offset size) is = need_one policy (kind_of oid) is.0
zones_one (ReadAll oid policy size) is =
    let one : 1 ≤ need_of policy (kind_of oid) = need_one policy (kind_of oid) is.0 in
    let few : need_of policy (kind_of oid) ≤ wanted_of policy (kind_of oid) = need_wanted policy (kind_of oid) is.0 in
    omega (arith, one, few)

-- there are as many targets as are wanted, or as there are zones: fewer than an attempt needs are as many as there are zones
pub targets-count : (epochs : List EpochMembers) (epoch : ℕ) (oid : ℕ) (policy : Policy)
    → length (targets_in epochs epoch oid policy) ≡ min (wanted_of policy (kind_of oid)) (zone_count (members_at epochs epoch))
unfolding targets_in
targets-count epochs epoch oid policy = length-targets_of (members_at epochs epoch) (hash_of_object oid) (wanted_of policy (kind_of oid))

pub targets-most : (epochs : List EpochMembers) (epoch : ℕ) (oid : ℕ) (policy : Policy) → IsPolicy policy
    → length (targets_in epochs epoch oid policy) ≤ TARGETS_MAX
targets-most epochs epoch oid policy is =
    let count = targets-count epochs epoch oid policy in
    let most : wanted_of policy (kind_of oid) ≤ TARGETS_MAX = wanted_most policy (kind_of oid) is in
    let less : min (wanted_of policy (kind_of oid)) (zone_count (members_at epochs epoch)) ≤ wanted_of policy (kind_of oid) = omega arith in
    omega (arith, count, most, less)

pub zones-short : (count wanted zones needed : ℕ) → count ≡ min wanted zones → needed ≤ wanted → count < needed → zones ≡ count
zones-short count wanted zones needed is few short = omega (arith, is, few, short)

pub zones-enough : (count wanted zones needed : ℕ) → count ≡ min wanted zones → needed ≤ count → needed ≤ zones
zones-enough count wanted zones needed is enough = omega (arith, is, enough)

-- ---- each message asks for a part that there is

index-fits : (work : ObjWork) (number place : ℕ) (node : NodeId) → place < TARGETS_MAX → (message_for work (number, (place, node))).index < TARGETS_MAX
index-fits work number place node below = by_kind (is_in_strips (policy_of work) (kind_of (oid_of work)))
  where
    by_kind : (b : Bool) → cond b place 0 < TARGETS_MAX
    by_kind true = below
    by_kind false = omega arith

-- all places of targets are below the limit
abbrev PlacesFit : List (ℕ × NodeId) → Type 0
PlacesFit [] = Unit {0}
PlacesFit (target ∷ targets) = (target.0 < TARGETS_MAX) × PlacesFit targets

places-fit : (place : ℕ) (targets : List NodeId) → place + length targets ≤ TARGETS_MAX → PlacesFit (enumerate_from place targets)
places-fit place [] few = tt
places-fit place (node ∷ targets) few = (omega (arith, few), places-fit (place + 1) targets (omega (arith, few)))

places-dropped : (n : ℕ) (targets : List (ℕ × NodeId)) → PlacesFit targets → PlacesFit (drop n targets)
places-dropped zero targets fit = fit
places-dropped (suc n) [] fit = tt
places-dropped (suc n) (target ∷ targets) fit = places-dropped n targets fit.1

places-taken : (n : ℕ) (targets : List (ℕ × NodeId)) → PlacesFit targets → PlacesFit (take n targets)
places-taken zero targets fit = tt
places-taken (suc n) [] fit = tt
places-taken (suc n) (target ∷ targets) fit = (fit.0, places-taken n targets fit.1)

places-asked : (work : ObjWork) (ended : ℕ) (targets : List NodeId) → length targets ≤ TARGETS_MAX → PlacesFit (targets_asked work ended targets)
places-asked (Create oid policy size offset bytes) ended targets few = places-fit 0 targets (omega (arith, few))
places-asked (Write oid policy offset bytes) ended targets few = places-fit 0 targets (omega (arith, few))
places-asked (ReadAll oid policy size) ended targets few = places-fit 0 targets (omega (arith, few))
places-asked (Read oid policy offset size) ended targets few = by_strips (is_in_strips policy (kind_of oid))
  where
    by_strips : (b : Bool) → PlacesFit (read_from b ended (enumerate_from 0 targets))
    by_strips true = places-fit 0 targets (omega (arith, few))
    by_strips false =
        places-taken 1 (drop (ended % length (enumerate_from 0 targets)) (enumerate_from 0 targets))
        (places-dropped (ended % length (enumerate_from 0 targets)) (enumerate_from 0 targets) (places-fit 0 targets (omega (arith, few))))

indexes-fit : (work : ObjWork) (first : ℕ) (targets : List (ℕ × NodeId)) → PlacesFit targets
    → IndexesFit (map (message_for work) (enumerate_from first targets))
indexes-fit work first [] fit = tt
indexes-fit work first (target ∷ targets) fit = (index-fits work first target.0 target.1 fit.0, indexes-fit work (first + 1) targets fit.1)

pub IndexesFit-messages_of : (work : ObjWork) (ended first : ℕ) (targets : List NodeId) → length targets ≤ TARGETS_MAX
    → IndexesFit (messages_of work ended first targets)
IndexesFit-messages_of work ended first targets few = indexes-fit work first (targets_asked work ended targets) (places-asked work ended targets few)

-- the message at a place asks for a part that there is
pub index-at : (messages : List Message) (k : ℕ) (d : Message) → IndexesFit messages → k < length messages → (get_or messages k d).index < TARGETS_MAX
index-at [] k d fit below = absurd (omega (arith, below))
index-at (message ∷ messages) zero d fit below = fit.0
index-at (message ∷ messages) (suc k) d fit below = index-at messages k d fit.1 (omega (arith, below))

-- ---- what always holds of new messages

none-earlier : (work : ObjWork) (number first : ℕ) (targets : List (ℕ × NodeId)) → number < first
    → HasNoNumber number (map (message_for work) (enumerate_from first targets))
none-earlier work number first [] below = tt
none-earlier work number first (target ∷ targets) below =
    let other : (first == number) ≡ false = ne_eqb first number (λ (e : first ≡ number). omega (arith, e, below)) in
    (other, none-earlier work number (first + 1) targets (omega (arith, below)))

numbers-differ : (work : ObjWork) (first : ℕ) (targets : List (ℕ × NodeId)) → NumbersDiffer (map (message_for work) (enumerate_from first targets))
numbers-differ work first [] = tt
numbers-differ work first (target ∷ targets) = (none-earlier work first (first + 1) targets (omega arith), numbers-differ work (first + 1) targets)

have-length : (size : ℕ) (work : ObjWork) (first : ℕ) (targets : List (ℕ × NodeId)) → HaveLength size (map (message_for work) (enumerate_from first targets))
have-length size work first [] = tt
have-length size work first (target ∷ targets) = (tt, have-length size work (first + 1) targets)

pieces-new : (work other : ObjWork) (first : ℕ) (targets : List (ℕ × NodeId)) → ArePiecesFor work (map (message_for other) (enumerate_from first targets))
pieces-new (Create oid policy size offset bytes) other first targets = tt
pieces-new (Write oid policy offset bytes) other first targets = tt
pieces-new (Read oid policy offset size) other first targets = have-length (part_size policy (kind_of oid) size) other first targets
pieces-new (ReadAll oid policy size) other first targets = have-length (part_size policy (kind_of oid) size) other first targets

indexes-strips : (work : ObjWork) (first place : ℕ) (targets : List NodeId) → is_in_strips (policy_of work) (kind_of (oid_of work)) ≡ true
    → map (λ (message : Message). message.index) (map (message_for work) (enumerate_from first (enumerate_from place targets)))
    ≡ range_with_len place (length targets)
indexes-strips work first place [] strips = refl
indexes-strips work first place (node ∷ targets) strips =
    ap₂ (λ (k : ℕ) (ks : List ℕ). k ∷ ks) (ap (λ b. cond b place 0) strips) (indexes-strips work (first + 1) (place + 1) targets strips)

one-point : (work : ObjWork) (first : ℕ) (targets : List (ℕ × NodeId)) → is_in_strips (policy_of work) (kind_of (oid_of work)) ≡ false
    → ArePoints (map (λ (message : Message). message.index) (map (message_for work) (enumerate_from first (take 1 targets))))
one-point work first [] whole = points_to [] tt
one-point work first (target ∷ targets) whole =
    let zero_index : cond (is_in_strips (policy_of work) (kind_of (oid_of work))) target.0 0 ≡ 0 = ap (λ b. cond b target.0 0) whole in
    points_to (cond (is_in_strips (policy_of work) (kind_of (oid_of work))) target.0 0 ∷ []) (subst (λ (k : ℕ). k < 2 ^ 8) (sym zero_index) (omega arith), tt, tt)

indexes-new : (work : ObjWork) (ended first : ℕ) (targets : List NodeId) → length targets ≤ TARGETS_MAX
    → IndexesDiffer work (messages_of work ended first targets)
indexes-new (Create oid policy size offset bytes) ended first targets few = tt
indexes-new (Write oid policy offset bytes) ended first targets few = tt
indexes-new (ReadAll oid policy size) ended first targets few = tt
indexes-new (Read oid policy offset size) ended first targets few = by_strips (is_in_strips policy (kind_of oid)) refl
  where
    by_strips : (b : Bool) → is_in_strips policy (kind_of oid) ≡ b
        → ArePoints (map (λ (message : Message). message.index)
        (map (message_for (Read oid policy offset size)) (enumerate_from first (read_from b ended (enumerate_from 0 targets)))))
    by_strips true strips =
        subst ArePoints (sym (indexes-strips (Read oid policy offset size) first 0 targets strips))
        (points_to (range_with_len 0 (length targets)) (range_points 0 (length targets) (omega (arith, few))))
    by_strips false whole =
        one-point (Read oid policy offset size) first (drop (ended % length (enumerate_from 0 targets)) (enumerate_from 0 targets)) whole

-- a read of all parts asks each target, and they are all that are wanted
count-new : (work : ObjWork) (ended first : ℕ) (targets : List NodeId) → zones_for work ≤ length targets
    → length targets ≤ wanted_of (policy_of work) (kind_of (oid_of work)) → HaveCountFor work (messages_of work ended first targets)
count-new (Create oid policy size offset bytes) ended first targets enough most = tt
count-new (Write oid policy offset bytes) ended first targets enough most = tt
count-new (Read oid policy offset size) ended first targets enough most = tt
count-new (ReadAll oid policy size) ended first targets enough most =
    let all : length targets ≡ wanted_of policy (kind_of oid) = omega (arith, enough, most) in
    length-map (enumerate_from first (enumerate_from 0 targets)) (message_for (ReadAll oid policy size))
    ∙ length-enumerate first (enumerate_from 0 targets) ∙ length-enumerate 0 targets ∙ all

pub AreMessagesFor-messages_of : (work : ObjWork) (ended first : ℕ) (targets : List NodeId) → length targets ≤ TARGETS_MAX
    → zones_for work ≤ length targets → length targets ≤ wanted_of (policy_of work) (kind_of (oid_of work))
    → AreMessagesFor work (messages_of work ended first targets)
AreMessagesFor-messages_of work ended first targets few enough most = record {
  numbers = numbers-differ work first (targets_asked work ended targets);
  pieces = pieces-new work work first (targets_asked work ended targets);
  indexes = indexes-new work ended first targets few;
  count = count-new work ended first targets enough most;
}
