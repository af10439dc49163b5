-- The parts that messages gave, and the bytes of them.
use Rattle.std.proofs.Common.{◌≡◌, ℕ, zero, suc, ◌+◌, ◌*◌, ◌≤◌, Bool, true, false, cond, List, [], ◌∷◌, ◌++◌, length, take, map, flat_map, All, refl, sym, ap, ap₂, subst, ◌∙◌, arith}
use Rattle.std.proofs.lemmas.List.{length-append}
use Rattle.std.proofs.lemmas.List.Elements.{All-nil, All-cons}
use Rattle.object_id.specs.declared.oid.Kind.{Kind}
use Rattle.object_id.specs.declared.policy.Policy.{Policy}
use Rattle.object_id.specs.Policy.{need_of}
use Rattle.gf256.specs.Part.{part_size, parts_in, bytes_of_parts}
use Rattle.gf256.specs.Polynomial.{ArePoints}
use Rattle.gf256.proofs.Points.{Avoids, Points, points_from, points_to}
use Rattle.gf256.proofs.PartLaws.{parts_in-laid}
use Rattle.gateway.specs.declared.message.Message.{Message}
use Rattle.gateway.specs.declared.message.Status.{Status}
use Rattle.gateway.specs.declared.message.Status.TheVariants.{Unanswered, Succeeded, Refused, Lost}
use Rattle.gateway.specs.Attempt.{is_success, bytes_in, successes, bytes_through}
use Rattle.gateway.specs.Messages.{HasLength, HaveLength}

abbrev pub index_of : Message → ℕ
index_of message = message.index

abbrev pub piece_of : Message → List ℕ
piece_of message = bytes_in message.status

-- ---- indexes of some messages differ, where those of all do

avoids-kept : (p : ℕ) (messages : List Message) → Avoids p (map index_of messages) → Avoids p (map index_of (successes messages))
avoids-kept p [] avoids = tt
avoids-kept p (message ∷ messages) avoids = by_test (is_success message.status) (avoids-kept p messages avoids.1)
  where
    by_test : (b : Bool) → Avoids p (map index_of (successes messages))
        → Avoids p (map index_of (cond b (message ∷ successes messages) (successes messages)))
    by_test true rest = (avoids.0, rest)
    by_test false rest = rest

points-kept : (messages : List Message) → Points (map index_of messages) → Points (map index_of (successes messages))
points-kept [] points = tt
points-kept (message ∷ messages) points = by_test (is_success message.status) (points-kept messages points.2)
  where
    by_test : (b : Bool) → Points (map index_of (successes messages))
        → Points (map index_of (cond b (message ∷ successes messages) (successes messages)))
    by_test true rest = (points.0, avoids-kept message.index messages points.1, rest)
    by_test false rest = rest

avoids-taken : (p n : ℕ) (messages : List Message) → Avoids p (map index_of messages) → Avoids p (map index_of (take n messages))
avoids-taken p zero messages avoids = tt
avoids-taken p (suc n) [] avoids = tt
avoids-taken p (suc n) (message ∷ messages) avoids = (avoids.0, avoids-taken p n messages avoids.1)

points-taken : (n : ℕ) (messages : List Message) → Points (map index_of messages) → Points (map index_of (take n messages))
points-taken zero messages points = tt
points-taken (suc n) [] points = tt
points-taken (suc n) (message ∷ messages) points = (points.0, avoids-taken message.index n messages points.1, points-taken n messages points.2)

pub points-first : (n : ℕ) (messages : List Message) → ArePoints (map index_of messages) → ArePoints (map index_of (take n (successes messages)))
points-first n messages are =
    points_to (map index_of (take n (successes messages))) (points-taken n (successes messages) (points-kept messages (points_from (map index_of messages) are)))

-- ---- the pieces that came are of one length

abbrev pub AllLong : ℕ → List Message → Type 0
AllLong size [] = Unit {0}
AllLong size (message ∷ messages) = (length (piece_of message) ≡ size) × AllLong size messages

pub long-piece : (size : ℕ) (status : Status) → is_success status ≡ true → HasLength size status → length (bytes_in status) ≡ size
long-piece size Unanswered is has = absurd (cc (is))
long-piece size (Succeeded bytes) is has = has
long-piece size (Refused refusal) is has = absurd (cc (is))
long-piece size Lost is has = absurd (cc (is))

pub long-kept : (size : ℕ) (messages : List Message) → HaveLength size messages → AllLong size (successes messages)
long-kept size [] all = tt
long-kept size (message ∷ messages) all = by_test (is_success message.status) refl (long-kept size messages all.1)
  where
    by_test : (b : Bool) → is_success message.status ≡ b → AllLong size (successes messages)
        → AllLong size (cond b (message ∷ successes messages) (successes messages))
    by_test true is rest = (long-piece size message.status is all.0, rest)
    by_test false is rest = rest

pub long-taken : (size n : ℕ) (messages : List Message) → AllLong size messages → AllLong size (take n messages)
long-taken size zero messages all = tt
long-taken size (suc n) [] all = tt
long-taken size (suc n) (message ∷ messages) all = (all.0, long-taken size n messages all.1)

pub length-pieces : (size : ℕ) (messages : List Message) → AllLong size messages → length (flat_map piece_of messages) ≡ length messages * size
length-pieces size [] all = grind arith
length-pieces size (message ∷ messages) all =
    let rest : length (flat_map piece_of messages) ≡ length messages * size = length-pieces size messages all.1 in
    length-append (piece_of message) (flat_map piece_of messages) ∙ ap₂ ◌+◌ all.0 rest ∙ grind arith

pub length-taken : (n : ℕ) (messages : List Message) → n ≤ length messages → length (take n messages) ≡ n
length-taken zero messages few = refl
length-taken (suc n) [] few = absurd (omega (arith, few))
length-taken (suc n) (message ∷ messages) few = ap suc (length-taken n messages (omega (arith, few)))

pub length-first : (size n : ℕ) (messages : List Message) → HaveLength size messages → n ≤ length (successes messages)
    → length (flat_map piece_of (take n (successes messages))) ≡ n * size
length-first size n messages all enough =
    length-pieces size (take n (successes messages)) (long-taken size n (successes messages) (long-kept size messages all))
    ∙ ap (λ k. k * size) (length-taken n (successes messages) enough)

-- ---- the bytes of the parts, laid one behind the other, are those of the messages

all-long : (size : ℕ) (messages : List Message) → AllLong size messages → All (λ (part : List ℕ). length part ≡ size) (map piece_of messages)
all-long size [] all = All-nil (λ (part : List ℕ). length part ≡ size)
all-long size (message ∷ messages) all =
    All-cons (λ (part : List ℕ). length part ≡ size) (piece_of message) (map piece_of messages) all.0 (all-long size messages all.1)

flat-map : (messages : List Message) → flat_map piece_of messages ≡ flat_map (λ (part : List ℕ). part) (map piece_of messages)
flat-map [] = refl
flat-map (message ∷ messages) = ap (λ rest. piece_of message ++ rest) (flat-map messages)

length-mapped : (messages : List Message) → length (map piece_of messages) ≡ length messages
length-mapped [] = refl
length-mapped (message ∷ messages) = ap suc (length-mapped messages)

cut-again : (size n : ℕ) (messages : List Message) → AllLong size messages → length messages ≡ n
    → parts_in size n (flat_map piece_of messages) ≡ map piece_of messages
cut-again size n messages all count =
    ap₂ (parts_in size) (sym count ∙ sym (length-mapped messages)) (flat-map messages)
    ∙ parts_in-laid size (map piece_of messages) (all-long size messages all)

pub joined-is : (policy : Policy) (kind : Kind) (size long : ℕ) (messages : List Message) (indexes bytes : List ℕ) → long ≡ size
    → HaveLength (part_size policy kind size) messages → need_of policy kind ≤ length (successes messages)
    → indexes ≡ map index_of (take (need_of policy kind) (successes messages))
    → bytes ≡ flat_map piece_of (take (need_of policy kind) (successes messages))
    → bytes_of_parts policy kind indexes (parts_in (part_size policy kind long) (need_of policy kind) bytes)
    ≡ bytes_through policy kind (take (need_of policy kind) (successes messages))
joined-is policy kind size long messages indexes bytes whole all enough i b =
    let need : ℕ = need_of policy kind in
    let first : List Message = take need (successes messages) in
    let each : AllLong (part_size policy kind size) first
    = long-taken (part_size policy kind size) need (successes messages) (long-kept (part_size policy kind size) messages all) in
    ap₂ (bytes_of_parts policy kind) i
    (ap₂ (λ (n : ℕ) (bs : List ℕ). parts_in (part_size policy kind n) need bs) whole b
    ∙ cut-again (part_size policy kind size) need first each (length-taken need (successes messages) enough))
