-- The value of an object by what all messages of a read of it gave: of whole copies what the first message gave, and of strips what the
-- first messages give together, as many as are needed, which are those of the first indexes.
use Rattle.std.proofs.Common.{◌≡◌, arith, ℕ, zero, suc, ◌+◌, ◌≤◌, Bool, true, All, List, [], ◌∷◌, ◌++◌, length, map}
use Rattle.std.proofs.Common.{flat_map, take, Some, slice_get, refl, sym, ap, ap₂, ◌∙◌}
use Rattle.std.specs.List.{list_all, range_with_len}
use Rattle.std.proofs.lemmas.Bool.{and_parts}
use Rattle.std.proofs.lemmas.List.{length-map, take-map}
use Rattle.std.proofs.lemmas.List.Elements.{All-nil, All-cons}
use Rattle.std.proofs.lemmas.Option.{same_Some}
use Rattle.object_id.specs.declared.entry.VdiSpec.{VdiSpec}
use Rattle.object_id.specs.declared.oid.Kind.TheVariants.{Block}
use Rattle.object_id.specs.declared.policy.Policy.TheVariants.{Copies, Coded}
use Rattle.object_id.specs.Policy.{wanted_of}
use Rattle.gf256.specs.Part.{bytes_of_parts, parts_in}
use Rattle.gf256.proofs.PartLaws.{parts_in-laid}
use Rattle.disk_check.specs.Value.{pieces_in, target_bytes, value_of}
use Rattle.gateway.specs.declared.message.Message.{Message}
use Rattle.gateway.specs.declared.message.Status.{Status}
use Rattle.gateway.specs.declared.message.Status.TheVariants.{Unanswered, Succeeded, Refused, Lost}
use Rattle.gateway.specs.Attempt.{bytes_in, bytes_through, is_success}
use Rattle.gateway.specs.Messages.{HasLength, HaveLength}

-- the part that a message asks for, and what it gave
abbrev pub index_of : Message → ℕ
index_of message = message.index

abbrev pub piece_of : Message → List ℕ
piece_of message = bytes_in message.status

-- what succeeded gave as much as was asked
pub long_piece : (size : ℕ) (status : Status) → is_success status ≡ true → HasLength size status → length (bytes_in status) ≡ size
long_piece size Unanswered is has = absurd (cc (is))
long_piece size (Succeeded bytes) is has = has
long_piece size (Refused refusal) is has = absurd (cc (is))
long_piece size Lost is has = absurd (cc (is))

-- all of some messages succeeded
abbrev pub have_succeeded : List Message → Bool
have_succeeded messages = list_all (λ (message : Message). is_success message.status) messages

pub each_succeeded : (messages : List Message) → have_succeeded messages ≡ true → (place : ℕ) (m : Message)
    → slice_get messages place ≡ Some m → is_success m.status ≡ true
each_succeeded [] all place m at = absurd (cc (at))
each_succeeded (first ∷ later) all zero m at =
    ap (λ (one : Message). is_success one.status) (sym (same_Some first m at))
    ∙ (and_parts (is_success first.status) (have_succeeded later) all).0
each_succeeded (first ∷ later) all (suc place) m at =
    each_succeeded later (and_parts (is_success first.status) (have_succeeded later) all).1 place m at

-- what holds of each of some holds of all of the first of them
pub first_all : (P : Message → Type 0) (n : ℕ) (messages : List Message)
    → ((place : ℕ) (m : Message) → slice_get messages place ≡ Some m → P m) → All P (take n messages)
first_all P zero messages each = All-nil P
first_all P (suc n) [] each = All-nil P
first_all P (suc n) (first ∷ later) each =
    All-cons P first (take n later) (each zero first refl) (first_all P n later (λ place m at. each (suc place) m at))

-- the first of some is there
pub first_there : (messages : List Message) → 1 ≤ length messages → (m : Message) × (slice_get messages 0 ≡ Some m)
first_there [] some = absurd (omega (arith, some))
first_there (first ∷ later) some = (first, refl)

-- ---- the pieces

pieces_long : (size : ℕ) (messages : List Message) → HaveLength size messages → have_succeeded messages ≡ true
    → All (λ (part : List ℕ). length part ≡ size) (map piece_of messages)
pieces_long size [] long all = All-nil (λ (part : List ℕ). length part ≡ size)
pieces_long size (first ∷ later) long all =
    let parts = and_parts (is_success first.status) (have_succeeded later) all in
    All-cons (λ (part : List ℕ). length part ≡ size) (piece_of first) (map piece_of later) (long_piece size first.status parts.0 long.0)
    (pieces_long size later long.1 parts.1)

laid : (messages : List Message) → flat_map piece_of messages ≡ flat_map (λ (part : List ℕ). part) (map piece_of messages)
laid [] = refl
laid (first ∷ later) = ap (λ (rest : List ℕ). piece_of first ++ rest) (laid later)

-- they are cut as they came
pub pieces_came : (spec : VdiSpec) (messages : List Message) → HaveLength (target_bytes spec) messages → have_succeeded messages ≡ true
    → length messages ≡ wanted_of spec.policy Block → pieces_in spec (flat_map piece_of messages) ≡ map piece_of messages
pieces_came spec messages long all count =
    ap₂ (parts_in (target_bytes spec)) (sym count ∙ sym (length-map messages piece_of)) (laid messages)
    ∙ parts_in-laid (target_bytes spec) (map piece_of messages) (pieces_long (target_bytes spec) messages long all)

-- ---- the value

pub copies_value : (copies : ℕ) (messages : List Message) (m : Message) → slice_get messages 0 ≡ Some m
    → value_of (Copies copies) (map piece_of messages) ≡ bytes_in m.status
unfolding bytes_of_parts
copies_value copies [] m at = absurd (cc (at))
copies_value copies (first ∷ later) m at = ap (λ (one : Message). bytes_in one.status) (same_Some first m at)

pub indexes_taken : (from n : ℕ) (messages : List Message) → n ≤ length messages
    → ((place : ℕ) (m : Message) → slice_get messages place ≡ Some m → m.index ≡ from + place)
    → map index_of (take n messages) ≡ range_with_len from n
indexes_taken from zero messages few each = refl
indexes_taken from (suc n) [] few each = absurd (omega (arith, few))
indexes_taken from (suc n) (first ∷ later) few each =
    let at_first : from + 0 ≡ from = omega arith in
    ap₂ ◌∷◌ (each zero first refl ∙ at_first)
    (indexes_taken (from + 1) n later (omega (arith, few)) (λ place m at.
    let next : from + suc place ≡ from + 1 + place = omega arith in
    each (suc place) m at ∙ next))

pub strips_value : (d p : ℕ) (messages : List Message) → map index_of (take d messages) ≡ range_with_len 0 d
    → value_of (Coded d p) (map piece_of messages) ≡ bytes_through (Coded d p) Block (take d messages)
strips_value d p messages indexes = ap₂ (bytes_of_parts (Coded d p) Block) (sym indexes) (take-map piece_of d messages)
