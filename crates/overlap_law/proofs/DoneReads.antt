-- A read of an inode that is done gave the bytes of its one message.
use Rattle.std.proofs.Common.{◌≡◌, arith, ℕ, zero, suc, ◌+◌, ◌-◌, ◌≤◌, ◌==◌, nat_le, Bool, true, false, ◌||◌, cond}
use Rattle.std.proofs.Common.{List, [], ◌∷◌, length, take, drop, slice_get, Some, refl, sym, ap, ◌∙◌}
use Rattle.std.specs.Int.{w32, from_le_bytes}
use Rattle.std.specs.List.{list_any}
use Rattle.std.proofs.lemmas.Bool.{eqb-true, eq-eqb}
use Rattle.std.proofs.lemmas.Option.{same_Some}
use Rattle.object_id.specs.declared.oid.Kind.{Kind}
use Rattle.object_id.specs.declared.oid.Kind.TheVariants.{Block, Inode}
use Rattle.object_id.specs.declared.policy.Policy.{Policy}
use Rattle.object_id.specs.declared.policy.Policy.TheVariants.{Copies, Coded}
use Rattle.object_id.specs.Fields.{u32_at}
use Rattle.object_id.specs.Policy.{need_of}
use Rattle.object_store.specs.Bytes.{piece_at}
use Rattle.gf256.specs.Part.{is_in_strips, bytes_of_parts}
use Rattle.peer_proto.specs.declared.say.PeerSay.{PeerSay}
use Rattle.peer_proto.specs.declared.say.PeerSay.TheVariants as says
use Rattle.gateway.specs.declared.message.Message.{Message}
use Rattle.gateway.specs.declared.message.Status.{Status}
use Rattle.gateway.specs.declared.message.Status.TheVariants as statuses
use Rattle.gateway.specs.Attempt.{is_awaited_message, is_unanswered, successes, status_by, bytes_in, bytes_through}
use Rattle.gateway.specs.Attempt.{messages_with_status, is_done, bytes_given}
use Rattle.gateway.specs.Attempt as gateways
use Rattle.gateway.specs.State.{Work, WorkStage, open_messages}
use Rattle.object_id.specs.Oid.{kind_of}
use Rattle.peer_proto.specs.declared.work.ObjWork.TheVariants as works
use Rattle.sheep_node.specs.declared.course.Course.{Course}
use Rattle.sheep_node.specs.declared.input.Input.{Input}
use Rattle.sheep_node.specs.Changes.{EndsWork}
use Rattle.sheep_node.specs.State.{Node}
use Rattle.sheep_node.specs.StepState.{StepState}
use Rattle.overlap_law.specs.ToldPieces.{IsUnansweredOf}

-- ---- a read of an inode that is done

-- a message of a number that is awaited
abbrev pub AwaitedAt : ℕ → List Message → Type 0
AwaitedAt number messages =
    (place : ℕ) × (m : Message) × (slice_get messages place ≡ Some m) × (m.number ≡ number) × (m.status ≡ statuses.Unanswered)

is_so : (status : Status) → is_unanswered status ≡ true → status ≡ statuses.Unanswered
is_so statuses.Unanswered is = refl
is_so (statuses.Succeeded bytes) is = absurd (cc (is))
is_so (statuses.Refused refusal) is = absurd (cc (is))
is_so statuses.Lost is = absurd (cc (is))

pub awaited_at : (number : ℕ) (messages : List Message) → list_any (is_awaited_message number) messages ≡ true → AwaitedAt number messages
awaited_at number [] awaits = absurd (cc (awaits))
awaited_at number (first ∷ messages) awaits = by_first (first.number == number) refl awaits (λ there. awaited_at number messages there)
  where
    later : AwaitedAt number messages → AwaitedAt number (first ∷ messages)
    later (place, m, at, number_so, unanswered) = (suc place, m, at, number_so, unanswered)

    by_status : (b : Bool) → is_unanswered first.status ≡ b → (first.number == number) ≡ true
        → (b || list_any (is_awaited_message number) messages) ≡ true
        → (list_any (is_awaited_message number) messages ≡ true → AwaitedAt number messages) → AwaitedAt number (first ∷ messages)
    by_status true is tie there others = (0, first, refl, eqb-true first.number number tie, is_so first.status is)
    by_status false is tie there others = later (others there)

    by_first : (b : Bool) → (first.number == number) ≡ b
        → (cond b (is_unanswered first.status) false || list_any (is_awaited_message number) messages) ≡ true
        → (list_any (is_awaited_message number) messages ≡ true → AwaitedAt number messages) → AwaitedAt number (first ∷ messages)
    by_first true tie there others = by_status (is_unanswered first.status) refl tie there others
    by_first false tie there others = later (others there)

-- the only one
pub only_one : (messages : List Message) (place : ℕ) (m : Message) → length messages ≤ 1 → slice_get messages place ≡ Some m
    → messages ≡ m ∷ []
only_one [] place m few got = absurd (cc (got))
only_one (first ∷ []) zero m few got = ap (λ (one : Message). one ∷ []) (same_Some first m got)
only_one (first ∷ []) (suc place) m few got = absurd (cc (got))
only_one (first ∷ next ∷ messages) place m few got = absurd (omega (arith, few))

pub marked_one : (number : ℕ) (status : Status) (m : Message) → m.number ≡ number
    → messages_with_status number status (m ∷ []) ≡ record m { status = status } ∷ []
marked_one number status m same =
    ap (λ (b : Bool). cond b (record m { status = status }) m ∷ []) (eq-eqb m.number number same)

-- a read of whole copies gives what its message did
copy_gives : (policy : Policy) (kind : Kind) → is_in_strips policy kind ≡ false → (m : Message) (status : Status) (bytes : List ℕ)
    → nat_le (need_of policy kind) (length (successes (record m { status = status } ∷ []))) ≡ true
    → bytes_through policy kind (take (need_of policy kind) (successes (record m { status = status } ∷ []))) ≡ bytes
    → status ≡ statuses.Succeeded bytes
unfolding bytes_of_parts
copy_gives (Copies copies) kind whole m statuses.Unanswered bytes done given = absurd (cc (done))
copy_gives (Copies copies) kind whole m (statuses.Succeeded piece) bytes done given = ap statuses.Succeeded given
copy_gives (Copies copies) kind whole m (statuses.Refused refusal) bytes done given = absurd (cc (done))
copy_gives (Copies copies) kind whole m statuses.Lost bytes done given = absurd (cc (done))
copy_gives (Coded d p) Block whole m status bytes done given = absurd (cc (whole))
copy_gives (Coded d p) Inode whole m statuses.Unanswered bytes done given = absurd (cc (done))
copy_gives (Coded d p) Inode whole m (statuses.Succeeded piece) bytes done given = ap statuses.Succeeded given
copy_gives (Coded d p) Inode whole m (statuses.Refused refusal) bytes done given = absurd (cc (done))
copy_gives (Coded d p) Inode whole m statuses.Lost bytes done given = absurd (cc (done))

-- of a work that ends as its node is told of a message, that was awaited
module _ {input : Input} {node : Node} {so_far : StepState} {session req number : ℕ} {work : Work} {attempt : gateways.Attempt}
    {status : Status} {course : Course} {bytes : List ℕ}
    (ends : EndsWork input node so_far session req number work attempt status course bytes) where
  pub awaited_by : AwaitedAt number attempt.messages
  awaited_by =
      awaited_at number attempt.messages
      (sym (ap (λ (stage : WorkStage). list_any (is_awaited_message number) (open_messages stage)) ends.ends.learns.open_so)
      ∙ ends.ends.learns.awaited)

  pub unanswered_by : IsUnansweredOf so_far.node.gateway.works req work attempt awaited_by.0 awaited_by.1
  unanswered_by = record {
    there = ends.ends.learns.there;
    stage = ends.ends.learns.open_so;
    at = awaited_by.2;
    unanswered = awaited_by.4;
  }

  -- and gave the bytes of a read of whole copies, if it was the only one
  pub gave_by : (oid : ℕ) (policy : Policy) (offset size : ℕ) → work.work ≡ works.Read oid policy offset size
      → is_in_strips policy (kind_of oid) ≡ false → length attempt.messages ≤ 1 → status ≡ statuses.Succeeded bytes
  gave_by oid policy offset size is_read whole few =
      let m : Message = awaited_by.1 in
      let only : messages_with_status number status attempt.messages ≡ record m { status = status } ∷ []
      = ap (messages_with_status number status) (only_one attempt.messages awaited_by.0 m few awaited_by.2)
      ∙ marked_one number status m awaited_by.3 in
      copy_gives policy (kind_of oid) whole m status bytes
      (sym (λ i. is_done (is_read i) (only i)) ∙ ends.done) (sym (λ i. bytes_given (is_read i) (only i)) ∙ ends.given)

-- an inode is kept in copies
pub inode_whole : (policy : Policy) (kind : Kind) → kind ≡ Inode → is_in_strips policy kind ≡ false
inode_whole policy Block is = absurd (cc (is))
inode_whole (Copies copies) Inode is = refl
inode_whole (Coded d p) Inode is = refl

-- what tells of bytes is a piece
pub piece_told : (say : PeerSay) (bytes : List ℕ) → 1 ≤ length bytes → status_by say ≡ statuses.Succeeded bytes → say ≡ says.Piece bytes
piece_told says.Success bytes some is =
    let none : [] ≡ bytes = ap (λ (s : Status). bytes_in s) is in
    let long = ap (λ (xs : List ℕ). length xs) none in
    absurd (omega (arith, long, some))
piece_told (says.Piece piece) bytes some is = ap (λ (s : Status). says.Piece (bytes_in s)) is
piece_told (says.Objects oids) bytes some is = absurd (cc (is))
piece_told (says.Row row) bytes some is = absurd (cc (is))
piece_told says.NoRow bytes some is = absurd (cc (is))
piece_told (says.Refused refusal) bytes some is = absurd (cc (is))

take_twice : (n : ℕ) (xs : List ℕ) → take n (take n xs) ≡ take n xs
take_twice zero xs = refl
take_twice (suc n) [] = refl
take_twice (suc n) (x ∷ xs) = ap (λ (ys : List ℕ). x ∷ ys) (take_twice n xs)

-- the number at a place is that of the four bytes there
pub number_in_piece : (bytes : List ℕ) (from : ℕ) → u32_at 0 (piece_at bytes from 4) ≡ u32_at from bytes
number_in_piece bytes from =
    let width : from + 4 - from ≡ 4 = omega arith in
    ap (from_le_bytes w32) (take_twice 4 (drop from bytes) ∙ ap (λ (n : ℕ). take n (drop from bytes)) (sym width))
