-- The messages of an attempt as it begins: their numbers, their indexes, and the targets that they go to.
use Rattle.std.proofs.Common.{◌≡◌, arith, ℕ, zero, suc, ◌+◌, Bool, true, List, [], ◌∷◌, map, Contains, Some, slice_get, refl, sym, ap, ◌∙◌}
use Rattle.std.specs.List.{enumerate_from}
use Rattle.std.proofs.lemmas.Option.{same_Some}
use Rattle.proof_tools.proofs.Lists.{Contains-first, Contains-cons}
use Rattle.object_id.specs.declared.node.NodeId.{NodeId}
use Rattle.object_id.specs.Oid.{kind_of}
use Rattle.gf256.specs.Part.{index_at}
use Rattle.peer_proto.specs.Work.{oid_of, policy_of}
use Rattle.peer_proto.specs.declared.work.ObjWork.{ObjWork}
use Rattle.peer_proto.specs.declared.work.ObjWork.TheVariants as obj_works
use Rattle.gateway.specs.declared.message.Message.{Message}
use Rattle.gateway.specs.Work.{asks_all, is_making, read_from, targets_asked}
use Rattle.gateway.specs.Attempt.{message_for}

-- the message at a place
pub record IsMessageAt (work : ObjWork) (number at : ℕ) (message : Message) : Type 0 where
  pub number_so : message.number ≡ number
  pub index_so : message.index ≡ index_at (policy_of work) (kind_of (oid_of work)) at

pub message_at_place : (work : ObjWork) (first from : ℕ) (targets : List NodeId) (place : ℕ) (message : Message)
    → slice_get (map (message_for work) (enumerate_from first (enumerate_from from targets))) place ≡ Some message
    → IsMessageAt work (first + place) (from + place) message
message_at_place work first from [] place message got = absurd (cc (got))
message_at_place work first from (target ∷ targets) zero message got =
    let same = same_Some (message_for work (first, (from, target))) message got in
    let one : first ≡ first + 0 = omega arith in
    let two : from ≡ from + 0 = omega arith in
    record {
      number_so = sym (ap (λ (m : Message). m.number) same) ∙ one;
      index_so = sym (ap (λ (m : Message). m.index) same) ∙ ap (index_at (policy_of work) (kind_of (oid_of work))) two;
    }
message_at_place work first from (target ∷ targets) (suc place) message got =
    let later = message_at_place work (first + 1) (from + 1) targets place message got in
    let one : (first + 1) + place ≡ first + suc place = omega arith in
    let two : (from + 1) + place ≡ from + suc place = omega arith in
    record { number_so = later.number_so ∙ one; index_so = later.index_so ∙ ap (index_at (policy_of work) (kind_of (oid_of work))) two }

-- a create or write asks each target
pub targets-of_making : (work : ObjWork) (ended : ℕ) (targets : List NodeId) → is_making work ≡ true
    → targets_asked work ended targets ≡ enumerate_from 0 targets
targets-of_making (obj_works.Create oid policy size offset bytes) ended targets making = refl
targets-of_making (obj_works.Write oid policy offset bytes) ended targets making = refl
targets-of_making (obj_works.Read oid policy offset size) ended targets making = absurd (cc (making))
targets-of_making (obj_works.ReadAll oid policy size) ended targets making = absurd (cc (making))

-- so does each work that asks all
pub targets-of_all : (work : ObjWork) (ended : ℕ) (targets : List NodeId) → asks_all work ≡ true
    → targets_asked work ended targets ≡ enumerate_from 0 targets
targets-of_all (obj_works.Create oid policy size offset bytes) ended targets all = refl
targets-of_all (obj_works.Write oid policy offset bytes) ended targets all = refl
targets-of_all (obj_works.Read oid policy offset size) ended targets all =
    ap (λ (b : Bool). read_from b ended (enumerate_from 0 targets)) all
targets-of_all (obj_works.ReadAll oid policy size) ended targets all = refl

pub contains_at : {X : Type 0} (xs : List X) (place : ℕ) (x : X) → slice_get xs place ≡ Some x → Contains xs x
contains_at [] place x got = absurd (cc (got))
contains_at (y ∷ xs) zero x got = Contains-first y x xs (same_Some y x got)
contains_at (y ∷ xs) (suc place) x got = Contains-cons y xs x (contains_at xs place x got)
