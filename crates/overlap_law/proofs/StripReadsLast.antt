-- The last made attempt that covers a block of an object in strips is a base of it, if what the block may come to be read as is one, and is
-- bytes.
use Rattle.std.proofs.Common.{◌≡◌, ◌⊎◌, inl, inr, arith, ℕ, zero, suc, ◌+◌, ◌≤◌, ◌<◌, ◌==◌, ◌&&◌, not, Bool, true, false, List, [], ◌∷◌}
use Rattle.std.proofs.Common.{length, Some, slice_get, refl, sym, ap, ◌∙◌}
use Rattle.std.specs.List.{list_all, list_any}
use Rattle.std.proofs.lemmas.Bool.{and_parts, eq-eqb, eqb-true, or_left}
use Rattle.std.proofs.lemmas.Option.{same_Some}
use Rattle.object_id.specs.declared.oid.Kind.{Kind}
use Rattle.object_id.specs.declared.oid.Kind.TheVariants.{Block}
use Rattle.object_id.specs.declared.policy.Policy.{Policy}
use Rattle.object_id.specs.declared.entry.Entry.{Entry}
use Rattle.object_id.specs.Fields.{AreBytes}
use Rattle.object_id.specs.Oid.{kind_of}
use Rattle.gf256.specs.Part.{part}
use Rattle.gf256.specs.Strip.{IsBlock}
use Rattle.vdi_directory.specs.Decisions.{log_effects}
use Rattle.peer_proto.specs.Work.{policy_of, oid_of}
use Rattle.overlap_law.specs.Attempts.{AttemptRecord, MessageFate, object_of, attempts_on}
use Rattle.overlap_law.specs.Each.{policy_in}
use Rattle.overlap_law.specs.Fates.{AttemptsAreShaped, FatesAreOfTheWire}
use Rattle.overlap_law.specs.Holders.{targets_by}
use Rattle.overlap_law.specs.Packets.{Wire}
use Rattle.overlap_law.specs.StripReadsBases.{IsStripBase}
use Rattle.overlap_law.specs.ToCome.{IsToCome}
use Rattle.overlap_law.specs.Units.{bytes_by, covers_unit, unit_part_by}
use Rattle.overlap_law.specs.Words.{Hosts, is_made, is_mute, is_served}
use Rattle.overlap_law.specs.WorksOfAttempts.{AttemptsAreOfWorks}
use Rattle.overlap_law.proofs.Candidates.{heard_stands}
use Rattle.overlap_law.proofs.FilteredOrder.{StandsAmongAll, filter-there, stands_among_all}
use Rattle.overlap_law.proofs.FoundReadings.{long_block, policy_is}
use Rattle.overlap_law.proofs.KeptLists.{wanted_some}
use Rattle.overlap_law.proofs.LastAttempts.{IsLast, last_there}

-- who was served by all was served by some
made_heard : (fates : List MessageFate) → 1 ≤ length fates → list_all is_served fates ≡ true → not (list_any is_served fates) ≡ false
made_heard [] some all = absurd (omega (arith, some))
made_heard (fate ∷ fates) some all =
    let parts = and_parts (is_served fate) (list_all is_served fates) all in
    ap not (or_left (is_served fate) (list_any is_served fates) parts.0)

both_so : (a b : Bool) → a ≡ true → b ≡ true → (a && b) ≡ true
both_so true b is so = so
both_so false b is so = absurd (cc (is))

unmade : (a b : Bool) → a ≡ true → (a && b) ≡ false → b ≡ false
unmade true b is none = none
unmade false b is none = absurd (cc (is))

-- a made attempt was served by some target
pub made_is_heard : (log : List Entry) (wire : Wire) (attempts : List AttemptRecord) → FatesAreOfTheWire wire attempts
    → AttemptsAreShaped (targets_by log) log attempts → AttemptsAreOfWorks attempts → (j : ℕ) (attempt : AttemptRecord)
    → slice_get attempts j ≡ Some attempt → is_made attempt ≡ true → is_mute attempt ≡ false
made_is_heard log wire attempts fates shape works j attempt at made =
    let whole = fates.whole j attempt at in
    let wanted = shape.wanted j attempt at in
    let some = wanted_some (policy_of attempt.work) (kind_of (object_of attempt)) (policy_is attempt.work (works.each j attempt at)) in
    made_heard attempt.fates (omega (arith, whole, wanted, some)) made

module _ (log : List Entry) (hosts : Hosts) (wire : Wire) (attempts : List AttemptRecord) (fates : FatesAreOfTheWire wire attempts)
    (shape : AttemptsAreShaped (targets_by log) log attempts) (works : AttemptsAreOfWorks attempts) (oid : ℕ) (policy : Policy)
    (known : policy_in (log_effects log) oid ≡ Some policy) (kind_so : kind_of oid ≡ Block) (unit : ℕ)
    (alike : (i k : ℕ) (one two : AttemptRecord) → IsToCome hosts attempts oid unit i one → IsToCome hosts attempts oid unit k two
    → bytes_by unit one.work ≡ bytes_by unit two.work)
    (of_bytes : (i : ℕ) (one : AttemptRecord) → IsToCome hosts attempts oid unit i one → AreBytes (bytes_by unit one.work)) where
  -- an attempt on the object
  module _ (j : ℕ) (attempt : AttemptRecord) (at : slice_get (attempts_on oid attempts) j ≡ Some attempt) where
    stood : StandsAmongAll (λ (a : AttemptRecord). object_of a == oid) attempts (attempts_on oid attempts) j attempt
    stood = stands_among_all (λ (a : AttemptRecord). object_of a == oid) attempts j attempt at

    object_so : object_of attempt ≡ oid
    object_so = eqb-true (object_of attempt) oid stood.passed

    policy_here : policy_of attempt.work ≡ policy
    policy_here =
        same_Some (policy_of attempt.work) policy
        (sym (shape.policy stood.place attempt stood.there) ∙ ap (λ (o : ℕ). policy_in (log_effects log) o) object_so ∙ known)

  -- the last made one that covers the block
  module _ (base : AttemptRecord)
      (final : IsLast (λ (a : AttemptRecord). covers_unit unit a && is_made a) (attempts_on oid attempts) base) where
    parts : (covers_unit unit base ≡ true) × (is_made base ≡ true)
    parts = and_parts (covers_unit unit base) (is_made base) final.passed

    heard : is_mute base ≡ false
    heard =
        let of = stood final.place base final.there in
        made_is_heard log wire attempts fates shape works of.place base of.there parts.1

    -- by one that stands no earlier and was served the block is to come
    comes : (k : ℕ) (one : AttemptRecord) → slice_get (attempts_on oid attempts) k ≡ Some one → final.place ≤ k
        → covers_unit unit one ≡ true → is_mute one ≡ false → (place : ℕ) × IsToCome hosts attempts oid unit place one
    comes k one at least covers served =
        let of = stood k one at in (
          of.place,
          record {
            there = of.there;
            object = object_so k one at;
            covers = covers;
            stands = heard_stands hosts one (fates.whole of.place one of.there) served;
            last = λ later_place later later_at behind later_object later_covers.
                let (b, b_at, b_behind) = of.later later_place later later_at behind (eq-eqb (object_of later) oid later_object) in
                unmade (covers_unit unit later) (is_made later) later_covers (final.none b later b_at (omega (arith, least, b_behind)));
          },
        )

    abbrev IsLikeIt : AttemptRecord → Type 0
    IsLikeIt later =
        (is_mute later ≡ true) ⊎ ((index : ℕ) → unit_part_by index unit later.work ≡ unit_part_by index unit base.work)

    -- so each behind it is mute, or has its bytes
    alike_behind : (k : ℕ) (later : AttemptRecord) → slice_get (attempts_on oid attempts) k ≡ Some later → final.place < k
        → covers_unit unit later ≡ true → IsLikeIt later
    alike_behind k later at less covers = by_mute (is_mute later) refl
      where
        by_mute : (b : Bool) → is_mute later ≡ b → IsLikeIt later
        by_mute true mute = inl mute
        by_mute false served =
            let (i, comes_base) = comes final.place base final.there (omega arith) parts.0 heard in
            let (l, comes_later) = comes k later at (omega (arith, less)) covers served in
            let same : bytes_by unit later.work ≡ bytes_by unit base.work = alike l i later base comes_later comes_base in
            let one_policy : policy_of later.work ≡ policy_of base.work
            = policy_here k later at ∙ sym (policy_here final.place base final.there) in
            let one_object : object_of later ≡ object_of base = object_so k later at ∙ sym (object_so final.place base final.there) in
            inr (λ index. λ i. part (one_policy i) (kind_of (one_object i)) index (same i))

    strip_base : IsStripBase (attempts_on oid attempts) unit final.place base
    strip_base = record {
      there = final.there;
      covers = parts.0;
      made = parts.1;
      served = heard;
      last = λ k later at less covers. unmade (covers_unit unit later) (is_made later) covers (final.none k later at less);
      quiet = record { each = λ k later at less covers. alike_behind k later at less covers };
      block = block_so;
    }
      where
        kind_here : kind_of (object_of base) ≡ Block
        kind_here = ap kind_of (object_so final.place base final.there) ∙ kind_so

        block_so : IsBlock (bytes_by unit base.work)
        block_so =
            let of = stood final.place base final.there in
            let (i, comes_base) = comes final.place base final.there (omega arith) parts.0 heard in (
              of_bytes i base comes_base,
              long_block unit base.work (works.each of.place base of.there) parts.0 kind_here,
            )

  -- so where one was made there is a base
  pub has_base : (k : ℕ) (made : AttemptRecord) → slice_get attempts k ≡ Some made → object_of made ≡ oid → covers_unit unit made ≡ true
      → is_made made ≡ true → (j : ℕ) × (base : AttemptRecord) × IsStripBase (attempts_on oid attempts) unit j base
  has_base k made at object covers is =
      let own = filter-there (λ (a : AttemptRecord). object_of a == oid) attempts k made at (eq-eqb (object_of made) oid object) in
      let (base, final) = last_there (λ (a : AttemptRecord). covers_unit unit a && is_made a) (attempts_on oid attempts) own.0 made own.1
      (both_so (covers_unit unit made) (is_made made) covers is) in
      (final.place, base, strip_base base final)
