-- What both readings of a row's bytes have in common: bytes that are those of a served attempt may be read as of it and of each earlier
-- one, and what may be read so may be read so later, as attempts begin and fates are told.
use Rattle.std.proofs.Common.{◌≡◌, inl, inr, ⊎_elim, arith, ℕ, ◌≤◌, ◌<◌, Bool, true, false, List, Some, slice_get, refl, sym, ap, ◌∙◌}
use Rattle.std.proofs.lemmas.Bool.{cases_lt}
use Rattle.std.proofs.lemmas.Option.{same_Some}
use Rattle.overlap_law.specs.Attempts.{AttemptRecord, MessageFate}
use Rattle.overlap_law.specs.Words.{is_mute, covers_unit, unit_part_by}
use Rattle.overlap_law.specs.Since.{Reading, IsCopyFrom, IsStripOf, reading_by}

-- each attempt stands at its place still, but for its fates, and one of which nothing is served now had nothing served before
pub record AttemptsGrow (attempts later : List AttemptRecord) : Type 0 where
  pub stays : (j : ℕ) (was : AttemptRecord) → slice_get attempts j ≡ Some was → (fates : List MessageFate)
      × (slice_get later j ≡ Some (record was { fates = fates })) × (is_mute (record was { fates = fates }) ≡ true → is_mute was ≡ true)

-- what is asked of a reading
pub record IsReading (Reads : Reading) : Type 0 where
  pub served : (attempts : List AttemptRecord) (unit j k index : ℕ) (attempt : AttemptRecord) → slice_get attempts k ≡ Some attempt → j ≤ k
      → covers_unit unit attempt ≡ true → is_mute attempt ≡ false → Reads attempts unit j index (unit_part_by index unit attempt.work)
  pub later : (attempts more : List AttemptRecord) → AttemptsGrow attempts more → (unit j index : ℕ) (bytes : List ℕ) (was : AttemptRecord)
      → slice_get attempts j ≡ Some was → Reads attempts unit j index bytes → Reads more unit j index bytes

-- one that was served by then was so before
not_mute : (was : AttemptRecord) (fates : List MessageFate) → (is_mute (record was { fates = fates }) ≡ true → is_mute was ≡ true)
    → is_mute was ≡ false → is_mute (record was { fates = fates }) ≡ false
not_mute was fates muter served = by_test (is_mute (record was { fates = fates })) refl
  where
    by_test : (b : Bool) → is_mute (record was { fates = fates }) ≡ b → b ≡ false
    by_test true mute = let earlier = muter mute in absurd (cc (earlier, served))
    by_test false loud = refl

copies_read : IsReading IsCopyFrom
copies_read = record {
  served = λ attempts unit j k index attempt there before covers loud.
      record { place = k; attempt = attempt; there = there; no_earlier = before; covering = covers; served = loud; same = refl };
  later = λ attempts more grow unit j index bytes was there read.
      let (fates, now, muter) = grow.stays read.place read.attempt read.there in
      record {
        place = read.place;
        attempt = record read.attempt { fates = fates };
        there = now;
        no_earlier = read.no_earlier;
        covering = read.covering;
        served = not_mute read.attempt fates muter read.served;
        same = read.same;
      };
}

strips_read : IsReading IsStripOf
strips_read = record {
  served = λ attempts unit j k index attempt there before covers loud. record {
    own = λ own own_there quiet. ⊎_elim
        (λ (less : j < k). ⊎_elim
        (λ (silent : is_mute attempt ≡ true). absurd (cc (silent, loud)))
        (λ (alike : (part : ℕ) → unit_part_by part unit attempt.work ≡ unit_part_by part unit own.work). alike index)
        (quiet.each k attempt there less covers))
        (λ (most : k ≤ j).
        let same : k ≡ j = omega (arith, before, most) in
        ap (λ (a : AttemptRecord). unit_part_by index unit a.work)
        (same_Some attempt own (sym there ∙ ap (slice_get attempts) same ∙ own_there)))
        (cases_lt j k);
  };
  later = λ attempts more grow unit j index bytes was there read. record {
    own = λ own own_there quiet.
        let (fates, now, muter) = grow.stays j was there in
        let same : record was { fates = fates } ≡ own = same_Some (record was { fates = fates }) own (sym now ∙ own_there) in
        read.own was there (record {
          each = λ k later at less covers.
              let (told, there_now, muted) = grow.stays k later at in
              ⊎_elim
              (λ (silent : is_mute (record later { fates = told }) ≡ true). inl (muted silent))
              (λ (alike : (part : ℕ) → unit_part_by part unit later.work ≡ unit_part_by part unit own.work).
              inr (λ part. alike part ∙ ap (λ (a : AttemptRecord). unit_part_by part unit a.work) (sym same)))
              (quiet.each k (record later { fates = told }) there_now less covers);
        })
        ∙ ap (λ (a : AttemptRecord). unit_part_by index unit a.work) same;
  };
}

-- both of them
pub readings : (strips : Bool) → IsReading (reading_by strips)
readings true = strips_read
readings false = copies_read
