-- Each index adds its place where it is new.
use Rattle.std.proofs.Common.{◌≡◌, ◌≢◌, ℕ, ◌+◌, ◌<◌, ◌≤◌, ◌∙◌, sym, ap, refl, arith, length, set, map, get_or}
use Rattle.std.specs.Prelude.{slice_index}
use Rattle.strip_coding.specs.Choice.{distinct_places}
use Rattle.strip_coding.proofs.ChoiceLaws.{IsOneMore, one_seen, one_new, chosen_at, enough_at, few_at_end}
use Rattle.strip_coding.proofs.choice.choose.Goals as goal
use Rattle.strip_coding.proofs.choice.choose.Goals.{then-not-contains+else-count-d, else-not-contains}

below : (n d : ℕ) → n < d → n + 1 ≢ d → n + 1 < d
below n d h e = omega arith

pub loop-place-preserved : goal.loop-place-preserved
loop-place-preserved c =
    elim c.if-not-contains.branch [
      | then-not-contains+else-count-d w ↦
          let more = one_new c.args.d c.loop-place.count c.loop-place.points c.loop-place.places c.loop-place.place
          c.args.indexes.now c.requires.most c.loop-place-test.true c.loop-place.invariant
          (sym w.if-not-contains.ensures.value) in
          rw (w.count-is, w.points-is, w.places-is)
          (record {
            fewer = below c.loop-place.count c.args.d c.loop-place.invariant.fewer w.if-count-d.false;
            of_points = more.of_points;
            of_places = more.of_places;
            chosen = more.chosen;
            pointed = more.pointed;
          })
      | else-not-contains w ↦
          rw (w.count-is, w.points-is, w.places-is)
          (one_seen c.args.d c.loop-place.count c.loop-place.points c.loop-place.places c.loop-place.place
          c.args.indexes.now c.requires.most c.loop-place-test.true c.loop-place.invariant
          (sym w.if-not-contains.ensures.value))
    ]

pub returns-clause-few : goal.returns-clause-few
returns-clause-few c =
    let i = c.loop-place.invariant in
    let fewer = i.fewer in
    let e : length (distinct_places c.args.indexes.now) ≡ c.loop-place.count =
    few_at_end c.loop-place.count c.loop-place.points c.loop-place.places c.loop-place.place c.args.indexes.now
    (omega (arith, i.of_places, c.requires.most)) c.loop-place-test.false i.chosen in
    ((λ _. omega arith), λ _. refl)

-- at the return there are d places
full : (c : goal.Then-count-d)
    → IsOneMore c.args.d (set c.loop-place.points c.loop-place.count (get_or c.args.indexes.now c.loop-place.place 0))
    (set c.loop-place.places c.loop-place.count c.loop-place.place) (c.loop-place.place + 1) c.args.indexes.now
full c =
    rw (← c.if-count-d.true)
    (one_new c.args.d c.loop-place.count c.loop-place.points c.loop-place.places c.loop-place.place
    c.args.indexes.now c.requires.most c.loop-place-test.true c.loop-place.invariant
    (sym c.if-not-contains.ensures.value))

pub returns-then-count-d-clause-few : goal.returns-then-count-d-clause-few
returns-then-count-d-clause-few c =
    let enough : c.args.d ≤ length (distinct_places c.args.indexes.now) =
    enough_at c.args.d (set c.loop-place.points c.loop-place.count (get_or c.args.indexes.now c.loop-place.place 0))
    (set c.loop-place.places c.loop-place.count c.loop-place.place) (c.loop-place.place + 1) c.args.indexes.now
    (omega (arith, (full c).of_places, c.requires.most)) (full c).chosen in
    ((λ e. cc), λ l. absurd (omega arith))

pub returns-then-count-d-clause-places : goal.returns-then-count-d-clause-places
returns-then-count-d-clause-places c =
    chosen_at c.args.d (set c.loop-place.points c.loop-place.count (get_or c.args.indexes.now c.loop-place.place 0))
    (set c.loop-place.places c.loop-place.count c.loop-place.place) (c.loop-place.place + 1) c.args.indexes.now
    (omega (arith, (full c).of_places, c.requires.most)) (full c).chosen

pub returns-then-count-d-clause-points : goal.returns-then-count-d-clause-points
returns-then-count-d-clause-points c =
    (full c).pointed ∙ ap (map (slice_index c.args.indexes.now)) (returns-then-count-d-clause-places c)
