-- Where an attempt was served, and is so by a test of works, and each behind it on the unit may be there, by another test, or is doomed:
-- the unit may come to be read by one that is so, if what may be there is so; and each change of a moment keeps it, if what begins on the
-- unit may be there.
use Rattle.std.proofs.Common.{◌≡◌, ◌⊎◌, inl, inr, ⊎_elim, arith, ℕ, ◌<◌, ◌≤◌, ◌==◌, ◌&&◌, Bool, true, false, List, [], ◌∷◌, ◌++◌, length}
use Rattle.std.proofs.Common.{Some, None, slice_get, get_or, sym, ap, ◌∙◌}
use Rattle.std.proofs.lemmas.Bool.{and_from, and_parts, both_ways, cases_lt, eq-eqb, eqb-true, false_from_ne_true}
use Rattle.std.proofs.lemmas.Option.{same_Some, slice_get_cases}
use Rattle.cluster_script.specs.declared.statement.Statement.{Statement}
use Rattle.peer_proto.specs.declared.work.ObjWork.{ObjWork}
use Rattle.sheep_world.specs.Began.{Began}
use Rattle.sheep_world.specs.RunsWithAsks.{Move}
use Rattle.overlap_law.specs.Attempts.{AttemptRecord, object_of}
use Rattle.overlap_law.specs.Each.{EachAttempt}
use Rattle.overlap_law.specs.MomentChanges.{MomentChange, MomentTrail, RunsAreInRange}
use Rattle.overlap_law.specs.Past.{MomentWithPast, run_with_past}
use Rattle.overlap_law.specs.ServedLast.{IsServedLast, IsOneToCome, BeginsSo}
use Rattle.overlap_law.specs.ToCome.{IsToCome}
use Rattle.overlap_law.specs.ShapedAttempts.{AreShaped}
use Rattle.overlap_law.specs.TiedAttempts.{IsTied}
use Rattle.overlap_law.specs.Traffic.{Traffic}
use Rattle.overlap_law.specs.Words.{Hosts, covers_unit, is_doomed, is_made, is_mute}
use Rattle.overlap_law.proofs.BeyondInMoments.{doomed_later}
use Rattle.overlap_law.proofs.AttemptsBegin.{IsNew, old_or_new}
use Rattle.overlap_law.proofs.Candidates.{heard_stands, made_stands}
use Rattle.overlap_law.proofs.FateLemmas.{made-not_doomed}
use Rattle.overlap_law.proofs.FinishedInMoments.{TermsHold, kept_terms}
use Rattle.overlap_law.proofs.GrownAttempts.{traffic_goes_on, goes_on-grows}
use Rattle.overlap_law.proofs.LastAttempts.{IsLast, last_or_none}
use Rattle.overlap_law.proofs.NoRecoveredDue.{began-with_past}
use Rattle.overlap_law.proofs.ReadingLaws.{AttemptsGrow}
use Rattle.overlap_law.proofs.RunsByChanges.{on_the_way}
use Rattle.overlap_law.proofs.ShapedAttempts.{kept_shaped}
use Rattle.overlap_law.proofs.TiedInRuns.{kept_tied}
use Rattle.overlap_law.proofs.TrafficOfChanges.{traffic}

-- ---- it comes

module _ (so may : ObjWork → Bool) (hosts : Hosts) (attempts : List AttemptRecord) (oid unit : ℕ)
    (whole : EachAttempt attempts (λ j attempt. length attempt.fates ≡ length attempt.targets))
    (s : IsServedLast so may hosts attempts oid unit) where
  abbrev is_base : AttemptRecord → Bool
  is_base attempt = is_made attempt && (object_of attempt == oid && covers_unit unit attempt)

  passes_so : (other : AttemptRecord) → is_made other ≡ true → object_of other ≡ oid → covers_unit unit other ≡ true
      → (is_made other && (object_of other == oid && covers_unit unit other)) ≡ true
  passes_so other made object covers =
      and_from (is_made other) (object_of other == oid && covers_unit unit other) made
      (and_from (object_of other == oid) (covers_unit unit other) (eq-eqb (object_of other) oid object) covers)

  -- where nothing is made behind it
  itself : ((k : ℕ) (other : AttemptRecord) → slice_get attempts k ≡ Some other → s.place < k
      → (is_made other && (object_of other == oid && covers_unit unit other)) ≡ false) → IsOneToCome so hosts attempts oid unit
  itself none = record {
    place = s.place;
    one = s.one;
    to_come = record {
      there = s.there;
      object = s.object;
      covers = s.covers;
      stands = heard_stands hosts s.one (whole s.place s.one s.there) s.served;
      last = λ k other at behind object covers. false_from_ne_true (is_made other) (λ made.
          both_ways (is_made other && (object_of other == oid && covers_unit unit other)) (none k other at behind)
          (passes_so other made object covers));
    };
    is = s.is;
  }

  -- where one is made behind it that is the last
  later_one : ((work : ObjWork) → may work ≡ true → so work ≡ true) → (place : ℕ) (one : AttemptRecord)
      → slice_get attempts place ≡ Some one → (is_made one && (object_of one == oid && covers_unit unit one)) ≡ true
      → EachAttempt attempts (λ k x. place < k → (is_made x && (object_of x == oid && covers_unit unit x)) ≡ false) → s.place < place
      → IsOneToCome so hosts attempts oid unit
  later_one more place one at is rest behind =
      let parts = and_parts (is_made one) (object_of one == oid && covers_unit unit one) is in
      let on = and_parts (object_of one == oid) (covers_unit unit one) parts.1 in
      let object : object_of one ≡ oid = eqb-true (object_of one) oid on.0 in
      record {
        place = place;
        one = one;
        to_come = record {
          there = at;
          object = object;
          covers = on.1;
          stands = made_stands hosts one parts.0;
          last = λ k other there after object_too covers. false_from_ne_true (is_made other) (λ made.
              both_ways (is_made other && (object_of other == oid && covers_unit unit other)) (rest k other there after)
              (passes_so other made object_too covers));
        };
        is = ⊎_elim
            (λ (doomed : is_doomed hosts one ≡ true). absurd (both_ways (is_doomed hosts one) (made-not_doomed hosts one parts.0) doomed))
            (λ (is : may one.work ≡ true). more one.work is)
            (s.later place one at behind object on.1);
      }

  pub served_comes : ((work : ObjWork) → may work ≡ true → so work ≡ true) → IsOneToCome so hosts attempts oid unit
  served_comes more = ⊎_elim
      (λ (last : (found : AttemptRecord) × IsLast is_base attempts found). ⊎_elim
      (λ (behind : s.place < last.1.place). later_one more last.1.place last.0 last.1.there last.1.passed last.1.none behind)
      (λ (first : last.1.place ≤ s.place).
      itself (λ k other there behind. last.1.none k other there (omega (arith, first, behind))))
      (cases_lt s.place last.1.place))
      (λ (none : EachAttempt attempts (λ k other. is_base other ≡ false)). itself (λ k other at behind. none k other at))
      (last_or_none is_base attempts)

-- where nothing may be there behind it that isn't doomed, it is the one itself
pub alone_comes : (so : ObjWork → Bool) (hosts : Hosts) (attempts : List AttemptRecord) (oid unit : ℕ)
    → EachAttempt attempts (λ j attempt. length attempt.fates ≡ length attempt.targets)
    → (s : IsServedLast so (λ work. false) hosts attempts oid unit) → IsToCome hosts attempts oid unit s.place s.one
alone_comes so hosts attempts oid unit whole s = record {
  there = s.there;
  object = s.object;
  covers = s.covers;
  stands = heard_stands hosts s.one (whole s.place s.one s.there) s.served;
  last = λ k other at behind object covers. false_from_ne_true (is_made other) (λ made. ⊎_elim
      (λ (doomed : is_doomed hosts other ≡ true). both_ways (is_doomed hosts other) (made-not_doomed hosts other made) doomed)
      (λ (never : false ≡ true). cc (never))
      (s.later k other at behind object covers));
}

-- ---- over each change

module _ (script : List Statement) (range : RunsAreInRange script) (events : List Move) (start before after : MomentWithPast)
    (run : run_with_past script events ≡ Some start) (trail : MomentTrail script start before)
    (change : MomentChange script start before after) (so may : ObjWork → Bool) (oid unit : ℕ)
    (begins : BeginsSo may before after oid unit) (s : IsServedLast so may before.world.hosts before.past.attempts oid unit) where
  began : Began script start.world
  began = began-with_past script events start run

  kind : Traffic before.world.hosts after.world.hosts before.world.wire before.past.attempts after.world.wire after.past.attempts
  kind = traffic script range start began change

  grows : AttemptsGrow before.past.attempts after.past.attempts
  grows = goes_on-grows before.past.attempts after.past.attempts
      (traffic_goes_on before.world.hosts after.world.hosts before.world.wire before.past.attempts kind)

  -- one that was there
  module _ (k : ℕ) (other : AttemptRecord) (at : slice_get after.past.attempts k ≡ Some other) (behind : s.place < k)
      (object : object_of other ≡ oid) (covers : covers_unit unit other ≡ true) where
    by_was : (was : AttemptRecord) → slice_get before.past.attempts k ≡ Some was
        → (is_doomed after.world.hosts other ≡ true) ⊎ (may other.work ≡ true)
    by_was was got =
        let (fates, there, muter) = grows.stays k was got in
        let same : record was { fates = fates } ≡ other = same_Some (record was { fates = fates }) other (sym there ∙ at) in
        ⊎_elim
        (λ (doomed : is_doomed before.world.hosts was ≡ true).
        inl (doomed_later script range start before after began change
        (on_the_way script TermsHold (kept_terms script range) events start before run trail)
        (on_the_way script AreShaped (kept_shaped script range) events start before run trail)
        (on_the_way script IsTied (kept_tied script range) events start before run trail) k was other got at doomed))
        (λ (is : may was.work ≡ true). inr (ap (λ (a : AttemptRecord). may a.work) (sym same) ∙ is))
        (s.later k was got behind (ap (λ (a : AttemptRecord). object_of a) same ∙ object)
        (ap (λ (a : AttemptRecord). covers_unit unit a) same ∙ covers))

    old : k < length before.past.attempts → (is_doomed after.world.hosts other ≡ true) ⊎ (may other.work ≡ true)
    old below = by_cases (slice_get_cases before.past.attempts k).1
      where
        by_cases : ((x : AttemptRecord) × (k < length before.past.attempts) × (slice_get before.past.attempts k ≡ Some x)
            × (get_or before.past.attempts k x ≡ x))
            ⊎ ((length before.past.attempts ≤ k) × (slice_get before.past.attempts k ≡ None))
            → (is_doomed after.world.hosts other ≡ true) ⊎ (may other.work ≡ true)
        by_cases (inl (was, within, got, same)) = by_was was got
        by_cases (inr (far, none)) = absurd (omega (arith, far, below))

    may_or_doomed : (is_doomed after.world.hosts other ≡ true) ⊎ (may other.work ≡ true)
    may_or_doomed = ⊎_elim
        (λ (below : k < length before.past.attempts). old below)
        (λ (new : IsNew before.world.hosts after.world.hosts before.past.attempts after.past.attempts other).
        inr (begins other (new.begins.is ∙ ap (λ (a : AttemptRecord). before.past.attempts ++ a ∷ []) new.same) object covers))
        (old_or_new before.world.hosts after.world.hosts before.world.wire after.world.wire before.past.attempts after.past.attempts kind k
        other at)

  pub served_stays : IsServedLast so may after.world.hosts after.past.attempts oid unit
  served_stays =
      let (fates, there, muter) = grows.stays s.place s.one s.there in
      record {
        place = s.place;
        one = record s.one { fates = fates };
        there = there;
        object = s.object;
        covers = s.covers;
        served = false_from_ne_true (is_mute (record s.one { fates = fates })) (λ mute. both_ways (is_mute s.one) s.served (muter mute));
        is = s.is;
        later = λ k other at behind object covers. may_or_doomed k other at behind object covers;
      }
