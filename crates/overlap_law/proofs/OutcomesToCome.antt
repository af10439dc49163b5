-- The attempts by whose bytes a block may come to be read may come to be read; and there is one where one is made.
use Rattle.std.proofs.Common.{◌≡◌, ◌⊎◌, inl, inr, ⊎_elim, arith, ℕ, zero, suc, ◌==◌, ◌&&◌, nat_lt, not, Bool, true, false, cond, List, []}
use Rattle.std.proofs.Common.{◌∷◌, ◌++◌, length, filter, Option, Some, None, slice_get, refl, sym, ap, subst, ◌∙◌, append-nil}
use Rattle.std.specs.List.{list_all, last_or}
use Rattle.std.proofs.lemmas.Bool.{both_ways, eq-eqb, eqb-true, and_from, lt-ltb}
use Rattle.std.proofs.lemmas.List.Elements.{filter-append}
use Rattle.std.proofs.lemmas.List.Sums.{fold-append}
use Rattle.std.proofs.lemmas.Option.{same_Some, slice_get_within}
use Rattle.overlap_law.specs.Attempts.{AttemptRecord, object_of, attempts_on}
use Rattle.overlap_law.specs.Each.{EachAttempt}
use Rattle.overlap_law.specs.ToCome.{is_each_in_vain, comes_to_nothing, IsToCome}
use Rattle.overlap_law.specs.Words.{Hosts, is_made, is_mute, is_doomed, covers_unit, covering, base_of, behind_base}
use Rattle.overlap_law.specs.WrittenBlocks.{may_come_out, outcomes_by, outcomes}
use Rattle.overlap_law.proofs.AttemptLists.{got_more, got_still, got_last}
use Rattle.overlap_law.proofs.Candidates.{HasMade, heard_stands, made_stands}
use Rattle.overlap_law.proofs.StandingItems.{by_pushes, still_left}

-- ---- lists

got_joined : {X : Type 0} (xs ys : List X) (p : ℕ) (y : X) → slice_get (xs ++ ys) p ≡ Some y
    → (slice_get xs p ≡ Some y) ⊎ ((q : ℕ) × (slice_get ys q ≡ Some y))
got_joined [] ys p y got = inr (p, got)
got_joined (x ∷ xs) ys zero y got = inl got
got_joined (x ∷ xs) ys (suc p) y got = got_joined xs ys p y got

last_push : {X : Type 0} (o : Option X) (xs : List X) (x : X) → last_or o (xs ++ x ∷ []) ≡ Some x
last_push o [] x = refl
last_push o (y ∷ xs) x = last_push (Some y) xs x

some_last : {X : Type 0} (o : Option X) (xs : List X) (p : ℕ) (x : X) → slice_get xs p ≡ Some x → (y : X) × (last_or o xs ≡ Some y)
some_last o [] p x got = absurd (cc (got))
some_last o (y ∷ []) p x got = (y, refl)
some_last o (y ∷ z ∷ xs) p x got = some_last (Some y) (z ∷ xs) zero z refl

pub all_by : {X : Type 0} (passes : X → Bool) (xs : List X) → ((p : ℕ) (x : X) → slice_get xs p ≡ Some x → passes x ≡ true)
    → list_all passes xs ≡ true
all_by passes [] all = refl
all_by passes (x ∷ xs) all =
    and_from (passes x) (list_all passes xs) (all zero x refl) (all_by passes xs (λ p y at. all (suc p) y at))

module _ (hosts : Hosts) where
  -- ---- what comes out stands

  out_stands : (x : AttemptRecord) → length x.fates ≡ length x.targets → may_come_out hosts x ≡ true → comes_to_nothing hosts x ≡ false
  out_stands x long may = by_mute (is_mute x) refl may
    where
      by_doomed : (d e : Bool) → not d ≡ true → (d && e) ≡ false
      by_doomed true e is = absurd (cc (is))
      by_doomed false e is = refl

      by_mute : (m : Bool) → is_mute x ≡ m → not (m && is_doomed hosts x) ≡ true → comes_to_nothing hosts x ≡ false
      by_mute true mute may = by_doomed (is_doomed hosts x) (is_each_in_vain hosts x.epoch x.targets x.fates) may
      by_mute false heard may = heard_stands hosts x long heard

  living_stands : (x : AttemptRecord) → not (is_doomed hosts x) ≡ true → comes_to_nothing hosts x ≡ false
  living_stands x living = by_test (is_doomed hosts x) living
    where
      by_test : (d : Bool) → not d ≡ true → (d && is_each_in_vain hosts x.epoch x.targets x.fates) ≡ false
      by_test true is = absurd (cc (is))
      by_test false is = refl

  -- ---- one attempt more that covers the unit

  module _ (unmade : Bool) (zs : List AttemptRecord) (x : AttemptRecord) where
    abbrev outs : List AttemptRecord → List AttemptRecord
    outs attempts = outcomes_by hosts unmade attempts (behind_base attempts) (base_of attempts)

    behind : behind_base (zs ++ x ∷ []) ≡ cond (is_made x) [] (behind_base zs ++ x ∷ [])
    behind = fold-append (λ later (attempt : AttemptRecord). cond (is_made attempt) [] (later ++ attempt ∷ [])) [] zs (x ∷ [])

    base : base_of (zs ++ x ∷ []) ≡ last_or None (filter is_made zs ++ cond (is_made x) (x ∷ []) [])
    base = ap (last_or None) (filter-append is_made zs (x ∷ []))

    outs_made : is_made x ≡ true → outs (zs ++ x ∷ []) ≡ x ∷ []
    outs_made made =
        ap (λ (later : List AttemptRecord). outcomes_by hosts unmade (zs ++ x ∷ []) later (base_of (zs ++ x ∷ [])))
        (behind ∙ ap (λ (b : Bool). cond b [] (behind_base zs ++ x ∷ [])) made)
        ∙ ap (λ (o : Option AttemptRecord). outcomes_by hosts unmade (zs ++ x ∷ []) [] o)
        (base ∙ ap (λ (b : Bool). last_or None (filter is_made zs ++ cond b (x ∷ []) [])) made ∙ last_push None (filter is_made zs) x)

    -- what comes beside what came before
    record IsBeside : Type 0 where
      pub extra : List AttemptRecord
      pub so : outs (zs ++ x ∷ []) ≡ outs zs ++ extra
      pub each : (p : ℕ) (a : AttemptRecord) → slice_get extra p ≡ Some a → (x ≡ a) × (comes_to_nothing hosts x ≡ false)

    only : (passes : AttemptRecord → Bool) → (passes x ≡ true → comes_to_nothing hosts x ≡ false) → (p : ℕ) (a : AttemptRecord)
        → slice_get (filter passes (x ∷ [])) p ≡ Some a → (x ≡ a) × (comes_to_nothing hosts x ≡ false)
    only passes stands p a got = by_test (passes x) refl p got
      where
        by_test : (b : Bool) → passes x ≡ b → (p : ℕ) → slice_get (cond b (x ∷ []) []) p ≡ Some a
            → (x ≡ a) × (comes_to_nothing hosts x ≡ false)
        by_test true is zero got = (same_Some x a got, stands is)
        by_test true is (suc p) got = absurd (cc (got))
        by_test false is p got = absurd (cc (got))

    outs_unmade : length x.fates ≡ length x.targets → is_made x ≡ false → IsBeside
    outs_unmade long not_made = by_base (base_of zs) refl unmade refl
      where
        first : (o : Option AttemptRecord) → base_of zs ≡ o
            → outs (zs ++ x ∷ []) ≡ outcomes_by hosts unmade (zs ++ x ∷ []) (behind_base zs ++ x ∷ []) o
        first o is =
            ap (λ (later : List AttemptRecord). outcomes_by hosts unmade (zs ++ x ∷ []) later (base_of (zs ++ x ∷ [])))
            (behind ∙ ap (λ (b : Bool). cond b [] (behind_base zs ++ x ∷ [])) not_made)
            ∙ ap (λ (o : Option AttemptRecord). outcomes_by hosts unmade (zs ++ x ∷ []) (behind_base zs ++ x ∷ []) o)
            (base ∙ ap (λ (b : Bool). last_or None (filter is_made zs ++ cond b (x ∷ []) [])) not_made
            ∙ ap (last_or None) (append-nil (filter is_made zs)) ∙ is)

        were : (o : Option AttemptRecord) → base_of zs ≡ o → outcomes_by hosts unmade zs (behind_base zs) o ≡ outs zs
        were o is = ap (λ (o : Option AttemptRecord). outcomes_by hosts unmade zs (behind_base zs) o) (sym is)

        by_base : (o : Option AttemptRecord) → base_of zs ≡ o → (u : Bool) → unmade ≡ u → IsBeside
        by_base (Some base) is u same = record {
          extra = filter (may_come_out hosts) (x ∷ []);
          so = first (Some base) is
              ∙ ap (λ (list : List AttemptRecord). base ∷ list) (filter-append (may_come_out hosts) (behind_base zs) (x ∷ []))
              ∙ ap (λ (list : List AttemptRecord). list ++ filter (may_come_out hosts) (x ∷ [])) (were (Some base) is);
          each = only (may_come_out hosts) (out_stands x long);
        }
        by_base None is true same = record {
          extra = filter (λ attempt. not (is_doomed hosts attempt)) (x ∷ []);
          so = first None is
              ∙ ap (λ (b : Bool). cond b (filter (λ attempt. not (is_doomed hosts attempt)) (zs ++ x ∷ [])) []) same
              ∙ filter-append (λ attempt. not (is_doomed hosts attempt)) zs (x ∷ [])
              ∙ ap (λ (list : List AttemptRecord). list ++ filter (λ attempt. not (is_doomed hosts attempt)) (x ∷ []))
              (sym (ap (λ (b : Bool). cond b (filter (λ attempt. not (is_doomed hosts attempt)) zs) []) same) ∙ were None is);
          each = only (λ attempt. not (is_doomed hosts attempt)) (living_stands x);
        }
        by_base None is false same = record {
          extra = [];
          so = first None is
              ∙ ap (λ (b : Bool). cond b (filter (λ attempt. not (is_doomed hosts attempt)) (zs ++ x ∷ [])) []) same
              ∙ sym (append-nil (outs zs)
              ∙ sym (were None is) ∙ ap (λ (b : Bool). cond b (filter (λ attempt. not (is_doomed hosts attempt)) zs) []) same);
          each = λ p a got. absurd (cc (got));
        }

  -- ---- the attempts on an object

  module _ (oid unit : ℕ) (unmade : Bool) where
    abbrev on_unit : List AttemptRecord → List AttemptRecord
    on_unit attempts = covering unit (attempts_on oid attempts)

    abbrev results : List AttemptRecord → List AttemptRecord
    results attempts = outcomes hosts unmade unit (attempts_on oid attempts)

    on_unit-more : (xs : List AttemptRecord) (x : AttemptRecord)
        → on_unit (xs ++ x ∷ []) ≡ cond (object_of x == oid) (cond (covers_unit unit x) (on_unit xs ++ x ∷ []) (on_unit xs)) (on_unit xs)
    on_unit-more xs x =
        ap (covering unit) (filter-append (λ (attempt : AttemptRecord). object_of attempt == oid) xs (x ∷ []))
        ∙ by_test (object_of x == oid) (covers_unit unit x) refl
      where
        by_test : (b c : Bool) → covers_unit unit x ≡ c
            → covering unit (attempts_on oid xs ++ cond b (x ∷ []) []) ≡ cond b (cond c (on_unit xs ++ x ∷ []) (on_unit xs)) (on_unit xs)
        by_test true true is =
            filter-append (covers_unit unit) (attempts_on oid xs) (x ∷ [])
            ∙ ap (λ (c : Bool). on_unit xs ++ cond c (x ∷ []) []) is
        by_test true false is =
            filter-append (covers_unit unit) (attempts_on oid xs) (x ∷ [])
            ∙ ap (λ (c : Bool). on_unit xs ++ cond c (x ∷ []) []) is ∙ append-nil (on_unit xs)
        by_test false c is = ap (covering unit) (append-nil (attempts_on oid xs))

    abbrev AreWhole : List AttemptRecord → Type 0
    AreWhole xs = EachAttempt xs (λ j attempt. length attempt.fates ≡ length attempt.targets)

    abbrev AreToCome : List AttemptRecord → Type 0
    AreToCome xs = (p : ℕ) (a : AttemptRecord) → slice_get (results xs) p ≡ Some a → (j : ℕ) × IsToCome hosts xs oid unit j a

    module _ (xs : List AttemptRecord) (x : AttemptRecord) where
      abbrev ComesBy : AttemptRecord → Type 0
      ComesBy a = (j : ℕ) × IsToCome hosts (xs ++ x ∷ []) oid unit j a

      -- what may come may so still, unless the new one is made and covers the unit
      still : (j : ℕ) (a : AttemptRecord) → IsToCome hosts xs oid unit j a
          → (object_of x ≡ oid → covers_unit unit x ≡ true → is_made x ≡ false) → ComesBy a
      still j a comes not_made = (
        j,
        record {
          there = got_still xs x j a comes.there;
          object = comes.object;
          covers = comes.covers;
          stands = comes.stands;
          last = λ k later at behind. ⊎_elim
              (λ (old : slice_get xs k ≡ Some later). comes.last k later old behind)
              (λ (own : (k ≡ length xs) × (x ≡ later)).
              subst (λ (a : AttemptRecord). object_of a ≡ oid → covers_unit unit a ≡ true → is_made a ≡ false) own.1 not_made)
              (got_more xs x k later at);
        },
      )

      new : (a : AttemptRecord) → x ≡ a → object_of x ≡ oid → covers_unit unit x ≡ true → comes_to_nothing hosts x ≡ false → ComesBy a
      new a same object covers stands = subst ComesBy same (
        length xs,
        record {
          there = got_last xs x;
          object = object;
          covers = covers;
          stands = stands;
          last = λ k later at behind object_too covers_too. ⊎_elim
              (λ (old : slice_get xs k ≡ Some later). let within = slice_get_within xs k later old in absurd
              (omega (arith, within, behind)))
              (λ (own : (k ≡ length xs) × (x ≡ later)). let same = own.0 in absurd (omega (arith, same, behind)))
              (got_more xs x k later at);
        },
      )

      head_is : (p : ℕ) (a : AttemptRecord) → slice_get (x ∷ []) p ≡ Some a → x ≡ a
      head_is zero a got = same_Some x a got
      head_is (suc p) a got = absurd (cc (got))

      more_come : AreToCome xs → length x.fates ≡ length x.targets → AreToCome (xs ++ x ∷ [])
      more_come all long p a at =
          by_on (object_of x == oid) refl
          (ap (λ (list : List AttemptRecord). slice_get (outs unmade xs x list) p) (sym (on_unit-more xs x)) ∙ at)
        where
          old : slice_get (results xs) p ≡ Some a → (object_of x ≡ oid → covers_unit unit x ≡ true → is_made x ≡ false) → ComesBy a
          old was not_made = let (j, comes) = all p a was in still j a comes not_made

          by_made : (b : Bool) → is_made x ≡ b → object_of x ≡ oid → covers_unit unit x ≡ true
              → slice_get (outs unmade xs x (on_unit xs ++ x ∷ [])) p ≡ Some a → ComesBy a
          by_made true made object covers got =
              new a (head_is p a (ap (λ (list : List AttemptRecord). slice_get list p) (sym (outs_made unmade (on_unit xs) x made))
              ∙ got)) object
              covers (made_stands hosts x made)
          by_made false not_made object covers got =
              let beside = outs_unmade unmade (on_unit xs) x long not_made in
              ⊎_elim
              (λ (was : slice_get (results xs) p ≡ Some a). old was (λ o c. not_made))
              (λ (added : (q : ℕ) × (slice_get beside.extra q ≡ Some a)).
              let (same, stands) = beside.each added.0 a added.1 in new a same object covers stands)
              (got_joined (results xs) beside.extra p a (ap (λ (list : List AttemptRecord). slice_get list p) (sym beside.so) ∙ got))

          by_covers : (c : Bool) → covers_unit unit x ≡ c → object_of x ≡ oid
              → slice_get (outs unmade xs x (cond c (on_unit xs ++ x ∷ []) (on_unit xs))) p ≡ Some a → ComesBy a
          by_covers true covers object got = by_made (is_made x) refl object covers got
          by_covers false bare object got = old got (λ o covers. absurd (both_ways (covers_unit unit x) bare covers))

          by_on : (b : Bool) → (object_of x == oid) ≡ b
              → slice_get (outs unmade xs x (cond b (cond (covers_unit unit x) (on_unit xs ++ x ∷ []) (on_unit xs)) (on_unit xs))) p
              ≡ Some a
              → ComesBy a
          by_on true on got = by_covers (covers_unit unit x) refl (eqb-true (object_of x) oid on) got
          by_on false off got = old got (λ object covers. absurd (both_ways (object_of x == oid) off (eq-eqb (object_of x) oid object)))

    pub outcomes_come : (attempts : List AttemptRecord) → AreWhole attempts → AreToCome attempts
    outcomes_come = by_pushes (λ (xs : List AttemptRecord). AreWhole xs → AreToCome xs)
        (λ whole p a at. by_unmade unmade p a at)
        (λ xs x all whole.
        more_come xs x (all (λ j attempt at. whole j attempt (got_still xs x j attempt at))) (whole (length xs) x (got_last xs x)))
      where
        by_unmade : (u : Bool) (p : ℕ) (a : AttemptRecord) → slice_get (cond u [] []) p ≡ Some a → (j : ℕ) × IsToCome hosts [] oid unit j a
        by_unmade true p a at = absurd (cc (at))
        by_unmade false p a at = absurd (cc (at))

    -- there is one where one is made that covers the unit
    pub made_comes : (attempts : List AttemptRecord) → HasMade hosts oid unit attempts → nat_lt 0 (length (results attempts)) ≡ true
    made_comes attempts made =
        let (at, on) = still_left (λ (attempt : AttemptRecord). object_of attempt == oid) attempts made.place made.base made.there
        (eq-eqb (object_of made.base) oid made.object) in
        let (among, covered) = still_left (covers_unit unit) (attempts_on oid attempts) at made.base on made.covers in
        let (p, found) = still_left is_made (on_unit attempts) among made.base covered made.made in
        let (base, is) = some_last None (filter is_made (on_unit attempts)) p made.base found in
        ap (λ (o : Option AttemptRecord). nat_lt 0
        (length (outcomes_by hosts unmade (on_unit attempts) (behind_base (on_unit attempts)) o))) is
        ∙ lt-ltb 0 (length (base ∷ filter (may_come_out hosts) (behind_base (on_unit attempts)))) (omega arith)
