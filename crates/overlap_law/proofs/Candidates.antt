-- The entries that an inode may be read to have are of attempts by which it may come to be read; and there are some where one is made.
use Rattle.std.proofs.Common.{◌≡◌, ⊎_elim, arith, ℕ, zero, suc, ◌==◌, ◌&&◌, not, Bool, true, false, cond, List, [], ◌∷◌, ◌++◌}
use Rattle.std.proofs.Common.{length, map, Option, Some, None, option_map, slice_get, refl, sym, ap, subst, ◌∙◌, append-nil}
use Rattle.std.specs.List.{list_any, list_all}
use Rattle.std.proofs.lemmas.Bool.{both_ways, eq-eqb, eqb-true, and_from}
use Rattle.std.proofs.lemmas.List.Elements.{filter-append}
use Rattle.std.proofs.lemmas.List.Sums.{fold-append}
use Rattle.std.proofs.lemmas.Option.{same_Some, slice_get_within}
use Rattle.object_id.specs.declared.node.NodeId.{NodeId}
use Rattle.object_id.specs.Oid.{inode_number}
use Rattle.overlap_law.specs.Attempts.{AttemptRecord, MessageFate, Flying, Served, Doomed, object_of, attempts_on}
use Rattle.overlap_law.specs.Each.{EachAttempt}
use Rattle.overlap_law.specs.Tables.{entry_unit, entry_by, candidates_after, candidates_of, candidates, AreAmong}
use Rattle.overlap_law.specs.ToCome.{is_each_in_vain, comes_to_nothing, IsToCome, IsEntryToCome}
use Rattle.overlap_law.specs.Words.{Hosts, is_served, is_made, is_mute, is_doomed, is_beyond, covers_unit}
use Rattle.overlap_law.proofs.AttemptLists.{got_more, got_still, got_last, got_map}
use Rattle.overlap_law.proofs.FateLemmas.{made-not_doomed}

-- ---- what doesn't come to nothing

never : (b : Bool) → (b && false) ≡ false
never true = refl
never false = refl

served_stands : (hosts : Hosts) (epoch : ℕ) (targets : List NodeId) (fates : List MessageFate) → length fates ≡ length targets
    → list_any is_served fates ≡ true → is_each_in_vain hosts epoch targets fates ≡ false
served_stands hosts epoch targets [] long some = absurd (cc (some))
served_stands hosts epoch [] (fate ∷ fates) long some = absurd (cc (long))
served_stands hosts epoch (target ∷ targets) (Flying ∷ fates) long some =
    ap (λ (b : Bool). is_beyond hosts epoch target && b) (served_stands hosts epoch targets fates (cc (long)) some)
    ∙ never (is_beyond hosts epoch target)
served_stands hosts epoch (target ∷ targets) (Served ∷ fates) long some = refl
served_stands hosts epoch (target ∷ targets) (Doomed ∷ fates) long some = served_stands hosts epoch targets fates (cc (long)) some

pub heard_stands : (hosts : Hosts) (attempt : AttemptRecord) → length attempt.fates ≡ length attempt.targets → is_mute attempt ≡ false
    → comes_to_nothing hosts attempt ≡ false
heard_stands hosts attempt long heard =
    ap (λ (b : Bool). is_doomed hosts attempt && b)
    (served_stands hosts attempt.epoch attempt.targets attempt.fates long (by_test (list_any is_served attempt.fates) heard))
    ∙ never (is_doomed hosts attempt)
  where
    by_test : (b : Bool) → not b ≡ false → b ≡ true
    by_test true heard = refl
    by_test false heard = absurd (cc (heard))

pub made_stands : (hosts : Hosts) (attempt : AttemptRecord) → is_made attempt ≡ true → comes_to_nothing hosts attempt ≡ false
made_stands hosts attempt made =
    ap (λ (b : Bool). b && is_each_in_vain hosts attempt.epoch attempt.targets attempt.fates) (made-not_doomed hosts attempt made)

-- ---- one attempt more

-- what holds of no attempts, and of one more where it holds before
by_attempts : (P : List AttemptRecord → Type 0) → P [] → ((xs : List AttemptRecord) (x : AttemptRecord) → P xs → P (xs ++ x ∷ []))
    → (xs : List AttemptRecord) → P xs
by_attempts P none more xs = later [] xs none
  where
    later : (before xs : List AttemptRecord) → P before → P (before ++ xs)
    later before [] holds = subst P (sym (append-nil before)) holds
    later before (x ∷ xs) holds = subst P (joined before x xs) (later (before ++ x ∷ []) xs (more before x holds))
      where
        joined : (before : List AttemptRecord) (x : AttemptRecord) (xs : List AttemptRecord) → (before ++ x ∷ []) ++ xs ≡ before ++ x ∷ xs
        joined [] x xs = refl
        joined (y ∷ before) x xs = ap (λ (rest : List AttemptRecord). y ∷ rest) (joined before x xs)

module _ (hosts : Hosts) (oid unit : ℕ) where
  -- the attempts by which the unit may be read, of some
  abbrev found : List AttemptRecord → Option (List AttemptRecord)
  found attempts = candidates_of unit (attempts_on oid attempts)

  found-more : (xs : List AttemptRecord) (x : AttemptRecord)
      → found (xs ++ x ∷ []) ≡ cond (object_of x == oid) (candidates_after unit (found xs) x) (found xs)
  found-more xs x =
      ap (candidates_of unit) (filter-append (λ (attempt : AttemptRecord). object_of attempt == oid) xs (x ∷ []))
      ∙ by_test (object_of x == oid)
    where
      by_test : (b : Bool) → candidates_of unit (attempts_on oid xs ++ cond b (x ∷ []) [])
          ≡ cond b (candidates_after unit (found xs) x) (found xs)
      by_test true = fold-append (candidates_after unit) None (attempts_on oid xs) (x ∷ [])
      by_test false = ap (candidates_of unit) (append-nil (attempts_on oid xs))

  abbrev AreWhole : List AttemptRecord → Type 0
  AreWhole xs = EachAttempt xs (λ j attempt. length attempt.fates ≡ length attempt.targets)

  abbrev AreToCome : List AttemptRecord → Type 0
  AreToCome xs = (some : List AttemptRecord) → found xs ≡ Some some → (p : ℕ) (a : AttemptRecord) → slice_get some p ≡ Some a
      → (j : ℕ) × IsToCome hosts xs oid unit j a

  module _ (xs : List AttemptRecord) (x : AttemptRecord) where
    -- what may come to be read may so still, unless the new one is made and covers the unit
    still : (j : ℕ) (a : AttemptRecord) → IsToCome hosts xs oid unit j a
        → (object_of x ≡ oid → covers_unit unit x ≡ true → is_made x ≡ false) → IsToCome hosts (xs ++ x ∷ []) oid unit j a
    still j a comes not_made = record {
      there = got_still xs x j a comes.there;
      object = comes.object;
      covers = comes.covers;
      stands = comes.stands;
      last = λ k later at behind. ⊎_elim
          (λ (old : slice_get xs k ≡ Some later). comes.last k later old behind)
          (λ (own : (k ≡ length xs) × (x ≡ later)).
          subst (λ (a : AttemptRecord). object_of a ≡ oid → covers_unit unit a ≡ true → is_made a ≡ false) own.1 not_made)
          (got_more xs x k later at);
    }

    new : object_of x ≡ oid → covers_unit unit x ≡ true → comes_to_nothing hosts x ≡ false
        → IsToCome hosts (xs ++ x ∷ []) oid unit (length xs) x
    new object covers stands = record {
      there = got_last xs x;
      object = object;
      covers = covers;
      stands = stands;
      last = λ k later at behind object_too covers_too. ⊎_elim
          (λ (old : slice_get xs k ≡ Some later). let within = slice_get_within xs k later old in absurd (omega (arith, within, behind)))
          (λ (own : (k ≡ length xs) × (x ≡ later)). let same = own.0 in absurd (omega (arith, same, behind)))
          (got_more xs x k later at);
    }

    only : (p : ℕ) (a : AttemptRecord) → slice_get (x ∷ []) p ≡ Some a → x ≡ a
    only zero a at = same_Some x a at
    only (suc p) a at = absurd (cc (at))

    abbrev ComesBy : AttemptRecord → Type 0
    ComesBy a = (j : ℕ) × IsToCome hosts (xs ++ x ∷ []) oid unit j a

    more_come : AreToCome xs → length x.fates ≡ length x.targets → AreToCome (xs ++ x ∷ [])
    more_come all long some is p a at = by_on (object_of x == oid) refl (sym (found-more xs x) ∙ is)
      where
        old : found xs ≡ Some some → (object_of x ≡ oid → covers_unit unit x ≡ true → is_made x ≡ false) → ComesBy a
        old same not_made = let (j, comes) = all some same p a at in (j, still j a comes not_made)

        as_new : object_of x ≡ oid → covers_unit unit x ≡ true → comes_to_nothing hosts x ≡ false → x ≡ a → ComesBy a
        as_new object covers stands same = (
          length xs,
          subst (λ (one : AttemptRecord). IsToCome hosts (xs ++ x ∷ []) oid unit (length xs) one) same
              (new object covers stands),
        )

        by_found : (o : Option (List AttemptRecord)) → found xs ≡ o → option_map (λ before. before ++ x ∷ []) o ≡ Some some
            → object_of x ≡ oid
            → covers_unit unit x ≡ true → is_made x ≡ false → is_mute x ≡ false → ComesBy a
        by_found None same is object covers unmade heard = absurd (cc (is))
        by_found (Some before) same is object covers unmade heard = ⊎_elim
            (λ (was : slice_get before p ≡ Some a).
            let (j, comes) = all before same p a was in (j, still j a comes (λ o c. unmade)))
            (λ (own : (p ≡ length before) × (x ≡ a)). as_new object covers (heard_stands hosts x long heard) own.1)
            (got_more before x p a (ap (λ (list : List AttemptRecord). slice_get list p) (same_Some (before ++ x ∷ []) some is) ∙ at))

        by_mute : (b : Bool) → is_mute x ≡ b → cond b (found xs) (option_map (λ before. before ++ x ∷ []) (found xs)) ≡ Some some
            → object_of x ≡ oid → covers_unit unit x ≡ true → is_made x ≡ false → ComesBy a
        by_mute true mute is object covers unmade = old is (λ o c. unmade)
        by_mute false heard is object covers unmade = by_found (found xs) refl is object covers unmade heard

        by_made : (b : Bool) → is_made x ≡ b
            → cond b (Some (x ∷ [])) (cond (is_mute x) (found xs) (option_map (λ before. before ++ x ∷ []) (found xs))) ≡ Some some
            → object_of x ≡ oid → covers_unit unit x ≡ true → ComesBy a
        by_made true made is object covers =
            as_new object covers (made_stands hosts x made)
            (only p a (ap (λ (list : List AttemptRecord). slice_get list p) (same_Some (x ∷ []) some is) ∙ at))
        by_made false unmade is object covers = by_mute (is_mute x) refl is object covers unmade

        by_covers : (b : Bool) → covers_unit unit x ≡ b
            → cond b (cond (is_made x) (Some (x ∷ [])) (cond (is_mute x) (found xs) (option_map (λ before. before ++ x ∷ []) (found xs))))
            (found xs)
            ≡ Some some → object_of x ≡ oid → ComesBy a
        by_covers true covers is object = by_made (is_made x) refl is object covers
        by_covers false bare is object = old is (λ o covers. absurd (both_ways (covers_unit unit x) bare covers))

        by_on : (b : Bool) → (object_of x == oid) ≡ b → cond b (candidates_after unit (found xs) x) (found xs) ≡ Some some → ComesBy a
        by_on true on is = by_covers (covers_unit unit x) refl is (eqb-true (object_of x) oid on)
        by_on false off is = old is (λ object covers. absurd (both_ways (object_of x == oid) off (eq-eqb (object_of x) oid object)))

  pub found_come : (attempts : List AttemptRecord) → AreWhole attempts → AreToCome attempts
  found_come = by_attempts (λ (xs : List AttemptRecord). AreWhole xs → AreToCome xs)
      (λ whole some is. absurd (cc (is)))
      (λ xs x all whole.
      more_come xs x (all (λ j attempt at. whole j attempt (got_still xs x j attempt at))) (whole (length xs) x (got_last xs x)))

  -- ---- there are some

  -- one is made that covers the unit
  pub record HasMade (xs : List AttemptRecord) : Type 0 where
    pub place : ℕ
    pub base : AttemptRecord
    pub there : slice_get xs place ≡ Some base
    pub object : object_of base ≡ oid
    pub covers : covers_unit unit base ≡ true
    pub made : is_made base ≡ true

  abbrev HasFound : List AttemptRecord → Type 0
  HasFound xs = (first : AttemptRecord) × (rest : List AttemptRecord) × (found xs ≡ Some (first ∷ rest))

  module _ (xs : List AttemptRecord) (x : AttemptRecord) where
    more_found : HasFound xs → HasFound (xs ++ x ∷ [])
    more_found (first, rest, is) = by_on (object_of x == oid) (found-more xs x)
      where
        by_mute : (b : Bool) → found (xs ++ x ∷ []) ≡ cond b (found xs) (option_map (λ before. before ++ x ∷ []) (found xs))
            → HasFound (xs ++ x ∷ [])
        by_mute true same = (first, rest, same ∙ is)
        by_mute false same = (first, rest ++ x ∷ [], same ∙ ap (option_map (λ before. before ++ x ∷ [])) is)

        by_made : (b : Bool)
            → found (xs ++ x ∷ []) ≡ cond b (Some (x ∷ []))
            (cond (is_mute x) (found xs) (option_map (λ before. before ++ x ∷ []) (found xs)))
            → HasFound (xs ++ x ∷ [])
        by_made true same = (x, [], same)
        by_made false same = by_mute (is_mute x) same

        by_covers : (b : Bool) → found (xs ++ x ∷ [])
            ≡ cond b (cond (is_made x) (Some (x ∷ [])) (cond (is_mute x) (found xs) (option_map (λ before. before ++ x ∷ []) (found xs))))
            (found xs)
            → HasFound (xs ++ x ∷ [])
        by_covers true same = by_made (is_made x) same
        by_covers false same = (first, rest, same ∙ is)

        by_on : (b : Bool) → found (xs ++ x ∷ []) ≡ cond b (candidates_after unit (found xs) x) (found xs) → HasFound (xs ++ x ∷ [])
        by_on true same = by_covers (covers_unit unit x) same
        by_on false same = (first, rest, same ∙ is)

    made_found : object_of x ≡ oid → covers_unit unit x ≡ true → is_made x ≡ true → HasFound (xs ++ x ∷ [])
    made_found object covers made = (
      x,
      [],
      found-more xs x
          ∙ ap (λ (b : Bool). cond b (candidates_after unit (found xs) x) (found xs)) (eq-eqb (object_of x) oid object)
          ∙ ap (λ (b : Bool). cond b (cond (is_made x) (Some (x ∷ []))
          (cond (is_mute x) (found xs) (option_map (λ before. before ++ x ∷ []) (found xs)))) (found xs)) covers
          ∙ ap (λ (b : Bool). cond b (Some (x ∷ [])) (cond (is_mute x) (found xs) (option_map (λ before. before ++ x ∷ []) (found xs))))
          made,
    )

  pub has_found : (attempts : List AttemptRecord) → HasMade attempts → HasFound attempts
  has_found = by_attempts (λ (xs : List AttemptRecord). HasMade xs → HasFound xs)
      (λ made. let there = made.there in absurd (cc (there)))
      (λ xs x all made. ⊎_elim
      (λ (old : slice_get xs made.place ≡ Some made.base).
      more_found xs x (all (record {
        place = made.place;
        base = made.base;
        there = old;
        object = made.object;
        covers = made.covers;
        made = made.made;
      })))
      (λ (own : (made.place ≡ length xs) × (x ≡ made.base)).
      made_found xs x (ap (λ (a : AttemptRecord). object_of a) own.1 ∙ made.object)
      (ap (λ (a : AttemptRecord). covers_unit unit a) own.1 ∙ made.covers) (ap (λ (a : AttemptRecord). is_made a) own.1 ∙ made.made))
      (got_more xs x made.place made.base made.there))

-- ---- the entries of an inode

list_all_by : (passes : ℕ → Bool) (entries : List ℕ) → ((p entry : ℕ) → slice_get entries p ≡ Some entry → passes entry ≡ true)
    → list_all passes entries ≡ true
list_all_by passes [] all = refl
list_all_by passes (entry ∷ entries) all =
    and_from (passes entry) (list_all passes entries) (all zero entry refl)
    (list_all_by passes entries (λ p other at. all (suc p) other at))

module _ (hosts : Hosts) (attempts : List AttemptRecord)
    (whole : EachAttempt attempts (λ j attempt. length attempt.fates ≡ length attempt.targets))
    (vid index : ℕ) where
  abbrev IsOfOneToCome : ℕ → Type 0
  IsOfOneToCome entry = (j : ℕ) × (attempt : AttemptRecord) × IsEntryToCome hosts attempts vid index j attempt
      × (entry_by index attempt ≡ entry)

  pub candidate_comes : (entries : List ℕ) → candidates attempts vid index ≡ Some entries → (p entry : ℕ) → slice_get entries p ≡ Some entry
      → IsOfOneToCome entry
  unfolding candidates
  candidate_comes entries is p entry at = by_found (found hosts (inode_number vid) (entry_unit index) attempts) refl is
    where
      by_found : (o : Option (List AttemptRecord)) → found hosts (inode_number vid) (entry_unit index) attempts ≡ o
          → option_map (map (entry_by index)) o ≡ Some entries → IsOfOneToCome entry
      by_found None same is = absurd (cc (is))
      by_found (Some some) same is =
          let (attempt, among, own) = got_map (entry_by index) some p entry
          (ap (λ (list : List ℕ). slice_get list p) (same_Some (map (entry_by index) some) entries is) ∙ at) in
          let (j, comes) = found_come hosts (inode_number vid) (entry_unit index) attempts whole some same p attempt among in
          (j, attempt, comes, own)

  module _ (made : HasMade hosts (inode_number vid) (entry_unit index) attempts) where
    -- there is a candidate, and each is of one that may come
    pub are_candidates : (first : ℕ) × (rest : List ℕ) × (candidates attempts vid index ≡ Some (first ∷ rest))
    unfolding candidates
    are_candidates =
        let (first, rest, is) = has_found hosts (inode_number vid) (entry_unit index) attempts made in
        (entry_by index first, map (entry_by index) rest, ap (option_map (map (entry_by index))) is)

    pub are_among : (those : List ℕ)
        → ((j : ℕ) (attempt : AttemptRecord) → IsEntryToCome hosts attempts vid index j attempt
        → list_any (λ other. other == entry_by index attempt) those ≡ true)
        → AreAmong those (candidates attempts vid index)
    are_among those all =
        let (first, rest, is) = are_candidates in
        subst (AreAmong those) (sym is)
        (list_all_by (λ entry. list_any (λ other. other == entry) those) (first ∷ rest)
        (λ p entry at. by_one entry (candidate_comes (first ∷ rest) is p entry at)))
      where
        by_one : (entry : ℕ) → IsOfOneToCome entry → list_any (λ other. other == entry) those ≡ true
        by_one entry (j, attempt, comes, own) =
            subst (λ (e : ℕ). list_any (λ other. other == e) those ≡ true) own (all j attempt comes)
