-- What is left of a list of objects when those of a disk are dropped, and which numbers are ids of a disk.
use Rattle.std.proofs.Common.{◌≡◌, ◌≢◌, ◌⊎◌, inl, inr, ℕ, ◌+◌, ◌-◌, ◌*◌, ◌/◌, ◌%◌, ◌^◌, ◌≤◌, ◌<◌, Bool, true, false, cond, ◌||◌, ◌==◌, nat_lt, nat_eq, List, [], ◌∷◌, filter, map, length, zero, suc, Option, Some, None, is_some, IsSome, unwrap_or, refl, ap, sym, ◌∙◌, subst, arith}
use Rattle.std.specs.Ordering.{is_gt, nat_cmp}
use Rattle.std.specs.declared.cmp.Ordering.TheVariants.{Less, Equal, Greater}
use Rattle.std.proofs.lemmas.Cmp.{nat_cmp_total}
use Rattle.std.specs.Map.{lookup}
use Rattle.std.specs.declared.ops.Bound.TheVariants.{Included}
use Rattle.std.specs.BTreeMap.{is_at}
use Rattle.std.specs.BTreeMap.Range.{entries_between}
use Rattle.std.proofs.lemmas.Map.Views.{IsInRange-from_range_contains, range_contains-from_IsInRange}
use Rattle.std.proofs.lemmas.Map.Keys.{le_from_not_gt}
use Rattle.std.proofs.lemmas.Bool.{eqb-true, eq-eqb}
use Rattle.std.proofs.lemmas.Bool.Decides.{nat_tests}
use Rattle.proof_tools.proofs.FiniteMaps.{is_at-true, is_at-same}
use Rattle.object_id.specs.Oid.{IsOid, IsVid, vid_of, object_number, inode_number}
use Rattle.object_store.specs.declared.row.Row.{Row}
use Rattle.object_store.specs.Rows.{open_at, without_disk}
use Rattle.object_store.specs.Store.{each}
use Rattle.object_store.specs.There.{HaveRows-each}
use Rattle.object_store.specs.Answers.{KeepsRoom}
use Rattle.object_store.specs.KeptRows.{seen_row, RoomIn}
use Rattle.object_store.specs.Objects.{Objects, HaveIds, LacksOnly, is_block_of, kept_of, seen_objects, HaveRows-seen_objects, HasRoomIn}
use Rattle.object_store.proofs.ThereLemmas.{same_rows}
use Rattle.object_store.proofs.SeenLemmas.{seen_row-without_disk}
use Rattle.object_store.proofs.StoreLaws.{rows_of-each}
use Rattle.object_store.proofs.RoomLemmas.{KeepsRowRoom-without_disk, without_disk-none}
use Rattle.object_store.proofs.ObjectLemmas.{rows_of-seen_objects}
use Rattle.object_id.specs.declared.limits.TheConstants.{OBJECTS_MAX, VID_MAX}

module _ {X : Type 0} where
  found_more : (e : ℕ × X) (es : List (ℕ × X)) (q : ℕ) → IsSome (lookup (is_at (nat_cmp q)) es) → IsSome (lookup (is_at (nat_cmp q)) (e ∷ es))
  found_more e es q found = go (is_at (nat_cmp q) e.0)
    where
      go : (b : Bool) → IsSome (cond b (Some e.1) (lookup (is_at (nat_cmp q)) es))
      go true = refl
      go false = found

  pub in_range : (vid start end : ℕ) (es found : List (ℕ × X)) → start ≡ object_number vid 0 → end ≡ object_number vid (OBJECTS_MAX - 1)
      → found ≡ entries_between nat_cmp (Included start) (Included end) es → found ≡ filter (λ (e : ℕ × X). is_block_of vid e.0) es
  in_range vid start end es found first last is = is ∙ (λ i. entries_between nat_cmp (Included (first i)) (Included (last i)) es)

module _ {X : Type 0} (p : ℕ → Bool) where
  -- what a filter keeps first passes its test, and is in the list
  pub first_kept : (es : List (ℕ × X)) (first : ℕ × X) (rest : List (ℕ × X)) → filter (λ (e : ℕ × X). p e.0) es ≡ first ∷ rest
      → (p first.0 ≡ true) × IsSome (lookup (is_at (nat_cmp first.0)) es)
  first_kept [] first rest is = absurd (cc (is))
  first_kept (e ∷ es) first rest is = go (first_kept es first rest) (p e.0) refl is
    where
      go : (filter (λ (e : ℕ × X). p e.0) es ≡ first ∷ rest → (p first.0 ≡ true) × IsSome (lookup (is_at (nat_cmp first.0)) es))
          → (b : Bool) → p e.0 ≡ b → cond b (e ∷ filter (λ (e : ℕ × X). p e.0) es) (filter (λ (e : ℕ × X). p e.0) es) ≡ first ∷ rest
          → (p first.0 ≡ true) × IsSome (lookup (is_at (nat_cmp first.0)) (e ∷ es))
      go before true passes here =
          let same : e ≡ first = cc (here) in
          subst (λ (f : ℕ × X). (p f.0 ≡ true) × IsSome (lookup (is_at (nat_cmp f.0)) (e ∷ es))) same
          (passes, ap (λ b. is_some (cond b (Some e.1) (lookup (is_at (nat_cmp e.0)) es))) (is_at-same e.0))
      go before false fails later =
          let found = before later in
          (found.0, found_more e es first.0 found.1)

  -- where a filter keeps nothing, no number that passes is in the list
  pub none_kept : (es : List (ℕ × X)) → filter (λ (e : ℕ × X). p e.0) es ≡ [] → (q : ℕ) → p q ≡ true → lookup (is_at (nat_cmp q)) es ≡ None
  none_kept [] is q passes = refl
  none_kept (e ∷ es) is q passes = go (λ none. none_kept es none q passes) (p e.0) refl is (is_at (nat_cmp q) e.0) refl
    where
      go : (filter (λ (e : ℕ × X). p e.0) es ≡ [] → lookup (is_at (nat_cmp q)) es ≡ None) → (b : Bool) → p e.0 ≡ b → cond b (e ∷ filter (λ (e : ℕ × X). p e.0) es) (filter (λ (e : ℕ × X). p e.0) es) ≡ []
          → (t : Bool) → is_at (nat_cmp q) e.0 ≡ t → cond t (Some e.1) (lookup (is_at (nat_cmp q)) es) ≡ None
      go before true passing here t at = absurd (cc (here))
      go before false fails none true at = absurd (cc (sym passes ∙ ap p (is_at-true q e.0 at) ∙ fails))
      go before false fails none false at = before none

module _ {K : Type 0} where
  -- where one object is put or goes, each object keeps an id
  pub ids_after : (oid : ℕ) (rows : Option (List (Row K))) (es fs : Objects K) → (IsSome rows → IsOid oid)
      → ((q : ℕ) → lookup (is_at (nat_cmp q)) fs ≡ cond (is_at (nat_cmp oid) q) rows (lookup (is_at (nat_cmp q)) es)) → HaveIds es → HaveIds fs
  ids_after oid rows es fs put is ids q found = go (is_at (nat_cmp oid) q) refl (subst IsSome (is q) found)
    where
      go : (b : Bool) → is_at (nat_cmp oid) q ≡ b → IsSome (cond b rows (lookup (is_at (nat_cmp q)) es)) → IsOid q
      go true here some = subst IsOid (is_at-true oid q here) (put some)
      go false other some = ids q some

  -- an object that goes leaves the others that the test doesn't name
  pub others_stay : (gone : ℕ → Bool) (oid : ℕ) (es fs : Objects K)
      → ((q : ℕ) → lookup (is_at (nat_cmp q)) fs ≡ cond (is_at (nat_cmp oid) q) None (lookup (is_at (nat_cmp q)) es)) → gone oid ≡ true
      → (q : ℕ) → gone q ≡ false → lookup (is_at (nat_cmp q)) fs ≡ lookup (is_at (nat_cmp q)) es
  others_stay gone oid es fs is goes q other = is q ∙ go (is_at (nat_cmp oid) q) refl
    where
      go : (b : Bool) → is_at (nat_cmp oid) q ≡ b → cond b None (lookup (is_at (nat_cmp q)) es) ≡ lookup (is_at (nat_cmp q)) es
      go true here = absurd (cc (sym goes ∙ ap gone (is_at-true oid q here) ∙ other))
      go false apart = refl

  pub only_named_go : (gone : ℕ → Bool) (new old : Objects K) → ((q : ℕ) → gone q ≡ true → lookup (is_at (nat_cmp q)) new ≡ None)
      → ((q : ℕ) → gone q ≡ false → lookup (is_at (nat_cmp q)) new ≡ lookup (is_at (nat_cmp q)) old)
      → (q : ℕ) → lookup (is_at (nat_cmp q)) new ≡ cond (gone q) None (lookup (is_at (nat_cmp q)) old)
  only_named_go gone new old none same q = go (gone q) refl
    where
      go : (b : Bool) → gone q ≡ b → lookup (is_at (nat_cmp q)) new ≡ cond b None (lookup (is_at (nat_cmp q)) old)
      go true is = none q is
      go false is = same q is

-- two numbers in order, as a range asks for them
pub is_no_greater : (a b : ℕ) → a ≤ b → is_gt (nat_cmp a b) ≡ false
is_no_greater a b ordered = go (nat_lt a b) refl (a == b) refl
  where
    go : (l : Bool) → nat_lt a b ≡ l → (t : Bool) → (a == b) ≡ t → is_gt (cond l Less (cond t Equal Greater)) ≡ false
    go true less t tie = refl
    go false less true tie = refl
    go false less false tie = absurd (grind (arith, nat_tests))

-- an object's id is its disk's inode's, or in the range of its disk's data objects
pub ids_of_disk : (vid q : ℕ) → IsVid vid → IsOid q → vid_of q ≡ vid
    → ((object_number vid 0 ≤ q) × (q ≤ object_number vid (OBJECTS_MAX - 1))) ⊎ (q ≡ inode_number vid)
ids_of_disk vid q valid oid is = go (q / 2 ^ 63 % 2) refl
  where
    go : (top : ℕ) → q / 2 ^ 63 % 2 ≡ top → ((object_number vid 0 ≤ q) × (q ≤ object_number vid (OBJECTS_MAX - 1))) ⊎ (q ≡ inode_number vid)
    go zero block = inl (omega (arith, oid.0, oid.1.0, oid.1.1, is, block), omega (arith, oid.0, oid.1.0, oid.1.1, is, block))
    go (suc zero) inode = inr (omega (arith, oid.0, oid.1.0, oid.1.1, oid.1.2 inode, is, inode))
    go (suc (suc n)) other = absurd (omega (arith, other))

pub is_block_of-true : (vid q : ℕ) → object_number vid 0 ≤ q → q ≤ object_number vid (OBJECTS_MAX - 1) → is_block_of vid q ≡ true
is_block_of-true vid q from to =
    range_contains-from_IsInRange nat_cmp_total (Included (object_number vid 0)) (Included (object_number vid (OBJECTS_MAX - 1))) q
    (is_no_greater _ _ from, is_no_greater _ _ to)

vid_of_block : (vid q : ℕ) → IsVid vid → is_block_of vid q ≡ true → vid_of q ≡ vid
vid_of_block vid q valid is =
    let within = IsInRange-from_range_contains nat_cmp_total (Included (object_number vid 0)) (Included (object_number vid (OBJECTS_MAX - 1))) q is in
    let from : object_number vid 0 ≤ q = le_from_not_gt _ _ within.0 in
    let to : q ≤ object_number vid (OBJECTS_MAX - 1) = le_from_not_gt _ _ within.1 in
    omega (arith, from, to, valid.1)

vid_of_inode : (vid : ℕ) → IsVid vid → vid_of (inode_number vid) ≡ vid
vid_of_inode vid valid = omega (arith, valid.1)

-- where a disk's inode and its data objects are gone, its objects are
pub disk_gone : {K : Type 0} (vid : ℕ) (es : Objects K) (q : ℕ) → IsVid vid → HaveIds es
    → cond (is_block_of vid q) None (cond (is_at (nat_cmp (inode_number vid)) q) None (lookup (is_at (nat_cmp q)) es))
    ≡ cond (nat_eq (vid_of q) vid) None (lookup (is_at (nat_cmp q)) es)
disk_gone {K = K} vid es q valid ids = go (lookup (is_at (nat_cmp q)) es) (ids q)
  where
    nothing : Option (List (Row K))
    nothing = None

    none : (b c : Bool) → cond b nothing (cond c nothing nothing) ≡ nothing
    none true c = refl
    none false true = refl
    none false false = refl

    one_none : (b : Bool) → nothing ≡ cond b nothing nothing
    one_none true = refl
    one_none false = refl

    gone : (rows : List (Row K)) → ((object_number vid 0 ≤ q) × (q ≤ object_number vid (OBJECTS_MAX - 1))) ⊎ (q ≡ inode_number vid)
        → cond (is_block_of vid q) None (cond (is_at (nat_cmp (inode_number vid)) q) None (Some rows)) ≡ None
    gone rows (inl block) = ap (λ b. cond b None (cond (is_at (nat_cmp (inode_number vid)) q) None (Some rows))) (is_block_of-true vid q block.0 block.1)
    gone rows (inr inode) =
        ap (λ b. cond (is_block_of vid q) None (cond b None (Some rows))) (ap (is_at (nat_cmp (inode_number vid))) inode ∙ is_at-same (inode_number vid))
        ∙ sym (one_none (is_block_of vid q))

    stays : (rows : List (Row K)) → vid_of q ≢ vid → (b : Bool) → is_block_of vid q ≡ b → (t : Bool) → is_at (nat_cmp (inode_number vid)) q ≡ t
        → cond b None (cond t None (Some rows)) ≡ Some rows
    stays rows apart true block t at = absurd (apart (vid_of_block vid q valid block))
    stays rows apart false block true at = absurd (apart (ap vid_of (sym (is_at-true (inode_number vid) q at)) ∙ vid_of_inode vid valid))
    stays rows apart false block false at = refl

    go : (o : Option (List (Row K))) → (IsSome o → IsOid q)
        → cond (is_block_of vid q) None (cond (is_at (nat_cmp (inode_number vid)) q) None o) ≡ cond (nat_eq (vid_of q) vid) None o
    go None is_id = none (is_block_of vid q) (is_at (nat_cmp (inode_number vid)) q) ∙ one_none (nat_eq (vid_of q) vid)
    go (Some rows) is_id = by_vid (nat_eq (vid_of q) vid) refl
      where
        by_vid : (b : Bool) → nat_eq (vid_of q) vid ≡ b
            → cond (is_block_of vid q) None (cond (is_at (nat_cmp (inode_number vid)) q) None (Some rows)) ≡ cond b None (Some rows)
        by_vid true same = gone rows (ids_of_disk vid q valid (is_id refl) (eqb-true (vid_of q) vid same))
        by_vid false apart = stays rows (λ same. absurd (cc (sym apart ∙ eq-eqb (vid_of q) vid same))) (is_block_of vid q) refl (is_at (nat_cmp (inode_number vid)) q) refl

-- a number that is no disk's id is that of no object
pub none_gone : {K : Type 0} (vid : ℕ) (es : Objects K) (q : ℕ) → (IsVid vid → ⊥) → HaveIds es
    → lookup (is_at (nat_cmp q)) es ≡ cond (nat_eq (vid_of q) vid) None (lookup (is_at (nat_cmp q)) es)
none_gone {K = K} vid es q invalid ids = go (lookup (is_at (nat_cmp q)) es) (ids q) (nat_eq (vid_of q) vid) refl
  where
    go : (o : Option (List (Row K))) → (IsSome o → IsOid q) → (b : Bool) → nat_eq (vid_of q) vid ≡ b → o ≡ cond b None o
    go None is_id true same = refl
    go o is_id false apart = refl
    go (Some rows) is_id true same =
        let oid = is_id refl in
        let is = eqb-true (vid_of q) vid same in
        let positive : vid_of q ≢ 0 = oid.2 in
        absurd (invalid (omega (arith, is, positive), omega (arith, is)))

module _ {K : Type 0} (vid : ℕ) (es fs : Objects K) (is : LacksOnly (λ q. nat_eq (vid_of q) vid) es fs) where
  kept_of-without_disk : (q : ℕ) → kept_of fs q ≡ without_disk vid q (kept_of es q)
  kept_of-without_disk q = ap (λ o. unwrap_or o []) (is q) ∙ go (nat_eq (vid_of q) vid)
    where
      go : (b : Bool) → unwrap_or (cond b None (lookup (is_at (nat_cmp q)) es)) [] ≡ cond b [] (kept_of es q)
      go true = refl
      go false = refl

  pub seen_objects-without_disk : (bytes : K → List ℕ) → seen_objects bytes fs ≡ each (without_disk vid) (seen_objects bytes es)
  seen_objects-without_disk bytes =
      same_rows (seen_objects bytes fs) (each (without_disk vid) (seen_objects bytes es))
      (HaveRows-seen_objects bytes fs) (HaveRows-each (without_disk vid) (seen_objects bytes es))
      (λ q. rows_of-seen_objects bytes fs q
      ∙ ap (map (seen_row bytes)) (kept_of-without_disk q)
      ∙ seen_row-without_disk bytes vid q (kept_of es q)
      ∙ ap (without_disk vid q) (sym (rows_of-seen_objects bytes es q))
      ∙ sym (rows_of-each (without_disk vid) (seen_objects bytes es) q (without_disk-none vid q)))

  pub KeepsRoom-without_disk : (HasRoom : K → ℕ → ℕ → Type 0) → KeepsRoom (HasRoomIn HasRoom es) (HasRoomIn HasRoom fs)
  KeepsRoom-without_disk HasRoom key offset n had =
      subst (λ rows. RoomIn HasRoom (open_at key.index rows) offset n) (sym (kept_of-without_disk key.oid))
      (KeepsRowRoom-without_disk HasRoom vid key.oid (kept_of es key.oid) key.index offset n had)
