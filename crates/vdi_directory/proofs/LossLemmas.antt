-- Which ids lose their last reference.
use Rattle.std.proofs.Common.{◌≡◌, ◌≢◌, ◌⊎◌, inl, inr, ℕ, ◌+◌, ◌-◌, ◌<◌, ◌≤◌, ◌==◌, ◌||◌, ◌&&◌, nat_lt, Bool, true, false, cond, List, [], ◌∷◌, ◌++◌, Option, Some, unwrap_or, refl, ap, sym, subst, ◌∙◌, arith}
use Rattle.std.specs.Ordering.{nat_cmp}
use Rattle.std.specs.BTreeMap.{BTreeMap, get, is_at}
use Rattle.std.specs.Map.{lookup}
use Rattle.std.proofs.lemmas.Bool.{cases_eq, eqb-true, eq-eqb, ne_eqb, lt-ltb, both_ways}
use Rattle.std.proofs.lemmas.List.Folds.{list_any-append}
use Rattle.std.proofs.Math.Bool.{or-false}
use Rattle.object_id.specs.declared.oid.Vid.{Vid}
use Rattle.object_id.specs.declared.node.NodeId.{NodeId}
use Rattle.vdi_directory.specs.declared.effect.Effect.{Effect}
use Rattle.vdi_directory.specs.declared.effect.Effect.TheVariants as effects
use Rattle.vdi_directory.specs.declared.directory_state.DirectoryState.{DirectoryState}
use Rattle.vdi_directory.specs.References.{one, child_references, parent_in, count_in, left_in, has_vid, IdsDiffer, AreLosses}
use Rattle.vdi_directory.specs.DirectoryState.{lost_by, IsDeadList}
use Rattle.vdi_directory.proofs.ReferenceLemmas.{one-other}

-- one less of an id that has some
pub left-less : (references old new : BTreeMap ℕ ℕ) (vid : ℕ) → 0 < left_in references old vid
    → ((other : ℕ) → get nat_cmp new other ≡ cond (vid == other) (Some (left_in references old vid - 1)) (get nat_cmp old other))
    → (other : ℕ) → left_in references old other ≡ left_in references new other + one vid other
left-less references old new vid some updates other = by_test (vid == other) refl
  where
    by_test : (b : Bool) → (vid == other) ≡ b → left_in references old other ≡ left_in references new other + one vid other
    by_test true here =
        let now : left_in references new other ≡ left_in references old vid - 1
        = ap (λ (entry : Option ℕ). unwrap_or entry (count_in references other))
        (updates other ∙ ap (λ t. cond t (Some (left_in references old vid - 1)) (get nat_cmp old other)) here) in
        let was : left_in references old vid ≡ left_in references old other = ap (left_in references old) (eqb-true vid other here) in
        let it : one vid other ≡ 1 = ap (λ t. cond t 1 0) here in
        omega (arith, some, now, was, it)
    by_test false there =
        let now : left_in references new other ≡ left_in references old other
        = ap (λ (entry : Option ℕ). unwrap_or entry (count_in references other))
        (updates other ∙ ap (λ t. cond t (Some (left_in references old vid - 1)) (get nat_cmp old other)) there) in
        let none : one vid other ≡ 0 = ap (λ t. cond t 1 0) there in
        omega (arith, now, none)

-- one more id in the list
has-push : (vid : ℕ) (ids : List Vid) (id : Vid) → has_vid vid (ids ++ id ∷ []) ≡ (has_vid vid ids || id.0 == vid)
has-push vid ids id =
    list_any-append (λ (i : Vid). i.0 == vid) ids (id ∷ []) ∙ ap (λ b. has_vid vid ids || b) (or-false (id.0 == vid))

has-when : (vid : ℕ) (b : Bool) (ids : List Vid) (id : Vid) → has_vid vid (cond b (ids ++ id ∷ []) ids) ≡ (has_vid vid ids || (b && id.0 == vid))
has-when vid true ids id = has-push vid ids id
has-when vid false ids id = sym (or-false (has_vid vid ids))

-- a new id behind others of which it is none
differ-push : (ids : List Vid) (id : Vid) → IdsDiffer ids → has_vid id.0 ids ≡ false → IdsDiffer (ids ++ id ∷ [])
differ-push [] id differ new = (refl, tt)
differ-push (x ∷ xs) id differ new = (
  has-push x.0 xs id ∙ ap (λ b. b || id.0 == x.0) (differ.0) ∙ apart (x.0 == id.0) refl new,
  differ-push xs id (differ.1) (others (x.0 == id.0) new),
)
  where
    others : (b : Bool) → (b || has_vid id.0 xs) ≡ false → has_vid id.0 xs ≡ false
    others true is = cc
    others false is = is

    apart : (b : Bool) → (x.0 == id.0) ≡ b → (b || has_vid id.0 xs) ≡ false → (id.0 == x.0) ≡ false
    apart true same is = cc
    apart false not_same is = ne_eqb id.0 x.0 (λ same. both_ways (x.0 == id.0) not_same (eq-eqb x.0 id.0 (sym same)))

differ-when : (b : Bool) (ids : List Vid) (id : Vid) → IdsDiffer ids → (b ≡ true → has_vid id.0 ids ≡ false) → IdsDiffer (cond b (ids ++ id ∷ []) ids)
differ-when true ids id differ new = differ-push ids id differ (new refl)
differ-when false ids id differ new = differ

and-false : (b : Bool) → (b && false) ≡ false
and-false true = refl
and-false false = refl

-- an id loses one of those that it has left
module _ (counts old new : ℕ → ℕ) (dead later : List Vid) (x : Vid) (are : AreLosses counts old dead) (some : 0 < old x.0)
    (taken : (vid : ℕ) → old vid ≡ new vid + one x.0 vid) (is : later ≡ cond (new x.0 == 0) (dead ++ x ∷ []) dead) where
  not-yet : has_vid x.0 dead ≡ false
  not-yet =
      are.lost x.0 ∙ ap (λ b. nat_lt 0 (counts x.0) && b) (ne_eqb (old x.0) 0 (λ none. (omega (arith, some, none)))) ∙ and-false (nat_lt 0 (counts x.0))

  pub losses-more : AreLosses counts new later
  losses-more = record {
    once = subst IdsDiffer (sym is) (differ-when (new x.0 == 0) dead x are.once (λ last. not-yet));
    most = λ vid. (let was : old vid ≤ counts vid = are.most vid in let less : old vid ≡ new vid + one x.0 vid = taken vid in omega (arith, was, less));
    lost = λ vid. ap (has_vid vid) is ∙ has-when vid (new x.0 == 0) dead x ∙ by_place vid (cases_eq x.0 vid);
  }
    where
      by_place : (vid : ℕ) → (x.0 ≡ vid) ⊎ (x.0 ≢ vid) → (has_vid vid dead || (new x.0 == 0 && x.0 == vid)) ≡ (nat_lt 0 (counts vid) && new vid == 0)
      by_place vid (inl same) =
          let was : old x.0 ≤ counts x.0 = are.most x.0 in
          let not_yet : has_vid vid dead ≡ false = subst (λ v. has_vid v dead ≡ false) same not-yet in
          let counted : nat_lt 0 (counts vid) ≡ true = ap (λ v. nat_lt 0 (counts v)) (sym same) ∙ lt-ltb 0 (counts x.0) (omega (arith, some, was)) in
          ap (λ b. b || (new x.0 == 0 && x.0 == vid)) not_yet
          ∙ ap (λ b. new x.0 == 0 && b) (eq-eqb x.0 vid same) ∙ and-true (new x.0 == 0)
          ∙ ap (λ v. new v == 0) same ∙ ap (λ b. b && new vid == 0) (sym counted)
        where
          and-true : (b : Bool) → (b && true) ≡ b
          and-true true = refl
          and-true false = refl
      by_place vid (inr apart) =
          let same : old vid ≡ new vid = (let less : old vid ≡ new vid + one x.0 vid = taken vid in let none : one x.0 vid ≡ 0 = one-other x.0 vid apart in omega (arith, less, none)) in
          ap (λ b. has_vid vid dead || b) (ap (λ b. new x.0 == 0 && b) (ne_eqb x.0 vid apart) ∙ and-false (new x.0 == 0)) ∙ or-false (has_vid vid dead)
          ∙ are.lost vid ∙ ap (λ n. nat_lt 0 (counts vid) && n == 0) same

-- what is left and lost stays so, where a tree has the same entries and a list the same ids
pub losses-kept : (references left later : BTreeMap ℕ ℕ) (dead dead_later : List Vid) → AreLosses (count_in references) (left_in references left) dead
    → later.entries ≡ left.entries → dead_later ≡ dead → AreLosses (count_in references) (left_in references later) dead_later
losses-kept references left later dead dead_later are same same_dead =
    subst (AreLosses (count_in references) (left_in references later)) (sym same_dead)
    (subst (λ (entries : List (ℕ × ℕ)). AreLosses (count_in references) (λ vid. unwrap_or (lookup (is_at (nat_cmp vid)) entries) (count_in references vid)) dead)
    (sym same) are)

-- nothing is lost yet
pub losses-none : (counts left : ℕ → ℕ) (dead : List Vid) → ((vid : ℕ) → left vid ≡ counts vid) → dead ≡ [] → AreLosses counts left dead
losses-none counts left dead same none = record {
  once = subst IdsDiffer (sym none) tt;
  most = λ vid. (let is = same vid in omega (arith, is));
  lost = λ vid. ap (has_vid vid) none ∙ sym (ap (λ n. nat_lt 0 (counts vid) && n == 0) (same vid) ∙ by_place vid (cases_eq (counts vid) 0));
}
  where
    by_place : (vid : ℕ) → (counts vid ≡ 0) ⊎ (counts vid ≢ 0) → (nat_lt 0 (counts vid) && counts vid == 0) ≡ false
    by_place vid (inl zero_is) = ap (λ n. nat_lt 0 n && n == 0) zero_is
    by_place vid (inr more) = ap (λ b. nat_lt 0 (counts vid) && b) (ne_eqb (counts vid) 0 more) ∙ and-false (nat_lt 0 (counts vid))

-- an effect that takes no reference makes no id dead
none-lost : (state : DirectoryState) (dead : List Vid) → dead ≡ [] → IsDeadList (λ vid. 0) state dead
none-lost state dead none = record {
  left = count_in state.references;
  loses = λ own are vid. (let is : count_in state.references vid ≡ own vid + 0 + child_references (parent_in state.headers) (count_in state.references) vid = are vid in omega (arith, is));
  are = losses-none (count_in state.references) (count_in state.references) dead (λ vid. refl) none;
}

pub nothing-dies : (effect : Effect) (state : DirectoryState) (dead : List Vid) → dead ≡ []
    → ((vid : Vid) (name : List ℕ) → effect ≡ effects.Deleted vid name → ⊥) → ((vid : Vid) → effect ≡ effects.Withdrawn vid → ⊥)
    → ((node : NodeId) → effect ≡ effects.Left node → ⊥) → IsDeadList (lost_by effect state.reservations.items) state dead
nothing-dies (effects.Deleted vid name) state dead none deleted withdrawn left = absurd (deleted vid name refl)
nothing-dies (effects.Withdrawn vid) state dead none deleted withdrawn left = absurd (withdrawn vid refl)
nothing-dies (effects.Left node) state dead none deleted withdrawn left = absurd (left node refl)
nothing-dies effect state dead none deleted withdrawn left = none-lost state dead none
