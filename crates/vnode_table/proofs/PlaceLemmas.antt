-- One more epoch, and its place.
use Rattle.std.proofs.Common.{◌≡◌, ℕ, ◌<◌, Bool, true, false, cond, List, [], ◌∷◌, ◌++◌, length, reverse, find, slice_get, Option, Some, None, refl, sym, ap, ◌∙◌, arith}
use Rattle.std.specs.Prelude.{◌==◌}
use Rattle.std.specs.Ordering.{nat_cmp}
use Rattle.std.specs.BTreeMap.{BTreeMap, get}
use Rattle.std.proofs.lemmas.List.{length-append, get_or_append_left, get_or_push}
use Rattle.std.proofs.lemmas.Option.{slice_get-get_or}
use Rattle.vnode_table.specs.Epochs.{EpochMembers}
use Rattle.vnode_table.specs.Places.{is_of, entered_at, ArePlaces}
use Rattle.vnode_table.proofs.TermLaws.{reverse-push}

slice_get-push : (terms : List EpochMembers) (term : EpochMembers) → slice_get (terms ++ term ∷ []) (length terms) ≡ Some term
slice_get-push terms term =
    slice_get-get_or (terms ++ term ∷ []) (length terms) term (omega (arith, length-append terms (term ∷ [])))
    ∙ ap Some (get_or_push terms term term (length terms) refl)

slice_get-before : (terms : List EpochMembers) (term : EpochMembers) (place : ℕ) → place < length terms
    → slice_get (terms ++ term ∷ []) place ≡ slice_get terms place
slice_get-before terms term place within =
    slice_get-get_or (terms ++ term ∷ []) place term (omega (arith, length-append terms (term ∷ []), within))
    ∙ ap Some (get_or_append_left terms (term ∷ []) term place within)
    ∙ sym (slice_get-get_or terms place term within)

entered_at-before : (terms : List EpochMembers) (term : EpochMembers) (place : Option ℕ)
    → ((k : ℕ) → place ≡ Some k → k < length terms) → entered_at (terms ++ term ∷ []) place ≡ entered_at terms place
entered_at-before terms term None within = refl
entered_at-before terms term (Some place) within = slice_get-before terms term place (within place refl)

-- the places with that of an epoch that is entered
pub ArePlaces-push : (terms : List EpochMembers) (term : EpochMembers) (old new : BTreeMap ℕ ℕ) → ArePlaces terms old
    → ((epoch : ℕ) → get nat_cmp new epoch ≡ cond (term.epoch == epoch) (Some (length terms)) (get nat_cmp old epoch))
    → ArePlaces (terms ++ term ∷ []) new
ArePlaces-push terms term old new are is = record {
  within = λ epoch place e. before (term.epoch == epoch) (get nat_cmp old epoch) place (are.within epoch) (sym (is epoch) ∙ e);
  found = λ epoch. ap (entered_at (terms ++ term ∷ [])) (is epoch)
      ∙ found (term.epoch == epoch) (get nat_cmp old epoch) (is_of epoch) (are.within epoch) (are.found epoch)
      ∙ ap (find (is_of epoch)) (sym (reverse-push terms term));
}
  where
    before : (b : Bool) (at : Option ℕ) (place : ℕ) → ((k : ℕ) → at ≡ Some k → k < length terms)
        → cond b (Some (length terms)) at ≡ Some place → place < length (terms ++ term ∷ [])
    before true at place within e = let same : length terms ≡ place = cc in omega (arith, length-append terms (term ∷ []), same)
    before false at place within e = omega (arith, length-append terms (term ∷ []), within place e)

    found : (b : Bool) (at : Option ℕ) (test : EpochMembers → Bool) → ((k : ℕ) → at ≡ Some k → k < length terms)
        → entered_at terms at ≡ find test (reverse terms)
        → entered_at (terms ++ term ∷ []) (cond b (Some (length terms)) at) ≡ cond b (Some term) (find test (reverse terms))
    found true at test within e = slice_get-push terms term
    found false at test within e = entered_at-before terms term at within ∙ e
