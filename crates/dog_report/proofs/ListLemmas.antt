-- The lines of lists, one after another.
use Rattle.std.proofs.Common.{◌≡◌, inl, inr, ℕ, zero, suc, ◌+◌, ◌<◌, ◌==◌, Bool, true, false, List, [], ◌∷◌, ◌++◌, length, drop, map, flat_map, Option, Some, None, slice_get, get_or, unwrap_or, refl, sym, ap, ◌∙◌, append_assoc, rules}
use Rattle.std.specs.Prelude.{codes}
use Rattle.std.specs.List.{list_any}
use Rattle.std.specs.FinMap as tree
use Rattle.std.proofs.lemmas.List.{drop_more}
use Rattle.std.proofs.lemmas.Option.{none-some, slice_get_within, get_or_from_slice_get}
use Rattle.proof_tools.proofs.FiniteMaps.{get-entry}
use Rattle.object_store.specs.Store.{SeenRow, AllRows, rows_of}
use Rattle.hash_ring.proofs.InLaws.{In, contains_from_in}
use Rattle.dog_report.specs.Words.{Words, spaced_words}
use Rattle.dog_report.specs.ListParts.{lines_text, object_rows, stored_rows}

-- ---- the text of lists

-- the lines of two lists
pub lines_text-append : (lines later : List Words) → lines_text (lines ++ later) ≡ lines_text lines ++ lines_text later
lines_text-append [] later = refl
lines_text-append (words ∷ lines) later =
    ap (λ xs. (spaced_words words ++ codes "\n") ++ xs) (lines_text-append lines later)
    ∙ sym (append_assoc (spaced_words words ++ codes "\n") (lines_text lines) (lines_text later))

-- one line more is added: it, with the lines of what is left, is all of them
pub line-step : (old new all : List ℕ) (words : Words) (later : List Words) → new ≡ old ++ spaced_words words ++ codes "\n"
    → old ++ lines_text (words ∷ later) ≡ all → new ++ lines_text later ≡ all
line-step old new all words later told kept =
    ap (λ xs. xs ++ lines_text later) (told ∙ append_assoc old (spaced_words words) (codes "\n"))
    ∙ append_assoc old (spaced_words words ++ codes "\n") (lines_text later) ∙ kept

-- the lines of one item more are added: these, with those of the items that are left, are all of them
pub lines-step : {X : Type 0} (lines_of : X → List Words) (old new all : List ℕ) (x : X) (later : List X)
    → new ≡ old ++ lines_text (lines_of x) → old ++ lines_text (flat_map lines_of (x ∷ later)) ≡ all
    → new ++ lines_text (flat_map lines_of later) ≡ all
lines-step lines_of old new all x later told kept =
    ap (λ xs. xs ++ lines_text (flat_map lines_of later)) told
    ∙ append_assoc old (lines_text (lines_of x)) (lines_text (flat_map lines_of later))
    ∙ ap (λ xs. old ++ xs) (sym (lines_text-append (lines_of x) (flat_map lines_of later))) ∙ kept

-- the line of the item at a place is added: it, with the lines of those that are left, is all of them
pub line-at : {X : Type 0} (line_of : X → Words) (xs : List X) (i : ℕ) (d : X) (old new all : List ℕ) → i < length xs
    → new ≡ old ++ spaced_words (line_of (get_or xs i d)) ++ codes "\n"
    → old ++ lines_text (map line_of (drop i xs)) ≡ all → new ++ lines_text (map line_of (drop (i + 1) xs)) ≡ all
line-at {X = X} line_of xs i d old new all within told kept =
    line-step old new all (line_of (get_or xs i d)) (map line_of (drop (i + 1) xs)) told
    (ap (λ (rest : List X). old ++ lines_text (map line_of rest)) (sym (drop_more xs i d within)) ∙ kept)

-- ---- lists by their places

-- what stands at a place is the first of what is left there
pub drop-at : {X : Type 0} (xs : List X) (k : ℕ) (x : X) → slice_get xs k ≡ Some x → drop k xs ≡ x ∷ drop (k + 1) xs
drop-at xs k x is =
    drop_more xs k x (slice_get_within xs k x is) ∙ ap (λ y. y ∷ drop (k + 1) xs) (get_or_from_slice_get xs k x x is)

-- past the last nothing is left
pub drop-past : {X : Type 0} (xs : List X) (k : ℕ) → slice_get xs k ≡ None → drop k xs ≡ []
drop-past [] zero is = refl
drop-past [] (suc k) is = refl
drop-past (x ∷ xs) zero is = absurd (none-some _ (sym is))
drop-past (x ∷ xs) (suc k) is = drop-past xs k is

-- a number that stands at a place is in the list
pub is-in : (xs : List ℕ) (k x : ℕ) → slice_get xs k ≡ Some x → list_any (λ other. other == x) xs ≡ true
is-in [] k x is = absurd (none-some _ is)
is-in (first ∷ xs) zero x is = by_test (first == x) refl
  where
    by_test : (same : Bool) → (first == x) ≡ same → list_any (λ other. other == x) (first ∷ xs) ≡ true
    by_test true h = rw h refl
    by_test false h = absurd (search (rules, h, is))
is-in (first ∷ xs) (suc k) x is = by_test (first == x) refl (is-in xs k x is)
  where
    by_test : (same : Bool) → (first == x) ≡ same → list_any (λ other. other == x) xs ≡ true
        → list_any (λ other. other == x) (first ∷ xs) ≡ true
    by_test true h later = rw h refl
    by_test false h later = rw h later

-- ---- a map by its keys

-- what is told of each object and its rows, by the objects
by_entries : {A : Type 0} (all : AllRows) (lines_of : ℕ → List SeenRow → List A) (es : List (ℕ × List SeenRow))
    → ((e : ℕ × List SeenRow) → In e es → tree.get all e.0 ≡ Some e.1)
    → flat_map (λ oid. lines_of oid (rows_of all oid)) (map (λ (e : ℕ × List SeenRow). e.0) es)
    ≡ flat_map (λ (e : ℕ × List SeenRow). lines_of e.0 e.1) es
by_entries all lines_of [] got = refl
by_entries all lines_of (e ∷ es) got =
    let rows : rows_of all e.0 ≡ e.1 = ap (λ (found : Option (List SeenRow)). unwrap_or found []) (got e (inl refl)) in
    ap (λ (rows : List SeenRow). lines_of e.0 rows
    ++ flat_map (λ oid. lines_of oid (rows_of all oid)) (map (λ (e : ℕ × List SeenRow). e.0) es)) rows
    ∙ ap (λ xs. lines_of e.0 e.1 ++ xs) (by_entries all lines_of es (λ other there. got other (inr there)))

-- the rows of a store, by the objects that have rows
pub stored_rows-keys : (node : ℕ) (all : AllRows)
    → flat_map (λ oid. object_rows node oid (rows_of all oid)) (tree.keys all) ≡ stored_rows node all
stored_rows-keys node all =
    by_entries all (object_rows node) (tree.entries all) (λ e there. get-entry all e (contains_from_in (tree.entries all) e there))
