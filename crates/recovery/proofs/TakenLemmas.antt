-- Where the rows that are taken at a level come from.
use Rattle.std.proofs.Common.{◌≡◌, ◌⊎◌, inl, inr, ◌==◌, nat_lt, Bool, true, false, cond, List, [], ◌∷◌, length, take, drop, fold, Contains, Option, None, Some, refl, ap, sym, subst, ◌∙◌, arith}
use Rattle.std.specs.List.{filter_map, cons_option}
use Rattle.std.proofs.lemmas.Bool.{leb-true}
use Rattle.std.proofs.lemmas.Bool.Decides.{nat_tests}
use Rattle.std.proofs.lemmas.List.{length-take-le, take-append-drop}
use Rattle.std.proofs.lemmas.List.Elements.{Contains-append_left}
use Rattle.proof_tools.proofs.Lists.{Contains-head, Contains-cons, Contains-nil, Contains-cons_cases}
use Rattle.object_id.specs.declared.node.NodeId.{NodeId}
use Rattle.object_id.specs.declared.oid.Kind.{Kind}
use Rattle.object_id.specs.declared.oid.Kind.TheVariants.{Block, Inode}
use Rattle.object_id.specs.declared.policy.Policy.{Policy}
use Rattle.object_id.specs.declared.policy.Policy.TheVariants.{Copies, Coded}
use Rattle.object_id.specs.Policy.{need_of}
use Rattle.object_store.specs.declared.row.RowCopy.{RowCopy}
use Rattle.recovery.specs.Shown.{own_row}
use Rattle.recovery.specs.State.{Search, RecoveryState}
use Rattle.recovery.specs.Level.{answered_row, row_of_target, rows_found, put_by_index, rows_in_order, rows_taken, are_enough}

-- a row that is put is new or was there

put_only : (rows : List RowCopy) (row r : RowCopy) → Contains (put_by_index rows row) r → Contains rows r ⊎ (row ≡ r)
put_only [] row r there = turned (Contains-cons_cases row [] r there)
  where
    turned : (row ≡ r) ⊎ Contains [] r → Contains [] r ⊎ (row ≡ r)
    turned (inl same) = inr same
    turned (inr none) = inl none
put_only (first ∷ rest) row r there = by_order (put_only rest row r) (nat_lt row.index first.index) there
  where
    further : Contains rest r ⊎ (row ≡ r) → Contains (first ∷ rest) r ⊎ (row ≡ r)
    further (inl now) = inl (Contains-cons first rest r now)
    further (inr same) = inr same

    behind_first : (Contains (put_by_index rest row) r → Contains rest r ⊎ (row ≡ r)) → (first ≡ r) ⊎ Contains (put_by_index rest row) r
        → Contains (first ∷ rest) r ⊎ (row ≡ r)
    behind_first later (inl same) = inl (subst (λ (z : RowCopy). Contains (first ∷ rest) z) same (Contains-head first rest))
    behind_first later (inr now) = further (later now)

    by_index_of_first : (Contains (put_by_index rest row) r → Contains rest r ⊎ (row ≡ r)) → (b : Bool)
        → Contains (cond b (first ∷ rest) (first ∷ put_by_index rest row)) r → Contains (first ∷ rest) r ⊎ (row ≡ r)
    by_index_of_first later true now = inl now
    by_index_of_first later false now = behind_first later (Contains-cons_cases first (put_by_index rest row) r now)

    new_first : (row ≡ r) ⊎ Contains (first ∷ rest) r → Contains (first ∷ rest) r ⊎ (row ≡ r)
    new_first (inl same) = inr same
    new_first (inr now) = inl now

    by_order : (Contains (put_by_index rest row) r → Contains rest r ⊎ (row ≡ r)) → (b : Bool)
        → Contains (cond b (row ∷ first ∷ rest) (cond (row.index == first.index) (first ∷ rest) (first ∷ put_by_index rest row))) r
        → Contains (first ∷ rest) r ⊎ (row ≡ r)
    by_order later true now = new_first (Contains-cons_cases row (first ∷ rest) r now)
    by_order later false now = by_index_of_first later (row.index == first.index) now

fold_only : (start rows : List RowCopy) (r : RowCopy) → Contains (fold put_by_index start rows) r → Contains start r ⊎ Contains rows r
fold_only start [] r there = inl there
fold_only start (row ∷ rows) r there = by_start (fold_only (put_by_index start row) rows r there)
  where
    by_put : Contains start r ⊎ (row ≡ r) → Contains start r ⊎ Contains (row ∷ rows) r
    by_put (inl now) = inl now
    by_put (inr same) = inr (subst (λ (z : RowCopy). Contains (row ∷ rows) z) same (Contains-head row rows))

    by_start : Contains (put_by_index start row) r ⊎ Contains rows r → Contains start r ⊎ Contains (row ∷ rows) r
    by_start (inl now) = by_put (put_only start row r now)
    by_start (inr now) = inr (Contains-cons row rows r now)

in_turn_only : (policy : Policy) (kind : Kind) (rows : List RowCopy) (r : RowCopy) → Contains (rows_in_order policy kind rows) r → Contains rows r
in_turn_only (Copies copies) kind rows r there = there
in_turn_only (Coded d p) Block rows r there = not_before (fold_only [] rows r there)
  where
    not_before : Contains [] r ⊎ Contains rows r → Contains rows r
    not_before (inl none) = absurd (Contains-nil r none)
    not_before (inr now) = now
in_turn_only (Coded d p) Inode rows r there = there

pub taken_were_found : (policy : Policy) (kind : Kind) (rows : List RowCopy) (row : RowCopy) → Contains (rows_taken policy kind rows) row → Contains rows row
taken_were_found policy kind rows row there =
    let ready : List RowCopy = rows_in_order policy kind rows in
    in_turn_only policy kind rows row
    (subst (λ (all : List RowCopy). Contains all row) (take-append-drop (need_of policy kind) ready)
    (Contains-append_left (take (need_of policy kind) ready) (drop (need_of policy kind) ready) row there))

pub taken_are_as_many : (policy : Policy) (kind : Kind) (rows : List RowCopy) → are_enough policy kind rows ≡ true
    → length (rows_taken policy kind rows) ≡ need_of policy kind
taken_are_as_many policy kind rows enough =
    length-take-le (need_of policy kind) (rows_in_order policy kind rows)
    (leb-true (need_of policy kind) (length (rows_in_order policy kind rows)) enough)

-- what is given of one of the items

filter_map_only : {A B : Type 0} (h : A → Option B) (xs : List A) (y : B) → Contains (filter_map h xs) y
    → (x : A) × Contains xs x × (h x ≡ Some y)
filter_map_only h [] y there = absurd (Contains-nil y there)
filter_map_only {A} {B} h (x ∷ xs) y there = by_value (filter_map_only h xs y) (h x) refl there
  where
    further : (z : A) × Contains xs z × (h z ≡ Some y) → (z : A) × Contains (x ∷ xs) z × (h z ≡ Some y)
    further at = (at.0, Contains-cons x xs at.0 at.1, at.2)

    by_case : (Contains (filter_map h xs) y → (z : A) × Contains xs z × (h z ≡ Some y)) → (v : B) → h x ≡ Some v
        → (v ≡ y) ⊎ Contains (filter_map h xs) y → (z : A) × Contains (x ∷ xs) z × (h z ≡ Some y)
    by_case later v is (inl same) = (x, Contains-head x xs, is ∙ ap (λ (w : B). Some w) same)
    by_case later v is (inr now) = further (later now)

    by_value : (Contains (filter_map h xs) y → (z : A) × Contains xs z × (h z ≡ Some y)) → (o : Option B) → h x ≡ o
        → Contains (cons_option o (filter_map h xs)) y → (z : A) × Contains (x ∷ xs) z × (h z ≡ Some y)
    by_value later None is now = further (later now)
    by_value later (Some v) is now = by_case later v is (Contains-cons_cases v (filter_map h xs) y now)

pub found_at_targets : (state : RecoveryState) (policy : Policy) (search : Search) (row : RowCopy) → Contains (rows_found state policy search) row
    → (node : NodeId) × Contains (state.shown.targets search.level search.oid policy) node
    × (row_of_target state.recovery.me (own_row state.shown search.oid search.level) search.answers node ≡ Some row)
found_at_targets state policy search row there =
    filter_map_only (row_of_target state.recovery.me (own_row state.shown search.oid search.level) search.answers)
    (state.shown.targets search.level search.oid policy) row there

-- ---- the node's own row

-- what is given of an item is there
filter_map_has : {A B : Type 0} (h : A → Option B) (xs : List A) (x : A) (y : B) → Contains xs x → h x ≡ Some y → Contains (filter_map h xs) y
filter_map_has h [] x y there is = absurd (Contains-nil x there)
filter_map_has {A} {B} h (z ∷ xs) x y there is = by_case (λ now. filter_map_has h xs x y now is) (Contains-cons_cases z xs x there)
  where
    further : (o : Option B) → Contains (filter_map h xs) y → Contains (cons_option o (filter_map h xs)) y
    further None now = now
    further (Some w) now = Contains-cons w (filter_map h xs) y now

    by_case : (Contains xs x → Contains (filter_map h xs) y) → (z ≡ x) ⊎ Contains xs x → Contains (cons_option (h z) (filter_map h xs)) y
    by_case later (inl same) =
        subst (λ (o : Option B). Contains (cons_option o (filter_map h xs)) y) (sym (ap h same ∙ is)) (Contains-head y (filter_map h xs))
    by_case later (inr now) = further (h z) (later now)

pub own_row_found : (state : RecoveryState) (policy : Policy) (search : Search) (row : RowCopy)
    → Contains (state.shown.targets search.level search.oid policy) state.recovery.me
    → own_row state.shown search.oid search.level ≡ Some row → Contains (rows_found state policy search) row
own_row_found state policy search row there is =
    let same : (state.recovery.me.0 == state.recovery.me.0) ≡ true = grind (arith, nat_tests) in
    filter_map_has (row_of_target state.recovery.me (own_row state.shown search.oid search.level) search.answers)
    (state.shown.targets search.level search.oid policy) state.recovery.me row there
    (ap (λ b. cond b (own_row state.shown search.oid search.level) (answered_row state.recovery.me search.answers)) same ∙ is)
