-- What a piece that is inside an open row means for the calls that are given one.
use Rattle.std.proofs.Common.{◌≡◌, ℕ, ◌+◌, ◌≤◌, Bool, true, false, cond, List, [], length, Option, Some, None, Result, Ok, Err, OnErr, IfSome, IsSome, unwrap_or, nat_le, map, refl, ap, sym, ◌∙◌, arith}
use Rattle.std.specs.Option.{option_map}
use Rattle.std.specs.Ordering.{nat_cmp}
use Rattle.std.specs.Map.{lookup}
use Rattle.std.specs.BTreeMap.{is_at}
use Rattle.std.specs.FinMap as tree
use Rattle.std.proofs.lemmas.Bool.Decides.{nat_tests}
use Rattle.object_store.specs.declared.key.Key.{Key}
use Rattle.object_store.specs.declared.row.Row.{Row}
use Rattle.object_store.specs.declared.fault.StoreFault.{StoreFault}
use Rattle.object_store.specs.declared.fault.StoreFault.TheVariants.{OutOfObject}
use Rattle.object_store.specs.Rows.{open_at, row_holding}
use Rattle.object_store.specs.Store.{SeenRow, AllRows, rows_of, open_row, value_within, on_open, piece_there, write_in, write_at, copy_of, copy_at}
use Rattle.object_store.specs.KeptRows.{seen_row}
use Rattle.object_store.specs.Objects.{Objects, seen_objects, HaveRows-seen_objects, kept_of, IsPut}
use Rattle.object_store.proofs.ObjectLemmas.{open_row-seen_objects, rows_of-seen_objects, one_put}
use Rattle.object_store.proofs.SeenLemmas.{seen_row-row_holding}
use Rattle.object_store.proofs.ThereLemmas.{HaveRows-write}

abbrev answer : {A : Type 0} → Bool → A → Result A StoreFault
answer b there = cond b (Ok there) (Err OutOfObject)

taken : (b : Bool) → answer b (tt {0}) ≡ Ok (tt {0}) → b ≡ true
taken true e = refl
taken false e = absurd (cc)

pub ends_within : (end size : ℕ) → value_within end size (tt {0}) ≡ Ok (tt {0}) → end ≤ size
ends_within end size e = let t = taken (nat_le end size) e in grind (arith, nat_tests)

-- a piece within the size is within it for whatever is made
pub value_within-Ok : {A : Type 0} (end size : ℕ) (there : A) → value_within end size (tt {0}) ≡ Ok (tt {0}) → value_within end size there ≡ Ok there
value_within-Ok end size there e = ap (λ b. answer b there) (taken (nat_le end size) e)

pub on_open-Ok : {A : Type 0} (end : ℕ) (o : Option SeenRow) (there : A) → on_open end o (λ row. tt {0}) ≡ Ok (tt {0}) → on_open end o (λ row. there) ≡ Ok there
on_open-Ok end None there e = absurd (cc)
on_open-Ok end (Some row) there e = value_within-Ok end (length row.bytes) there e

module _ {K : Type 0} (bytes : K → List ℕ) where
  kept_end : (end : ℕ) (o : Option (Row K)) → on_open end (option_map (seen_row bytes) o) (λ row. tt {0}) ≡ Ok (tt {0}) → IfSome o (λ row. end ≤ length (bytes row.bytes))
  kept_end end None e = absurd (cc)
  kept_end end (Some row) e = ends_within end (length (bytes row.bytes)) e

  -- the open row reaches to the piece's end
  pub piece_there-value_within : (es : Objects K) (key : Key) (offset n : ℕ) → piece_there (seen_objects bytes es) key offset n ≡ Ok (tt {0})
      → IfSome (open_at key.index (kept_of es key.oid)) (λ row. offset + n ≤ length (bytes row.bytes))
  piece_there-value_within es key offset n e =
      kept_end (offset + n) (open_at key.index (kept_of es key.oid))
      (ap (λ o. on_open (offset + n) o (λ row. tt {0})) (sym (open_row-seen_objects bytes es key)) ∙ e)

  -- the object has rows
  pub piece_there-found : (es : Objects K) (key : Key) (offset n : ℕ) → piece_there (seen_objects bytes es) key offset n ≡ Ok (tt {0})
      → IsSome (lookup (is_at (nat_cmp key.oid)) es)
  piece_there-found es key offset n e =
      go (lookup (is_at (nat_cmp key.oid)) es) (ap (λ o. on_open (offset + n) o (λ row. tt {0})) (sym (open_row-seen_objects bytes es key)) ∙ e)
    where
      go : (o : Option (List (Row K))) → on_open (offset + n) (option_map (seen_row bytes) (open_at key.index (unwrap_or o []))) (λ row. tt {0}) ≡ Ok (tt {0}) → IsSome o
      go None e = absurd (cc)
      go (Some rows) e = refl

  -- the object's rows with the piece are put
  pub write_at-put : (es fs : Objects K) (key : Key) (offset : ℕ) (piece : List ℕ) (rows : List (Row K)) → piece_there (seen_objects bytes es) key offset (length piece) ≡ Ok (tt {0})
      → IsPut es fs key.oid rows → map (seen_row bytes) rows ≡ write_in key.index offset piece (map (seen_row bytes) (kept_of es key.oid))
      → write_at (seen_objects bytes es) key offset piece ≡ Ok (seen_objects bytes fs)
  write_at-put es fs key offset piece rows there put is =
      let shown : List SeenRow = write_in key.index offset piece (rows_of (seen_objects bytes es) key.oid) in
      let all : AllRows = tree.insert (seen_objects bytes es) key.oid shown in
      let written : write_at (seen_objects bytes es) key offset piece ≡ Ok all = on_open-Ok (offset + length piece) (open_row (seen_objects bytes es) key) all there in
      let same : map (seen_row bytes) rows ≡ shown = is ∙ ap (write_in key.index offset piece) (sym (rows_of-seen_objects bytes es key.oid)) in
      written
      ∙ ap Ok (sym (one_put bytes es fs key.oid rows shown put same (HaveRows-write (seen_objects bytes es) all key offset piece (HaveRows-seen_objects bytes es) written)))

  pub copy_at-seen_objects : (es : Objects K) (oid level : ℕ) → copy_at (seen_objects bytes es) oid level ≡ option_map copy_of (option_map (seen_row bytes) (row_holding level (kept_of es oid)))
  copy_at-seen_objects es oid level =
      ap (λ rows. option_map copy_of (row_holding level rows)) (rows_of-seen_objects bytes es oid)
      ∙ ap (option_map copy_of) (sym (seen_row-row_holding bytes level (kept_of es oid)))

pub OnErr-weaker : {X Y : Type 0} (r : Result X Y) (P Q : Type 0) → (P → Q) → OnErr r P → OnErr r Q
OnErr-weaker (Ok x) P Q more h = tt
OnErr-weaker (Err y) P Q more h = more h
