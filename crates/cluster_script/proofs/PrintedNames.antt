-- A word that passes the test of a name is a printed name.
use Rattle.std.proofs.Common.{◌≡◌, ◌≢◌, ℕ, ◌≤◌, true, not, ◌&&◌, List, [], ◌∷◌, length, subst, Some}
use Rattle.std.specs.Prelude.{nat_le, nat_eq, codes, slice_get}
use Rattle.std.specs.List.{list_all, starts_with, AllByRecursion}
use Rattle.std.proofs.lemmas.List.Elements.{All-from_recursion}
use Rattle.std.proofs.lemmas.Bool.{and_parts, leb-true}
use Rattle.object_id.specs.declared.limits.TheConstants.{NAME_BYTES_MAX}
use Rattle.cluster_script.specs.Language.{IsPrintedName}
use Rattle.cluster_script.specs.Words.{is_printed_name, is_name_byte}

each_printed : (name : List ℕ) → list_all is_name_byte name ≡ true → AllByRecursion (λ byte. (33 ≤ byte) × (byte ≤ 126)) name
each_printed [] passed = tt
each_printed (byte ∷ rest) passed =
    let parts = and_parts (is_name_byte byte) (list_all is_name_byte rest) passed in
    let bounds = and_parts (nat_le 33 byte) (nat_le byte 126) parts.0 in
    ((leb-true 33 byte bounds.0, leb-true byte 126 bounds.1), each_printed rest parts.1)

not_dash : (name : List ℕ) → not (starts_with nat_eq name (codes "-")) ≡ true → slice_get name 0 ≢ Some 45
not_dash [] passed e = absurd cc
not_dash (byte ∷ rest) passed e =
    let same : byte ≡ 45 = cc in
    let k = subst (λ (n : ℕ). not (starts_with nat_eq (n ∷ rest) (codes "-")) ≡ true) same passed in
    absurd cc

-- a name by the tests is a name
pub name_of_test : (name : List ℕ) → is_printed_name name ≡ true → IsPrintedName name
name_of_test name named =
    let last = and_parts (nat_le 1 (length name) && nat_le (length name) NAME_BYTES_MAX && list_all is_name_byte name) (not (starts_with nat_eq name (codes "-"))) named in
    let third = and_parts (nat_le 1 (length name) && nat_le (length name) NAME_BYTES_MAX) (list_all is_name_byte name) last.0 in
    let lengths = and_parts (nat_le 1 (length name)) (nat_le (length name) NAME_BYTES_MAX) third.0 in
    record {
      some = leb-true 1 (length name) lengths.0;
      short = leb-true (length name) NAME_BYTES_MAX lengths.1;
      printed = All-from_recursion (λ byte. (33 ≤ byte) × (byte ≤ 126)) name (each_printed name third.1);
      no_option = not_dash name last.1;
    }
