-- What a store holds after any list of calls.
use Rattle.std.proofs.Common.{◌≡◌, ◌≢◌, inl, inr, ℕ, ◌+◌, ◌-◌, ◌<◌, ◌≤◌, Bool, true, false, not, cond, ◌&&◌, nat_eq, nat_le, nat_lt, List, [], ◌∷◌, ◌++◌, length, map, filter, fold, take, drop, get_or, Option, Some, None, Result, Ok, Err, refl, ap, sym, ◌∙◌, subst, arith}
use Rattle.std.proofs.lemmas.List.{length-append, length-take-le, length-drop, get_or_append_left, get_or-take, get_or-append_right, get_or-drop, get_or-replicate, length-replicate, ext_get_or}
use Rattle.std.proofs.lemmas.List.FromFn.{length-map-range_with_len, get_or-map-range_with_len}
use Rattle.std.proofs.lemmas.Bool.Decides.{nat_tests}
use Rattle.std.specs.List.{range_with_len}
use Rattle.std.specs.Option.{option_map}
use Rattle.std.specs.Result.{result_unwrap_or}
use Rattle.std.specs.FinMap as tree
use Rattle.std.proofs.lemmas.Bool.{eqb-true, eqb-false, eq-eqb, and_parts}
use Rattle.object_id.specs.Oid.{vid_of}
use Rattle.object_id.specs.Piece.{laid_over}
use Rattle.object_store.specs.declared.key.Key.{Key}
use Rattle.object_store.specs.declared.fault.StoreFault.{StoreFault}
use Rattle.object_store.specs.declared.fault.StoreFault.TheVariants.{OutOfObject}
use Rattle.object_id.specs.Fields.{zeros}
use Rattle.object_store.specs.Bytes.{piece_at}
use Rattle.object_store.specs.Rows.{is_open, is_open_at, open_at, closed, closed_all, is_replaced, ended, created, changed, is_kept, advanced_row, advanced, purged, has_ended_below, without_disk}
use Rattle.object_store.specs.Store.{SeenRow, AllRows, rows_of, open_row, value_within, on_open, read_at, create_in, write_in, each}
use Rattle.object_store.specs.Calls.{Call, Create, Write, Advance, CloseAll, PurgeBelow, DropVid, rows_step, rows_after, Story, byte_at, with_piece, story_after, story_of, read_story, touches, Has}
use Rattle.object_store.proofs.RowLemmas.{find-front, closed_all-closed, closed-same}
use Rattle.object_store.proofs.RoomLemmas.{open-closed_all, open-advanced, open-purged, without_disk-none}
use Rattle.object_store.proofs.StoreLaws.{rows_of-empty, rows_of-insert_same, rows_of-insert_other, rows_of-each}

-- ---- the bytes of a row, place by place

pub length-laid_over : (bytes : List ℕ) (offset : ℕ) (piece : List ℕ) → offset + length piece ≤ length bytes → length (laid_over bytes offset piece) ≡ length bytes
length-laid_over bytes offset piece value_within =
    let front : length (take offset bytes) ≡ offset = length-take-le offset bytes (omega arith) in
    let rest : length (drop (offset + length piece) bytes) ≡ length bytes - (offset + length piece) = length-drop (offset + length piece) bytes in
    length-append (take offset bytes ++ piece) (drop (offset + length piece) bytes) ∙ (omega (arith, length-append (take offset bytes) piece))

-- the piece's byte where it reaches, and the old one elsewhere
pub get_or-laid_over : (bytes : List ℕ) (offset : ℕ) (piece : List ℕ) (k : ℕ) → offset + length piece ≤ length bytes → k < length bytes
    → get_or (laid_over bytes offset piece) k 0 ≡ cond (nat_le offset k && nat_lt k (offset + length piece)) (get_or piece (k - offset) 0) (get_or bytes k 0)
get_or-laid_over bytes offset piece k fits inside =
    go (nat_le offset k) refl (nat_lt k (offset + length piece)) refl
  where
    front : List ℕ
    front = take offset bytes

    rest : List ℕ
    rest = drop (offset + length piece) bytes

    long : length front ≡ offset
    long = length-take-le offset bytes (omega arith)

    longer : length (front ++ piece) ≡ offset + length piece
    longer = length-append front piece ∙ ap (λ n. n + length piece) long

    go : (a : Bool) → nat_le offset k ≡ a → (b : Bool) → nat_lt k (offset + length piece) ≡ b
        → get_or (laid_over bytes offset piece) k 0 ≡ cond (nat_le offset k && nat_lt k (offset + length piece)) (get_or piece (k - offset) 0) (get_or bytes k 0)
    go false before b e =
        let below : k < offset = grind (arith, nat_tests) in
        get_or_append_left (front ++ piece) rest 0 k (omega (arith, longer)) ∙ get_or_append_left front piece 0 k (omega (arith, long)) ∙ get_or-take offset bytes k 0 below
        ∙ sym (ap (λ t. cond (t && nat_lt k (offset + length piece)) (get_or piece (k - offset) 0) (get_or bytes k 0)) before)
    go true from true upto =
        let above : offset ≤ k = grind (arith, nat_tests) in
        let below : k < offset + length piece = grind (arith, nat_tests) in
        get_or_append_left (front ++ piece) rest 0 k (omega (arith, longer)) ∙ get_or-append_right front piece offset k 0 long above
        ∙ sym (ap (λ t. cond (t && nat_lt k (offset + length piece)) (get_or piece (k - offset) 0) (get_or bytes k 0)) from
        ∙ ap (λ t. cond t (get_or piece (k - offset) 0) (get_or bytes k 0)) upto)
    go true from false behind =
        let past : offset + length piece ≤ k = grind (arith, nat_tests) in
        let back : offset + length piece + (k - (offset + length piece)) ≡ k = omega arith in
        get_or-append_right (front ++ piece) rest (offset + length piece) k 0 longer past ∙ get_or-drop (offset + length piece) bytes (k - (offset + length piece)) 0
        ∙ ap (λ n. get_or bytes n 0) back
        ∙ sym (ap (λ t. cond (t && nat_lt k (offset + length piece)) (get_or piece (k - offset) 0) (get_or bytes k 0)) from
        ∙ ap (λ t. cond t (get_or piece (k - offset) 0) (get_or bytes k 0)) behind)

-- the bytes are those that the pieces tell
HasBytes : Story → List ℕ → Type 0
HasBytes story bytes = (length bytes ≡ story.size) × ((k : ℕ) → k < story.size → get_or bytes k 0 ≡ byte_at story.pieces k)

HasBytes-zeros : (size : ℕ) → HasBytes (record { size = size; pieces = [] }) (zeros size)
unfolding HasBytes
HasBytes-zeros size = (length-replicate size 0, λ k inside. get_or-replicate size k 0 0 inside)

HasBytes-laid : (story : Story) (bytes : List ℕ) (offset : ℕ) (piece : List ℕ) → HasBytes story bytes → offset + length piece ≤ story.size
    → HasBytes (record { size = story.size; pieces = (offset, piece) ∷ story.pieces }) (laid_over bytes offset piece)
unfolding HasBytes
HasBytes-laid story bytes offset piece had value_within =
    let inside : offset + length piece ≤ length bytes = omega (arith, had.0) in (
      length-laid_over bytes offset piece inside ∙ had.0,
      λ k below. get_or-laid_over bytes offset piece k inside (omega (arith, had.0))
          ∙ ap (cond (nat_le offset k && nat_lt k (offset + length piece)) (get_or piece (k - offset) 0)) (had.1 k below),
    )

pub piece_of_bytes : (f : ℕ → ℕ) (bytes : List ℕ) (offset n : ℕ) → offset + n ≤ length bytes → ((k : ℕ) → k < length bytes → get_or bytes k 0 ≡ f k)
    → piece_at bytes offset n ≡ map f (range_with_len offset n)
piece_of_bytes f bytes offset n value_within is =
    let rest : length (drop offset bytes) ≡ length bytes - offset = length-drop offset bytes in
    let long : length (piece_at bytes offset n) ≡ n = length-take-le n (drop offset bytes) (omega arith) in
    ext_get_or 0 (piece_at bytes offset n) (map f (range_with_len offset n)) (long ∙ sym (length-map-range_with_len f offset n))
    (λ i below. let inside : i < n = omega (arith, long) in
    get_or-take n (drop offset bytes) i 0 inside ∙ get_or-drop offset bytes i 0 ∙ is (offset + i) (omega arith)
    ∙ sym (get_or-map-range_with_len f offset n i (offset + i) 0 inside refl))

-- ---- the open row of an index after a change

open-created : (i index epoch : ℕ) (bytes : List ℕ) (rows : List SeenRow)
    → open_at i (created index epoch bytes rows) ≡ cond (nat_eq index i) (Some (record { index = index; from = record { 0 = epoch }; to = None; bytes = bytes })) None
open-created i index epoch bytes rows =
    find-front i (ended epoch rows) _ (closed_all-closed (epoch - 1) (filter (λ row. not (is_replaced epoch row)) rows))

laid : (List ℕ → List ℕ) → SeenRow → SeenRow
laid change row = record row { bytes = change row.bytes }

open-changed : (i : ℕ) (change : List ℕ → List ℕ) (rows : List SeenRow) → open_at i (changed (is_open_at i) change rows) ≡ option_map (laid change) (open_at i rows)
unfolding laid
open-changed i change [] = refl
open-changed i change (row ∷ rows) = go (is_open_at i row) refl (open-changed i change rows)
  where
    go : (b : Bool) → is_open_at i row ≡ b → open_at i (changed (is_open_at i) change rows) ≡ option_map (laid change) (open_at i rows)
        → open_at i (cond (is_open_at i row) ((record row { bytes = change row.bytes }) ∷ rows) (row ∷ changed (is_open_at i) change rows))
        ≡ option_map (laid change) (cond (is_open_at i row) (Some row) (open_at i rows))
    go true is rest =
        ap (λ b. open_at i (cond b ((record row { bytes = change row.bytes }) ∷ rows) (row ∷ changed (is_open_at i) change rows))) is
        ∙ ap (λ b. cond b (Some (laid change row)) (open_at i rows)) is
        ∙ sym (ap (λ b. option_map (laid change) (cond b (Some row) (open_at i rows))) is)
    go false is rest =
        ap (λ b. open_at i (cond b ((record row { bytes = change row.bytes }) ∷ rows) (row ∷ changed (is_open_at i) change rows))) is
        ∙ ap (λ b. cond b (Some row) (open_at i (changed (is_open_at i) change rows))) is ∙ rest
        ∙ sym (ap (λ b. option_map (laid change) (cond b (Some row) (open_at i rows))) is)

open-changed_other : (i j : ℕ) (change : List ℕ → List ℕ) (rows : List SeenRow) → j ≢ i → open_at i (changed (is_open_at j) change rows) ≡ open_at i rows
open-changed_other i j change [] apart = refl
open-changed_other i j change (row ∷ rows) apart = go (is_open_at j row) refl (is_open_at i row) refl (open-changed_other i j change rows apart)
  where
    new : SeenRow
    new = record row { bytes = change row.bytes }

    go : (b : Bool) → is_open_at j row ≡ b → (t : Bool) → is_open_at i row ≡ t → open_at i (changed (is_open_at j) change rows) ≡ open_at i rows
        → open_at i (cond b (new ∷ rows) (row ∷ changed (is_open_at j) change rows)) ≡ cond (is_open_at i row) (Some row) (open_at i rows)
    go true here true there rest =
        absurd (apart (sym (eqb-true row.index j (and_parts (is_open row) _ here).1) ∙ eqb-true row.index i (and_parts (is_open row) _ there).1))
    go true here false there rest =
        ap (λ b. cond b (Some new) (open_at i rows)) there ∙ sym (ap (λ b. cond b (Some row) (open_at i rows)) there)
    go false here t there rest = ap (cond (is_open_at i row) (Some row)) rest

-- ---- what the calls tell of the open row of a key

Tells : AllRows → Key → Option Story → Type 0
Tells all key None = open_row all key ≡ None
Tells all key (Some story) = (row : SeenRow) × (open_row all key ≡ Some row) × HasBytes story row.bytes

-- the same open row tells the same
Tells-same : (all new : AllRows) (key : Key) (story : Option Story) → open_row new key ≡ open_row all key → Tells all key story → Tells new key story
unfolding Tells
Tells-same all new key None same had = same ∙ had
Tells-same all new key (Some story) same had = (had.0, same ∙ had.1, had.2)

Tells-none : (all : AllRows) (key : Key) → open_row all key ≡ None → Tells all key None
unfolding Tells
Tells-none all key none = none

open_row-each : (change : ℕ → List SeenRow → List SeenRow) (all : AllRows) (key : Key) → change key.oid [] ≡ []
    → open_row (each change all) key ≡ open_at key.index (change key.oid (rows_of all key.oid))
open_row-each change all key none = ap (open_at key.index) (rows_of-each change all key.oid none)

story_after-create : (all : AllRows) (key : Key) (story : Option Story) (made : Key) (epoch size offset : ℕ) (piece : List ℕ) → Tells all key story
    → Tells (rows_step all (Create made epoch size offset piece)) key (story_after key story (Create made epoch size offset piece))
unfolding Tells HasBytes
story_after-create all key story made epoch size offset piece had =
    go (nat_le (offset + length piece) size) refl (nat_eq made.oid key.oid) refl (nat_eq made.index key.index) refl
  where
    bytes : List ℕ
    bytes = laid_over (zeros size) offset piece

    new : AllRows
    new = tree.insert all made.oid (create_in made.index epoch size offset piece (rows_of all made.oid))

    row : SeenRow
    row = record { index = made.index; from = record { 0 = epoch }; to = None; bytes = bytes }

    here : made.oid ≡ key.oid → open_row new key ≡ cond (nat_eq made.index key.index) (Some row) None
    here same =
        ap (λ oid. open_at key.index (rows_of new oid)) (sym same)
        ∙ ap (open_at key.index) (rows_of-insert_same all made.oid (create_in made.index epoch size offset piece (rows_of all made.oid)))
        ∙ open-created key.index made.index epoch bytes (rows_of all made.oid)

    go : (a : Bool) → nat_le (offset + length piece) size ≡ a → (b : Bool) → nat_eq made.oid key.oid ≡ b → (t : Bool) → nat_eq made.index key.index ≡ t
        → Tells (result_unwrap_or (cond a (Ok new) (Err OutOfObject)) all) key
        (cond (a && b) (cond t (Some (record { size = size; pieces = (offset, piece) ∷ [] })) None) story)
    go false out b e t f = had
    go true value_within false apart t f =
        Tells-same all new key story (ap (open_at key.index) (rows_of-insert_other all made.oid _ key.oid (λ same. eqb-false made.oid key.oid apart (sym same)))) had
    go true value_within true same true this = (
      row,
      here (eqb-true made.oid key.oid same) ∙ ap (λ b. cond b (Some row) None) this,
      HasBytes-laid (record { size = size; pieces = [] }) (zeros size) offset piece (HasBytes-zeros size) (grind (arith, nat_tests)),
    )
    go true value_within true same false other = here (eqb-true made.oid key.oid same) ∙ ap (λ b. cond b (Some row) None) other

picked : {A : Type 0} → Bool → A → Result A StoreFault
picked b there = cond b (Ok there) (Err OutOfObject)

module _ (all : AllRows) (key given : Key) (offset : ℕ) (piece : List ℕ) where
  change_by : List ℕ → List ℕ
  change_by bytes = laid_over bytes offset piece

  wrote : AllRows
  wrote = tree.insert all given.oid (write_in given.index offset piece (rows_of all given.oid))

  written_at : Option SeenRow → AllRows
  written_at o = result_unwrap_or (on_open (offset + length piece) o (λ row. wrote)) all

  written_if : Bool → AllRows
  written_if b = result_unwrap_or (picked b wrote) all

  either_way : (b : Bool) → open_row wrote key ≡ open_row all key → open_row (written_if b) key ≡ open_row all key
  unfolding written_if picked
  either_way true same = same
  either_way false same = refl

  unseen : (o : Option SeenRow) → open_row wrote key ≡ open_row all key → open_row (written_at o) key ≡ open_row all key
  unfolding written_at written_if picked
  unseen None same = refl
  unseen (Some row) same = either_way (nat_le (offset + length piece) (length row.bytes)) same

  rows_written : given.oid ≡ key.oid → rows_of wrote key.oid ≡ write_in given.index offset piece (rows_of all key.oid)
  unfolding wrote
  rows_written same =
      ap (rows_of wrote) (sym same) ∙ rows_of-insert_same all given.oid (write_in given.index offset piece (rows_of all given.oid))
      ∙ ap (λ oid. write_in given.index offset piece (rows_of all oid)) same

  rows_elsewhere : given.oid ≢ key.oid → rows_of wrote key.oid ≡ rows_of all key.oid
  unfolding wrote
  rows_elsewhere apart =
      rows_of-insert_other all given.oid (write_in given.index offset piece (rows_of all given.oid)) key.oid (λ same. apart (sym same))

  row_written : (row : SeenRow) → given.oid ≡ key.oid → given.index ≡ key.index → open_row all key ≡ Some row → open_row wrote key ≡ Some (laid change_by row)
  unfolding change_by
  row_written row same this is =
      ap (open_at key.index) (rows_written same)
      ∙ (λ i. open_at key.index (changed (is_open_at (this i)) (λ bytes. laid_over bytes offset piece) (rows_of all key.oid)))
      ∙ open-changed key.index (λ bytes. laid_over bytes offset piece) (rows_of all key.oid) ∙ ap (option_map (laid (λ bytes. laid_over bytes offset piece))) is

  told_if : (b : Bool) (story : Story) → nat_le (offset + length piece) story.size ≡ b → given.oid ≡ key.oid → given.index ≡ key.index → Tells all key (Some story)
      → Tells (written_if b) key (cond b (Some (record { size = story.size; pieces = (offset, piece) ∷ story.pieces })) (Some story))
  unfolding Tells HasBytes laid change_by written_if picked
  told_if true story e same this had =
      (laid change_by had.0, row_written had.0 same this had.1, HasBytes-laid story had.0.bytes offset piece had.2 (grind (arith, nat_tests)))
  told_if false story e same this had = had

  told_written : (story : Option Story) → given.oid ≡ key.oid → given.index ≡ key.index → Tells all key story → Tells (written_at (open_row all given)) key (with_piece offset piece story)
  unfolding Tells HasBytes written_at written_if picked
  told_written None same this had =
      let open_is : open_row all given ≡ None = (λ i. open_at (this i) (rows_of all (same i))) ∙ had in
      subst (λ o. Tells (written_at o) key None) (sym open_is) had
  told_written (Some story) same this had =
      let open_is : open_row all given ≡ Some had.0 = (λ i. open_at (this i) (rows_of all (same i))) ∙ had.1 in
      subst (λ o. Tells (written_at o) key (with_piece offset piece (Some story))) (sym open_is)
      (subst (λ n. Tells (written_if (nat_le (offset + length piece) n)) key (with_piece offset piece (Some story))) (sym had.2.0)
      (told_if (nat_le (offset + length piece) story.size) story refl same this had))

  told_either : (story : Option Story) (a b : Bool) → nat_eq given.oid key.oid ≡ a → nat_eq given.index key.index ≡ b → Tells all key story
      → Tells (written_at (open_row all given)) key (cond (a && b) (with_piece offset piece story) story)
  told_either story true true same this had = told_written story (eqb-true given.oid key.oid same) (eqb-true given.index key.index this) had
  told_either story true false same other had =
      Tells-same all (written_at (open_row all given)) key story
      (unseen (open_row all given)
      (ap (open_at key.index) (rows_written (eqb-true given.oid key.oid same))
      ∙ open-changed_other key.index given.index (λ bytes. laid_over bytes offset piece) (rows_of all key.oid) (eqb-false given.index key.index other))) had
  told_either story false b apart t had =
      Tells-same all (written_at (open_row all given)) key story
      (unseen (open_row all given) (ap (open_at key.index) (rows_elsewhere (eqb-false given.oid key.oid apart)))) had

  told-write : (story : Option Story) → Tells all key story → Tells (rows_step all (Write given offset piece)) key (story_after key story (Write given offset piece))
  unfolding written_at wrote
  told-write story had = told_either story (nat_eq given.oid key.oid) (nat_eq given.index key.index) refl refl had

story_after-call : (all : AllRows) (key : Key) (story : Option Story) (call : Call) → Tells all key story → Tells (rows_step all call) key (story_after key story call)
story_after-call all key story (Create made epoch size offset piece) had = story_after-create all key story made epoch size offset piece had
story_after-call all key story (Write given offset piece) had = told-write all key given offset piece story had
story_after-call all key story (Advance next keeps) had =
    go (is_kept keeps key.oid key.index) (open_row-each (advanced keeps next) all key refl ∙ open-advanced keeps next key.oid key.index (rows_of all key.oid))
  where
    go : (b : Bool) → open_row (each (advanced keeps next) all) key ≡ cond b (open_row all key) None → Tells (each (advanced keeps next) all) key (cond b story None)
    go true is = Tells-same all (each (advanced keeps next) all) key story is had
    go false is = Tells-none (each (advanced keeps next) all) key is
story_after-call all key story (CloseAll last) had =
    Tells-none (each (λ _. closed_all last) all) key
    (open_row-each (λ _. closed_all last) all key refl ∙ open-closed_all key.index last (rows_of all key.oid))
story_after-call all key story (PurgeBelow settled) had =
    Tells-same all (each (λ _. purged settled) all) key story
    (open_row-each (λ _. purged settled) all key refl ∙ open-purged settled key.index (rows_of all key.oid)) had
story_after-call all key story (DropVid vid) had =
    go (nat_eq (vid_of key.oid) vid) (open_row-each (without_disk vid) all key (without_disk-none vid key.oid))
  where
    go : (b : Bool) → open_row (each (without_disk vid) all) key ≡ open_at key.index (cond b [] (rows_of all key.oid))
        → Tells (each (without_disk vid) all) key (cond b None story)
    go true is = Tells-none (each (without_disk vid) all) key is
    go false is = Tells-same all (each (without_disk vid) all) key story is had

story_after-calls : (calls : List Call) (all : AllRows) (key : Key) (story : Option Story) → Tells all key story → Tells (fold rows_step all calls) key (fold (story_after key) story calls)
story_after-calls [] all key story had = had
story_after-calls (call ∷ calls) all key story had = story_after-calls calls (rows_step all call) key (story_after key story call) (story_after-call all key story call had)

read-story_after : (all : AllRows) (key : Key) (story : Option Story) (offset n : ℕ) → Tells all key story → read_at all key offset n ≡ read_story story offset n
unfolding Tells HasBytes
read-story_after all key None offset n had = ap (λ o. on_open (offset + n) o (λ row. piece_at row.bytes offset n)) had
read-story_after all key (Some story) offset n had =
    ap (λ o. on_open (offset + n) o (λ row. piece_at row.bytes offset n)) had.1
    ∙ ap (λ size. value_within (offset + n) size (piece_at had.0.bytes offset n)) had.2.0
    ∙ go (nat_le (offset + n) story.size) refl
  where
    told_bytes : List ℕ
    told_bytes = map (byte_at story.pieces) (range_with_len offset n)

    go : (b : Bool) → nat_le (offset + n) story.size ≡ b
        → cond b (Ok (piece_at had.0.bytes offset n)) (Err OutOfObject) ≡ cond b (Ok told_bytes) (Err OutOfObject)
    go true e =
        let ends : offset + n ≤ story.size = grind (arith, nat_tests) in
        ap Ok (piece_of_bytes (byte_at story.pieces) had.0.bytes offset n (omega (arith, had.2.0)) (λ k below. had.2.1 k (omega (arith, had.2.0))))
    go false e = refl

-- a read gives the byte of the latest piece at each place, and 0 where none reaches
pub read-rows_after : (calls : List Call) (key : Key) (offset n : ℕ) → read_at (rows_after calls) key offset n ≡ read_story (story_of key calls) offset n
read-rows_after calls key offset n =
    read-story_after (rows_after calls) key (story_of key calls) offset n
    (story_after-calls calls tree.empty key None (Tells-none tree.empty key (ap (open_at key.index) (rows_of-empty key.oid))))

-- ---- rows that a call isn't about

Has-map : (f : SeenRow → SeenRow) (row : SeenRow) (rows : List SeenRow) → f row ≡ row → Has row rows → Has row (map f rows)
Has-map f row [] same has = has
Has-map f row (r ∷ rows) same (inl is) = inl (ap f is ∙ same)
Has-map f row (r ∷ rows) same (inr has) = inr (Has-map f row rows same has)

Has-filter : (p : SeenRow → Bool) (row : SeenRow) (rows : List SeenRow) → p row ≡ true → Has row rows → Has row (filter p rows)
Has-filter p row [] passes has = has
Has-filter p row (r ∷ rows) passes (inl is) =
    subst (λ b. Has row (cond b (r ∷ filter p rows) (filter p rows))) (sym (ap p is ∙ passes)) (inl is)
Has-filter p row (r ∷ rows) passes (inr has) = go (p r) (Has-filter p row rows passes has)
  where
    go : (b : Bool) → Has row (filter p rows) → Has row (cond b (r ∷ filter p rows) (filter p rows))
    go true rest = inr rest
    go false rest = rest

Has-append : (row : SeenRow) (rows more : List SeenRow) → Has row rows → Has row (rows ++ more)
Has-append row [] more has = absurd has
Has-append row (r ∷ rows) more (inl is) = inl is
Has-append row (r ∷ rows) more (inr has) = inr (Has-append row rows more has)

Has-changed : (p : SeenRow → Bool) (change : List ℕ → List ℕ) (row : SeenRow) (rows : List SeenRow) → p row ≡ false → Has row rows → Has row (changed p change rows)
Has-changed p change row [] fails has = has
Has-changed p change row (r ∷ rows) fails (inl is) =
    subst (λ b. Has row (cond b ((record r { bytes = change r.bytes }) ∷ rows) (r ∷ changed p change rows))) (sym (ap p is ∙ fails)) (inl is)
Has-changed p change row (r ∷ rows) fails (inr has) = go (p r) (Has-changed p change row rows fails has)
  where
    go : (b : Bool) → Has row (changed p change rows) → Has row (cond b ((record r { bytes = change r.bytes }) ∷ rows) (r ∷ changed p change rows))
    go true rest = inr has
    go false rest = inr rest

Has-each : (change : ℕ → List SeenRow → List SeenRow) (all : AllRows) (oid : ℕ) (row : SeenRow) → change oid [] ≡ [] → Has row (change oid (rows_of all oid)) → Has row (rows_of (each change all) oid)
Has-each change all oid row none has = subst (Has row) (sym (rows_of-each change all oid none)) has

Has-insert : (all : AllRows) (oid : ℕ) (rows : List SeenRow) (q : ℕ) (row : SeenRow) → Has row (rows_of all q) → (oid ≡ q → Has row rows) → Has row (rows_of (tree.insert all oid rows) q)
Has-insert all oid rows q row had new = go (nat_eq oid q) refl
  where
    go : (b : Bool) → nat_eq oid q ≡ b → Has row (rows_of (tree.insert all oid rows) q)
    go true e =
        let same : oid ≡ q = eqb-true oid q e in
        subst (λ k. Has row (rows_of (tree.insert all oid rows) k)) same (subst (Has row) (sym (rows_of-insert_same all oid rows)) (new same))
    go false e = subst (Has row) (sym (rows_of-insert_other all oid rows q (λ same. eqb-false oid q e (sym same)))) had

pub row_stays : (all : AllRows) (call : Call) (oid : ℕ) (row : SeenRow) → touches call oid row ≡ false → Has row (rows_of all oid) → Has row (rows_of (rows_step all call) oid)
row_stays all (Create key epoch size offset piece) oid row other had = go (nat_le (offset + length piece) size)
  where
    rows : List SeenRow
    rows = create_in key.index epoch size offset piece (rows_of all key.oid)

    go : (b : Bool) → Has row (rows_of (result_unwrap_or (cond b (Ok (tree.insert all key.oid rows)) (Err OutOfObject)) all) oid)
    go true = Has-insert all key.oid rows oid row had (λ same.
        let shut : is_open row ≡ false = ap (λ b. b && is_open row) (sym (eq-eqb key.oid oid same)) ∙ other in
        Has-append row (ended epoch (rows_of all key.oid)) _
        (Has-map (closed (epoch - 1)) row _ (closed-same (epoch - 1) row shut)
        (Has-filter (λ r. not (is_replaced epoch r)) row (rows_of all key.oid) (ap (λ b. not (b && nat_eq row.from.0 epoch)) shut)
        (subst (λ k. Has row (rows_of all k)) (sym same) had))))
    go false = had
row_stays all (Write key offset piece) oid row other had = go (open_row all key)
  where
    rows : List SeenRow
    rows = write_in key.index offset piece (rows_of all key.oid)

    wrote : Has row (rows_of (tree.insert all key.oid rows) oid)
    wrote = Has-insert all key.oid rows oid row had (λ same.
        Has-changed (is_open_at key.index) _ row (rows_of all key.oid) (ap (λ b. b && is_open_at key.index row) (sym (eq-eqb key.oid oid same)) ∙ other)
        (subst (λ k. Has row (rows_of all k)) (sym same) had))

    pick : (b : Bool) → Has row (rows_of (result_unwrap_or (cond b (Ok (tree.insert all key.oid rows)) (Err OutOfObject)) all) oid)
    pick true = wrote
    pick false = had

    go : (o : Option SeenRow) → Has row (rows_of (result_unwrap_or (on_open (offset + length piece) o (λ r. tree.insert all key.oid rows)) all) oid)
    go None = had
    go (Some r) = pick (nat_le (offset + length piece) (length r.bytes))
row_stays all (Advance next keeps) oid row other had =
    Has-each (advanced keeps next) all oid row refl (Has-map (advanced_row keeps next oid) row (rows_of all oid) (go (is_kept keeps oid row.index) (is_open row) refl other) had)
  where
    go : (k o : Bool) → is_open row ≡ o → (is_open row && not k) ≡ false → cond k row (closed (next - 1) row) ≡ row
    go true o is stays = refl
    go false true is stays = absurd (cc (is, ap (λ b. b && true) (sym is) ∙ stays))
    go false false is stays = closed-same (next - 1) row is
row_stays all (CloseAll last) oid row other had =
    Has-each (λ _. closed_all last) all oid row refl (Has-map (closed last) row (rows_of all oid) (closed-same last row other) had)
row_stays all (PurgeBelow settled) oid row other had =
    Has-each (λ _. purged settled) all oid row refl (Has-filter (λ r. not (has_ended_below settled r.to)) row (rows_of all oid) (ap not other) had)
row_stays all (DropVid vid) oid row other had =
    Has-each (without_disk vid) all oid row (without_disk-none vid oid)
    (subst (λ b. Has row (cond b [] (rows_of all oid))) (sym other) had)
