-- The rows of some disks go, a disk at a time; and which disks are dead.
use Rattle.std.proofs.Common.{◌≡◌, ◌↔◌, ℕ, ◌+◌, ◌==◌, Bool, true, false, not, cond, ◌&&◌, ◌||◌, nat_eq, IsTrue, List, [], ◌∷◌, ◌++◌, length, filter, take, Option, Some, None, refl, ap, sym, ◌∙◌, arith}
use Rattle.std.proofs.lemmas.Bool.Decides.{nat_tests}
use Rattle.std.proofs.lemmas.List.Folds.{list_any-append}
use Rattle.std.specs.Option.{option_map}
use Rattle.object_id.specs.Oid.{vid_of}
use Rattle.object_id.specs.declared.oid.Vid.{Vid}
use Rattle.object_id.specs.declared.entry.Entry.{Entry}
use Rattle.object_store.specs.Rows.{without_disk}
use Rattle.object_store.specs.Store.{AllRows, SeenRow, rows_of, each, HaveRows}
use Rattle.object_store.specs.There.{HaveRows-each}
use Rattle.object_store.proofs.StoreLaws.{rows_of-each}
use Rattle.object_store.proofs.ThereLemmas.{same_rows}
use Rattle.vdi_directory.specs.References.{has_vid}
use Rattle.vdi_directory.specs.Decisions.{log_effects}
use Rattle.vdi_directory.specs.Dead.{is_dead}
use Rattle.peer_service.specs.State.{Peer, with_entry}
use Rattle.peer_service.specs.LogReading.{kills_object, rows_but, without_objects, read_entry}
use Rattle.peer_service.proofs.EpochLemmas.{but_none}

-- whether an object is of one of these disks
abbrev pub is_of_disk : List Vid → ℕ → Bool
is_of_disk vids oid = has_vid (vid_of oid) vids

-- no disk goes
pub no_disk_gone : (all : AllRows) → HaveRows all → all ≡ each (rows_but (is_of_disk [])) all
no_disk_gone all had =
    same_rows all (each (rows_but (is_of_disk [])) all) had (HaveRows-each (rows_but (is_of_disk [])) all)
    (λ q. sym (rows_of-each (rows_but (is_of_disk [])) all q refl))

without_disk-none : (vid oid : ℕ) → without_disk {B = List ℕ} vid oid [] ≡ []
without_disk-none vid oid = go (nat_eq (vid_of oid) vid)
  where
    nothing : List SeenRow
    nothing = []

    go : (b : Bool) → cond b nothing nothing ≡ nothing
    go true = refl
    go false = refl

-- one disk more goes
gone_with : (vids : List Vid) (vid : Vid) (oid : ℕ) → is_of_disk (vids ++ vid ∷ []) oid ≡ (is_of_disk vids oid || nat_eq (vid_of oid) vid.0)
gone_with vids vid oid =
    list_any-append (λ (id : Vid). id.0 == vid_of oid) vids (vid ∷ []) ∙ ap (λ b. is_of_disk vids oid || b) (go (vid.0 == vid_of oid) refl)
  where
    go : (b : Bool) → (vid.0 == vid_of oid) ≡ b → (b || false) ≡ nat_eq (vid_of oid) vid.0
    go true is = grind (arith, nat_tests)
    go false is = grind (arith, nat_tests)

pub one_disk_more : (vids : List Vid) (vid : Vid) (all : AllRows)
    → each (without_disk vid.0) (each (rows_but (is_of_disk vids)) all) ≡ each (rows_but (is_of_disk (vids ++ vid ∷ []))) all
one_disk_more vids vid all =
    same_rows (each (without_disk vid.0) once) (each (rows_but (is_of_disk (vids ++ vid ∷ []))) all)
    (HaveRows-each (without_disk vid.0) once) (HaveRows-each (rows_but (is_of_disk (vids ++ vid ∷ []))) all)
    (λ q. rows_of-each (without_disk vid.0) once q (without_disk-none vid.0 q)
    ∙ ap (without_disk vid.0 q) (rows_of-each (rows_but (is_of_disk vids)) all q (but_none (is_of_disk vids) q))
    ∙ go (is_of_disk vids q) (nat_eq (vid_of q) vid.0) (rows_of all q)
    ∙ ap (λ b. cond b [] (rows_of all q)) (sym (gone_with vids vid q))
    ∙ sym (rows_of-each (rows_but (is_of_disk (vids ++ vid ∷ []))) all q (but_none (is_of_disk (vids ++ vid ∷ [])) q)))
  where
    once : AllRows
    once = each (rows_but (is_of_disk vids)) all

    go : (a b : Bool) (rows : List SeenRow) → cond b [] (cond a [] rows) ≡ cond (a || b) [] rows
    go true true rows = refl
    go true false rows = refl
    go false true rows = refl
    go false false rows = refl

-- ---- what goes with no disk

pub nothing_pending_gone : (vids : List Vid) (pending : Option (List ℕ)) → length vids ≡ 0 → pending ≡ option_map (filter (λ oid. not (is_of_disk vids oid))) pending
nothing_pending_gone (vid ∷ vids) pending none = absurd (cc (none))
nothing_pending_gone [] None none = refl
nothing_pending_gone [] (Some oids) none = ap Some (sym (all_stay oids))
  where
    all_stay : (oids : List ℕ) → filter (λ oid. not (is_of_disk [] oid)) oids ≡ oids
    all_stay [] = refl
    all_stay (oid ∷ rest) = ap (λ (left : List ℕ). oid ∷ left) (all_stay rest)

-- ---- the entry's own

pub without_same : (goes others : ℕ → Bool) (peer : Peer) → ((oid : ℕ) → goes oid ≡ others oid) → without_objects goes peer ≡ without_objects others peer
without_same goes others peer same = ap (λ (test : ℕ → Bool). without_objects test peer) (λ i oid. same oid i)

-- two tests of the same
pub same_test : {P : Type 0} (a b : Bool) → (IsTrue a ↔ P) → (IsTrue b ↔ P) → a ≡ b
same_test true true one other = refl
same_test true false one other = sym (other.1 (one.0 refl))
same_test false true one other = one.1 (other.0 refl)
same_test false false one other = refl

-- ---- what the calls make

-- a peer of its parts
abbrev pub peer_of : ℕ → ℕ → AllRows → Option (List ℕ) → List Entry → Peer
peer_of epoch settled rows pending entries = record { epoch = epoch; settled = settled; rows = rows; pending = pending; entries = entries }

pub dropped_next : (vids : List Vid) (k : ℕ) (vid : Vid) (first once twice : AllRows) → take (k + 1) vids ≡ take k vids ++ vid ∷ []
    → once ≡ each (rows_but (is_of_disk (take k vids))) first → twice ≡ each (without_disk vid.0) once
    → twice ≡ each (rows_but (is_of_disk (take (k + 1) vids))) first
dropped_next vids k vid first once twice more so_far then_one =
    then_one ∙ ap (each (without_disk vid.0)) so_far ∙ one_disk_more (take k vids) vid first
    ∙ ap (λ (gone : List Vid). each (rows_but (is_of_disk gone)) first) (sym more)

pub read_made : (told dead : List Vid) (entry : Entry) (peer left new : Peer) → left ≡ with_entry entry peer
    → dead ≡ told → ((vid : ℕ) → has_vid vid told ≡ (is_dead (log_effects (peer.entries ++ entry ∷ [])) vid && not (is_dead (log_effects peer.entries) vid)))
    → new ≡ without_objects (is_of_disk dead) left → new ≡ read_entry entry peer
unfolding read_entry
read_made told dead entry peer left new with_it same are made =
    made ∙ ap (without_objects (is_of_disk dead)) with_it
    ∙ without_same (is_of_disk dead) (kills_object entry peer) (with_entry entry peer) (λ oid. ap (has_vid (vid_of oid)) same ∙ are (vid_of oid))
