-- Which keys an entering peer keeps.
use Rattle.std.proofs.Common.{◌≡◌, ℕ, ◌+◌, ◌≤◌, ◌==◌, Bool, true, false, ◌&&◌, ◌||◌, nat_eq, List, [], ◌∷◌, ◌++◌, length, take, Option, Some, None, unwrap_or, refl, ap, sym, ◌∙◌, subst, arith}
use Rattle.std.proofs.lemmas.Bool.Decides.{nat_tests}
use Rattle.std.proofs.lemmas.List.Folds.{list_any-append}
use Rattle.std.proofs.Math.Seq.{take-length}
use Rattle.std.specs.List.{list_any, AllByRecursion, Contains}
use Rattle.std.specs.Option.{option_map_or, option_and_then}
use Rattle.std.specs.FinMap.{nat_cmp-IsAntisymmetric}
use Rattle.std.specs.FinMap as tree
use Rattle.proof_tools.proofs.FiniteMaps.{keys-contain}
use Rattle.proof_tools.proofs.Lists.{list_any-none}
use Rattle.object_id.specs.declared.node.NodeId.{NodeId}
use Rattle.object_id.specs.declared.policy.Policy.{Policy}
use Rattle.object_id.specs.Oid.{kind_of}
use Rattle.gf256.specs.Part.{index_among}
use Rattle.object_store.specs.declared.key.Key.{Key}
use Rattle.object_store.specs.Rows.{is_open, is_kept, advanced}
use Rattle.object_store.specs.Store.{AllRows, SeenRow, each}
use Rattle.peer_service.specs.State.{Peer, object_policy}
use Rattle.peer_service.specs.Epochs.{has_at, stays_open, kept_index, AreKept, peer_in_next_epoch}
use Rattle.peer_service.proofs.EpochLemmas.{entered_call}
use Rattle.peer_service.proofs.DropLemmas.{peer_of}

pub stays-kept_index : (me : NodeId) (targets : ℕ → ℕ → Policy → List NodeId) (peer : Peer) (oid index : ℕ)
    → stays_open me targets peer oid index ≡ option_map_or (λ own. own == index) (kept_index me targets peer oid) false
stays-kept_index me targets peer oid index = go (object_policy peer oid)
  where
    go : (known : Option Policy) → option_map_or (has_at me targets (peer.epoch + 1) oid index) known false
        ≡ option_map_or (λ own. own == index) (option_and_then (λ policy. index_among me (targets (peer.epoch + 1) oid policy) policy (kind_of oid)) known) false
    go None = refl
    go (Some policy) = refl

-- the keys with one more are those of one index more
pub kept_with : (keys : List Key) (oid index other at : ℕ)
    → is_kept (keys ++ record { oid = oid; index = index } ∷ []) other at ≡ (is_kept keys other at || (oid == other && index == at))
kept_with keys oid index other at =
    list_any-append (λ (key : Key). nat_eq key.oid other && nat_eq key.index at) keys (record { oid = oid; index = index } ∷ [])
    ∙ ap (λ b. is_kept keys other at || b) (go (nat_eq oid other && nat_eq index at))
  where
    go : (b : Bool) → (b || false) ≡ b
    go true = refl
    go false = refl

pub kept_without : (keys : List Key) (oid other at : ℕ) → is_kept keys other at ≡ (is_kept keys other at || (oid == other && false))
kept_without keys oid other at = go (is_kept keys other at) (oid == other)
  where
    go : (a b : Bool) → a ≡ (a || (b && false))
    go true b = refl
    go false true = refl
    go false false = refl

-- the keys are those of the rows that stay, of the objects so far
abbrev pub KeptSoFar : List Key → List ℕ → (ℕ → ℕ → Bool) → Type 0
KeptSoFar keys oids stays = (oid index : ℕ) → is_kept keys oid index ≡ (list_any (λ other. other == oid) oids && stays oid index)

pub kept_so_far : (old keys : List Key) (oids : List ℕ) (first : ℕ) (stays : ℕ → ℕ → Bool)
    → ((oid index : ℕ) → is_kept keys oid index ≡ (is_kept old oid index || (first == oid && stays first index)))
    → KeptSoFar old oids stays → KeptSoFar keys (oids ++ first ∷ []) stays
kept_so_far old keys oids first stays new had oid index =
    new oid index ∙ ap (λ b. b || (first == oid && stays first index)) (had oid index)
    ∙ go (list_any (λ other. other == oid) oids) (first == oid) refl
    ∙ ap (λ b. b && stays oid index) (sym (list_any-append (λ other. other == oid) oids (first ∷ [])))
  where
    either : (a s : Bool) → ((a && s) || s) ≡ s
    either true true = refl
    either true false = refl
    either false s = refl

    neither : (a s : Bool) → ((a && s) || false) ≡ ((a || false) && s)
    neither true true = refl
    neither true false = refl
    neither false s = refl

    every : (a : Bool) → (a || (true || false)) ≡ true
    every true = refl
    every false = refl

    go : (a b : Bool) → (first == oid) ≡ b
        → ((a && stays oid index) || (b && stays first index)) ≡ ((a || (b || false)) && stays oid index)
    go a true is =
        let same : first ≡ oid = grind (arith, nat_tests) in
        ap (λ q. (a && stays oid index) || stays q index) same ∙ either a (stays oid index) ∙ ap (λ b. b && stays oid index) (sym (every a))
    go a false is = neither a (stays oid index)

found_key : (oids : List ℕ) (oid : ℕ) → Contains oids oid → list_any (λ other. other == oid) oids ≡ true
found_key oids oid there = go (list_any (λ other. other == oid) oids) refl
  where
    go : (b : Bool) → list_any (λ other. other == oid) oids ≡ b → b ≡ true
    go true is = refl
    go false is =
        let no : (oid == oid) ≡ false = list_any-none (λ other. other == oid) oids oid is there in
        let yes : (oid == oid) ≡ true = grind (arith, nat_tests) in
        absurd (cc (no, yes))

pub all_taken : (oids : List ℕ) (k : ℕ) → k ≤ length oids → length oids ≤ k → take k oids ≡ oids
all_taken oids k within past =
    let whole : k ≡ length oids = omega arith in
    ap (λ n. take n oids) whole ∙ take-length oids

every_row : (P : SeenRow → Type 0) → ((row : SeenRow) → P row) → (rows : List SeenRow) → AllByRecursion P rows
every_row P each [] = tt
every_row P each (row ∷ rows) = (each row, every_row P each rows)

pub kept_of_all : (keys : List Key) (me : NodeId) (targets : ℕ → ℕ → Policy → List NodeId) (peer : Peer)
    → KeptSoFar keys (tree.keys peer.rows) (stays_open me targets peer) → AreKept keys me targets peer
kept_of_all keys me targets peer had oid = go (tree.get peer.rows oid) refl
  where
    go : (found : Option (List SeenRow)) → tree.get peer.rows oid ≡ found
        → AllByRecursion (λ (row : SeenRow). is_open row ≡ true → is_kept keys oid row.index ≡ stays_open me targets peer oid row.index) (unwrap_or found [])
    go None is = tt
    go (Some rows) is =
        let there : list_any (λ other. other == oid) (tree.keys peer.rows) ≡ true
        = found_key (tree.keys peer.rows) oid (keys-contain nat_cmp-IsAntisymmetric peer.rows oid rows is) in
        every_row _ (λ row opened. had oid row.index ∙ ap (λ b. b && stays_open me targets peer oid row.index) there) rows

pub kept_next : (me : NodeId) (targets : ℕ → ℕ → Policy → List NodeId) (peer : Peer) (oids : List ℕ) (k first : ℕ) (index : Option ℕ) (old keys : List Key)
    → take (k + 1) oids ≡ take k oids ++ first ∷ [] → index ≡ kept_index me targets peer first
    → ((other at : ℕ) → is_kept keys other at ≡ (is_kept old other at || (first == other && option_map_or (λ own. own == at) index false)))
    → KeptSoFar old (take k oids) (stays_open me targets peer) → KeptSoFar keys (take (k + 1) oids) (stays_open me targets peer)
kept_next me targets peer oids k first index old keys more is new had =
    subst (λ (so_far : List ℕ). KeptSoFar keys so_far (stays_open me targets peer)) (sym more)
    (kept_so_far old keys (take k oids) first (stays_open me targets peer)
    (λ other at. new other at ∙ ap (λ b. is_kept old other at || (first == other && b))
    (ap (λ (found : Option ℕ). option_map_or (λ own. own == at) found false) is ∙ sym (stays-kept_index me targets peer first at))) had)

pub entered_made : (keeps : List Key) (me : NodeId) (targets : ℕ → ℕ → Policy → List NodeId) (peer : Peer) (rows : AllRows) → AreKept keeps me targets peer
    → rows ≡ each (advanced keeps (peer.epoch + 1)) peer.rows
    → peer_of (peer.epoch + 1) peer.settled rows peer.pending peer.entries ≡ peer_in_next_epoch me targets peer
unfolding peer_in_next_epoch
entered_made keeps me targets peer rows kept is =
    ap (λ (all : AllRows). peer_of (peer.epoch + 1) peer.settled all peer.pending peer.entries) (is ∙ entered_call keeps me targets peer kept)
