-- The disks above one, and the entries of the tables that are read: each is of a disk that is known, and was made like that one.
use Rattle.std.proofs.Common.{◌≡◌, ◌≢◌, ◌⊎◌, ⊎_elim, inl, inr, arith, ℕ, zero, suc, ◌==◌, ◌||◌, Bool, true, false, cond, List, [], ◌∷◌}
use Rattle.std.proofs.Common.{◌++◌, map, All, Option, None, Some, slice_index, refl, sym, ap, subst, ◌∙◌}
use Rattle.std.specs.List.{list_any}
use Rattle.std.specs.Option.{option_map}
use Rattle.std.proofs.lemmas.Bool.{eqb-true}
use Rattle.std.proofs.lemmas.List.{length-append, get_or_append_left}
use Rattle.std.proofs.lemmas.List.Elements.{All-nil, All-cons, All-head, All-tail, All-weaker}
use Rattle.std.proofs.lemmas.Option.{same_Some}
use Rattle.object_id.specs.declared.entry.Entry.{Entry}
use Rattle.object_id.specs.declared.entry.VdiSpec.{VdiSpec}
use Rattle.object_id.specs.declared.entry.Entry.TheVariants.{Reserve}
use Rattle.object_id.specs.declared.entry.Origin.TheVariants.{SnapshotOf}
use Rattle.object_id.specs.declared.node.NodeId.{NodeId}
use Rattle.object_id.specs.declared.oid.Vid.{Vid}
use Rattle.vdi_directory.specs.declared.decision.Decision.TheVariants as decisions
use Rattle.epoch_log.specs.Appending.{IsReservable}
use Rattle.inode.specs.Layout.{Content}
use Rattle.vdi_directory.specs.declared.header.Header.{Header}
use Rattle.vdi_directory.specs.declared.effect.Effect.{Effect}
use Rattle.vdi_directory.specs.declared.effect.Grant.{Grant}
use Rattle.vdi_directory.specs.declared.effect.Effect.TheVariants as effects
use Rattle.vdi_directory.specs.Chains.{chain_from, chain_after, chain_of}
use Rattle.vdi_directory.specs.Decisions.{outcome, log_effects, decision_after, held_disk, is_held_by}
use Rattle.vdi_directory.specs.Effects.{header_after, header_of, name_of}
use Rattle.vdi_directory.specs.Effects.{holder_of}
use Rattle.vdi_directory.proofs.KnownLemmas.{snapshot-granted}
use Rattle.vdi_directory.specs.Known.{IsBase}
use Rattle.vdi_directory.proofs.ChainLemmas.{chain_of-push}
use Rattle.vdi_directory.proofs.StateLemmas.{log_effects-none, log_effects-push, header_of-push}
use Rattle.vdi_directory.proofs.ValidLemmas.{header-valid}
use Rattle.vdi_ops.specs.Tables.{kept_entry, table_in}
use Rattle.overlap_law.proofs.GrantedEpochs.{from_front, spec_known, spec_stays}
use Rattle.overlap_law.proofs.KnownDisks.{IsKnownDisk}

-- an entry of a table is none, or the id of a disk that is known and was made so
abbrev pub IsKnownEntry : List Effect → VdiSpec → ℕ → Type 0
IsKnownEntry known spec entry = (entry ≡ 0) ⊎ IsKnownDisk known entry spec

abbrev pub HasKnownTable : List Effect → Content → Type 0
HasKnownTable known inode = All (IsKnownEntry known inode.spec) inode.table

-- ids are of disks that are known, and were made so
abbrev pub AreOfSpec : List Effect → VdiSpec → List ℕ → Type 0
AreOfSpec known spec ids = All (λ (id : ℕ). IsKnownDisk known id spec) ids

-- ---- the disks above one

-- of an id that isn't reserved there are none
abbrev AreAbove : List Effect → Option VdiSpec → List ℕ → Type 0
AreAbove known None chain = chain ≡ []
AreAbove known (Some spec) chain = AreOfSpec known spec chain

abbrev ChainsAreOfSpecs : List Entry → Type 0
ChainsAreOfSpecs log = (vid : ℕ) → AreAbove (log_effects log) (spec_known (log_effects log) vid) (chain_of (log_effects log) vid)

front_all : (xs ys : List Entry) → All IsReservable (xs ++ ys) → All IsReservable xs
front_all xs ys all k d within =
    let long = length-append xs ys in
    subst IsReservable (get_or_append_left xs ys d k within) (all k d (omega (arith, within, long)))

-- what is known stays so
pub of_spec_later : (log later : List Entry) (spec : VdiSpec) (ids : List ℕ) → AreOfSpec (log_effects log) spec ids
    → AreOfSpec (log_effects (log ++ later)) spec ids
of_spec_later log later spec ids all =
    All-weaker (λ (id : ℕ). IsKnownDisk (log_effects log) id spec) (λ (id : ℕ). IsKnownDisk (log_effects (log ++ later)) id spec)
    (λ id is. record { id = is.id; spec_valid = is.spec_valid; made = spec_stays log later id spec is.made }) ids all

above_later : (log later : List Entry) (o : Option VdiSpec) (chain : List ℕ) → AreAbove (log_effects log) o chain
    → AreAbove (log_effects (log ++ later)) o chain
above_later log later None chain none = none
above_later log later (Some spec) chain all = of_spec_later log later spec chain all

-- the parent of an id is of its spec
base_known : (log : List Entry) → All IsReservable log → (vid : ℕ) (header : Header) → header_of (log_effects log) vid ≡ Some header
    → (o : Option Vid) → header.parent ≡ o → (parent : Vid) → o ≡ Some parent → IsKnownDisk (log_effects log) parent.0 header.spec
base_known log reservable vid header there None none parent is = absurd (cc (is))
base_known log reservable vid header there (Some own) from parent is =
    let valid = header-valid log reservable vid header there in
    let base : IsBase (log_effects log) header.spec (Some own) = subst (IsBase (log_effects log) header.spec) from valid.base in
    let known : IsKnownDisk (log_effects log) own.0 header.spec
    = record {
      id = base.0;
      spec_valid = valid.spec;
      made = ap (option_map (λ (h : Header). h.spec)) (base.1).1 ∙ ap (λ (s : VdiSpec). Some s) (base.1).2;
    } in
    subst (λ (v : Vid). IsKnownDisk (log_effects log) v.0 header.spec) (same_Some own parent is) known

pub parent_known : (log : List Entry) → All IsReservable log → (vid : ℕ) (header : Header) (parent : Vid)
    → header_of (log_effects log) vid ≡ Some header → header.parent ≡ Some parent → IsKnownDisk (log_effects log) parent.0 header.spec
parent_known log reservable vid header parent there from = base_known log reservable vid header there header.parent refl parent from

module _ (log : List Entry) (entry : Entry) (reservable : All IsReservable (log ++ entry ∷ [])) (before_so : ChainsAreOfSpecs log) where
  abbrev before : List Effect
  before = log_effects log

  abbrev now : List Effect
  now = log_effects (log ++ entry ∷ [])

  abbrev effect : Effect
  effect = (outcome (log_effects log) entry).effect

  header_now : (vid : ℕ) → header_of now vid ≡ header_after vid (header_of before vid) effect
  header_now vid = ap (λ (known : List Effect). header_of known vid) (log_effects-push log entry) ∙ header_of-push before effect vid

  chain_now : (vid : ℕ) → chain_of now vid ≡ chain_after (chain_of before) effect vid
  chain_now vid = ap (λ (known : List Effect). chain_of known vid) (log_effects-push log entry) ∙ chain_of-push before effect vid

  -- what was above an id before
  above_parent : (parent : Vid) (spec : VdiSpec) → IsKnownDisk now parent.0 spec → AreOfSpec now spec (chain_of before parent.0)
  above_parent parent spec known = by_spec (spec_known before parent.0) refl (before_so parent.0)
    where
      by_spec : (o : Option VdiSpec) → spec_known before parent.0 ≡ o → AreAbove before o (chain_of before parent.0)
          → AreOfSpec now spec (chain_of before parent.0)
      by_spec None there none = subst (AreOfSpec now spec) (sym none) (All-nil (λ (id : ℕ). IsKnownDisk now id spec))
      by_spec (Some own) there are =
          let same : own ≡ spec
          = same_Some own spec (sym (spec_stays log (entry ∷ []) parent.0 own there) ∙ known.made) in
          subst (λ (s : VdiSpec). AreOfSpec now s (chain_of before parent.0)) same
          (of_spec_later log (entry ∷ []) own (chain_of before parent.0) are)

  from_parents : (header : Header) → ((parent : Vid) → header.parent ≡ Some parent → IsKnownDisk now parent.0 header.spec)
      → (o : Option Vid) → header.parent ≡ o → AreOfSpec now header.spec (chain_from (chain_of before) o)
  from_parents header parents None none = All-nil (λ (id : ℕ). IsKnownDisk now id header.spec)
  from_parents header parents (Some parent) from =
      All-cons (λ (id : ℕ). IsKnownDisk now id header.spec) parent.0 (chain_of before parent.0) (parents parent from)
      (above_parent parent header.spec (parents parent from))

  still : (vid : ℕ) → AreAbove now (spec_known before vid) (chain_of before vid)
  still vid = above_later log (entry ∷ []) (spec_known before vid) (chain_of before vid) (before_so vid)

  abbrev AboveBy : ℕ → Effect → Type 0
  AboveBy vid made =
      AreAbove now (option_map (λ (h : Header). h.spec) (header_after vid (header_of before vid) made))
      (chain_after (chain_of before) made vid)

  granted : (vid : ℕ) (grant : Grant) → effect ≡ effects.Reserved grant → (b : Bool) → (grant.reservation.vid.0 == vid) ≡ b
      → AreAbove now (option_map (λ (h : Header). h.spec) (cond b (Some grant.header) (header_of before vid)))
      (cond b (chain_from (chain_of before) grant.header.parent) (chain_of before vid))
  granted vid grant what true same =
      let there : header_of now vid ≡ Some grant.header
      = header_now vid ∙ ap (header_after vid (header_of before vid)) what
      ∙ ap (λ (b : Bool). cond b (Some grant.header) (header_of before vid)) same in
      from_parents grant.header (λ parent from. parent_known (log ++ entry ∷ []) reservable vid grant.header parent there from)
      grant.header.parent refl
  granted vid grant what false other = still vid

  tagged : (vid : ℕ) (tag : List ℕ) (b : Bool) (o : Option Header) (chain : List ℕ)
      → AreAbove now (option_map (λ (h : Header). h.spec) o) chain
      → AreAbove now (option_map (λ (h : Header). h.spec) (cond b (option_map (λ (old : Header). record old { tag = tag }) o) o)) chain
  tagged vid tag true None chain are = are
  tagged vid tag true (Some header) chain are = are
  tagged vid tag false o chain are = are

  by_effect : (vid : ℕ) (made : Effect) → effect ≡ made → AboveBy vid made
  by_effect vid effects.Nothing what = still vid
  by_effect vid (effects.Reserved grant) what = granted vid grant what (grant.reservation.vid.0 == vid) refl
  by_effect vid (effects.Published id name) what = still vid
  by_effect vid (effects.Snapped snap) what =
      tagged vid snap.tag (snap.old.0 == vid) (header_of before vid) (chain_of before vid) (still vid)
  by_effect vid (effects.Deleted id name) what = still vid
  by_effect vid (effects.Held id holder) what = still vid
  by_effect vid (effects.Freed id) what = still vid
  by_effect vid (effects.Withdrawn id) what = still vid
  by_effect vid (effects.Left node) what = still vid

  chains_next : ChainsAreOfSpecs (log ++ entry ∷ [])
  chains_next vid =
      let so : AreAbove now (option_map (λ (h : Header). h.spec) (header_of now vid)) (chain_after (chain_of before) effect vid)
      = subst (λ (o : Option Header). AreAbove now (option_map (λ (h : Header). h.spec) o) (chain_after (chain_of before) effect vid))
      (sym (header_now vid)) (by_effect vid effect refl) in
      subst (AreAbove now (spec_known now vid)) (sym (chain_now vid)) so

none_above : ChainsAreOfSpecs []
unfolding chain_of header_of
none_above vid =
    subst (λ (known : List Effect). AreAbove known (spec_known known vid) (chain_of known vid)) (sym log_effects-none) refl

chains_of_specs : (log : List Entry) → All IsReservable log → ChainsAreOfSpecs log
chains_of_specs log =
    from_front (λ (log : List Entry). All IsReservable log → ChainsAreOfSpecs log)
    (λ log entry is reservable. chains_next log entry reservable (is (front_all log (entry ∷ []) reservable))) [] log (λ none. none_above)

-- the disks above one are known, and were made like it
pub chain_known : (log : List Entry) → All IsReservable log → (vid : ℕ) (header : Header) → header_of (log_effects log) vid ≡ Some header
    → AreOfSpec (log_effects log) header.spec (chain_of (log_effects log) vid)
chain_known log reservable vid header there =
    subst (λ (o : Option VdiSpec). AreAbove (log_effects log) o (chain_of (log_effects log) vid))
    (ap (option_map (λ (h : Header). h.spec)) there) (chains_of_specs log reservable vid)

-- ---- tables

-- of the entries of a table those are kept that are among some ids
module _ (P : ℕ → Type 0) where
  pub among_so : (ids : List ℕ) (entry : ℕ) → All P ids → list_any (λ id. id == entry) ids ≡ true → P entry
  among_so [] entry all is = absurd (cc (is))
  among_so (id ∷ ids) entry all is = by_tie (id == entry) refl (among_so ids entry (All-tail P id ids all)) is
    where
      by_tie : (b : Bool) → (id == entry) ≡ b → (list_any (λ id. id == entry) ids ≡ true → P entry)
          → (b || list_any (λ id. id == entry) ids) ≡ true → P entry
      by_tie true same rest is = subst P (eqb-true id entry same) (All-head P id ids all)
      by_tie false other rest is = rest is

  abbrev pub IsNoneOr : ℕ → Type 0
  IsNoneOr entry = (entry ≡ 0) ⊎ P entry

  kept_so : (ids : List ℕ) (entry : ℕ) → All P ids → IsNoneOr (kept_entry ids entry)
  kept_so ids entry all = by_test (list_any (λ id. id == entry) ids) refl
    where
      by_test : (b : Bool) → list_any (λ id. id == entry) ids ≡ b → IsNoneOr (cond b entry 0)
      by_test true is = inr (among_so ids entry all is)
      by_test false is = inl refl

  entries_so : (ids entries : List ℕ) → All P ids → All IsNoneOr (map (kept_entry ids) entries)
  entries_so ids [] all = All-nil IsNoneOr
  entries_so ids (entry ∷ entries) all =
      All-cons IsNoneOr (kept_entry ids entry) (map (kept_entry ids) entries) (kept_so ids entry all) (entries_so ids entries all)

  -- so a table that is read has no others
  pub table_so : (spec : VdiSpec) (ids bytes : List ℕ) → All P ids → All IsNoneOr (table_in ids spec bytes)
  table_so spec ids bytes all = entries_so ids _ all

pub table_known : (known : List Effect) (spec : VdiSpec) (ids bytes : List ℕ) → AreOfSpec known spec ids
    → All (IsKnownEntry known spec) (table_in ids spec bytes)
table_known known spec = table_so (λ (id : ℕ). IsKnownDisk known id spec) spec

-- what an entry names, if it names a disk
pub entry_known : (known : List Effect) (spec : VdiSpec) (table : List ℕ) (index : ℕ) → All (IsKnownEntry known spec) table
    → slice_index table index ≢ 0 → IsKnownDisk known (slice_index table index) spec
entry_known known spec [] index all names = absurd (names refl)
entry_known known spec (entry ∷ table) zero all names = ⊎_elim
    (λ (none : entry ≡ 0). absurd (names none))
    (λ (is : IsKnownDisk known entry spec). is)
    (All-head (IsKnownEntry known spec) entry table all)
entry_known known spec (entry ∷ table) (suc index) all names =
    entry_known known spec table index (All-tail (IsKnownEntry known spec) entry table all) names

-- the disk itself, and those above it
pub with_chain_known : (log : List Entry) → All IsReservable log → (vid : ℕ) (header : Header)
    → header_of (log_effects log) vid ≡ Some header
    → AreOfSpec (log_effects log) header.spec (vid ∷ chain_of (log_effects log) vid)
with_chain_known log reservable vid header there =
    let valid = header-valid log reservable vid header there in
    All-cons (λ (id : ℕ). IsKnownDisk (log_effects log) id header.spec) vid (chain_of (log_effects log) vid) (record {
      id = valid.id;
      spec_valid = valid.spec;
      made = ap (option_map (λ (h : Header). h.spec)) there;
    }) (chain_known log reservable vid header there)

-- ---- a snapshot

pub held_is : (known : List Effect) (by : NodeId) (session : ℕ) (working : Option Vid) (old : Vid)
    → held_disk known by session working ≡ Some old → working ≡ Some old
held_is known by session None old is = absurd (cc (is))
held_is known by session (Some vid) old is = by_test (is_held_by by session (holder_of known vid.0)) is
  where
    by_test : (b : Bool) → cond b (Some vid) None ≡ Some old → Some vid ≡ Some old
    by_test true is = is
    by_test false is = absurd (cc (is))

-- the id that is granted to take the place of a working disk is of the disk's spec
pub successor_known : (read : List Entry) (by : NodeId) (session : ℕ) (name tag : List ℕ) (vid old : Vid) (header : Header)
    → All IsReservable (read ++ Reserve by session name (SnapshotOf tag) ∷ [])
    → decision_after read (Reserve by session name (SnapshotOf tag)) ≡ decisions.Granted vid
    → (name_of (log_effects read) name).working ≡ Some old
    → header_of (log_effects (read ++ Reserve by session name (SnapshotOf tag) ∷ [])) vid.0 ≡ Some header
    → IsKnownDisk (log_effects (read ++ Reserve by session name (SnapshotOf tag) ∷ [])) old.0 header.spec
successor_known read by session name tag vid old header reservable granted working there =
    let log : List Entry = read ++ Reserve by session name (SnapshotOf tag) ∷ [] in
    let from = snapshot-granted read by session name vid tag granted in
    let parent : Vid = from.1 in
    let same : from.0 ≡ header = same_Some from.0 header (sym from.2 ∙ there) in
    let own : parent ≡ old
    = same_Some parent old
    (sym (held_is (log_effects read) by session (name_of (log_effects read) name).working parent from.4) ∙ working) in
    subst (λ (v : Vid). IsKnownDisk (log_effects log) v.0 header.spec) own
    (parent_known log reservable vid.0 header parent there (ap (λ (h : Header). h.parent) (sym same) ∙ from.3))
