-- Tables that name no disk but their own and those above it: what is known of these disks, and that it stays so as the log grows, and as
-- an id takes the place of its disk.
use Rattle.std.proofs.Common.{◌≡◌, ◌≢◌, ◌⊎◌, inl, inr, ⊎_elim, arith, ℕ, zero, suc, ◌<◌, ◌≤◌, ◌==◌, ◌||◌, Bool, true, false, cond, List, []}
use Rattle.std.proofs.Common.{◌∷◌, ◌++◌, length, All, slice_index, Option, Some, None, refl, sym, ap, subst, ◌∙◌}
use Rattle.std.specs.List.{list_any}
use Rattle.std.specs.Option.{option_map}
use Rattle.std.proofs.lemmas.Bool.{eq-eqb, or_left, or_right}
use Rattle.std.proofs.lemmas.Option.{same_Some}
use Rattle.std.proofs.lemmas.List.Elements.{All-nil, All-cons, All-head, All-tail, All-weaker}
use Rattle.object_id.specs.declared.entry.Entry.{Entry}
use Rattle.object_id.specs.declared.entry.VdiSpec.{VdiSpec}
use Rattle.object_id.specs.declared.oid.Vid.{Vid}
use Rattle.object_id.specs.Oid.{IsVid}
use Rattle.object_id.specs.Spec.{objects_of}
use Rattle.epoch_log.specs.Appending.{IsReservable}
use Rattle.inode.specs.Layout.{Content}
use Rattle.vdi_directory.specs.declared.effect.Effect.{Effect}
use Rattle.vdi_directory.specs.declared.effect.Effect.TheVariants as effects
use Rattle.vdi_directory.specs.declared.header.Header.{Header}
use Rattle.vdi_directory.specs.Chains.{chain_of, is_above, grant_place}
use Rattle.vdi_directory.specs.Decisions.{outcome, log_effects}
use Rattle.vdi_directory.specs.Effects.{grants, header_of}
use Rattle.vdi_directory.specs.References.{header_parent, parent_of}
use Rattle.vdi_directory.proofs.ChainLemmas.{is_parent_or_above, above_after, is_above-push}
use Rattle.vdi_directory.proofs.DeadLemmas.{chained, chain-used}
use Rattle.vdi_directory.proofs.LineLemmas.{IsLine, line-log_effects, above-line, above-older}
use Rattle.vdi_directory.proofs.StateLemmas.{log_effects-push}
use Rattle.vdi_ops.specs.Tables.{inode_by}
use Rattle.overlap_law.specs.Tables.{IsOfChain}
use Rattle.overlap_law.proofs.GrantedEpochs.{from_front, not_again, spec_known}
use Rattle.overlap_law.proofs.KnownDisks.{IsKnownDisk, IsKnownInode}
use Rattle.overlap_law.proofs.KnownTables.{AreOfSpec, HasKnownTable, among_so, parent_known, with_chain_known}

-- an id is a disk's own, or above it
abbrev pub IsInChain : List Effect → ℕ → ℕ → Type 0
IsInChain known vid id = (id ≡ vid) ⊎ (is_above known id vid ≡ true)

-- a table has none but these, and an entry for each object of the disk
pub record HasChainTable (known : List Effect) (inode : Content) : Type 0 where
  pub entries : All (IsOfChain known inode.vid) inode.table
  pub whole : length inode.table ≡ objects_of inode.spec

-- an id is another disk's
abbrev pub IsOtherId : ℕ → ℕ → Type 0
IsOtherId vid id = IsVid id × (id ≢ vid)

-- it doesn't name the disk itself
abbrev pub HasNoOwn : Content → Type 0
HasNoOwn inode = All (λ (entry : ℕ). entry ≢ inode.vid) inode.table

-- beyond the end of a table there is a hole
pub at_index : (P : ℕ → Type 0) → P 0 → (table : List ℕ) (index : ℕ) → All P table → P (slice_index table index)
at_index P none [] index all = none
at_index P none (entry ∷ table) zero all = All-head P entry table all
at_index P none (entry ∷ table) (suc index) all = at_index P none table index (All-tail P entry table all)

-- the disk itself, and those above it, are
each_among : (ids : List ℕ) → All (λ (id : ℕ). list_any (λ other. other == id) ids ≡ true) ids
each_among [] = All-nil (λ (id : ℕ). list_any (λ other. other == id) [] ≡ true)
each_among (first ∷ ids) =
    All-cons (λ (id : ℕ). list_any (λ other. other == id) (first ∷ ids) ≡ true) first ids
    (or_left (first == first) (list_any (λ other. other == first) ids) (eq-eqb first first refl))
    (All-weaker (λ (id : ℕ). list_any (λ other. other == id) ids ≡ true) (λ (id : ℕ). list_any (λ other. other == id) (first ∷ ids) ≡ true)
    (λ id is. or_right (first == id) (list_any (λ other. other == id) ids) is) ids (each_among ids))

pub own_chain : (known : List Effect) (vid : ℕ) → All (IsInChain known vid) (vid ∷ chain_of known vid)
unfolding is_above
own_chain known vid =
    All-cons (IsInChain known vid) vid (chain_of known vid) (inl refl)
    (All-weaker (λ (id : ℕ). list_any (λ other. other == id) (chain_of known vid) ≡ true) (IsInChain known vid) (λ id is. inr is)
    (chain_of known vid) (each_among (chain_of known vid)))

-- ---- the log grows

-- what is above a disk stays so
above_next : (log : List Entry) (entry : Entry) (elder vid : ℕ) → is_above (log_effects log) elder vid ≡ true
    → is_above (log_effects (log ++ entry ∷ [])) elder vid ≡ true
above_next log entry elder vid above =
    ap (λ (known : List Effect). is_above known elder vid) (log_effects-push log entry) ∙ is_above-push (log_effects log) elder vid made
    ∙ by_effect made (not_again log entry vid (chain-used (log_effects log) (chained log) elder vid above).1)
  where
    made : Effect
    made = (outcome (log_effects log) entry).effect

    by_effect : (effect : Effect) → grants vid effect ≡ false → above_after (is_above (log_effects log)) effect elder vid ≡ true
    by_effect effects.Nothing other = above
    by_effect (effects.Reserved grant) other =
        ap
        (λ (b : Bool). cond b (is_parent_or_above (is_above (log_effects log)) elder grant.header.parent)
        (is_above (log_effects log) elder vid))
        other ∙ above
    by_effect (effects.Published of name) other = above
    by_effect (effects.Snapped snap) other = above
    by_effect (effects.Deleted of name) other = above
    by_effect (effects.Held of holder) other = above
    by_effect (effects.Freed of) other = above
    by_effect (effects.Withdrawn of) other = above
    by_effect (effects.Left node) other = above

pub above_later : (log later : List Entry) (elder vid : ℕ) → is_above (log_effects log) elder vid ≡ true
    → is_above (log_effects (log ++ later)) elder vid ≡ true
above_later log later elder vid =
    from_front (λ (log : List Entry). is_above (log_effects log) elder vid ≡ true) (λ log entry. above_next log entry elder vid) log later

module _ (old new : List Effect) (above : (elder vid : ℕ) → is_above old elder vid ≡ true → is_above new elder vid ≡ true) where
  pub in_chain_grows : (vid id : ℕ) → IsInChain old vid id → IsInChain new vid id
  in_chain_grows vid id (inl same) = inl same
  in_chain_grows vid id (inr is) = inr (above id vid is)

  pub of_chain_grows : (vid entry : ℕ) → IsOfChain old vid entry → IsOfChain new vid entry
  of_chain_grows vid entry (inl none) = inl none
  of_chain_grows vid entry (inr is) = inr (in_chain_grows vid entry is)

  pub table_grows : (inode : Content) → HasChainTable old inode → HasChainTable new inode
  table_grows inode is = record {
    entries = All-weaker (IsOfChain old inode.vid) (IsOfChain new inode.vid) (of_chain_grows inode.vid) inode.table is.entries;
    whole = is.whole;
  }

-- ---- what is known of chains

module _ (known : List Effect) where
  -- a disk is of the spec of each one above it, and so is its parent
  pub record HasChains : Type 0 where
    pub line : IsLine known
    pub older : (elder vid : ℕ) → is_above known elder vid ≡ true → grant_place known elder < grant_place known vid
    pub with_chain : (vid : ℕ) (header : Header) → header_of known vid ≡ Some header
        → AreOfSpec known header.spec (vid ∷ chain_of known vid)
    pub with_parent : (vid : ℕ) (header : Header) (parent : Vid) → header_of known vid ≡ Some header → header.parent ≡ Some parent
        → IsKnownDisk known parent.0 header.spec

  module _ (chains : HasChains) where
    header_known : (vid : ℕ) (header : Header) → header_of known vid ≡ Some header → (id : ℕ) → is_above known id vid ≡ true
        → IsKnownDisk known id header.spec
    unfolding is_above
    header_known vid header there id above =
        let Is : ℕ → Type 0 = λ (v : ℕ). IsKnownDisk known v header.spec in
        among_so Is (chain_of known vid) id (All-tail Is vid (chain_of known vid) (chains.with_chain vid header there)) above

    pub in_chain_known : (vid : ℕ) (spec : VdiSpec) → IsKnownDisk known vid spec → (id : ℕ) → IsInChain known vid id
        → IsKnownDisk known id spec
    in_chain_known vid spec disk id (inl same) = subst (λ (v : ℕ). IsKnownDisk known v spec) (sym same) disk
    in_chain_known vid spec disk id (inr above) = by_header (header_of known vid) refl disk.made
      where
        by_header : (o : Option Header) → header_of known vid ≡ o → option_map (λ (header : Header). header.spec) o ≡ Some spec
            → IsKnownDisk known id spec
        by_header None there made = absurd (cc (made))
        by_header (Some header) there made =
            let same : header.spec ≡ spec = cc (made) in
            subst (IsKnownDisk known id) same (header_known vid header there id above)

    -- none of those above a disk is the disk itself
    pub chain_other : (vid : ℕ) (header : Header) → header_of known vid ≡ Some header → All (IsOtherId vid) (chain_of known vid)
    unfolding is_above
    chain_other vid header there =
        All-weaker (λ (id : ℕ). list_any (λ other. other == id) (chain_of known vid) ≡ true) (IsOtherId vid) (λ id is. (
          (header_known vid header there id is).id,
          λ same.
              let less = chains.older id vid is in
              let equal = ap (grant_place known) same in
              absurd (omega (arith, less, equal)),
        )) (chain_of known vid) (each_among (chain_of known vid))

    -- what its entries name
    pub names_known : (inode : Content) → IsKnownInode known inode → HasChainTable known inode → HasKnownTable known inode
    names_known inode is table =
        All-weaker (IsOfChain known inode.vid) (λ (entry : ℕ). (entry ≡ 0) ⊎ IsKnownDisk known entry inode.spec)
        (λ entry. ⊎_elim (λ (none : entry ≡ 0). inl none)
        (λ (of : IsInChain known inode.vid entry). inr (in_chain_known inode.vid inode.spec is.disk entry of))) inode.table table.entries

    -- the entries of a disk are above an id that takes its place, and so none is that id
    module _ (old vid : ℕ) (parent : Vid) (from : parent_of known vid ≡ Some parent) (same : parent.0 ≡ old) where
      pub above_then : (entry : ℕ) → IsInChain known old entry → is_above known entry vid ≡ true
      above_then entry of =
          above-line known chains.line entry vid ∙ ap (is_parent_or_above (is_above known) entry) from ∙ by_case of
        where
          by_case : IsInChain known old entry → (parent.0 == entry || is_above known entry parent.0) ≡ true
          by_case (inl own) = or_left (parent.0 == entry) (is_above known entry parent.0) (eq-eqb parent.0 entry (same ∙ sym own))
          by_case (inr above) =
              or_right (parent.0 == entry) (is_above known entry parent.0) (ap (is_above known entry) same ∙ above)

      in_place : (entry : ℕ) → IsOfChain known old entry → IsOfChain known vid entry
      in_place entry (inl none) = inl none
      in_place entry (inr of) = inr (inr (above_then entry of))

      apart : 1 ≤ vid → (entry : ℕ) → IsOfChain known old entry → entry ≢ vid
      apart some entry (inl none) is = absurd (omega (arith, none, some, is))
      apart some entry (inr of) is =
          let less = chains.older entry vid (above_then entry of) in
          let equal = ap (grant_place known) is in
          absurd (omega (arith, less, equal))

    -- which is of the disk's spec
    pub spec_same : (vid : ℕ) (header : Header) (parent : Vid) (old : Content) → header_of known vid ≡ Some header
        → parent_of known vid ≡ Some parent → parent.0 ≡ old.vid → IsKnownInode known old → old.spec ≡ header.spec
    spec_same vid header parent old there from same is =
        let own = chains.with_parent vid header parent there (ap header_parent (sym there) ∙ from) in
        same_Some old.spec header.spec (sym is.disk.made ∙ ap (spec_known known) (sym same) ∙ own.made)

    -- so its table is one of that id
    pub taken_over : (vid : Vid) (header : Header) (parent : Vid) (old : Content) → header_of known vid.0 ≡ Some header
        → parent_of known vid.0 ≡ Some parent → parent.0 ≡ old.vid → IsKnownInode known old → HasChainTable known old
        → HasChainTable known (inode_by header vid.0 old.table)
    taken_over vid header parent old there from same is table = record {
      entries =
          All-weaker (IsOfChain known old.vid) (IsOfChain known vid.0) (in_place old.vid vid.0 parent from same) old.table table.entries;
      whole = table.whole ∙ ap objects_of (spec_same vid.0 header parent old there from same is);
    }

    pub taken_no_own : (vid : Vid) (header : Header) (parent : Vid) (old : Content) → IsKnownDisk known vid.0 header.spec
        → parent_of known vid.0 ≡ Some parent → parent.0 ≡ old.vid → HasChainTable known old → HasNoOwn (inode_by header vid.0 old.table)
    taken_no_own vid header parent old own from same table =
        All-weaker (IsOfChain known old.vid) (λ (entry : ℕ). entry ≢ vid.0) (apart old.vid vid.0 parent from same own.id.0) old.table
        table.entries

-- so it is of a log
pub log_chains : (log : List Entry) → All IsReservable log → HasChains (log_effects log)
log_chains log reservable = record {
  line = line-log_effects log;
  older = above-older log;
  with_chain = with_chain_known log reservable;
  with_parent = parent_known log reservable;
}
