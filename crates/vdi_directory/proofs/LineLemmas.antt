-- Parents are used ids, granted before their children, and a parent chain is the parent and its own chain.
use Rattle.std.proofs.Common.{◌≡◌, ◌≢◌, ◌⊎◌, inl, inr, ℕ, zero, suc, ◌+◌, ◌<◌, ◌≤◌, ◌==◌, ◌||◌, Bool, true, false, cond, List, [], ◌∷◌, ◌++◌, length, Option, Some, None, is_some, refl, ap, sym, ◌∙◌, subst, arith}
use Rattle.std.proofs.lemmas.Bool.{eqb-true, ne_eqb, both_ways, or_left, or_right}
use Rattle.std.specs.Option.{option_map}
use Rattle.std.specs.List.{list_any}
use Rattle.std.proofs.Math.Bool.{or-false}
use Rattle.object_id.specs.declared.oid.Vid.{Vid}
use Rattle.object_id.specs.declared.entry.Entry.{Entry}
use Rattle.vdi_directory.specs.declared.header.Header.{Header}
use Rattle.vdi_directory.specs.declared.effect.Grant.{Grant}
use Rattle.vdi_directory.specs.declared.effect.Effect.{Effect}
use Rattle.vdi_directory.specs.declared.effect.Effect.TheVariants as effects
use Rattle.object_id.specs.declared.limits.TheConstants.{VID_MAX}
use Rattle.vdi_directory.specs.Effects.{grants, is_used, header_after, header_of}
use Rattle.vdi_directory.specs.Decisions.{outcome, log_effects}
use Rattle.vdi_directory.specs.States.{Reserved, rank, state_after, state_of}
use Rattle.vdi_directory.specs.Sound.{IsParent, IsSound, IsLawful}
use Rattle.vdi_directory.specs.Chains.{chain_from, chain_after, chain_of, is_above, grant_place}
use Rattle.vdi_directory.specs.References.{header_parent, parent_of}
use Rattle.vdi_directory.proofs.StateLemmas.{log_effects-none, is_used-push, header_of-push}
use Rattle.vdi_directory.proofs.SoundEffects.{state_of-push}
use Rattle.vdi_directory.proofs.LawfulEntries.{lawful-outcome, sound-log_effects}
use Rattle.vdi_directory.proofs.DecisionLaws.{kept-later, rank-grows}
use Rattle.vdi_directory.proofs.ChainLemmas.{is_parent_or_above, chain_of-push, from-above}
use Rattle.vdi_directory.proofs.PlaceLemmas.{place-used, place-kept, place-new}
use Rattle.vdi_directory.proofs.DeadLemmas.{parent-cases, live-used}

pub record IsLine (before : List Effect) : Type 0 where
  pub ids : (vid : ℕ) → is_used before vid ≡ true → vid ≤ VID_MAX
  pub parents : (vid : ℕ) (parent : Vid) → parent_of before vid ≡ Some parent → is_used before parent.0 ≡ true
  pub chains : (vid : ℕ) → chain_of before vid ≡ chain_from (chain_of before) (parent_of before vid)
  pub older : (vid : ℕ) (parent : Vid) → parent_of before vid ≡ Some parent → grant_place before parent.0 < grant_place before vid
  pub known : (vid : ℕ) → is_used before vid ≡ is_some (header_of before vid)
  pub granted : (vid : ℕ) → is_used before vid ≡ true → 1 ≤ rank (state_of before vid)

line-none : IsLine []
unfolding is_used header_of state_of chain_of
line-none = record {
  ids = λ vid used. cc;
  parents = λ vid parent is. cc;
  chains = λ vid. refl;
  older = λ vid parent is. cc;
  known = λ vid. refl;
  granted = λ vid used. cc;
}

-- an id has a header from its grant on
some-after : (vid : ℕ) (header : Option Header) (effect : Effect) → is_some (header_after vid header effect) ≡ (is_some header || grants vid effect)
some-after vid header (effects.Reserved grant) = by_test (grant.reservation.vid.0 == vid)
  where
    by_test : (b : Bool) → is_some (cond b (Some grant.header) header) ≡ (is_some header || b)
    by_test true = sym (or_right (is_some header) true refl)
    by_test false = sym (or-false (is_some header))
some-after vid header (effects.Snapped snap) = by_header header (snap.old.0 == vid)
  where
    by_header : (h : Option Header) (b : Bool) → is_some (cond b (option_map (λ (old : Header). record old { tag = snap.tag }) h) h) ≡ (is_some h || false)
    by_header None true = refl
    by_header None false = refl
    by_header (Some h) true = refl
    by_header (Some h) false = refl
some-after vid header effect = sym (or-false (is_some header))

-- only a grant gives a parent
pub parent-tagged : (b : Bool) (tag : List ℕ) (header : Option Header)
    → header_parent (cond b (option_map (λ (old : Header). record old { tag = tag }) header) header) ≡ header_parent header
parent-tagged true tag None = refl
parent-tagged true tag (Some header) = refl
parent-tagged false tag header = refl

pub parent_of-push : (before : List Effect) (effect : Effect) (vid : ℕ) → parent_of (before ++ effect ∷ []) vid ≡ header_parent (header_after vid (header_of before vid) effect)
parent_of-push before effect vid = ap header_parent (header_of-push before effect vid)

module _ (before : List Effect) (sound : IsSound before) (line : IsLine before) where
  used-later : (effect : Effect) (vid : ℕ) → is_used before vid ≡ true → is_used (before ++ effect ∷ []) vid ≡ true
  used-later effect vid is = is_used-push before effect vid ∙ or_left (is_used before vid) (grants vid effect) is

  known-later : (effect : Effect) (vid : ℕ) → is_used (before ++ effect ∷ []) vid ≡ is_some (header_of (before ++ effect ∷ []) vid)
  known-later effect vid =
      is_used-push before effect vid ∙ ap (λ b. b || grants vid effect) (line.known vid)
      ∙ sym (some-after vid (header_of before vid) effect) ∙ sym (ap is_some (header_of-push before effect vid))

  granted-later : (effect : Effect) → IsLawful before effect → (vid : ℕ) → is_used before vid ≡ true → 1 ≤ rank (state_of (before ++ effect ∷ []) vid)
  granted-later effect lawful vid used =
      let was : 1 ≤ rank (state_of before vid) = line.granted vid used in
      let grows : rank (state_of before vid) ≤ rank (state_after vid (state_of before vid) effect) = rank-grows before sound effect lawful vid in
      let is : rank (state_of (before ++ effect ∷ []) vid) ≡ rank (state_after vid (state_of before vid) effect) = ap rank (state_of-push before effect vid) in
      omega (arith, was, grows, is)

  -- an effect that grants nothing
  module _ (effect : Effect) (lawful : IsLawful before effect) (none : (vid : ℕ) → grants vid effect ≡ false)
      (parents : (vid : ℕ) → header_parent (header_after vid (header_of before vid) effect) ≡ parent_of before vid)
      (chains : (vid : ℕ) → chain_after (chain_of before) effect vid ≡ chain_of before vid) where
    used-same : (vid : ℕ) → is_used (before ++ effect ∷ []) vid ≡ true → is_used before vid ≡ true
    used-same vid used = by_test (is_used before vid) refl
      where
        by_test : (b : Bool) → is_used before vid ≡ b → is_used before vid ≡ true
        by_test true is = is
        by_test false out = absurd (both_ways (is_used (before ++ effect ∷ []) vid)
            (is_used-push before effect vid ∙ ap (λ b. b || grants vid effect) out ∙ none vid) used)

    parent-same : (vid : ℕ) → parent_of (before ++ effect ∷ []) vid ≡ parent_of before vid
    parent-same vid = parent_of-push before effect vid ∙ parents vid

    chain-same : (vid : ℕ) → chain_of (before ++ effect ∷ []) vid ≡ chain_of before vid
    chain-same vid = chain_of-push before effect vid ∙ chains vid

    used-some : (vid : ℕ) (parent : Vid) → parent_of before vid ≡ Some parent → is_used before vid ≡ true
    used-some vid parent is = line.known vid ∙ by_header (header_of before vid) is
      where
        by_header : (header : Option Header) → header_parent header ≡ Some parent → is_some header ≡ true
        by_header None none = cc
        by_header (Some header) some = refl

    older-same : (vid : ℕ) (parent : Vid) → parent_of before vid ≡ Some parent → grant_place (before ++ effect ∷ []) parent.0 < grant_place (before ++ effect ∷ []) vid
    older-same vid parent is =
        let below : grant_place before parent.0 < grant_place before vid = line.older vid parent is in
        let first : grant_place (before ++ effect ∷ []) parent.0 ≡ grant_place before parent.0 = place-kept before parent.0 effect (line.parents vid parent is) in
        let second : grant_place (before ++ effect ∷ []) vid ≡ grant_place before vid = place-kept before vid effect (used-some vid parent is) in
        omega (arith, below, first, second)

    line-same : IsLine (before ++ effect ∷ [])
    line-same = record {
      ids = λ vid used. line.ids vid (used-same vid used);
      parents = λ vid parent is. used-later effect parent.0 (line.parents vid parent (sym (parent-same vid) ∙ is));
      chains = λ vid. chain-same vid ∙ line.chains vid
          ∙ (let same : chain_of before ≡ chain_of (before ++ effect ∷ []) = λ i v. sym (chain-same v) i in
          λ i. chain_from (same i) (sym (parent-same vid) i));
      older = λ vid parent is. older-same vid parent (sym (parent-same vid) ∙ is);
      known = known-later effect;
      granted = λ vid used. granted-later effect lawful vid (used-same vid used);
    }

  -- a grant
  module _ (grant : Grant) (lawful : IsLawful before (effects.Reserved grant)) where
    abbrev effect : Effect
    effect = effects.Reserved grant

    abbrev new : ℕ
    new = grant.reservation.vid.0

    not-new : (vid : ℕ) → is_used before vid ≡ true → new ≢ vid
    not-new vid used same = both_ways (is_used before new) lawful.1 (ap (is_used before) same ∙ used)

    parent-here : (vid : ℕ) → (new == vid) ≡ true → parent_of (before ++ effect ∷ []) vid ≡ grant.header.parent
    parent-here vid here = parent_of-push before effect vid ∙ ap (λ b. header_parent (cond b (Some grant.header) (header_of before vid))) here

    parent-there : (vid : ℕ) → (new == vid) ≡ false → parent_of (before ++ effect ∷ []) vid ≡ parent_of before vid
    parent-there vid there = parent_of-push before effect vid ∙ ap (λ b. header_parent (cond b (Some grant.header) (header_of before vid))) there

    base-used : (parent : Vid) → grant.header.parent ≡ Some parent → is_used before parent.0 ≡ true
    base-used parent is = live-used before sound parent.0 (subst (IsParent before) is lawful.4)

    parent-used : (vid : ℕ) (parent : Vid) → parent_of (before ++ effect ∷ []) vid ≡ Some parent → is_used before parent.0 ≡ true
    parent-used vid parent is = by_test (new == vid) refl
      where
        by_test : (b : Bool) → (new == vid) ≡ b → is_used before parent.0 ≡ true
        by_test true here = base-used parent (sym (parent-here vid here) ∙ is)
        by_test false there = line.parents vid parent (sym (parent-there vid there) ∙ is)

    chain-kept : (vid : ℕ) → is_used before vid ≡ true → chain_of (before ++ effect ∷ []) vid ≡ chain_of before vid
    chain-kept vid used =
        chain_of-push before effect vid
        ∙ ap (λ b. cond b (chain_from (chain_of before) grant.header.parent) (chain_of before vid)) (ne_eqb new vid (not-new vid used))

    from-kept : (parent : Option Vid) → ((p : Vid) → parent ≡ Some p → is_used before p.0 ≡ true)
        → chain_from (chain_of before) parent ≡ chain_from (chain_of (before ++ effect ∷ [])) parent
    from-kept None used = refl
    from-kept (Some p) used = ap (λ chain. p.0 ∷ chain) (sym (chain-kept p.0 (used p refl)))

    chain-grant : (vid : ℕ) → chain_of (before ++ effect ∷ []) vid ≡ chain_from (chain_of (before ++ effect ∷ [])) (parent_of (before ++ effect ∷ []) vid)
    chain-grant vid = chain_of-push before effect vid ∙ by_test (new == vid) refl
      where
        by_test : (b : Bool) → (new == vid) ≡ b → cond b (chain_from (chain_of before) grant.header.parent) (chain_of before vid)
            ≡ chain_from (chain_of (before ++ effect ∷ [])) (parent_of (before ++ effect ∷ []) vid)
        by_test true here =
            from-kept grant.header.parent base-used ∙ ap (chain_from (chain_of (before ++ effect ∷ []))) (sym (parent-here vid here))
        by_test false there =
            line.chains vid ∙ from-kept (parent_of before vid) (line.parents vid)
            ∙ ap (chain_from (chain_of (before ++ effect ∷ []))) (sym (parent-there vid there))

    older-grant : (vid : ℕ) (parent : Vid) → parent_of (before ++ effect ∷ []) vid ≡ Some parent
        → grant_place (before ++ effect ∷ []) parent.0 < grant_place (before ++ effect ∷ []) vid
    older-grant vid parent is = by_test (new == vid) refl
      where
        kept : grant_place (before ++ effect ∷ []) parent.0 ≡ grant_place before parent.0
        kept = place-kept before parent.0 effect (parent-used vid parent is)

        by_test : (b : Bool) → (new == vid) ≡ b → grant_place (before ++ effect ∷ []) parent.0 < grant_place (before ++ effect ∷ []) vid
        by_test true here =
            let first = kept in
            let below : grant_place before parent.0 < length before = place-used before parent.0 (parent-used vid parent is) in
            let unused : is_used before vid ≡ false = ap (is_used before) (sym (eqb-true new vid here)) ∙ lawful.1 in
            let last : grant_place (before ++ effect ∷ []) vid ≡ length before = place-new before vid effect unused here in
            omega (arith, first, below, last)
        by_test false there =
            let first = kept in
            let was : parent_of before vid ≡ Some parent = sym (parent-there vid there) ∙ is in
            let below : grant_place before parent.0 < grant_place before vid = line.older vid parent was in
            let second : grant_place (before ++ effect ∷ []) vid ≡ grant_place before vid = place-kept before vid effect (used-some-grant vid parent was) in
            omega (arith, first, below, second)
          where
            used-some-grant : (v : ℕ) (p : Vid) → parent_of before v ≡ Some p → is_used before v ≡ true
            used-some-grant v p is = line.known v ∙ by_header (header_of before v) is
              where
                by_header : (header : Option Header) → header_parent header ≡ Some p → is_some header ≡ true
                by_header None none = cc
                by_header (Some header) some = refl

    ids-grant : (vid : ℕ) → is_used (before ++ effect ∷ []) vid ≡ true → vid ≤ VID_MAX
    ids-grant vid used = by_test (is_used before vid) (new == vid) refl refl (sym (is_used-push before effect vid) ∙ used)
      where
        by_test : (b h : Bool) → is_used before vid ≡ b → (new == vid) ≡ h → (b || h) ≡ true → vid ≤ VID_MAX
        by_test true h was here some = line.ids vid was
        by_test false true was here some = let same : new ≡ vid = eqb-true new vid here in let most = (lawful.0).1 in omega arith
        by_test false false was here some = cc

    granted-grant : (vid : ℕ) → is_used (before ++ effect ∷ []) vid ≡ true → 1 ≤ rank (state_of (before ++ effect ∷ []) vid)
    granted-grant vid used = by_test (is_used before vid) (new == vid) refl refl (sym (is_used-push before effect vid) ∙ used)
      where
        by_test : (b h : Bool) → is_used before vid ≡ b → (new == vid) ≡ h → (b || h) ≡ true → 1 ≤ rank (state_of (before ++ effect ∷ []) vid)
        by_test true h was here some = granted-later effect lawful vid was
        by_test false true was here some =
            let is : rank (state_of (before ++ effect ∷ []) vid) ≡ 1
            = ap rank (state_of-push before effect vid ∙ ap (λ b. cond b (Reserved grant.reservation.by) (state_of before vid)) here) in
            omega (arith, is)
        by_test false false was here some = cc

    line-grant : IsLine (before ++ effect ∷ [])
    line-grant = record {
      ids = ids-grant;
      parents = λ vid parent is. used-later effect parent.0 (parent-used vid parent is);
      chains = chain-grant;
      older = older-grant;
      known = known-later effect;
      granted = granted-grant;
    }

  line-push : (effect : Effect) → IsLawful before effect → IsLine (before ++ effect ∷ [])
  line-push effects.Nothing lawful = line-same effects.Nothing lawful (λ vid. refl) (λ vid. refl) (λ vid. refl)
  line-push (effects.Reserved grant) lawful = line-grant grant lawful
  line-push (effects.Published of name) lawful = line-same (effects.Published of name) lawful (λ vid. refl) (λ vid. refl) (λ vid. refl)
  line-push (effects.Snapped snap) lawful =
      line-same (effects.Snapped snap) lawful (λ vid. refl) (λ vid. parent-tagged (snap.old.0 == vid) snap.tag (header_of before vid)) (λ vid. refl)
  line-push (effects.Deleted of name) lawful = line-same (effects.Deleted of name) lawful (λ vid. refl) (λ vid. refl) (λ vid. refl)
  line-push (effects.Held of holder) lawful = line-same (effects.Held of holder) lawful (λ vid. refl) (λ vid. refl) (λ vid. refl)
  line-push (effects.Freed of) lawful = line-same (effects.Freed of) lawful (λ vid. refl) (λ vid. refl) (λ vid. refl)
  line-push (effects.Withdrawn of) lawful = line-same (effects.Withdrawn of) lawful (λ vid. refl) (λ vid. refl) (λ vid. refl)
  line-push (effects.Left node) lawful = line-same (effects.Left node) lawful (λ vid. refl) (λ vid. refl) (λ vid. refl)

pub line-log_effects : (entries : List Entry) → IsLine (log_effects entries)
line-log_effects entries =
    kept-later IsLine
    (λ es entry is. line-push (log_effects es) (sound-log_effects es) is (outcome (log_effects es) entry).effect (lawful-outcome (log_effects es) (sound-log_effects es) entry))
    entries [] (subst IsLine (sym log_effects-none) line-none)

-- an id is above another where it is its parent, or above that
pub above-line : (before : List Effect) → IsLine before → (elder vid : ℕ)
    → is_above before elder vid ≡ is_parent_or_above (is_above before) elder (parent_of before vid)
unfolding is_above
above-line before line elder vid = ap (list_any (λ id. id == elder)) (line.chains vid) ∙ from-above before elder (parent_of before vid)

older-from : (before : List Effect) → IsLine before → (left elder vid : ℕ) → grant_place before vid < left → is_above before elder vid ≡ true
    → grant_place before elder < grant_place before vid
older-from before line zero elder vid below above = absurd (omega (arith, below))
older-from before line (suc left) elder vid below above =
    by_parent (parent-cases before elder (parent_of before vid) (sym (above-line before line elder vid) ∙ above))
    (λ parent less far. older-from before line left elder parent (omega (arith, below, less)) far)
  where
    by_parent : (p : Vid) × (parent_of before vid ≡ Some p) × ((p.0 ≡ elder) ⊎ (is_above before elder p.0 ≡ true))
        → ((parent : ℕ) → grant_place before parent < grant_place before vid → is_above before elder parent ≡ true → grant_place before elder < grant_place before parent)
        → grant_place before elder < grant_place before vid
    by_parent found later = by_place found.2
      where
        younger : grant_place before found.0.0 < grant_place before vid
        younger = line.older vid found.0 found.1

        by_place : (found.0.0 ≡ elder) ⊎ (is_above before elder found.0.0 ≡ true) → grant_place before elder < grant_place before vid
        by_place (inl same) = let less = younger in let is : grant_place before found.0.0 ≡ grant_place before elder = ap (grant_place before) same in omega (arith, less, is)
        by_place (inr far) = let less = younger in let more = later found.0.0 younger far in omega (arith, less, more)

-- what is above an id was granted before it
pub above-older : (entries : List Entry) (elder vid : ℕ) → is_above (log_effects entries) elder vid ≡ true
    → grant_place (log_effects entries) elder < grant_place (log_effects entries) vid
above-older entries elder vid above =
    older-from (log_effects entries) (line-log_effects entries) (grant_place (log_effects entries) vid + 1) elder vid (omega arith) above
