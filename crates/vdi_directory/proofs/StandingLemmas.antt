-- What a name stands for, asked by tag: where no two live snapshots have one tag, it changes with an effect as the name does.
use Rattle.std.proofs.Common.{◌≡◌, inl, inr, ℕ, ◌==◌, not, nat_lt, Bool, true, false, cond, List, [], ◌∷◌, ◌++◌, length, filter, Option, Some, None, refl, ap, sym, ◌∙◌, arith}
use Rattle.std.specs.List.{find}
use Rattle.std.specs.Option.{option_map}
use Rattle.std.specs.Map.{lookup}
use Rattle.std.proofs.lemmas.Bool.{eqb-true, eq-eqb, ne_eqb, both_ways, cond_both, lt-ltb}
use Rattle.object_id.specs.declared.oid.Vid.{Vid}
use Rattle.vdi_directory.specs.declared.live_snapshot.LiveSnapshot.{LiveSnapshot}
use Rattle.vdi_directory.specs.declared.effect.Effect.{Effect}
use Rattle.vdi_directory.specs.declared.effect.Effect.TheVariants as effects
use Rattle.vdi_directory.specs.Names.{Name, is_same_bytes, has_tag, snapshot_with_tag, name_with_working, name_with_snapshot, unless, name_without}
use Rattle.vdi_directory.specs.NameRows.{Standing, standing_of, standing_with_working, standing_with_snapshot, standing_without, standing_after}
use Rattle.vdi_directory.specs.Effects.{name_after}
use Rattle.vdi_directory.specs.Sound.{In}
use Rattle.vdi_directory.proofs.NameLemmas.{Key, is_key, is-key, same-is, is-same}
use Rattle.vdi_directory.proofs.LawfulEntries.{in-find}

-- the id of the live snapshot that was found
abbrev pub vid_found : Option LiveSnapshot → Option Vid
vid_found found = option_map (λ (live_snapshot : LiveSnapshot). live_snapshot.vid) found

-- no live snapshot has the tag
abbrev pub IsFreeTag : List ℕ → List LiveSnapshot → Type 0
IsFreeTag tag live_snapshots = (live_snapshot : LiveSnapshot) → In live_snapshot live_snapshots → live_snapshot.tag ≡ tag → ⊥

-- no two live snapshots have one tag
abbrev pub HaveOwnTags : List LiveSnapshot → Type 0
HaveOwnTags live_snapshots = (one other : LiveSnapshot) → In one live_snapshots → In other live_snapshots → one.tag ≡ other.tag → one.vid.0 ≡ other.vid.0

abbrev but : Vid → LiveSnapshot → Bool
but vid live_snapshot = not (live_snapshot.vid.0 == vid.0)

pub free-none : (tag : List ℕ) (live_snapshots : List LiveSnapshot) → IsFreeTag tag live_snapshots → find (has_tag tag) live_snapshots ≡ None
free-none tag live_snapshots free = by_found (find (has_tag tag) live_snapshots) refl
  where
    by_found : (found : Option LiveSnapshot) → find (has_tag tag) live_snapshots ≡ found → find (has_tag tag) live_snapshots ≡ None
    by_found None none = none
    by_found (Some live_snapshot) there =
        let is = in-find (has_tag tag) live_snapshot live_snapshots there in
        absurd (free live_snapshot is.0 (same-is live_snapshot.tag tag is.1))

pub none-free : (tag : List ℕ) (live_snapshots : List LiveSnapshot) → vid_found (find (has_tag tag) live_snapshots) ≡ None → IsFreeTag tag live_snapshots
none-free tag [] none = λ one there same. absurd there
none-free tag (first ∷ rest) none = by_test (has_tag tag first) refl none (none-free tag rest)
  where
    by_place : has_tag tag first ≡ false → IsFreeTag tag rest → (one : LiveSnapshot) → In one (first ∷ rest) → one.tag ≡ tag → ⊥
    by_place lacks later one (inl here) same =
        both_ways (has_tag tag first) lacks (is-same first.tag tag (ap (λ (s : LiveSnapshot). s.tag) here ∙ same))
    by_place lacks later one (inr there) same = later one there same

    by_test : (b : Bool) → has_tag tag first ≡ b → vid_found (cond b (Some first) (find (has_tag tag) rest)) ≡ None
        → (vid_found (find (has_tag tag) rest) ≡ None → IsFreeTag tag rest) → IsFreeTag tag (first ∷ rest)
    by_test true has none later = cc
    by_test false lacks none later = by_place lacks (later none)

-- one more
found-last : (tag : List ℕ) (live_snapshots : List LiveSnapshot) (last : LiveSnapshot) → find (has_tag tag) live_snapshots ≡ None
    → vid_found (find (has_tag tag) (live_snapshots ++ last ∷ [])) ≡ cond (has_tag tag last) (Some last.vid) None
found-last tag [] last none = cond_both (has_tag tag last) (Some last) None (λ o. vid_found o ≡ cond (has_tag tag last) (Some last.vid) None)
    (λ has. sym (ap (λ b. cond b (Some last.vid) None) has)) (λ lacks. sym (ap (λ b. cond b (Some last.vid) None) lacks))
found-last tag (first ∷ rest) last none = by_test (has_tag tag first) none (found-last tag rest last)
  where
    by_test : (b : Bool) → cond b (Some first) (find (has_tag tag) rest) ≡ None
        → (find (has_tag tag) rest ≡ None → vid_found (find (has_tag tag) (rest ++ last ∷ [])) ≡ cond (has_tag tag last) (Some last.vid) None)
        → vid_found (cond b (Some first) (find (has_tag tag) (rest ++ last ∷ []))) ≡ cond (has_tag tag last) (Some last.vid) None
    by_test true none later = cc
    by_test false none later = later none

found-other : (tag : List ℕ) (live_snapshots : List LiveSnapshot) (last : LiveSnapshot) → has_tag tag last ≡ false
    → find (has_tag tag) (live_snapshots ++ last ∷ []) ≡ find (has_tag tag) live_snapshots
found-other tag [] last lacks = ap (λ b. cond b (Some last) None) lacks
found-other tag (first ∷ rest) last lacks = ap (cond (has_tag tag first) (Some first)) (found-other tag rest last lacks)

found-push : (tag new : List ℕ) (old : Vid) (live_snapshots : List LiveSnapshot) → IsFreeTag new live_snapshots
    → vid_found (find (has_tag tag) (live_snapshots ++ record { vid = old; tag = new } ∷ []))
    ≡ cond (is_same_bytes new tag) (Some old) (vid_found (find (has_tag tag) live_snapshots))
found-push tag new old live_snapshots free = by_test (is_same_bytes new tag) refl
  where
    last : LiveSnapshot
    last = record { vid = old; tag = new }

    by_test : (b : Bool) → is_same_bytes new tag ≡ b
        → vid_found (find (has_tag tag) (live_snapshots ++ last ∷ [])) ≡ cond b (Some old) (vid_found (find (has_tag tag) live_snapshots))
    by_test true same =
        found-last tag live_snapshots last
        (free-none tag live_snapshots (λ one there has. free one there (has ∙ sym (same-is new tag same))))
        ∙ ap (λ b. cond b (Some old) None) same
    by_test false apart = ap vid_found (found-other tag live_snapshots last apart)

-- one less
found-without : (vid : Vid) (tag : List ℕ) (live_snapshots : List LiveSnapshot) → HaveOwnTags live_snapshots
    → vid_found (find (has_tag tag) (filter (but vid) live_snapshots)) ≡ unless vid (vid_found (find (has_tag tag) live_snapshots))
found-without vid tag [] own = refl
found-without vid tag (first ∷ rest) own =
    by_test (has_tag tag first) (first.vid.0 == vid.0) refl refl
    (found-without vid tag rest (λ one other here there. own one other (inr here) (inr there)))
  where
    by_test : (a b : Bool) → has_tag tag first ≡ a → (first.vid.0 == vid.0) ≡ b
        → vid_found (find (has_tag tag) (filter (but vid) rest)) ≡ unless vid (vid_found (find (has_tag tag) rest))
        → vid_found (find (has_tag tag) (cond (not b) (first ∷ filter (but vid) rest) (filter (but vid) rest)))
        ≡ unless vid (vid_found (cond a (Some first) (find (has_tag tag) rest)))
    by_test true true has gone later =
        later ∙ by_found (find (has_tag tag) rest) refl ∙ sym (ap (λ b. cond b None (Some first.vid)) gone)
      where
        by_found : (found : Option LiveSnapshot) → find (has_tag tag) rest ≡ found → unless vid (vid_found found) ≡ None
        by_found None none = refl
        by_found (Some other) there =
            let is = in-find (has_tag tag) other rest there in
            let same : other.vid.0 ≡ vid.0
            = own other first (inr is.0) (inl refl) (same-is other.tag tag is.1 ∙ sym (same-is first.tag tag has)) ∙ eqb-true first.vid.0 vid.0 gone in
            ap (λ b. cond b None (Some other.vid)) (eq-eqb other.vid.0 vid.0 same)
    by_test true false has stays later =
        ap (λ a. vid_found (cond a (Some first) (find (has_tag tag) (filter (but vid) rest)))) has
        ∙ sym (ap (λ b. cond b None (Some first.vid)) stays)
    by_test false true lacks gone later = later
    by_test false false lacks stays later =
        ap (λ a. vid_found (cond a (Some first) (find (has_tag tag) (filter (but vid) rest)))) lacks ∙ later

-- a name has live snapshots exactly where its tree of tags isn't empty
pub filled : (tags : List (Key × Vid)) (live_snapshots : List LiveSnapshot)
    → ((tag : List ℕ) → lookup (is_key tag) tags ≡ vid_found (find (has_tag tag) live_snapshots)) → nat_lt 0 (length tags) ≡ nat_lt 0 (length live_snapshots)
filled [] [] same = refl
filled [] (first ∷ rest) same =
    absurd (never (same first.tag
    ∙ ap (λ b. vid_found (cond b (Some first) (find (has_tag first.tag) rest))) (is-same first.tag first.tag refl)))
  where
    never : None ≡ Some first.vid → ⊥
    never e = cc
filled (first ∷ rest) [] same =
    absurd (never (sym (ap (λ b. cond b (Some first.1) (lookup (is_key first.0.items) rest)) (is-key first.0.items first.0 refl)) ∙ same first.0.items))
  where
    never : Some first.1 ≡ None → ⊥
    never e = cc
filled (first ∷ rest) (one ∷ others) same = lt-ltb 0 (length (first ∷ rest)) (omega arith) ∙ sym (lt-ltb 0 (length (one ∷ others)) (omega arith))

-- what has to be true of a name, for what it stands for to change as it does
abbrev pub KeepsTags : List ℕ → Name → Effect → Type 0
KeepsTags name now (effects.Snapped snap) = is_same_bytes snap.name name ≡ true → IsFreeTag snap.tag now.live_snapshots
KeepsTags name now (effects.Deleted vid of) = HaveOwnTags now.live_snapshots
KeepsTags name now _ = Unit {0}

pub standing-after : (name : List ℕ) (now : Name) (effect : Effect) → KeepsTags name now effect
    → standing_of (name_after name now effect) ≡ standing_after name (standing_of now) effect
standing-after name now (effects.Published vid of) keeps = by_test (is_same_bytes of name)
  where
    by_test : (b : Bool) → standing_of (cond b (name_with_working vid now) now) ≡ cond b (standing_with_working vid (standing_of now)) (standing_of now)
    by_test true = refl
    by_test false = refl
standing-after name now (effects.Snapped snap) keeps = by_test (is_same_bytes snap.name name) refl
  where
    by_test : (b : Bool) → is_same_bytes snap.name name ≡ b → standing_of (cond b (name_with_snapshot snap.old snap.vid snap.tag now) now)
        ≡ cond b (standing_with_snapshot snap.old snap.vid snap.tag (standing_of now)) (standing_of now)
    by_test true same = λ i. record {
      working = Some snap.vid;
      tagged = λ tag. found-push tag snap.tag snap.old now.live_snapshots (keeps same) i;
      taken = (standing_of (name_with_snapshot snap.old snap.vid snap.tag now)).taken;
    }
    by_test false apart = refl
standing-after name now (effects.Deleted vid of) keeps = by_test (is_same_bytes of name)
  where
    by_test : (b : Bool) → standing_of (cond b (name_without vid now) now) ≡ cond b (standing_without vid (standing_of now)) (standing_of now)
    by_test true = λ i. record {
      working = unless vid now.working;
      tagged = λ tag. found-without vid tag now.live_snapshots keeps i;
      taken = now.taken;
    }
    by_test false = refl
standing-after name now effect keeps = refl
