-- An id that is reserved for a clone has a parent by its header, which is there or was deleted, whatever the log.
use Rattle.std.proofs.Common.{◌≡◌, ℕ, ◌==◌, Bool, true, false, cond, List, [], ◌∷◌, ◌++◌, Option, Some, None, is_some, option_map, refl, ap}
use Rattle.std.proofs.Common.{◌∙◌}
use Rattle.std.specs.Option.{option_and_then}
use Rattle.object_id.specs.declared.entry.Entry.{Entry}
use Rattle.object_id.specs.declared.oid.Vid.{Vid}
use Rattle.vdi_directory.specs.declared.effect.Effect.{Effect}
use Rattle.vdi_directory.specs.declared.effect.Effect.TheVariants as effects
use Rattle.vdi_directory.specs.declared.effect.Reservation.{Reservation}
use Rattle.vdi_directory.specs.declared.effect.Source.{Source}
use Rattle.vdi_directory.specs.declared.effect.Source.TheVariants as sources
use Rattle.vdi_directory.specs.declared.header.Header.{Header}
use Rattle.vdi_directory.specs.Decisions.{outcome, log_effects}
use Rattle.vdi_directory.specs.Effects.{grants, is_used, header_of, header_after, reservations_of}
use Rattle.vdi_directory.specs.Sound.{In, IsParent}
use Rattle.vdi_directory.proofs.SoundEffects.{state_of-push}
use Rattle.vdi_directory.proofs.StateLemmas.{log_effects-push, header_of-push}
use Rattle.vdi_directory.specs.States.{VdiState, Unused, Reserved, Working, Snapshot, Deleted, Freed, state_of, is_live_state, freed_state}
use Rattle.vdi_directory.specs.States.{state_after, state_after_leave}
use Rattle.overlap_law.proofs.GrantedEpochs.{not_again}
use Rattle.overlap_law.proofs.MadeEffects as made_effects
use Rattle.overlap_law.proofs.ReservedSources.{used_by, reservations_are}

-- whether a disk of an id was made, and is deleted, by its state
abbrev pub shown : VdiState → Option Bool
shown Unused = None
shown (Reserved by) = None
shown Working = Some false
shown (Snapshot tag) = Some false
shown Deleted = Some true
shown Freed = None

abbrev pub parent_by : Option Header → Option Vid
parent_by header = option_and_then (λ (h : Header). h.parent) header

-- an id's header has a parent, which was made
pub record IsDrawn (known : List Effect) (vid : ℕ) : Type 0 where
  pub parent : Vid
  pub from : parent_by (header_of known vid) ≡ Some parent
  pub there : is_some (shown (state_of known parent.0)) ≡ true

abbrev pub IsOfSource : List Effect → ℕ → Source → Type 0
IsOfSource known vid sources.Fresh = Unit {0}
IsOfSource known vid (sources.Snapshot old tag) = Unit {0}
IsOfSource known vid sources.Clone = IsDrawn known vid

-- ---- an id stays drawn

pub parent_after : (vid : ℕ) (header : Option Header) (effect : Effect) → grants vid effect ≡ false
    → parent_by (header_after vid header effect) ≡ parent_by header
parent_after vid header effects.Nothing other = refl
parent_after vid header (effects.Reserved grant) other = ap (λ (b : Bool). parent_by (cond b (Some grant.header) header)) other
parent_after vid header (effects.Published id name) other = refl
parent_after vid header (effects.Snapped snap) other = by_tie (snap.old.0 == vid) header
  where
    by_tie : (b : Bool) (header : Option Header)
        → parent_by (cond b (option_map (λ (old : Header). record old { tag = snap.tag }) header) header) ≡ parent_by header
    by_tie true None = refl
    by_tie true (Some old) = refl
    by_tie false header = refl
parent_after vid header (effects.Deleted id name) other = refl
parent_after vid header (effects.Held id holder) other = refl
parent_after vid header (effects.Freed id) other = refl
parent_after vid header (effects.Withdrawn id) other = refl
parent_after vid header (effects.Left node) other = refl

pub freed_shown : (state : VdiState) → shown (freed_state state) ≡ shown state
freed_shown Unused = refl
freed_shown (Reserved by) = refl
freed_shown Working = refl
freed_shown (Snapshot tag) = refl
freed_shown Deleted = refl
freed_shown Freed = refl

pub left_shown : (node : ℕ) (state : VdiState) → shown (state_after_leave node state) ≡ shown state
left_shown node Unused = refl
left_shown node (Reserved by) = by_test (by.0 == node)
  where
    by_test : (b : Bool) → shown (cond b Freed (Reserved by)) ≡ None
    by_test true = refl
    by_test false = refl
left_shown node Working = refl
left_shown node (Snapshot tag) = refl
left_shown node Deleted = refl
left_shown node Freed = refl

pub live_shown : (state : VdiState) → is_live_state state ≡ true → shown state ≡ Some false
live_shown Unused live = absurd (cc (live))
live_shown (Reserved by) live = absurd (cc (live))
live_shown Working live = refl
live_shown (Snapshot tag) live = refl
live_shown Deleted live = absurd (cc (live))
live_shown Freed live = absurd (cc (live))

abbrev WasMade : VdiState → Type 0
WasMade state = is_some (shown state) ≡ true

made_if : (b : Bool) (state other : VdiState) → WasMade state → WasMade other → WasMade (cond b state other)
made_if true state other here there = here
made_if false state other here there = there

made_after : (vid : ℕ) (state : VdiState) (effect : Effect) → grants vid effect ≡ false → WasMade state
    → WasMade (state_after vid state effect)
made_after vid state effects.Nothing other made = made
made_after vid state (effects.Reserved grant) other made =
    ap (λ (b : Bool). is_some (shown (cond b (Reserved grant.reservation.by) state))) other ∙ made
made_after vid state (effects.Published id name) other made = made_if (id.0 == vid) Working state refl made
made_after vid state (effects.Snapped snap) other made =
    made_if (snap.old.0 == vid) (Snapshot snap.tag) (cond (snap.vid.0 == vid) Working state) refl
    (made_if (snap.vid.0 == vid) Working state refl made)
made_after vid state (effects.Deleted id name) other made = made_if (id.0 == vid) Deleted state refl made
made_after vid state (effects.Held id holder) other made = made
made_after vid state (effects.Freed id) other made = made
made_after vid state (effects.Withdrawn id) other made =
    made_if (id.0 == vid) (freed_state state) state (ap is_some (freed_shown state) ∙ made) made
made_after vid state (effects.Left node) other made = ap is_some (left_shown node.0 state) ∙ made

-- who was made is used
made_used : (log : List Entry) (vid : ℕ) → WasMade (state_of (log_effects log) vid) → is_used (log_effects log) vid ≡ true
made_used log vid made =
    used_by log vid
    (λ unused. let none : is_some (shown (state_of (log_effects log) vid)) ≡ false = ap (λ (s : VdiState). is_some (shown s)) unused in
    cc (none, made))

-- ---- every log

module _ (log : List Entry) (entry : Entry) where
  abbrev effect : Effect
  effect = (outcome (log_effects log) entry).effect

  made_stays : (vid : ℕ) → WasMade (state_of (log_effects log) vid) → WasMade (state_of (log_effects (log ++ entry ∷ [])) vid)
  made_stays vid made =
      ap (λ (known : List Effect). is_some (shown (state_of known vid))) (log_effects-push log entry)
      ∙ ap (λ (s : VdiState). is_some (shown s)) (state_of-push (log_effects log) effect vid)
      ∙ made_after vid (state_of (log_effects log) vid) effect (not_again log entry vid (made_used log vid made)) made

  source_stays : (vid : ℕ) (source : Source) → is_used (log_effects log) vid ≡ true → IsOfSource (log_effects log) vid source
      → IsOfSource (log_effects (log ++ entry ∷ [])) vid source
  source_stays vid sources.Fresh used is = tt
  source_stays vid (sources.Snapshot old tag) used is = tt
  source_stays vid sources.Clone used is = record {
    parent = is.parent;
    from =
        ap (λ (known : List Effect). parent_by (header_of known vid)) (log_effects-push log entry)
        ∙ ap parent_by (header_of-push (log_effects log) effect vid)
        ∙ parent_after vid (header_of (log_effects log) vid) effect (not_again log entry vid used)
        ∙ is.from;
    there = made_stays is.parent.0 is.there;
  }

  source_comes : (source : Source) (vid : ℕ) (header : Header) → header_of (log_effects (log ++ entry ∷ [])) vid ≡ Some header
      → made_effects.IsOfSource (log_effects log) source header.parent header.spec → IsParent (log_effects log) header.parent
      → IsOfSource (log_effects (log ++ entry ∷ [])) vid source
  source_comes sources.Fresh vid header own is live = tt
  source_comes (sources.Snapshot old tag) vid header own is live = tt
  source_comes sources.Clone vid header own is live = by_parent header.parent refl is.0 live
    where
      by_parent : (o : Option Vid) → header.parent ≡ o → is_some o ≡ true → IsParent (log_effects log) o
          → IsDrawn (log_effects (log ++ entry ∷ [])) vid
      by_parent None from is live = absurd (cc (is))
      by_parent (Some parent) from is live = record {
        parent = parent;
        from = ap parent_by own ∙ from;
        there = made_stays parent.0 (ap is_some (live_shown (state_of (log_effects log) parent.0) live));
      }

pub clones_so : (log : List Entry) (reservation : Reservation) → In reservation (reservations_of (log_effects log))
    → IsOfSource (log_effects log) reservation.vid.0 reservation.source
clones_so = reservations_are IsOfSource source_stays source_comes
