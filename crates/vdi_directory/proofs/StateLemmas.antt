-- One entry more, and what the state hold then.
use Rattle.std.proofs.Common.{◌≡◌, ℕ, ◌%◌, ◌^◌, ◌≤◌, ◌==◌, ◌&&◌, ◌||◌, Bool, true, false, cond, List, [], ◌∷◌, ◌++◌, Option, Some, None, is_some, Result, Ok, Err, refl, ap, sym, ◌∙◌, arith}
use Rattle.std.proofs.lemmas.Bool.{eqb-false}
use Rattle.std.proofs.lemmas.List.Sums.{fold-append}
use Rattle.std.proofs.lemmas.List.Folds.{list_any-append}
use Rattle.std.proofs.Math.Bool.{or-false}
use Rattle.object_id.specs.Hash.{fnv1a_of, own_vid}
use Rattle.object_id.specs.declared.oid.Vid.{Vid}
use Rattle.object_id.specs.declared.node.NodeId.{NodeId}
use Rattle.object_id.specs.declared.cause.Cause.{Cause}
use Rattle.object_id.specs.declared.entry.VdiSpec.{VdiSpec}
use Rattle.object_id.specs.declared.entry.Origin.{Origin}
use Rattle.object_id.specs.declared.entry.Origin.TheVariants.{Fresh, SnapshotOf, CloneOf}
use Rattle.object_id.specs.declared.entry.Entry.{Entry}
use Rattle.object_id.specs.declared.entry.Entry.TheVariants.{Reserve, Publish, Clone, Snapshot, Delete, Lock, Unlock}
use Rattle.disk_lock.specs.declared.holder.Holder.{Holder}
use Rattle.disk_lock.specs.Locks.{Holders}
use Rattle.object_id.specs.declared.limits.TheConstants.{VID_MAX}
use Rattle.vdi_directory.specs.declared.header.Header.{Header}
use Rattle.object_id.specs.declared.cause.Cause.TheVariants as causes
use Rattle.vdi_directory.specs.declared.effect.Source.{Source}
use Rattle.vdi_directory.specs.declared.effect.Source.TheVariants as sources
use Rattle.vdi_directory.specs.declared.effect.Reservation.{Reservation}
use Rattle.vdi_directory.specs.declared.effect.Effect.{Effect}
use Rattle.vdi_directory.specs.declared.effect.Effect.TheVariants as effects
use Rattle.vdi_directory.specs.declared.decision.Outcome.{Outcome}
use Rattle.vdi_directory.specs.declared.directory_state.DirectoryState.{DirectoryState}
use Rattle.vdi_directory.specs.Vids.{VID_COUNT, free_id}
use Rattle.vdi_directory.specs.Names.{no_disk}
use Rattle.vdi_directory.specs.NameRows.{Standing, standing_of, standing_after, name_in}
use Rattle.vdi_directory.specs.Effects.{grants, is_used, header_after, header_of, name_after, name_of, reservations_after, reservations_of, reservation_on, live_after, live_of, holder_after, holder_of}
use Rattle.vdi_directory.specs.Decisions.{nothing, silent_outcome, grant_outcome, refusal_outcome, outcome, happens, log_effects, or_full, grant_of, with_spec, reservation_outcome, reserved_snapshot, reserved_clone, reserve_outcome, publication, replacement, snapshot_outcome, deletion, lock, target, held_disk, is_held_by, is_reserved_by, is_taken}
use Rattle.vdi_directory.specs.Names.{is_live_name, snapshot_with_tag}
use Rattle.vdi_directory.specs.Sources.{is_for, tag_for}
use Rattle.vdi_directory.specs.References.{parent_of, own_of, count_in, AreReferenceCounts}
use Rattle.vdi_directory.specs.Known.{AreKnown}
use Rattle.vdi_directory.specs.DirectoryState.{IsDirectoryState, AreMade, AreLocksMade, AreLocks, IsFresh}
use Rattle.vdi_directory.proofs.VidLemmas.{found-unused}

pub log_effects-push : (entries : List Entry) (entry : Entry) → log_effects (entries ++ entry ∷ []) ≡ happens (log_effects entries) entry
unfolding log_effects
log_effects-push entries entry = fold-append happens [] entries (entry ∷ [])

pub is_used-push : (before : List Effect) (effect : Effect) (vid : ℕ) → is_used (before ++ effect ∷ []) vid ≡ (is_used before vid || grants vid effect)
unfolding is_used
is_used-push before effect vid = list_any-append (grants vid) before (effect ∷ []) ∙ ap (λ b. is_used before vid || b) (or-false (grants vid effect))

pub header_of-push : (before : List Effect) (effect : Effect) (vid : ℕ) → header_of (before ++ effect ∷ []) vid ≡ header_after vid (header_of before vid) effect
unfolding header_of
header_of-push before effect vid = fold-append (header_after vid) None before (effect ∷ [])

pub name_of-push : (before : List Effect) (effect : Effect) (name : List ℕ) → name_of (before ++ effect ∷ []) name ≡ name_after name (name_of before name) effect
unfolding name_of
name_of-push before effect name = fold-append (name_after name) no_disk before (effect ∷ [])

pub reservations_of-push : (before : List Effect) (effect : Effect) → reservations_of (before ++ effect ∷ []) ≡ reservations_after (reservations_of before) effect
unfolding reservations_of
reservations_of-push before effect = fold-append reservations_after [] before (effect ∷ [])

pub live_of-push : (before : List Effect) (effect : Effect) → live_of (before ++ effect ∷ []) ≡ live_after (live_of before) effect
unfolding live_of
live_of-push before effect = fold-append live_after [] before (effect ∷ [])

pub holder_of-push : (before : List Effect) (effect : Effect) (vid : ℕ) → holder_of (before ++ effect ∷ []) vid ≡ holder_after vid (holder_of before vid) effect
unfolding holder_of
holder_of-push before effect vid = fold-append (holder_after vid) None before (effect ∷ [])

-- what a name stands for, asked by tag
pub stands : (before : List Effect) (state : DirectoryState) → IsDirectoryState before state → (name : List ℕ)
    → name_in state.names.rows name ≡ standing_of (name_of before name)
stands before state is name = λ i. record { working = is.working name i; tagged = λ tag. is.tagged name tag i; taken = is.taken name i }

pub state-push : (before : List Effect) (effect : Effect) (old new : DirectoryState) → IsDirectoryState before old → AreMade effect old new
    → ((name : List ℕ) → standing_of (name_after name (name_of before name) effect) ≡ standing_after name (standing_of (name_of before name)) effect)
    → AreReferenceCounts (parent_of (before ++ effect ∷ [])) (own_of (before ++ effect ∷ [])) (count_in new.references)
    → AreKnown (before ++ effect ∷ []) → IsDirectoryState (before ++ effect ∷ []) new
state-push before effect old new is made follows references known = record {
  headers = λ vid. made.headers vid ∙ ap (λ header. header_after vid header effect) (is.headers vid) ∙ sym (header_of-push before effect vid);
  working = λ name. ap (λ (now : Standing). now.working) (standing name);
  tagged = λ name tag. ap (λ (now : Standing). now.tagged tag) (standing name);
  taken = λ name. ap (λ (now : Standing). now.taken) (standing name);
  reservations = made.reservations ∙ ap (λ reservations. reservations_after reservations effect) is.reservations ∙ sym (reservations_of-push before effect);
  live = made.live ∙ ap (λ live. live_after live effect) is.live ∙ sym (live_of-push before effect);
  ranges = made.ranges;
  used = λ vid. made.used vid ∙ ap (λ b. b || grants vid effect) (is.used vid) ∙ sym (is_used-push before effect vid);
  references = references;
  known = known;
}
  where
    standing : (name : List ℕ) → name_in new.names.rows name ≡ standing_of (name_of (before ++ effect ∷ []) name)
    standing name = made.names name ∙ ap (λ now. standing_after name now effect) (stands before old is name) ∙ sym (follows name)
        ∙ ap standing_of (sym (name_of-push before effect name))

pub locks-push : (before : List Effect) (effect : Effect) (old new : Holders) → AreLocks before old → AreLocksMade effect old new
    → AreLocks (before ++ effect ∷ []) new
locks-push before effect old new are made =
    λ vid. made vid ∙ ap (λ holder. holder_after vid holder effect) (are vid) ∙ sym (holder_of-push before effect vid)

-- a granted id is one, and was not used
pub own_vid-is : (name : List ℕ) → (1 ≤ own_vid name) × (own_vid name ≤ VID_MAX)
own_vid-is name = by_test (fnv1a_of name % 2 ^ 24 == 0) refl
  where
    by_test : (b : Bool) → (fnv1a_of name % 2 ^ 24 == 0) ≡ b
        → (1 ≤ cond b 1 (fnv1a_of name % 2 ^ 24)) × (cond b 1 (fnv1a_of name % 2 ^ 24) ≤ VID_MAX)
    by_test true is = (omega arith, omega arith)
    by_test false is = let some = eqb-false (fnv1a_of name % 2 ^ 24) 0 is in (omega arith, omega arith)

pub free_id-is : (name : List ℕ) (used : ℕ → Bool) (vid : ℕ) → free_id name used ≡ Some vid → (1 ≤ vid) × (vid ≤ VID_MAX) × (used vid ≡ false)
free_id-is name used vid is = found-unused used VID_COUNT (own_vid name) vid ((own_vid-is name).0) ((own_vid-is name).1) is

module _ (before : List Effect) (state : DirectoryState) (is : IsDirectoryState before state) where
  abbrev Fresh_ : Outcome → Type 0
  Fresh_ o = IsFresh o.effect state

  fresh-if : (b : Bool) (x y : Outcome) → Fresh_ x → Fresh_ y → Fresh_ (cond b x y)
  fresh-if true x y fx fy = fx
  fresh-if false x y fx fy = fy

  fresh-full : (by : NodeId) (session : ℕ) (name : List ℕ) (source : Source) (parent : Option Vid) (spec : VdiSpec) (found : Option ℕ)
      → free_id name (is_used before) ≡ found → Fresh_ (or_full found (grant_of before by session name source parent spec))
  fresh-full by session name source parent spec None free = tt
  fresh-full by session name source parent spec (Some vid) free =
      let id = free_id-is name (is_used before) vid free in
      ((id.0, omega (arith, id.1)), is.used vid ∙ id.2)

  fresh-reserved : (by : NodeId) (session : ℕ) (name : List ℕ) (source : Source) (parent : Option Vid) (spec : VdiSpec)
      → Fresh_ (reservation_outcome before by session name source parent spec)
  fresh-reserved by session name source parent spec = fresh-full by session name source parent spec (free_id name (is_used before)) refl

  fresh-spec : (header : Option Header) (make : VdiSpec → Outcome) → ((spec : VdiSpec) → Fresh_ (make spec)) → Fresh_ (with_spec header make)
  fresh-spec None make each = tt
  fresh-spec (Some header) make each = each header.spec

  fresh-snapshot : (by : NodeId) (session : ℕ) (name tag : List ℕ) (held : Option Vid) → Fresh_ (reserved_snapshot before by session name tag held)
  fresh-snapshot by session name tag None = tt
  fresh-snapshot by session name tag (Some old) =
      fresh-if (is_some (snapshot_with_tag tag (name_of before name))) (refusal_outcome causes.VdiExist)
      (with_spec (header_of before old.0) (reservation_outcome before by session name (sources.Snapshot old tag) (Some old))) tt
      (fresh-spec (header_of before old.0) (reservation_outcome before by session name (sources.Snapshot old tag) (Some old))
      (fresh-reserved by session name (sources.Snapshot old tag) (Some old)))

  fresh-clone : (by : NodeId) (session : ℕ) (name : List ℕ) (base : Option Vid) → Fresh_ (reserved_clone before by session name base)
  fresh-clone by session name None = tt
  fresh-clone by session name (Some base) =
      fresh-if (is_taken before name) (refusal_outcome causes.VdiExist)
      (with_spec (header_of before base.0) (reservation_outcome before by session name sources.Clone (Some base))) tt
      (fresh-spec (header_of before base.0) (reservation_outcome before by session name sources.Clone (Some base))
      (fresh-reserved by session name sources.Clone (Some base)))

  fresh-reservation : (by : NodeId) (session : ℕ) (name : List ℕ) (origin : Origin) → Fresh_ (reserve_outcome before by session name origin)
  fresh-reservation by session name (Fresh spec) =
      fresh-if (is_taken before name) (refusal_outcome causes.VdiExist) (reservation_outcome before by session name sources.Fresh None spec) tt
      (fresh-reserved by session name sources.Fresh None spec)
  fresh-reservation by session name (SnapshotOf tag) = fresh-snapshot by session name tag (held_disk before by session (name_of before name).working)
  fresh-reservation by session name (CloneOf base tag) =
      fresh-if (is_live_name (name_of before base)) (reserved_clone before by session name (snapshot_with_tag tag (name_of before base))) (refusal_outcome causes.NoBaseVdi)
      (fresh-clone by session name (snapshot_with_tag tag (name_of before base))) tt

  fresh-publication : (by : NodeId) (is_right : Source → Bool) (reservation : Option Reservation) → Fresh_ (publication by is_right reservation)
  fresh-publication by is_right None = tt
  fresh-publication by is_right (Some reservation) =
      fresh-if (reservation.by.0 == by.0 && is_right reservation.source) (grant_outcome reservation.vid (effects.Published reservation.vid reservation.name)) nothing tt tt

  fresh-replacement : (reservation : Reservation) (old : Vid) (tag : Option (List ℕ)) (holder : Option Holder) → Fresh_ (replacement reservation old tag holder)
  fresh-replacement reservation old None holder = tt
  fresh-replacement reservation old (Some tag) None = tt
  fresh-replacement reservation old (Some tag) (Some holder) = tt

  fresh-snap : (by : NodeId) (old : Vid) (reservation : Option Reservation) → Fresh_ (snapshot_outcome before by old reservation)
  fresh-snap by old None = tt
  fresh-snap by old (Some reservation) =
      fresh-if (reservation.by.0 == by.0) (replacement reservation old (tag_for old reservation.source) (holder_of before old.0)) nothing
      (fresh-replacement reservation old (tag_for old reservation.source) (holder_of before old.0)) tt

  fresh-deletion : (name : List ℕ) (of : Result Vid Cause) → Fresh_ (deletion name of)
  fresh-deletion name (Ok vid) = tt
  fresh-deletion name (Err cause) = tt

  fresh-lock : (holder : Holder) (is_snapshot : Bool) (of : Result Vid Cause) → Fresh_ (lock holder is_snapshot of)
  fresh-lock holder is_snapshot (Ok vid) = fresh-if is_snapshot (grant_outcome vid effects.Nothing) (grant_outcome vid (effects.Held vid holder)) tt tt
  fresh-lock holder is_snapshot (Err cause) = tt

  pub fresh-outcome : (entry : Entry) → IsFresh (outcome before entry).effect state
  fresh-outcome (Reserve by session name origin) = fresh-reservation by session name origin
  fresh-outcome (Publish by vid) = fresh-publication by (is_for false) (reservation_on vid (reservations_of before))
  fresh-outcome (Clone by vid) = fresh-publication by (is_for true) (reservation_on vid (reservations_of before))
  fresh-outcome (Snapshot by old vid) = fresh-snap by old (reservation_on vid (reservations_of before))
  fresh-outcome (Delete by session name tag) = fresh-deletion name (target before name tag)
  fresh-outcome (Lock by session name tag) = fresh-lock (record { node = by; session = session }) (is_some tag) (target before name tag)
  fresh-outcome (Unlock by session vid) =
      fresh-if (is_held_by by session (holder_of before vid.0)) (silent_outcome (effects.Freed vid))
      (cond (is_reserved_by by session (reservation_on vid (reservations_of before))) (silent_outcome (effects.Withdrawn vid)) nothing) tt
      (fresh-if (is_reserved_by by session (reservation_on vid (reservations_of before))) (silent_outcome (effects.Withdrawn vid)) nothing tt tt)
  fresh-outcome entry = tt

pub log_effects-none : log_effects [] ≡ []
unfolding log_effects
log_effects-none = refl
