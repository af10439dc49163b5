-- What an entry makes, copies or deletes may come next in a history that has the disks that the log has made, deleted where they are so by
-- the log; and then the history has them again.
use Rattle.std.proofs.Common.{◌≡◌, inl, inr, ℕ, ◌==◌, ◌&&◌, Bool, true, false, not, cond, List, [], ◌∷◌, ◌++◌, fold, Option, Some, None}
use Rattle.std.proofs.Common.{is_some, option_map, Result, Ok, Err, refl, sym, ap, subst, ◌∙◌}
use Rattle.std.specs.Prelude.{is_none}
use Rattle.std.specs.Option.{option_map_or}
use Rattle.std.proofs.lemmas.Bool.{both_ways, eqb-true, eq-eqb, and_parts, and_from}
use Rattle.proof_tools.proofs.Booleans.{cond_either}
use Rattle.object_id.specs.declared.cause.Cause.{Cause}
use Rattle.object_id.specs.declared.entry.Entry.{Entry}
use Rattle.object_id.specs.declared.entry.Entry.TheVariants as entries
use Rattle.object_id.specs.declared.entry.Origin.{Origin}
use Rattle.object_id.specs.declared.entry.VdiSpec.{VdiSpec}
use Rattle.object_id.specs.declared.node.NodeId.{NodeId}
use Rattle.object_id.specs.declared.oid.Vid.{Vid}
use Rattle.disk_history.specs.declared.event.HistEvent.{HistEvent}
use Rattle.disk_history.specs.declared.event.HistEvent.TheVariants.{Create, Copy, Delete, WriteStart, WriteDone, WriteRefused, WriterLost}
use Rattle.disk_history.specs.declared.event.HistEvent.TheVariants.{Read}
use Rattle.disk_history.specs.Ledger.{Disk, Ledger, changed_at, ledger_after}
use Rattle.disk_lock.specs.declared.holder.Holder.{Holder}
use Rattle.sheep_world.specs.Granted.{granted_header, disk_made, disk_cloned, decided_adds, entry_adds}
use Rattle.vdi_directory.specs.declared.decision.Outcome.{Outcome}
use Rattle.vdi_directory.specs.declared.effect.Effect.{Effect}
use Rattle.vdi_directory.specs.declared.effect.Effect.TheVariants as effects
use Rattle.vdi_directory.specs.declared.effect.Reservation.{Reservation}
use Rattle.vdi_directory.specs.declared.effect.Source.{Source}
use Rattle.vdi_directory.specs.declared.effect.Source.TheVariants as sources
use Rattle.vdi_directory.specs.declared.header.Header.{Header}
use Rattle.vdi_directory.specs.Decisions.{nothing, silent_outcome, grant_outcome, is_held_by, is_reserved_by, grant_of, reserve_outcome}
use Rattle.vdi_directory.specs.Decisions.{publication, replacement, snapshot_outcome, target, deletion, lock, release, outcome, log_effects}
use Rattle.vdi_directory.specs.Effects.{header_of, reservations_of, reservation_on, holder_of}
use Rattle.vdi_directory.specs.Sources.{is_for, tag_for}
use Rattle.vdi_directory.specs.Sound.{In, IsSound, IsLawful}
use Rattle.vdi_directory.specs.States.{VdiState, Reserved, Working, Snapshot, Deleted, state_of, is_live_state, freed_state, state_after}
use Rattle.vdi_directory.proofs.LawfulEntries.{in-find, lawful-outcome, sound-log_effects}
use Rattle.vdi_directory.proofs.StateLemmas.{log_effects-push}
use Rattle.vdi_directory.proofs.SoundEffects.{state_of-push}
use Rattle.overlap_law.specs.ToldReads.{MayFollowUnlessRead, AllElseMayFollow}
use Rattle.overlap_law.proofs.ClosedReservations.{reserves_so}
use Rattle.overlap_law.proofs.DiskShapes.{Shapes, shape, shapes_after, event_shapes}
use Rattle.overlap_law.proofs.DrawnClones.{shown, parent_by, IsDrawn, IsOfSource, freed_shown, left_shown, live_shown, clones_so}

-- ---- what may follow, by which disks are there

abbrev pub MayMake : Shapes → HistEvent → Type 0
MayMake f (Create disk blocks) = f disk ≡ None
MayMake f (Copy old new) = (is_some (f old) ≡ true) × (f new ≡ None)
MayMake f (Delete disk) = f disk ≡ Some false
MayMake f (WriteStart req disk block coded bytes) = ⊥
MayMake f (WriteDone req) = ⊥
MayMake f (WriteRefused req) = ⊥
MayMake f (WriterLost req) = ⊥
MayMake f (Read disk block bytes) = ⊥

abbrev pub MayMakeAll : Shapes → List HistEvent → Type 0
MayMakeAll f [] = Unit {0}
MayMakeAll f (event ∷ events) = MayMake f event × MayMakeAll (shapes_after f event) events

none_there : (found : Option Disk) (known : Option Bool) → shape found ≡ known → known ≡ None → is_none found ≡ true
none_there None known is none = refl
none_there (Some disk) known is none = absurd (cc (is, none))

some_there : (found : Option Disk) (known : Option Bool) → shape found ≡ known → is_some known ≡ true → is_some found ≡ true
some_there None known is some = let none = ap is_some is in absurd (cc (none, some))
some_there (Some disk) known is some = refl

kept_there : (found : Option Disk) (known : Option Bool) → shape found ≡ known → known ≡ Some false
    → option_map_or (λ (disk : Disk). not disk.deleted) found false ≡ true
kept_there None known is kept = absurd (cc (is, kept))
kept_there (Some disk) known is kept = by_value disk.deleted (cc (is, kept))
  where
    by_value : (b : Bool) → b ≡ false → not b ≡ true
    by_value true same = absurd (cc (same))
    by_value false same = refl

one_follows : (event : HistEvent) (ledger : Ledger) (f : Shapes) → ((v : ℕ) → shape (ledger.disks v) ≡ f v) → MayMake f event
    → MayFollowUnlessRead ledger event
one_follows (Create disk blocks) ledger f are may = none_there (ledger.disks disk) (f disk) (are disk) may
one_follows (Copy old new) ledger f are may =
    and_from (is_some (ledger.disks old)) (is_none (ledger.disks new)) (some_there (ledger.disks old) (f old) (are old) may.0)
    (none_there (ledger.disks new) (f new) (are new) may.1)
one_follows (Delete disk) ledger f are may = kept_there (ledger.disks disk) (f disk) (are disk) may
one_follows (WriteStart req disk block coded bytes) ledger f are may = absurd may
one_follows (WriteDone req) ledger f are may = absurd may
one_follows (WriteRefused req) ledger f are may = absurd may
one_follows (WriterLost req) ledger f are may = absurd may
one_follows (Read disk block bytes) ledger f are may = absurd may

pub made_follow : (events : List HistEvent) (ledger : Ledger) (f : Shapes) → ((v : ℕ) → shape (ledger.disks v) ≡ f v) → MayMakeAll f events
    → AllElseMayFollow ledger events
made_follow [] ledger f are may = tt
made_follow (event ∷ events) ledger f are may = (
  one_follows event ledger f are may.0,
  made_follow events (ledger_after ledger event) (shapes_after f event) (event_shapes event ledger f are) may.1,
)

-- ---- what an entry makes of an id

module _ (log : List Entry) (f : Shapes) (are : (v : ℕ) → f v ≡ shown (state_of (log_effects log) v)) where
  abbrev before : List Effect
  before = log_effects log

  sound : IsSound before
  sound = sound-log_effects log

  -- behind an effect, and what a history gets with it, the disks are as the log has them; and that may come next
  record Fits (effect : Effect) (added : List HistEvent) : Type 0 where
    pub same : (v : ℕ) → fold shapes_after f added v ≡ shown (state_after v (state_of before v) effect)
    pub may : MayMakeAll f added

  abbrev FitsOutcome : Entry → Outcome → Type 0
  FitsOutcome entry o = Fits o.effect (decided_adds log entry o.decision)

  nothing_fits : Fits effects.Nothing []
  nothing_fits = record { same = are; may = tt }

  held_fits : (vid : Vid) (holder : Holder) → Fits (effects.Held vid holder) []
  held_fits vid holder = record { same = are; may = tt }

  freed_fits : (vid : Vid) → Fits (effects.Freed vid) []
  freed_fits vid = record { same = are; may = tt }

  left_fits : (node : NodeId) → Fits (effects.Left node) []
  left_fits node = record { same = λ v. are v ∙ sym (left_shown node.0 (state_of before v)); may = tt }

  withdrawn_fits : (vid : Vid) → Fits (effects.Withdrawn vid) []
  withdrawn_fits vid = record { same = λ v. are v ∙ by_test (vid.0 == v) (state_of before v); may = tt }
    where
      by_test : (b : Bool) (state : VdiState) → shown state ≡ shown (cond b (freed_state state) state)
      by_test true state = sym (freed_shown state)
      by_test false state = refl

  -- ---- a reservation

  module _ (by : NodeId) (session : ℕ) (name : List ℕ) (origin : Origin) where
    abbrev FitsReserve : Outcome → Type 0
    FitsReserve o = IsLawful before o.effect → FitsOutcome (entries.Reserve by session name origin) o

    granted_fits : (source : Source) (parent : Option Vid) (spec : VdiSpec) (vid : ℕ)
        → FitsReserve (grant_of before by session name source parent spec vid)
    granted_fits source parent spec vid lawful = record { same = λ v. are v ∙ by_test v (vid == v) refl; may = tt }
      where
        by_test : (v : ℕ) (b : Bool) → (vid == v) ≡ b → shown (state_of before v) ≡ shown (cond b (Reserved by) (state_of before v))
        by_test v true same =
            ap shown (ap (state_of before) (sym (eqb-true vid v same)) ∙ sound.unused vid lawful.1)
        by_test v false apart = refl

    reserves : (origin : Origin) → FitsReserve (reserve_outcome before by session name origin)
    reserves =
        reserves_so before by session name FitsReserve (λ cause is lawful. nothing_fits) (λ lawful. nothing_fits) granted_fits

  -- ---- a publication

  -- one id is shown otherwise
  changed : (vid v : ℕ) (now : Option Bool) (state other : VdiState) → now ≡ shown state → f v ≡ shown other
      → changed_at vid now f v ≡ shown (cond (vid == v) state other)
  changed vid v now state other own rest = by_tests (v == vid) (vid == v) refl refl
    where
      by_tests : (b c : Bool) → (v == vid) ≡ b → (vid == v) ≡ c → cond b now (f v) ≡ shown (cond c state other)
      by_tests true true is so = own
      by_tests false false is so = rest
      by_tests true false is so = absurd (both_ways (vid == v) so (eq-eqb vid v (sym (eqb-true v vid is))))
      by_tests false true is so = absurd (both_ways (v == vid) is (eq-eqb v vid (sym (eqb-true vid v so))))

  module _ (r : Reservation) (there : In r (reservations_of before)) where
    unmade : f r.vid.0 ≡ None
    unmade = are r.vid.0 ∙ ap shown (sound.reservations r there).state

    headed : (header : Header) × (header_of before r.vid.0 ≡ Some header)
    headed = by_header (header_of before r.vid.0) refl (sound.reservations r there).owner
      where
        by_header : (o : Option Header) → header_of before r.vid.0 ≡ o → option_map (λ (header : Header). header.name) o ≡ Some r.name
            → (header : Header) × (header_of before r.vid.0 ≡ Some header)
        by_header None is owned = absurd (cc (owned))
        by_header (Some header) is owned = (header, is)

    made_fits : Fits (effects.Published r.vid r.name) (option_map_or (disk_made r.vid) (granted_header log r.vid) [])
    made_fits =
        let (header, is) = headed in
        subst (λ (o : Option Header). Fits (effects.Published r.vid r.name) (option_map_or (disk_made r.vid) o [])) (sym is) (record {
          same = λ v. changed r.vid.0 v (Some false) Working (state_of before v) refl (are v);
          may = (unmade, tt);
        })

    cloned_fits : is_for true r.source ≡ true
        → Fits (effects.Published r.vid r.name) (option_map_or (disk_cloned r.vid) (granted_header log r.vid) [])
    cloned_fits clones = by_source r.source refl clones (clones_so log r there)
      where
        by_parent : (parent : Vid) → is_some (shown (state_of before parent.0)) ≡ true
            → Fits (effects.Published r.vid r.name) (Copy parent.0 r.vid.0 ∷ [])
        by_parent parent made = record {
          same = λ v. changed r.vid.0 v (option_map (λ (b : Bool). false) (f parent.0)) Working (state_of before v)
              (kept (f parent.0) (ap is_some (are parent.0) ∙ made)) (are v);
          may = ((ap is_some (are parent.0) ∙ made, unmade), tt);
        }
          where
            kept : (o : Option Bool) → is_some o ≡ true → option_map (λ (b : Bool). false) o ≡ Some false
            kept None some = absurd (cc (some))
            kept (Some b) some = refl

        by_drawn : IsDrawn before r.vid.0
            → Fits (effects.Published r.vid r.name) (option_map_or (disk_cloned r.vid) (granted_header log r.vid) [])
        by_drawn drawn =
            let (header, is) = headed in
            let from : header.parent ≡ Some drawn.parent = ap parent_by (sym is) ∙ drawn.from in
            subst (λ (o : Option Header). Fits (effects.Published r.vid r.name) (option_map_or (disk_cloned r.vid) o [])) (sym is)
            (subst (λ (o : Option Vid). Fits (effects.Published r.vid r.name)
            (option_map_or (λ (parent : Vid). Copy parent.0 r.vid.0 ∷ []) o []))
            (sym from) (by_parent drawn.parent drawn.there))

        by_source : (source : Source) → r.source ≡ source → is_for true source ≡ true → IsOfSource before r.vid.0 source
            → Fits (effects.Published r.vid r.name) (option_map_or (disk_cloned r.vid) (granted_header log r.vid) [])
        by_source sources.Fresh is clones drawn = absurd (cc (clones))
        by_source (sources.Snapshot old tag) is clones drawn = absurd (cc (clones))
        by_source sources.Clone is clones drawn = by_drawn drawn

    replaced_fits : (by : NodeId) (old vid : Vid) (tag : Option (List ℕ)) (holder : Option Holder) → holder_of before old.0 ≡ holder
        → FitsOutcome (entries.Snapshot by old vid) (replacement r old tag holder)
    replaced_fits by old vid None holder held = nothing_fits
    replaced_fits by old vid (Some tag) None held = nothing_fits
    replaced_fits by old vid (Some tag) (Some holder) held = record {
      same = same;
      may = ((ap is_some live, unmade), tt);
    }
      where
        working : state_of before old.0 ≡ Working
        working = sound.held old.0 holder held

        live : f old.0 ≡ Some false
        live = are old.0 ∙ ap shown working

        apart : (old.0 == r.vid.0) ≡ false
        apart = by_test (old.0 == r.vid.0) refl
          where
            differ : Working ≡ Reserved r.by → ⊥
            differ is = cc (is)

            by_test : (b : Bool) → (old.0 == r.vid.0) ≡ b → b ≡ false
            by_test true is =
                absurd (differ (sym working ∙ ap (state_of before) (eqb-true old.0 r.vid.0 is) ∙ (sound.reservations r there).state))
            by_test false is = refl

        new : (v : ℕ)
            → changed_at r.vid.0 (option_map (λ (b : Bool). false) (f old.0)) f v ≡ shown (cond (r.vid.0 == v) Working (state_of before v))
        new v = changed r.vid.0 v (option_map (λ (b : Bool). false) (f old.0)) Working (state_of before v)
            (ap (option_map (λ (b : Bool). false)) live) (are v)

        same : (v : ℕ) → changed_at r.vid.0 (option_map (λ (b : Bool). false) (f old.0)) f v
            ≡ shown (cond (old.0 == v) (Snapshot tag) (cond (r.vid.0 == v) Working (state_of before v)))
        same v = by_test (old.0 == v) refl
          where
            by_test : (b : Bool) → (old.0 == v) ≡ b → changed_at r.vid.0 (option_map (λ (b : Bool). false) (f old.0)) f v
                ≡ shown (cond b (Snapshot tag) (cond (r.vid.0 == v) Working (state_of before v)))
            by_test true is =
                let here : old.0 ≡ v = eqb-true old.0 v is in
                subst (λ (k : ℕ). changed_at r.vid.0 (option_map (λ (b : Bool). false) (f old.0)) f k ≡ Some false) here
                (ap (λ (b : Bool). cond b (option_map (λ (b : Bool). false) (f old.0)) (f old.0)) apart ∙ live)
            by_test false is = new v

  found_in : (vid : Vid) (r : Reservation) → reservation_on vid (reservations_of before) ≡ Some r → In r (reservations_of before)
  found_in vid r found = (in-find (λ (reservation : Reservation). reservation.vid.0 == vid.0) r (reservations_of before) found).0

  publishes : (by : NodeId) (vid : Vid) (o : Option Reservation) → reservation_on vid (reservations_of before) ≡ o
      → FitsOutcome (entries.Publish by vid) (publication by (is_for false) o)
  publishes by vid None found = nothing_fits
  publishes by vid (Some r) found =
      cond_either (FitsOutcome (entries.Publish by vid)) (r.by.0 == by.0 && is_for false r.source)
      (grant_outcome r.vid (effects.Published r.vid r.name)) nothing (made_fits r (found_in vid r found)) nothing_fits

  clones : (by : NodeId) (vid : Vid) (o : Option Reservation) → reservation_on vid (reservations_of before) ≡ o
      → FitsOutcome (entries.Clone by vid) (publication by (is_for true) o)
  clones by vid None found = nothing_fits
  clones by vid (Some r) found = by_test (r.by.0 == by.0 && is_for true r.source) refl
    where
      by_test : (b : Bool) → (r.by.0 == by.0 && is_for true r.source) ≡ b
          → FitsOutcome (entries.Clone by vid) (cond b (grant_outcome r.vid (effects.Published r.vid r.name)) nothing)
      by_test true is = cloned_fits r (found_in vid r found) (and_parts (r.by.0 == by.0) (is_for true r.source) is).1
      by_test false is = nothing_fits

  snapshots : (by : NodeId) (old vid : Vid) (o : Option Reservation) → reservation_on vid (reservations_of before) ≡ o
      → FitsOutcome (entries.Snapshot by old vid) (snapshot_outcome before by old o)
  snapshots by old vid None found = nothing_fits
  snapshots by old vid (Some r) found =
      cond_either (FitsOutcome (entries.Snapshot by old vid)) (r.by.0 == by.0)
      (replacement r old (tag_for old r.source) (holder_of before old.0)) nothing
      (replaced_fits r (found_in vid r found) by old vid (tag_for old r.source) (holder_of before old.0) refl) nothing_fits

  -- ---- the others

  deleted_fits : (name : List ℕ) (vid : Vid) → is_live_state (state_of before vid.0) ≡ true
      → Fits (effects.Deleted vid name) (Delete vid.0 ∷ [])
  deleted_fits name vid live =
      let there : f vid.0 ≡ Some false = are vid.0 ∙ live_shown (state_of before vid.0) live in
      record {
        same = λ v. changed vid.0 v (option_map (λ (b : Bool). true) (f vid.0)) Deleted (state_of before v)
            (ap (option_map (λ (b : Bool). true)) there) (are v);
        may = (there, tt);
      }

  lawful_live : (name : List ℕ) (vid : Vid) → IsLawful before (effects.Deleted vid name) → is_live_state (state_of before vid.0) ≡ true
  lawful_live name vid (inl working) = ap is_live_state working.0.state
  lawful_live name vid (inr taken) = ap is_live_state taken.state.1

  deletes : (by : NodeId) (session : ℕ) (name : List ℕ) (tag : Option (List ℕ)) (found : Result Vid Cause)
      → IsLawful before (deletion name found).effect → FitsOutcome (entries.Delete by session name tag) (deletion name found)
  deletes by session name tag (Err cause) lawful = nothing_fits
  deletes by session name tag (Ok vid) lawful = deleted_fits name vid (lawful_live name vid lawful)

  locks : (by : NodeId) (session : ℕ) (name : List ℕ) (tag : Option (List ℕ)) (is_snapshot : Bool) (found : Result Vid Cause)
      → FitsOutcome (entries.Lock by session name tag) (lock (record { node = by; session = session }) is_snapshot found)
  locks by session name tag is_snapshot (Err cause) = nothing_fits
  locks by session name tag true (Ok vid) = nothing_fits
  locks by session name tag false (Ok vid) = held_fits vid (record { node = by; session = session })

  unlocks : (by : NodeId) (session : ℕ) (vid : Vid) → FitsOutcome (entries.Unlock by session vid) (release before by session vid)
  unlocks by session vid =
      cond_either (FitsOutcome (entries.Unlock by session vid)) (is_held_by by session (holder_of before vid.0))
      (silent_outcome (effects.Freed vid))
      (cond (is_reserved_by by session (reservation_on vid (reservations_of before))) (silent_outcome (effects.Withdrawn vid)) nothing)
      (freed_fits vid)
      (cond_either (FitsOutcome (entries.Unlock by session vid)) (is_reserved_by by session (reservation_on vid (reservations_of before)))
      (silent_outcome (effects.Withdrawn vid)) nothing (withdrawn_fits vid) nothing_fits)

  outcome_fits : (entry : Entry) → FitsOutcome entry (outcome before entry)
  outcome_fits (entries.Format members) = nothing_fits
  outcome_fits (entries.Join node zone vnodes) = nothing_fits
  outcome_fits (entries.Leave node) = left_fits node
  outcome_fits (entries.Reweight node vnodes) = nothing_fits
  outcome_fits (entries.Recovered node epoch) = nothing_fits
  outcome_fits (entries.Reserve by session name origin) =
      reserves by session name origin origin (lawful-outcome before sound (entries.Reserve by session name origin))
  outcome_fits (entries.Publish by vid) = publishes by vid (reservation_on vid (reservations_of before)) refl
  outcome_fits (entries.Clone by vid) = clones by vid (reservation_on vid (reservations_of before)) refl
  outcome_fits (entries.Snapshot by old vid) = snapshots by old vid (reservation_on vid (reservations_of before)) refl
  outcome_fits (entries.Delete by session name tag) =
      deletes by session name tag (target before name tag) (lawful-outcome before sound (entries.Delete by session name tag))
  outcome_fits (entries.Lock by session name tag) = locks by session name tag (is_some tag) (target before name tag)
  outcome_fits (entries.Unlock by session vid) = unlocks by session vid

  pub entry_shown : (entry : Entry) (v : ℕ)
      → fold shapes_after f (entry_adds log entry) v ≡ shown (state_of (log_effects (log ++ entry ∷ [])) v)
  unfolding entry_adds
  entry_shown entry v =
      (outcome_fits entry).same v
      ∙ sym (ap (λ (all : List Effect). shown (state_of all v)) (log_effects-push log entry)
      ∙ ap shown (state_of-push before (outcome before entry).effect v))

  pub entry_may : (entry : Entry) → MayMakeAll f (entry_adds log entry)
  unfolding entry_adds
  entry_may entry = (outcome_fits entry).may
