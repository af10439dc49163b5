-- An entry of the log that adds a copy to the history publishes an id that was reserved for it: for a clone, or to take the place of the
-- disk that it is a copy of; and the id is made from that.
use Rattle.std.proofs.Common.{◌≡◌, ℕ, ◌==◌, ◌&&◌, Bool, true, false, cond, List, [], ◌∷◌, Option, Some, None, refl, sym, ap, subst, ◌∙◌}
use Rattle.std.specs.Option.{option_map_or}
use Rattle.std.proofs.lemmas.Bool.{and_parts, eqb-true}
use Rattle.object_id.specs.declared.entry.Entry.{Entry}
use Rattle.object_id.specs.declared.entry.Entry.TheVariants as entries
use Rattle.object_id.specs.declared.node.NodeId.{NodeId}
use Rattle.object_id.specs.declared.oid.Vid.{Vid}
use Rattle.disk_history.specs.declared.event.HistEvent.{HistEvent}
use Rattle.disk_history.specs.declared.event.HistEvent.TheVariants.{Copy}
use Rattle.disk_lock.specs.declared.holder.Holder.{Holder}
use Rattle.sheep_world.specs.Granted.{granted_header, disk_made, disk_cloned, granted_adds, decided_adds, entry_adds}
use Rattle.vdi_directory.specs.declared.decision.Decision.{Decision}
use Rattle.vdi_directory.specs.declared.decision.Decision.TheVariants as decisions
use Rattle.vdi_directory.specs.declared.effect.Effect.TheVariants as effects
use Rattle.vdi_directory.specs.declared.effect.Reservation.{Reservation}
use Rattle.vdi_directory.specs.declared.effect.Source.{Source}
use Rattle.vdi_directory.specs.declared.effect.Source.TheVariants as sources
use Rattle.vdi_directory.specs.declared.header.Header.{Header}
use Rattle.vdi_directory.specs.Decisions.{decision_after, grant_outcome, log_effects, nothing, publication, replacement, snapshot_outcome}
use Rattle.vdi_directory.specs.Effects.{holder_of, reservation_on, reservations_of}
use Rattle.vdi_directory.specs.References.{header_parent, parent_of}
use Rattle.vdi_directory.specs.Sources.{is_for, tag_for}
use Rattle.vdi_directory.proofs.LawfulEntries.{in-find}
use Rattle.overlap_law.proofs.DraftsOfLogs.{parents_so}
use Rattle.overlap_law.proofs.MadeEffects.{IsSourceParent}

-- an id was reserved for a clone, or to take a disk's place
pub data IsCopySource (base : Vid) (source : Source) : Type 0 where
  OfClone : source ≡ sources.Clone → IsCopySource base source
  InPlace : (tag : List ℕ) → source ≡ sources.Snapshot base tag → IsCopySource base source

pub record IsCopyMade (log : List Entry) (old new : ℕ) : Type 0 where
  pub reservation : Reservation
  pub stands : reservation_on (record { 0 = new }) (reservations_of (log_effects log)) ≡ Some reservation
  pub base : Vid
  pub same : base.0 ≡ old
  pub source : IsCopySource base reservation.source
  pub parent : parent_of (log_effects log) new ≡ Some base

module _ (log : List Entry) (old new : ℕ) where
  abbrev IsCopy : List HistEvent → Type 0
  IsCopy added = added ≡ Copy old new ∷ []

  -- the reservation on an id is that of the id which is published
  on_id : (of : Vid) (r : Reservation) → reservation_on of (reservations_of (log_effects log)) ≡ Some r → (vid : Vid) → r.vid ≡ vid
      → vid.0 ≡ new → reservation_on (record { 0 = new }) (reservations_of (log_effects log)) ≡ Some r
  on_id of r found vid is same =
      ap (λ (k : ℕ). reservation_on (record { 0 = k }) (reservations_of (log_effects log)))
      (sym same ∙ ap (λ (v : Vid). v.0) (sym is)
      ∙ eqb-true r.vid.0 of.0 (in-find (λ (c : Reservation). c.vid.0 == of.0) r (reservations_of (log_effects log)) found).1)
      ∙ found

  -- ---- a clone

  right_clone : (source : Source) → is_for true source ≡ true → source ≡ sources.Clone
  right_clone sources.Fresh is = absurd (cc (is))
  right_clone (sources.Snapshot of tag) is = absurd (cc (is))
  right_clone sources.Clone is = refl

  cloned : (by : NodeId) (of : Vid) (o : Option Reservation) → reservation_on of (reservations_of (log_effects log)) ≡ o → (vid : Vid)
      → (publication by (is_for true) o).decision ≡ decisions.Granted vid → (parent : Vid) → parent_of (log_effects log) vid.0 ≡ Some parent
      → parent.0 ≡ old → vid.0 ≡ new → IsCopyMade log old new
  cloned by of None found vid is parent made same own = absurd (cc (is))
  cloned by of (Some r) found vid is parent made same own = by_test (r.by.0 == by.0 && is_for true r.source) refl is
    where
      by_test : (b : Bool) → (r.by.0 == by.0 && is_for true r.source) ≡ b
          → (cond b (grant_outcome r.vid (effects.Published r.vid r.name)) nothing).decision ≡ decisions.Granted vid
          → IsCopyMade log old new
      by_test true right is = record {
        reservation = r;
        stands = on_id of r found vid (cc (is)) own;
        base = parent;
        same = same;
        source = OfClone (right_clone r.source (and_parts (r.by.0 == by.0) (is_for true r.source) right).1);
        parent = ap (parent_of (log_effects log)) (sym own) ∙ made;
      }
      by_test false right is = absurd (cc (is))

  clone_made : (by : NodeId) (of vid : Vid) → decision_after log (entries.Clone by of) ≡ decisions.Granted vid → (o : Option Header)
      → granted_header log vid ≡ o → IsCopy (option_map_or (disk_cloned vid) o []) → IsCopyMade log old new
  clone_made by of vid granted None there is = absurd (cc (is))
  clone_made by of vid granted (Some header) there is = by_parent header.parent refl is
    where
      by_parent : (o : Option Vid) → header.parent ≡ o → IsCopy (option_map_or (λ (parent : Vid). Copy parent.0 vid.0 ∷ []) o [])
          → IsCopyMade log old new
      by_parent None from is = absurd (cc (is))
      by_parent (Some parent) from is =
          cloned by of (reservation_on of (reservations_of (log_effects log))) refl vid granted parent (ap header_parent there ∙ from)
          (cc (is)) (cc (is))

  -- ---- a snapshot

  placed : (of : Vid) (r : Reservation) → reservation_on of (reservations_of (log_effects log)) ≡ Some r → (from : Vid)
      → (tag : Option (List ℕ)) → tag_for from r.source ≡ tag → (holder : Option Holder) → (vid : Vid)
      → (replacement r from tag holder).decision ≡ decisions.Granted vid → from.0 ≡ old → vid.0 ≡ new → IsCopyMade log old new
  placed of r found from None tagged holder vid is same own = absurd (cc (is))
  placed of r found from (Some tag) tagged None vid is same own = absurd (cc (is))
  placed of r found from (Some tag) tagged (Some holder) vid is same own = by_source r.source refl tagged
    where
      stands : reservation_on (record { 0 = new }) (reservations_of (log_effects log)) ≡ Some r
      stands = on_id of r found vid (cc (is)) own

      by_source : (source : Source) → r.source ≡ source → tag_for from source ≡ Some tag → IsCopyMade log old new
      by_source sources.Fresh so none = absurd (cc (none))
      by_source (sources.Snapshot base given) so named = by_test (base.0 == from.0) refl named
        where
          by_test : (b : Bool) → (base.0 == from.0) ≡ b → cond b (Some given) None ≡ Some tag → IsCopyMade log old new
          by_test true here named = record {
            reservation = r;
            stands = stands;
            base = base;
            same = eqb-true base.0 from.0 here ∙ same;
            source = InPlace given so;
            parent = subst (λ (s : Source). IsSourceParent s (parent_of (log_effects log) new)) so (parents_so log new r stands);
          }
          by_test false apart named = absurd (cc (named))
      by_source sources.Clone so none = absurd (cc (none))

  snapshot_made : (by : NodeId) (from of vid : Vid) (o : Option Reservation) → reservation_on of (reservations_of (log_effects log)) ≡ o
      → (snapshot_outcome (log_effects log) by from o).decision ≡ decisions.Granted vid → from.0 ≡ old → vid.0 ≡ new
      → IsCopyMade log old new
  snapshot_made by from of vid None found is same own = absurd (cc (is))
  snapshot_made by from of vid (Some r) found is same own = by_test (r.by.0 == by.0) is
    where
      by_test : (b : Bool)
          → (cond b (replacement r from (tag_for from r.source) (holder_of (log_effects log) from.0)) nothing).decision
          ≡ decisions.Granted vid → IsCopyMade log old new
      by_test true is =
          placed of r found from (tag_for from r.source) refl (holder_of (log_effects log) from.0) vid is same own
      by_test false is = absurd (cc (is))

  -- ---- an entry

  made_none : (o : Option Header) (vid : Vid) → IsCopy (option_map_or (disk_made vid) o []) → ⊥
  made_none None vid is = cc (is)
  made_none (Some header) vid is = cc (is)

  by_entry : (entry : Entry) (vid : Vid) → decision_after log entry ≡ decisions.Granted vid → IsCopy (granted_adds log vid entry)
      → IsCopyMade log old new
  by_entry (entries.Format members) vid granted is = absurd (cc (is))
  by_entry (entries.Join node zone vnodes) vid granted is = absurd (cc (is))
  by_entry (entries.Leave node) vid granted is = absurd (cc (is))
  by_entry (entries.Reweight node vnodes) vid granted is = absurd (cc (is))
  by_entry (entries.Recovered node epoch) vid granted is = absurd (cc (is))
  by_entry (entries.Reserve by session name origin) vid granted is = absurd (cc (is))
  by_entry (entries.Publish by of) vid granted is = absurd (made_none (granted_header log vid) vid is)
  by_entry (entries.Clone by of) vid granted is = clone_made by of vid granted (granted_header log vid) refl is
  by_entry (entries.Snapshot by from of) vid granted is =
      snapshot_made by from of vid (reservation_on of (reservations_of (log_effects log))) refl granted (cc (is)) (cc (is))
  by_entry (entries.Delete by session name tag) vid granted is = absurd (cc (is))
  by_entry (entries.Lock by session name tag) vid granted is = absurd (cc (is))
  by_entry (entries.Unlock by session of) vid granted is = absurd (cc (is))

  pub copy_made : (entry : Entry) → entry_adds log entry ≡ Copy old new ∷ [] → IsCopyMade log old new
  unfolding entry_adds
  copy_made entry is = by_decision (decision_after log entry) refl is
    where
      by_decision : (d : Decision) → decision_after log entry ≡ d → IsCopy (decided_adds log entry d) → IsCopyMade log old new
      by_decision decisions.None of is = absurd (cc (is))
      by_decision (decisions.Granted vid) of is = by_entry entry vid of is
      by_decision (decisions.Refused cause) of is = absurd (cc (is))
