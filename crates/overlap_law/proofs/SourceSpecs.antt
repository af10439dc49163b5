-- An id that is reserved to take the place of a disk is of the disk's spec, whatever the log.
use Rattle.std.proofs.Common.{◌≡◌, ℕ, ◌==◌, Bool, true, false, cond, List, [], ◌∷◌, ◌++◌, Option, Some, None, option_map, refl, ap, subst}
use Rattle.std.proofs.lemmas.Bool.{eqb-true}
use Rattle.object_id.specs.declared.entry.Entry.{Entry}
use Rattle.object_id.specs.declared.entry.Entry.TheVariants.{Snapshot}
use Rattle.object_id.specs.declared.entry.VdiSpec.{VdiSpec}
use Rattle.object_id.specs.declared.node.NodeId.{NodeId}
use Rattle.object_id.specs.declared.oid.Vid.{Vid}
use Rattle.vdi_directory.specs.declared.decision.Decision.TheVariants as decisions
use Rattle.vdi_directory.specs.declared.effect.Effect.{Effect}
use Rattle.vdi_directory.specs.declared.effect.Reservation.{Reservation}
use Rattle.vdi_directory.specs.declared.effect.Source.{Source}
use Rattle.vdi_directory.specs.declared.effect.Source.TheVariants as sources
use Rattle.vdi_directory.specs.declared.header.Header.{Header}
use Rattle.disk_lock.specs.declared.holder.Holder.{Holder}
use Rattle.vdi_directory.specs.Decisions.{nothing, replacement, snapshot_outcome, decision_after, log_effects}
use Rattle.vdi_directory.specs.Effects.{is_used, header_of, reservations_of, reservation_on, holder_of}
use Rattle.vdi_directory.specs.Sources.{tag_for}
use Rattle.vdi_directory.specs.Sound.{In, IsParent}
use Rattle.vdi_directory.proofs.LawfulEntries.{in-find}
use Rattle.overlap_law.specs.Each.{spec_in}
use Rattle.overlap_law.proofs.GrantedEpochs.{spec_stays}
use Rattle.overlap_law.proofs.MadeEffects as made_effects
use Rattle.overlap_law.proofs.ReservedSources.{reservations_are}

-- an id and the disk whose place it is to take are of one spec
pub record IsOneSpec (known : List Effect) (vid old : ℕ) : Type 0 where
  pub spec : VdiSpec
  pub own : spec_in known vid ≡ Some spec
  pub of_old : spec_in known old ≡ Some spec

abbrev IsOfSource : List Effect → ℕ → Source → Type 0
IsOfSource known vid sources.Fresh = Unit {0}
IsOfSource known vid (sources.Snapshot old tag) = IsOneSpec known vid old.0
IsOfSource known vid sources.Clone = Unit {0}

-- ---- every log

module _ (log : List Entry) (entry : Entry) where
  stays : (vid : ℕ) (spec : VdiSpec) → spec_in (log_effects log) vid ≡ Some spec → spec_in (log_effects (log ++ entry ∷ [])) vid ≡ Some spec
  stays vid spec is = spec_stays log (entry ∷ []) vid spec is

  source_stays : (vid : ℕ) (source : Source) → is_used (log_effects log) vid ≡ true → IsOfSource (log_effects log) vid source
      → IsOfSource (log_effects (log ++ entry ∷ [])) vid source
  source_stays vid sources.Fresh used is = tt
  source_stays vid (sources.Snapshot old tag) used is = record {
    spec = is.spec;
    own = stays vid is.spec is.own;
    of_old = stays old.0 is.spec is.of_old;
  }
  source_stays vid sources.Clone used is = tt

  source_comes : (source : Source) (vid : ℕ) (header : Header) → header_of (log_effects (log ++ entry ∷ [])) vid ≡ Some header
      → made_effects.IsOfSource (log_effects log) source header.parent header.spec → IsParent (log_effects log) header.parent
      → IsOfSource (log_effects (log ++ entry ∷ [])) vid source
  source_comes sources.Fresh vid header own is live = tt
  source_comes (sources.Snapshot old tag) vid header own is live = record {
    spec = header.spec;
    own = ap (option_map (λ (h : Header). h.spec)) own;
    of_old = stays old.0 header.spec is.1;
  }
  source_comes sources.Clone vid header own is live = tt

sources_so : (log : List Entry) (reservation : Reservation) → In reservation (reservations_of (log_effects log))
    → IsOfSource (log_effects log) reservation.vid.0 reservation.source
sources_so = reservations_are IsOfSource source_stays source_comes

-- an id that is granted in the place of a disk is of its spec
replaced_spec : (log : List Entry) (r : Reservation) (old : Vid) (tag : Option (List ℕ)) (holder : Option Holder)
    → In r (reservations_of (log_effects log)) → tag_for old r.source ≡ tag → (vid : Vid)
    → (replacement r old tag holder).decision ≡ decisions.Granted vid → IsOneSpec (log_effects log) vid.0 old.0
replaced_spec log r old None holder there tagged vid is = absurd (cc (is))
replaced_spec log r old (Some tag) None there tagged vid is = absurd (cc (is))
replaced_spec log r old (Some tag) (Some holder) there tagged vid is =
    subst (λ (v : Vid). IsOneSpec (log_effects log) v.0 old.0) (cc (is)) (by_source r.source tagged (sources_so log r there))
  where
    by_source : (source : Source) → tag_for old source ≡ Some tag → IsOfSource (log_effects log) r.vid.0 source
        → IsOneSpec (log_effects log) r.vid.0 old.0
    by_source sources.Fresh none so = absurd (cc (none))
    by_source (sources.Snapshot of own) named so = by_test (of.0 == old.0) refl named
      where
        by_test : (b : Bool) → (of.0 == old.0) ≡ b → cond b (Some own) None ≡ Some tag → IsOneSpec (log_effects log) r.vid.0 old.0
        by_test true same named = subst (IsOneSpec (log_effects log) r.vid.0) (eqb-true of.0 old.0 same) so
        by_test false apart named = absurd (cc (named))
    by_source sources.Clone none so = absurd (cc (none))

pub snapshot_spec : (log : List Entry) (by : NodeId) (old of vid : Vid)
    → decision_after log (Snapshot by old of) ≡ decisions.Granted vid → IsOneSpec (log_effects log) vid.0 old.0
snapshot_spec log by old of vid is = by_found (reservation_on of (reservations_of (log_effects log))) refl is
  where
    by_found : (o : Option Reservation) → reservation_on of (reservations_of (log_effects log)) ≡ o
        → (snapshot_outcome (log_effects log) by old o).decision ≡ decisions.Granted vid → IsOneSpec (log_effects log) vid.0 old.0
    by_found None found is = absurd (cc (is))
    by_found (Some r) found is = by_test (r.by.0 == by.0) is
      where
        by_test : (b : Bool)
            → (cond b (replacement r old (tag_for old r.source) (holder_of (log_effects log) old.0)) nothing).decision
            ≡ decisions.Granted vid
            → IsOneSpec (log_effects log) vid.0 old.0
        by_test true is =
            replaced_spec log r old (tag_for old r.source) (holder_of (log_effects log) old.0)
            (in-find (λ (c : Reservation). c.vid.0 == of.0) r (reservations_of (log_effects log)) found).0 refl vid is
        by_test false is = absurd (cc (is))
