-- What an entry of the log adds to the history keeps what blocks may come to be read as, if the drafts stay drawn, and each copy is made
-- like the disk that it is of.
use Rattle.std.proofs.Common.{◌≡◌, ℕ, ◌==◌, ◌&&◌, Bool, true, false, cond, List, [], ◌∷◌, ◌++◌, Option, Some, None, refl, sym, ap, ◌∙◌}
use Rattle.std.specs.Option.{option_map_or}
use Rattle.std.proofs.lemmas.Bool.{and_parts, eqb-true}
use Rattle.object_id.specs.declared.entry.Entry.{Entry}
use Rattle.object_id.specs.declared.entry.Entry.TheVariants as entries
use Rattle.object_id.specs.declared.node.NodeId.{NodeId}
use Rattle.object_id.specs.declared.oid.Vid.{Vid}
use Rattle.cluster_script.specs.declared.statement.Statement.{Statement}
use Rattle.disk_history.specs.declared.event.HistEvent.{HistEvent}
use Rattle.disk_history.specs.declared.event.HistEvent.TheVariants.{Copy}
use Rattle.disk_history.specs.Ledger.{Ledger}
use Rattle.vdi_directory.specs.declared.decision.Decision.{Decision}
use Rattle.vdi_directory.specs.declared.decision.Decision.TheVariants as decisions
use Rattle.vdi_directory.specs.declared.effect.Effect.TheVariants as effects
use Rattle.vdi_directory.specs.declared.effect.Reservation.{Reservation}
use Rattle.vdi_directory.specs.declared.effect.Source.{Source}
use Rattle.vdi_directory.specs.declared.effect.Source.TheVariants as sources
use Rattle.vdi_directory.specs.declared.header.Header.{Header}
use Rattle.vdi_directory.specs.Decisions.{decision_after, grant_outcome, log_effects, nothing, publication}
use Rattle.vdi_directory.specs.Effects.{reservation_on, reservations_of}
use Rattle.vdi_directory.specs.Sources.{is_for}
use Rattle.vdi_directory.proofs.LawfulEntries.{in-find}
use Rattle.sheep_world.specs.Granted.{disk_cloned, disk_made, decided_adds, entry_adds, granted_adds, granted_header}
use Rattle.sheep_world.specs.RunsWithAsks.{Move}
use Rattle.overlap_law.specs.MomentChanges.{MomentChange, MomentTrail, RunsAreInRange}
use Rattle.overlap_law.specs.Past.{MomentWithPast, run_with_past}
use Rattle.overlap_law.specs.StayingBlocks.{AllKeepBlocks, IsMadeLike}
use Rattle.overlap_law.specs.StayingDrafts.{DraftsStayDrawn}
use Rattle.overlap_law.proofs.MadeDisks.{made_blank}

-- an id is reserved for a new disk
record IsNewDisk (log : List Entry) (vid : Vid) : Type 0 where
  reservation : Reservation
  stands : reservation_on (record { 0 = vid.0 }) (reservations_of (log_effects log)) ≡ Some reservation
  fresh : reservation.source ≡ sources.Fresh

right_fresh : (source : Source) → is_for false source ≡ true → source ≡ sources.Fresh
right_fresh sources.Fresh is = refl
right_fresh (sources.Snapshot old tag) is = absurd (cc (is))
right_fresh sources.Clone is = absurd (cc (is))

-- what is published as one was reserved so
new_disk : (log : List Entry) (by : NodeId) (of : Vid) (o : Option Reservation) → reservation_on of (reservations_of (log_effects log)) ≡ o
    → (vid : Vid) → (publication by (is_for false) o).decision ≡ decisions.Granted vid → IsNewDisk log vid
new_disk log by of None found vid is = absurd (cc (is))
new_disk log by of (Some r) found vid is = by_test (r.by.0 == by.0 && is_for false r.source) refl is
  where
    by_test : (b : Bool) → (r.by.0 == by.0 && is_for false r.source) ≡ b
        → (cond b (grant_outcome r.vid (effects.Published r.vid r.name)) nothing).decision ≡ decisions.Granted vid → IsNewDisk log vid
    by_test true right is =
        let id : r.vid ≡ vid = cc (is) in
        let own : r.vid.0 ≡ of.0
        = eqb-true r.vid.0 of.0 (in-find (λ (c : Reservation). c.vid.0 == of.0) r (reservations_of (log_effects log)) found).1 in
        record {
          reservation = r;
          stands = ap (λ (k : ℕ). reservation_on (record { 0 = k }) (reservations_of (log_effects log)))
              (ap (λ (v : Vid). v.0) (sym id) ∙ own) ∙ found;
          fresh = right_fresh r.source (and_parts (r.by.0 == by.0) (is_for false r.source) right).1;
        }
    by_test false right is = absurd (cc (is))

module _ (script : List Statement) (range : RunsAreInRange script) (events : List Move) (start before after : MomentWithPast)
    (is : run_with_past script events ≡ Some start) (trail : MomentTrail script start before)
    (change : MomentChange script start before after) (good_id : ℕ → Bool)
    (drafts : DraftsStayDrawn (log_effects before.world.log) good_id before.world.hosts before.past.attempts)
    (entry : Entry) (longer : after.world.log ≡ before.world.log ++ entry ∷ []) (ledger : Ledger) where
  abbrev Keeps : List HistEvent → Type 0
  Keeps = AllKeepBlocks (log_effects after.world.log) good_id after.world.hosts after.past.attempts ledger

  abbrev CopiesAreLike : List HistEvent → Type 0
  CopiesAreLike added = (old new : ℕ) → added ≡ Copy old new ∷ []
      → IsMadeLike (log_effects after.world.log) good_id after.world.hosts after.past.attempts ledger old new

  made : (by : NodeId) (of vid : Vid) → entry ≡ entries.Publish by of → decision_after before.world.log entry ≡ decisions.Granted vid
      → (o : Option Header) → Keeps (option_map_or (disk_made vid) o [])
  made by of vid says granted None = tt
  made by of vid says granted (Some header) =
      let new : IsNewDisk before.world.log vid
      = new_disk before.world.log by of (reservation_on of (reservations_of (log_effects before.world.log))) refl vid
      (ap (decision_after before.world.log) (sym says) ∙ granted) in (
        made_blank script range events start before after is trail change good_id drafts entry longer vid.0 new.reservation new.stands
            new.fresh,
        tt,
      )

  cloned : (vid : Vid) (o : Option Header) → CopiesAreLike (option_map_or (disk_cloned vid) o []) → Keeps
      (option_map_or (disk_cloned vid) o [])
  cloned vid None like = tt
  cloned vid (Some header) like = by_parent header.parent like
    where
      by_parent : (o : Option Vid) → CopiesAreLike (option_map_or (λ (parent : Vid). Copy parent.0 vid.0 ∷ []) o [])
          → Keeps (option_map_or (λ (parent : Vid). Copy parent.0 vid.0 ∷ []) o [])
      by_parent None like = tt
      by_parent (Some parent) like = (like parent.0 vid.0 refl, tt)

  by_entry : (e : Entry) → entry ≡ e → (vid : Vid) → decision_after before.world.log entry ≡ decisions.Granted vid
      → CopiesAreLike (granted_adds before.world.log vid e) → Keeps (granted_adds before.world.log vid e)
  by_entry (entries.Format members) says vid granted like = tt
  by_entry (entries.Join node zone vnodes) says vid granted like = tt
  by_entry (entries.Leave node) says vid granted like = tt
  by_entry (entries.Reweight node vnodes) says vid granted like = tt
  by_entry (entries.Recovered node epoch) says vid granted like = tt
  by_entry (entries.Reserve by session name origin) says vid granted like = tt
  by_entry (entries.Publish by of) says vid granted like = made by of vid says granted (granted_header before.world.log vid)
  by_entry (entries.Clone by of) says vid granted like = cloned vid (granted_header before.world.log vid) like
  by_entry (entries.Snapshot by old of) says vid granted like = (like old.0 vid.0 refl, tt)
  by_entry (entries.Delete by session name tag) says vid granted like = (tt, tt)
  by_entry (entries.Lock by session name tag) says vid granted like = tt
  by_entry (entries.Unlock by session of) says vid granted like = tt

  by_decision : (d : Decision) → decision_after before.world.log entry ≡ d → CopiesAreLike (decided_adds before.world.log entry d)
      → Keeps (decided_adds before.world.log entry d)
  by_decision decisions.None of like = tt
  by_decision (decisions.Granted vid) of like = by_entry entry refl vid of like
  by_decision (decisions.Refused cause) of like = tt

  pub entry_keeps : ((old new : ℕ) → entry_adds before.world.log entry ≡ Copy old new ∷ []
      → IsMadeLike (log_effects after.world.log) good_id after.world.hosts after.past.attempts ledger old new)
      → AllKeepBlocks (log_effects after.world.log) good_id after.world.hosts after.past.attempts ledger (entry_adds before.world.log entry)
  unfolding entry_adds
  entry_keeps like = by_decision (decision_after before.world.log entry) refl like
