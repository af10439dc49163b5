-- Over a change of a moment after which a session's node isn't up, an id stays the session's to write as long as another one is reserved
-- for it: what a node that is up puts takes nothing from it, and its node's leave would take both.
use Rattle.std.specs.FinMap as tree
use Rattle.std.proofs.Common.{◌≡◌, ◌⊎◌, ⊎_elim, ℕ, false, List, [], ◌∷◌, ◌++◌, Some, refl, sym, ap, subst}
use Rattle.std.proofs.Common.{◌∙◌}
use Rattle.object_id.specs.declared.entry.Entry.{Entry}
use Rattle.object_id.specs.declared.entry.Entry.TheVariants as entries
use Rattle.cluster_script.specs.declared.statement.Statement.{Statement}
use Rattle.vdi_directory.specs.declared.effect.Reservation.{Reservation}
use Rattle.vdi_directory.specs.Decisions.{log_effects}
use Rattle.vdi_directory.specs.Effects.{reservation_on, reservations_of}
use Rattle.sheep_world.specs.Began.{Began}
use Rattle.sheep_world.specs.World.{Host}
use Rattle.overlap_law.specs.Grants.{may_take_writer, reserver, writer_of}
use Rattle.overlap_law.specs.MomentChanges.{MomentChange, RunsAreInRange}
use Rattle.overlap_law.specs.Past.{MomentWithPast}
use Rattle.overlap_law.specs.Reached.{Hosts}
use Rattle.overlap_law.proofs.AnswersInMoments.{not_lost}
use Rattle.overlap_law.proofs.ClaimsElsewhere.{leave_spares}
use Rattle.overlap_law.proofs.KeptIds.{not_taken}
use Rattle.overlap_law.proofs.LogsOfMoments.{IsOfMembers, IsPutHere, gets_entry}
use Rattle.overlap_law.proofs.ReservedMembers.{StandsReserved, left_gone}
use Rattle.overlap_law.proofs.WriterChanges.{entry_keeps_writer}
use Rattle.overlap_law.proofs.WritersEnd.{spares_others}

-- ---- what the session of a reservation may write beside

-- a node isn't up
abbrev pub IsNotUp : Hosts → ℕ → Type 0
IsNotUp hosts n = (host : Host) → tree.get hosts n ≡ Some host → host.is_lost ≡ false → ⊥

module _ (script : List Statement) (range : RunsAreInRange script) (start before after : MomentWithPast) (began : Began script start.world)
    (change : MomentChange script start before after) (vid : ℕ) (r : Reservation) (stands : StandsReserved after.world.log vid r)
    (down : IsNotUp after.world.hosts r.by.0) (id : ℕ) (writer : writer_of (log_effects before.world.log) id ≡ Some (reserver r)) where
  abbrev Spares : Entry → Type 0
  Spares entry = may_take_writer id (reserver r) entry ≡ false

  members_spare : (entry : Entry) → IsOfMembers entry → after.world.log ≡ before.world.log ++ entry ∷ [] → Spares entry
  members_spare (entries.Format members) of longer = absurd of
  members_spare (entries.Join node zone vnodes) of longer = refl
  members_spare (entries.Leave node) of longer =
      leave_spares before.world.log r.by node
      (λ same.
      left_gone before.world.log node.0 vid r
      (ap (λ (log : List Entry). reservation_on (record { 0 = vid }) (reservations_of (log_effects log))) (sym longer) ∙ stands) (sym same))
      r.session id writer
  members_spare (entries.Reweight node vnodes) of longer = refl
  members_spare (entries.Recovered node epoch) of longer = absurd of
  members_spare (entries.Reserve by session name origin) of longer = absurd of
  members_spare (entries.Publish by given) of longer = absurd of
  members_spare (entries.Clone by given) of longer = absurd of
  members_spare (entries.Snapshot by old given) of longer = absurd of
  members_spare (entries.Delete by session name tag) of longer = absurd of
  members_spare (entries.Lock by session name tag) of longer = absurd of
  members_spare (entries.Unlock by session given) of longer = absurd of

  put_spares : (entry : Entry) → IsPutHere script start before after entry → Spares entry
  put_spares entry p =
      spares_others script range start began p.n p.host p.there p.up (not_lost p.host p.up) entry p.so r.by r.session id
      (λ same. down p.now (ap (tree.get after.world.hosts) same ∙ p.now_there) (p.now_lost ∙ not_lost p.host p.up))
      (subst (λ (m : MomentWithPast). writer_of (log_effects m.world.log) id ≡ Some (reserver r)) p.first writer)

  pub writer_kept : writer_of (log_effects after.world.log) id ≡ Some (reserver r)
  writer_kept = ⊎_elim
      (λ (same : after.world.log ≡ before.world.log). ap (λ (log : List Entry). writer_of (log_effects log) id) same ∙ writer)
      (λ (more : (entry : Entry) × (after.world.log ≡ before.world.log ++ entry ∷ [])
      × (IsOfMembers entry ⊎ IsPutHere script start before after entry)).
      let spares : may_take_writer id (reserver r) more.0 ≡ false = ⊎_elim
      (λ (of : IsOfMembers more.0). members_spare more.0 of more.1)
      (λ (p : IsPutHere script start before after more.0). put_spares more.0 p)
      more.2 in
      ap (λ (log : List Entry). writer_of (log_effects log) id) more.1
      ∙ entry_keeps_writer before.world.log more.0 id (reserver r) writer
      (not_taken before.world.log more.0 id (reserver r) writer spares))
      (gets_entry script change)
