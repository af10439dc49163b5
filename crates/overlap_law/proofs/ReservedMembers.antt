-- Each id that is reserved is so for a session of a member of the newest epoch, which has a host: a node that is up puts the entry, and
-- with a node's leave its reservations go.
use Rattle.std.proofs.Common.{◌≡◌, ◌≢◌, ◌⊎◌, inl, inr, ⊎_elim, ℕ, ◌≤◌, ◌==◌, ◌||◌, Bool, true, false, List, [], ◌∷◌, ◌++◌, length}
use Rattle.std.proofs.Common.{Option, Some, None, is_some, refl, sym, ap, subst, ◌∙◌}
use Rattle.std.specs.FinMap as tree
use Rattle.object_id.specs.declared.entry.Entry.{Entry}
use Rattle.object_id.specs.declared.entry.Entry.TheVariants as entries
use Rattle.object_id.specs.declared.entry.Member.{Member}
use Rattle.disk_lock.specs.declared.holder.Holder.{Holder}
use Rattle.epoch_log.specs.Epochs.{epoch_of, members_in}
use Rattle.epoch_log.proofs.MembersLemmas.{IsLog-some}
use Rattle.cluster_script.specs.declared.statement.Statement.{Statement}
use Rattle.cluster_script.specs.Settings.{vnodes_of, zone_of}
use Rattle.vdi_directory.specs.declared.effect.Effect.{Effect}
use Rattle.vdi_directory.specs.declared.effect.Reservation.{Reservation}
use Rattle.vdi_directory.specs.Decisions.{outcome, log_effects}
use Rattle.vdi_directory.specs.Effects.{holder_of, is_used, reservation_on, reservations_of}
use Rattle.vdi_directory.specs.States.{Unused, state_of}
use Rattle.vdi_directory.proofs.LawfulEntries.{sound-log_effects}
use Rattle.vdi_directory.proofs.StateLemmas.{log_effects-push}
use Rattle.sheep_node.specs.declared.event.Event.{Event}
use Rattle.sheep_world.specs.Began.{Began}
use Rattle.sheep_world.specs.EventKinds.{EventKind, NodeStep, UntoldLoss, UnreadDelivery, NodeLoss, NodeLeave, NodeReweight, NodeJoin}
use Rattle.sheep_world.specs.EventKinds.{NodeReturn, PhaseEnd}
use Rattle.sheep_world.specs.LogHolds.{is_member_now, LogHolds}
use Rattle.sheep_world.specs.MembershipChanges.{last_weight}
use Rattle.sheep_world.specs.NodeCauses.{NodeCause, GuestAsks, RequestComes, ReplyComes, LossIsTold, EntryIsRead, EntryIsPut, RecoveryTicks}
use Rattle.sheep_world.specs.NodeCauses.{WorkIsRetried, ClientAsks, IsCause, log_after_cause}
use Rattle.sheep_world.specs.Step.{EventOutcome}
use Rattle.sheep_world.specs.World.{Host}
use Rattle.sheep_world.proofs.ClientReads.{goes_by_kind}
use Rattle.sheep_world.proofs.LogAtOpening.{log-holds, nodes-valid}
use Rattle.sheep_world.proofs.MembersOfLog.{member-members_with, member-members_reweighted, member-members_without, now-plain, now-begun}
use Rattle.sheep_world.proofs.NodesByTheLog.{knows_its_number}
use Rattle.sheep_world.proofs.PuttableEntries.{each_puts}
use Rattle.sheep_world.specs.RunsWithAsks.{Move}
use Rattle.overlap_law.specs.Grants.{gives, given_to, reserver, writer_of}
use Rattle.overlap_law.specs.MomentChanges.{RunsAreInRange}
use Rattle.overlap_law.specs.Past.{MomentWithPast, run_with_past}
use Rattle.overlap_law.proofs.CarriedDrafts.{none_reserved}
use Rattle.overlap_law.proofs.GivenByEntries.{given_by_entry}
use Rattle.overlap_law.proofs.GrantsAtPuts.{PutsFor, puts_for}
use Rattle.overlap_law.proofs.LeavesAndGrants.{left_loses}
use Rattle.overlap_law.proofs.NoRecoveredDue.{began-with_past}
use Rattle.overlap_law.proofs.OldReservations.{reservation_was}
use Rattle.overlap_law.proofs.RunsByEvents.{KeptByEvents, run-kept_by_events}
use Rattle.overlap_law.proofs.WriterChanges.{entry_gives_to, entry_gives_writer, unused_free, unused_unheld, writer_by, writer-by}
use Rattle.overlap_law.proofs.GoneInRuns.{up_so}

-- ---- of whatever log

-- an id is reserved so
abbrev pub StandsReserved : List Entry → ℕ → Reservation → Type 0
StandsReserved log vid r = reservation_on (record { 0 = vid }) (reservations_of (log_effects log)) ≡ Some r

-- who has the reservation may write the id
pub reserved_writer : (log : List Entry) (vid : ℕ) (r : Reservation) → StandsReserved log vid r
    → writer_of (log_effects log) vid ≡ Some (reserver r)
reserved_writer log vid r stands =
    writer-by (log_effects log) vid ∙ ap (λ (o : Option Reservation). writer_by o (holder_of (log_effects log) vid)) stands

-- what is reserved behind an entry was so before, or the entry gives it to the session
pub stood_or_given : (log : List Entry) (entry : Entry) (vid : ℕ) (r : Reservation) → StandsReserved (log ++ entry ∷ []) vid r
    → StandsReserved log vid r ⊎ (given_to (outcome (log_effects log) entry).effect ≡ Some (reserver r))
stood_or_given log entry vid r stands = by_used (is_used (log_effects log) vid) refl
  where
    writer : writer_of (log_effects (log ++ entry ∷ [])) vid ≡ Some (reserver r)
    writer = reserved_writer (log ++ entry ∷ []) vid r stands

    none_yet : is_used (log_effects log) vid ≡ false → writer_of (log_effects log) vid ≡ None
    none_yet unused =
        let state : state_of (log_effects log) vid ≡ Unused = (sound-log_effects log).unused vid unused in
        let free = unused_free (log_effects log) (sound-log_effects log) vid state in
        let unheld = unused_unheld (log_effects log) (sound-log_effects log) vid state in
        writer-by (log_effects log) vid ∙ (λ i. writer_by (free i) (unheld i))

    by_used : (b : Bool) → is_used (log_effects log) vid ≡ b
        → StandsReserved log vid r ⊎ (given_to (outcome (log_effects log) entry).effect ≡ Some (reserver r))
    by_used true used = inl (reservation_was log (entry ∷ []) vid r used stands)
    by_used false unused = ⊎_elim
        (λ (was : writer_of (log_effects log) vid ≡ Some (reserver r)).
        let none = none_yet unused in absurd (cc (none, was)))
        (λ (given : gives vid (outcome (log_effects log) entry).effect ≡ true). inr (sym (entry_gives_to log entry vid given) ∙ writer))
        (entry_gives_writer log entry vid (reserver r) writer)

-- the reservations of whoever leaves are gone
pub left_gone : (log : List Entry) (n vid : ℕ) (r : Reservation) → StandsReserved (log ++ entries.Leave (record { 0 = n }) ∷ []) vid r
    → n ≢ r.by.0
left_gone log n vid r stands own =
    left_loses (log_effects log) vid (record { 0 = n }) (reserver r) (sym own)
    (sym (ap (λ (all : List Effect). writer_of all vid) (log_effects-push log (entries.Leave (record { 0 = n }))))
    ∙ reserved_writer (log ++ entries.Leave (record { 0 = n }) ∷ []) vid r stands)

abbrev ReserversAreMembers : List Entry → Type 0
ReserversAreMembers log = (vid : ℕ) (r : Reservation) → StandsReserved log vid r → is_member_now log r.by.0 ≡ true

either_true : (b : Bool) → (b || true) ≡ true
either_true true = refl
either_true false = refl

module _ (script : List Statement) (range : RunsAreInRange script) where
  -- ---- over an event

  module _ (start : MomentWithPast) (began : Began script start.world) (all : ReserversAreMembers start.world.log) where
    holds : LogHolds start.world
    holds = log-holds script range.is_script range.room start.world began

    some : 1 ≤ length start.world.log
    some = IsLog-some start.world.log holds.log

    -- an entry that gives nothing
    plain : (entry : Entry) → given_to (outcome (log_effects start.world.log) entry).effect ≡ None
        → ((vid : ℕ) (r : Reservation) → StandsReserved (start.world.log ++ entry ∷ []) vid r → is_member_now start.world.log r.by.0 ≡ true
        → is_member_now (start.world.log ++ entry ∷ []) r.by.0 ≡ true)
        → ReserversAreMembers (start.world.log ++ entry ∷ [])
    plain entry nobody member vid r stands = ⊎_elim
        (λ (stood : StandsReserved start.world.log vid r). member vid r stands (all vid r stood))
        (λ (given : given_to (outcome (log_effects start.world.log) entry).effect ≡ Some (reserver r)).
        absurd (cc (nobody, given)))
        (stood_or_given start.world.log entry vid r stands)

    -- an entry that a node puts
    put : (n : ℕ) (host : Host) → tree.get start.world.hosts n ≡ Some host → host.is_lost ≡ false → (entry : Entry)
        → IsCause script start.world n host (EntryIsPut entry) → ReserversAreMembers (start.world.log ++ entry ∷ [])
    put n host there up entry so vid r stands =
        let valid = nodes-valid script range.is_script range.room start.world began in
        let puttable = each_puts script start.world began valid n host entry so.0 there so.1 in
        now-plain start.world.log entry r.by.0 some puttable.plain
        ∙ ⊎_elim
        (λ (stood : StandsReserved start.world.log vid r). all vid r stood)
        (λ (given : given_to (outcome (log_effects start.world.log) entry).effect ≡ Some (reserver r)). reserves given)
        (stood_or_given start.world.log entry vid r stands)
      where
        reserves : given_to (outcome (log_effects start.world.log) entry).effect ≡ Some (reserver r)
            → is_member_now start.world.log r.by.0 ≡ true
        reserves given =
            let p : PutsFor script range start began n host there up entry so (reserver r)
            = puts_for script range start began n host there up entry so (reserver r) given entry refl
            (given_by_entry (log_effects start.world.log) (reserver r) entry given) in
            let own : n ≡ r.by.0
            = sym (knows_its_number script start.world began n host there) ∙ ap (λ (h : Holder). h.node.0) p.own in
            ap (is_member_now start.world.log) (sym own) ∙ (holds.well n host there).stands up

    stepped : (n : ℕ) (host : Host) → tree.get start.world.hosts n ≡ Some host → host.is_lost ≡ false → (cause : NodeCause)
        → IsCause script start.world n host cause → ReserversAreMembers (log_after_cause cause start.world.log)
    stepped n host there up (GuestAsks session req ask) so = all
    stepped n host there up (RequestComes name to request) so = all
    stepped n host there up (ReplyComes name from rsp) so = all
    stepped n host there up (LossIsTold name packet) so = all
    stepped n host there up (EntryIsRead entry) so = all
    stepped n host there up (EntryIsPut entry) so = put n host there up entry so
    stepped n host there up RecoveryTicks so = all
    stepped n host there up WorkIsRetried so = all
    stepped n host there up (ClientAsks req ask) so = all

    -- a node that joins, or comes back
    joined : (k zone vnodes : ℕ) → ReserversAreMembers (start.world.log ++ entries.Join (record { 0 = k }) zone vnodes ∷ [])
    joined k zone vnodes =
        plain (entries.Join (record { 0 = k }) zone vnodes) refl
        (λ vid r stands was.
        let new : Member = record { node = record { 0 = k }; zone = zone; vnodes = vnodes } in
        now-begun start.world.log (entries.Join (record { 0 = k }) zone vnodes) r.by.0 some refl
        ∙ member-members_with r.by.0 new (members_in start.world.log (epoch_of start.world.log))
        ∙ ap (λ (b : Bool). (k == r.by.0) || b) was ∙ either_true (k == r.by.0))

    keeps : (event : Event) (made : EventOutcome) → EventKind script event start.world made → ReserversAreMembers made.world.log
    keeps event made (NodeStep h) =
        subst (λ (m : EventOutcome). ReserversAreMembers m.world.log) h.made_so
        (stepped h.n h.host h.there (up_so h.host h.up) h.cause h.caused)
    keeps event made (UntoldLoss h) = subst (λ (m : EventOutcome). ReserversAreMembers m.world.log) h.made_so all
    keeps event made (UnreadDelivery h) = subst (λ (m : EventOutcome). ReserversAreMembers m.world.log) h.made_so all
    keeps event made (NodeLoss h) = subst (λ (m : EventOutcome). ReserversAreMembers m.world.log) h.made_so all
    keeps event made (NodeLeave h) =
        subst (λ (m : EventOutcome). ReserversAreMembers m.world.log) h.made_so
        (plain (entries.Leave (record { 0 = h.n })) refl
        (λ vid r stands was.
        now-begun start.world.log (entries.Leave (record { 0 = h.n })) r.by.0 some refl
        ∙ member-members_without r.by.0 h.n (members_in start.world.log (epoch_of start.world.log))
        (left_gone start.world.log h.n vid r stands) ∙ was))
    keeps event made (NodeReweight h) =
        subst (λ (m : EventOutcome). ReserversAreMembers m.world.log) h.made_so
        (plain (entries.Reweight (record { 0 = h.n }) h.vnodes) refl
        (λ vid r stands was.
        now-begun start.world.log (entries.Reweight (record { 0 = h.n }) h.vnodes) r.by.0 some refl
        ∙ member-members_reweighted r.by.0 h.n h.vnodes (members_in start.world.log (epoch_of start.world.log)) ∙ was))
    keeps event made (NodeJoin h) =
        subst (λ (m : EventOutcome). ReserversAreMembers m.world.log) h.made_so (joined h.n (zone_of script h.n) (vnodes_of script))
    keeps event made (NodeReturn h) =
        subst (λ (m : EventOutcome). ReserversAreMembers m.world.log) h.made_so
        (joined h.n (zone_of script h.n) (last_weight start.world.log h.n))
    keeps event made (PhaseEnd h) = subst (λ (m : EventOutcome). ReserversAreMembers m.world.log) h.made_so all

  -- ---- in every run

  abbrev AreMembersAt : MomentWithPast → Type 0
  AreMembersAt moment = ReserversAreMembers moment.world.log

  event_keeps : KeptByEvents script AreMembersAt
  event_keeps event before made began is all = keeps before began all event made (goes_by_kind script event before.world made is)

  module _ (events : List Move) (moment : MomentWithPast) (is : run_with_past script events ≡ Some moment) (vid : ℕ) (r : Reservation)
      (stands : StandsReserved moment.world.log vid r) where
    pub reserver_member : is_member_now moment.world.log r.by.0 ≡ true
    reserver_member =
        run-kept_by_events script AreMembersAt (λ vid r stands. none_reserved script vid r stands) event_keeps events moment is vid r stands

    pub reserver_there : (host : Host) × (tree.get moment.world.hosts r.by.0 ≡ Some host)
    reserver_there =
        by_host (tree.get moment.world.hosts r.by.0) refl
        ((log-holds script range.is_script range.room moment.world (began-with_past script events moment is)).seated r.by.0
        reserver_member)
      where
        by_host : (o : Option Host) → tree.get moment.world.hosts r.by.0 ≡ o → is_some o ≡ true
            → (host : Host) × (tree.get moment.world.hosts r.by.0 ≡ Some host)
        by_host None none some = absurd (cc (some))
        by_host (Some host) there some = (host, there)
