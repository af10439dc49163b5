-- What the inode of an open disk may come to have is the entry of the session's table still, over each change of a moment at which no node
-- goes on in its step: no attempt begins by it, and no session has another table then.
use Rattle.std.proofs.Common.{◌≡◌, ◌⊎◌, inl, inr, ⊎_elim, ℕ, ◌<◌, Bool, true, false, List, [], ◌∷◌, ◌++◌, Some, None, slice_index}
use Rattle.std.proofs.Common.{refl, sym, ap, subst, ◌∙◌}
use Rattle.std.specs.Ordering.{nat_cmp}
use Rattle.std.specs.FinMap as tree
use Rattle.object_id.specs.declared.entry.Entry.{Entry}
use Rattle.object_id.specs.Oid.{inode_number}
use Rattle.object_id.specs.Spec.{objects_of}
use Rattle.cluster_script.specs.declared.statement.Statement.{Statement}
use Rattle.gateway.specs.State.{Gateway}
use Rattle.guest_driver.specs.declared.disk.Disk.{Disk}
use Rattle.vdi_directory.specs.Dead.{is_dead}
use Rattle.vdi_directory.specs.Decisions.{log_effects}
use Rattle.vdi_directory.proofs.DeadLemmas.{dead-stays}
use Rattle.vdi_directory.proofs.DeadTests.{test-finds-dead}
use Rattle.sheep_node.specs.declared.session.Session.{Session}
use Rattle.sheep_node.specs.State.{Node}
use Rattle.sheep_world.specs.World.{Host}
use Rattle.sheep_world.specs.RunsWithAsks.{Move}
use Rattle.overlap_law.specs.Attempts.{AttemptRecord}
use Rattle.overlap_law.specs.MomentChanges.{MomentChange, MomentTrail, RunsAreInRange}
use Rattle.overlap_law.specs.Past.{MomentWithPast, run_with_past}
use Rattle.overlap_law.specs.ShapedAttempts.{AreShaped}
use Rattle.overlap_law.specs.Tables.{entry_unit, entry_by, IsYetOf}
use Rattle.overlap_law.specs.TiedAttempts.{IsTied}
use Rattle.overlap_law.specs.ToCome.{IsEntryToCome, IsBeingEntered, TablesStayTheInodes}
use Rattle.overlap_law.proofs.FinishedInMoments.{TermsHold, kept_terms}
use Rattle.overlap_law.proofs.GuestsInMoments.{GuestsChange, GuestsStay, GuestsAreNone, IsGoingOn, IsBetween, between}
use Rattle.overlap_law.proofs.LogsOfMoments.{IsOrGrows, log_of_change}
use Rattle.overlap_law.proofs.NewAttempts.{WasAttempt}
use Rattle.overlap_law.proofs.NoRecoveredDue.{began-with_past}
use Rattle.overlap_law.proofs.RunsByChanges.{on_the_way}
use Rattle.overlap_law.proofs.ShapedAttempts.{kept_shaped}
use Rattle.overlap_law.proofs.TiedInRuns.{kept_tied}
use Rattle.overlap_law.proofs.ToComeStays.{to_come_before}
use Rattle.overlap_law.proofs.YetHeld.{writer_was}

-- what isn't dead wasn't before
pub lived : (log later : List Entry) → IsOrGrows log later → (vid : ℕ) → is_dead (log_effects later) vid ≡ false
    → is_dead (log_effects log) vid ≡ false
lived log later grows vid lives = by_test (is_dead (log_effects log) vid) refl
  where
    dead_later : IsOrGrows log later → is_dead (log_effects log) vid ≡ true → is_dead (log_effects later) vid ≡ true
    dead_later (inl same) dead = ap (λ (all : List Entry). is_dead (log_effects all) vid) same ∙ dead
    dead_later (inr (entry, longer)) dead =
        ap (λ (all : List Entry). is_dead (log_effects all) vid) longer
        ∙ (test-finds-dead (log ++ entry ∷ []) vid).1 (dead-stays log (entry ∷ []) vid ((test-finds-dead log vid).0 dead))

    by_test : (b : Bool) → is_dead (log_effects log) vid ≡ b → b ≡ false
    by_test false is = refl
    by_test true dead = let still = dead_later grows dead in absurd (cc (still, lives))

module _ (script : List Statement) (range : RunsAreInRange script) (events : List Move) (start before after : MomentWithPast)
    (is : run_with_past script events ≡ Some start) (trail : MomentTrail script start before)
    (change : MomentChange script start before after)
    (good_id : ℕ → Bool)
    (tables : TablesStayTheInodes (log_effects before.world.log) good_id before.world.hosts before.past.attempts) where
  -- an inode may come to have of the attempts that were there what it might before
  might : (vid index j : ℕ) (now : AttemptRecord) → IsEntryToCome after.world.hosts after.past.attempts vid index j now
      → (w : WasAttempt before j now) → IsEntryToCome before.world.hosts before.past.attempts vid index j w.was
  might vid index j now comes w =
      to_come_before script range start before after (began-with_past script events start is) change
      (on_the_way script TermsHold (kept_terms script range) events start before is trail)
      (on_the_way script AreShaped (kept_shaped script range) events start before is trail)
      (on_the_way script IsTied (kept_tied script range) events start before is trail) (inode_number vid) (entry_unit index) j now comes w

  -- what is being entered is so at the same gateway
  abbrev IsOfTableOf : ℕ → Node → Disk → ℕ → AttemptRecord → Type 0
  IsOfTableOf n node disk index attempt =
      (entry_by index attempt ≡ slice_index disk.inode.table index)
      ⊎ ((disk.snapshot ≡ false) × IsBeingEntered n node disk.inode.vid index attempt)

  entered_at : (n : ℕ) (was now : Node) (vid index : ℕ) (attempt : AttemptRecord) → now.gateway ≡ was.gateway
      → IsBeingEntered n was vid index attempt → IsBeingEntered n now vid index attempt
  entered_at n was now vid index attempt same entered = record {
    opened = record {
      req = entered.opened.req;
      work = entered.opened.work;
      there = ap (λ (g : Gateway). tree.get g.works entered.opened.req) same ∙ entered.opened.there;
      writes = entered.opened.writes;
    };
    gateway = entered.gateway;
    of = entered.of;
    own = entered.own;
  }

  -- a host whose sessions are as they were
  module _ (n : ℕ) (was host : Host) (there : tree.get before.world.hosts n ≡ Some was) (up : was.is_lost ≡ false)
      (gateway : host.node.gateway ≡ was.node.gateway) (sessions : host.node.sessions ≡ was.node.sessions) where
    stays_so : (number index : ℕ) (session : Session) (disk : Disk) → tree.get host.node.sessions number ≡ Some session
        → session.disk ≡ Some disk → good_id disk.inode.vid ≡ true → is_dead (log_effects after.world.log) disk.inode.vid ≡ false
        → index < objects_of disk.inode.spec → IsYetOf (log_effects after.world.log) n number disk → (j : ℕ) (now : AttemptRecord)
        → IsEntryToCome after.world.hosts after.past.attempts disk.inode.vid index j now → WasAttempt before j now
        → IsOfTableOf n host.node disk index now
    stays_so number index session disk got on good lives within yet j now comes w =
        let got_before : tree.get was.node.sessions number ≡ Some session
        = ap (λ (s : tree.FinMap nat_cmp Session). tree.get s number) (sym sessions) ∙ got in
        subst (IsOfTableOf n host.node disk index) w.same
        (⊎_elim
        (λ (own : entry_by index w.was ≡ slice_index disk.inode.table index). inl own)
        (λ (entered : (disk.snapshot ≡ false) × IsBeingEntered n was.node disk.inode.vid index w.was).
        inr (entered.0, refated (entered_at n was.node host.node disk.inode.vid index w.was gateway entered.1)))
        (tables.each n was there up number index session disk got_before on good
        (lived before.world.log after.world.log (log_of_change script change) disk.inode.vid lives) within
        (λ working. writer_was script range events start is before after trail change n was there up number session disk got_before on
        working
        (yet working))
        j w.was (might disk.inode.vid index j now comes w)))
      where
        refated : IsBeingEntered n host.node disk.inode.vid index w.was
            → IsBeingEntered n host.node disk.inode.vid index (record w.was { fates = w.fates })
        refated entered = record { opened = entered.opened; gateway = entered.gateway; of = entered.of; own = entered.own }

  tables_between : IsBetween before after
      → TablesStayTheInodes (log_effects after.world.log) good_id after.world.hosts after.past.attempts
  tables_between (guests, attempts) = record {
    each = λ n host there up number index session disk got on good lives within yet j now comes.
        by_guests n host up number index session disk got on good lives within yet j now comes (guests n host there);
  }
    where
      by_guests : (n : ℕ) (host : Host) → host.is_lost ≡ false → (number index : ℕ) (session : Session) (disk : Disk)
          → tree.get host.node.sessions number ≡ Some session → session.disk ≡ Some disk → good_id disk.inode.vid ≡ true
          → is_dead (log_effects after.world.log) disk.inode.vid ≡ false → index < objects_of disk.inode.spec
          → IsYetOf (log_effects after.world.log) n number disk → (j : ℕ) (now : AttemptRecord)
          → IsEntryToCome after.world.hosts after.past.attempts disk.inode.vid index j now → GuestsChange before n host
          → IsOfTableOf n host.node disk index now
      by_guests n host up number index session disk got on good lives within yet j now comes
          (GuestsStay was there still gateway sessions requests) =
          stays_so n was host there (still up) gateway sessions number index session disk got on good lives within yet j now comes
          (attempts j now comes.there)
      by_guests n host up number index session disk got on good lives within yet j now comes (GuestsAreNone none no_requests) =
          let empty : tree.get host.node.sessions number ≡ None
          = ap (λ (s : tree.FinMap nat_cmp Session). tree.get s number) none ∙ tree.get-empty {X = Session} nat_cmp number in
          absurd (cc (empty, got))

  -- so it is after each change, if it is so as a node goes on in its step
  pub tables_after : (IsGoingOn script start before after
      → TablesStayTheInodes (log_effects after.world.log) good_id after.world.hosts after.past.attempts)
      → TablesStayTheInodes (log_effects after.world.log) good_id after.world.hosts after.past.attempts
  tables_after goes = ⊎_elim
      (λ (on : IsGoingOn script start before after). goes on)
      (λ (b : IsBetween before after). tables_between b)
      (between script start change)
