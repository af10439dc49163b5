-- A session's table is what the inode of its disk is read to have, if it is all that the inode may come to have, and the inode was created.
use Rattle.std.proofs.Common.{◌≡◌, ◌⊎◌, inl, inr, ⊎_elim, ℕ, zero, suc, ◌<◌, ◌==◌, ◌&&◌, ◌||◌, Bool, true, false, List, [], ◌∷◌}
use Rattle.std.proofs.Common.{length, Option, Some, IfSome, slice_get, slice_index, refl, sym, ap, subst, ◌∙◌}
use Rattle.std.specs.FinMap as tree
use Rattle.std.specs.List.{list_any, list_all}
use Rattle.std.proofs.lemmas.Bool.{eq-eqb, or_left, or_right}
use Rattle.object_id.specs.declared.entry.Entry.{Entry}
use Rattle.object_id.specs.Oid.{inode_number}
use Rattle.object_id.specs.Spec.{objects_of}
use Rattle.cluster_script.specs.declared.statement.Statement.{Statement}
use Rattle.guest_driver.specs.declared.disk.Disk.{Disk}
use Rattle.peer_service.specs.State.{effects_of}
use Rattle.vdi_directory.specs.Dead.{is_dead}
use Rattle.vdi_directory.specs.Decisions.{log_effects}
use Rattle.sheep_node.specs.declared.session.Session.{Session}
use Rattle.sheep_world.specs.Began.{Began}
use Rattle.sheep_world.specs.World.{Host}
use Rattle.sheep_world.proofs.LogFrontLaws.{all_read}
use Rattle.sheep_world.specs.RunsWithAsks.{Move}
use Rattle.overlap_law.specs.Attempts.{AttemptRecord}
use Rattle.overlap_law.specs.Each.{EachAttempt, spec_in}
use Rattle.overlap_law.specs.MomentChanges.{RunsAreInRange}
use Rattle.overlap_law.specs.MomentChanges as moments
use Rattle.overlap_law.specs.Past.{MomentWithPast, run_with_past}
use Rattle.overlap_law.specs.Tables.{entry_unit, entry_by, candidates, AreAmong, IsYetOf, IsEntryOpen, IsEntryWaiting}
use Rattle.overlap_law.specs.Tables.{TablesAreTheInodes}
use Rattle.overlap_law.specs.TiedAttempts.{IsTied}
use Rattle.overlap_law.specs.ToCome.{IsEntryToCome, IsBeingEntered, OpenInodesAreCreated, TablesStayTheInodes}
use Rattle.overlap_law.proofs.Candidates.{HasMade, candidate_comes, are_candidates, are_among}
use Rattle.overlap_law.proofs.CreatedInodes.{created_made}
use Rattle.overlap_law.proofs.GrantedEpochs.{spec_stays}
use Rattle.overlap_law.proofs.KnownDisks.{IsKnownInode}
use Rattle.overlap_law.proofs.KnownDisksInRuns.{nodes_know}
use Rattle.overlap_law.proofs.LogsReservable.{LogIsReservable, kept_reservable}
use Rattle.overlap_law.proofs.NoRecoveredDue.{began-with_past}
use Rattle.overlap_law.proofs.RunsByChanges.{on_the_way}
use Rattle.overlap_law.proofs.TiedInRuns.{kept_tied}
use Rattle.overlap_law.proofs.WholeInRuns.{whole-on_the_way}

-- one of some entries doesn't pass
abbrev HasFailing : (ℕ → Bool) → List ℕ → Type 0
HasFailing passes entries = (p : ℕ) × (one : ℕ) × (slice_get entries p ≡ Some one) × (passes one ≡ false)

failing_by : (passes : ℕ → Bool) (first : ℕ) (rest : List ℕ) (b : Bool) → passes first ≡ b
    → (list_all passes rest ≡ false → HasFailing passes rest)
    → (b && list_all passes rest) ≡ false → HasFailing passes (first ∷ rest)
failing_by passes first rest false is later fails = (zero, first, refl, is)
failing_by passes first rest true is later fails = let (p, one, at, not) = later fails in (suc p, one, at, not)

failing : (passes : ℕ → Bool) (entries : List ℕ) → list_all passes entries ≡ false → HasFailing passes entries
failing passes [] fails = absurd (cc (fails))
failing passes (first ∷ rest) fails = failing_by passes first rest (passes first) refl (failing passes rest) fails

module _ (script : List Statement) (range : RunsAreInRange script) (events : List Move) (moment : MomentWithPast)
    (is : run_with_past script events ≡ Some moment) (good_id : ℕ → Bool)
    (created : OpenInodesAreCreated moment.world.hosts moment.past.attempts)
    (tables : TablesStayTheInodes (log_effects moment.world.log) good_id moment.world.hosts moment.past.attempts) where
  began : Began script moment.world
  began = began-with_past script events moment is

  whole : EachAttempt moment.past.attempts (λ j attempt. length attempt.fates ≡ length attempt.targets)
  whole = (on_the_way script IsTied (kept_tied script range) events moment moment is moments.Still).fates.whole

  module _ (n : ℕ) (host : Host) (there : tree.get moment.world.hosts n ≡ Some host) (up : host.is_lost ≡ false) (number index : ℕ)
      (session : Session) (disk : Disk) (got : tree.get host.node.sessions number ≡ Some session) (on : session.disk ≡ Some disk)
      (within : index < objects_of disk.inode.spec) where
    known : spec_in (log_effects moment.world.log) disk.inode.vid ≡ Some disk.inode.spec
    known =
        let front = all_read script moment.world began n host there in
        let valid = (nodes_know script range moment.world began n host there).each_session number session got in
        let inode = subst (λ (o : Option Disk). IfSome o (λ (disk : Disk). IsKnownInode (effects_of host.node.peer) disk.inode)) on
        valid.disk in
        ap (λ (log : List Entry). spec_in (log_effects log) disk.inode.vid) front.is
        ∙ spec_stays host.node.peer.entries front.rest disk.inode.vid disk.inode.spec inode.disk.made

    made : HasMade moment.world.hosts (inode_number disk.inode.vid) (entry_unit index) moment.past.attempts
    made =
        created_made moment.world.log (on_the_way script LogIsReservable (kept_reservable script range) events moment moment is
        moments.Still).all
        moment.world.hosts moment.past.attempts (whole-on_the_way script range events moment moment is moments.Still) whole disk.inode.vid
        index
        host.node.peer.epoch disk.inode.spec known within (created.each n host there up number session disk got on)

    module _ (good : good_id disk.inode.vid ≡ true) (lives : is_dead (log_effects moment.world.log) disk.inode.vid ≡ false)
        (yet : IsYetOf (log_effects moment.world.log) n number disk) where
      comes : (j : ℕ) (attempt : AttemptRecord) → IsEntryToCome moment.world.hosts moment.past.attempts disk.inode.vid index j attempt
          → (entry_by index attempt ≡ slice_index disk.inode.table index)
          ⊎ ((disk.snapshot ≡ false) × IsBeingEntered n host.node disk.inode.vid index attempt)
      comes j attempt may = tables.each n host there up number index session disk got on good lives within yet j attempt may

      -- where no attempt is of the disk's own id, or of one that is being entered
      kept : AreAmong (slice_index disk.inode.table index ∷ disk.inode.vid ∷ []) (candidates moment.past.attempts disk.inode.vid index)
      kept = are_among moment.world.hosts moment.past.attempts whole disk.inode.vid index made
          (slice_index disk.inode.table index ∷ disk.inode.vid ∷ [])
          (λ j attempt may. ⊎_elim
          (λ (own : entry_by index attempt ≡ slice_index disk.inode.table index).
          or_left (slice_index disk.inode.table index == entry_by index attempt) (disk.inode.vid == entry_by index attempt || false)
          (eq-eqb (slice_index disk.inode.table index) (entry_by index attempt) (sym own)))
          (λ (entered : (disk.snapshot ≡ false) × IsBeingEntered n host.node disk.inode.vid index attempt).
          or_right (slice_index disk.inode.table index == entry_by index attempt) (disk.inode.vid == entry_by index attempt || false)
          (or_left (disk.inode.vid == entry_by index attempt) false
          (eq-eqb disk.inode.vid (entry_by index attempt) (sym entered.1.own))))
          (comes j attempt may))

      abbrev IsAlone : ℕ → Bool
      IsAlone one = list_any (λ other. other == one) (slice_index disk.inode.table index ∷ [])

      abbrev Alone : Type 0
      Alone = AreAmong (slice_index disk.inode.table index ∷ []) (candidates moment.past.attempts disk.inode.vid index)
          ⊎ ((disk.snapshot ≡ false)
          × (IsEntryOpen host.node disk.inode.vid index ⊎ IsEntryWaiting session disk.inode.vid index))

      alone : Alone
      alone =
          let (first, rest, same) = are_candidates moment.world.hosts moment.past.attempts whole disk.inode.vid index made in
          by_test first rest same (list_all IsAlone (first ∷ rest)) refl
        where
          by_entry : (one : ℕ) → IsAlone one ≡ false → (j : ℕ) (attempt : AttemptRecord) → entry_by index attempt ≡ one
              → (entry_by index attempt ≡ slice_index disk.inode.table index)
              ⊎ ((disk.snapshot ≡ false) × IsBeingEntered n host.node disk.inode.vid index attempt) → Alone
          by_entry one not j attempt own (inl same) =
              let is : IsAlone one ≡ true
              = or_left (slice_index disk.inode.table index == one) false
              (eq-eqb (slice_index disk.inode.table index) one (sym same ∙ own)) in
              absurd (cc (not, is))
          by_entry one not j attempt own (inr entered) = inr (entered.0, inl entered.1.opened)

          by_test : (first : ℕ) (rest : List ℕ) → candidates moment.past.attempts disk.inode.vid index ≡ Some (first ∷ rest) → (b : Bool)
              → list_all IsAlone (first ∷ rest) ≡ b → Alone
          by_test first rest same true all =
              inl (subst (AreAmong (slice_index disk.inode.table index ∷ [])) (sym same) all)
          by_test first rest same false fails =
              let (p, one, at, not) = failing IsAlone (first ∷ rest) fails in
              let (j, attempt, may, own) = candidate_comes moment.world.hosts moment.past.attempts whole disk.inode.vid index
              (first ∷ rest) same p one at in
              by_entry one not j attempt own (comes j attempt may)

  pub tables_by : TablesAreTheInodes (log_effects moment.world.log) good_id moment.world.hosts moment.past.attempts
  tables_by = record {
    each = λ n host there up number index session disk got on good lives within yet. record {
      kept = kept n host there up number index session disk got on within good lives yet;
      alone = alone n host there up number index session disk got on within good lives yet;
    };
  }
