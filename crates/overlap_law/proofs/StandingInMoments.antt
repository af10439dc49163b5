-- Each change of a moment keeps where the reads of nodes stand by the history, whichever requests are refused.
use Rattle.std.proofs.Common.{◌≡◌, ℕ, Bool, true, List, ◌++◌, fold, Some, sym, ap, ◌∙◌}
use Rattle.std.specs.List.{list_all}
use Rattle.std.proofs.lemmas.List.Sums.{fold-append}
use Rattle.cluster_script.specs.declared.statement.Statement.{Statement}
use Rattle.disk_history.specs.declared.event.HistEvent.{HistEvent}
use Rattle.disk_history.specs.Ledger.{Ledger, empty_ledger, ledger_after}
use Rattle.sheep_world.specs.Began.{Began}
use Rattle.sheep_world.specs.RunsWithAsks.{Move}
use Rattle.vdi_directory.specs.Decisions.{log_effects}
use Rattle.overlap_law.specs.Headline.{ledger_of}
use Rattle.overlap_law.specs.MomentChanges.{MomentTrail, MomentChange, RunsAreInRange}
use Rattle.overlap_law.specs.Past.{MomentWithPast, run_with_past}
use Rattle.overlap_law.specs.StayingBlocks.{are_apart}
use Rattle.overlap_law.specs.StandingReads.{asked_in, AllReadsStand, DisksWereThere, ReadsMayGoOnIn, AllReadsAreKept}
use Rattle.overlap_law.specs.ToldReads.{MayStayReadAs}
use Rattle.overlap_law.proofs.DisksByTheLog.{AreThere, kept_there, disks_live}
use Rattle.overlap_law.proofs.EndsApart.{all_behind}
use Rattle.overlap_law.proofs.LiveIds.{spec_then}
use Rattle.overlap_law.proofs.LogsGrow.{logs_grow}
use Rattle.overlap_law.proofs.NoRecoveredDue.{began-with_past}
use Rattle.overlap_law.proofs.ReadsInSteps.{reads_stand_after}
use Rattle.overlap_law.proofs.ReadsLater.{stand_alike, stand_later}
use Rattle.overlap_law.proofs.ReadsStay.{read_still}
use Rattle.overlap_law.proofs.RunsByChanges.{on_the_way}

-- what is added among events that end other requests leaves the same disks as behind them
pub added_last : (history front added back : List HistEvent) → history ≡ front ++ back
    → list_all (λ (one : HistEvent). list_all (are_apart one) back) added ≡ true → (v : ℕ)
    → (ledger_of (front ++ added ++ back)).disks v ≡ (ledger_of (history ++ added)).disks v
added_last history front added back parts apart v =
    ap (λ (ledger : Ledger). ledger.disks v) (fold-append ledger_after empty_ledger (front ++ added) back
    ∙ ap (λ (ledger : Ledger). fold ledger_after ledger back) (fold-append ledger_after empty_ledger front added))
    ∙ all_behind added back apart (ledger_of front) v
    ∙ ap (λ (ledger : Ledger). (fold ledger_after ledger added).disks v) (sym (fold-append ledger_after empty_ledger front back))
    ∙ ap (λ (events : List HistEvent). (fold ledger_after (ledger_of events) added).disks v) (sym parts)
    ∙ ap (λ (ledger : Ledger). ledger.disks v) (sym (fold-append ledger_after empty_ledger history added))

-- so it is of what a change adds
pub kept_last : {script : List Statement} {start before after : MomentWithPast} → (kept : AllReadsAreKept script start before after) (v : ℕ)
    → (ledger_of after.past.history).disks v ≡ (ledger_of (before.past.history ++ kept.added)).disks v
kept_last {script} {start} {before} {after} kept v =
    ap (λ (events : List HistEvent). (ledger_of events).disks v) kept.now
    ∙ added_last before.past.history kept.front kept.added kept.back kept.were kept.apart v

module _ (script : List Statement) (range : RunsAreInRange script) (events : List Move) (start before after : MomentWithPast)
    (run : run_with_past script events ≡ Some start) (trail : MomentTrail script start before)
    (change : MomentChange script start before after) (good_id : ℕ → Bool) where
  began : Began script start.world
  began = began-with_past script events start run

  were_there : DisksWereThere (log_effects before.world.log) (log_effects after.world.log) before.past.history
  were_there =
      let live = disks_live before (on_the_way script AreThere (kept_there script range) events start before run trail) in
      let longer = logs_grow script change in
      record {
        live = λ vid disk there kept. live.each vid disk there kept;
        made = λ vid disk spec there kept known.
            spec_then before.world.log longer.0 after.world.log longer.1 vid spec (live.each vid disk there kept) known;
      }

  pub reads_stand_then : ReadsMayGoOnIn script start before (MayStayReadAs before.past.attempts) (ledger_of before.past.history)
      (log_effects before.world.log) good_id → AllReadsAreKept script start before after
      → AllReadsStand script (MayStayReadAs before.past.attempts) (ledger_of before.past.history) (log_effects before.world.log) good_id
      before.world.hosts
      → AllReadsStand script (MayStayReadAs after.past.attempts) (ledger_of after.past.history) (log_effects after.world.log) good_id
      after.world.hosts
  reads_stand_then goes kept all =
      let stand = reads_stand_after script range start began (MayStayReadAs before.past.attempts) (ledger_of before.past.history)
      (log_effects before.world.log) good_id change goes all in
      record {
        each = λ n host there up.
            stand_alike (MayStayReadAs after.past.attempts) (ledger_of (before.past.history ++ kept.added))
            (ledger_of after.past.history) (log_effects after.world.log) good_id (kept_last kept) (asked_in script) host.node
            (stand_later before.past.attempts after.past.attempts
            (read_still script range events start before after run trail change) before.past.history kept.added
            (log_effects before.world.log) (log_effects after.world.log) good_id were_there (asked_in script) host.node
            (kept.each n host there up) (stand.each n host there up));
      }
