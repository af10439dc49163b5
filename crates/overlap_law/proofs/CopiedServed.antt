-- What writes that create their objects read of strips of other disks' objects stays so over each change on the way of an event, by each
-- test for good ids that serves there; so it is in every run in range. For those objects are snapshots': nothing begins on them, what is
-- doomed stays so, and where nothing is added behind an attempt now, nothing was before.
use Rattle.std.proofs.Common.{◌≡◌, ◌⊎◌, inl, inr, ⊎_elim, arith, ℕ, ◌*◌, ◌<◌, ◌++◌, ◌∷◌, ◌==◌, Bool, true, List, [], length, Some}
use Rattle.std.proofs.Common.{slice_get}
use Rattle.std.proofs.Common.{sym, ap, subst, ◌∙◌}
use Rattle.std.proofs.lemmas.Bool.{eqb-true}
use Rattle.std.proofs.lemmas.Option.{same_Some}
use Rattle.object_id.specs.declared.entry.Entry.{Entry}
use Rattle.object_id.specs.declared.entry.VdiSpec.{VdiSpec}
use Rattle.object_id.specs.declared.limits.TheConstants.{BLOCK_BYTES}
use Rattle.object_id.specs.Oid.{object_number}
use Rattle.object_store.specs.Bytes.{piece_at}
use Rattle.gf256.specs.Strip.{IsBlock}
use Rattle.cluster_script.specs.declared.statement.Statement.{Statement}
use Rattle.vdi_directory.specs.Decisions.{log_effects}
use Rattle.sheep_world.specs.Began.{Began}
use Rattle.sheep_world.specs.RunsWithAsks.{Move}
use Rattle.overlap_law.specs.Attempts.{AttemptRecord, object_of, attempts_on}
use Rattle.overlap_law.specs.CopiedStrips.{IsBlockOf, IsReadOfStrips, IsFetchedOfStrips}
use Rattle.overlap_law.specs.CreatedPieces.{CreatesAreOf}
use Rattle.overlap_law.specs.Each.{spec_in}
use Rattle.overlap_law.specs.HistoryStands.{CallsAvailable}
use Rattle.overlap_law.specs.LastReads.{was_snapped}
use Rattle.overlap_law.specs.MomentChanges.{MomentTrail, MomentChange, TrailLeft, RunsAreInRange}
use Rattle.overlap_law.specs.Overlap.{CallsFewer}
use Rattle.overlap_law.specs.Past.{MomentWithPast, first_moment, next_moment, run_with_past}
use Rattle.overlap_law.specs.ShapedAttempts.{AreShaped}
use Rattle.overlap_law.specs.TiedAttempts.{IsTied}
use Rattle.overlap_law.specs.Traffic.{Traffic}
use Rattle.overlap_law.specs.Words.{bytes_by, covers_unit, is_doomed, is_mute, unit_part_by}
use Rattle.overlap_law.specs.WrittenBlocks.{blocks_per_object}
use Rattle.overlap_law.proofs.AttemptsBegin.{IsNew, old_or_new}
use Rattle.overlap_law.proofs.BeyondInMoments.{doomed_later}
use Rattle.overlap_law.proofs.CarriedTables.{good_id_at}
use Rattle.overlap_law.proofs.CopiedFetches.{strips_fetched}
use Rattle.overlap_law.proofs.CreatedServed.{none_on_snapped, snapped_still}
use Rattle.overlap_law.proofs.OverlapLemmas.{filter-passed}
use Rattle.overlap_law.proofs.FinishedInMoments.{TermsHold, kept_terms}
use Rattle.overlap_law.proofs.GrantedEpochs.{spec_stays}
use Rattle.overlap_law.proofs.GrownAttempts.{GoOn, traffic_goes_on, goes_on-grows, grows-object}
use Rattle.overlap_law.proofs.HistoryTests.{test_before, test_at_start, IsKeptByTests, by_tests-on_the_way}
use Rattle.overlap_law.proofs.KnownDisks.{vid-of_object}
use Rattle.overlap_law.proofs.LinkedAttempts.{IsLinked, IsBehind, linked}
use Rattle.overlap_law.proofs.LogsInMoments.{LogGrows, log_grows}
use Rattle.overlap_law.proofs.LogsOfMoments.{log_of_change}
use Rattle.overlap_law.proofs.NoRecoveredDue.{began-with_past}
use Rattle.overlap_law.proofs.PiecesMade.{ArePiecesMade, pieces_stay, pieces_open, pieces_more, creates_so}
use Rattle.overlap_law.proofs.ReadingLaws.{AttemptsGrow}
use Rattle.overlap_law.proofs.RunsByChanges.{on_the_way}
use Rattle.overlap_law.proofs.ShapedAttempts.{kept_shaped}
use Rattle.overlap_law.proofs.TablesStay.{lived}
use Rattle.overlap_law.proofs.TiedInRuns.{kept_tied}
use Rattle.overlap_law.proofs.TrafficOfChanges.{traffic}

-- as attempts grow, the bytes of a block stay those of an attempt that was there
block_later : (attempts more : List AttemptRecord) → AttemptsGrow attempts more → (unit j : ℕ) (bytes : List ℕ) (was : AttemptRecord)
    → slice_get attempts j ≡ Some was → IsBlockOf attempts unit j bytes → IsBlockOf more unit j bytes
block_later attempts more grow unit j bytes was there read = record {
  own = λ own own_there quiet is_block.
      let (fates, now, muter) = grow.stays j was there in
      let same : record was { fates = fates } ≡ own = same_Some (record was { fates = fates }) own (sym now ∙ own_there) in
      read.own was there (record {
        each = λ k later at less covers.
            let (told, there_now, muted) = grow.stays k later at in
            ⊎_elim
            (λ (silent : is_mute (record later { fates = told }) ≡ true). inl (muted silent))
            (λ (alike : (part : ℕ) → unit_part_by part unit later.work ≡ unit_part_by part unit own.work).
            inr (λ part. alike part ∙ ap (λ (a : AttemptRecord). unit_part_by part unit a.work) (sym same)))
            (quiet.each k (record later { fates = told }) there_now less covers);
      }) (subst (λ (a : AttemptRecord). IsBlock (bytes_by unit a.work)) (sym same) is_block)
      ∙ ap (λ (a : AttemptRecord). bytes_by unit a.work) same;
}

abbrev pub HasStrips : (ℕ → Bool) → MomentWithPast → Type 0
HasStrips good_id moment =
    ArePiecesMade (IsFetchedOfStrips moment.world.log good_id moment.world.hosts moment.past.attempts) moment

-- what is so of more ids is so of fewer
fewer_strips : (few many : ℕ → Bool) (moment : MomentWithPast) → CallsFewer few many → HasStrips many moment → HasStrips few moment
fewer_strips few many moment fewer =
    pieces_more (IsFetchedOfStrips moment.world.log many moment.world.hosts moment.past.attempts)
    (IsFetchedOfStrips moment.world.log few moment.world.hosts moment.past.attempts)
    (λ vid spec home index bytes served good. served (fewer vid good)) moment

-- ---- over a change

module _ (script : List Statement) (range : RunsAreInRange script) (events : List Move) (start before after : MomentWithPast)
    (run : run_with_past script events ≡ Some start) (trail : MomentTrail script start before)
    (change : MomentChange script start before after) where
  began : Began script start.world
  began = began-with_past script events start run

  grows : LogGrows before.world.log after.world.log
  grows = log_grows script change

  kind : Traffic before.world.hosts after.world.hosts before.world.wire before.past.attempts after.world.wire after.past.attempts
  kind = traffic script range start began change

  on : GoOn before.past.attempts after.past.attempts
  on = traffic_goes_on before.world.hosts after.world.hosts before.world.wire before.past.attempts kind

  module _ (spec : VdiSpec) (home index : ℕ) (bytes : List ℕ)
      (read : IsReadOfStrips before.world.log before.world.hosts before.past.attempts spec home index bytes) where
    abbrev oid : ℕ
    oid = object_number home index

    still_snapped : was_snapped after.world.log home ≡ true
    still_snapped = snapped_still script range events start before after run trail change home read.snapped

    -- an attempt on the object
    module _ (unit : ℕ) (inside : unit < blocks_per_object spec) (j : ℕ) (one : AttemptRecord)
        (at : slice_get (attempts_on oid after.past.attempts) j ≡ Some one) (covers : covers_unit unit one ≡ true) where
      abbrev block : List ℕ
      block = piece_at bytes (BLOCK_BYTES * unit) BLOCK_BYTES

      abbrev IsOf : Type 0
      IsOf = (is_doomed after.world.hosts one ≡ true)
          ⊎ IsBlockOf (attempts_on oid after.past.attempts) unit j (piece_at bytes (BLOCK_BYTES * unit) BLOCK_BYTES)

      by_link : IsLinked before.past.attempts after.past.attempts oid j one → IsOf
      by_link link =
          let (fates, now, muter) = (goes_on-grows before.past.attempts after.past.attempts on).stays link.place link.was link.was_there in
          let same : record link.was { fates = fates } ≡ one
          = same_Some (record link.was { fates = fates }) one (sym now ∙ link.now_there) in
          ⊎_elim
          (λ (doomed : is_doomed before.world.hosts link.was ≡ true).
          inl (doomed_later script range start before after began change
          (on_the_way script TermsHold (kept_terms script range) events start before run trail)
          (on_the_way script AreShaped (kept_shaped script range) events start before run trail)
          (on_the_way script IsTied (kept_tied script range) events start before run trail) link.place link.was one link.was_there
          link.now_there doomed))
          (λ (was : IsBlockOf (attempts_on oid before.past.attempts) unit j (piece_at bytes (BLOCK_BYTES * unit) BLOCK_BYTES)).
          inr (block_later (attempts_on oid before.past.attempts) (attempts_on oid after.past.attempts)
          (grows-object oid before.past.attempts after.past.attempts on) unit j block link.was link.at was))
          (read.blocks unit inside j link.was link.at (ap (λ (a : AttemptRecord). covers_unit unit a) same ∙ covers))

      -- none begins
      by_behind : IsBehind before.past.attempts after.past.attempts one → IsOf
      by_behind behind = ⊎_elim
          (λ (below : behind.place < length before.past.attempts).
          let high = behind.behind in absurd (omega (arith, below, high)))
          (λ (new : IsNew before.world.hosts after.world.hosts before.past.attempts after.past.attempts one).
          let among = filter-passed (λ (a : AttemptRecord). object_of a == oid) after.past.attempts j one at in
          absurd (none_on_snapped script range events start before after run trail change home index one
          (vid-of_object home index read.id read.few) still_snapped
          (new.begins.is ∙ ap (λ (a : AttemptRecord). before.past.attempts ++ a ∷ []) new.same)
          (eqb-true (object_of one) oid among.passed)))
          (old_or_new before.world.hosts after.world.hosts before.world.wire after.world.wire before.past.attempts after.past.attempts kind
          behind.place one behind.there)

      still_of : (is_doomed after.world.hosts one ≡ true)
          ⊎ IsBlockOf (attempts_on oid after.past.attempts) unit j (piece_at bytes (BLOCK_BYTES * unit) BLOCK_BYTES)
      still_of = ⊎_elim by_link by_behind (linked oid before.past.attempts after.past.attempts on j one at)

    strips_still : IsReadOfStrips after.world.log after.world.hosts after.past.attempts spec home index bytes
    strips_still = record {
      id = read.id;
      few = read.few;
      snapped = still_snapped;
      home_spec = read.home_spec;
      made_with = ap (λ (log : List Entry). spec_in (log_effects log) home) grows.is
          ∙ spec_stays before.world.log grows.rest home read.home_spec read.made_with;
      policy_so = read.policy_so;
      large = read.large;
      blocks = still_of;
    }

  served_still : (good_id : ℕ → Bool)
      → ArePiecesMade (IsFetchedOfStrips before.world.log good_id before.world.hosts before.past.attempts) after → HasStrips good_id after
  served_still good_id =
      pieces_more (IsFetchedOfStrips before.world.log good_id before.world.hosts before.past.attempts)
      (IsFetchedOfStrips after.world.log good_id after.world.hosts after.past.attempts)
      (λ vid spec home index bytes served good alive strips.
      strips_still spec home index bytes
      (served good (lived before.world.log after.world.log (log_of_change script change) vid alive) strips)) after

module _ (script : List Statement) (range : RunsAreInRange script) where
  strips_kept : IsKeptByTests script HasStrips
  strips_kept = record {
    fewer = fewer_strips;
    opens = pieces_open (IsFetchedOfStrips (first_moment script).world.log (good_id_at (first_moment script))
        (first_moment script).world.hosts (first_moment script).past.attempts) script;
    keeps = λ events event start end before after way good_id test served.
        served_still script range events start before after way.run way.behind way.change good_id
        (pieces_stay (IsFetchedOfStrips before.world.log good_id before.world.hosts before.past.attempts) script range events start before
        after way.run way.behind way.change
        (strips_fetched script range events start way.run good_id test.fewer
        (test_at_start script way.change good_id (test_before script way.change good_id test)) before way.behind) served);
  }

  pub creates_strips : (events : List Move) (event : Move) (start end : MomentWithPast) → run_with_past script events ≡ Some start
      → next_moment script event start ≡ Some end → (good_id : ℕ → Bool) → {moment : MomentWithPast} → MomentTrail script start moment
      → TrailLeft script start moment end → CallsAvailable start moment good_id
      → CreatesAreOf (IsFetchedOfStrips moment.world.log good_id moment.world.hosts moment.past.attempts) moment.world.hosts
  creates_strips events event start end run happens good_id {moment} trail left test =
      creates_so (IsFetchedOfStrips moment.world.log good_id moment.world.hosts moment.past.attempts) moment
      (by_tests-on_the_way script HasStrips strips_kept events event start end run happens good_id trail left test)
