-- What each moment has that a run in range leads to, conjunct by conjunct: of it the invariant is made, and what stands beside it.
use Rattle.std.proofs.Common.{◌≡◌, List, Some}
use Rattle.cluster_script.specs.declared.statement.Statement.{Statement}
use Rattle.overlap_law.specs.Past.{MomentWithPast, run_with_past}
use Rattle.overlap_law.specs.MomentChanges as moments
use Rattle.overlap_law.specs.MomentChanges.{RunsAreInRange}
use Rattle.overlap_law.specs.Groups.{FlightIsKept, WritersAreKept, TermsAreKept}
use Rattle.overlap_law.specs.TiedAttempts.{IsTied}
use Rattle.overlap_law.specs.ShapedAttempts.{AreShaped}
use Rattle.overlap_law.specs.Holders.{is_live_object, targets_by}
use Rattle.overlap_law.specs.KeptBeside.{HoldsBesideOverlap}
use Rattle.overlap_law.specs.Courses.{WorksAreWaitedFor, CommandsKeepTheirGrants}
use Rattle.overlap_law.specs.Fates.{AttemptsAreWhole, AttemptsAreOrdered}
use Rattle.overlap_law.specs.Headline.{OtherEpochsChangeNothing, RefusedHaveNoItems, RefusedMakeNothing}
use Rattle.overlap_law.specs.Lists.{ListsComeFirst, TellersHaveCome, ListsAreWhole, PendingIsLacked}
use Rattle.overlap_law.specs.OpenWorks.{WorksKnowTheirFates, PacketsAreOfOpenWorks, ServedRequestsAreTouched, LosersAreTouched}
use Rattle.overlap_law.specs.OpenWorks.{RefusedRequestsAreMute, OpenAttemptsAreLatest}
use Rattle.overlap_law.specs.RequestsOfScript.{RequestsAreWithoutReply, RequestsAreTheScripts, AttemptsAreTheScripts, TheRefusedAreAnswered}
use Rattle.overlap_law.specs.Rows.{RowsHaveEnds, OneRowIsOpen, RowsAreApart, ServedRowsStay, RowsAreWhole, RowsAreAtTargets, RowsAreBegun}
use Rattle.overlap_law.specs.Searches.{SearchesAreOfTheFirst, ToldRowsAreTrue, ToldCopiesAreOfAttempts, NoRowIsTrue, LevelsAreAsked}
use Rattle.overlap_law.specs.Searches.{PassedLevelsLackRows}
use Rattle.overlap_law.specs.Sessions.{SessionsWorkApart, MakersAreApart}
use Rattle.overlap_law.specs.Since.{CopiesAreOfAttempts}
use Rattle.overlap_law.specs.Traffic.{OpenAttemptsHaveMessages}
use Rattle.overlap_law.specs.Writers.{AttemptsHaveBegun}
use Rattle.vdi_directory.specs.Decisions.{log_effects}
use Rattle.std.specs.Prelude.{ℕ, Bool, false}
use Rattle.overlap_law.proofs.RunsByChanges.{run-kept}
use Rattle.overlap_law.proofs.TiedInRuns.{kept_tied}
use Rattle.overlap_law.proofs.ShapedAttempts.{kept_shaped}
use Rattle.overlap_law.proofs.PastInRuns.{past_in_run}
use Rattle.overlap_law.proofs.WireInRuns.{linked-in_run, said-in_run, fenced-in_run}
use Rattle.overlap_law.proofs.TermsInRuns.{terms-in_run}
use Rattle.overlap_law.proofs.WorkedInRuns.{worked-in_run}
use Rattle.overlap_law.proofs.AwaitedInMoments.{awaited-in_run}
use Rattle.overlap_law.proofs.TouchedInRuns.{touched-in_run, losers-in_run}
use Rattle.overlap_law.proofs.UntouchedInRuns.{untouched-in_run, nothing_made-in_run}
use Rattle.overlap_law.proofs.ItemsInRuns.{refused_none-in_run}
use Rattle.overlap_law.proofs.MessagesInMoments.{messages_in_run}
use Rattle.overlap_law.proofs.EpochsOfAttempts.{begun_in_run}
use Rattle.overlap_law.proofs.AttemptsOfScript.{attempts_of_script}
use Rattle.overlap_law.proofs.RequestsInRuns.{without_reply-in_run}
use Rattle.overlap_law.proofs.CoursesOfScript.{requests-in_run}
use Rattle.overlap_law.proofs.WholeInRuns.{whole-on_the_way}
use Rattle.overlap_law.proofs.WaitedInRuns.{waited-in_run}
use Rattle.overlap_law.proofs.RefusedInRuns.{refused_in_run}
use Rattle.overlap_law.proofs.LatestInRuns.{latest-in_run}
use Rattle.overlap_law.proofs.OrderedInRuns.{ordered-in_run}
use Rattle.overlap_law.proofs.MakersApart.{sessions_apart-in_run, makers_apart-in_run}
use Rattle.overlap_law.proofs.GrantsOfCommands.{grants-in_run}
use Rattle.overlap_law.proofs.HeldDisks.{held-in_run}
use Rattle.overlap_law.proofs.LastReads.{last_reads-in_run}
use Rattle.overlap_law.proofs.WorksApart.{works_apart-in_run}
use Rattle.overlap_law.proofs.GrantedAttempts.{only_writer-in_run}
use Rattle.overlap_law.proofs.TurnsInRuns.{one_writer-in_run}
use Rattle.overlap_law.proofs.EpochLemmas.{run-changes_nothing}
use Rattle.overlap_law.proofs.TurnsOfRows.{ends-in_run, one_open-in_run, apart-in_run}
use Rattle.overlap_law.proofs.StayingRows.{stays-on_the_way}
use Rattle.overlap_law.proofs.WholeRows.{whole-in_run}
use Rattle.overlap_law.proofs.LackedWherePlaced.{pending_lacked-on_the_way}
use Rattle.overlap_law.proofs.PlacedInMoments.{placed-in_run}
use Rattle.overlap_law.proofs.BegunInMoments.{begun-in_run}
use Rattle.overlap_law.proofs.FirstSearchesInRuns.{listing-on_the_way, search_first-on_the_way}
use Rattle.overlap_law.proofs.TellersInMoments.{tellers-on_the_way}
use Rattle.overlap_law.proofs.WholeLists.{lists_whole-on_the_way}
use Rattle.overlap_law.proofs.LevelsAskedInRuns.{levels_asked-on_the_way}
use Rattle.overlap_law.proofs.PassedInRuns.{passed-on_the_way}
use Rattle.overlap_law.proofs.NoRowsStand.{no_rows_true-on_the_way}
use Rattle.overlap_law.proofs.ToldCopies.{copies-on_the_way, told_copies-on_the_way}
use Rattle.overlap_law.proofs.TrueRows.{rows_true-on_the_way}
use Rattle.sheep_world.specs.RunsWithAsks.{Move}

-- conjuncts of the invariant, some of them of any objects, what stands beside it, and the headline's parts on refused requests and on
-- peers of another epoch
pub record IsKeptByMoves (script : List Statement) (moment : MomentWithPast) : Type 0 where
  pub wire : FlightIsKept moment.world.log moment.world.hosts moment.world.wire moment.past.attempts
  pub epochs : TermsAreKept moment.world.log moment.world.hosts
  pub tied : IsTied moment
  pub shaped : AreShaped moment
  pub ordered : AttemptsAreOrdered moment.world.wire moment.past.attempts
  pub latest : OpenAttemptsAreLatest moment.world.hosts moment.past.attempts
  pub whole : AttemptsAreWhole (log_effects moment.world.log) moment.past.attempts
  pub fates : WorksKnowTheirFates moment.world.hosts moment.world.wire moment.past.attempts
  pub works : PacketsAreOfOpenWorks moment.world.hosts moment.world.wire moment.past.attempts
  pub touched : ServedRequestsAreTouched moment.world.hosts moment.world.wire moment.past.attempts
  pub losers : LosersAreTouched moment.world.hosts moment.past.lost moment.past.attempts
  pub untouched : RefusedRequestsAreMute moment.world.wire moment.past.refused moment.past.attempts
  pub nothing_made : RefusedMakeNothing moment.past.refused moment.past.lost moment.past.attempts
  pub no_items : RefusedHaveNoItems moment.past.refused moment.past.history
  pub messages : OpenAttemptsHaveMessages moment.world.hosts
  pub begun : AttemptsHaveBegun moment.world.log moment.past.attempts
  pub scripts : AttemptsAreTheScripts script moment.past.attempts
  pub unanswered : RequestsAreWithoutReply script moment.world
  pub asked : RequestsAreTheScripts script moment.world
  pub refused : TheRefusedAreAnswered script moment.world moment.past.refused
  pub works_apart : SessionsWorkApart moment.world.hosts
  pub makers_apart : MakersAreApart moment.world.hosts
  pub writers : WritersAreKept moment.world.log moment.world.hosts moment.world.wire moment.past.attempts
  pub waited_for : WorksAreWaitedFor (log_effects moment.world.log) (λ (id : ℕ). false) moment.world.hosts moment.past.attempts
  pub granted : CommandsKeepTheirGrants moment.world.log moment.world.hosts
  pub ends : RowsHaveEnds moment.world.hosts
  pub one_open : OneRowIsOpen moment.world.hosts
  pub rows_apart : RowsAreApart moment.world.hosts
  pub row_shape : RowsAreWhole (log_effects moment.world.log) moment.world.hosts
  pub placed : RowsAreAtTargets (targets_by moment.world.log) (log_effects moment.world.log) moment.world.hosts
  pub rows_begun : RowsAreBegun moment.world.log (is_live_object moment.world.log moment.past.attempts) moment.world.hosts
      moment.past.attempts
  -- of any objects
  pub of_attempts : (live : ℕ → Bool) → CopiesAreOfAttempts (log_effects moment.world.log) live moment.world.hosts moment.past.attempts
  pub stays : ServedRowsStay (is_live_object moment.world.log moment.past.attempts) moment.world.hosts moment.past.attempts
  pub listing : ListsComeFirst moment.world.hosts
  pub search_first : SearchesAreOfTheFirst moment.world.hosts
  pub told_beyond : TellersHaveCome moment.world.hosts moment.world.wire
  -- of any objects
  pub list_told : (live : ℕ → Bool) → ListsAreWhole live moment.world.hosts moment.world.wire
  pub pending : (live : ℕ → Bool) → PendingIsLacked (targets_by moment.world.log) (log_effects moment.world.log) live moment.world.hosts
  pub row_told : (good : ℕ → Bool) → ToldRowsAreTrue (targets_by moment.world.log) (log_effects moment.world.log) good
      moment.world.hosts moment.world.wire
  pub told_of_attempts : (live : ℕ → Bool) → ToldCopiesAreOfAttempts (log_effects moment.world.log) live moment.world.hosts
      moment.world.wire moment.past.attempts
  pub norow_told : (good : ℕ → Bool) → NoRowIsTrue good moment.world.hosts moment.world.wire
  pub levels_asked : (good : ℕ → Bool) → LevelsAreAsked (targets_by moment.world.log) moment.world.log (log_effects moment.world.log) good
      moment.world.hosts
  pub passed : (good : ℕ → Bool) → PassedLevelsLackRows (targets_by moment.world.log) moment.world.log (log_effects moment.world.log) good
      moment.world.hosts
  pub peers : OtherEpochsChangeNothing script moment.world

pub flight-in_run : (script : List Statement) → RunsAreInRange script → (events : List Move) (moment : MomentWithPast)
    → run_with_past script events ≡ Some moment
    → FlightIsKept moment.world.log moment.world.hosts moment.world.wire moment.past.attempts
flight-in_run script range events moment is =
    let tied = run-kept script IsTied (kept_tied script range) events moment is in
    record {
      numbers = tied.numbers;
      linked = linked-in_run script range events moment is;
      no_reply_to_lost = tied.no_reply_to_lost;
      from_past = past_in_run script range events moment is;
      said = said-in_run script range events moment is;
      fate_told = tied.told;
      fenced = fenced-in_run script range events moment is;
    }

pub writers-in_run : (script : List Statement) → RunsAreInRange script → (events : List Move) (moment : MomentWithPast)
    → run_with_past script events ≡ Some moment
    → WritersAreKept moment.world.log moment.world.hosts moment.world.wire moment.past.attempts
writers-in_run script range events moment is = record {
  may_write = only_writer-in_run script range events moment moment is moments.Still;
  one_writer = one_writer-in_run script range events moment moment is moments.Still;
  one_work = works_apart-in_run script range events moment is;
  held = held-in_run script range events moment moment is moments.Still;
  read_last = last_reads-in_run script range events moment moment is moments.Still;
}

pub kept_by_moves : (script : List Statement) → RunsAreInRange script → (events : List Move) (moment : MomentWithPast)
    → run_with_past script events ≡ Some moment → IsKeptByMoves script moment
kept_by_moves script range events moment is = record {
  wire = flight-in_run script range events moment is;
  epochs = terms-in_run script range events moment is;
  tied = run-kept script IsTied (kept_tied script range) events moment is;
  shaped = run-kept script AreShaped (kept_shaped script range) events moment is;
  ordered = ordered-in_run script range events moment moment is moments.Still;
  latest = latest-in_run script range events moment moment is moments.Still;
  whole = whole-on_the_way script range events moment moment is moments.Still;
  fates = worked-in_run script range events moment is;
  works = awaited-in_run script range events moment is;
  touched = touched-in_run script range events moment is;
  losers = losers-in_run script range events moment is;
  untouched = untouched-in_run script range events moment is;
  nothing_made = nothing_made-in_run script range events moment is;
  no_items = λ req disk block refused. refused_none-in_run script range req events moment is refused disk block;
  messages = messages_in_run script range events moment is;
  begun = begun_in_run script range events moment is;
  scripts = attempts_of_script script range events moment is;
  unanswered = without_reply-in_run script range events moment is;
  asked = requests-in_run script range events moment is;
  refused = refused_in_run script events moment is;
  works_apart = sessions_apart-in_run script range events moment moment is moments.Still;
  makers_apart = makers_apart-in_run script range events moment moment is moments.Still;
  writers = writers-in_run script range events moment is;
  waited_for = waited-in_run script range events moment is;
  granted = grants-in_run script range events moment moment is moments.Still;
  ends = ends-in_run script range events moment is;
  one_open = one_open-in_run script range events moment is;
  rows_apart = apart-in_run script range events moment is;
  row_shape = whole-in_run script range.is_script range.room events moment is;
  placed = placed-in_run script range events moment is;
  rows_begun = begun-in_run script range events moment is (is_live_object moment.world.log moment.past.attempts);
  of_attempts = λ live. copies-on_the_way script range events moment moment is moments.Still live;
  stays = stays-on_the_way script range events moment moment is moments.Still;
  listing = listing-on_the_way script range events moment moment is moments.Still;
  search_first = search_first-on_the_way script range events moment moment is moments.Still;
  told_beyond = tellers-on_the_way script range events moment moment is moments.Still;
  list_told = λ live. lists_whole-on_the_way script range events moment moment is moments.Still live;
  pending = λ live. pending_lacked-on_the_way script range events moment moment is moments.Still live;
  row_told = λ good. rows_true-on_the_way script range events moment moment is moments.Still good;
  told_of_attempts = λ live. told_copies-on_the_way script range events moment moment is moments.Still live;
  norow_told = λ good. no_rows_true-on_the_way script range events moment moment is moments.Still good;
  levels_asked = λ good. levels_asked-on_the_way script range events moment moment is moments.Still good;
  passed = λ good. passed-on_the_way script range events moment moment is moments.Still good;
  peers = run-changes_nothing script events moment is;
}

pub beside_overlap : (script : List Statement) → RunsAreInRange script → (moves : List Move) (moment : MomentWithPast)
    → run_with_past script moves ≡ Some moment → HoldsBesideOverlap script moment
beside_overlap script range moves moment is =
    let of_run : IsKeptByMoves script moment = kept_by_moves script range moves moment is in
    record {
      gateways = of_run.tied.there;
      messages = of_run.messages;
      begun = of_run.begun;
      unanswered = of_run.unanswered;
      works_apart = of_run.works_apart;
      makers_apart = of_run.makers_apart;
      of_attempts = of_run.of_attempts;
      list_told = of_run.list_told;
      pending = of_run.pending;
      row_told = of_run.row_told;
      told_of_attempts = of_run.told_of_attempts;
      norow_told = of_run.norow_told;
      levels_asked = of_run.levels_asked;
      passed = of_run.passed;
    }
