-- Each reply that a report prints was given at an event of its run.
use Rattle.std.proofs.Common.{◌≡◌, ⊎_elim, ℕ, Bool, true, false, cond, List, [], ◌∷◌, ◌++◌, map, Contains, Option, Some, None, unwrap_or, refl, sym, ap, subst, ◌∙◌, append_assoc, append-nil}
use Rattle.std.specs.List.{filter_map}
use Rattle.std.specs.Option.{option_map}
use Rattle.std.specs.Ordering.{nat_cmp}
use Rattle.std.specs.FinMap as tree
use Rattle.std.proofs.lemmas.Option.{same_Some}
use Rattle.std.proofs.lemmas.List.Elements.{Contains-append_cases}
use Rattle.proof_tools.proofs.Lists.{Contains-nil}
use Rattle.cluster_script.specs.declared.statement.Statement.{Statement}
use Rattle.disk_history.specs.declared.event.HistEvent.{HistEvent}
use Rattle.peer_proto.specs.declared.guest.GuestRsp.{GuestRsp}
use Rattle.sheep_node.specs.declared.event.Event.{Event}
use Rattle.sheep_world.specs.Step.{EventOutcome, step}
use Rattle.sheep_world.specs.Run.{Moment, initial_moment, moment_with_made, run}
use Rattle.dog_report.specs.Words.{Words}
use Rattle.dog_report.specs.Fates.{RequestFate, Answered, Pending, Unsent, ReportLine, Told, Listed}
use Rattle.dog_report.specs.Report.{Report, empty_report, is_lost_request, is_begun, fate_settled_by, settled_fate, fate_due, barrier_list}
use Rattle.dog_report.specs.Report.{phase_told, is_phase, report_with_made, report_before_event, last_fate, finished_report, report_of}
use Rattle.sheep.specs.ToldRun.{report_so_far}
use Rattle.sheep.specs.PrintedReplies.{IsGiven, HasReplyLine}
use Rattle.sheep.proofs.ReplyLists.{map-contains, filter_map-contains, put-cases}
use Rattle.sheep.proofs.RunInduction.{run-induction}
use Rattle.sheep.proofs.ToldRuns.{report-on}

-- ---- what a line says

answered_same : (one other : GuestRsp) → Answered one ≡ Answered other → one ≡ other
answered_same one other is = cc

told_same : (req other : ℕ) (fate more : RequestFate) → Told req fate ≡ Told other more → (req ≡ other) × (fate ≡ more)
told_same req other fate more is = (cc, cc)

-- of what is settled it was a reply
settled_reply : (found : Option GuestRsp) (lost : Bool) (rsp : GuestRsp) → fate_settled_by found lost ≡ Some (Answered rsp) → found ≡ Some rsp
settled_reply None true rsp is = absurd (cc (is))
settled_reply None false rsp is = absurd (cc (is))
settled_reply (Some reply) lost rsp is = ap Some (answered_same reply rsp (same_Some (Answered reply) (Answered rsp) is))

-- and so it was in the end
last_reply : (found : Option GuestRsp) (lost begun : Bool) (rsp : GuestRsp)
    → unwrap_or (fate_settled_by found lost) (cond begun Pending Unsent) ≡ Answered rsp → found ≡ Some rsp
last_reply None true begun rsp is = absurd (cc (is))
last_reply None false true rsp is = absurd (cc (is))
last_reply None false false rsp is = absurd (cc (is))
last_reply (Some reply) lost begun rsp is = ap Some (answered_same reply rsp is)

-- what is due was settled
due_settled : (come : Bool) (fate : Option RequestFate) (rsp : GuestRsp) → cond come fate None ≡ Some (Answered rsp) → fate ≡ Some (Answered rsp)
due_settled true fate rsp is = is
due_settled false fate rsp is = absurd (cc (is))

-- a line that an option makes is of its fate
line_made : (req other : ℕ) (fate : Option RequestFate) (rsp : GuestRsp) → option_map (Told req) fate ≡ Some (Told other (Answered rsp))
    → (req ≡ other) × (fate ≡ Some (Answered rsp))
line_made req other None rsp is = absurd (cc (is))
line_made req other (Some fate) rsp is =
    let both = told_same req other fate (Answered rsp) (same_Some (Told req fate) (Told other (Answered rsp)) is) in
    (both.0, ap Some both.1)

-- a line of a list is no request's
listed_never : (lists : List Words) (req : ℕ) (rsp : GuestRsp) → HasReplyLine (map Listed lists) req rsp → ⊥
listed_never lists req rsp there = let found = map-contains Listed lists (Told req (Answered rsp)) there in let is = found.2 in cc (is)

module _ (statements : List Statement) where
  -- ---- what was given stays given

  pub given-later : (events : List Event) (history : List HistEvent) (event : Event) (grown : List HistEvent) (req : ℕ) (rsp : GuestRsp)
      → IsGiven statements events history req rsp → IsGiven statements (events ++ event ∷ []) (history ++ grown) req rsp
  given-later events history event grown req rsp given = record {
    earlier = given.earlier;
    event = given.event;
    later = given.later ++ event ∷ [];
    among =
        ap (λ (events : List Event). events ++ event ∷ []) given.among
        ∙ append_assoc given.earlier (given.event ∷ given.later) (event ∷ []);
    moment = given.moment;
    reached = given.reached;
    made = given.made;
    happens = given.happens;
    replied = given.replied;
    more = given.more ++ grown;
    kept =
        ap (λ (history : List HistEvent). history ++ grown) given.kept
        ∙ append_assoc (given.moment.history ++ given.made.grown) given.more grown;
  }

  -- what the last event replies is given
  pub given-now : (events : List Event) (moment : Moment) (event : Event) (made : EventOutcome) (req : ℕ) (rsp : GuestRsp)
      → run statements events ≡ Some moment → step statements event moment.world ≡ Some made
      → Contains made.world.outputs.replies (req, rsp)
      → IsGiven statements (events ++ event ∷ []) (moment.history ++ made.grown) req rsp
  given-now events moment event made req rsp reached happens replied = record {
    earlier = events;
    event = event;
    later = [];
    among = refl;
    moment = moment;
    reached = reached;
    made = made;
    happens = happens;
    replied = replied;
    more = [];
    kept = sym (append-nil (moment.history ++ made.grown));
  }

  -- ---- the report in the making

  -- the replies that a report has were given, and so were those of its lines
  record AreGiven (events : List Event) (history : List HistEvent) (report : Report) : Type 0 where
    replies : (req : ℕ) (rsp : GuestRsp) → tree.get report.replies req ≡ Some rsp → IsGiven statements events history req rsp
    lines : (req : ℕ) (rsp : GuestRsp) → HasReplyLine report.lines req rsp → IsGiven statements events history req rsp

  phase_given : (events : List Event) (history : List HistEvent) (report : Report) → AreGiven events history report
      → AreGiven events history (phase_told statements report)
  phase_given events history report given = record {
    replies = given.replies;
    lines = λ req rsp there.
        let line : ℕ → Option ReportLine = λ req. option_map (Told req) (fate_due statements report req) in
        let told : List ReportLine = filter_map line report.left in
        let listed : List ReportLine = map Listed (barrier_list statements report.world) in
        ⊎_elim
        (λ (before : Contains (report.lines ++ told) (Told req (Answered rsp))). ⊎_elim
        (λ (old : HasReplyLine report.lines req rsp). given.lines req rsp old)
        (λ (new : HasReplyLine told req rsp).
        let found = filter_map-contains line report.left (Told req (Answered rsp)) new in
        let made = line_made found.0 req (fate_due statements report found.0) rsp found.2 in
        let due : fate_due statements report req ≡ Some (Answered rsp) = ap (fate_due statements report) (sym made.0) ∙ made.1 in
        given.replies req rsp
        (settled_reply (tree.get report.replies req) (is_lost_request statements req report.world) rsp
        (due_settled _ (settled_fate statements report req) rsp due)))
        (Contains-append_cases report.lines told (Told req (Answered rsp)) before))
        (λ (list : HasReplyLine listed req rsp). absurd (listed_never (barrier_list statements report.world) req rsp list))
        (Contains-append_cases (report.lines ++ told) listed (Told req (Answered rsp)) there);
  }

  before_given : (events : List Event) (history : List HistEvent) (report : Report) (phase : Bool) → AreGiven events history report
      → AreGiven events history (cond phase (phase_told statements report) report)
  before_given events history report true given = phase_given events history report given
  before_given events history report false given = given

  made_given : (events : List Event) (moment : Moment) (event : Event) (made : EventOutcome) (report : Report)
      → run statements events ≡ Some moment → step statements event moment.world ≡ Some made → AreGiven events moment.history report
      → AreGiven (events ++ event ∷ []) (moment.history ++ made.grown) (report_with_made (Some made) report)
  made_given events moment event made report reached happens given = record {
    replies = λ req rsp got. ⊎_elim
        (λ (new : Contains made.world.outputs.replies (req, rsp)). given-now events moment event made req rsp reached happens new)
        (λ (old : tree.get report.replies req ≡ Some rsp).
        given-later events moment.history event made.grown req rsp (given.replies req rsp old))
        (put-cases made.world.outputs.replies report.replies req rsp got);
    lines = λ req rsp there. given-later events moment.history event made.grown req rsp (given.lines req rsp there);
  }

  -- the report in the making of a run is of its last world, and what it has was given
  record IsSoFar (events : List Event) (moment : Moment) : Type 0 where
    same : (report_so_far statements events).world ≡ moment.world
    given : AreGiven events moment.history (report_so_far statements events)

  so_far-keeps : (events : List Event) (event : Event) (moment : Moment) (made : EventOutcome) → run statements events ≡ Some moment
      → step statements event moment.world ≡ Some made → IsSoFar events moment
      → IsSoFar (events ++ event ∷ []) (moment_with_made moment.history made)
  so_far-keeps events event moment made reached happens so_far =
      let report = report_so_far statements events in
      let on = report-on statements events event moment.world made so_far.same happens in
      record {
        same = ap (λ (report : Report). report.world) on;
        given =
            subst (AreGiven (events ++ event ∷ []) (moment.history ++ made.grown)) (sym on)
            (made_given events moment event made (report_before_event statements event report) reached happens
            (before_given events moment.history report (is_phase event) so_far.given));
      }

  none_in : (req : ℕ) (rsp : GuestRsp) → tree.get (empty_report statements).replies req ≡ Some rsp → ⊥
  none_in req rsp got = let none = tree.get-empty {X = GuestRsp} nat_cmp req in cc (none, got)

  opening : IsSoFar [] (initial_moment statements)
  opening = record {
    same = refl;
    given = record {
      replies = λ req rsp got. absurd (none_in req rsp got);
      lines = λ req rsp there. absurd (Contains-nil (Told req (Answered rsp)) there);
    };
  }

  pub report-same : (events : List Event) (moment : Moment) → run statements events ≡ Some moment
      → (report_so_far statements events).world ≡ moment.world
  report-same events moment reached = (run-induction statements IsSoFar so_far-keeps opening events moment reached).same

  finished_given : (events : List Event) (history : List HistEvent) (report : Report) → AreGiven events history report
      → (req : ℕ) (rsp : GuestRsp) → HasReplyLine (finished_report statements report) req rsp → IsGiven statements events history req rsp
  finished_given events history report given req rsp there = ⊎_elim
      (λ (old : HasReplyLine report.lines req rsp). given.lines req rsp old)
      (λ (last : HasReplyLine (map (λ req. Told req (last_fate statements report req)) report.left) req rsp).
      let found = map-contains (λ (req : ℕ). Told req (last_fate statements report req)) report.left (Told req (Answered rsp)) last in
      let made = told_same found.0 req (last_fate statements report found.0) (Answered rsp) found.2 in
      let so : last_fate statements report req ≡ Answered rsp = ap (last_fate statements report) (sym made.0) ∙ made.1 in
      given.replies req rsp
      (last_reply (tree.get report.replies req) (is_lost_request statements req report.world) (is_begun statements req report.world) rsp so))
      (Contains-append_cases report.lines (map (λ req. Told req (last_fate statements report req)) report.left) (Told req (Answered rsp)) there)

  -- a printed reply was given at an event of the run
  pub printed-given : (events : List Event) (moment : Moment) → run statements events ≡ Some moment → (req : ℕ) (rsp : GuestRsp)
      → HasReplyLine (report_of statements events) req rsp → IsGiven statements events moment.history req rsp
  unfolding report_of
  printed-given events moment reached =
      finished_given events moment.history (report_so_far statements events)
      (run-induction statements IsSoFar so_far-keeps opening events moment reached).given
