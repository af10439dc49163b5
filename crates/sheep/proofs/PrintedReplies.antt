-- Each reply that an event of a run gave is printed: its request had no line before, and gets the reply's.
use Rattle.std.proofs.Common.{◌≡◌, ◌⊎◌, inl, inr, ⊎_elim, arith, ℕ, zero, suc, ◌+◌, ◌<◌, nat_le, Bool, true, false, not, cond, List, [], ◌∷◌, ◌++◌, length, map, Contains, Option, Some, None, is_some, refl, sym, ap, subst, ◌∙◌, append_assoc}
use Rattle.std.specs.List.{filter_map, range_with_len}
use Rattle.std.specs.Option.{option_map}
use Rattle.std.specs.Ordering.{nat_cmp}
use Rattle.std.specs.FinMap as tree
use Rattle.std.proofs.lemmas.Option.{same_Some, slice_get_within}
use Rattle.std.proofs.lemmas.List.Elements.{Contains-append_left, Contains-append_right}
use Rattle.proof_tools.proofs.Lists.{Contains-head, Contains-cons, Contains-filter, Contains-map}
use Rattle.cluster_script.specs.declared.statement.Statement.{Statement}
use Rattle.cluster_script.specs.Language.{IsScript}
use Rattle.cluster_script.specs.Statements.{requests_of}
use Rattle.cluster_script.specs.NumberedRequests.{request_at}
use Rattle.cluster_script.specs.Phases.{phase_of_request}
use Rattle.disk_history.specs.declared.event.HistEvent.{HistEvent}
use Rattle.peer_proto.specs.declared.guest.GuestRsp.{GuestRsp}
use Rattle.sheep_node.specs.declared.event.Event.{Event}
use Rattle.sheep_world.specs.World.{World}
use Rattle.sheep_world.specs.Step.{EventOutcome, step}
use Rattle.sheep_world.specs.Run.{Moment, initial_moment, moment_with_made, run}
use Rattle.sheep_world.specs.AsksAbsent.{BeganWithoutAsks}
use Rattle.sheep_world.proofs.RunLaws.{run-prefix}
use Rattle.dog_report.specs.Fates.{RequestFate, Answered, ReportLine, Told, Listed}
use Rattle.dog_report.specs.Report.{Report, is_lost_request, fate_settled_by, settled_fate, fate_due, barrier_list}
use Rattle.dog_report.specs.Report.{phase_told, is_phase, report_with_made, report_before_event, last_fate, finished_report, report_of}
use Rattle.dog_report.proofs.FateLaws.{answered}
use Rattle.sheep.specs.ToldRun.{report_so_far}
use Rattle.sheep.specs.PrintedReplies.{IsGiven, HasReplyLine, PrintsReplies}
use Rattle.sheep.proofs.ReplyLists.{Contains-filter_map, put-cases, put-others, put-one}
use Rattle.sheep.proofs.RunInduction.{run-goes_on, run-induction}
use Rattle.sheep.proofs.ToldRuns.{report-on}
use Rattle.sheep_world.proofs.AsksAbsent.{without_asks}
use Rattle.sheep.proofs.GoneRequests.{gone-stays}
use Rattle.sheep.proofs.EndedRequests.{HasEnded, ended-stays, ended-silent, replied-one, reply-ends, reply-not_gone, reply-asks}
use Rattle.sheep.proofs.GivenReplies.{report-same, printed-given}

-- a number from 1 on is among those
in_range : (first count place : ℕ) → place < count → Contains (range_with_len first count) (first + place)
in_range first zero place within = absurd (omega (arith, within))
in_range first (suc count) zero within =
    let same : first + 0 ≡ first = omega arith in
    subst (λ (k : ℕ). Contains (range_with_len first (suc count)) k) (sym same) (Contains-head first (range_with_len (first + 1) count))
in_range first (suc count) (suc place) within =
    let same : first + suc place ≡ first + 1 + place = omega arith in
    subst (λ (k : ℕ). Contains (range_with_len first (suc count)) k) (sym same)
    (Contains-cons first (range_with_len (first + 1) count) (first + 1 + place) (in_range (first + 1) count place (omega (arith, within))))

numbered : (statements : List Statement) (q : ℕ) (s : Statement) → request_at statements q ≡ Some s
    → Contains (range_with_len 1 (length (requests_of statements))) q
numbered statements zero s is = absurd (cc (is))
numbered statements (suc place) s is =
    let same : 1 + place ≡ suc place = omega arith in
    subst (λ (k : ℕ). Contains (range_with_len 1 (length (requests_of statements))) k) same
    (in_range 1 (length (requests_of statements)) place (slice_get_within (requests_of statements) place s is))

module _ (statements : List Statement) (script : IsScript statements) (q : ℕ) where
  -- ---- before the request is replied to

  -- it has ended, or its gateway is gone
  abbrev IsOver : World → Type 0
  IsOver world = HasEnded statements world q ⊎ (is_lost_request statements q world ≡ true)

  -- it has no line yet, or is over; and it is over if it has a reply
  record IsOpen (report : Report) : Type 0 where
    left : Contains report.left q ⊎ IsOver report.world
    answered : (rsp : GuestRsp) → tree.get report.replies q ≡ Some rsp → HasEnded statements report.world q

  -- a reply, or the loss of the gateway, settles what became of it
  over_by : (found : Option GuestRsp) (lost : Bool) (fate : RequestFate) → fate_settled_by found lost ≡ Some fate
      → ((rsp : GuestRsp) × (found ≡ Some rsp)) ⊎ (lost ≡ true)
  over_by None true fate is = inr refl
  over_by None false fate is = absurd (cc (is))
  over_by (Some rsp) lost fate is = inl (rsp, refl)

  due_by : (come : Bool) (fate : Option RequestFate) (due : RequestFate) → cond come fate None ≡ Some due → fate ≡ Some due
  due_by true fate due is = is
  due_by false fate due is = absurd (cc (is))

  phase_open : (report : Report) → IsOpen report → IsOpen (phase_told statements report)
  phase_open report open_so = record {
    left = ⊎_elim (λ (there : Contains report.left q). by_due there (fate_due statements report q) refl) (λ (over : IsOver report.world). inr over) open_so.left;
    answered = open_so.answered;
  }
    where
      by_due : Contains report.left q → (due : Option RequestFate) → fate_due statements report q ≡ due
          → Contains (phase_told statements report).left q ⊎ IsOver report.world
      by_due there None is =
          inl (Contains-filter (λ (req : ℕ). not (is_some (fate_due statements report req))) report.left q there
          (ap (λ (due : Option RequestFate). not (is_some due)) is))
      by_due there (Some fate) is = ⊎_elim
          (λ (told : (rsp : GuestRsp) × (tree.get report.replies q ≡ Some rsp)). inr (inl (open_so.answered told.0 told.1)))
          (λ (lost : is_lost_request statements q report.world ≡ true). inr (inr lost))
          (over_by (tree.get report.replies q) (is_lost_request statements q report.world) fate
          (due_by _ (settled_fate statements report q) fate is))

  before_open : (report : Report) (phase : Bool) → IsOpen report → IsOpen (cond phase (phase_told statements report) report)
  before_open report true open_so = phase_open report open_so
  before_open report false open_so = open_so

  module _ (event : Event) (report : Report) (made : EventOutcome) (is : step statements event report.world ≡ Some made)
      (began : BeganWithoutAsks statements report.world) where
    over_stays : IsOver report.world → IsOver made.world
    over_stays over = ⊎_elim
        (λ (ended : HasEnded statements report.world q). inl (ended-stays statements event report.world made q is ended))
        (λ (gone : is_lost_request statements q report.world ≡ true).
        inr (gone-stays statements event report.world made q script (without_asks statements report.world began) is gone))
        over

    made_open : IsOpen report → IsOpen (report_with_made (Some made) report)
    made_open open_so = record {
      left = ⊎_elim (λ (there : Contains report.left q). inl there) (λ (over : IsOver report.world). inr (over_stays over)) open_so.left;
      answered = λ rsp got. ⊎_elim
          (λ (new : Contains made.world.outputs.replies (q, rsp)). reply-ends statements event report.world made is began q rsp new)
          (λ (old : tree.get report.replies q ≡ Some rsp). ended-stays statements event report.world made q is (open_so.answered rsp old))
          (put-cases made.world.outputs.replies report.replies q rsp got);
    }

  -- ---- once it is replied to

  -- it has ended with this reply, and has its line or will get it
  record IsAnswered (rsp : GuestRsp) (report : Report) : Type 0 where
    ended : HasEnded statements report.world q
    reply : tree.get report.replies q ≡ Some rsp
    line : Contains report.left q ⊎ HasReplyLine report.lines q rsp

  -- the lines that are due at the end of a phase, and those of its list
  abbrev lines_due : Report → List ReportLine
  lines_due report = filter_map (λ req. option_map (Told req) (fate_due statements report req)) report.left

  abbrev lines_listed : Report → List ReportLine
  lines_listed report = map Listed (barrier_list statements report.world)

  module _ (rsp : GuestRsp) where
    -- a line that was told or is due stands among those behind the phase
    told_behind : (report : Report) → HasReplyLine (report.lines ++ lines_due report) q rsp → HasReplyLine (phase_told statements report).lines q rsp
    told_behind report told = Contains-append_left (report.lines ++ lines_due report) (lines_listed report) (Told q (Answered rsp)) told

    settled : (report : Report) → IsAnswered rsp report → settled_fate statements report q ≡ Some (Answered rsp)
    settled report has = ap (λ (found : Option GuestRsp). fate_settled_by found (is_lost_request statements q report.world)) has.reply

    by_come : (report : Report) → IsAnswered rsp report → Contains report.left q → (come : Bool)
        → nat_le (phase_of_request statements q) report.world.phase ≡ come
        → Contains (phase_told statements report).left q ⊎ HasReplyLine (phase_told statements report).lines q rsp
    by_come report has there true is =
        let due : fate_due statements report q ≡ Some (Answered rsp)
        = ap (λ (b : Bool). cond b (settled_fate statements report q) None) is ∙ settled report has in
        inr (told_behind report
        (Contains-append_right report.lines (lines_due report) (Told q (Answered rsp))
        (Contains-filter_map (λ req. option_map (Told req) (fate_due statements report req)) report.left q (Told q (Answered rsp)) there
        (ap (option_map (Told q)) due))))
    by_come report has there false is =
        inl (Contains-filter (λ (req : ℕ). not (is_some (fate_due statements report req))) report.left q there
        (ap (λ (b : Bool). not (is_some (cond b (settled_fate statements report q) None))) is))

    phase_answered : (report : Report) → IsAnswered rsp report → IsAnswered rsp (phase_told statements report)
    phase_answered report has = record {
      ended = has.ended;
      reply = has.reply;
      line = ⊎_elim
          (λ (there : Contains report.left q). by_come report has there (nat_le (phase_of_request statements q) report.world.phase) refl)
          (λ (told : HasReplyLine report.lines q rsp). inr
          (told_behind report (Contains-append_left report.lines (lines_due report) (Told q (Answered rsp)) told)))
          has.line;
    }

    before_answered : (report : Report) (phase : Bool) → IsAnswered rsp report → IsAnswered rsp (cond phase (phase_told statements report) report)
    before_answered report true has = phase_answered report has
    before_answered report false has = has

    module _ (event : Event) (report : Report) (made : EventOutcome) (is : step statements event report.world ≡ Some made)
        (began : BeganWithoutAsks statements report.world) where
      -- an event replies to it
      becomes_answered : IsOpen report → Contains made.world.outputs.replies (q, rsp) → IsAnswered rsp (report_with_made (Some made) report)
      becomes_answered open_so replied = record {
        ended = reply-ends statements event report.world made is began q rsp replied;
        reply =
            put-one made.world.outputs.replies report.replies q rsp (none_yet (tree.get report.replies q) refl) replied
            (replied-one statements event report.world made is began q rsp replied);
        line = ⊎_elim (λ (there : Contains report.left q). inl there) (λ (over : IsOver report.world). absurd (not_over over)) open_so.left;
      }
        where
          none_yet : (found : Option GuestRsp) → tree.get report.replies q ≡ found → tree.get report.replies q ≡ None
          none_yet None at = at
          none_yet (Some other) at = absurd (ended-silent statements event report.world made is began q rsp replied (open_so.answered other at))

          not_over : IsOver report.world → ⊥
          not_over over = ⊎_elim
              (λ (ended : HasEnded statements report.world q). ended-silent statements event report.world made is began q rsp replied ended)
              (λ (gone : is_lost_request statements q report.world ≡ true).
              let up = reply-not_gone statements event report.world made is began q rsp replied in cc (gone, up))
              over

      -- and none later does
      made_answered : IsAnswered rsp report → IsAnswered rsp (report_with_made (Some made) report)
      made_answered has = record {
        ended = ended-stays statements event report.world made q is has.ended;
        reply =
            put-others made.world.outputs.replies report.replies q
            (λ other replied. ended-silent statements event report.world made is began q other replied has.ended)
            ∙ has.reply;
        line = has.line;
      }

  -- ---- along a run

  before_world : (report : Report) (phase : Bool) → (cond phase (phase_told statements report) report).world ≡ report.world
  before_world report true = refl
  before_world report false = refl

  world_began : (events : List Event) (moment : Moment) → run statements events ≡ Some moment
      → BeganWithoutAsks statements (report_so_far statements events).world
  world_began events moment reached =
      record { events = events; moment = moment; runs = reached; world_so = sym (report-same statements events moment reached) }

  -- what is known of an event holds of the report before it
  module _ (events : List Event) (event : Event) (moment : Moment) (made : EventOutcome) (reached : run statements events ≡ Some moment)
      (happens : step statements event moment.world ≡ Some made) where
    abbrev told : Report
    told = report_before_event statements event (report_so_far statements events)

    told_steps : step statements event told.world ≡ Some made
    told_steps =
        ap (step statements event) (before_world (report_so_far statements events) (is_phase event) ∙ report-same statements events moment reached)
        ∙ happens

    told_began : BeganWithoutAsks statements told.world
    told_began =
        subst (BeganWithoutAsks statements) (sym (before_world (report_so_far statements events) (is_phase event)))
        (world_began events moment reached)

    told_on : report_so_far statements (events ++ event ∷ []) ≡ report_with_made (Some made) told
    told_on = report-on statements events event moment.world made (report-same statements events moment reached) happens

  module _ (P : Report → Type 0)
      (before : (report : Report) (phase : Bool) → P report → P (cond phase (phase_told statements report) report))
      (made_keeps : (event : Event) (report : Report) (made : EventOutcome) → step statements event report.world ≡ Some made
      → BeganWithoutAsks statements report.world → P report → P (report_with_made (Some made) report)) where
    abbrev SoFar : List Event → Moment → Type 0
    SoFar events moment = P (report_so_far statements events)

    so_far-keeps : (events : List Event) (event : Event) (moment : Moment) (made : EventOutcome) → run statements events ≡ Some moment
        → step statements event moment.world ≡ Some made → SoFar events moment → SoFar (events ++ event ∷ []) (moment_with_made moment.history made)
    so_far-keeps events event moment made reached happens here =
        subst P (sym (told_on events event moment made reached happens))
        (made_keeps event (told events event moment made reached happens) made (told_steps events event moment made reached happens)
        (told_began events event moment made reached happens)
        (before (report_so_far statements events) (is_phase event) here))

  open_so_far : Contains (range_with_len 1 (length (requests_of statements))) q → (events : List Event) (moment : Moment)
      → run statements events ≡ Some moment → IsOpen (report_so_far statements events)
  open_so_far there =
      run-induction statements (λ (events : List Event) (moment : Moment). IsOpen (report_so_far statements events))
      (so_far-keeps IsOpen before_open made_open)
      (record {
        left = inl there;
        answered = λ rsp got. let none = tree.get-empty {X = GuestRsp} nat_cmp q in absurd (cc (none, got));
      })

  -- behind the event that gave a reply
  answered_then : (events : List Event) (history : List HistEvent) (rsp : GuestRsp) (given : IsGiven statements events history q rsp)
      → IsAnswered rsp (report_so_far statements (given.earlier ++ given.event ∷ []))
  answered_then events history rsp given =
      let began : BeganWithoutAsks statements given.moment.world
      = record { events = given.earlier; moment = given.moment; runs = given.reached; world_so = refl } in
      let asks = reply-asks statements given.event given.moment.world given.made given.happens began q rsp given.replied in
      let open_so = open_so_far (numbered statements q asks.0 asks.1) given.earlier given.moment given.reached in
      subst (IsAnswered rsp) (sym (told_on given.earlier given.event given.moment given.made given.reached given.happens))
      (becomes_answered rsp given.event (told given.earlier given.event given.moment given.made given.reached given.happens) given.made
      (told_steps given.earlier given.event given.moment given.made given.reached given.happens)
      (told_began given.earlier given.event given.moment given.made given.reached given.happens)
      (before_open (report_so_far statements given.earlier) (is_phase given.event) open_so) given.replied)

  -- and so to the end of the run
  answered_last : (events : List Event) (history : List HistEvent) (last : Moment) (rsp : GuestRsp) → run statements events ≡ Some last
      → IsGiven statements events history q rsp → IsAnswered rsp (report_so_far statements events)
  answered_last events history last rsp reached given =
      let after : List Event = given.earlier ++ given.event ∷ [] in
      let same : after ++ given.later ≡ events = append_assoc given.earlier (given.event ∷ []) given.later ∙ sym given.among in
      let cut = run-prefix statements after given.later (initial_moment statements) last (ap (run statements) same ∙ reached) in
      subst (λ (events : List Event). IsAnswered rsp (report_so_far statements events)) same
      (run-goes_on statements (λ (events : List Event) (moment : Moment). IsAnswered rsp (report_so_far statements events))
      (so_far-keeps (IsAnswered rsp) (before_answered rsp) (made_answered rsp)) given.later after cut.0 last cut.1
      (answered_then events history rsp given) cut.2)

  finished_line : (report : Report) (rsp : GuestRsp) → IsAnswered rsp report → HasReplyLine (finished_report statements report) q rsp
  finished_line report rsp has =
      let last : List ReportLine = map (λ req. Told req (last_fate statements report req)) report.left in
      ⊎_elim
      (λ (there : Contains report.left q).
      let is : Told q (last_fate statements report q) ≡ Told q (Answered rsp) = ap (Told q) (answered statements report q rsp has.reply) in
      Contains-append_right report.lines last (Told q (Answered rsp))
      (subst (λ (line : ReportLine). Contains last line) is
      (Contains-map (λ (req : ℕ). Told req (last_fate statements report req)) report.left q there)))
      (λ (told : HasReplyLine report.lines q rsp). Contains-append_left report.lines last (Told q (Answered rsp)) told)
      has.line

  -- a reply that an event gave has a line
  pub given-printed : (events : List Event) (history : List HistEvent) (last : Moment) (rsp : GuestRsp) → run statements events ≡ Some last
      → IsGiven statements events history q rsp → HasReplyLine (report_of statements events) q rsp
  unfolding report_of
  given-printed events history last rsp reached given =
      finished_line (report_so_far statements events) rsp (answered_last events history last rsp reached given)

-- a request gets one reply
pub given-one : (statements : List Statement) (events : List Event) (last : Moment) → IsScript statements → run statements events ≡ Some last
    → (req : ℕ) (rsp other : GuestRsp) → IsGiven statements events last.history req rsp → IsGiven statements events last.history req other
    → rsp ≡ other
given-one statements events last script reached req rsp other given again =
    same_Some rsp other
    (sym (answered_last statements script req events last.history last rsp reached given).reply
    ∙ (answered_last statements script req events last.history last other reached again).reply)

-- the report of a run prints the replies that its events gave
pub prints-replies : (statements : List Statement) (events : List Event) (last : Moment) → IsScript statements → run statements events ≡ Some last
    → PrintsReplies statements events last.history
prints-replies statements events last script reached = record {
  given = printed-given statements events last reached;
  printed = λ req rsp given. given-printed statements script req events last.history last rsp reached given;
}
