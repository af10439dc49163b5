-- A reporter has the report in the making, from before the first event to behind the last.
use Rattle.std.proofs.Common.{◌≡◌, ◌≢◌, ℕ, zero, suc, ◌+◌, ◌-◌, ◌<◌, ◌≤◌, ◌==◌, Bool, true, false, not, cond, List, [], ◌∷◌, ◌++◌, length, map, fold, take, get_or}
use Rattle.std.proofs.Common.{Option, Some, None, is_some, refl, sym, ap, subst, ◌∙◌, arith}
use Rattle.std.specs.List.{range_with_len, cons_option}
use Rattle.std.specs.Option.{option_map}
use Rattle.std.specs.Ordering.{nat_cmp}
use Rattle.std.specs.FinMap as tree
use Rattle.std.proofs.lemmas.Bool.{eqb-true, eqb-false, false≢true}
use Rattle.std.proofs.lemmas.List.{append_assoc, append-nil, take_more, take_all}
use Rattle.std.proofs.lemmas.List.Elements.{filter_map-append, filter-append}
use Rattle.std.proofs.lemmas.List.Sums.{fold-append}
use Rattle.proof_tools.proofs.FiniteMaps.{get-insert_same, get-insert_other}
use Rattle.proof_tools.proofs.Lists.{range_with_len-append}
use Rattle.cluster_script.specs.declared.statement.Statement.{Statement}
use Rattle.cluster_script.specs.Statements.{requests_of}
use Rattle.peer_proto.specs.declared.guest.GuestRsp.{GuestRsp}
use Rattle.disk_history.specs.declared.event.HistEvent.{HistEvent}
use Rattle.sheep_node.specs.declared.event.Event.{Event}
use Rattle.sheep_world.specs.World.{World}
use Rattle.sheep_world.specs.Step.{EventOutcome, step}
use Rattle.sheep_world.specs.Enabled.{is_enabled}
use Rattle.sheep_world.proofs.EnabledLaws.{is_some-step}
use Rattle.dog_report.specs.declared.held_line.HeldLine.{HeldLine}
use Rattle.dog_report.specs.declared.settling.Lines.{Lines}
use Rattle.dog_report.specs.Fates.{RequestFate, ReportLine, Told, Listed}
use Rattle.dog_report.specs.Report.{Report, empty_report, settled_fate, barrier_list, phase_told, is_phase, replies_with}
use Rattle.dog_report.specs.Report.{report_with_made, report_before_event, report_after, finished_report, report_of, report_text}
use Rattle.dog_report.specs.ToldPart.{ToldPart, told_part_of, held_line, held_with}
use Rattle.dog_report.specs.Settling.{Settling, settling_of, is_phase_begun, settling_after, lines_with_last}
use Rattle.dog_report.specs.Reporter.{Reporter, AreNumbersWithin, IsLineHeld, AreLinesHeld, IsReporterOf}
use Rattle.dog_report.proofs.ToldLaws.{told-lists}
use Rattle.dog_report.proofs.RequestLaws.{not_begun-later}
use Rattle.dog_report.proofs.SettlingLaws.{within-filter, within-front, held-front}
use Rattle.dog_report.proofs.SettlingLaws.{due, told_lines, kept_of, AreSettled, settled-all, told-all}

-- numbers one after another
pub within-range : (first count most : ℕ) → first + count ≤ suc most → AreNumbersWithin first most (range_with_len first count)
within-range first zero most fits = tt
within-range first (suc count) most fits = (
  omega arith,
  omega (arith, fits),
  subst (λ (n : ℕ). AreNumbersWithin (suc first) most (range_with_len n count)) (next first) (within-range (suc first) count most (omega (arith, fits))),
)
  where
    next : (n : ℕ) → suc n ≡ n + 1
    next n = omega arith

-- before the first reply no line is held
held-empty : (numbers : List ℕ) → AreLinesHeld tree.empty tree.empty numbers
held-empty [] = tt
held-empty (number ∷ later) =
    (tree.get-empty nat_cmp number ∙ sym (ap (option_map (held_line number)) (tree.get-empty nat_cmp number)), held-empty later)

-- a reply more
held-insert : (replies : tree.FinMap nat_cmp GuestRsp) (held : tree.FinMap nat_cmp HeldLine) (other : ℕ) (rsp : GuestRsp) (numbers : List ℕ)
    → AreLinesHeld replies held numbers → AreLinesHeld (tree.insert replies other rsp) (tree.insert held other (held_line other rsp)) numbers
held-insert replies held other rsp [] are = tt
held-insert replies held other rsp (number ∷ later) are =
    (by_number (number == other) refl, held-insert replies held other rsp later are.1)
  where
    by_number : (b : Bool) → (number == other) ≡ b → IsLineHeld (tree.insert replies other rsp) (tree.insert held other (held_line other rsp)) number
    by_number true is =
        let same : number ≡ other = eqb-true number other is in
        subst (λ (n : ℕ). IsLineHeld (tree.insert replies other rsp) (tree.insert held other (held_line other rsp)) n) (sym same)
        (get-insert_same held other (held_line other rsp) ∙ sym (ap (option_map (held_line other)) (get-insert_same replies other rsp)))
    by_number false is =
        let apart : number ≢ other = eqb-false number other is in
        get-insert_other held other (held_line other rsp) number apart ∙ are.0
        ∙ sym (ap (option_map (held_line number)) (get-insert_other replies other rsp number apart))

-- the replies of a step more
held-replies : (given : List (ℕ × GuestRsp)) (replies : tree.FinMap nat_cmp GuestRsp) (held : tree.FinMap nat_cmp HeldLine) (numbers : List ℕ)
    → AreLinesHeld replies held numbers → AreLinesHeld (fold replies_with replies given) (fold held_with held given) numbers
held-replies [] replies held numbers are = are
held-replies (reply ∷ given) replies held numbers are =
    held-replies given (replies_with replies reply) (held_with held reply) numbers (held-insert replies held reply.0 reply.1 numbers are)

module _ (statements : List Statement) where
  abbrev total : ℕ
  total = length (requests_of statements)

  -- a reporter that has told nothing
  abbrev pub first_reporter : Reporter
  first_reporter = record { lines = record { held = tree.empty; told = told_part_of [] }; unsettled = []; next = 1 }

  pub reporter-first : IsReporterOf statements first_reporter (empty_report statements)
  reporter-first = record {
    count = total;
    first = omega arith;
    all = omega arith;
    left = refl;
    within = within-range 1 total total (omega arith);
    told = refl;
    held = held-empty (range_with_len 1 total);
  }

  pub reporter-new : (held : tree.FinMap nat_cmp HeldLine) (told : ToldPart) (unsettled : List ℕ) → held ≡ tree.empty → told ≡ told_part_of []
      → unsettled ≡ []
      → IsReporterOf statements (record { lines = record { held = held; told = told }; unsettled = unsettled; next = 1 })
      (empty_report statements)
  reporter-new held told unsettled none_held none_told none_left =
      let same : ◌≡◌ {A = Reporter} (record { lines = record { held = held; told = told }; unsettled = unsettled; next = 1 }) first_reporter
      = λ i. record { lines = record { held = none_held i; told = none_told i }; unsettled = none_left i; next = 1 } in
      subst (λ (reporter : Reporter). IsReporterOf statements reporter (empty_report statements)) (sym same) reporter-first

  -- ---- the end of a phase

  module _ (report : Report) (next : ℕ) (first : 1 ≤ next) (not_begun : is_phase_begun statements report.world.phase next ≡ false) where
    -- nothing is due of the requests whose phases are still to come
    none-due : (number : ℕ) → next ≤ number → number ≤ total → due statements report number ≡ None
    none-due number behind within =
        ap (λ (b : Bool). cond b (settled_fate statements report number) None)
        (not_begun-later statements report.world.phase next number first not_begun behind within)

    pub later-kept : (least : ℕ) (numbers : List ℕ) → next ≤ least → AreNumbersWithin least total numbers
        → (kept_of statements report numbers ≡ numbers) × (told_lines statements report numbers ≡ [])
    later-kept least [] behind within = (refl, refl)
    later-kept least (number ∷ later) behind within =
        let from : least ≤ number = within.0 in
        let none : due statements report number ≡ None = none-due number (omega (arith, behind, from)) within.1 in
        let rest = later-kept (suc number) later (omega (arith, behind, from)) within.2 in (
          ap (λ (fate : Option RequestFate). cond (not (is_some fate)) (number ∷ kept_of statements report later) (kept_of statements report later)) none
              ∙ ap (λ (numbers : List ℕ). number ∷ numbers) rest.0,
          ap (λ (fate : Option RequestFate). cons_option (option_map (Told number) fate) (told_lines statements report later)) none
              ∙ rest.1,
        )

  -- of the requests that are kept the lines are held as before
  held-kept : (report : Report) (before after : tree.FinMap nat_cmp HeldLine) (numbers : List ℕ)
      → ((number : ℕ) → due statements report number ≡ None → IsLineHeld report.replies before number → IsLineHeld report.replies after number)
      → AreLinesHeld report.replies before numbers → AreLinesHeld report.replies after (kept_of statements report numbers)
  held-kept report before after [] stay are = tt
  held-kept report before after (number ∷ later) stay are =
      by_fate (due statements report number) refl (held-kept report before after later stay are.1)
    where
      by_fate : (fate : Option RequestFate) → due statements report number ≡ fate
          → AreLinesHeld report.replies after (kept_of statements report later)
          → AreLinesHeld report.replies after
          (cond (not (is_some fate)) (number ∷ kept_of statements report later) (kept_of statements report later))
      by_fate None none rest = (stay number none are.0, rest)
      by_fate (Some fate) is rest = rest

  -- the reporter behind the end of a phase
  abbrev pub reporter_after_phase : Report → Lines → List ℕ → ℕ → Reporter
  reporter_after_phase report lines kept next = record {
    lines = record {
      held = lines.held;
      told = record lines.told { text = lines.told.text ++ report_text (map Listed (barrier_list statements report.world)) };
    };
    unsettled = kept;
    next = next;
  }

  pub reporter-phase : (report : Report) (before : Reporter) (lines : Lines) (kept : List ℕ) (next : ℕ)
      → IsReporterOf statements before report
      → settling_of lines kept
      ≡ fold (settling_after statements report.world) (settling_of before.lines []) (before.unsettled ++ range_with_len before.next (next - before.next))
      → before.next ≤ next → (before.next ≤ suc total → next ≤ suc total) → is_phase_begun statements report.world.phase next ≡ false
      → IsReporterOf statements (reporter_after_phase report lines kept next) (phase_told statements report)
  reporter-phase report before lines kept next has settles behind fits not_begun = record {
    count = suc total - next;
    first = omega (arith, has.first, behind);
    all = omega (arith, within_all);
    left =
        ap (kept_of statements report) split ∙ filter-append (λ req. not (is_some (due statements report req))) looked (range_with_len next (suc total - next))
        ∙ ap (λ (numbers : List ℕ). numbers ++ kept_of statements report (range_with_len next (suc total - next))) (sym settled.kept)
        ∙ ap (λ (numbers : List ℕ). kept ++ numbers) later.0;
    within = within-filter 1 total (λ req. not (is_some (due statements report req))) report.left has.within;
    told = told-lists lines.told (report.lines ++ told_lines statements report report.left) (barrier_list statements report.world)
        (settled.told ∙ ap (λ (more : List ReportLine). told_part_of (report.lines ++ more)) (sym all_told));
    held = held-kept report before.lines.held lines.held report.left settled.held has.held;
  }
    where
      within_all : next ≤ suc total
      within_all = fits (let all : before.next + has.count ≡ suc total = has.all in omega (arith, all))

      looked : List ℕ
      looked = before.unsettled ++ range_with_len before.next (next - before.next)

      split : report.left ≡ looked ++ range_with_len next (suc total - next)
      split =
          let here : before.next + (next - before.next) ≡ next = omega (arith, behind) in
          let all : before.next + has.count ≡ suc total = has.all in
          let count : (next - before.next) + (suc total - next) ≡ has.count = omega (arith, all, within_all, behind) in
          has.left
          ∙ ap (λ (n : ℕ). before.unsettled ++ range_with_len before.next n) (sym count)
          ∙ ap (λ (numbers : List ℕ). before.unsettled ++ numbers) (sym (range_with_len-append before.next (next - before.next) (suc total - next)))
          ∙ ap (λ (n : ℕ). before.unsettled ++ (range_with_len before.next (next - before.next) ++ range_with_len n (suc total - next))) here
          ∙ sym (append_assoc before.unsettled (range_with_len before.next (next - before.next)) (range_with_len next (suc total - next)))

      later : (kept_of statements report (range_with_len next (suc total - next)) ≡ range_with_len next (suc total - next))
          × (told_lines statements report (range_with_len next (suc total - next)) ≡ [])
      later = later-kept report next (omega (arith, has.first, behind)) not_begun next (range_with_len next (suc total - next)) (omega arith)
          (within-range next (suc total - next) total (omega (arith, within_all)))

      settled : AreSettled statements report report.lines (settling_of before.lines []) (settling_of lines kept) looked
      settled =
          subst (λ (after : Settling). AreSettled statements report report.lines (settling_of before.lines []) after looked) (sym settles)
          (settled-all statements report report.lines (settling_of before.lines []) 1 looked (omega arith)
          (within-front 1 total looked (range_with_len next (suc total - next)) (subst (AreNumbersWithin 1 total) split has.within))
          (held-front report.replies before.lines.held looked (range_with_len next (suc total - next))
          (subst (AreLinesHeld report.replies before.lines.held) split has.held))
          has.told)

      all_told : told_lines statements report report.left ≡ told_lines statements report looked
      all_told =
          ap (told_lines statements report) split
          ∙ filter_map-append (λ req. option_map (Told req) (due statements report req)) looked (range_with_len next (suc total - next))
          ∙ ap (λ (more : List ReportLine). told_lines statements report looked ++ more) later.1
          ∙ append-nil (told_lines statements report looked)

  -- the same by what the code does, in the world as it is read
  pub reporter-ends_phase : (report : Report) (before : Reporter) (world : World) (lines : Lines) (kept : List ℕ) (next : ℕ) (told : ToldPart)
      → report.world ≡ world → IsReporterOf statements before report
      → settling_of lines kept
      ≡ fold (settling_after statements world) (settling_of before.lines []) (before.unsettled ++ range_with_len before.next (next - before.next))
      → before.next ≤ next → (before.next ≤ suc total → next ≤ suc total) → is_phase_begun statements world.phase next ≡ false
      → told ≡ record lines.told { text = lines.told.text ++ report_text (map Listed (barrier_list statements world)) }
      → IsReporterOf statements (record { lines = record { held = lines.held; told = told }; unsettled = kept; next = next })
      (phase_told statements report)
  reporter-ends_phase report before world lines kept next told here has settles behind fits not_begun lists =
      subst (λ (told : ToldPart). IsReporterOf statements
      (record { lines = record { held = lines.held; told = told }; unsettled = kept; next = next }) (phase_told statements report))
      (sym (lists ∙ ap (λ (world : World). record lines.told {
        text = lines.told.text ++ report_text (map Listed (barrier_list statements world));
      }) (sym here)))
      (reporter-phase report before lines kept next has
      (settles ∙ ap (λ (world : World). fold (settling_after statements world) (settling_of before.lines [])
      (before.unsettled ++ range_with_len before.next (next - before.next))) (sym here))
      behind fits (ap (λ (world : World). is_phase_begun statements world.phase next) here ∙ not_begun))

  -- ---- an event

  -- the replies of an event that was made
  pub reporter-made : (report : Report) (before : Reporter) (held : tree.FinMap nat_cmp HeldLine) (made : EventOutcome)
      → IsReporterOf statements before report → held ≡ fold held_with before.lines.held made.world.outputs.replies
      → IsReporterOf statements (record before { lines = record before.lines { held = held } }) (report_with_made (Some made) report)
  reporter-made report before held made has is = record {
    count = has.count;
    first = has.first;
    all = has.all;
    left = has.left;
    within = has.within;
    told = has.told;
    held = subst (λ (held : tree.FinMap nat_cmp HeldLine). AreLinesHeld (fold replies_with report.replies made.world.outputs.replies) held report.left)
        (sym is) (held-replies made.world.outputs.replies report.replies before.lines.held report.left has.held);
  }

  -- what is told before an event stands in the same world
  before-world : (report : Report) (event : Event) → (report_before_event statements event report).world ≡ report.world
  before-world report event = by_phase (is_phase event)
    where
      by_phase : (b : Bool) → (cond b (phase_told statements report) report).world ≡ report.world
      by_phase true = refl
      by_phase false = refl

  pub after-made : (report : Report) (event : Event) (world : World) (made : EventOutcome) → report.world ≡ world
      → step statements event world ≡ Some made
      → report_after statements report event ≡ report_with_made (Some made) (report_before_event statements event report)
  after-made report event world made here is =
      ap (λ (found : Option EventOutcome). report_with_made found (report_before_event statements event report))
      (ap (step statements event) here ∙ is)

  -- an event that may not happen ends a phase of the report, and the world stays
  pub after-none : (report : Report) (event : Event) (world : World) → report.world ≡ world → step statements event world ≡ None
      → (report_after statements report event ≡ report_before_event statements event report)
      × ((report_before_event statements event report).world ≡ world)
  after-none report event world here is = (
    ap (λ (found : Option EventOutcome). report_with_made found (report_before_event statements event report))
        (ap (step statements event) here ∙ is),
    before-world report event ∙ here,
  )

  -- an event was made, and then its replies are held
  pub event-made : (report : Report) (event : Event) (world after : World) (grown : List HistEvent) (middle new : Reporter) → report.world ≡ world
      → step statements event world ≡ Some (record { world = after; grown = grown })
      → IsReporterOf statements middle (report_before_event statements event report)
      → ((report : Report) (made : EventOutcome) → made.world ≡ after → IsReporterOf statements middle report
      → IsReporterOf statements new (report_with_made (Some made) report))
      → ((report_after statements report event).world ≡ after) × IsReporterOf statements new (report_after statements report event)
  event-made report event world after grown middle new here steps has on =
      let made : EventOutcome = record { world = after; grown = grown } in
      let is : report_after statements report event ≡ report_with_made (Some made) (report_before_event statements event report)
      = after-made report event world made here steps in (
        ap (λ (report : Report). report.world) is,
        subst (λ (report : Report). IsReporterOf statements new report) (sym is)
            (on (report_before_event statements event report) made refl has),
      )

  -- an event that may not happen makes nothing
  pub event-none : (report : Report) (event : Event) (world after : World) (new : Reporter) → report.world ≡ world
      → is_enabled statements world event ≡ false → after ≡ world
      → IsReporterOf statements new (report_before_event statements event report)
      → ((report_after statements report event).world ≡ after) × IsReporterOf statements new (report_after statements report event)
  event-none report event world after new here off same has =
      let none : step statements event world ≡ None
      = by_step (step statements event world) (is_some-step statements world event ∙ off) in
      let is = after-none report event world here none in (
        ap (λ (report : Report). report.world) is.0 ∙ is.1 ∙ sym same,
        subst (λ (report : Report). IsReporterOf statements new report) (sym is.0) has,
      )
    where
      by_step : (found : Option EventOutcome) → is_some found ≡ false → found ≡ None
      by_step None none = refl
      by_step (Some made) none = absurd (false≢true (sym none))

  -- ---- the end of the run

  pub reporter-last : (report : Report) (reporter : Reporter) (middle last : Lines) → IsReporterOf statements reporter report
      → middle ≡ fold (lines_with_last statements report.world) reporter.lines reporter.unsettled
      → last ≡ fold (lines_with_last statements report.world) middle (range_with_len reporter.next (suc total - reporter.next))
      → last.told ≡ told_part_of (finished_report statements report)
  reporter-last report reporter middle last has first second =
      let all : reporter.next + has.count ≡ suc total = has.all in
      let count : suc total - reporter.next ≡ has.count = omega (arith, all) in
      let both : last ≡ fold (lines_with_last statements report.world) reporter.lines report.left
      = second
      ∙ ap (λ (n : ℕ). fold (lines_with_last statements report.world) middle (range_with_len reporter.next n)) count
      ∙ ap (λ (lines : Lines). fold (lines_with_last statements report.world) lines (range_with_len reporter.next has.count)) first
      ∙ sym (fold-append (lines_with_last statements report.world) reporter.lines reporter.unsettled (range_with_len reporter.next has.count))
      ∙ ap (fold (lines_with_last statements report.world) reporter.lines) (sym has.left) in
      ap (λ (lines : Lines). lines.told) both
      ∙ told-all statements report report.lines reporter.lines 1 report.left has.within has.held has.told

  -- the same by what the code does, in the world as it is read
  pub reporter-finishes : (report : Report) (reporter : Reporter) (world : World) (middle last : Lines) → report.world ≡ world
      → IsReporterOf statements reporter report → middle ≡ fold (lines_with_last statements world) reporter.lines reporter.unsettled
      → (1 ≤ reporter.next
      → last ≡ fold (lines_with_last statements world) middle (range_with_len reporter.next (suc total - reporter.next)))
      → last.told ≡ told_part_of (finished_report statements report)
  reporter-finishes report reporter world middle last here has first second =
      reporter-last report reporter middle last has
      (first ∙ ap (λ (world : World). fold (lines_with_last statements world) reporter.lines reporter.unsettled) (sym here))
      (second has.first ∙ ap (λ (world : World). fold (lines_with_last statements world) middle
      (range_with_len reporter.next (suc total - reporter.next))) (sym here))

  -- ---- the events of a run, one after another

  -- the report of so many events
  abbrev pub report_of_first : List Event → ℕ → Report
  report_of_first events count = fold (report_after statements) (empty_report statements) (take count events)

  -- one event more
  pub report-more : (events : List Event) (count : ℕ) (event : Event) → count < length events
      → report_of_first events (count + 1) ≡ report_after statements (report_of_first events count) (get_or events count event)
  report-more events count event within =
      ap (fold (report_after statements) (empty_report statements)) (take_more events count event within)
      ∙ fold-append (report_after statements) (empty_report statements) (take count events) (get_or events count event ∷ [])

  -- behind the last event it is the whole report
  pub report-ends : (events : List Event) (count : ℕ) → length events ≤ count
      → finished_report statements (report_of_first events count) ≡ report_of statements events
  unfolding report_of
  report-ends events count past =
      ap (λ (events : List Event). finished_report statements (fold (report_after statements) (empty_report statements) events))
      (take_all count events past)
