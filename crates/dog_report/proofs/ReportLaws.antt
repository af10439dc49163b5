-- Each request has exactly one line.
use Rattle.std.proofs.Common.{◌≡◌, ℕ, Bool, true, false, not, cond, List, [], ◌∷◌, ◌++◌, length, map, filter, fold, Option, Some, None, is_some, refl, sym, ap, subst, ◌∙◌}
use Rattle.std.specs.List.{filter_map, cons_option, range_with_len}
use Rattle.std.specs.List.Sorted.{IsPermutation}
use Rattle.std.specs.Option.{option_map}
use Rattle.std.proofs.lemmas.List.{append_assoc, append-nil}
use Rattle.std.proofs.lemmas.List.Elements.{filter_map-append}
use Rattle.std.proofs.lemmas.List.Sorted.{IsPermutation-refl, IsPermutation-trans, IsPermutation-append_right, IsPermutation-filter_both}
use Rattle.cluster_script.specs.declared.statement.Statement.{Statement}
use Rattle.cluster_script.specs.Statements.{requests_of}
use Rattle.sheep_node.specs.declared.event.Event.{Event}
use Rattle.sheep_world.specs.Step.{EventOutcome, step}
use Rattle.dog_report.specs.Words.{Words}
use Rattle.dog_report.specs.Fates.{RequestFate, ReportLine, Told, Listed, numbers_told}
use Rattle.dog_report.specs.Report.{Report, empty_report, fate_due, barrier_list, phase_told, is_phase, report_with_made, report_before_event, report_after, last_fate, finished_report, report_of}

none_listed : (lists : List Words) → numbers_told (map Listed lists) ≡ []
none_listed [] = refl
none_listed (words ∷ lists) = none_listed lists

all_told : (fate : ℕ → RequestFate) (reqs : List ℕ) → numbers_told (map (λ req. Told req (fate req)) reqs) ≡ reqs
all_told fate [] = refl
all_told fate (req ∷ reqs) = ap (λ (rest : List ℕ). req ∷ rest) (all_told fate reqs)

-- the requests of which something is due are told of
due_told : (due : ℕ → Option RequestFate) (reqs : List ℕ)
    → numbers_told (filter_map (λ req. option_map (Told req) (due req)) reqs) ≡ filter (λ req. is_some (due req)) reqs
due_told due [] = refl
due_told due (req ∷ reqs) = by_due (due req) (due_told due reqs)
  where
    by_due : (found : Option RequestFate)
        → numbers_told (filter_map (λ req. option_map (Told req) (due req)) reqs) ≡ filter (λ req. is_some (due req)) reqs
        → numbers_told (cons_option (option_map (Told req) found) (filter_map (λ req. option_map (Told req) (due req)) reqs))
        ≡ cond (is_some found) (req ∷ filter (λ req. is_some (due req)) reqs) (filter (λ req. is_some (due req)) reqs)
    by_due None e = e
    by_due (Some fate) e = ap (λ (rest : List ℕ). req ∷ rest) e

module _ (statements : List Statement) where
  abbrev every : List ℕ
  every = range_with_len 1 (length (requests_of statements))

  abbrev Keeps : Report → Type 0
  Keeps report = IsPermutation every (numbers_told report.lines ++ report.left)

  phase-keeps : (report : Report) → Keeps report → Keeps (phase_told statements report)
  phase-keeps report h =
      let due : ℕ → Option RequestFate = fate_due statements report in
      let told : List ReportLine = filter_map (λ req. option_map (Told req) (due req)) report.left in
      let listed : List ReportLine = map Listed (barrier_list statements report.world) in
      let now : List ℕ = filter (λ req. is_some (due req)) report.left in
      let later : List ℕ = filter (λ req. not (is_some (due req))) report.left in
      let numbers : numbers_told (report.lines ++ told ++ listed) ≡ numbers_told report.lines ++ now =
      filter_map-append _ (report.lines ++ told) listed
      ∙ ap (λ (more : List ℕ). numbers_told (report.lines ++ told) ++ more) (none_listed (barrier_list statements report.world))
      ∙ append-nil (numbers_told (report.lines ++ told))
      ∙ filter_map-append _ report.lines told
      ∙ ap (λ (more : List ℕ). numbers_told report.lines ++ more) (due_told due report.left) in
      subst (IsPermutation every)
      (sym (ap (λ (told : List ℕ). told ++ later) numbers ∙ append_assoc (numbers_told report.lines) now later))
      (IsPermutation-trans every (numbers_told report.lines ++ report.left) (numbers_told report.lines ++ (now ++ later)) h
      (IsPermutation-append_right (numbers_told report.lines) report.left (now ++ later)
      (IsPermutation-filter_both (λ req. is_some (due req)) (λ req. not (is_some (due req))) (λ req. refl) report.left)))

  before-keeps : (report : Report) (phase : Bool) → Keeps report → Keeps (cond phase (phase_told statements report) report)
  before-keeps report true h = phase-keeps report h
  before-keeps report false h = h

  on-keeps : (made : Option EventOutcome) (report : Report) → Keeps report → Keeps (report_with_made made report)
  on-keeps None report h = h
  on-keeps (Some made) report h = h

  event-keeps : (report : Report) (event : Event) → Keeps report → Keeps (report_after statements report event)
  event-keeps report event h =
      on-keeps (step statements event report.world) (report_before_event statements event report) (before-keeps report (is_phase event) h)

  run-keeps : (events : List Event) (report : Report) → Keeps report → Keeps (fold (report_after statements) report events)
  run-keeps [] report h = h
  run-keeps (event ∷ events) report h = run-keeps events (report_after statements report event) (event-keeps report event h)

  all-in : (report : Report) → Keeps report → IsPermutation every (numbers_told (finished_report statements report))
  all-in report h =
      subst (IsPermutation every)
      (sym (filter_map-append _ report.lines (map (λ req. Told req (last_fate statements report req)) report.left)
      ∙ ap (λ (more : List ℕ). numbers_told report.lines ++ more) (all_told (last_fate statements report) report.left)))
      h

  pub one-line-each : (events : List Event) → IsPermutation every (numbers_told (report_of statements events))
  unfolding report_of
  one-line-each events =
      all-in (fold (report_after statements) (empty_report statements) events) (run-keeps events (empty_report statements) (IsPermutation-refl every))
