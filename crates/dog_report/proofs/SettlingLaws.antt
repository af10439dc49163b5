-- Requests that are gone through one after another get the lines that a report has of them.
use Rattle.std.proofs.Common.{◌≡◌, ◌≢◌, ℕ, suc, ◌≤◌, ◌==◌, nat_le, Bool, true, false, not, cond, List, [], ◌∷◌, ◌++◌, length, map, filter, fold}
use Rattle.std.proofs.Common.{Option, Some, None, is_some, refl, sym, ap, subst, ◌∙◌, arith}
use Rattle.std.specs.Prelude.{unwrap_or}
use Rattle.std.specs.List.{filter_map, cons_option}
use Rattle.std.specs.Option.{option_map}
use Rattle.std.specs.Ordering.{nat_cmp}
use Rattle.std.specs.FinMap as tree
use Rattle.std.proofs.lemmas.Bool.{eqb-true, eqb-false, false≢true}
use Rattle.std.proofs.lemmas.List.{append_assoc, append-nil}
use Rattle.proof_tools.proofs.FiniteMaps.{get-remove_same, get-remove_other}
use Rattle.cluster_script.specs.declared.statement.Statement.{Statement}
use Rattle.cluster_script.specs.Statements.{requests_of}
use Rattle.cluster_script.specs.Phases.{phase_of_request}
use Rattle.peer_proto.specs.declared.guest.GuestRsp.{GuestRsp}
use Rattle.dog_report.specs.declared.held_line.HeldLine.{HeldLine}
use Rattle.dog_report.specs.declared.settling.Lines.{Lines}
use Rattle.dog_report.specs.Fates.{RequestFate, Pending, Unsent, ReportLine, Told}
use Rattle.dog_report.specs.Report.{Report, is_lost_request, is_begun, fate_settled_by, fate_due, last_fate}
use Rattle.dog_report.specs.ToldPart.{ToldPart, told_part_of, told_with, held_line}
use Rattle.dog_report.specs.Settling.{Settling, kept_with, settled_by, settling_after}
use Rattle.dog_report.specs.Settling.{told_last, lines_with_last}
use Rattle.dog_report.specs.Reporter.{AreNumbersWithin, IsLineHeld, AreLinesHeld}
use Rattle.dog_report.proofs.ToldLaws.{told-with, told-held}
use Rattle.dog_report.proofs.RequestLaws.{phase_begun-is}

-- ---- numbers that ascend

pub within-weaker : (least lower most : ℕ) (numbers : List ℕ) → lower ≤ least → AreNumbersWithin least most numbers → AreNumbersWithin lower most numbers
within-weaker least lower most [] below are = tt
within-weaker least lower most (number ∷ later) below are =
    (let from : least ≤ number = are.0 in omega (arith, below, from), are.1, are.2)

pub within-filter : (least most : ℕ) (p : ℕ → Bool) (numbers : List ℕ) → AreNumbersWithin least most numbers → AreNumbersWithin least most (filter p numbers)
within-filter least most p [] are = tt
within-filter least most p (number ∷ later) are = go (p number) (within-filter (suc number) most p later are.2)
  where
    go : (b : Bool) → AreNumbersWithin (suc number) most (filter p later) → AreNumbersWithin least most (cond b (number ∷ filter p later) (filter p later))
    go true rest = (are.0, are.1, rest)
    go false rest =
        let from : least ≤ number = are.0 in
        within-weaker (suc number) least most (filter p later) (omega (arith, from)) rest

pub within-back : (least most : ℕ) (numbers later : List ℕ) → AreNumbersWithin least most (numbers ++ later) → AreNumbersWithin least most later
within-back least most [] later are = are
within-back least most (number ∷ numbers) later are =
    let from : least ≤ number = are.0 in
    within-weaker (suc number) least most later (omega (arith, from)) (within-back (suc number) most numbers later are.2)

pub within-front : (least most : ℕ) (numbers later : List ℕ) → AreNumbersWithin least most (numbers ++ later) → AreNumbersWithin least most numbers
within-front least most [] later are = tt
within-front least most (number ∷ numbers) later are = (are.0, are.1, within-front (suc number) most numbers later are.2)

-- ---- lines that are held

module _ (replies : tree.FinMap nat_cmp GuestRsp) where
  pub held-front : (held : tree.FinMap nat_cmp HeldLine) (numbers later : List ℕ) → AreLinesHeld replies held (numbers ++ later)
      → AreLinesHeld replies held numbers
  held-front held [] later are = tt
  held-front held (number ∷ numbers) later are = (are.0, held-front held numbers later are.1)

  pub held-back : (held : tree.FinMap nat_cmp HeldLine) (numbers later : List ℕ) → AreLinesHeld replies held (numbers ++ later)
      → AreLinesHeld replies held later
  held-back held [] later are = are
  held-back held (number ∷ numbers) later are = held-back held numbers later are.1

  -- a request's line is taken: that of another one is held as before
  held-apart : (held : tree.FinMap nat_cmp HeldLine) (taken number : ℕ) → number ≢ taken → IsLineHeld replies held number
      → IsLineHeld replies (tree.remove held taken) number
  held-apart held taken number apart is = get-remove_other held taken number apart ∙ is

  -- of a request without reply no line is held
  held-none : (held : tree.FinMap nat_cmp HeldLine) (number : ℕ) → tree.get replies number ≡ None → IsLineHeld replies (tree.remove held number) number
  held-none held number none = get-remove_same held number ∙ sym (ap (option_map (held_line number)) none)

  -- the lines of later requests are held as before
  held-later : (held : tree.FinMap nat_cmp HeldLine) (taken most : ℕ) (numbers : List ℕ) → AreNumbersWithin (suc taken) most numbers
      → AreLinesHeld replies held numbers → AreLinesHeld replies (tree.remove held taken) numbers
  held-later held taken most numbers within are = go taken numbers (omega arith) within are
    where
      go : (least : ℕ) (numbers : List ℕ) → taken ≤ least → AreNumbersWithin (suc least) most numbers → AreLinesHeld replies held numbers
          → AreLinesHeld replies (tree.remove held taken) numbers
      go least [] above within are = tt
      go least (number ∷ later) above within are = (
        (let from : suc least ≤ number = within.0 in held-apart held taken number (λ same. omega (arith, above, from, same)) are.0),
        (let from : suc least ≤ number = within.0 in go number later (omega (arith, above, from)) within.2 are.1),
      )

module _ (statements : List Statement) (report : Report) where
  abbrev pub due : ℕ → Option RequestFate
  due number = fate_due statements report number

  abbrev pub told_lines : List ℕ → List ReportLine
  told_lines numbers = filter_map (λ req. option_map (Told req) (due req)) numbers

  abbrev pub kept_of : List ℕ → List ℕ
  kept_of numbers = filter (λ req. not (is_some (due req))) numbers

  -- ---- the end of a phase

  -- a request more is told of, if something is settled of it
  abbrev pub told_if : ToldPart → ℕ → Option RequestFate → ToldPart
  told_if told number None = told
  told_if told number (Some fate) = told_with told number fate

  -- and else it is kept
  abbrev pub kept_if : List ℕ → ℕ → Option RequestFate → List ℕ
  kept_if kept number None = kept ++ number ∷ []
  kept_if kept number (Some fate) = kept

  -- what a request is told as, once its phase has begun
  abbrev fate_if : Bool → Option GuestRsp → Bool → Option RequestFate
  fate_if begun reply lost = cond begun (fate_settled_by reply lost) None

  -- the settling of a request, by what is known of it
  abbrev settled_if : Settling → ℕ → Bool → Option HeldLine → Bool → Settling
  settled_if settling number begun found lost = cond begun (settled_by settling number found lost) (kept_with settling number)

  told-is : (settling : Settling) (number : ℕ) (begun : Bool) (reply : Option GuestRsp) (lost : Bool)
      → (settled_if settling number begun (option_map (held_line number) reply) lost).lines.told
      ≡ told_if settling.lines.told number (fate_if begun reply lost)
  told-is settling number false reply lost = refl
  told-is settling number true (Some rsp) lost = told-held settling.lines.told number rsp
  told-is settling number true None true = refl
  told-is settling number true None false = refl

  kept-is : (settling : Settling) (number : ℕ) (begun : Bool) (reply : Option GuestRsp) (lost : Bool)
      → (settled_if settling number begun (option_map (held_line number) reply) lost).kept
      ≡ kept_if settling.kept number (fate_if begun reply lost)
  kept-is settling number false reply lost = refl
  kept-is settling number true (Some rsp) lost = refl
  kept-is settling number true None true = refl
  kept-is settling number true None false = refl

  held-is : (settling : Settling) (number : ℕ) (begun : Bool) (reply : Option GuestRsp) (lost : Bool)
      → (settled_if settling number begun (option_map (held_line number) reply) lost).lines.held
      ≡ cond begun (tree.remove settling.lines.held number) settling.lines.held
  held-is settling number false reply lost = refl
  held-is settling number true (Some rsp) lost = refl
  held-is settling number true None lost = refl

  -- a request that isn't due and whose phase has begun has no reply
  no-reply : (begun : Bool) (reply : Option GuestRsp) (lost : Bool) → begun ≡ true → fate_if begun reply lost ≡ None → reply ≡ None
  no-reply false reply lost has none = absurd (false≢true has)
  no-reply true None lost has none = refl
  no-reply true (Some rsp) lost has none = absurd (cc (none))

  -- a request is gone through
  pub record IsStep (settling after : Settling) (number : ℕ) : Type 0 where
    pub told : after.lines.told ≡ told_if settling.lines.told number (due number)
    pub kept : after.kept ≡ kept_if settling.kept number (due number)
    -- what is held is held as before of another request, and of this one, if it isn't due
    pub others : (other : ℕ) → other ≢ number → IsLineHeld report.replies settling.lines.held other → IsLineHeld report.replies after.lines.held other
    pub own : due number ≡ None → IsLineHeld report.replies settling.lines.held number → IsLineHeld report.replies after.lines.held number
    pub behind : (most : ℕ) (later : List ℕ) → AreNumbersWithin (suc number) most later → AreLinesHeld report.replies settling.lines.held later
        → AreLinesHeld report.replies after.lines.held later

  pub one-step : (settling : Settling) (number : ℕ) → 1 ≤ number → number ≤ length (requests_of statements)
      → IsLineHeld report.replies settling.lines.held number
      → IsStep settling (settling_after statements report.world settling number) number
  one-step settling number from within held = record {
    told = ap (λ (settling : Settling). settling.lines.told) is ∙ told-is settling number begun reply lost;
    kept = ap (λ (settling : Settling). settling.kept) is ∙ kept-is settling number begun reply lost;
    others = λ other apart before. subst (λ (held : tree.FinMap nat_cmp HeldLine). IsLineHeld report.replies held other) (sym now)
        (other_held begun other apart before);
    own = λ none before. subst (λ (held : tree.FinMap nat_cmp HeldLine). IsLineHeld report.replies held number) (sym now)
        (own_held begun refl none before);
    behind = λ most later are before. subst (λ (held : tree.FinMap nat_cmp HeldLine). AreLinesHeld report.replies held later) (sym now)
        (later_held begun most later are before);
  }
    where
      begun : Bool
      begun = nat_le (phase_of_request statements number) report.world.phase

      reply : Option GuestRsp
      reply = tree.get report.replies number

      lost : Bool
      lost = is_lost_request statements number report.world

      is : settling_after statements report.world settling number
          ≡ settled_if settling number begun (option_map (held_line number) reply) lost
      is = ap (λ (b : Bool). settled_if settling number b (tree.get settling.lines.held number) lost)
          (phase_begun-is statements report.world.phase number from within)
          ∙ ap (λ (found : Option HeldLine). settled_if settling number begun found lost) held

      now : (settling_after statements report.world settling number).lines.held
          ≡ cond begun (tree.remove settling.lines.held number) settling.lines.held
      now = ap (λ (settling : Settling). settling.lines.held) is ∙ held-is settling number begun reply lost

      other_held : (b : Bool) (other : ℕ) → other ≢ number → IsLineHeld report.replies settling.lines.held other
          → IsLineHeld report.replies (cond b (tree.remove settling.lines.held number) settling.lines.held) other
      other_held true other apart before = held-apart report.replies settling.lines.held number other apart before
      other_held false other apart before = before

      own_held : (b : Bool) → begun ≡ b → fate_if begun reply lost ≡ None → IsLineHeld report.replies settling.lines.held number
          → IsLineHeld report.replies (cond b (tree.remove settling.lines.held number) settling.lines.held) number
      own_held true has none before = held-none report.replies settling.lines.held number (no-reply begun reply lost has none)
      own_held false has none before = before

      later_held : (b : Bool) (most : ℕ) (later : List ℕ) → AreNumbersWithin (suc number) most later
          → AreLinesHeld report.replies settling.lines.held later
          → AreLinesHeld report.replies (cond b (tree.remove settling.lines.held number) settling.lines.held) later
      later_held true most later are before = held-later report.replies settling.lines.held number most later are before
      later_held false most later are before = before

  -- requests are gone through, behind these lines
  pub record AreSettled (lines : List ReportLine) (before after : Settling) (numbers : List ℕ) : Type 0 where
    pub told : after.lines.told ≡ told_part_of (lines ++ told_lines numbers)
    pub kept : after.kept ≡ before.kept ++ kept_of numbers
    pub held : (number : ℕ) → due number ≡ None → IsLineHeld report.replies before.lines.held number
        → IsLineHeld report.replies after.lines.held number

  -- one request more has its line behind others
  lines-on : (lines rest : List ReportLine) (told after : ToldPart) (number : ℕ) (fate : Option RequestFate) → told ≡ told_part_of lines
      → ((lines : List ReportLine) → told_if told number fate ≡ told_part_of lines → after ≡ told_part_of (lines ++ rest))
      → after ≡ told_part_of (lines ++ cons_option (option_map (Told number) fate) rest)
  lines-on lines rest told after number None is later = later lines is
  lines-on lines rest told after number (Some fate) is later =
      later (lines ++ Told number fate ∷ []) (told-with told lines number fate is)
      ∙ ap told_part_of (append_assoc lines (Told number fate ∷ []) rest)

  kept-on : (kept rest : List ℕ) (number : ℕ) (fate : Option RequestFate)
      → kept_if kept number fate ++ rest ≡ kept ++ cond (not (is_some fate)) (number ∷ rest) rest
  kept-on kept rest number None = append_assoc kept (number ∷ []) rest
  kept-on kept rest number (Some fate) = refl

  -- one request is gone through, and then the later ones
  settled-cons : (lines : List ReportLine) (settling next last : Settling) (number : ℕ) (later : List ℕ) → IsStep settling next number
      → settling.lines.told ≡ told_part_of lines
      → ((lines : List ReportLine) → next.lines.told ≡ told_part_of lines → AreSettled lines next last later)
      → AreSettled lines settling last (number ∷ later)
  settled-cons lines settling next last number later stepped told rest = record {
    told = lines-on lines (told_lines later) settling.lines.told last.lines.told number (due number) told
        (λ lines is. (rest lines (stepped.told ∙ is)).told);
    kept = (rest (lines_of (due number)) (stepped.told ∙ lines_is (due number))).kept
        ∙ ap (λ (kept : List ℕ). kept ++ kept_of later) stepped.kept ∙ kept-on settling.kept (kept_of later) number (due number);
    held = λ other none before. (rest (lines_of (due number)) (stepped.told ∙ lines_is (due number))).held other none
        (step_held other (other == number) refl none before);
  }
    where
      lines_of : Option RequestFate → List ReportLine
      lines_of None = lines
      lines_of (Some fate) = lines ++ Told number fate ∷ []

      lines_is : (fate : Option RequestFate) → told_if settling.lines.told number fate ≡ told_part_of (lines_of fate)
      lines_is None = told
      lines_is (Some fate) = told-with settling.lines.told lines number fate told

      step_held : (other : ℕ) (b : Bool) → (other == number) ≡ b → due other ≡ None → IsLineHeld report.replies settling.lines.held other
          → IsLineHeld report.replies next.lines.held other
      step_held other true same none before =
          let is : other ≡ number = eqb-true other number same in
          subst (λ (n : ℕ). IsLineHeld report.replies next.lines.held n) (sym is)
          (stepped.own (ap due (sym is) ∙ none) (subst (λ (n : ℕ). IsLineHeld report.replies settling.lines.held n) is before))
      step_held other false apart none before = stepped.others other (eqb-false other number apart) before

  pub settled-all : (lines : List ReportLine) (settling : Settling) (least : ℕ) (numbers : List ℕ) → 1 ≤ least
      → AreNumbersWithin least (length (requests_of statements)) numbers
      → AreLinesHeld report.replies settling.lines.held numbers → settling.lines.told ≡ told_part_of lines
      → AreSettled lines settling (fold (settling_after statements report.world) settling numbers) numbers
  settled-all lines settling least [] first within held told = record {
    told = told ∙ ap told_part_of (sym (append-nil lines));
    kept = sym (append-nil settling.kept);
    held = λ number none before. before;
  }
  settled-all lines settling least (number ∷ later) first within held told =
      let from : least ≤ number = within.0 in
      let next : Settling = settling_after statements report.world settling number in
      let stepped : IsStep settling next number = one-step settling number (omega (arith, first, from)) within.1 held.0 in
      settled-cons lines settling next (fold (settling_after statements report.world) next later) number later stepped told
      (λ lines is. settled-all lines next (suc number) later (omega arith) within.2
      (stepped.behind (length (requests_of statements)) later within.2 held.1) is)

  -- ---- the end of the run

  abbrev pub last_lines : List ℕ → List ReportLine
  last_lines numbers = map (λ req. Told req (last_fate statements report req)) numbers

  -- what became of a request in the end, by what is known of it
  abbrev last_by : Option GuestRsp → Bool → Bool → RequestFate
  last_by reply lost begun = unwrap_or (fate_settled_by reply lost) (cond begun Pending Unsent)

  last-is : (told : ToldPart) (number : ℕ) (reply : Option GuestRsp) (lost begun : Bool)
      → told_last told number (option_map (held_line number) reply) lost begun ≡ told_with told number (last_by reply lost begun)
  last-is told number (Some rsp) lost begun = told-held told number rsp
  last-is told number None true begun = refl
  last-is told number None false true = refl
  last-is told number None false false = refl

  last-step : (lines : Lines) (number : ℕ) → IsLineHeld report.replies lines.held number
      → (lines_with_last statements report.world lines number).told ≡ told_with lines.told number (last_fate statements report number)
  last-step lines number held =
      ap (λ (found : Option HeldLine). told_last lines.told number found (is_lost_request statements number report.world)
      (is_begun statements number report.world)) held
      ∙ last-is lines.told number (tree.get report.replies number) (is_lost_request statements number report.world)
      (is_begun statements number report.world)

  -- each request is told of as it ended
  pub told-all : (so_far : List ReportLine) (lines : Lines) (least : ℕ) (numbers : List ℕ)
      → AreNumbersWithin least (length (requests_of statements)) numbers
      → AreLinesHeld report.replies lines.held numbers → lines.told ≡ told_part_of so_far
      → (fold (lines_with_last statements report.world) lines numbers).told ≡ told_part_of (so_far ++ last_lines numbers)
  told-all so_far lines least [] within held told = told ∙ ap told_part_of (sym (append-nil so_far))
  told-all so_far lines least (number ∷ later) within held told =
      let fate : RequestFate = last_fate statements report number in
      told-all (so_far ++ Told number fate ∷ []) (lines_with_last statements report.world lines number) (suc number) later within.2
      (held-later report.replies lines.held number (length (requests_of statements)) later within.2 held.1)
      (last-step lines number held.0 ∙ told-with lines.told so_far number fate told)
      ∙ ap told_part_of (append_assoc so_far (Told number fate ∷ []) (last_lines later))
