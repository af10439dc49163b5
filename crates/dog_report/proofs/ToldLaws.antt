-- The part of a report that is told goes on as the report's lines do.
use Rattle.std.proofs.Common.{◌≡◌, ℕ, ◌+◌, Bool, true, false, cond, List, [], ◌∷◌, ◌++◌, map, refl, sym, ap, ◌∙◌, arith}
use Rattle.std.proofs.lemmas.List.{append-nil}
use Rattle.std.proofs.lemmas.List.Concat.{flat_map-append}
use Rattle.std.proofs.lemmas.List.Sums.{sum_by-cons, sum_by-append}
use Rattle.std.specs.Prelude.{codes}
use Rattle.peer_proto.specs.declared.guest.GuestRsp.{GuestRsp}
use Rattle.peer_proto.specs.declared.guest.GuestRsp.TheVariants.{Done, Piece, Refused, Granted, Checked}
use Rattle.dog_report.specs.declared.counts.Counts.{Counts}
use Rattle.dog_report.specs.Words.{Words, spaced_words}
use Rattle.dog_report.specs.Fates.{RequestFate, Answered, Gone, Pending, Unsent, ReportLine, Told, Listed, line_words}
use Rattle.dog_report.specs.Counts.{tells, count_of, is_ok, is_refused, is_gone_fate, is_pending, is_unsent}
use Rattle.dog_report.specs.Report.{report_text}
use Rattle.dog_report.specs.ToldPart.{ToldPart, counts_of, told_part_of, counts_with, fate_line, told_with, held_line, told_with_held}

-- the text of a line, with its end
abbrev text_of_line : ReportLine → List ℕ
text_of_line line = spaced_words (line_words line) ++ codes "\n"

pub report_text-append : (lines later : List ReportLine) → report_text (lines ++ later) ≡ report_text lines ++ report_text later
report_text-append lines later = flat_map-append text_of_line lines later

-- counts that are the same, one by one
counts-same : (a b : Counts) → a.ok ≡ b.ok → a.refused ≡ b.refused → a.gone ≡ b.gone → a.pending ≡ b.pending → a.unsent ≡ b.unsent → a ≡ b
counts-same a b ok refused gone pending unsent =
    λ i. record { ok = ok i; refused = refused i; gone = gone i; pending = pending i; unsent = unsent i }

-- what a line counts for in a way
abbrev worth : (RequestFate → Bool) → ReportLine → ℕ
worth way line = cond (tells way line) 1 0

module _ (lines : List ReportLine) (number : ℕ) (fate : RequestFate) where
  abbrev longer : List ReportLine
  longer = lines ++ Told number fate ∷ []

  count-end : (way : RequestFate → Bool) → count_of way longer ≡ count_of way lines + cond (way fate) 1 0
  count-end way =
      let last : cond (way fate) 1 0 + 0 ≡ cond (way fate) 1 0 = omega arith in
      sum_by-append (worth way) lines (Told number fate ∷ [])
      ∙ ap (λ (n : ℕ). count_of way lines + n) (sum_by-cons (worth way) (Told number fate) [] ∙ last)

  stays : (way : RequestFate → Bool) → way fate ≡ false → count_of way longer ≡ count_of way lines
  stays way off =
      let same : count_of way lines + 0 ≡ count_of way lines = omega arith in
      count-end way ∙ ap (λ (b : Bool). count_of way lines + cond b 1 0) off ∙ same

  grows : (way : RequestFate → Bool) → way fate ≡ true → count_of way longer ≡ count_of way lines + 1
  grows way passes = count-end way ∙ ap (λ (b : Bool). count_of way lines + cond b 1 0) passes

  text-end : report_text longer ≡ report_text lines ++ fate_line number fate
  text-end =
      report_text-append lines (Told number fate ∷ [])
      ∙ ap (λ (later : List ℕ). report_text lines ++ later) (append-nil (fate_line number fate))

counts-end : (lines : List ReportLine) (number : ℕ) (fate : RequestFate)
    → counts_of (lines ++ Told number fate ∷ []) ≡ counts_with (counts_of lines) fate
counts-end lines number (Answered Done) =
    let fate : RequestFate = Answered Done in
    counts-same (counts_of (lines ++ Told number fate ∷ [])) (counts_with (counts_of lines) fate)
    (grows lines number fate is_ok refl) (stays lines number fate is_refused refl) (stays lines number fate is_gone_fate refl)
    (stays lines number fate is_pending refl) (stays lines number fate is_unsent refl)
counts-end lines number (Answered (Piece bytes)) =
    let fate : RequestFate = Answered (Piece bytes) in
    counts-same (counts_of (lines ++ Told number fate ∷ [])) (counts_with (counts_of lines) fate)
    (grows lines number fate is_ok refl) (stays lines number fate is_refused refl) (stays lines number fate is_gone_fate refl)
    (stays lines number fate is_pending refl) (stays lines number fate is_unsent refl)
counts-end lines number (Answered (Refused cause)) =
    let fate : RequestFate = Answered (Refused cause) in
    counts-same (counts_of (lines ++ Told number fate ∷ [])) (counts_with (counts_of lines) fate)
    (stays lines number fate is_ok refl) (grows lines number fate is_refused refl) (stays lines number fate is_gone_fate refl)
    (stays lines number fate is_pending refl) (stays lines number fate is_unsent refl)
counts-end lines number (Answered (Granted vid)) =
    let fate : RequestFate = Answered (Granted vid) in
    counts-same (counts_of (lines ++ Told number fate ∷ [])) (counts_with (counts_of lines) fate)
    (grows lines number fate is_ok refl) (stays lines number fate is_refused refl) (stays lines number fate is_gone_fate refl)
    (stays lines number fate is_pending refl) (stays lines number fate is_unsent refl)
counts-end lines number (Answered (Checked found)) =
    let fate : RequestFate = Answered (Checked found) in
    counts-same (counts_of (lines ++ Told number fate ∷ [])) (counts_with (counts_of lines) fate)
    (grows lines number fate is_ok refl) (stays lines number fate is_refused refl) (stays lines number fate is_gone_fate refl)
    (stays lines number fate is_pending refl) (stays lines number fate is_unsent refl)
counts-end lines number Gone =
    counts-same (counts_of (lines ++ Told number Gone ∷ [])) (counts_with (counts_of lines) Gone)
    (stays lines number Gone is_ok refl) (stays lines number Gone is_refused refl) (grows lines number Gone is_gone_fate refl)
    (stays lines number Gone is_pending refl) (stays lines number Gone is_unsent refl)
counts-end lines number Pending =
    counts-same (counts_of (lines ++ Told number Pending ∷ [])) (counts_with (counts_of lines) Pending)
    (stays lines number Pending is_ok refl) (stays lines number Pending is_refused refl) (stays lines number Pending is_gone_fate refl)
    (grows lines number Pending is_pending refl) (stays lines number Pending is_unsent refl)
counts-end lines number Unsent =
    counts-same (counts_of (lines ++ Told number Unsent ∷ [])) (counts_with (counts_of lines) Unsent)
    (stays lines number Unsent is_ok refl) (stays lines number Unsent is_refused refl) (stays lines number Unsent is_gone_fate refl)
    (stays lines number Unsent is_pending refl) (grows lines number Unsent is_unsent refl)

-- the line of a request more
pub told-with : (told : ToldPart) (lines : List ReportLine) (number : ℕ) (fate : RequestFate) → told ≡ told_part_of lines
    → told_with told number fate ≡ told_part_of (lines ++ Told number fate ∷ [])
told-with told lines number fate is =
    ap (λ (told : ToldPart). told_with told number fate) is
    ∙ (λ i. record { text = sym (text-end lines number fate) i; counts = sym (counts-end lines number fate) i })

-- a held line is that of a reply
pub told-held : (told : ToldPart) (number : ℕ) (rsp : GuestRsp) → told_with_held told (held_line number rsp) ≡ told_with told number (Answered rsp)
told-held told number Done = refl
told-held told number (Piece bytes) = refl
told-held told number (Refused cause) = refl
told-held told number (Granted vid) = refl
told-held told number (Checked found) = refl

none-counted : (way : RequestFate → Bool) (lists : List Words) → count_of way (map Listed lists) ≡ 0
none-counted way [] = refl
none-counted way (words ∷ lists) = none-counted way lists

count-lists : (way : RequestFate → Bool) (lines : List ReportLine) (lists : List Words)
    → count_of way (lines ++ map Listed lists) ≡ count_of way lines
count-lists way lines lists =
    let same : count_of way lines + 0 ≡ count_of way lines = omega arith in
    sum_by-append (worth way) lines (map Listed lists) ∙ ap (λ (n : ℕ). count_of way lines + n) (none-counted way lists) ∙ same

-- the lines of lists more
pub told-lists : (told : ToldPart) (lines : List ReportLine) (lists : List Words) → told ≡ told_part_of lines
    → record told { text = told.text ++ report_text (map Listed lists) } ≡ told_part_of (lines ++ map Listed lists)
told-lists told lines lists is =
    ap (λ (told : ToldPart). record told { text = told.text ++ report_text (map Listed lists) }) is
    ∙ (λ i. record {
      text = sym (report_text-append lines (map Listed lists)) i;
      counts = counts-same (counts_of lines) (counts_of (lines ++ map Listed lists)) (sym (count-lists is_ok lines lists))
          (sym (count-lists is_refused lines lists)) (sym (count-lists is_gone_fate lines lists))
          (sym (count-lists is_pending lines lists)) (sym (count-lists is_unsent lines lists)) i;
    })
