-- How many requests a report tells of in each way, and the line that says so for a generated script.
use Rattle.std.specs.Prelude.{ℕ, Bool, true, false, List, [], ◌∷◌, length, count_by, codes, decimal}
use Rattle.object_id.specs.Hash.{fnv1a_of}
use Rattle.peer_proto.specs.declared.guest.GuestRsp.TheVariants.{Done, Piece, Refused, Granted, Checked}
use Rattle.dog_report.specs.Words.{Words, hex}
use Rattle.dog_report.specs.Fates.{RequestFate, Answered, Gone, Pending, Unsent, ReportLine, Told, Listed, numbers_told}
use Rattle.dog_report.specs.Report.{report_text}

-- the five ways in which a request's line tells of it: it is done
abbrev pub is_ok : RequestFate → Bool
is_ok (Answered Done) = true
is_ok (Answered (Piece bytes)) = true
is_ok (Answered (Refused cause)) = false
is_ok (Answered (Granted vid)) = true
is_ok (Answered (Checked found)) = true
is_ok Gone = false
is_ok Pending = false
is_ok Unsent = false

-- it is refused
abbrev pub is_refused : RequestFate → Bool
is_refused (Answered Done) = false
is_refused (Answered (Piece bytes)) = false
is_refused (Answered (Refused cause)) = true
is_refused (Answered (Granted vid)) = false
is_refused (Answered (Checked found)) = false
is_refused Gone = false
is_refused Pending = false
is_refused Unsent = false

-- the incarnation of its gateway is lost
abbrev pub is_gone_fate : RequestFate → Bool
is_gone_fate (Answered rsp) = false
is_gone_fate Gone = true
is_gone_fate Pending = false
is_gone_fate Unsent = false

-- it was started
abbrev pub is_pending : RequestFate → Bool
is_pending (Answered rsp) = false
is_pending Gone = false
is_pending Pending = true
is_pending Unsent = false

-- it was never started
abbrev pub is_unsent : RequestFate → Bool
is_unsent (Answered rsp) = false
is_unsent Gone = false
is_unsent Pending = false
is_unsent Unsent = true

-- whether a line tells of a request in a way
abbrev pub tells : (RequestFate → Bool) → ReportLine → Bool
tells way (Told number fate) = way fate
tells way (Listed words) = false

-- how many lines do
abbrev pub count_of : (RequestFate → Bool) → List ReportLine → ℕ
count_of way lines = count_by (tells way) lines

-- the line for a generated script: its number, how many requests it has, the five counts, and the hash of the report
abbrev pub generated_words : ℕ → List ReportLine → Words
generated_words number lines =
    codes "gen" ∷ decimal number ∷ codes "requests" ∷ decimal (length (numbers_told lines))
    ∷ codes "ok" ∷ decimal (count_of is_ok lines) ∷ codes "refused" ∷ decimal (count_of is_refused lines)
    ∷ codes "gone" ∷ decimal (count_of is_gone_fate lines) ∷ codes "pending" ∷ decimal (count_of is_pending lines)
    ∷ codes "unsent" ∷ decimal (count_of is_unsent lines) ∷ codes "hash" ∷ hex 16 (fnv1a_of (report_text lines)) ∷ []
