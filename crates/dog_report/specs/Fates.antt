-- What became of a request, and how a report says it.
use Rattle.std.specs.Prelude.{ℕ, List, [], ◌∷◌, length, map, codes, decimal, Option, Some, None}
use Rattle.std.specs.List.{filter_map}
use Rattle.peer_proto.specs.declared.guest.Checked.{Checked as Findings}
use Rattle.peer_proto.specs.declared.guest.GuestRsp.{GuestRsp}
use Rattle.peer_proto.specs.declared.guest.GuestRsp.TheVariants.{Done, Piece, Refused, Granted, Checked}
use Rattle.dog_report.specs.Words.{Words, hex}
use Rattle.dog_report.specs.RunWords.{runs_words}
use Rattle.dog_report.specs.Causes.{cause_words}

-- what became of a request
pub data RequestFate : Type 0 where
  -- it has its reply
  Answered : GuestRsp → RequestFate
  -- it has none, and the incarnation of its gateway is lost
  Gone : RequestFate
  -- it was started, and has none yet
  Pending : RequestFate
  -- it was never started
  Unsent : RequestFate

-- a line of a report: a request's, or one of a list
pub data ReportLine : Type 0 where
  Told : ℕ → RequestFate → ReportLine
  Listed : Words → ReportLine

-- what a check found: how many objects are the disk's own and how many another disk's, and the own ones whose copies differed
abbrev pub checked_words : Findings → Words
checked_words found =
    codes "objects" ∷ decimal found.objects ∷ codes "inherited" ∷ decimal found.inherited
    ∷ codes "differed" ∷ decimal (length found.differed) ∷ map (hex 16) found.differed

-- the words of a reply
abbrev pub reply_words : GuestRsp → Words
reply_words Done = codes "ok" ∷ []
reply_words (Piece bytes) = codes "ok" ∷ runs_words bytes
reply_words (Refused cause) = codes "refused" ∷ cause_words cause
reply_words (Granted vid) = codes "ok" ∷ []
reply_words (Checked found) = codes "ok" ∷ checked_words found

-- the words of what became of a request
abbrev pub fate_words : RequestFate → Words
fate_words (Answered rsp) = reply_words rsp
fate_words Gone = codes "gone" ∷ []
fate_words Pending = codes "pending" ∷ []
fate_words Unsent = codes "unsent" ∷ []

-- the words of a line: a request's begins with its number
abbrev pub line_words : ReportLine → Words
line_words (Told number fate) = decimal number ∷ fate_words fate
line_words (Listed words) = words

-- the request that a line is of
abbrev pub told_number : ReportLine → Option ℕ
told_number (Told number fate) = Some number
told_number (Listed words) = None

-- the requests that lines are of, in order
abbrev pub numbers_told : List ReportLine → List ℕ
numbers_told lines = filter_map told_number lines
