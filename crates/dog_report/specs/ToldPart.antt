-- The part of a report that is told, as its text with its counts; and the lines of replies, which are made when the replies come.
use Rattle.std.specs.Prelude.{ℕ, ◌+◌, Bool, true, false, List, ◌++◌, codes}
use Rattle.std.specs.Ordering.{nat_cmp}
use Rattle.std.specs.FinMap as tree
use Rattle.peer_proto.specs.declared.guest.GuestRsp.{GuestRsp}
use Rattle.peer_proto.specs.declared.guest.GuestRsp.TheVariants.{Done, Piece, Refused, Granted, Checked}
use Rattle.dog_report.specs.declared.counts.Counts.{Counts}
use Rattle.dog_report.specs.declared.held_line.HeldLine.{HeldLine}
use Rattle.dog_report.specs.Words.{spaced_words}
use Rattle.dog_report.specs.Fates.{RequestFate, Answered, Gone, Pending, Unsent, ReportLine, Told, line_words}
use Rattle.dog_report.specs.Counts.{count_of, is_ok, is_refused, is_gone_fate, is_pending, is_unsent}
use Rattle.dog_report.specs.Report.{report_text}

-- the lines that are told: their text, and how many tell of a request in each way
pub record ToldPart : Type 0 where
  pub text : List ℕ
  pub counts : Counts

-- how many of these lines tell of a request in each way
abbrev pub counts_of : List ReportLine → Counts
counts_of lines = record {
  ok = count_of is_ok lines;
  refused = count_of is_refused lines;
  gone = count_of is_gone_fate lines;
  pending = count_of is_pending lines;
  unsent = count_of is_unsent lines;
}

-- these lines, told
abbrev pub told_part_of : List ReportLine → ToldPart
told_part_of lines = record { text = report_text lines; counts = counts_of lines }

-- one request more is told of
abbrev pub counts_with : Counts → RequestFate → Counts
counts_with counts (Answered Done) = record counts { ok = counts.ok + 1 }
counts_with counts (Answered (Piece bytes)) = record counts { ok = counts.ok + 1 }
counts_with counts (Answered (Refused cause)) = record counts { refused = counts.refused + 1 }
counts_with counts (Answered (Granted vid)) = record counts { ok = counts.ok + 1 }
counts_with counts (Answered (Checked found)) = record counts { ok = counts.ok + 1 }
counts_with counts Gone = record counts { gone = counts.gone + 1 }
counts_with counts Pending = record counts { pending = counts.pending + 1 }
counts_with counts Unsent = record counts { unsent = counts.unsent + 1 }

-- the line of a request, with its end
abbrev pub fate_line : ℕ → RequestFate → List ℕ
fate_line number fate = spaced_words (line_words (Told number fate)) ++ codes "\n"

-- the line of a request more is told
abbrev pub told_with : ToldPart → ℕ → RequestFate → ToldPart
told_with told number fate = record { text = told.text ++ fate_line number fate; counts = counts_with told.counts fate }

-- the line of a request by its reply
abbrev pub held_line : ℕ → GuestRsp → HeldLine
held_line number rsp = record { refused = is_refused (Answered rsp); text = fate_line number (Answered rsp) }

-- a request more is told of that was refused, or done
abbrev pub counts_with_reply : Counts → Bool → Counts
counts_with_reply counts true = record counts { refused = counts.refused + 1 }
counts_with_reply counts false = record counts { ok = counts.ok + 1 }

-- a line more is told that was held
abbrev pub told_with_held : ToldPart → HeldLine → ToldPart
told_with_held told line = record { text = told.text ++ line.text; counts = counts_with_reply told.counts line.refused }

-- a reply more, whose line is held
abbrev pub held_with : tree.FinMap nat_cmp HeldLine → ℕ × GuestRsp → tree.FinMap nat_cmp HeldLine
held_with held reply = tree.insert held reply.0 (held_line reply.0 reply.1)
