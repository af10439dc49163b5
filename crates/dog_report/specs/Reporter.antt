-- What a reporter has, and the report in the making that it has so.
use Rattle.std.specs.Prelude.{◌≡◌, ℕ, suc, ◌+◌, ◌≤◌, List, [], ◌∷◌, ◌++◌, length}
use Rattle.std.specs.List.{range_with_len}
use Rattle.std.specs.Option.{option_map}
use Rattle.std.specs.Ordering.{nat_cmp}
use Rattle.std.specs.FinMap as tree
use Rattle.cluster_script.specs.declared.statement.Statement.{Statement}
use Rattle.cluster_script.specs.Statements.{requests_of}
use Rattle.peer_proto.specs.declared.guest.GuestRsp.{GuestRsp}
use Rattle.dog_report.specs.declared.held_line.HeldLine.{HeldLine}
use Rattle.dog_report.specs.declared.settling.Lines.{Lines}
use Rattle.dog_report.specs.Report.{Report}
use Rattle.dog_report.specs.ToldPart.{told_part_of, held_line}

-- the lines; the requests that have no line yet of those that were looked at, ascending; and the first request behind those
pub record Reporter : Type 0 where
  pub lines : Lines
  pub unsettled : List ℕ
  pub next : ℕ

-- numbers ascend, from one number on and up to another
abbrev pub AreNumbersWithin : ℕ → ℕ → List ℕ → Type 0
AreNumbersWithin least most [] = Unit {0}
AreNumbersWithin least most (number ∷ later) = (least ≤ number) × (number ≤ most) × AreNumbersWithin (suc number) most later

-- the line that is held of a request is that of its reply, and none where it has none
abbrev pub IsLineHeld : tree.FinMap nat_cmp GuestRsp → tree.FinMap nat_cmp HeldLine → ℕ → Type 0
IsLineHeld replies held number = tree.get held number ≡ option_map (held_line number) (tree.get replies number)

-- the same of each of these requests
abbrev pub AreLinesHeld : tree.FinMap nat_cmp GuestRsp → tree.FinMap nat_cmp HeldLine → List ℕ → Type 0
AreLinesHeld replies held [] = Unit {0}
AreLinesHeld replies held (number ∷ later) = IsLineHeld replies held number × AreLinesHeld replies held later

-- a reporter has a report in the making: its lines are told; the requests without line are those that are unsettled, and all from the next
-- one on, of which there are so many; and the lines of their replies are held
pub record IsReporterOf (statements : List Statement) (reporter : Reporter) (report : Report) : Type 0 where
  pub count : ℕ
  pub first : 1 ≤ reporter.next
  pub all : reporter.next + count ≡ suc (length (requests_of statements))
  pub left : report.left ≡ reporter.unsettled ++ range_with_len reporter.next count
  pub within : AreNumbersWithin 1 (length (requests_of statements)) report.left
  pub told : reporter.lines.told ≡ told_part_of report.lines
  pub held : AreLinesHeld report.replies reporter.lines.held report.left
