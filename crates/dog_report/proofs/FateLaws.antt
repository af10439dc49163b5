-- What became of a request, by its reply and its gateway.
use Rattle.std.proofs.Common.{◌≡◌, ℕ, nat_le, Bool, true, false, cond, List, Option, Some, None, unwrap_or, ap, ◌∙◌}
use Rattle.std.specs.FinMap as tree
use Rattle.cluster_script.specs.declared.statement.Statement.{Statement}
use Rattle.cluster_script.specs.Phases.{phase_of_request}
use Rattle.peer_proto.specs.declared.guest.GuestRsp.{GuestRsp}
use Rattle.dog_report.specs.Fates.{RequestFate, Answered, Gone, Pending, Unsent}
use Rattle.dog_report.specs.Report.{Report, is_lost_request, is_begun, fate_settled_by, settled_fate, fate_due, last_fate}

module _ (statements : List Statement) (report : Report) (req : ℕ) where
  -- what became of it by its reply, by whether its gateway is lost, and by whether it was started
  abbrev fate_in : Option GuestRsp → Bool → Bool → RequestFate
  fate_in found lost begun = unwrap_or (fate_settled_by found lost) (cond begun Pending Unsent)

  abbrev reply : Option GuestRsp
  reply = tree.get report.replies req

  abbrev is_lost : Bool
  is_lost = is_lost_request statements req report.world

  abbrev has_begun : Bool
  has_begun = is_begun statements req report.world

  pub answered : (rsp : GuestRsp) → reply ≡ Some rsp → last_fate statements report req ≡ Answered rsp
  answered rsp there = ap (λ (found : Option GuestRsp). fate_in found is_lost has_begun) there

  pub gone : reply ≡ None → is_lost ≡ true → last_fate statements report req ≡ Gone
  gone none lost =
      ap (λ (found : Option GuestRsp). fate_in found is_lost has_begun) none ∙ ap (λ (b : Bool). fate_in None b has_begun) lost

  waiting : reply ≡ None → is_lost ≡ false → last_fate statements report req ≡ fate_in None false has_begun
  waiting none up =
      ap (λ (found : Option GuestRsp). fate_in found is_lost has_begun) none ∙ ap (λ (b : Bool). fate_in None b has_begun) up

  pub pending : reply ≡ None → is_lost ≡ false → has_begun ≡ true → last_fate statements report req ≡ Pending
  pending none up begun = waiting none up ∙ ap (λ (b : Bool). fate_in None false b) begun

  pub unsent : reply ≡ None → is_lost ≡ false → has_begun ≡ false → last_fate statements report req ≡ Unsent
  unsent none up not_begun = waiting none up ∙ ap (λ (b : Bool). fate_in None false b) not_begun

  abbrev fate_if : Bool → Option RequestFate
  fate_if begun = cond begun (settled_fate statements report req) None

  pub due : nat_le (phase_of_request statements req) report.world.phase ≡ true
      → fate_due statements report req ≡ settled_fate statements report req
  due has_come = ap fate_if has_come

  pub later : nat_le (phase_of_request statements req) report.world.phase ≡ false → fate_due statements report req ≡ None
  later to_come = ap fate_if to_come
