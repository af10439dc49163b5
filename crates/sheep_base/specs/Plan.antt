-- Faults at chosen calls.
use Rattle.std.specs.Prelude.{ℕ, List, Contains}
use Rattle.sheep_base.specs.Fault.{next_count}

-- which calls fail, counted from 0, how many calls there were, and how many faults
pub record Plan : Type 0 where
  pub fails : List ℕ
  pub calls : ℕ
  pub faults : ℕ

-- nothing has been called
abbrev pub opening_plan : List ℕ → Plan
opening_plan fails = record { fails = fails; calls = 0; faults = 0 }

-- the next call fails
abbrev pub IsDue : Plan → Type 0
IsDue plan = Contains plan.fails plan.calls

-- after a call
abbrev pub plan_after_call : Plan → Plan
plan_after_call plan = record plan { calls = next_count plan.calls }

-- after a fault
abbrev pub plan_after_fault : Plan → Plan
plan_after_fault plan = record plan { faults = next_count plan.faults }
