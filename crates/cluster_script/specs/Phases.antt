-- The phases of a script: what stands behind its settings, up to each barrier.
use Rattle.std.specs.Prelude.{ℕ, ◌+◌, ◌==◌, Bool, true, false, not, List, [], ◌∷◌, filter, count_by, sum_by, unwrap_or, if◌then◌else◌}
use Rattle.std.specs.List.{list_any, find, range_with_len, position_or_len}
use Rattle.cluster_script.specs.declared.statement.Statement.{Statement}
use Rattle.cluster_script.specs.declared.statement.Statement.TheVariants.{Fail, Join, Lose, Settle, ListNodes, ListVdis, ClusterInfo, Dump}
use Rattle.cluster_script.specs.declared.statement.Statement.TheVariants.{Reweight, Back}
use Rattle.cluster_script.specs.Statements.{is_setting, is_request}

-- a statement ends its phase
abbrev pub is_barrier : Statement → Bool
is_barrier Settle = true
is_barrier ListNodes = true
is_barrier ListVdis = true
is_barrier ClusterInfo = true
is_barrier Dump = true
is_barrier s = false

-- a statement changes the nodes of the cluster
abbrev pub is_control : Statement → Bool
is_control (Fail node) = true
is_control (Join node) = true
is_control (Reweight node vnodes) = true
is_control (Back node) = true
is_control s = false

-- how many messages may be lost by a statement
abbrev pub losses_in : Statement → ℕ
losses_in (Lose count) = count
losses_in s = 0

-- how many messages may be lost in the present phase after a statement
abbrev pub losses_by : ℕ → Statement → ℕ
losses_by sum s = if is_barrier s then 0 else sum + losses_in s

-- how many after statements, one after another
abbrev pub losses_from : ℕ → List Statement → ℕ
losses_from sum [] = sum
losses_from sum (s ∷ rest) = losses_from (losses_by sum s) rest

-- a phase: its controls in order, how many of its messages may be lost, the numbers of its requests, ascending, and its end
pub record Phase : Type 0 where
  pub controls : List Statement
  pub losses : ℕ
  pub requests : List ℕ
  pub barrier : Statement

-- a statement before the stretches behind it: a barrier is a stretch's end, any other one belongs to the first stretch
abbrev pub stretches_with : Statement → List (List Statement) → List (List Statement)
stretches_with s [] = (s ∷ []) ∷ []
stretches_with s (first ∷ rest) = if is_barrier s then (s ∷ []) ∷ first ∷ rest else (s ∷ first) ∷ rest

-- the statements in stretches, each up to its barrier; the last one may have none
abbrev pub stretches : List Statement → List (List Statement)
stretches [] = []
stretches (s ∷ rest) = stretches_with s (stretches rest)

-- the phase that a stretch is, whose first request has this number; without a barrier it ends by settling
abbrev pub phase_from : ℕ → List Statement → Phase
phase_from number stretch = record {
  controls = filter is_control stretch;
  losses = sum_by losses_in stretch;
  requests = range_with_len number (count_by is_request stretch);
  barrier = unwrap_or (find is_barrier stretch) Settle;
}

-- the phases that stretches are, one after another
abbrev pub phases_from : ℕ → List (List Statement) → List Phase
phases_from number [] = []
phases_from number (stretch ∷ rest) = phase_from number stretch ∷ phases_from (number + count_by is_request stretch) rest

-- the phases of a script; settings are of none
abbrev pub phases_of : List Statement → List Phase
phases_of statements = phases_from 1 (stretches (filter (λ s. not (is_setting s)) statements))

-- a request is of a phase
abbrev pub has_request : ℕ → Phase → Bool
has_request number phase = list_any (λ other. other == number) phase.requests

-- the place of the phase that a request is of, from 0
abbrev pub phase_of_request : List Statement → ℕ → ℕ
phase_of_request statements number = position_or_len (has_request number) (phases_of statements)
