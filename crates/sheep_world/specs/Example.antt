-- A small log and a small script, for worked cases.
use Rattle.std.specs.Prelude.{ℕ, List, [], ◌∷◌}
use Rattle.object_id.specs.declared.entry.Member.{Member}
use Rattle.cluster_script.specs.declared.statement.Statement.{Statement}
use Rattle.cluster_script.specs.declared.statement.Statement.TheVariants as lines
use Rattle.object_id.specs.declared.entry.Entry.{Entry}
use Rattle.object_id.specs.declared.entry.Entry.TheVariants.{Format, Join, Leave, Reweight}

-- a member in the zone of its own number, of weight 64
abbrev pub member : ℕ → Member
member node = record { node = record { 0 = node }; zone = node; vnodes = 64 }

-- nodes 0 and 1 open the log; node 1 gets weight 32, leaves, and comes back
abbrev pub lived_log : List Entry
lived_log =
    Format (member 0 ∷ member 1 ∷ []) ∷ Reweight (record { 0 = 1 }) 32 ∷ Leave (record { 0 = 1 })
    ∷ Join (record { 0 = 1 }) 1 32 ∷ []

-- one node, and one session on it that asks once
abbrev pub small_script : List Statement
small_script = lines.Cluster 1 ∷ lines.Session 1 0 ∷ lines.Close 1 ∷ []
