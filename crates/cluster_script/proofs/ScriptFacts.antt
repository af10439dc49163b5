-- What the statements of a script have: their sessions, nodes and sums of bytes are within a script's limits.
use Rattle.std.proofs.Common.{◌≡◌, ℕ, ◌+◌, ◌≤◌, ◌<◌, ◌==◌, Bool, true, false, ◌||◌, List, [], ◌∷◌, ◌++◌, refl, sym, subst, ◌∙◌, inl, inr, append_assoc, arith, if◌then◌else◌}
use Rattle.std.specs.Prelude.{sum_by}
use Rattle.std.specs.List.{list_any}
use Rattle.std.proofs.lemmas.Bool.{ltb-true, eqb-true, or_cases, or_left, or_right}
use Rattle.std.proofs.lemmas.List.{append-nil}
use Rattle.std.proofs.lemmas.List.Folds.{list_any-append}
use Rattle.std.proofs.lemmas.List.Sums.{sum_by-append}
use Rattle.object_id.specs.declared.limits.TheConstants.{NODES_MAX, READ_BYTES_MAX, WRITE_BYTES_MAX}
use Rattle.object_id.specs.Node.{IsSession}
use Rattle.cluster_script.specs.declared.statement.Statement.{Statement}
use Rattle.cluster_script.specs.declared.statement.Statement.TheVariants.{Cluster, Session, Read, Write, Fail, Join, Back}
use Rattle.cluster_script.specs.Statements.{is_cluster, declares, is_session_declared, read_bytes, write_bytes}
use Rattle.cluster_script.specs.Nodes.{uses_node, is_node_used, failed_by, failed_from, is_failed}
use Rattle.cluster_script.specs.Language.{HasCluster, MayStand, EachMayStand, IsScript}

-- what a statement of a kind shows, where it may stand, holds where there is one
pub kind-shows : (kind : Statement → Bool) (P : List Statement → Type 0)
    → ((first later : List Statement) (s : Statement) → MayStand first s → kind s ≡ true → P (first ++ s ∷ later))
    → (before rest : List Statement) → EachMayStand before rest → list_any kind rest ≡ true → P (before ++ rest)
kind-shows kind P shows before [] each found = absurd cc
kind-shows kind P shows before (s ∷ rest) each found =
    elim (or_cases (kind s) (list_any kind rest) found) [
      | inl here ↦ shows before rest s each.0 here
      | inr later ↦ subst P (append_assoc before (s ∷ []) rest) (kind-shows kind P shows (before ++ s ∷ []) rest each.1 later)
    ]

pub any-before : (kind : Statement → Bool) (before rest : List Statement) → list_any kind before ≡ true → list_any kind (before ++ rest) ≡ true
any-before kind before rest there = list_any-append kind before rest ∙ or_left (list_any kind before) (list_any kind rest) there

-- a declared session has a number of sessions, and stands behind a `cluster`
declaring : (session : ℕ) (first later : List Statement) (s : Statement) → MayStand first s → declares session s ≡ true
    → IsSession session × HasCluster (first ++ s ∷ later)
declaring session first later (Session number node) may found =
    let same : number ≡ session = eqb-true number session found in
    ((omega (arith, may.2), omega (arith, may.3)), any-before is_cluster first (Session number node ∷ later) may.0)
declaring session first later s may found = absurd cc

pub is_session_declared-session : (before : List Statement) (session : ℕ) → IsScript before → is_session_declared session before ≡ true
    → IsSession session × HasCluster before
is_session_declared-session before session script found =
    kind-shows (declares session) (λ statements. IsSession session × HasCluster statements) (declaring session) [] before script found

-- a used node has a number of nodes
using : (node : ℕ) (first later : List Statement) (s : Statement) → MayStand first s → uses_node node s ≡ true → node < NODES_MAX
using node first later (Cluster nodes) may found = let less : node < nodes = ltb-true node nodes found in omega (arith, may.2)
using node first later (Join number) may found = let same : number ≡ node = eqb-true number node found in omega (arith, may.1)
using node first later s may found = absurd cc

pub used-node : (before : List Statement) (node : ℕ) → IsScript before → is_node_used node before ≡ true → node < NODES_MAX
used-node before node script found = kind-shows (uses_node node) (λ statements. node < NODES_MAX) (using node) [] before script found

-- a failed node was used: a `fail` says it of a node that is there
abbrev fails : ℕ → Statement → Bool
fails node (Fail number) = number == node
fails node s = false

some-fails : (node : ℕ) (was : Bool) (rest : List Statement) → failed_from node was rest ≡ true → (was || list_any (fails node) rest) ≡ true
some-fails node was [] failed = or_left was false failed
some-fails node was (s ∷ rest) failed = go s (some-fails node (failed_by node was s) rest failed)
  where
    failing : (same : Bool) → ((if same then true else was) || list_any (fails node) rest) ≡ true
        → (was || (same || list_any (fails node) rest)) ≡ true
    failing true later = or_right was true refl
    failing false later = later

    back : (same : Bool) → ((if same then false else was) || list_any (fails node) rest) ≡ true
        → (was || list_any (fails node) rest) ≡ true
    back true later = or_right was (list_any (fails node) rest) later
    back false later = later

    go : (s : Statement) → (failed_by node was s || list_any (fails node) rest) ≡ true
        → (was || (fails node s || list_any (fails node) rest)) ≡ true
    go (Fail number) later = failing (number == node) later
    go (Back number) later = back (number == node) later
    go s later = later

failing-uses_node : (node : ℕ) (first later : List Statement) (s : Statement) → MayStand first s → fails node s ≡ true
    → is_node_used node (first ++ s ∷ later) ≡ true
failing-uses_node node first later (Fail number) may found =
    any-before (uses_node node) first (Fail number ∷ later) (subst (λ (n : ℕ). is_node_used n first ≡ true) (eqb-true number node found) may.1.used)
failing-uses_node node first later s may found = absurd cc

pub failed-node : (before : List Statement) (node : ℕ) → IsScript before → is_failed node before ≡ true → node < NODES_MAX
failed-node before node script failed =
    used-node before node script
    (kind-shows (fails node) (λ statements. is_node_used node statements ≡ true) (failing-uses_node node) [] before script
    (some-fails node false before failed))

-- a sum over the statements stays within its limit
sum-stays : (f : Statement → ℕ) (most : ℕ)
    → ((first : List Statement) (s : Statement) → sum_by f first ≤ most → MayStand first s → sum_by f first + f s ≤ most)
    → (before rest : List Statement) → sum_by f before ≤ most → EachMayStand before rest → sum_by f (before ++ rest) ≤ most
sum-stays f most stays before [] so_far each = subst (λ (b : List Statement). sum_by f b ≤ most) (sym (append-nil before)) so_far
sum-stays f most stays before (s ∷ rest) so_far each =
    subst (λ (b : List Statement). sum_by f b ≤ most) (append_assoc before (s ∷ []) rest)
    (sum-stays f most stays (before ++ s ∷ []) rest (with_next (sum_by-append f before (s ∷ [])) (stays before s so_far each.0)) each.1)
  where
    with_next : sum_by f (before ++ s ∷ []) ≡ sum_by f before + sum_by f (s ∷ []) → sum_by f before + f s ≤ most
        → sum_by f (before ++ s ∷ []) ≤ most
    with_next more fits = omega arith

reads-fit : (first : List Statement) (s : Statement) → sum_by read_bytes first ≤ READ_BYTES_MAX → MayStand first s
    → sum_by read_bytes first + read_bytes s ≤ READ_BYTES_MAX
reads-fit first (Read session offset bytes) so_far may = may.2
reads-fit first s so_far may = omega arith

writes-fit : (first : List Statement) (s : Statement) → sum_by write_bytes first ≤ WRITE_BYTES_MAX → MayStand first s
    → sum_by write_bytes first + write_bytes s ≤ WRITE_BYTES_MAX
writes-fit first (Write session offset bytes pattern) so_far may = may.3
writes-fit first s so_far may = omega arith

pub reads-within : (before : List Statement) → IsScript before → sum_by read_bytes before ≤ READ_BYTES_MAX
reads-within before script = sum-stays read_bytes READ_BYTES_MAX reads-fit [] before (omega arith) script

pub writes-within : (before : List Statement) → IsScript before → sum_by write_bytes before ≤ WRITE_BYTES_MAX
writes-within before script = sum-stays write_bytes WRITE_BYTES_MAX writes-fit [] before (omega arith) script
