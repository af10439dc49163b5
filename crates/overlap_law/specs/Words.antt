-- The words over attempts: made, mute and doomed, the base of an object, and which of its units are quiet.
use Rattle.std.specs.Prelude.{ℕ, ◌==◌, Bool, true, false, not, ◌&&◌, ◌||◌, List, [], ◌∷◌, ◌++◌, length, filter, fold, Option, None}
use Rattle.std.specs.Prelude.{if◌then◌else◌}
use Rattle.std.specs.List.{list_any, list_all, last_or}
use Rattle.object_id.specs.declared.node.NodeId.{NodeId}
use Rattle.overlap_law.specs.Attempts.{MessageFate, Flying, Served, Doomed, AttemptRecord}
pub use Rattle.overlap_law.specs.Reached.{Hosts, has_come, is_beyond, has_entered, has_finished, is_dying}
pub use Rattle.overlap_law.specs.Units.{unit_start, unit_size, unit_end, unit_of, unit_bytes, row_bytes_at, covers_unit, covering}
pub use Rattle.overlap_law.specs.Units.{laid_over_in_order, bytes_by, unit_part_by}

-- whether the target of a message has served it
abbrev pub is_served : MessageFate → Bool
is_served Flying = false
is_served Served = true
is_served Doomed = false

-- an attempt is made where each target has served it
abbrev pub is_made : AttemptRecord → Bool
is_made attempt = list_all is_served attempt.fates

-- an attempt is mute where no target has served it
abbrev pub is_mute : AttemptRecord → Bool
is_mute attempt = not (list_any is_served attempt.fates)

-- whether a message that its target hasn't served never will be: it was lost or refused, or the target is beyond the epoch
abbrev pub is_in_vain : Hosts → ℕ → NodeId → MessageFate → Bool
is_in_vain hosts epoch target Flying = is_beyond hosts epoch target
is_in_vain hosts epoch target Served = false
is_in_vain hosts epoch target Doomed = true

-- whether that is so of one of the messages
abbrev pub is_one_in_vain : Hosts → ℕ → List NodeId → List MessageFate → Bool
is_one_in_vain hosts epoch [] fates = false
is_one_in_vain hosts epoch (target ∷ targets) [] = false
is_one_in_vain hosts epoch (target ∷ targets) (fate ∷ fates) =
    is_in_vain hosts epoch target fate || is_one_in_vain hosts epoch targets fates

-- an attempt is doomed where a message of it was lost unserved or refused, or a target that hasn't served it is lost or
-- beyond its epoch
abbrev pub is_doomed : Hosts → AttemptRecord → Bool
is_doomed hosts attempt = is_one_in_vain hosts attempt.epoch attempt.targets attempt.fates

-- whether a node is a target of an attempt and has served it
abbrev pub is_served_by : NodeId → List NodeId → List MessageFate → Bool
is_served_by node [] fates = false
is_served_by node (target ∷ targets) [] = false
is_served_by node (target ∷ targets) (fate ∷ fates) =
    (target.0 == node.0 && is_served fate) || is_served_by node targets fates

-- whether a node is a target of the attempt and has served it
abbrev pub has_served : NodeId → AttemptRecord → Bool
has_served node attempt = is_served_by node attempt.targets attempt.fates

-- the last of some attempts
abbrev pub last_of : List AttemptRecord → Option AttemptRecord
last_of attempts = last_or None attempts

-- of attempts on an object the base: the last that is made
abbrev pub base_of : List AttemptRecord → Option AttemptRecord
base_of attempts = last_of (filter is_made attempts)

-- a unit's own base: the last made attempt that covers it
abbrev pub own_base_of : ℕ → List AttemptRecord → Option AttemptRecord
own_base_of unit attempts = base_of (covering unit attempts)

-- those behind the last made one; all where none is made
abbrev pub behind_base : List AttemptRecord → List AttemptRecord
behind_base attempts = fold (λ later (attempt : AttemptRecord). if is_made attempt then [] else later ++ attempt ∷ []) [] attempts

-- the attempts that cover a unit and began after its own base
abbrev pub later_on : ℕ → List AttemptRecord → List AttemptRecord
later_on unit attempts = behind_base (covering unit attempts)

-- a unit is quiet where no attempt that began after its own base covers it
abbrev pub is_quiet : ℕ → List AttemptRecord → Bool
is_quiet unit attempts = length (later_on unit attempts) == 0
