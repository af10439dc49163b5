-- The world that a script opens with.
use Rattle.std.specs.Prelude.{ℕ, false, List, [], ◌∷◌, ◌++◌, map, Option, None, slice_get}
use Rattle.std.specs.Option.{option_map_or}
use Rattle.std.specs.FinMap as tree
use Rattle.object_id.specs.declared.entry.Member.{Member}
use Rattle.object_id.specs.declared.entry.Entry.{Entry}
use Rattle.object_id.specs.declared.entry.Entry.TheVariants.{Format}
use Rattle.cluster_script.specs.declared.statement.Statement.{Statement}
use Rattle.cluster_script.specs.Settings.{tries_of, opening_members}
use Rattle.cluster_script.specs.Phases.{Phase, phases_of}
use Rattle.sheep_node.specs.declared.input.Input.TheVariants as inputs
use Rattle.sheep_node.specs.declared.outputs.Outputs.{Outputs}
use Rattle.sheep_node.specs.State as nodes
use Rattle.sheep_node.specs.State.{Node}
use Rattle.sheep_node.specs.Step.{node_step}
use Rattle.sheep_world.specs.World.{Host, World}

-- the outputs of no step
abbrev pub no_outputs : Outputs
no_outputs = record { sends = []; say = None; replies = []; put = None }

-- the phase at a place of a script, from 0
abbrev pub phase_at : List Statement → ℕ → Option Phase
phase_at statements place = slice_get (phases_of statements) place

-- its controls
abbrev pub controls_at : List Statement → ℕ → List Statement
controls_at statements place = option_map_or (λ (phase : Phase). phase.controls) (phase_at statements place) []

-- how many of its messages may be lost; behind the last phase none
abbrev pub losses_at : List Statement → ℕ → ℕ
losses_at statements place = option_map_or (λ (phase : Phase). phase.losses) (phase_at statements place) 0

-- the phase at a place is present: its controls stand behind those that are left, and no losses are left but its own
abbrev pub with_phase : List Statement → ℕ → World → World
with_phase statements place world = record world {
  phase = place;
  controls = world.controls ++ controls_at statements place;
  losses = losses_at statements place;
}

-- the log's first entry
abbrev pub format_entry : List Statement → Entry
format_entry statements = Format (opening_members statements)

-- an opening member, which has read the first entry by its step
abbrev pub initial_member_node : List Statement → Member → Node
initial_member_node statements member =
    (node_step (inputs.LogEntry (format_entry statements)) (nodes.initial_node member.node (tries_of statements))).node

-- a node in its first incarnation
abbrev pub initial_host : Node → Host
initial_host node = record { node = node; is_lost = false; incarnation = 1 }

-- an opening member's host, by its number
abbrev pub initial_member_host : List Statement → Member → ℕ × Host
initial_member_host statements member = (member.node.0, initial_host (initial_member_node statements member))

-- before the first phase: the log is its first entry, each opening member has read it, and all else is empty
abbrev pub before_phases : List Statement → World
before_phases statements = record {
  hosts = tree.from_entries (map (initial_member_host statements) (opening_members statements));
  log = format_entry statements ∷ [];
  wire = tree.empty;
  guests = tree.empty;
  phase = 0;
  controls = [];
  losses = 0;
  asked = None;
  input = None;
  outputs = no_outputs;
}

-- the opening world of a script: its first phase, if it has one, is present
unfoldable pub initial_world : List Statement → World
initial_world statements = with_phase statements 0 (before_phases statements)
