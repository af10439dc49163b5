-- A small log and some disks, whose lists are spelled out as examples.
use Rattle.std.specs.Prelude.{ℕ, List, [], ◌∷◌, codes, Option, Some, None}
use Rattle.object_id.specs.declared.node.NodeId.{NodeId}
use Rattle.object_id.specs.declared.node.Epoch.{Epoch}
use Rattle.object_id.specs.declared.oid.Vid.{Vid}
use Rattle.object_id.specs.declared.policy.Policy.TheVariants.{Copies, Coded}
use Rattle.object_id.specs.declared.entry.Member.{Member}
use Rattle.object_id.specs.declared.entry.VdiSpec.{VdiSpec}
use Rattle.object_id.specs.declared.entry.Entry.{Entry}
use Rattle.object_id.specs.declared.entry.Entry.TheVariants.{Format, Join, Recovered}
use Rattle.vdi_directory.specs.declared.effect.Source.{Source}
use Rattle.vdi_directory.specs.declared.effect.Source.TheVariants.{Fresh, Snapshot}
use Rattle.vdi_directory.specs.declared.effect.Effect.{Effect}
use Rattle.vdi_directory.specs.declared.effect.Effect.TheVariants.{Reserved, Published, Snapped, Held}
use Rattle.object_store.specs.Store.{SeenRow}
use Rattle.sheep_world.specs.World.{World}

-- the node of a number
abbrev pub node : ℕ → NodeId
node number = record { 0 = number }

-- it as a member, in a zone of its own
abbrev pub member : ℕ → Member
member number = record { node = node number; zone = number; vnodes = 64 }

-- the id of a number
abbrev pub vid : ℕ → Vid
vid number = record { 0 = number }

-- nodes 0 and 1 open the log, and node 2 joins
abbrev pub example_log : List Entry
example_log =
    Format (member 0 ∷ member 1 ∷ []) ∷ Join (node 2) 2 64 ∷ Recovered (node 0) (record { 0 = 2 })
    ∷ Recovered (node 1) (record { 0 = 2 }) ∷ Recovered (node 2) (record { 0 = 2 }) ∷ []

-- a world with this log
abbrev pub at_log : World → World
at_log world = record world { log = example_log }

-- a row of two bytes from epoch 2 on
abbrev pub row_to : Option Epoch → SeenRow
row_to to = record { index = 0; from = record { 0 = 2 }; to = to; bytes = 97 ∷ 0 ∷ [] }

-- the same of an index, from an epoch on
abbrev pub row_from : ℕ → ℕ → SeenRow
row_from index from = record (row_to None) { index = index; from = record { 0 = from } }

-- an id is reserved
abbrev pub reservation_effect : ℕ → List ℕ → Source → Option Vid → VdiSpec → Effect
reservation_effect id name source parent spec = Reserved (record {
  reservation = record { vid = vid id; by = node 0; session = 1; name = name; source = source };
  header = record { name = name; tag = []; snap_id = 1; parent = parent; spec = spec };
})

-- session 1 makes a disk of three copies, opens it and takes a snapshot, and makes a coded disk
abbrev pub example_effects : List Effect
example_effects =
    reservation_effect 0x01ec8c (codes "a") Fresh None (record { size = 0x100000; policy = Copies 3; shift = 22 })
    ∷ Published (vid 0x01ec8c) (codes "a") ∷ Held (vid 0x01ec8c) (record { node = node 0; session = 1 })
    ∷ reservation_effect
    0x01ec8d
    (codes "a")
    (Snapshot (vid 0x01ec8c) (codes "t1"))
    (Some (vid 0x01ec8c))
    (record { size = 0x100000; policy = Copies 3; shift = 22 })
    ∷ Snapped (record {
      old = vid 0x01ec8c;
      vid = vid 0x01ec8d;
      name = codes "a";
      tag = codes "t1";
      holder = record { node = node 0; session = 1 };
    })
    ∷ reservation_effect 0x01f1a5 (codes "b") Fresh None (record { size = 0x800000; policy = Coded 4 2; shift = 20 })
    ∷ Published (vid 0x01f1a5) (codes "b") ∷ []
