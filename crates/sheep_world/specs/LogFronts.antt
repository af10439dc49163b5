-- What each node has read is a front of the log.
use Rattle.std.specs.Prelude.{◌≡◌, ℕ, List, ◌++◌}
use Rattle.object_id.specs.declared.entry.Entry.{Entry}
use Rattle.sheep_world.specs.World.{Host, World}
use Rattle.sheep_world.specs.HostChanges.{HoldsOfEachHost}

-- entries are the first ones of a log
pub record IsFront (read log : List Entry) : Type 0 where
  pub rest : List Entry
  pub is : log ≡ read ++ rest

-- a node has read the log's first entries
abbrev pub ReadsTheLog : World → ℕ → Host → Type 0
ReadsTheLog world n host = IsFront host.node.peer.entries world.log

-- each node has read the log's first entries
abbrev pub AllReadTheLog : World → Type 0
AllReadTheLog world = HoldsOfEachHost ReadsTheLog world
