-- What a request of a script asks of its session's gateway.
use Rattle.std.specs.Prelude.{ℕ, List, Option, Some, None}
use Rattle.std.specs.Option.{option_and_then}
use Rattle.cluster_script.specs.declared.statement.Statement.{Statement}
use Rattle.cluster_script.specs.declared.statement.Statement.TheVariants as lines
use Rattle.cluster_script.specs.NumberedRequests.{session_of, request_at, payload_of}
use Rattle.peer_proto.specs.declared.guest.DiskAsk.TheVariants.{Read, Write}
use Rattle.peer_proto.specs.declared.guest.VdiAsk.TheVariants.{Create, Attach, Close, Snapshot, Clone, Delete, Check}
use Rattle.sheep_node.specs.declared.ask.Ask.{Ask}
use Rattle.sheep_node.specs.declared.ask.Ask.TheVariants.{Disk, Vdi}
use Rattle.sheep_node.specs.declared.input.Input.{Input}
use Rattle.sheep_node.specs.declared.input.Input.TheVariants as inputs

-- what a statement asks, where it is a request
abbrev pub ask_of_statement : Statement → Option Ask
ask_of_statement (lines.Create session policy shift name size) =
    Some (Vdi (Create name (record { size = size; policy = policy; shift = shift })))
ask_of_statement (lines.OpenDisk session name tag) = Some (Vdi (Attach name tag))
ask_of_statement (lines.Close session) = Some (Vdi Close)
ask_of_statement (lines.Read session offset length) = Some (Disk (Read offset length))
ask_of_statement (lines.Write session offset length pattern) = Some (Disk (Write offset (payload_of pattern length)))
ask_of_statement (lines.Snapshot session tag) = Some (Vdi (Snapshot tag))
ask_of_statement (lines.Clone session base tag name) = Some (Vdi (Clone base tag name))
ask_of_statement (lines.Delete session name tag) = Some (Vdi (Delete name tag))
ask_of_statement (lines.Check session) = Some (Vdi Check)
ask_of_statement s = None

-- the input of a request, which has a session and asks something
abbrev pub input_by : ℕ → Option ℕ → Option Ask → Option Input
input_by req None ask = None
input_by req (Some session) None = None
input_by req (Some session) (Some ask) = Some (inputs.Guest req session ask)

-- the input of the request of a number; none where the script has no such request
abbrev pub input_of : List Statement → ℕ → Option Input
input_of statements req =
    option_and_then (λ s. input_by req (session_of s) (ask_of_statement s)) (request_at statements req)

-- the session of the request of a number
abbrev pub session_asking : List Statement → ℕ → Option ℕ
session_asking statements req = option_and_then session_of (request_at statements req)
