-- A client's read as the cause of a step: the script has no request of its number, none was begun under it, and it names an object.
use Rattle.std.proofs.Common.{◌≡◌, ℕ, ◌^◌, nat_lt, Bool, true, false, List, Option, Some, None, refl, sym, ap, ◌∙◌}
use Rattle.std.specs.Option.{option_map_or, option_and_then}
use Rattle.std.proofs.lemmas.Bool.{and_parts, ltb-true}
use Rattle.cluster_script.specs.declared.statement.Statement.{Statement}
use Rattle.cluster_script.specs.NumberedRequests.{request_at}
use Rattle.peer_proto.specs.Ids.{is_oid}
use Rattle.peer_proto.specs.declared.work.ObjWork.{ObjWork}
use Rattle.peer_proto.specs.declared.work.ObjWork.TheVariants as works
use Rattle.gateway.specs.Work.{is_making}
use Rattle.peer_proto.proofs.IdLemmas.{oid-is}
use Rattle.sheep_node.specs.declared.ask.Ask.{Ask}
use Rattle.sheep_node.specs.declared.ask.Ask.TheVariants as asks
use Rattle.sheep_node.specs.OutsideAsks.{NamesAnObject}
use Rattle.sheep_world.specs.Asking.{ask_of_statement}
use Rattle.sheep_world.specs.BegunRequests.{WasBegun}
use Rattle.sheep_world.specs.ClientAsks.{is_read_work, is_read_ask}
use Rattle.sheep_world.specs.NodeCauses.{ClientMayRead}
use Rattle.sheep_world.specs.World.{Host, World}
use Rattle.sheep_world.proofs.AskedStatements.{next_asks}

-- what a client reads is an object of some id
pub names_read : (ask : Ask) → is_read_ask ask ≡ true → NamesAnObject ask
names_read (asks.Disk ask) reads = tt
names_read (asks.Vdi ask) reads = tt
names_read (asks.Object (works.Create oid policy size offset bytes)) reads = absurd (cc (reads))
names_read (asks.Object (works.Write oid policy offset bytes)) reads = absurd (cc (reads))
names_read (asks.Object (works.Read oid policy offset size)) reads =
    let (below, is) = and_parts (nat_lt oid (2 ^ 64)) (is_oid oid) reads in
    oid-is oid (ltb-true oid (2 ^ 64) below) is
names_read (asks.Object (works.ReadAll oid policy size)) reads = absurd (cc (reads))
names_read (asks.Entry entry) reads = tt

-- and makes nothing
pub read_makes_none : (work : ObjWork) → is_read_work work ≡ true → is_making work ≡ false
read_makes_none (works.Create oid policy size offset bytes) reads = absurd (cc (reads))
read_makes_none (works.Write oid policy offset bytes) reads = absurd (cc (reads))
read_makes_none (works.Read oid policy offset size) reads = refl
read_makes_none (works.ReadAll oid policy size) reads = absurd (cc (reads))

module _ {script : List Statement} {world : World} {host : Host} {begins : ℕ} {asked : Ask}
    (may : ClientMayRead script world host begins asked) where
  pub no_request : (req : ℕ) → begins ≡ req → request_at script req ≡ None
  no_request req same = ap (request_at script) (sym same) ∙ may.none

  -- so nothing holds of it that does of requests of the script alone
  pub no_such : (test : Statement → Bool) (req : ℕ) → begins ≡ req → option_map_or test (request_at script req) false ≡ true → ⊥
  no_such test req same is =
      let off : option_map_or test (request_at script req) false ≡ false
      = ap (λ (o : Option Statement). option_map_or test o false) (no_request req same) in
      cc (off, is)

  pub no_ask : (req : ℕ) (ask : Ask) → begins ≡ req → option_and_then ask_of_statement (request_at script req) ≡ Some ask → ⊥
  no_ask req ask same is =
      let none : option_and_then ask_of_statement (request_at script req) ≡ None
      = ap (λ (o : Option Statement). option_and_then ask_of_statement o) (no_request req same) in
      cc (none, is)

  -- no session has begun it
  pub not_begun : (session req : ℕ) → begins ≡ req → WasBegun script world.guests session req → ⊥
  not_begun session req same was =
      let of = next_asks script session was.place req was.there in
      let stands : request_at script req ≡ Some of.line = of.stands in
      let none = no_request req same in
      cc (none, stands)
