-- A client's read is made in a run where `World::ask` would make it, and as that makes it; and what is asked names an object.
use Rattle.std.proofs.Common.{◌≡◌, ◌<◌, ◌^◌, ℕ, nat_lt, Bool, true, false, cond, not, ◌&&◌, List, [], Option, Some, None, is_some, refl, sym, ap, ◌∙◌}
use Rattle.std.specs.Cmp.Derive.{both_true}
use Rattle.std.proofs.lemmas.Bool.{and_parts, ltb-true, lt-ltb}
use Rattle.std.proofs.lemmas.Option.{same_Some}
use Rattle.object_id.specs.declared.node.NodeId.{NodeId}
use Rattle.object_id.specs.Oid.{IsOid}
use Rattle.disk_history.specs.declared.event.HistEvent.{HistEvent}
use Rattle.cluster_script.specs.declared.statement.Statement.{Statement}
use Rattle.cluster_script.specs.Language.{IsScript}
use Rattle.cluster_script.specs.NumberedRequests.{request_at}
use Rattle.peer_proto.specs.Ids.{is_oid}
use Rattle.peer_proto.specs.declared.work.ObjWork.TheVariants as works
use Rattle.peer_proto.proofs.IdLemmas.{oid-is, oid-passes}
use Rattle.sheep_node.specs.declared.ask.Ask.{Ask}
use Rattle.sheep_node.specs.declared.ask.Ask.TheVariants as asks
use Rattle.sheep_world.specs.World.{World}
use Rattle.sheep_world.specs.Began.{Began}
use Rattle.sheep_world.specs.ClientAsks.{next_ask_number, may_client_ask, may_be_asked, is_read_ask, ReadsAnObject}
use Rattle.sheep_world.specs.ClientSteps.{ask_effect}
use Rattle.sheep_world.specs.HistoryAdditions.{replies_grown}
use Rattle.sheep_world.specs.RunsWithAsks.{Asks, may_read_object, made_by}
use Rattle.sheep_world.specs.Step.{EventOutcome, with_replies}
use Rattle.sheep_world.proofs.AskReplies.{read-adds_nothing}
use Rattle.sheep_world.proofs.AsksNumbers.{next_is_none}
use Rattle.sheep_world.proofs.ClientReads.{may_read, read_made}

module _ (statements : List Statement) (world : World) (node : NodeId) (ask : Ask) where
  abbrev result : EventOutcome
  result = with_replies statements world (ask_effect node.0 ask world)

  -- where it may be asked, it is made, and adds nothing to the history
  pub read_is_made : IsScript statements → Began statements world → may_client_ask node.0 world ≡ true → may_be_asked ask node.0 world ≡ true
      → is_read_ask ask ≡ true
      → made_by statements (Asks node ask) world ≡ Some (record { world = ask_effect node.0 ask world; grown = [] })
  read_is_made script began takes asked reads =
      let new : not (is_some (request_at statements (next_ask_number world))) ≡ true
      = ap (λ (o : Option Statement). not (is_some o)) (next_is_none statements script world began) in
      let may : may_read_object statements node ask world ≡ true = both_true (both_true (both_true takes asked) reads) new in
      let (host, there, up, caused) = may_read statements node ask world may in
      let none : result.grown ≡ []
      = ap (replies_grown statements world None) (read_made statements node.0 host ask world there caused.none)
      ∙ read-adds_nothing statements world host ask caused.none in
      ap (λ (b : Bool). cond b (Some result) None) may
      ∙ ap (λ (grown : List HistEvent). Some (record { world = ask_effect node.0 ask world; grown = grown })) none

  -- and where it is made, it may be asked
  pub made_may : (made : EventOutcome) → made_by statements (Asks node ask) world ≡ Some made
      → (may_client_ask node.0 world ≡ true) × (may_be_asked ask node.0 world ≡ true) × (is_read_ask ask ≡ true)
      × (made.world ≡ ask_effect node.0 ask world)
  made_may made = by_may (may_read_object statements node ask world) refl
    where
      by_may : (b : Bool) → may_read_object statements node ask world ≡ b → cond b (Some result) None ≡ Some made
          → (may_client_ask node.0 world ≡ true) × (may_be_asked ask node.0 world ≡ true) × (is_read_ask ask ≡ true)
          × (made.world ≡ ask_effect node.0 ask world)
      by_may false may none = absurd (cc (none))
      by_may true may so =
          let one = and_parts (may_client_ask node.0 world && may_be_asked ask node.0 world && is_read_ask ask)
          (not (is_some (request_at statements (next_ask_number world)))) may in
          let two = and_parts (may_client_ask node.0 world && may_be_asked ask node.0 world) (is_read_ask ask) one.0 in
          let three = and_parts (may_client_ask node.0 world) (may_be_asked ask node.0 world) two.0 in (
            three.0,
            three.1,
            two.1,
            ap (λ (o : EventOutcome). o.world) (sym (same_Some result made so)),
          )

-- ---- what is asked

pub names_an_object : (ask : Ask) → is_read_ask ask ≡ true → ReadsAnObject ask
names_an_object (asks.Disk ask) is = absurd (cc (is))
names_an_object (asks.Vdi ask) is = absurd (cc (is))
names_an_object (asks.Entry entry) is = absurd (cc (is))
names_an_object (asks.Object (works.Create oid policy size offset bytes)) is = absurd (cc (is))
names_an_object (asks.Object (works.Write oid policy offset bytes)) is = absurd (cc (is))
names_an_object (asks.Object (works.ReadAll oid policy size)) is = absurd (cc (is))
names_an_object (asks.Object (works.Read oid policy offset size)) is =
    let (below, named) = and_parts (nat_lt oid (2 ^ 64)) (is_oid oid) is in
    record {
      oid = oid;
      policy = policy;
      offset = offset;
      size = size;
      id = oid-is oid (ltb-true oid (2 ^ 64) below) named;
      same = refl;
    }

pub reads_where_named : (ask : Ask) → ReadsAnObject ask → is_read_ask ask ≡ true
reads_where_named ask reads =
    ap is_read_ask reads.same ∙ both_true (lt-ltb reads.oid (2 ^ 64) reads.id.0) (oid-passes reads.oid reads.id)
