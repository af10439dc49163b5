-- Where a client may read, the node that it asks may step on that: no request has its number, and session 0 has room for it.
use Rattle.std.proofs.Common.{◌≡◌, arith, ℕ, ◌+◌, ◌<◌, nat_le, Bool, true, false, not, ◌&&◌, List, length, Option, Some, None, is_none}
use Rattle.std.proofs.Common.{is_some, refl, ap, ◌∙◌}
use Rattle.std.specs.Option.{option_map_or}
use Rattle.std.specs.FinMap as tree
use Rattle.std.proofs.lemmas.Bool.{and_parts, leb-true, eqb-true}
use Rattle.object_id.specs.Oid.{kind_of}
use Rattle.object_id.specs.Same.{is_same_policy}
use Rattle.object_id.specs.declared.entry.VdiSpec.{VdiSpec}
use Rattle.object_id.specs.declared.oid.Kind.{Kind}
use Rattle.object_id.specs.declared.oid.Kind.TheVariants.{Block, Inode}
use Rattle.object_id.specs.declared.policy.Policy.{Policy}
use Rattle.object_id.specs.declared.policy.Policy.TheVariants.{Copies, Coded}
use Rattle.object_id.proofs.SameLemmas.{policies_decided}
use Rattle.gateway_queue.specs.declared.queue.Queued.{Queued}
use Rattle.gf256.specs.Part.{IsAligned}
use Rattle.cluster_script.specs.declared.statement.Statement.{Statement}
use Rattle.peer_proto.specs.declared.work.ObjWork.TheVariants as works
use Rattle.peer_service.specs.State.{spec_of, object_size}
use Rattle.sheep_node.specs.declared.ask.Ask.{Ask}
use Rattle.sheep_node.specs.declared.ask.Ask.TheVariants as asks
use Rattle.sheep_node.specs.declared.course.Request.{Request}
use Rattle.sheep_node.specs.declared.input.Input.TheVariants as inputs
use Rattle.sheep_node.specs.May.{has_numbers, has_room_for, IsGuestAsk, May}
use Rattle.sheep_node.specs.MayTests.{is_aligned, is_work_by_spec, is_guest_ask}
use Rattle.sheep_node.specs.SessionQueues.{command_in, CommandsAreAlone}
use Rattle.sheep_node.specs.State.{Node, session_at}
use Rattle.sheep_world.specs.declared.progress.ClientAsk.{ClientAsk}
use Rattle.sheep_world.specs.AsksOfClients.{ClientsAsk}
use Rattle.sheep_world.specs.ClientAsks.{next_ask_number, is_answered, is_read_ask}
use Rattle.sheep_world.specs.Meets.{MeetsBeside}
use Rattle.sheep_world.specs.NodeCauses.{ClientAsks, ClientMayRead}
use Rattle.sheep_world.specs.World.{Host, World, host_at, is_host_up}

-- ---- what is asked is as it may be

aligned_by : (policy : Policy) (kind : Kind) (n : ℕ) → is_aligned policy kind n ≡ true → IsAligned policy kind n
aligned_by (Copies copies) kind n is = tt
aligned_by (Coded d p) Block n is = eqb-true _ 0 is
aligned_by (Coded d p) Inode n is = tt

pub read_asked : (node : Node) (ask : Ask) → is_read_ask ask ≡ true → is_guest_ask node ask ≡ true → IsGuestAsk node ask
read_asked node (asks.Disk ask) reads asked = absurd (cc (reads))
read_asked node (asks.Vdi ask) reads asked = absurd (cc (reads))
read_asked node (asks.Object (works.Create oid policy size offset bytes)) reads asked = absurd (cc (reads))
read_asked node (asks.Object (works.Write oid policy offset bytes)) reads asked = absurd (cc (reads))
read_asked node (asks.Object (works.Read oid policy offset size)) reads asked = by_spec (spec_of node.peer oid) refl asked
  where
    by_spec : (o : Option VdiSpec) → spec_of node.peer oid ≡ o → is_work_by_spec (works.Read oid policy offset size) o ≡ true
        → IsGuestAsk node (asks.Object (works.Read oid policy offset size))
    by_spec None known is = absurd (cc (is))
    by_spec (Some spec) known is =
        let one = and_parts (is_same_policy policy spec.policy) _ is in
        let two = and_parts (nat_le (offset + size) (object_size spec (kind_of oid))) _ one.1 in
        let three = and_parts (is_aligned policy (kind_of oid) offset) (is_aligned policy (kind_of oid) size) two.1 in
        record {
          spec = spec;
          known = known;
          policy = (policies_decided policy spec.policy).0 one.0;
          inside = leb-true (offset + size) (object_size spec (kind_of oid)) two.0;
          whole = tt;
          blocks = (aligned_by policy (kind_of oid) offset three.0, aligned_by policy (kind_of oid) size three.1);
        }
read_asked node (asks.Object (works.ReadAll oid policy size)) reads asked = absurd (cc (reads))
read_asked node (asks.Entry entry) reads asked = absurd (cc (reads))

module _ (statements : List Statement) (world : World) (clients : ClientsAsk world) (n : ℕ) (host : Host) (there : host_at n world ≡ Some host)
    (is_up : is_host_up host ≡ true) (req : ℕ) (ask : Ask) (may : ClientMayRead statements world host req ask) where
  up : (not host.is_lost ≡ true) × (has_numbers host.node ≡ true)
  up = and_parts (not host.is_lost) (has_numbers host.node) is_up

  not_lost : host.is_lost ≡ false
  not_lost = by_lost host.is_lost up.0
    where
      by_lost : (b : Bool) → not b ≡ true → b ≡ false
      by_lost false is = refl
      by_lost true is = absurd (cc (is))

  -- the last ask has its reply, so no request of session 0 is left
  pub none_of_clients : (number : ℕ) (request : Request) → tree.get host.node.requests number ≡ Some request → request.session ≡ 0 → ⊥
  none_of_clients number request got zero =
      let above = ((clients.served n host there).numbered number request got).above zero in
      let waits : is_answered world ≡ false
      = ap (λ (asked : Option ClientAsk). option_map_or (λ (ask : ClientAsk). is_some ask.reply) asked true)
      (clients.waits n number host above (record { there = there; request = request; has = got }) not_lost) in
      let answered = may.answered in
      absurd (cc (waits, answered))

  -- and none has the number of this one
  pub new_number : tree.get host.node.requests req ≡ None
  new_number = by_request (tree.get host.node.requests req) refl
    where
      by_request : (o : Option Request) → tree.get host.node.requests req ≡ o → o ≡ None
      by_request None none = refl
      by_request (Some request) got =
          let below : req < next_ask_number world = clients.below n req host (record { there = there; request = request; has = got }) in
          let number : next_ask_number world ≡ req = may.number in
          absurd (omega (arith, below, number))

  module _ (alone : CommandsAreAlone host.node) where
    free : is_none (command_in 0 host.node.sessions) ≡ true
    free = by_command (command_in 0 host.node.sessions) refl
      where
        by_command : (o : Option ℕ) → command_in 0 host.node.sessions ≡ o → is_none o ≡ true
        by_command None none = refl
        by_command (Some number) is =
            let (request, got, own, sole) = alone.there 0 number is in
            absurd (none_of_clients number request got own)

    room : (ask : Ask) → is_read_ask ask ≡ true → has_room_for ask (session_at 0 host.node) ≡ true
    room (asks.Disk ask) reads = absurd (cc (reads))
    room (asks.Vdi ask) reads = absurd (cc (reads))
    room (asks.Object work) reads =
        ap (λ (b : Bool). b && nat_le (length (session_at 0 host.node).queue) 0) free
        ∙ ap (λ (queue : List Queued). nat_le (length queue) 0) (clients.served n host there).idle
    room (asks.Entry entry) reads = absurd (cc (reads))

    -- so it meets what the step asks for beside its number
    pub meets_read : MeetsBeside (ClientAsks req ask) host.node
    meets_read = (room ask may.reads, read_asked host.node ask may.reads may.asks)

    -- and may step on it
    pub steps_on_read : May (inputs.Guest req 0 ask) host.node
    steps_on_read = record {
      numbers = up.1;
      condition = record {
        room = room ask may.reads;
        number = ap (λ (o : Option Request). not (is_some o)) new_number;
        member = may.member;
        asked = read_asked host.node ask may.reads may.asks;
      };
    }
