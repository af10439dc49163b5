-- What a node says of a client's ask, read as what it may be asked.
use Rattle.std.proofs.Common.{◌≡◌, ℕ, not, ◌&&◌, Bool, true, false, Option, Some, None, refl, ap, ◌∙◌}
use Rattle.std.specs.Option.{option_map, option_map_or}
use Rattle.std.specs.FinMap as tree
use Rattle.std.proofs.lemmas.Bool.{and_parts}
use Rattle.std.proofs.lemmas.Option.{same_Some}
use Rattle.object_id.specs.declared.node.NodeId.{NodeId}
use Rattle.sheep_node.specs.declared.ask.Ask.{Ask}
use Rattle.sheep_node.specs.declared.input.Input.TheVariants as inputs
use Rattle.sheep_node.specs.SpentNode.{NodeOrSpent}
use Rattle.sheep_node.specs.State.{Node, session_at}
use Rattle.sheep_node.specs.LogReading.{is_epoch_member}
use Rattle.sheep_node.specs.May.{has_numbers, has_room_for}
use Rattle.sheep_node.specs.MayTests.{is_guest_ask, may}
use Rattle.sheep_world.specs.SpentWorld.{unspent_node}
use Rattle.sheep_world.specs.World.{Host, World, host_at, is_host_up}
use Rattle.sheep_world.specs.ClientAsks.{is_answered, may_client_ask, may_be_asked}
use Rattle.step_text.specs.Traces.{may_step_on_ask}

-- what a node that was found says of it, and what is said where there is none
pub found_says : (ask : Ask) (found : NodeOrSpent) (o : Option Node) → Some found ≡ option_map unspent_node o
    → may (inputs.Guest 20000 0 ask) found.node ≡ option_map_or (λ (node : Node). may (inputs.Guest 20000 0 ask) node) o false
found_says ask found None there = absurd (cc (there))
found_says ask found (Some node) there =
    ap (λ (n : NodeOrSpent). may (inputs.Guest 20000 0 ask) n.node) (same_Some found (unspent_node node) there)

pub none_says : (ask : Ask) (o : Option Node) → None ≡ option_map unspent_node o
    → false ≡ option_map_or (λ (node : Node). may (inputs.Guest 20000 0 ask) node) o false
none_says ask None there = refl
none_says ask (Some node) there = absurd (cc (there))

-- of an input that a node may step on it may be asked what that asks
guest-asked : (req : ℕ) (ask : Ask) (node : Node) → may (inputs.Guest req 0 ask) node ≡ true → is_guest_ask node ask ≡ true
guest-asked req ask node is =
    let met = and_parts (has_numbers node) (has_room_for ask (session_at 0 node)
    && (not (tree.contains_key node.requests req) && (is_epoch_member node && is_guest_ask node ask))) is in
    let beside = and_parts (has_room_for ask (session_at 0 node))
    (not (tree.contains_key node.requests req) && (is_epoch_member node && is_guest_ask node ask)) met.1 in
    let own = and_parts (not (tree.contains_key node.requests req)) (is_epoch_member node && is_guest_ask node ask) beside.1 in
    (and_parts (is_epoch_member node) (is_guest_ask node ask) own.1).1

pub asked-by_test : (node : NodeId) (ask : Ask) (world : World) → may_step_on_ask node ask world ≡ true → may_client_ask node.0 world ≡ true
    → may_be_asked ask node.0 world ≡ true
asked-by_test node ask world is takes = by_host (host_at node.0 world) is takes
  where
    by_host : (o : Option Host)
        → option_map_or (λ (found : Node). may (inputs.Guest 20000 0 ask) found) (option_map (λ (host : Host). host.node) o) false ≡ true
        → (option_map_or (λ (host : Host). is_host_up host && is_epoch_member host.node) o false && is_answered world) ≡ true
        → option_map_or (λ (host : Host). is_host_up host && is_guest_ask host.node ask) o false ≡ true
    by_host None is takes = absurd (cc (is))
    by_host (Some host) is takes =
        let up = and_parts (is_host_up host) (is_epoch_member host.node)
        (and_parts (is_host_up host && is_epoch_member host.node) (is_answered world) takes).0 in
        ap (λ (b : Bool). b && is_guest_ask host.node ask) up.0 ∙ guest-asked 20000 ask host.node is
