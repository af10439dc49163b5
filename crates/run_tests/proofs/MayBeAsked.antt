-- What a node says of an input, read as what it may be asked.
use Rattle.std.proofs.Common.{◌≡◌, ℕ, not, ◌&&◌, Bool, true, false, Option, Some, None, refl, sym, ap, ◌∙◌}
use Rattle.std.specs.Option.{option_map, option_map_or}
use Rattle.std.specs.FinMap as tree
use Rattle.std.proofs.lemmas.Bool.{and_parts}
use Rattle.std.proofs.lemmas.Option.{same_Some}
use Rattle.sheep_node.specs.declared.ask.Ask.{Ask}
use Rattle.sheep_node.specs.declared.input.Input.TheVariants as inputs
use Rattle.sheep_node.specs.SpentNode.{NodeOrSpent}
use Rattle.sheep_node.specs.State.{Node, session_at}
use Rattle.sheep_node.specs.LogReading.{is_epoch_member}
use Rattle.sheep_node.specs.May.{has_numbers, has_room_for}
use Rattle.sheep_node.specs.MayTests.{is_guest_ask, may}
use Rattle.sheep_world.specs.SpentWorld.{unspent_node}
use Rattle.sheep_world.specs.World.{Host, World, host_at, node_at, is_host_up}
use Rattle.sheep_world.specs.ClientAsks.{is_answered, may_client_ask, may_be_asked}

-- of an input that a node may step on it may be asked what that asks
guest-asked : (req : ℕ) (ask : Ask) (node : Node) → may (inputs.Guest req 0 ask) node ≡ true → is_guest_ask node ask ≡ true
guest-asked req ask node is =
    let met = and_parts (has_numbers node) (has_room_for ask (session_at 0 node)
    && (not (tree.contains_key node.requests req) && (is_epoch_member node && is_guest_ask node ask))) is in
    let beside = and_parts (has_room_for ask (session_at 0 node))
    (not (tree.contains_key node.requests req) && (is_epoch_member node && is_guest_ask node ask)) met.1 in
    let own = and_parts (not (tree.contains_key node.requests req)) (is_epoch_member node && is_guest_ask node ask) beside.1 in
    (and_parts (is_epoch_member node) (is_guest_ask node ask) own.1).1

pub asked-by_test : (number req : ℕ) (ask : Ask) (world : World) (found : NodeOrSpent)
    → Some found ≡ option_map unspent_node (node_at number world) → may (inputs.Guest req 0 ask) found.node ≡ true
    → may_client_ask number world ≡ true → may_be_asked ask number world ≡ true
asked-by_test number req ask world found there is takes = by_host (host_at number world) there takes
  where
    by_host : (o : Option Host) → Some found ≡ option_map unspent_node (option_map (λ (host : Host). host.node) o)
        → (option_map_or (λ (host : Host). is_host_up host && is_epoch_member host.node) o false && is_answered world) ≡ true
        → option_map_or (λ (host : Host). is_host_up host && is_guest_ask host.node ask) o false ≡ true
    by_host None there takes = absurd (cc (there))
    by_host (Some host) there takes =
        let same : found.node ≡ host.node = ap (λ (n : NodeOrSpent). n.node) (same_Some found (unspent_node host.node) there) in
        let up = and_parts (is_host_up host) (is_epoch_member host.node)
        (and_parts (is_host_up host && is_epoch_member host.node) (is_answered world) takes).0 in
        let asked : is_guest_ask host.node ask ≡ true
        = sym (ap (λ (node : Node). is_guest_ask node ask) same) ∙ guest-asked req ask found.node is in
        ap (λ (b : Bool). b && is_guest_ask host.node ask) up.0 ∙ asked
