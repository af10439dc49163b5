use Rattle.std.proofs.Common.{◌≡◌, [], ◌&&◌, not, List, Option, filter, map, reverse, ap, sym, subst, ◌∙◌}
use Rattle.std.specs.List.{enumerate_from}
use Rattle.std.specs.Option.{option_map_or}
use Rattle.object_id.specs.declared.node.NodeId.{NodeId}
use Rattle.object_id.specs.declared.policy.Policy.{Policy}
use Rattle.object_id.specs.Oid.{kind_of}
use Rattle.object_id.specs.Policy.{wanted_of}
use Rattle.object_list.specs.Gathered.{has_node, is_same_node}
use Rattle.recovery.specs.declared.in_flight.Asked.TheVariants as asked_for
use Rattle.recovery.specs.Shown.{NodeView}
use Rattle.recovery.specs.State.{Recovery}
use Rattle.recovery.specs.Tick.{level_messages, level_asked}
use Rattle.recovery.specs.Kept.{recovery_state, message_to, messages_in, current_in, older_in}
use Rattle.recovery.proofs.recovery.Recovery.flight_to.Goals as goal

pub returns-clause-messages : goal.returns-clause-messages
returns-clause-messages g c =
    let shown : NodeView = g.R.Rows.shown c.args._rows.now in
    let old : Recovery = record {
      me = c.self.inside.me;
      epoch = c.self.inside.epoch.0;
      members = c.self.inside.members.items;
      lists = c.self.inside.lists;
      missing = reverse c.self.inside.missing.items;
      search = c.self.inside.search;
      unanswered = current_in c.self.inside.me c.self.inside.flight;
      older = older_in c.self.inside.me c.self.inside.flight;
    } in
    let wanted : c.wanted.result ≡ wanted_of c.args.policy (kind_of c.args.search.now.oid)
    = c.wanted.ensures ∙ ap (wanted_of c.args.policy) (c.kind.ensures ∙ ap kind_of c.oid-2.ensures) in
    let nodes : c.as_slice-2.result.now
    ≡ filter (λ (node : NodeId). has_node node old.members && not (is_same_node old.me node)) (shown.targets c.args.search.now.level c.args.search.now.oid c.args.policy)
    = c.as_slice-2.ensures.value ∙ c.in_ok-others.ensures.others
    ∙ ap (λ (members : List NodeId). filter (λ (node : NodeId). has_node node members && not (is_same_node old.me node)) c.args.targets.now) c.as_slice.ensures.value
    ∙ ap (filter (λ (node : NodeId). has_node node old.members && not (is_same_node old.me node))) c.requires.targets in
    let sent : messages_in old.me c.in_ok-flight.flight ≡ level_asked c.args.first (recovery_state old shown) c.args.search.now c.args.policy
    = ap (messages_in old.me) c.in_ok-flight.ensures
    ∙ (λ i. map (message_to old.me old.epoch (asked_for.Rows (c.oid.ensures i) (record { 0 = c.level.ensures i }) (wanted i))) (enumerate_from c.args.first (nodes i))) in
    subst (λ (r : Recovery). messages_in r.me c.in_ok-flight.flight ≡ level_messages c.args.first (recovery_state r shown) c.args.search.now) c.self.view_is
    (sent ∙ sym (ap (λ (o : Option Policy). option_map_or (level_asked c.args.first (recovery_state old shown) c.args.search.now) o []) c.requires.policy))
