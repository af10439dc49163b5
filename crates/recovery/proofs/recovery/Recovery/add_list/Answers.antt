use Rattle.std.proofs.Common.{reverse, ap, ap₂, ◌∙◌}
use Rattle.object_list.specs.Gathered.{GatheredLists}
use Rattle.recovery.specs.Shown.{NodeView}
use Rattle.recovery.specs.State.{Recovery}
use Rattle.recovery.specs.Steps.{without_unanswered, with_list_of}
use Rattle.recovery.specs.Kept.{recovery_state, current_in, older_in, ids_when_listed, shown_with_list}
use Rattle.recovery.proofs.ListedLemmas.{list_added}
use Rattle.recovery.proofs.recovery.Recovery.add_list.Goals as goal

pub returns-clause-ok : goal.returns-clause-ok
returns-clause-ok g c =
    let shown : NodeView = g.R.Rows.shown c.args.rows.now in
    let old : Recovery = record {
      me = c.self.inside.me;
      epoch = c.self.inside.epoch.0;
      members = c.self.inside.members.items;
      lists = c.self.inside.lists;
      missing = reverse c.self.inside.missing.items;
      search = c.self.inside.search;
      unanswered = current_in c.self.inside.me c.self.inside.flight;
      older = older_in c.self.inside.me c.self.inside.flight;
    } in
    c.forget.ensures (g.R.Rows.shown c.show_pending.new.rows)
    ∙ ap₂ (λ (lists : GatheredLists) (s : NodeView). without_unanswered c.args.number (recovery_state (record old { lists = lists }) s)) c.in_ok-lists.ensures
    (c.show_pending.ensures.shown
    ∙ ap (λ oids. shown_with_list oids shown)
    (c.in_ok-pending.ensures ∙ ap (λ (lists : GatheredLists). ids_when_listed old.me old.epoch lists shown) c.in_ok-lists.ensures))
    ∙ list_added c.args.number c.args.from c.args.oids.now old shown
    ∙ ap (λ (r : Recovery). with_list_of c.args.from c.args.oids.now (without_unanswered c.args.number (recovery_state r shown))) c.self.view_is
