use Rattle.std.proofs.Common.{◌≡◌, None, List, reverse, ap, ap₂, sym, ◌∙◌}
use Rattle.object_list.specs.Gathered.{GatheredLists, gathered_of_none}
use Rattle.recovery.specs.Shown.{NodeView, shown_with_unfinished_list}
use Rattle.recovery.specs.State.{Message, Recovery}
use Rattle.recovery.specs.Steps.{when_listed, at_start, recovery_from_epoch}
use Rattle.recovery.specs.Kept.{recovery_state, current_in, older_in, ids_when_listed, shown_with_list}
use Rattle.recovery.proofs.FlightLemmas.{all_kept}
use Rattle.recovery.proofs.ListedLemmas.{recovery_begun}
use Rattle.recovery.proofs.recovery.Recovery.begin.Goals as goal

pub returns-clause-ok : goal.returns-clause-ok
unfolding recovery_from_epoch
returns-clause-ok g c =
    let shown : NodeView = g.R.Rows.shown c.args.rows.now in
    let old : Recovery = record {
      me = c.self.inside.me;
      epoch = c.self.inside.epoch.0;
      members = c.self.inside.members.items;
      lists = c.self.inside.lists;
      missing = reverse c.self.inside.missing.items;
      search = c.self.inside.search;
      unanswered = current_in c.self.inside.me c.self.inside.flight;
      older = older_in c.self.inside.me c.self.inside.flight;
    } in
    let seen : g.R.Rows.shown c.show_pending.new.rows
    ≡ shown_with_list (ids_when_listed old.me c.args.epoch.0 (gathered_of_none old.me c.args.members.now) shown) (shown_with_unfinished_list shown)
    = c.show_pending.ensures.shown
    ∙ ap₂ shown_with_list
    (c.in_ok-pending.ensures ∙ ap (λ (lists : GatheredLists). ids_when_listed old.me c.args.epoch.0 lists shown) c.in_ok-lists.ensures)
    c.start_list.ensures.shown in
    (λ i. recovery_state (record {
      me = old.me;
      epoch = c.args.epoch.0;
      members = c.in_ok-members.ensures.items i;
      lists = c.in_ok-lists.ensures i;
      missing = reverse (c.new-2.ensures.items i);
      search = None;
      unanswered = current_in old.me (c.grow_old.ensures i);
      older = older_in old.me (c.grow_old.ensures i);
    }) (seen i))
    ∙ ap (λ (ms : List Message). recovery_state (record (at_start c.args.epoch.0 c.args.members.now (recovery_state old shown)).recovery { older = ms })
    (shown_with_list (ids_when_listed old.me c.args.epoch.0 (gathered_of_none old.me c.args.members.now) shown) (shown_with_unfinished_list shown)))
    (sym (all_kept c.self.inside.me c.self.inside.flight))
    ∙ recovery_begun c.args.epoch.0 c.args.members.now old shown
    ∙ ap (λ (r : Recovery). when_listed (at_start c.args.epoch.0 c.args.members.now (recovery_state r shown))) c.self.view_is
