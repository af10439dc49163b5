-- The end is told to each item of the request.
use Rattle.std.proofs.Common.{◌≡◌, true, refl, sym, ◌∙◌}
use Rattle.std.specs.Ordering.{nat_cmp}
use Rattle.std.specs.BTreeMap.{get}
use Rattle.disk_history.specs.declared.requests.Fate.TheVariants.{Abandoned}
use Rattle.disk_history.specs.CheckerState.{may_end_in}
use Rattle.disk_history.proofs.ItemLemmas.{lost_turns}
use Rattle.disk_history.proofs.CheckerViews.{shows-end, may_end_told}
use Rattle.disk_history.proofs.checker_state.CheckerState.writer_lost.Goals as goal

pub returns : goal.returns
returns c =
    let may : may_end_in (get nat_cmp c.args.self.now.requests.states c.args.req) ≡ true = sym c.may_end.ensures ∙ c.if-not-may_end.false in
    λ ledger shows. (
      may_end_told (get nat_cmp c.args.self.now.requests.states c.args.req) (ledger.requests c.args.req) (shows.of_request c.args.req) may,
      λ legal. shows-end c.args.self.now.requests c.end.new.self c.args.self.now.disks c.args.self.now.writes.items ledger c.args.req Abandoned _
          (lost_turns c.args.req) shows may refl c.in_ok-end.ensures.states.0 c.in_ok-end.ensures.places,
    )
