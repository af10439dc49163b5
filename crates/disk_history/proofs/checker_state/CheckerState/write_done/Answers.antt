-- The end is told to each item of the request.
use Rattle.std.proofs.Common.{◌≡◌, true, false, refl, sym, ◌∙◌}
use Rattle.std.specs.Option.{option_map_or}
use Rattle.std.specs.Ordering.{nat_cmp}
use Rattle.std.specs.BTreeMap.{get}
use Rattle.disk_history.specs.declared.requests.Fate.TheVariants.{Done}
use Rattle.disk_history.specs.CheckerState.{may_end_in}
use Rattle.disk_history.proofs.ItemLemmas.{done_turns}
use Rattle.disk_history.proofs.CheckerViews.{shows-end, may_be_done_told}
use Rattle.disk_history.proofs.checker_state.CheckerState.write_done.Goals as goal

pub returns : goal.returns
returns c =
    let may : may_end_in (get nat_cmp c.args.self.now.requests.states c.args.req) ≡ true = sym c.may_end.ensures ∙ c.if-not-may_end.false in
    let straight : option_map_or (λ state. state.stray) (get nat_cmp c.args.self.now.requests.states c.args.req) false ≡ false = sym c.is_stray.ensures ∙ c.if-is_stray.false in
    λ ledger shows. (
      may_be_done_told (get nat_cmp c.args.self.now.requests.states c.args.req) (ledger.requests c.args.req) (shows.of_request c.args.req) may straight,
      λ legal. shows-end c.args.self.now.requests c.end.new.self c.args.self.now.disks c.args.self.now.writes.items ledger c.args.req Done _
          (done_turns c.args.req) shows may refl c.in_ok-end.ensures.states.0 c.in_ok-end.ensures.places,
    )
