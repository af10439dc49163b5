-- The new write stands on the block's items so far.
use Rattle.std.proofs.Common.{refl, sym, ◌∙◌}
use Rattle.disk_history.proofs.BeginLemmas.{shows-begin-told}
use Rattle.disk_history.proofs.checker_state.CheckerState.begin.Goals as goal

pub returns : goal.returns
returns c = λ ledger shows.
    shows-begin-told c.args.self.now.requests c.begin.new.self c.args.self.now.disks c.set_newest.new.disks
    c.args.self.now.writes.items c.deref.result.now c.push.new.self.items c.len-at.result c.newest-newest.result ledger c.args.place
    (record { req = c.args.place.req; coded = c.args.coded; bytes = c.args.bytes; earlier = c.unrefused-earlier.result })
    c.deref.ensures.value c.in_ok-push.ensures.items (c.len-at.ensures ∙ sym c.deref.ensures.len) c.newest-newest.ensures
    shows refl c.requires.there c.requires.unanswered
    c.unrefused-earlier.ensures.within c.unrefused-earlier.ensures.same
    c.in_ok-set_newest.ensures c.in_ok-begin.ensures.states.0 c.in_ok-begin.ensures.places.0
