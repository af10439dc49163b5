use Rattle.std.proofs.Common.{◌≡◌, ◌&&◌, is_some, true, ap, sym, ◌∙◌}
use Rattle.recovery.specs.State.{Recovery, recovery_awaits}
use Rattle.recovery.specs.Fits.{fits_recovery}
use Rattle.recovery.specs.Shown.{NodeView}
use Rattle.recovery.specs.Kept.{recovery_state, node_of, fits_asked}
use Rattle.recovery.proofs.FlightLemmas.{awaits_kept, fits_all}
use Rattle.recovery.proofs.recovery.Recovery.fits.Goals as goal

pub returns-then-waits_for : goal.returns-then-waits_for
returns-then-waits_for g c =
    let shown : NodeView = g.R.Rows.shown c.args.rows.now in
    let some : is_some (node_of c.args.rsp.now.number c.self.inside.flight.nodes) ≡ true
    = sym (awaits_kept c.self.inside.me c.self.inside.flight c.args.rsp.now.number)
    ∙ ap (recovery_awaits c.args.rsp.now.number) c.self.view_is ∙ sym c.waits_for.ensures ∙ c.if-waits_for.true in
    c.fits_asked.ensures
    ∙ ap (λ asked. fits_asked shown asked c.args.rsp.now.say) c.asked.ensures
    ∙ ap (λ b. b && fits_asked shown c.self.inside.flight.asked c.args.rsp.now.say) (sym some)
    ∙ sym (fits_all c.self.inside.me c.self.inside.flight shown c.args.rsp.now.number c.args.rsp.now.say)
    ∙ ap (λ (r : Recovery). fits_recovery c.args.rsp.now (recovery_state r shown)) c.self.view_is
