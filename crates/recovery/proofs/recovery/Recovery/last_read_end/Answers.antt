use Rattle.std.proofs.Common.{◌≡◌, ℕ, Option, ap, sym, subst, ◌∙◌}
use Rattle.std.specs.Option.{IfSome, option_copied}
use Rattle.peer_proto.specs.declared.say.PeerSay.{PeerSay}
use Rattle.recovery.specs.declared.level_end.LevelEnd.{LevelEnd}
use Rattle.recovery.specs.Shown.{NodeView}
use Rattle.recovery.specs.State.{Search, Recovery}
use Rattle.recovery.specs.Steps.{search_after_answer, without_unanswered}
use Rattle.recovery.specs.Kept.{recovery_state, level_end, state_after_level}
use Rattle.recovery.specs.Step.{IsFittingSay, MayEndLevel}
use Rattle.recovery.proofs.EndLemmas.{may-end}
use Rattle.recovery.proofs.ReplyLemmas.{some_search, last_end}
use Rattle.recovery.proofs.recovery.Recovery.last_read_end.Goals as goal

pub end_after-requires : goal.end_after-requires
end_after-requires g c =
    let shown : NodeView = g.R.Rows.shown c.args.rows.now in
    let said : Option PeerSay = option_copied c.args.said in
    let now : Recovery = c.args.self.now in
    let found = some_search c.args.oid now.search c.requires.searched in
    subst (λ (o : Option Search). IfSome o (λ (search : Search). MayEndLevel now.epoch shown (search_after_answer c.args.from said search))) (sym found.1)
    (may-end (recovery_state now shown) found.0 c.args.from said c.requires.step found.1
    (subst (λ (k : ℕ). IfSome said (IsFittingSay shown k)) (sym found.2) c.requires.fits))

pub returns-clause-ok : goal.returns-clause-ok
returns-clause-ok g c =
    let shown : NodeView = g.R.Rows.shown c.args.rows.now in
    let said : Option PeerSay = option_copied c.args.said in
    let now : Recovery = c.args.self.now in
    let found = some_search c.args.oid now.search c.requires.searched in
    let end : c.in_ok-end.end ≡ level_end now.me now.epoch shown (search_after_answer c.args.from said found.0)
    = subst (λ (o : Option Search). IfSome o (λ (search : Search). c.in_ok-end.end ≡ level_end now.me now.epoch shown (search_after_answer c.args.from said search)))
    found.1 c.in_ok-end.ensures.end in
    c.forget.ensures (g.R.Rows.shown c.end_level.new.rows)
    ∙ ap (without_unanswered c.args.number) c.in_ok-end_level.ensures.ok
    ∙ ap (λ (r : Recovery). without_unanswered c.args.number (state_after_level c.args.oid c.in_ok-end.end (recovery_state r shown))) c.end_after.ensures.same
    ∙ ap (λ (e : LevelEnd). without_unanswered c.args.number (state_after_level c.args.oid e (recovery_state now shown))) end
    ∙ last_end c.args.number c.args.oid c.args.from said now.search found.0 (recovery_state now shown) found.1 found.2
