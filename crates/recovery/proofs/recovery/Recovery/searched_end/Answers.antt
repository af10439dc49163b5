use Rattle.std.proofs.Common.{◌≡◌, true, Option, ap, sym, ◌∙◌}
use Rattle.std.specs.List.{list_any}
use Rattle.std.specs.Option.{option_copied, option_map}
use Rattle.peer_proto.specs.declared.say.PeerSay.{PeerSay}
use Rattle.recovery.specs.Shown.{NodeView}
use Rattle.recovery.specs.State.{Search, Recovery, RecoveryState, search_on}
use Rattle.recovery.specs.Level.{is_of_search}
use Rattle.recovery.specs.Steps.{search_after_answer, without_unanswered}
use Rattle.recovery.specs.Kept.{recovery_state}
use Rattle.recovery.proofs.ReplyLemmas.{still_kept, read_noted}
use Rattle.recovery.proofs.recovery.Recovery.searched_end.Goals as goal

pub returns-in_ok-note-clause-ok : goal.returns-in_ok-note-clause-ok
returns-in_ok-note-clause-ok g c =
    let shown : NodeView = g.R.Rows.shown c.args.rows.now in
    let said : Option PeerSay = option_copied c.args.said in
    let now : Recovery = c.args.self.now in
    let let_go : RecoveryState = without_unanswered c.args.number (recovery_state now shown) in
    let kept : search_on (recovery_state now shown) ≡ now.search = still_kept shown.pending now.search c.args.oid c.requires.searched in
    let others : list_any (is_of_search c.args.oid) let_go.recovery.unanswered ≡ true
    = sym c.waits_for_others.ensures ∙ c.if-waits_for_others.true in
    c.forget.ensures shown
    ∙ ap (λ (r : Recovery). without_unanswered c.args.number (recovery_state r shown)) c.in_ok-note.ensures.ok
    ∙ ap (λ (o : Option Search). record let_go { recovery = record let_go.recovery { search = option_map (search_after_answer c.args.from said) o } }) (sym kept)
    ∙ sym (read_noted c.args.oid c.args.from said (search_on (recovery_state now shown)) let_go c.requires.searched others)
