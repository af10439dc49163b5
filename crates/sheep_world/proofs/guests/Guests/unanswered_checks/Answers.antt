use Rattle.std.proofs.Common.{rules, ◌≡◌, ℕ, List, ap, sym, ◌∙◌, ◌++◌, flat_map}
use Rattle.std.specs.FinMap as tree
use Rattle.proof_tools.proofs.FiniteMaps.{is_sorted-from_keys, entries-from_entries}
use Rattle.sheep_world.specs.declared.progress.SessionProgress.{SessionProgress}
use Rattle.sheep_world.specs.RepliesInParts.{checks_of_session, unanswered_checks}
use Rattle.sheep_world.proofs.guests.Guests.unanswered_checks.Goals as goal

pub loop-progress-init : goal.loop-progress-init
loop-progress-init c =
    let es : List (ℕ × SessionProgress) = c.self.inside.by_number.entries in
    let rest : c.into_iter-progress-iterator.result ≡ es = search rules in
    ap (λ checks. checks ++ flat_map (checks_of_session c.args.script.now) c.into_iter-progress-iterator.result) c.new-checks.ensures
    ∙ ap (flat_map (checks_of_session c.args.script.now))
    (rest ∙ sym (entries-from_entries es (is_sorted-from_keys es c.iter-progress-items.ensures.ordered)))
    ∙ ap (unanswered_checks c.args.script.now) c.self.view_is
