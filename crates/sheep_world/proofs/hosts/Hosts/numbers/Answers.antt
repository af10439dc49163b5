use Rattle.std.proofs.Common.{ℕ, List, ap, sym, map, ◌∙◌}
use Rattle.std.specs.FinMap as tree
use Rattle.proof_tools.proofs.FiniteMaps.{is_sorted-from_keys, entries-from_entries}
use Rattle.sheep_world.specs.World.{Host}
use Rattle.sheep_world.proofs.hosts.Hosts.numbers.Goals as goal

pub returns : goal.returns
returns c =
    let es : List (ℕ × Host) = c.self.inside.by_number.entries in
    c.keys.ensures.rest
    ∙ ap (λ (entries : List (ℕ × Host)). map (λ (e : ℕ × Host). e.0) entries)
    (sym (entries-from_entries es (is_sorted-from_keys es c.keys.ensures.ordered)))
    ∙ ap tree.keys c.self.view_is
