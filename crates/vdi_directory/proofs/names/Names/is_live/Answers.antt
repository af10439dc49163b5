use Rattle.std.proofs.Common.{◌≡◌, ◌||◌, nat_lt, Option, [], length, is_some, ap, sym, ◌∙◌}
use Rattle.std.specs.Option.{option_copied}
use Rattle.vdi_directory.specs.declared.named.Named.{Named}
use Rattle.vdi_directory.specs.NameRows.{Standing, standing_or_none, no_standing, standing_of}
use Rattle.vdi_directory.proofs.StandingLemmas.{filled}
use Rattle.vdi_directory.proofs.names.Names.is_live.Goals as goal

pub returns-in-None : goal.returns-in-None
returns-in-None c = λ now same.
    let none : no_standing ≡ standing_of now
    = sym (ap standing_or_none (sym c.get.ensures.value ∙ ap (option_copied {T = Named}) c.in-None.is)) ∙ same in
    filled [] now.live_snapshots (λ tag. ap (λ (s : Standing). s.tagged tag) none)
    ∙ ap (λ works. works || nat_lt 0 (length now.live_snapshots)) (ap (λ (s : Standing). is_some s.working) none)
