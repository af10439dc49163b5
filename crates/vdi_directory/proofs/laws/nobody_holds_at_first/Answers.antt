use Rattle.std.proofs.Common.{ap, sym, ◌∙◌}
use Rattle.std.specs.Ordering.{nat_cmp}
use Rattle.std.specs.FinMap as tree
use Rattle.vdi_directory.specs.Effects.{holder_of}
use Rattle.vdi_directory.proofs.StateLemmas.{log_effects-none}
use Rattle.vdi_directory.proofs.laws.nobody_holds_at_first.Goals as goal

pub returns : goal.returns
unfolding holder_of
returns c = λ vid. tree.get-empty nat_cmp vid ∙ sym (ap (λ before. holder_of before vid) log_effects-none)
