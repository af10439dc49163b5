-- What is above an id that is above another one is above that, whatever the log.
use Rattle.std.proofs.Common.{◌≡◌, ⊎_elim, arith, ℕ, zero, suc, ◌+◌, ◌<◌, ◌==◌, true, List, sym, ap, ◌∙◌}
use Rattle.std.proofs.lemmas.Bool.{or_right}
use Rattle.object_id.specs.declared.entry.Entry.{Entry}
use Rattle.vdi_directory.specs.declared.effect.Effect.{Effect}
use Rattle.vdi_directory.specs.Chains.{is_above, grant_place}
use Rattle.vdi_directory.specs.Decisions.{log_effects}
use Rattle.vdi_directory.specs.References.{parent_of}
use Rattle.vdi_directory.proofs.ChainLemmas.{is_parent_or_above}
use Rattle.vdi_directory.proofs.DeadLemmas.{parent-cases}
use Rattle.vdi_directory.proofs.LineLemmas.{IsLine, line-log_effects, above-line}

module _ (before : List Effect) (line : IsLine before) where
  goes_from : (left elder middle vid : ℕ) → grant_place before vid < left → is_above before elder middle ≡ true
      → is_above before middle vid ≡ true → is_above before elder vid ≡ true
  goes_from zero elder middle vid below first second = absurd (omega (arith, below))
  goes_from (suc left) elder middle vid below first second =
      let (parent, from, found) = parent-cases before middle (parent_of before vid) (sym (above-line before line middle vid) ∙ second) in
      let younger : grant_place before parent.0 < grant_place before vid = line.older vid parent from in
      let so : is_above before elder parent.0 ≡ true = ⊎_elim
      (λ (same : parent.0 ≡ middle). ap (is_above before elder) same ∙ first)
      (λ (far : is_above before middle parent.0 ≡ true). goes_from left elder middle parent.0 (omega (arith, below, younger)) first far)
      found in
      above-line before line elder vid
      ∙ ap (is_parent_or_above (is_above before) elder) from
      ∙ or_right (parent.0 == elder) (is_above before elder parent.0) so

pub above_goes_on : (log : List Entry) (elder middle vid : ℕ) → is_above (log_effects log) elder middle ≡ true
    → is_above (log_effects log) middle vid ≡ true → is_above (log_effects log) elder vid ≡ true
above_goes_on log elder middle vid =
    goes_from (log_effects log) (line-log_effects log) (grant_place (log_effects log) vid + 1) elder middle vid (omega arith)
