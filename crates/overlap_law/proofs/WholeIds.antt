-- The ids whose entries count, as the inode of a disk or snapshot is read, are the disk's own and all above it: it stays so as the log
-- grows.
use Rattle.std.proofs.Common.{◌≡◌, ◌⊎◌, inl, inr, ⊎_elim, ℕ, ◌==◌, Bool, true, false, cond, List, [], ◌∷◌, ◌++◌, Option, Some, None}
use Rattle.std.proofs.Common.{is_some, option_map, refl, sym, ap, ◌∙◌}
use Rattle.std.specs.List.{list_any}
use Rattle.object_id.specs.declared.entry.Entry.{Entry}
use Rattle.object_id.specs.declared.entry.VdiSpec.{VdiSpec}
use Rattle.vdi_directory.specs.Chains.{is_above}
use Rattle.vdi_directory.specs.Decisions.{outcome, log_effects}
use Rattle.vdi_directory.specs.Effects.{grants, is_used, header_of}
use Rattle.vdi_directory.specs.declared.effect.Effect.{Effect}
use Rattle.vdi_directory.specs.declared.effect.Effect.TheVariants as effects
use Rattle.vdi_directory.specs.declared.header.Header.{Header}
use Rattle.vdi_directory.proofs.ChainLemmas.{is_parent_or_above, above_after, is_above-push}
use Rattle.vdi_directory.proofs.LineLemmas.{line-log_effects}
use Rattle.vdi_directory.proofs.StateLemmas.{log_effects-push}
use Rattle.overlap_law.specs.LastReads.{was_snapped}
use Rattle.overlap_law.specs.Each.{spec_in}
use Rattle.overlap_law.proofs.SnapshotChains.{was_then}
use Rattle.overlap_law.proofs.GrantedEpochs.{from_front, not_again, spec_stays}

-- these ids are a disk's own and all above it, and it became a snapshot, if one is opened
pub record AreWholeIds (log : List Entry) (vid : ℕ) (snapshot : Bool) (spec : VdiSpec) (ids : List ℕ) : Type 0 where
  pub snapped : snapshot ≡ true → was_snapped log vid ≡ true
  pub made : spec_in (log_effects log) vid ≡ Some spec
  pub each : (elder : ℕ) → (elder ≡ vid) ⊎ (is_above (log_effects log) elder vid ≡ true) → list_any (λ id. id == elder) ids ≡ true

-- what was made has an id that is used
made_used : (log : List Entry) (vid : ℕ) (spec : VdiSpec) → spec_in (log_effects log) vid ≡ Some spec → is_used (log_effects log) vid ≡ true
made_used log vid spec made = by_header (header_of (log_effects log) vid) refl
  where
    by_header : (o : Option Header) → header_of (log_effects log) vid ≡ o → is_used (log_effects log) vid ≡ true
    by_header None none =
        let known : spec_in (log_effects log) vid ≡ None = ap (option_map (λ (h : Header). h.spec)) none in absurd (cc (known, made))
    by_header (Some header) there = (line-log_effects log).known vid ∙ ap is_some there

-- what is above it was so before
above_before : (log : List Entry) (entry : Entry) (elder vid : ℕ) → is_used (log_effects log) vid ≡ true
    → is_above (log_effects (log ++ entry ∷ [])) elder vid ≡ true → is_above (log_effects log) elder vid ≡ true
above_before log entry elder vid used above =
    by_effect made (not_again log entry vid used)
    (sym (ap (λ (known : List Effect). is_above known elder vid) (log_effects-push log entry) ∙ is_above-push (log_effects log) elder vid
    made)
    ∙ above)
  where
    made : Effect
    made = (outcome (log_effects log) entry).effect

    by_effect : (effect : Effect) → grants vid effect ≡ false → above_after (is_above (log_effects log)) effect elder vid ≡ true
        → is_above (log_effects log) elder vid ≡ true
    by_effect effects.Nothing other above = above
    by_effect (effects.Reserved grant) other above =
        sym (ap
        (λ (b : Bool). cond b (is_parent_or_above (is_above (log_effects log)) elder grant.header.parent)
        (is_above (log_effects log) elder vid))
        other) ∙ above
    by_effect (effects.Published of name) other above = above
    by_effect (effects.Snapped snap) other above = above
    by_effect (effects.Deleted of name) other above = above
    by_effect (effects.Held of holder) other above = above
    by_effect (effects.Freed of) other above = above
    by_effect (effects.Withdrawn of) other above = above
    by_effect (effects.Left node) other above = above

pub whole_next : (vid : ℕ) (snapshot : Bool) (spec : VdiSpec) (ids : List ℕ) (log : List Entry) (entry : Entry)
    → AreWholeIds log vid snapshot spec ids → AreWholeIds (log ++ entry ∷ []) vid snapshot spec ids
whole_next vid snapshot spec ids log entry is = record {
  snapped = λ opens. was_then log entry vid (is.snapped opens);
  made = spec_stays log (entry ∷ []) vid spec is.made;
  each = λ elder of. is.each elder (⊎_elim
      (λ (own : elder ≡ vid). inl own)
      (λ (above : is_above (log_effects (log ++ entry ∷ [])) elder vid ≡ true).
      inr (above_before log entry elder vid (made_used log vid spec is.made) above))
      of);
}

pub whole_later : (vid : ℕ) (snapshot : Bool) (spec : VdiSpec) (ids : List ℕ) (log later : List Entry)
    → AreWholeIds log vid snapshot spec ids → AreWholeIds (log ++ later) vid snapshot spec ids
whole_later vid snapshot spec ids log later =
    from_front (λ (log : List Entry). AreWholeIds log vid snapshot spec ids) (whole_next vid snapshot spec ids) log later

pub snapped_later : (vid : ℕ) (log later : List Entry) → was_snapped log vid ≡ true → was_snapped (log ++ later) vid ≡ true
snapped_later vid log later =
    from_front (λ (log : List Entry). was_snapped log vid ≡ true) (λ log entry. was_then log entry vid) log later
