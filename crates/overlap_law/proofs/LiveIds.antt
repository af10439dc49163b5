-- The ids of disks that are there by the log: they are ids, and what they were made with stays.
use Rattle.std.proofs.Common.{◌≡◌, ◌≢◌, arith, ℕ, ◌<◌, ◌≤◌, true, false, List, ◌++◌, All, Option, Some, None, is_some, option_map, refl}
use Rattle.std.proofs.Common.{sym, ap, subst, ◌∙◌}
use Rattle.object_id.specs.declared.entry.Entry.{Entry}
use Rattle.object_id.specs.declared.entry.VdiSpec.{VdiSpec}
use Rattle.object_id.specs.declared.limits.TheConstants.{OBJECTS_MAX}
use Rattle.object_id.specs.Oid.{IsVid}
use Rattle.object_id.specs.Spec.{IsSpec, objects_of}
use Rattle.epoch_log.specs.Appending.{IsReservable}
use Rattle.vdi_directory.specs.declared.header.Header.{Header}
use Rattle.vdi_directory.specs.Decisions.{log_effects}
use Rattle.vdi_directory.specs.Effects.{is_used, header_of}
use Rattle.vdi_directory.specs.States.{state_of, is_live_state}
use Rattle.vdi_directory.proofs.DeadLemmas.{live-used}
use Rattle.vdi_directory.proofs.LawfulEntries.{sound-log_effects}
use Rattle.vdi_directory.proofs.LineLemmas.{line-log_effects}
use Rattle.vdi_directory.proofs.ValidLemmas.{header-valid}
use Rattle.guest_driver.proofs.ExtentLemmas.{objects_most}
use Rattle.overlap_law.specs.Each.{spec_in}
use Rattle.overlap_law.proofs.GrantedEpochs.{spec_stays}

-- ---- ids

module _ (log : List Entry) (reservable : All IsReservable log) where
  used_known : (vid : ℕ) → is_used (log_effects log) vid ≡ true → (header : Header) × (header_of (log_effects log) vid ≡ Some header)
  used_known vid used = by_header (header_of (log_effects log) vid) refl (sym ((line-log_effects log).known vid) ∙ used)
    where
      by_header : (o : Option Header) → header_of (log_effects log) vid ≡ o → is_some (header_of (log_effects log) vid) ≡ true
          → (header : Header) × (header_of (log_effects log) vid ≡ Some header)
      by_header None is some = let none : is_some (header_of (log_effects log) vid) ≡ false = ap is_some is in absurd (cc (none, some))
      by_header (Some header) is some = (header, is)

  pub used_vid : (vid : ℕ) → is_used (log_effects log) vid ≡ true → IsVid vid
  used_vid vid used = let (header, there) = used_known vid used in (header-valid log reservable vid header there).id

  pub live_vid : (vid : ℕ) → is_live_state (state_of (log_effects log) vid) ≡ true → IsVid vid
  live_vid vid live = used_vid vid (live-used (log_effects log) (sound-log_effects log) vid live)

  pub live_real : (vid : ℕ) → is_live_state (state_of (log_effects log) vid) ≡ true → vid ≢ 0
  live_real vid live = let is = (live_vid vid live).0 in λ none. omega (arith, is, none)

  pub few_objects : (vid index : ℕ) (spec : VdiSpec) → spec_in (log_effects log) vid ≡ Some spec → index < objects_of spec
      → index < OBJECTS_MAX
  few_objects vid index spec known inside = by_header (header_of (log_effects log) vid) refl known
    where
      by_header : (o : Option Header) → header_of (log_effects log) vid ≡ o → option_map (λ (header : Header). header.spec) o ≡ Some spec
          → index < OBJECTS_MAX
      by_header None there known = absurd (cc (known))
      by_header (Some header) there known =
          let same : header.spec ≡ spec = cc (known) in
          let most : objects_of spec ≤ OBJECTS_MAX
          = objects_most spec (subst IsSpec same (header-valid log reservable vid header there).spec) in
          omega (arith, most, inside)

-- a disk that was there already was made with what it is made with by a longer log
pub spec_then : (log more later : List Entry) → later ≡ log ++ more → (vid : ℕ) (spec : VdiSpec)
    → is_live_state (state_of (log_effects log) vid) ≡ true → spec_in (log_effects later) vid ≡ Some spec
    → spec_in (log_effects log) vid ≡ Some spec
spec_then log more later longer vid spec live known =
    by_header (header_of (log_effects log) vid) refl
    (sym ((line-log_effects log).known vid) ∙ live-used (log_effects log) (sound-log_effects log) vid live)
  where
    by_header : (o : Option Header) → header_of (log_effects log) vid ≡ o → is_some (header_of (log_effects log) vid) ≡ true
        → spec_in (log_effects log) vid ≡ Some spec
    by_header None is some = let none : is_some (header_of (log_effects log) vid) ≡ false = ap is_some is in absurd (cc (none, some))
    by_header (Some header) is some =
        let was : spec_in (log_effects log) vid ≡ Some header.spec = ap (option_map (λ (header : Header). header.spec)) is in
        let now : spec_in (log_effects later) vid ≡ Some header.spec
        = ap (λ (entries : List Entry). spec_in (log_effects entries) vid) longer ∙ spec_stays log more vid header.spec was in
        was ∙ sym now ∙ known
