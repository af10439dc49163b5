use Rattle.std.proofs.Common.{◌≡◌, ◌+◌, ◌-◌, ◌∷◌, ◌++◌, length, take, drop, refl, sym, ap, subst, ◌∙◌, arith, length-drop}
use Rattle.std.proofs.lemmas.List.{take_all}
use Rattle.cluster_script.specs.Phases.{stretches}
use Rattle.cluster_script.specs.KeptIndex.{phase_entries}
use Rattle.cluster_script.proofs.Stretches.{AreBounded, bounded-from, bounded-first, bounded-rest, phases-step}
use Rattle.cluster_script.proofs.phase_entry.phase_entries.Goals as goal

pub loop-rest-init : goal.loop-rest-init
loop-rest-init c =
    let xs = c.args.statements.now in
    let k = c.setting_count.result in
    let rest : take (length xs - k) (drop k xs) ≡ drop k xs = take_all (length xs - k) (drop k xs) (omega (arith, length-drop k xs)) in
    record {
      controls = rw rest (omega (arith, length-drop k xs));
      requests = rw rest (omega (arith, length-drop k xs));
      losses = rw rest (bounded-from xs k c.requires.script);
      phases = rw (c.new-phases.ensures, rest, c.setting_count.ensures.behind) refl;
    }

pub phase_of-phase-requires-clause-losses : goal.phase_of-phase-requires-clause-losses
phase_of-phase-requires-clause-losses c =
    let whole : stretches c.loop-rest.rest.now ≡ c.split_at.result.0.now ∷ stretches c.split_at.result.1.now
    = rw (c.split_at.ensures.front, c.split_at.ensures.back) c.stretch_len.ensures.stretch in
    bounded-first c.split_at.result.0.now (stretches c.split_at.result.1.now) (subst AreBounded whole c.loop-rest.invariant.losses)

pub loop-rest-preserved : goal.loop-rest-preserved
loop-rest-preserved c =
    let whole : stretches c.loop-rest.rest.now ≡ c.split_at.result.0.now ∷ stretches c.split_at.result.1.now
    = rw (c.split_at.ensures.front, c.split_at.ensures.back) c.stretch_len.ensures.stretch in
    record {
      controls = omega (arith, c.loop-rest.invariant.controls, c.phase_of-phase.ensures.controls, c.split_at.ensures.front_len, c.split_at.ensures.back_len, c.stretch_len.ensures.within);
      requests = omega (arith, c.loop-rest.invariant.requests, c.phase_of-phase.ensures.requests, c.split_at.ensures.front_len, c.split_at.ensures.back_len, c.stretch_len.ensures.within);
      losses = bounded-rest c.split_at.result.0.now (stretches c.split_at.result.1.now) (subst AreBounded whole c.loop-rest.invariant.losses);
      phases = ap (λ xs. xs ++ phase_entries (c.loop-rest.controls + c.phase_of-phase.result.controls)
          (c.loop-rest.requests + c.phase_of-phase.result.requests) (stretches c.split_at.result.1.now)) c.in_ok-push.ensures.ok
          ∙ phases-step c.loop-rest.phases c.loop-rest.controls c.loop-rest.requests c.split_at.result.0.now
          (stretches c.split_at.result.1.now)
          c.phase_of-phase.result c.phase_of-phase.ensures.entry
          ∙ ap (λ parts. c.loop-rest.phases ++ phase_entries c.loop-rest.controls c.loop-rest.requests parts) (sym whole)
          ∙ c.loop-rest.invariant.phases;
    }
