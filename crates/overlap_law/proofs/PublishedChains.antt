-- Of whatever log: an id that was published is used, and stays published; and what is above it became a snapshot, also if the id is
-- deleted.
use Rattle.std.proofs.Common.{◌≡◌, ⊎_elim, arith, ℕ, ◌==◌, ◌||◌, Bool, true, false, cond, List, [], ◌∷◌, ◌++◌, refl, sym, ap, ◌∙◌}
use Rattle.std.specs.List.{list_any}
use Rattle.std.proofs.lemmas.Bool.{or_cases, both_ways}
use Rattle.object_id.specs.declared.entry.Entry.{Entry}
use Rattle.vdi_directory.specs.declared.effect.Effect.{Effect}
use Rattle.vdi_directory.specs.declared.effect.Effect.TheVariants as effects
use Rattle.vdi_directory.specs.declared.effect.Grant.{Grant}
use Rattle.vdi_directory.specs.Chains.{is_above}
use Rattle.vdi_directory.specs.Decisions.{outcome, log_effects}
use Rattle.vdi_directory.specs.Effects.{is_used, grants}
use Rattle.vdi_directory.specs.States.{VdiState, Working, Snapshot, rank, state_of, state_after, is_live_state}
use Rattle.vdi_directory.proofs.ChainLemmas.{is_parent_or_above, is_above-push}
use Rattle.vdi_directory.proofs.DeadLemmas.{above-cases}
use Rattle.vdi_directory.proofs.SoundEffects.{state_of-push}
use Rattle.vdi_directory.proofs.StateLemmas.{log_effects-none, log_effects-push}
use Rattle.overlap_law.specs.Grants.{publishes}
use Rattle.overlap_law.specs.LastReads.{was_snapped}
use Rattle.overlap_law.proofs.DataOfDisks.{high_once}
use Rattle.overlap_law.proofs.DatedEffects.{by_entries}
use Rattle.overlap_law.proofs.GrantedEpochs.{from_front, not_again}
use Rattle.overlap_law.proofs.PublishedInodes.{was_published, published-push, published_stays}
use Rattle.overlap_law.proofs.ReservedSources.{used_by}
use Rattle.overlap_law.proofs.SnapshotChains.{chain_snapped, was_then}

pub published_later : (log more : List Entry) (vid : ℕ) → was_published log vid ≡ true → was_published (log ++ more) vid ≡ true
published_later log more vid was =
    from_front (λ (all : List Entry). was_published all vid ≡ true) (λ all entry is. published_stays all entry vid is) log more was

pub published_used : (log : List Entry) (vid : ℕ) → was_published log vid ≡ true → is_used (log_effects log) vid ≡ true
published_used log vid was = used_by log vid (λ unused.
    let high = high_once vid log was in
    let low : rank (state_of (log_effects log) vid) ≡ 0 = ap rank unused in
    omega (arith, high, low))

-- ---- what is published now is there

if_working : (b : Bool) (state : VdiState) → b ≡ true → is_live_state (cond b Working state) ≡ true
if_working true state is = refl
if_working false state is = absurd (cc (is))

published_live : (vid : ℕ) (state : VdiState) (effect : Effect) → publishes vid effect ≡ true
    → is_live_state (state_after vid state effect) ≡ true
published_live vid state effects.Nothing is = absurd (cc (is))
published_live vid state (effects.Reserved grant) is = absurd (cc (is))
published_live vid state (effects.Published id name) is = if_working (id.0 == vid) state is
published_live vid state (effects.Snapped snap) is = by_old (snap.old.0 == vid)
  where
    by_old : (b : Bool) → is_live_state (cond b (Snapshot snap.tag) (cond (snap.vid.0 == vid) Working state)) ≡ true
    by_old true = refl
    by_old false = if_working (snap.vid.0 == vid) state is
published_live vid state (effects.Deleted id name) is = absurd (cc (is))
published_live vid state (effects.Held id holder) is = absurd (cc (is))
published_live vid state (effects.Freed id) is = absurd (cc (is))
published_live vid state (effects.Withdrawn id) is = absurd (cc (is))
published_live vid state (effects.Left node) is = absurd (cc (is))

-- ---- what is above it

abbrev ChainsWereSnapped : List Entry → Type 0
ChainsWereSnapped log = (elder vid : ℕ) → was_published log vid ≡ true → is_above (log_effects log) elder vid ≡ true
    → was_snapped log elder ≡ true

or_none : (b : Bool) → (b || false) ≡ true → b ≡ true
or_none true is = refl
or_none false is = absurd (cc (is))

module _ (log : List Entry) (entry : Entry) (all : ChainsWereSnapped log) (elder vid : ℕ)
    (above : is_above (log_effects (log ++ entry ∷ [])) elder vid ≡ true) where
  abbrev does : Effect
  does = (outcome (log_effects log) entry).effect

  -- it was so already
  old_chain : was_published log vid ≡ true → was_snapped (log ++ entry ∷ []) elder ≡ true
  old_chain was = ⊎_elim
      (λ (old : is_above (log_effects log) elder vid ≡ true). was_then log entry elder (all elder vid was old))
      (λ (new : (grant : Grant) × (does ≡ effects.Reserved grant) × ((grant.reservation.vid.0 == vid) ≡ true)
      × (is_parent_or_above (is_above (log_effects log)) elder grant.header.parent ≡ true)).
      let again : grants vid (outcome (log_effects log) entry).effect ≡ true = ap (grants vid) new.1 ∙ new.2 in
      absurd (both_ways (grants vid (outcome (log_effects log) entry).effect) (not_again log entry vid (published_used log vid was)) again))
      (above-cases (log_effects log) does elder vid
      (sym (ap (λ (effects : List Effect). is_above effects elder vid) (log_effects-push log entry)
      ∙ is_above-push (log_effects log) elder vid does) ∙ above))

  -- or the id is published now
  new_chain : publishes vid (outcome (log_effects log) entry).effect ≡ true → was_snapped (log ++ entry ∷ []) elder ≡ true
  new_chain now =
      chain_snapped (log ++ entry ∷ []) elder vid above
      (ap (λ (effects : List Effect). is_live_state (state_of effects vid)) (log_effects-push log entry)
      ∙ ap is_live_state (state_of-push (log_effects log) does vid)
      ∙ published_live vid (state_of (log_effects log) vid) does now)

pub chain_was_snapped : (log : List Entry) (elder vid : ℕ) → was_published log vid ≡ true → is_above (log_effects log) elder vid ≡ true
    → was_snapped log elder ≡ true
chain_was_snapped = by_entries ChainsWereSnapped
    (λ elder vid is above.
    let none : was_published [] vid ≡ false = ap (list_any (publishes vid)) log_effects-none in
    absurd (cc (none, is)))
    (λ log entry all elder vid is above. ⊎_elim
    (λ (was : was_published log vid ≡ true). old_chain log entry all elder vid above was)
    (λ (new : (publishes vid (outcome (log_effects log) entry).effect || false) ≡ true).
    new_chain log entry all elder vid above (or_none (publishes vid (outcome (log_effects log) entry).effect) new))
    (or_cases (was_published log vid) (publishes vid (outcome (log_effects log) entry).effect || false)
    (sym (published-push log entry vid) ∙ is)))
