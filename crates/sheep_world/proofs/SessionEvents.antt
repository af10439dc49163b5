-- The sessions of a script rise by number: so their events are found by going up the numbers, of which those without a session have none.
use Rattle.std.proofs.Common.{◌≡◌, arith, ℕ, zero, suc, ◌+◌, ◌<◌, ◌≤◌, ◌==◌, Bool, true, false, cond, List, [], ◌∷◌, ◌++◌, map, filter}
use Rattle.std.proofs.Common.{Option, Some, None, refl, sym, ap, subst, ◌∙◌, if◌then◌else◌}
use Rattle.std.specs.Prelude.{nat_lt, ◌||◌, ◌-◌}
use Rattle.std.specs.List.{find, list_any, range_with_len}
use Rattle.std.specs.Option.{option_map_or}
use Rattle.std.proofs.lemmas.Bool.{ltb-true, ltb-false, eqb-true, eqb-false, eq-eqb, ne_eqb, or_right}
use Rattle.cluster_script.specs.declared.statement.Statement.{Statement}
use Rattle.cluster_script.specs.declared.statement.Statement.TheVariants as lines
use Rattle.cluster_script.specs.Statements.{is_session_declared, declares}
use Rattle.cluster_script.specs.Language.{EachMayStand, IsScript}
use Rattle.cluster_script.specs.Sessions.{ScriptSession, sessions_with, sessions_from, sessions_of, incarnation_after, has_session_number}
use Rattle.cluster_script.proofs.ScriptFacts.{any-before}
use Rattle.sheep_node.specs.declared.event.Event.{Event}
use Rattle.sheep_node.specs.declared.event.Event.TheVariants as events
use Rattle.sheep_world.specs.World.{World}
use Rattle.sheep_world.specs.Conditions.{may_ask}
use Rattle.sheep_world.specs.Enabled.{is_enabled, guest_events}

-- the numbers rise from this one, and stay below 65
unfoldable pub Rises : ℕ → List ScriptSession → Type 0
Rises least [] = Unit {0}
Rises least (first ∷ later) = (least ≤ first.number) × (first.number < 65) × Rises (suc first.number) later

-- no session of a number that isn't declared
other-with : (number : ℕ) (session : ScriptSession) (sessions : List ScriptSession) → (session.number == number) ≡ false
    → find (has_session_number number) sessions ≡ None → find (has_session_number number) (sessions_with session sessions) ≡ None
other-with number session [] other none = ap (λ b. cond b (Some session) None) other
other-with number session (first ∷ later) other none =
    go (first.number == number) refl none (nat_lt session.number first.number) (other-with number session later other)
  where
    found : (before here : Bool) → (first.number == number) ≡ here → find (has_session_number number) later ≡ None
        → find (has_session_number number) (sessions_with session later) ≡ None → here ≡ false
        → find (has_session_number number) (if before then session ∷ first ∷ later else first ∷ sessions_with session later) ≡ None
    found true here is none rest off =
        ap (λ b. cond b (Some session) (find (has_session_number number) (first ∷ later))) other
        ∙ ap (λ b. cond b (Some first) (find (has_session_number number) later)) (is ∙ off) ∙ none
    found false here is none rest off =
        ap (λ b. cond b (Some first) (find (has_session_number number) (sessions_with session later))) (is ∙ off) ∙ rest

    go : (here : Bool) → (first.number == number) ≡ here → cond here (Some first) (find (has_session_number number) later) ≡ None
        → (before : Bool)
        → (find (has_session_number number) later ≡ None → find (has_session_number number) (sessions_with session later) ≡ None)
        → find (has_session_number number) (if before then session ∷ first ∷ later else first ∷ sessions_with session later) ≡ None
    go true is none before rest = absurd (cc (none))
    go false is none before rest = found before false is none (rest none) refl

absent : (number : ℕ) (before rest : List Statement) → is_session_declared number rest ≡ false
    → find (has_session_number number) (sessions_from before rest) ≡ None
absent number before [] none = refl
absent number before (lines.Session session node ∷ rest) none =
    go (session == number) refl none (absent number (before ++ lines.Session session node ∷ []) rest)
  where
    go : (same : Bool) → (session == number) ≡ same → (same || is_session_declared number rest) ≡ false
        → (is_session_declared number rest ≡ false
        → find (has_session_number number) (sessions_from (before ++ lines.Session session node ∷ []) rest) ≡ None)
        → find (has_session_number number)
        (sessions_with (record { number = session; node = node; incarnation = incarnation_after before node })
        (sessions_from (before ++ lines.Session session node ∷ []) rest)) ≡ None
    go true is now later = absurd (cc (now))
    go false is now later = other-with number _ (sessions_from (before ++ lines.Session session node ∷ []) rest) is (later now)
absent number before (s ∷ rest) none = absent number (before ++ s ∷ []) rest none

-- a session is declared once
not-again : (number : ℕ) (before rest : List Statement) → is_session_declared number before ≡ true → EachMayStand before rest
    → is_session_declared number rest ≡ false
not-again number before [] known each = refl
not-again number before (lines.Session session node ∷ rest) known each =
    go (session == number) refl
    (not-again number (before ++ lines.Session session node ∷ []) rest
    (any-before (declares number) before (lines.Session session node ∷ []) known) each.1)
  where
    go : (same : Bool) → (session == number) ≡ same → is_session_declared number rest ≡ false
        → (same || is_session_declared number rest) ≡ false
    go true is later =
        let there : is_session_declared session before ≡ true
        = ap (λ (k : ℕ). is_session_declared k before) (eqb-true session number is) ∙ known in
        let never : true ≡ false = sym there ∙ each.0.1 in
        absurd (cc (never))
    go false is later = later
not-again number before (s ∷ rest) known each =
    not-again number (before ++ s ∷ []) rest (any-before (declares number) before (s ∷ []) known) each.1

Rises-with : (least : ℕ) (session : ScriptSession) (sessions : List ScriptSession) → least ≤ session.number → session.number < 65
    → find (has_session_number session.number) sessions ≡ None → Rises least sessions → Rises least (sessions_with session sessions)
unfolding Rises
Rises-with least session [] below within none up = (below, within, tt)
Rises-with least session (first ∷ later) below within none up =
    go (first.number == session.number) refl none (nat_lt session.number first.number) refl
    (λ above last. Rises-with (suc first.number) session later above within last up.2)
  where
    go : (same : Bool) → (first.number == session.number) ≡ same
        → cond same (Some first) (find (has_session_number session.number) later) ≡ None
        → (before : Bool) → nat_lt session.number first.number ≡ before
        → (suc first.number ≤ session.number → find (has_session_number session.number) later ≡ None
        → Rises (suc first.number) (sessions_with session later))
        → Rises least (if before then session ∷ first ∷ later else first ∷ sessions_with session later)
    go true is none before h rest = absurd (cc (none))
    go false is none true h rest =
        let less : session.number < first.number = ltb-true session.number first.number h in
        (below, within, (omega (arith, less), up.1, up.2))
    go false is none false h rest =
        let most : first.number ≤ session.number = ltb-false session.number first.number h in
        let other = eqb-false first.number session.number is in
        (up.0, up.1, rest (omega (arith, most, other)) none)

Rises-from : (before rest : List Statement) → EachMayStand before rest → Rises 0 (sessions_from before rest)
unfolding Rises
Rises-from before [] each = tt
Rises-from before (lines.Session session node ∷ rest) each =
    let most : session ≤ 64 = each.0.3 in
    let declared : is_session_declared session (before ++ lines.Session session node ∷ []) ≡ true = last-declares session node before in
    Rises-with 0 (record { number = session; node = node; incarnation = incarnation_after before node })
    (sessions_from (before ++ lines.Session session node ∷ []) rest) (omega arith) (omega (arith, most))
    (absent session (before ++ lines.Session session node ∷ []) rest
    (not-again session (before ++ lines.Session session node ∷ []) rest declared each.1))
    (Rises-from (before ++ lines.Session session node ∷ []) rest each.1)
  where
    last-declares : (session node : ℕ) (before : List Statement)
        → is_session_declared session (before ++ lines.Session session node ∷ []) ≡ true
    last-declares session node [] = ap (λ b. b || false) (eq-eqb session session refl)
    last-declares session node (s ∷ before) = or_right (declares session s) _ (last-declares session node before)
Rises-from before (s ∷ rest) each = Rises-from (before ++ s ∷ []) rest each.1

lower : (least more : ℕ) (sessions : List ScriptSession) → least ≤ more → Rises more sessions → Rises least sessions
unfolding Rises
lower least more [] below up = tt
lower least more (first ∷ later) below up = (omega (arith, below, up.0), up.1, up.2)

none-below : (number least : ℕ) (sessions : List ScriptSession) → number < least → Rises least sessions
    → find (has_session_number number) sessions ≡ None
unfolding Rises
none-below number least [] less up = refl
none-below number least (first ∷ later) less up =
    ap (λ b. cond b (Some first) (find (has_session_number number) later))
    (ne_eqb first.number number (λ same. omega (arith, less, up.0, same)))
    ∙ none-below number (suc first.number) later (omega (arith, less, up.0)) up.2

module _ (test : Event → Bool) where
  abbrev passed : List Event → List Event
  passed xs = filter test xs

  abbrev of_sessions : List ScriptSession → List Event
  of_sessions sessions = map (λ (session : ScriptSession). events.Guest session.number) sessions

  abbrev numbered : ℕ → ℕ → List Event
  numbered least count = map events.Guest (range_with_len least count)

  -- the events of the numbers are those of the sessions, where only numbers of sessions pass
  by-number : (count least : ℕ) (sessions : List ScriptSession) → least + count ≡ 65 → Rises least sessions
      → ((number : ℕ) → least ≤ number → find (has_session_number number) sessions ≡ None → test (events.Guest number) ≡ false)
      → passed (numbered least count) ≡ passed (of_sessions sessions)
  unfolding Rises
  by-number zero least [] full up none = refl
  by-number zero least (first ∷ later) full up none = absurd (omega (arith, full, up.0, up.1))
  by-number (suc count) least [] full up none =
      ap (λ b. cond b (events.Guest least ∷ passed (numbered (least + 1) count)) (passed (numbered (least + 1) count)))
      (none least (omega arith) refl)
      ∙ by-number count (least + 1) [] (omega (arith, full)) tt (λ number above. none number (omega (arith, above)))
  by-number (suc count) least (first ∷ later) full up none =
      go (first.number == least) refl (by-number count (least + 1) later (omega (arith, full)))
      (by-number count (least + 1) (first ∷ later) (omega (arith, full)))
    where
      go : (same : Bool) → (first.number == least) ≡ same
          → (Rises (least + 1) later
          → ((number : ℕ) → least + 1 ≤ number → find (has_session_number number) later ≡ None → test (events.Guest number) ≡ false)
          → passed (numbered (least + 1) count) ≡ passed (of_sessions later))
          → (Rises (least + 1) (first ∷ later)
          → ((number : ℕ) → least + 1 ≤ number → find (has_session_number number) (first ∷ later) ≡ None
          → test (events.Guest number) ≡ false)
          → passed (numbered (least + 1) count) ≡ passed (of_sessions (first ∷ later)))
          → passed (numbered least (suc count)) ≡ passed (of_sessions (first ∷ later))
      go true is behind at =
          let same : first.number ≡ least = eqb-true first.number least is in
          ap (λ (k : ℕ). passed (events.Guest k ∷ numbered (least + 1) count)) (sym same)
          ∙ ap (λ (rest : List Event). cond (test (events.Guest first.number)) (events.Guest first.number ∷ rest) rest)
          (behind (lower (least + 1) (suc first.number) later (omega (arith, same)) up.2)
          (λ number above last. none number (omega (arith, above))
          (ap (λ b. cond b (Some first) (find (has_session_number number) later))
          (ne_eqb first.number number (λ (e : first.number ≡ number). omega (arith, above, same, e))) ∙ last)))
      go false is behind at =
          let other = eqb-false first.number least is in
          ap (λ b. cond b (events.Guest least ∷ passed (numbered (least + 1) count)) (passed (numbered (least + 1) count)))
          (none least (omega arith)
          (none-below least first.number (first ∷ later) (omega (arith, other, up.0)) (omega arith, up.1, up.2)))
          ∙ at (omega (arith, other, up.0), up.1, up.2) (λ number above. none number (omega (arith, above)))

-- the sessions' events that may happen are among those of all numbers
pub guests-by-number : (statements : List Statement) (world : World) → IsScript statements
    → filter (is_enabled statements world) (map events.Guest (range_with_len 0 65))
    ≡ filter (is_enabled statements world) (guest_events statements)
unfolding is_enabled
guests-by-number statements world script =
    by-number (is_enabled statements world) 65 0 (sessions_of statements) refl (Rises-from [] statements script)
    (λ number above none. ap (λ found. option_map_or (λ session. may_ask statements session world) found false) none)

-- going up the numbers, one at a time
pub numbers-on : (number : ℕ) → number < 65 → range_with_len number (65 - number) ≡ number ∷ range_with_len (number + 1) (65 - (number + 1))
numbers-on number less = let more : 65 - number ≡ suc (65 - (number + 1)) = omega (arith, less) in ap (range_with_len number) more

pub numbers-end : (number : ℕ) → 65 ≤ number → range_with_len number (65 - number) ≡ []
numbers-end number past = let none : 65 - number ≡ 0 = omega (arith, past) in ap (range_with_len number) none
