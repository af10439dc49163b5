-- An id is reserved for one session: by the entry that was granted it, and for good. So an entry is one session's at most.
use Rattle.std.proofs.Common.{◌≡◌, ◌⊎◌, inl, inr, ⊎_elim, ℕ, ◌==◌, Bool, true, false, List, [], ◌∷◌, ◌++◌, Contains, refl, sym, ap, subst}
use Rattle.std.proofs.Common.{◌∙◌}
use Rattle.std.proofs.lemmas.Bool.{eq-eqb}
use Rattle.std.proofs.lemmas.List.Elements.{Contains-append_left, Contains-append_right, Contains-append_cases}
use Rattle.proof_tools.proofs.Lists.{Contains-nil, Contains-head, Contains-cons_cases, list_any-none}
use Rattle.object_id.specs.declared.entry.Entry.{Entry}
use Rattle.object_id.specs.declared.entry.Entry.TheVariants.{Format, Join, Leave, Reweight, Recovered, Reserve, Publish, Clone, Snapshot}
use Rattle.object_id.specs.declared.entry.Entry.TheVariants.{Delete, Lock, Unlock}
use Rattle.object_id.specs.declared.entry.Origin.{Origin}
use Rattle.object_id.specs.declared.node.NodeId.{NodeId}
use Rattle.object_id.specs.declared.oid.Vid.{Vid}
use Rattle.vdi_directory.specs.declared.decision.Decision.TheVariants as decisions
use Rattle.vdi_directory.specs.declared.decision.Outcome.{Outcome}
use Rattle.vdi_directory.specs.declared.effect.Effect.{Effect}
use Rattle.vdi_directory.specs.declared.effect.Effect.TheVariants as effects
use Rattle.vdi_directory.specs.declared.effect.Grant.{Grant}
use Rattle.vdi_directory.specs.Decisions.{reserve_outcome, outcome, log_effects, decision_after}
use Rattle.vdi_directory.specs.Effects.{grants, is_used}
use Rattle.vdi_directory.proofs.DecisionLaws.{grant_outcome-unused}
use Rattle.vdi_directory.proofs.StateLemmas.{log_effects-none, log_effects-push}
use Rattle.overlap_law.specs.AwaitedEntries.{WasReserved, IsSessionsEntry, IsSessionsTask, IsSessionsStage, IsSessionsCommand}
use Rattle.overlap_law.proofs.ClosedReservations.{reserves_so}
use Rattle.overlap_law.proofs.DatedEffects.{by_entries}
use Rattle.vdi_ops.specs.Op.{Task, Opening, WritingBack, Tagging, Copying, Making, OpStage, Asked, Working, Publishing, Answered, Op}

-- ---- what is granted by a reservation is reserved for who asked

module _ (before : List Effect) (by : NodeId) (session : ℕ) where
  abbrev ReservesWhat : Outcome → Type 0
  ReservesWhat made = (vid : Vid) → made.decision ≡ decisions.Granted vid
      → (grant : Grant) × (made.effect ≡ effects.Reserved grant) × (grant.reservation.vid ≡ vid) × (grant.reservation.by ≡ by)
      × (grant.reservation.session ≡ session)

  reserves : (name : List ℕ) (origin : Origin) → ReservesWhat (reserve_outcome before by session name origin)
  reserves name =
      reserves_so before by session name ReservesWhat (λ cause is vid granted. absurd (cc (granted)))
      (λ vid granted. absurd (cc (granted)))
      (λ source parent spec id vid granted.
      let same : record { 0 = id } ≡ vid = cc (granted) in (_, refl, same, refl, refl))

-- an entry that was granted an id reserved it
pub reserved_now : (entries : List Entry) (by : NodeId) (session : ℕ) (name : List ℕ) (origin : Origin) (vid : Vid)
    → decision_after entries (Reserve by session name origin) ≡ decisions.Granted vid
    → WasReserved (log_effects (entries ++ Reserve by session name origin ∷ [])) by session vid.0
reserved_now entries by session name origin vid is =
    let (grant, effect, of, own, asked) = reserves (log_effects entries) by session name origin vid is in
    record {
      grant = grant;
      there =
          subst (λ (all : List Effect). Contains all (effects.Reserved grant))
          (sym (log_effects-push entries (Reserve by session name origin)))
          (Contains-append_right (log_effects entries) ((outcome (log_effects entries) (Reserve by session name origin)).effect ∷ [])
          (effects.Reserved grant)
          (subst (λ (e : Effect). Contains (e ∷ []) (effects.Reserved grant)) (sym effect) (Contains-head (effects.Reserved grant) [])));
      id = ap (λ (v : Vid). v.0) of;
      by = own;
      of = asked;
    }

-- ---- for one session

used_there : (all : List Effect) (grant : Grant) → Contains all (effects.Reserved grant) → is_used all grant.reservation.vid.0 ≡ true
unfolding is_used
used_there all grant there = by_test (is_used all grant.reservation.vid.0) refl
  where
    by_test : (b : Bool) → is_used all grant.reservation.vid.0 ≡ b → is_used all grant.reservation.vid.0 ≡ true
    by_test true is = is
    by_test false is =
        let other_id : (grant.reservation.vid.0 == grant.reservation.vid.0) ≡ false
        = list_any-none (grants grant.reservation.vid.0) all (effects.Reserved grant) is there in
        let same_id = eq-eqb grant.reservation.vid.0 grant.reservation.vid.0 refl in
        absurd (cc (other_id, same_id))

abbrev GrantsAreApart : List Entry → Type 0
GrantsAreApart log =
    (one other : Grant) → Contains (log_effects log) (effects.Reserved one) → Contains (log_effects log) (effects.Reserved other)
    → one.reservation.vid.0 ≡ other.reservation.vid.0 → one ≡ other

grants_apart : (log : List Entry) → GrantsAreApart log
grants_apart = by_entries GrantsAreApart
    (λ one other there. absurd (Contains-nil (effects.Reserved one)
    (subst (λ (all : List Effect). Contains all (effects.Reserved one)) log_effects-none there)))
    one_more
  where
    one_more : (log : List Entry) (entry : Entry) → GrantsAreApart log → GrantsAreApart (log ++ entry ∷ [])
    one_more log entry apart one other there there_too same =
        ⊎_elim
        (λ (old : Contains (log_effects log) (effects.Reserved one)). ⊎_elim
        (λ (old_too : Contains (log_effects log) (effects.Reserved other)). apart one other old old_too same)
        (λ (new : now ≡ effects.Reserved other). absurd (not_again one other old new same))
        (cases other there_too))
        (λ (new : now ≡ effects.Reserved one). ⊎_elim
        (λ (old_too : Contains (log_effects log) (effects.Reserved other)). absurd (not_again other one old_too new (sym same)))
        (λ (new_too : now ≡ effects.Reserved other). cc (new, new_too))
        (cases other there_too))
        (cases one there)
      where
        now : Effect
        now = (outcome (log_effects log) entry).effect

        cases : (grant : Grant) → Contains (log_effects (log ++ entry ∷ [])) (effects.Reserved grant)
            → Contains (log_effects log) (effects.Reserved grant) ⊎ (now ≡ effects.Reserved grant)
        cases grant there = ⊎_elim
            (λ (old : Contains (log_effects log) (effects.Reserved grant)). inl old)
            (λ (new : Contains (now ∷ []) (effects.Reserved grant)). ⊎_elim
            (λ (is : now ≡ effects.Reserved grant). inr is)
            (λ (none : Contains [] (effects.Reserved grant)). absurd (Contains-nil (effects.Reserved grant) none))
            (Contains-cons_cases now [] (effects.Reserved grant) new))
            (Contains-append_cases (log_effects log) (now ∷ []) (effects.Reserved grant)
            (subst (λ (all : List Effect). Contains all (effects.Reserved grant)) (log_effects-push log entry) there))

        not_again : (was is : Grant) → Contains (log_effects log) (effects.Reserved was) → now ≡ effects.Reserved is
            → was.reservation.vid.0 ≡ is.reservation.vid.0 → ⊥
        not_again was is old new same =
            let used : is_used (log_effects log) is.reservation.vid.0 ≡ true
            = ap (is_used (log_effects log)) (sym same) ∙ used_there (log_effects log) was old in
            let unused : is_used (log_effects log) is.reservation.vid.0 ≡ false = (grant_outcome-unused log entry is new).1 in
            absurd (cc (used, unused))

reserved_once : (log : List Entry) (me : NodeId) (session other vid : ℕ) → WasReserved (log_effects log) me session vid
    → WasReserved (log_effects log) me other vid → session ≡ other
reserved_once log me session other vid one two =
    let same = grants_apart log one.grant two.grant one.there two.there (one.id ∙ sym two.id) in
    sym one.of ∙ ap (λ (grant : Grant). grant.reservation.session) same ∙ two.of

-- an entry is one session's
pub session_of_entry : (log : List Entry) (me : NodeId) (session other : ℕ) (entry : Entry)
    → IsSessionsEntry (log_effects log) me session entry
    → IsSessionsEntry (log_effects log) me other entry → session ≡ other
session_of_entry log me session other (Format members) one two = absurd one
session_of_entry log me session other (Join node zone vnodes) one two = absurd one
session_of_entry log me session other (Leave node) one two = absurd one
session_of_entry log me session other (Reweight node vnodes) one two = absurd one
session_of_entry log me session other (Recovered node epoch) one two = absurd one
session_of_entry log me session other (Reserve by of name origin) one two = sym one.1 ∙ two.1
session_of_entry log me session other (Publish by vid) one two = reserved_once log me session other vid.0 one.1 two.1
session_of_entry log me session other (Clone by vid) one two = reserved_once log me session other vid.0 one.1 two.1
session_of_entry log me session other (Snapshot by old vid) one two = reserved_once log me session other vid.0 one.1 two.1
session_of_entry log me session other (Delete by of name tag) one two = sym one.1 ∙ two.1
session_of_entry log me session other (Lock by of name tag) one two = sym one.1 ∙ two.1
session_of_entry log me session other (Unlock by of vid) one two = sym one.1 ∙ two.1

-- ---- and for good

module _ (old new : List Effect) (grows : (effect : Effect) → Contains old effect → Contains new effect) (me : NodeId) (session : ℕ) where
  reserved_stays : (vid : ℕ) → WasReserved old me session vid → WasReserved new me session vid
  reserved_stays vid is =
      record { grant = is.grant; there = grows (effects.Reserved is.grant) is.there; id = is.id; by = is.by; of = is.of }

  entry_stays : (entry : Entry) → IsSessionsEntry old me session entry → IsSessionsEntry new me session entry
  entry_stays (Format members) is = is
  entry_stays (Join node zone vnodes) is = is
  entry_stays (Leave node) is = is
  entry_stays (Reweight node vnodes) is = is
  entry_stays (Recovered node epoch) is = is
  entry_stays (Reserve by of name origin) is = is
  entry_stays (Publish by vid) is = (is.0, reserved_stays vid.0 is.1)
  entry_stays (Clone by vid) is = (is.0, reserved_stays vid.0 is.1)
  entry_stays (Snapshot by before vid) is = (is.0, reserved_stays vid.0 is.1)
  entry_stays (Delete by of name tag) is = is
  entry_stays (Lock by of name tag) is = is
  entry_stays (Unlock by of vid) is = is

  task_stays : (vid : Vid) (task : Task) → IsSessionsTask old me session vid task → IsSessionsTask new me session vid task
  task_stays vid (Opening snapshot ids header) is = is
  task_stays vid (WritingBack inode) is = is
  task_stays vid (Tagging before inode) is = reserved_stays vid.0 is
  task_stays vid (Copying ids header) is = reserved_stays vid.0 is
  task_stays vid (Making entry opened) is = entry_stays entry is

  stage_stays : (stage : OpStage) → IsSessionsStage old me session stage → IsSessionsStage new me session stage
  stage_stays (Asked entry) is = entry_stays entry is
  stage_stays (Working vid task) is = task_stays vid task is
  stage_stays (Publishing entry opened) is = entry_stays entry is
  stage_stays (Answered change) is = is

  pub command_stays : (op : Op) → IsSessionsCommand old me session op → IsSessionsCommand new me session op
  command_stays op is = record { by = is.by; of = is.of; stage = stage_stays op.stage is.stage }

-- the effects of more entries are among them
pub effects_more : (entries : List Entry) (entry : Entry) (effect : Effect) → Contains (log_effects entries) effect
    → Contains (log_effects (entries ++ entry ∷ [])) effect
effects_more entries entry effect there =
    subst (λ (all : List Effect). Contains all effect) (sym (log_effects-push entries entry))
    (Contains-append_left (log_effects entries) ((outcome (log_effects entries) entry).effect ∷ []) effect there)
