-- What a step of a recovery makes of its search: it goes on at its level, or is a new one at the highest level; or the level above has
-- ended with too few rows, of which each node that was asked has told. So it is with an object that is found missing.
use Rattle.std.proofs.Common.{◌≡◌, ◌⊎◌, inl, inr, ⊎_elim, ℕ, ◌<◌, ◌-◌, ◌==◌, nat_lt, Bool, true, false, cond, List, [], filter_map}
use Rattle.std.proofs.Common.{Contains, Option, Some, None, refl, sym, ap, subst, ◌∙◌}
use Rattle.std.specs.Option.{option_map_or}
use Rattle.std.specs.List.{list_any}
use Rattle.std.proofs.lemmas.Bool.{eqb-true, ltb-true, or_cases}
use Rattle.std.proofs.lemmas.Option.{same_Some}
use Rattle.object_id.specs.declared.node.NodeId.{NodeId}
use Rattle.object_id.specs.declared.policy.Policy.{Policy}
use Rattle.object_id.specs.Oid.{kind_of}
use Rattle.object_list.specs.Gathered.{has_node}
use Rattle.peer_proto.specs.declared.say.PeerSay.{PeerSay}
use Rattle.recovery.specs.declared.search.RowAnswer.{RowAnswer}
use Rattle.recovery.specs.Level.{row_of_target, rows_found, are_enough, own_index, own_part, with_part_found, with_object_missing, to_ask}
use Rattle.recovery.specs.Level.{one_lower, level_without_part, level_over_by, level_over, is_of_search, searching}
use Rattle.recovery.specs.Shown.{is_pending_object, live_policy, own_row, shown_with_pending}
use Rattle.recovery.specs.State.{Message, Search, Recovery, RecoveryState, search_at, still_on, search_on, is_listed, is_missing}
use Rattle.recovery.specs.Steps.{to_recover, at_start, recovery_from_epoch}
use Rattle.overlap_law.specs.Each.{Placing}
use Rattle.overlap_law.specs.Searches.{has_kept_answer}
use Rattle.overlap_law.proofs.AskedMessages.{asked_by, still_less}
use Rattle.overlap_law.proofs.FirstSearches.{is_on}
use Rattle.overlap_law.proofs.FirstSearchesInRuns.{IsWithinLevels}
use Rattle.overlap_law.proofs.RecoveriesOfSteps.{IsLessPending}
use Rattle.overlap_law.proofs.SearchAnswers.{IsRowTold}

-- a search of an object at a level goes on
pub record IsOnAt (state : RecoveryState) (oid level : ℕ) : Type 0 where
  pub one : Search
  pub on : search_on state ≡ Some one
  pub oid_so : one.oid ≡ oid
  pub level_so : one.level ≡ level

-- an answer was kept by the search, while others were awaited, or came by this reply
abbrev pub IsToldAt : RecoveryState → ℕ → Option PeerSay → ℕ → ℕ → RowAnswer → Type 0
IsToldAt state number said oid level answer =
    (one : Search) × (search_on state ≡ Some one) × (one.oid ≡ oid) × (one.level ≡ level)
    × (list_any (is_of_search one.oid) state.recovery.unanswered ≡ true)
    × (Contains one.answers answer ⊎ IsRowTold number said state.recovery.unanswered one answer)

module _ (T : Placing) (known : ℕ → Option Policy) (bound : ℕ) where
  -- a level has ended with too few rows, after a message came to this or at a tick
  pub record HasFailed (old : RecoveryState) (number : ℕ) (said : Option PeerSay) (oid level : ℕ) : Type 0 where
    pub policy : Policy
    pub live : live_policy old.shown oid ≡ Some policy
    pub answers : List RowAnswer
    pub few : are_enough policy (kind_of oid)
        (filter_map (row_of_target old.recovery.me (own_row old.shown oid level) answers) (old.shown.targets level oid policy)) ≡ false
    pub before : IsOnAt old oid level ⊎ (level ≡ old.recovery.epoch - 1)
    pub levels : IsWithinLevels old.recovery.epoch (search_at oid level)
    pub listed : is_listed old.recovery ≡ true
    pub pending : is_pending_object oid old.shown.pending ≡ true
    pub told : (answer : RowAnswer) → Contains answers answer → IsToldAt old number said oid level answer
    pub all : (other : NodeId)
        → has_node other (asked_by T old.recovery.me old.recovery.members (search_at oid level) policy) ≡ true
        → has_kept_answer answers other ≡ true

  -- a search is as before, or a first one, or is one level lower
  abbrev pub SearchComes : RecoveryState → ℕ → Option PeerSay → Search → Type 0
  SearchComes old number said search =
      IsOnAt old search.oid search.level ⊎ (search.level ≡ old.recovery.epoch - 1)
      ⊎ ((level : ℕ) × (search.level ≡ level - 1) × HasFailed old number said search.oid level)

  -- an object was missing before, or no level is left
  abbrev pub ComesToMiss : RecoveryState → ℕ → Option PeerSay → ℕ → Type 0
  ComesToMiss old number said oid =
      (is_missing oid old.recovery ≡ true)
      ⊎ ((level : ℕ) × (level - 1 < old.shown.settled) × HasFailed old number said oid level)

  pub record ComeSo (old : RecoveryState) (number : ℕ) (said : Option PeerSay) (epoch : ℕ) (on : Option Search) (missing : List ℕ)
      : Type 0 where
    pub searched : (search : Search) → on ≡ Some search → SearchComes old number said search × (epoch ≡ old.recovery.epoch)
    pub missed : (oid : ℕ) → list_any (λ other. other == oid) missing ≡ true
        → ComesToMiss old number said oid × (epoch ≡ old.recovery.epoch)

  abbrev pub SearchesCome : RecoveryState → ℕ → Option PeerSay → Recovery → Option (List ℕ) → Type 0
  SearchesCome old number said new pending = ComeSo old number said new.epoch (still_on pending new.search) new.missing

  -- nothing has come of the search
  pub nothing_comes : (old : RecoveryState) (number : ℕ) (said : Option PeerSay)
      → SearchesCome old number said old.recovery old.shown.pending
  nothing_comes old number said = record {
    searched = λ search on. (inl (record { one = search; on = on; oid_so = refl; level_so = refl }), refl);
    missed = λ oid is. (inl is, refl);
  }

  pub less_comes : (old : RecoveryState) (number : ℕ) (said : Option PeerSay) (pending : Option (List ℕ))
      → IsLessPending old.shown.pending pending → SearchesCome old number said old.recovery pending
  less_comes old number said pending less = record {
    searched = λ search on.
        (nothing_comes old number said).searched search (still_less old.shown.pending pending old.recovery.search search less on);
    missed = λ oid is. (inl is, refl);
  }

  -- a recovery begins
  pub begun_comes : (old : RecoveryState) (number : ℕ) (said : Option PeerSay) (epoch : ℕ) (members : List NodeId) (state : RecoveryState)
      → SearchesCome old number said (recovery_from_epoch epoch members state).recovery
      (recovery_from_epoch epoch members state).shown.pending
  unfolding recovery_from_epoch
  begun_comes old number said epoch members state =
      let begun : RecoveryState = at_start epoch members state in
      by_list begun (is_listed begun.recovery) refl refl
    where
      none : (next : RecoveryState) → next.recovery.search ≡ None → next.recovery.missing ≡ []
          → SearchesCome old number said next.recovery next.shown.pending
      none next no_search no_missing = record {
        searched = λ search on.
            (let no : still_on next.shown.pending next.recovery.search ≡ None = ap (still_on next.shown.pending) no_search in
            absurd (cc (no, on)));
        missed = λ oid is.
            (let no : is_missing oid next.recovery ≡ false = ap (λ (oids : List ℕ). list_any (λ other. other == oid) oids) no_missing in
            absurd (cc (no, is)));
      }

      by_list : (begun : RecoveryState) (b : Bool) → begun.recovery.search ≡ None → begun.recovery.missing ≡ []
          → SearchesCome old number said
          (cond b (record begun { shown = shown_with_pending (to_recover begun) begun.shown }) begun).recovery
          (cond b (record begun { shown = shown_with_pending (to_recover begun) begun.shown }) begun).shown.pending
      by_list begun true no_search no_missing =
          none (record begun { shown = shown_with_pending (to_recover begun) begun.shown }) no_search no_missing
      by_list begun false no_search no_missing = none begun no_search no_missing

  -- ---- a level is over

  module _ (old : RecoveryState) (number : ℕ) (said : Option PeerSay) (messages older : List Message) where
    -- the same, with these messages unanswered
    abbrev mid : RecoveryState
    mid = record old { recovery = record old.recovery { unanswered = messages; older = older } }

    abbrev Comes : RecoveryState → Type 0
    Comes new = SearchesCome old number said new.recovery new.shown.pending

    module _ (next : Search) (before : IsOnAt old next.oid next.level ⊎ (next.level ≡ old.recovery.epoch - 1))
        (fails : (policy : Policy) → live_policy old.shown next.oid ≡ Some policy
        → are_enough policy (kind_of next.oid) (rows_found mid policy next) ≡ false → next.again ≡ false
        → list_any (is_of_search next.oid) messages ≡ false
        → HasFailed old number said next.oid next.level)
      where
        -- the search goes on so
        goes_on : (search : Search) → search.oid ≡ next.oid → search.level ≡ next.level
            → Comes (record mid { recovery = record mid.recovery { search = Some search } })
        goes_on search oid_so level_so = record {
          searched = λ one on. (let same : search ≡ one = same_Some search one (is_on old.shown.pending (Some search) one on).search in (
            at_level one (sym (ap (λ (s : Search). s.oid) same) ∙ oid_so)
                (sym (ap (λ (s : Search). s.level) same) ∙ level_so) before,
            refl,
          ));
          missed = λ oid is. (inl is, refl);
        }
          where
            at_level : (one : Search) → one.oid ≡ next.oid → one.level ≡ next.level
                → IsOnAt old next.oid next.level ⊎ (next.level ≡ old.recovery.epoch - 1) → SearchComes old number said one
            at_level one oid_at level_at (inl is) =
                inl (record { one = is.one; on = is.on; oid_so = is.oid_so ∙ sym oid_at; level_so = is.level_so ∙ sym level_at })
            at_level one oid_at level_at (inr first) = inr (inl (level_at ∙ first))

        -- it is one level lower
        lower : HasFailed old number said next.oid next.level
            → Comes (record mid { recovery = record mid.recovery { search = Some (search_at next.oid (next.level - 1)) } })
        lower failed = record {
          searched = λ one on.
              (let same : search_at next.oid (next.level - 1) ≡ one
              = same_Some (search_at next.oid (next.level - 1)) one
              (is_on old.shown.pending (Some (search_at next.oid (next.level - 1))) one on).search in (
                inr (inr (
                  next.level,
                  sym (ap (λ (s : Search). s.level) same),
                  subst (λ (oid : ℕ). HasFailed old number said oid next.level) (ap (λ (s : Search). s.oid) same) failed,
                )),
                refl,
              ));
          missed = λ oid is. (inl is, refl);
        }

        -- the object is missing
        goes : next.level - 1 < old.shown.settled → HasFailed old number said next.oid next.level → Comes (with_object_missing next.oid mid)
        goes below failed = record {
          searched = λ one on. absurd (cc (on));
          missed = λ oid is. (
            ⊎_elim
                (λ (own : (next.oid == oid) ≡ true).
                inr (
                  next.level,
                  below,
                  subst (λ (k : ℕ). HasFailed old number said k next.level) (eqb-true next.oid oid own) failed,
                ))
                (λ (was : is_missing oid old.recovery ≡ true). inl was)
                (or_cases (next.oid == oid) (is_missing oid old.recovery) is),
            refl,
          );
        }

        over_comes : list_any (is_of_search next.oid) messages ≡ false → Comes (level_over next mid)
        unfolding level_over
        over_comes none = by_policy (live_policy old.shown next.oid) refl
          where
            by_settled : (b : Bool) → nat_lt (next.level - 1) old.shown.settled ≡ b → HasFailed old number said next.oid next.level
                → Comes (cond b (with_object_missing next.oid mid) (to_ask next.oid (next.level - 1) mid))
            by_settled true is failed = goes (ltb-true (next.level - 1) old.shown.settled is) failed
            by_settled false is failed = lower failed

            by_again : (b : Bool) → next.again ≡ b → (next.again ≡ false → HasFailed old number said next.oid next.level)
                → Comes (cond b (to_ask next.oid next.level mid) (one_lower next mid))
            by_again true is failed = goes_on (search_at next.oid next.level) refl refl
            by_again false is failed = by_settled (nat_lt (next.level - 1) old.shown.settled) refl (failed is)

            by_enough : (policy : Policy) → live_policy old.shown next.oid ≡ Some policy → (b : Bool)
                → are_enough policy (kind_of next.oid) (rows_found mid policy next) ≡ b
                → Comes (cond b
                (with_part_found next.oid (own_index policy next mid) (own_part policy next (rows_found mid policy next) mid) mid)
                (level_without_part next mid))
            by_enough policy live true is = record { searched = λ one on. absurd (cc (on)); missed = λ oid is_so. (inl is_so, refl) }
            by_enough policy live false is = by_again next.again refl (λ unagain. fails policy live is unagain none)

            by_policy : (o : Option Policy) → live_policy old.shown next.oid ≡ o
                → Comes (option_map_or (λ (policy : Policy). level_over_by policy next (rows_found mid policy next) mid) o mid)
            by_policy None live = nothing_comes old number said
            by_policy (Some policy) live = by_enough policy live (are_enough policy (kind_of next.oid) (rows_found mid policy next)) refl

        pub searching_comes : Comes (searching next mid)
        searching_comes = by_any (list_any (is_of_search next.oid) messages) refl
          where
            by_any : (b : Bool) → list_any (is_of_search next.oid) messages ≡ b
                → Comes (cond b (record mid { recovery = record mid.recovery { search = Some next } }) (level_over next mid))
            by_any true any = goes_on next refl refl
            by_any false none = over_comes none
