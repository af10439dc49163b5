-- What a session's next request adds to the history: the writes that it begins, and behind them what the replies of the step do.
use Rattle.std.proofs.Common.{◌≡◌, ℕ, List, [], ◌++◌, Option, Some, None, refl, sym, ap, ◌∙◌}
use Rattle.std.proofs.lemmas.List.{append-nil}
use Rattle.std.specs.Option.{option_map_or}
use Rattle.cluster_script.specs.declared.statement.Statement.{Statement}
use Rattle.cluster_script.specs.Sessions.{ScriptSession, session_numbered}
use Rattle.disk_history.specs.declared.event.HistEvent.{HistEvent}
use Rattle.sheep_node.specs.declared.input.Input.{Input}
use Rattle.sheep_world.specs.World.{World}
use Rattle.sheep_world.specs.Asking.{input_of}
use Rattle.sheep_world.specs.Conditions.{next_request}
use Rattle.sheep_world.specs.NodeSteps.{node_stepped, at_rest}
use Rattle.sheep_world.specs.Effects.{request_started, guest_begun}
use Rattle.sheep_world.specs.GuestInParts.{input_effect, input_adds}
use Rattle.sheep_world.specs.HistoryAdditions.{request_grown, writes_grown, replies_grown}
use Rattle.sheep_world.proofs.GuestRequests.{session-number}

module _ (statements : List Statement) (number : ℕ) (world : World) where
  -- what is added, by the session and what replies to the step
  abbrev pub grown_by : World → List HistEvent
  grown_by after = writes_grown statements number world ++ replies_grown statements (guest_begun statements number world) None after

  abbrev by_session : Option ScriptSession → Option ℕ → List HistEvent
  by_session session req = option_map_or (λ (session : ScriptSession). request_grown statements world session req) session []

  -- where no node stepped nothing was replied to
  still : (after : World) → after ≡ at_rest world → replies_grown statements (guest_begun statements number world) None after ≡ []
  still after is = ap (replies_grown statements (guest_begun statements number world) None) is

  pub grown-no_session : (after : World) (events : List HistEvent) → session_numbered statements number ≡ None
      → after ≡ at_rest world → events ≡ [] → events ≡ grown_by after
  grown-no_session after events found is none =
      none
      ∙ sym (ap (λ (o : Option ScriptSession). by_session o (next_request statements number world)
      ++ replies_grown statements (guest_begun statements number world) None after) found
      ∙ still after is)

  module _ (session : ScriptSession) (found : session_numbered statements number ≡ Some session) where
    pub grown-no_request : (after : World) (events : List HistEvent) → next_request statements number world ≡ None
        → after ≡ at_rest world → events ≡ [] → events ≡ grown_by after
    grown-no_request after events next is none =
        none
        ∙ sym (ap (λ (o : Option ScriptSession). by_session o (next_request statements number world)
        ++ replies_grown statements (guest_begun statements number world) None after) found
        ∙ ap (λ (o : Option ℕ). request_grown statements world session o
        ++ replies_grown statements (guest_begun statements number world) None after) next
        ∙ still after is)

    module _ (req : ℕ) (next : next_request statements number world ≡ Some req) (writes : List HistEvent)
        (begins : writes ≡ request_grown statements world session (Some req)) where
      all-writes : writes ≡ writes_grown statements number world
      all-writes =
          begins
          ∙ sym (ap (λ (o : Option ScriptSession). by_session o (next_request statements number world)) found
          ∙ ap (request_grown statements world session) next)

      begun-so : guest_begun statements number world ≡ request_started session (Some req) world
      begun-so =
          ap (λ (o : Option ScriptSession). option_map_or
          (λ (s : ScriptSession). request_started s (next_request statements s.number world) world) o world) found
          ∙ ap (λ (o : Option ℕ). request_started session o world)
          (ap (λ (k : ℕ). next_request statements k world) (session-number statements number session found) ∙ next)

      pub grown-step : (begun after : World) (events : List HistEvent) → begun ≡ request_started session (Some req) (at_rest world)
          → events ≡ writes ++ replies_grown statements begun None after → events ≡ grown_by after
      grown-step begun after events is gives =
          gives
          ∙ ap (λ (earlier : List HistEvent). earlier ++ replies_grown statements begun None after) all-writes
          ∙ ap (λ (before : World). writes_grown statements number world ++ replies_grown statements before None after) is
          ∙ sym (ap (λ (before : World). writes_grown statements number world ++ replies_grown statements before None after) begun-so)

      pub grown-no_step : (after : World) → after ≡ request_started session (Some req) (at_rest world) → writes ≡ grown_by after
      grown-no_step after is =
          all-writes ∙ sym (append-nil (writes_grown statements number world))
          ∙ sym (ap (λ (events : List HistEvent). writes_grown statements number world ++ events)
          (ap (replies_grown statements (guest_begun statements number world) None) is))

      -- the request's input is taken where it has one
      pub grown-asked : (after : World) (events : List HistEvent)
          → after ≡ input_effect statements session.node req (request_started session (Some req) (at_rest world))
          → events ≡ input_adds statements req (request_started session (Some req) (at_rest world)) after writes
          → events ≡ grown_by after
      grown-asked after events is gives = go (input_of statements req) is gives
        where
          go : (input : Option Input)
              → after ≡ option_map_or
              (λ (input : Input). node_stepped statements session.node input (request_started session (Some req) (at_rest world)))
              input (request_started session (Some req) (at_rest world))
              → events ≡ option_map_or
              (λ (input : Input). writes ++ replies_grown statements (request_started session (Some req) (at_rest world)) None after)
              input writes
              → events ≡ grown_by after
          go None is gives = gives ∙ grown-no_step after is
          go (Some input) is gives = grown-step (request_started session (Some req) (at_rest world)) after events refl gives
