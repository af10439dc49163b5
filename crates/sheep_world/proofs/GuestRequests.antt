-- A session's next request, in the parts in which the code begins it.
use Rattle.std.proofs.Common.{◌≡◌, ℕ, List, Option, Some, None, refl, sym, ap, ◌∙◌}
use Rattle.std.specs.Option.{option_map_or, option_and_then}
use Rattle.std.proofs.lemmas.Bool.{eqb-true}
use Rattle.proof_tools.proofs.Lists.{find-contains}
use Rattle.cluster_script.specs.declared.statement.Statement.{Statement}
use Rattle.cluster_script.specs.Sessions.{ScriptSession, session_numbered, has_session_number, sessions_of}
use Rattle.sheep_node.specs.declared.input.Input.{Input}
use Rattle.sheep_world.specs.World.{World}
use Rattle.sheep_world.specs.Asking.{input_of}
use Rattle.sheep_world.specs.Conditions.{next_request}
use Rattle.sheep_world.specs.NodeSteps.{node_stepped, at_rest}
use Rattle.sheep_world.specs.Effects.{request_started, guest_effect}

-- a session that is found by a number has it
pub session-number : (statements : List Statement) (number : ℕ) (session : ScriptSession) → session_numbered statements number ≡ Some session
    → session.number ≡ number
session-number statements number session found =
    eqb-true session.number number ((find-contains (has_session_number number) (sessions_of statements) session found).1)

module _ (statements : List Statement) (number : ℕ) (world : World) (session : ScriptSession)
    (found : session_numbered statements number ≡ Some session) where
  abbrev pub world_by : Option ℕ → Option Input → World
  world_by None input = at_rest world
  world_by (Some req) input =
      option_map_or (λ (input : Input). node_stepped statements session.node input (request_started session (Some req) (at_rest world)))
      input (request_started session (Some req) (at_rest world))

  begun : Option ScriptSession → World
  begun o = option_map_or (λ (s : ScriptSession). request_started s (next_request statements s.number (at_rest world)) (at_rest world)) o (at_rest world)

  of_next : (req : Option ℕ)
      → option_map_or (λ (input : Input). node_stepped statements session.node input (request_started session req (at_rest world)))
      (option_and_then (input_of statements) req) (request_started session req (at_rest world))
      ≡ world_by req (option_and_then (input_of statements) req)
  of_next None = refl
  of_next (Some req) = refl

  -- the request that is next begins, and the gateway steps on its input
  pub guest-in_parts : (req : Option ℕ) → next_request statements number world ≡ req
      → guest_effect statements number world ≡ world_by req (option_and_then (input_of statements) req)
  unfolding guest_effect begun
  guest-in_parts req next =
      let same : session.number ≡ number = session-number statements number session found in
      (λ i. option_map_or
      (λ (s : ScriptSession). option_map_or (λ (input : Input). node_stepped statements s.node input (begun (found i)))
      (option_and_then (input_of statements) (next i)) (begun (found i)))
      (found i) (begun (found i)))
      ∙ ap (λ (o : Option ℕ). option_map_or (λ (input : Input). node_stepped statements session.node input (request_started session o (at_rest world)))
      (option_and_then (input_of statements) req) (request_started session o (at_rest world)))
      (ap (λ (k : ℕ). next_request statements k world) same ∙ next)
      ∙ of_next req
