use Rattle.std.proofs.Common.{◌≡◌, ◌+◌, ◌<◌, Some, None, refl, sym, ap, subst, ◌∙◌}
use Rattle.std.specs.Option.{option_map}
use Rattle.cluster_script.specs.Sessions.{ScriptSession, session_numbered}
use Rattle.cluster_script.specs.Index.{session_seen}
use Rattle.sheep_world.specs.World.{World, progress_at}
use Rattle.sheep_world.specs.Conditions.{next_request}
use Rattle.sheep_world.specs.HistoryAdditions.{request_grown}
use Rattle.sheep_world.proofs.GuestRequests.{session-number, guest-in_parts}
use Rattle.sheep_world.proofs.GuestHistories.{grown-no_session, grown-no_request, grown-asked}
use Rattle.sheep_world.proofs.world_state.WorldState.guest_asked.Goals as goal

pub returns-in_default-clause-grown : goal.returns-in_default-clause-grown
returns-in_default-clause-grown c =
    let found : session_numbered c.args.script.now c.args.number ≡ None
    = sym c.session.ensures ∙ ap (option_map session_seen) c.in_default.is in
    grown-no_session c.args.script.now c.args.number c.args.self c.rested.result.0 c.rested.result.1 found c.rested.ensures.world
    c.rested.ensures.grown

pub returns-in_default-next_request-clause-world : goal.returns-in_default-next_request-clause-world
returns-in_default-next_request-clause-world c =
    let session : ScriptSession = session_seen c.in-Some.session in
    let found : session_numbered c.args.script.now c.args.number ≡ Some session
    = sym c.session.ensures ∙ ap (option_map session_seen) c.in-Some.is in
    let next : next_request c.args.script.now c.args.number c.args.self ≡ None
    = sym (c.next_request.ensures.value ∙ ap (λ (world : World). next_request c.args.script.now c.args.number world) c.self.view_is)
    ∙ c.in_default-next_request.is in
    c.rested-in_default-next_request.ensures.world ∙ sym (guest-in_parts c.args.script.now c.args.number c.args.self session found None next)

pub returns-in_default-next_request-clause-grown : goal.returns-in_default-next_request-clause-grown
returns-in_default-next_request-clause-grown c =
    let session : ScriptSession = session_seen c.in-Some.session in
    let found : session_numbered c.args.script.now c.args.number ≡ Some session
    = sym c.session.ensures ∙ ap (option_map session_seen) c.in-Some.is in
    let next : next_request c.args.script.now c.args.number c.args.self ≡ None
    = sym (c.next_request.ensures.value ∙ ap (λ (world : World). next_request c.args.script.now c.args.number world) c.self.view_is)
    ∙ c.in_default-next_request.is in
    grown-no_request c.args.script.now c.args.number c.args.self session found c.rested-in_default-next_request.result.0
    c.rested-in_default-next_request.result.1 next c.rested-in_default-next_request.ensures.world
    c.rested-in_default-next_request.ensures.grown

pub request_asked-requires : goal.request_asked-requires
request_asked-requires c =
    let found : session_numbered c.args.script.now c.args.number ≡ Some (session_seen c.in-Some.session)
    = sym c.session.ensures ∙ ap (option_map session_seen) c.in-Some.is in
    let number : c.in-Some.session.number ≡ c.args.number = session-number c.args.script.now c.args.number (session_seen c.in-Some.session) found in
    let room : (progress_at c.args.number c.args.self).begun + 1 < 4294967296
    = subst (λ (world : World). (progress_at c.args.number world).begun + 1 < 4294967296) c.self.view_is c.in-Some-next_request.ensures.room in
    rw (number) room

pub returns-clause-world : goal.returns-clause-world
returns-clause-world c =
    let session : ScriptSession = session_seen c.in-Some.session in
    let found : session_numbered c.args.script.now c.args.number ≡ Some session
    = sym c.session.ensures ∙ ap (option_map session_seen) c.in-Some.is in
    let next : next_request c.args.script.now c.args.number c.args.self ≡ Some c.in-Some-next_request.req
    = sym (c.next_request.ensures.value ∙ ap (λ (world : World). next_request c.args.script.now c.args.number world) c.self.view_is)
    ∙ c.in-Some-next_request.is in
    c.in_ok-world.ensures.world
    ∙ sym (guest-in_parts c.args.script.now c.args.number c.args.self session found (Some c.in-Some-next_request.req) next)

pub returns-clause-grown : goal.returns-clause-grown
returns-clause-grown c =
    let session : ScriptSession = session_seen c.in-Some.session in
    let found : session_numbered c.args.script.now c.args.number ≡ Some session
    = sym c.session.ensures ∙ ap (option_map session_seen) c.in-Some.is in
    let next : next_request c.args.script.now c.args.number c.args.self ≡ Some c.in-Some-next_request.req
    = sym (c.next_request.ensures.value ∙ ap (λ (world : World). next_request c.args.script.now c.args.number world) c.self.view_is)
    ∙ c.in-Some-next_request.is in
    grown-asked c.args.script.now c.args.number c.args.self session found c.in-Some-next_request.req next
    (request_grown c.args.script.now c.args.self session (Some c.in-Some-next_request.req)) refl c.in_ok-world.world c.in_ok-world.grown
    c.in_ok-world.ensures.world c.in_ok-world.ensures.grown
