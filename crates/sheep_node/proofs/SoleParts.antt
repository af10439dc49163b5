-- Sessions and requests that change one by one, and leave a request that is no read or write alone in its session.
use Rattle.std.proofs.Common.{◌≡◌, ◌≢◌, ℕ, true, false, Option, Some, unwrap_or, refl, sym, ap, subst, ◌∙◌, ⊎_elim}
use Rattle.std.specs.FinMap as tree
use Rattle.std.proofs.lemmas.Bool.{cases_eq}
use Rattle.std.proofs.lemmas.Option.{same_Some}
use Rattle.proof_tools.proofs.FiniteMaps.{get-insert_cases, get-insert_other, get-insert_same}
use Rattle.sheep_node.specs.declared.course.Course.{Course}
use Rattle.sheep_node.specs.declared.course.Request.{Request}
use Rattle.sheep_node.specs.declared.session.Session.{Session}
use Rattle.sheep_node.specs.State.{new_session}
use Rattle.sheep_node.specs.StepState.{StepState}
use Rattle.sheep_node.specs.May.{is_disk_course}
use Rattle.sheep_node.specs.SessionQueues.{command_in, IsSoleRequestOf, HaveSoleCommands}
use Rattle.sheep_node.specs.Changes.{HasRequest}
use Rattle.sheep_node.proofs.OneWorkParts.{Requests, Sessions}
use Rattle.sheep_node.proofs.QueueChanges.{same_view}

abbrev pub CommandsAre : StepState → Type 0
CommandsAre so_far = HaveSoleCommands so_far.node.requests so_far.node.sessions

-- a request is of this session, if it is there
abbrev pub IsOwn : ℕ → ℕ → Requests → Type 0
IsOwn number req requests = (request : Request) → tree.get requests req ≡ Some request → request.session ≡ number

-- a session has no other request than this one
abbrev pub IsFreeFor : ℕ → ℕ → Requests → Type 0
IsFreeFor number req requests = (other : ℕ) (request : Request) → tree.get requests other ≡ Some request → request.session ≡ number → other ≡ req

-- ---- a session among others

-- one that keeps its command
pub same_command : (requests : Requests) (sessions : Sessions) (number : ℕ) (session : Session) → session.command ≡ command_in number sessions
    → HaveSoleCommands requests sessions → HaveSoleCommands requests (tree.insert sessions number session)
same_command requests sessions number session same all =
    let so = same_view (λ (session : Session). session.command) sessions number session same in
    record {
      named = λ req request there other. so request.session ∙ all.named req request there other;
      alone = λ q req other request is there of. all.alone q req other request (sym (so q) ∙ is) there of;
      there = λ q req is. all.there q req (sym (so q) ∙ is);
    }

module _ (sessions : Sessions) (number : ℕ) (session : Session) where
  pub command_own : (q : ℕ) → q ≡ number → command_in q (tree.insert sessions number session) ≡ session.command
  command_own q own =
      ap (λ (k : ℕ). command_in k (tree.insert sessions number session)) own
      ∙ ap (λ (o : Option Session). (unwrap_or o new_session).command) (get-insert_same sessions number session)

  pub command_other : (q : ℕ) → q ≢ number → command_in q (tree.insert sessions number session) ≡ command_in q sessions
  command_other q other = ap (λ (o : Option Session). (unwrap_or o new_session).command) (get-insert_other sessions number session q other)

-- ---- a request among others

-- a read or write, of a session without a command; and it is no session's command
pub disk_request : (requests : Requests) (sessions : Sessions) (number req : ℕ) (course : Course) → is_disk_course course ≡ true
    → ((r : ℕ) → command_in number sessions ≢ Some r) → ((q : ℕ) → command_in q sessions ≢ Some req) → HaveSoleCommands requests sessions
    → HaveSoleCommands (tree.insert requests req (record { session = number; course = course })) sessions
disk_request requests sessions number req course disk free no_command all = record {
  named = λ q request got other. ⊎_elim
      (λ (own : (q ≡ req) × (now ≡ request)).
      let on : is_disk_course request.course ≡ true = ap (λ (request : Request). is_disk_course request.course) (sym own.1) ∙ disk in
      absurd (cc (on, other)))
      (λ (later : (q ≢ req) × (tree.get requests q ≡ Some request)). all.named q request later.1 other)
      (get-insert_cases requests req now q request got);
  alone = λ q r other request is got of. ⊎_elim
      (λ (own : (other ≡ req) × (now ≡ request)).
      let here : number ≡ q = ap (λ (request : Request). request.session) own.1 ∙ of in
      absurd (free r (ap (λ (k : ℕ). command_in k sessions) here ∙ is)))
      (λ (later : (other ≢ req) × (tree.get requests other ≡ Some request)). all.alone q r other request is later.1 of)
      (get-insert_cases requests req now other request got);
  there = λ q r is.
      let apart : r ≢ req = λ (same : r ≡ req). no_command q (is ∙ ap Some same) in
      subst (IsSoleRequestOf q) (sym (get-insert_other requests req now r apart)) (all.there q r is);
}
  where
    now : Request
    now = record { session = number; course = course }

-- a request that is alone in its session from now on
pub sole_request : (requests : Requests) (sessions : Sessions) (number req : ℕ) (course : Course) (session : Session) → session.command ≡ Some req
    → is_disk_course course ≡ false → IsFreeFor number req requests → IsOwn number req requests → HaveSoleCommands requests sessions
    → HaveSoleCommands (tree.insert requests req (record { session = number; course = course })) (tree.insert sessions number session)
sole_request requests sessions number req course session is off free own_session all = record {
  named = λ q request got other. ⊎_elim
      (λ (own : (q ≡ req) × (now ≡ request)).
      command_own sessions number session request.session (sym (ap (λ (request : Request). request.session) own.1)) ∙ is ∙ ap Some (sym own.0))
      (λ (later : (q ≢ req) × (tree.get requests q ≡ Some request)). ⊎_elim
      (λ (here : request.session ≡ number). absurd (later.0 (free q request later.1 here)))
      (λ (apart : request.session ≢ number). command_other sessions number session request.session apart ∙ all.named q request later.1 other)
      (cases_eq request.session number))
      (get-insert_cases requests req now q request got);
  alone = λ q r other request had got of. ⊎_elim
      (λ (here : q ≡ number).
      let same : req ≡ r = same_Some req r (sym (command_own sessions number session q here ∙ is) ∙ had) in
      ⊎_elim
      (λ (own : (other ≡ req) × (now ≡ request)). own.0 ∙ same)
      (λ (later : (other ≢ req) × (tree.get requests other ≡ Some request)). free other request later.1 (of ∙ here) ∙ same)
      (get-insert_cases requests req now other request got))
      (λ (apart : q ≢ number). ⊎_elim
      (λ (own : (other ≡ req) × (now ≡ request)). absurd (apart (sym of ∙ sym (ap (λ (request : Request). request.session) own.1))))
      (λ (later : (other ≢ req) × (tree.get requests other ≡ Some request)).
      all.alone q r other request (sym (command_other sessions number session q apart) ∙ had) later.1 of)
      (get-insert_cases requests req now other request got))
      (cases_eq q number);
  there = λ q r had. ⊎_elim
      (λ (here : q ≡ number).
      let same : req ≡ r = same_Some req r (sym (command_own sessions number session q here ∙ is) ∙ had) in
      (now, ap (tree.get (tree.insert requests req now)) (sym same) ∙ get-insert_same requests req now, sym here, off))
      (λ (apart : q ≢ number).
      let before = all.there q r (sym (command_other sessions number session q apart) ∙ had) in
      let (request, got, of, command) = before in
      let other : r ≢ req = λ (same : r ≡ req). apart (sym of ∙ own_session request (sym (ap (tree.get requests) same) ∙ got)) in
      subst (IsSoleRequestOf q) (sym (get-insert_other requests req now r other)) before)
      (cases_eq q number);
}
  where
    now : Request
    now = record { session = number; course = course }

-- a request that is its session's command has no other beside it
pub command_is_free : (number req : ℕ) (course : Course) (so_far : StepState) → HasRequest number req course so_far → is_disk_course course ≡ false
    → CommandsAre so_far → IsFreeFor number req so_far.node.requests
command_is_free number req course so_far there off all other request got of =
    all.alone number req other request (all.named req (record { session = number; course = course }) there off) got of

-- and one that is a read or write has no command beside it, and is none
pub disk_is_none : (number req : ℕ) (course : Course) (so_far : StepState) → HasRequest number req course so_far → is_disk_course course ≡ true
    → CommandsAre so_far → (q : ℕ) → command_in q so_far.node.sessions ≢ Some req
disk_is_none number req course so_far there disk all q is =
    let (request, got, of, off) = all.there q req is in
    let same : record { session = number; course = course } ≡ request = same_Some (record { session = number; course = course }) request (sym there ∙ got) in
    let on : is_disk_course request.course ≡ true = ap (λ (request : Request). is_disk_course request.course) (sym same) ∙ disk in
    absurd (cc (on, off))

-- the request that is there is its session's
pub there_is_own : (number req : ℕ) (course : Course) (so_far : StepState) → HasRequest number req course so_far → IsOwn number req so_far.node.requests
there_is_own number req course so_far there request got =
    ap (λ (request : Request). request.session) (sym (same_Some (record { session = number; course = course }) request (sym there ∙ got)))

pub disk_beside : (number req : ℕ) (course : Course) (so_far : StepState) → HasRequest number req course so_far → is_disk_course course ≡ true
    → CommandsAre so_far → (r : ℕ) → command_in number so_far.node.sessions ≢ Some r
disk_beside number req course so_far there disk all r is =
    let same : req ≡ r = all.alone number r req (record { session = number; course = course }) is there refl in
    disk_is_none number req course so_far there disk all number (is ∙ ap Some (sym same))
