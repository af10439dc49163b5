-- A request that is at a driver after a change of its node's step was there before as it is, or begins to read or write now, or its driver
-- goes on as a work is done.
use Rattle.std.proofs.Common.{◌≡◌, ◌≢◌, ⊎_elim, ℕ, List, Some, refl, sym, ap, subst, ◌∙◌}
use Rattle.std.specs.FinMap as tree
use Rattle.std.proofs.lemmas.Option.{same_Some}
use Rattle.proof_tools.proofs.FiniteMaps.{get-insert_same}
use Rattle.peer_proto.specs.declared.guest.DiskAsk.{DiskAsk}
use Rattle.gateway.specs.Attempt as gateways
use Rattle.gateway.specs.State.{Work}
use Rattle.gateway.specs.declared.message.Status.{Status}
use Rattle.guest_driver.specs.declared.disk.Disk.{Disk}
use Rattle.guest_driver.specs.Driver.{Driver, DriverStep, begin_driver, driver_on_done}
use Rattle.sheep_node.specs.declared.course.Course.{Course}
use Rattle.sheep_node.specs.declared.course.Course.TheVariants.{Waiting, Driving}
use Rattle.sheep_node.specs.declared.course.Request.{Request}
use Rattle.sheep_node.specs.declared.input.Input.{Input}
use Rattle.sheep_node.specs.declared.session.Session.{Session}
use Rattle.sheep_node.specs.Changes.{EndsWork, Outcome, RequestSteps, DiskBegins, DiskGoesOn, CommandBegins, CommandGoesOn, CommandDecided}
use Rattle.sheep_node.specs.Changes.{CheckBegins, CheckGoesOn, ObjectBegins, ObjectIsDone, EntryBegins, EntryDecided, Change}
use Rattle.sheep_node.specs.SessionQueues.{session_among}
use Rattle.sheep_node.specs.State.{Node}
use Rattle.sheep_node.specs.StepState.{StepState}
use Rattle.sheep_node.proofs.QueueChanges.{same_view}
use Rattle.overlap_law.proofs.CoursesCome.{StepsNow, courses_come}

-- how the request comes to be at this driver
pub data DriverCame (input : Input) (node : Node) (so_far : StepState) (req : ℕ) (request : Request) (driver : Driver) : Type 0 where
  Remained : tree.get so_far.node.requests req ≡ Some request → DriverCame input node so_far req request driver
  Started : (ask : DiskAsk) (disk : Disk)
      → tree.get so_far.node.requests req ≡ Some (record { session = request.session; course = Waiting ask })
      → (session_among request.session so_far.node.sessions).disk ≡ Some disk → (begin_driver disk ask).driver ≡ driver
      → DriverCame input node so_far req request driver
  Stepped : (number : ℕ) (work : Work) (attempt : gateways.Attempt) (status : Status) (bytes : List ℕ) (was : Driver) (disk : Disk)
      (step : DriverStep) → EndsWork input node so_far request.session req number work attempt status (Driving was) bytes
      → (session_among request.session so_far.node.sessions).disk ≡ Some disk → driver_on_done disk.inode bytes was ≡ Some step
      → step.driver ≡ driver → DriverCame input node so_far req request driver

module _ {input : Input} {node : Node} (so_far next : StepState) (change : Change input node so_far next) (req : ℕ) (request : Request)
    (there : tree.get next.node.requests req ≡ Some request) (driver : Driver) (course : request.course ≡ Driving driver) where
  abbrev Came : Type 0
  Came = DriverCame input node so_far req request driver

  abbrev IsPut : ℕ → Course → Type 0
  IsPut session other =
      tree.get (tree.insert so_far.node.requests req (record { session = session; course = other })) req ≡ Some request

  own : (session : ℕ) (other : Course) → IsPut session other → record { session = session; course = other } ≡ request
  own session other got =
      same_Some (record { session = session; course = other }) request
      (sym (get-insert_same so_far.node.requests req (record { session = session; course = other })) ∙ got)

  -- another course is at none
  not_driving : (session : ℕ) (other : Course) → ((now : Driver) → other ≢ Driving now) → IsPut session other → Came
  not_driving session other apart got = absurd (apart driver (ap (λ (r : Request). r.course) (own session other got) ∙ course))

  module _ (session : ℕ) (now : Driver) (got : IsPut session (Driving now)) where
    driver_so : now ≡ driver
    driver_so =
        let both : Driving now ≡ Driving driver = ap (λ (r : Request). r.course) (own session (Driving now) got) ∙ course in cc (both)

    session_so : session ≡ request.session
    session_so = ap (λ (r : Request). r.session) (own session (Driving now) got)

    disk_so : (disk : Disk) → (session_among session so_far.node.sessions).disk ≡ Some disk
        → (session_among request.session so_far.node.sessions).disk ≡ Some disk
    disk_so disk on = sym (ap (λ (k : ℕ). (session_among k so_far.node.sessions).disk) session_so) ∙ on

  by_steps : (session : ℕ) (outcome : Outcome) (moved : StepState) → RequestSteps input node so_far session req outcome moved
      → tree.get moved.node.requests req ≡ Some request → Came
  by_steps session outcome moved (DiskBegins ask disk had on_disk may) got =
      let now : Driver = (begin_driver disk ask).driver in
      Started ask disk
      (had ∙ ap (λ (k : ℕ). Some (record { session = k; course = Waiting ask })) (session_so session now got))
      (disk_so session now got disk on_disk) (driver_so session now got)
  by_steps session outcome moved (DiskGoesOn number work attempt status bytes was disk step ends on_disk goes) got =
      Stepped number work attempt status bytes was disk step
      (subst (λ (k : ℕ). EndsWork input node so_far k req number work attempt status (Driving was) bytes)
      (session_so session step.driver got) ends)
      (disk_so session step.driver got disk
      (sym (same_view (λ (s : Session). s.disk) so_far.node.sessions session _ refl session) ∙ on_disk)) goes
      (driver_so session step.driver got)
  by_steps session outcome moved (CommandBegins ask step arrival goes) got = not_driving session _ (λ d same. cc (same)) got
  by_steps session outcome moved (CommandGoesOn number work attempt status bytes op step ends goes) got =
      not_driving session _ (λ d same. cc (same)) got
  by_steps session outcome moved (CommandDecided entry op step from read had waits goes) got =
      not_driving session _ (λ d same. cc (same)) got
  by_steps session outcome moved (CheckBegins inode arrival on_disk) got = not_driving session _ (λ d same. cc (same)) got
  by_steps session outcome moved (CheckGoesOn number work attempt status bytes check step ends goes) got =
      not_driving session _ (λ d same. cc (same)) got
  by_steps session outcome moved (ObjectBegins asked arrival) got = not_driving session _ (λ d same. cc (same)) got
  by_steps session outcome moved (ObjectIsDone number work attempt status bytes asked ends) got = Remained got
  by_steps session outcome moved (EntryBegins entry arrival) got = not_driving session _ (λ d same. cc (same)) got
  by_steps session outcome moved (EntryDecided entry awaited from read had waits) got = Remained got

  pub driver_came : DriverCame input node so_far req request driver
  driver_came = ⊎_elim
      (λ (had : tree.get so_far.node.requests req ≡ Some request). Remained had)
      (⊎_elim
      (λ (s : StepsNow input node so_far req request). by_steps s.session s.next s.moved s.steps s.there)
      (λ (waits : (ask : DiskAsk) × (request.course ≡ Waiting ask)). let both = sym waits.1 ∙ course in absurd (cc (both))))
      (courses_come req input node so_far next change request there)
