-- As a write's last work is done, to which its node replies, each of its pieces is made by the last attempt on its object.
use Rattle.std.proofs.Common.{◌≡◌, ⊎_elim, ℕ, List, [], ◌∷◌, ◌++◌, length, Contains, Some, refl, ap, subst, ◌∙◌}
use Rattle.std.proofs.lemmas.List.Elements.{Contains-push_cases}
use Rattle.std.proofs.lemmas.Option.{same_Some}
use Rattle.proof_tools.proofs.FiniteMaps.{get-insert_same}
use Rattle.cluster_script.specs.declared.statement.Statement.{Statement}
use Rattle.inode.specs.Layout.{Content}
use Rattle.peer_proto.specs.declared.guest.GuestRsp.{GuestRsp}
use Rattle.gateway.specs.Attempt as gateways
use Rattle.gateway.specs.State.{Work}
use Rattle.gateway.specs.declared.message.Status.{Status}
use Rattle.guest_driver.specs.declared.act.DriverAct.TheVariants as acts
use Rattle.guest_driver.specs.declared.disk.Disk.{Disk}
use Rattle.guest_driver.specs.Driver.{DriverStage, DriverStep, InPlace, Fetching, Creating, Entering, Writes, driver_on_done, write_on}
use Rattle.guest_driver.specs.Driver.{write_piece_on, work_step}
use Rattle.guest_driver.specs.Pieces.{Piece, pieces}
use Rattle.guest_driver.specs.PieceWorks.{Backing, Hole, Own, Inherited, backing_of, create_copy, write_entry, table_with_entry}
use Rattle.sheep_node.specs.declared.course.Course.TheVariants.{Driving}
use Rattle.sheep_node.specs.Changes.{EndsWork}
use Rattle.sheep_node.specs.SessionQueues.{session_among}
use Rattle.sheep_node.specs.StepState.{StepState}
use Rattle.sheep_world.specs.NodeCauses.{input_of_cause, host_with_node}
use Rattle.sheep_world.specs.RunsWithAsks.{Move}
use Rattle.overlap_law.specs.MomentChanges.{MomentTrail, RunsAreInRange}
use Rattle.overlap_law.specs.Past.{MomentWithPast, run_with_past}
use Rattle.overlap_law.specs.StepMoments.{SteppingNode, IsStepping, StepsByChanges, IsWithinStep, moment_in_step}
use Rattle.overlap_law.specs.WrittenPieces.{IsWrittenAlone, HasBehind}
use Rattle.overlap_law.proofs.AnswersInMoments.{not_lost}
use Rattle.overlap_law.proofs.PiecesBehind.{cut_once}
use Rattle.overlap_law.proofs.PiecesCreated.{created-in_run}
use Rattle.overlap_law.proofs.WrittenInSteps.{wrote_now}
use Rattle.overlap_law.proofs.WrittenStays.{written-in_run}

-- ---- where a write ends

-- it was at its last piece, in place or as its entry was written
pub data EndsAt (stage : DriverStage) (rest : List Piece) : Type 0 where
  InItsPlace : stage ≡ InPlace → rest ≡ [] → EndsAt stage rest
  AtItsEntry : stage ≡ Entering → rest ≡ [] → EndsAt stage rest

module _ (reply : GuestRsp) where
  works_on : (inode : Content) (payload : List ℕ) (piece : Piece) (rest : List Piece) (backing : Backing)
      → (write_piece_on inode payload piece rest backing).act ≡ acts.Reply reply → ⊥
  works_on inode payload piece rest Hole is = cc (is)
  works_on inode payload piece rest Own is = cc (is)
  works_on inode payload piece rest (Inherited vid) is = cc (is)

  pub none_left : (inode : Content) (payload : List ℕ) (rest : List Piece) → (write_on inode payload rest).act ≡ acts.Reply reply
      → rest ≡ []
  none_left inode payload [] is = refl
  none_left inode payload (piece ∷ rest) is = absurd (works_on inode payload piece rest (backing_of inode piece) is)

  pub ends_at : (inode : Content) (bytes payload : List ℕ) (stage : DriverStage) (piece : Piece) (rest : List Piece) (step : DriverStep)
      → driver_on_done inode bytes (Writes payload stage piece rest) ≡ Some step → step.act ≡ acts.Reply reply → EndsAt stage rest
  unfolding driver_on_done
  ends_at inode bytes payload InPlace piece rest step next is =
      InItsPlace refl
      (none_left inode payload rest (ap (λ (s : DriverStep). s.act) (same_Some (write_on inode payload rest) step next) ∙ is))
  ends_at inode bytes payload Fetching piece rest step next is =
      let never = ap (λ (s : DriverStep). s.act) (same_Some (work_step inode (Writes payload Creating piece rest)
      (create_copy inode payload piece bytes)) step next) ∙ is in
      absurd (cc (never))
  ends_at inode bytes payload Creating piece rest step next is =
      let never = ap (λ (s : DriverStep). s.act) (same_Some (work_step inode (Writes payload Entering piece rest)
      (write_entry inode piece)) step next) ∙ is in
      absurd (cc (never))
  ends_at inode bytes payload Entering piece rest step next is =
      AtItsEntry refl
      (none_left (table_with_entry inode piece) payload rest
      (ap (λ (s : DriverStep). s.act) (same_Some (write_on (table_with_entry inode piece) payload rest) step next) ∙ is))

-- ---- in the middle of a step

module _ (script : List Statement) (range : RunsAreInRange script) (events : List Move) (start : MomentWithPast)
    (ran : run_with_past script events ≡ Some start) (on : SteppingNode) (is : IsStepping script start.world on)
    (by : StepsByChanges on.cause) (so_far next : StepState) (within : IsWithinStep on so_far next)
    (trail : MomentTrail script start (moment_in_step script on start so_far)) (session req number : ℕ) (work : Work)
    (attempt : gateways.Attempt) (status : Status) (bytes payload : List ℕ) (stage : DriverStage) (piece : Piece) (rest : List Piece)
    (disk : Disk) (step : DriverStep) (reply : GuestRsp)
    (ends : EndsWork (input_of_cause on.cause) on.host.node so_far session req number work attempt status
    (Driving (Writes payload stage piece rest)) bytes)
    (opened : (session_among session so_far.node.sessions).disk ≡ Some disk)
    (goes : driver_on_done disk.inode bytes (Writes payload stage piece rest) ≡ Some step) (replies : step.act ≡ acts.Reply reply) where
  abbrev Alone : Piece → Type 0
  Alone one = IsWrittenAlone (moment_in_step script on start so_far).past.attempts disk.inode.vid payload one

  behind : HasBehind (moment_in_step script on start so_far).past.attempts disk.inode.vid disk.inode.spec.shift payload stage piece rest
  behind =
      (written-in_run script range events start (moment_in_step script on start so_far) ran trail).each on.n
      (host_with_node on.host so_far.node) (get-insert_same start.world.hosts on.n (host_with_node on.host so_far.node))
      (not_lost on.host is.up) req (record {
        session = session;
        course = Driving
            (Writes payload stage piece rest);
      }) disk payload stage piece
      rest ends.ends.request opened refl

  last_alone : EndsAt stage rest → IsWrittenAlone (moment_in_step script on start so_far).past.attempts disk.inode.vid payload piece
  last_alone (InItsPlace in_place none) =
      wrote_now script range events start ran on is by so_far next within trail
      (created-in_run script range events start (moment_in_step script on start so_far) ran trail)
      (written-in_run script range events start (moment_in_step script on start so_far) ran trail) session req number work attempt status
      bytes payload stage piece rest disk ends opened in_place
  last_alone (AtItsEntry entering none) = behind.entered entering

  none_rest : EndsAt stage rest → rest ≡ []
  none_rest (InItsPlace in_place none) = none
  none_rest (AtItsEntry entering none) = none

  pub written_whole : (offset : ℕ) (front : List Piece) → pieces disk.inode.spec.shift offset (length payload) ≡ front ++ piece ∷ rest
      → (one : Piece) → Contains (pieces disk.inode.spec.shift offset (length payload)) one
      → IsWrittenAlone (moment_in_step script on start so_far).past.attempts disk.inode.vid payload one
  written_whole offset front cut one among =
      let ended = ends_at reply disk.inode bytes payload stage piece rest step goes replies in
      let front_so : front ≡ behind.before
      = cut_once disk.inode.spec.shift behind.offset offset (length payload) behind.before front rest piece behind.cut cut in
      let whole : pieces disk.inode.spec.shift offset (length payload) ≡ behind.before ++ piece ∷ []
      = cut ∙ (λ i. front_so i ++ piece ∷ none_rest ended i) in
      ⊎_elim
      (λ (old : Contains behind.before one). behind.each one old)
      (λ (new : piece ≡ one). subst Alone new (last_alone ended))
      (Contains-push_cases behind.before piece one (subst (λ (all : List Piece). Contains all one) whole among))
