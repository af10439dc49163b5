-- A work that is done gave as many bytes as its request waits for, which is on the disk that its session has open.
use Rattle.std.proofs.Common.{◌≡◌, inl, ℕ, List, length, Option, IfSome, unwrap_or, refl, sym, ap, subst, ◌∙◌}
use Rattle.proof_tools.proofs.FiniteMaps.{get-insert_same}
use Rattle.gateway.specs.declared.message.Status.{Status}
use Rattle.gateway.specs.Attempt.{Attempt, messages_with_status}
use Rattle.gateway.specs.Messages.{AreMessagesFor}
use Rattle.gateway.specs.State.{Work}
use Rattle.gateway.specs.Work.{bytes_of_work}
use Rattle.gateway.proofs.LengthLaws.{length-bytes_given}
use Rattle.gateway.proofs.MessageLemmas.{AreMessagesFor-with_status}
use Rattle.guest_driver.specs.declared.disk.Disk.{Disk}
use Rattle.guest_driver.specs.InodeQueue as lines
use Rattle.sheep_node.specs.declared.input.Input.{Input}
use Rattle.sheep_node.specs.declared.course.Course.{Course}
use Rattle.sheep_node.specs.declared.course.Request.{Request}
use Rattle.sheep_node.specs.declared.session.Session.{Session}
use Rattle.sheep_node.specs.State.{Node, new_session}
use Rattle.sheep_node.specs.StepState.{StepState, session_in}
use Rattle.sheep_node.specs.Courses.{inode_open}
use Rattle.sheep_node.specs.DrivenDisks.{IsCourseOn}
use Rattle.sheep_node.specs.MayBegin.{MayGoOn}
use Rattle.sheep_node.specs.SessionQueues.{session_among}
use Rattle.sheep_node.specs.SoundWorks.{HasMessagesFor, IsSoundWork}
use Rattle.sheep_node.specs.WantedWorks.{IsWorkWanted, IsWantedAt}
use Rattle.sheep_node.specs.Changes.{IsSoundStep, EndsWork, without_ended_work}
use Rattle.sheep_node.proofs.GoingOn.{may_go_on}
use Rattle.sheep_node.proofs.SoundChanges.{IsKnown}

module _ {input : Input} {node : Node} (sound : IsSoundStep input node) (so_far : StepState) (session req number : ℕ) (work : Work)
    (attempt : Attempt)
    (status : Status) (course : Course) (bytes : List ℕ)
    (ends : EndsWork input node so_far session req number work attempt status course bytes)
    (known : IsKnown so_far) (is : IsSoundWork work) where
  abbrev pub open_disk : Option Disk
  open_disk = (session_among session so_far.node.sessions).disk

  pub bytes_long : length bytes ≡ bytes_of_work work.work
  bytes_long =
      let learns = ends.ends.learns in
      let before : AreMessagesFor work.work attempt.messages = subst (HasMessagesFor work.work) learns.open_so is.messages in
      ap length (sym ends.given)
      ∙ length-bytes_given work.work (messages_with_status number status attempt.messages) is.range.is_work
      (AreMessagesFor-with_status work.work number status attempt.messages (learns.piece sound) before) ends.done

  pub wanted : IsWorkWanted (inode_open open_disk) course work.work
  wanted =
      subst (λ (o : Option Request). IsWantedAt so_far.node.sessions o work.work) ends.ends.request
      (known.0.2 req work.work (inl (work, ends.ends.learns.there, refl)))

  pub on_disk : IsCourseOn (inode_open open_disk) course
  on_disk =
      subst (λ (o : Option Request). IfSome o (λ (request : Request). IsCourseOn
      (inode_open (session_among request.session so_far.node.sessions).disk) request.course)) ends.ends.request (known.1 req)

  pub goes_on : MayGoOn (inode_open open_disk) course bytes
  goes_on = may_go_on open_disk course work.work bytes wanted on_disk bytes_long

  -- the session has the same disk open then
  pub same_disk : (session_in session (without_ended_work session req work status so_far)).disk ≡ open_disk
  same_disk =
      ap (λ (o : Option Session). (unwrap_or o new_session).disk)
      (get-insert_same so_far.node.sessions session
      (record (session_in session so_far) { inode_queue = lines.queue_after_end (session_in session so_far).inode_queue work.work }))
