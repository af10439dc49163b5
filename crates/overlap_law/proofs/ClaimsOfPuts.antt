-- Whatever entry a node puts, its sessions have what their works rest on afterwards; and so have those of the other nodes, and of all where
-- a member leaves, joins or gets another weight.
use Rattle.std.proofs.Common.{◌≡◌, ◌≢◌, ℕ, ◌≤◌, Bool, true, List, [], ◌∷◌, ◌++◌, All, Option, Some, None, refl, sym, ap, subst, ◌∙◌, arith}
use Rattle.std.specs.FinMap as tree
use Rattle.std.proofs.lemmas.Option.{same_Some}
use Rattle.object_id.specs.declared.entry.Entry.{Entry}
use Rattle.object_id.specs.declared.node.NodeId.{NodeId}
use Rattle.object_id.specs.declared.oid.Vid.{Vid}
use Rattle.epoch_log.specs.Epochs.{epoch_of}
use Rattle.disk_lock.specs.declared.holder.Holder.{Holder}
use Rattle.inode.specs.Layout.{Content}
use Rattle.vdi_directory.specs.Decisions.{log_effects}
use Rattle.vdi_ops.specs.Op.{OpStage, Asked, Working, Publishing, Answered, Op}
use Rattle.sheep_node.specs.AwaitedEntry.{waits_for_entry}
use Rattle.sheep_node.specs.declared.course.Course.{Course}
use Rattle.sheep_node.specs.declared.course.Course.TheVariants.{Waiting, Driving, Commanding, Checking, DoingWork, AwaitingDecision}
use Rattle.sheep_node.specs.declared.course.Request.{Request}
use Rattle.sheep_node.specs.OwnEntries.{IsEntryOf}
use Rattle.overlap_law.specs.AwaitedEntries.{IsCommandEntry, HasAsker, IsSessionsCommand}
use Rattle.overlap_law.specs.CommandDisks.{opened_in}
use Rattle.overlap_law.specs.WriterClaims.{holder_at, IsFirstEntry, LetsGo, HasLock, HasReservation, IsStageKept, IsPublicationKept}
use Rattle.overlap_law.specs.WriterClaims.{HasClaims}
use Rattle.overlap_law.proofs.AwaitedChanges.{Requests, IsOwnCourse, AreAwaited}
use Rattle.overlap_law.proofs.AwaitedCommands.{is_command, waits_at}
use Rattle.overlap_law.proofs.ClaimChanges.{Sessions}
use Rattle.overlap_law.proofs.ClaimPublications.{TakesBy, taken_none, others_given, publication_put}
use Rattle.overlap_law.proofs.ClaimPuts.{here_once}
use Rattle.overlap_law.proofs.CountedEntries.{times, same_entry}
use Rattle.overlap_law.proofs.KeptIds.{reservation-writer}

module _ (log : List Entry) (last : Entry) (later read : List Entry) (from : ℕ) (me : NodeId) (unread : List Entry) (requests : Requests)
    (sessions : Sessions)
    (own : All (IsEntryOf me) (last ∷ later)) (awaited : AreAwaited read me unread None me requests (last ∷ later))
    (has : HasClaims log (last ∷ later) read from me requests sessions) where
  -- ---- commands of the node, each of its session

  its_course : (course : Course) (op : Op) (session : ℕ) → course ≡ Commanding op → IsOwnCourse read me session course
      → IsSessionsCommand (log_effects read) me session op
  its_course course op session is its = subst (IsOwnCourse read me session) is its

  pub commands_own : (req : ℕ) (request : Request) (op : Op) → tree.get requests req ≡ Some request → request.course ≡ Commanding op
      → IsSessionsCommand (log_effects read) me request.session op
  commands_own req request op there command = its_course request.course op request.session command (awaited.commands.own req request there)

  pub apart : (one other : ℕ) (first second : Request) (first_op second_op : Op) → tree.get requests one ≡ Some first
      → tree.get requests other ≡ Some second → first.course ≡ Commanding first_op → second.course ≡ Commanding second_op
      → first.session ≡ second.session → one ≡ other
  apart one other first second first_op second_op got got_too command command_too same =
      awaited.commands.apart one other first second got got_too (ap is_command command) (ap is_command command_too) same

  -- ---- who waits for the entry, where it publishes

  pub record Publisher : Type 0 where
    pub req : ℕ
    pub request : Request
    pub op : Op
    pub made : Option Content
    pub there : tree.get requests req ≡ Some request
    pub command : request.course ≡ Commanding op
    pub at : op.stage ≡ Publishing last made

  module _ (not_first : IsFirstEntry last → ⊥) (is : IsCommandEntry me last) where
    asker : HasAsker requests last
    asker = awaited.awaited last is (let here = here_once log last later read from me requests sessions own has in omega (arith, here))

    by_stage : (req : ℕ) (request : Request) (op : Op) → tree.get requests req ≡ Some request → request.course ≡ Commanding op
        → (stage : OpStage)
        → op.stage ≡ stage → waits_at last stage ≡ true → Publisher
    by_stage req request op there command (Asked wanted) at waits =
        let first = (subst (IsStageKept log (last ∷ later) read from me request.session (opened_in request.session sessions)) at
        (has.commands req request op there command)).first in
        absurd (not_first (subst IsFirstEntry (same_entry wanted last waits) first))
    by_stage req request op there command (Working vid task) at waits = absurd (cc (waits))
    by_stage req request op there command (Publishing wanted made) at waits = record {
      req = req;
      request = request;
      op = op;
      made = made;
      there = there;
      command = command;
      at = at ∙ ap (λ (e : Entry). Publishing e made) (same_entry wanted last waits);
    }
    by_stage req request op there command (Answered change) at waits = absurd (cc (waits))

    by_course : (req : ℕ) (request : Request) → tree.get requests req ≡ Some request → (course : Course) → request.course ≡ course
        → IsOwnCourse read me request.session course → waits_for_entry last course ≡ true → Publisher
    by_course req request there (Waiting ask) course its waits = absurd (cc (waits))
    by_course req request there (Driving driver) course its waits = absurd (cc (waits))
    by_course req request there (Commanding op) course its waits = by_stage req request op there course op.stage refl waits
    by_course req request there (Checking check) course its waits = absurd (cc (waits))
    by_course req request there (DoingWork work) course its waits = absurd (cc (waits))
    by_course req request there (AwaitingDecision wanted) course its waits = absurd its

    pub publisher : Publisher
    publisher =
        by_course asker.req asker.request asker.there asker.request.course refl (awaited.commands.own asker.req asker.request asker.there)
        asker.waits

  -- ---- what it put by is left

  module _ (p : Publisher) (not_first : IsFirstEntry last → ⊥) (vid : Vid)
      (reserved : HasReservation log (last ∷ later) me p.request.session (epoch_of read) vid.0)
      (theirs : (session : ℕ) (opened : Option (Bool × ℕ)) (made : Option Content)
      → IsPublicationKept log (last ∷ later) read from me session opened last made
      → HasReservation log (last ∷ later) me session (epoch_of read) vid.0)
      (once : times last (last ∷ later) ≤ 1)
      (old : ℕ → Type 0) (locked : (of : ℕ) → old of → HasLock log (last ∷ later) me p.request.session (epoch_of read) of)
      (takes : TakesBy last me vid old) (letting : (of : ℕ) → old of → LetsGo of (Publishing last p.made))
      (stage : IsStageKept (log ++ last ∷ []) later read from me p.request.session (opened_in p.request.session sessions)
      (Publishing last p.made)) where
    sole : (other : ℕ) (second : Request) (second_op : Op) → tree.get requests other ≡ Some second → second.course ≡ Commanding second_op
        → second.session ≡ p.request.session → other ≡ p.req
    sole other second second_op got command same = apart other p.req second p.request second_op p.op got p.there command p.command same

    nobody : (q : ℕ) (second : Request) (second_op : Op) → tree.get requests q ≡ Some second → second.course ≡ Commanding second_op
        → second.session ≢ p.request.session → (wanted : Entry) (made : Option Content) → second_op.stage ≡ Publishing wanted made
        → last ≢ wanted
    nobody q second second_op got command other wanted made at same =
        let kept = subst (IsStageKept log (last ∷ later) read from me second.session (opened_in second.session sessions))
        (at ∙ ap (λ (e : Entry). Publishing e made) (sym same)) (has.commands q second second_op got command) in
        let one = reservation-writer log (last ∷ later) me second.session (epoch_of read) vid.0
        (theirs second.session (opened_in second.session sessions) made kept) in
        let two = reservation-writer log (last ∷ later) me p.request.session (epoch_of read) vid.0 reserved in
        other (ap (λ (h : Holder). h.session) (same_Some (holder_at me second.session) (holder_at me p.request.session) (sym one ∙ two)))

    pub published : HasClaims (log ++ last ∷ []) later read from me requests sessions
    published =
        publication_put log last later read from me requests sessions own has once p.req p.request p.op p.there p.command p.made p.at sole
        vid reserved old locked takes letting stage
        (λ q second second_op got command other.
        others_given log later read from me requests sessions last own has not_first p.request.session nobody
        (taken_none log last later read from me requests sessions own has once p.req p.request p.op p.there p.command p.made p.at sole vid
        reserved old locked takes) q second second_op got command other)
