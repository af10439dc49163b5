-- The log only grows, and what each node has read is a front of it.
use Rattle.std.proofs.Common.{◌≡◌, ℕ, List, [], ◌∷◌, ◌++◌, length, Some, refl, sym, ap, subst, ◌∙◌, append_assoc, append-nil}
use Rattle.std.specs.List.{slice_get}
use Rattle.std.proofs.lemmas.Option.{same_Some}
use Rattle.object_id.specs.declared.entry.Entry.{Entry}
use Rattle.cluster_script.specs.declared.statement.Statement.{Statement}
use Rattle.cluster_script.specs.Settings.{tries_of}
use Rattle.sheep_node.specs.declared.event.Event.{Event}
use Rattle.sheep_node.specs.declared.input.Input.TheVariants as inputs
use Rattle.sheep_node.specs.State as nodes
use Rattle.sheep_node.specs.StepFacts.{read_after}
use Rattle.sheep_node.proofs.StepResults.{step_reads}
use Rattle.sheep_world.specs.World.{Host, World}
use Rattle.sheep_world.specs.Opening.{format_entry, initial_world}
use Rattle.sheep_world.specs.Step.{EventOutcome}
use Rattle.sheep_world.specs.NodeCauses.{NodeCause, GuestAsks, RequestComes, ReplyComes, LossIsTold, EntryIsRead, EntryIsPut, RecoveryTicks, WorkIsRetried, ClientAsks, input_of_cause, IsCause, log_after_cause}
use Rattle.sheep_world.specs.EventKinds.{log_after_return, EventKind, NodeStep, UntoldLoss, UnreadDelivery, NodeLoss, NodeLeave, NodeReweight, NodeJoin, NodeReturn, PhaseEnd}
use Rattle.sheep_world.specs.HostChanges.{HostsKeep}
use Rattle.sheep_world.specs.Began.{Began}
use Rattle.sheep_world.specs.LogFronts.{IsFront, ReadsTheLog, AllReadTheLog}
use Rattle.sheep_world.proofs.BegunWorlds.{each_began}

-- a log is a front of itself, and of what it grows to
whole : (log : List Entry) → IsFront log log
whole log = record { rest = []; is = sym (append-nil log) }

with_more : (log : List Entry) (more : List Entry) → IsFront log (log ++ more)
with_more log more = record { rest = more; is = refl }

front_of_front : (one two three : List Entry) → IsFront one two → IsFront two three → IsFront one three
front_of_front one two three first second = record {
  rest = first.rest ++ second.rest;
  is = second.is ∙ ap (λ (log : List Entry). log ++ second.rest) first.is ∙ append_assoc one first.rest second.rest;
}

-- the log only grows
by_step : (cause : NodeCause) (log : List Entry) → IsFront log (log_after_cause cause log)
by_step (GuestAsks session req ask) log = whole log
by_step (RequestComes name to request) log = whole log
by_step (ReplyComes name from rsp) log = whole log
by_step (LossIsTold name packet) log = whole log
by_step (EntryIsRead entry) log = whole log
by_step (EntryIsPut entry) log = with_more log (entry ∷ [])
by_step RecoveryTicks log = whole log
by_step WorkIsRetried log = whole log
by_step (ClientAsks req ask) log = whole log

pub log_grows : (statements : List Statement) (event : Event) (world : World) (made : EventOutcome) → EventKind statements event world made
    → IsFront world.log made.world.log
log_grows statements event world made (NodeStep h) = subst (λ (m : EventOutcome). IsFront world.log m.world.log) h.made_so (by_step h.cause world.log)
log_grows statements event world made (UntoldLoss h) = subst (λ (m : EventOutcome). IsFront world.log m.world.log) h.made_so (whole world.log)
log_grows statements event world made (UnreadDelivery h) = subst (λ (m : EventOutcome). IsFront world.log m.world.log) h.made_so (whole world.log)
log_grows statements event world made (NodeLoss h) = subst (λ (m : EventOutcome). IsFront world.log m.world.log) h.made_so (whole world.log)
log_grows statements event world made (NodeLeave h) = subst (λ (m : EventOutcome). IsFront world.log m.world.log) h.made_so (record { rest = _; is = refl })
log_grows statements event world made (NodeReweight h) = subst (λ (m : EventOutcome). IsFront world.log m.world.log) h.made_so (record { rest = _; is = refl })
log_grows statements event world made (NodeJoin h) = subst (λ (m : EventOutcome). IsFront world.log m.world.log) h.made_so (record { rest = _; is = refl })
log_grows statements event world made (NodeReturn h) = subst (λ (m : EventOutcome). IsFront world.log m.world.log) h.made_so (record { rest = _; is = refl })
log_grows statements event world made (PhaseEnd h) = subst (λ (m : EventOutcome). IsFront world.log m.world.log) h.made_so (whole world.log)

-- what stands next behind a front is the first of the rest
pub next_after : (read rest : List Entry) (entry : Entry) → slice_get (read ++ rest) (length read) ≡ Some entry
    → (later : List Entry) × (rest ≡ entry ∷ later)
next_after [] [] entry is = absurd (cc (is))
next_after [] (first ∷ later) entry is = (later, ap (λ (e : Entry). e ∷ later) (same_Some first entry is))
next_after (first ∷ read) rest entry is = next_after read rest entry is

pub read_one : (read log : List Entry) (entry : Entry) → slice_get log (length read) ≡ Some entry → IsFront read log → IsFront (read ++ entry ∷ []) log
read_one read log entry next front =
    let (later, is) = next_after read front.rest entry (ap (λ (log : List Entry). slice_get log (length read)) (sym front.is) ∙ next) in
    record { rest = later; is = front.is ∙ ap (λ (rest : List Entry). read ++ rest) is ∙ sym (append_assoc read (entry ∷ []) later) }

reads_by : (statements : List Statement) (world : World) (n : ℕ) (host : Host) (cause : NodeCause) → IsCause statements world n host cause
    → IsFront host.node.peer.entries world.log → IsFront (read_after (input_of_cause cause) host.node.peer.entries) world.log
reads_by statements world n host (GuestAsks session req ask) so front = front
reads_by statements world n host (RequestComes name to request) so front = front
reads_by statements world n host (ReplyComes name from rsp) so front = front
reads_by statements world n host (LossIsTold name packet) so front = front
reads_by statements world n host (EntryIsRead entry) so front = read_one host.node.peer.entries world.log entry so front
reads_by statements world n host (EntryIsPut entry) so front = front
reads_by statements world n host RecoveryTicks so front = front
reads_by statements world n host WorkIsRetried so front = front
reads_by statements world n host (ClientAsks req ask) so front = front

reads_kept : (statements : List Statement) → HostsKeep statements (λ (world : World). Unit {0}) ReadsTheLog
unfolding initial_world
reads_kept statements = record {
  opens = λ member.
      subst (λ (read : List Entry). IsFront read (format_entry statements ∷ []))
      (sym (step_reads (inputs.LogEntry (format_entry statements)) (nodes.initial_node member.node (tries_of statements))))
      (whole (format_entry statements ∷ []));
  stays = λ event world made h i n host front.
      front_of_front host.node.peer.entries world.log made.world.log front (log_grows statements event world made h);
  steps = λ world n host cause i there up caused front.
      subst (λ (read : List Entry). IsFront read (log_after_cause cause world.log))
      (sym (step_reads (input_of_cause cause) host.node))
      (front_of_front (read_after (input_of_cause cause) host.node.peer.entries) world.log (log_after_cause cause world.log)
      (reads_by statements world n host cause caused front) (by_step cause world.log));
  fails = λ world n host i front. front;
  returns = λ world n host i there front.
      subst (λ (read : List Entry). IsFront read (log_after_return statements n world))
      (sym (step_reads (inputs.Back (log_after_return statements n world)) host.node)) (whole (log_after_return statements n world));
  joins = λ world n i control. record { rest = world.log; is = refl };
}

pub all_read : (statements : List Statement) (world : World) → Began statements world → AllReadTheLog world
all_read statements = each_began statements ReadsTheLog (reads_kept statements)
