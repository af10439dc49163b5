-- What nodes have of disks is valid in each world whose log is one, and so what heads an outbox may stand in the log.
use Rattle.std.proofs.Common.{◌≡◌, ◌≢◌, ℕ, zero, suc, ◌≤◌, true, List, [], ◌∷◌, ◌++◌, length, slice_get, All, Option, Some, None, refl, sym, subst}
use native.Mathlib.Omega.{arith}
use Rattle.std.proofs.lemmas.Bool.{and_parts}
use Rattle.std.proofs.lemmas.List.Elements.{All-cons, All-filter, All-from_get_or, All-get_or, All-nil, All-push}
use Rattle.std.proofs.lemmas.Option.{get_or_from_slice_get, slice_get_within}
use Rattle.object_id.specs.Policy.{IsPolicy}
use Rattle.object_id.specs.Same.{is_same_policy}
use Rattle.object_id.specs.declared.entry.VdiSpec.{VdiSpec}
use Rattle.object_id.proofs.SameLemmas.{policies_decided}
use Rattle.object_id.specs.Spec.{IsName, IsTag}
use Rattle.object_id.specs.declared.entry.Entry.{Entry}
use Rattle.object_id.specs.declared.entry.Entry.TheVariants.{Format, Join, Leave, Reweight, Recovered, Reserve, Publish, Clone, Snapshot, Delete, Lock, Unlock}
use Rattle.epoch_log.specs.Appending.{IsReservable, AreAppended, IsLog}
use Rattle.epoch_log.proofs.MembersLemmas.{IsLog-prefix}
use Rattle.cluster_script.specs.declared.statement.Statement.{Statement}
use Rattle.cluster_script.specs.declared.statement.Statement.TheVariants as lines
use Rattle.cluster_script.specs.Statements.{is_request, requests_of}
use Rattle.cluster_script.specs.NumberedRequests.{request_at}
use Rattle.cluster_script.specs.Settings.{tries_of}
use Rattle.cluster_script.specs.Language.{IsPrintedName, IsPrintedTag, MayStand, EachMayStand, IsScript}
use Rattle.peer_proto.specs.declared.work.ObjWork.{ObjWork}
use Rattle.peer_proto.specs.Work.{oid_of, policy_of}
use Rattle.peer_service.specs.State.{Peer, spec_of}
use Rattle.sheep_node.specs.declared.ask.Ask.{Ask}
use Rattle.sheep_node.specs.declared.ask.Ask.TheVariants as asks
use Rattle.sheep_node.specs.declared.input.Input.TheVariants as inputs
use Rattle.sheep_node.specs.State as nodes
use Rattle.sheep_node.specs.State.{Node}
use Rattle.sheep_node.specs.MayTests.{is_work_by_spec, is_object_ask, is_guest_ask}
use Rattle.sheep_node.specs.May.{MayBeFirst}
use Rattle.sheep_node.specs.ValidDisks.{IsValidAsk, IsValidInput, HasValidDisks}
use Rattle.sheep_node.proofs.OutsideAskLaws.{known_spec}
use Rattle.sheep_node.proofs.ValidSteps.{given}
use Rattle.sheep_node.proofs.ValidLaws.{read_reservable, valid_disks_stay, valid_disks_at_opening}
use Rattle.sheep_world.specs.World.{Host, World}
use Rattle.sheep_world.specs.Opening.{format_entry}
use Rattle.sheep_world.specs.Asking.{ask_of_statement}
use Rattle.sheep_world.specs.MembershipChanges.{join_of, last_weight}
use Rattle.sheep_world.specs.NodeCauses.{NodeCause, GuestAsks, RequestComes, ReplyComes, LossIsTold, EntryIsRead, EntryIsPut, RecoveryTicks, WorkIsRetried, ClientAsks, input_of_cause, IsCause}
use Rattle.sheep_world.specs.EventKinds.{log_after_return}
use Rattle.sheep_world.specs.HostChanges.{HostsKeep}
use Rattle.sheep_world.specs.ClientAsks.{is_read_ask}
use Rattle.sheep_world.specs.LogHolds.{LogHolds}

-- ---- a log

pub first_may : (entry : Entry) (later : List Entry) → IsLog (entry ∷ later) → MayBeFirst entry
first_may (Format members) later log = log.0
first_may (Join node zone vnodes) later log = log
first_may (Leave node) later log = log
first_may (Reweight node vnodes) later log = log
first_may (Recovered node epoch) later log = log
first_may (Reserve by session name origin) later log = log
first_may (Publish by vid) later log = log
first_may (Clone by vid) later log = log
first_may (Snapshot by old vid) later log = log
first_may (Delete by session name tag) later log = log
first_may (Lock by session name tag) later log = log
first_may (Unlock by session vid) later log = log

appended_reservable : (before later : List Entry) → AreAppended before later → All IsReservable later
appended_reservable before [] are = All-nil IsReservable
appended_reservable before (entry ∷ later) are =
    All-cons IsReservable entry later are.0.reservable (appended_reservable (before ++ entry ∷ []) later are.1)

pub log_reservable : (log : List Entry) → IsLog log → All IsReservable log
log_reservable [] log = absurd log
log_reservable (first ∷ later) log =
    All-cons IsReservable first later (read_reservable [] first (first_may first later log))
    (appended_reservable (first ∷ []) later (IsLog-prefix (first ∷ []) later (omega arith) log).1)

pub got_is : {X : Type 0} (P : X → Type 0) (xs : List X) (place : ℕ) (x : X) → All P xs → slice_get xs place ≡ Some x → P x
got_is P xs place x all is = subst P (get_or_from_slice_get xs place x x is) (All-get_or P xs place x (slice_get_within xs place x is) all)

-- ---- what a script asks

printed_name : (name : List ℕ) → IsPrintedName name → IsName name
printed_name name is = (
  is.some,
  is.short,
  All-from_get_or (λ byte. byte ≢ 0) name 1
      (λ place within zero_byte.
      let printed = All-get_or (λ byte. (33 ≤ byte) × (byte ≤ 126)) name place 1 within is.printed in
      let low = printed.0 in
      absurd (omega (arith, low, zero_byte))),
)

printed_tag : (tag : Option (List ℕ)) → IsPrintedTag tag → IsTag tag
printed_tag None is = tt
printed_tag (Some tag) is = printed_name tag is

asked_valid : (before : List Statement) (line : Statement) (ask : Ask) → MayStand before line → ask_of_statement line ≡ Some ask → IsValidAsk ask
asked_valid before (lines.Create session policy shift name size) ask may is = given IsValidAsk is (printed_name name may.1, may.2)
asked_valid before (lines.OpenDisk session name tag) ask may is = given IsValidAsk is (printed_name name may.1, printed_tag tag may.2)
asked_valid before (lines.Close session) ask may is = given IsValidAsk is tt
asked_valid before (lines.Read session offset length) ask may is = given IsValidAsk is tt
asked_valid before (lines.Write session offset length pattern) ask may is = given IsValidAsk is tt
asked_valid before (lines.Snapshot session tag) ask may is = given IsValidAsk is (printed_name tag may.1)
asked_valid before (lines.Clone session base tag name) ask may is =
    given IsValidAsk is (printed_name base may.1, printed_name tag may.2, printed_name name may.3)
asked_valid before (lines.Delete session name tag) ask may is = given IsValidAsk is (printed_name name may.1, printed_tag tag may.2)
asked_valid before (lines.Check session) ask may is = given IsValidAsk is tt
asked_valid before _ ask may is = absurd (cc (is))

abbrev CanStand : Statement → Type 0
CanStand s = (before : List Statement) × MayStand before s

each_can_stand : (before rest : List Statement) → EachMayStand before rest → All CanStand rest
each_can_stand before [] may = All-nil CanStand
each_can_stand before (s ∷ rest) may = All-cons CanStand s rest (before, may.0) (each_can_stand (before ++ s ∷ []) rest may.1)

request_valid : (statements : List Statement) → IsScript statements → (req : ℕ) (line : Statement) (ask : Ask) → request_at statements req ≡ Some line
    → ask_of_statement line ≡ Some ask → IsValidAsk ask
request_valid statements script zero line ask at is = absurd (cc (at))
request_valid statements script (suc place) line ask at is =
    let (before, may) = got_is CanStand (requests_of statements) place line
    (All-filter is_request CanStand statements (each_can_stand [] statements script)) at in
    asked_valid before line ask may is

-- a client's work on an object is by the policy of its disk
work_valid : (peer : Peer) (work : ObjWork) → All IsReservable peer.entries → is_object_ask peer work ≡ true → IsPolicy (policy_of work)
work_valid peer work reservable asked = by_spec (spec_of peer (oid_of work)) refl asked
  where
    by_spec : (o : Option VdiSpec) → spec_of peer (oid_of work) ≡ o → is_work_by_spec work o ≡ true → IsPolicy (policy_of work)
    by_spec None known is = absurd (cc (is))
    by_spec (Some spec) known is =
        let same : policy_of work ≡ spec.policy
        = (policies_decided (policy_of work) spec.policy).0 (and_parts (is_same_policy (policy_of work) spec.policy) _ is).0 in
        subst IsPolicy (sym same) (known_spec peer (oid_of work) spec reservable known).policy

pub read_valid : (node : Node) (ask : Ask) → HasValidDisks node → is_guest_ask node ask ≡ true → is_read_ask ask ≡ true → IsValidAsk ask
read_valid node (asks.Disk ask) valid asked reads = tt
read_valid node (asks.Vdi ask) valid asked reads = absurd (cc (reads))
read_valid node (asks.Object work) valid asked reads = work_valid node.peer work valid.read asked
read_valid node (asks.Entry entry) valid asked reads = absurd (cc (reads))

-- ---- each node

abbrev pub IsValidHost : World → ℕ → Host → Type 0
IsValidHost world n host = HasValidDisks host.node

module _ (statements : List Statement) (script : IsScript statements) where
  valid_cause : (world : World) (n : ℕ) (host : Host) (cause : NodeCause) → All IsReservable world.log → HasValidDisks host.node
      → IsCause statements world n host cause → IsValidInput (input_of_cause cause)
  valid_cause world n host (GuestAsks session req ask) log valid asked = request_valid statements script req asked.line ask asked.stands asked.asks
  valid_cause world n host (RequestComes name to request) log valid here = tt
  valid_cause world n host (ReplyComes name from rsp) log valid here = tt
  valid_cause world n host (LossIsTold name packet) log valid here = tt
  valid_cause world n host (EntryIsRead entry) log valid next = got_is IsReservable world.log (length host.node.peer.entries) entry log next
  valid_cause world n host (EntryIsPut entry) log valid first = tt
  valid_cause world n host RecoveryTicks log valid may = tt
  valid_cause world n host WorkIsRetried log valid may = tt
  valid_cause world n host (ClientAsks req ask) log valid may = read_valid host.node ask valid may.asks may.reads

  pub hosts_stay_valid : HostsKeep statements LogHolds IsValidHost
  hosts_stay_valid = record {
    opens = λ member.
        valid_disks_stay (inputs.LogEntry (format_entry statements)) (nodes.initial_node member.node (tries_of statements)) tt
        (valid_disks_at_opening member.node (tries_of statements));
    stays = λ event world made h i n host so. so;
    steps = λ world n host cause i there up caused so.
        valid_disks_stay (input_of_cause cause) host.node (valid_cause world n host cause (log_reservable world.log i.log) so caused) so;
    fails = λ world n host i so. so;
    returns = λ world n host i there so.
        valid_disks_stay (inputs.Back (log_after_return statements n world)) host.node
        (All-push IsReservable world.log (join_of statements n (last_weight world.log n)) (log_reservable world.log i.log) tt) so;
    joins = λ world n i control. valid_disks_at_opening (record { 0 = n }) (tries_of statements);
  }
