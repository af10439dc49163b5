-- In each moment on the way of an event of a run in range a row begins with a create of its first epoch that its node served, or in an
-- epoch to which each member came.
use Rattle.std.proofs.Common.{◌≡◌, ◌⊎◌, inl, inr, ⊎_elim, arith, ℕ, ◌<◌, ◌≤◌, ◌==◌, nat_le, Bool, true, false, List, [], ◌∷◌, length}
use Rattle.std.proofs.Common.{Option, Some, None, slice_get, refl, sym, ap, subst, ◌∙◌}
use Rattle.std.specs.FinMap as tree
use Rattle.std.specs.List.{list_all}
use Rattle.std.specs.Option.{option_map_or}
use Rattle.std.proofs.lemmas.Bool.{cases_lt, eq-eqb, eqb-true, and_from, or_left, or_right}
use Rattle.object_id.specs.declared.entry.Entry.{Entry}
use Rattle.object_id.specs.declared.entry.Member.{Member}
use Rattle.object_id.specs.declared.node.NodeId.{NodeId}
use Rattle.epoch_log.specs.Members.{is_member_node, is_member}
use Rattle.epoch_log.specs.Epochs.{epoch_of, members_in}
use Rattle.gf256.specs.Part.{index_at}
use Rattle.object_id.specs.Oid.{kind_of}
use Rattle.object_list.specs.Gathered.{has_node}
use Rattle.object_store.specs.declared.key.Key.{Key}
use Rattle.object_store.specs.Store.{SeenRow, rows_of}
use Rattle.object_store.proofs.StoreLaws.{rows_of-empty}
use Rattle.cluster_script.specs.declared.statement.Statement.{Statement}
use Rattle.peer_proto.specs.declared.ask.PeerAsk.TheVariants as asks
use Rattle.peer_proto.specs.declared.ask.PeerReq.{PeerReq}
use Rattle.peer_proto.specs.declared.say.PeerSay.{PeerSay}
use Rattle.peer_proto.specs.declared.say.PeerSay.TheVariants as says
use Rattle.peer_proto.specs.declared.work.ObjWork.{ObjWork}
use Rattle.peer_proto.specs.Work.{oid_of, policy_of}
use Rattle.peer_service.specs.State.{Peer}
use Rattle.peer_service.specs.Fence.{epoch_refusal}
use Rattle.recovery.specs.Shown.{first_in}
use Rattle.recovery.specs.State.{is_listed}
use Rattle.sheep_node.specs.declared.input.Input.TheVariants as inputs
use Rattle.sheep_world.specs.World.{Host}
use Rattle.sheep_world.specs.Began.{Began}
use Rattle.sheep_world.specs.RunsWithAsks.{Move}
use Rattle.overlap_law.specs.Attempts.{AttemptRecord, attempts_with_fate, fate_of_say, object_of}
use Rattle.overlap_law.specs.Holders.{is_create_work}
use Rattle.overlap_law.specs.Words.{has_served}
use Rattle.overlap_law.specs.Reached.{Hosts, has_come_in, has_come, has_entered}
use Rattle.overlap_law.specs.Each.{has_reached}
use Rattle.overlap_law.specs.Past.{MomentWithPast, first_moment, run_with_past}
use Rattle.overlap_law.specs.TiedAttempts.{IsTied}
use Rattle.overlap_law.specs.ShapedAttempts.{AreShaped}
use Rattle.overlap_law.specs.Rows.{HasServedACreate, RowsAreBegun}
use Rattle.overlap_law.specs.MomentChanges.{MomentChange, RunsAreInRange, KeptByChanges}
use Rattle.overlap_law.specs.Traffic.{asks_making}
use Rattle.overlap_law.proofs.AskedKeys.{own_epoch, key_asked, create_asked}
use Rattle.overlap_law.proofs.BegunRows.{AreFrom, IsViewIn, keeps_begun}
use Rattle.overlap_law.proofs.EpochsRise.{epochs_rise}
use Rattle.overlap_law.proofs.FinishedInMoments.{TermsHold, kept_terms}
use Rattle.overlap_law.proofs.KnownSteps.{together}
use Rattle.overlap_law.proofs.LogsInMoments.{LogGrows, log_grows, same_members, epochs_grow}
use Rattle.overlap_law.proofs.MakersInTraffic.{HasMakersOfAttempts, kept_makers}
use Rattle.overlap_law.proofs.PendingInRuns.{knows_pending}
use Rattle.overlap_law.proofs.PendingOfNodes.{KnowsPending}
use Rattle.overlap_law.proofs.ReadInMoments.{IsSoundHost, epoch_within, recovery_members}
use Rattle.overlap_law.proofs.RowSteps.{IsRowStep, RowsChange, RowsStay, RowsStep, RowsAreNew, none_at_first, all_at, rows_change}
use Rattle.overlap_law.proofs.RunsByChanges.{run-kept}
use Rattle.overlap_law.proofs.ServedCreates.{served-still, create_succeeds, flies, served-now}
use Rattle.overlap_law.proofs.ShapedAttempts.{kept_shaped}
use Rattle.overlap_law.proofs.StoredRows.{IsRecovering, step-rows_while_pending}
use Rattle.overlap_law.proofs.TiedInRuns.{kept_tied}
use Rattle.overlap_law.proofs.TrafficOfChanges.{traffic}
use Rattle.overlap_law.proofs.TrafficServers.{reached_still}

-- an epoch has begun, and each member of it came to it
pub record AllCame (log : List Entry) (hosts : Hosts) (epoch : ℕ) : Type 0 where
  pub begun : epoch ≤ epoch_of log
  pub each : (node : ℕ) → is_member node (members_in log epoch) ≡ true → has_reached hosts epoch (record { 0 = node }) ≡ true

-- an epoch is that of a create of an object which a node served, or each member came to it
abbrev pub IsBegunIn : MomentWithPast → ℕ → ℕ → ℕ → Type 0
IsBegunIn moment n oid epoch =
    HasServedACreate moment.past.attempts oid epoch (record { 0 = n }) ⊎ AllCame moment.world.log moment.world.hosts epoch

-- so the rows of each node begin
abbrev pub EachIsBegun : MomentWithPast → Type 0
EachIsBegun moment = (n : ℕ) (host : Host) → tree.get moment.world.hosts n ≡ Some host → (oid : ℕ)
    → AreFrom (IsBegunIn moment n) host.node.peer.epoch oid (rows_of host.node.peer.rows oid)

-- what holds of a moment together
pub record RowsBegin (moment : MomentWithPast) : Type 0 where
  pub tied : IsTied moment
  pub terms : TermsHold moment
  pub shaped : AreShaped moment
  pub makers : HasMakersOfAttempts moment
  pub begun : EachIsBegun moment

-- ---- what an epoch's being entered says

come_to : (hosts : Hosts) (epoch : ℕ) (node : NodeId) → has_reached hosts epoch node ≡ true → has_come hosts epoch node ≡ true
come_to hosts epoch node reached = by_host (tree.get hosts node.0) reached
  where
    by_host : (o : Option Host) → nat_le epoch (option_map_or (λ (host : Host). host.node.peer.epoch) o 0) ≡ true
        → option_map_or (has_come_in epoch) o true ≡ true
    by_host None came = refl
    by_host (Some host) came = or_right host.is_lost (nat_le epoch host.node.peer.epoch) came

all_come : (hosts : Hosts) (epoch : ℕ) (list : List Member)
    → ((node : ℕ) → is_member node list ≡ true → has_reached hosts epoch (record { 0 = node }) ≡ true)
    → list_all (λ (member : Member). has_come hosts epoch member.node) list ≡ true
all_come hosts epoch [] each = refl
all_come hosts epoch (member ∷ list) each =
    let own : is_member member.node.0 (member ∷ list) ≡ true
    = or_left (is_member_node member.node.0 member) (is_member member.node.0 list) (eq-eqb member.node.0 member.node.0 refl) in
    and_from (has_come hosts epoch member.node) (list_all (λ (other : Member). has_come hosts epoch other.node) list)
    (come_to hosts epoch member.node (each member.node.0 own))
    (all_come hosts epoch list (λ node is. each node (or_right (is_member_node node member) (is_member node list) is)))

pub entered_by_all : (log : List Entry) (hosts : Hosts) (epoch : ℕ) → AllCame log hosts epoch → has_entered hosts log epoch ≡ true
unfolding has_entered
entered_by_all log hosts epoch came = all_come hosts epoch (members_in log epoch) came.each

-- a list that is finished waits for nobody
pub waits_for_none : (waiting : List NodeId) (node : NodeId) → (length waiting == 0) ≡ true → has_node node waiting ≡ false
waits_for_none [] node none = refl
waits_for_none (first ∷ rest) node none =
    let no : length (first ∷ rest) ≡ 0 = eqb-true (length (first ∷ rest)) 0 none in absurd (omega (arith, no))

-- ---- over a change of a moment

module _ (script : List Statement) (range : RunsAreInRange script) (start before after : MomentWithPast) (began : Began script start.world)
    (change : MomentChange script start before after) (holds : RowsBegin before) where
  grows : LogGrows before.world.log after.world.log
  grows = log_grows script change

  pub came_still : (epoch : ℕ) → AllCame before.world.log before.world.hosts epoch → AllCame after.world.log after.world.hosts epoch
  came_still epoch came =
      let within = came.begun in
      let more = epochs_grow before.world.log after.world.log grows in
      let same : members_in after.world.log epoch ≡ members_in before.world.log epoch
      = same_members before.world.log after.world.log grows holds.terms.stood.some epoch within in
      record {
        begun = omega (arith, within, more);
        each = λ node member.
            reached_still before.world.hosts after.world.hosts (epochs_rise script range start began change) epoch (record { 0 = node })
            (came.each node (sym (ap (is_member node) same) ∙ member));
      }

  begun_still : (n oid epoch : ℕ) → IsBegunIn before n oid epoch → IsBegunIn after n oid epoch
  begun_still n oid epoch is = ⊎_elim
      (λ (served : HasServedACreate before.past.attempts oid epoch (record { 0 = n })).
      inl (served-still before.world.hosts after.world.hosts before.world.wire before.past.attempts oid epoch (record { 0 = n }) served
      (traffic script range start began change)))
      (λ (came : AllCame before.world.log before.world.hosts epoch). inr (came_still epoch came))
      is

  begun_rows : (n oid epoch : ℕ) (rows : List SeenRow) → AreFrom (IsBegunIn before n) epoch oid rows
      → AreFrom (IsBegunIn after n) epoch oid rows
  begun_rows n oid epoch [] are = tt
  begun_rows n oid epoch (row ∷ rows) are = (begun_still n oid row.from.0 are.0, begun_rows n oid epoch rows are.1)

  begun_before : (n : ℕ) (was : Host) → tree.get before.world.hosts n ≡ Some was → (oid : ℕ)
      → AreFrom (IsBegunIn after n) was.node.peer.epoch oid (rows_of was.node.peer.rows oid)
  begun_before n was there oid = begun_rows n oid was.node.peer.epoch (rows_of was.node.peer.rows oid) (holds.begun n was there oid)

  module _ (n : ℕ) (was host : Host) (there : tree.get before.world.hosts n ≡ Some was)
      (step : IsRowStep script before after n was host) where
    abbrev peer : Peer
    peer = was.node.peer

    created : (request : PeerReq) (key : Key) (size offset : ℕ) (bytes : List ℕ) → step.input ≡ inputs.Request request
        → request.ask ≡ asks.Create key size offset bytes → epoch_refusal peer.epoch request.epoch.0 ≡ None
        → IsBegunIn after n key.oid peer.epoch
    created request key size offset bytes comes asked fence =
        let serving = step.serves request comes in
        let readable = (together script range before.world step.began).wired.spelled in
        let (j, attempt, at, is) = holds.makers.each serving.name serving.to request serving.asking (ap asks_making asked) in
        let index : ℕ = index_at (policy_of attempt.work) (kind_of (object_of attempt)) is.place in
        let ask_so = sym asked ∙ ap (λ (r : PeerReq). r.ask) is.request_so in
        let epoch : peer.epoch ≡ attempt.epoch
        = own_epoch peer.epoch request.epoch.0 fence ∙ ap (λ (r : PeerReq). r.epoch.0) is.request_so in
        let key_so : key ≡ record { oid = object_of attempt; index = index }
        = key_asked key size offset bytes attempt.work index (holds.shaped.shape.making j attempt at) ask_so in
        let flying = flies before.world.wire before.past.attempts holds.tied.fates readable serving.name serving.to request serving.asking
        j attempt at is.place is.among is.request_so in
        let (now, got, work_so, epoch_so, served) = served-now before.world.wire before.past.attempts readable serving.name serving.to
        request serving.asking j attempt at is.place is.among is.request_so flying in
        let told : after.past.attempts
        ≡ attempts_with_fate (fate_of_say says.Success) serving.name.sender serving.name.number before.past.attempts
        = serving.told
        ∙ ap (λ (say : PeerSay). attempts_with_fate (fate_of_say say) serving.name.sender serving.name.number before.past.attempts)
        (create_succeeds peer request key size offset bytes asked fence) in
        inl (record {
          place = j;
          create = now;
          there = ap (λ (attempts : List AttemptRecord). slice_get attempts j) told ∙ got;
          object = ap (λ (work : ObjWork). oid_of work) work_so ∙ sym (ap (λ (k : Key). k.oid) key_so);
          creating = ap (λ (work : ObjWork). is_create_work work) work_so ∙ create_asked key size offset bytes attempt.work index ask_so;
          of_epoch = epoch_so ∙ sym epoch;
          served = ap (λ (k : ℕ). has_served (record { 0 = k }) now) (sym serving.here) ∙ served;
        })

    -- where something is pending, each member came to the epoch that the node recovers
    recovered : IsRecovering was.node step.input → AllCame before.world.log before.world.hosts peer.epoch
    recovered recovering = record {
      begun = epoch_within before.world.log n was.node.me peer sound.read;
      each = λ node member.
          let aim : is_member node (members_in before.world.log was.node.recovery.epoch) ≡ true
          = ap (λ (epoch : ℕ). is_member node (members_in before.world.log epoch)) own ∙ member in
          ap (λ (epoch : ℕ). has_reached before.world.hosts epoch (record { 0 = node })) (sym own)
          ∙ holds.terms.answers.answered.each n was there (record { 0 = node })
          (recovery_members before.world.log n was sound (record { 0 = node }) later ∙ aim)
          (waits_for_none was.node.recovery.lists.waiting (record { 0 = node }) listed);
    }
      where
        knows : KnowsPending was.node
        knows = knows_pending script range before.world step.began n was there

        sound : IsSoundHost before.world.log n was
        sound = holds.terms.sound.each n was there

        later : 1 < was.node.recovery.epoch
        later = ⊎_elim
            (λ (above : 1 < was.node.recovery.epoch). above)
            (λ (most : was.node.recovery.epoch ≤ 1).
            let some = knows.some in
            let none = ap first_in (knows.first (omega (arith, most, some))).0 in
            let pending = recovering.first in
            absurd (cc (none, pending)))
            (cases_lt 1 was.node.recovery.epoch)

        own : was.node.recovery.epoch ≡ peer.epoch
        own = knows.own later

        listed : is_listed was.node.recovery ≡ true
        listed = by_list (is_listed was.node.recovery) refl
          where
            by_list : (b : Bool) → is_listed was.node.recovery ≡ b → is_listed was.node.recovery ≡ true
            by_list true is = is
            by_list false is =
                let none = ap first_in (knows.waits is).0 in
                let pending = recovering.first in
                absurd (cc (none, pending))

    stepped : (oid : ℕ) → AreFrom (IsBegunIn after n) host.node.peer.epoch oid (rows_of host.node.peer.rows oid)
    stepped oid =
        subst (λ (p : Peer). AreFrom (IsBegunIn after n) p.epoch oid (rows_of p.rows oid)) step.peer_so
        (step-rows_while_pending (IsViewIn peer.epoch) (AreFrom (IsBegunIn after n)) was.node step.input
        (keeps_begun (IsBegunIn after n) was.node step.input (record {
          created = created;
          recovered = λ recovering oid. inr (came_still peer.epoch (recovered recovering));
        })) (begun_before n was there) oid)

  begun_after : EachIsBegun after
  begun_after n host got oid = by_change (rows_change script range start began change n host got)
    where
      by_change : RowsChange script before after n host
          → AreFrom (IsBegunIn after n) host.node.peer.epoch oid (rows_of host.node.peer.rows oid)
      by_change (RowsStay was there same) =
          subst (λ (p : Peer). AreFrom (IsBegunIn after n) p.epoch oid (rows_of p.rows oid)) same (begun_before n was there oid)
      by_change (RowsStep was there step) = stepped n was host there step oid
      by_change (RowsAreNew tries same) =
          subst (λ (p : Peer). AreFrom (IsBegunIn after n) p.epoch oid (rows_of p.rows oid)) same
          (subst (AreFrom (IsBegunIn after n) 1 oid) (sym (rows_of-empty oid)) tt)

-- ---- every moment

module _ (script : List Statement) (range : RunsAreInRange script) where
  pub kept_begun : KeptByChanges script RowsBegin
  kept_begun = record {
    opens = record {
      tied = (kept_tied script range).opens;
      terms = (kept_terms script range).opens;
      shaped = (kept_shaped script range).opens;
      makers = (kept_makers script range).opens;
      begun = λ n host got oid.
          subst (AreFrom (IsBegunIn (first_moment script) n) host.node.peer.epoch oid) (sym (none_at_first script n host got oid)) tt;
    };
    keeps = λ start before after began change holds. record {
      tied = (kept_tied script range).keeps start before after began change holds.tied;
      terms = (kept_terms script range).keeps start before after began change holds.terms;
      shaped = (kept_shaped script range).keeps start before after began change holds.shaped;
      makers = (kept_makers script range).keeps start before after began change holds.makers;
      begun = begun_after script range start before after began change holds;
    };
  }

-- as the invariant says it, whichever objects are called live
pub begun-at : (moment : MomentWithPast) → RowsBegin moment → (live : ℕ → Bool)
    → RowsAreBegun moment.world.log live moment.world.hosts moment.past.attempts
begun-at moment holds live = record {
  each = λ n host there oid i row got lives.
      let own : IsBegunIn moment n oid row.from.0
      = all_at (λ (r : SeenRow). IsBegunIn moment n oid r.from.0) (rows_of host.node.peer.rows oid) i row got
      (holds.begun n host there oid) in
      ⊎_elim
      (λ (served : HasServedACreate moment.past.attempts oid row.from.0 (record { 0 = n })). inl served)
      (λ (came : AllCame moment.world.log moment.world.hosts row.from.0).
      inr (entered_by_all moment.world.log moment.world.hosts row.from.0 came))
      own;
}

module _ (script : List Statement) (range : RunsAreInRange script) (events : List Move) (moment : MomentWithPast)
    (is : run_with_past script events ≡ Some moment) where
  pub begun-in_run : (live : ℕ → Bool) → RowsAreBegun moment.world.log live moment.world.hosts moment.past.attempts
  begun-in_run = begun-at moment (run-kept script RowsBegin (kept_begun script range) events moment is)
