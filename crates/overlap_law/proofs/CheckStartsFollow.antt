-- The writes that a check begins by a reply may come next in the history: the check hasn't ended, and began none of the blocks.
use Rattle.std.proofs.Common.{◌≡◌, inr, ℕ, zero, suc, ◌+◌, ◌*◌, ◌≤◌, ◌^◌, Bool, true, false, cond, List, [], ◌∷◌, length, filter, Contains}
use Rattle.std.proofs.Common.{Option, Some, refl, sym, subst, arith, ◌∙◌}
use Rattle.std.specs.Prelude.{◌/◌, flat_map}
use Rattle.std.specs.List.{list_any, range_with_len}
use Rattle.std.specs.Option.{option_map, option_map_or}
use Rattle.std.specs.FinMap as tree
use Rattle.std.proofs.lemmas.Option.{same_Some}
use Rattle.proof_tools.proofs.Lists.{Contains-head}
use Rattle.object_id.specs.declared.limits.TheConstants.{BLOCK_BYTES}
use Rattle.object_id.specs.declared.oid.Kind.TheVariants.{Block}
use Rattle.object_id.specs.Spec.{IsSpec}
use Rattle.gf256.specs.Part.{is_in_strips}
use Rattle.cluster_script.specs.declared.statement.Statement.{Statement}
use Rattle.cluster_script.specs.NumberedRequests.{request_at}
use Rattle.cluster_script.specs.Statements.{is_check}
use Rattle.disk_check.specs.Check.{Check, CheckStage, Comparing, WritingBack, Answered, left_of, value_at_stage}
use Rattle.disk_history.specs.declared.event.HistEvent.{HistEvent}
use Rattle.disk_history.specs.Ledger.{Ledger, ledger_after}
use Rattle.peer_proto.specs.declared.say.PeerRsp.{PeerRsp}
use Rattle.sheep_node.specs.declared.check_write.CheckWrite.{CheckWrite}
use Rattle.sheep_node.specs.declared.course.Course.TheVariants.{Checking}
use Rattle.sheep_node.specs.declared.course.Request.{Request}
use Rattle.sheep_node.specs.declared.input.Input.TheVariants as inputs
use Rattle.sheep_node.specs.CheckWrites.{check_write_on, write_of_value}
use Rattle.sheep_world.specs.World.{Host, is_host_up}
use Rattle.sheep_world.specs.Began.{Began}
use Rattle.sheep_world.specs.HistoryAdditions.{block_checked, block_in, check_write_adds, check_write_grown, is_on_disk}
use Rattle.sheep_world.specs.RunsWithAsks.{Move}
use Rattle.overlap_law.specs.ChecksAhead.{HasBegunNoneAhead}
use Rattle.overlap_law.specs.DiskEvents.{ends_write_of}
use Rattle.overlap_law.specs.Headline.{ledger_of}
use Rattle.overlap_law.specs.MomentChanges.{RunsAreInRange}
use Rattle.overlap_law.specs.Past.{MomentWithPast, run_with_past}
use Rattle.overlap_law.specs.ToldReads.{AllElseMayFollow, begins_write_at}
use Rattle.overlap_law.proofs.AheadInRuns.{checks-in_run}
use Rattle.overlap_law.proofs.AheadOfChecks.{first_block}
use Rattle.overlap_law.proofs.AnswersInMoments.{not_lost}
use Rattle.overlap_law.proofs.ComingWrites.{IsComing, coming}
use Rattle.overlap_law.proofs.EndingWrites.{whole_block}
use Rattle.overlap_law.proofs.FollowingEvents.{IsNewFrom, event, later_new, start_follows}
use Rattle.overlap_law.proofs.NoRecoveredDue.{began-with_past}
use Rattle.overlap_law.proofs.RequestsTold.{ended_told, place_told}
use Rattle.overlap_law.proofs.SessionsOfRequests.{are_scripts, of_asking}
use Rattle.overlap_law.proofs.UnansweredRequests.{requests_tied}
use Rattle.overlap_law.proofs.UnendedRequests.{MayReply, unended-in_run}
use Rattle.overlap_law.proofs.WholeInRuns.{sound_here}

module _ (write : CheckWrite) where
  abbrev first : ℕ
  first = write.index * 2 ^ write.spec.shift / BLOCK_BYTES

  abbrev coded : Bool
  coded = is_in_strips write.spec.policy Block

  abbrev IsNew : ℕ → Ledger → Type 0
  IsNew = IsNewFrom write.req write.vid.0 first coded (block_in write.value)

  abbrev places : ℕ → ℕ → List ℕ
  places from count = filter (is_on_disk write) (range_with_len from count)

  adds_follow : (from count : ℕ) (ledger : Ledger) → from + count ≤ length write.value / 512 → IsNew from ledger
      → AllElseMayFollow ledger (flat_map (block_checked write) (places from count))
  adds_follow from zero ledger inside new = tt
  adds_follow from (suc count) ledger inside new =
      by_test (is_on_disk write from)
      (adds_follow (from + 1) count (ledger_after ledger (event write.req write.vid.0 first coded (block_in write.value) from))
      (omega (arith, inside)) (later_new write.req write.vid.0 first coded (block_in write.value) from ledger new))
      (adds_follow (from + 1) count ledger (omega (arith, inside))
      (record { unended = new.unended; none = λ place further. new.none place (omega (arith, further)) }))
    where
      by_test : (b : Bool)
          → AllElseMayFollow (ledger_after ledger (event write.req write.vid.0 first coded (block_in write.value) from))
          (flat_map (block_checked write) (places (from + 1) count))
          → AllElseMayFollow ledger (flat_map (block_checked write) (places (from + 1) count))
          → AllElseMayFollow ledger (flat_map (block_checked write) (cond b (from ∷ places (from + 1) count) (places (from + 1) count)))
      by_test true then rest = (
        tt,
        (
          start_follows write.req write.vid.0 first coded (block_in write.value) from ledger
              (whole_block write.value from (omega (arith, inside))) new.unended (new.none from (omega arith)),
          then,
        ),
      )
      by_test false then rest = rest

  -- where the check hasn't ended, and began none of the blocks from the first on
  history_follows : (history : List HistEvent) → list_any (ends_write_of write.req) history ≡ false
      → ((block : ℕ) → first ≤ block → list_any (begins_write_at write.req write.vid.0 block) history ≡ false)
      → AllElseMayFollow (ledger_of history) (check_write_adds write)
  history_follows history unended none =
      adds_follow 0 (length write.value / BLOCK_BYTES) (ledger_of history) (omega arith) (record {
        unended = ended_told write.req history ∙ unended;
        none = λ place from.
            place_told write.req write.vid.0 (first + place) history ∙ none (first + place) (omega arith);
      })

  -- a check that is to write it has begun none of them
  none_begun : (history : List HistEvent) (bytes : List ℕ) (check : Check) → IsSpec check.spec → HasBegunNoneAhead write.req history check
      → (stage : CheckStage) → check.stage ≡ stage
      → option_map (write_of_value write.req check) (value_at_stage bytes check.spec stage) ≡ Some write
      → (block : ℕ) → first ≤ block → list_any (begins_write_at write.req write.vid.0 block) history ≡ false
  none_begun history bytes check spec ahead (Comparing index later) at is =
      subst
      (λ (w : CheckWrite). (block : ℕ) → w.index * 2 ^ w.spec.shift / BLOCK_BYTES ≤ block
      → list_any (begins_write_at write.req w.vid.0 block) history ≡ false) (same_Some _ write is)
      (λ block further.
      let same = first_block check.spec index spec in
      ahead index block (subst (λ (s : CheckStage). Contains (left_of s) index) (sym at) (Contains-head index later))
      (omega (arith, same, further)))
  none_begun history bytes check spec ahead (WritingBack later) at is = absurd (cc (is))
  none_begun history bytes check spec ahead Answered at is = absurd (cc (is))

module _ (script : List Statement) (range : RunsAreInRange script) (events : List Move) (moment : MomentWithPast)
    (run : run_with_past script events ≡ Some moment) (n : ℕ) (host : Host) (there : tree.get moment.world.hosts n ≡ Some host)
    (up : is_host_up host ≡ true) (rsp : PeerRsp) (write : CheckWrite) (is : check_write_on (inputs.Reply rsp) host.node ≡ Some write) where
  began : Began script moment.world
  began = began-with_past script events moment run

  abbrev comes : IsComing write host.node
  comes = coming write rsp host.node is

  abbrev request : Request
  request = record { session = comes.session; course = Checking comes.check }

  unended : list_any (ends_write_of write.req) moment.past.history ≡ false
  unended =
      let asked = are_scripts script range.is_script moment.world began n host there write.req request comes.there refl in
      let tied = requests_tied script range moment.world began n host there write.req request comes.there
      (of_asking script write.req request.session asked.asking) in
      (unended-in_run script range events moment run).1.unended n host.incarnation write.req request.session tied.unanswered.started asked
      tied.unanswered.there tied.unanswered.number
      (subst (λ (o : Option Host). MayReply o host.incarnation) (sym there) (inr (refl, not_lost host up)))

  begins_follow : AllElseMayFollow (ledger_of moment.past.history) (check_write_adds write)
  begins_follow =
      let courses = (sound_here script range moment.world began n host there up).sound_works.courses in
      let ahead = (checks-in_run script range events moment run).each n host there write.req request.session comes.check comes.there in
      history_follows write moment.past.history unended
      (none_begun write moment.past.history comes.bytes comes.check (courses write.req request comes.there).spec ahead comes.check.stage
      refl comes.comes)

  pub starts-in_run : AllElseMayFollow (ledger_of moment.past.history) (check_write_grown script write)
  starts-in_run = by_check (option_map_or is_check (request_at script write.req) false)
    where
      by_check : (b : Bool) → AllElseMayFollow (ledger_of moment.past.history) (cond b (check_write_adds write) [])
      by_check true = begins_follow
      by_check false = tt
