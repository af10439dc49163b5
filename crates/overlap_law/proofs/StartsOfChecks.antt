-- The writes that a check begins by a reply, in a run: they may come next in the history, and are on the check's disk.
use Rattle.std.proofs.Common.{◌≡◌, ℕ, Bool, true, false, List, [], ◌++◌, Option, Some, None, option_map, refl, sym, ap, subst, ◌∙◌}
use Rattle.std.specs.List.{list_any}
use Rattle.std.specs.Option.{option_map_or, option_and_then}
use Rattle.std.specs.FinMap as tree
use Rattle.std.proofs.lemmas.Bool.{eqb-true}
use Rattle.std.proofs.lemmas.List.Sums.{fold-append}
use Rattle.cluster_script.specs.declared.statement.Statement.{Statement}
use Rattle.cluster_script.specs.NumberedRequests.{request_at}
use Rattle.cluster_script.specs.Statements.{is_check}
use Rattle.disk_history.specs.declared.event.HistEvent.{HistEvent}
use Rattle.disk_history.specs.Ledger.{empty_ledger, ledger_after}
use Rattle.message_wire.specs.declared.name.MessageName.{MessageName}
use Rattle.object_id.specs.declared.node.NodeId.{NodeId}
use Rattle.peer_proto.specs.declared.say.PeerRsp.{PeerRsp}
use Rattle.sheep_node.specs.declared.check_write.CheckWrite.{CheckWrite}
use Rattle.sheep_node.specs.declared.input.Input.TheVariants as inputs
use Rattle.sheep_node.specs.CheckWrites.{check_write_on}
use Rattle.sheep_world.specs.World.{Host, World, is_host_up, node_at}
use Rattle.sheep_world.specs.HistoryAdditions.{check_write_by, check_write_grown, is_write_of}
use Rattle.sheep_world.specs.NodeCauses.{NodeCause, ReplyComes, IsCause, world_after_cause}
use Rattle.sheep_world.specs.RunsWithAsks.{Move}
use Rattle.overlap_law.specs.Headline.{ledger_of}
use Rattle.overlap_law.specs.MomentChanges as moments
use Rattle.overlap_law.specs.MomentChanges.{RunsAreInRange}
use Rattle.overlap_law.specs.Past.{MomentWithPast, run_with_past}
use Rattle.overlap_law.specs.ToldReads.{AllElseMayFollow}
use Rattle.overlap_law.proofs.CheckStartsFollow.{starts-in_run}
use Rattle.overlap_law.proofs.CheckStartsOnDisks.{starts_on-in_run}
use Rattle.overlap_law.proofs.FoundInRuns.{found-in_run}
use Rattle.overlap_law.proofs.FoundInSteps.{starts_begin}
use Rattle.overlap_law.proofs.ItemsAtBegin.{check_begins}
use Rattle.overlap_law.proofs.ItemsOfRequests.{begins_write_of}
use Rattle.overlap_law.proofs.NoRecoveredDue.{began-with_past}
use Rattle.overlap_law.proofs.OpenTables.{whole_tables}
use Rattle.overlap_law.proofs.WritesTold.{IsOnDisks, on_along}

-- a request that begins no block is on disks still
pub still_on : (req : ℕ) (history added : List HistEvent) → list_any (begins_write_of req) added ≡ false
    → IsOnDisks req (ledger_of history) → IsOnDisks req (ledger_of (history ++ added))
still_on req history added none on =
    subst (IsOnDisks req) (sym (fold-append ledger_after empty_ledger history added)) (on_along req added (ledger_of history) none on)

module _ (script : List Statement) (range : RunsAreInRange script) (events : List Move) (before : MomentWithPast)
    (run : run_with_past script events ≡ Some before) (n : ℕ) (host : Host) (there : tree.get before.world.hosts n ≡ Some host)
    (up : is_host_up host ≡ true) (name : MessageName) (from : NodeId) (rsp : PeerRsp)
    (caused : IsCause script before.world n host (ReplyComes name from rsp)) where
  abbrev world : World
  world = before.world

  abbrev history : List HistEvent
  history = before.past.history

  abbrev replied : NodeCause
  replied = ReplyComes name from rsp

  abbrev write : Option CheckWrite
  write = check_write_by name world (world_after_cause script n host replied world)

  abbrev check_starts : List HistEvent
  check_starts = option_map_or (check_write_grown script) write []

  write_is : write ≡ check_write_on (inputs.Reply rsp) host.node
  write_is =
      ap (λ (k : ℕ). option_and_then (check_write_on (inputs.Reply rsp)) (node_at k world)) caused.here
      ∙ ap (λ (o : Option Host). option_and_then (check_write_on (inputs.Reply rsp)) (option_map (λ (h : Host). h.node) o)) there

  pub checks_follow : AllElseMayFollow (ledger_of history) check_starts
  checks_follow = by_write (check_write_on (inputs.Reply rsp) host.node) refl
    where
      as_found : (o : Option CheckWrite) → write ≡ o → AllElseMayFollow (ledger_of history) (option_map_or (check_write_grown script) o [])
          → AllElseMayFollow (ledger_of history) check_starts
      as_found o is =
          subst (λ (o : Option CheckWrite). AllElseMayFollow (ledger_of history) (option_map_or (check_write_grown script) o [])) (sym is)

      by_write : (o : Option CheckWrite) → check_write_on (inputs.Reply rsp) host.node ≡ o
          → AllElseMayFollow (ledger_of history) check_starts
      by_write None is = as_found None (write_is ∙ is) tt
      by_write (Some comes) is =
          as_found (Some comes) (write_is ∙ is) (starts-in_run script range events before run n host there up rsp comes is)

  -- a reply to the check itself would be behind what it begins
  pub checks_begin : (req : ℕ) → option_map_or (is_write_of req) write false ≡ true → list_any (begins_write_of req) check_starts ≡ true
  checks_begin req is = by_write write refl is
    where
      by_write : (o : Option CheckWrite) → write ≡ o → option_map_or (is_write_of req) o false ≡ true
          → list_any (begins_write_of req) check_starts ≡ true
      by_write None found is = absurd (cc (is))
      by_write (Some comes) found is =
          subst (λ (k : ℕ). list_any (begins_write_of k) check_starts ≡ true) (eqb-true comes.req req is)
          (starts_begin script range comes.req world (began-with_past script events before run) history
          (found-in_run script range comes.req events before run)
          (whole_tables script range events before before run moments.Still) n host there up name from rsp caused comes
          (sym write_is ∙ found) refl)

  pub checks_on : (req : ℕ) → IsOnDisks req (ledger_of history) → IsOnDisks req (ledger_of (history ++ check_starts))
  checks_on req on = by_value (list_any (begins_write_of req) check_starts) refl
    where
      by_value : (b : Bool) → list_any (begins_write_of req) check_starts ≡ b → IsOnDisks req (ledger_of (history ++ check_starts))
      by_value false none = still_on req history check_starts none on
      by_value true is =
          let (comes, found, own, checks) = check_begins script req write is in
          subst (λ (o : Option CheckWrite). IsOnDisks req (ledger_of (history ++ option_map_or (check_write_grown script) o [])))
          (sym found)
          (subst (λ (k : ℕ). IsOnDisks k (ledger_of (history ++ check_write_grown script comes))) own
          (starts_on-in_run script range events before run n host there up rsp comes (sym write_is ∙ found)
          (ap (λ (k : ℕ). option_map_or is_check (request_at script k) false) own ∙ checks)
          (subst (λ (k : ℕ). IsOnDisks k (ledger_of history)) (sym own) on)))
