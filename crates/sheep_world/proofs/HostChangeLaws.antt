-- What each host of a world was before an event; and what each host keeps.
use Rattle.std.proofs.Common.{◌≡◌, ◌≢◌, ⊎_elim, ℕ, List, Some, sym, ap, subst, ◌∙◌}
use Rattle.proof_tools.proofs.FiniteMaps.{get-insert_cases}
use Rattle.std.specs.Ordering.{nat_cmp}
use Rattle.std.specs.FinMap as tree
use Rattle.cluster_script.specs.declared.statement.Statement.{Statement}
use Rattle.sheep_node.specs.declared.event.Event.{Event}
use Rattle.sheep_node.specs.State.{Node}
use Rattle.sheep_world.specs.World.{Host, World}
use Rattle.sheep_world.specs.Opening.{initial_host, initial_member_node, initial_world}
use Rattle.sheep_world.specs.MembershipChanges.{lost_host}
use Rattle.sheep_world.specs.Began.{MakesMove}
use Rattle.sheep_world.specs.Step.{EventOutcome}
use Rattle.sheep_world.proofs.WireAtOpening.{opening_found}
use Rattle.sheep_world.specs.NodeCauses.{world_after_cause}
use Rattle.sheep_world.specs.EventKinds.{log_after_return, world_after_return, EventKind, NodeStep, UntoldLoss, UnreadDelivery, NodeLoss, NodeLeave, NodeReweight, NodeJoin, NodeReturn, PhaseEnd}
use Rattle.sheep_world.specs.HostChanges.{host_after_step, host_after_return, joined_host, HostChange, Stays, Steps, IsLost, ComesBack, Joins, HoldsOfEachHost, HostsKeep, NodesKeep}
use Rattle.sheep_world.proofs.ClientReads.{goes_by_kind}

module _ (statements : List Statement) (event : Event) (world : World) (made : EventOutcome) (q : ℕ) (host : Host) where
  -- a host stands where one was put, or was there before
  was_or_is : (n : ℕ) (new : Host) → made.world.hosts ≡ tree.insert world.hosts n new → tree.get made.world.hosts q ≡ Some host
      → (q ≡ n → new ≡ host → HostChange statements world made.world q host) → HostChange statements world made.world q host
  was_or_is n new is got own = ⊎_elim
      (λ (same : (q ≡ n) × (new ≡ host)). own same.0 same.1)
      (λ (other : (q ≢ n) × (tree.get world.hosts q ≡ Some host)). Stays other.1)
      (get-insert_cases world.hosts n new q host (ap (λ (hosts : tree.FinMap nat_cmp Host). tree.get hosts q) (sym is) ∙ got))

  same_hosts : made.world.hosts ≡ world.hosts → tree.get made.world.hosts q ≡ Some host → HostChange statements world made.world q host
  same_hosts is got = Stays (ap (λ (hosts : tree.FinMap nat_cmp Host). tree.get hosts q) (sym is) ∙ got)

  -- how a host came to be as it is
  pub became : EventKind statements event world made → tree.get made.world.hosts q ≡ Some host → HostChange statements world made.world q host
  became (NodeStep h) got = was_or_is h.n (host_after_step h.cause h.host) (ap (λ (m : EventOutcome). m.world.hosts) (sym h.made_so)) got
      (λ (own : q ≡ h.n) (is : host_after_step h.cause h.host ≡ host).
      subst (λ (k : ℕ). HostChange statements world made.world k host) (sym own) (Steps (record {
        old = h.host;
        cause = h.cause;
        there = h.there;
        up = h.up;
        caused = h.caused;
        host_so = is;
        world_so = ap (λ (m : EventOutcome). m.world) h.made_so;
      })))
  became (UntoldLoss h) got = same_hosts (ap (λ (m : EventOutcome). m.world.hosts) (sym h.made_so)) got
  became (UnreadDelivery h) got = same_hosts (ap (λ (m : EventOutcome). m.world.hosts) (sym h.made_so)) got
  became (NodeLoss h) got = was_or_is h.n (lost_host h.host) (ap (λ (m : EventOutcome). m.world.hosts) (sym h.made_so)) got
      (λ (own : q ≡ h.n) (is : lost_host h.host ≡ host).
      subst (λ (k : ℕ). HostChange statements world made.world k host) (sym own) (IsLost (record { old = h.host; there = h.there; host_so = is })))
  became (NodeLeave h) got = same_hosts (ap (λ (m : EventOutcome). m.world.hosts) (sym h.made_so)) got
  became (NodeReweight h) got = same_hosts (ap (λ (m : EventOutcome). m.world.hosts) (sym h.made_so)) got
  became (NodeJoin h) got = was_or_is h.n (joined_host statements h.n) (ap (λ (m : EventOutcome). m.world.hosts) (sym h.made_so)) got
      (λ (own : q ≡ h.n) (is : joined_host statements h.n ≡ host).
      subst (λ (k : ℕ). HostChange statements world made.world k host) (sym own) (Joins (record { control = h.control; host_so = is; world_so = ap (λ (m : EventOutcome). m.world) h.made_so })))
  became (NodeReturn h) got = was_or_is h.n (host_after_return (log_after_return statements h.n world) h.host) (ap (λ (m : EventOutcome). m.world.hosts) (sym h.made_so)) got
      (λ (own : q ≡ h.n) (is : host_after_return (log_after_return statements h.n world) h.host ≡ host).
      subst (λ (k : ℕ). HostChange statements world made.world k host) (sym own) (ComesBack (record {
        old = h.host;
        there = h.there;
        lost = h.lost;
        host_so = is;
        world_so = ap (λ (m : EventOutcome). m.world) h.made_so;
      })))
  became (PhaseEnd h) got = same_hosts (ap (λ (m : EventOutcome). m.world.hosts) (sym h.made_so)) got

module _ (statements : List Statement) (I : World → Type 0) (P : World → ℕ → Host → Type 0) (kept : HostsKeep statements I P) where
  by_change : (event : Event) (world : World) (made : EventOutcome) → EventKind statements event world made → I world → HoldsOfEachHost P world
      → (q : ℕ) (host : Host) → HostChange statements world made.world q host → P made.world q host
  by_change event world made h i each q host (Stays there) = kept.stays event world made h i q host (each q host there)
  by_change event world made h i each q host (Steps s) =
      subst (λ (w : World). P w q host) s.world_so
      (subst (P (world_after_cause statements q s.old s.cause world) q) s.host_so
      (kept.steps world q s.old s.cause i s.there s.up s.caused (each q s.old s.there)))
  by_change event world made h i each q host (IsLost f) =
      subst (P made.world q) f.host_so (kept.stays event world made h i q (lost_host f.old) (kept.fails world q f.old i (each q f.old f.there)))
  by_change event world made h i each q host (ComesBack r) =
      subst (λ (w : World). P w q host) r.world_so
      (subst (P (world_after_return statements q r.old world) q) r.host_so (kept.returns world q r.old i r.there (each q r.old r.there)))
  by_change event world made h i each q host (Joins j) =
      subst (P made.world q) j.host_so (kept.stays event world made h i q (joined_host statements q) (kept.joins world q i j.control))

  -- each event keeps it of each host
  pub each_kept : (event : Event) (world : World) (made : EventOutcome) → MakesMove statements event world made → I world
      → HoldsOfEachHost P world
      → HoldsOfEachHost P made.world
  each_kept event world made is i each q host got =
      let h = goes_by_kind statements event world made is in
      by_change event world made h i each q host (became statements event world made q host h got)

  -- and so it is at first
  pub each_opens : HoldsOfEachHost P (initial_world statements)
  unfolding initial_world
  each_opens q host got =
      let (member, own, is) = opening_found statements q host got in
      subst (λ (host : Host). P (initial_world statements) q host) is
      (subst (λ (k : ℕ). P (initial_world statements) k (initial_host (initial_member_node statements member))) (sym own) (kept.opens member))

-- a predicate of nodes is one of hosts
pub hosts_of_nodes : (statements : List Statement) (P : ℕ → ℕ → Node → Type 0) → NodesKeep statements P
    → HostsKeep statements (λ (world : World). Unit {0}) (λ (world : World) (n : ℕ) (host : Host). P n host.incarnation host.node)
hosts_of_nodes statements P kept = record {
  opens = kept.opens;
  stays = λ event world made h i n host so. so;
  steps = λ world n host cause i there up caused so. kept.steps world n host cause caused so;
  fails = λ world n host i so. so;
  returns = λ world n host i there so. kept.returns (log_after_return statements n world) n host.incarnation host.node so;
  joins = λ world n i control. kept.joins n;
}
