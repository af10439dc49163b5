-- Over a change of a moment that is none in the middle of a step, a member that is up was so before, and keeps its requests: who joins or
-- comes back was no member.
use Rattle.std.proofs.Common.{◌≡◌, ◌≢◌, ◌⊎◌, inl, inr, ⊎_elim, ℕ, true, false, List, Some, refl, sym, ap, subst, ◌∙◌}
use Rattle.std.specs.FinMap as tree
use Rattle.std.proofs.lemmas.Bool.{both_ways}
use Rattle.proof_tools.proofs.FiniteMaps.{get-insert_cases}
use Rattle.cluster_script.specs.declared.statement.Statement.{Statement}
use Rattle.cluster_script.specs.declared.statement.Statement.TheVariants as lines
use Rattle.sheep_world.specs.Began.{Began}
use Rattle.sheep_world.specs.EventKinds.{log_after_return}
use Rattle.sheep_world.specs.HostChanges.{host_after_return, joined_host}
use Rattle.sheep_world.specs.LogHolds.{is_member_now}
use Rattle.sheep_world.specs.MembershipChanges.{lost_host}
use Rattle.sheep_world.specs.NodeCauses.{host_with_node}
use Rattle.sheep_world.specs.Step.{EventOutcome}
use Rattle.sheep_world.specs.World.{Host}
use Rattle.sheep_world.proofs.ControlLaws.{next_fits}
use Rattle.sheep_world.proofs.LogAtOpening.{log-holds}
use Rattle.overlap_law.specs.MomentChanges as moments
use Rattle.overlap_law.specs.MomentChanges.{MomentChange, RunsAreInRange}
use Rattle.overlap_law.specs.Past.{MomentWithPast}
use Rattle.overlap_law.specs.Reached.{Hosts}
use Rattle.overlap_law.specs.StepMoments.{first_in_step, last_in_step}
use Rattle.overlap_law.proofs.AnswersInMoments.{not_lost}
use Rattle.overlap_law.proofs.GuestsInMoments.{IsGoingOn, made_guests, received_guests}
use Rattle.overlap_law.proofs.KnownSteps.{together}

-- a host was up as the event began, with the same requests
pub record WasUp (hosts : Hosts) (n : ℕ) (host : Host) : Type 0 where
  pub old : Host
  pub there : tree.get hosts n ≡ Some old
  pub up : old.is_lost ≡ false
  pub requests : host.node.requests ≡ old.node.requests

module _ (script : List Statement) (range : RunsAreInRange script) (start : MomentWithPast) (began : Began script start.world) where
  -- each member that is up
  abbrev pub MembersWereUp : Hosts → Type 0
  MembersWereUp hosts = (n : ℕ) (host : Host) → tree.get hosts n ≡ Some host → host.is_lost ≡ false
      → is_member_now start.world.log n ≡ true → WasUp start.world.hosts n host

  same_hosts : MembersWereUp start.world.hosts
  same_hosts n host there up member = record { old = host; there = there; up = up; requests = refl }

  one_host : (k : ℕ) (new : Host) → (new.is_lost ≡ false → is_member_now start.world.log k ≡ true → WasUp start.world.hosts k new)
      → MembersWereUp (tree.insert start.world.hosts k new)
  one_host k new own n host there up member = ⊎_elim
      (λ (here : (n ≡ k) × (new ≡ host)).
      subst (λ (q : ℕ). WasUp start.world.hosts q host) (sym here.0)
      (subst (WasUp start.world.hosts k) here.1
      (own (ap (λ (h : Host). h.is_lost) here.1 ∙ up) (ap (is_member_now start.world.log) (sym here.0) ∙ member))))
      (λ (other : (n ≢ k) × (tree.get start.world.hosts n ≡ Some host)). same_hosts n host other.1 up member)
      (get-insert_cases start.world.hosts k new n host there)

  pub were_up : {before after : MomentWithPast} → MomentChange script start before after
      → IsGoingOn script start before after ⊎ ((before ≡ start) × MembersWereUp after.world.hosts)
  were_up (moments.StepBegins stepping is by) = inr (
    refl,
    one_host stepping.n (host_with_node stepping.host (first_in_step stepping).node)
        (λ up member. record {
          old = stepping.host;
          there = is.there;
          up = not_lost stepping.host is.up;
          requests = (received_guests stepping.cause stepping.host.node by).1;
        }),
  )
  were_up (moments.StepGoesOn stepping so_far next is by within) = inl (record {
    stepping = stepping;
    so_far = so_far;
    next = next;
    is = is;
    by = by;
    within = within;
    before_so = refl;
    after_so = refl;
  })
  were_up (moments.StepIsMade stepping is by) = inr (
    refl,
    one_host stepping.n (host_with_node stepping.host (last_in_step stepping).node)
        (λ up member. record {
          old = stepping.host;
          there = is.there;
          up = not_lost stepping.host is.up;
          requests = (made_guests stepping.cause stepping.host.node by).1;
        }),
  )
  were_up (moments.LossIsUntold event made happened h) =
      inr (refl, subst (λ (m : EventOutcome). MembersWereUp m.world.hosts) h.made_so same_hosts)
  were_up (moments.DeliveryIsUnread event made happened h) =
      inr (refl, subst (λ (m : EventOutcome). MembersWereUp m.world.hosts) h.made_so same_hosts)
  were_up (moments.NodeIsLost event made happened h) = inr (
    refl,
    subst (λ (m : EventOutcome). MembersWereUp m.world.hosts) h.made_so
        (one_host h.n (lost_host h.host) (λ up member. absurd (cc (up)))),
  )
  were_up (moments.NodeLeaves event made happened h) =
      inr (refl, subst (λ (m : EventOutcome). MembersWereUp m.world.hosts) h.made_so same_hosts)
  were_up (moments.NodeIsReweighted event made happened h) =
      inr (refl, subst (λ (m : EventOutcome). MembersWereUp m.world.hosts) h.made_so same_hosts)
  were_up (moments.NodeJoins event made happened h) = inr (
    refl,
    subst (λ (m : EventOutcome). MembersWereUp m.world.hosts) h.made_so
        (one_host h.n (joined_host script h.n)
        (λ up member.
        let none = (next_fits script start.world (lines.Join h.n) h.control (together script range start.world began).fit).1 in
        let some = (log-holds script range.is_script range.room start.world began).seated h.n member in
        absurd (cc (none, some)))),
  )
  were_up (moments.NodeComesBack event made happened h) = inr (
    refl,
    subst (λ (m : EventOutcome). MembersWereUp m.world.hosts) h.made_so
        (one_host h.n (host_after_return (log_after_return script h.n start.world) h.host)
        (λ up member. absurd (both_ways (is_member_now start.world.log h.n) h.no_member member))),
  )
  were_up (moments.PhaseEnds event made happened h) =
      inr (refl, subst (λ (m : EventOutcome). MembersWereUp m.world.hosts) h.made_so same_hosts)
