-- The inodes of ids that the requests or sessions of nodes have were created: every change keeps that, if in the middle of a step the
-- inode of an id that they come to have was.
use Rattle.std.proofs.Common.{◌≡◌, ◌≢◌, ⊎_elim, ◌⊎◌, ℕ, ◌≤◌, false, List, Some, refl, sym, ap, subst, ◌∙◌}
use Rattle.std.specs.FinMap as tree
use Rattle.std.proofs.lemmas.Option.{same_Some}
use Rattle.proof_tools.proofs.FiniteMaps.{get-insert_same, get-insert_other, get-insert_cases}
use Rattle.object_id.specs.Oid.{inode_number}
use Rattle.cluster_script.specs.declared.statement.Statement.{Statement}
use Rattle.sheep_node.specs.StepState.{StepState}
use Rattle.sheep_node.proofs.OneWorkParts.{Requests, Sessions}
use Rattle.sheep_world.specs.World.{Host}
use Rattle.sheep_world.specs.NodeCauses.{host_with_node}
use Rattle.sheep_world.specs.RunsWithAsks.{Move}
use Rattle.overlap_law.specs.Each.{EachUp}
use Rattle.overlap_law.specs.Fates.{IsCreated}
use Rattle.overlap_law.specs.MomentChanges as moments
use Rattle.overlap_law.specs.MomentChanges.{MomentChange, MomentTrail, RunsAreInRange}
use Rattle.overlap_law.specs.Past.{MomentWithPast, first_moment, run_with_past}
use Rattle.overlap_law.specs.StepMoments.{SteppingNode, IsStepping, StepsByChanges, IsWithinStep, moment_in_step}
use Rattle.overlap_law.proofs.AnswersInMoments.{not_lost}
use Rattle.overlap_law.proofs.CreatedStays.{created-by, created_stays}
use Rattle.overlap_law.proofs.EpochsRise.{epochs_rise}
use Rattle.overlap_law.proofs.GuestsInMoments.{GuestsChange, GuestsStay, GuestsAreNone, IsGoingOn, IsBetween, between}
use Rattle.overlap_law.proofs.KeptInRuns.{kept_on_the_way}
use Rattle.overlap_law.proofs.NoRecoveredDue.{began-with_past}

-- by a number, of a request or a session, there is an id
module _ (Has : Requests → Sessions → ℕ → ℕ → Type 0) where
  -- the inodes of these ids were created
  abbrev pub TheirInodesAreCreated : MomentWithPast → Type 0
  TheirInodesAreCreated moment = EachUp moment.world.hosts
      (λ n node. (number vid : ℕ) → Has node.requests node.sessions number vid
      → IsCreated moment.past.attempts (inode_number vid) node.peer.epoch)

  -- in the middle of a step there are only such as were there, and such as were created
  abbrev pub HaveCreatedNext : List Statement → Type 0
  HaveCreatedNext script =
      (events : List Move) (start : MomentWithPast) → run_with_past script events ≡ Some start
      → (on : SteppingNode) (so_far next : StepState) → IsStepping script start.world on → StepsByChanges on.cause
      → IsWithinStep on so_far next
      → MomentTrail script start (moment_in_step script on start so_far) → (number vid : ℕ)
      → Has next.node.requests next.node.sessions number vid → Has so_far.node.requests so_far.node.sessions number vid
      ⊎ IsCreated (moment_in_step script on start so_far).past.attempts (inode_number vid) so_far.node.peer.epoch

  module _ (script : List Statement) (range : RunsAreInRange script) (none : (number vid : ℕ) → Has tree.empty tree.empty number vid → ⊥)
      (opens : TheirInodesAreCreated (first_moment script)) (comes : HaveCreatedNext script) where
    module _ (events : List Move) (start before after : MomentWithPast) (ran : run_with_past script events ≡ Some start)
        (trail : MomentTrail script start before) (change : MomentChange script start before after)
        (all : TheirInodesAreCreated before) where
      -- what was created is, for a host that was there
      later : (n : ℕ) (was host : Host) → tree.get before.world.hosts n ≡ Some was → tree.get after.world.hosts n ≡ Some host → (vid : ℕ)
          → IsCreated before.past.attempts (inode_number vid) was.node.peer.epoch
          → IsCreated after.past.attempts (inode_number vid) host.node.peer.epoch
      later n was host there at vid created =
          let began = began-with_past script events start ran in
          let (now, found, rises) = epochs_rise script range start began change n was there in
          let same : now ≡ host = same_Some now host (sym found ∙ at) in
          created-by after.past.attempts (inode_number vid) was.node.peer.epoch host.node.peer.epoch
          (subst (λ (h : Host). was.node.peer.epoch ≤ h.node.peer.epoch) same rises)
          (created_stays script range start before after began change (inode_number vid) was.node.peer.epoch created)

      still : (n : ℕ) (host : Host) → tree.get after.world.hosts n ≡ Some host → host.is_lost ≡ false → GuestsChange before n host
          → (number vid : ℕ) → Has host.node.requests host.node.sessions number vid
          → IsCreated after.past.attempts (inode_number vid) host.node.peer.epoch
      still n host at up (GuestsStay was there was_up gateway sessions requests) number vid has =
          later n was host there at vid
          (all n was there (was_up up) number vid
          (subst (λ (s : Sessions). Has was.node.requests s number vid) sessions
          (subst (λ (r : Requests). Has r host.node.sessions number vid) requests has)))
      still n host at up (GuestsAreNone sessions requests) number vid has =
          absurd (none number vid
          (subst (λ (s : Sessions). Has tree.empty s number vid) sessions
          (subst (λ (r : Requests). Has r host.node.sessions number vid) requests has)))

    -- a node goes on in its step
    module _ (events : List Move) (start : MomentWithPast) (ran : run_with_past script events ≡ Some start) (on : SteppingNode)
        (so_far next : StepState) (steps : IsStepping script start.world on) (by : StepsByChanges on.cause)
        (within : IsWithinStep on so_far next) (trail : MomentTrail script start (moment_in_step script on start so_far))
        (all : TheirInodesAreCreated (moment_in_step script on start so_far)) where
      abbrev before_it : MomentWithPast
      before_it = moment_in_step script on start so_far

      abbrev after_it : MomentWithPast
      after_it = moment_in_step script on start next

      change_so : MomentChange script start (moment_in_step script on start so_far) (moment_in_step script on start next)
      change_so = moments.StepGoesOn on so_far next steps by within

      was_there : tree.get (moment_in_step script on start so_far).world.hosts on.n ≡ Some (host_with_node on.host so_far.node)
      was_there = get-insert_same start.world.hosts on.n (host_with_node on.host so_far.node)

      own : (host : Host) → tree.get after_it.world.hosts on.n ≡ Some host → host_with_node on.host next.node ≡ host
          → (number vid : ℕ) → Has host.node.requests host.node.sessions number vid
          → IsCreated after_it.past.attempts (inode_number vid) host.node.peer.epoch
      own host at same number vid has =
          later events start before_it after_it ran trail change_so all on.n (host_with_node on.host so_far.node) host was_there at vid
          (⊎_elim
          (λ (had : Has so_far.node.requests so_far.node.sessions number vid).
          all on.n (host_with_node on.host so_far.node) was_there (not_lost on.host steps.up) number vid had)
          (λ (created : IsCreated before_it.past.attempts (inode_number vid) so_far.node.peer.epoch). created)
          (comes events start ran on so_far next steps by within trail number vid
          (subst (λ (h : Host). Has h.node.requests h.node.sessions number vid) (sym same) has)))

      going_on : TheirInodesAreCreated (moment_in_step script on start next)
      going_on n host at up number vid has = ⊎_elim
          (λ (mine : (n ≡ on.n) × (host_with_node on.host next.node ≡ host)).
          own host (ap (tree.get after_it.world.hosts) (sym mine.0) ∙ at) mine.1 number vid has)
          (λ (other : (n ≢ on.n) × (tree.get start.world.hosts n ≡ Some host)).
          still events start before_it after_it ran trail change_so all n host at up
          (GuestsStay host (get-insert_other start.world.hosts on.n (host_with_node on.host so_far.node) n other.0 ∙ other.1) (λ up. up)
          refl refl refl)
          number vid has)
          (get-insert_cases start.world.hosts on.n (host_with_node on.host next.node) n host at)

    change_keeps : (events : List Move) (start before after : MomentWithPast) → run_with_past script events ≡ Some start
        → MomentTrail script start before → MomentChange script start before after → TheirInodesAreCreated before
        → TheirInodesAreCreated after
    change_keeps events start before after ran trail change all = ⊎_elim
        (λ (g : IsGoingOn script start before after).
        subst TheirInodesAreCreated (sym g.after_so)
        (going_on events start ran g.stepping g.so_far g.next g.is g.by g.within (subst (MomentTrail script start) g.before_so trail)
        (subst TheirInodesAreCreated g.before_so all)))
        (λ (b : IsBetween before after).
        λ n host at up number vid has.
        still events start before after ran trail change all n host at up (b.0 n host at) number vid has)
        (between script start change)

    pub inodes-on_the_way : (events : List Move) (start moment : MomentWithPast) → run_with_past script events ≡ Some start
        → MomentTrail script start moment → TheirInodesAreCreated moment
    inodes-on_the_way = kept_on_the_way script TheirInodesAreCreated opens change_keeps
