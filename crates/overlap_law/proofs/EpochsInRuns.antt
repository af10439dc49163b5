-- In every run in range the up are members, and what a node knows of epochs is by the entries of the log that it has read.
use Rattle.std.proofs.Common.{◌≡◌, arith, ℕ, zero, suc, ◌≤◌, ◌==◌, Bool, true, false, ◌||◌, cond, List, [], ◌∷◌, ◌++◌, length, take, Some}
use Rattle.std.proofs.Common.{refl, sym, ap, ◌∙◌}
use Rattle.std.proofs.Math.Seq.{take-append_seam}
use Rattle.std.proofs.lemmas.Bool.{eqb-true}
use Rattle.object_id.specs.declared.entry.Entry.{Entry}
use Rattle.epoch_log.specs.Epochs.{epoch_of, members_in, settled_of}
use Rattle.epoch_log.proofs.EpochLemmas.{members_in-append, settled_of-begun, settled_of-append}
use Rattle.vnode_table.specs.Epochs.{EpochMembers, is_entered, members_at}
use Rattle.cluster_script.specs.declared.statement.Statement.{Statement}
use Rattle.sheep_node.specs.State.{Node}
use Rattle.sheep_node.specs.LogReading.{epochs_up_to}
use Rattle.sheep_node.specs.StepFacts.{epochs_of, IsByTheLog}
use Rattle.sheep_world.specs.World.{World}
use Rattle.sheep_world.specs.Began.{Began}
use Rattle.sheep_world.specs.LogFronts.{IsFront}
use Rattle.sheep_world.proofs.LogAtOpening.{log-holds}
use Rattle.sheep_world.proofs.LogFrontLaws.{all_read}
use Rattle.sheep_world.proofs.NodesByTheLog.{by_the_log}
use Rattle.sheep_world.specs.RunsWithAsks.{Move}
use Rattle.overlap_law.specs.Past.{MomentWithPast, run_with_past}
use Rattle.overlap_law.specs.MomentChanges.{RunsAreInRange}
use Rattle.overlap_law.specs.NodeEpochs.{TheUpAreMembers, HasRead, NodesHaveRead, SettledIsRead}
use Rattle.overlap_law.proofs.NoRecoveredDue.{began-with_past}

-- ---- what a node has read of a log

-- an epoch that was entered is none behind the newest, and has the members that the entries give it
members_there : (entries : List Entry) (most epoch : ℕ) → is_entered (epochs_up_to entries most) epoch ≡ true
    → (epoch ≤ most) × (members_at (epochs_up_to entries most) epoch ≡ members_in entries epoch)
unfolding epochs_up_to
members_there entries zero epoch is = absurd (cc (is))
members_there entries (suc most) epoch is = by_tie (suc most == epoch) refl is (λ earlier. members_there entries most epoch earlier)
  where
    by_tie : (b : Bool) → (suc most == epoch) ≡ b → (b || is_entered (epochs_up_to entries most) epoch) ≡ true
        → (is_entered (epochs_up_to entries most) epoch ≡ true
        → (epoch ≤ most) × (members_at (epochs_up_to entries most) epoch ≡ members_in entries epoch))
        → (epoch ≤ suc most) × (cond b (members_in entries (suc most)) (members_at (epochs_up_to entries most) epoch)
        ≡ members_in entries epoch)
    by_tie true tie is earlier = let same = eqb-true (suc most) epoch tie in (omega (arith, same), ap (members_in entries) same)
    by_tie false tie is earlier = let (below, so) = earlier is in (omega (arith, below), so)

-- and no later entry changes them
pub members_read : (entries rest : List Entry) (epoch : ℕ) → is_entered (epochs_of entries) epoch ≡ true
    → members_at (epochs_of entries) epoch ≡ members_in (entries ++ rest) epoch
members_read [] rest epoch is = absurd (cc (is))
members_read (first ∷ later) rest epoch is =
    let (begun, so) = members_there (first ∷ later) (epoch_of (first ∷ later)) epoch is in
    so ∙ sym (members_in-append (first ∷ later) rest epoch (omega arith) begun)

-- the settled epoch of some entries is no later than that of more
pub settled_less : (entries rest : List Entry) → settled_of entries ≤ settled_of (entries ++ rest)
settled_less [] rest =
    let most : settled_of [] ≤ 1 = (settled_of-begun []).1 in
    let least : 1 ≤ settled_of rest = (settled_of-begun rest).0 in
    omega (arith, most, least)
settled_less (first ∷ later) rest = settled_of-append (first ∷ later) rest (omega arith)

has_read : (log : List Entry) (node : Node) → IsFront node.peer.entries log → IsByTheLog node → HasRead log node
has_read log node front follows = record {
  entries = ap (take (length node.peer.entries)) front.is ∙ take-append_seam node.peer.entries front.rest;
  epoch = follows.epoch_so;
  settled = follows.settled_so;
  members = λ epoch is.
      ap (λ (epochs : List EpochMembers). members_at epochs epoch) follows.epochs_so
      ∙ members_read node.peer.entries front.rest epoch (ap (λ (epochs : List EpochMembers). is_entered epochs epoch)
      (sym follows.epochs_so) ∙ is)
      ∙ ap (λ (all : List Entry). members_in all epoch) (sym front.is);
}

-- ---- every world, and every run

module _ (script : List Statement) (range : RunsAreInRange script) (world : World) (began : Began script world) where
  pub up_are_members : TheUpAreMembers world.log world.hosts
  up_are_members =
      record { each = λ n host there up. ((log-holds script range.is_script range.room world began).well n host there).stands up }

  have_read : NodesHaveRead world.log world.hosts
  have_read = record {
    each = λ n host there.
        has_read world.log host.node (all_read script world began n host there)
        (by_the_log script range.is_script range.room world began n host there);
  }

  settled_is_read : SettledIsRead world.log world.hosts
  settled_is_read = record {
    most = λ n host there.
        let front = all_read script world began n host there in
        let own : host.node.peer.settled ≡ settled_of host.node.peer.entries
        = (by_the_log script range.is_script range.room world began n host there).settled_so in
        let less : settled_of host.node.peer.entries ≤ settled_of (host.node.peer.entries ++ front.rest) = settled_less
        host.node.peer.entries front.rest in
        let all : settled_of world.log ≡ settled_of (host.node.peer.entries ++ front.rest) = ap settled_of front.is in
        omega (arith, own, less, all);
    own = λ n host there.
        let follows = by_the_log script range.is_script range.room world began n host there in
        let settled : host.node.peer.settled ≡ settled_of host.node.peer.entries = follows.settled_so in
        let epoch : host.node.peer.epoch ≡ epoch_of host.node.peer.entries = follows.epoch_so in
        let less : settled_of host.node.peer.entries ≤ epoch_of host.node.peer.entries = (settled_of-begun host.node.peer.entries).1 in
        omega (arith, settled, epoch, less);
  }

module _ (script : List Statement) (range : RunsAreInRange script) (events : List Move) (moment : MomentWithPast)
    (is : run_with_past script events ≡ Some moment) where
  pub members-in_run : TheUpAreMembers moment.world.log moment.world.hosts
  members-in_run = up_are_members script range moment.world (began-with_past script events moment is)

  pub read-in_run : NodesHaveRead moment.world.log moment.world.hosts
  read-in_run = have_read script range moment.world (began-with_past script events moment is)

  pub settled-in_run : SettledIsRead moment.world.log moment.world.hosts
  settled-in_run = settled_is_read script range moment.world (began-with_past script events moment is)
