-- In each run in range a session has one work open on its inode: its line says whose it is.
use Rattle.std.proofs.Common.{◌≡◌, ℕ, Bool, true, false, List, Some, refl, sym, ◌∙◌}
use Rattle.std.proofs.lemmas.Option.{same_Some}
use Rattle.cluster_script.specs.declared.statement.Statement.{Statement}
use Rattle.gateway.specs.State.{Work}
use Rattle.guest_driver.specs.InodeQueue.{is_on_inode}
use Rattle.sheep_node.specs.declared.course.Request.{Request}
use Rattle.sheep_node.specs.State.{Node}
use Rattle.sheep_node.specs.OpenLines.{HasInodeWork, HasOpenLines}
use Rattle.overlap_law.specs.Past.{MomentWithPast, run_with_past}
use Rattle.overlap_law.specs.MomentChanges.{RunsAreInRange}
use Rattle.overlap_law.specs.Sessions.{AreOpen, AreOfOneSession, SessionsHaveOneInodeWork}
use Rattle.overlap_law.proofs.NoRecoveredDue.{began-with_past}
use Rattle.overlap_law.proofs.RoomOfSessions.{guests_sound}
use Rattle.sheep_world.specs.RunsWithAsks.{Move}

-- a line has one request in front
pub one_on_inode : (node : Node) → HasOpenLines node → (session req other : ℕ) (work second : Work) (request another : Request)
    → AreOpen node req work other second → AreOfOneSession node session req request other another
    → is_on_inode work.work ≡ true → is_on_inode second.work ≡ false
one_on_inode node lines session req other work second request another are of_one on = by_kind (is_on_inode second.work) refl
  where
    by_kind : (b : Bool) → is_on_inode second.work ≡ b → b ≡ false
    by_kind false is = refl
    by_kind true is =
        let first : HasInodeWork session req node.gateway.works node.requests = record {
          work = work;
          there = are.first_one;
          on_inode = on;
          request = request;
          asked = of_one.first_one;
          session = of_one.first_of;
        } in
        let next : HasInodeWork session other node.gateway.works node.requests = record {
          work = second;
          there = are.second_one;
          on_inode = is;
          request = another;
          asked = of_one.second_one;
          session = of_one.second_of;
        } in
        absurd (are.apart (same_Some req other (sym ((lines.current session req).1 first) ∙ (lines.current session other).1 next)))

module _ (script : List Statement) (range : RunsAreInRange script) (events : List Move) (moment : MomentWithPast)
    (is : run_with_past script events ≡ Some moment) where
  pub one_inode_work-in_run : SessionsHaveOneInodeWork moment.world.hosts
  one_inode_work-in_run n host there up =
      one_on_inode host.node (guests_sound script range moment.world (began-with_past script events moment is) n host there).lines
