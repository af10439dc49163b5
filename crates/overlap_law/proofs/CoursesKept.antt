-- At the end of every event what is to be published was created, and is read to have its table; and the group of requests and commands is
-- whole, of disks that were available, if what is to take a disk's place is drawn from the disk.
use Rattle.std.proofs.Common.{◌≡◌, List, Some}
use Rattle.cluster_script.specs.declared.statement.Statement.{Statement}
use Rattle.vdi_directory.specs.Decisions.{log_effects}
use Rattle.overlap_law.specs.Drafts.{WhatIsPublishedIsCreated}
use Rattle.overlap_law.specs.Groups.{CoursesAreKept}
use Rattle.overlap_law.specs.MomentChanges.{RunsAreInRange, Still}
use Rattle.overlap_law.specs.Past.{MomentWithPast, run_with_past}
use Rattle.overlap_law.specs.StayingDrafts.{PlacesStayDrawn}
use Rattle.overlap_law.proofs.CarriedDrafts.{drafts-in_run}
use Rattle.overlap_law.proofs.CarriedTables.{good_id_at}
use Rattle.overlap_law.proofs.DrawnCandidates.{drawn_by}
use Rattle.overlap_law.proofs.DrawnCourses.{waited_for-in_run}
use Rattle.overlap_law.proofs.GrantsOfCommands.{grants-in_run}
use Rattle.overlap_law.proofs.LastEntriesOfNodes.{publishers_write}
use Rattle.overlap_law.proofs.PublishedInRuns.{outboxes-in_run}
use Rattle.overlap_law.proofs.PublishedRead.{published_alone}
use Rattle.sheep_world.specs.RunsWithAsks.{Move}

module _ (script : List Statement) (range : RunsAreInRange script) (events : List Move) (moment : MomentWithPast)
    (is : run_with_past script events ≡ Some moment) where
  pub published_created : WhatIsPublishedIsCreated (good_id_at moment) moment.world.hosts moment.past.attempts
  published_created = record {
    created = outboxes-in_run script range events moment is;
    table = λ n host there up req index request op entry inode got command at good within.
        published_alone script range events moment is n host there up req request op entry inode got command at
        (publishers_write script range events moment is n host there up req request op entry inode got command at) index within;
  }

  pub courses_kept : PlacesStayDrawn (log_effects moment.world.log) (good_id_at moment) moment.world.hosts moment.past.attempts
      → CoursesAreKept moment.world.log (log_effects moment.world.log) (good_id_at moment) moment.world.hosts moment.past.attempts
  courses_kept places = record {
    waited_for = waited_for-in_run script range events moment is;
    granted = grants-in_run script range events moment moment is Still;
    drawn = drawn_by script range events moment is (good_id_at moment) (drafts-in_run script range events moment is) places;
    created = published_created;
  }
