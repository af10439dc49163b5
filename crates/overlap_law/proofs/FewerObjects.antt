-- What the invariant says of some objects and ids it says of fewer: where it speaks of the live ones, of the good ones or of the good ids
-- it asks for them, and promises none.
use Rattle.std.proofs.Common.{◌≡◌, ℕ, Bool, true, List, Option, Some, None, subst}
use Rattle.object_id.specs.declared.entry.Entry.{Entry}
use Rattle.object_id.specs.declared.entry.VdiSpec.{VdiSpec}
use Rattle.object_id.specs.declared.oid.Vid.{Vid}
use Rattle.object_id.specs.declared.node.NodeId.{NodeId}
use Rattle.object_store.specs.declared.row.RowCopy.{RowCopy}
use Rattle.object_id.specs.Oid.{inode_number}
use Rattle.disk_history.specs.Ledger.{Ledger}
use Rattle.disk_history.specs.Ledger as histories
use Rattle.vdi_directory.specs.declared.effect.Effect.{Effect}
use Rattle.vdi_directory.specs.Decisions.{log_effects}
use Rattle.peer_proto.specs.declared.work.ObjWork.{ObjWork}
use Rattle.guest_driver.specs.declared.disk.Disk.{Disk}
use Rattle.vdi_ops.specs.Op.{OpStage, Asked, Working, Publishing, Answered, Task, Opening, WritingBack, Tagging, Copying, Making}
use Rattle.sheep_node.specs.declared.course.Course.{Course}
use Rattle.sheep_node.specs.declared.course.Course.TheVariants.{Waiting, Driving, Commanding, Checking, DoingWork, AwaitingDecision}
use Rattle.sheep_node.specs.State.{Node}
use Rattle.overlap_law.specs.Attempts.{AttemptRecord, object_of}
use Rattle.overlap_law.specs.Words.{Hosts}
use Rattle.overlap_law.specs.Past.{MomentWithPast, FinishedList}
use Rattle.recovery.specs.Shown.{is_pending_object}
use Rattle.recovery.specs.State.{Search, search_on}
use Rattle.sheep_node.specs.RecoveryView.{recovery_state_of}
use Rattle.overlap_law.specs.Each.{Placing, EachAttempt, EachRow, EachUp}
use Rattle.overlap_law.specs.Rows.{IsMadeBy}
use Rattle.overlap_law.specs.ToldRows.{ToldRow}
use Rattle.overlap_law.specs.Packets.{Wire}
use Rattle.overlap_law.specs.WrittenBlocks.{IsBlockOfDisk}
use Rattle.overlap_law.specs.Courses.{IsOfTask, IsOfStage, WaitsFor, IsWaitedFor}
use Rattle.overlap_law.specs.Groups.{RowsAreKept, SearchesAreKept, TablesAreKept, WrittenIsKept, PiecesAreKept, CoursesAreKept}
use Rattle.overlap_law.specs.Overlap.{OverlapAt, CallsFewer}

-- what a moment speaks of is of some objects
pub record SpeaksOf (K : ℕ → Type 0) (hosts : Hosts) (wire : Wire) (attempts : List AttemptRecord) : Type 0 where
  pub attempted : EachAttempt attempts (λ j attempt. K (object_of attempt))
  pub rows : EachRow hosts (λ n host oid row. K oid)
  pub pending : EachUp hosts (λ n node. (oid : ℕ) → is_pending_object oid node.peer.pending ≡ true → K oid)
  pub searched : EachUp hosts (λ n node. (search : Search) → search_on (recovery_state_of node) ≡ Some search → K search.oid)
  pub told : EachUp hosts (λ n node. (from : NodeId) (epoch oid level : ℕ) (row : Option RowCopy)
      → ToldRow wire n node from epoch oid level row → K oid)

-- of some objects a test calls no more so than another
abbrev pub CallsFewerOf : (ℕ → Type 0) → (ℕ → Bool) → (ℕ → Bool) → Type 0
CallsFewerOf K few many = (number : ℕ) → few number ≡ true → K number → many number ≡ true

-- ---- rows and recoveries, by the objects

made_of : (K : ℕ → Type 0) {hosts : Hosts} {wire : Wire} {attempts : List AttemptRecord} → SpeaksOf K hosts wire attempts
    → (oid epoch : ℕ) → IsMadeBy attempts oid epoch → K oid
made_of K speaks oid epoch made = subst K made.object (speaks.attempted made.place made.attempt made.there)

module _ (K : ℕ → Type 0) {live good few_live few_good : ℕ → Bool} (lives : CallsFewerOf K few_live live)
    (goods : CallsFewerOf K few_good good)
    {T : Placing} {log : List Entry} {effects : List Effect} {hosts : Hosts} {wire : Wire} {attempts : List AttemptRecord}
    (speaks : SpeaksOf K hosts wire attempts) where
  pub rows_of_fewer : RowsAreKept T log effects live good hosts attempts → RowsAreKept T log effects few_live few_good hosts attempts
  rows_of_fewer rows = record {
    ends = rows.ends;
    one_open = rows.one_open;
    apart = rows.apart;
    row_shape = rows.row_shape;
    placed = rows.placed;
    begun = record {
      each = λ n host at oid i row there is. rows.begun.each n host at oid i row there
          (lives oid is (speaks.rows n host at oid i row there));
    };
    stays = record {
      each = λ j attempt there n host at is.
          rows.stays.each j attempt there n host at (lives (object_of attempt) is (speaks.attempted j attempt there));
    };
    since = record {
      each = λ n host at oid i row there policy is.
          rows.since.each n host at oid i row there policy (goods oid is (speaks.rows n host at oid i row there));
    };
    of_attempts = record {
      each = λ n host at oid i row there policy is.
          rows.of_attempts.each n host at oid i row there policy (lives oid is (speaks.rows n host at oid i row there));
    };
    kept = record {
      each = λ n host at oid epoch policy is known finished settled target made.
          rows.kept.each n host at oid epoch policy (goods oid is (made_of K speaks oid epoch made)) known finished settled target made;
    };
    carried = record {
      own = λ j attempt there policy is.
          rows.carried.own j attempt there policy (goods (object_of attempt) is (speaks.attempted j attempt there));
      later = λ j attempt there policy epoch is.
          rows.carried.later j attempt there policy epoch (goods (object_of attempt) is (speaks.attempted j attempt there));
    };
  }

  pub searches_of_fewer : {listed : List FinishedList} → SearchesAreKept T log effects live good listed hosts wire attempts
      → SearchesAreKept T log effects few_live few_good listed hosts wire attempts
  searches_of_fewer all = record {
    listing = all.listing;
    told_beyond = all.told_beyond;
    list_told = record {
      each = λ n host at up q teller there oids told oid is i row standing.
          all.list_told.each n host at up q teller there oids told oid (lives oid is (speaks.rows q teller there oid i row standing)) i row
          standing;
    };
    complete = record {
      each = λ n host at oid before listed is earlier made.
          all.complete.each n host at oid before listed (goods oid is (made_of K speaks oid before made)) earlier made;
    };
    pending = record {
      target = λ n host at up oid policy pending is.
          all.pending.target n host at up oid policy pending (lives oid is (speaks.pending n host at up oid pending));
      lacked = λ n host at up oid pending is.
          all.pending.lacked n host at up oid pending (lives oid is (speaks.pending n host at up oid pending));
      known = λ n host at up oid pending is. all.pending.known n host at up oid pending
          (lives oid is (speaks.pending n host at up oid pending));
    };
    has = record {
      each = λ n host at up oid index policy listed is known own made.
          all.has.each n host at up oid index policy listed (goods oid is (made_of K speaks oid host.node.recovery.epoch made)) known own
          made;
    };
    search_first = all.search_first;
    asked = record {
      each = λ n host at up search policy on is.
          all.asked.each n host at up search policy on (goods search.oid is (speaks.searched n host at up search on));
    };
    row_told = record {
      each = λ n host at up from epoch oid level row policy told is.
          all.row_told.each n host at up from epoch oid level row policy told
          (goods oid is (speaks.told n host at up from epoch oid level (Some row) told));
    };
    row_told_since = record {
      each = λ n host at up from epoch oid level row policy told is.
          all.row_told_since.each n host at up from epoch oid level row policy told
          (goods oid is (speaks.told n host at up from epoch oid level (Some row) told));
    };
    told_of_attempts = record {
      each = λ n host at up from epoch oid level row policy told is.
          all.told_of_attempts.each n host at up from epoch oid level row policy told
          (lives oid is (speaks.told n host at up from epoch oid level (Some row) told));
    };
    norow_told = record {
      each = λ n host at up from epoch oid level told is.
          all.norow_told.each n host at up from epoch oid level told (goods oid is
          (speaks.told n host at up from epoch oid level None told));
    };
    passed = record {
      each = λ n host at up search policy level on is.
          all.passed.each n host at up search policy level on (goods search.oid is (speaks.searched n host at up search on));
    };
    not_missing = record {
      each = λ n host at up oid before listed is earlier made.
          all.not_missing.each n host at up oid before listed (goods oid is (made_of K speaks oid before made)) earlier made;
    };
  }

-- ---- the rest, by the ids of disks

module _ {good_id few_ids : ℕ → Bool} (ids : CallsFewer few_ids good_id) where
  tables_of_fewer : (K : ℕ → Type 0) {live few_live : ℕ → Bool} → CallsFewerOf K few_live live → {log : List Entry} {effects : List Effect}
      {hosts : Hosts} {wire : Wire} {attempts : List AttemptRecord} → SpeaksOf K hosts wire attempts
      → TablesAreKept log effects live good_id hosts attempts → TablesAreKept log effects few_live few_ids hosts attempts
  tables_of_fewer K lives speaks tables = record {
    entries = record {
      each = λ j attempt there vid index object alive is.
          tables.entries.each j attempt there vid index object
          (lives (inode_number vid) alive (subst K object (speaks.attempted j attempt there))) (ids vid is);
    };
    own = record {
      each = λ j attempt there vid index valid object alive.
          tables.own.each j attempt there vid index valid object
          (lives (inode_number vid) alive (subst K object (speaks.attempted j attempt there)));
    };
    chains = tables.chains;
    published = tables.published;
    table = record {
      each = λ n host at up number index session disk of on is.
          tables.table.each n host at up number index session disk of on (ids disk.inode.vid is);
    };
    frozen = record { each = λ vid index spec snapshot is. tables.frozen.each vid index spec snapshot (ids vid is) };
    table_made = record {
      each = λ n host at up number index session disk of on is.
          tables.table_made.each n host at up number index session disk of on (ids disk.inode.vid is);
    };
  }

  -- a block of a disk is one by the greater test, too
  block_by_more : {ledger : Ledger} {effects : List Effect} {vid index unit : ℕ} {disk : histories.Disk} {spec : VdiSpec}
      → IsBlockOfDisk ledger effects few_ids vid disk spec index unit → IsBlockOfDisk ledger effects good_id vid disk spec index unit
  block_by_more {ledger} {effects} {vid} block = record {
    there = block.there;
    kept = block.kept;
    live = block.live;
    good = ids vid block.good;
    made_with = block.made_with;
    object = block.object;
    inside = block.inside;
    block = block.block;
  }

  written_of_fewer : {ledger : Ledger} {effects : List Effect} {hosts : Hosts} {attempts : List AttemptRecord}
      → WrittenIsKept ledger effects good_id hosts attempts → WrittenIsKept ledger effects few_ids hosts attempts
  written_of_fewer all = record {
    written = record {
      entered = λ vid index unit disk spec is. all.written.entered vid index unit disk spec (block_by_more is);
      holes = λ vid index unit disk spec is. all.written.holes vid index unit disk spec (block_by_more is);
      made = λ vid index unit home disk spec is. all.written.made vid index unit home disk spec (block_by_more is);
      each = λ vid index unit home disk spec is. all.written.each vid index unit home disk spec (block_by_more is);
    };
    sound = record {
      each = λ vid index unit home place disk spec base later is.
          all.sound.each vid index unit home place disk spec base later (block_by_more is);
    };
  }

  pieces_of_fewer : {ledger : Ledger} {effects : List Effect} {hosts : Hosts} {attempts : List AttemptRecord}
      → PiecesAreKept ledger effects good_id hosts attempts → PiecesAreKept ledger effects few_ids hosts attempts
  pieces_of_fewer all = record {
    named = record {
      each = λ n host at up work vid index to_do is. all.named.each n host at up work vid index to_do (ids vid is);
      own = all.named.own;
    };
    to_make = record {
      each = λ n host at up work vid index unit disk spec to_do object is.
          all.to_make.each n host at up work vid index unit disk spec to_do object (block_by_more is);
    };
    to_write = all.to_write;
    alone = record {
      entry = λ n host at up req index unit place request opened disk item payload stage piece rest on driving behind is.
          all.alone.entry n host at up req index unit place request opened disk item payload stage piece rest on driving behind
          (block_by_more is);
      bytes = λ n host at up req index unit place request opened disk item payload stage piece rest on driving behind is.
          all.alone.bytes n host at up req index unit place request opened disk item payload stage piece rest on driving behind
          (block_by_more is);
    };
    read = record {
      long = all.read.long;
      bytes = λ n host at up req offset size place unit request opened disk told piece rest before one on driving parted there inside is.
          all.read.bytes n host at up req offset size place unit request opened disk told piece rest before one on driving parted there
          inside (block_by_more is);
    };
    checks = record {
      writing = all.checks.writing;
      ahead = all.checks.ahead;
      behind = all.checks.behind;
      alone = λ n host at up req index unit place check opened disk item on behind done is.
          all.checks.alone n host at up req index unit place check opened disk item on behind done (block_by_more is);
    };
  }

  -- ---- what a request waits for

  module _ (effects : List Effect) (attempts : List AttemptRecord) where
    task_of_fewer : (disk : Option Disk) (vid : Vid) (task : Task) (work : ObjWork) → IsOfTask effects good_id attempts disk vid task work
        → IsOfTask effects few_ids attempts disk vid task work
    task_of_fewer disk vid (Opening snapshot ids_above header) work is = is
    task_of_fewer disk vid (WritingBack inode) work is = is
    task_of_fewer disk vid (Tagging old inode) work is = is
    task_of_fewer disk vid (Copying ids_above header) work is = is
    task_of_fewer disk vid (Making entry opened) work is = record {
      inode = is.inode;
      own = is.own;
      work_of = is.work_of;
      same = is.same;
      drawn = λ index draft. is.drawn index (record {
        reservation = draft.reservation;
        stands = draft.stands;
        good = ids vid.0 draft.good;
        spec = draft.spec;
        made_with = draft.made_with;
        within = draft.within;
      });
    }

    stage_of_fewer : (disk : Option Disk) (stage : OpStage) (work : ObjWork) → IsOfStage effects good_id attempts disk stage work
        → IsOfStage effects few_ids attempts disk stage work
    stage_of_fewer disk (Asked entry) work is = is
    stage_of_fewer disk (Working vid task) work is = task_of_fewer disk vid task work is
    stage_of_fewer disk (Publishing entry opened) work is = is
    stage_of_fewer disk (Answered change) work is = is

    waits_of_fewer : (disk : Option Disk) (course : Course) (work : ObjWork) → WaitsFor effects good_id attempts disk course work
        → WaitsFor effects few_ids attempts disk course work
    waits_of_fewer disk (Waiting ask) work is = is
    waits_of_fewer disk (Driving driver) work is = is
    waits_of_fewer disk (Commanding op) work is = stage_of_fewer disk op.stage work is
    waits_of_fewer disk (Checking check) work is = is
    waits_of_fewer disk (DoingWork asked) work is = is
    waits_of_fewer disk (AwaitingDecision entry) work is = is

    waited_for_of_fewer : (node : Node) (req : ℕ) (work : ObjWork) → IsWaitedFor effects good_id attempts node req work
        → IsWaitedFor effects few_ids attempts node req work
    waited_for_of_fewer node req work is = record {
      request = is.request;
      session = is.session;
      there = is.there;
      of = is.of;
      waits = waits_of_fewer is.session.disk is.request.course work is.waits;
    }

    courses_of_fewer : {log : List Entry} {hosts : Hosts} → CoursesAreKept log effects good_id hosts attempts
        → CoursesAreKept log effects few_ids hosts attempts
    courses_of_fewer all = record {
      waited_for = record {
        opened = λ n host at up req work there. waited_for_of_fewer host.node req work.work
            (all.waited_for.opened n host at up req work there);
        lined = λ n host at up number place session waiting of there.
            waited_for_of_fewer host.node waiting.req waiting.work (all.waited_for.lined n host at up number place session waiting of
            there);
      };
      granted = all.granted;
      drawn = record {
        each = λ vid index entry is candidate. all.drawn.each vid index entry (record {
          reservation = is.reservation;
          stands = is.stands;
          good = ids vid is.good;
          spec = is.spec;
          made_with = is.made_with;
          within = is.within;
        }) candidate;
      };
      created = record {
        created = all.created.created;
        table = λ n host at up req index request op entry inode there on publishing is.
            all.created.table n host at up req index request op entry inode there on publishing (ids inode.vid is);
      };
    }

-- the whole, where the tests call fewer so of what the moment speaks of
pub overlap_of_fewer_there : (K : ℕ → Type 0) {live good good_id few_live few_good few_ids : ℕ → Bool} → CallsFewerOf K few_live live
    → CallsFewerOf K few_good good → CallsFewer few_ids good_id → (moment : MomentWithPast)
    → SpeaksOf K moment.world.hosts moment.world.wire moment.past.attempts → OverlapAt live good good_id moment
    → OverlapAt few_live few_good few_ids moment
overlap_of_fewer_there K {live} {good} {good_id} lives goods ids moment speaks all = record {
  flight = all.flight;
  attempts = record {
    fates = all.attempts.fates;
    incarnations = all.attempts.incarnations;
    reached = all.attempts.reached;
    shape = all.attempts.shape;
    units = all.attempts.units;
    known = all.attempts.known;
    ordered = all.attempts.ordered;
    latest = all.attempts.latest;
    of_works = all.attempts.of_works;
    worked = all.attempts.worked;
    touched = all.attempts.touched;
    losers = all.attempts.losers;
    untouched = all.attempts.untouched;
    create_first = all.attempts.create_first;
  };
  writers = all.writers;
  terms = all.terms;
  rows = rows_of_fewer K lives goods speaks all.rows;
  searches = searches_of_fewer K lives goods speaks all.searches;
  tables = tables_of_fewer ids K lives speaks all.tables;
  written = written_of_fewer ids all.written;
  courses = courses_of_fewer ids (log_effects moment.world.log) moment.past.attempts all.courses;
  pieces = pieces_of_fewer ids all.pieces;
  lacked = record {
    known = λ n host at up vid message meant alive is. all.lacked.known n host at up vid message meant alive (ids vid is);
    told = λ n host at up vid message from reply meant new alive is.
        all.lacked.told n host at up vid message from reply meant new alive (ids vid is);
  };
  legal = all.legal;
  no_items = all.no_items;
  nothing_made = all.nothing_made;
}

-- and where they call fewer so of all
pub overlap_of_fewer : {live good good_id few_live few_good few_ids : ℕ → Bool} → CallsFewer few_live live
    → CallsFewer few_good good → CallsFewer few_ids good_id → (moment : MomentWithPast) → OverlapAt live good good_id moment
    → OverlapAt few_live few_good few_ids moment
overlap_of_fewer lives goods ids moment all =
    overlap_of_fewer_there (λ (oid : ℕ). Unit {0}) (λ oid is any. lives oid is) (λ oid is any. goods oid is) ids moment (record {
      attempted = λ j attempt there. tt;
      rows = λ n host at oid i row there. tt;
      pending = λ n host at up oid pending. tt;
      searched = λ n host at up search on. tt;
      told = λ n host at up from epoch oid level row told. tt;
    }) all
