-- The groups of the invariant of the epoch overlap, each over the parts that its conjuncts speak of.
use Rattle.std.specs.Prelude.{ℕ, Bool, List}
use Rattle.object_id.specs.declared.entry.Entry.{Entry}
use Rattle.disk_history.specs.Ledger.{Ledger}
use Rattle.vdi_directory.specs.declared.effect.Effect.{Effect}
use Rattle.vdi_directory.specs.Decisions.{log_effects}
use Rattle.message_wire.specs.declared.name.MessageName.{MessageName}
use Rattle.overlap_law.specs.Attempts.{AttemptRecord}
use Rattle.overlap_law.specs.Words.{Hosts}
use Rattle.overlap_law.specs.Past.{FinishedList}
use Rattle.overlap_law.specs.Each.{Placing}
use Rattle.overlap_law.specs.Packets.{Wire}
use Rattle.overlap_law.specs.Flight.{NumbersAreSent, PacketsAreAwaited, NoReplyGoesToTheLost, RequestsAreOfThePast, RepliesAreOfTheirEpoch}
use Rattle.overlap_law.specs.Flight.{FatesAreTold, TheGoneAreFenced}
use Rattle.overlap_law.specs.Fates.{FatesAreOfTheWire, AttemptsAreOfIncarnations, ServersReachedTheEpoch, AttemptsAreShaped}
use Rattle.overlap_law.specs.Fates.{AttemptsAreWhole, IdsAreKnown, AttemptsAreOrdered, CreatesComeFirst}
use Rattle.overlap_law.specs.OpenWorks.{PacketsAreOfOpenWorks, OpenAttemptsAreLatest, WorksKnowTheirFates, ServedRequestsAreTouched}
use Rattle.overlap_law.specs.OpenWorks.{LosersAreTouched}
use Rattle.overlap_law.specs.OpenWorks.{RefusedRequestsAreMute}
use Rattle.overlap_law.specs.Writers.{OnlyTheWriterWrites, ThereIsOneWriter}
use Rattle.overlap_law.specs.Sessions.{WorksAreApart, OpenDisksAreHeld, ReadsAreLast}
use Rattle.overlap_law.specs.NodeEpochs.{TheUpAreMembers, TheUpHaveStayed, LeaversAreBeyond, NodesHaveRead, RecoveriesArePresent}
use Rattle.overlap_law.specs.NodeEpochs.{AnswerersHaveCome, TheRecoveredHaveAll, TheUnfinishedAreUnsettled, SettledIsRead}
use Rattle.overlap_law.specs.NodeEpochs.{TheSettledHaveRecovered}
use Rattle.overlap_law.specs.Rows.{RowsHaveEnds, OneRowIsOpen, RowsAreApart, RowsAreWhole, RowsAreAtTargets, RowsAreBegun, ServedRowsStay}
use Rattle.overlap_law.specs.Rows.{RecoveredRowsAreKept, AttemptsAreCarried}
use Rattle.overlap_law.specs.Since.{RowsAreSince, CopiesAreOfAttempts}
use Rattle.overlap_law.specs.Lists.{ListsComeFirst, TellersHaveCome, ListsAreWhole, ListsAreComplete, PendingIsLacked}
use Rattle.overlap_law.specs.Lists.{WhatIsNotPendingIsThere}
use Rattle.overlap_law.specs.Searches.{SearchesAreOfTheFirst, LevelsAreAsked, ToldRowsAreTrue, ToldRowsAreSince, NoRowIsTrue}
use Rattle.overlap_law.specs.Searches.{PassedLevelsLackRows, TheMadeIsNotMissing, ToldCopiesAreOfAttempts}
use Rattle.overlap_law.specs.Tables.{EntriesAreMade, OwnEntriesAreMade, TablesAreOfTheChain, PublishedInodesAreMade, TablesAreTheInodes}
use Rattle.overlap_law.specs.Tables.{every_id, SnapshotsAreFrozen, TablesAreMade}
use Rattle.overlap_law.specs.WrittenBlocks.{BlocksAreWritten}
use Rattle.overlap_law.specs.SoundUnwritten.{StripsAreSoundUnlessWritten}
use Rattle.overlap_law.specs.Drafts.{ReservedInodesAreDrawn, WhatIsPublishedIsCreated}
use Rattle.overlap_law.specs.ToDo.{WorksNameWhatIsMade, WorksMayBeMade}
use Rattle.overlap_law.specs.Checks.{ChecksHaveItems}
use Rattle.overlap_law.specs.Pieces.{WritesHaveItems, WhatIsWrittenIsAlone, WhatIsReadMayBeRead}
use Rattle.overlap_law.specs.Courses.{WorksAreWaitedFor, CommandsKeepTheirGrants}

-- the wire: numbers, packets, replies. It knows nothing of rows, nor of the history
pub record FlightIsKept (log : List Entry) (hosts : Hosts) (wire : Wire) (attempts : List AttemptRecord) : Type 0 where
  pub numbers : NumbersAreSent hosts wire
  pub linked : PacketsAreAwaited hosts wire
  pub no_reply_to_lost : NoReplyGoesToTheLost hosts wire
  pub from_past : RequestsAreOfThePast hosts wire
  pub said : RepliesAreOfTheirEpoch hosts wire
  pub fate_told : FatesAreTold wire attempts
  pub fenced : TheGoneAreFenced log hosts wire

-- attempts and works
pub record AttemptsAreKept (T : Placing) (log : List Entry) (hosts : Hosts) (wire : Wire) (refused : List ℕ)
    (lost : List MessageName) (attempts : List AttemptRecord) : Type 0 where
  pub fates : FatesAreOfTheWire wire attempts
  pub incarnations : AttemptsAreOfIncarnations hosts wire attempts
  pub reached : ServersReachedTheEpoch hosts attempts
  pub shape : AttemptsAreShaped T log attempts
  pub units : AttemptsAreWhole (log_effects log) attempts
  pub known : IdsAreKnown log attempts
  pub ordered : AttemptsAreOrdered wire attempts
  pub latest : OpenAttemptsAreLatest hosts attempts
  pub of_works : PacketsAreOfOpenWorks hosts wire attempts
  pub worked : WorksKnowTheirFates hosts wire attempts
  pub touched : ServedRequestsAreTouched hosts wire attempts
  pub losers : LosersAreTouched hosts lost attempts
  pub untouched : RefusedRequestsAreMute wire refused attempts
  pub create_first : CreatesComeFirst attempts

-- the one writer
pub record WritersAreKept (log : List Entry) (hosts : Hosts) (wire : Wire) (attempts : List AttemptRecord) : Type 0 where
  pub may_write : OnlyTheWriterWrites log hosts attempts
  pub one_writer : ThereIsOneWriter log wire attempts
  pub one_work : WorksAreApart hosts
  pub held : OpenDisksAreHeld log hosts
  pub read_last : ReadsAreLast hosts wire attempts

-- epochs and nodes
pub record TermsAreKept (log : List Entry) (hosts : Hosts) : Type 0 where
  pub up_member : TheUpAreMembers log hosts
  pub stayed : TheUpHaveStayed log hosts
  pub left : LeaversAreBeyond log hosts
  pub read : NodesHaveRead log hosts
  pub present : RecoveriesArePresent log hosts
  pub answered : AnswerersHaveCome hosts
  pub recovered : TheRecoveredHaveAll log hosts
  pub unsettled : TheUnfinishedAreUnsettled log hosts
  pub settled_read : SettledIsRead log hosts
  pub settles : TheSettledHaveRecovered log hosts

-- rows
pub record RowsAreKept (T : Placing) (log : List Entry) (effects : List Effect) (live good : ℕ
    → Bool) (hosts : Hosts) (attempts : List AttemptRecord)
    : Type 0 where
  pub ends : RowsHaveEnds hosts
  pub one_open : OneRowIsOpen hosts
  pub apart : RowsAreApart hosts
  pub row_shape : RowsAreWhole effects hosts
  pub placed : RowsAreAtTargets T effects hosts
  pub begun : RowsAreBegun log live hosts attempts
  pub stays : ServedRowsStay live hosts attempts
  pub since : RowsAreSince effects good hosts attempts
  pub of_attempts : CopiesAreOfAttempts effects live hosts attempts
  pub kept : RecoveredRowsAreKept T log effects good hosts attempts
  pub carried : AttemptsAreCarried T log effects good hosts attempts

-- recoveries
pub record SearchesAreKept (T : Placing) (log : List Entry) (effects : List Effect) (live good : ℕ
    → Bool) (listed : List FinishedList) (hosts : Hosts)
    (wire : Wire) (attempts : List AttemptRecord) : Type 0 where
  pub listing : ListsComeFirst hosts
  pub told_beyond : TellersHaveCome hosts wire
  pub list_told : ListsAreWhole live hosts wire
  pub complete : ListsAreComplete good listed hosts attempts
  pub pending : PendingIsLacked T effects live hosts
  pub has : WhatIsNotPendingIsThere T effects good hosts attempts
  pub search_first : SearchesAreOfTheFirst hosts
  pub asked : LevelsAreAsked T log effects good hosts
  pub row_told : ToldRowsAreTrue T effects good hosts wire
  pub row_told_since : ToldRowsAreSince effects good hosts wire attempts
  pub told_of_attempts : ToldCopiesAreOfAttempts effects live hosts wire attempts
  pub norow_told : NoRowIsTrue good hosts wire
  pub passed : PassedLevelsLackRows T log effects good hosts
  pub not_missing : TheMadeIsNotMissing good hosts attempts

-- inodes and tables
pub record TablesAreKept (log : List Entry) (effects : List Effect) (live good_id : ℕ
    → Bool) (hosts : Hosts) (attempts : List AttemptRecord) : Type 0 where
  pub entries : EntriesAreMade effects live good_id attempts
  pub own : OwnEntriesAreMade live attempts
  pub chains : TablesAreOfTheChain effects hosts attempts
  pub published : PublishedInodesAreMade log every_id attempts
  pub table : TablesAreTheInodes effects good_id hosts attempts
  pub frozen : SnapshotsAreFrozen effects good_id attempts
  pub table_made : TablesAreMade effects good_id hosts attempts

-- the history against the attempts
pub record WrittenIsKept (ledger : Ledger) (effects : List Effect) (good_id : ℕ
    → Bool) (hosts : Hosts) (attempts : List AttemptRecord) : Type 0 where
  pub written : BlocksAreWritten ledger effects good_id hosts attempts
  pub sound : StripsAreSoundUnlessWritten ledger effects good_id attempts

-- reads and writes that are under way, against the history
pub record PiecesAreKept (ledger : Ledger) (effects : List Effect) (good_id : ℕ
    → Bool) (hosts : Hosts) (attempts : List AttemptRecord) : Type 0 where
  pub named : WorksNameWhatIsMade effects good_id hosts attempts
  pub to_make : WorksMayBeMade ledger effects good_id hosts
  pub to_write : WritesHaveItems ledger hosts
  pub alone : WhatIsWrittenIsAlone ledger effects good_id hosts attempts
  pub read : WhatIsReadMayBeRead ledger effects good_id hosts
  pub checks : ChecksHaveItems ledger effects good_id hosts attempts

-- requests and commands
pub record CoursesAreKept (log : List Entry) (effects : List Effect) (good_id : ℕ
    → Bool) (hosts : Hosts) (attempts : List AttemptRecord) : Type 0 where
  pub waited_for : WorksAreWaitedFor effects good_id hosts attempts
  pub granted : CommandsKeepTheirGrants log hosts
  pub drawn : ReservedInodesAreDrawn effects good_id attempts
  pub created : WhatIsPublishedIsCreated good_id hosts attempts
