-- What a node puts into the log.
use Rattle.std.specs.Prelude.{◌≡◌, false}
use Rattle.object_id.specs.declared.entry.Entry.{Entry}
use Rattle.epoch_log.specs.Epochs.{begins_epoch}
use Rattle.epoch_log.specs.Appending.{is_format, IsReservable}

-- an entry that a node may put: it opens no log, begins no epoch, and what it names may be named
pub record IsPuttable (entry : Entry) : Type 0 where
  pub later : is_format entry ≡ false
  pub plain : begins_epoch entry ≡ false
  pub reservable : IsReservable entry
