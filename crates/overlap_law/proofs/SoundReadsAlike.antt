-- Of strips that are read what may come to be read is alike: nobody is writing them.
use Rattle.std.proofs.Common.{◌≡◌, ⊎_elim, ℕ, Bool, List}
use Rattle.disk_history.specs.Ledger.{Ledger}
use Rattle.vdi_directory.specs.declared.effect.Effect.{Effect}
use Rattle.overlap_law.specs.Attempts.{AttemptRecord}
use Rattle.overlap_law.specs.SoundReads.{ReadBlocksAreUnwritten, ReadStripsComeAlike}
use Rattle.overlap_law.specs.SoundUnwritten.{IsBeingWritten, StripsComeAlike}
use Rattle.overlap_law.specs.Words.{Hosts, bytes_by}
use Rattle.overlap_law.specs.WrittenBlocks.{items_at}
use Rattle.overlap_law.proofs.BlocksOfAnyDisk.{any_block}

module _ (ledger : Ledger) (effects : List Effect) (good_id : ℕ → Bool) (hosts : Hosts) (attempts : List AttemptRecord)
    (alike : StripsComeAlike ledger effects good_id hosts attempts) (apart : ReadBlocksAreUnwritten ledger hosts attempts) where
  pub reads_alike : ReadStripsComeAlike ledger effects good_id hosts attempts
  reads_alike = record {
    each = λ n host there up req unit home other i j request opened disk told piece rest one two got on course block strips whole to_come
        some to_come_too some_too comes comes_too. ⊎_elim
        (λ (being : IsBeingWritten attempts (items_at disk opened.inode.spec piece.index unit)).
        absurd (apart.each n host there up req unit request opened disk told piece rest got on course block.there block.inside block.block
        being))
        (λ (same : bytes_by unit one.work ≡ bytes_by unit two.work). same)
        (alike.each opened.inode.vid piece.index unit home other i j disk opened.inode.spec one two
        (any_block ledger effects good_id opened.inode.vid disk opened.inode.spec piece.index unit block) strips whole to_come some
        to_come_too some_too comes comes_too);
  }
