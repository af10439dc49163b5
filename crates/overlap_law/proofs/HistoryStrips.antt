-- Of strips that are read, where nobody writes them, what may come to be read is alike: so of what the table of the read's session names.
use Rattle.std.proofs.Common.{◌≡◌, ℕ, ◌&&◌, Bool, false, List, sym, ap, ◌∙◌}
use Rattle.disk_history.specs.Ledger.{Ledger}
use Rattle.disk_history.specs.Legal.{is_torn}
use Rattle.vdi_directory.specs.declared.effect.Effect.{Effect}
use Rattle.guest_driver.specs.PieceWorks.{entry_of}
use Rattle.overlap_law.specs.Attempts.{AttemptRecord}
use Rattle.overlap_law.specs.SoundCoded.{StripItemsAreCoded}
use Rattle.overlap_law.specs.SoundReads.{ReadBlocksAreUnwritten, ReadStripsComeAlike}
use Rattle.overlap_law.specs.StayingBlocks.{BlocksStayWritten}
use Rattle.overlap_law.specs.StripReadsAlike.{ReadStripsAreAlike}
use Rattle.overlap_law.specs.Words.{Hosts}
use Rattle.overlap_law.specs.WrittenBlocks.{items_at}
use Rattle.overlap_law.proofs.SoundAlike.{come_alike}
use Rattle.overlap_law.proofs.SoundReadsAlike.{reads_alike}

module _ (ledger : Ledger) (effects : List Effect) (good_id : ℕ → Bool) (hosts : Hosts) (attempts : List AttemptRecord)
    (coded : StripItemsAreCoded ledger effects) (written : BlocksStayWritten ledger effects good_id hosts attempts)
    (unwritten : ReadBlocksAreUnwritten ledger hosts attempts) where
  alike : ReadStripsComeAlike ledger effects good_id hosts attempts
  alike =
      reads_alike ledger effects good_id hosts attempts (come_alike ledger effects good_id hosts attempts coded written) unwritten

  pub strips_alike : ReadStripsAreAlike ledger effects good_id hosts attempts
  strips_alike = record {
    each = λ n host there up req unit i k request opened found told piece rest one two got on course strips inside block whole comes some
        comes_one comes_two.
        let untorn : is_torn (items_at found opened.inode.spec piece.index unit) ≡ false
        = sym (ap (λ (b : Bool). b && is_torn (items_at found opened.inode.spec piece.index unit)) strips) ∙ whole in
        alike.each n host there up req unit (entry_of opened.inode piece) (entry_of opened.inode piece) i k request opened found told piece
        rest one two got on course block strips untorn comes some comes some comes_one comes_two;
  }
