-- Each line of a request tells of it in one way.
use Rattle.std.proofs.Common.{◌≡◌, ℕ, suc, ◌+◌, Bool, cond, List, [], ◌∷◌, length, refl, arith}
use Rattle.std.proofs.lemmas.List.Sums.{sum_by-cons}
use Rattle.peer_proto.specs.declared.guest.GuestRsp.TheVariants.{Done}
use Rattle.dog_report.specs.Fates.{RequestFate, Answered, ReportLine, Told, Listed, numbers_told}
use Rattle.dog_report.specs.Counts.{tells, count_of, is_ok, is_refused, is_gone_fate, is_pending, is_unsent}

abbrev sum_of : List ReportLine → ℕ
sum_of lines =
    count_of is_ok lines + count_of is_refused lines + count_of is_gone_fate lines + count_of is_pending lines + count_of is_unsent lines

-- how much a fate counts for in a way
abbrev worth : (RequestFate → Bool) → RequestFate → ℕ
worth way fate = cond (way fate) 1 0

-- a fate is of one way
one_way : (fate : RequestFate) → worth is_ok fate + worth is_refused fate + worth is_gone_fate fate + worth is_pending fate + worth is_unsent fate ≡ 1
one_way (Answered Done) = refl
one_way fate = refl

more : (way : RequestFate → Bool) (number : ℕ) (fate : RequestFate) (lines : List ReportLine)
    → count_of way (Told number fate ∷ lines) ≡ worth way fate + count_of way lines
more way number fate lines = sum_by-cons (λ line. cond (tells way line) 1 0) (Told number fate) lines

module _ (ok refused gone pending unsent : ℕ) where
  add_up : (ok_too refused_too gone_too pending_too unsent_too : ℕ) (total : ℕ)
      → ok_too + refused_too + gone_too + pending_too + unsent_too ≡ 1
      → ok + refused + gone + pending + unsent ≡ total
      → (ok_too + ok) + (refused_too + refused) + (gone_too + gone) + (pending_too + pending) + (unsent_too + unsent) ≡ suc total
  add_up ok_too refused_too gone_too pending_too unsent_too total one all = omega (arith, one, all)

pub counts-add : (lines : List ReportLine) → sum_of lines ≡ length (numbers_told lines)
counts-add [] = refl
counts-add (Listed words ∷ lines) = counts-add lines
counts-add (Told number fate ∷ lines) =
    rw (
      more is_ok number fate lines,
      more is_refused number fate lines,
      more is_gone_fate number fate lines,
      more is_pending number fate lines,
      more is_unsent number fate lines,
    )
    (add_up (count_of is_ok lines) (count_of is_refused lines) (count_of is_gone_fate lines) (count_of is_pending lines)
    (count_of is_unsent lines) (worth is_ok fate) (worth is_refused fate) (worth is_gone_fate fate) (worth is_pending fate)
    (worth is_unsent fate) (length (numbers_told lines)) (one_way fate) (counts-add lines))
