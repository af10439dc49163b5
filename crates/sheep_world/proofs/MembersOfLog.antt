-- Who is a member, and with which last weight, once a log has one entry more.
use Rattle.std.proofs.Common.{◌≡◌, ◌≢◌, arith, ℕ, ◌+◌, ◌≤◌, nat_lt, Bool, true, false, not, ◌||◌, cond, List, [], ◌∷◌, ◌++◌, length, filter, refl, sym, ap, ◌∙◌}
use Rattle.std.proofs.lemmas.Bool.{eqb-true}
use Rattle.std.proofs.lemmas.List.Sums.{fold-append}
use Rattle.object_id.specs.declared.entry.Member.{Member}
use Rattle.object_id.specs.declared.entry.Entry.{Entry}
use Rattle.object_id.specs.declared.entry.Entry.TheVariants.{Format, Join, Leave, Reweight}
use Rattle.epoch_log.specs.Members.{is_member_node, is_member, members_with, members_without, members_reweighted, members_after}
use Rattle.epoch_log.specs.Epochs.{begins_epoch, epoch_of, members_in}
use Rattle.epoch_log.specs.Appending.{is_format, FitsMembers}
use Rattle.epoch_log.proofs.EpochLemmas.{epoch_of-append, members_in-append, members_in-begun}
use Rattle.sheep_world.specs.MembershipChanges.{weight_after, last_weight}
use Rattle.sheep_world.specs.LogHolds.{is_member_now}

swapped : (a b c : Bool) → (a || (b || c)) ≡ (b || (a || c))
swapped true true c = refl
swapped true false c = refl
swapped false b c = refl

pub member-members_with : (q : ℕ) (member : Member) (members : List Member)
    → is_member q (members_with member members) ≡ (is_member_node q member || is_member q members)
member-members_with q member [] = refl
member-members_with q member (first ∷ rest) = by_order (nat_lt member.node.0 first.node.0) (member-members_with q member rest)
  where
    by_order : (b : Bool) → is_member q (members_with member rest) ≡ (is_member_node q member || is_member q rest)
        → is_member q (cond b (member ∷ first ∷ rest) (first ∷ members_with member rest)) ≡ (is_member_node q member || (is_member_node q first || is_member q rest))
    by_order true rest_is = refl
    by_order false rest_is =
        ap (λ (b : Bool). is_member_node q first || b) rest_is ∙ swapped (is_member_node q first) (is_member_node q member) (is_member q rest)

pub member-members_reweighted : (q n vnodes : ℕ) (members : List Member) → is_member q (members_reweighted n vnodes members) ≡ is_member q members
member-members_reweighted q n vnodes [] = refl
member-members_reweighted q n vnodes (first ∷ rest) =
    by_node (is_member_node n first) ∙ ap (λ (b : Bool). is_member_node q first || b) (member-members_reweighted q n vnodes rest)
  where
    by_node : (b : Bool) → (is_member_node q (cond b (record first { vnodes = vnodes }) first) || is_member q (members_reweighted n vnodes rest))
        ≡ (is_member_node q first || is_member q (members_reweighted n vnodes rest))
    by_node true = refl
    by_node false = refl

without_if : (q n : ℕ) (first : Member) (left rest : List Member) (b : Bool) → is_member_node n first ≡ b → n ≢ q → is_member q left ≡ is_member q rest
    → is_member q (cond (not b) (first ∷ left) left) ≡ (is_member_node q first || is_member q rest)
without_if q n first left rest true is apart same = same ∙ sym (ap (λ (b : Bool). b || is_member q rest) (other (is_member_node q first) refl))
  where
    other : (b : Bool) → is_member_node q first ≡ b → is_member_node q first ≡ false
    other true own =
        let one : first.node.0 ≡ n = eqb-true first.node.0 n is in
        let two : first.node.0 ≡ q = eqb-true first.node.0 q own in
        absurd (apart (sym one ∙ two))
    other false own = own
without_if q n first left rest false is apart same = ap (λ (b : Bool). is_member_node q first || b) same

-- another one stays
pub member-members_without : (q n : ℕ) (members : List Member) → n ≢ q → is_member q (members_without n members) ≡ is_member q members
member-members_without q n [] apart = refl
member-members_without q n (first ∷ rest) apart =
    without_if q n first (members_without n rest) rest (is_member_node n first) refl apart (member-members_without q n rest apart)

-- and no one comes
pub member-before : (q n : ℕ) (members : List Member) → is_member q (members_without n members) ≡ true → is_member q members ≡ true
member-before q n [] is = is
member-before q n (first ∷ rest) is = by_node (is_member_node n first) (member-before q n rest) is
  where
    or_right : (a b : Bool) → b ≡ true → (a || b) ≡ true
    or_right true b so = refl
    or_right false b so = so

    by_first : (a b c : Bool) → (b ≡ true → c ≡ true) → (a || b) ≡ true → (a || c) ≡ true
    by_first true b c later so = refl
    by_first false b c later so = later so

    by_node : (b : Bool) → (is_member q (members_without n rest) ≡ true → is_member q rest ≡ true)
        → is_member q (cond (not b) (first ∷ members_without n rest) (members_without n rest)) ≡ true → (is_member_node q first || is_member q rest) ≡ true
    by_node true later so = or_right (is_member_node q first) (is_member q rest) (later so)
    by_node false later so = by_first (is_member_node q first) (is_member q (members_without n rest)) (is_member q rest) later so

module _ (log : List Entry) (entry : Entry) (q : ℕ) where
  pub now-plain : 1 ≤ length log → begins_epoch entry ≡ false → is_member_now (log ++ entry ∷ []) q ≡ is_member_now log q
  now-plain some plain =
      let none : length (filter begins_epoch (entry ∷ [])) ≡ 0 = ap (λ (b : Bool). length (cond b (entry ∷ []) [])) plain in
      let all : epoch_of (log ++ entry ∷ []) ≡ epoch_of log + length (filter begins_epoch (entry ∷ [])) = epoch_of-append log (entry ∷ []) in
      let same : epoch_of (log ++ entry ∷ []) ≡ epoch_of log = omega (arith, none, all) in
      ap (λ (epoch : ℕ). is_member q (members_in (log ++ entry ∷ []) epoch)) same
      ∙ ap (is_member q) (members_in-append log (entry ∷ []) (epoch_of log) some (omega arith))

  pub now-begun : 1 ≤ length log → begins_epoch entry ≡ true → is_member_now (log ++ entry ∷ []) q ≡ is_member q (members_after (members_in log (epoch_of log)) entry)
  now-begun some begun =
      let one : length (filter begins_epoch (entry ∷ [])) ≡ 1 = ap (λ (b : Bool). length (cond b (entry ∷ []) [])) begun in
      let all : epoch_of (log ++ entry ∷ []) ≡ epoch_of log + length (filter begins_epoch (entry ∷ [])) = epoch_of-append log (entry ∷ []) in
      let more : epoch_of (log ++ entry ∷ []) ≡ epoch_of log + 1 = omega (arith, one, all) in
      ap (λ (epoch : ℕ). is_member q (members_in (log ++ entry ∷ []) epoch)) more
      ∙ ap (is_member q) (members_in-begun log entry some begun)

  pub weight-more : last_weight (log ++ entry ∷ []) q ≡ weight_after q (last_weight log q) entry
  weight-more = fold-append (weight_after q) 0 log (entry ∷ [])

-- what begins no epoch gives no weight, and asks nothing of the members
pub weight-plain : (q weight : ℕ) (entry : Entry) → is_format entry ≡ false → begins_epoch entry ≡ false → weight_after q weight entry ≡ weight
weight-plain q weight (Format members) later plain = absurd (cc (later))
weight-plain q weight (Join node zone vnodes) later plain = absurd (cc (plain))
weight-plain q weight (Reweight node vnodes) later plain = absurd (cc (plain))
weight-plain q weight entry later plain = refl

pub fits-plain : (members : List Member) (entry : Entry) → begins_epoch entry ≡ false → FitsMembers members entry
fits-plain members (Join node zone vnodes) plain = absurd (cc (plain))
fits-plain members (Leave node) plain = absurd (cc (plain))
fits-plain members (Reweight node vnodes) plain = absurd (cc (plain))
fits-plain members entry plain = tt
