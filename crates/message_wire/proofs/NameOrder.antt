-- The order of the names of messages.
use Rattle.std.proofs.Common.{◌≡◌, ℕ, ◌&&◌, Ordering, Less, Equal, Greater, refl, ap}
use Rattle.std.specs.Ordering.{ordering_then, nat_cmp, is_eq}
use Rattle.std.specs.Cmp.{IsTotalOrder, then_total, on_total, nat_cmp_total}
use Rattle.std.proofs.lemmas.Cmp.{tied_itself}
use Rattle.std.specs.FinMap as tree
use Rattle.message_wire.specs.declared.name.MessageName.{MessageName}
use Rattle.message_wire.specs.Message.{name_cmp, message_name}

pub name_cmp_total : IsTotalOrder name_cmp
name_cmp_total = then_total
    (on_total (λ (name : MessageName). name.sender.0) nat_cmp_total)
    (on_total (λ (name : MessageName). name.number) nat_cmp_total)

first_tied : (one other : Ordering) → ordering_then one other ≡ Equal → one ≡ Equal
first_tied Less other is = absurd (cc (is))
first_tied Equal other is = refl
first_tied Greater other is = absurd (cc (is))

second_tied : (one other : Ordering) → ordering_then one other ≡ Equal → other ≡ Equal
second_tied Less other is = absurd (cc (is))
second_tied Equal other is = is
second_tied Greater other is = absurd (cc (is))

-- names that tie are the same
pub same_name : (one other : MessageName) → name_cmp one other ≡ Equal → one ≡ other
same_name one other is =
    let a = nat_cmp one.sender.0 other.sender.0 in
    let b = nat_cmp one.number other.number in
    let senders : one.sender.0 ≡ other.sender.0 = tree.nat_cmp-IsAntisymmetric one.sender.0 other.sender.0 (first_tied a b is) in
    let numbers : one.number ≡ other.number = tree.nat_cmp-IsAntisymmetric one.number other.number (second_tied a b is) in
    λ i. record { sender = record { 0 = senders i }; number = numbers i }

-- two orders tie together where each ties
pub both_tie : (one other : Ordering) → is_eq (ordering_then one other) ≡ (is_eq one && is_eq other)
both_tie Less other = refl
both_tie Equal other = refl
both_tie Greater other = refl

-- names of one sender are ordered by number
pub same_sender : (sender one other : ℕ) → name_cmp (message_name sender one) (message_name sender other) ≡ nat_cmp one other
same_sender sender one other = ap (λ (o : Ordering). ordering_then o (nat_cmp one other)) (tied_itself nat_cmp_total sender)
