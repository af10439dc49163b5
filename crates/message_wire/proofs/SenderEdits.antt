-- What the edits of one sender's messages come to, where it stands among the senders, and where it doesn't.
use Rattle.std.proofs.Common.{◌≡◌, ℕ, zero, suc, ◌<◌, ◌==◌, Bool, true, false, not, cond, T, List, [], ◌∷◌, filter, length, get_or, set, Contains, Option, Some, None, Ordering, Less, Equal, Greater, unwrap_or, refl, sym, ap, subst, ◌∙◌, eq-eqb, arith}
use Rattle.std.specs.Ordering.{nat_cmp, eq_by_cmp, is_eq}
use Rattle.std.specs.Cmp.{nat_cmp_total}
use Rattle.std.specs.FinMap as tree
use Rattle.std.specs.FinMap.Entries.{by_order, where_key, is_sorted, put, find, find-put, is_sorted-where_key}
use Rattle.proof_tools.proofs.FiniteMaps.{is_at-same, get-entry}
use Rattle.proof_tools.proofs.Lists.{Contains-head, Contains-cons}
use Rattle.message_wire.specs.declared.packet.Packet.{Packet}
use Rattle.message_wire.specs.declared.packet.Packet.TheVariants.{Request, Reply}
use Rattle.message_wire.specs.Entries.{IsFoundAt, IsMissingAt}
use Rattle.message_wire.specs.Message.{is_reply, is_reply_to, message_name}
use Rattle.message_wire.specs.Senders.{Messages, messages_from, other_senders, senders_with, requests_among}
use Rattle.message_wire.proofs.EntryLemmas.{equal_cmp, found-find, found-number, put-found, find-missing, without-missing, where-seen}

-- the map of no entries
pub none-seen : {K X : Type 0} (R : K → K → Ordering) → tree.from_sorted {X = X} {R = R} [] ≡ tree.empty
none-seen R = tree.empty_of_len (tree.from_sorted []) (tree.len-entries (tree.from_sorted {R = R} []) ∙ ap length (tree.entries-from_sorted R [] tt))

-- ---- the messages of a sender

pub messages-found : (s p : ℕ) (d : ℕ × Messages) (senders : List (ℕ × Messages)) → IsFoundAt s p senders
    → messages_from senders s ≡ (get_or senders p d).1
messages-found s p d senders is = ap (λ (own : Option Messages). unwrap_or own tree.empty) (found-find s d p senders is)

pub messages-missing : (s p : ℕ) (senders : List (ℕ × Messages)) → T (is_sorted nat_cmp senders) → IsMissingAt s p senders
    → messages_from senders s ≡ tree.empty
messages-missing s p senders sorted is = ap (λ (own : Option Messages). unwrap_or own tree.empty) (find-missing s p senders sorted is)

-- where it is found among the senders, or isn't
pub messages-some : (s : ℕ) (messages : Messages) (senders : List (ℕ × Messages)) → find nat_cmp s senders ≡ Some messages
    → messages_from senders s ≡ messages
messages-some s messages senders is = ap (λ (own : Option Messages). unwrap_or own tree.empty) is

pub messages-none : (s : ℕ) (senders : List (ℕ × Messages)) → find nat_cmp s senders ≡ None
    → not (tree.len (messages_from senders s) == 0) ≡ false
messages-none s senders is =
    ap (λ (own : Option Messages). not (tree.len (unwrap_or own tree.empty) == 0)) is
    ∙ ap (λ (n : ℕ). not (n == 0)) (tree.len-empty nat_cmp Packet)

pub message-none-from : (s n : ℕ) (senders : List (ℕ × Messages)) → find nat_cmp s senders ≡ None
    → tree.get (messages_from senders s) n ≡ None
message-none-from s n senders is =
    ap (λ (own : Option Messages). tree.get (unwrap_or own tree.empty) n) is ∙ tree.get-empty nat_cmp n

pub messages-put : (s : ℕ) (messages : Messages) (senders : List (ℕ × Messages)) → messages_from (put nat_cmp s messages senders) s ≡ messages
messages-put s messages senders =
    ap (λ (own : Option Messages). unwrap_or own tree.empty)
    (find-put nat_cmp nat_cmp_total s s messages senders
    ∙ ap (λ (b : Bool). cond b (Some messages) (find nat_cmp s senders)) (is_at-same s))

pub messages-there : (s p : ℕ) (own : ℕ × Messages) (senders : List (ℕ × Messages)) → IsFoundAt s p senders → get_or senders p own ≡ own
    → own.1 ≡ messages_from senders s
messages-there s p own senders is there = ap (λ (x : ℕ × Messages). x.1) (sym there) ∙ sym (messages-found s p own senders is)

-- a sender that stands at a place has its messages changed there
pub set-found : (s p : ℕ) (own : ℕ × Messages) (senders : List (ℕ × Messages)) (change : Messages → Messages) → IsFoundAt s p senders
    → get_or senders p own ≡ own → set senders p (own.0, change own.1) ≡ put nat_cmp s (change (messages_from senders s)) senders
set-found s p own senders change is there =
    let number : own.0 ≡ s = ap (λ (x : ℕ × Messages). x.0) (sym there) ∙ found-number s own p senders is in
    (λ i. set senders p (number i, change (messages-there s p own senders is there i)))
    ∙ sym (put-found s (change (messages_from senders s)) p senders is)

pub set-same : (p : ℕ) (own : ℕ × Messages) (senders : List (ℕ × Messages)) → p < length senders → get_or senders p own ≡ own
    → set senders p own ≡ senders
set-same p own [] within there = absurd (omega (arith, within))
set-same zero own (first ∷ later) within there = ap (λ (x : ℕ × Messages). x ∷ later) (sym there)
set-same (suc p) own (first ∷ later) within there =
    ap (λ (rest : List (ℕ × Messages)). first ∷ rest) (set-same p own later (omega (arith, within)) there)

-- ---- a sender without messages goes

others-put : (s : ℕ) (messages : Messages) (senders : List (ℕ × Messages)) → other_senders s (put nat_cmp s messages senders) ≡ other_senders s senders
others-put s messages [] = ap (λ (r : Ordering). cond (not (is_eq r)) ((s, messages) ∷ []) []) (equal_cmp s s refl)
others-put s messages (own ∷ later) = by_place (others-put s messages later) (nat_cmp s own.0) refl
  where
    by_place : other_senders s (put nat_cmp s messages later) ≡ other_senders s later → (o : Ordering) → nat_cmp s own.0 ≡ o
        → other_senders s (by_order o ((s, messages) ∷ own ∷ later) ((own.0, messages) ∷ later) (own ∷ put nat_cmp s messages later))
        ≡ other_senders s (own ∷ later)
    by_place rest Less tie =
        ap (λ (r : Ordering). cond (not (is_eq r)) ((s, messages) ∷ other_senders s (own ∷ later)) (other_senders s (own ∷ later))) (equal_cmp s s refl)
    by_place rest Equal tie =
        ap (λ (r : Ordering). cond (not (is_eq r)) ((own.0, messages) ∷ other_senders s later) (other_senders s later)) tie
        ∙ ap (λ (r : Ordering). cond (not (is_eq r)) (own ∷ other_senders s later) (other_senders s later)) (sym tie)
    by_place rest Greater tie =
        ap (λ (others : List (ℕ × Messages)). cond (not (eq_by_cmp nat_cmp s own.0)) (own ∷ others) others) rest

pub empty-dropped : (s : ℕ) (messages : Messages) (senders : List (ℕ × Messages))
    → cond (tree.len (messages_from (put nat_cmp s messages senders) s) == 0) (other_senders s (put nat_cmp s messages senders)) (put nat_cmp s messages senders)
    ≡ senders_with s messages senders
empty-dropped s messages senders =
    λ i. cond (tree.len (messages-put s messages senders i) == 0) (others-put s messages senders i) (put nat_cmp s messages senders)

-- ---- a sender that isn't there

pub with-none : (s p : ℕ) (messages : Messages) (senders : List (ℕ × Messages)) → T (is_sorted nat_cmp senders) → IsMissingAt s p senders
    → tree.len messages ≡ 0 → senders_with s messages senders ≡ senders
with-none s p messages senders sorted is empty =
    ap (λ (b : Bool). cond b (other_senders s senders) (put nat_cmp s messages senders)) (eq-eqb (tree.len messages) 0 empty)
    ∙ without-missing s p senders sorted is

none-left : (messages : Messages) → ((n : ℕ) → tree.get messages n ≡ None) → tree.len messages ≡ 0
none-left messages none =
    ap tree.len (tree.same_map nat_cmp_total tree.nat_cmp-IsAntisymmetric messages tree.empty (λ n. none n ∙ sym (tree.get-empty nat_cmp n)))
    ∙ tree.len-empty nat_cmp Packet

no_choice : (b : Bool) (packet : Option Packet) → packet ≡ None → (cond b packet None ≡ None) × (cond b None packet ≡ None)
no_choice true packet none = (none, refl)
no_choice false packet none = (refl, none)

pub remove-empty : (n : ℕ) → tree.len (tree.remove (tree.empty {X = Packet} {R = nat_cmp}) n) ≡ 0
remove-empty n = none-left (tree.remove tree.empty n) (λ q.
    tree.get-remove nat_cmp_total tree.empty n q ∙ (no_choice (eq_by_cmp nat_cmp q n) (tree.get tree.empty q) (tree.get-empty nat_cmp q)).1)

pub requests-empty : (s : ℕ) → tree.len (requests_among s tree.empty) ≡ 0
requests-empty s =
    none-left (requests_among s tree.empty) (λ q.
    tree.get-retain_keys (tree.empty {X = Packet} {R = nat_cmp}) (λ (number : ℕ). not (is_reply_to s (message_name s number) (tree.get (tree.empty {X = Packet} {R = nat_cmp}) number))) q
    (λ x tie. ap (λ (number : ℕ). not (is_reply_to s (message_name s number) (tree.get (tree.empty {X = Packet} {R = nat_cmp}) number))) (sym (tree.nat_cmp-IsAntisymmetric q x tie)))
    ∙ (no_choice (not (is_reply_to s (message_name s q) (tree.get (tree.empty {X = Packet} {R = nat_cmp}) q))) (tree.get (tree.empty {X = Packet} {R = nat_cmp}) q) (tree.get-empty nat_cmp q)).0)

-- ---- the replies among a sender's messages

own_reply : (s n : ℕ) (packet : Packet) → is_reply_to s (message_name s n) (Some packet) ≡ is_reply packet
own_reply s n (Request to bytes) = refl
own_reply s n (Reply from bytes) = eq-eqb s s refl

filter-alike : {X : Type 0} (one other : X → Bool) (xs : List X) → ((x : X) → Contains xs x → one x ≡ other x) → filter one xs ≡ filter other xs
filter-alike one other [] alike = refl
filter-alike one other (x ∷ xs) alike =
    let rest = filter-alike one other xs (λ y there. alike y (Contains-cons x xs y there)) in
    λ i. cond (alike x (Contains-head x xs) i) (x ∷ rest i) (rest i)

module _ (s : ℕ) (es : List (ℕ × Packet)) (sorted : T (is_sorted nat_cmp es)) where
  requests-where : filter (λ (e : ℕ × Packet). not (is_reply e.1)) es
      ≡ where_key nat_cmp (λ number. not (is_reply_to s (message_name s number) (tree.get (tree.from_sorted {R = nat_cmp} es) number))) es
  requests-where = filter-alike (λ (e : ℕ × Packet). not (is_reply e.1))
      (λ (e : ℕ × Packet). not (is_reply_to s (message_name s e.0) (tree.get (tree.from_sorted {R = nat_cmp} es) e.0))) es
      (λ e there.
      let found : tree.get (tree.from_sorted {R = nat_cmp} es) e.0 ≡ Some e.1
      = get-entry (tree.from_sorted es) e (subst (λ (fs : List (ℕ × Packet)). Contains fs e) (sym (tree.entries-from_sorted nat_cmp es sorted)) there) in
      ap not (sym (own_reply s e.0 e.1)) ∙ ap (λ (packet : Option Packet). not (is_reply_to s (message_name s e.0) packet)) (sym found))

  pub requests-sorted : T (is_sorted nat_cmp (filter (λ (e : ℕ × Packet). not (is_reply e.1)) es))
  requests-sorted = subst (λ (fs : List (ℕ × Packet)). T (is_sorted nat_cmp fs)) (sym requests-where)
      (is_sorted-where_key nat_cmp (λ number. not (is_reply_to s (message_name s number) (tree.get (tree.from_sorted {R = nat_cmp} es) number))) es sorted)

  pub requests-seen : tree.from_sorted {R = nat_cmp} (filter (λ (e : ℕ × Packet). not (is_reply e.1)) es) ≡ requests_among s (tree.from_sorted es)
  requests-seen = ap (tree.from_sorted {R = nat_cmp}) requests-where
      ∙ where-seen (λ number. not (is_reply_to s (message_name s number) (tree.get (tree.from_sorted {R = nat_cmp} es) number))) es sorted
