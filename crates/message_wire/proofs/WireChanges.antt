-- What becomes of the whole wire when one sender's messages change.
use Rattle.std.proofs.Common.{◌≡◌, ℕ, zero, suc, ◌<◌, ◌==◌, ◌&&◌, Bool, true, false, not, cond, T, List, [], ◌∷◌, Option, Some, None, Ordering, Less, Equal, Greater, unwrap_or, Result, Ok, Err, OnOk, OnErr, refl, sym, ap, subst, ◌∙◌, arith, eqb-true, pos_of_ne-zero}
use Rattle.std.specs.Ordering.{nat_cmp, eq_by_cmp}
use Rattle.std.specs.Cmp.{nat_cmp_total, unsigned_tied}
use Rattle.std.specs.List.{AllByRecursion}
use Rattle.std.specs.FinMap as tree
use Rattle.std.specs.FinMap.Entries.{by_order, where_key, is_sorted, put, find, is_sorted-put, is_sorted-where_key, find-put, find-where_key}
use Rattle.std.proofs.lemmas.Bool.{eqb-false}
use Rattle.std.proofs.lemmas.Cmp.{eq_by_cmp_equiv}
use Rattle.proof_tools.proofs.FiniteMaps.{is_at-true, is_at-same}
use Rattle.message_wire.specs.declared.name.MessageName.{MessageName}
use Rattle.message_wire.specs.declared.packet.Packet.{Packet}
use Rattle.message_wire.specs.declared.packet.Packet.TheVariants.{Request, Reply}
use Rattle.message_wire.specs.Message.{name_cmp, is_reply_to, without_replies, message_name}
use Rattle.message_wire.specs.Senders.{Messages, wire_of, AreSenders, messages_from, other_senders, senders_with, requests_among}
use Rattle.message_wire.proofs.NameOrder.{name_cmp_total, same_name, both_tie}
use Rattle.message_wire.proofs.WholeWire.{at_number, get-wire}

-- a sender has these messages now, and each other has its own
abbrev pub Changes : ℕ → Messages → List (ℕ × Messages) → List (ℕ × Messages) → Type 0
Changes s messages old new = (q n : ℕ)
    → at_number n (find nat_cmp q new) ≡ cond (eq_by_cmp nat_cmp q s) (tree.get messages n) (at_number n (find nat_cmp q old))

at-cond : (b : Bool) (messages : Messages) (own : Option Messages) (n : ℕ)
    → at_number n (cond b (Some messages) own) ≡ cond b (tree.get messages n) (at_number n own)
at-cond true messages own n = refl
at-cond false messages own n = refl

at-without : (b : Bool) (own : Option Messages) (n : ℕ) → at_number n (cond (not b) own None) ≡ cond b None (at_number n own)
at-without true own n = refl
at-without false own n = refl

pub Changes-put : (s : ℕ) (messages : Messages) (senders : List (ℕ × Messages)) → Changes s messages senders (put nat_cmp s messages senders)
Changes-put s messages senders q n =
    ap (at_number n) (find-put nat_cmp nat_cmp_total q s messages senders)
    ∙ at-cond (eq_by_cmp nat_cmp q s) messages (find nat_cmp q senders) n

pub find-others : (s q : ℕ) (senders : List (ℕ × Messages))
    → find nat_cmp q (other_senders s senders) ≡ cond (not (eq_by_cmp nat_cmp q s)) (find nat_cmp q senders) None
find-others s q senders =
    find-where_key nat_cmp (λ other. not (eq_by_cmp nat_cmp s other)) q
    (λ x tie. ap (λ other. not (eq_by_cmp nat_cmp s other)) (sym (tree.nat_cmp-IsAntisymmetric q x tie))) senders
    ∙ ap (λ b. cond (not b) (find nat_cmp q senders) None) ((eq_by_cmp_equiv nat_cmp_total).symm s q)

pub Changes-others : (s : ℕ) (messages : Messages) (senders : List (ℕ × Messages)) → tree.len messages ≡ 0
    → Changes s messages senders (other_senders s senders)
Changes-others s messages senders empty q n =
    let none : tree.get messages n ≡ None = ap (λ (m : Messages). tree.get m n) (tree.empty_of_len messages empty) ∙ tree.get-empty nat_cmp n in
    ap (at_number n) (find-others s q senders) ∙ at-without (eq_by_cmp nat_cmp q s) (find nat_cmp q senders) n
    ∙ ap (λ (o : Option Packet). cond (eq_by_cmp nat_cmp q s) o (at_number n (find nat_cmp q senders))) (sym none)

pub Changes-with : (s : ℕ) (messages : Messages) (senders : List (ℕ × Messages)) → Changes s messages senders (senders_with s messages senders)
Changes-with s messages senders = by_test (tree.len messages == 0) refl
  where
    by_test : (b : Bool) → (tree.len messages == 0) ≡ b → Changes s messages senders (cond b (other_senders s senders) (put nat_cmp s messages senders))
    by_test true is = Changes-others s messages senders (eqb-true (tree.len messages) 0 is)
    by_test false is = Changes-put s messages senders

-- what a sender's messages have at a number
got : (own : Option Messages) (n : ℕ) → tree.get (unwrap_or own tree.empty) n ≡ at_number n own
got None n = tree.get-empty nat_cmp n
got (Some messages) n = refl

-- whether a message of the wire, or of the sender's own, isn't a reply to the sender
abbrev stays : ℕ → tree.FinMap name_cmp Packet → MessageName → Bool
stays s wire name = not (is_reply_to s name (tree.get wire name))

abbrev own_stays : ℕ → Messages → ℕ → Bool
own_stays s messages number = not (is_reply_to s (message_name s number) (tree.get messages number))

module _ (s : ℕ) (old new : List (ℕ × Messages)) (sorted : T (is_sorted nat_cmp old)) (sorted_new : T (is_sorted nat_cmp new)) where
  get-changed : (messages : Messages) → Changes s messages old new → (q : MessageName)
      → tree.get (wire_of new) q ≡ cond (eq_by_cmp nat_cmp q.sender.0 s) (tree.get messages q.number) (tree.get (wire_of old) q)
  get-changed messages changes q =
      get-wire q new sorted_new ∙ changes q.sender.0 q.number
      ∙ ap (cond (eq_by_cmp nat_cmp q.sender.0 s) (tree.get messages q.number)) (sym (get-wire q old sorted))

  -- the wire has what its sender has
  get-own : (q : MessageName) → q.sender.0 ≡ s → tree.get (wire_of old) q ≡ tree.get (messages_from old s) q.number
  get-own q same =
      get-wire q old sorted ∙ ap (λ (k : ℕ). at_number q.number (find nat_cmp k old)) same ∙ sym (got (find nat_cmp s old) q.number)

  -- a message is put in
  pub wire-insert : (n : ℕ) (packet : Packet) → Changes s (tree.insert (messages_from old s) n packet) old new
      → wire_of new ≡ tree.insert (wire_of old) (message_name s n) packet
  wire-insert n packet changes =
      tree.same_map name_cmp_total same_name (wire_of new) (tree.insert (wire_of old) (message_name s n) packet) (λ q.
      get-changed (tree.insert (messages_from old s) n packet) changes q
      ∙ by_tie q (eq_by_cmp nat_cmp q.sender.0 s) refl
      ∙ ap (λ (b : Bool). cond b (Some packet) (tree.get (wire_of old) q)) (sym (both_tie (nat_cmp q.sender.0 s) (nat_cmp q.number n)))
      ∙ sym (tree.get-insert name_cmp_total (wire_of old) (message_name s n) packet q))
    where
      by_tie : (q : MessageName) (b : Bool) → eq_by_cmp nat_cmp q.sender.0 s ≡ b
          → cond b (tree.get (tree.insert (messages_from old s) n packet) q.number) (tree.get (wire_of old) q)
          ≡ cond (b && eq_by_cmp nat_cmp q.number n) (Some packet) (tree.get (wire_of old) q)
      by_tie q false tie = refl
      by_tie q true tie =
          tree.get-insert nat_cmp_total (messages_from old s) n packet q.number
          ∙ ap (cond (eq_by_cmp nat_cmp q.number n) (Some packet)) (sym (get-own q (is_at-true q.sender.0 s tie)))

  -- a message is taken out
  pub wire-remove : (n : ℕ) → Changes s (tree.remove (messages_from old s) n) old new → wire_of new ≡ tree.remove (wire_of old) (message_name s n)
  wire-remove n changes =
      tree.same_map name_cmp_total same_name (wire_of new) (tree.remove (wire_of old) (message_name s n)) (λ q.
      get-changed (tree.remove (messages_from old s) n) changes q
      ∙ by_tie q (eq_by_cmp nat_cmp q.sender.0 s) refl
      ∙ ap (λ (b : Bool). cond b None (tree.get (wire_of old) q)) (sym (both_tie (nat_cmp q.sender.0 s) (nat_cmp q.number n)))
      ∙ sym (tree.get-remove name_cmp_total (wire_of old) (message_name s n) q))
    where
      by_tie : (q : MessageName) (b : Bool) → eq_by_cmp nat_cmp q.sender.0 s ≡ b
          → cond b (tree.get (tree.remove (messages_from old s) n) q.number) (tree.get (wire_of old) q)
          ≡ cond (b && eq_by_cmp nat_cmp q.number n) None (tree.get (wire_of old) q)
      by_tie q false tie = refl
      by_tie q true tie =
          tree.get-remove nat_cmp_total (messages_from old s) n q.number
          ∙ ap (cond (eq_by_cmp nat_cmp q.number n) None) (sym (get-own q (is_at-true q.sender.0 s tie)))

  -- the replies to the sender are dropped
  pub wire-replies : Changes s (requests_among s (messages_from old s)) old new → wire_of new ≡ without_replies s (wire_of old)
  wire-replies changes =
      tree.same_map name_cmp_total same_name (wire_of new) (without_replies s (wire_of old)) (λ q.
      get-changed (requests_among s (messages_from old s)) changes q
      ∙ by_tie q (eq_by_cmp nat_cmp q.sender.0 s) refl
      ∙ sym (tree.get-retain_keys (wire_of old) (stays s (wire_of old)) q
      (λ x tie. ap (stays s (wire_of old)) (sym (same_name q x tie)))))
    where
      to_another : (q : MessageName) (packet : Option Packet) → (q.sender.0 == s) ≡ false → is_reply_to s q packet ≡ false
      to_another q None apart = refl
      to_another q (Some (Request to bytes)) apart = refl
      to_another q (Some (Reply from bytes)) apart = apart

      by_tie : (q : MessageName) (b : Bool) → eq_by_cmp nat_cmp q.sender.0 s ≡ b
          → cond b (tree.get (requests_among s (messages_from old s)) q.number) (tree.get (wire_of old) q)
          ≡ cond (not (is_reply_to s q (tree.get (wire_of old) q))) (tree.get (wire_of old) q) None
      by_tie q false tie =
          ap (λ (b : Bool). cond (not b) (tree.get (wire_of old) q) None)
          (sym (to_another q (tree.get (wire_of old) q) (sym (unsigned_tied q.sender.0 s) ∙ tie)))
      by_tie q true tie =
          let same : q.sender.0 ≡ s = is_at-true q.sender.0 s tie in
          let own : tree.get (wire_of old) q ≡ tree.get (messages_from old s) q.number = get-own q same in
          let named : q ≡ message_name s q.number = λ i. record { sender = record { 0 = same i }; number = q.number } in
          tree.get-retain_keys (messages_from old s) (own_stays s (messages_from old s)) q.number
          (λ x tie. ap (own_stays s (messages_from old s)) (sym (tree.nat_cmp-IsAntisymmetric q.number x tie)))
          ∙ (λ i. cond (not (is_reply_to s (sym named i) (sym own i))) (sym own i) None)

-- ---- the senders

-- each has a message
abbrev pub HasMessages : ℕ × Messages → Type 0
HasMessages own = 0 < tree.len own.1

All-put : (s : ℕ) (messages : Messages) (senders : List (ℕ × Messages)) → 0 < tree.len messages
    → AllByRecursion HasMessages senders → AllByRecursion HasMessages (put nat_cmp s messages senders)
All-put s messages [] some all = (some, tt)
All-put s messages (own ∷ later) some all = by_place (All-put s messages later some all.1) (nat_cmp s own.0)
  where
    by_place : AllByRecursion HasMessages (put nat_cmp s messages later) → (o : Ordering) → AllByRecursion HasMessages
        (by_order o ((s, messages) ∷ own ∷ later) ((own.0, messages) ∷ later) (own ∷ put nat_cmp s messages later))
    by_place rest Less = (some, all)
    by_place rest Equal = (some, all.1)
    by_place rest Greater = (all.0, rest)

All-where : (p : ℕ → Bool) (senders : List (ℕ × Messages)) → AllByRecursion HasMessages senders → AllByRecursion HasMessages (where_key nat_cmp p senders)
All-where p [] all = tt
All-where p (own ∷ later) all = by_test (All-where p later all.1) (p own.0)
  where
    by_test : AllByRecursion HasMessages (where_key nat_cmp p later) → (b : Bool)
        → AllByRecursion HasMessages (cond b (own ∷ where_key nat_cmp p later) (where_key nat_cmp p later))
    by_test rest true = (all.0, rest)
    by_test rest false = rest

pub AreSenders-put : (s : ℕ) (messages : Messages) (senders : List (ℕ × Messages)) → 0 < tree.len messages → AreSenders senders
    → AreSenders (put nat_cmp s messages senders)
AreSenders-put s messages senders some are =
    (is_sorted-put nat_cmp nat_cmp_total s messages senders are.0, All-put s messages senders some are.1)

pub AreSenders-with : (s : ℕ) (messages : Messages) (senders : List (ℕ × Messages)) → AreSenders senders → AreSenders (senders_with s messages senders)
AreSenders-with s messages senders are = by_test (tree.len messages == 0) refl
  where
    by_test : (b : Bool) → (tree.len messages == 0) ≡ b → AreSenders (cond b (other_senders s senders) (put nat_cmp s messages senders))
    by_test true is =
        (is_sorted-where_key nat_cmp (λ other. not (eq_by_cmp nat_cmp s other)) senders are.0, All-where (λ other. not (eq_by_cmp nat_cmp s other)) senders are.1)
    by_test false is =
        (is_sorted-put nat_cmp nat_cmp_total s messages senders are.0, All-put s messages senders (pos_of_ne-zero (eqb-false (tree.len messages) 0 is)) are.1)

-- a map into which something was put isn't empty
pub insert-some : (messages : Messages) (n : ℕ) (packet : Packet) → 0 < tree.len (tree.insert messages n packet)
insert-some messages n packet = by_length (tree.len (tree.insert messages n packet)) refl
  where
    by_length : (length : ℕ) → tree.len (tree.insert messages n packet) ≡ length → 0 < tree.len (tree.insert messages n packet)
    by_length zero is =
        let there : tree.get (tree.insert messages n packet) n ≡ Some packet
        = tree.get-insert nat_cmp_total messages n packet n ∙ ap (λ (b : Bool). cond b (Some packet) (tree.get messages n)) (is_at-same n) in
        let none : tree.get (tree.insert messages n packet) n ≡ None
        = ap (λ (m : Messages). tree.get m n) (tree.empty_of_len (tree.insert messages n packet) is) ∙ tree.get-empty nat_cmp n in
        absurd (cc (there, none))
    by_length (suc length) is = omega (arith, is)

-- ---- the calls of the wire

-- what the wire has at a name
pub get-named : (q : MessageName) (senders : List (ℕ × Messages)) → T (is_sorted nat_cmp senders)
    → tree.get (wire_of senders) q ≡ tree.get (messages_from senders q.sender.0) q.number
get-named q senders sorted = get-wire q senders sorted ∙ sym (got (find nat_cmp q.sender.0 senders) q.number)

pub wire-put : (name : MessageName) (packet : Packet) (senders : List (ℕ × Messages)) → T (is_sorted nat_cmp senders)
    → wire_of (put nat_cmp name.sender.0 (tree.insert (messages_from senders name.sender.0) name.number packet) senders)
    ≡ tree.insert (wire_of senders) name packet
wire-put name packet senders sorted =
    let messages = tree.insert (messages_from senders name.sender.0) name.number packet in
    wire-insert name.sender.0 senders (put nat_cmp name.sender.0 messages senders) sorted
    (is_sorted-put nat_cmp nat_cmp_total name.sender.0 messages senders sorted) name.number packet
    (Changes-put name.sender.0 messages senders)

pub wire-take : (name : MessageName) (senders : List (ℕ × Messages)) → AreSenders senders
    → wire_of (senders_with name.sender.0 (tree.remove (messages_from senders name.sender.0) name.number) senders)
    ≡ tree.remove (wire_of senders) name
wire-take name senders are =
    let messages = tree.remove (messages_from senders name.sender.0) name.number in
    wire-remove name.sender.0 senders (senders_with name.sender.0 messages senders) are.0
    (AreSenders-with name.sender.0 messages senders are).0 name.number (Changes-with name.sender.0 messages senders)

pub wire-drop : (s : ℕ) (senders : List (ℕ × Messages)) → AreSenders senders
    → wire_of (senders_with s (requests_among s (messages_from senders s)) senders) ≡ without_replies s (wire_of senders)
wire-drop s senders are =
    let messages = requests_among s (messages_from senders s) in
    wire-replies s senders (senders_with s messages senders) are.0
    (AreSenders-with s messages senders are).0 (Changes-with s messages senders)

-- after a message was put in, or memory ran out, there are senders still
pub AreSenders-after : {X E : Type 0} (r : Result X E) (name : MessageName) (packet : Packet) (old new : List (ℕ × Messages)) → AreSenders old
    → OnOk r (new ≡ put nat_cmp name.sender.0 (tree.insert (messages_from old name.sender.0) name.number packet) old)
    → OnErr r (new ≡ old) → AreSenders new
AreSenders-after (Ok x) name packet old new are ok err =
    let messages = messages_from old name.sender.0 in
    subst AreSenders (sym ok)
    (AreSenders-put name.sender.0 (tree.insert messages name.number packet) old (insert-some messages name.number packet) are)
AreSenders-after (Err e) name packet old new are ok err = subst AreSenders (sym err) are
