-- The wire once a packet went, or came in the place of another, or the replies to a node went: what it has under each name.
use Rattle.std.proofs.Common.{◌≡◌, ◌≢◌, ◌⊎◌, inl, inr, ℕ, ◌==◌, Bool, true, false, not, cond, List, Option, Some, None, is_some, refl, sym}
use Rattle.std.proofs.Common.{ap, ◌∙◌, ⊎_elim}
use Rattle.std.specs.Ordering.{eq_by_cmp}
use Rattle.std.specs.FinMap as tree
use Rattle.object_id.specs.declared.node.NodeId.{NodeId}
use Rattle.peer_proto.specs.declared.say.PeerRsp.{PeerRsp}
use Rattle.peer_proto.specs.Say.{say_bytes}
use Rattle.message_wire.specs.declared.name.MessageName.{MessageName}
use Rattle.message_wire.specs.declared.packet.Packet.{Packet}
use Rattle.message_wire.specs.declared.packet.Packet.TheVariants.{Request, Reply}
use Rattle.message_wire.specs.Message.{name_cmp, is_reply_to, without_replies}
use Rattle.message_wire.proofs.NameOrder.{name_cmp_total, same_name}
use Rattle.sheep_world.specs.Messages.{wire_with_reply}
use Rattle.sheep_world.proofs.WireAfterSends.{name_tied, name_itself}
use Rattle.overlap_law.specs.Packets.{Wire, is_name_in_wire, is_request_in_flight}

-- no request goes under a name, or comes: the wire is as it was there, or no request is there, then and now
abbrev pub IsStill : Wire → Wire → MessageName → Type 0
IsStill wire later q =
    (tree.get later q ≡ tree.get wire q) ⊎ ((is_request_in_flight (tree.get wire q) ≡ false)
    × (is_request_in_flight (tree.get later q) ≡ false))

module _ (wire : Wire) (name q : MessageName) where
  -- once a packet went
  pub gone_cases : ((q ≡ name) × (tree.get (tree.remove wire name) q ≡ None))
      ⊎ ((q ≢ name) × (tree.get (tree.remove wire name) q ≡ tree.get wire q))
  gone_cases = by_tie (eq_by_cmp name_cmp q name) refl
    where
      by_tie : (b : Bool) → eq_by_cmp name_cmp q name ≡ b
          → ((q ≡ name) × (tree.get (tree.remove wire name) q ≡ None))
          ⊎ ((q ≢ name) × (tree.get (tree.remove wire name) q ≡ tree.get wire q))
      by_tie true tie =
          inl (name_tied q name tie, tree.get-remove name_cmp_total wire name q ∙ ap (λ (b : Bool). cond b None (tree.get wire q)) tie)
      by_tie false tie = inr (
        λ (same : q ≡ name). let own = ap (λ (k : MessageName). eq_by_cmp name_cmp k name) same
            ∙ name_itself name in absurd (cc (tie, own)),
        tree.get-remove name_cmp_total wire name q
            ∙ ap (λ (b : Bool). cond b None (tree.get wire q)) tie,
      )

  -- once one came
  pub put_cases : (packet : Packet)
      → ((q ≡ name) × (tree.get (tree.insert wire name packet) q ≡ Some packet))
      ⊎ ((q ≢ name) × (tree.get (tree.insert wire name packet) q ≡ tree.get wire q))
  put_cases packet = by_tie (eq_by_cmp name_cmp q name) refl
    where
      by_tie : (b : Bool) → eq_by_cmp name_cmp q name ≡ b
          → ((q ≡ name) × (tree.get (tree.insert wire name packet) q ≡ Some packet))
          ⊎ ((q ≢ name) × (tree.get (tree.insert wire name packet) q ≡ tree.get wire q))
      by_tie true tie =
          inl (
            name_tied q name tie,
            tree.get-insert name_cmp_total wire name packet q
                ∙ ap (λ (b : Bool). cond b (Some packet) (tree.get wire q)) tie,
          )
      by_tie false tie = inr (
        λ (same : q ≡ name). let own = ap (λ (k : MessageName). eq_by_cmp name_cmp k name) same
            ∙ name_itself name in absurd (cc (tie, own)),
        tree.get-insert name_cmp_total wire name packet q
            ∙ ap (λ (b : Bool). cond b (Some packet) (tree.get wire q)) tie,
      )

module _ (wire : Wire) (name : MessageName) where
  pub tied_to : (q : MessageName) → (q ≡ name) ⊎ (q ≢ name)
  tied_to q = ⊎_elim (λ own. inl own.0) (λ other. inr other.0) (gone_cases wire name q)

  pub gone_at : tree.get (tree.remove wire name) name ≡ None
  gone_at = ⊎_elim (λ own. own.1) (λ other. absurd (other.0 refl)) (gone_cases wire name name)

  pub left_at : (q : MessageName) → q ≢ name → tree.get (tree.remove wire name) q ≡ tree.get wire q
  left_at q apart = ⊎_elim (λ own. absurd (apart own.0)) (λ other. other.1) (gone_cases wire name q)

  pub left_before : (q : MessageName) (packet : Packet) → tree.get (tree.remove wire name) q ≡ Some packet → tree.get wire q ≡ Some packet
  left_before q packet got = ⊎_elim
      (λ (own : (q ≡ name) × (tree.get (tree.remove wire name) q ≡ None)). let none = own.1 in absurd (cc (got, none)))
      (λ (other : (q ≢ name) × (tree.get (tree.remove wire name) q ≡ tree.get wire q)). sym other.1 ∙ got)
      (gone_cases wire name q)

  pub put_at : (packet : Packet) → tree.get (tree.insert wire name packet) name ≡ Some packet
  put_at packet = ⊎_elim (λ own. own.1) (λ other. absurd (other.0 refl)) (put_cases wire name name packet)

  pub kept_at : (packet : Packet) (q : MessageName) → q ≢ name → tree.get (tree.insert wire name packet) q ≡ tree.get wire q
  kept_at packet q apart = ⊎_elim (λ own. absurd (apart own.0)) (λ other. other.1) (put_cases wire name q packet)

  -- no reply that goes leaves a request's place
  pub reply_gone : (from : NodeId) (bytes : List ℕ) → tree.get wire name ≡ Some (Reply from bytes) → (q : MessageName)
      → IsStill wire (tree.remove wire name) q
  reply_gone from bytes there q = ⊎_elim
      (λ (own : (q ≡ name) × (tree.get (tree.remove wire name) q ≡ None)). inr
      (ap is_request_in_flight (ap (tree.get wire) own.0 ∙ there), ap is_request_in_flight own.1))
      (λ (other : (q ≢ name) × (tree.get (tree.remove wire name) q ≡ tree.get wire q)). inl other.1)
      (gone_cases wire name q)

  pub gone_less : (q : MessageName) → is_name_in_wire (tree.remove wire name) q ≡ true → is_name_in_wire wire q ≡ true
  gone_less q h = ⊎_elim
      (λ (own : (q ≡ name) × (tree.get (tree.remove wire name) q ≡ None)).
      let none : is_name_in_wire (tree.remove wire name) q ≡ false = ap (λ (o : Option Packet). is_some o) own.1 in absurd (cc (h, none)))
      (λ (other : (q ≢ name) × (tree.get (tree.remove wire name) q ≡ tree.get wire q)). ap (λ (o : Option Packet). is_some o) (sym other.1)
      ∙ h) (gone_cases wire name q)

  module _ (to : NodeId) (rsp : PeerRsp) where
    pub said_none : (up : Bool) → is_request_in_flight (tree.get (wire_with_reply name to up (Some rsp) wire) name) ≡ false
    said_none true = ap is_request_in_flight (put_at (Reply to (say_bytes rsp)))
    said_none false = ap is_request_in_flight gone_at

    pub said_else : (up : Bool) (q : MessageName) → q ≢ name → tree.get (wire_with_reply name to up (Some rsp) wire) q ≡ tree.get wire q
    said_else true q apart = kept_at (Reply to (say_bytes rsp)) q apart
    said_else false q apart = left_at q apart

    pub said_less : (up : Bool) (packet : Packet) → tree.get wire name ≡ Some packet → (q : MessageName)
        → is_name_in_wire (wire_with_reply name to up (Some rsp) wire) q ≡ true → is_name_in_wire wire q ≡ true
    said_less up packet there q h = ⊎_elim
        (λ (own : q ≡ name). ap (λ (o : Option Packet). is_some o) (ap (tree.get wire) own ∙ there))
        (λ (apart : q ≢ name). ap (λ (o : Option Packet). is_some o) (sym (said_else up q apart)) ∙ h)
        (tied_to q)

module _ (n : ℕ) (wire : Wire) (q : MessageName) where
  pub forgot : (o : Option Packet) → tree.get wire q ≡ o → tree.get (without_replies n wire) q ≡ cond (not (is_reply_to n q o)) o None
  forgot o is =
      tree.get-retain_keys wire (λ (name : MessageName). not (is_reply_to n name (tree.get wire name))) q
      (λ x tie. ap (λ (name : MessageName). not (is_reply_to n name (tree.get wire name))) (sym (same_name q x tie)))
      ∙ ap (λ (o : Option Packet). cond (not (is_reply_to n q o)) o None) is

  pub none_asked : (b : Bool) (from : NodeId) (bytes : List ℕ) → is_request_in_flight (cond b (Some (Reply from bytes)) None) ≡ false
  none_asked true from bytes = refl
  none_asked false from bytes = refl

  pub forgets_still : IsStill wire (without_replies n wire) q
  forgets_still = by_packet (tree.get wire q) refl
    where
      by_packet : (o : Option Packet) → tree.get wire q ≡ o → IsStill wire (without_replies n wire) q
      by_packet None is = inl (forgot None is ∙ sym is)
      by_packet (Some (Request to bytes)) is = inl (forgot (Some (Request to bytes)) is ∙ sym is)
      by_packet (Some (Reply from bytes)) is =
          inr (
            ap is_request_in_flight is,
            ap is_request_in_flight (forgot (Some (Reply from bytes)) is)
                ∙ none_asked (not (q.sender.0 == n)) from bytes,
          )

  pub forgets_less : is_name_in_wire (without_replies n wire) q ≡ true → is_name_in_wire wire q ≡ true
  forgets_less h = by_packet (tree.get wire q) refl
    where
      by_packet : (o : Option Packet) → tree.get wire q ≡ o → is_name_in_wire wire q ≡ true
      by_packet None is =
          let none : is_name_in_wire (without_replies n wire) q ≡ false = ap (λ (o : Option Packet). is_some o) (forgot None is) in absurd
          (cc (h, none))
      by_packet (Some packet) is = ap (λ (o : Option Packet). is_some o) is
