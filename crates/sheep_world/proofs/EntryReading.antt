-- A node that reads an entry waits for what it waited for, and knows the lengths of rows that it knew.
use Rattle.std.proofs.Common.{◌≡◌, inl, ℕ, ◌+◌, true, ◌||◌, List, [], ◌++◌, map, Contains, Option, Some, None, is_some, refl, ap, subst, ◌∙◌, ⊎_elim}
use native.Mathlib.Omega.{arith}
use Rattle.std.proofs.lemmas.Bool.{or_cases, or_left, or_right}
use Rattle.proof_tools.proofs.Lists.{Contains-nil}
use Rattle.object_id.specs.declared.entry.Entry.{Entry}
use Rattle.object_store.specs.declared.row.RowCopy.{RowCopy}
use Rattle.peer_proto.specs.declared.ask.PeerAsk.{PeerAsk}
use Rattle.peer_proto.specs.declared.ask.PeerAsk.TheVariants as asks
use Rattle.peer_proto.specs.declared.say.PeerSay.{PeerSay}
use Rattle.peer_proto.specs.declared.say.PeerSay.TheVariants as says
use Rattle.gateway.specs.State as gateways
use Rattle.gateway.specs.State.{Gateway}
use Rattle.recovery.specs.Shown.{NodeView, is_asked_row}
use Rattle.recovery.specs.State as recoveries
use Rattle.recovery.specs.State.{Message}
use Rattle.recovery.specs.Fits as recovery_fits
use Rattle.sheep_node.specs.State.{Node}
use Rattle.sheep_node.specs.RecoveryView.{recovery_state_of}
use Rattle.sheep_node.specs.May.{fits_node}
use Rattle.sheep_node.specs.LogReading as nodes
use Rattle.sheep_node.specs.LogReading.{asker_of, decision_told, on_log_entry}
use Rattle.sheep_node.proofs.MessageNumbers.{unanswered_reading}
use Rattle.sheep_node.proofs.PeerLog.{entries_reading}
use Rattle.sheep_node.proofs.KnownSpecs.{size_stays}
use Rattle.sheep_world.specs.WireMatch.{asked_by_gateway}
use Rattle.sheep_node.proofs.MessageNumbers.{Sends}
use Rattle.sheep_world.proofs.WireAfterSends.{Asking}
use Rattle.sheep_world.proofs.AskedByTick.{Any}

-- what was known of the lengths of rows is known still
abbrev pub Grows : NodeView → NodeView → Type 0
Grows one other = (oid size : ℕ) → one.size_of oid ≡ Some size → other.size_of oid ≡ Some size

row_still : (one other : NodeView) (wanted : ℕ) (ask : PeerAsk) (row : RowCopy) → Grows one other
    → recovery_fits.fits_row one wanted ask row ≡ true → recovery_fits.fits_row other wanted ask row ≡ true
row_still one other wanted (asks.Create key size offset bytes) row grows fit = fit
row_still one other wanted (asks.Write key offset bytes) row grows fit = fit
row_still one other wanted (asks.Read key offset size) row grows fit = fit
row_still one other wanted asks.List row grows fit = fit
row_still one other wanted (asks.RecoverRead oid level) row grows fit = by_size (one.size_of oid) refl fit
  where
    by_size : (o : Option ℕ) → one.size_of oid ≡ o → is_asked_row level.0 wanted o row ≡ true → is_asked_row level.0 wanted (other.size_of oid) row ≡ true
    by_size None known fits_node = absurd (cc (fits_node))
    by_size (Some size) known fits_node = ap (λ (o : Option ℕ). is_asked_row level.0 wanted o row) (grows oid size known) ∙ fits_node

fit_still : (one other : NodeView) (message : Option Message) (say : PeerSay) → Grows one other
    → recovery_fits.fits_message one message say ≡ true → recovery_fits.fits_message other message say ≡ true
fit_still one other None say grows fit = fit
fit_still one other (Some message) says.Success grows fit = fit
fit_still one other (Some message) (says.Piece bytes) grows fit = fit
fit_still one other (Some message) (says.Objects oids) grows fit = fit
fit_still one other (Some message) (says.Row row) grows fit = row_still one other message.wanted message.request.ask row grows fit
fit_still one other (Some message) says.NoRow grows fit = fit
fit_still one other (Some message) (says.Refused refusal) grows fit = fit

-- ---- what reading an entry keeps

pub record Keeps (old new : Node) : Type 0 where
  pub me_so : new.me ≡ old.me
  pub gateway_so : new.gateway ≡ old.gateway
  pub requests_so : new.requests ≡ old.requests
  pub sessions_so : new.sessions ≡ old.sessions
  pub sends_so : new.sends ≡ old.sends
  pub messages_so : recoveries.all_unanswered new.recovery ≡ recoveries.all_unanswered old.recovery

read_keeps : (entry : Entry) (node : Node) → Keeps node (nodes.entry_read entry node)
unfolding nodes.entry_read
read_keeps entry node = record {
  me_so = refl;
  gateway_so = refl;
  requests_so = refl;
  sessions_so = refl;
  sends_so = refl;
  messages_so = unanswered_reading entry node;
}

-- a node that keeps these waits for the same as before
pub kept_asks : (old new : Node) → Keeps old new → Grows (recovery_state_of old).shown (recovery_state_of new).shown → Asking Any old new []
kept_asks old new kept grows =
    let no_more : old.sends ≡ old.sends + 0 = omega arith in
    record {
      me_so = kept.me_so;
      count_so = kept.sends_so ∙ no_more;
      numbers = refl;
      own = λ send there. absurd (Contains-nil send there);
      read = λ send there. absurd (Contains-nil send there);
      asked = λ send there. inl (
        subst (λ (sends : Sends). Contains sends send)
            (λ i. asked_by_gateway (kept.me_so i) (kept.gateway_so i)
            ++ map (λ (message : Message). (message.to, message.request)) (kept.messages_so i)) there,
        tt,
      );
      waits_on = λ number waits stays.
          (λ i. gateways.gateway_awaits number (kept.gateway_so i) || is_some (recoveries.message_of number (kept.messages_so i))) ∙ waits;
      waits_too = λ send there. absurd (Contains-nil send there);
      fits_on = λ rsp below stays fit. ⊎_elim
          (λ (works : gateways.fits_gateway rsp old.gateway ≡ true).
          or_left (gateways.fits_gateway rsp new.gateway) (recovery_fits.fits_recovery rsp (recovery_state_of new)) (ap (gateways.fits_gateway rsp) kept.gateway_so ∙ works))
          (λ (recovers : recovery_fits.fits_recovery rsp (recovery_state_of old) ≡ true).
          or_right (gateways.fits_gateway rsp new.gateway) (recovery_fits.fits_recovery rsp (recovery_state_of new))
          (ap (λ (messages : List Message). recovery_fits.fits_message (recovery_state_of new).shown (recoveries.message_of rsp.number messages) rsp.say) kept.messages_so
          ∙ fit_still (recovery_state_of old).shown (recovery_state_of new).shown (recoveries.message_of rsp.number (recoveries.all_unanswered old.recovery)) rsp.say grows recovers))
          (or_cases (gateways.fits_gateway rsp old.gateway) (recovery_fits.fits_recovery rsp (recovery_state_of old)) fit);
    }

-- a node that has read an entry keeps them
pub read_asks : (entry : Entry) (node : Node) → Asking Any node (nodes.entry_read entry node) []
read_asks entry node =
    let after = nodes.entry_read entry node in
    kept_asks node after (read_keeps entry node) (λ oid size known. size_stays node.peer after.peer entry oid size (entries_reading entry node) known)
