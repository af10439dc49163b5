-- What is read from the spelling of a request or a reply names objects only by their ids, whatever was spelled.
use Rattle.std.proofs.Common.{◌≡◌, ℕ, ◌^◌, ◌<◌, ◌==◌, true, ◌&&◌, List, [], ◌∷◌, ◌++◌, drop, Option, Some, None, Ok, refl, subst}
use native.Mathlib.Omega.{arith}
use Rattle.std.specs.Int.{w64, to_le_bytes, from_le_bytes}
use Rattle.std.specs.List.{AllByRecursion}
use Rattle.std.proofs.lemmas.Bool.{and_parts}
use Rattle.std.proofs.lemmas.List.Elements.{All-from_recursion}
use Rattle.object_id.specs.Oid.{IsOid}
use Rattle.object_id.specs.Fields.{u8_at, AreBytes}
use Rattle.gf256.proofs.Points.{bytes_of_all}
use Rattle.peer_proto.specs.declared.ask.PeerAsk.{PeerAsk}
use Rattle.peer_proto.specs.declared.ask.PeerAsk.TheVariants as asks
use Rattle.peer_proto.specs.declared.ask.PeerReq.{PeerReq}
use Rattle.peer_proto.specs.declared.ask_head.AskHead.{AskHead}
use Rattle.peer_proto.specs.declared.opcode.Opcode.{Opcode}
use Rattle.peer_proto.specs.declared.opcode.Opcode.TheVariants as opcodes
use Rattle.peer_proto.specs.declared.say.PeerSay.{PeerSay}
use Rattle.peer_proto.specs.declared.say.PeerSay.TheVariants as says
use Rattle.peer_proto.specs.declared.say.PeerRsp.{PeerRsp}
use Rattle.peer_proto.specs.declared.say_head.Form.{Form}
use Rattle.peer_proto.specs.declared.say_head.Form.TheVariants as forms
use Rattle.peer_proto.specs.declared.say_head.SayHead.{SayHead}
use Rattle.peer_proto.specs.Header.{opcode_in}
use Rattle.peer_proto.specs.Ids.{is_oid, id_bytes, are_id_bytes}
use Rattle.peer_proto.specs.Ask.{ask_head, ask_head_bytes, ask_body, ask_bytes, ask_head_at, is_ask_head, fits_ask, peer_ask_of, peer_request_of, request_in, ask_in}
use Rattle.peer_proto.specs.Say.{form_of, has_no_row, has_form, fits_say, is_say_head, form_opcode, say_bytes, say_head_at, peer_say_of, peer_reply_of, reply_in, say_in}
use Rattle.peer_proto.specs.Opcode.{opcode_byte}
use Rattle.peer_proto.proofs.IdLemmas.{oid-is, ids-are}
use Rattle.peer_proto.proofs.HeadLemmas.{bind-ok, when-ok}
use Rattle.recovery.specs.Range.{NamesIds}

-- ---- requests

-- what a request makes or writes is of an object's id
abbrev pub ChangesIds : PeerAsk → Type 0
ChangesIds (asks.Create key size offset bytes) = IsOid key.oid
ChangesIds (asks.Write key offset bytes) = IsOid key.oid
ChangesIds (asks.Read key offset size) = Unit {0}
ChangesIds asks.List = Unit {0}
ChangesIds (asks.RecoverRead oid level) = Unit {0}

eight_bytes_below : (n : ℕ) → from_le_bytes w64 (to_le_bytes w64 n) < 2 ^ 64
eight_bytes_below n = omega arith

-- the object of a header that was spelled has 64 bits
head_below : (head : AskHead) (body : List ℕ) → (ask_head_at (ask_head_bytes head ++ body)).oid < 2 ^ 64
head_below head body = eight_bytes_below head.oid

ask_changes : (opcode : Opcode) (head : AskHead) (body : List ℕ) → head.oid < 2 ^ 64 → fits_ask opcode head body ≡ true
    → ChangesIds (peer_ask_of opcode head body)
ask_changes opcodes.Create head body below fits = oid-is head.oid below (and_parts (is_ask_head head body) (is_oid head.oid) fits).1
ask_changes opcodes.Read head body below fits = tt
ask_changes opcodes.Write head body below fits =
    let own = and_parts (is_ask_head head body) (is_oid head.oid && head.word == 0) fits in
    oid-is head.oid below (and_parts (is_oid head.oid) (head.word == 0) own.1).0
ask_changes opcodes.List head body below fits = tt
ask_changes opcodes.RecoverRead head body below fits = tt

pub read_changes_ids : (sent request : PeerReq) → ask_in (ask_bytes sent) ≡ Ok request → ChangesIds request.ask
read_changes_ids sent request read =
    let bytes : List ℕ = ask_bytes sent in
    let step = bind-ok (opcode_in bytes) (λ (opcode : Opcode). request_in opcode (ask_head_at bytes) (drop 48 bytes)) request read in
    let is = when-ok (fits_ask step.0 (ask_head_at bytes) (drop 48 bytes)) (peer_request_of step.0 (ask_head_at bytes) (drop 48 bytes)) request step.2 in
    subst (λ (r : PeerReq). ChangesIds r.ask) is.1
    (ask_changes step.0 (ask_head_at bytes) (drop 48 bytes) (head_below (ask_head sent) (ask_body sent.ask)) is.0)

-- ---- replies

id_bytes_below : (oids : List ℕ) → AllByRecursion (λ (b : ℕ). b < 2 ^ 8) (id_bytes oids)
id_bytes_below [] = tt
id_bytes_below (oid ∷ oids) =
    (omega arith, (omega arith, (omega arith, (omega arith, (omega arith, (omega arith, (omega arith, (omega arith, id_bytes_below oids))))))))

id_bytes_are : (oids : List ℕ) → AreBytes (id_bytes oids)
id_bytes_are oids = bytes_of_all (id_bytes oids) (All-from_recursion (λ (b : ℕ). b < 2 ^ 8) (id_bytes oids) (id_bytes_below oids))

-- where a reply is read as one that lists objects, what stands behind its header is the bytes of ids
listed_bytes : (number epoch : ℕ) (say : PeerSay) (form : Form)
    → form_of (u8_at 21 (say_bytes (record { number = number; epoch = record { 0 = epoch }; say = say }))) ≡ Some form → form ≡ forms.Objects
    → AreBytes (drop 48 (say_bytes (record { number = number; epoch = record { 0 = epoch }; say = say })))
listed_bytes number epoch says.Success form found is = absurd (cc (found, is))
listed_bytes number epoch (says.Piece bytes) form found is = absurd (cc (found, is))
listed_bytes number epoch (says.Objects oids) form found is = id_bytes_are oids
listed_bytes number epoch (says.Row row) form found is = absurd (cc (found, is))
listed_bytes number epoch says.NoRow form found is = absurd (cc (found, is))
listed_bytes number epoch (says.Refused refusal) form found is = absurd (cc (found, is))

say_names : (form : Form) (head : SayHead) (body : List ℕ) → (form ≡ forms.Objects → AreBytes body) → has_form form head body ≡ true
    → NamesIds (peer_say_of form head body)
say_names forms.Success head body bytes fits = tt
say_names forms.Piece head body bytes fits = tt
say_names forms.Objects head body bytes fits =
    ids-are body (bytes refl) (and_parts (head.result == 0 && has_no_row head.row) (are_id_bytes body) fits).1
say_names forms.Row head body bytes fits = tt
say_names forms.NoRow head body bytes fits = tt
say_names forms.Refused head body bytes fits = tt

reply_names : (form : Option Form) (head : SayHead) (body : List ℕ) (rsp : PeerRsp)
    → ((found : Form) → form ≡ Some found → found ≡ forms.Objects → AreBytes body) → reply_in form head body ≡ Ok rsp → NamesIds rsp.say
reply_names None head body rsp bytes read = absurd (cc (read))
reply_names (Some form) head body rsp bytes read =
    let is = when-ok (fits_say form head body) (peer_reply_of form head body) rsp read in
    let fits = and_parts (head.common.opcode == opcode_byte (form_opcode form) && is_say_head head body) (has_form form head body) is.0 in
    subst (λ (r : PeerRsp). NamesIds r.say) is.1 (say_names form head body (bytes form refl) fits.1)

pub read_names_ids : (said rsp : PeerRsp) → say_in (say_bytes said) ≡ Ok rsp → NamesIds rsp.say
read_names_ids said rsp read =
    let bytes : List ℕ = say_bytes said in
    let step = bind-ok (opcode_in bytes) (λ (opcode : Opcode). reply_in (form_of (u8_at 21 bytes)) (say_head_at bytes) (drop 48 bytes)) rsp read in
    reply_names (form_of (u8_at 21 bytes)) (say_head_at bytes) (drop 48 bytes) rsp (listed_bytes said.number said.epoch.0 said.say) step.2
