-- Requests: what their bytes read as, and that bytes which are read spell the request.
use Rattle.std.proofs.Common.{◌≡◌, ℕ, ◌%◌, ◌<◌, ◌≤◌, ◌^◌, Bool, true, ◌&&◌, List, [], ◌++◌, length, drop, Result, Ok, Err, refl, sym, ap, subst, ◌∙◌, arith}
use Rattle.std.specs.Prelude.{nat_eq, nat_lt, nat_le, not, IfOk}
use Rattle.std.proofs.lemmas.Bool.{eqb-true, ltb-true, leb-true, and_parts, and_from}
use Rattle.std.proofs.lemmas.Bool.Decides.{nat_tests}
use Rattle.std.proofs.lemmas.List.{length-append}
use Rattle.std.proofs.lemmas.Nat.{from_le_bytes-to_le_bytes_4, from_le_bytes-to_le_bytes_8}
use Rattle.object_id.specs.declared.node.NodeId.{NodeId}
use Rattle.object_id.specs.declared.node.Epoch.{Epoch}
use Rattle.peer_proto.specs.declared.ask.PeerAsk.{PeerAsk}
use Rattle.peer_proto.specs.declared.ask.PeerAsk.TheVariants as asks
use Rattle.peer_proto.specs.declared.ask.PeerReq.{PeerReq}
use Rattle.peer_proto.specs.declared.ask_head.AskHead.{AskHead}
use Rattle.sheep_proto.specs.declared.common.Common.{Common}
use Rattle.peer_proto.specs.declared.opcode.Opcode.{Opcode}
use Rattle.peer_proto.specs.declared.opcode.Opcode.TheVariants as opcodes
use Rattle.peer_proto.specs.declared.fault.PeerFault.{PeerFault}
use Rattle.object_id.specs.Fields.{AreBytes, Stands, u8_at, u32_bytes, u64_bytes}
use Rattle.peer_proto.specs.Opcode.{opcode_byte}
use Rattle.sheep_proto.specs.Headers.{common_bytes, IsCommon}
use Rattle.peer_proto.specs.Header.{opcode_in, ◌>>=◌, when, AnswersBytes}
use Rattle.peer_proto.specs.Ids.{is_oid}
use Rattle.peer_proto.specs.Ask.{ask_body, ask_head, ask_head_bytes, ask_bytes, IsPeerAsk, IsPeerReq, ask_head_at, is_ask_head, has_fields, fits_ask, peer_ask_of, peer_request_of, request_in, ask_in}
use Rattle.object_id.proofs.FieldLemmas.{stands-then, stands-u32, stands-u64, u32-below, u64-below}
use Rattle.peer_proto.proofs.IdLemmas.{oid-is, oid-passes}
use Rattle.peer_proto.proofs.HeadLemmas.{header-in, opcode-in, common-read, bind-ok, when-ok, answered, same_common, none, byte-below, same_reading, CommonFacts, common-facts, common-passes}
use Rattle.sheep_proto.proofs.HeaderLemmas.{common-stands, common-fits}

-- ---- the 48 bytes

pub ask-head-stands : (bytes : List ℕ) → AreBytes bytes → 48 ≤ length bytes → u8_at 0 bytes ≡ 1 → Stands bytes 0 48 (ask_head_bytes (ask_head_at bytes))
ask-head-stands bytes fits long version =
    let head = ask_head_at bytes in
    let start : List ℕ = common_bytes head.common in
    let oid = stands-then bytes 0 16 24 start (u64_bytes head.oid) (common-stands bytes fits long version) (stands-u64 bytes 16 fits (omega arith)) in
    let word = stands-then bytes 0 24 28 (start ++ u64_bytes head.oid) (u32_bytes head.word) oid (stands-u32 bytes 24 fits (omega arith)) in
    let sender = stands-then bytes 0 28 32 (start ++ u64_bytes head.oid ++ u32_bytes head.word) (u32_bytes head.sender) word (stands-u32 bytes 28 fits (omega arith)) in
    let index = stands-then bytes 0 32 40 (start ++ u64_bytes head.oid ++ u32_bytes head.word ++ u32_bytes head.sender) (u64_bytes head.index) sender (stands-u64 bytes 32 fits (omega arith)) in
    stands-then bytes 0 40 48 (start ++ u64_bytes head.oid ++ u32_bytes head.word ++ u32_bytes head.sender ++ u64_bytes head.index) (u64_bytes head.offset) index (stands-u64 bytes 40 fits (omega arith))

abbrev made : Common → ℕ → ℕ → ℕ → ℕ → ℕ → AskHead
made common oid word sender index offset =
    record { common = common; oid = oid; word = word; sender = sender; index = index; offset = offset }

same_head : (c d : Common) (o p w v s t i j f g : ℕ) → c ≡ d → o ≡ p → w ≡ v → s ≡ t → i ≡ j → f ≡ g → made c o w s i f ≡ made d p v t j g
same_head c d o p w v s t i j f g ec eo ew es ei ef = rw (ec, eo, ew, es, ei, ef) refl

-- the numbers fit their fields
pub record AskRange (head : AskHead) : Type 0 where
  pub common : IsCommon head.common
  pub oid : head.oid < 2 ^ 64
  pub word : head.word < 2 ^ 32
  pub sender : head.sender < 2 ^ 32
  pub index : head.index < 2 ^ 64
  pub offset : head.offset < 2 ^ 64

ask-range : (bytes : List ℕ) → AreBytes bytes → AskRange (ask_head_at bytes)
ask-range bytes fits = record {
  common = common-fits bytes fits;
  oid = u64-below bytes 16 fits;
  word = u32-below bytes 24 fits;
  sender = u32-below bytes 28 fits;
  index = u64-below bytes 32 fits;
  offset = u64-below bytes 40 fits;
}

ask-head-read : (head : AskHead) (body : List ℕ) → AskRange head → ask_head_at (ask_head_bytes head ++ body) ≡ head
ask-head-read head body range =
    let read : AskHead = ask_head_at (ask_head_bytes head ++ body) in
    same_head read.common head.common read.oid head.oid read.word head.word read.sender head.sender read.index head.index read.offset head.offset
    (common-read head.common (u64_bytes head.oid ++ u32_bytes head.word ++ u32_bytes head.sender ++ u64_bytes head.index ++ u64_bytes head.offset ++ body) range.common)
    (from_le_bytes-to_le_bytes_8 head.oid range.oid)
    (from_le_bytes-to_le_bytes_4 head.word range.word)
    (from_le_bytes-to_le_bytes_4 head.sender range.sender)
    (from_le_bytes-to_le_bytes_8 head.index range.index)
    (from_le_bytes-to_le_bytes_8 head.offset range.offset)

-- ---- the fields that every request has

pub record AskFacts (head : AskHead) (body : List ℕ) : Type 0 where
  pub common : CommonFacts head.common body
  pub sender : head.sender < 64
  pub index : head.index ≤ 30
  pub offset : head.offset < 2 ^ 32

ask-facts : (head : AskHead) (body : List ℕ) → is_ask_head head body ≡ true → AskFacts head body
ask-facts head body h =
    let a = and_parts _ _ h in
    let b = and_parts _ _ a.0 in
    let c = and_parts _ _ b.0 in
    record {
      common = common-facts head.common body c.0;
      sender = ltb-true _ _ c.1;
      index = leb-true _ _ b.1;
      offset = ltb-true _ _ a.1;
    }

ask-passes : (head : AskHead) (body : List ℕ) → AskFacts head body → is_ask_head head body ≡ true
ask-passes head body facts =
    let sender : nat_lt head.sender 64 ≡ true = grind (arith, nat_tests, facts.sender) in
    let index : nat_le head.index 30 ≡ true = grind (arith, nat_tests, facts.index) in
    let offset : nat_lt head.offset (2 ^ 32) ≡ true = grind (arith, nat_tests, facts.offset) in
    and_from _ _ (and_from _ _ (and_from _ _ (common-passes head.common body facts.common) sender) index) offset

-- ---- a header that fits is that of the request

pub recovered_oid : (opcode : Opcode) (head : AskHead) (body : List ℕ) → opcode ≡ opcodes.RecoverRead → fits_ask opcode head body ≡ true → is_oid head.oid ≡ true
recovered_oid opcode head body is h =
    let own = and_parts (is_ask_head head body) (has_fields opcodes.RecoverRead head body) (subst (λ (o : Opcode). fits_ask o head body ≡ true) is h) in
    (and_parts _ _ (and_parts _ _ (and_parts _ _ own.1).0).0).0

-- the header of a request with these fields is this header
same_as : (head : AskHead) (opcode : Opcode) (text : List ℕ) (oid word index offset : ℕ) → opcode_byte opcode ≡ head.common.opcode → AskRange head → AskFacts head text
    → oid ≡ head.oid → word ≡ head.word → index ≡ head.index → offset ≡ head.offset
    → made (record { opcode = opcode_byte opcode; flags = 0; epoch = head.common.epoch; id = head.common.id; data_length = length text % 2 ^ 32 }) oid word head.sender index offset ≡ head
same_as head opcode text oid word index offset op range facts eo ew ei ef =
    let low : length text % 2 ^ 32 ≡ head.common.data_length = omega (arith, facts.common.counted, range.common.data_length) in
    let flags : 0 ≡ head.common.flags = sym facts.common.flags in
    let common : record { opcode = opcode_byte opcode; flags = 0; epoch = head.common.epoch; id = head.common.id; data_length = length text % 2 ^ 32 } ≡ head.common
    = same_common (opcode_byte opcode) head.common.opcode 0 head.common.flags (length text % 2 ^ 32) head.common.data_length head.common.epoch head.common.id op flags low in
    same_head _ head.common oid head.oid word head.word head.sender head.sender index head.index offset head.offset common eo ew refl ei ef

-- what a header that fits, of this opcode, asks for
pub spelled : (opcode : Opcode) (head : AskHead) (body : List ℕ) → opcode_byte opcode ≡ head.common.opcode → AskRange head → fits_ask opcode head body ≡ true
    → (ask_head (peer_request_of opcode head body) ≡ head) × (ask_body (peer_ask_of opcode head body) ≡ body) × IsPeerAsk (peer_ask_of opcode head body)
spelled opcodes.Create head body op range h =
    let t = and_parts (is_ask_head head body) (is_oid head.oid) h in
    let facts = ask-facts head body t.0 in (
      same_as head opcodes.Create body head.oid head.word head.index head.offset op range facts refl refl refl refl,
      refl,
      (oid-is head.oid range.oid t.1, facts.index, range.word, facts.offset, omega (arith, facts.common.counted, range.common.data_length)),
    )
spelled opcodes.Read head body op range h =
    let t = and_parts (is_ask_head head body) (is_oid head.oid && nat_eq (length body) 0) h in
    let own = and_parts (is_oid head.oid) (nat_eq (length body) 0) t.1 in
    let facts = ask-facts head body t.0 in
    let nothing : [] ≡ body = none body own.1 in (
      same_as head opcodes.Read [] head.oid head.word head.index head.offset op range (subst (AskFacts head) (sym nothing) facts) refl refl refl refl,
      nothing,
      (oid-is head.oid range.oid own.0, facts.index, facts.offset, range.word),
    )
spelled opcodes.Write head body op range h =
    let t = and_parts (is_ask_head head body) (is_oid head.oid && nat_eq head.word 0) h in
    let own = and_parts (is_oid head.oid) (nat_eq head.word 0) t.1 in
    let facts = ask-facts head body t.0 in (
      same_as head opcodes.Write body head.oid 0 head.index head.offset op range facts refl (sym (eqb-true _ _ own.1)) refl refl,
      refl,
      (oid-is head.oid range.oid own.0, facts.index, facts.offset, omega (arith, facts.common.counted, range.common.data_length)),
    )
spelled opcodes.List head body op range h =
    let t = and_parts (is_ask_head head body) (nat_eq head.oid 0 && nat_eq head.word 0 && (nat_eq head.index 0 && nat_eq head.offset 0) && nat_eq (length body) 0) h in
    let a = and_parts (nat_eq head.oid 0 && nat_eq head.word 0 && (nat_eq head.index 0 && nat_eq head.offset 0)) (nat_eq (length body) 0) t.1 in
    let b = and_parts (nat_eq head.oid 0 && nat_eq head.word 0) (nat_eq head.index 0 && nat_eq head.offset 0) a.0 in
    let c = and_parts (nat_eq head.oid 0) (nat_eq head.word 0) b.0 in
    let place = and_parts (nat_eq head.index 0) (nat_eq head.offset 0) b.1 in
    let facts = ask-facts head body t.0 in
    let nothing : [] ≡ body = none body a.1 in (
      same_as head opcodes.List [] 0 0 0 0 op range (subst (AskFacts head) (sym nothing) facts)
          (sym (eqb-true _ _ c.0)) (sym (eqb-true _ _ c.1)) (sym (eqb-true _ _ place.0)) (sym (eqb-true _ _ place.1)),
      nothing,
      tt,
    )
spelled opcodes.RecoverRead head body op range h =
    let t = and_parts (is_ask_head head body) (is_oid head.oid && not (nat_eq head.word 0) && (nat_eq head.index 0 && nat_eq head.offset 0) && nat_eq (length body) 0) h in
    let a = and_parts (is_oid head.oid && not (nat_eq head.word 0) && (nat_eq head.index 0 && nat_eq head.offset 0)) (nat_eq (length body) 0) t.1 in
    let b = and_parts (is_oid head.oid && not (nat_eq head.word 0)) (nat_eq head.index 0 && nat_eq head.offset 0) a.0 in
    let c = and_parts (is_oid head.oid) (not (nat_eq head.word 0)) b.0 in
    let place = and_parts (nat_eq head.index 0) (nat_eq head.offset 0) b.1 in
    let facts = ask-facts head body t.0 in
    let nothing : [] ≡ body = none body a.1 in
    let level : 1 ≤ head.word = grind (arith, nat_tests, c.1) in (
      same_as head opcodes.RecoverRead [] head.oid head.word 0 0 op range (subst (AskFacts head) (sym nothing) facts)
          refl refl (sym (eqb-true _ _ place.0)) (sym (eqb-true _ _ place.1)),
      nothing,
      (oid-is head.oid range.oid c.0, (level, range.word)),
    )

-- what is read is spelled so
pub ask-found : (bytes : List ℕ) (req : PeerReq) → AreBytes bytes → ask_in bytes ≡ Ok req → IsPeerReq req × (bytes ≡ ask_bytes req)
ask-found bytes req fits h =
    let head : AskHead = ask_head_at bytes in
    let body : List ℕ = drop 48 bytes in
    let b = bind-ok (opcode_in bytes) (λ (opcode : Opcode). request_in opcode (ask_head_at bytes) (drop 48 bytes)) req h in
    let start = header-in bytes b.0 b.1 in
    let w = when-ok (fits_ask b.0 head body) (peer_request_of b.0 head body) req b.2 in
    let range = ask-range bytes fits in
    let facts = ask-facts head body (and_parts (is_ask_head head body) (has_fields b.0 head body) w.0).0 in
    let s = spelled b.0 head body start.opcode_is range w.0 in
    let whole : bytes ≡ ask_head_bytes head ++ body = (ask-head-stands bytes fits start.long start.version).parts in
    let text : ask_bytes (peer_request_of b.0 head body) ≡ bytes
    = ap (λ (k : AskHead). ask_head_bytes k ++ ask_body (peer_ask_of b.0 head body)) s.0 ∙ ap (λ (rest : List ℕ). ask_head_bytes head ++ rest) s.1 ∙ sym whole in
    let is : IsPeerReq (peer_request_of b.0 head body)
    = record { from = facts.sender; number = range.common.id; epoch = (facts.common.epoch, range.common.epoch); ask = s.2 } in
    subst (λ (r : PeerReq). IsPeerReq r × (bytes ≡ ask_bytes r)) w.1 (is, sym text)

pub ask-is_found : (bytes : List ℕ) (r : Result PeerReq PeerFault) → AreBytes bytes → AnswersBytes (ask_in bytes) r
    → IfOk r (λ req. IsPeerReq req × (bytes ≡ ask_bytes req))
ask-is_found bytes (Ok req) fits h = ask-found bytes req fits (answered (ask_in bytes) req h)
ask-is_found bytes (Err fault) fits h = tt

-- ---- a request that has a spelling is read from it

-- the opcode of what is asked
abbrev asked : PeerAsk → Opcode
asked (asks.Create key size offset bytes) = opcodes.Create
asked (asks.Write key offset bytes) = opcodes.Write
asked (asks.Read key offset size) = opcodes.Read
asked asks.List = opcodes.List
asked (asks.RecoverRead oid level) = opcodes.RecoverRead

abbrev request : NodeId → ℕ → Epoch → PeerAsk → PeerReq
request from number epoch ask = record { from = from; number = number; epoch = epoch; ask = ask }

facts-of : (from : NodeId) (number : ℕ) (epoch : Epoch) (ask : PeerAsk) (head : AskHead) → IsPeerReq (request from number epoch ask)
    → head.common.flags ≡ 0 → head.common.epoch ≡ epoch.0 → head.common.data_length ≡ length (ask_body ask) % 2 ^ 32 → length (ask_body ask) < 2 ^ 32
    → head.sender ≡ from.0 → head.index ≤ 30 → head.offset < 2 ^ 32 → AskFacts head (ask_body ask)
facts-of from number epoch ask head is flags same_epoch counted short same_sender index offset = record {
  common = record { flags = flags; epoch = omega (arith, is.epoch.0, same_epoch); counted = omega (arith, counted, short) };
  sender = omega (arith, is.from, same_sender);
  index = index;
  offset = offset;
}

fits-of : (from : NodeId) (number : ℕ) (epoch : Epoch) (ask : PeerAsk) → IsPeerReq (request from number epoch ask)
    → fits_ask (asked ask) (ask_head (request from number epoch ask)) (ask_body ask) ≡ true
fits-of from number epoch (asks.Create key size offset bytes) is =
    let facts = facts-of from number epoch (asks.Create key size offset bytes) (ask_head (request from number epoch (asks.Create key size offset bytes))) is refl refl refl is.ask.4 refl is.ask.1 is.ask.3 in
    and_from _ _ (ask-passes _ bytes facts) (oid-passes key.oid is.ask.0)
fits-of from number epoch (asks.Write key offset bytes) is =
    let facts = facts-of from number epoch (asks.Write key offset bytes) (ask_head (request from number epoch (asks.Write key offset bytes))) is refl refl refl is.ask.3 refl is.ask.1 is.ask.2 in
    and_from _ _ (ask-passes _ bytes facts) (and_from _ _ (oid-passes key.oid is.ask.0) refl)
fits-of from number epoch (asks.Read key offset size) is =
    let facts = facts-of from number epoch (asks.Read key offset size) (ask_head (request from number epoch (asks.Read key offset size))) is refl refl refl (omega arith) refl is.ask.1 is.ask.2 in
    and_from _ _ (ask-passes _ [] facts) (and_from _ _ (oid-passes key.oid is.ask.0) refl)
fits-of from number epoch asks.List is =
    let facts = facts-of from number epoch asks.List (ask_head (request from number epoch asks.List)) is refl refl refl (omega arith) refl (omega arith) (omega arith) in
    and_from _ _ (ask-passes _ [] facts) refl
fits-of from number epoch (asks.RecoverRead oid level) is =
    let facts = facts-of from number epoch (asks.RecoverRead oid level) (ask_head (request from number epoch (asks.RecoverRead oid level))) is refl refl refl (omega arith) refl (omega arith) (omega arith) in
    let some : not (nat_eq level.0 0) ≡ true = grind (arith, nat_tests, is.ask.1.0) in
    and_from _ _ (ask-passes _ [] facts) (and_from _ _ (and_from _ _ (and_from _ _ (oid-passes oid is.ask.0) some) refl) refl)

common-of : (from : NodeId) (number : ℕ) (epoch : Epoch) (ask : PeerAsk) (opcode : Opcode) → IsPeerReq (request from number epoch ask)
    → IsCommon (record { opcode = opcode_byte opcode; flags = 0; epoch = epoch.0; id = number; data_length = length (ask_body ask) % 2 ^ 32 })
common-of from number epoch ask opcode is =
    record { opcode = byte-below opcode; flags = omega arith; epoch = is.epoch.1; id = is.number; data_length = omega arith }

range-of : (from : NodeId) (number : ℕ) (epoch : Epoch) (ask : PeerAsk) → IsPeerReq (request from number epoch ask)
    → AskRange (ask_head (request from number epoch ask))
range-of from number epoch (asks.Create key size offset bytes) is =
    record { common = common-of from number epoch (asks.Create key size offset bytes) opcodes.Create is; oid = is.ask.0.0; word = is.ask.2; sender = omega (arith, is.from); index = omega (arith, is.ask.1); offset = omega (arith, is.ask.3) }
range-of from number epoch (asks.Write key offset bytes) is =
    record { common = common-of from number epoch (asks.Write key offset bytes) opcodes.Write is; oid = is.ask.0.0; word = omega arith; sender = omega (arith, is.from); index = omega (arith, is.ask.1); offset = omega (arith, is.ask.2) }
range-of from number epoch (asks.Read key offset size) is =
    record { common = common-of from number epoch (asks.Read key offset size) opcodes.Read is; oid = is.ask.0.0; word = is.ask.3; sender = omega (arith, is.from); index = omega (arith, is.ask.1); offset = omega (arith, is.ask.2) }
range-of from number epoch asks.List is =
    record { common = common-of from number epoch asks.List opcodes.List is; oid = omega arith; word = omega arith; sender = omega (arith, is.from); index = omega arith; offset = omega arith }
range-of from number epoch (asks.RecoverRead oid level) is =
    record { common = common-of from number epoch (asks.RecoverRead oid level) opcodes.RecoverRead is; oid = is.ask.0.0; word = is.ask.1.1; sender = omega (arith, is.from); index = omega arith; offset = omega arith }

opcode-of : (from : NodeId) (number : ℕ) (epoch : Epoch) (ask : PeerAsk) → opcode_byte (asked ask) ≡ (ask_head (request from number epoch ask)).common.opcode
opcode-of from number epoch (asks.Create key size offset bytes) = refl
opcode-of from number epoch ask = refl

request-of : (from : NodeId) (number : ℕ) (epoch : Epoch) (ask : PeerAsk)
    → peer_request_of (asked ask) (ask_head (request from number epoch ask)) (ask_body ask) ≡ request from number epoch ask
request-of from number epoch (asks.Create key size offset bytes) = refl
request-of from number epoch ask = refl

-- what stands behind 48 bytes that are a header
behind : (head : AskHead) (body : List ℕ) → drop 48 (ask_head_bytes head ++ body) ≡ body
behind head body = refl

long : (head : AskHead) (body : List ℕ) → 48 ≤ length (ask_head_bytes head ++ body)
long head body = omega (arith, length-append (ask_head_bytes head) body)

request-again : (from : NodeId) (number : ℕ) (epoch : Epoch) (ask : PeerAsk) → IsPeerReq (request from number epoch ask)
    → ask_in (ask_bytes (request from number epoch ask)) ≡ Ok (request from number epoch ask)
request-again from number epoch ask is =
    let req : PeerReq = request from number epoch ask in
    let head : AskHead = ask_head req in
    let body : List ℕ = ask_body ask in
    let start : opcode_in (ask_bytes req) ≡ Ok (asked ask)
    = opcode-in (ask_bytes req) (asked ask) (record { long = long head body; version = refl; opcode_is = opcode-of from number epoch ask }) in
    let read : ask_head_at (ask_bytes req) ≡ head = ask-head-read head body (range-of from number epoch ask is) in
    let fits : request_in (asked ask) head body ≡ Ok (peer_request_of (asked ask) head body)
    = ap (λ (t : Bool). when t (peer_request_of (asked ask) head body)) (fits-of from number epoch ask is) in
    ap (λ (r : Result Opcode PeerFault). r >>= λ opcode. request_in opcode (ask_head_at (ask_bytes req)) (drop 48 (ask_bytes req))) start
    ∙ ap (λ (h : AskHead). request_in (asked ask) h (drop 48 (ask_bytes req))) read
    ∙ ap (request_in (asked ask) head) (behind head body)
    ∙ fits ∙ ap (λ (r : PeerReq). Ok r) (request-of from number epoch ask)

pub ask-again : (req : PeerReq) → IsPeerReq req → ask_in (ask_bytes req) ≡ Ok req
ask-again req is = request-again req.from req.number req.epoch req.ask is

pub ask-is_only : (bytes : List ℕ) (r : Result PeerReq PeerFault) (req : PeerReq) → AnswersBytes (ask_in bytes) r → IsPeerReq req → bytes ≡ ask_bytes req
    → AnswersBytes (Ok req) r
ask-is_only bytes r req h is text = subst (λ (read : Result PeerReq PeerFault). AnswersBytes read r) (ap ask_in text ∙ ask-again req is) h

pub ask-differ : (a b : PeerReq) → IsPeerReq a → IsPeerReq b → ask_bytes a ≡ ask_bytes b → a ≡ b
ask-differ a b is_a is_b same = same_reading (ask_in (ask_bytes a)) a b (ask-again a is_a) (ap ask_in same ∙ ask-again b is_b)
