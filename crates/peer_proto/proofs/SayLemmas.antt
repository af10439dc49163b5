-- Replies: what their bytes read as, and that bytes which are read spell the reply.
use Rattle.std.proofs.Common.{◌≡◌, ℕ, ◌%◌, ◌<◌, ◌≤◌, ◌^◌, Bool, true, false, cond, ◌&&◌, ◌||◌, List, [], ◌++◌, length, drop, Option, Some, None, Result, Ok, Err, refl, sym, ap, subst, ◌∙◌, arith}
use Rattle.std.specs.Prelude.{nat_eq, nat_le, not, IfOk}
use Rattle.std.proofs.lemmas.Bool.{eqb-true, leb-true, not-true, le-leb, and_parts, and_from}
use Rattle.std.proofs.lemmas.Bool.Decides.{nat_tests}
use Rattle.std.proofs.lemmas.List.{length-append}
use Rattle.std.proofs.lemmas.Nat.{from_le_bytes-to_le_bytes_2, from_le_bytes-to_le_bytes_4, from_le_bytes-to_le_bytes_8}
use Rattle.object_id.specs.declared.node.Epoch.{Epoch}
use Rattle.object_id.specs.Fields.{AreBytes, Stands, u8_at, u8_bytes, u16_bytes, u32_bytes, u64_bytes}
use Rattle.object_id.proofs.FieldLemmas.{stands-then, stands-u8, stands-u16, stands-u32, stands-u64, u16-below, u32-below, u64-below}
use Rattle.sheep_proto.specs.declared.common.Common.{Common}
use Rattle.sheep_proto.specs.Headers.{common_bytes, IsCommon}
use Rattle.sheep_proto.proofs.HeaderLemmas.{common-stands, common-fits}
use Rattle.peer_proto.specs.declared.say.Refusal.{Refusal}
use Rattle.peer_proto.specs.declared.say.Refusal.TheVariants.{OldEpoch, NewEpoch, Recovery, NoObj}
use Rattle.peer_proto.specs.declared.say.PeerSay.{PeerSay}
use Rattle.peer_proto.specs.declared.say.PeerSay.TheVariants as says
use Rattle.peer_proto.specs.declared.say.PeerRsp.{PeerRsp}
use Rattle.peer_proto.specs.declared.say_head.Form.{Form}
use Rattle.peer_proto.specs.declared.say_head.Form.TheVariants as forms
use Rattle.peer_proto.specs.declared.say_head.RowHead.{RowHead}
use Rattle.peer_proto.specs.declared.say_head.SayHead.{SayHead}
use Rattle.peer_proto.specs.declared.opcode.Opcode.{Opcode}
use Rattle.peer_proto.specs.declared.fault.PeerFault.{PeerFault}
use Rattle.peer_proto.specs.Opcode.{opcode_byte}
use Rattle.peer_proto.specs.Header.{opcode_in, ◌>>=◌, when, AnswersBytes}
use Rattle.peer_proto.specs.Ids.{id_bytes, ids_in, are_id_bytes}
use Rattle.peer_proto.specs.Say.{form_byte, form_opcode, form_of, refusal_result, refusal_of, to_number, to_epoch, say_form, say_result, no_row, say_row, say_body, say_head, say_head_bytes, say_bytes, ends_in_zero, IsEnd, IsRefusal, IsPeerSay, IsPeerRsp, say_head_at, is_say_head, has_no_row, fits_row_head, is_refusal_result, has_form, fits_say, peer_say_of, peer_reply_of, reply_in, say_in}
use Rattle.peer_proto.proofs.IdLemmas.{ids-back, ids-are, ids_ascend, ids-again, ids-pass}
use Rattle.peer_proto.proofs.HeadLemmas.{header-in, opcode-in, common-read, bind-ok, when-ok, answered, same_common, none, byte-below, drop-bytes, same_reading, CommonFacts, common-facts, common-passes, byte-chosen}

-- ---- the 48 bytes

say-head-stands : (bytes : List ℕ) → AreBytes bytes → 48 ≤ length bytes → u8_at 0 bytes ≡ 1 → Stands bytes 0 48 (say_head_bytes (say_head_at bytes))
say-head-stands bytes fits long version =
    let head = say_head_at bytes in
    let t0 : List ℕ = common_bytes head.common in
    let t1 : List ℕ = t0 ++ u32_bytes head.result in
    let t2 : List ℕ = t1 ++ u8_bytes head.row.index in
    let t3 : List ℕ = t2 ++ u8_bytes head.form in
    let t4 : List ℕ = t3 ++ u16_bytes head.zeros_22 in
    let t5 : List ℕ = t4 ++ u32_bytes head.row.from in
    let t6 : List ℕ = t5 ++ u32_bytes head.row.to in
    let t7 : List ℕ = t6 ++ u32_bytes head.row.size in
    let t8 : List ℕ = t7 ++ u32_bytes head.zeros_36 in
    let s1 = stands-then bytes 0 16 20 t0 (u32_bytes head.result) (common-stands bytes fits long version) (stands-u32 bytes 16 fits (omega arith)) in
    let s2 = stands-then bytes 0 20 21 t1 (u8_bytes head.row.index) s1 (stands-u8 bytes 20 (omega arith)) in
    let s3 = stands-then bytes 0 21 22 t2 (u8_bytes head.form) s2 (stands-u8 bytes 21 (omega arith)) in
    let s4 = stands-then bytes 0 22 24 t3 (u16_bytes head.zeros_22) s3 (stands-u16 bytes 22 fits (omega arith)) in
    let s5 = stands-then bytes 0 24 28 t4 (u32_bytes head.row.from) s4 (stands-u32 bytes 24 fits (omega arith)) in
    let s6 = stands-then bytes 0 28 32 t5 (u32_bytes head.row.to) s5 (stands-u32 bytes 28 fits (omega arith)) in
    let s7 = stands-then bytes 0 32 36 t6 (u32_bytes head.row.size) s6 (stands-u32 bytes 32 fits (omega arith)) in
    let s8 = stands-then bytes 0 36 40 t7 (u32_bytes head.zeros_36) s7 (stands-u32 bytes 36 fits (omega arith)) in
    stands-then bytes 0 40 48 t8 (u64_bytes head.zeros_40) s8 (stands-u64 bytes 40 fits (omega arith))

abbrev row_made : ℕ → ℕ → ℕ → ℕ → RowHead
row_made index from to size = record { index = index; from = from; to = to; size = size }

same_row : (index f g t u s r : ℕ) → f ≡ g → t ≡ u → s ≡ r → row_made index f t s ≡ row_made index g u r
same_row index f g t u s r ef et es = rw (ef, et, es) refl

abbrev made : Common → ℕ → ℕ → RowHead → ℕ → ℕ → ℕ → SayHead
made common result form row a b c =
    record { common = common; result = result; form = form; row = row; zeros_22 = a; zeros_36 = b; zeros_40 = c }

same_head : (c d : Common) (r s f g : ℕ) (x y : RowHead) (i j k l m n : ℕ) → c ≡ d → r ≡ s → f ≡ g → x ≡ y → i ≡ j → k ≡ l → m ≡ n
    → made c r f x i k m ≡ made d s g y j l n
same_head c d r s f g x y i j k l m n ec er ef ex ei ek em = rw (ec, er, ef, ex, ei, ek, em) refl

-- the numbers fit their fields
record SayRange (head : SayHead) : Type 0 where
  common : IsCommon head.common
  result_fits : head.result < 2 ^ 32
  from : head.row.from < 2 ^ 32
  to : head.row.to < 2 ^ 32
  size : head.row.size < 2 ^ 32
  zeros_22 : head.zeros_22 < 2 ^ 16
  zeros_36 : head.zeros_36 < 2 ^ 32
  zeros_40 : head.zeros_40 < 2 ^ 64

say-range : (bytes : List ℕ) → AreBytes bytes → SayRange (say_head_at bytes)
say-range bytes fits = record {
  common = common-fits bytes fits;
  result_fits = u32-below bytes 16 fits;
  from = u32-below bytes 24 fits;
  to = u32-below bytes 28 fits;
  size = u32-below bytes 32 fits;
  zeros_22 = u16-below bytes 22 fits;
  zeros_36 = u32-below bytes 36 fits;
  zeros_40 = u64-below bytes 40 fits;
}

say-head-read : (head : SayHead) (body : List ℕ) → SayRange head → say_head_at (say_head_bytes head ++ body) ≡ head
say-head-read head body range =
    let read : SayHead = say_head_at (say_head_bytes head ++ body) in
    let row : read.row ≡ head.row
    = same_row head.row.index read.row.from head.row.from read.row.to head.row.to read.row.size head.row.size
    (from_le_bytes-to_le_bytes_4 head.row.from range.from) (from_le_bytes-to_le_bytes_4 head.row.to range.to) (from_le_bytes-to_le_bytes_4 head.row.size range.size) in
    same_head read.common head.common read.result head.result head.form head.form read.row head.row read.zeros_22 head.zeros_22 read.zeros_36 head.zeros_36 read.zeros_40 head.zeros_40
    (common-read head.common
    (u32_bytes head.result ++ u8_bytes head.row.index ++ u8_bytes head.form ++ u16_bytes head.zeros_22 ++ u32_bytes head.row.from ++ u32_bytes head.row.to
    ++ u32_bytes head.row.size ++ u32_bytes head.zeros_36 ++ u64_bytes head.zeros_40 ++ body) range.common)
    (from_le_bytes-to_le_bytes_4 head.result range.result_fits)
    refl
    row
    (from_le_bytes-to_le_bytes_2 head.zeros_22 range.zeros_22)
    (from_le_bytes-to_le_bytes_4 head.zeros_36 range.zeros_36)
    (from_le_bytes-to_le_bytes_8 head.zeros_40 range.zeros_40)

-- ---- the fields that every reply has

record SayFacts (head : SayHead) (body : List ℕ) : Type 0 where
  common : CommonFacts head.common body
  zeros_22 : head.zeros_22 ≡ 0
  zeros_36 : head.zeros_36 ≡ 0
  zeros_40 : head.zeros_40 ≡ 0

say-facts : (head : SayHead) (body : List ℕ) → is_say_head head body ≡ true → SayFacts head body
say-facts head body h =
    let a = and_parts _ _ h in
    let b = and_parts _ _ a.0 in
    let c = and_parts _ _ b.0 in
    record {
      common = common-facts head.common body c.0;
      zeros_22 = eqb-true _ _ c.1;
      zeros_36 = eqb-true _ _ b.1;
      zeros_40 = eqb-true _ _ a.1;
    }

say-passes : (head : SayHead) (body : List ℕ) → SayFacts head body → is_say_head head body ≡ true
say-passes head body facts =
    let a : nat_eq head.zeros_22 0 ≡ true = grind (arith, nat_tests, facts.zeros_22) in
    let b : nat_eq head.zeros_36 0 ≡ true = grind (arith, nat_tests, facts.zeros_36) in
    let c : nat_eq head.zeros_40 0 ≡ true = grind (arith, nat_tests, facts.zeros_40) in
    and_from _ _ (and_from _ _ (and_from _ _ (common-passes head.common body facts.common) a) b) c

-- ---- forms, rows and refusals

form_of-byte : (form : Form) → form_of (form_byte form) ≡ Some form
form_of-byte forms.Success = refl
form_of-byte form = refl

form_byte-of : (byte : ℕ) (form : Form) → form_of byte ≡ Some form → form_byte form ≡ byte
form_byte-of byte form h =
    byte-chosen form_byte (nat_eq byte 0) byte 0 forms.Success form _ refl refl h (λ h2.
    byte-chosen form_byte (nat_eq byte 1) byte 1 forms.Piece form _ refl refl h2 (λ h3.
    byte-chosen form_byte (nat_eq byte 2) byte 2 forms.Objects form _ refl refl h3 (λ h4.
    byte-chosen form_byte (nat_eq byte 3) byte 3 forms.Row form _ refl refl h4 (λ h5.
    byte-chosen form_byte (nat_eq byte 4) byte 4 forms.NoRow form _ refl refl h5 (λ h6.
    byte-chosen form_byte (nat_eq byte 5) byte 5 forms.Refused form None refl refl h6 (λ h7. absurd (cc h7)))))))

no-row : (row : RowHead) → has_no_row row ≡ true → no_row ≡ row
no-row row h =
    let a = and_parts _ _ h in
    let b = and_parts _ _ a.0 in
    let c = and_parts _ _ b.0 in
    let index : 0 ≡ row.index = sym (eqb-true _ _ c.0) in
    ap (λ (i : ℕ). row_made i 0 0 0) index
    ∙ same_row row.index 0 row.from 0 row.to 0 row.size (sym (eqb-true _ _ c.1)) (sym (eqb-true _ _ b.1)) (sym (eqb-true _ _ a.1))

end-tested : (zero_end : Bool) (to : ℕ) → nat_eq to 0 ≡ zero_end → to < 2 ^ 32
    → (to_number (cond zero_end None (Some (record { 0 = to }))) ≡ to) × IsEnd (cond zero_end None (Some (record { 0 = to })))
end-tested true to h fits = (sym (eqb-true to 0 h), tt)
end-tested false to h fits = (refl, (grind (arith, nat_tests, h), fits))

end-is : (to : ℕ) → to < 2 ^ 32 → (to_number (to_epoch to) ≡ to) × IsEnd (to_epoch to)
end-is to fits = end-tested (nat_eq to 0) to refl fits

end-again : (to : Option Epoch) → IsEnd to → to_epoch (to_number to) ≡ to
end-again None is = refl
end-again (Some to) is =
    let some : nat_eq to.0 0 ≡ false = grind (arith, nat_tests, is.0) in
    ap (λ (b : Bool). cond b None (Some to)) some

end-below : (to : Option Epoch) → IsEnd to → to_number to < 2 ^ 32
end-below None is = omega arith
end-below (Some to) is = is.1

refusal-tested : (a b c d : Bool) (result : ℕ) (own : Epoch) → nat_eq result 0x81 ≡ a → nat_eq result 0x82 ≡ b → nat_eq result 0x83 ≡ c → nat_eq result 0x02 ≡ d
    → (a || b || c || d) ≡ true
    → let refusal : Refusal = cond a (OldEpoch own) (cond b (NewEpoch own) (cond c Recovery NoObj)) in
    (refusal_result refusal ≡ result) × IsRefusal own refusal
refusal-tested true b c d result own ea eb ec ed h = (sym (eqb-true result 0x81 ea), refl)
refusal-tested false true c d result own ea eb ec ed h = (sym (eqb-true result 0x82 eb), refl)
refusal-tested false false true d result own ea eb ec ed h = (sym (eqb-true result 0x83 ec), tt)
refusal-tested false false false true result own ea eb ec ed h = (sym (eqb-true result 0x02 ed), tt)
refusal-tested false false false false result own ea eb ec ed h = absurd cc

refusal-is : (result : ℕ) (own : Epoch) → is_refusal_result result ≡ true → (refusal_result (refusal_of result own) ≡ result) × IsRefusal own (refusal_of result own)
refusal-is result own h = refusal-tested (nat_eq result 0x81) (nat_eq result 0x82) (nat_eq result 0x83) (nat_eq result 0x02) result own refl refl refl refl h

refusal-again : (refusal : Refusal) (epoch : Epoch) → IsRefusal epoch refusal → refusal_of (refusal_result refusal) epoch ≡ refusal
refusal-again (OldEpoch own) epoch is = ap (λ (e : Epoch). OldEpoch e) (sym is)
refusal-again (NewEpoch own) epoch is = ap (λ (e : Epoch). NewEpoch e) (sym is)
refusal-again Recovery epoch is = refl
refusal-again NoObj epoch is = refl

-- ---- a header that fits is that of the reply

same_as : (head : SayHead) (form : Form) (text : List ℕ) (result : ℕ) (row : RowHead) → form_byte form ≡ head.form → SayRange head → SayFacts head text
    → nat_eq head.common.opcode (opcode_byte (form_opcode form)) ≡ true → result ≡ head.result → row ≡ head.row
    → made (record { opcode = opcode_byte (form_opcode form); flags = 0; epoch = head.common.epoch; id = head.common.id; data_length = length text % 2 ^ 32 }) result (form_byte form) row 0 0 0 ≡ head
same_as head form text result row is range facts op same_result rows =
    let low : length text % 2 ^ 32 ≡ head.common.data_length = omega (arith, facts.common.counted, range.common.data_length) in
    let flags : 0 ≡ head.common.flags = sym facts.common.flags in
    let opcode : opcode_byte (form_opcode form) ≡ head.common.opcode = sym (eqb-true _ _ op) in
    let common : record { opcode = opcode_byte (form_opcode form); flags = 0; epoch = head.common.epoch; id = head.common.id; data_length = length text % 2 ^ 32 } ≡ head.common
    = same_common (opcode_byte (form_opcode form)) head.common.opcode 0 head.common.flags (length text % 2 ^ 32) head.common.data_length head.common.epoch head.common.id opcode flags low in
    same_head _ head.common result head.result (form_byte form) head.form row head.row 0 head.zeros_22 0 head.zeros_36 0 head.zeros_40
    common same_result is rows (sym facts.zeros_22) (sym facts.zeros_36) (sym facts.zeros_40)

-- what a header that fits, of this form, answers
spelled : (form : Form) (head : SayHead) (body : List ℕ) → AreBytes body → form_byte form ≡ head.form → SayRange head → SayFacts head body
    → nat_eq head.common.opcode (opcode_byte (form_opcode form)) ≡ true → has_form form head body ≡ true
    → (say_head (peer_reply_of form head body) ≡ head) × (say_body (peer_say_of form head body) ≡ body) × IsPeerSay (record { 0 = head.common.epoch }) (peer_say_of form head body)
spelled forms.Success head body bytes is range facts op h =
    let a = and_parts (nat_eq head.result 0 && has_no_row head.row) (nat_eq (length body) 0) h in
    let b = and_parts (nat_eq head.result 0) (has_no_row head.row) a.0 in
    let nothing : [] ≡ body = none body a.1 in
    (same_as head forms.Success [] 0 no_row is range (subst (SayFacts head) (sym nothing) facts) op (sym (eqb-true _ _ b.0)) (no-row head.row b.1), nothing, tt)
spelled forms.Piece head body bytes is range facts op h =
    let b = and_parts (nat_eq head.result 0) (has_no_row head.row) h in (
      same_as head forms.Piece body 0 no_row is range facts op (sym (eqb-true _ _ b.0)) (no-row head.row b.1),
      refl,
      omega (arith, facts.common.counted, range.common.data_length),
    )
spelled forms.Objects head body bytes is range facts op h =
    let a = and_parts (nat_eq head.result 0 && has_no_row head.row) (are_id_bytes body) h in
    let b = and_parts (nat_eq head.result 0) (has_no_row head.row) a.0 in
    let back : id_bytes (ids_in body) ≡ body = ids-back body bytes a.1 in (
      same_as head forms.Objects (id_bytes (ids_in body)) 0 no_row is range (subst (SayFacts head) (sym back) facts) op (sym (eqb-true _ _ b.0)) (no-row head.row b.1),
      back,
      (ids-are body bytes a.1, ids_ascend body a.1, omega (arith, ap length back, facts.common.counted, range.common.data_length)),
    )
spelled forms.Row head body bytes is range facts op h =
    let a = and_parts (nat_eq head.result 0) (fits_row_head head.row body) h in
    let b = and_parts (nat_le head.row.index 30 && not (nat_eq head.row.from 0) && nat_le (length body) head.row.size) (not (ends_in_zero body)) a.1 in
    let c = and_parts (nat_le head.row.index 30 && not (nat_eq head.row.from 0)) (nat_le (length body) head.row.size) b.0 in
    let d = and_parts (nat_le head.row.index 30) (not (nat_eq head.row.from 0)) c.0 in
    let end = end-is head.row.to range.to in
    let row : row_made head.row.index head.row.from (to_number (to_epoch head.row.to)) head.row.size ≡ head.row
    = ap (λ (to : ℕ). row_made head.row.index head.row.from to head.row.size) end.0 in
    let some : 1 ≤ head.row.from = grind (arith, nat_tests, d.1) in (
      same_as head forms.Row body 0 (row_made head.row.index head.row.from (to_number (to_epoch head.row.to)) head.row.size) is range facts op (sym (eqb-true _ _ a.0)) row,
      refl,
      record {
        index = leb-true _ _ d.0;
        from = (some, range.from);
        to = end.1;
        size = range.size;
        within = leb-true _ _ c.1;
        trimmed = not-true _ b.1;
      },
    )
spelled forms.NoRow head body bytes is range facts op h =
    let a = and_parts (nat_eq head.result 0 && has_no_row head.row) (nat_eq (length body) 0) h in
    let b = and_parts (nat_eq head.result 0) (has_no_row head.row) a.0 in
    let nothing : [] ≡ body = none body a.1 in
    (same_as head forms.NoRow [] 0 no_row is range (subst (SayFacts head) (sym nothing) facts) op (sym (eqb-true _ _ b.0)) (no-row head.row b.1), nothing, tt)
spelled forms.Refused head body bytes is range facts op h =
    let a = and_parts (is_refusal_result head.result && has_no_row head.row) (nat_eq (length body) 0) h in
    let b = and_parts (is_refusal_result head.result) (has_no_row head.row) a.0 in
    let nothing : [] ≡ body = none body a.1 in
    let refusal = refusal-is head.result (record { 0 = head.common.epoch }) b.0 in (
      same_as head forms.Refused [] (refusal_result (refusal_of head.result (record { 0 = head.common.epoch }))) no_row is range (subst (SayFacts head) (sym nothing) facts) op refusal.0 (no-row head.row b.1),
      nothing,
      refusal.1,
    )

-- what is read is spelled so
say-found : (bytes : List ℕ) (rsp : PeerRsp) (form : Option Form) → AreBytes bytes → form_of (u8_at 21 bytes) ≡ form
    → 48 ≤ length bytes → u8_at 0 bytes ≡ 1 → reply_in form (say_head_at bytes) (drop 48 bytes) ≡ Ok rsp → IsPeerRsp rsp × (bytes ≡ say_bytes rsp)
say-found bytes rsp None fits found long version h = absurd cc
say-found bytes rsp (Some form) fits found long version h =
    let head : SayHead = say_head_at bytes in
    let body : List ℕ = drop 48 bytes in
    let w = when-ok (fits_say form head body) (peer_reply_of form head body) rsp h in
    let range = say-range bytes fits in
    let a = and_parts (nat_eq head.common.opcode (opcode_byte (form_opcode form)) && is_say_head head body) (has_form form head body) w.0 in
    let b = and_parts (nat_eq head.common.opcode (opcode_byte (form_opcode form))) (is_say_head head body) a.0 in
    let facts = say-facts head body b.1 in
    let s = spelled form head body (drop-bytes 48 bytes fits) (form_byte-of (u8_at 21 bytes) form found) range facts b.0 a.1 in
    let whole : bytes ≡ say_head_bytes head ++ body = (say-head-stands bytes fits long version).parts in
    let text : say_bytes (peer_reply_of form head body) ≡ bytes
    = ap (λ (k : SayHead). say_head_bytes k ++ say_body (peer_say_of form head body)) s.0 ∙ ap (λ (rest : List ℕ). say_head_bytes head ++ rest) s.1 ∙ sym whole in
    let is : IsPeerRsp (peer_reply_of form head body)
    = record { number = range.common.id; epoch = (facts.common.epoch, range.common.epoch); say = s.2 } in
    subst (λ (r : PeerRsp). IsPeerRsp r × (bytes ≡ say_bytes r)) w.1 (is, sym text)

pub say-read : (bytes : List ℕ) (rsp : PeerRsp) → AreBytes bytes → say_in bytes ≡ Ok rsp → IsPeerRsp rsp × (bytes ≡ say_bytes rsp)
say-read bytes rsp fits h =
    let b = bind-ok (opcode_in bytes) (λ (opcode : Opcode). reply_in (form_of (u8_at 21 bytes)) (say_head_at bytes) (drop 48 bytes)) rsp h in
    let start = header-in bytes b.0 b.1 in
    say-found bytes rsp (form_of (u8_at 21 bytes)) fits refl start.long start.version b.2

pub say-is_found : (bytes : List ℕ) (r : Result PeerRsp PeerFault) → AreBytes bytes → AnswersBytes (say_in bytes) r
    → IfOk r (λ rsp. IsPeerRsp rsp × (bytes ≡ say_bytes rsp))
say-is_found bytes (Ok rsp) fits h = say-read bytes rsp fits (answered (say_in bytes) rsp h)
say-is_found bytes (Err fault) fits h = tt

-- ---- a reply that has a spelling is read from it

abbrev reply : ℕ → Epoch → PeerSay → PeerRsp
reply number epoch say = record { number = number; epoch = epoch; say = say }

short-of : (epoch : Epoch) (say : PeerSay) → IsPeerSay epoch say → length (say_body say) < 2 ^ 32
short-of epoch (says.Piece bytes) is = is
short-of epoch (says.Objects oids) is = is.2
short-of epoch (says.Row row) is = omega (arith, is.within, is.size)
short-of epoch say is = omega arith

facts-of : (number : ℕ) (epoch : Epoch) (say : PeerSay) → IsPeerRsp (reply number epoch say) → SayFacts (say_head (reply number epoch say)) (say_body say)
facts-of number epoch say is = record {
  common = record { flags = refl; epoch = is.epoch.0; counted = omega (arith, short-of epoch say is.say) };
  zeros_22 = refl;
  zeros_36 = refl;
  zeros_40 = refl;
}

form-fits : (number : ℕ) (epoch : Epoch) (say : PeerSay) → IsPeerRsp (reply number epoch say)
    → has_form (say_form say) (say_head (reply number epoch say)) (say_body say) ≡ true
form-fits number epoch (says.Objects oids) is = ids-pass oids is.say.0 is.say.1
form-fits number epoch (says.Row row) is =
    let some : not (nat_eq row.from.0 0) ≡ true = grind (arith, nat_tests, is.say.from.0) in
    let index : nat_le row.index 30 ≡ true = le-leb row.index 30 is.say.index in
    let within : nat_le (length row.bytes) row.length ≡ true = le-leb (length row.bytes) row.length is.say.within in
    let trimmed : not (ends_in_zero row.bytes) ≡ true = ap not is.say.trimmed in
    and_from _ _ (and_from _ _ (and_from _ _ index some) within) trimmed
form-fits number epoch (says.Refused (OldEpoch own)) is = refl
form-fits number epoch (says.Refused refusal) is = refl
form-fits number epoch say is = refl

same_byte : (form : Form) → nat_eq (opcode_byte (form_opcode form)) (opcode_byte (form_opcode form)) ≡ true
same_byte forms.Success = refl
same_byte form = refl

fits-of : (number : ℕ) (epoch : Epoch) (say : PeerSay) → IsPeerRsp (reply number epoch say)
    → fits_say (say_form say) (say_head (reply number epoch say)) (say_body say) ≡ true
fits-of number epoch say is =
    let head : SayHead = say_head (reply number epoch say) in
    and_from (nat_eq head.common.opcode (opcode_byte (form_opcode (say_form say))) && is_say_head head (say_body say)) (has_form (say_form say) head (say_body say))
    (and_from (nat_eq head.common.opcode (opcode_byte (form_opcode (say_form say)))) (is_say_head head (say_body say))
    (same_byte (say_form say)) (say-passes head (say_body say) (facts-of number epoch say is)))
    (form-fits number epoch say is)

result-below : (say : PeerSay) → say_result say < 2 ^ 32
result-below (says.Refused (OldEpoch own)) = omega arith
result-below (says.Refused refusal) = omega arith
result-below say = omega arith

-- the numbers of a row
record RowRange (row : RowHead) : Type 0 where
  from : row.from < 2 ^ 32
  to : row.to < 2 ^ 32
  size : row.size < 2 ^ 32

row-range : (epoch : Epoch) (say : PeerSay) → IsPeerSay epoch say → RowRange (say_row say)
row-range epoch (says.Row row) is = record { from = is.from.1; to = end-below row.to is.to; size = is.size }
row-range epoch say is = record { from = omega arith; to = omega arith; size = omega arith }

range-of : (number : ℕ) (epoch : Epoch) (say : PeerSay) → IsPeerRsp (reply number epoch say) → SayRange (say_head (reply number epoch say))
range-of number epoch say is =
    let row = row-range epoch say is.say in
    record {
      common = record { opcode = byte-below (form_opcode (say_form say)); flags = omega arith; epoch = is.epoch.1; id = is.number; data_length = omega arith };
      result_fits = result-below say;
      from = row.from;
      to = row.to;
      size = row.size;
      zeros_22 = omega arith;
      zeros_36 = omega arith;
      zeros_40 = omega arith;
    }

say-of : (number : ℕ) (epoch : Epoch) (say : PeerSay) → IsPeerSay epoch say → peer_say_of (say_form say) (say_head (reply number epoch say)) (say_body say) ≡ say
say-of number epoch (says.Objects oids) is = ap (λ (ids : List ℕ). says.Objects ids) (ids-again oids is.0)
say-of number epoch (says.Row row) is =
    ap (λ (to : Option Epoch). says.Row (record { index = row.index; from = row.from; to = to; length = row.length; bytes = row.bytes })) (end-again row.to is.to)
say-of number epoch (says.Refused refusal) is = ap (λ (r : Refusal). says.Refused r) (refusal-again refusal epoch is)
say-of number epoch say is = refl

reply-again : (number : ℕ) (epoch : Epoch) (say : PeerSay) → IsPeerRsp (reply number epoch say)
    → say_in (say_bytes (reply number epoch say)) ≡ Ok (reply number epoch say)
reply-again number epoch say is =
    let rsp : PeerRsp = reply number epoch say in
    let form : Form = say_form say in
    let head : SayHead = say_head rsp in
    let body : List ℕ = say_body say in
    let long : 48 ≤ length (say_head_bytes head ++ body) = omega (arith, length-append (say_head_bytes head) body) in
    let start : opcode_in (say_bytes rsp) ≡ Ok (form_opcode form)
    = opcode-in (say_bytes rsp) (form_opcode form) (record { long = long; version = refl; opcode_is = refl }) in
    let read : say_head_at (say_bytes rsp) ≡ head = say-head-read head body (range-of number epoch say is) in
    let found : form_of (u8_at 21 (say_bytes rsp)) ≡ Some form = form_of-byte form in
    let fits : reply_in (Some form) head body ≡ Ok (peer_reply_of form head body)
    = ap (λ (t : Bool). when t (peer_reply_of form head body)) (fits-of number epoch say is) in
    ap (λ (r : Result Opcode PeerFault). r >>= λ opcode. reply_in (form_of (u8_at 21 (say_bytes rsp))) (say_head_at (say_bytes rsp)) (drop 48 (say_bytes rsp))) start
    ∙ ap (λ (f : Option Form). reply_in f (say_head_at (say_bytes rsp)) (drop 48 (say_bytes rsp))) found
    ∙ ap (λ (h : SayHead). reply_in (Some form) h (drop 48 (say_bytes rsp))) read
    ∙ fits ∙ ap (λ (s : PeerSay). Ok (reply number epoch s)) (say-of number epoch say is.say)

pub say-again : (rsp : PeerRsp) → IsPeerRsp rsp → say_in (say_bytes rsp) ≡ Ok rsp
say-again rsp is = reply-again rsp.number rsp.epoch rsp.say is

pub say-is_only : (bytes : List ℕ) (r : Result PeerRsp PeerFault) (rsp : PeerRsp) → AnswersBytes (say_in bytes) r → IsPeerRsp rsp → bytes ≡ say_bytes rsp
    → AnswersBytes (Ok rsp) r
say-is_only bytes r rsp h is text = subst (λ (read : Result PeerRsp PeerFault). AnswersBytes read r) (ap say_in text ∙ say-again rsp is) h

pub say-differ : (a b : PeerRsp) → IsPeerRsp a → IsPeerRsp b → say_bytes a ≡ say_bytes b → a ≡ b
say-differ a b is_a is_b same = same_reading (say_in (say_bytes a)) a b (say-again a is_a) (ap say_in same ∙ say-again b is_b)
