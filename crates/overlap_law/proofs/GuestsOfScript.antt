-- What a request of a script asks is as a guest may ask it.
use Rattle.std.proofs.Common.{◌≡◌, ◌≢◌, arith, ℕ, zero, suc, ◌≤◌, ◌%◌, ◌/◌, Bool, true, false, not, ◌&&◌, List, [], ◌∷◌, ◌++◌, length}
use Rattle.std.proofs.Common.{Option, Some, None, sym, ap, subst}
use Rattle.std.specs.Prelude.{All}
use Rattle.std.proofs.lemmas.Bool.{eq-eqb, ne_eqb}
use Rattle.std.proofs.lemmas.List.FromFn.{length-map-range_with_len}
use Rattle.std.proofs.lemmas.List.Elements.{All-nil, All-cons, All-filter, All-from_get_or, All-get_or}
use Rattle.object_id.specs.declared.limits.TheConstants.{BLOCK_BYTES}
use Rattle.object_id.specs.Span.{IsSpan}
use Rattle.object_id.specs.Spec.{IsName, IsTag}
use Rattle.cluster_script.specs.declared.statement.Statement.{Statement}
use Rattle.cluster_script.specs.declared.statement.Statement.TheVariants as lines
use Rattle.cluster_script.specs.Language.{IsPrintedName, IsPrintedTag, MayStand, EachMayStand, IsScript}
use Rattle.cluster_script.specs.NumberedRequests.{request_at, byte_of, payload_of}
use Rattle.cluster_script.specs.Statements.{is_request, requests_of}
use Rattle.peer_proto.specs.declared.guest.DiskAsk.{DiskAsk}
use Rattle.peer_proto.specs.declared.guest.DiskAsk.TheVariants as disk_asks
use Rattle.guest_driver.specs.Pieces.{offset_of, size_of, is_ask}
use Rattle.sheep_node.specs.declared.ask.Ask.{Ask}
use Rattle.sheep_node.specs.declared.ask.Ask.TheVariants as asks
use Rattle.sheep_node.specs.State.{Node}
use Rattle.sheep_node.specs.May.{IsGuestAsk}
use Rattle.sheep_node.specs.ValidDisks.{IsValidAsk}
use Rattle.sheep_node.proofs.ValidSteps.{given}
use Rattle.sheep_world.specs.Asking.{ask_of_statement}
use Rattle.sheep_world.proofs.ValidNodes.{got_is}

printed_name : (name : List ℕ) → IsPrintedName name → IsName name
printed_name name is = (
  is.some,
  is.short,
  All-from_get_or (λ byte. byte ≢ 0) name 1
      (λ place within zero_byte.
      let printed = All-get_or (λ byte. (33 ≤ byte) × (byte ≤ 126)) name place 1 within is.printed in
      let low = printed.0 in
      absurd (omega (arith, low, zero_byte))),
)

printed_tag : (tag : Option (List ℕ)) → IsPrintedTag tag → IsTag tag
printed_tag None is = tt
printed_tag (Some tag) is = printed_name tag is

-- a span of whole blocks is asked for by whole blocks, and by one at least
span_asked : (ask : DiskAsk) → IsSpan (offset_of ask) (size_of ask) → is_ask ask ≡ true
span_asked ask span =
    let least : BLOCK_BYTES ≤ size_of ask = span.least in
    let first = eq-eqb (offset_of ask % BLOCK_BYTES) 0 span.start in
    let whole = eq-eqb (size_of ask % BLOCK_BYTES) 0 span.whole in
    let some = ap not (ne_eqb (size_of ask) 0 (λ (none : size_of ask ≡ 0). omega (arith, least, none))) in
    λ i. first i && whole i && some i

module _ (node : Node) where
  asked_so : (before : List Statement) (line : Statement) (ask : Ask) → MayStand before line → ask_of_statement line ≡ Some ask
      → IsGuestAsk node ask
  asked_so before (lines.Create session policy shift name size) ask may is = given (IsGuestAsk node) is (printed_name name may.1, may.2)
  asked_so before (lines.OpenDisk session name tag) ask may is = given (IsGuestAsk node) is (printed_name name may.1, printed_tag tag may.2)
  asked_so before (lines.Close session) ask may is = given (IsGuestAsk node) is tt
  asked_so before (lines.Read session offset length) ask may is =
      given (IsGuestAsk node) is (span_asked (disk_asks.Read offset length) may.1)
  asked_so before (lines.Write session offset size pattern) ask may is =
      given (IsGuestAsk node) is
      (span_asked (disk_asks.Write offset (payload_of pattern size))
      (subst (λ (n : ℕ). IsSpan offset n) (sym (length-map-range_with_len (λ place. byte_of pattern (place / BLOCK_BYTES)) 0 size)) may.1))
  asked_so before (lines.Snapshot session tag) ask may is = given (IsGuestAsk node) is (printed_name tag may.1)
  asked_so before (lines.Clone session base tag name) ask may is =
      given (IsGuestAsk node) is (printed_name base may.1, printed_name tag may.2, printed_name name may.3)
  asked_so before (lines.Delete session name tag) ask may is = given (IsGuestAsk node) is (printed_name name may.1, printed_tag tag may.2)
  asked_so before (lines.Check session) ask may is = given (IsGuestAsk node) is tt
  asked_so before _ ask may is = absurd (cc (is))

  abbrev CanStand : Statement → Type 0
  CanStand s = (before : List Statement) × MayStand before s

  each_can_stand : (before rest : List Statement) → EachMayStand before rest → All CanStand rest
  each_can_stand before [] may = All-nil CanStand
  each_can_stand before (s ∷ rest) may = All-cons CanStand s rest (before, may.0) (each_can_stand (before ++ s ∷ []) rest may.1)

  pub guest_asks : (script : List Statement) → IsScript script → (req : ℕ) (line : Statement) (ask : Ask)
      → request_at script req ≡ Some line
      → ask_of_statement line ≡ Some ask → IsGuestAsk node ask
  guest_asks script is_script zero line ask at is = absurd (cc (at))
  guest_asks script is_script (suc place) line ask at is =
      let (before, may) = got_is CanStand (requests_of script) place line
      (All-filter is_request CanStand script (each_can_stand [] script is_script)) at in
      asked_so before line ask may is

-- no statement asks for a work on an object, nor for an entry
abbrev pub is_outside : Option Ask → Bool
is_outside None = false
is_outside (Some (asks.Disk ask)) = false
is_outside (Some (asks.Vdi ask)) = false
is_outside (Some (asks.Object work)) = true
is_outside (Some (asks.Entry entry)) = true

pub asked_inside : (line : Statement) (ask : Ask) → ask_of_statement line ≡ Some ask → is_outside (Some ask) ≡ false
asked_inside (lines.Create session policy shift name size) ask is = ap is_outside (sym is)
asked_inside (lines.OpenDisk session name tag) ask is = ap is_outside (sym is)
asked_inside (lines.Close session) ask is = ap is_outside (sym is)
asked_inside (lines.Read session offset length) ask is = ap is_outside (sym is)
asked_inside (lines.Write session offset size pattern) ask is = ap is_outside (sym is)
asked_inside (lines.Snapshot session tag) ask is = ap is_outside (sym is)
asked_inside (lines.Clone session base tag name) ask is = ap is_outside (sym is)
asked_inside (lines.Delete session name tag) ask is = ap is_outside (sym is)
asked_inside (lines.Check session) ask is = ap is_outside (sym is)
asked_inside line ask is = absurd (cc (is))

-- so what a guest may ask is valid
pub guest_valid : (node : Node) (line : Statement) (ask : Ask) → ask_of_statement line ≡ Some ask → IsGuestAsk node ask → IsValidAsk ask
guest_valid node line (asks.Disk ask) is may = tt
guest_valid node line (asks.Vdi ask) is may = may
guest_valid node line (asks.Object work) is may = let inside = asked_inside line (asks.Object work) is in absurd (cc (inside))
guest_valid node line (asks.Entry entry) is may = let inside = asked_inside line (asks.Entry entry) is in absurd (cc (inside))
