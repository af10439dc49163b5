-- What is written is bytes: the payload of a script's write, and the value that a check writes of an object in strips, which is read
-- through strips.
use Rattle.std.proofs.Common.{◌≡◌, arith, ℕ, zero, suc, ◌*◌, ◌/◌, ◌%◌, ◌<◌, Bool, true, false, cond, List, [], ◌∷◌, ◌++◌, drop, length}
use Rattle.std.proofs.Common.{map, take, Option, Some, None, option_map, subst}
use Rattle.std.specs.FinMap as tree
use Rattle.std.specs.List.{range_with_len}
use Rattle.std.specs.Option.{option_and_then}
use Rattle.std.proofs.lemmas.Option.{same_Some}
use Rattle.object_id.specs.declared.limits.TheConstants.{BLOCK_BYTES}
use Rattle.object_id.specs.declared.oid.Kind.TheVariants.{Block}
use Rattle.object_id.specs.declared.policy.Policy.{Policy}
use Rattle.object_id.specs.declared.policy.Policy.TheVariants.{Copies, Coded}
use Rattle.object_id.specs.Fields.{AreBytes}
use Rattle.object_id.specs.Policy.{need_of}
use Rattle.gf256.specs.Part.{blocks_through, bytes_of_parts, first_part, is_in_strips}
use Rattle.gf256.specs.Strip.{block_through, lagrange, row, strip_bytes}
use Rattle.gf256.proofs.Interpolation.{lagrange_byte}
use Rattle.cluster_script.specs.declared.statement.Pattern.{Pattern}
use Rattle.cluster_script.specs.declared.statement.Pattern.TheVariants as patterns
use Rattle.cluster_script.specs.Language.{IsByte}
use Rattle.cluster_script.specs.NumberedRequests.{byte_of, payload_of}
use Rattle.disk_check.specs.Check.{Check, CheckStage, Comparing, WritingBack, Answered, value_at_stage}
use Rattle.disk_check.specs.Value.{pieces_in, value_of}
use Rattle.gateway.specs.Outcomes.{work_done_in}
use Rattle.gateway.specs.State as gateways
use Rattle.gateway.specs.Step as gateway_steps
use Rattle.message_wire.specs.declared.name.MessageName.{MessageName}
use Rattle.object_id.specs.declared.node.NodeId.{NodeId}
use Rattle.peer_proto.specs.declared.say.PeerRsp.{PeerRsp}
use Rattle.peer_proto.specs.declared.work.WorkDone.{WorkDone}
use Rattle.sheep_node.specs.declared.check_write.CheckWrite.{CheckWrite}
use Rattle.sheep_node.specs.declared.course.Course.{Course}
use Rattle.sheep_node.specs.declared.course.Course.TheVariants.{Waiting, Driving, Commanding, Checking, DoingWork, AwaitingDecision}
use Rattle.sheep_node.specs.declared.course.Request.{Request}
use Rattle.sheep_node.specs.declared.input.Input.TheVariants as inputs
use Rattle.sheep_node.specs.CheckWrites.{check_write_on, write_after_work, write_of_course, write_of_value}
use Rattle.sheep_node.specs.State.{Node}
use Rattle.sheep_world.specs.HistoryAdditions.{block_in}
use Rattle.sheep_world.specs.NodeCauses.{ReplyComes}
use Rattle.sheep_world.specs.World.{World, node_at}
use Rattle.overlap_law.specs.HistoryGrowth.{check_write_at}

-- ---- parts of bytes

no_bytes : AreBytes []
no_bytes zero = omega arith
no_bytes (suc k) = omega arith

take_bytes : (n : ℕ) (xs : List ℕ) → AreBytes xs → AreBytes (take n xs)
take_bytes zero xs all k = no_bytes k
take_bytes (suc n) [] all k = no_bytes k
take_bytes (suc n) (x ∷ xs) all zero = all zero
take_bytes (suc n) (x ∷ xs) all (suc k) = take_bytes n xs (λ i. all (suc i)) k

drop_bytes : (n : ℕ) (xs : List ℕ) → AreBytes xs → AreBytes (drop n xs)
drop_bytes zero xs all = all
drop_bytes (suc n) [] all = all
drop_bytes (suc n) (x ∷ xs) all = drop_bytes n xs (λ i. all (suc i))

map_bytes : (f : ℕ → ℕ) → ((place : ℕ) → f place < 256) → (places : List ℕ) → AreBytes (map f places)
map_bytes f small [] k = no_bytes k
map_bytes f small (place ∷ places) zero = small place
map_bytes f small (place ∷ places) (suc k) = map_bytes f small places k

append_bytes : (xs ys : List ℕ) → AreBytes xs → AreBytes ys → AreBytes (xs ++ ys)
append_bytes [] ys first rest k = rest k
append_bytes (x ∷ xs) ys first rest zero = first zero
append_bytes (x ∷ xs) ys first rest (suc k) = append_bytes xs ys (λ i. first (suc i)) rest k

pub block_bytes : (bytes : List ℕ) (place : ℕ) → AreBytes bytes → AreBytes (block_in bytes place)
block_bytes bytes place all =
    take_bytes BLOCK_BYTES (drop (place * BLOCK_BYTES) bytes) (drop_bytes (place * BLOCK_BYTES) bytes all)

-- ---- what a script's write has

byte_small : (pattern : Pattern) → IsByte pattern → (block : ℕ) → byte_of pattern block < 256
byte_small (patterns.Fill byte) is block = is
byte_small (patterns.Step byte) is block = omega arith

pub payload_bytes : (pattern : Pattern) (count : ℕ) → IsByte pattern → AreBytes (payload_of pattern count)
payload_bytes pattern count is =
    map_bytes (λ place. byte_of pattern (place / BLOCK_BYTES)) (λ place. byte_small pattern is (place / BLOCK_BYTES))
    (range_with_len 0 count)

-- ---- what a check writes of strips

through_bytes : (d : ℕ) (points : List ℕ) (strips : List (List ℕ)) → AreBytes (block_through d points strips)
unfolding block_through
through_bytes d points strips =
    map_bytes (λ place. lagrange points (row (place % strip_bytes d) strips) (place / strip_bytes d))
    (λ place. lagrange_byte points (row (place % strip_bytes d) strips) (place / strip_bytes d)) (range_with_len 0 BLOCK_BYTES)

blocks_bytes : (d : ℕ) (points : List ℕ) (blocks : ℕ) (parts : List (List ℕ)) → AreBytes (blocks_through d points blocks parts)
unfolding blocks_through
blocks_bytes d points zero parts = no_bytes
blocks_bytes d points (suc blocks) parts =
    append_bytes (block_through d points (map (take (strip_bytes d)) parts))
    (blocks_through d points blocks (map (drop (strip_bytes d)) parts))
    (through_bytes d points (map (take (strip_bytes d)) parts)) (blocks_bytes d points blocks (map (drop (strip_bytes d)) parts))

value_bytes : (policy : Policy) (pieces : List (List ℕ)) → is_in_strips policy Block ≡ true → AreBytes (value_of policy pieces)
unfolding bytes_of_parts
value_bytes (Copies copies) pieces is = absurd (cc (is))
value_bytes (Coded d p) pieces is =
    blocks_bytes d (range_with_len 0 (need_of (Coded d p) Block))
    (length (first_part (take (need_of (Coded d p) Block) pieces)) / strip_bytes d) (take (need_of (Coded d p) Block) pieces)

-- the value that a check comes to write is, if it is of strips
abbrev pub HasValue : CheckWrite → Type 0
HasValue write = is_in_strips write.spec.policy Block ≡ true → AreBytes write.value

then_all : {X Y : Type 0} (P : Y → Type 0) (f : X → Option Y) → ((x : X) (y : Y) → f x ≡ Some y → P y) → (o : Option X) (y : Y)
    → option_and_then f o ≡ Some y → P y
then_all P f each None y is = absurd (cc (is))
then_all P f each (Some x) y is = each x y is

stage_value : (req : ℕ) (bytes : List ℕ) (check : Check) (stage : CheckStage) (write : CheckWrite)
    → option_map (write_of_value req check) (value_at_stage bytes check.spec stage) ≡ Some write → HasValue write
stage_value req bytes check (Comparing index later) write is =
    subst HasValue
    (same_Some (write_of_value req check (index, value_of check.spec.policy (pieces_in check.spec bytes))) write is)
    (λ strips. value_bytes check.spec.policy (pieces_in check.spec bytes) strips)
stage_value req bytes check (WritingBack later) write is = absurd (cc (is))
stage_value req bytes check Answered write is = absurd (cc (is))

course_value : (req : ℕ) (bytes : List ℕ) (course : Course) (write : CheckWrite) → write_of_course req bytes course ≡ Some write
    → HasValue write
course_value req bytes (Waiting ask) write is = absurd (cc (is))
course_value req bytes (Driving driver) write is = absurd (cc (is))
course_value req bytes (Commanding op) write is = absurd (cc (is))
course_value req bytes (Checking check) write is = stage_value req bytes check check.stage write is
course_value req bytes (DoingWork work) write is = absurd (cc (is))
course_value req bytes (AwaitingDecision entry) write is = absurd (cc (is))

work_value : (node : Node) (done : WorkDone) (write : CheckWrite) → write_after_work node done ≡ Some write → HasValue write
work_value node done write is =
    then_all HasValue (λ (request : Request). write_of_course done.req done.bytes request.course)
    (λ request one so. course_value done.req done.bytes request.course one so) (tree.get node.requests done.req) write is

reply_value : (rsp : PeerRsp) (node : Node) (write : CheckWrite) → check_write_on (inputs.Reply rsp) node ≡ Some write → HasValue write
unfolding check_write_on
reply_value rsp node write is = by_test (gateways.fits_gateway rsp node.gateway) is
  where
    by_test : (b : Bool)
        → cond b (option_and_then (write_after_work node) (work_done_in (gateway_steps.gateway_on_reply node.gateway rsp).act)) None
        ≡ Some write
        → HasValue write
    by_test true so =
        then_all HasValue (write_after_work node) (work_value node) (work_done_in (gateway_steps.gateway_on_reply node.gateway rsp).act)
        write so
    by_test false so = absurd (cc (so))

pub cause_value : (world : World) (name : MessageName) (from : NodeId) (rsp : PeerRsp) (write : CheckWrite)
    → check_write_at world (ReplyComes name from rsp) ≡ Some write → HasValue write
cause_value world name from rsp write is =
    then_all HasValue (check_write_on (inputs.Reply rsp)) (reply_value rsp) (node_at name.sender.0 world) write is
