-- Which requests have an input; and a small log, worked out.
use Rattle.std.proofs.Common.{◌≡◌, ℕ, zero, suc, Bool, true, false, cond, List, [], ◌∷◌, filter, slice_get, Option, Some, None, is_some, option_and_then, refl, sym, ap, ◌∙◌}
use Rattle.std.proofs.lemmas.Option.{same_Some}
use Rattle.object_id.specs.declared.node.NodeId.{NodeId}
use Rattle.object_id.specs.declared.entry.Entry.{Entry}
use Rattle.object_id.specs.declared.entry.Entry.TheVariants as entries
use Rattle.cluster_script.specs.declared.statement.Statement.{Statement}
use Rattle.cluster_script.specs.declared.statement.Statement.TheVariants as lines
use Rattle.cluster_script.specs.Statements.{is_request}
use Rattle.cluster_script.specs.NumberedRequests.{session_of, request_at}
use Rattle.sheep_node.specs.declared.ask.Ask.{Ask}
use Rattle.sheep_node.specs.declared.input.Input.{Input}
use Rattle.sheep_node.specs.declared.input.Input.TheVariants as inputs
use Rattle.sheep_world.specs.Asking.{ask_of_statement, input_by, input_of, session_asking}
use Rattle.sheep_world.specs.MembershipChanges.{last_weight}
use Rattle.sheep_world.specs.Granted.{entry_adds}
use Rattle.sheep_world.specs.Incarnations.{incarnation_in}
use Rattle.sheep_world.specs.Example.{lived_log}

passes_if : {X : Type 0} (test : X → Bool) (y : X) (xs : List X) (k : ℕ) (x : X) (b : Bool) → test y ≡ b
    → ((k : ℕ) → slice_get (filter test xs) k ≡ Some x → test x ≡ true)
    → slice_get (cond b (y ∷ filter test xs) (filter test xs)) k ≡ Some x → test x ≡ true
passes_if test y xs zero x true passes rest is = ap test (sym (same_Some y x is)) ∙ passes
passes_if test y xs (suc k) x true passes rest is = rest k is
passes_if test y xs k x false passes rest is = rest k is

-- what stands in a filtered list passes the test
passes_at : {X : Type 0} (test : X → Bool) (xs : List X) (k : ℕ) (x : X) → slice_get (filter test xs) k ≡ Some x → test x ≡ true
passes_at test [] k x is = absurd (cc (is))
passes_at test (y ∷ xs) k x is = passes_if test y xs k x (test y) refl (λ k. passes_at test xs k x) is

pub request_is : (statements : List Statement) (req : ℕ) (s : Statement) → request_at statements req ≡ Some s → is_request s ≡ true
request_is statements zero s is = absurd (cc (is))
request_is statements (suc place) s is = passes_at is_request statements place s is

has_input : (req : ℕ) (s : Statement) → is_request s ≡ true → is_some (input_by req (session_of s) (ask_of_statement s)) ≡ true
has_input req (lines.Cluster nodes) is = absurd (cc (is))
has_input req (lines.Vnodes vnodes) is = absurd (cc (is))
has_input req (lines.Tries tries) is = absurd (cc (is))
has_input req (lines.Limit limit) is = absurd (cc (is))
has_input req (lines.Session session node) is = absurd (cc (is))
has_input req (lines.Create session policy shift name size) is = refl
has_input req (lines.OpenDisk session name tag) is = refl
has_input req (lines.Close session) is = refl
has_input req (lines.Read session offset length) is = refl
has_input req (lines.Write session offset length pattern) is = refl
has_input req (lines.Snapshot session tag) is = refl
has_input req (lines.Clone session base tag name) is = refl
has_input req (lines.Delete session name tag) is = refl
has_input req (lines.Check session) is = refl
has_input req s is = absurd (cc (is))

input_if : (statements : List Statement) (req : ℕ) (o : Option Statement) → request_at statements req ≡ o
    → is_some (option_and_then (λ s. input_by req (session_of s) (ask_of_statement s)) o) ≡ is_some o
input_if statements req None at = refl
input_if statements req (Some s) at = has_input req s (request_is statements req s at)

pub is_some-input_of : (statements : List Statement) (req : ℕ) → is_some (input_of statements req) ≡ is_some (request_at statements req)
is_some-input_of statements req = input_if statements req (request_at statements req) refl

number_in : Input → ℕ
number_in (inputs.Guest req session ask) = req
number_in input = 0

session_in : Input → ℕ
session_in (inputs.Guest req session ask) = session
session_in input = 0

parts_of : (req number session : ℕ) (ask : Ask) (asking : Option ℕ) (asked : Option Ask)
    → input_by req asking asked ≡ Some (inputs.Guest number session ask) → (number ≡ req) × (asking ≡ Some session)
unfolding number_in session_in
parts_of req number session ask None asked is = absurd (cc (is))
parts_of req number session ask (Some of) None is = absurd (cc (is))
parts_of req number session ask (Some of) (Some what) is =
    let same : inputs.Guest req of what ≡ inputs.Guest number session ask = same_Some (inputs.Guest req of what) (inputs.Guest number session ask) is in
    (sym (ap number_in same), ap (λ (input : Input). Some (session_in input)) same)

input_parts : (req number session : ℕ) (ask : Ask) (o : Option Statement)
    → option_and_then (λ s. input_by req (session_of s) (ask_of_statement s)) o ≡ Some (inputs.Guest number session ask)
    → (number ≡ req) × (option_and_then session_of o ≡ Some session)
input_parts req number session ask None is = absurd (cc (is))
input_parts req number session ask (Some s) is = parts_of req number session ask (session_of s) (ask_of_statement s) is

pub input_of-parts : (statements : List Statement) (req number session : ℕ) (ask : Ask)
    → input_of statements req ≡ Some (inputs.Guest number session ask) → (number ≡ req) × (session_asking statements req ≡ Some session)
input_of-parts statements req number session ask is = input_parts req number session ask (request_at statements req) is

pub first_incarnation : incarnation_in lived_log 1 1 ≡ 1
first_incarnation = refl

pub second_incarnation : incarnation_in lived_log 4 1 ≡ 2
second_incarnation = refl

pub weight_kept : last_weight lived_log 1 ≡ 32
weight_kept = refl

pub join_adds : (log : List Entry) (node : NodeId) (zone vnodes : ℕ) → entry_adds log (entries.Join node zone vnodes) ≡ []
unfolding entry_adds
join_adds log node zone vnodes = refl

pub leave_adds : (log : List Entry) (node : NodeId) → entry_adds log (entries.Leave node) ≡ []
unfolding entry_adds
leave_adds log node = refl

pub reweight_adds : (log : List Entry) (node : NodeId) (vnodes : ℕ) → entry_adds log (entries.Reweight node vnodes) ≡ []
unfolding entry_adds
reweight_adds log node vnodes = refl
