-- By which number a node finds the requests that wait for an entry, and how it keeps them by it.
use Rattle.std.specs.Prelude.{◌≡◌, ℕ, ◌^◌, ◌<◌, ◌==◌, ◌&&◌, Bool, true, false, Option, Some, None, is_some}
use Rattle.std.specs.declared.cmp.Ordering.{Ordering}
use Rattle.std.specs.Option.{option_map_or}
use Rattle.std.specs.Ordering.{nat_cmp, ordering_then}
use Rattle.std.specs.BTreeSet.{BTreeSet, contains}
use Rattle.std.specs.FinMap as tree
use Rattle.object_id.specs.declared.entry.Entry.{Entry}
use Rattle.vdi_ops.specs.Subject.{subject_number, number_wanted}
use Rattle.sheep_node.specs.declared.course.Course.{Course}
use Rattle.sheep_node.specs.declared.course.Course.TheVariants.{Waiting, Driving, Commanding, Checking, DoingWork, AwaitingDecision}
use Rattle.sheep_node.specs.declared.course.Request.{Request}
use Rattle.sheep_node.specs.AwaitedEntry.{waits_for_entry}

-- the number that the entry is about which a request waits for
abbrev pub awaited_number : Course → Option ℕ
awaited_number (Waiting ask) = None
awaited_number (Driving driver) = None
awaited_number (Commanding op) = number_wanted op
awaited_number (Checking check) = None
awaited_number (DoingWork work) = None
awaited_number (AwaitingDecision entry) = Some (subject_number entry)

-- whether the awaited number is this one
abbrev pub is_number : ℕ → Option ℕ → Bool
is_number number awaited = option_map_or (λ (own : ℕ). own == number) awaited false

-- whether the request that stands somewhere waits for an entry that is about a number
abbrev pub waits_about : ℕ → Option Request → Bool
waits_about number there = option_map_or (λ (request : Request). is_number number (awaited_number request.course)) there false

-- whether it waits for exactly this entry
abbrev pub waits_there : Entry → Option Request → Bool
waits_there entry there = option_map_or (λ (request : Request). waits_for_entry entry request.course) there false

-- a mark is an awaited number with the request; they are in order by the number, then by the request
abbrev pub mark_cmp : ℕ × ℕ → ℕ × ℕ → Ordering
mark_cmp (number, req) (other, by) = ordering_then (nat_cmp number other) (nat_cmp req by)

-- whether a request that waits for this number has the mark of that number and that request
abbrev pub is_mark : Option ℕ → ℕ → ℕ → ℕ → Bool
is_mark None req number other = false
is_mark (Some awaited) req number other = awaited == number && req == other

-- a request has the mark of the number that it waits for, and no other; the requests' numbers are of 32 bits
pub record AreRequestMarks (marks : BTreeSet (ℕ × ℕ)) (requests : tree.FinMap nat_cmp Request) : Type 0 where
  pub each : (number req : ℕ) → contains mark_cmp marks (number, req) ≡ waits_about number (tree.get requests req)
  pub fits : (req : ℕ) → is_some (tree.get requests req) ≡ true → req < 2 ^ 32
