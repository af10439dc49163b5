-- What a node has gathered from the other members of its epoch, and what one more answer makes of it.
use Rattle.std.specs.Prelude.{ℕ, ◌==◌, Bool, not, List, [], filter, fold}
use Rattle.std.specs.List.{list_any}
use Rattle.object_id.specs.declared.node.NodeId.{NodeId}
use Rattle.object_list.specs.Union.{union}

pub record GatheredLists : Type 0 where
  -- the other members that haven't answered, in the order of the members
  pub waiting : List NodeId
  -- the ids of all lists so far, ascending and each once
  pub objects : List ℕ

abbrev pub is_same_node : NodeId → NodeId → Bool
is_same_node node other = other.0 == node.0

abbrev pub has_node : NodeId → List NodeId → Bool
has_node node nodes = list_any (is_same_node node) nodes

abbrev pub nodes_without : NodeId → List NodeId → List NodeId
nodes_without node nodes = filter (λ other. not (is_same_node node other)) nodes

-- before the first answer: every other member is waited for
abbrev pub gathered_of_none : NodeId → List NodeId → GatheredLists
gathered_of_none me members = record { waiting = nodes_without me members; objects = [] }

-- a node answers with its list: it is waited for no more, and its ids are among the objects
abbrev pub gathered_with_answer : NodeId → List ℕ → GatheredLists → GatheredLists
gathered_with_answer from list old = record { waiting = nodes_without from old.waiting; objects = union old.objects list }

-- an answer: the node that gave it, and its list
pub record ListAnswer : Type 0 where
  pub from : NodeId
  pub list : List ℕ

-- what was gathered after these answers
abbrev pub gathered_after : NodeId → List NodeId → List ListAnswer → GatheredLists
gathered_after me members answers =
    fold (λ gathered (answer : ListAnswer). gathered_with_answer answer.from answer.list gathered) (gathered_of_none me members) answers

-- whether one of the answers is the node's
abbrev pub has_answered : NodeId → List ListAnswer → Bool
has_answered node answers = list_any (λ (answer : ListAnswer). is_same_node answer.from node) answers
