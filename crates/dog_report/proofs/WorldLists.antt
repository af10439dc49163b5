-- The lists of a world, by what its readers give of it.
use Rattle.std.proofs.Common.{◌≡◌, inl, inr, ℕ, ◌+◌, Bool, true, false, cond, List, [], ◌∷◌, ◌++◌, drop, map, filter, flat_map, Option, Some, None, slice_get, refl, sym, ap, ◌∙◌, append-nil}
use Rattle.std.specs.Prelude.{codes, decimal}
use Rattle.std.specs.Option.{option_map, option_map_or}
use Rattle.std.specs.Ordering.{nat_cmp}
use Rattle.std.specs.FinMap as tree
use Rattle.std.proofs.lemmas.Option.{none-some, same_Some}
use Rattle.proof_tools.proofs.FiniteMaps.{get-entry}
use Rattle.object_id.specs.declared.node.NodeId.{NodeId}
use Rattle.object_id.specs.declared.entry.Member.{Member}
use Rattle.hash_ring.proofs.InLaws.{In, contains_from_in}
use Rattle.sheep_node.specs.SpentNode.{NodeOrSpent}
use Rattle.sheep_world.specs.World.{Host, World, is_host_up}
use Rattle.sheep_world.specs.SpentWorld.{unspent_node}
use Rattle.dog_report.specs.Words.{Words}
use Rattle.dog_report.specs.Lists.{host_words, node_rows, dump}
use Rattle.dog_report.specs.ListParts.{lines_text, member_words, peer_words, stored_rows, rows_if_up}
use Rattle.dog_report.proofs.ListLemmas.{drop-at, drop-past, lines-step}

-- ---- members

-- the node of a host, as a reader gives it
abbrev pub node_found : Option Host → Option NodeOrSpent
node_found found = option_map unspent_node (option_map (λ (host : Host). host.node) found)

abbrev pub lost_found : Option Host → Bool
lost_found found = option_map_or (λ (host : Host). host.is_lost) found false

-- a member with a node
pub host_words-some : (member : Member) (found : Option Host) (node : NodeOrSpent) → Some node ≡ node_found found
    → codes "node" ∷ decimal member.node.0 ∷ member_words (lost_found found) member.vnodes node.node.peer
    ≡ option_map_or (host_words member) found []
host_words-some member None node is = absurd (none-some _ (sym is))
host_words-some member (Some host) node is =
    ap (λ (node : NodeOrSpent). codes "node" ∷ decimal member.node.0 ∷ member_words host.is_lost member.vnodes node.node.peer)
    (same_Some _ _ is)
    ∙ by_lost host.is_lost
  where
    by_lost : (lost : Bool) → codes "node" ∷ decimal member.node.0 ∷ member_words lost member.vnodes host.node.peer
        ≡ cond lost (codes "node" ∷ decimal member.node.0 ∷ codes "lost" ∷ [])
        (codes "node" ∷ decimal member.node.0 ∷ peer_words member.vnodes host.node.peer)
    by_lost true = refl
    by_lost false = refl

-- one without
pub host_words-none : (member : Member) (found : Option Host) → None ≡ node_found found → option_map_or (host_words member) found [] ≡ []
host_words-none member None is = refl
host_words-none member (Some host) is = absurd (none-some _ is)

-- ---- the rows of nodes

-- the rows of a node that is up
pub rows-up : (number : ℕ) (found : Option Host) (node : NodeOrSpent) → Some node ≡ node_found found
    → option_map_or is_host_up found false ≡ true
    → stored_rows number node.node.peer.rows ≡ option_map_or (rows_if_up number) found []
rows-up number None node is up = absurd (none-some _ (sym is))
rows-up number (Some host) node is up =
    ap (λ (node : NodeOrSpent). stored_rows number node.node.peer.rows) (same_Some _ _ is)
    ∙ sym (ap (λ (up : Bool). cond up (node_rows number host.node) []) up)

-- none of one that isn't
pub rows-down : (number : ℕ) (found : Option Host) → option_map_or is_host_up found false ≡ false
    → option_map_or (rows_if_up number) found [] ≡ []
rows-down number None down = refl
rows-down number (Some host) down = ap (λ (up : Bool). cond up (node_rows number host.node) []) down

-- or of one that isn't there
pub rows-none : (number : ℕ) (found : Option Host) → None ≡ node_found found → option_map_or (rows_if_up number) found [] ≡ []
rows-none number None is = refl
rows-none number (Some host) is = absurd (none-some _ is)

-- those that are up, by whether each is
up-filter : (es : List (ℕ × Host)) → flat_map (λ (e : ℕ × Host). rows_if_up e.0 e.1) es
    ≡ flat_map (λ (host : ℕ × Host). node_rows host.0 host.1.node) (filter (λ (host : ℕ × Host). is_host_up host.1) es)
up-filter [] = refl
up-filter (e ∷ es) = by_test (is_host_up e.1) (up-filter es)
  where
    by_test : (up : Bool) → flat_map (λ (e : ℕ × Host). rows_if_up e.0 e.1) es
        ≡ flat_map (λ (host : ℕ × Host). node_rows host.0 host.1.node) (filter (λ (host : ℕ × Host). is_host_up host.1) es)
        → cond up (node_rows e.0 e.1.node) [] ++ flat_map (λ (e : ℕ × Host). rows_if_up e.0 e.1) es
        ≡ flat_map (λ (host : ℕ × Host). node_rows host.0 host.1.node)
        (cond up (e ∷ filter (λ (host : ℕ × Host). is_host_up host.1) es) (filter (λ (host : ℕ × Host). is_host_up host.1) es))
    by_test true rest = ap (λ xs. node_rows e.0 e.1.node ++ xs) rest
    by_test false rest = rest

-- the same by their numbers
by_numbers : (hosts : tree.FinMap nat_cmp Host) (es : List (ℕ × Host)) → ((e : ℕ × Host) → In e es → tree.get hosts e.0 ≡ Some e.1)
    → flat_map (λ number. option_map_or (rows_if_up number) (tree.get hosts number) []) (map (λ (e : ℕ × Host). e.0) es)
    ≡ flat_map (λ (e : ℕ × Host). rows_if_up e.0 e.1) es
by_numbers hosts [] got = refl
by_numbers hosts (e ∷ es) got =
    ap (λ (found : Option Host). option_map_or (rows_if_up e.0) found []
    ++ flat_map (λ number. option_map_or (rows_if_up number) (tree.get hosts number) []) (map (λ (e : ℕ × Host). e.0) es))
    (got e (inl refl))
    ∙ ap (λ xs. rows_if_up e.0 e.1 ++ xs) (by_numbers hosts es (λ other there. got other (inr there)))

pub dump-numbers : (world : World)
    → flat_map (λ number. option_map_or (rows_if_up number) (tree.get world.hosts number) []) (tree.keys world.hosts)
    ≡ dump world
dump-numbers world =
    by_numbers world.hosts (tree.entries world.hosts)
    (λ e there. get-entry world.hosts e (contains_from_in (tree.entries world.hosts) e there)) ∙ up-filter (tree.entries world.hosts)

-- ---- the numbers of nodes, by their places

-- the node of a number
abbrev pub node_numbered : ℕ → NodeId
node_numbered number = record { 0 = number }

pub number-at : (numbers : List ℕ) (place : ℕ) (node : NodeId) → Some node ≡ option_map node_numbered (slice_get numbers place)
    → slice_get numbers place ≡ Some node.0
number-at numbers place node is = go (slice_get numbers place) is
  where
    go : (found : Option ℕ) → Some node ≡ option_map node_numbered found → found ≡ Some node.0
    go None h = absurd (none-some _ (sym h))
    go (Some number) h = cc

-- the lines of a node more are added
pub host-step : (lines_of : ℕ → List Words) (numbers : List ℕ) (place next : ℕ) (node : NodeId) (old new all : List ℕ)
    → Some node ≡ option_map node_numbered (slice_get numbers place)
    → new ≡ old ++ lines_text (lines_of node.0) → next ≡ place + 1 → old ++ lines_text (flat_map lines_of (drop place numbers)) ≡ all
    → new ++ lines_text (flat_map lines_of (drop next numbers)) ≡ all
host-step lines_of numbers place next node old new all is told after kept =
    ap (λ (n : ℕ). new ++ lines_text (flat_map lines_of (drop n numbers))) after ∙
    lines-step lines_of old new all node.0 (drop (place + 1) numbers) told
    (ap (λ (numbers : List ℕ). old ++ lines_text (flat_map lines_of numbers))
    (sym (drop-at numbers place node.0 (number-at numbers place node is))) ∙ kept)

-- past the last, all are added
pub hosts-end : (lines_of : ℕ → List Words) (numbers : List ℕ) (place : ℕ) (text all : List ℕ)
    → None ≡ option_map node_numbered (slice_get numbers place)
    → text ++ lines_text (flat_map lines_of (drop place numbers)) ≡ all → text ≡ all
hosts-end lines_of numbers place text all is kept = go (slice_get numbers place) refl is
  where
    go : (found : Option ℕ) → slice_get numbers place ≡ found → None ≡ option_map node_numbered found → text ≡ all
    go None none h =
        sym (append-nil text)
        ∙ ap (λ (numbers : List ℕ). text ++ lines_text (flat_map lines_of numbers)) (sym (drop-past numbers place none)) ∙ kept
    go (Some number) there h = absurd (none-some _ h)
