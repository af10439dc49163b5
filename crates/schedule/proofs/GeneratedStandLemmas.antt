-- What the statements so far of a generated script have, and that the next one may stand behind them.
use Rattle.std.proofs.Common.{◌≡◌, ℕ, ◌+◌, ◌*◌, ◌/◌, ◌%◌, ◌^◌, ◌<◌, ◌≤◌, ◌==◌, ◌||◌, Bool, true, false, cond, List, [], ◌∷◌, ◌++◌, length, map, refl, sym, ap, subst, ◌∙◌, append_assoc, arith}
use Rattle.std.specs.Prelude.{count_by, sum_by}
use Rattle.std.specs.List.{list_any}
use Rattle.std.proofs.lemmas.Bool.{or_left}
use Rattle.std.proofs.lemmas.List.{append-nil}
use Rattle.std.proofs.lemmas.List.Folds.{list_any-append}
use Rattle.std.proofs.lemmas.List.Sums.{sum_by-append}
use Rattle.object_id.specs.Span.{IsSpan}
use Rattle.cluster_script.specs.declared.statement.Pattern.TheVariants.{Fill}
use Rattle.cluster_script.specs.declared.statement.Statement.{Statement}
use Rattle.cluster_script.specs.declared.statement.Statement.TheVariants.{Read, Write, Settle}
use Rattle.cluster_script.specs.Statements.{is_cluster, declares, is_session_declared, is_request, read_bytes, write_bytes}
use Rattle.cluster_script.specs.Nodes.{uses_node, is_node_used, failed_by, failed_from, is_failed}
use Rattle.cluster_script.specs.Language.{HasCluster, MayAsk, MayStand, EachMayStand}
use Rattle.schedule.specs.GeneratedScript.{request_statement}

-- statements before or in the rounds of a generated script, which have so many requests of the rounds; and whether node 5 is failed
-- and node 6 was used
pub record Facts (before : List Statement) (requests : ℕ) (fails joins : Bool) : Type 0 where
  pub behind : HasCluster before
  pub sessions : (session : ℕ) → 1 ≤ session → session ≤ 4 → is_session_declared session before ≡ true
  pub count : count_by is_request before ≡ 8 + requests
  pub reads : sum_by read_bytes before ≤ 4096 * requests
  pub writes : sum_by write_bytes before ≤ 4096 * requests
  pub used : is_node_used 5 before ≡ true
  pub failed : is_failed 5 before ≡ fails
  pub joined : is_node_used 6 before ≡ joins

pub facts-same : (before after : List Statement) (requests more : ℕ) (fails joins : Bool) → before ≡ after → requests ≡ more
    → Facts before requests fails joins → Facts after more fails joins
facts-same before after requests more fails joins same count facts =
    subst (λ (b : List Statement). Facts b more fails joins) same (subst (λ (n : ℕ). Facts before n fails joins) count facts)

failed_from-push : (node : ℕ) (was : Bool) (before : List Statement) (s : Statement)
    → failed_from node was (before ++ s ∷ []) ≡ failed_by node (failed_from node was before) s
failed_from-push node was [] s = refl
failed_from-push node was (first ∷ before) s = failed_from-push node (failed_by node was first) before s

any-stays : (kind : Statement → Bool) (before : List Statement) (s : Statement) → list_any kind before ≡ true
    → list_any kind (before ++ s ∷ []) ≡ true
any-stays kind before s there =
    list_any-append kind before (s ∷ []) ∙ or_left (list_any kind before) (list_any kind (s ∷ [])) there

sum-more : (f : Statement → ℕ) (before : List Statement) (s : Statement) → sum_by f (before ++ s ∷ []) ≡ sum_by f before + f s
sum-more f before s = let more = sum_by-append f before (s ∷ []) in omega (arith, more)

-- with a statement more
pub facts-more : (before : List Statement) (s : Statement) (requests more : ℕ) (fails joins failing joining : Bool)
    → Facts before requests fails joins → cond (is_request s) 1 0 ≡ more
    → read_bytes s ≤ 4096 * more → write_bytes s ≤ 4096 * more
    → failed_by 5 fails s ≡ failing → (joins || list_any (uses_node 6) (s ∷ [])) ≡ joining
    → Facts (before ++ s ∷ []) (requests + more) failing joining
facts-more before s requests more fails joins failing joining facts one reads writes fail join = record {
  behind = any-stays is_cluster before s facts.behind;
  sessions = λ session low high. any-stays (declares session) before s (facts.sessions session low high);
  count =
      let sum = sum-more (λ (x : Statement). cond (is_request x) 1 0) before s in
      omega (arith, sum, one, facts.count);
  reads = let sum = sum-more read_bytes before s in omega (arith, sum, reads, facts.reads);
  writes = let sum = sum-more write_bytes before s in omega (arith, sum, writes, facts.writes);
  used = any-stays (uses_node 5) before s facts.used;
  failed = failed_from-push 5 false before s ∙ ap (λ (was : Bool). failed_by 5 was s) facts.failed ∙ fail;
  joined =
      list_any-append (uses_node 6) before (s ∷ [])
      ∙ ap (λ (was : Bool). was || list_any (uses_node 6) (s ∷ [])) facts.joined ∙ join;
}

or_none : (b : Bool) → (b || false) ≡ b
or_none true = refl
or_none false = refl

request-facts : (before : List Statement) (word requests : ℕ) (fails joins : Bool) → Facts before requests fails joins
    → Facts (before ++ request_statement word ∷ []) (requests + 1) fails joins
request-facts before word requests fails joins facts = by_kind (word / 2 ^ 40 % 4 == 0)
  where
    read : Statement
    read = Read (1 + word % 4) (word / 4 % 16384 * 4096) 4096

    write : Statement
    write = Write (1 + word % 4) (word / 4 % 16384 * 4096) 4096 (Fill (word / 2 ^ 32 % 256))

    by_kind : (reads : Bool) → Facts (before ++ cond reads read write ∷ []) (requests + 1) fails joins
    by_kind true =
        let reads : read_bytes read ≡ 4096 = refl in
        let writes : write_bytes read ≡ 0 = refl in
        facts-more before read requests 1 fails joins fails joins facts refl (omega (arith, reads)) (omega (arith, writes)) refl
        (or_none joins)
    by_kind false =
        let reads : read_bytes write ≡ 0 = refl in
        let writes : write_bytes write ≡ 4096 = refl in
        facts-more before write requests 1 fails joins fails joins facts refl (omega (arith, reads)) (omega (arith, writes)) refl
        (or_none joins)

whole-blocks : (place : ℕ) → place * 4096 % 512 ≡ 0
whole-blocks place = omega arith

-- a piece of 4,096 bytes in whole blocks
piece-span : (place : ℕ) → place < 16384 → IsSpan (place * 4096) 4096
piece-span place lt = record {
  below = omega (arith, lt);
  start = whole-blocks place;
  least = omega arith;
  most = omega arith;
  whole = refl;
}

may-ask : (before : List Statement) (word requests : ℕ) (fails joins : Bool) → Facts before requests fails joins → requests ≤ 1000
    → MayAsk before (1 + word % 4)
may-ask before word requests fails joins facts few = record {
  declared = facts.sessions (1 + word % 4) (omega arith) (omega arith);
  room = omega (arith, facts.count, few);
}

request-stands : (before : List Statement) (word requests : ℕ) (fails joins : Bool) → Facts before requests fails joins → requests ≤ 1000
    → MayStand before (request_statement word)
request-stands before word requests fails joins facts few = by_kind (word / 2 ^ 40 % 4 == 0)
  where
    span : IsSpan (word / 4 % 16384 * 4096) 4096
    span = piece-span (word / 4 % 16384) (omega arith)

    by_kind : (reads : Bool)
        → MayStand before (cond reads (Read (1 + word % 4) (word / 4 % 16384 * 4096) 4096)
        (Write (1 + word % 4) (word / 4 % 16384 * 4096) 4096 (Fill (word / 2 ^ 32 % 256))))
    by_kind true = (may-ask before word requests fails joins facts few, span, omega (arith, facts.reads, few))
    by_kind false = (may-ask before word requests fails joins facts few, span, omega arith, omega (arith, facts.writes, few))

-- statements may stand one after another behind others, and with them these have so many requests of the rounds
pub record Stands (before rest : List Statement) (requests : ℕ) (fails joins : Bool) : Type 0 where
  pub each : EachMayStand before rest
  pub facts : Facts (before ++ rest) requests fails joins

-- one statement, and then more
pub one-stands : (before rest : List Statement) (s : Statement) (requests : ℕ) (fails joins : Bool) → MayStand before s
    → Stands (before ++ s ∷ []) rest requests fails joins → Stands before (s ∷ rest) requests fails joins
one-stands before rest s requests fails joins may later = record {
  each = (may, later.each);
  facts =
      facts-same ((before ++ s ∷ []) ++ rest) (before ++ s ∷ rest) requests requests fails joins (append_assoc before (s ∷ []) rest) refl
      later.facts;
}

none-stands : (before : List Statement) (requests : ℕ) (fails joins : Bool) → Facts before requests fails joins
    → Stands before [] requests fails joins
none-stands before requests fails joins facts = record {
  each = tt;
  facts = facts-same before (before ++ []) requests requests fails joins (sym (append-nil before)) refl facts;
}

pub each-append : (before first rest : List Statement) → EachMayStand before first → EachMayStand (before ++ first) rest
    → EachMayStand before (first ++ rest)
each-append before [] rest each later = subst (λ (b : List Statement). EachMayStand b rest) (append-nil before) later
each-append before (s ∷ first) rest each later =
    let behind = subst (λ (b : List Statement). EachMayStand b rest) (sym (append_assoc before (s ∷ []) first)) later in
    (each.0, each-append (before ++ s ∷ []) first rest each.1 behind)

pub both-stand : (before first rest : List Statement) (requests more : ℕ) (fails joins failing joining : Bool)
    → Stands before first requests fails joins → Stands (before ++ first) rest more failing joining
    → Stands before (first ++ rest) more failing joining
both-stand before first rest requests more fails joins failing joining now later = record {
  each = each-append before first rest now.each later.each;
  facts =
      facts-same ((before ++ first) ++ rest) (before ++ (first ++ rest)) more more failing joining (append_assoc before first rest) refl
      later.facts;
}

requests-stand : (words : List ℕ) (before : List Statement) (requests : ℕ) (fails joins : Bool) → Facts before requests fails joins
    → requests + length words ≤ 1000 → Stands before (map request_statement words) (requests + length words) fails joins
requests-stand [] before requests fails joins facts few =
    let same : requests ≡ requests + 0 = omega arith in
    none-stands before (requests + 0) fails joins (facts-same before before requests (requests + 0) fails joins refl same facts)
requests-stand (word ∷ words) before requests fails joins facts few =
    let few_more : requests + 1 + length words ≤ 1000 = omega (arith, few) in
    let same : requests + 1 + length words ≡ requests + length (word ∷ words) = omega arith in
    subst (λ (n : ℕ). Stands before (map request_statement (word ∷ words)) n fails joins) same
    (one-stands before (map request_statement words) (request_statement word) (requests + 1 + length words) fails joins
    (request-stands before word requests fails joins facts (omega (arith, few)))
    (requests-stand words (before ++ request_statement word ∷ []) (requests + 1) fails joins
    (request-facts before word requests fails joins facts) few_more))

settle-stands : (before : List Statement) (requests : ℕ) (fails joins : Bool) → Facts before requests fails joins
    → Stands before (Settle ∷ []) requests fails joins
settle-stands before requests fails joins facts =
    let same : requests + 0 ≡ requests = omega arith in
    one-stands before [] Settle requests fails joins facts.behind
    (none-stands (before ++ Settle ∷ []) requests fails joins
    (facts-same (before ++ Settle ∷ []) (before ++ Settle ∷ []) (requests + 0) requests fails joins refl same
    (facts-more before Settle requests 0 fails joins fails joins facts refl (omega arith) (omega arith) refl (or_none joins))))

-- a round's fifty requests and its barrier
pub fifty-stand : (words : List ℕ) (before : List Statement) (requests : ℕ) (fails joins : Bool) → length words ≡ 50
    → Facts before requests fails joins → requests ≤ 950
    → Stands before (map request_statement words ++ Settle ∷ []) (requests + 50) fails joins
fifty-stand words before requests fails joins fifty facts few =
    let all : requests + length words ≡ requests + 50 = omega (arith, fifty) in
    let asked = requests-stand words before requests fails joins facts (omega (arith, fifty, few)) in
    subst (λ (n : ℕ). Stands before (map request_statement words ++ Settle ∷ []) n fails joins) all
    (both-stand before (map request_statement words) (Settle ∷ []) (requests + length words) (requests + length words) fails joins fails joins
    asked (settle-stands (before ++ map request_statement words) (requests + length words) fails joins asked.facts))
