-- How lines go on with works: as a session, a request or a work changes.
use Rattle.std.proofs.Common.{◌≡◌, ◌≢◌, ◌↔◌, ℕ, Bool, true, false, cond, List, All, Option, Some, None, unwrap_or, refl, sym, ap, subst, ◌∙◌, ⊎_elim}
use Rattle.std.specs.Ordering.{nat_cmp}
use Rattle.std.specs.FinMap as tree
use Rattle.std.proofs.lemmas.Bool.{cases_eq}
use Rattle.std.proofs.lemmas.Option.{same_Some}
use Rattle.proof_tools.proofs.FiniteMaps.{get-insert_other, get-insert_same}
use Rattle.gateway.specs.State.{Work}
use Rattle.guest_driver.specs.InodeQueue.{InodeQueue, is_on_inode}
use Rattle.sheep_node.specs.declared.course.Request.{Request}
use Rattle.sheep_node.specs.declared.session.Session.{Session}
use Rattle.sheep_node.specs.State.{new_session}
use Rattle.sheep_node.specs.OneWork.{waiting_in}
use Rattle.sheep_node.specs.OpenLines.{HasInodeWork, IsOnInode, LinesAreOpen}
use Rattle.sheep_node.specs.SessionQueues.{session_among}
use Rattle.sheep_node.proofs.AwaitedWorks.{Works}
use Rattle.sheep_node.proofs.OneWorkParts.{Requests, Sessions}

abbrev pub line_in : ℕ → Sessions → InodeQueue
line_in number sessions = (session_among number sessions).inode_queue

-- ---- what a request has

module _ (number req : ℕ) (works : Works) (requests : Requests) where
  -- by a work and a request that are the same where they matter
  pub has_also : (later : Works) (others : Requests) → HasInodeWork number req works requests
      → tree.get later req ≡ tree.get works req → tree.get others req ≡ tree.get requests req → HasInodeWork number req later others
  has_also later others has same alike = record {
    work = has.work;
    there = same ∙ has.there;
    on_inode = has.on_inode;
    request = has.request;
    asked = alike ∙ has.asked;
    session = has.session;
  }

-- a request without a work has none
pub idle_apart : (number req q : ℕ) (works : Works) (requests : Requests) → tree.get works req ≡ None → HasInodeWork number q works requests → q ≢ req
idle_apart number req q works requests idle has same =
    let none : tree.get works q ≡ None = ap (tree.get works) same ∙ idle in
    let there = has.there in
    absurd (cc (none, there))

-- ---- a session changes

line_own : (sessions : Sessions) (number : ℕ) (session : Session) (k : ℕ) → k ≡ number
    → line_in k (tree.insert sessions number session) ≡ session.inode_queue
line_own sessions number session k own =
    ap (λ (k : ℕ). line_in k (tree.insert sessions number session)) own
    ∙ ap (λ (o : Option Session). (unwrap_or o new_session).inode_queue) (get-insert_same sessions number session)

line_other : (sessions : Sessions) (number : ℕ) (session : Session) (k : ℕ) → k ≢ number
    → line_in k (tree.insert sessions number session) ≡ line_in k sessions
line_other sessions number session k other =
    ap (λ (o : Option Session). (unwrap_or o new_session).inode_queue) (get-insert_other sessions number session k other)

-- a session's line keeps its current request, and works on an inode wait in it
module _ (works : Works) (requests : Requests) (sessions : Sessions) (number : ℕ) (session : Session) where
  abbrev after : Sessions
  after = tree.insert sessions number session

  pub waits_after : All IsOnInode session.inode_queue.waiting → LinesAreOpen works requests sessions → (k : ℕ)
      → All IsOnInode (waiting_in k after)
  waits_after so lined k = ⊎_elim
      (λ (own : k ≡ number).
      subst (λ (line : InodeQueue). All IsOnInode line.waiting) (sym (line_own sessions number session k own)) so)
      (λ (other : k ≢ number).
      subst (λ (line : InodeQueue). All IsOnInode line.waiting) (sym (line_other sessions number session k other)) (lined.waiting k))
      (cases_eq k number)

  pub session_lined : session.inode_queue.current ≡ (line_in number sessions).current → All IsOnInode session.inode_queue.waiting
      → LinesAreOpen works requests sessions → LinesAreOpen works requests after
  session_lined same so lined = record {
    current = λ k req.
        let as_before : (line_in k after).current ≡ (line_in k sessions).current = ⊎_elim
        (λ (own : k ≡ number).
        ap (λ (line : InodeQueue). line.current) (line_own sessions number session k own)
        ∙ same ∙ ap (λ (k : ℕ). (line_in k sessions).current) (sym own))
        (λ (other : k ≢ number). ap (λ (line : InodeQueue). line.current) (line_other sessions number session k other))
        (cases_eq k number) in
        ((λ is. (lined.current k req).0 (sym as_before ∙ is)), λ has. as_before ∙ (lined.current k req).1 has);
    waiting = waits_after so lined;
  }

  -- whose line is as it was
  pub same_line_lined : session.inode_queue ≡ line_in number sessions → LinesAreOpen works requests sessions → LinesAreOpen works requests after
  same_line_lined same lined =
      session_lined (ap (λ (line : InodeQueue). line.current) same)
      (subst (λ (line : InodeQueue). All IsOnInode line.waiting) (sym same) (lined.waiting number)) lined

-- ---- a request changes that has no work

pub request_lined : (works : Works) (requests others : Requests) (sessions : Sessions) (req : ℕ) → tree.get works req ≡ None
    → ((q : ℕ) → q ≢ req → tree.get others q ≡ tree.get requests q) → LinesAreOpen works requests sessions → LinesAreOpen works others sessions
request_lined works requests others sessions req idle alike lined = record {
  current = λ k q. (
    (λ is.
        let has = (lined.current k q).0 is in
        has_also k q works requests works others has refl (alike q (idle_apart k req q works requests idle has))),
    λ has.
        (lined.current k q).1
        (has_also k q works others works requests has refl (sym (alike q (idle_apart k req q works others idle has)))),
  );
  waiting = lined.waiting;
}

-- ---- a work changes

-- at its gateway, and is of the same
pub work_lined : (works : Works) (requests : Requests) (sessions : Sessions) (req : ℕ) (was now : Work) → tree.get works req ≡ Some was
    → now.work ≡ was.work → LinesAreOpen works requests sessions → LinesAreOpen (tree.insert works req now) requests sessions
work_lined works requests sessions req was now there same lined = record {
  current = λ k q. ((λ is. forward k q ((lined.current k q).0 is)), λ has. (lined.current k q).1 (back k q has));
  waiting = lined.waiting;
}
  where
    forward : (k q : ℕ) → HasInodeWork k q works requests → HasInodeWork k q (tree.insert works req now) requests
    forward k q has = ⊎_elim
        (λ (own : q ≡ req).
        let one : was ≡ has.work = same_Some was has.work (sym there ∙ ap (tree.get works) (sym own) ∙ has.there) in
        record {
          work = now;
          there = ap (tree.get (tree.insert works req now)) own ∙ get-insert_same works req now;
          on_inode = ap is_on_inode same ∙ ap (λ (work : Work). is_on_inode work.work) one ∙ has.on_inode;
          request = has.request;
          asked = has.asked;
          session = has.session;
        })
        (λ (other : q ≢ req). has_also k q works requests (tree.insert works req now) requests has (get-insert_other works req now q other) refl)
        (cases_eq q req)

    back : (k q : ℕ) → HasInodeWork k q (tree.insert works req now) requests → HasInodeWork k q works requests
    back k q has = ⊎_elim
        (λ (own : q ≡ req).
        let one : now ≡ has.work
        = same_Some now has.work
        (sym (get-insert_same works req now) ∙ ap (tree.get (tree.insert works req now)) (sym own) ∙ has.there) in
        record {
          work = was;
          there = ap (tree.get works) own ∙ there;
          on_inode = ap is_on_inode (sym same) ∙ ap (λ (work : Work). is_on_inode work.work) one ∙ has.on_inode;
          request = has.request;
          asked = has.asked;
          session = has.session;
        })
        (λ (other : q ≢ req).
        has_also k q (tree.insert works req now) requests works requests has (sym (get-insert_other works req now q other)) refl)
        (cases_eq q req)

-- a work of a session's request that has none begins: on an inode where none is open
module _ (works : Works) (requests : Requests) (sessions : Sessions) (number req : ℕ) (now : Work) (request : Request) (session : Session)
    (idle : tree.get works req ≡ None) (asked : tree.get requests req ≡ Some request) (own_session : request.session ≡ number)
    (current : session.inode_queue.current ≡ cond (is_on_inode now.work) (Some req) (line_in number sessions).current)
    (none_open : is_on_inode now.work ≡ true → (line_in number sessions).current ≡ None)
    (waiting : All IsOnInode session.inode_queue.waiting)
    (lined : LinesAreOpen works requests sessions) where
  abbrev begun : Works
  begun = tree.insert works req now

  has_now : is_on_inode now.work ≡ true → HasInodeWork number req begun requests
  has_now on = record {
    work = now;
    there = get-insert_same works req now;
    on_inode = on;
    request = request;
    asked = asked;
    session = own_session;
  }

  kept : (k q : ℕ) → HasInodeWork k q works requests → HasInodeWork k q begun requests
  kept k q has =
      has_also k q works requests begun requests has (get-insert_other works req now q (idle_apart k req q works requests idle has)) refl

  own_line : (q : ℕ) (b : Bool) → is_on_inode now.work ≡ b → cond b (Some req) (line_in number sessions).current ≡ Some q
      → HasInodeWork number q begun requests
  own_line q true on is = subst (λ (q : ℕ). HasInodeWork number q begun requests) (same_Some req q is) (has_now on)
  own_line q false off is = kept number q ((lined.current number q).0 is)

  forward : (k q : ℕ) → (line_in k (tree.insert sessions number session)).current ≡ Some q → HasInodeWork k q begun requests
  forward k q is = ⊎_elim
      (λ (own : k ≡ number).
      let here : session.inode_queue.current ≡ Some q
      = sym (ap (λ (line : InodeQueue). line.current) (line_own sessions number session k own)) ∙ is in
      subst (λ (k : ℕ). HasInodeWork k q begun requests) (sym own)
      (own_line q (is_on_inode now.work) refl (sym current ∙ here)))
      (λ (other : k ≢ number).
      kept k q
      ((lined.current k q).0 (sym (ap (λ (line : InodeQueue). line.current) (line_other sessions number session k other)) ∙ is)))
      (cases_eq k number)

  -- the request that begins
  of_new : (k : ℕ) → HasInodeWork k req begun requests → (line_in k (tree.insert sessions number session)).current ≡ Some req
  of_new k has =
      let same : now ≡ has.work = same_Some now has.work (sym (get-insert_same works req now) ∙ has.there) in
      let on : is_on_inode now.work ≡ true = ap (λ (work : Work). is_on_inode work.work) same ∙ has.on_inode in
      let one : request ≡ has.request = same_Some request has.request (sym asked ∙ has.asked) in
      let own : k ≡ number = sym has.session ∙ ap (λ (request : Request). request.session) (sym one) ∙ own_session in
      ap (λ (line : InodeQueue). line.current) (line_own sessions number session k own)
      ∙ current ∙ ap (λ (b : Bool). cond b (Some req) (line_in number sessions).current) on

  -- others
  of_other : (k q : ℕ) → HasInodeWork k q works requests → (line_in k (tree.insert sessions number session)).current ≡ Some q
  of_other k q has = ⊎_elim
      (λ (own : k ≡ number).
      let here : (line_in number sessions).current ≡ Some q
      = ap (λ (k : ℕ). (line_in k sessions).current) (sym own) ∙ (lined.current k q).1 has in
      ap (λ (line : InodeQueue). line.current) (line_own sessions number session k own)
      ∙ current ∙ by_test (is_on_inode now.work) refl here)
      (λ (other : k ≢ number).
      ap (λ (line : InodeQueue). line.current) (line_other sessions number session k other) ∙ (lined.current k q).1 has)
      (cases_eq k number)
    where
      by_test : (b : Bool) → is_on_inode now.work ≡ b → (line_in number sessions).current ≡ Some q
          → cond b (Some req) (line_in number sessions).current ≡ Some q
      by_test true on here =
          let none = none_open on in
          absurd (cc (none, here))
      by_test false off here = here

  pub begun_lined : LinesAreOpen begun requests (tree.insert sessions number session)
  begun_lined = record {
    current = λ k q. (
      forward k q,
      λ has. ⊎_elim
          (λ (own : q ≡ req).
          of_new k (subst (λ (q : ℕ). HasInodeWork k q begun requests) own has) ∙ ap Some (sym own))
          (λ (other : q ≢ req).
          of_other k q (has_also k q begun requests works requests has (sym (get-insert_other works req now q other)) refl))
          (cases_eq q req),
    );
    waiting = waits_after works requests sessions number session waiting lined;
  }

-- a work of a session's request ends
module _ (works left : Works) (requests : Requests) (sessions : Sessions) (number req : ℕ) (was : Work) (request : Request) (session : Session)
    (there : tree.get works req ≡ Some was) (gone : tree.get left req ≡ None) (others : (q : ℕ) → q ≢ req → tree.get left q ≡ tree.get works q)
    (asked : tree.get requests req ≡ Some request) (own_session : request.session ≡ number)
    (current : session.inode_queue.current ≡ cond (is_on_inode was.work) None (line_in number sessions).current)
    (same_waiting : session.inode_queue.waiting ≡ (line_in number sessions).waiting)
    (lined : LinesAreOpen works requests sessions) where
  stays : (k q : ℕ) → q ≢ req → HasInodeWork k q works requests → HasInodeWork k q left requests
  stays k q other has = has_also k q works requests left requests has (others q other) refl

  still : (q : ℕ) (b : Bool) → is_on_inode was.work ≡ b → cond b None (line_in number sessions).current ≡ Some q
      → HasInodeWork number q left requests
  still q true on is = absurd (cc (is))
  still q false off is =
      let has = (lined.current number q).0 is in
      stays number q
      (λ (same : q ≡ req).
      let one : was ≡ has.work = same_Some was has.work (sym there ∙ ap (tree.get works) (sym same) ∙ has.there) in
      let on : is_on_inode was.work ≡ true = ap (λ (work : Work). is_on_inode work.work) one ∙ has.on_inode in
      absurd (cc (on, off)))
      has

  current_left : (k q : ℕ) → (line_in k (tree.insert sessions number session)).current ≡ Some q → HasInodeWork k q left requests
  current_left k q is = ⊎_elim
      (λ (own : k ≡ number).
      let here : session.inode_queue.current ≡ Some q
      = sym (ap (λ (line : InodeQueue). line.current) (line_own sessions number session k own)) ∙ is in
      subst (λ (k : ℕ). HasInodeWork k q left requests) (sym own)
      (still q (is_on_inode was.work) refl (sym current ∙ here)))
      (λ (other : k ≢ number).
      let has = (lined.current k q).0
      (sym (ap (λ (line : InodeQueue). line.current) (line_other sessions number session k other)) ∙ is) in
      stays k q
      (λ (same : q ≡ req).
      let one : request ≡ has.request
      = same_Some request has.request (sym asked ∙ ap (tree.get requests) (sym same) ∙ has.asked) in
      other (sym has.session ∙ ap (λ (request : Request). request.session) (sym one) ∙ own_session))
      has)
      (cases_eq k number)

  left_current : (k q : ℕ) → HasInodeWork k q left requests → (line_in k (tree.insert sessions number session)).current ≡ Some q
  left_current k q has =
      let apart : q ≢ req = idle_apart k req q left requests gone has in
      let before : HasInodeWork k q works requests = has_also k q left requests works requests has (sym (others q apart)) refl in
      ⊎_elim
      (λ (own : k ≡ number).
      let here : (line_in number sessions).current ≡ Some q
      = ap (λ (k : ℕ). (line_in k sessions).current) (sym own) ∙ (lined.current k q).1 before in
      ap (λ (line : InodeQueue). line.current) (line_own sessions number session k own)
      ∙ current ∙ by_test apart here (is_on_inode was.work) refl)
      (λ (other : k ≢ number).
      ap (λ (line : InodeQueue). line.current) (line_other sessions number session k other) ∙ (lined.current k q).1 before)
      (cases_eq k number)
    where
      by_test : q ≢ req → (line_in number sessions).current ≡ Some q → (b : Bool) → is_on_inode was.work ≡ b
          → cond b None (line_in number sessions).current ≡ Some q
      by_test apart here true on =
          let own : (line_in number sessions).current ≡ Some req
          = (lined.current number req).1
          (record { work = was; there = there; on_inode = on; request = request; asked = asked; session = own_session }) in
          absurd (apart (same_Some q req (sym here ∙ own)))
      by_test apart here false off = here

  pub ended_lined : LinesAreOpen left requests (tree.insert sessions number session)
  ended_lined = record {
    current = λ k q. (current_left k q, left_current k q);
    waiting = waits_after works requests sessions number session
        (subst (All IsOnInode) (sym same_waiting) (lined.waiting number)) lined;
  }
