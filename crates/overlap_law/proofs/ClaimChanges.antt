-- Changes of requests, of sessions and of the outbox, and what each has to bring so that sessions keep what their works rest on.
use Rattle.std.proofs.Common.{◌≡◌, ◌≢◌, ◌⊎◌, inl, inr, ⊎_elim, ℕ, ◌+◌, ◌≤◌, ◌==◌, Bool, true, false, ◌&&◌, ◌||◌, List, [], ◌∷◌, ◌++◌}
use Rattle.std.proofs.Common.{Option, Some, None, unwrap_or, refl, sym, ap, subst, ◌∙◌, arith}
use Rattle.std.specs.List.{list_any}
use Rattle.std.specs.Ordering.{nat_cmp}
use Rattle.std.specs.FinMap as tree
use Rattle.std.proofs.lemmas.Bool.{both_ways, cases_eq, and_from, eq-eqb, ne_eqb}
use Rattle.std.proofs.lemmas.List.Folds.{list_any-append}
use Rattle.std.proofs.lemmas.Option.{same_Some}
use Rattle.proof_tools.proofs.FiniteMaps.{get-insert_same, get-insert_other, get-insert_cases, get-remove_same, get-remove_other}
use Rattle.object_id.specs.declared.entry.Entry.{Entry}
use Rattle.object_id.specs.declared.node.NodeId.{NodeId}
use Rattle.object_id.specs.Same.{is_same_entry}
use Rattle.guest_driver.specs.declared.disk.Disk.{Disk}
use Rattle.inode.specs.Layout.{Content}
use Rattle.vdi_ops.specs.Entries.{unlock_of}
use Rattle.vdi_ops.specs.Op.{OpStage, Op}
use Rattle.epoch_log.specs.Epochs.{epoch_of}
use Rattle.sheep_node.specs.declared.course.Course.{Course}
use Rattle.sheep_node.specs.declared.course.Request.{Request}
use Rattle.sheep_node.specs.declared.session.Session.{Session}
use Rattle.sheep_node.specs.declared.course.Course.TheVariants.{Commanding}
use Rattle.sheep_node.specs.SessionQueues.{session_among}
use Rattle.sheep_node.specs.State.{new_session}
use Rattle.sheep_node.proofs.QueueChanges.{same_view}
use Rattle.overlap_law.specs.CommandDisks.{opened_as, opened_in}
use Rattle.overlap_law.specs.WriterClaims.{HasLock, IsGivenNoMore, IsNamed, IsStageKept, LetsGo, IsLetGo, IsDiskKept, IsUnlockKept}
use Rattle.overlap_law.specs.WriterClaims.{HasClaims, HasLockYet, IsHeldYet}
use Rattle.overlap_law.specs.Writers.{unlocks}
use Rattle.overlap_law.proofs.AwaitedChanges.{Requests}
use Rattle.overlap_law.proofs.AwaitedCommands.{is_command}
use Rattle.overlap_law.proofs.ClaimTransport.{KeepsAll, PutsNoMore, stage_over, disk_over}
use Rattle.overlap_law.proofs.CountedEntries.{times, once_if, times-push, same_entry}

abbrev pub Sessions : Type 0
Sessions = tree.FinMap nat_cmp Session

abbrev pub disk_of : ℕ → Sessions → Option Disk
disk_of session sessions = (session_among session sessions).disk

-- an unlock leaves another session's ids, and other ids
pub kept_elsewhere : (me : NodeId) (session vid q of : ℕ) (outbox : List Entry) → of ≢ vid → list_any (unlocks q of) outbox ≡ false
    → list_any (unlocks q of) (outbox ++ unlock_of me session vid ∷ []) ≡ false
kept_elsewhere me session vid q of outbox apart kept =
    list_any-append (unlocks q of) outbox (unlock_of me session vid ∷ [])
    ∙ (λ i. kept i || (unlocks_none i || false))
  where
    with_false : (b : Bool) → (b && false) ≡ false
    with_false true = refl
    with_false false = refl

    unlocks_none : ((session == q) && (vid == of)) ≡ false
    unlocks_none = ap (λ (b : Bool). (session == q) && b) (ne_eqb vid of (λ same. apart (sym same))) ∙ with_false (session == q)

-- a request lets no disk go
abbrev pub LetsNothingGo : Requests → ℕ → Type 0
LetsNothingGo requests req =
    (old : Request) (op : Op) (vid : ℕ) → tree.get requests req ≡ Some old → old.course ≡ Commanding op → LetsGo vid op.stage → ⊥

-- a request is of a session, if it is there
abbrev pub IsOfSession : Requests → ℕ → ℕ → Type 0
IsOfSession requests req session = (old : Request) → tree.get requests req ≡ Some old → old.session ≡ session

command_so : (course : Course) (op : Op) → course ≡ Commanding op → is_command course ≡ true
command_so course op is = ap is_command is

-- ---- who lets a disk go does so still

module _ (requests later : Requests) (req : ℕ) (others : (q : ℕ) → q ≢ req → tree.get later q ≡ tree.get requests q) (session vid : ℕ)
    (goes : IsLetGo requests session vid) where
  still_goes : goes.req ≢ req → IsLetGo later session vid
  still_goes apart = record {
    req = goes.req;
    request = goes.request;
    op = goes.op;
    there = others goes.req apart ∙ goes.there;
    of = goes.of;
    command = goes.command;
    lets = goes.lets;
  }

  -- where this request lets nothing go
  pub still_let : LetsNothingGo requests req → IsLetGo later session vid
  still_let nothing = ⊎_elim
      (λ (same : goes.req ≡ req).
      absurd (nothing goes.request goes.op vid (ap (tree.get requests) (sym same) ∙ goes.there) goes.command goes.lets))
      (λ (apart : goes.req ≢ req). still_goes apart)
      (cases_eq goes.req req)

  -- or is of another session
  pub still_let_there : (other : ℕ) → IsOfSession requests req other → session ≢ other → IsLetGo later session vid
  still_let_there other own apart = ⊎_elim
      (λ (same : goes.req ≡ req).
      absurd (apart (sym goes.of ∙ own goes.request (ap (tree.get requests) (sym same) ∙ goes.there))))
      (λ (away : goes.req ≢ req). still_goes away)
      (cases_eq goes.req req)

-- of a disk
pub disk_through : (log outbox read : List Entry) (me : NodeId) (requests later : Requests) (session : ℕ) (snapshot : Bool)
    (inode : Content)
    → (IsLetGo requests session inode.vid → IsLetGo later session inode.vid) → IsDiskKept log outbox read me requests session snapshot inode
    → IsDiskKept log outbox read me later session snapshot inode
disk_through log outbox read me requests later session true inode goes is = is
disk_through log outbox read me requests later session false inode goes (named, is) = (
  named,
  ⊎_elim
      (λ (lock : HasLock log outbox me session (epoch_of read) inode.vid). inl lock)
      (λ (let_go : IsLetGo requests session inode.vid). inr (goes let_go)) is,
)

module _ (log read : List Entry) (from : ℕ) (me : NodeId) where
  abbrev pub Claims : List Entry → Requests → Sessions → Type 0
  Claims outbox requests sessions = HasClaims log outbox read from me requests sessions

  module _ (outbox : List Entry) (requests : Requests) where
    -- ---- sessions change, but not in their disks

    alike_claims : (old new : Sessions) → ((q : ℕ) → disk_of q new ≡ disk_of q old) → Claims outbox requests old
        → Claims outbox requests new
    alike_claims old new same has = record {
      unlocked = has.unlocked;
      commands = λ req request op there command.
          subst (λ (opened : Option (Bool × ℕ)). IsStageKept log outbox read from me request.session opened op.stage)
          (sym (ap opened_as (same request.session))) (has.commands req request op there command);
      disks = λ q disk opened. has.disks q disk (sym (same q) ∙ opened);
      held_yet = λ q disk opened. has.held_yet q disk (sym (same q) ∙ opened);
    }

    pub one_alike : (sessions : Sessions) (number : ℕ) (session : Session) → session.disk ≡ disk_of number sessions
        → Claims outbox requests sessions → Claims outbox requests (tree.insert sessions number session)
    one_alike sessions number session same =
        alike_claims sessions (tree.insert sessions number session) (same_view (λ (s : Session). s.disk) sessions number session same)

    -- an open disk's table changes, or what else of it isn't its id and name
    module _ (sessions : Sessions) (number : ℕ) (after : Session) (old new : Disk) (opened : disk_of number sessions ≡ Some old)
        (changed : after.disk ≡ Some new) (snapshot : new.snapshot ≡ old.snapshot) (id : new.inode.vid ≡ old.inode.vid)
        (name : new.inode.name ≡ old.inode.name) where
      kept_so : (s : Bool) → IsDiskKept log outbox read me requests number s old.inode
          → IsDiskKept log outbox read me requests number s new.inode
      kept_so true is = subst (IsGivenNoMore log) (sym id) is
      kept_so false (named, is) = (
        subst (λ (v : ℕ). IsNamed log v new.inode.name) (sym id) (subst (IsNamed log old.inode.vid) (sym name) named),
        subst (λ (v : ℕ). HasLock log outbox me number (epoch_of read) v ⊎ IsLetGo requests number v) (sym id) is,
      )

      then_here : disk_of number (tree.insert sessions number after) ≡ Some new
      then_here = ap (λ (o : Option Session). (unwrap_or o new_session).disk) (get-insert_same sessions number after) ∙ changed

      then_there : (q : ℕ) → q ≢ number → disk_of q (tree.insert sessions number after) ≡ disk_of q sessions
      then_there q apart = ap (λ (o : Option Session). (unwrap_or o new_session).disk) (get-insert_other sessions number after q apart)

      opened_so : (q : ℕ) → opened_in q (tree.insert sessions number after) ≡ opened_in q sessions
      opened_so q = ⊎_elim
          (λ (same : q ≡ number).
          ap (λ (n : ℕ). opened_in n (tree.insert sessions number after)) same ∙ ap opened_as then_here
          ∙ (λ i. Some (snapshot i, id i)) ∙ sym (ap opened_as opened) ∙ ap (λ (n : ℕ). opened_in n sessions) (sym same))
          (λ (apart : q ≢ number). ap opened_as (then_there q apart))
          (cases_eq q number)

      yet_so : Claims outbox requests sessions → IsHeldYet log outbox read me number new
      yet_so has working there =
          subst (λ (v : ℕ). HasLockYet log me number (epoch_of read) v) (sym id)
          (has.held_yet number old opened (sym snapshot ∙ working) (subst (λ (v : ℕ). 1 ≤ times (unlock_of me number v) outbox) id there))

      pub retabled_claims : Claims outbox requests sessions → Claims outbox requests (tree.insert sessions number after)
      retabled_claims has = record {
        unlocked = has.unlocked;
        commands = λ req request op there command.
            subst (λ (opened : Option (Bool × ℕ)). IsStageKept log outbox read from me request.session opened op.stage)
            (sym (opened_so request.session)) (has.commands req request op there command);
        disks = λ q disk got. ⊎_elim
            (λ (same : q ≡ number).
            let here : new ≡ disk
            = same_Some new disk (sym then_here ∙ ap (λ (n : ℕ). disk_of n (tree.insert sessions number after)) (sym same) ∙ got) in
            subst (λ (n : ℕ). IsDiskKept log outbox read me requests n disk.snapshot disk.inode) (sym same)
            (subst (λ (d : Disk). IsDiskKept log outbox read me requests number d.snapshot d.inode) here
            (kept_so new.snapshot
            (subst (λ (b : Bool). IsDiskKept log outbox read me requests number b old.inode) (sym snapshot)
            (has.disks number old opened))))) (λ (apart : q ≢ number). has.disks q disk (sym (then_there q apart) ∙ got))
            (cases_eq q number);
        held_yet = λ q disk got. ⊎_elim
            (λ (same : q ≡ number).
            let here : new ≡ disk
            = same_Some new disk (sym then_here ∙ ap (λ (n : ℕ). disk_of n (tree.insert sessions number after)) (sym same) ∙ got) in
            subst (λ (n : ℕ). IsHeldYet log outbox read me n disk) (sym same)
            (subst (IsHeldYet log outbox read me number) here (yet_so has)))
            (λ (apart : q ≢ number). has.held_yet q disk (sym (then_there q apart) ∙ got))
            (cases_eq q number);
      }

    module _ (sessions : Sessions) (has : Claims outbox requests sessions) (req : ℕ) where
      -- ---- a request is put anew, or goes

      module _ (nothing : LetsNothingGo requests req) where
        pub put_claims : (session : ℕ) (course : Course)
            → ((op : Op) → course ≡ Commanding op → IsStageKept log outbox read from me session (opened_in session sessions) op.stage)
            → Claims outbox (tree.insert requests req (record { session = session; course = course })) sessions
        put_claims session course kept = record {
          unlocked = has.unlocked;
          commands = λ q request op got command. ⊎_elim
              (λ (own : (q ≡ req) × (new ≡ request)).
              subst (λ (r : Request). r.course ≡ Commanding op → IsStageKept log outbox read from me r.session
              (opened_in r.session sessions) op.stage) own.1 (kept op) command)
              (λ (other : (q ≢ req) × (tree.get requests q ≡ Some request)). has.commands q request op other.1 command)
              (get-insert_cases requests req new q request got);
          disks = λ q disk opened.
              disk_through log outbox read me requests (tree.insert requests req new) q disk.snapshot disk.inode
              (λ goes. still_let requests (tree.insert requests req new) req (λ other apart. get-insert_other requests req new other apart)
              q disk.inode.vid goes nothing)
              (has.disks q disk opened);
          held_yet = has.held_yet;
        }
          where
            new : Request
            new = record { session = session; course = course }

        pub gone_claims : Claims outbox (tree.remove requests req) sessions
        gone_claims = record {
          unlocked = has.unlocked;
          commands = λ q request op got command. ⊎_elim
              (λ (own : q ≡ req).
              let none : tree.get (tree.remove requests req) q ≡ None
              = ap (tree.get (tree.remove requests req)) own ∙ get-remove_same requests req in
              absurd (cc (none, got)))
              (λ (other : q ≢ req). has.commands q request op (sym (get-remove_other requests req q other) ∙ got) command)
              (cases_eq q req);
          disks = λ q disk opened.
              disk_through log outbox read me requests (tree.remove requests req) q disk.snapshot disk.inode
              (λ goes. still_let requests (tree.remove requests req) req (λ other apart. get-remove_other requests req other apart)
              q disk.inode.vid goes nothing)
              (has.disks q disk opened);
          held_yet = has.held_yet;
        }

      -- ---- a command takes a step, and leaves its session this disk

      module _ (session : ℕ) (own : IsOfSession requests req session)
          (sole : (other : ℕ) (request : Request) → tree.get requests other ≡ Some request → is_command request.course ≡ true
          → request.session ≡ session → other ≡ req) (op : Op) (after : Session)
          (kept : IsStageKept log outbox read from me session (opened_as after.disk) op.stage)
          (safe : (disk : Disk) → after.disk ≡ Some disk → IsDiskKept log outbox read me
          (tree.insert requests req (record { session = session; course = Commanding op })) session disk.snapshot disk.inode)
          (yet : (disk : Disk) → after.disk ≡ Some disk → IsHeldYet log outbox read me session disk) where
        abbrev made : Request
        made = record { session = session; course = Commanding op }

        abbrev then : Sessions
        then = tree.insert sessions session after

        disk_here : disk_of session then ≡ after.disk
        disk_here = ap (λ (o : Option Session). (unwrap_or o new_session).disk) (get-insert_same sessions session after)

        disk_there : (q : ℕ) → q ≢ session → disk_of q then ≡ disk_of q sessions
        disk_there q apart = ap (λ (o : Option Session). (unwrap_or o new_session).disk) (get-insert_other sessions session after q apart)

        here_kept : IsStageKept log outbox read from me session (opened_in session then) op.stage
        here_kept =
            subst (λ (opened : Option (Bool × ℕ)). IsStageKept log outbox read from me session opened op.stage)
            (sym (ap opened_as disk_here)) kept

        pub stepped_claims : Claims outbox (tree.insert requests req (record { session = session; course = Commanding op }))
            (tree.insert sessions session after)
        stepped_claims = record {
          unlocked = has.unlocked;
          commands = λ q request at got command. ⊎_elim
              (λ (here : (q ≡ req) × (made ≡ request)).
              subst (λ (r : Request). r.course ≡ Commanding at → IsStageKept log outbox read from me r.session (opened_in r.session then)
              at.stage) here.1 (λ is. let same : op ≡ at = cc (is) in
              subst (λ (o : Op). IsStageKept log outbox read from me session (opened_in session then) o.stage) same here_kept) command)
              (λ (there : (q ≢ req) × (tree.get requests q ≡ Some request)). ⊎_elim
              (λ (same : request.session ≡ session). absurd (there.0 (sole q request there.1 (command_so request.course at command) same)))
              (λ (apart : request.session ≢ session).
              subst (λ (opened : Option (Bool × ℕ)). IsStageKept log outbox read from me request.session opened at.stage)
              (sym (ap opened_as (disk_there request.session apart))) (has.commands q request at there.1 command))
              (cases_eq request.session session))
              (get-insert_cases requests req made q request got);
          disks = λ q disk opened. ⊎_elim
              (λ (same : q ≡ session).
              subst (λ (s : ℕ). IsDiskKept log outbox read me (tree.insert requests req made) s disk.snapshot disk.inode) (sym same)
              (safe disk (sym disk_here ∙ ap (λ (s : ℕ). disk_of s then) (sym same) ∙ opened)))
              (λ (apart : q ≢ session).
              disk_through log outbox read me requests (tree.insert requests req made) q disk.snapshot disk.inode
              (λ goes. still_let_there requests (tree.insert requests req made) req
              (λ other away. get-insert_other requests req made other away) q disk.inode.vid goes session own apart)
              (has.disks q disk (sym (disk_there q apart) ∙ opened)))
              (cases_eq q session);
          held_yet = λ q disk opened. ⊎_elim
              (λ (same : q ≡ session).
              subst (λ (s : ℕ). IsHeldYet log outbox read me s disk) (sym same)
              (yet disk (sym disk_here ∙ ap (λ (s : ℕ). disk_of s then) (sym same) ∙ opened)))
              (λ (apart : q ≢ session). has.held_yet q disk (sym (disk_there q apart) ∙ opened))
              (cases_eq q session);
        }

    -- ---- an entry is put that unlocks nothing

    module _ (sessions : Sessions) (last : Entry) (other : (session vid : ℕ) → unlocks session vid last ≡ false) where
      kept_behind : (session : ℕ) → KeepsAll session outbox (outbox ++ last ∷ [])
      kept_behind session vid kept =
          list_any-append (unlocks session vid) outbox (last ∷ [])
          ∙ (λ i. kept i || (other session vid i || false))

      no_unlock : (session vid : ℕ) → is_same_entry (unlock_of me session vid) last ≡ false
      no_unlock session vid = by_test (is_same_entry (unlock_of me session vid) last) refl
        where
          by_test : (b : Bool) → is_same_entry (unlock_of me session vid) last ≡ b → is_same_entry (unlock_of me session vid) last ≡ false
          by_test true same =
              let itself : unlocks session vid (unlock_of me session vid) ≡ true
              = and_from (session == session) (vid == vid) (eq-eqb session session refl) (eq-eqb vid vid refl) in
              absurd (both_ways (unlocks session vid last) (other session vid)
              (ap (unlocks session vid) (sym (same_entry (unlock_of me session vid) last same)) ∙ itself))
          by_test false apart = apart

      as_many : (session vid : ℕ) → times (unlock_of me session vid) (outbox ++ last ∷ []) ≡ times (unlock_of me session vid) outbox
      as_many session vid =
          let more : times (unlock_of me session vid) (outbox ++ last ∷ []) ≡ times (unlock_of me session vid) outbox + 0
          = times-push (unlock_of me session vid) outbox last
          ∙ ap (λ (b : Bool). times (unlock_of me session vid) outbox + once_if b) (no_unlock session vid) in
          omega (arith, more)

      -- where no entry that is to be published is this one
      pub stage_behind : (session : ℕ) (opened : Option (Bool × ℕ)) (stage : OpStage) → PutsNoMore outbox (outbox ++ last ∷ []) stage
          → IsStageKept log outbox read from me session opened stage
          → IsStageKept log (outbox ++ last ∷ []) read from me session opened stage
      stage_behind session opened stage =
          stage_over log outbox (outbox ++ last ∷ []) read from me session (kept_behind session) opened stage

      pub more_claims : ((req : ℕ) (request : Request) (op : Op) → tree.get requests req ≡ Some request → request.course ≡ Commanding op
          → PutsNoMore outbox (outbox ++ last ∷ []) op.stage) → Claims outbox requests sessions
          → Claims (outbox ++ last ∷ []) requests sessions
      more_claims no_more has = record {
        unlocked = λ session vid there.
            subst (IsUnlockKept log me session vid) (sym (as_many session vid))
            (has.unlocked session vid (subst (λ (k : ℕ). 1 ≤ k) (as_many session vid) there));
        commands = λ req request op there command.
            stage_behind request.session (opened_in request.session sessions) op.stage (no_more req request op there command)
            (has.commands req request op there command);
        disks = λ q disk opened.
            disk_over log outbox (outbox ++ last ∷ []) read from me q (kept_behind q) requests disk.snapshot disk.inode
            (has.disks q disk opened);
        held_yet = λ q disk opened working there.
            has.held_yet q disk opened working (subst (λ (k : ℕ). 1 ≤ k) (as_many q disk.inode.vid) there);
      }
