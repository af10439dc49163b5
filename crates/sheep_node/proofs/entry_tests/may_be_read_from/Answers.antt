use Rattle.std.proofs.Common.{◌≡◌, ◌≤◌, ◌+◌, ℕ, cond, refl, ap, sym, ◌∙◌, List, length, take, get_or, arith}
use Rattle.std.proofs.lemmas.Bool.Decides.{same_from_decides}
use Rattle.std.proofs.lemmas.List.{length-take-le}
use Rattle.object_id.specs.declared.entry.Entry.{Entry}
use Rattle.epoch_log.specs.Epochs.{begins_epoch}
use Rattle.sheep_node.specs.EntryTests.{begun_by}
use Rattle.sheep_node.specs.MayTests.{may_read_entry}
use Rattle.sheep_node.proofs.MayTestLaws.{read_tested}
use Rattle.sheep_node.proofs.EntryTestLemmas.{begun_within, begun_more, read_on, read_no_more}
use Rattle.sheep_node.proofs.entry_tests.may_be_read_from.Goals as goal

pub loop-place-init : goal.loop-place-init
loop-place-init c =
    let before : List Entry = take c.args.first c.args.entries.now in
    let long : length before ≡ c.args.first = length-take-le c.args.first c.args.entries.now c.requires in
    let few : begun_by before ≤ length before = begun_within before in
    let is : c.begun_by-begun.result ≡ begun_by before = c.begun_by-begun.ensures in
    record { begun = is; within = omega arith; read = refl }

pub returns-then-not-may_be_read : goal.returns-then-not-may_be_read
returns-then-not-may_be_read c =
    let entries : List Entry = c.args.entries.now in
    let place : ℕ = c.loop-place.place in
    let entry : Entry = c.index-entries-place.result in
    let tested : c.may_be_read.result ≡ may_read_entry (take place entries) entry
    = same_from_decides c.may_be_read.result (may_read_entry (take place entries) entry) c.may_be_read.ensures (read_tested (take place entries) entry) in
    sym (c.loop-place.invariant.read
    ∙ read_no_more entries place entry c.may_be_read.result c.loop-place-test.true
    (tested ∙ ap (may_read_entry (take place entries)) c.index-entries-place.is) c.if-not-may_be_read.true)

pub loop-place-preserved : goal.loop-place-preserved
loop-place-preserved c =
    let entries : List Entry = c.args.entries.now in
    let place : ℕ = c.loop-place.place in
    let entry : Entry = c.index-entries-place.result in
    let next : Entry = c.index-entries-place-in-loop-place.result in
    let tested : c.may_be_read.result ≡ may_read_entry (take place entries) entry
    = same_from_decides c.may_be_read.result (may_read_entry (take place entries) entry) c.may_be_read.ensures (read_tested (take place entries) entry) in
    let more : begun_by (take (place + 1) entries) ≡ begun_by (take place entries) + cond (begins_epoch (get_or entries place next)) 1 0
    = begun_more entries place next c.loop-place-test.true in
    let few : begun_by (take (place + 1) entries) ≤ length (take (place + 1) entries) = begun_within (take (place + 1) entries) in
    let long : length (take (place + 1) entries) ≡ place + 1 = length-take-le (place + 1) entries (omega (arith, c.loop-place-test.true)) in
    let begun : c.begun_with-begun.result ≡ begun_by (take (place + 1) entries)
    = c.begun_with-begun.ensures
    ∙ ap (λ (n : ℕ). n + cond (begins_epoch next) 1 0) c.loop-place.invariant.begun
    ∙ ap (λ (e : Entry). begun_by (take place entries) + cond (begins_epoch e) 1 0) c.index-entries-place-in-loop-place.is
    ∙ sym more in
    record {
      begun = begun;
      within = omega arith;
      read = c.loop-place.invariant.read
          ∙ read_on entries place entry c.may_be_read.result c.loop-place-test.true
          (tested ∙ ap (may_read_entry (take place entries)) c.index-entries-place.is) c.if-not-may_be_read.false;
    }
