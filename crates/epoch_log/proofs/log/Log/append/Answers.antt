use Rattle.std.proofs.Common.{◌≡◌, ◌∷◌, [], ◌++◌, List, ap, sym, ◌∙◌, subst}
use Rattle.object_id.specs.declared.entry.Entry.{Entry}
use Rattle.epoch_log.specs.Appending.{IsLog, MayAppend}
use Rattle.epoch_log.specs.Tally.{IsTally, AreMarks, mark_of}
use Rattle.epoch_log.proofs.MembersLemmas.{IsLog-push}
use Rattle.epoch_log.proofs.TallyLemmas.{marks-push}
use Rattle.epoch_log.proofs.log.Log.append.Goals as goal

pub mark-requires-clause-log : goal.mark-requires-clause-log
mark-requires-clause-log c =
    let before : List Entry = c.self.inside.entries.items in
    let may : MayAppend before c.args.entry = subst (λ (all : List Entry). MayAppend all c.args.entry) (sym c.self.view_is) c.requires in
    subst IsLog
    (sym (c.as_slice-2.ensures.value ∙ c.push_reserved.ensures.items ∙ ap (λ (all : List Entry). all ++ c.args.entry ∷ []) c.reserve.ensures.items))
    (IsLog-push before c.args.entry c.self.invariant.0 may)

pub invariant_of-self-2 : goal.invariant_of-self-2
invariant_of-self-2 c =
    let before : List Entry = c.self.inside.entries.items in
    let later : List Entry = before ++ c.args.entry ∷ [] in
    let room : c.reserve.new.self.items ≡ before = c.reserve.ensures.items in
    let entries : c.push_reserved.new.self.items ≡ later
    = c.push_reserved.ensures.items ∙ ap (λ (all : List Entry). all ++ c.args.entry ∷ []) room in
    let may : MayAppend before c.args.entry = subst (λ (all : List Entry). MayAppend all c.args.entry) (sym c.self.view_is) c.requires in
    let seen : c.as_slice.result.now ≡ before = c.as_slice.ensures.value ∙ room in
    let marked : c.mark.result ≡ mark_of later = c.mark.ensures ∙ ap mark_of (c.as_slice-2.ensures.value ∙ entries) in
    let kept : AreMarks before c.reserve-2.new.self.items = subst (AreMarks before) (sym c.reserve-2.ensures.items) c.self.invariant.2 in
    let marks : c.push_reserved-2.new.self.items ≡ c.reserve-2.new.self.items ++ c.mark.result ∷ [] = c.push_reserved-2.ensures.items in
    let tally : IsTally later c.count.new.self
    = subst (λ (all : List Entry). IsTally (all ++ c.args.entry ∷ []) c.count.new.self) seen c.in_ok-count.ensures.ok in
    subst (λ (all : List Entry). IsLog all × IsTally all c.count.new.self × AreMarks all c.push_reserved-2.new.self.items) (sym entries) (
      IsLog-push before c.args.entry c.self.invariant.0 may,
      tally,
      subst (AreMarks later) (sym marks) (marks-push before c.args.entry c.reserve-2.new.self.items c.mark.result kept marked),
    )
