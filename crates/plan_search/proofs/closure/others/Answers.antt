use Rattle.std.proofs.Common.{◌≡◌, ◌++◌, ◌+◌, ◌<◌, ◌∷◌, [], get_or, length, take, ap, sym, subst, ◌∙◌}
use Rattle.std.specs.List.{Contains}
use Rattle.std.proofs.lemmas.List.{take_all}
use Rattle.plan_search.specs.Steps.{AreOthers}
use Rattle.plan_search.proofs.WordLists.{others_none, others_same, others_more, found_there}
use Rattle.plan_search.proofs.closure.others.Goals as goal
use Rattle.plan_search.proofs.closure.others.Goals.{then-is_err+in_ok-push, else-is_err}

pub loop-word-init : goal.loop-word-init
loop-word-init c = subst (AreOthers [] c.args.some.now) (sym c.new-new.ensures.items)
    (others_none c.args.words.now c.args.some.now)

-- the next word is one of some, or comes behind the new ones
pub loop-word-preserved : goal.loop-word-preserved
loop-word-preserved c =
    let words = c.args.words.now in
    let some = c.args.some.now in
    let old = c.loop-word.new.items in
    let i = c.loop-word.word-index in
    let within : i < length words = c.loop-word-test.true in
    elim c.if-is_err.branch [
      | then-is_err+in_ok-push w ↦
          let more : c.if-is_err.new.items ≡ old ++ get_or words i 0 ∷ [] = ap (λ v. v.items) w.new-is
          ∙ w.in_ok-push.ensures.items in
          subst (AreOthers (take (i + 1) words) some) (sym more)
          (others_more words i within some old c.loop-word.invariant c.requires)
      | else-is_err w ↦
          let same : c.if-is_err.new.items ≡ old = ap (λ v. v.items) w.new-is in
          let known : Contains some (get_or words i 0) =
          found_there some (get_or words i 0) c.binary_search.result (sym c.is_err.ensures.value ∙ w.if-is_err.false)
          c.binary_search.ensures.bound c.binary_search.ensures.ok in
          subst (AreOthers (take (i + 1) words) some) (sym same)
          (others_same words i within some old c.loop-word.invariant known)
    ]

-- all words have been looked at
pub returns : goal.returns
returns c =
    subst (λ xs. AreOthers xs c.args.some.now c.loop-word.new.items)
    (take_all c.loop-word.word-index c.args.words.now c.loop-word-test.false) c.loop-word.invariant
