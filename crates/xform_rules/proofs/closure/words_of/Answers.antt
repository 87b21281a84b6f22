use Rattle.std.proofs.Common.{◌≡◌, ◌∙◌, ap, sym, arith, ◌+◌, ◌≤◌, ◌<◌, inl, inr}
use Rattle.std.proofs.lemmas.Bool.{cases_lt}
use Rattle.query_core.specs.Keys.{key_number}
use Rattle.query_core.specs.Expressions.{word_of}
use Rattle.xform_rules.proofs.Ranges.{in_part, part_between, take_rises, drop_rises, take_has, drop_has}
use Rattle.xform_rules.proofs.closure.words_of.Goals as goal

-- the group's words are not below the first word of its key, and below the first one of the next
pub returns-clause-members : goal.returns-clause-members
returns-clause-members c e packed same there =
    let key : c.make-key.result.0 ≡ key_number e.group = c.make-key.ensures.number ∙ ap key_number (sym same) in
    let low = c.first_word.result in
    let high = c.first_word-2.result in
    let above : low ≤ word_of e = (c.first_word.ensures e packed).1 (omega (arith, key)) in
    let below : word_of e < high = elim (cases_lt (word_of e) high) [
      | inl less ↦ less
      | inr more ↦ absurd (omega (arith, key, (c.first_word-2.ensures e packed).0 more))
    ] in
    in_part c.args.words.now c.count_below.result c.count_below-2.result low high (word_of e)
    c.count_below.ensures.before c.count_below-2.ensures.after above below there

-- no other key has words there
pub returns-clause-only : goal.returns-clause-only
returns-clause-only c e packed there =
    let low = c.first_word.result in
    let high = c.first_word-2.result in
    let (above, below) = part_between c.args.words.now c.count_below.result c.count_below-2.result low high (word_of e)
    c.count_below.ensures.after c.count_below-2.ensures.before there in
    let from : c.make-key.result.0 ≤ key_number e.group = (c.first_word.ensures e packed).0 above in
    let to : key_number e.group < c.make-key.result.0 + 1 =
    elim (cases_lt (key_number e.group) (c.make-key.result.0 + 1)) [
      | inl less ↦ less
      | inr more ↦ absurd (omega (arith, below, (c.first_word-2.ensures e packed).1 more))
    ] in
    c.expressions_are_one.ensures.groups e.group c.args.group packed.group c.requires.in_range
    (omega (arith, from, to, c.make-key.ensures.number))

-- the words of a group are some of them, in their order
pub returns-clause-rises : goal.returns-clause-rises
returns-clause-rises c =
    take_rises _ c.count_below-2.result
    (take_rises _ _ (drop_rises c.args.words.now c.count_below.result c.requires.ascending))

pub returns-clause-part : goal.returns-clause-part
returns-clause-part c word there =
    drop_has c.args.words.now c.count_below.result word
    (take_has _ _ word (take_has _ c.count_below-2.result word there))
