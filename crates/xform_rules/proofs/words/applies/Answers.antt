use Rattle.std.proofs.Common.{◌≡◌, Some, subst}
use Rattle.xform_rules.specs.Results.{HasResult}
use Rattle.xform_rules.proofs.words.applies.Goals as goal

-- the number is that of one rule, and the word that of one expression
pub returns-in-Some-clause-needed : goal.returns-in-Some-clause-needed
returns-in-Some-clause-needed c bound n other (rule, e, result, member, number, is_word, is_bound, has, is_result) =
    let q = c.args.query.now in
    let found : Some c.in-Some.rule ≡ Some rule = c.in-Some.ensures.only rule number in
    let same : rule ≡ c.in-Some.rule = cc in
    c.applies_at.ensures.needed member n result
    (subst (λ x. HasResult q c.in-Some.rule x member n result) (c.candidate_of.ensures.only e is_word)
    (subst (λ r. HasResult q r e member n result) same has))
