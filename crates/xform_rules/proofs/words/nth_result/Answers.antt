use Rattle.std.proofs.Common.{◌≡◌, Some, subst, sym}
use Rattle.xform_rules.specs.Forms.{Finds}
use Rattle.xform_rules.specs.Results.{HasResult, HasResultWord}
use Rattle.xform_rules.proofs.words.nth_result.Goals as goal

-- the number is that of one rule, and the words those of one expression each, which has no such result
pub returns-in_err-other : goal.returns-in_err-other
returns-in_err-other c =
    let q = c.args.query.now in
    let n = c.args.n in
    subst (Finds (HasResultWord q c.args.rule c.args.expr c.args.bound n)) (sym c.from_residual-in_err-other.ensures)
    (λ other (rule, e, result, member, number, is_word, is_bound, has, is_result).
    let found : Some c.in_ok-rule.rule ≡ Some rule = c.in_ok-rule.ensures.only rule number in
    let same : rule ≡ c.in_ok-rule.rule = cc in
    c.in_err-other.ensures result
    (subst (λ m. HasResult q c.in_ok-rule.rule c.candidate_of-e.result m n result)
    (c.member_of-member.ensures.only member is_bound)
    (subst (λ x. HasResult q c.in_ok-rule.rule x member n result) (c.candidate_of-e.ensures.only e is_word)
    (subst (λ r. HasResult q r e member n result) same has))))

-- the result of a candidate is one
pub word_of-requires : goal.word_of-requires
word_of-requires c =
    c.results_are_candidates.ensures.candidates c.args.query.now c.in_ok-rule.rule c.candidate_of-e.result
    c.member_of-member.result c.args.n c.in_ok-other.other
    c.candidate_of-e.ensures.value.0 c.member_of-member.ensures.candidate c.in_ok-other.ensures
