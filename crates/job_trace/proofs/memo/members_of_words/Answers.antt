use Rattle.std.proofs.Common.{◌≡◌, sym, subst, ◌∙◌}
use Rattle.std.proofs.lemmas.Result.{IfOk-weaker}
use Rattle.goal_children.specs.GroupMembers.{AreOfWords}
use Rattle.job_trace.specs.Memo.{AreMembers}
use Rattle.job_trace.proofs.Known.{members_one}
use Rattle.job_trace.proofs.Order.{have_words}
use Rattle.job_trace.proofs.memo.members_of_words.Goals as goal

-- words of candidates are words of expressions
pub expressions-requires : goal.expressions-requires
expressions-requires c k d within =
    let (e, candidate, number) = c.requires.candidates k d within in
    (e, record { packed = c.candidates_are_known.ensures.packed c.args._query.now e candidate; number = number })

-- the words are those of members, and of one list of expressions
pub returns : goal.returns
returns c =
    let q = c.args._query.now in
    let words = c.args.words.now in
    let (es, are) = c.memos_are_known.ensures.there q words c.requires.candidates c.requires.ascending in
    let have : AreOfWords words es = have_words q words es (c.candidates_are_known.ensures.packed q) are in
    IfOk-weaker c.expressions.result _ _
    (λ made is. subst (AreMembers q words)
    (members_one c.expressions_are_one.ensures.expressions es made.items have.packed is.packed (have.numbers
    ∙ sym is.numbers)) are)
    c.expressions.ensures
