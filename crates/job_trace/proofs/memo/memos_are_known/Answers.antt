use Rattle.std.proofs.Common.{◌≡◌, ◌++◌, List, ℕ, ap, flat_map, length, sym, ◌∙◌}
use Rattle.std.specs.List.{concat}
use Rattle.query_core.specs.declared.query.Query.{Query}
use Rattle.query_core.specs.declared.expressions.ExprParts.{ExprParts}
use Rattle.job_trace.specs.Memo.{AreMembers, groups_of, group_lines, memo_line, memo_section}
use Rattle.goal_children.specs.GroupMembers.{AreOfWords}
use Rattle.job_trace.proofs.ByGroup.{AreFrom, are_from}
use Rattle.job_trace.proofs.Order.{have_words, stand_by_group}
use Rattle.job_trace.proofs.Known.{members_there, members_one, groups_rise, lines_each}
use Rattle.job_trace.proofs.memo.memos_are_known.Goals as goal

-- candidates fit their words
have : (c : goal.After-expressions_are_one) → (q : Query) (words : List ℕ) (es : List ExprParts) → AreMembers q words es
    → AreOfWords words es
have c q words es are = have_words q words es (c.candidates_are_known.ensures.packed q) are

-- which therefore are those of one list
one : (c : goal.After-expressions_are_one) → (q : Query) (words : List ℕ) (es fs : List ExprParts)
    → AreMembers q words es → AreMembers q words fs → es ≡ fs
one c q words es fs are also =
    members_one c.expressions_are_one.ensures.expressions es fs (have c q words es are).packed
    (have c q words fs also).packed (are.numbers ∙ sym also.numbers)

-- whose keys do not fall
from : (c : goal.After-expressions_are_one) → (q : Query) (words : List ℕ) (es : List ExprParts) → AreMembers q words es
    → AreFrom 0 es
from c q words es are = are_from es (stand_by_group q words es (c.candidates_are_known.ensures.packed q)
    c.expressions_are_one.ensures.ordered are).ascending

pub returns : goal.returns
returns c = record {
  there = members_there;
  one = one c;
  text = λ q words text other is again.
      is.lines ∙ ap (λ es. concat (memo_section q es)) (one c q words is.members again.members is.are again.are)
      ∙ sym again.lines;
  line = λ q words line other is again.
      is.is_line ∙ ap (λ es. memo_line (length (groups_of es)) (length es))
      (one c q words is.members again.members is.are again.are) ∙ sym again.is_line;
  begins = λ q words text line is first.
      let rest : List ℕ = concat (flat_map (group_lines q is.members) (groups_of is.members)) in (
        rest,
        is.lines ∙ ap (λ start. start ++ rest)
            (ap (λ es. memo_line (length (groups_of es)) (length es))
            (one c q words is.members first.members is.are first.are) ∙ sym first.is_line),
      );
  groups = λ q words es are. groups_rise es (from c q words es are);
  lines = λ q words es are. lines_each q es (from c q words es are);
}
