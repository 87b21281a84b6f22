use Rattle.std.proofs.Common.{◌∙◌, All, length, sym, subst, ap}
use Rattle.query_core.specs.Keys.{IsGroupInRange}
use Rattle.query_core.specs.declared.expressions.ExprParts.{ExprParts}
use Rattle.job_trace.specs.Memo.{groups_of, memo_line}
use Rattle.job_trace.proofs.memo.memo_line.Goals as goal

-- they are of groups with keys
pub line_of-requires : goal.line_of-requires
line_of-requires c =
    subst (All (λ (e : ExprParts). IsGroupInRange e.group)) (sym c.as_slice.ensures.value)
    (λ k d within. (let candidate = c.in_ok-members.ensures.candidates k d within in
    c.groups_are_known.ensures.in_range c.args.query.now _ candidate.known))

-- the line counts them and their groups
pub returns : goal.returns
returns c = record {
  members = c.in_ok-members.members.items;
  are = c.in_ok-members.ensures;
  is_line = c.in_ok-line_of.ensures ∙ ap (λ members. memo_line (length (groups_of members)) (length members))
      c.as_slice.ensures.value;
}
