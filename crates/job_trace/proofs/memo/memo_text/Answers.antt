use Rattle.std.proofs.Common.{◌∙◌, sym, subst, ap}
use Rattle.std.specs.List.{concat}
use Rattle.job_trace.specs.Memo.{memo_section}
use Rattle.job_trace.specs.Lines.{StandByGroup}
use Rattle.job_trace.proofs.Order.{stand_by_group}
use Rattle.job_trace.proofs.memo.memo_text.Goals as goal

-- they stand group by group, since their words ascend
pub text_of-requires : goal.text_of-requires
text_of-requires c =
    let q = c.args.query.now in
    subst (StandByGroup q) (sym c.as_slice.ensures.value)
    (stand_by_group q c.args.members.now c.in_ok-members.members.items (c.candidates_are_known.ensures.packed q)
    c.expressions_are_one.ensures.ordered c.in_ok-members.ensures)

-- the text is that of these members
pub returns : goal.returns
returns c = record {
  members = c.in_ok-members.members.items;
  are = c.in_ok-members.ensures;
  lines = c.in_ok-text_of.ensures ∙ ap (λ members. concat (memo_section c.args.query.now members))
      c.as_slice.ensures.value;
}
