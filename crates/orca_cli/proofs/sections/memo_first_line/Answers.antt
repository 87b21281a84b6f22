use Rattle.std.proofs.lemmas.Result.{IfOk-weaker}
use Rattle.orca_cli.proofs.sections.memo_first_line.Goals as goal

-- the words are those of the closure
pub memo_line-requires : goal.memo_line-requires
memo_line-requires c = record {
  candidates =
      c.members_are_known.ensures.candidates c.args.search.query.now c.args.search.members.now c.requires.closure;
  ascending = c.requires.closure.ascending;
}

-- the line is that of the closure
pub returns : goal.returns
returns c = IfOk-weaker c.memo_line.result _ _
    (λ line is. record { words = c.args.search.members.now; closure = c.requires.closure; is_line = is })
    c.memo_line.ensures
