use Rattle.std.proofs.lemmas.Result.{IfOk-weaker}
use Rattle.orca_cli.proofs.sections.memo_section.Goals as goal

-- the words are those of the closure
pub memo_text-requires : goal.memo_text-requires
memo_text-requires c = record {
  candidates =
      c.members_are_known.ensures.candidates c.args.search.query.now c.args.search.members.now c.requires.closure;
  ascending = c.requires.closure.ascending;
}

-- the text is that of the closure
pub returns : goal.returns
returns c = IfOk-weaker c.memo_text.result _ _
    (λ text is. record { words = c.args.search.members.now; closure = c.requires.closure; is_text = is })
    c.memo_text.ensures
