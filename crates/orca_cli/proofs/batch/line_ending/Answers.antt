use Rattle.std.proofs.lemmas.Result.{IfOk-weaker}
use Rattle.orca_cli.specs.Answers.{searched}
use Rattle.orca_cli.proofs.batch.line_ending.Goals as goal

-- the query for which the line asks was searched
pub returns-in-Ok : goal.returns-in-Ok
returns-in-Ok c =
    IfOk-weaker c.searched_alone.result _ _
    (λ ending found. record {
      note = c.searched_alone.new.note;
      answer = searched c.in-Ok.asked.query c.in-Ok.ensures.asks.query_is found;
    }) c.searched_alone.ensures
