use Rattle.orca_cli.proofs.Causes.{causes_of}
use Rattle.orca_cli.proofs.DumpAnswers.{one_dump_of}
use Rattle.orca_cli.proofs.DumpCauses.{dump_causes_of}
use Rattle.orca_cli.proofs.OneAnswer.{one_answer_of}
use Rattle.orca_cli.proofs.laws.endings_have_causes.Goals as goal

-- a text has one reading, a query one list of links, and it has room or not, so the causes of an ending are its own
pub returns : goal.returns
returns c =
    let one = one_answer_of c.one_outcome.ensures.reading c.one_outcome.ensures.fault c.one_outcome.ensures.either
    c.links_are_one.ensures.links c.entries_fit_or_not.ensures in
    record {
      causes = causes_of one c.outcomes_are_one.ensures;
      dumps = dump_causes_of one
          (one_dump_of c.dumps_are_one.ensures.one c.dumps_are_one.ensures.fault c.dumps_are_one.ensures.either);
    }
