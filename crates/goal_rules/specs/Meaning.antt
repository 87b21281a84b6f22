-- The search of a query as the rules of a board: its entries, the goals among them, and what a goal waits for, asks for
-- and answers.
use Rattle.query_core.specs.Goals.{has_goal_bit}
use Rattle.query_core.specs.declared.query.Query.{Query}
use Rattle.board_rule.specs.Meaning.{Meaning}
use Rattle.goal_space.specs.Entries.{IsEntry, IsChildWord, IsAskedWord}
use Rattle.goal_rules.specs.Answers.{IsAnswerWord}

abbrev pub meaning_of : Query → Meaning
meaning_of q = record {
  entry = IsEntry q;
  goal = has_goal_bit;
  child = IsChildWord q;
  asked = IsAskedWord q;
  answer = IsAnswerWord q;
}
