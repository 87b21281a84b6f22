-- The root's goal is an entry.
use Rattle.std.proofs.Common.{sym, subst, inr}
use Rattle.std.proofs.lemmas.Bool.{le-leb}
use Rattle.query_core.specs.Goals.{goal_bit}
use Rattle.goal_space.specs.Entries.{IsEntry}
use Rattle.goal_space.specs.Goals.{root_goal_of, root_goal}
use Rattle.job_engine.proofs.engine.Engine.start_on.Goals as goal

pub start-requires-clause-goal : goal.start-requires-clause-goal
start-requires-clause-goal c κs within = (
  subst (λ q. IsEntry q c.root_word-root.result.0) (sym c.new-rules.ensures)
      (inr (
        root_goal_of c.args.query.now,
        record {
          is_goal = root_goal;
          number = sym c.root_word-root.ensures.number;
        },
      )),
  le-leb goal_bit c.root_word-root.result.0 c.root_word-root.ensures.high,
)
