-- A child of a goal of the query is an entry.
use Rattle.std.proofs.Common.{inr, refl, sym, subst, ◌∙◌}
use Rattle.query_core.specs.declared.query.Query.{Query}
use Rattle.goal_board.specs.Seats.{hands}
use Rattle.board_moves.proofs.Working.{proceeds_put, runs_out_at}
use Rattle.goal_space.specs.Goals.{child_goal}
use Rattle.goal_space.specs.Entries.{IsEntry, IsChildWord}
use Rattle.goal_rules.specs.Meaning.{meaning_of}
use Rattle.job_turns.proofs.Staying.{small_of}
use Rattle.job_turns.proofs.JobHeld.{job_put}
use Rattle.job_turns.proofs.known_best.put_child.Goals as goal

pub put_goal-requires-clause-enters : goal.put_goal-requires-clause-enters
put_goal-requires-clause-enters g c κs within =
    let child = c.requires.child in
    let enters : IsEntry c.args.search.now.query.now c.args.word.0 =
    inr (
      c.args._child,
      record {
        is_goal = child_goal child.0 c.args._child child.1.is_goal child.2;
        number = c.requires.word;
      },
    ) in
    subst (λ (q : Query). IsEntry q c.args.word.0) (sym c.requires.at_work.has_job.its.same_query) enters

pub returns-in-Full-clause-at_work : goal.returns-in-Full-clause-at_work
returns-in-Full-clause-at_work g c =
    record {
      still = record {
        has_job = job_put c.args.search.now c.args.turn.now.seat.now c.put_goal.new.seat c.args.turn.now.job
            c.put_goal.ensures.seat c.requires.at_work.has_job c.args.word.0 c.put_goal.result
            c.put_goal.ensures.answer;
        hints = c.put_goal.ensures.hints ∙ c.requires.at_work.hints;
      };
      same_seat = refl;
      same_hints = refl;
    }

pub returns-in-Full-clause-puts : goal.returns-in-Full-clause-puts
returns-in-Full-clause-puts g c =
    let q = c.args.search.now.query.now in
    let child = c.requires.child in
    let right = c.args.turn.now.job.right in
    let known = (c.words_are_known.ensures.words q (small_of c.requires.at_work.has_job.its) child.0 c.args._child
    right.goal child.1 child.2).0 in
    record {
      same_right = refl;
      puts = runs_out_at (meaning_of q) c.args.search.now.board.now.setup.capacity (IsChildWord q right.goal)
          (hands c.args.turn.now.seat.now) right
          c.args.word.0 (hands c.put_goal.new.seat) (subst (IsChildWord q right.goal) c.requires.word
          known)
          c.in-Full.ensures.answer;
    }

pub returns-in_default-clause-at_work : goal.returns-in_default-clause-at_work
returns-in_default-clause-at_work g c =
    record {
      still = record {
        has_job = job_put c.args.search.now c.args.turn.now.seat.now c.put_goal.new.seat c.args.turn.now.job
            c.put_goal.ensures.seat c.requires.at_work.has_job c.args.word.0 c.put_goal.result
            c.put_goal.ensures.answer;
        hints = c.put_goal.ensures.hints ∙ c.requires.at_work.hints;
      };
      same_seat = refl;
      same_hints = refl;
    }

pub returns-in_default-clause-puts : goal.returns-in_default-clause-puts
returns-in_default-clause-puts g c =
    let q = c.args.search.now.query.now in
    let child = c.requires.child in
    let right = c.args.turn.now.job.right in
    let known = (c.words_are_known.ensures.words q (small_of c.requires.at_work.has_job.its) child.0 c.args._child
    right.goal child.1 child.2).0 in
    record {
      same_right = refl;
      puts = proceeds_put (meaning_of q) c.args.search.now.board.now.setup.capacity (IsChildWord q right.goal)
          (hands c.args.turn.now.seat.now) right
          c.args.word.0 c.put_goal.result (hands c.put_goal.new.seat)
          (subst (IsChildWord q right.goal) c.requires.word known) c.in_default.not-Full
          c.put_goal.ensures.answer;
    }
