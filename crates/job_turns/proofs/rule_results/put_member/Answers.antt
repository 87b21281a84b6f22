-- What the goal asks for is an entry.
use Rattle.std.proofs.Common.{sym, subst}
use Rattle.query_core.specs.declared.query.Query.{Query}
use Rattle.goal_board.specs.Seats.{hands}
use Rattle.goal_space.specs.Entries.{IsEntry}
use Rattle.job_turns.proofs.JobHeld.{job_put}
use Rattle.job_turns.proofs.MembersPut.{asked_enters, put_one, puts_full}
use Rattle.job_turns.proofs.rule_results.put_member.Goals as goal

pub insert-requires-clause-enters : goal.insert-requires-clause-enters
insert-requires-clause-enters c κs =
    subst (λ (p : Query). IsEntry p c.make.result.0) (sym c.requires.has_job.its.same_query)
    (subst (IsEntry c.args.search.now.query.now) (sym c.make.ensures.number)
    (asked_enters c.args.search.now.query.now c.args.job.now.right.goal c.args.e c.requires.asked))

pub returns-in-Full-clause-has_job : goal.returns-in-Full-clause-has_job
returns-in-Full-clause-has_job c =
    job_put c.args.search.now c.args.seat.now c.insert.new.seat c.args.job.now c.insert.ensures.seat
    c.requires.has_job c.make.result.0 c.insert.result c.insert.ensures.answer

pub returns-in-Full-clause-puts : goal.returns-in-Full-clause-puts
returns-in-Full-clause-puts c =
    puts_full c.args.search.now.query.now c.args.search.now.board.now.setup.capacity c.args.job.now.right
    (hands c.args.seat.now) c.args.e
    c.make.result.0 (hands c.insert.new.seat) c.requires.asked c.make.ensures.number c.in-Full.ensures.answer

pub returns-in_default-clause-has_job : goal.returns-in_default-clause-has_job
returns-in_default-clause-has_job c =
    job_put c.args.search.now c.args.seat.now c.insert.new.seat c.args.job.now c.insert.ensures.seat
    c.requires.has_job c.make.result.0 c.insert.result c.insert.ensures.answer

pub returns-in_default-clause-puts : goal.returns-in_default-clause-puts
returns-in_default-clause-puts c =
    put_one c.args.search.now.query.now c.args.search.now.board.now.setup.capacity c.args.job.now.right
    (hands c.args.seat.now)
    c.args.e
    c.make.result.0 c.insert.result (hands c.insert.new.seat) c.requires.asked c.make.ensures.number
    c.in_default.not-Full c.insert.ensures.answer
