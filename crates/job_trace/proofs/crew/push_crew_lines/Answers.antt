use Rattle.std.proofs.Common.{◌++◌, codes, decimal, get_or, rules, string_bytes, arith}
use Rattle.query_text.specs.Added.{AddsText}
use Rattle.job_trace.proofs.CrewLines.{crew_more, crew_all}
use Rattle.job_trace.proofs.crew.push_crew_lines.Goals as goal

-- one more line
pub loop-place-preserved : goal.loop-place-preserved
loop-place-preserved c =
    let who = c.args.who.now in
    let i = c.loop-place.place in
    let written : AddsText (string_bytes c.loop-place.text) (decimal (get_or who i 0) ++ codes " ")
    (string_bytes c.write.new.self) = search rules in
    record {
      added = crew_more c.args.query.now c.args.goals.now who i _ c.loop-place-test.true
          (omega (arith, c.requires.each, c.loop-place-test.true))
          (string_bytes c.loop-place.text) (string_bytes c.write.new.self) (string_bytes c.push_goal_line.new.text) _
          c.loop-place.invariant.added written c.in_ok-push_goal_line.ensures.ok;
      kept = c.in_ok-push_goal_line.ensures.kept;
    }

-- no line is left
pub returns : goal.returns
returns c = record {
  ok = crew_all c.args.query.now c.args.goals.now c.args.who.now c.loop-place.place c.loop-place-test.false
      (string_bytes c.loop-place.text) _ c.loop-place.invariant.added;
}
