use Rattle.std.proofs.Common.{◌≡◌, ◌++◌, List, length, sym, ap, ◌∙◌, codes}
use Rattle.std.specs.Prelude.{string_bytes}
use Rattle.std.specs.List.{concat}
use Rattle.std.proofs.lemmas.List.{length-map}
use Rattle.goal_space.specs.Words.{goal_word}
use Rattle.goal_space.specs.declared.goals.GoalKind.{GoalKind}
use Rattle.job_trace.specs.Trace.{crew_lines}
use Rattle.job_trace.proofs.crew.crew_text.Goals as goal

-- as many as words
pub push_crew_lines-requires-clause-each : goal.push_crew_lines-requires-clause-each
push_crew_lines-requires-clause-each c =
    c.requires.each ∙ ap length (sym c.in_ok-goals.ensures.numbers) ∙ length-map c.in_ok-goals.goals.items goal_word
    ∙ sym (ap length c.as_slice.ensures.value)

-- behind the first line come the lines of all goals
pub returns : goal.returns
returns c =
    let lines = λ (gs : List GoalKind). concat (crew_lines c.args.query.now gs c.args.who.now) in
    let first : string_bytes c.push_str.new.self ≡ codes "by-worker\n" =
    c.in_ok-push_str.ensures.bytes ∙ ap (λ text. text ++ codes "by-worker\n") c.new-text.ensures.bytes in
    record {
      kinds = c.in_ok-goals.goals.items;
      are = c.in_ok-goals.ensures;
      lines = ap (λ v. v.items) c.into_bytes.ensures.value ∙ c.in_ok-push_crew_lines.ensures.ok
          ∙ ap (λ text. text ++ lines c.as_slice.result.now) first
          ∙ ap (λ (gs : List GoalKind). codes "by-worker\n" ++ lines gs) c.as_slice.ensures.value;
    }
