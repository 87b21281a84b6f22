use Rattle.std.proofs.Common.{◌≡◌, ◌++◌, All, List, ℕ, map, flat_map, sym, subst, ap, ◌∙◌}
use Rattle.std.specs.Prelude.{string_bytes}
use Rattle.std.specs.List.{concat}
use Rattle.goal_children.specs.Over.{IsGoalOver}
use Rattle.job_trace.specs.Trace.{AreGoals, trace_line, traced_lines}
use Rattle.job_trace.proofs.trace.trace_text.Goals as goal

-- the goals are goals over the query
pub push_all_traced-requires-clause-goals : goal.push_all_traced-requires-clause-goals
push_all_traced-requires-clause-goals c =
    subst (All (IsGoalOver c.args.query.now)) (sym c.as_slice-2.ensures.value) c.in_ok-goals.ensures.over

-- behind the first line come the lines of all goals
pub returns : goal.returns
returns c =
    let added = c.in_ok-push_all_traced.ensures.ok in
    let shown : map (λ t. t.goal) added.traced ≡ c.in_ok-goals.goals.items = added.are_goals
    ∙ c.as_slice-2.ensures.value in
    let rest : List ℕ = concat (flat_map (traced_lines c.args.query.now) added.traced) in
    let first : string_bytes c.push_trace_line.new.text ≡ trace_line (map (λ t. t.goal) added.traced) =
    c.in_ok-push_trace_line.ensures.ok ∙ ap (λ text. text ++ trace_line c.as_slice.result.now) c.new-text.ensures.bytes
    ∙ ap trace_line (c.as_slice.ensures.value ∙ sym shown) in
    record {
      traced = added.traced;
      are = record {
        are_goals = subst (AreGoals c.args.query.now c.args.goals.now) (sym shown) c.in_ok-goals.ensures;
        children = added.children;
      };
      lines = ap (λ v. v.items) c.into_bytes.ensures.value ∙ added.adds ∙ ap (λ text. text ++ rest) first;
    }
