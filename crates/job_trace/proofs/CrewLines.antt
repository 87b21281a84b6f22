-- The lines by worker, one after the other.
use Rattle.std.proofs.Common.{◌≡◌, ℕ, ◌+◌, ◌<◌, ◌≤◌, List, [], ◌∷◌, ◌++◌, append_assoc, codes, decimal, drop, get_or}
use Rattle.std.proofs.Common.{length, sym, ap, ◌∙◌}
use Rattle.std.specs.List.{concat}
use Rattle.std.proofs.lemmas.List.{append-nil, drop_all, drop_more}
use Rattle.query_core.specs.declared.query.Query.{Query}
use Rattle.goal_space.specs.declared.goals.GoalKind.{GoalKind}
use Rattle.query_text.specs.Added.{AddsText}
use Rattle.job_trace.specs.Goals.{goal_line}
use Rattle.job_trace.specs.Trace.{crew_lines}
use Rattle.job_trace.proofs.Adding.{adds_more}

-- the lines that are left from a place on
abbrev pub left_from : Query → List GoalKind → List ℕ → ℕ → List ℕ
left_from q goals who i = concat (crew_lines q (drop i goals) (drop i who))

-- what was added, and the lines that are left, are the whole, also with one more line
pub crew_more : (q : Query) (goals : List GoalKind) (who : List ℕ) (i : ℕ) (d : GoalKind) → i < length goals
    → i < length who → (text middle after whole : List ℕ)
    → text ++ left_from q goals who i ≡ whole → AddsText text (decimal (get_or who i 0) ++ codes " ") middle
    → AddsText middle (goal_line q (get_or goals i d)) after
    → after ++ left_from q goals who (i + 1) ≡ whole
crew_more q goals who i d within within_who text middle after whole is worker line =
    let this : List ℕ = (decimal (get_or who i 0) ++ codes " ") ++ goal_line q (get_or goals i d) in
    let rest = left_from q goals who (i + 1) in
    let left : left_from q goals who i ≡ this ++ rest =
    ap (λ gs. concat (crew_lines q gs (drop i who))) (drop_more goals i d within)
    ∙ ap (λ ws. concat (crew_lines q (get_or goals i d ∷ drop (i + 1) goals) ws)) (drop_more who i 0 within_who) in
    let added : after ≡ text ++ this =
    adds_more text (decimal (get_or who i 0) ++ codes " ") middle (goal_line q (get_or goals i d)) after worker line in
    ap (λ t. t ++ rest) added ∙ append_assoc text this rest ∙ ap (λ t. text ++ t) (sym left) ∙ is

-- at the end no line is left
pub crew_all : (q : Query) (goals : List GoalKind) (who : List ℕ) (i : ℕ) → length goals ≤ i → (text whole : List ℕ)
    → text ++ left_from q goals who i ≡ whole → text ≡ whole
crew_all q goals who i past text whole is =
    let none : left_from q goals who i ≡ [] =
    ap (λ gs. concat (crew_lines q gs (drop i who))) (drop_all i goals past) in
    sym (append-nil text) ∙ ap (λ t. text ++ t) (sym none) ∙ is
