-- The lines of stages, and of one stage more.
use Rattle.std.proofs.Common.{◌≡◌, ℕ, suc, ◌+◌, ◌<◌, List, []}
use Rattle.std.proofs.Common.{◌∷◌, ◌++◌, length, get_or, take, take-suc, add-one, Option}
use Rattle.std.proofs.Common.{ap, sym, ◌∙◌, append_assoc, arith}
use Rattle.std.proofs.lemmas.List.{append-nil, get_or_default, length-take-le}
use Rattle.orca_cli.specs.Staged.{stage_line, lines_from}

-- the line of one stage more is behind the others
pub lines_push : (n k : ℕ) (costs : List (Option ℕ)) (cost : Option ℕ) → k ≡ n + length costs
    → lines_from n (costs ++ cost ∷ []) ≡ lines_from n costs ++ stage_line k cost
lines_push n k [] cost is =
    let same : n ≡ k = omega (arith, is) in
    append-nil (stage_line n cost) ∙ ap (λ (j : ℕ). stage_line j cost) same
lines_push n k (first ∷ more) cost is =
    ap (λ l. stage_line n first ++ l) (lines_push (suc n) k more cost (omega (arith, is)))
    ∙ sym (append_assoc (stage_line n first) (lines_from (suc n) more) (stage_line k cost))

-- the same of the stages that have run so far
pub lines_more : (costs : List (Option ℕ)) (n : ℕ) (cost d : Option ℕ) → n < length costs → cost ≡ get_or costs n d
    → (front old line new : List ℕ) → old ≡ front ++ lines_from 0 (take n costs) → line ≡ stage_line n cost
    → new ≡ old ++ line → new ≡ front ++ lines_from 0 (take (n + 1) costs)
lines_more costs n cost d near is front old line new was is_line is_new =
    let here : cost ≡ get_or costs n cost = is ∙ get_or_default costs n d cost near in
    let taken : take (n + 1) costs ≡ take n costs ++ cost ∷ [] = ap (λ k. take k costs) (add-one n)
    ∙ take-suc costs n cost near ∙ ap (λ x. take n costs ++ x ∷ []) (sym here) in
    let long : length (take n costs) ≡ n = length-take-le n costs (omega (arith, near)) in
    is_new ∙ ap (λ o. o ++ line) was ∙ append_assoc front (lines_from 0 (take n costs)) line
    ∙ ap (λ l. front ++ l) (ap (λ l. lines_from 0 (take n costs) ++ l) is_line
    ∙ sym (lines_push 0 n (take n costs) cost (omega (arith, long))) ∙ ap (lines_from 0) (sym taken))
