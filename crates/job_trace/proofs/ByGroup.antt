-- Members that stand group by group: passing them once gives each group with its members.
use Rattle.std.proofs.Common.{◌≡◌, ℕ, ◌+◌, ◌<◌, ◌≤◌, cond, inl, inr, List, [], ◌∷◌, ◌++◌, ◌==◌, Option, Some, None}
use Rattle.std.proofs.Common.{refl, sym, ap, subst, ◌∙◌, arith, filter, get_or, suc, flat_map, map, length, eq-eqb}
use Rattle.std.proofs.Common.{ne_eqb, if◌then◌else◌}
use Rattle.std.specs.List.{dedup_from}
use Rattle.std.specs.List.Sorted.{IsNonDecreasingBy}
use Rattle.std.proofs.lemmas.Bool.{cases_eq}
use Rattle.query_core.specs.Keys.{key_number}
use Rattle.query_core.specs.declared.query.Query.{Query}
use Rattle.query_core.specs.declared.words.KeyParts.{KeyParts}
use Rattle.query_core.specs.declared.expressions.ExprParts.{ExprParts}
use Rattle.job_trace.specs.Groups.{group_line}
use Rattle.job_trace.specs.Members.{member_line}
use Rattle.job_trace.specs.Memo.{is_same, groups_of, group_lines}
use Rattle.job_trace.specs.Lines.{begins, heading}

-- the key of a member's group
abbrev pub key_of : ExprParts → ℕ
key_of e = key_number e.group

-- the keys do not fall, and none is below the limit
abbrev pub AreFrom : ℕ → List ExprParts → Type 0
AreFrom low [] = Unit {0}
AreFrom low (e ∷ es) = (low ≤ key_of e) × AreFrom (key_of e) es

-- the groups that begin behind members of this key
abbrev pub others : ℕ → List ExprParts → List KeyParts
others k [] = []
others k (e ∷ es) = cond (key_of e == k) (others k es) (e.group ∷ others (key_of e) es)

-- the members of this key
abbrev pub of_key : ℕ → List ExprParts → List ExprParts
of_key k es = filter (λ e. key_of e == k) es

-- the lines of the members that are left, each group's line where it begins
abbrev pub lines_from : Query → Option ℕ → List ExprParts → List (List ℕ)
lines_from q before [] = []
lines_from q before (e ∷ es) = heading q before e.group ++ (member_line q e ∷ lines_from q (Some (key_of e)) es)

-- how many groups begin among the members that are left
abbrev pub count_from : Option ℕ → List ExprParts → ℕ
count_from before [] = 0
count_from before (e ∷ es) = (if begins before (key_of e) then 1 else 0) + count_from (Some (key_of e)) es

-- the first group stays, and the others follow
pub each_once : (g : KeyParts) (es : List ExprParts)
    → dedup_from is_same g (map (λ e. e.group) es) ≡ g ∷ others (key_number g) es
each_once g [] = refl
each_once g (e ∷ es) = elim (cases_eq (key_of e) (key_number g)) [
  | inl same ↦ rw (eq-eqb _ _ same) (each_once g es)
  | inr other ↦ rw (ne_eqb _ _ other) (ap (λ rest. g ∷ rest) (each_once e.group es))
]

-- as many groups begin as there are others
count_others : (k : ℕ) (es : List ExprParts) → count_from (Some k) es ≡ length (others k es)
count_others k [] = refl
count_others k (e ∷ es) = elim (cases_eq (key_of e) k) [
  | inl same ↦ rw (eq-eqb _ _ same) (omega (arith, ap (λ x. count_from (Some x) es) same, count_others k es))
  | inr other ↦ rw (ne_eqb _ _ other) (omega (arith, count_others (key_of e) es))
]

-- from the first member on, all groups begin
pub count_all : (es : List ExprParts) → count_from None es ≡ length (groups_of es)
count_all [] = refl
count_all (e ∷ es) = omega (arith, count_others (key_of e) es, ap length (each_once e.group es))

-- a lesser key than all has no members
none_below : (k low : ℕ) (es : List ExprParts) → k < low → AreFrom low es → of_key k es ≡ []
none_below k low [] below from = refl
none_below k low (e ∷ es) below from =
    let other : key_of e ≡ k → ⊥ = λ same. omega (arith, same, below, from.0) in
    rw (ne_eqb _ _ other) (none_below k (key_of e) es (omega (arith, below, from.0)) from.1)

module _ (q : Query) where
  -- a member of a key that no later group has changes none of their lines
  unchanged : (e : ExprParts) (all : List ExprParts) (k : ℕ) (es : List ExprParts) → key_of e ≤ k → AreFrom k es
      → flat_map (group_lines q (e ∷ all)) (others k es) ≡ flat_map (group_lines q all) (others k es)
  unchanged e all k [] below from = refl
  unchanged e all k (f ∷ fs) below from = elim (cases_eq (key_of f) k) [
    | inl same ↦ rw (eq-eqb _ _ same) (unchanged e all k fs below (subst (λ x. AreFrom x fs) same from.1))
    | inr other ↦
        let apart : key_of e ≡ key_of f → ⊥ = λ same. other (omega (arith, same, below, from.0)) in
        rw (ne_eqb _ _ other, ne_eqb _ _ apart) (ap (λ rest. group_lines q all f.group ++ rest)
        (unchanged e all (key_of f) fs (omega (arith, below, from.0)) from.1))
  ]

  -- the lines of the members that are left, where those of their first key come first
  abbrev IsByGroup : ℕ → List ExprParts → Type 0
  IsByGroup k es = lines_from q (Some k) es ≡ map (member_line q) (of_key k es) ++ flat_map (group_lines q es)
      (others k es)

  -- a member that begins its group
  begun : (e : ExprParts) (es : List ExprParts) → AreFrom (key_of e) es → IsByGroup (key_of e) es
      → group_line q e.group ∷ (member_line q e ∷ lines_from q (Some (key_of e)) es) ≡ flat_map (group_lines q (e ∷ es))
      (e.group ∷ others (key_of e) es)
  begun e es from after =
      let rest = after ∙ ap (λ lines. map (member_line q) (of_key (key_of e) es) ++ lines)
      (sym (unchanged e es (key_of e) es (omega arith) from)) in
      rw (eq-eqb (key_of e) (key_of e) refl) (ap (λ lines. group_line q e.group ∷ (member_line q e ∷ lines)) rest)

  -- behind members of a key come those of this key, and then the other groups
  by_group : (k : ℕ) (es : List ExprParts) → AreFrom k es → IsByGroup k es
  by_group k [] from = refl
  by_group k (e ∷ es) from = elim (cases_eq (key_of e) k) [
    | inl same ↦
        let above = subst (λ x. AreFrom x es) same from.1 in
        let after = ap (λ x. lines_from q (Some x) es) same ∙ by_group k es above in
        let rest = after ∙ ap (λ lines. map (member_line q) (of_key k es) ++ lines)
        (sym (unchanged e es k es (omega (arith, same)) above)) in
        rw (eq-eqb _ _ same) (ap (λ lines. member_line q e ∷ lines) rest)
    | inr other ↦
        let below : k < key_of e = omega (arith, other, from.0) in
        rw (ne_eqb _ _ other, none_below k (key_of e) es below from.1)
        (begun e es from.1 (by_group (key_of e) es from.1))
  ]

  -- from the first member on, the lines are those of all groups
  pub all_by_group : (es : List ExprParts) → AreFrom 0 es
      → lines_from q None es ≡ flat_map (group_lines q es) (groups_of es)
  all_by_group [] from = refl
  all_by_group (e ∷ es) from =
      begun e es from.1 (by_group (key_of e) es from.1)
      ∙ ap (flat_map (group_lines q (e ∷ es))) (sym (each_once e.group es))

-- keys that do not fall, none below the limit
from_each : (low : ℕ) (es : List ExprParts) → ((j : ℕ) (d : ExprParts) → j < length es → low ≤ key_of (get_or es j d))
    → IsNonDecreasingBy key_of es → AreFrom low es
from_each low [] above sorted = tt
from_each low (e ∷ es) above sorted = (
  above 0 e (omega arith),
  from_each (key_of e) es (λ j d within. sorted 0 (suc j) d (omega arith) (omega (arith, within)))
      (λ i j d order within. sorted (suc i) (suc j) d (omega (arith, order)) (omega (arith, within))),
)

pub are_from : (es : List ExprParts) → IsNonDecreasingBy key_of es → AreFrom 0 es
are_from es sorted = from_each 0 es (λ j d within. omega arith) sorted
