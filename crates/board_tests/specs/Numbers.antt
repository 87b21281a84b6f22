-- Rules for the tests: the words from 1 to a limit may enter, those from 3 on are goals, 3 is a child of 4, and a goal
-- costs ten times its number.
use Rattle.std.specs.Prelude.{◌≡◌, ◌≢◌, ℕ, ◌*◌, ◌<◌, ◌≤◌, nat_le, IsTrue, List, [], ◌∷◌}
use Rattle.board_rule.specs.Records.{Claimed}
use Rattle.std.proofs.Common.{sym, ◌∙◌, subst, arith, refl}
use Rattle.board_rule.specs.Meaning.{Meaning}

abbrev pub numbers : ℕ → Meaning
numbers limit = record {
  entry = λ w. (1 ≤ w) × (w ≤ limit);
  goal = λ w. nat_le 3 w;
  child = λ g c. (g ≡ 4) × (c ≡ 3);
  asked = λ g w. ⊥;
  answer = λ g cost node. (cost ≡ 10 * g) × (node ≡ g);
}

pub zero_is_none : (limit word : ℕ) → (numbers limit).entry word → word ≢ 0
zero_is_none limit word enters none = let some = enters.0 in absurd (omega arith)

pub ranks_fall : (limit goal child : ℕ) → (numbers limit).child goal child → child < goal
ranks_fall limit goal child is = let g = is.0 in let c = is.1 in omega arith

pub children_enter : (limit goal child : ℕ) → (numbers limit).entry goal → (numbers limit).child goal child
    → (numbers limit).entry child × IsTrue ((numbers limit).goal child)
children_enter limit goal child enters is =
    let g = is.0 in let c = is.1 in let few = enters.1 in
    ((omega arith, omega arith), subst (λ x. IsTrue (nat_le 3 x)) (sym c) refl)

pub answers_are_one : (limit goal cost node other_cost other_node : ℕ) → (numbers limit).answer goal cost node
    → (numbers limit).answer goal other_cost other_node
    → (cost ≡ other_cost) × (node ≡ other_node)
answers_are_one limit goal cost node other_cost other_node a b = (a.0 ∙ sym b.0, a.1 ∙ sym b.1)

-- the rights are one alone, of the place
abbrev pub HasOnly : List Claimed → ℕ → Type 0
HasOnly rights place = (r : Claimed) × (r.place ≡ place) × (rights ≡ r ∷ [])
