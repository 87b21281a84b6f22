-- The order of plans by cost and then by code.
use Rattle.std.proofs.Common.{◌≡◌, ◌<◌, inl, inr, ℕ, List, Less, Equal, Greater, arith, refl, sym, ◌∙◌}
use Rattle.std.specs.Ordering.{nat_cmp}
use Rattle.std.specs.Cmp.Lexicographic.{slice_cmp}
use Rattle.std.proofs.lemmas.Bool.{cases_order}
use Rattle.std.proofs.lemmas.Cmp.{nat_list_cmp_total, tied_itself}
use Rattle.query_core.specs.declared.query.Query.{Query}
use Rattle.plan_space.specs.Nodes.{Tree, code_of}
use Rattle.plan_space.specs.Cost.{cost_of}
use Rattle.plan_space.specs.Least.{IsLess}

pub less_not_itself : (q : Query) (plan : Tree) → IsLess q plan plan → ⊥
less_not_itself q plan (inl less) = omega arith
less_not_itself q plan (inr (same, less)) = let tied = tied_itself nat_list_cmp_total (code_of plan) in cc

pub less_trans : (q : Query) (a b c : Tree) → IsLess q a b → IsLess q b c → IsLess q a c
less_trans q a b c (inl x) (inl y) = inl (omega arith)
less_trans q a b c (inl x) (inr (same, y)) = inl (omega arith)
less_trans q a b c (inr (same, x)) (inl y) = inl (omega arith)
less_trans q a b c (inr (same, x)) (inr (equal, y)) =
    inr (same ∙ equal, nat_list_cmp_total.trans (code_of a) (code_of b) (code_of c) x y)

-- a code that comes before another comes before each that doesn't
before_others : (xs ys zs : List ℕ) → slice_cmp nat_cmp xs ys ≡ Less → (slice_cmp nat_cmp zs ys ≡ Less → ⊥)
    → slice_cmp nat_cmp xs zs ≡ Less
before_others xs ys zs less not_less =
    elim (slice_cmp nat_cmp zs ys) as (λ o. slice_cmp nat_cmp zs ys ≡ o → slice_cmp nat_cmp xs zs ≡ Less) [
      | Less ↦ λ e. absurd (not_less e)
      | Equal ↦ λ e.
          let turned = nat_list_cmp_total.antisymm xs zs in
          let back = nat_list_cmp_total.antisymm xs ys in
          let alike = nat_list_cmp_total.congr zs ys xs e in
          cc
      | Greater ↦ λ e.
          let turned = nat_list_cmp_total.antisymm ys zs in
          let after : slice_cmp nat_cmp ys zs ≡ Less = cc in
          nat_list_cmp_total.trans xs ys zs less after
    ] refl

costs_less : (q : Query) (a b c : Tree) → IsLess q a b → cost_of q b < cost_of q c → cost_of q a < cost_of q c
costs_less q a b c (inl less) above = omega arith
costs_less q a b c (inr less) above = omega (arith, less.0)

same_cost_less : (q : Query) (a b c : Tree) → IsLess q a b → (IsLess q c b → ⊥) → cost_of q c ≡ cost_of q b
    → IsLess q a c
same_cost_less q a b c (inl less) not_less same = inl (omega arith)
same_cost_less q a b c (inr less) not_less same =
    inr (less.0 ∙ sym same, before_others (code_of a) (code_of b) (code_of c) less.1 (λ e. not_less (inr (same, e))))

-- what is less than a plan is less than each that isn't
pub less_than_others : (q : Query) (a b c : Tree) → IsLess q a b → (IsLess q c b → ⊥) → IsLess q a c
less_than_others q a b c less not_less =
    elim (cases_order (cost_of q c) (cost_of q b)) as (λ _. IsLess q a c) [
      | inl same ↦ same_cost_less q a b c less not_less same
      | inr differ ↦ elim differ as (λ _. IsLess q a c) [
        | inl below ↦ absurd (not_less (inl below))
        | inr above ↦ inl (costs_less q a b c less above)
      ]
    ]
