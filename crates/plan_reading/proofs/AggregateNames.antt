-- The names of aggregates are names, and each is that of one.
use Rattle.std.proofs.Common.{◌≡◌, ℕ, Bool, true, false, not, zero, suc, List, [], ◌∷◌, Option, Some, None}
use Rattle.std.proofs.Common.{refl, sym, ap, ◌∙◌, subst, bytes_eq}
use Rattle.std.specs.Prelude.{slice_get}
use Rattle.std.specs.List.{list_all, list_any, cons_option}
use Rattle.std.proofs.lemmas.Bool.{and_parts, or_left, or_right, not-true}
use Rattle.std.proofs.lemmas.Slice.Eq.{bytes_eq-Decides}
use Rattle.orca_base.specs.Name.{has_name_form}
use Rattle.query_core.specs.Differ.{texts_differ}
use Rattle.query_core.specs.Grouping.{names_of}
use Rattle.query_core.specs.declared.aggregate.Agg.{Agg}

-- the names of others, behind one that may be absent
all_behind : (p : List ℕ → Bool) (o : Option (List ℕ)) (rest : List (List ℕ)) → list_all p (cons_option o rest) ≡ true
    → list_all p rest ≡ true
all_behind p None rest all = all
all_behind p (Some name) rest all = (and_parts (p name) (list_all p rest) all).1

differ_behind : (o : Option (List ℕ)) (rest : List (List ℕ)) → texts_differ (cons_option o rest) ≡ true
    → texts_differ rest ≡ true
differ_behind None rest differ = differ
differ_behind (Some name) rest differ = (and_parts (not (list_any (bytes_eq name) rest)) (texts_differ rest) differ).1

any_behind : (p : List ℕ → Bool) (o : Option (List ℕ)) (rest : List (List ℕ)) → list_any p rest ≡ true
    → list_any p (cons_option o rest) ≡ true
any_behind p None rest any = any
any_behind p (Some name) rest any = or_right (p name) (list_any p rest) any

pub agg_named : (aggs : List Agg) (p : ℕ) (agg : Agg) (name : List ℕ) → list_all has_name_form (names_of aggs) ≡ true
    → slice_get aggs p ≡ Some agg → agg.name ≡ Some name → has_name_form name ≡ true
agg_named [] p agg name all got is = absurd cc
agg_named (first ∷ aggs) zero agg name all got is =
    let same : first ≡ agg = cc in
    let own : first.name ≡ Some name = ap (λ (a : Agg). a.name) same ∙ is in
    (and_parts (has_name_form name) (list_all has_name_form (names_of aggs))
    (subst (λ o. list_all has_name_form (cons_option o (names_of aggs)) ≡ true) own all)).0
agg_named (first ∷ aggs) (suc p) agg name all got is =
    agg_named aggs p agg name (all_behind has_name_form first.name (names_of aggs) all) got is

-- one of some names is there
any_name : (aggs : List Agg) (p : ℕ) (agg : Agg) (name : List ℕ) → slice_get aggs p ≡ Some agg → agg.name ≡ Some name
    → list_any (bytes_eq name) (names_of aggs) ≡ true
any_name [] p agg name got is = absurd cc
any_name (first ∷ aggs) zero agg name got is =
    let same : first ≡ agg = cc in
    let own : Some name ≡ first.name = sym (ap (λ (a : Agg). a.name) same ∙ is) in
    subst (λ o. list_any (bytes_eq name) (cons_option o (names_of aggs)) ≡ true) own
    (or_left (bytes_eq name name) (list_any (bytes_eq name) (names_of aggs)) ((bytes_eq-Decides name name).1 refl))
any_name (first ∷ aggs) (suc p) agg name got is =
    any_behind (bytes_eq name) first.name (names_of aggs) (any_name aggs p agg name got is)

-- the first name doesn't come again
not_again : (name : List ℕ) (first : Agg) (aggs : List Agg) (p : ℕ) (agg : Agg)
    → texts_differ (cons_option first.name (names_of aggs)) ≡ true → first.name ≡ Some name
    → slice_get aggs p ≡ Some agg → agg.name ≡ Some name → ⊥
not_again name first aggs p agg differ own got is =
    let parts = and_parts (not (list_any (bytes_eq name) (names_of aggs))) (texts_differ (names_of aggs))
    (subst (λ o. texts_differ (cons_option o (names_of aggs)) ≡ true) own differ) in
    let none = not-true (list_any (bytes_eq name) (names_of aggs)) parts.0 in
    let never : false ≡ true = sym none ∙ any_name aggs p agg name got is in
    absurd cc

-- a name is that of one aggregate
pub agg_one : (aggs : List Agg) (m n : ℕ) (x y : Agg) (name : List ℕ) → texts_differ (names_of aggs) ≡ true
    → slice_get aggs m ≡ Some x → slice_get aggs n ≡ Some y → x.name ≡ Some name → y.name ≡ Some name → m ≡ n
agg_one [] m n x y name differ first second x_name y_name = absurd cc
agg_one (z ∷ aggs) zero zero x y name differ first second x_name y_name = refl
agg_one (z ∷ aggs) zero (suc n) x y name differ first second x_name y_name =
    let is : z ≡ x = cc in
    absurd (not_again name z aggs n y differ (ap (λ (a : Agg). a.name) is ∙ x_name) second y_name)
agg_one (z ∷ aggs) (suc m) zero x y name differ first second x_name y_name =
    let is : z ≡ y = cc in
    absurd (not_again name z aggs m x differ (ap (λ (a : Agg). a.name) is ∙ y_name) first x_name)
agg_one (z ∷ aggs) (suc m) (suc n) x y name differ first second x_name y_name =
    ap suc (agg_one aggs m n x y name (differ_behind z.name (names_of aggs) differ) first second x_name y_name)
