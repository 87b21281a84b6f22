-- Laws of what is found.
use Rattle.std.proofs.Common.{◌≡◌, ℕ, ◌<◌, zero, suc, Option, None, Some, refl, sym, subst, arith, ◌∙◌, Bool, IsTrue}
use Rattle.std.proofs.Common.{◌↔◌}
use Rattle.std.specs.Prelude.{is_some}
use Rattle.std.proofs.lemmas.Bool.{false≢true}
use Rattle.std.specs.Option.{option_map}
use Rattle.query_core.specs.declared.expressions.Logical.{Logical}
use Rattle.query_core.specs.declared.expressions.Operator.{Operator}
use Rattle.query_core.specs.declared.expressions.Operator.TheVariants as operators
use Rattle.xform_rules.specs.Forms.{Finds, IsLogical}
use Rattle.xform_rules.proofs.Operators.{finds_logical}

-- what is found by one word is found by another that says the same
pub finds_as : {A : Type 0} (P Q : A → Type 0) → ((x : A) → P x → Q x) → ((x : A) → Q x → P x) → (found : Option A)
    → Finds P found → Finds Q found
finds_as P Q onto back None finds = λ x holds. finds x (back x holds)
finds_as P Q onto back (Some x) finds = onto x finds

-- a fact that is known besides
pub finds_with : {A : Type 0} (B : Type 0) (P : A → Type 0) → B → (found : Option A) → Finds P found
    → Finds (λ x. B × P x) found
finds_with B P fact found finds = finds_as P (λ x. B × P x) (λ x holds. (fact, holds)) (λ x both. both.1) found finds

-- the first, where there is no other
pub finds_first : {A : Type 0} (P : A → Type 0) (n : ℕ) (found result : Option A) → (n ≡ 0 → result ≡ found)
    → (0 < n → result ≡ None)
    → Finds P found → Finds (λ x. (n ≡ 0) × P x) result
finds_first P zero found result first others finds =
    subst (Finds (λ x. (zero ≡ 0) × P x)) (sym (first refl)) (finds_with (zero ≡ 0) P refl found finds)
finds_first P (suc n) found result first others finds =
    let never : suc n ≡ 0 → ⊥ = λ none. absurd (omega (arith, none)) in
    subst (Finds (λ x. (suc n ≡ 0) × P x)) (sym (others (omega arith))) (λ x both. never both.0)

-- the first logical operator
pub first_logical : (P : Logical → Type 0) (n : ℕ) (found : Option Logical) (result : Option Operator)
    → (n ≡ 0 → result ≡ option_map operators.Logical found)
    → (0 < n → result ≡ None) → Finds P found → Finds (λ to. (n ≡ 0) × IsLogical P to) result
first_logical P n found result first others finds =
    finds_first (IsLogical P) n (option_map operators.Logical found) result first others (finds_logical P found finds)

-- whether something is found
pub finds_some : {A : Type 0} (P : A → Type 0) (found : Option A) (b : Bool) → b ≡ is_some found → Finds P found
    → IsTrue b ↔ ((x : A) × P x)
finds_some P None b same finds = (λ yes. absurd (false≢true (sym same ∙ yes)), λ (x, holds). absurd (finds x holds))
finds_some P (Some x) b same finds = (λ yes. (x, finds), λ holds. same)
