-- The sets of what joins can give, as they are found one number and one candidate after the other.
use Rattle.std.proofs.Common.{◌≡◌, ◌↔◌, ◌⊎◌, inl, inr, ℕ, ◌+◌, ◌<◌, Bool, IsTrue, List, [], ◌∷◌, ◌++◌, Option, None}
use Rattle.std.proofs.Common.{length, length-append, get_or, arith, ap, sym, subst, ◌∙◌}
use Rattle.std.specs.Prelude.{IfSome}
use Rattle.std.proofs.lemmas.Bool.{cases_eq, cases_lt}
use Rattle.std.proofs.lemmas.List.{get_or_append_left, get_or_default}
use Rattle.std.proofs.Math.ListN.{get_or-eq_default}
use Rattle.std.proofs.Math.Seq.{get_or-append_seam}
use Rattle.query_core.specs.declared.query.Query.{Query}
use Rattle.request_props.specs.JoinSets.{AreJoinTables, AreSetsAt, AreSetsOf, AreThoseBelow}
use Rattle.request_props.specs.NumberSets.{IsInSet}
use Rattle.request_props.specs.declared.number_set.NumberSet.{NumberSet}
use Rattle.request_props.specs.declared.tables.join_sets.JoinSets.{JoinSets}
use Rattle.request_props.specs.declared.tables.physical.PhysicalCandidate.{PhysicalCandidate}

-- one more number is one of those where the test says so
pub one_below : (Holds : ℕ → Type 0) (set new : NumberSet) (bound : ℕ) (test : Bool)
    → ((other : ℕ) → IsInSet new other ↔ (IsInSet set other ⊎ ((other ≡ bound) × IsTrue test)))
    → IsTrue test ↔ Holds bound → AreThoseBelow Holds bound set → AreThoseBelow Holds (bound + 1) new
one_below Holds set new bound test grown tells are number = (
  λ has. elim ((grown number).0 has) [
    | inl before ↦ let (within, holds) = (are number).0 before in (omega (arith, within), holds)
    | inr this ↦ (omega (arith, this.0), subst Holds (sym this.0) (tells.0 this.1))
  ],
  λ (within, holds). (grown number).1 (elim (cases_eq number bound) [
    | inl same ↦ inr (same, tells.1 (subst Holds same holds))
    | inr differ ↦ inl ((are number).1 (omega (arith, within, differ), holds))
  ]),
)

-- what holds of each element at its place, and past the end of the default, still does with one more
pub pushed_at : {X : Type 0} (Holds : ℕ → X → Type 0) (default : X) (list new : List X) (item : X)
    → new ≡ list ++ item ∷ [] → ((k : ℕ) → Holds k (get_or list k default)) → Holds (length list) item → (k : ℕ)
    → Holds k (get_or new k default)
pushed_at {X} Holds default list new item grown each is k =
    let longer : length new ≡ length list + 1 = ap length grown ∙ length-append list (item ∷ []) in
    elim (cases_lt k (length list)) [
      | inl below ↦
          let same : get_or new k default ≡ get_or list k default =
          rw grown (get_or_append_left list (item ∷ []) default k below) in
          subst (Holds k) (sym same) (each k)
      | inr above ↦ elim (cases_eq k (length list)) [
        | inl last ↦
            let at_end : get_or new (length list) default ≡ item = rw grown (get_or-append_seam list item [] default) in
            subst (λ (n : ℕ). Holds n (get_or new n default)) (sym last) (subst (Holds (length list)) (sym at_end) is)
        | inr past ↦
            let before : get_or list k default ≡ default = get_or-eq_default list default above in
            let after : get_or new k default ≡ default = get_or-eq_default new default (omega (arith, longer, above, past))
            in
            subst (Holds k) (before ∙ sym after) (each k)
      ]
    ]

-- the sets of one more candidate
pub sets_more : (q : Query) (candidates : List PhysicalCandidate) (sets new : List (Option JoinSets)) (n : ℕ)
    (default : PhysicalCandidate) (found : Option JoinSets) → new ≡ sets ++ found ∷ [] → length sets ≡ n
    → n < length candidates → IfSome found (AreSetsOf q (get_or candidates n default).expr.operator)
    → AreSetsAt q candidates sets → AreSetsAt q candidates new
sets_more q candidates sets new n default found grown count within are each =
    let Holds : ℕ → Option JoinSets → Type 0 = λ k one. (candidate : PhysicalCandidate) → k < length candidates
    → IfSome one (AreSetsOf q (get_or candidates k candidate).expr.operator) in
    pushed_at Holds None sets new found grown each (subst (λ (k : ℕ). Holds k found) (sym count) (λ candidate inside.
    subst (λ (one : PhysicalCandidate). IfSome found (AreSetsOf q one.expr.operator))
    (get_or_default candidates n default candidate within) are))

-- and those of one more group
pub tables_more : (q : Query) (lists : List (List PhysicalCandidate)) (tables new : List (List (Option JoinSets)))
    (n : ℕ) (candidates : List PhysicalCandidate) (sets : List (Option JoinSets)) → new ≡ tables ++ sets ∷ []
    → length tables ≡ n → n < length lists → candidates ≡ get_or lists n candidates → AreSetsAt q candidates sets
    → AreJoinTables q lists tables → AreJoinTables q lists new
tables_more q lists tables new n candidates sets grown count within is are each =
    let Holds : ℕ → List (Option JoinSets) → Type 0 = λ k found. AreSetsAt q (get_or lists k []) found in
    let here : Holds n sets = subst (λ (list : List PhysicalCandidate). AreSetsAt q list sets)
    (is ∙ get_or_default lists n candidates [] within) are in
    pushed_at Holds [] tables new sets grown each (subst (λ (k : ℕ). Holds k sets) (sym count) here)
