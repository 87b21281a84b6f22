use Rattle.std.proofs.Common.{◌≡◌, ℕ, zero, suc, ◌<◌, List, [], ◌∷◌, ◌++◌, length, get_or}
use Rattle.std.proofs.Common.{Some, refl, sym, ap, ◌∙◌, subst, arith, ⊎_elim, ◌⊎◌, inl, inr, rules}
use Rattle.std.specs.Prelude.{slice_get}
use Rattle.std.proofs.lemmas.Option.{get_or_from_slice_get}
use Rattle.query_core.specs.declared.query.Query.{Query}
use Rattle.request_props.specs.Numbered.{IsProps}
use Rattle.request_props.specs.declared.props.Props.{Props}
use Rattle.batch_tests.proofs.search_tests.props_of_all.Goals as goal

-- what stands in a list that has one more
get_push : {A : Type 0} (xs : List A) (x y : A) (k : ℕ) → slice_get (xs ++ x ∷ []) k ≡ Some y
    → (slice_get xs k ≡ Some y) ⊎ ((k ≡ length xs) × (x ≡ y))
get_push [] x y zero e = inr (refl, cc)
get_push [] x y (suc k) e = absurd (cc)
get_push (z ∷ zs) x y zero e = inl e
get_push (z ∷ zs) x y (suc k) e =
    ⊎_elim inl (λ (t : (k ≡ length zs) × (x ≡ y)). let far = t.0 in inr (omega arith, t.1)) (get_push zs x y k e)

-- one query more has its props
more_props : (queries : List Query) (old new : List Props) (own : Props) (here : Query) (at : ℕ)
    → new ≡ old ++ own ∷ [] → at ≡ length old → here ≡ get_or queries at here → IsProps here own
    → ((i : ℕ) (query : Query) (p : Props) → slice_get queries i ≡ Some query → slice_get old i ≡ Some p
    → IsProps query p)
    → (i : ℕ) (query : Query) (p : Props) → slice_get queries i ≡ Some query → slice_get new i ≡ Some p
    → IsProps query p
more_props queries old new own here at pushed count is props each i query p there stands =
    ⊎_elim (λ (was : slice_get old i ≡ Some p). each i query p there was)
    (λ (last : (i ≡ length old) × (own ≡ p)).
    let same : i ≡ at = last.0 ∙ sym count in
    let found : get_or queries i here ≡ query = get_or_from_slice_get queries i query here there in
    let it : here ≡ query = is ∙ ap (λ (j : ℕ). get_or queries j here) (sym same) ∙ found in
    subst (λ q. IsProps q p) it (subst (IsProps here) last.1 props))
    (get_push old own p i (ap (λ l. slice_get l i) (sym pushed) ∙ stands))

-- the props of the query are pushed
pub loop-query-preserved : goal.loop-query-preserved
loop-query-preserved c = record {
  as_many = search rules;
  each = more_props c.args.queries.now c.loop-query.all.items c.push.new.self.items c.in_ok-collect.field-0
      c.query-item.result c.loop-query.query-index c.in_ok-push.ensures.items
      (omega (arith, c.loop-query.invariant.as_many, c.loop-query.all.ok)) (search rules) c.in_ok-collect.ensures.ok
      c.loop-query.invariant.each;
}
