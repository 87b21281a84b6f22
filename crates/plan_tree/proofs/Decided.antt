-- Whether an expression may serve a request in a mode is decided.
use Rattle.std.proofs.Common.{◌≡◌, ◌≤◌, ◌<◌, ◌⊎◌, ◌/◌, ℕ, suc, Bool, true, false, List, [], ◌∷◌, Option, Some, None}
use Rattle.std.proofs.Common.{inl, inr, length, refl, sym, ◌∙◌, arith}
use Rattle.std.specs.List.{All, list_all}
use Rattle.std.proofs.lemmas.Bool.{cases_lt}
use Rattle.std.proofs.lemmas.Bool.Decides.{eqb_tells}
use Rattle.std.proofs.lemmas.List.Sums.{AllPass-from_list_all, list_all-from_AllPass}
use Rattle.query_core.specs.Keys.{has_item}
use Rattle.query_core.specs.declared.query.Query.{Query}
use Rattle.query_core.specs.declared.words.KeyParts.{KeyParts}
use Rattle.query_core.specs.declared.expressions.Children.{Children}
use Rattle.query_core.specs.declared.expressions.Children.TheVariants as arities
use Rattle.query_core.specs.Expressions.{physical_children}
use Rattle.query_core.specs.declared.expressions.PhysicalExpr.{PhysicalExpr}
use Rattle.request_props.specs.Numbered.{lists_of, orders_of, IsNumbered, order_of, list_of, is_grouped_list}
use Rattle.request_props.specs.Satisfied.{Meets, BeginsWith, given_order, Satisfies}
use Rattle.request_props.specs.declared.given.Given.{Given}
use Rattle.request_props.specs.declared.given.GivenDist.{GivenDist}
use Rattle.request_props.specs.declared.given.GivenDist.TheVariants as given
use Rattle.request_props.specs.declared.request.Dist.{Dist}
use Rattle.request_props.specs.declared.request.Dist.TheVariants.{One, Spread, Copies, Hashed}
use Rattle.request_props.specs.declared.request.Request.{Request}
use Rattle.request_props.specs.Lying.{ListLiesIn, OrderLiesIn}
use Rattle.request_props.specs.Fitting.{HashFits, DistFits, Fits}
use Rattle.plan_space.specs.declared.lines.LeftDist.{LeftDist}
use Rattle.plan_space.specs.declared.lines.LeftDist.TheVariants as left_dists
use Rattle.plan_space.specs.declared.lines.LeftOrder.{LeftOrder}
use Rattle.plan_space.specs.declared.lines.LeftOrder.TheVariants as left_orders
use Rattle.plan_space.specs.declared.lines.Line.{Line}
use Rattle.plan_space.specs.declared.lines.Line.TheVariants.{Leaf, Above, Beside}
use Rattle.plan_space.specs.Lines.{line_of}
use Rattle.plan_space.specs.Gives.{gives_so}
use Rattle.plan_space.specs.Alternatives.{WantsSpread, DistServes, OrderServes, LeftServes, JoinServes, left_asked}
use Rattle.plan_space.specs.Alternatives.{LineServes}
use Rattle.plan_tree.specs.Alternatives.{HasAlternative}

abbrev pub IsDecided : Type 0 → Type 0
IsDecided P = P ⊎ (P → ⊥)

like : {P Q : Type 0} → (P → Q) → (Q → P) → IsDecided P → IsDecided Q
like to from (inl p) = inl (to p)
like to from (inr never) = inr (λ q. never (from q))

both : {P Q : Type 0} → IsDecided P → IsDecided Q → IsDecided (P × Q)
both (inl p) (inl q) = inl (p, q)
both (inl p) (inr never) = inr (λ pq. never pq.1)
both (inr never) other = inr (λ pq. never pq.0)

at_most : (a b : ℕ) → IsDecided (a ≤ b)
at_most a b = elim (cases_lt b a) [ inl less ↦ inr (λ within. omega arith) | inr within ↦ inl within ]

equal : (a b : ℕ) → IsDecided (a ≡ b)
equal a b = elim (eqb_tells a b) [ inl same ↦ inl same.1 | inr differ ↦ inr differ.1 ]

passes : (b : Bool) → IsDecided (b ≡ true)
passes true = inl refl
passes false = inr (λ is. cc)

all_pass : (f : ℕ → Bool) (xs : List ℕ) → IsDecided (All (λ x. f x ≡ true) xs)
all_pass f xs = like (AllPass-from_list_all f xs) (list_all-from_AllPass f xs) (passes (list_all f xs))

meets : (dist : GivenDist) (asked : Dist) → IsDecided (Meets dist asked)
meets given.One One = inl tt
meets given.One Spread = inr (λ met. met)
meets given.One Copies = inr (λ met. met)
meets given.One (Hashed list) = inr (λ met. met)
meets (given.Hashed other) One = inr (λ met. met)
meets (given.Hashed other) Spread = inl tt
meets (given.Hashed other) Copies = inr (λ met. met)
meets (given.Hashed other) (Hashed list) = equal other list
meets given.Random One = inr (λ met. met)
meets given.Random Spread = inl tt
meets given.Random Copies = inr (λ met. met)
meets given.Random (Hashed list) = inr (λ met. met)
meets given.Copies One = inr (λ met. met)
meets given.Copies Spread = inr (λ met. met)
meets given.Copies Copies = inl tt
meets given.Copies (Hashed list) = inr (λ met. met)

begins : (order wanted : List ℕ) → IsDecided (BeginsWith order wanted)
begins order [] = inl tt
begins [] (y ∷ ys) = inr (λ met. met)
begins (x ∷ xs) (y ∷ ys) = both (equal x y) (begins xs ys)

satisfies : (q : Query) (gives : Given) (wanted : Request) → IsDecided (Satisfies q gives wanted)
satisfies q gives wanted =
    like {P = Meets gives.dist wanted.dist × BeginsWith (given_order q gives.order) (order_of q wanted.order)} {Q =
    Satisfies q gives wanted}
    (λ both_met. record { dist = both_met.0; order = both_met.1 }) (λ met. (met.dist, met.order))
    (both (meets gives.dist wanted.dist) (begins (given_order q gives.order) (order_of q wanted.order)))

hash_fits : (q : Query) (group : KeyParts) (list : ℕ) → IsDecided (HashFits q group list)
hash_fits q group list =
    like {P = (list < length (lists_of q)) × ListLiesIn q group (list_of q list)} {Q = HashFits q group list}
    (λ fit. record { numbered = fit.0; lies_in = fit.1 }) (λ fit. (fit.numbered, fit.lies_in))
    (both (at_most (suc list) (length (lists_of q))) (all_pass (λ item. has_item q group item) (list_of q list)))

dist_fits : (q : Query) (group : KeyParts) (dist : Dist) → IsDecided (DistFits q group dist)
dist_fits q group One = inl tt
dist_fits q group Spread = inl tt
dist_fits q group Copies = inl tt
dist_fits q group (Hashed list) = hash_fits q group list

fits : (q : Query) (group : KeyParts) (wanted : Request) → IsDecided (Fits q group wanted)
fits q group wanted =
    like {P = DistFits q group wanted.dist × (IsNumbered q wanted.order
    × OrderLiesIn q group (order_of q wanted.order))} {Q = Fits q group wanted}
    (λ fit. record { dist = fit.0; numbered = fit.1.0; order = fit.1.1 }) (λ fit. (fit.dist, (fit.numbered, fit.order)))
    (both (dist_fits q group wanted.dist)
    (both (at_most wanted.order (length (orders_of q)))
    (all_pass (λ element. has_item q group (element / 2)) (order_of q wanted.order))))

spread : (dist : Dist) → IsDecided (WantsSpread dist)
spread One = inr (λ wants. wants)
spread Spread = inl tt
spread Copies = inr (λ wants. wants)
spread (Hashed list) = inl tt

dist_serves : (q : Query) (dist : LeftDist) (wanted : Dist) → IsDecided (DistServes q dist wanted)
dist_serves q (left_dists.Fixed gives asked) wanted = meets gives wanted
dist_serves q (left_dists.Grouped list) wanted =
    both (passes (is_grouped_list q list)) (meets (given.Hashed list) wanted)
dist_serves q left_dists.Same wanted = inl tt
dist_serves q left_dists.SameSpread wanted = spread wanted

order_serves : (q : Query) (order : LeftOrder) (wanted : ℕ) → IsDecided (OrderServes q order wanted)
order_serves q (left_orders.Fixed gives asked) wanted = begins (given_order q gives) (order_of q wanted)
order_serves q left_orders.Same wanted = inl tt

left_serves : (q : Query) (dist : LeftDist) (order : LeftOrder) (wanted : Request)
    → IsDecided (LeftServes q dist order wanted)
left_serves q dist order wanted =
    like {P = DistServes q dist wanted.dist × OrderServes q order wanted.order} {Q = LeftServes q dist order wanted}
    (λ all. record { dist_served = all.0; order_served = all.1 }) (λ all. (all.dist_served, all.order_served))
    (both (dist_serves q dist wanted.dist) (order_serves q order wanted.order))

join_serves : (q : Query) (left : KeyParts) (dist : LeftDist) (order : LeftOrder) (wanted : Request)
    → IsDecided (JoinServes q left dist order wanted)
join_serves q left dist order wanted =
    like {P = LeftServes q dist order wanted × Fits q left (left_asked dist order wanted)} {Q =
    JoinServes q left dist order wanted}
    (λ all. record { serves = all.0; fits = all.1 }) (λ all. (all.serves, all.fits))
    (both (left_serves q dist order wanted) (fits q left (left_asked dist order wanted)))

line_serves : (q : Query) (line : Line) (children : Children) (wanted : Request)
    → IsDecided (LineServes q line children wanted)
line_serves q (Leaf dist order) arities.Zero wanted = satisfies q (gives_so dist order) wanted
line_serves q (Leaf dist order) (arities.One child) wanted = inr (λ serves. serves)
line_serves q (Leaf dist order) (arities.Two left right) wanted = inr (λ serves. serves)
line_serves q (Above dist order) arities.Zero wanted = inr (λ serves. serves)
line_serves q (Above dist order) (arities.One child) wanted = left_serves q dist order wanted
line_serves q (Above dist order) (arities.Two left right) wanted = inr (λ serves. serves)
line_serves q (Beside dist order right) arities.Zero wanted = inr (λ serves. serves)
line_serves q (Beside dist order right) (arities.One child) wanted = inr (λ serves. serves)
line_serves q (Beside dist order right) (arities.Two left other) wanted = join_serves q left dist order wanted

found_serves : (q : Query) (e : PhysicalExpr) (wanted : Request) (mode : ℕ) (found : Option Line)
    → line_of q e mode ≡ found → IsDecided (HasAlternative q e wanted mode)
found_serves q e wanted mode None is = inr (λ has. let same = sym is ∙ has.1.is_line in let never : ⊥ = cc in never)
found_serves q e wanted mode (Some line) is =
    like {P = LineServes q line (physical_children e.operator) wanted} {Q = HasAlternative q e wanted mode}
    (λ serves. (line, record { is_line = is; serves = serves }))
    (λ has. let same : line ≡ has.0 = cc (sym is ∙ has.1.is_line) in rw same has.1.serves)
    (line_serves q line (physical_children e.operator) wanted)

-- the expression may serve the request in the mode, or it may not
pub has_decided : (q : Query) (e : PhysicalExpr) (wanted : Request) (mode : ℕ)
    → IsDecided (HasAlternative q e wanted mode)
has_decided q e wanted mode = found_serves q e wanted mode (line_of q e mode) refl

-- the same as a test
told : {P : Type 0} → IsDecided P → Bool
told (inl p) = true
told (inr never) = false

yes_told : {P : Type 0} (decided : IsDecided P) → told decided ≡ true → P
unfolding told
yes_told (inl p) is = p
yes_told (inr never) is = let wrong : ⊥ = cc in absurd wrong

told_yes : {P : Type 0} (decided : IsDecided P) → P → told decided ≡ true
unfolding told
told_yes (inl p) holds = refl
told_yes (inr never) holds = absurd (never holds)

told_never : {P : Type 0} (decided : IsDecided P) → (P → ⊥) → told decided ≡ false
unfolding told
told_never (inl p) never = absurd (never p)
told_never (inr no_one) never = refl

-- whether the expression may serve the request in the mode
pub has : Query → PhysicalExpr → Request → ℕ → Bool
has q e wanted mode = told (has_decided q e wanted mode)

pub alternative_from_has : (q : Query) (e : PhysicalExpr) (wanted : Request) (mode : ℕ) → has q e wanted mode ≡ true
    → HasAlternative q e wanted mode
unfolding has
alternative_from_has q e wanted mode is = yes_told (has_decided q e wanted mode) is

pub has_alternative : (q : Query) (e : PhysicalExpr) (wanted : Request) (mode : ℕ) → HasAlternative q e wanted mode
    → has q e wanted mode ≡ true
unfolding has
has_alternative q e wanted mode there = told_yes (has_decided q e wanted mode) there

pub has_none : (q : Query) (e : PhysicalExpr) (wanted : Request) (mode : ℕ) → (HasAlternative q e wanted mode → ⊥)
    → has q e wanted mode ≡ false
unfolding has
has_none q e wanted mode never = told_never (has_decided q e wanted mode) never

-- without a line it may not
pub has_no_line : (q : Query) (e : PhysicalExpr) (wanted : Request) (mode : ℕ) → line_of q e mode ≡ None
    → has q e wanted mode ≡ false
has_no_line q e wanted mode none = has_none q e wanted mode (λ there. let same = sym none ∙ there.1.is_line in
    let never : ⊥ = cc in never)
