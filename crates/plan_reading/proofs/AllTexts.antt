-- Texts are added to a list until it has those of all nodes that a query can name.
use Rattle.std.proofs.Common.{◌≡◌, ℕ, zero, suc, ◌+◌, ◌<◌, ◌≤◌, ◌⊎◌, List, [], ◌∷◌, ◌++◌, length, get_or, refl, sym}
use Rattle.std.proofs.Common.{ap, ◌∙◌}
use Rattle.std.proofs.Common.{subst, arith, inl, inr}
use Rattle.std.specs.List.{All, Contains}
use Rattle.std.proofs.lemmas.Bool.{cases_lt}
use Rattle.std.proofs.lemmas.List.Elements.{All-nil, All-cons, All-append, All-contains}
use Rattle.std.proofs.lemmas.List.Elements.{Contains-append_left, Contains-append_right}
use Rattle.query_core.specs.Expressions.{HasIndex}
use Rattle.query_core.specs.declared.query.Query.{Query}
use Rattle.query_core.specs.declared.expressions.Access.TheVariants.{Direct, Index}
use Rattle.query_core.specs.declared.expressions.Physical.{Physical}
use Rattle.request_props.specs.Numbered.{lists_of, orders_of}
use Rattle.plan_space.specs.Ways.{way_of}
use Rattle.plan_space.specs.declared.modes.Mode.{Mode}
use Rattle.plan_space.specs.declared.nodes.Enforcer.{Enforcer}
use Rattle.plan_space.specs.declared.nodes.Enforcer.TheVariants as enforcers
use Rattle.plan_space.specs.declared.ways.Kept.TheVariants.{Rows, SpreadRows}
use Rattle.plan_space.specs.declared.ways.Way.{Way}
use Rattle.plan_space.specs.declared.ways.Way.TheVariants.{Reads, Passes, Joins, Groups}
use Rattle.plan_check.specs.Nodes.{IsEnforcerOf}
use Rattle.plan_reading.specs.Named.{named_text, HasForm, HasTable, IsOperatorOf}
use Rattle.plan_reading.specs.NodeOver.{number_in}
use Rattle.plan_reading.specs.Operators.{unplaced}
use Rattle.plan_reading.specs.Texts.{IsNodeText, IsNodeTexts, AddsNodeTexts, IsOfAny, IsOfEnforcer, IsOfOperator}
use Rattle.plan_reading.specs.Texts.{IsOfNumbers}
use Rattle.plan_reading.specs.Texts.{IsOfTable, IsOfTables, index_numbers, moves}
use Rattle.plan_reading.specs.declared.named.Named.{Named}
use Rattle.plan_reading.specs.declared.named.Named.TheVariants as named
use Rattle.plan_reading.specs.declared.texts.NodeText.{NodeText}
use Rattle.plan_reading.proofs.OperatorRows.{first_same, listed, IsListed}
use Rattle.plan_reading.proofs.SmallModes.{has_number, mode_small}

-- a node with its text
abbrev entry : List ℕ → Named → NodeText
entry text node = record { text = text; node = node }

-- what stands below the length doesn't depend on what stands for the rest
got_same : {X : Type 0} (xs : List X) (n : ℕ) (a b : X) → n < length xs → get_or xs n a ≡ get_or xs n b
got_same [] n a b below = absurd (omega (arith, below))
got_same (x ∷ xs) zero a b below = refl
got_same (x ∷ xs) (suc n) a b below = got_same xs n a b (omega (arith, below))

module _ (q : Query) where
  -- ---- steps

  -- no node that is wanted has a form, and nothing is added
  pub adds_none : (IsWanted : Named → Type 0) (list : List NodeText)
      → ((node : Named) → IsWanted node → HasForm q node → ⊥) → AddsNodeTexts q IsWanted list list
  adds_none IsWanted list none = record {
    texts = λ all. all;
    kept = λ e there. there;
    added = λ node wanted form. absurd (none node wanted form);
  }

  -- the one node that is wanted is added
  pub adds_one : (IsWanted : Named → Type 0) (list : List NodeText) (text : List ℕ) (own : Named) → HasForm q own
      → text ≡ named_text q own → ((node : Named) → IsWanted node → node ≡ own)
      → AddsNodeTexts q IsWanted list (list ++ entry text own ∷ [])
  adds_one IsWanted list text own form is only = record {
    texts = λ all. All-append (IsNodeText q) list (entry text own ∷ []) all
        (All-cons (IsNodeText q) (entry text own) [] (record { form = form; text = is }) (All-nil (IsNodeText q)));
    kept = λ e there. Contains-append_left list (entry text own ∷ []) e there;
    added = λ node wanted has. Contains-append_right list (entry text own ∷ []) (entry (named_text q node) node)
        (subst (Contains (entry text own ∷ []))
        (ap (λ (t : List ℕ). entry t own) is
        ∙ ap (λ (n : Named). entry (named_text q n) n) (sym (only node wanted)))
        (0, omega arith, refl));
  }

  -- one step after the other
  pub adds_both : (A B : Named → Type 0) (x y z : List NodeText) → AddsNodeTexts q A x y → AddsNodeTexts q B y z
      → AddsNodeTexts q (λ node. A node ⊎ B node) x z
  adds_both A B x y z first second = record {
    texts = λ all. second.texts (first.texts all);
    kept = λ e there. second.kept e (first.kept e there);
    added = λ node wanted form. elim wanted [
      | inl a ↦ second.kept (entry (named_text q node) node) (first.added node a form)
      | inr b ↦ second.added node b form
    ];
  }

  pub adds_three : (A B C : Named → Type 0) (w x y z : List NodeText) → AddsNodeTexts q A w x → AddsNodeTexts q B x y
      → AddsNodeTexts q C y z
      → AddsNodeTexts q (λ node. A node ⊎ B node ⊎ C node) w z
  adds_three A B C w x y z first second third =
      adds_both A (λ node. B node ⊎ C node) w x z first (adds_both B C x y z second third)

  -- of no numbers yet, and of one number more
  pub adds_start : (Fact : ℕ → Named → Type 0) (list : List NodeText)
      → AddsNodeTexts q (λ node. (k : ℕ) × (k < 0) × Fact k node) list list
  adds_start Fact list = adds_none (λ node. (k : ℕ) × (k < 0) × Fact k node) list
      (λ node wanted form. let below = wanted.1 in omega (arith, below))

  pub adds_next : (Fact : ℕ → Named → Type 0) (n : ℕ) (x y z : List NodeText)
      → AddsNodeTexts q (λ node. (k : ℕ) × (k < n) × Fact k node) x y → AddsNodeTexts q (Fact n) y z
      → AddsNodeTexts q (λ node. (k : ℕ) × (k < n + 1) × Fact k node) x z
  adds_next Fact n x y z first second = record {
    texts = λ all. second.texts (first.texts all);
    kept = λ e there. second.kept e (first.kept e there);
    added = λ node wanted form. elim (cases_lt wanted.0 n) [
      | inl less ↦ second.kept (entry (named_text q node) node)
          (first.added node (wanted.0, less, wanted.2) form)
      | inr most ↦ let below = wanted.1 in
          let last : wanted.0 ≡ n = omega (arith, below, most) in
          second.added node (subst (λ (k : ℕ). Fact k node) last wanted.2) form
    ];
  }

  -- those that are wanted of what was added
  pub adds_for : (A B : Named → Type 0) (x y : List NodeText) → ((node : Named) → B node → A node)
      → AddsNodeTexts q A x y
      → AddsNodeTexts q B x y
  adds_for A B x y goes adds = record {
    texts = adds.texts;
    kept = adds.kept;
    added = λ node wanted form. adds.added node (goes node wanted) form;
  }

  pub adds_fewer : (Fact : ℕ → Named → Type 0) (n m : ℕ) (x y : List NodeText) → m ≤ n
      → AddsNodeTexts q (λ node. (k : ℕ) × (k < n) × Fact k node) x y
      → AddsNodeTexts q (λ node. (k : ℕ) × (k < m) × Fact k node) x y
  adds_fewer Fact n m x y most =
      adds_for (λ node. (k : ℕ) × (k < n) × Fact k node) (λ node. (k : ℕ) × (k < m) × Fact k node) x y
      (λ node wanted. let below = wanted.1 in (wanted.0, omega (arith, below, most), wanted.2))

  -- ---- of each element of a list

  module _ {X : Type 0} (Fact : X → Named → Type 0) (list : List X) where
    -- of what stands at this place
    abbrev pub IsOfPlace : ℕ → Named → Type 0
    IsOfPlace k node = (x : X) × (get_or list k x ≡ x) × Fact x node

    pub place_next : (n : ℕ) (other : X) (x y z : List NodeText) → n < length list
        → AddsNodeTexts q (λ node. (k : ℕ) × (k < n) × IsOfPlace k node) x y
        → AddsNodeTexts q (Fact (get_or list n other)) y z
        → AddsNodeTexts q (λ node. (k : ℕ) × (k < n + 1) × IsOfPlace k node) x z
    place_next n other x y z below first second =
        adds_next IsOfPlace n x y z first
        (adds_for (Fact (get_or list n other)) (IsOfPlace n) y z
        (λ node wanted. subst (λ o. Fact o node) (sym wanted.1 ∙ got_same list n wanted.0 other below) wanted.2) second)

    pub places_all : (n : ℕ) (x y : List NodeText) → length list ≤ n
        → AddsNodeTexts q (λ node. (k : ℕ) × (k < n) × IsOfPlace k node) x y → AddsNodeTexts q (IsOfAny Fact list) x y
    places_all n x y most =
        adds_for (λ node. (k : ℕ) × (k < n) × IsOfPlace k node) (IsOfAny Fact list) x y
        (λ node wanted. let below = wanted.1.1 in
        (wanted.1.0, omega (arith, below, most), (wanted.0, wanted.1.2, wanted.2)))

  -- ---- the whole list

  module _ (few_lists : length (lists_of q) ≤ 60) (few_orders : length (orders_of q) ≤ 60)
      (index_few : (t i : ℕ) → HasIndex q t i → (t < length q.tables) × (i < index_numbers)) where
    -- what is wanted in all
    abbrev pub IsOfSome : Named → Type 0
    IsOfSome node = IsOfAny IsOfEnforcer moves node ⊎ IsOfNumbers 61 node ⊎ IsOfTables (length q.tables) node

    enforcer_wanted : (e : Enforcer) → IsEnforcerOf q e → IsOfSome (named.Enforcer e)
    enforcer_wanted enforcers.Gather is = inl (enforcers.Gather, (0, omega arith, refl), refl)
    enforcer_wanted enforcers.Broadcast is = inl (enforcers.Broadcast, (1, omega arith, refl), refl)
    enforcer_wanted (enforcers.Sort n) is =
        let numbered = is.numbered in
        inr (inl (n, omega (arith, numbered, few_orders), (enforcers.Sort n, (0, omega arith, refl), refl)))
    enforcer_wanted (enforcers.GatherMerge n) is =
        let numbered = is.numbered in
        inr (inl (n, omega (arith, numbered, few_orders), (enforcers.GatherMerge n, (1, omega arith, refl), refl)))
    enforcer_wanted (enforcers.Redistribute n) is =
        inr (inl (n, omega (arith, is, few_lists), (enforcers.Redistribute n, (2, omega arith, refl), refl)))

    -- the table is one of the query's, and 0 is one
    table_below : (way : Way) (t : ℕ) → HasTable q way t → t < length q.tables
    table_below (Reads Direct) t has = has
    table_below (Reads (Index i)) t has = (index_few t i has).0
    table_below (Passes Rows child) t has = has
    table_below (Passes SpreadRows child) t has = let some = q.tables_valid.some in omega (arith, has, some)
    table_below (Joins by left right) t has = let some = q.tables_valid.some in omega (arith, has, some)
    table_below (Groups by child) t has = let some = q.tables_valid.some in omega (arith, has, some)

    -- an operator in such a mode has its text once all modes were gone through
    in_modes : (o : Physical) (t : ℕ) (m : Mode) → IsOperatorOf q o t m → IsOfOperator t o (named.Native o t m)
    in_modes o t m form =
        let has = has_number m (mode_small q few_lists (way_of o) t m form.has_mode) in
        (number_in m, has.less, ap (λ x. named.Native x t m) (sym (first_same o form.over_none)) ∙ ap (named.Native (unplaced o) t) has.back)

    operator_wanted : (o : Physical) (t : ℕ) (m : Mode) → IsOperatorOf q o t m → IsListed o → IsOfTable t (named.Native o t m)
    operator_wanted o t m form (inl there) = inl (o, there, in_modes o t m form)
    operator_wanted o t m form (inr (i, way, there)) =
        let has : HasIndex q t i = subst (λ w. HasTable q w t) way form.has_table in
        inr (i, (index_few t i has).1, (o, there, in_modes o t m form))

    -- each node that the query can name is wanted
    pub all_wanted : (node : Named) → HasForm q node → IsOfSome node
    all_wanted (named.Native o t m) form =
        inr (inr (
          t,
          table_below (way_of o) t form.has_table,
          operator_wanted o t m form (subst IsListed (first_same o form.over_none) (listed o)),
        ))
    all_wanted (named.Enforcer e) form = enforcer_wanted e form

    -- so a list that was begun with none, and to which all of these were added, is whole
    pub are_all : (start list : List NodeText) → start ≡ [] → AddsNodeTexts q IsOfSome start list → IsNodeTexts q list
    are_all start list none adds e = (
      λ there. All-contains (IsNodeText q) list e
          (adds.texts (subst (All (IsNodeText q)) (sym none) (All-nil (IsNodeText q)))) there,
      λ is. subst (Contains list) (ap (λ (t : List ℕ). entry t e.node) (sym is.text))
          (adds.added e.node (all_wanted e.node is.form) is.form),
    )
