-- Laws of the links that predicates make and of these with TRUE links behind them.
use Rattle.std.proofs.Common.{◌≡◌, ℕ, ◌+◌, ◌-◌, ◌<◌, ◌≤◌, ◌^◌, Bool, true, false, not, ◌==◌, Option, None, Some, List}
use Rattle.std.proofs.Common.{[], ◌∷◌, ◌++◌, length, drop, min, max, refl, ap, sym, subst, ◌∙◌, arith, IsTrue, ◌↔◌}
use Rattle.std.proofs.Common.{zero, suc, inl, inr}
use Rattle.std.specs.Prelude.{nat_lt}
use Rattle.std.specs.List.{list_all, cons_option}
use Rattle.std.specs.Option.{option_map_or}
use Rattle.std.proofs.Math.Seq.{take-append_seam, drop-append_seam}
use Rattle.std.proofs.lemmas.List.{append-nil, append_assoc, take-append-drop}
use Rattle.std.proofs.lemmas.List.Folds.{list_all-append}
use Rattle.std.proofs.lemmas.Bool.{cond_both, false≢true}
use Rattle.std.proofs.lemmas.Bool.{and_parts, and_from}
use Rattle.query_core.specs.declared.predicate.Link.{Link}
use Rattle.query_core.specs.declared.predicate.Pred.{Pred}
use Rattle.query_core.specs.declared.predicate.Operand as operands
use Rattle.query_core.specs.declared.predicate.Operand.{Operand}
use Rattle.query_core.specs.declared.table.Item.{Item}
use Rattle.query_core.specs.declared.table.QueryTable.{QueryTable}
use Rattle.query_core.specs.Items.{AreItems}
use Rattle.query_core.specs.Connected.{are_joined, here, IsReached}
use Rattle.query_core.specs.Sets.{IsLeast}
use Rattle.query_core.proofs.Bits.{bit-first}
use Rattle.query_core.proofs.Reach.{joined_turned}
use Rattle.query_core.proofs.TrueLinks.{joined_append, joined_front, joined_back, true_ends, true_links_one}
use Rattle.query_core.proofs.TrueLinks.{true_links_more, true_links_same, true_between, WantedBelow}
use Rattle.query_core.specs.Links.{table_of, right_table, link_between, is_between, link_of, predicate_links}
use Rattle.query_core.specs.Links.{StartsComponent, AreApart, AreTrueLinks, AddsTrueLinks, JoinsComponents}

-- a table that is there is below the number of tables
abbrev is_below : ℕ → Option ℕ → Bool
is_below count table = option_map_or (λ t. nat_lt t count) table true

item_below : (count : ℕ) (items : List Item) (number : ℕ) → IsTrue (list_all (λ item. nat_lt item.table count) items)
    → IsTrue (is_below count (table_of items number))
item_below count [] number all = refl
item_below count (item ∷ items) zero all = (and_parts _ _ all).0
item_below count (item ∷ items) (suc number) all = item_below count items number (and_parts _ _ all).1

right_below : (count : ℕ) (items : List Item) (right : Operand)
    → IsTrue (list_all (λ item. nat_lt item.table count) items) → IsTrue (is_below count (right_table items right))
right_below count items (operands.TheVariants.Item number) all = item_below count items number all
right_below count items (operands.TheVariants.Int value) all = refl
right_below count items (operands.TheVariants.Str text) all = refl

between_two : (count : ℕ) (left right : Option ℕ) → IsTrue (is_below count left) → IsTrue (is_below count right)
    → IsTrue (option_map_or (is_between count) (link_between left right) true)
between_two count None right in_left in_right = refl
between_two count (Some a) None in_left in_right = refl
between_two count (Some a) (Some b) in_left in_right =
    cond_both (a == b) None (Some (record { a = a; b = b })) (λ o. IsTrue (option_map_or (is_between count) o true))
    (λ same. refl)
    (λ differ. and_from _ _ (and_from _ _ in_left in_right) (ap not differ))

cons_all : (p : Link → Bool) (o : Option Link) (links : List Link) → IsTrue (option_map_or p o true)
    → IsTrue (list_all p links) → IsTrue (list_all p (cons_option o links))
cons_all p None links one rest = rest
cons_all p (Some link) links one rest = and_from _ _ one rest

-- the links of predicates are between tables of the query
pub made_between : (tables : List QueryTable) (items : List Item) (preds : List Pred) → AreItems tables items
    → IsTrue (list_all (is_between (length tables)) (predicate_links items preds))
made_between tables items [] valid = refl
made_between tables items (pred ∷ preds) valid =
    let count = length tables in
    cons_all (is_between count) (link_of items pred) (predicate_links items preds)
    (between_two count (table_of items pred.left) (right_table items pred.right)
    (item_below count items pred.left valid.placed) (right_below count items pred.right valid.placed))
    (made_between tables items preds valid)

-- the links made and TRUE links behind them
adds_by : (IsWanted : ℕ → Type 0) (made added links : List Link) → links ≡ made ++ added → AreTrueLinks IsWanted added
    → AddsTrueLinks IsWanted made links
adds_by IsWanted made added links same are = subst (AddsTrueLinks IsWanted made) (sym same) (record {
  made_first = take-append_seam made added;
  true_last = subst (AreTrueLinks IsWanted) (sym (drop-append_seam made added)) are;
})

-- the links are those made, and what is behind them
added_behind : (IsWanted : ℕ → Type 0) (made links : List Link) → AddsTrueLinks IsWanted made links
    → links ≡ made ++ drop (length made) links
added_behind IsWanted made links adds = sym (take-append-drop (length made) links)
    ∙ ap (λ first. first ++ drop (length made) links) adds.made_first

module _ (IsWanted : ℕ → Type 0) (made links : List Link) where
  -- no TRUE link is wanted below table 1
  pub adds_none : ((t : ℕ) → IsWanted t → 0 < t) → links ≡ made → AddsTrueLinks (WantedBelow IsWanted 1) made links
  adds_none some same = adds_by (WantedBelow IsWanted 1) made [] links (same ∙ sym (append-nil made)) (record {
    ascending = refl;
    tables = λ t. (λ never. absurd (false≢true never), λ (below, wanted). absurd (omega (arith, below, some t wanted)));
  })

  -- the table at the bound gets its link, where it is wanted
  pub adds_more : (bound : ℕ) (new : List Link) → 0 < bound → IsWanted bound
      → new ≡ links ++ record { a = 0; b = bound } ∷ []
      → AddsTrueLinks (WantedBelow IsWanted bound) made links
      → AddsTrueLinks (WantedBelow IsWanted (bound + 1)) made new
  adds_more bound new some wanted same adds =
      let last : List Link = record { a = 0; b = bound } ∷ [] in
      let added = drop (length made) links in
      let whole : new ≡ made ++ (added ++ last) = same
      ∙ ap (λ ls. ls ++ last) (added_behind (WantedBelow IsWanted bound) made links adds)
      ∙ append_assoc made added last in
      adds_by (WantedBelow IsWanted (bound + 1)) made (added ++ last) new whole
      (true_links_more IsWanted bound added some wanted adds.true_last)

  -- and none where it isn't
  pub adds_same : (bound : ℕ) → (IsWanted bound → ⊥) → AddsTrueLinks (WantedBelow IsWanted bound) made links
      → AddsTrueLinks (WantedBelow IsWanted (bound + 1)) made links
  adds_same bound unwanted adds = record {
    made_first = adds.made_first;
    true_last = true_links_same IsWanted bound _ unwanted adds.true_last;
  }

  -- all that are wanted lie below the bound
  pub adds_all : (bound : ℕ) → ((t : ℕ) → IsWanted t → t < bound)
      → AddsTrueLinks (WantedBelow IsWanted bound) made links → AddsTrueLinks IsWanted made links
  adds_all bound within adds = record {
    made_first = adds.made_first;
    true_last = record {
      ascending = adds.true_last.ascending;
      tables = λ t. (
        λ joined. ((adds.true_last.tables t).0 joined).1,
        λ wanted.
            (adds.true_last.tables t).1 (within t wanted, wanted),
      );
    };
  }

-- the links made and the TRUE links that are wanted are one list
pub added_one : (IsWanted : ℕ → Type 0) (made links others : List Link) → AddsTrueLinks IsWanted made links
    → AddsTrueLinks IsWanted made others → others ≡ links
added_one IsWanted made links others adds again =
    added_behind IsWanted made others again
    ∙ ap (λ added. made ++ added) (true_links_one IsWanted (drop (length made) links) (drop (length made) others)
    adds.true_last again.true_last)
    ∙ sym (added_behind IsWanted made links adds)

-- a test isn't passed and failed
not_both : (b : Bool) → IsTrue b → IsTrue (not b) → ⊥
not_both true passed failed = false≢true failed
not_both false passed failed = false≢true passed

-- TRUE links join table 0 and a table that starts a component, in both directions
apart_ends : (count : ℕ) (made links : List Link) → AreTrueLinks (StartsComponent count made) links → (s t : ℕ)
    → IsTrue (are_joined links s t) → AreApart count made (min s t) (max s t)
apart_ends count made links are s t joined = elim (true_ends 1 links s t are.ascending joined) [
  | inl (none, above) ↦ (
    omega (arith, none),
    let greater : t ≡ max s t = omega (arith, none, above) in
        subst (StartsComponent count made) greater
        ((are.tables t).0 (subst (λ x. IsTrue (are_joined links x t)) none joined)),
  )
  | inr (none, above) ↦ (
    omega (arith, none),
    let greater : s ≡ max s t = omega (arith, none, above) in
        subst (StartsComponent count made) greater
        ((are.tables s).0 (subst (λ x. IsTrue (are_joined links x s)) none (sym (joined_turned links s t)
        ∙ joined))),
  )
]

-- together they join what the links made join and what is apart, and nothing else
pub components_joined : (count : ℕ) (made links : List Link) → AddsTrueLinks (StartsComponent count made) made links
    → JoinsComponents count made links
components_joined count made links adds =
    let added = drop (length made) links in
    let are = adds.true_last in
    let whole : links ≡ made ++ added = added_behind (StartsComponent count made) made links adds in
    record {
      by_predicates = λ s t joined. subst (λ ls. IsTrue (are_joined ls s t)) (sym whole)
          (joined_front made added s t joined);
      by_true = λ s t apart. subst (λ x. IsTrue (are_joined links x t)) (sym apart.0)
          (subst (λ ls. IsTrue (are_joined ls 0 t)) (sym whole)
          (joined_back made added 0 t ((are.tables t).1 apart.1)));
      no_others = λ s t joined unmade. elim (joined_append made added s t
          (subst (λ ls. IsTrue (are_joined ls s t)) whole joined)) [
            | inl before ↦ absurd (not_both (are_joined made s t) before unmade)
            | inr this ↦ apart_ends count made added are s t this
          ];
    }

-- the links of a query are between its tables, where those made are
pub added_between : (count : ℕ) (made links : List Link) → IsTrue (list_all (is_between count) made)
    → AddsTrueLinks (StartsComponent count made) made links → IsTrue (list_all (is_between count) links)
added_between count made links between adds =
    let added = drop (length made) links in
    subst (λ ls. IsTrue (list_all (is_between count) ls))
    (sym (added_behind (StartsComponent count made) made links adds))
    (list_all-append (is_between count) made added ∙ and_from _ _ between
    (true_between count 1 added (omega arith) adds.true_last.ascending
    (λ t joined. ((adds.true_last.tables t).0 joined).there)))

-- a table starts a component exactly where it is the least that it reaches
pub starts_from : (count : ℕ) (made : List Link) (t found least : ℕ) → 0 < t → t < count
    → IsReached made (2 ^ count - 1) t found → IsLeast found least → (least ≡ t) ↔ StartsComponent count made t
starts_from count made t found least some there reached is_least = (
  λ same. record {
    not_first = some;
    there = there;
    least = λ u reaches. subst (λ x. x ≤ u) same (is_least.least u (reached.complete u reaches));
  },
  λ starts. omega (
    arith,
    starts.least least (reached.sound least is_least.here),
    is_least.least t (reached.complete t (here (bit-first count t there))),
  ),
)
