-- What it says that a line asks what fits its children and gives what lies in its group, and when the parts of a line
-- do.
use Rattle.std.proofs.Common.{◌≡◌, ℕ, ◌*◌, ◌/◌, ◌^◌, List, [], sym, subst, arith, IsTrue}
use Rattle.std.specs.Prelude.{Option, Some, None, ◌==◌, ⊤}
use Rattle.std.specs.List.{Contains}
use Rattle.std.specs.Option.{option_map_or}
use Rattle.std.proofs.lemmas.Bool.{cond_both}
use Rattle.std.proofs.lemmas.List.Elements.{All-nil, All-cons, All-weaker}
use Rattle.std.specs.Int.{trailing_zeros, w32}
use Rattle.query_core.specs.Keys.{group_of_table, has_own, top_of, has_item}
use Rattle.query_core.specs.declared.query.Query.{Query}
use Rattle.query_core.specs.declared.words.KeyParts.{KeyParts}
use Rattle.query_core.specs.declared.words.KeyParts.TheVariants as groups
use Rattle.query_core.specs.declared.expressions.Children.{Children}
use Rattle.query_core.specs.declared.expressions.Children.TheVariants.{Zero, One, Two}
use Rattle.request_props.specs.Found.{joined_columns}
use Rattle.request_props.specs.declared.given.GivenDist.{GivenDist}
use Rattle.request_props.specs.declared.given.GivenDist.TheVariants as given
use Rattle.request_props.specs.Numbered.{IsNumbered, order_of, list_of, is_grouped_list, column_order, column_list}
use Rattle.request_props.specs.Satisfied.{given_order}
use Rattle.request_props.specs.declared.request.Dist.{Dist}
use Rattle.request_props.specs.declared.request.Request.{Request}
use Rattle.plan_space.specs.Gives.{gives_so}
use Rattle.request_props.specs.Lying.{ListLiesIn, OrderLiesIn}
use Rattle.request_props.specs.Dists.{list_given, list_asked}
use Rattle.request_props.specs.Fitting.{HashFits, ListFits, DistFits, Fits}
use Rattle.plan_space.specs.Lines.{request, in_order, on_hashed}
use Rattle.plan_space.specs.declared.lines.LeftDist.{LeftDist}
use Rattle.plan_space.specs.declared.lines.LeftDist.TheVariants as left_dists
use Rattle.plan_space.specs.declared.lines.LeftOrder.{LeftOrder}
use Rattle.plan_space.specs.declared.lines.LeftOrder.TheVariants as left_orders
use Rattle.plan_space.specs.declared.lines.Line.{Line}
use Rattle.plan_space.specs.declared.lines.Line.TheVariants as lines
use Rattle.plan_space.specs.Alternatives.{left_asked, LeftServes}
use Rattle.plan_space.specs.Laws.{GivenDistFits, DistLiesIn, GivenFits}
use Rattle.plan_space.proofs.Numbers.{ListingIsOne, column_list_numbered, column_order_numbered}

-- the rows of the group lie by lists of its items
abbrev pub DistsFit : Query → KeyParts → Type 0
DistsFit q group = (dist : GivenDist) → DistLiesIn q group dist → GivenDistFits q group dist

-- a fixed distribution fits the left child, as it is given and as it is asked for; one that is passed on does where the
-- child's rows lie by its items
abbrev pub FixedDistFits : Query → KeyParts → LeftDist → Type 0
FixedDistFits q left (left_dists.Fixed given asked) = GivenDistFits q left given × DistFits q left asked
FixedDistFits q left (left_dists.Grouped list) = HashFits q left list
FixedDistFits q left left_dists.Same = DistsFit q left
FixedDistFits q left left_dists.SameSpread = DistsFit q left

-- and so does a fixed order
abbrev pub FixedOrderFits : Query → KeyParts → LeftOrder → Type 0
FixedOrderFits q left (left_orders.Fixed given asked) = OrderLiesIn q left (given_order q given) × IsNumbered q asked
    × OrderLiesIn q left (order_of q asked)
FixedOrderFits q left left_orders.Same = ⊤

-- what is fixed over the left child of a join fits it
pub record LeftFits (q : Query) (left : KeyParts) (dist : LeftDist) (order : LeftOrder) : Type 0 where
  pub dist_fits : FixedDistFits q left dist
  pub order_fits : FixedOrderFits q left order

-- for a request that fits the group and that the line can give, what is asked of the one child fits that
abbrev pub AsksAbove : Query → KeyParts → KeyParts → LeftDist → LeftOrder → Type 0
AsksAbove q group child dist order = (wanted : Request) → Fits q group wanted → LeftServes q dist order wanted
    → Fits q child (left_asked dist order wanted)

-- what the line asks fits the children: of one child for what fits the group, and of two where the line fixes it
abbrev pub AsksFitting : Query → KeyParts → Line → Children → Type 0
AsksFitting q group (lines.Leaf dist order) children = ⊤
AsksFitting q group (lines.Above dist order) Zero = ⊤
AsksFitting q group (lines.Above dist order) (One child) = AsksAbove q group child dist order
AsksFitting q group (lines.Above dist order) (Two left right) = ⊤
AsksFitting q group (lines.Beside dist order request) Zero = ⊤
AsksFitting q group (lines.Beside dist order request) (One child) = ⊤
AsksFitting q group (lines.Beside dist order request) (Two left right) = LeftFits q left dist order
    × Fits q right request

-- the group has the items of the other one
abbrev pub HasItemsOf : Query → KeyParts → KeyParts → Type 0
HasItemsOf q group other = (i : ℕ) → IsTrue (has_item q other i) → IsTrue (has_item q group i)

-- a fixed distribution lies in the group, and so does each that lies in the left child, where it is passed on
abbrev pub DistWithin : Query → KeyParts → KeyParts → LeftDist → Type 0
DistWithin q group left (left_dists.Fixed given asked) = DistLiesIn q group given
DistWithin q group left (left_dists.Grouped list) = IsTrue (is_grouped_list q list)
    → DistLiesIn q group (given.Hashed list)
DistWithin q group left left_dists.Same = (dist : GivenDist) → DistLiesIn q left dist → DistLiesIn q group dist
DistWithin q group left left_dists.SameSpread = (dist : GivenDist) → DistLiesIn q left dist → DistLiesIn q group dist

-- likewise the order
abbrev pub OrderWithin : Query → KeyParts → KeyParts → LeftOrder → Type 0
OrderWithin q group left (left_orders.Fixed given asked) = OrderLiesIn q group (given_order q given)
OrderWithin q group left left_orders.Same = (order : List ℕ) → OrderLiesIn q left order → OrderLiesIn q group order

-- what is given over the left child lies in the group
pub record LeftWithin (q : Query) (group left : KeyParts) (dist : LeftDist) (order : LeftOrder) : Type 0 where
  pub dist_within : DistWithin q group left dist
  pub order_within : OrderWithin q group left order

-- what the line gives over its children lies in the group
abbrev pub GivesWithin : Query → KeyParts → Line → Children → Type 0
GivesWithin q group (lines.Leaf dist order) children = GivenFits q group (gives_so dist order)
GivesWithin q group (lines.Above dist order) Zero = ⊤
GivesWithin q group (lines.Above dist order) (One child) = LeftWithin q group child dist order
GivesWithin q group (lines.Above dist order) (Two left right) = ⊤
GivesWithin q group (lines.Beside dist order request) Zero = ⊤
GivesWithin q group (lines.Beside dist order request) (One child) = ⊤
GivesWithin q group (lines.Beside dist order request) (Two left right) = LeftWithin q group left dist order

-- the line does both
pub record IsFitting (q : Query) (group : KeyParts) (children : Children) (line : Line) : Type 0 where
  pub asks : AsksFitting q group line children
  pub gives : GivesWithin q group line children

-- ---- distributions and orders of a group

-- a distribution that fits a group lies in it
pub dist_lies : (q : Query) (group : KeyParts) (dist : GivenDist) → GivenDistFits q group dist → DistLiesIn q group dist
dist_lies q (groups.Get t) dist fits = fits
dist_lies q (groups.Filter t) dist fits = fits
dist_lies q (groups.Join set) dist fits = fits
dist_lies q groups.Partial dist fits = tt
dist_lies q groups.Agg dist fits = fits

-- the rows of a group that joins tables lie by lists of its items
pub top_dists_fit : (q : Query) (set : ℕ) → DistsFit q (top_of q set)
top_dists_fit q set =
    let least = trailing_zeros w32 set in
    cond_both (set == 2 ^ least) (Some least) None
    (λ found. DistsFit q (option_map_or (group_of_table q) found (groups.Join set)))
    (λ same. cond_both (has_own q least) (groups.Filter least) (groups.Get least) (λ group. DistsFit q group)
    (λ own dist lies. lies) (λ none dist lies. lies))
    (λ several dist lies. lies)

module _ (q : Query) (group left : KeyParts) (kept : HasItemsOf q group left) where
  -- a list that fits the left child fits each group that has its items
  pub list_kept : (list : Option ℕ) → ListFits q left list → ListFits q group list
  list_kept None fits = tt
  list_kept (Some list) fits = record {
    numbered = fits.numbered;
    lies_in = All-weaker (λ i. IsTrue (has_item q left i)) (λ i. IsTrue (has_item q group i)) kept (list_of q list)
        fits.lies_in;
  }

  -- so does a distribution
  dist_kept : (dist : GivenDist) → GivenDistFits q left dist → GivenDistFits q group dist
  dist_kept dist = list_kept (list_given dist)

  -- so it lies there, where the rows of the left child lie by its items
  pub dist_passes : DistsFit q left → (dist : GivenDist) → DistLiesIn q left dist → DistLiesIn q group dist
  dist_passes fit dist lies = dist_lies q group dist (dist_kept dist (fit dist lies))

  -- likewise an order
  pub order_passes : (order : List ℕ) → OrderLiesIn q left order → OrderLiesIn q group order
  order_passes order =
      All-weaker (λ element. IsTrue (has_item q left (element / 2)))
      (λ element. IsTrue (has_item q group (element / 2))) (λ element item. kept (element / 2) item) order

  dist_within : (dist : LeftDist) → FixedDistFits q left dist → DistWithin q group left dist
  dist_within (left_dists.Fixed given asked) fits = dist_lies q group given (dist_kept given fits.0)
  dist_within (left_dists.Grouped list) fits =
      λ grouped. dist_lies q group (given.Hashed list) (dist_kept (given.Hashed list) fits)
  dist_within left_dists.Same fits = dist_passes fits
  dist_within left_dists.SameSpread fits = dist_passes fits

  order_within : (order : LeftOrder) → FixedOrderFits q left order → OrderWithin q group left order
  order_within (left_orders.Fixed given asked) fits = order_passes (given_order q given) fits.0
  order_within left_orders.Same fits = order_passes

  -- where the group has the items of the left child, what fits that child lies in the group
  pub items_within : (dist : LeftDist) (order : LeftOrder) → LeftFits q left dist order
      → LeftWithin q group left dist order
  items_within dist order fits = record {
    dist_within = dist_within dist fits.dist_fits;
    order_within = order_within order fits.order_fits;
  }

-- the item of an ascending element
pub half : (column : ℕ) → column ≡ 2 * column / 2
half column = omega arith

module _ (one : ListingIsOne) (q : Query) (group : KeyParts) (column : ℕ) (item : IsTrue (has_item q group column))
    (joined : Contains (joined_columns q) column) where
  -- the hash of a column of a join fits the group that has the column
  pub column_hash_fits : HashFits q group (column_list q column)
  column_hash_fits =
      let place = column_list_numbered one q column joined in
      record {
        numbered = place.0;
        lies_in = subst (ListLiesIn q group) (sym place.1)
            (All-cons (λ i. IsTrue (has_item q group i)) column [] item (All-nil (λ i. IsTrue (has_item q group i))));
      }

  -- so does its order
  pub column_order_fits : IsNumbered q (column_order q column)
      × OrderLiesIn q group (order_of q (column_order q column))
  column_order_fits =
      let place = column_order_numbered one q column joined in
      let element : IsTrue (has_item q group (2 * column / 2)) =
      subst (λ i. IsTrue (has_item q group i)) (half column) item in (
        place.0,
        subst (OrderLiesIn q group) (sym place.1)
            (All-cons (λ e. IsTrue (has_item q group (e / 2))) (2 * column) [] element
            (All-nil (λ e. IsTrue (has_item q group (e / 2))))),
      )

module _ (q : Query) (left : KeyParts) where
  -- the empty order fits each group
  pub no_order_fits : IsNumbered q 0 × OrderLiesIn q left (order_of q 0)
  no_order_fits = (omega arith, All-nil (λ element. IsTrue (has_item q left (element / 2))))

  -- an order fits where it is given as it is asked for
  pub in_order_fits : (order : ℕ) → IsNumbered q order × OrderLiesIn q left (order_of q order)
      → FixedOrderFits q left (in_order order)
  in_order_fits order fits = (fits.1, fits.0, fits.1)

  -- so does a hashed distribution
  pub on_hashed_fits : (list : ℕ) → HashFits q left list → FixedDistFits q left (on_hashed list)
  on_hashed_fits list fits = (fits, fits)

module _ (q : Query) (group child : KeyParts) (kept : HasItemsOf q child group) where
  -- a distribution that is asked of a group fits each child that has the group's items
  pub dist_asked_kept : (dist : Dist) → DistFits q group dist → DistFits q child dist
  dist_asked_kept dist = list_kept q child group kept (list_asked dist)

-- a request in no order fits where its distribution does
pub plain_fits : (q : Query) (group : KeyParts) (dist : Dist) → DistFits q group dist → Fits q group (request dist 0)
plain_fits q group dist fits = record {
  dist = fits;
  numbered = (no_order_fits q group).0;
  order = (no_order_fits q group).1;
}
