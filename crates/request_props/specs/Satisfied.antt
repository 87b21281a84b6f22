-- When what a plan gives is what is asked for.
use Rattle.std.specs.Prelude.{ℕ, ◌≡◌, List, [], ◌∷◌, Option, None, Some, slice_get, slice_index_or, ⊤}
use Rattle.std.specs.Option.{option_map_or}
use Rattle.query_core.specs.Expressions.{HasIndex}
use Rattle.query_core.specs.declared.query.Query.{Query}
use Rattle.cost_units.specs.declared.shape.Class.{Class}
use Rattle.cost_units.specs.declared.shape.Class.TheVariants as classes
use Rattle.request_props.specs.Dists.{class_of, class_asked, list_given, list_asked}
use Rattle.request_props.specs.Found.{ascending}
use Rattle.request_props.specs.Numbers.{IsNumbered, order_of}
use Rattle.request_props.specs.declared.request.Dist.{Dist}
use Rattle.request_props.specs.declared.request.Request.{Request}
use Rattle.request_props.specs.declared.given.GivenDist.{GivenDist}
use Rattle.request_props.specs.declared.given.GivenOrder.{GivenOrder}
use Rattle.request_props.specs.declared.given.GivenOrder.TheVariants.{Listed, Index}
use Rattle.request_props.specs.declared.given.Given.{Given}

-- the fact, of rows of one class where those of another are asked for
abbrev pub InOneClass : Class → Class → Type 0 → Type 0
InOneClass classes.Spread classes.Spread Fact = Fact
InOneClass classes.Spread classes.One Fact = ⊥
InOneClass classes.Spread classes.Copies Fact = ⊥
InOneClass classes.One classes.Spread Fact = ⊥
InOneClass classes.One classes.One Fact = Fact
InOneClass classes.One classes.Copies Fact = ⊥
InOneClass classes.Copies classes.Spread Fact = ⊥
InOneClass classes.Copies classes.One Fact = ⊥
InOneClass classes.Copies classes.Copies Fact = Fact

-- the list is the one that is asked for, if one is
abbrev pub ListMeets : Option ℕ → Option ℕ → Type 0
ListMeets given None = ⊤
ListMeets None (Some asked) = ⊥
ListMeets (Some list) (Some asked) = list ≡ asked

-- rows that lie so are distributed as asked: they are of the class, and lie by the list
abbrev pub Meets : GivenDist → Dist → Type 0
Meets given asked = InOneClass (class_of given) (class_asked asked) (ListMeets (list_given given) (list_asked asked))

-- the first order begins with the second
abbrev pub BeginsWith : List ℕ → List ℕ → Type 0
BeginsWith order [] = ⊤
BeginsWith [] (y ∷ ys) = ⊥
BeginsWith (x ∷ xs) (y ∷ ys) = (x ≡ y) × BeginsWith xs ys

-- the columns of an index of a table
abbrev pub index_columns : Query → ℕ → ℕ → List ℕ
index_columns q table index = slice_index_or (option_map_or (λ t. t.indexes) (slice_get q.tables table) []) index []

-- the elements of the order that is given
abbrev pub given_order : Query → GivenOrder → List ℕ
given_order q (Listed number) = order_of q number
given_order q (Index table index) = ascending (index_columns q table index)

-- what is given has the distribution that is asked for, and an order that begins as asked
pub record Satisfies (q : Query) (given : Given) (request : Request) : Type 0 where
  pub dist : Meets given.dist request.dist
  pub order : BeginsWith (given_order q given.order) (order_of q request.order)

-- an order has a number, and an index is there
abbrev pub IsOrderKnown : Query → GivenOrder → Type 0
IsOrderKnown q (Listed number) = IsNumbered q number
IsOrderKnown q (Index table index) = HasIndex q table index
