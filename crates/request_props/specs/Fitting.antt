-- Which requests fit which groups.
use Rattle.std.specs.Prelude.{ℕ, Option, None, Some, ⊤}
use Rattle.query_core.specs.declared.query.Query.{Query}
use Rattle.query_core.specs.declared.words.KeyParts.{KeyParts}
use Rattle.request_props.specs.Dists.{list_asked}
use Rattle.request_props.specs.Lying.{ListLiesIn, OrderLiesIn}
use Rattle.request_props.specs.Numbers.{list_of, IsList, IsNumbered, order_of}
use Rattle.request_props.specs.declared.request.Dist.{Dist}
use Rattle.request_props.specs.declared.request.Request.{Request}

-- the list has a number, and lies in the group
pub record HashFits (q : Query) (group : KeyParts) (list : ℕ) : Type 0 where
  pub numbered : IsList q list
  pub lies_in : ListLiesIn q group (list_of q list)

-- the order has a number, and lies in the group
pub record OrderFits (q : Query) (group : KeyParts) (order : ℕ) : Type 0 where
  pub numbered : IsNumbered q order
  pub lies_in : OrderLiesIn q group (order_of q order)

-- the list fits the group, if there is one
abbrev pub ListFits : Query → KeyParts → Option ℕ → Type 0
ListFits q group None = ⊤
ListFits q group (Some list) = HashFits q group list

-- a distribution fits the group where its list does
abbrev pub DistFits : Query → KeyParts → Dist → Type 0
DistFits q group dist = ListFits q group (list_asked dist)

-- the request's list and order have numbers, and lie in the group
pub record Fits (q : Query) (group : KeyParts) (request : Request) : Type 0 where
  pub dist : DistFits q group request.dist
  pub numbered : IsNumbered q request.order
  pub order : OrderLiesIn q group (order_of q request.order)
