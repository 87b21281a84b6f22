-- How a request is printed.
use Rattle.std.specs.Prelude.{ℕ, zero, suc, List, [], ◌++◌, codes}
use Rattle.query_core.specs.declared.query.Query.{Query}
use Rattle.request_props.specs.Numbered.{list_of, order_of}
use Rattle.request_props.specs.declared.request.Dist.{Dist}
use Rattle.request_props.specs.declared.request.Dist.TheVariants as dists
use Rattle.request_props.specs.declared.request.Request.{Request}
use Rattle.query_text.specs.Lists.{list_text, order_text}

-- a distribution
abbrev pub dist_text : Query → Dist → List ℕ
dist_text q dists.One = codes "One"
dist_text q dists.Spread = codes "Spread"
dist_text q dists.Copies = codes "Copies"
dist_text q (dists.Hashed list) = codes "Hashed(" ++ list_text q (list_of q list) ++ codes ")"

-- an order that isn't empty, behind the distribution
abbrev pub order_part : Query → ℕ → List ℕ
order_part q zero = []
order_part q (suc place) = codes "; " ++ order_text q (order_of q (suc place))

-- a request
abbrev pub request_text : Query → Request → List ℕ
request_text q wanted = codes "[" ++ dist_text q wanted.dist ++ order_part q wanted.order ++ codes "]"
