-- Requests, and their numbers.
use Rattle.std.specs.Prelude.{ℕ, ◌≡◌, ◌+◌, ◌*◌, ◌/◌, ◌%◌, ◌<◌, ◌≤◌, Option, None, Some, ⊤}
use Rattle.request_props.specs.Dists.{list_asked}
use Rattle.request_props.specs.declared.request.Dist.{Dist}
use Rattle.request_props.specs.declared.request.Dist.TheVariants.{One, Spread, Copies, Hashed}
use Rattle.request_props.specs.declared.request.Request.{Request}

-- a list has a number below 60
abbrev pub IsListInRange : Option ℕ → Type 0
IsListInRange None = ⊤
IsListInRange (Some list) = list < 60

-- so has that of a distribution, if there is one
abbrev pub IsDistInRange : Dist → Type 0
IsDistInRange dist = IsListInRange (list_asked dist)

-- the list and the order are among the 60 that a query can have; the empty order has 0
pub record IsRequestInRange (request : Request) : Type 0 where
  pub list : IsDistInRange request.dist
  pub numbered : request.order ≤ 60

-- the number of a distribution
abbrev pub dist_code : Dist → ℕ
dist_code One = 0
dist_code Spread = 1
dist_code Copies = 2
dist_code (Hashed list) = 3 + list

-- the number is that of the distribution
abbrev pub HasDistCode : Dist → ℕ → Type 0
HasDistCode dist code = IsDistInRange dist × (dist_code dist ≡ code)

-- the number of a request
abbrev pub code_of : Request → ℕ
code_of request = dist_code request.dist * 64 + request.order

-- the number of the distribution in that of a request, as a function of any number
abbrev pub dist_field : ℕ → ℕ
dist_field code = code / 64

-- the number of the order in it
abbrev pub order_field : ℕ → ℕ
order_field code = code % 64

-- the number is that of the request
pub record HasCode (request : Request) (code : ℕ) : Type 0 where
  pub in_range : IsRequestInRange request
  pub is_code : code_of request ≡ code
