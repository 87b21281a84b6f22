-- No two requests have one code.
use Rattle.std.proofs.Common.{◌≡◌, ℕ, ap, ◌∙◌, arith}
use Rattle.query_core.specs.Goals.{FitsCode}
use Rattle.request_props.specs.Requests as requests
use Rattle.request_props.specs.Requests.{code_of}
use Rattle.request_props.proofs.DistCodes as dist_codes
use Rattle.request_props.specs.declared.request.Dist.{Dist}
use Rattle.request_props.specs.declared.request.Request.{Request}

-- ---- requests

pub code_small : (wanted : Request) → requests.IsRequestInRange wanted → FitsCode (code_of wanted)
code_small wanted in_range = omega (arith, dist_codes.code_small wanted.dist in_range.list, in_range.numbered)

pub request_one : (wanted other : Request) → requests.IsRequestInRange wanted → requests.IsRequestInRange other
    → code_of wanted ≡ code_of other → wanted ≡ other
request_one wanted other in_range other_in_range same =
    let few = in_range.numbered in
    let fewer = other_in_range.numbered in
    let dist_same : wanted.dist ≡ other.dist = dist_codes.code_one wanted.dist other.dist (omega arith) in
    let order_same : wanted.order ≡ other.order = omega arith in
    ap (λ (d : Dist). let made : Request = record { dist = d; order = wanted.order } in made) dist_same
    ∙ ap (λ (o : ℕ). let made : Request = record { dist = other.dist; order = o } in made) order_same
