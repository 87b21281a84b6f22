-- A distribution's number tells which it is.
use Rattle.std.proofs.Common.{◌≡◌, ◌<◌, refl, ap, arith}
use Rattle.request_props.specs.Requests.{IsDistInRange, dist_code}
use Rattle.request_props.specs.declared.request.Dist.{Dist}
use Rattle.request_props.specs.declared.request.Dist.TheVariants as dists

-- where a list has one of 60 numbers, the distribution has one of 63
pub code_small : (dist : Dist) → IsDistInRange dist → dist_code dist < 63
code_small dists.One in_range = omega arith
code_small dists.Spread in_range = omega arith
code_small dists.Copies in_range = omega arith
code_small (dists.Hashed list) in_range = omega arith

-- distributions with one number are one
pub code_one : (a b : Dist) → dist_code a ≡ dist_code b → a ≡ b
code_one dists.One dists.One same = refl
code_one dists.Spread dists.Spread same = refl
code_one dists.Copies dists.Copies same = refl
code_one (dists.Hashed list) (dists.Hashed other) same = ap dists.Hashed (omega (arith, same))
code_one a b same = absurd (omega (arith, same))
