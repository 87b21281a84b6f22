-- Rows that are distributed as asked are of the class that is asked for, and lie by the list that is.
use Rattle.std.proofs.Common.{◌≡◌, ℕ, Option, None, Some, refl, subst}
use Rattle.query_core.specs.declared.query.Query.{Query}
use Rattle.query_core.specs.declared.words.KeyParts.{KeyParts}
use Rattle.cost_units.specs.declared.shape.Class.{Class}
use Rattle.cost_units.specs.declared.shape.Class.TheVariants as classes
use Rattle.request_props.specs.Dists.{class_of, class_asked, list_given, list_asked}
use Rattle.request_props.specs.Fitting.{ListFits}
use Rattle.request_props.specs.Satisfied.{InOneClass, ListMeets, Meets}
use Rattle.request_props.specs.declared.given.GivenDist.{GivenDist}
use Rattle.request_props.specs.declared.request.Dist.{Dist}
use Rattle.request_props.specs.declared.request.Dist.TheVariants.{Spread}

-- what holds in one class holds, and the classes are one
pub class_parts : (a b : Class) (Fact : Type 0) → InOneClass a b Fact → (a ≡ b) × Fact
class_parts classes.Spread classes.Spread Fact holds = (refl, holds)
class_parts classes.Spread classes.One Fact holds = absurd holds
class_parts classes.Spread classes.Copies Fact holds = absurd holds
class_parts classes.One classes.Spread Fact holds = absurd holds
class_parts classes.One classes.One Fact holds = (refl, holds)
class_parts classes.One classes.Copies Fact holds = absurd holds
class_parts classes.Copies classes.Spread Fact holds = absurd holds
class_parts classes.Copies classes.One Fact holds = absurd holds
class_parts classes.Copies classes.Copies Fact holds = (refl, holds)

same_class : (a : Class) (Fact : Type 0) → Fact → InOneClass a a Fact
same_class classes.Spread Fact holds = holds
same_class classes.One Fact holds = holds
same_class classes.Copies Fact holds = holds

-- and what holds does in one class
pub in_class : (a b : Class) (Fact : Type 0) → a ≡ b → Fact → InOneClass a b Fact
in_class a b Fact same holds = subst (λ (class : Class). InOneClass a class Fact) same (same_class a Fact holds)

module _ (dist : GivenDist) (wanted : Dist) where
  -- the class is the one that is asked for
  pub met_class : Meets dist wanted → class_of dist ≡ class_asked wanted
  met_class met =
      (class_parts (class_of dist) (class_asked wanted) (ListMeets (list_given dist) (list_asked wanted)) met).0

  -- and so is the list, if one is
  pub met_list : Meets dist wanted → ListMeets (list_given dist) (list_asked wanted)
  met_list met =
      (class_parts (class_of dist) (class_asked wanted) (ListMeets (list_given dist) (list_asked wanted)) met).1

  -- rows of the class that lie by the list are distributed as asked
  pub class_meets : class_of dist ≡ class_asked wanted → ListMeets (list_given dist) (list_asked wanted)
      → Meets dist wanted
  class_meets =
      in_class (class_of dist) (class_asked wanted) (ListMeets (list_given dist) (list_asked wanted))

-- rows are spread exactly where they meet what asks for spread rows
pub spread_meets : (dist : GivenDist) → class_of dist ≡ classes.Spread → Meets dist Spread
spread_meets dist spread = class_meets dist Spread spread tt

pub met_spread : (dist : GivenDist) → Meets dist Spread → class_of dist ≡ classes.Spread
met_spread dist = met_class dist Spread

-- a list that is met fits where the one that is given does
pub met_list_fits : (q : Query) (group : KeyParts) (given asked : Option ℕ) → ListMeets given asked
    → ListFits q group given → ListFits q group asked
met_list_fits q group given None met fits = tt
met_list_fits q group None (Some asked) met fits = absurd met
met_list_fits q group (Some list) (Some asked) met fits = subst (λ l. ListFits q group (Some l)) met fits
