-- No text of a node begins with a space.
use Rattle.std.proofs.Common.{ℕ, List, [], ◌∷◌, ◌++◌, Option, Some, None, refl, sym, subst}
use Rattle.std.specs.Option.{option_map}
use Rattle.query_core.specs.declared.query.Query.{Query}
use Rattle.query_core.specs.declared.expressions.Physical.{Physical}
use Rattle.query_text.specs.Names.{physical_name}
use Rattle.plan_space.specs.Ways.{way_of}
use Rattle.plan_space.specs.declared.nodes.Enforcer.{Enforcer}
use Rattle.plan_space.specs.declared.nodes.Enforcer.TheVariants as enforcers
use Rattle.plan_lines.specs.Text.{behind_name, enforcer_text, text_if_any}
use Rattle.plan_reading.specs.Named.{named_text, HasForm}
use Rattle.plan_reading.specs.Reading.{is_space, IsFlush}
use Rattle.plan_reading.specs.declared.named.Named.{Named}
use Rattle.plan_reading.specs.declared.named.Named.TheVariants as named
use Rattle.plan_reading.proofs.Behind.{behind_words, operator_is}
use Rattle.plan_reading.proofs.Fronts.{EndsFront}
use Rattle.plan_reading.proofs.OperatorRows.{is_name}

enforcer_flush : (q : Query) (e : Enforcer) → IsFlush (enforcer_text q e)
enforcer_flush q enforcers.Gather = refl
enforcer_flush q enforcers.Broadcast = refl
enforcer_flush q (enforcers.Sort o) = refl
enforcer_flush q (enforcers.GatherMerge o) = refl
enforcer_flush q (enforcers.Redistribute h) = refl

-- a text that the query can name begins with something else
pub flush_text : (q : Query) (n : Named) → HasForm q n → IsFlush (named_text q n)
flush_text q (named.Native o t m) form =
    subst IsFlush (sym (operator_is q o t m form)) ((is_name o).flush (behind_words q (way_of o) t m))
flush_text q (named.Enforcer e) form = enforcer_flush q e

-- ---- or with nothing

ends_from : (text : List ℕ) → IsFlush text → EndsFront is_space text
ends_from [] is = absurd is
ends_from (byte ∷ rest) is = is

operator_ends : (o : Physical) (behind : Option (List ℕ))
    → EndsFront is_space (text_if_any (option_map (λ b. physical_name o ++ b) behind))
operator_ends o None = tt
operator_ends o (Some behind) = ends_from (physical_name o ++ behind) ((is_name o).flush behind)

pub flush : (q : Query) (n : Named) → EndsFront is_space (named_text q n)
flush q (named.Native o t m) = operator_ends o (behind_name q (way_of o) t m)
flush q (named.Enforcer e) = ends_from (enforcer_text q e) (enforcer_flush q e)
