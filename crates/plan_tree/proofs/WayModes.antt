-- The modes of each way of working, as sets.
use Rattle.std.proofs.Common.{◌≡◌, ◌↔◌, ℕ, ◌<◌, length, slice_get, get_or, Option, None, Some, refl, nat_lt, lt-ltb}
use Rattle.std.specs.Prelude.{⊤}
use Rattle.std.specs.Option.{option_map}
use Rattle.std.proofs.lemmas.Bool.{ltb-true}
use Rattle.std.proofs.lemmas.Option.{slice_get_within, slice_get-get_or}
use Rattle.query_core.specs.Crossing.{crossing_of}
use Rattle.query_core.specs.Expressions.{table_in}
use Rattle.query_core.specs.declared.expressions.Access.{Access}
use Rattle.query_core.specs.declared.expressions.PhysicalExpr.{PhysicalExpr}
use Rattle.query_core.specs.declared.query.Query.{Query}
use Rattle.query_core.specs.declared.words.KeyParts.{KeyParts}
use Rattle.request_props.specs.NumberSets.{IsInSet}
use Rattle.request_props.specs.Numbered.{lists_of}
use Rattle.request_props.specs.declared.given.GivenDist.{GivenDist}
use Rattle.request_props.specs.declared.given.GivenDist.TheVariants as given
use Rattle.request_props.specs.declared.request.Dist.TheVariants as dists
use Rattle.plan_space.specs.Lines.{dists_of_table, grouped_order, hash_colocated, in_order, kept_line, line_of}
use Rattle.plan_space.specs.Lines.{merge_colocated, merge_with, on_one, order_read, request}
use Rattle.plan_space.specs.Modes.{HasModeIn, mode_at}
use Rattle.plan_space.specs.Ways.{way_of}
use Rattle.plan_space.specs.declared.lines.LeftDist.TheVariants.{Grouped, SameSpread}
use Rattle.plan_space.specs.declared.lines.LeftOrder.TheVariants.{Same}
use Rattle.plan_space.specs.declared.lines.Line.{Line}
use Rattle.plan_space.specs.declared.lines.Line.TheVariants.{Above, Beside, Leaf}
use Rattle.plan_space.specs.declared.modes.Mode.TheVariants.{Plain, Copied, Hashed}
use Rattle.plan_space.specs.declared.modes.ModeSets.{ModeSets}
use Rattle.plan_space.specs.declared.ways.GroupBy.{GroupBy}
use Rattle.plan_space.specs.declared.ways.JoinBy.TheVariants as joins
use Rattle.plan_space.specs.declared.ways.Kept.{Kept}
use Rattle.plan_space.specs.declared.ways.Way.TheVariants.{Reads, Passes, Joins, Groups}
use Rattle.plan_tree.specs.Walks.{AreModesOf, HasLine, IsNextLine, IsNextOf}
use Rattle.plan_tree.proofs.FoundLines.{IsFound, by_first, by_made, by_test}

-- a line of which nothing is asked
abbrev IsAny : Line → Type 0
IsAny line = ⊤

-- an empty set, where no line is found
no_line : (In : Type 0) → (In → ⊥) → In ↔ HasLine None
no_line In never = (λ is. absurd (never is), λ (line, is). let wrong : ⊥ = cc in absurd wrong)

-- a set that has what finds a line
lined : (found : Option Line) (In Finds : Type 0) → In ↔ Finds → IsFound IsAny found ↔ (Finds × ⊤) → In ↔ HasLine found
lined found In Finds exact by = (
  λ is. let (line, at, any) = by.1 (exact.0 is, tt) in (line, at),
  λ (line, at). exact.1 (by.0 (line, at, tt)).0,
)

-- a line is made of what is found
made : {A : Type 0} (make : A → Line) (found : Option A)
    → HasLine (option_map make found) ↔ ((x : A) × (found ≡ Some x))
made make found = let by = by_made IsAny make found in (
  λ (line, at). let (x, is, any) = by.0 (line, at, tt) in (x, is),
  λ (x, is). let (line, at, any) = by.1 (x, is, tt) in (line, at),
)

-- something is found where nothing is excluded
found_some : {A : Type 0} (found : Option A) → (found ≡ None → ⊥) → (x : A) × (found ≡ Some x)
found_some None some = absurd (some refl)
found_some (Some x) some = (x, refl)

some_found : {A : Type 0} (found : Option A) (x : A) → found ≡ Some x → found ≡ None → ⊥
some_found found x is none = let wrong : ⊥ = cc in wrong

module _ (q : Query) (group : KeyParts) (modes : ModeSets) where
  module _ (nowhere : (n : ℕ) → IsInSet modes.hashed n → ⊥) (uncopied : (n : ℕ) → IsInSet modes.copied n → ⊥) where
    -- a mode for each distribution in which the table is read
    pub reads_lined : (access : Access)
        → ((n : ℕ) → IsInSet modes.plain n ↔ (n < length (dists_of_table q (table_in group))))
        → AreModesOf q group (Reads access) modes
    reads_lined access plain (Plain n) =
        let dists = dists_of_table q (table_in group) in
        let by = made (λ (dist : GivenDist). Leaf dist (order_read group access)) (slice_get dists n) in (
          λ has. by.1 (get_or dists n given.One, slice_get-get_or dists n given.One ((plain n).0 has)),
          λ found. let (dist, is) = by.0 found in (plain n).1 (slice_get_within dists n dist is),
        )
    reads_lined access plain (Copied n) = no_line _ (uncopied n)
    reads_lined access plain (Hashed n) = no_line _ (nowhere n)

    -- one mode
    pub passes_lined : (kept : Kept) (child : KeyParts) → ((n : ℕ) → IsInSet modes.plain n ↔ (n < 1))
        → AreModesOf q group (Passes kept child) modes
    passes_lined kept child first (Plain n) = lined _ _ _ (first n) (by_first IsAny (kept_line kept) n)
    passes_lined kept child first (Copied n) = no_line _ (uncopied n)
    passes_lined kept child first (Hashed n) = no_line _ (nowhere n)

  -- one on one segment, and one for each list
  pub groups_lined : (by : GroupBy) (child : KeyParts) → ((n : ℕ) → IsInSet modes.plain n ↔ (n < 1))
      → ((n : ℕ) → IsInSet modes.copied n → ⊥) → ((n : ℕ) → IsInSet modes.hashed n ↔ (n < length (lists_of q)))
      → AreModesOf q group (Groups by child) modes
  groups_lined by child first uncopied lists (Plain n) =
      lined _ _ _ (first n) (by_first IsAny (Above on_one (in_order (grouped_order q by))) n)
  groups_lined by child first uncopied lists (Copied n) = no_line _ (uncopied n)
  groups_lined by child first uncopied lists (Hashed n) =
      let count = length (lists_of q) in
      lined _ _ (n < count) (lists n)
      (let tells = by_test IsAny (Above (Grouped n) (in_order (grouped_order q by))) (nat_lt n count) in (
        λ found. (ltb-true n count (tells.0 found).0, tt),
        λ (less, any). tells.1 (lt-ltb n count less, tt),
      ))

  module _ (left right : KeyParts) where
    -- the numbers of predicates that equate columns across the groups
    crossing_lined : (line_with : (ℕ × ℕ) → Line) (pred : ℕ) (In : Type 0)
        → In ↔ (crossing_of q left right pred ≡ None → ⊥)
        → In ↔ HasLine (option_map line_with (crossing_of q left right pred))
    crossing_lined line_with pred In crosses =
        let by = made line_with (crossing_of q left right pred) in (
          λ is. by.1 (found_some (crossing_of q left right pred) (crosses.0 is)),
          λ found. let (sides, is) = by.0 found in crosses.1 (some_found (crossing_of q left right pred) sides is),
        )

    module _ (first : (n : ℕ) → IsInSet modes.plain n ↔ (n < 1)) (copied : (n : ℕ) → IsInSet modes.copied n ↔ (n < 1))
      where
        pub hash_lined : ((n : ℕ) → IsInSet modes.hashed n ↔ (crossing_of q left right n ≡ None → ⊥))
            → AreModesOf q group (Joins joins.Hashing left right) modes
        hash_lined crosses (Plain n) =
            lined _ _ _ (first n) (by_first IsAny (Beside on_one (in_order 0) (request dists.One 0)) n)
        hash_lined crosses (Copied n) =
            lined _ _ _ (copied n) (by_first IsAny (Beside SameSpread (in_order 0) (request dists.Copies 0)) n)
        hash_lined crosses (Hashed n) = crossing_lined (hash_colocated q) n _ (crosses n)

        pub loop_lined : ((n : ℕ) → IsInSet modes.hashed n → ⊥)
            → AreModesOf q group (Joins joins.Looping left right) modes
        loop_lined nowhere (Plain n) =
            lined _ _ _ (first n) (by_first IsAny (Beside on_one Same (request dists.One 0)) n)
        loop_lined nowhere (Copied n) =
            lined _ _ _ (copied n) (by_first IsAny (Beside SameSpread Same (request dists.Copies 0)) n)
        loop_lined nowhere (Hashed n) = no_line _ (nowhere n)

    pub merge_lined : ((n : ℕ) → IsInSet modes.plain n ↔ (crossing_of q left right n ≡ None → ⊥))
        → ((n : ℕ) → IsInSet modes.copied n ↔ (crossing_of q left right n ≡ None → ⊥))
        → ((n : ℕ) → IsInSet modes.hashed n ↔ (crossing_of q left right n ≡ None → ⊥))
        → AreModesOf q group (Joins joins.Merging left right) modes
    merge_lined one copied hashed (Plain n) = crossing_lined (merge_with q on_one dists.One) n _ (one n)
    merge_lined one copied hashed (Copied n) = crossing_lined (merge_with q SameSpread dists.Copies) n _ (copied n)
    merge_lined one copied hashed (Hashed n) = crossing_lined (merge_colocated q) n _ (hashed n)

module _ (q : Query) (e : PhysicalExpr) (modes : ModeSets) (are : AreModesOf q e.group (way_of e.operator) modes) where
  none_by : (mode : ℕ) (found : Option Line) → line_of q e mode ≡ found → (HasModeIn modes (mode_at mode) → ⊥)
      → found ≡ None
  none_by mode None is never = refl
  none_by mode (Some line) is never = absurd (never ((are (mode_at mode)).1 (line, is)))

  -- the first of all modes is the first mode with a line
  pub next_lined : (from : ℕ) (found : Option (ℕ × Line)) → IsNextOf q e modes from found → IsNextLine q e from found
  next_lined from None none = λ mode above. none_by mode (line_of q e mode) refl (none mode above)
  next_lined from (Some (mode, line)) next =
      (next.0, next.1, λ m above below. none_by m (line_of q e m) refl (next.2 m above below), next.3)
