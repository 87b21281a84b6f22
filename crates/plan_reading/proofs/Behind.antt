-- What stands behind the name of an operator that a query can name.
use Rattle.std.proofs.Common.{◌≡◌, ℕ, zero, suc, ◌<◌, Bool, true, false, List, [], ◌∷◌, ◌++◌, Some, length, refl, ap}
use Rattle.std.proofs.Common.{arith}
use Rattle.std.specs.Prelude.{codes, decimal, ◌==◌, if◌then◌else◌}
use Rattle.std.specs.Option.{option_map}
use Rattle.query_core.specs.declared.query.Query.{Query}
use Rattle.query_core.specs.declared.expressions.Physical.{Physical}
use Rattle.query_text.specs.Lists.{list_text}
use Rattle.query_text.specs.Names.{physical_name}
use Rattle.request_props.specs.Numbered.{list_of, table_dist}
use Rattle.request_props.specs.declared.given.GivenDist.{GivenDist}
use Rattle.plan_space.specs.Lines.{is_replicated, replica_dists}
use Rattle.plan_space.specs.Ways.{way_of}
use Rattle.plan_space.specs.declared.modes.Mode.{Mode}
use Rattle.plan_space.specs.declared.modes.Mode.TheVariants as modes
use Rattle.plan_space.specs.declared.ways.JoinBy.{JoinBy}
use Rattle.plan_space.specs.declared.ways.JoinBy.TheVariants as joins
use Rattle.plan_space.specs.declared.ways.Way.{Way}
use Rattle.plan_space.specs.declared.ways.Way.TheVariants.{Reads, Passes, Joins, Groups}
use Rattle.plan_lines.specs.Text.{unnumbered, hash_mode_text, merge_mode_text, loop_mode_text, join_mode_text}
use Rattle.plan_lines.specs.Text.{agg_mode_text, replica_text, read_mode_text, only_mode_text}
use Rattle.plan_lines.specs.Text.{bracketed, place_text, kept_text, behind_name, text_if_any}
use Rattle.plan_reading.specs.Named.{named_text, HasModeForm, HasOnlyForm, HasReadForm, HasHashForm}
use Rattle.plan_reading.specs.Named.{HasLoopForm, HasJoinForm, HasAggForm, IsOperatorOf}
use Rattle.plan_reading.specs.declared.named.Named.TheVariants.{Native}

-- ---- the texts of modes, where these are there

abbrev pub hash_words : Mode → List ℕ
hash_words (modes.Plain number) = codes "one"
hash_words (modes.Copied number) = codes "copied"
hash_words (modes.Hashed number) = codes "colocated p" ++ decimal number

abbrev pub merge_words : Mode → List ℕ
merge_words (modes.Plain number) = codes "one p" ++ decimal number
merge_words (modes.Copied number) = codes "copied p" ++ decimal number
merge_words (modes.Hashed number) = codes "colocated p" ++ decimal number

abbrev pub loop_words : Mode → List ℕ
loop_words (modes.Plain number) = codes "one"
loop_words (modes.Copied number) = codes "copied"
loop_words (modes.Hashed number) = []

abbrev pub join_words : JoinBy → Mode → List ℕ
join_words joins.Hashing mode = hash_words mode
join_words joins.Merging mode = merge_words mode
join_words joins.Looping mode = loop_words mode

abbrev pub agg_words : Query → Mode → List ℕ
agg_words q (modes.Plain number) = codes "one"
agg_words q (modes.Copied number) = []
agg_words q (modes.Hashed list) = codes "hashed " ++ list_text q (list_of q list)

abbrev pub replica_words : ℕ → List ℕ
replica_words number = if number == 0 then codes " own" else if number == 1 then codes " one" else codes " copies"

abbrev pub read_words : Bool → Mode → List ℕ
read_words several (modes.Plain number) = if several then replica_words number else []
read_words several (modes.Copied number) = []
read_words several (modes.Hashed number) = []

-- what stands behind the name
abbrev pub behind_words : Query → Way → ℕ → Mode → List ℕ
behind_words q (Reads access) t mode = bracketed (place_text q t access ++ read_words (is_replicated q t) mode)
behind_words q (Passes kept child) t mode = kept_text q t kept
behind_words q (Joins by left right) t mode = bracketed (join_words by mode)
behind_words q (Groups by child) t mode = bracketed (agg_words q mode)

-- ---- a mode that a query can name has its text

unnumbered_is : (number : ℕ) (text : List ℕ) → number ≡ 0 → unnumbered number text ≡ Some text
unnumbered_is number text none = ap (λ k. unnumbered k text) none

only_is : (text : List ℕ) (mode : Mode) → HasOnlyForm mode → only_mode_text text mode ≡ Some text
only_is text (modes.Plain n) form = unnumbered_is n text form
only_is text (modes.Copied n) form = absurd form
only_is text (modes.Hashed n) form = absurd form

hash_is : (q : Query) (mode : Mode) → HasHashForm q mode → hash_mode_text mode ≡ Some (hash_words mode)
hash_is q (modes.Plain n) form = unnumbered_is n (codes "one") form
hash_is q (modes.Copied n) form = unnumbered_is n (codes "copied") form
hash_is q (modes.Hashed n) form = refl

merge_is : (mode : Mode) → merge_mode_text mode ≡ Some (merge_words mode)
merge_is (modes.Plain n) = refl
merge_is (modes.Copied n) = refl
merge_is (modes.Hashed n) = refl

loop_is : (mode : Mode) → HasLoopForm mode → loop_mode_text mode ≡ Some (loop_words mode)
loop_is (modes.Plain n) form = unnumbered_is n (codes "one") form
loop_is (modes.Copied n) form = unnumbered_is n (codes "copied") form
loop_is (modes.Hashed n) form = absurd form

join_is : (q : Query) (by : JoinBy) (mode : Mode) → HasJoinForm q by mode → join_mode_text by mode ≡ Some (join_words by mode)
join_is q joins.Hashing mode form = hash_is q mode form
join_is q joins.Merging mode form = merge_is mode
join_is q joins.Looping mode form = loop_is mode form

agg_is : (q : Query) (mode : Mode) → HasAggForm q mode → agg_mode_text q mode ≡ Some (agg_words q mode)
agg_is q (modes.Plain n) form = unnumbered_is n (codes "one") form
agg_is q (modes.Copied n) form = absurd form
agg_is q (modes.Hashed list) form = refl

-- the number is one of so many
abbrev pub IsReadIn : Bool → GivenDist → ℕ → Type 0
IsReadIn several dist n = n < length (if several then replica_dists else dist ∷ [])

replica_is : (n : ℕ) → n < 3 → replica_text n ≡ Some (replica_words n)
replica_is zero below = refl
replica_is (suc zero) below = refl
replica_is (suc (suc zero)) below = refl
replica_is (suc (suc (suc n))) below = absurd (omega (arith, below))

several_is : (several : Bool) (dist : GivenDist) (n : ℕ) → IsReadIn several dist n
    → read_mode_text several (modes.Plain n) ≡ Some (read_words several (modes.Plain n))
several_is true dist n below = replica_is n below
several_is false dist n below = unnumbered_is n [] (omega (arith, below))

read_is : (q : Query) (t : ℕ) (mode : Mode) → HasReadForm q t mode
    → read_mode_text (is_replicated q t) mode ≡ Some (read_words (is_replicated q t) mode)
read_is q t (modes.Plain n) form = several_is (is_replicated q t) (table_dist q t) n form
read_is q t (modes.Copied n) form = absurd form
read_is q t (modes.Hashed n) form = absurd form

behind_is : (q : Query) (way : Way) (t : ℕ) (mode : Mode) → HasModeForm q way t mode
    → behind_name q way t mode ≡ Some (behind_words q way t mode)
behind_is q (Reads access) t mode form =
    ap (option_map (λ read. bracketed (place_text q t access ++ read))) (read_is q t mode form)
behind_is q (Passes kept child) t mode form = only_is (kept_text q t kept) mode form
behind_is q (Joins by left right) t mode form = ap (option_map bracketed) (join_is q by mode form)
behind_is q (Groups by child) t mode form = ap (option_map bracketed) (agg_is q mode form)

-- the text of an operator that a query can name
pub operator_is : (q : Query) (o : Physical) (t : ℕ) (mode : Mode) → IsOperatorOf q o t mode
    → named_text q (Native o t mode) ≡ physical_name o ++ behind_words q (way_of o) t mode
operator_is q o t mode form =
    ap (λ b. text_if_any (option_map (λ behind. physical_name o ++ behind) b))
    (behind_is q (way_of o) t mode form.has_mode)
