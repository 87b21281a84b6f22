-- A column that a reference means is there.
use Rattle.std.proofs.Common.{◌≡◌, ℕ, ◌+◌, ◌≤◌, ◌==◌, Bool, true, false, cond, List, [], ◌∷◌, length, map, position}
use Rattle.std.proofs.Common.{nat_lt, Option, Some, None, option_map, option_to_list, Ok, refl, arith}
use Rattle.std.specs.List.{list_all}
use Rattle.std.proofs.lemmas.List.{length-map}
use Rattle.std.proofs.lemmas.List.Quantifiers.{position-Some}
use Rattle.std.proofs.lemmas.Bool.{eqb-true, eq-eqb, lt-ltb, and_from, and_parts}
use Rattle.std.proofs.lemmas.Bool.Decides.{nat_tests}
use Rattle.std.specs.Str.{bytes_eq}
use Rattle.sql_bind.proofs.Truths.{all_both, all_weaker}
use Rattle.sql_reader.specs.declared.syntax.ColRef.{ColRef}
use Rattle.sql_bind.specs.declared.columns.Column.{Column}
use Rattle.sql_bind.specs.Scope.{FromTable}
use Rattle.sql_bind.specs.Columns.{column, candidates, column_of, only_one, place_in, belongs_to}

-- the column is one of the tables', which begin at this place of FROM
abbrev pub has_column : ℕ → List FromTable → Column → Bool
has_column base [] c = false
has_column base (t ∷ ts) c = cond (c.table == base) (nat_lt c.place (length t.info.columns))
    (has_column (base + 1) ts c)

from_case : (base : ℕ) (c : Column) (found rest : Bool) (b : Bool) → (c.table == base) ≡ b → cond b found rest ≡ true
    → (rest ≡ true → base + 1 ≤ c.table) → base ≤ c.table
from_case base c found rest true is e later = omega (arith, eqb-true c.table base is)
from_case base c found rest false is e later = omega (arith, later e)

pub from_base : (base : ℕ) (ts : List FromTable) (c : Column) → has_column base ts c ≡ true → base ≤ c.table
from_base base [] c e = absurd cc
from_base base (t ∷ ts) c e = from_case base c (nat_lt c.place (length t.info.columns)) (has_column (base + 1) ts c)
    (c.table == base) refl e (from_base (base + 1) ts c)

pub differs : (a b : ℕ) → b + 1 ≤ a → (a == b) ≡ false
differs a b above = grind (arith, nat_tests)

-- a column of a later table
pub later : (base : ℕ) (t : FromTable) (ts : List FromTable) (c : Column) → has_column (base + 1) ts c ≡ true
    → has_column base (t ∷ ts) c ≡ true
later base t ts c e = rw (differs c.table base (from_base (base + 1) ts c e)) e

-- a column of the first table
pub here : (base : ℕ) (t : FromTable) (ts : List FromTable) (place : ℕ) → nat_lt place (length t.info.columns) ≡ true
    → has_column base (t ∷ ts) (column base place) ≡ true
here base t ts place e = rw (eq-eqb base base refl) e

some_if : {A : Type 0} (b : Bool) (found : Option A) (x : A) → cond b found None ≡ Some x → (b ≡ true)
    × (found ≡ Some x)
some_if true found x e = (refl, e)
some_if false found x e = absurd cc

place_known : (test : List ℕ → Bool) (names : List (List ℕ)) (i : ℕ) → position test names ≡ Some i
    → nat_lt i (length names) ≡ true
place_known test names i e = lt-ltb i (length names) (position-Some test names i [] e).0

in_known : (reference : ColRef) (t : FromTable) (place : ℕ) → place_in reference t ≡ Some place
    → nat_lt place (length t.info.columns) ≡ true
in_known reference t place e =
    let names = map (λ c. c.name) t.info.columns in
    let width : length names ≡ length t.info.columns = length-map t.info.columns (λ c. c.name) in
    rw width at (place_known (bytes_eq reference.name) names place
    (some_if (belongs_to reference.table t.alias) (position (bytes_eq reference.name) names) place e).1)

first_known : (reference : ColRef) (base : ℕ) (t : FromTable) (ts : List FromTable) (found : Option ℕ)
    → place_in reference t ≡ found
    → list_all (has_column base (t ∷ ts)) (option_to_list (option_map (column base) found)) ≡ true
first_known reference base t ts None e = refl
first_known reference base t ts (Some place) e =
    and_from (has_column base (t ∷ ts) (column base place)) true (here base t ts place (in_known reference t place e))
    refl

all_known : (reference : ColRef) (base : ℕ) (ts : List FromTable)
    → list_all (has_column base ts) (candidates reference base ts) ≡ true
all_known reference base [] = refl
all_known reference base (t ∷ ts) =
    all_both (has_column base (t ∷ ts)) (option_to_list (option_map (column base) (place_in reference t)))
    (candidates reference (base + 1) ts)
    (first_known reference base t ts (place_in reference t) refl)
    (all_weaker (has_column (base + 1) ts) (has_column base (t ∷ ts)) (candidates reference (base + 1) ts)
    (later base t ts) (all_known reference (base + 1) ts))

one_passes : (test : Column → Bool) (at : ℕ) (cs : List Column) (c : Column) → only_one at cs ≡ Ok c
    → list_all test cs ≡ true → test c ≡ true
one_passes test at [] c e all = absurd cc
one_passes test at (d ∷ []) c e all = let same : d ≡ c = cc in rw (← same) (and_parts (test d) true all).0
one_passes test at (d ∷ other ∷ ds) c e all = absurd cc

pub column_there : (scope : List FromTable) (reference : ColRef) (c : Column) → column_of scope reference ≡ Ok c
    → has_column 0 scope c ≡ true
column_there scope reference c e = one_passes (has_column 0 scope) reference.at (candidates reference 0 scope) c e
    (all_known reference 0 scope)
