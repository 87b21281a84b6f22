-- The ways in which the rows of a table are read have different texts.
use Rattle.std.proofs.Common.{◌≡◌, ℕ, zero, suc, ◌<◌, Bool, true, false, List, [], ◌++◌, get_or, refl, sym, ap}
use Rattle.std.proofs.Common.{◌∙◌, arith}
use Rattle.std.specs.Prelude.{codes, ◌==◌, if◌then◌else◌}
use Rattle.query_core.specs.declared.query.Query.{Query}
use Rattle.request_props.specs.Numbered.{table_dist}
use Rattle.request_props.specs.declared.given.GivenDist.{GivenDist}
use Rattle.plan_space.specs.Lines.{is_replicated}
use Rattle.plan_space.specs.declared.modes.Mode.{Mode}
use Rattle.plan_space.specs.declared.modes.Mode.TheVariants as modes
use Rattle.plan_reading.specs.Named.{HasReadForm}
use Rattle.plan_reading.proofs.Behind.{replica_words, read_words, IsReadIn}
use Rattle.plan_reading.proofs.Fronts.{EndsFront}

-- ---- a name or a number ends before such a text and a bracket

module _ (test : ℕ → Bool) (space : test 32 ≡ false) (bracket : test 41 ≡ false) where
  replica_ends : (own one : Bool)
      → EndsFront test ((if own then codes " own" else if one then codes " one" else codes " copies") ++ codes ")")
  replica_ends true one = space
  replica_ends false true = space
  replica_ends false false = space

  several_end : (several : Bool) (n : ℕ) → EndsFront test ((if several then replica_words n else []) ++ codes ")")
  several_end true n = replica_ends (n == 0) (n == 1)
  several_end false n = bracket

  pub read_ends : (q : Query) (t : ℕ) (mode : Mode) → EndsFront test (read_words (is_replicated q t) mode ++ codes ")")
  read_ends q t (modes.Plain n) = several_end (is_replicated q t) n
  read_ends q t (modes.Copied n) = bracket
  read_ends q t (modes.Hashed n) = bracket

-- ---- it is that of one number

-- the number by one byte
abbrev replica_in : List ℕ → ℕ
replica_in text = if get_or text 2 0 == 119 then 0 else if get_or text 2 0 == 110 then 1 else 2

replica_read : (n : ℕ) → n < 3 → replica_in (replica_words n ++ codes ")") ≡ n
replica_read zero below = refl
replica_read (suc zero) below = refl
replica_read (suc (suc zero)) below = refl
replica_read (suc (suc (suc n))) below = absurd (omega (arith, below))

several_one : (several : Bool) (dist : GivenDist) (m n : ℕ) → IsReadIn several dist m → IsReadIn several dist n
    → (if several then replica_words m else []) ++ codes ")" ≡ (if several then replica_words n else []) ++ codes ")"
    → m ≡ n
several_one true dist m n in_m in_n same = sym (replica_read m in_m) ∙ ap replica_in same ∙ replica_read n in_n
several_one false dist m n in_m in_n same = omega (arith, in_m, in_n)

pub read_one : (q : Query) (t : ℕ) (m n : Mode) → HasReadForm q t m → HasReadForm q t n
    → read_words (is_replicated q t) m ++ codes ")" ≡ read_words (is_replicated q t) n ++ codes ")" → m ≡ n
read_one q t (modes.Plain m) (modes.Plain n) in_m in_n same =
    ap modes.Plain (several_one (is_replicated q t) (table_dist q t) m n in_m in_n same)
read_one q t (modes.Copied m) n in_m in_n same = absurd in_m
read_one q t (modes.Hashed m) n in_m in_n same = absurd in_m
read_one q t (modes.Plain m) (modes.Copied n) in_m in_n same = absurd in_n
read_one q t (modes.Plain m) (modes.Hashed n) in_m in_n same = absurd in_n

-- ---- it is a small one

several_few : (several : Bool) (dist : GivenDist) (n : ℕ) → IsReadIn several dist n → n < 3
several_few true dist n in_n = in_n
several_few false dist n in_n = omega (arith, in_n)

pub read_few : (q : Query) (t n : ℕ) → HasReadForm q t (modes.Plain n) → n < 3
read_few q t n form = several_few (is_replicated q t) (table_dist q t) n form
