-- The first line of a text.
use Rattle.std.proofs.Common.{◌≡◌, ◌≢◌, ◌<◌, ◌==◌, ℕ, zero, suc, true, false, List, [], ◌∷◌, length, take, get_or, refl}
use Rattle.std.proofs.Common.{ap, arith}
use Rattle.std.proofs.lemmas.Bool.Decides.{nat_tests}
use Rattle.orca_cli.specs.Sections.{first_line}

-- it ends with the first line feed
pub first_line_at : (text : List ℕ) (at : ℕ) → ((k : ℕ) → k < at → get_or text k 0 ≢ 10) → at < length text
    → get_or text at 0 ≡ 10 → first_line text ≡ take (suc at) text
first_line_at [] at before within here = absurd (omega (arith, within))
first_line_at (byte ∷ more) zero before within here = let feed : (byte == 10) ≡ true = grind (arith, nat_tests) in
    rw feed refl
first_line_at (byte ∷ more) (suc at) before within here =
    let first : byte ≢ 10 = before 0 (omega arith) in
    let other : (byte == 10) ≡ false = grind (arith, nat_tests) in
    rw other (ap (λ rest. byte ∷ rest) (first_line_at more at (λ k below. before (suc k) (omega (arith, below)))
    (omega (arith, within)) here))

-- without one it is the whole text
pub first_line_all : (text : List ℕ) → ((k : ℕ) → k < length text → get_or text k 0 ≢ 10) → first_line text ≡ text
first_line_all [] none = refl
first_line_all (byte ∷ more) none =
    let first : byte ≢ 10 = none 0 (omega arith) in
    let other : (byte == 10) ≡ false = grind (arith, nat_tests) in
    rw other (ap (λ rest. byte ∷ rest) (first_line_all more (λ k below. none (suc k) (omega (arith, below)))))
