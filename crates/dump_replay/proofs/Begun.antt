-- What a text begins with is one thing.
use Rattle.std.proofs.Common.{◌≡◌, ℕ, suc, zero, List, [], ◌∷◌, ◌++◌, take, slice_get, Some, refl, sym, ap, subst, ◌∙◌}
use Rattle.std.proofs.lemmas.List.{append_cancel_right}
use Rattle.dump_replay.specs.Lines.{DumpLine, BeginsWithLine, all_lines, version, capacity, root, off, print, catalog, query}
use Rattle.dump_replay.specs.Dumps.{AreFirst, IsFirstLacking}
use Rattle.dump_replay.proofs.Cuts.{one_cut}

-- a text begins with one line of a kind
one_begin : (line : DumpLine) (text a r b s : List ℕ) → BeginsWithLine line text a r → BeginsWithLine line text b s
    → (a ≡ b) × (r ≡ s)
one_begin version text a r b s x y = one_cut a b r s x.ends y.ends (sym x.begins ∙ y.begins)
one_begin capacity text a r b s x y = one_cut a b r s x.ends y.ends (sym x.begins ∙ y.begins)
one_begin root text a r b s x y = one_cut a b r s x.ends y.ends (sym x.begins ∙ y.begins)
one_begin off text a r b s x y = one_cut a b r s x.ends y.ends (sym x.begins ∙ y.begins)
one_begin print text a r b s x y = one_cut a b r s x.ends y.ends (sym x.begins ∙ y.begins)
one_begin catalog text a r b s x y = one_cut a b r s x.ends y.ends (sym x.begins ∙ y.begins)
one_begin query text a r b s x y =
    let end : r ≡ s = x.ends ∙ sym y.ends in
    (append_cancel_right a b (10 ∷ r) (sym x.begins ∙ y.begins ∙ ap (λ (t : List ℕ). b ++ (10 ∷ t)) (sym end)), end)

-- a text that begins with the first three lines
pub three_first : {text one after_one two after_two three more : List ℕ} → BeginsWithLine version text one after_one
    → BeginsWithLine capacity after_one two after_two → BeginsWithLine root after_two three more
    → AreFirst (take 3 all_lines) text more
three_first {one = one} {after_one = after_one} {two = two} {after_two = after_two} {three = three} {more = more}
    first second third =
    (one, after_one, first, (two, after_two, second, (three, more, third, refl)))

-- lines that come first, and one more behind them
pub one_more : (lines : List DumpLine) (line : DumpLine) (text middle : List ℕ) {bytes more : List ℕ}
    → AreFirst lines text middle → BeginsWithLine line middle bytes more → AreFirst (lines ++ line ∷ []) text more
one_more [] line text middle {bytes = bytes} {more = more} same begins =
    (bytes, more, subst (λ t. BeginsWithLine line t bytes more) (sym same) begins, refl)
one_more (first ∷ lines) line text middle (bytes, rest, here, others) begins =
    (bytes, rest, here, one_more lines line rest middle others begins)

-- a text in which a line is lacking doesn't begin with all of the lines
pub lacks_one : (lines : List DumpLine) (text more : List ℕ) (number : ℕ) → AreFirst lines text more
    → IsFirstLacking lines text number → ⊥
lacks_one [] text more number all lacks = absurd (no_line number lacks.line lacks.here)
  where
    no_line : (n : ℕ) (line : DumpLine) → slice_get [] n ≡ Some line → ⊥
    no_line n line here = cc
lacks_one (line ∷ lines) text more zero (bytes, rest, begins, others) lacks =
    let same : line ≡ lacks.line = let here = lacks.here in cc in
    lacks.lacking bytes rest (subst (λ l. BeginsWithLine l lacks.rest bytes rest) same
    (subst (λ t. BeginsWithLine line t bytes rest) lacks.before begins))
lacks_one (line ∷ lines) text more (suc number) (bytes, rest, begins, others) lacks =
    let first = lacks.before in
    let same = one_begin line text bytes rest first.0 first.1 begins first.2 in
    lacks_one lines rest more number others (record {
      line = lacks.line;
      here = lacks.here;
      rest = lacks.rest;
      before = subst (λ t. AreFirst (take number lines) t lacks.rest) (sym same.1) first.3;
      lacking = lacks.lacking;
    })

-- a text has one first line that is lacking
pub one_lacks : (lines : List DumpLine) (text : List ℕ) (m n : ℕ) → IsFirstLacking lines text m
    → IsFirstLacking lines text n → m ≡ n
one_lacks [] text m n x y = absurd (no_line m x.line x.here)
  where
    no_line : (k : ℕ) (line : DumpLine) → slice_get [] k ≡ Some line → ⊥
    no_line k line here = cc
one_lacks (line ∷ lines) text zero zero x y = refl
one_lacks (line ∷ lines) text zero (suc n) x y =
    let first = y.before in
    let same : line ≡ x.line = let here = x.here in cc in
    absurd (x.lacking first.0 first.1 (subst (λ l. BeginsWithLine l x.rest first.0 first.1) same
    (subst (λ t. BeginsWithLine line t first.0 first.1) x.before first.2)))
one_lacks (line ∷ lines) text (suc m) zero x y =
    let first = x.before in
    let same : line ≡ y.line = let here = y.here in cc in
    absurd (y.lacking first.0 first.1 (subst (λ l. BeginsWithLine l y.rest first.0 first.1) same
    (subst (λ t. BeginsWithLine line t first.0 first.1) y.before first.2)))
one_lacks (line ∷ lines) text (suc m) (suc n) x y =
    let first = x.before in
    let second = y.before in
    let same = one_begin line text first.0 first.1 second.0 second.1 first.2 second.2 in
    ap suc (one_lacks lines first.1 m n
    (record { line = x.line; here = x.here; rest = x.rest; before = first.3; lacking = x.lacking })
    (record {
      line = y.line;
      here = y.here;
      rest = y.rest;
      before = subst (λ t. AreFirst (take n lines) t y.rest) (sym same.1) second.3;
      lacking = y.lacking;
    }))
