-- The values of options are read as they are spelled.
use Rattle.std.proofs.Common.{◌≡◌, ◌≢◌, ℕ, ◌<◌, ◌==◌, Bool, true, false, IsTrue, cond, List, [], ◌∷◌, map, nat_le, Option}
use Rattle.std.proofs.Common.{None, Some, codes, bytes_eq, refl, sym, ap, ◌∙◌, arith}
use Rattle.std.specs.List.{slice_split, join_with_byte, list_all}
use Rattle.std.specs.Option.{option_and_then}
use Rattle.std.proofs.lemmas.Bool.{false≢true}
use Rattle.std.proofs.lemmas.Bool.Decides.{nat_tests}
use Rattle.std.proofs.lemmas.List.Folds.{list_all-append}
use Rattle.std.proofs.lemmas.List.Splits.{join_with_byte-slice_split}
use Rattle.std.proofs.lemmas.Slice.Eq.{bytes_eq-Decides}
use Rattle.std.proofs.lemmas.Slice.Zip.{AllZip-map}
use Rattle.query_core.specs.declared.options.RootDist.{RootDist}
use Rattle.query_core.specs.declared.options.RootDist.TheVariants.{One, Spread}
use Rattle.xform_rules.specs.Rules.{rule_name}
use Rattle.xform_rules.specs.declared.rules.Rule.{Rule}
use Rattle.xform_rules.proofs.EveryRule.{every_rule}
use Rattle.command_line.specs.Rules.{may_be_off, off_set, rules_word}
use Rattle.command_line.specs.Options.{root_word, AreRules}
use Rattle.command_line.specs.Reading.{root_of, rule_of_name, all_of, set_where_off, off_of}
use Rattle.command_line.proofs.Joined.{all_read}
use Rattle.command_line.proofs.Parts.{Lacks, AllLack, above, parts_joined}
use Rattle.command_line.proofs.RuleNames.{rule_of_own_name, name_of_found}

-- a word that is read as a text is that text
pub is_text : (word text : List ℕ) → bytes_eq word text ≡ true → word ≡ text
is_text word text = (bytes_eq-Decides word text).0

-- ---- distributions

pub root_read : (dist : RootDist) → root_of (root_word dist) ≡ Some dist
root_read One = refl
root_read Spread = refl

-- a word that is read as a distribution
pub root_spelled : (value : List ℕ) (dist : RootDist) → root_of value ≡ Some dist → value ≡ root_word dist
root_spelled value dist is = of_word (bytes_eq value (codes "one")) (bytes_eq value (codes "spread")) refl refl is
  where
    of_word : (a b : Bool) → bytes_eq value (codes "one") ≡ a → bytes_eq value (codes "spread") ≡ b
        → cond a (Some One) (cond b (Some Spread) None) ≡ Some dist → value ≡ root_word dist
    of_word true b same other found = let here : One ≡ dist = cc in is_text value (codes "one") same ∙ ap root_word here
    of_word false true same other found =
        let here : Spread ≡ dist = cc in
        is_text value (codes "spread") other ∙ ap root_word here
    of_word false false same other found = cc

-- ---- rules

-- a rule's name has letters
letters : (rule : Rule) → list_all (nat_le 65) (rule_name rule) ≡ true
letters = every_rule (λ rule. list_all (nat_le 65) (rule_name rule)) refl

-- and no other byte
name_lacks : (byte : ℕ) → byte < 65 → (rule : Rule) → Lacks byte (rule_name rule)
name_lacks byte low rule = above byte low (rule_name rule) (letters rule)

names_lack : (byte : ℕ) → byte < 65 → (some : List Rule) → AllLack byte (map rule_name some)
names_lack byte low [] = tt
names_lack byte low (rule ∷ more) = (name_lacks byte low rule, names_lack byte low more)

-- names joined by `+` have letters and `+`
pub rules_lack : (byte : ℕ) → byte < 65 → byte ≢ 43 → (some : List Rule) → Lacks byte (rules_word some)
rules_lack byte low other [] = refl
rules_lack byte low other (rule ∷ []) = name_lacks byte low rule
rules_lack byte low other (first ∷ second ∷ more) =
    let differs : (43 == byte) ≡ false = grind (arith, nat_tests) in
    rw (list_all-append, name_lacks byte low first, differs, rules_lack byte low other (second ∷ more)) refl

-- names are read as their rules
names_read : (some : List Rule) → all_of rule_of_name (map rule_name some) ≡ Some some
names_read [] = refl
names_read (rule ∷ more) = rw (rule_of_own_name rule, names_read more) refl

-- the word of rules that may be off is read as their set
pub off_read : (some : List Rule) → IsTrue (may_be_off some) → off_of (rules_word some) ≡ Some (off_set some)
off_read [] may = absurd (false≢true may)
off_read (first ∷ others) may =
    ap (λ parts. option_and_then set_where_off (all_of rule_of_name parts))
    (parts_joined 43 (rule_name first) (map rule_name others) (names_lack 43 (omega arith) (first ∷ others)))
    ∙ ap (option_and_then set_where_off) (names_read (first ∷ others))
    ∙ rw may refl

-- names that are read as rules are their names
names_of_rules : (words : List (List ℕ)) (some : List Rule) → all_of rule_of_name words ≡ Some some → words ≡ map rule_name some
names_of_rules words some is = AllZip-map rule_name some words
    (all_read rule_of_name (λ rule word. word ≡ rule_name rule) (λ word rule named. sym (name_of_found word rule named))
    words some is)

-- a word that is read as a set of rules
pub off_spelled : (value : List ℕ) (set : ℕ) → off_of value ≡ Some set → AreRules set (value ∷ [])
off_spelled value set is = of_rules (all_of rule_of_name (slice_split (λ other. other == 43) value)) refl is
  where
    of_rules : (rs : Option (List Rule)) → all_of rule_of_name (slice_split (λ other. other == 43) value) ≡ rs
        → option_and_then set_where_off rs ≡ Some set → AreRules set (value ∷ [])
    of_rules None found whole = cc
    of_rules (Some some) found whole = of_may (may_be_off some) refl whole
      where
        word : value ≡ rules_word some
        word = sym (join_with_byte-slice_split 43 value)
            ∙ ap (join_with_byte 43) (names_of_rules (slice_split (λ other. other == 43) value) some found)

        of_may : (m : Bool) → may_be_off some ≡ m → cond m (Some (off_set some)) None ≡ Some set
            → AreRules set (value ∷ [])
        of_may true may there = let same : off_set some ≡ set = cc in
            record { some = some; may = may; is_set = sym same; word = ap (λ w. w ∷ []) word }
        of_may false may there = cc
