-- Laws of group expressions and their words.
use Rattle.std.proofs.Common.{◌≡◌, ℕ, ◌+◌, ◌*◌, ◌/◌, ◌%◌, ◌-◌, ◌≤◌, ◌<◌, ◌^◌, refl, ap, ◌∙◌, ◌↔◌, arith, inl, inr}
use Rattle.std.proofs.lemmas.Bool.{cases_eq}
use Rattle.query_core.specs.Keys.{key_number, IsGroupInRange}
use Rattle.query_core.specs.Expressions.{expr_of, fields, key_field, fields_of}
use Rattle.query_core.specs.Expressions.{children_of, left_number, right_number, packed, word_of}
use Rattle.query_core.specs.Expressions.{AreFirstOf, AreInRange, HasWord, IsPacked}
use Rattle.query_core.specs.Expressions.{IsJoinNumber}
use Rattle.query_core.specs.Finding.{operator_number, index_of}
use Rattle.query_core.specs.declared.expressions.TheConstants.{OPERATORS}
use Rattle.query_core.specs.Goals.{FitsExpr}
use Rattle.query_core.specs.declared.keys.TheConstants.{KEYS}
use Rattle.query_core.specs.declared.words.KeyParts.{KeyParts}
use Rattle.query_core.specs.declared.expressions.Logical.TheVariants as logical
use Rattle.query_core.specs.declared.expressions.Physical.{Physical}
use Rattle.query_core.specs.declared.expressions.Physical.TheVariants as physical
use Rattle.query_core.specs.declared.expressions.Operator.{Operator}
use Rattle.query_core.specs.declared.expressions.Operator.TheVariants as operators
use Rattle.query_core.specs.declared.expressions.Children.{Children}
use Rattle.query_core.specs.declared.expressions.Children.TheVariants.{Zero, One, Two}
use Rattle.query_core.specs.declared.expressions.Fields.{Fields}
use Rattle.query_core.specs.declared.expressions.ExprParts.{ExprParts}
use Rattle.query_core.specs.declared.expressions.PhysicalExpr.{PhysicalExpr}
use Rattle.query_core.proofs.GroupLemmas.{key_one}

-- operators have numbers below 32
pub operator_small : (o : Operator) → (fields_of o).number < 32
operator_small o = grind arith

pub operator_below : (o : Operator) → (fields_of o).number < OPERATORS
operator_below o = grind arith

-- keys have numbers below the bound of keys
pub key_small : (g : KeyParts) → IsGroupInRange g → key_number g < KEYS
key_small g in_g = grind arith

pub left_small : (c : Children) → AreInRange c → left_number c < 2 ^ 13
left_small Zero in_c = omega arith
left_small (One child) in_c = omega (arith, key_small child in_c)
left_small (Two left right) in_c = omega (arith, key_small left in_c.0)

pub right_small : (c : Children) → AreInRange c → right_number c < 2 ^ 13
right_small Zero in_c = omega arith
right_small (One child) in_c = omega arith
right_small (Two left right) in_c = omega (arith, key_small right in_c.1)

-- children have their own two numbers
children_one : (c d : Children) → AreInRange c → AreInRange d → left_number c ≡ left_number d
    → right_number c ≡ right_number d → c ≡ d
children_one Zero Zero in_c in_d left right = refl
children_one (One a) (One b) in_c in_d left right = ap One (key_one a b in_c in_d (omega (arith, left)))
children_one (Two a b) (Two x y) in_c in_d left right =
    let first : a ≡ x = key_one a x in_c.0 in_d.0 (omega (arith, left)) in
    let second : b ≡ y = key_one b y in_c.1 in_d.1 (omega (arith, right)) in
    cc
children_one c d in_c in_d left right = absurd (omega (arith, left, right))

-- the key and the fields of two words are the same
record AreSame (k : ℕ) (f : Fields) (k2 : ℕ) (f2 : Fields) : Type 0 where
  key : k ≡ k2
  number : f.number ≡ f2.number
  index : f.index ≡ f2.index
  left : left_number f.children ≡ left_number f2.children
  right : right_number f.children ≡ right_number f2.children

-- each of the fields fits its place
pub record AreSmall (f : Fields) : Type 0 where
  pub number : f.number < 32
  pub index : f.index < 32
  pub left : left_number f.children < 2 ^ 13
  pub right : right_number f.children < 2 ^ 13

-- a word has one key and one list of fields
fields_one : (k : ℕ) (f : Fields) (k2 : ℕ) (f2 : Fields) → AreSmall f → AreSmall f2 → packed k f ≡ packed k2 f2
    → AreSame k f k2 f2
fields_one k f k2 f2 small small2 same = record {
  key = omega arith;
  number = omega arith;
  index = omega arith;
  left = omega arith;
  right = omega arith;
}

-- the fields of an expression whose parts fit
pub fields_small : (e : ExprParts) → IsPacked e → AreSmall (fields_of e.operator)
fields_small e in_e = record {
  number = operator_small e.operator;
  index = in_e.index;
  left = left_small _ in_e.children;
  right = right_small _ in_e.children;
}

-- fields with the same values are the same
pub fields_same : (f g : Fields) → f.number ≡ g.number → f.index ≡ g.index → f.children ≡ g.children → f ≡ g
fields_same f g number index children =
    ap (λ x. fields x f.index f.children) number ∙ ap (λ x. fields g.number x f.children) index
    ∙ ap (λ x. fields g.number g.index x) children

-- an operator has its own fields
pub operator_one : (o p : Operator) → fields_of o ≡ fields_of p → o ≡ p
operator_one o p same = grind (arith, ap (λ f. f.number) same, ap (λ f. f.index) same, ap (λ f. f.children) same)

-- each number of a join is that of an operator over any two groups
pub join_there : (number : ℕ) (left right : KeyParts) → IsJoinNumber number
    → (o : Operator) × (fields_of o ≡ fields number 0 (Two left right))
join_there number left right (from, upto) = elim (cases_eq number 8) [
  | inl one ↦ rw one (operators.Logical (logical.Join left right), refl)
  | inr more ↦ elim (cases_eq number 9) [
    | inl one ↦ rw one (operators.Physical (physical.HashJoin left right), refl)
    | inr most ↦ elim (cases_eq number 10) [
      | inl one ↦ rw one (operators.Physical (physical.MergeJoin left right), refl)
      | inr last ↦
          let one : number ≡ 11 = omega (arith, from, upto, more, most, last) in
          rw one (operators.Physical (physical.LoopJoin left right), refl)
    ]
  ]
]

-- a physical expression is known by its parts
pub expr_of_one : (e f : PhysicalExpr) → expr_of e ≡ expr_of f → e ≡ f
expr_of_one e f same =
    let group : e.group ≡ f.group = ap (λ (x : ExprParts). x.group) same in
    let both : operators.Physical e.operator ≡ operators.Physical f.operator =
    ap (λ (x : ExprParts). x.operator) same in
    let operator : e.operator ≡ f.operator = cc in
    ap (λ (g : KeyParts). record { group = g; operator = e.operator }) group
    ∙ ap (λ (o : Physical). record { group = f.group; operator = o }) operator

-- the word of an expression whose parts fit is that of no other such expression
pub word_one : (e f : ExprParts) → IsPacked e → IsPacked f → word_of e ≡ word_of f → e ≡ f
word_one e f in_e in_f same =
    let same_fields = fields_one (key_number e.group) (fields_of e.operator) (key_number f.group) (fields_of f.operator)
    (fields_small e in_e) (fields_small f in_f) same in
    let group : e.group ≡ f.group = key_one e.group f.group in_e.group in_f.group same_fields.key in
    let children : (fields_of e.operator).children ≡ (fields_of f.operator).children =
    children_one _ _ in_e.children in_f.children same_fields.left same_fields.right in
    let operator : e.operator ≡ f.operator =
    operator_one e.operator f.operator (fields_same (fields_of e.operator) (fields_of f.operator) same_fields.number
    same_fields.index children) in
    let make : KeyParts → Operator → ExprParts = λ g o. record { group = g; operator = o } in
    ap (λ g. make g e.operator) group ∙ ap (make f.group) operator

-- the fields of an expression's operator are what its word has in their places
pub word_fields : (e : ExprParts) (word : ℕ) (f : Fields) → IsPacked e → word_of e ≡ word → AreInRange f.children
    → f.number ≡ word / 2 ^ 31 % 2 ^ 5 → f.index ≡ word / 2 ^ 26 % 2 ^ 5
    → left_number f.children ≡ word / 2 ^ 13 % 2 ^ 13 → right_number f.children ≡ word / 2 ^ 0 % 2 ^ 13
    → fields_of e.operator ≡ f
word_fields e word f in_e is in_f number index left right =
    let small = fields_small e in_e in
    fields_same (fields_of e.operator) f (omega arith) (omega arith)
    (children_one _ _ in_e.children in_f (omega arith) (omega arith))

-- a word has its group's key
pub key_read : (e : ExprParts) (word : ℕ) → HasWord word e → key_field word ≡ key_number e.group
key_read e word has = let small = fields_small e has.packed in let is = has.number in omega arith

-- and its operator's number
pub number_read : (e : ExprParts) (word : ℕ) → HasWord word e → (fields_of e.operator).number ≡ word / 2 ^ 31 % 2 ^ 5
number_read e word has = let small = fields_small e has.packed in let is = has.number in omega arith

-- and the number of the index that it reads
pub index_read : (e : ExprParts) (word : ℕ) → HasWord word e → (fields_of e.operator).index ≡ word / 2 ^ 26 % 2 ^ 5
index_read e word has = let small = fields_small e has.packed in let is = has.number in omega arith

-- and the numbers of the groups that it stands on
pub left_read : (e : ExprParts) (word : ℕ) → HasWord word e
    → left_number (children_of e.operator) ≡ word / 2 ^ 13 % 2 ^ 13
left_read e word has = let small = fields_small e has.packed in let is = has.number in omega arith

pub right_read : (e : ExprParts) (word : ℕ) → HasWord word e
    → right_number (children_of e.operator) ≡ word / 2 ^ 0 % 2 ^ 13
right_read e word has = let small = fields_small e has.packed in let is = has.number in omega arith

-- groups of these numbers are the children
pub children_read : (c : Children) (left right : KeyParts) → AreInRange c
    → ((g : KeyParts) → IsGroupInRange g → key_number g + 1 ≡ left_number c → g ≡ left)
    → ((g : KeyParts) → IsGroupInRange g → key_number g + 1 ≡ right_number c → g ≡ right)
    → AreFirstOf c left right
children_read Zero left right in_c is_left is_right = tt
children_read (One child) left right in_c is_left is_right = is_left child in_c refl
children_read (Two first second) left right in_c is_left is_right =
    (is_left first in_c.0 refl, is_right second in_c.1 refl)

-- and takes at most 48 bits
pub word_small : (e : ExprParts) → IsPacked e → FitsExpr (word_of e)
word_small e in_e = let small = fields_small e in_e in omega (arith, key_small e.group in_e.group)

-- the words of a key and of those after it stand from its power on
pub word_from : (e : ExprParts) (key : ℕ) → IsPacked e → (key * 2 ^ 36 ≤ word_of e) ↔ (key ≤ key_number e.group)
word_from e key in_e = let small = fields_small e in_e in (λ from. omega arith, λ less. omega arith)

-- operators have numbers from 1 on
operator_some : (o : Operator) → 1 ≤ (fields_of o).number
operator_some o = grind arith

-- no expression has the word 0
pub word_some : (e : ExprParts) → 0 < word_of e
word_some e = let some = operator_some e.operator in omega arith

-- groups stand in the order of their keys
pub word_ordered : (e f : ExprParts) → IsPacked e → IsPacked f → key_number e.group < key_number f.group
    → word_of e < word_of f
word_ordered e f in_e in_f less = let small = fields_small e in_e in omega arith

-- in a group words stand in the order of their operators' numbers
pub number_ordered : (e f : ExprParts) → IsPacked e → e.group ≡ f.group → operator_number e < operator_number f
    → word_of e < word_of f
number_ordered e f in_e same less =
    let small = fields_small e in_e in
    let key : key_number e.group ≡ key_number f.group = ap key_number same in
    omega arith

-- those of one number stand in the order of their indexes
pub index_ordered : (e f : ExprParts) → IsPacked e → e.group ≡ f.group → operator_number e ≡ operator_number f
    → index_of e < index_of f → word_of e < word_of f
index_ordered e f in_e same number less =
    let small = fields_small e in_e in
    let key : key_number e.group ≡ key_number f.group = ap key_number same in
    omega arith

-- an operator has a word below the bound where the bound is so far from the group's words that others come first
pub number_below : (e : ExprParts) (bound key : ℕ) → IsPacked e → key ≡ key_number e.group
    → operator_number e < (bound - key * 2 ^ 36) / 2 ^ 31 → word_of e < bound
number_below e bound key in_e is less = let small = fields_small e in_e in omega arith
