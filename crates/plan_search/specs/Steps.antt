-- What a pass of the plain closure adds to the words found so far.
use Rattle.std.specs.Prelude.{ℕ, List, length, Option, None, Some, IfSome, ◌≡◌, ◌≤◌, ◌⊎◌}
use Rattle.std.specs.List.{All, Contains}
use Rattle.std.specs.List.Sorted.{IsStrictlyIncreasing}
use Rattle.query_core.specs.Expressions.{word_of, children_of, origin_of, IsChild}
use Rattle.query_core.specs.declared.query.Query.{Query}
use Rattle.query_core.specs.declared.words.KeyParts.{KeyParts}
use Rattle.query_core.specs.declared.expressions.ExprParts.{ExprParts}
use Rattle.xform_rules.specs.declared.rules.Rule.{Rule}
use Rattle.xform_rules.specs.Results.{HasResult}
use Rattle.xform_rules.specs.Closure.{IsMember, IsMemberWord}

-- words of members, ascending
pub record AreMemberWords (q : Query) (words : List ℕ) : Type 0 where
  pub members : All (IsMemberWord q) words
  pub ascending : IsStrictlyIncreasing words

-- the expression is a member, and so is the bound one, if there is one
pub record AreMembers (q : Query) (e : ExprParts) (bound : Option ExprParts) : Type 0 where
  pub member : IsMember q e
  pub bound_member : IfSome bound (IsMember q)

-- no word is lost, only words of members come, and where none comes all stays as it was
pub record Grows (q : Query) (old new : List ℕ) : Type 0 where
  pub kept : (w : ℕ) → Contains old w → Contains new w
  pub members : (w : ℕ) → Contains new w → Contains old w ⊎ IsMemberWord q w
  pub longer : length old ≤ length new
  pub same : length new ≤ length old → new ≡ old

-- words come, and then the fact holds of all
pub record GrowsTo (q : Query) (Fact : List ℕ → Type 0) (old new : List ℕ) : Type 0 where
  pub grows : Grows q old new
  pub holds : Fact new

-- the expression's word is found
abbrev pub ContainsWordOf : List ℕ → ExprParts → Type 0
ContainsWordOf found e = Contains found (word_of e)

-- the origin of the group is found
abbrev pub HasOrigin : Query → KeyParts → List ℕ → Type 0
HasOrigin q g found = ContainsWordOf found (origin_of q g)

-- so is that of each child's group
abbrev pub HasOrigins : Query → ExprParts → List ℕ → Type 0
HasOrigins q e found = (g : KeyParts) → IsChild (children_of e.operator) g → HasOrigin q g found

-- the n-th result of the rule, with this bound member or without one, is found
abbrev pub HasResultAt : Query → ExprParts → Option ExprParts → Rule → ℕ → List ℕ → Type 0
HasResultAt q e bound rule n found = (other : ExprParts) → HasResult q rule e bound n other → ContainsWordOf found other

-- so is each result of the rule
abbrev pub HasResultsOf : Query → ExprParts → Option ExprParts → Rule → List ℕ → Type 0
HasResultsOf q e bound rule found = (n : ℕ) → HasResultAt q e bound rule n found

-- so is each result of each rule
abbrev pub HasResults : Query → ExprParts → Option ExprParts → List ℕ → Type 0
HasResults q e bound found = (rule : Rule) → HasResultsOf q e bound rule found

-- each result with the member of this word bound is found
abbrev pub HasResultsWith : Query → ℕ → ExprParts → List ℕ → Type 0
HasResultsWith q word e found = (bound : ExprParts) → IsMember q bound → word_of bound ≡ word
    → HasResults q e (Some bound) found

-- each result with a bound member among the words is found
abbrev pub HasBoundResults : Query → List ℕ → ExprParts → List ℕ → Type 0
HasBoundResults q words e found = (bound : ExprParts) → IsMember q bound → ContainsWordOf words bound
    → HasResults q e (Some bound) found

-- all steps from a member, where members among the words are bound, are found
pub record HasSteps (q : Query) (words : List ℕ) (e : ExprParts) (found : List ℕ) : Type 0 where
  pub origins : HasOrigins q e found
  pub results : HasResults q e None found
  pub bound_results : HasBoundResults q words e found

-- so are those from each of some words
abbrev pub AreSteps : Query → List ℕ → List ℕ → List ℕ → Type 0
AreSteps q words from found = (e : ExprParts) → IsMember q e → ContainsWordOf from e → HasSteps q words e found

-- each result at one of the words, with a bound member among others, is found
abbrev pub AreBoundSteps : Query → List ℕ → List ℕ → List ℕ → Type 0
AreBoundSteps q words from found = (e : ExprParts) → IsMember q e → ContainsWordOf from e
    → HasBoundResults q words e found

-- the words are those of either list
abbrev pub AreOfEither : List ℕ → List ℕ → List ℕ → Type 0
AreOfEither words some others = (w : ℕ) → Contains words w → Contains some w ⊎ Contains others w

-- the new ones are some of the words, ascending, and each other word is among some
pub record AreOthers (words some new : List ℕ) : Type 0 where
  pub covers : AreOfEither words some new
  pub part : All (Contains words) new
  pub ascending : IsStrictlyIncreasing new
