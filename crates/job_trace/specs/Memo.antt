-- The text in which the memo is printed.
use Rattle.std.specs.Prelude.{ℕ, Bool, List, ◌∷◌, ◌++◌, ◌≡◌, ◌==◌, All, codes, filter, flat_map, length, map}
use Rattle.std.specs.List.{concat, dedup}
use Rattle.std.specs.List.Sorted.{IsStrictlyIncreasing}
use Rattle.query_core.specs.Keys.{key_number}
use Rattle.query_core.specs.Expressions.{word_of, IsCandidate}
use Rattle.query_core.specs.declared.query.Query.{Query}
use Rattle.query_core.specs.declared.words.KeyParts.{KeyParts}
use Rattle.query_core.specs.declared.expressions.ExprParts.{ExprParts}
use Rattle.job_trace.specs.Counts.{counted}
use Rattle.job_trace.specs.Groups.{group_line}
use Rattle.job_trace.specs.Members.{member_line}

-- the words ascend, and are those of these expressions, which groups of the query can hold
pub record AreMembers (q : Query) (words : List ℕ) (es : List ExprParts) : Type 0 where
  pub numbers : map word_of es ≡ words
  pub candidates : All (IsCandidate q) es
  pub ascending : IsStrictlyIncreasing words

-- the two groups have one key
abbrev pub is_same : KeyParts → KeyParts → Bool
is_same g h = key_number g == key_number h

-- the groups of members that stand group by group, each group once
abbrev pub groups_of : List ExprParts → List KeyParts
groups_of es = dedup is_same (map (λ e. e.group) es)

-- the members that a group has
abbrev pub members_of : KeyParts → List ExprParts → List ExprParts
members_of g es = filter (λ e. is_same e.group g) es

-- the line of a group, and then those of its members
abbrev pub group_lines : Query → List ExprParts → KeyParts → List (List ℕ)
group_lines q es g = group_line q g ∷ map (member_line q) (members_of g es)

-- the first line: how many groups and how many members there are
abbrev pub memo_line : ℕ → ℕ → List ℕ
memo_line groups members = counted (codes "memo groups=") groups ++ counted (codes " members=") members ++ codes "\n"

-- the lines of the memo's text: the two numbers, and then group by group
abbrev pub memo_section : Query → List ExprParts → List (List ℕ)
memo_section q es = memo_line (length (groups_of es)) (length es) ∷ flat_map (group_lines q es) (groups_of es)

-- the text is that of the memo whose members have these words
pub record IsMemoText (q : Query) (words text : List ℕ) : Type 0 where
  pub members : List ExprParts
  pub are : AreMembers q words members
  pub lines : text ≡ concat (memo_section q members)

-- the line is the first one of that text
pub record IsMemoLine (q : Query) (words line : List ℕ) : Type 0 where
  pub members : List ExprParts
  pub are : AreMembers q words members
  pub is_line : line ≡ memo_line (length (groups_of members)) (length members)
