-- The lines of a dump.
use Rattle.std.specs.Prelude.{◌≡◌, ℕ, Bool, true, false, not, List, [], ◌∷◌, ◌++◌, ◌==◌, codes, decimal, IsTrue, nat_eq}
use Rattle.std.specs.Prelude.{filter}
use Rattle.std.specs.List.{list_all}
use Rattle.query_core.specs.Sets.{bit}
use Rattle.query_core.specs.declared.options.RootDist.{RootDist}
use Rattle.xform_rules.specs.Rules.{all_rules, rule_number}
use Rattle.xform_rules.specs.declared.rules.Rule.{Rule}
use Rattle.query_stage.specs.OffRules.{MayBeOff}
use Rattle.command_line.specs.Numbers.{IsWithin}
use Rattle.command_line.specs.Options.{root_word}
use Rattle.command_line.specs.Rules.{rules_word}

-- ---- the bytes of lines, without the newline that ends each

abbrev pub version_line : List ℕ
version_line = codes "orca dump 1"

abbrev pub capacity_line : ℕ → List ℕ
capacity_line capacity = codes "capacity " ++ decimal capacity

abbrev pub root_line : RootDist → List ℕ
root_line root = codes "root " ++ root_word root

-- the rules of a set, in the order of their numbers
abbrev pub rules_in : ℕ → List Rule
rules_in set = filter (λ rule. nat_eq (bit set (rule_number rule)) 1) all_rules

-- the line of these rules
abbrev pub rules_line : List Rule → List ℕ
rules_line [] = codes "off"
rules_line (rule ∷ more) = codes "off " ++ rules_word (rule ∷ more)

-- the line of the rules that are off
abbrev pub off_line : ℕ → List ℕ
off_line set = rules_line (rules_in set)

-- the sections that are printed behind the plan
abbrev pub sections_word : (memo trace : Bool) → List ℕ
sections_word false false = []
sections_word true false = codes " memo"
sections_word false true = codes " trace"
sections_word true true = codes " memo trace"

abbrev pub print_line : (memo trace : Bool) → List ℕ
print_line memo trace = codes "print" ++ sections_word memo trace

abbrev pub catalog_line : List ℕ → List ℕ
catalog_line text = codes "catalog " ++ text

-- the query's bytes are as they are: they may have newlines
abbrev pub query_line : List ℕ → List ℕ
query_line text = codes "query " ++ text

-- ---- which line is which

-- the lines of a dump, by what each says
pub data DumpLine : Type 0 where
  version : DumpLine
  capacity : DumpLine
  root : DumpLine
  off : DumpLine
  print : DumpLine
  catalog : DumpLine
  query : DumpLine

-- in the order in which they stand
abbrev pub all_lines : List DumpLine
all_lines = version ∷ capacity ∷ root ∷ off ∷ print ∷ catalog ∷ query ∷ []

-- the bytes are of the line's form
abbrev pub HasForm : DumpLine → List ℕ → Type 0
HasForm version bytes = bytes ≡ version_line
HasForm capacity bytes = (room : ℕ) × IsWithin 64 1048576 room × (bytes ≡ capacity_line room)
HasForm root bytes = (dist : RootDist) × (bytes ≡ root_line dist)
HasForm off bytes = (set : ℕ) × MayBeOff set × (bytes ≡ off_line set)
HasForm print bytes = (memo : Bool) × (trace : Bool) × (bytes ≡ print_line memo trace)
HasForm catalog bytes = (text : List ℕ) × (bytes ≡ catalog_line text)
HasForm query bytes = (text : List ℕ) × (bytes ≡ query_line text)

-- no newline is among the bytes
abbrev pub is_one_line : List ℕ → Bool
is_one_line bytes = list_all (λ byte. not (byte == 10)) bytes

-- the line ends at its first newline; but the query goes to the end of the text
abbrev pub Ends : DumpLine → (bytes more : List ℕ) → Type 0
Ends version bytes more = IsTrue (is_one_line bytes)
Ends capacity bytes more = IsTrue (is_one_line bytes)
Ends root bytes more = IsTrue (is_one_line bytes)
Ends off bytes more = IsTrue (is_one_line bytes)
Ends print bytes more = IsTrue (is_one_line bytes)
Ends catalog bytes more = IsTrue (is_one_line bytes)
Ends query bytes more = more ≡ []

-- ---- texts

-- lines, each with the newline that ends it
abbrev pub lines_text : List (List ℕ) → List ℕ
lines_text [] = []
lines_text (line ∷ more) = line ++ (10 ∷ lines_text more)

-- the text begins with these bytes and a newline, and goes on so
abbrev pub IsFollowed : List ℕ → (bytes more : List ℕ) → Type 0
IsFollowed text bytes more = text ≡ bytes ++ (10 ∷ more)

-- the text begins with the line, whose bytes are these, and goes on so
pub record BeginsWithLine (line : DumpLine) (text bytes more : List ℕ) : Type 0 where
  pub form : HasForm line bytes
  pub ends : Ends line bytes more
  pub begins : IsFollowed text bytes more

-- no such line comes first
abbrev pub Lacks : DumpLine → List ℕ → Type 0
Lacks line text = (bytes more : List ℕ) → BeginsWithLine line text bytes more → ⊥

-- the text is cut at its first newline
pub record IsCut (text line rest : List ℕ) : Type 0 where
  pub one_line : IsTrue (is_one_line line)
  pub whole : IsFollowed text line rest
