-- the text is none of the words so far
use Rattle.std.proofs.Common.{◌≡◌, drop, map}
use Rattle.sql_reader.specs.Words.{meaning}
use Rattle.sql_reader.proofs.words.first_match.Given as goal

abbrev pub invariant-loop-word : goal.invariant-loop-word
invariant-loop-word l =
    meaning l.text (map (λ word. (word.0.now, word.1)) (drop l.word-index l.words))
    ≡ meaning l.text (map (λ word. (word.0.now, word.1)) l.words)
