-- What a sink has taken of a text that is put piece by piece.
use Rattle.std.proofs.Common.{◌≡◌, ℕ, ◌+◌, ◌<◌, ◌≤◌, suc, List, ◌∷◌, ◌++◌, length, get_or, take, drop, Option, Vec, sym}
use Rattle.std.proofs.Common.{ap, ◌∙◌, subst, arith, length-append, append_assoc}
use Rattle.std.proofs.Math.Seq.{split_at, take-append-add}
use Rattle.std.proofs.lemmas.List.{take-append-le}
use Rattle.std.proofs.lemmas.List.Concat.{flat_map-append}
use Rattle.std.proofs.KnownBytes.{Appends-trans}
use Rattle.std.specs.Io.KnownBytes.{Appends}
use Rattle.std.specs.declared.alloc.Global.{Global}
use Rattle.orca_io.specs.Sink.{TakesPrefix}
use Rattle.orca_cli.specs.Views.{bytes_of_texts}

-- the first bytes of a text are all of its front and the first bytes of what is behind
take-front : (front piece back : List ℕ) (n : ℕ) → n ≤ length piece
    → take (length front + n) (front ++ (piece ++ back)) ≡ front ++ take n piece
take-front front piece back n within = take-append-add front (piece ++ back) n
    ∙ ap (λ bytes. front ++ bytes) (take-append-le n piece back within)

-- after the front of a text was taken, a prefix of its next piece makes a prefix of the text
pub prefix_after : (old mid new : Option (List ℕ)) (front piece back : List ℕ) → Appends old mid front
    → TakesPrefix mid new piece → TakesPrefix old new (front ++ (piece ++ back))
prefix_after old mid new front piece back before after = record {
  count = length front + after.count;
  within = let within : after.count ≤ length piece = after.within in simp length-append (omega arith);
  taken = subst (λ bytes. Appends old new bytes) (sym (take-front front piece back after.count after.within))
      (Appends-trans old mid new front (take after.count piece) before after.taken);
}

-- ---- a text whose front was taken

module _ (old mid new : Option (List ℕ)) (text front rest : List ℕ) (parts : text ≡ front ++ rest) where
  -- its next piece was taken too
  pub piece_taken : (piece back : List ℕ) → rest ≡ piece ++ back → Appends old mid front → Appends mid new piece
      → (more : List ℕ) × (text ≡ more ++ back) × Appends old new more
  piece_taken piece back cut before after = (
    front ++ piece,
    parts ∙ ap (λ behind. front ++ behind) cut
        ∙ sym (append_assoc front piece back),
    Appends-trans old mid new front piece before after,
  )

  -- of its next piece a prefix was taken
  pub prefix_taken : (piece back : List ℕ) → rest ≡ piece ++ back → Appends old mid front → TakesPrefix mid new piece
      → TakesPrefix old new text
  prefix_taken piece back cut before after =
      subst (TakesPrefix old new) (sym (parts ∙ ap (λ behind. front ++ behind) cut))
      (prefix_after old mid new front piece back before after)

-- ---- texts, one behind the other

-- those before the one at a place, this one, and those behind it
joined_around : (texts : List (Vec ℕ Global)) (at : ℕ) (d : Vec ℕ Global) → at < length texts
    → bytes_of_texts texts ≡ bytes_of_texts (take at texts) ++ ((get_or texts at d).items ++ bytes_of_texts
    (drop (suc at) texts))
joined_around texts at d within =
    ap bytes_of_texts (split_at texts at d within)
    ∙ flat_map-append (λ (text : Vec ℕ Global). text.items) (take at texts)
    (get_or texts at d ∷ drop (suc at) texts)

-- after the texts before the one at a place were taken, a prefix of this one makes a prefix of all
pub text_cut : (old mid new : Option (List ℕ)) (texts : List (Vec ℕ Global)) (at : ℕ) (d : Vec ℕ Global)
    → at < length texts → Appends old mid (bytes_of_texts (take at texts))
    → TakesPrefix mid new (get_or texts at d).items → TakesPrefix old new (bytes_of_texts texts)
text_cut old mid new texts at d within before this =
    subst (TakesPrefix old new) (sym (joined_around texts at d within))
    (prefix_after old mid new (bytes_of_texts (take at texts)) (get_or texts at d).items
    (bytes_of_texts (drop (suc at) texts)) before this)
