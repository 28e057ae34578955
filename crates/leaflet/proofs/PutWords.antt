-- Words that are put into others, and the words of records one after the other. Assumes nothing.
use Rattle.std.proofs.Common.{◌≡◌, refl, ap, ◌∙◌, ℕ, ◌+◌, ◌≤◌, arith, List, [], ◌∷◌, ◌++◌, append_assoc, length}
use Rattle.std.proofs.Common.{take, drop, length-take-le, take-take}
use Rattle.std.proofs.Math.Seq.{paste, take-paste, take-length, take-append-le}
use Rattle.rules.specs.Records.{Rec, record_words}

module _ (d ws : List ℕ) (i : ℕ) (h : i + length ws ≤ length d) where
  -- words put from index i on stand there, and those before them stay
  pub put_there : take (i + length ws) (paste d i ws (length ws)) ≡ take i d ++ ws
  put_there =
      take-paste d i ws (length ws) (omega arith) (omega arith) ∙ ap (λ vs. take i d ++ vs) (take-length ws)

  pub put_before : (j : ℕ) → j ≤ i → take j (paste d i ws (length ws)) ≡ take j d
  put_before j l =
      let n = length-take-le i d (omega arith) in
      let vs = take (length ws) ws in
      ap (take j) (append_assoc (take i d) vs (drop (i + length ws) d))
      ∙ take-append-le j (take i d) (vs ++ drop (i + length ws) d) (omega arith)
      ∙ take-take j i d l

pub words_append : (xs ys : List Rec) → record_words (xs ++ ys) ≡ record_words xs ++ record_words ys
unfolding record_words
words_append [] ys = refl
words_append (x ∷ xs) ys =
    ap (λ v. x.code ∷ x.class ∷ x.size ∷ x.advance ∷ x.group ∷ x.ruby ∷ v) (words_append xs ys)
