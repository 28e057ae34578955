-- Laws of a call that a text's fault refuses before all else: what holds where it does and where it does not holds of
-- the call. Assumes nothing.
use Rattle.std.proofs.Common.{◌≡◌, refl, ℕ, List, Option, None, Some}
use Rattle.rules.specs.Refusals.{EditAnswer, edit_says, Outcome}
use Rattle.sheet.specs.Book.{Reply, edit_reply, BookSlot}
use Rattle.sheet.specs.OnSheet.{encode, in_words}
use Rattle.sheet.specs.Import.{unless_fault}

module _ {A B : Type 0} (tell : EditAnswer → B) where
  pub unless : (P : B × A → Type 0) (f : Option ℕ) (ws : A) (o : B × A) →
      ((p : ℕ) → P (tell (edit_says 17 p 0), ws)) → P o → P (unless_fault tell f ws o)
  unless P None ws o g h = h
  unless P (Some p) ws o g h = g p

  -- of two calls with one text
  pub unless_both : (R : B × A → B × A → Type 0) (f : Option ℕ) (ws vs : A) (o r : B × A) →
      ((p : ℕ) → R (tell (edit_says 17 p 0), ws) (tell (edit_says 17 p 0), vs)) → R o r →
      R (unless_fault tell f ws o) (unless_fault tell f vs r)
  unless_both R None ws vs o r g h = h
  unless_both R (Some p) ws vs o r g h = g p

  -- the answer told in another way
  pub unless_told : (f : Option ℕ) (ws : A) (o : EditAnswer × A) →
      let e = unless_fault (λ a. a) f ws o in
      ◌≡◌ {A = B × A} (tell e.0, e.1) (unless_fault tell f ws (tell o.0, o.1))
  unless_told None ws o = refl
  unless_told (Some p) ws o = refl

-- in the book and on its words
pub unless_in_words : (f : Option ℕ) (b : List BookSlot) (o : Outcome Reply) (d : Reply × List BookSlot) →
    o ≡ in_words d → unless_fault edit_reply f (encode b) o ≡ in_words (unless_fault edit_reply f b d)
unless_in_words None b o d e = e
unless_in_words (Some p) b o d e = refl
