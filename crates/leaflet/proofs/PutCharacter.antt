-- A character's record, put or not. Assumes nothing.
use Rattle.std.proofs.Common.{◌≡◌, refl, ℕ, ◌+◌, ◌-◌, ◌≤◌, ◌<◌, arith, true, false, inl, inr}
use Rattle.std.proofs.Common.{List, [], ◌∷◌, Ok, Err}
use Rattle.std.proofs.Math.Seq.{paste, paste-zero}
use Rattle.lists.specs.Lists.{class_of}
use Rattle.rules.specs.Layout.{record_length}
use Rattle.rules.specs.Records.{record_words}
use Rattle.leaflet.specs.Contents.{text_char, plain_char}
use Rattle.leaflet.specs.Imported.{as_word, advance_of}
use Rattle.leaflet.specs.Spots.{Spot, becomes_record, is_outside}
use Rattle.leaflet.specs.Written.{in_group, kept, room}
use Rattle.leaflet.specs.Enums.{words_of, Putting, refused, full, put}
use Rattle.leaflet.specs.declared.progress.NotPassed.TheVariants.{Refused, Full}
use Rattle.std.proofs.lemmas.Bool.{cases_Bool}

-- no ruby count is 0, in a group and outside
no_ruby : (q : Spot) → in_group q 0 ≡ 0
unfolding as_word
no_ruby q = elim (cases_Bool (is_outside q)) [ inl e ↦ rw e | inr e ↦ rw e ]

module _ (d : List ℕ) (i s : ℕ) (q : Spot) (k c : ℕ) where
  -- inside rt and rp
  pub put_none : becomes_record q ≡ false → text_char c ≡ true → i ≤ room → Putting d d i s q k c (Ok i)
  unfolding words_of kept record_words
  put_none w e h = put {j = i} (rw (w, e)) (rw w (omega arith)) (rw w (paste-zero d i [])) (rw w (omega arith))

  pub put_no_text : becomes_record q ≡ false → text_char c ≡ false → Putting d d i s q k c (Err Refused)
  put_no_text w e = refused (rw (w, e))

  -- outside them
  module _ (w : becomes_record q ≡ true) where
    pub put_refused : plain_char c ≡ false → Putting d d i s q k c (Err Refused)
    put_refused f = refused (rw (w, f))

    pub put_full : i ≤ room → room - i < record_length → Putting d d i s q k c (Err Full)
    put_full h l = full w refl (omega arith)

    pub put_plain : (class a g : ℕ) {e : List ℕ} → plain_char c ≡ true → class ≡ class_of c → record_length ≤ room - i →
        i ≤ room → a ≡ advance_of class s → g ≡ in_group q k →
        e ≡ paste d i (c ∷ class ∷ s ∷ a ∷ g ∷ 0 ∷ []) record_length →
        Putting d e i s q k c (Ok (i + record_length))
    unfolding words_of kept record_words
    put_plain class a g p same h l e₁ e₂ f =
        put {j = i + record_length} (rw (w, p)) (rw w) (rw (w, ← same, no_ruby q, ← e₁, ← e₂) f)
        (rw w (omega arith))
