-- The advance that an import gives, by what is asked of the class: a law that docs/PORT.md names. Assumes nothing.
use Rattle.std.proofs.Common.{◌≡◌, refl, sym, ℕ, ◌/◌, Bool, true, false, cond, ◌||◌}
use Rattle.rules.specs.Records.{half_size, to_size, to_twice, full_size}
use Rattle.leaflet.specs.Imported.{advance_by}
use Rattle.std.proofs.lemmas.Bool.{true≢false}

-- by what is asked of the class: whether it is 1, 2, 5, 6, 7, 3, 27
abbrev asked : Bool → Bool → Bool → Bool → Bool → Bool → Bool → Bool
asked a b e f g d w = (((((a || b) || e) || f) || g) || d) || w

abbrev advance_asked : Bool → Bool → Bool → Bool → Bool → Bool → Bool → ℕ → ℕ
advance_asked a b e f g d w s =
    advance_by
    (cond (a || (b || (e || (f || (g || false))))) half_size (cond d to_size (cond w to_twice full_size))) s

half_asked : (a b e f g d w : Bool) (s : ℕ) → asked a b e f g d w ≡ true → s / 2 ≡ advance_asked a b e f g d w s
half_asked true b e f g d w s h = refl
half_asked false true e f g d w s h = refl
half_asked false false true f g d w s h = refl
half_asked false false false true g d w s h = refl
half_asked false false false false true d w s h = refl
half_asked false false false false false true w s h = refl
half_asked false false false false false false true s h = refl
half_asked false false false false false false false s h = absurd (true≢false (sym h))
