-- What an item adds to what has been read, as the program finds it. Assumes nothing.
use Rattle.std.proofs.Common.{◌≡◌, refl, arith, ℕ, suc, ◌+◌, ◌%◌, ◌≤◌, Bool, true, false, cond, inl, inr}
use Rattle.std.proofs.Common.{List, length, Option, None, Some, Ok, Err}
use Rattle.std.specs.Option.{IfNone, IfSome, ok_or}
use Rattle.rules.specs.Layout.{record_length}
use Rattle.rules.specs.Records.{record_words}
use Rattle.leaflet.specs.Items.{char, tag}
use Rattle.leaflet.specs.Spots.{Spot, becomes_record, char_step, allowed, step}
use Rattle.leaflet.specs.Written.{room, kept}
use Rattle.leaflet.specs.Enums.{tag_of, spot_of, words_of, Putting, put, refused as none_put, full as no_room}
use Rattle.leaflet.specs.Past.{TagPassed, Past, refused, full, markup}
use Rattle.leaflet.specs.declared.spots.Tag.{Tag as TagEnum}
use Rattle.leaflet.specs.declared.spots.Item.TheVariants.{Character, Markup}
use Rattle.leaflet.specs.declared.progress.NotPassed.{NotPassed}
use Rattle.leaflet.specs.declared.progress.NotPassed.TheVariants.{Refused}
use Rattle.leaflet.specs.declared.progress.Progress.{Progress}
use Rattle.std.proofs.lemmas.Bool.{cases_Bool}

no_either : (b : Bool) → ◌≡◌ {A = Option Spot} (cond b None None) None
no_either true = refl
no_either false = refl

-- where no character may stand
pub no_char : (q : Spot) (c : ℕ) → char_step q ≡ None → step q (char c) ≡ None
unfolding step
no_char q c e = rw (step, e) (no_either (allowed q c))

pub not_put : {s c : ℕ} {d e : List ℕ} {a : Progress} {x : NotPassed} →
    Putting d e a.end s (spot_of a.spot) a.groups c (Err x) → Past s d e a (Character c) (Err x)
unfolding step
not_put (none_put h) = refused (rw (step, h))
not_put (no_room b z x) = full b z x

-- a tag, as `past_tag` tells it
pub tag_past : {s : ℕ} {d e : List ℕ} {a : Progress} {t : TagEnum} (r : Option Progress) →
    IfNone r (step (spot_of a.spot) (tag (tag_of t)) ≡ None) → IfSome r (λ b. TagPassed d e a t b) →
    Past s d e a (Markup t) (ok_or r Refused)
tag_past None e h = refused e
tag_past (Some b) e h = markup h

-- a character of an rt counts as one
pub counted : (b : Bool) (n : ℕ) → n + cond b 1 0 ≡ cond b (suc n) n
counted true n = omega arith
counted false n = omega arith

-- a record is six words, or none
words_whole : (size : ℕ) (q : Spot) (k c : ℕ) → length (words_of size q k c) % record_length ≡ 0
unfolding words_of kept record_words
words_whole size q k c = elim (cases_Bool (becomes_record q)) [ inl e ↦ rw e | inr e ↦ rw e ]

pub placed : {d e : List ℕ} {i j s k c : ℕ} {q : Spot} → Putting d e i s q k c (Ok j) → i % record_length ≡ 0 →
    (i ≤ j) × (j ≤ room) × (j % record_length ≡ 0)
placed {i = i} {s = s} {k = k} {c = c} {q = q} (put v e₁ e₂ r) h =
    (omega (arith, e₁), omega (arith, e₁, r), omega (arith, e₁, h, words_whole s q k c))
