-- Each line of the breaking is the longest. Assumes nothing.
use Rattle.std.proofs.Common.{◌≡◌, refl, ap, sym, ◌∙◌, ℕ, ◌+◌, ◌<◌, arith, le_trans, true, false, List, [], ◌∷◌, ◌++◌}
use Rattle.std.proofs.Common.{append_assoc, inl, inr, leb, leb-false}
use Rattle.rules.specs.Basics.{Run, alone, whole, extended, joined}
use Rattle.rules.specs.Groups.{TextUnit}
use Rattle.rules.specs.Breaks.{forbidden_between, width, runs, filled, breaking}
use Rattle.rules.specs.Meanings.{All, all_more, last_in, Linked, linked_one, linked_more, LinkedRun}
use Rattle.rules.specs.Meanings.{EndsWell, at_end, at_break, Longest, longest_none, longest_more}
use Rattle.std.proofs.lemmas.Bool.{cases_Bool, true≢false}
use Rattle.rules.proofs.Decisions.{nil_cons}
use Rattle.rules.proofs.Cuts.{cut_linked}
use Rattle.rules.proofs.Widths.{wider}
use Rattle.rules.proofs.Breaking.{filled_joined}

-- each line is the longest

pub ends_alike : {l k : Run TextUnit} {vs : List TextUnit} → last_in l ≡ last_in k → EndsWell l vs → EndsWell k vs
ends_alike p at_end = at_end
ends_alike {k = k} p (at_break {v = v} e) = at_break {l = k} {v = v} (rw (← p) e)

ends_inside : {u v t : TextUnit} {us vs : List TextUnit} → forbidden_between u v ≡ true → t ≡ u → vs ≡ v ∷ us →
    EndsWell (alone t) vs → ⊥
ends_inside b p q at_end = nil_cons q
ends_inside {u} {v} {t} b p q (at_break {v = w} e) =
    let r : w ≡ v = cc in
    let f : forbidden_between u v ≡ false = rw (← p, ← r) e in
    true≢false (sym b ∙ f)

-- a stretch of units that may end a line, where a linked run comes first, holds that whole run
holds_run : (u : TextUnit) (us : List TextUnit) → Linked forbidden_between u us →
    (rest : List TextUnit) (t : TextUnit) (ts vs : List TextUnit) →
    t ∷ ts ++ vs ≡ u ∷ us ++ rest → EndsWell (record { first = t; rest = ts }) vs → (ss : List TextUnit) ×
    (t ∷ ts ≡ u ∷ us ++ ss)
holds_run u [] linked_one rest t ts vs e w = (ts, (cc))
holds_run u (v ∷ us) (linked_more b h) rest t [] vs e w =
    let p : t ≡ u = cc in
    let q : vs ≡ v ∷ us ++ rest = cc in
    absurd (ends_inside b p q w)
holds_run u (v ∷ us) (linked_more b h) rest t (s ∷ ts) vs e w =
    let q : s ∷ ts ++ vs ≡ v ∷ us ++ rest = cc in
    let r = holds_run v us h rest s ts vs q (ends_alike refl w) in
    (r.0, cc r.1)

-- a line that does not fit with the next run does not fit with any longer stretch that may end it
next_too_wide : (m x : ℕ) (l k : Run TextUnit) (ks : List (Run TextUnit)) → LinkedRun forbidden_between k →
    m < x + width (extended l k) →
    (t : Run TextUnit) (vs : List TextUnit) → whole t ++ vs ≡ joined (k ∷ ks) → EndsWell t vs →
    m < x + width (extended l t)
unfolding joined
next_too_wide m x l k ks h g t vs e w =
    let r = holds_run k.first k.rest h (joined ks) t.first t.rest vs e w in
    let p : l.rest ++ whole t ≡ (l.rest ++ whole k) ++ r.0 =
    ap (λ us. l.rest ++ us) r.1 ∙ sym (append_assoc l.rest (whole k) r.0) in
    le_trans g (rw p (omega (arith, wider l.first (l.rest ++ whole k) r.0)))

filled_longest : (m x : ℕ) (l : Run TextUnit) (ks : List (Run TextUnit)) → All (LinkedRun forbidden_between) ks →
    Longest m x (filled m x l ks)
unfolding filled joined
filled_longest m x l [] h = longest_more (λ t vs e w. absurd (nil_cons (sym e))) longest_none
filled_longest m x l (k ∷ ks) (all_more g h) =
    elim (cases_Bool (leb (x + width (extended l k)) m)) [
      | inl e ↦ rw (e, filled) (filled_longest m x (extended l k) ks h)
      | inr e ↦
          rw (e, filled)
          (longest_more
          (λ t vs q w. next_too_wide m x l k ks g (leb-false _ _ e) t vs (q ∙ filled_joined m 0 k ks) w)
          (filled_longest m 0 k ks h))
    ]

breaking_longest : (m x : ℕ) (ls : List (Run TextUnit)) → All (LinkedRun forbidden_between) ls →
    Longest m x (breaking m x ls)
unfolding breaking
breaking_longest m x [] h = longest_none
breaking_longest m x (l ∷ ls) (all_more g h) = filled_longest m x l ls h

pub lines_longest : (m x : ℕ) (us : List TextUnit) → Longest m x (breaking m x (runs us))
unfolding runs
lines_longest m x us = breaking_longest m x (runs us) (cut_linked forbidden_between us)
