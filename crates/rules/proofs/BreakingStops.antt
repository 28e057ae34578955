-- Where a line of the breaking begins: what stands before it is filled as before, whatever no narrower run comes next,
-- and what stands from there on is filled by itself, from 0. Assumes nothing.
use Rattle.std.proofs.Common.{◌≡◌, refl, ap, ◌∙◌, ℕ, zero, suc, ◌+◌, ◌≤◌, ◌<◌, arith, true, false, List, [], ◌∷◌}
use Rattle.std.proofs.Common.{◌++◌, append_assoc, inl, inr, leb, length, take, drop}
use Rattle.rules.specs.Basics.{Run, whole, extended, joined}
use Rattle.rules.specs.Groups.{TextUnit, counts}
use Rattle.rules.specs.Breaks.{width, filled}
use Rattle.std.proofs.lemmas.Bool.{cases_Bool}
use Rattle.rules.proofs.NoBreaking.{counts_append}
use Rattle.rules.proofs.Growing.{NoEasier}

-- a line l from x on and the runs js fill the lines ls, and the run b no longer fits into the last of these
pub data Stops (m : ℕ) : ℕ → Run TextUnit → List (Run TextUnit) → Run TextUnit → List (Run TextUnit) → Type 0 where
  stops_here : {x : ℕ} {l b : Run TextUnit} → leb (x + width (extended l b)) m ≡ false → Stops m x l [] b (l ∷ [])
  stops_fits : {x : ℕ} {l j b : Run TextUnit} {js ls : List (Run TextUnit)} → leb (x + width (extended l j)) m ≡ true →
      Stops m x (extended l j) js b ls → Stops m x l (j ∷ js) b ls
  stops_next : {x : ℕ} {l j b : Run TextUnit} {js ls : List (Run TextUnit)} → leb (x + width (extended l j)) m ≡ false →
      Stops m 0 j js b ls → Stops m x l (j ∷ js) b (l ∷ ls)

-- then they do so before any run that is no narrower, and the next line starts with it
pub stops_filled : {m x : ℕ} {l b : Run TextUnit} {js ls : List (Run TextUnit)} → Stops m x l js b ls →
    (c : Run TextUnit) (cs : List (Run TextUnit)) → NoEasier b c → filled m x l (js ++ c ∷ cs) ≡ ls ++ filled m 0 c cs
unfolding filled
stops_filled {m} (stops_here {x} {l} e) c cs h = rw (h m x l e, filled)
stops_filled {m} (stops_fits e s) c cs h = rw (e, filled) (stops_filled s c cs h)
stops_filled {m} (stops_next {l} e s) c cs h = rw (e, filled) (ap (λ ks. l ∷ ks) (stops_filled s c cs h))

-- those lines join up to those runs
pub stops_joined : {m x : ℕ} {l b : Run TextUnit} {js ls : List (Run TextUnit)} → Stops m x l js b ls →
    joined ls ≡ joined (l ∷ js)
unfolding joined
stops_joined (stops_here e) = refl
stops_joined (stops_fits {l} {j} {js} e s) = stops_joined s ∙ simp append_assoc
stops_joined (stops_next {l} {j} {js} e s) = ap (λ us. whole l ++ us) (stops_joined s)

-- the lines that l and the runs ks fill, before line n and from there on: it starts with the run `next`
pub record StopAt (m x : ℕ) (l : Run TextUnit) (ks : List (Run TextUnit)) (n : ℕ) : Type 0 where
  pub taken : List (Run TextUnit)
  pub next : Run TextUnit
  pub others : List (Run TextUnit)
  pub all : ks ≡ taken ++ next ∷ others
  pub stops : Stops m x l taken next (take n (filled m x l ks))
  pub after : drop n (filled m x l ks) ≡ filled m 0 next others

-- with a run k more before: it is in the first line, or starts the second
stop_more : {m x y : ℕ} {l j k : Run TextUnit} {ks : List (Run TextUnit)} {n i : ℕ} (s : StopAt m y j ks i) →
    Stops m x l (k ∷ s.taken) s.next (take n (filled m x l (k ∷ ks))) →
    drop n (filled m x l (k ∷ ks)) ≡ drop i (filled m y j ks) → StopAt m x l (k ∷ ks) n
stop_more {k} s f g =
    record {
      taken = k ∷ s.taken;
      next = s.next;
      others = s.others;
      all = ap (λ ks. k ∷ ks) s.all;
      stops = f;
      after = g ∙ s.after;
    }

pub stop_at : (m x : ℕ) (l : Run TextUnit) (ks : List (Run TextUnit)) (n : ℕ) → suc n < length (filled m x l ks) →
    StopAt m x l ks (suc n)
unfolding filled
stop_at m x l [] n h = absurd (omega arith)
stop_at m x l (k ∷ ks) n h =
    elim (cases_Bool (leb (x + width (extended l k)) m)) [
      | inl e ↦
          let s = stop_at m x (extended l k) ks n (rw (e, filled) at h) in
          stop_more s (rw (e, filled) (stops_fits e s.stops)) (rw (e, filled))
      | inr e ↦ from (λ i. stop_at m 0 k ks i) n e (rw (e, filled) at h)
    ]
  where
    from : ((i : ℕ) → suc i < length (filled m 0 k ks) → StopAt m 0 k ks (suc i)) →
        (n : ℕ) → leb (x + width (extended l k)) m ≡ false → suc n < length (l ∷ filled m 0 k ks) →
        StopAt m x l (k ∷ ks) (suc n)
    from later zero e h =
        record {
          taken = [];
          next = k;
          others = ks;
          all = refl;
          stops = rw (e, filled) (stops_here e);
          after = rw (e, filled);
        }
    from later (suc n) e h =
        let s = later n (omega arith) in
        stop_more s (rw (e, filled) (stops_next e s.stops)) (rw (e, filled))

-- the first line that l and the runs ks fill holds l
pub filled_holds : (m x : ℕ) (l : Run TextUnit) (ks : List (Run TextUnit)) →
    counts (whole l) ≤ counts (joined (take 1 (filled m x l ks)))
unfolding filled joined
filled_holds m x l [] = omega (arith, counts_append (whole l) [])
filled_holds m x l (k ∷ ks) =
    elim (cases_Bool (leb (x + width (extended l k)) m)) [
      | inl e ↦
          rw (e, filled)
          (omega (arith, filled_holds m x (extended l k) ks, counts_append (whole l) (whole k)))
      | inr e ↦ rw (e, filled) (omega (arith, counts_append (whole l) []))
    ]
