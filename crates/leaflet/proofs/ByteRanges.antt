-- Ranges of bytes: `within`, and the second byte's range by the first. Assumes nothing.
use Rattle.std.proofs.Common.{◌≡◌, ℕ, ◌≤◌, ◌<◌, arith, true, false, inl, inr, leb, eqb, le-leb, eqb-true}
use borrow.Author.Tests.{lt-leb}
use Rattle.rules.specs.Basics.{within}
use Rattle.rules.proofs.Bounds.{within_low, within_high}
use Rattle.leaflet.specs.Decoding.{low, high}
use Rattle.std.proofs.lemmas.Bool.{cases_Bool}

pub inside : (lo hi x : ℕ) → lo ≤ x → x ≤ hi → within lo hi x ≡ true
inside lo hi x h k = rw (le-leb lo x h, le-leb x hi k)

pub below : (lo hi x : ℕ) → x < lo → within lo hi x ≡ false
below lo hi x h = rw (lt-leb lo x h)

pub above : (lo hi x : ℕ) → hi < x → within lo hi x ≡ false
above lo hi x h = elim (cases_Bool (leb lo x)) [ inl e ↦ rw (e, lt-leb x hi h) | inr e ↦ rw e ]

-- the second byte's range
pub low_under : (b x : ℕ) → (b ≡ 0xE0 → 0xA0 ≤ x) → (b ≡ 0xF0 → 0x90 ≤ x) → 0x80 ≤ x → low b ≤ x
low_under b x f g h =
    elim (cases_Bool (eqb b 0xE0)) [
      | inl e ↦ rw e (f (eqb-true b 0xE0 e))
      | inr e ↦ elim (cases_Bool (eqb b 0xF0)) [ inl d ↦ rw (e, d) (g (eqb-true b 0xF0 d)) | inr d ↦ rw (e, d) h ]
    ]

pub under_high : (b x : ℕ) → (b ≡ 0xED → x ≤ 0x9F) → (b ≡ 0xF4 → x ≤ 0x8F) → x ≤ 0xBF → x ≤ high b
under_high b x f g h =
    elim (cases_Bool (eqb b 0xED)) [
      | inl e ↦ rw e (f (eqb-true b 0xED e))
      | inr e ↦ elim (cases_Bool (eqb b 0xF4)) [ inl d ↦ rw (e, d) (g (eqb-true b 0xF4 d)) | inr d ↦ rw (e, d) h ]
    ]

pub limits : (lo hi x : ℕ) → within lo hi x ≡ true → (lo ≤ x) × (x ≤ hi)
limits lo hi x e = (within_low lo hi x e, within_high lo hi x e)

pub low_least : (b : ℕ) → 0x80 ≤ low b
low_least b =
    elim (cases_Bool (eqb b 0xE0)) [
      | inl e ↦ rw e (omega arith)
      | inr e ↦ elim (cases_Bool (eqb b 0xF0)) [ inl d ↦ rw (e, d) (omega arith) | inr d ↦ rw (e, d) (omega arith) ]
    ]

pub high_most : (b : ℕ) → high b ≤ 0xBF
high_most b =
    elim (cases_Bool (eqb b 0xED)) [
      | inl e ↦ rw e (omega arith)
      | inr e ↦ elim (cases_Bool (eqb b 0xF4)) [ inl d ↦ rw (e, d) (omega arith) | inr d ↦ rw (e, d) (omega arith) ]
    ]
