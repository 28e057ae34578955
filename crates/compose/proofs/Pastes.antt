-- Words written one after the other over those of a list, from an offset on. Assumes nothing.
use Rattle.std.proofs.Common.{◌≡◌, refl, ap, ◌∙◌, ℕ, ◌+◌, ◌≤◌, arith, add_assoc, List, ◌++◌, append_assoc, length}
use Rattle.std.proofs.Common.{take, drop, length-append, length-drop, take_all, take_at, drop_at, take-add, drop-drop}
use Rattle.std.proofs.Math.Seq.{paste, paste-zero, take-paste, drop-paste, length-paste}

-- the first m words of ps stand over those of d from `off` on, which gives qs; `left` of ps is still to be written
pub record Pasting (d : List ℕ) (off : ℕ) (ps : List ℕ) (m : ℕ) (left qs : List ℕ) : Type 0 where
  pub is : qs ≡ paste d off ps m
  pub rest : drop m ps ≡ left
  pub short : m ≤ length ps

pub paste_start : {d : List ℕ} {off : ℕ} {ps : List ℕ} → Pasting d off ps 0 ps d
paste_start {d} {off} {ps} = record { is = paste-zero d off ps; rest = refl; short = omega arith }

pub paste_length : {d ps left qs : List ℕ} {off m : ℕ} → Pasting d off ps m left qs → off + m ≤ length d →
    length qs ≡ length d
paste_length {d} {ps} {left} {qs} {off} {m} p h = ap length p.is ∙ length-paste d off ps m h p.short

pub paste_left : {d ps left qs : List ℕ} {off m : ℕ} → Pasting d off ps m left qs → m + length left ≡ length ps
paste_left {d} {ps} {left} {qs} {off} {m} p = omega (arith, ap length p.rest, length-drop m ps, p.short)

-- n words more, from where the last ones end
pub paste_more : {d ps left qs qs' : List ℕ} {off m k : ℕ} (ws : List ℕ) (n i : ℕ) →
    Pasting d off ps m (ws ++ left) qs →
    (length ws ≡ n) × (i ≡ off + m) × (k ≡ m + n) × (off ≤ length d) → qs' ≡ paste qs i ws n →
    Pasting d off ps k left qs'
paste_more {d} {ps} {left} {qs} {qs'} {off} {m} {k} ws n i p (e, f, g, h) s =
    let here : take i qs ≡ take off d ++ take m ps = rw (f, p.is) (take-paste d off ps m h p.short) in
    let after : drop (i + n) qs ≡ drop (off + k) d =
    rw (g, f, p.is, ← add_assoc, ← (drop-drop n (off + m) d), ← (drop-drop n (off + m) (paste d off ps m)))
    (ap (λ l. drop n l) (drop-paste d off ps m h p.short)) in
    let new : take k ps ≡ take m ps ++ take n ws =
    rw (g, take-add m n ps, p.rest, take_at ws left n e, take_all n ws (omega arith)) in
    record {
      is = cc (append_assoc (take off d) (take m ps) (take n ws));
      rest = rw (g, ← (drop-drop n m ps), p.rest) (drop_at ws left n e);
      short = omega (arith, paste_left p, length-append ws left);
    }
