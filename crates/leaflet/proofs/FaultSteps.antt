-- A text's fault by its first item: where none stands, where it may not stand, and where it leads. Assumes nothing.
use Rattle.std.proofs.Common.{◌≡◌, refl, sym, ap, ◌∙◌, ℕ, zero, suc, ◌+◌, ◌-◌, ◌≤◌, ◌<◌, arith, List, [], ◌∷◌, length}
use Rattle.std.proofs.Common.{length-append, Option, None, Some, Bor, IfSome}
use Rattle.leaflet.specs.Items.{Item, item_bytes}
use Rattle.leaflet.specs.Decoding.{Next, nothing, found, next}
use Rattle.leaflet.specs.Spots.{Spot, step}
use Rattle.leaflet.specs.Reader.{ended, scan, fault_from}
use Rattle.leaflet.specs.Enums.{item_of, next_of}
use Rattle.leaflet.specs.declared.spots.Item.{Item as ItemEnum}
use Rattle.leaflet.proofs.NextItem.{next_right}
use Rattle.leaflet.proofs.Scans.{item_some}

-- what follows an item is shorter
pub next_shorter : (bs : List ℕ) (i : Item) (ds : List ℕ) → next bs ≡ found i ds →
    length bs ≡ length (item_bytes i) + length ds
next_shorter bs i ds e = sym (simp length-append at (ap length (rw e at (next_right bs)).0))

pub scan_none : (n : ℕ) (q : Spot) (k : ℕ) → scan n q k [] ≡ ended q k []
unfolding scan next
scan_none zero q k = refl
scan_none (suc n) q k = refl

scan_nothing : (n : ℕ) (q : Spot) (k : ℕ) (bs : List ℕ) → next bs ≡ nothing → scan n q k bs ≡ ended q k bs
unfolding scan
scan_nothing zero q k bs e = refl
scan_nothing (suc n) q k bs e = rw (e, scan)

scan_refused : (n : ℕ) (q : Spot) (k : ℕ) (bs : List ℕ) (i : Item) (ds : List ℕ) → next bs ≡ found i ds →
    step q i ≡ None → scan (suc n) q k bs ≡ Some k
unfolding scan
scan_refused n q k bs i ds e f = rw (e, scan, f)

scan_step : (n : ℕ) (q : Spot) (k : ℕ) (bs : List ℕ) (i : Item) (ds : List ℕ) (p : Spot) → next bs ≡ found i ds →
    step q i ≡ Some p → scan (suc n) q k bs ≡ scan n p (k + length (item_bytes i)) ds
unfolding scan
scan_step n q k bs i ds p e f = rw (e, scan, f)

-- a bound that is enough may be any
module _ (n m : ℕ)
    (less : (p : Spot) (j : ℕ) (ds : List ℕ) → length ds ≤ n → length ds ≤ m → scan n p j ds ≡ scan m p j ds)
    (q : Spot) (k : ℕ) (bs : List ℕ) (h : length bs ≤ suc n) (l : length bs ≤ suc m) where
  by_step : (i : Item) (ds : List ℕ) → next bs ≡ found i ds → (o : Option Spot) → step q i ≡ o →
      scan (suc n) q k bs ≡ scan (suc m) q k bs
  by_step i ds e None f = scan_refused n q k bs i ds e f ∙ sym (scan_refused m q k bs i ds e f)
  by_step i ds e (Some p) f =
      let w = next_shorter bs i ds e in
      let x = item_some i in
      scan_step n q k bs i ds p e f ∙ less p (k + length (item_bytes i)) ds (omega arith) (omega arith)
      ∙ sym (scan_step m q k bs i ds p e f)

  by_next : (f : Next) → next bs ≡ f → scan (suc n) q k bs ≡ scan (suc m) q k bs
  by_next nothing e = scan_nothing (suc n) q k bs e ∙ sym (scan_nothing (suc m) q k bs e)
  by_next (found i ds) e = by_step i ds e (step q i) refl

scan_bound : (n m : ℕ) (q : Spot) (k : ℕ) (bs : List ℕ) → length bs ≤ n → length bs ≤ m → scan n q k bs ≡ scan m q k bs
scan_bound zero m q k [] h l = scan_none 0 q k ∙ sym (scan_none m q k)
scan_bound zero m q k (b ∷ bs) h l = absurd (omega arith)
scan_bound (suc n) zero q k [] h l = scan_none (suc n) q k ∙ sym (scan_none 0 q k)
scan_bound (suc n) zero q k (b ∷ bs) h l = absurd (omega arith)
scan_bound (suc n) (suc m) q k bs h l = by_next n m (λ p j ds. scan_bound n m p j ds) q k bs h l (next bs) refl

-- One item --------------------------------------------------------------------------------------------------------

-- the fault of a text of which `left` is left at spot q
abbrev pub fault_at : ℕ → Spot → List ℕ → Option ℕ
fault_at total q left = fault_from q (total - length left) left

module _ (total : ℕ) (q : Spot) (bs : List ℕ) where
  pub fault_ended : next bs ≡ nothing → fault_at total q bs ≡ ended q (total - length bs) bs
  fault_ended e = scan_nothing (length bs) q (total - length bs) bs e

  module _ {i : Item} {ds : List ℕ} (e : next bs ≡ found i ds) where
    pub fault_refused : step q i ≡ None → fault_at total q bs ≡ Some (total - length bs)
    fault_refused f =
        let k = total - length bs in
        scan_bound (length bs) (suc (length bs)) q k bs (omega arith) (omega arith)
        ∙ scan_refused (length bs) q k bs i ds e f

    pub fault_past : {p : Spot} → step q i ≡ Some p → length bs ≤ total → fault_at total q bs ≡ fault_at total p ds
    fault_past {p} f h =
        let k = total - length bs in
        let w = next_shorter bs i ds e in
        let z : k + length (item_bytes i) ≡ total - length ds = omega arith in
        scan_bound (length bs) (suc (length bs)) q k bs (omega arith) (omega arith)
        ∙ scan_step (length bs) q k bs i ds p e f
        ∙ scan_bound (length bs) (length ds) p (k + length (item_bytes i)) ds (omega arith) (omega arith)
        ∙ ap (λ j. fault_from p j ds) z

-- so what follows the item that a program finds is shorter
pub left_shorter : (bs : List ℕ) (r : Option (ItemEnum × Bor (List ℕ))) → next_of r ≡ next bs →
    IfSome r (λ p. length p.1.now < length bs)
left_shorter bs None e = tt
left_shorter bs (Some p) e = omega (arith, next_shorter bs (item_of p.0) p.1.now (sym e), item_some (item_of p.0))
