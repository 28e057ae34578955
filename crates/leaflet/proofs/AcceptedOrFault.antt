-- How the reader ends: a text is accepted, or has its fault where the reader stopped. Assumes nothing.
use Rattle.std.proofs.Common.{◌≡◌, refl, sym, ap, ◌∙◌, ℕ, ◌+◌, arith, true, List, [], ◌∷◌, append-nil, inl, inr, None}
use Rattle.std.proofs.Common.{Some, length}
use Rattle.leaflet.specs.Items.{bytes}
use Rattle.leaflet.specs.Contents.{Piece, spell, Spells, Accepted, reading}
use Rattle.leaflet.specs.Faults.{Fault}
use Rattle.leaflet.specs.Spots.{Spot, outside, opened, in_base, bare_opened, in_bare, in_first, rt_due}
use Rattle.leaflet.specs.Spots.{fenced_opened, in_fenced, rp_due, in_last, closing, is_outside}
use Rattle.leaflet.specs.Reader.{ended, scan, items_of, parts, fault, fault_in, read}
use Rattle.std.proofs.lemmas.Bool.{cases_Bool, true≢false}
use Rattle.rules.proofs.Decisions.{nil_cons}
use Rattle.leaflet.proofs.Decisions.{no_way}
use Rattle.leaflet.proofs.Runs.{run_spell}
use Rattle.leaflet.proofs.Beginnings.{run_spelt}
use Rattle.leaflet.proofs.GatheredParts.{parts_spelt}
use Rattle.leaflet.proofs.Scans.{Passed, scanned}
use Rattle.leaflet.proofs.LongestBeginnings.{accepted_end, passed_longest, longest_only, items_again}

pub outside_is : (q : Spot) → is_outside q ≡ true → q ≡ outside
outside_is outside e = refl
outside_is opened e = no_way (cc)
outside_is in_base e = no_way (cc)
outside_is bare_opened e = no_way (cc)
outside_is in_bare e = no_way (cc)
outside_is in_first e = no_way (cc)
outside_is rt_due e = no_way (cc)
outside_is fenced_opened e = no_way (cc)
outside_is in_fenced e = no_way (cc)
outside_is rp_due e = no_way (cc)
outside_is in_last e = no_way (cc)
outside_is closing e = no_way (cc)

-- a scan ends well exactly at the end of a text, outside ruby elements
data Ends (q : Spot) (k : ℕ) (bs : List ℕ) : Type 0 where
  well : ended q k bs ≡ None → q ≡ outside → bs ≡ [] → Ends q k bs
  badly : ended q k bs ≡ Some k → (q ≡ outside → bs ≡ [] → ⊥) → Ends q k bs

ends : (q : Spot) (k : ℕ) (bs : List ℕ) → Ends q k bs
ends q k bs =
    elim (cases_Bool (is_outside q)) [ inl e ↦ here bs e | inr e ↦ badly (rw e) (λ z b. true≢false (sym (rw z) ∙ e)) ]
  where
    here : (bs : List ℕ) → is_outside q ≡ true → Ends q k bs
    here [] e = well (rw e) (outside_is q e) refl
    here (b ∷ bs) e = badly (rw e) (λ z f. nil_cons (sym f))

-- what a reader gets through to the end, outside ruby elements, is accepted
passed_accepted : {bs : List ℕ} (w : Passed outside bs) → w.spot ≡ outside → w.left ≡ [] → Accepted bs
passed_accepted {bs} w e f =
    let s = run_spelt (rw e at w.run) in
    let d : bytes w.items ≡ bs = sym (append-nil _) ∙ (rw f at w.starts) in
    record { content = s.content; spells = record { proper = s.proper; written = ap bytes (sym s.spelt) ∙ d } }

-- any other text has its fault where the reader stopped
passed_fault : {bs : List ℕ} (w : Passed outside bs) → (w.spot ≡ outside → w.left ≡ [] → ⊥) →
    Fault bs (length (bytes w.items))
passed_fault w h =
    record {
      refused = λ a. let e = accepted_end w a in h e.1 e.0;
      passed = w.items;
      last = passed_longest w;
      place = refl;
    }

-- a text's items are those of any content that spells it
pub items_spelt : {bs : List ℕ} {ps : List Piece} → Spells bs ps → items_of (length bs) bs ≡ spell ps
items_spelt {bs} {ps} s =
    let e = items_again (length (bytes (spell ps))) (run_spell ps s.proper) (omega arith) in
    rw s.written at e

-- what a text is, and what the reader says of it
pub data Told (bs : List ℕ) : Type 0 where
  accepted : (a : Accepted bs) → fault_in bs ≡ None → read bs ≡ parts (reading a.content) → Told bs
  refused : (k : ℕ) → Fault bs k → fault_in bs ≡ Some k → read bs ≡ fault k → Told bs

pub told : (bs : List ℕ) → Told bs
unfolding read fault_in
told bs = by_ends (ends w.spot (0 + length (bytes w.items)) w.left)
  where
    w : Passed outside bs
    w = (scanned (length bs) outside 0 bs (omega arith)).passed

    gives : scan (length bs) outside 0 bs ≡ ended w.spot (0 + length (bytes w.items)) w.left
    gives = (scanned (length bs) outside 0 bs (omega arith)).gives

    by_ends : Ends w.spot (0 + length (bytes w.items)) w.left → Told bs
    by_ends (well e q f) =
        let a = passed_accepted w q f in
        accepted a (gives ∙ e) (rw (gives ∙ e, items_spelt a.spells, parts_spelt a.content))
    by_ends (badly e h) =
        let z : length (bytes w.items) ≡ 0 + length (bytes w.items) = omega arith in
        refused (0 + length (bytes w.items)) (rw z at (passed_fault w h)) (gives ∙ e) (rw (gives ∙ e))

-- a text has one fault's place
pub place_only : {bs : List ℕ} {j k : ℕ} → Fault bs j → Fault bs k → j ≡ k
place_only {bs} f g =
    let w = (scanned (length bs) outside 0 bs (omega arith)).passed in
    let e = longest_only w f.last in
    let d = longest_only w g.last in
    f.place ∙ ap (λ is. length (bytes is)) (e ∙ sym d) ∙ sym g.place
