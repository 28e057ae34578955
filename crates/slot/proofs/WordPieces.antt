-- Pieces of words written one after another. Assumes nothing.
use Rattle.std.proofs.Common.{◌≡◌, refl, sym, ap, ◌∙◌, List, [], ◌∷◌, ◌++◌, append_assoc, append-nil, ℕ, ◌+◌, ◌-◌}
use Rattle.std.proofs.Common.{◌≤◌, arith, length, take, drop, get_or, length-append, length-drop, drop_of_length-le}
use Rattle.std.proofs.Common.{take_at, drop_at, drop-cons, drop-drop, length-take-le, take_all}
use Rattle.std.proofs.Math.Seq.{paste}
use borrow.Rule.Slice.PartMut.{put_mid}
use Rattle.rules.specs.Basics.{zeros, padded}
use Rattle.rules.proofs.Zeros.{length_zeros}
use Rattle.rules.specs.Layout.{head_length, records_length, places_length, lines_length, slot_length}
use Rattle.rules.specs.Layout.{record_count_at, records_at, places_at, lines_at}
use Rattle.slot.specs.Slot.{head_of, spliced_into}

-- a list of at least eight has eight first
pub eight : (w : List ℕ) → 8 ≤ length w →
    w
    ≡ get_or w 0 0 ∷ get_or w 1 0 ∷ get_or w 2 0 ∷ get_or w 3 0 ∷ get_or w 4 0 ∷ get_or w 5 0 ∷ get_or w 6 0
    ∷ get_or w 7 0 ∷ drop 8 w
eight w h =
    drop-cons w 0 0 (omega arith)
    ∙ ap (λ l. get_or w 0 0 ∷ l)
    (drop-cons w 1 0 (omega arith)
    ∙ ap (λ l. get_or w 1 0 ∷ l)
    (drop-cons w 2 0 (omega arith)
    ∙ ap (λ l. get_or w 2 0 ∷ l)
    (drop-cons w 3 0 (omega arith)
    ∙ ap (λ l. get_or w 3 0 ∷ l)
    (drop-cons w 4 0 (omega arith)
    ∙ ap (λ l. get_or w 4 0 ∷ l)
    (drop-cons w 5 0 (omega arith)
    ∙ ap (λ l. get_or w 5 0 ∷ l)
    (drop-cons w 6 0 (omega arith) ∙ ap (λ l. get_or w 6 0 ∷ l) (drop-cons w 7 0 (omega arith))))))))

-- the head as it is written: the two counts, and zeros past the in-use word
abbrev head_pasted : List ℕ → ℕ → ℕ → List ℕ
head_pasted w n k = paste (paste w record_count_at (n ∷ k ∷ []) 2) 6 (0 ∷ 0 ∷ []) 2

headed : (w : List ℕ) (n k : ℕ) → head_length ≤ length w → head_pasted w n k ≡ head_of w n k ++ drop records_at w
headed w n k h = ap (λ l. head_pasted l n k) (eight w h)

-- a part overwritten right after p
mid_at : (p d s : List ℕ) (at n : ℕ) → length p ≡ at →
    put_mid at n (p ++ d) s ≡ p ++ (s ++ drop n d)
mid_at p d s at n ep = rw (take_at p d at ep, drop_at p d at ep)

-- the three copies of a splice
pub splices : (list ws ins front mid back : List ℕ) (b e : ℕ) → b ≤ e → e ≤ length ws → front ≡ take b ws → mid ≡ ins →
    back ≡ take (length ws - e) (drop e ws) →
    let k = length (take (length ws - e) (drop e ws)) in
    let at = b + length ins in
    put_mid at (at + k - at) (put_mid b (at - b) (front ++ drop b list) mid) back ≡ spliced_into list ws b e ins
splices list ws ins front mid back b e hb he f m r =
    let h_a : length (take b ws) ≡ b = length-take-le b ws (omega arith) in
    let e_c : take (length ws - e) (drop e ws) ≡ drop e ws =
    take_all (length ws - e) (drop e ws) (omega (arith, length-drop e ws)) in
    let n₂ : b + length ins - b ≡ length ins = omega arith in
    let n₃ : b + length ins + length (drop e ws) - (b + length ins) ≡ length ws - e = omega (arith, length-drop e ws) in
    let l₂ : put_mid b (length ins) (take b ws ++ drop b list) ins
    ≡ (take b ws ++ ins) ++ drop (length ins) (drop b list) =
    mid_at (take b ws) (drop b list) ins b (length ins) h_a ∙ sym (append_assoc (take b ws) ins _) in
    let h_ai : length (take b ws ++ ins) ≡ b + length ins =
    length-append (take b ws) ins ∙ ap (λ k. k + length ins) h_a in
    let l₃ =
    mid_at (take b ws ++ ins) (drop (length ins) (drop b list)) (drop e ws) (b + length ins) (length ws - e) h_ai in
    rw (f, m, r, e_c, n₂, n₃)
    (ap (λ l. put_mid (b + length ins) (length ws - e) l (drop e ws)) l₂ ∙ l₃ ∙ simp (append_assoc, drop-drop))

regroup : (p l z q s : List ℕ) → (((p ++ l) ++ z) ++ q) ++ (s ++ []) ≡ p ++ ((l ++ z) ++ (q ++ s))
regroup p l z q s = simp (append_assoc, append-nil)

-- the head and the four parts of a slot, one after the other
pub writes : (w list places lines head recs none pls lns : List ℕ) (n k : ℕ) → length w ≡ slot_length →
    length list ≤ records_length →
    length places ≡ places_length →
    length lines ≡ lines_length →
    head ≡ head_pasted w n k →
    recs ≡ list →
    (let end = records_at + length list in
    none ≡ zeros (length (take (places_at - end) (drop end (put_mid records_at (end - records_at) head recs))))) →
    pls ≡ places →
    lns ≡ lines →
    let end = records_at + length list in
    let b = put_mid records_at (end - records_at) head recs in
    let d = put_mid places_at places_length (put_mid end (places_at - end) b none) pls in
    put_mid lines_at (length d - lines_at) d lns ≡ head_of w n k ++ (padded records_length list ++ (places ++ lines))
writes w list places lines head recs none pls lns n k hw hl hp hn h₁ h₂ h₃ h₄ h₅ =
    let p₁ = head_of w n k in
    let z = zeros (records_length - length list) in
    -- what is left of the slot's words after its head, its records, the zeros past them and its places
    let t₁ = drop head_length w in
    let t₂ = drop (length list) t₁ in
    let t₃ = drop (records_length - length list) t₂ in
    let t₄ = drop places_length t₃ in
    let r : records_at + length list - records_at ≡ length list = omega arith in
    let q : places_at - (records_at + length list) ≡ records_length - length list = omega arith in
    let s₁ : head ≡ p₁ ++ t₁ = h₁ ∙ headed w n k (omega arith) in
    let s₂ : put_mid records_at (length list) (p₁ ++ t₁) list ≡ (p₁ ++ list) ++ t₂ =
    mid_at p₁ t₁ list records_at (length list) refl ∙ sym (append_assoc p₁ list t₂) in
    let l₂ : length (p₁ ++ list) ≡ records_at + length list = length-append p₁ list in
    let part : length (take (places_at - (records_at + length list)) (drop (records_at + length list)
    (put_mid records_at (records_at + length list - records_at) head recs))) ≡ records_length - length list =
    ap (λ (l : List ℕ). length (take (places_at - (records_at + length list)) (drop (records_at + length list) l)))
    (rw (s₁, h₂, r) s₂)
    ∙ ap (λ (l : List ℕ). length (take (places_at - (records_at + length list)) l)) (drop_at (p₁ ++ list) t₂ _ l₂)
    ∙ length-take-le (places_at - (records_at + length list)) t₂
    (omega (arith, length-drop (length list) t₁, length-drop head_length w))
    ∙ q in
    let none_is : none ≡ z = h₃ ∙ ap zeros part in
    let s₃ : put_mid (records_at + length list) (records_length - length list) ((p₁ ++ list) ++ t₂) z
    ≡ ((p₁ ++ list) ++ z) ++ t₃ =
    mid_at (p₁ ++ list) t₂ z (records_at + length list) (records_length - length list) l₂
    ∙ sym (append_assoc (p₁ ++ list) z t₃) in
    let l₃ : length ((p₁ ++ list) ++ z) ≡ places_at =
    length-append (p₁ ++ list) z ∙ omega (arith, l₂, length_zeros (records_length - length list)) in
    let s₄ : put_mid places_at places_length (((p₁ ++ list) ++ z) ++ t₃) places
    ≡ (((p₁ ++ list) ++ z) ++ places) ++ t₄ =
    mid_at ((p₁ ++ list) ++ z) t₃ places places_at places_length l₃
    ∙ sym (append_assoc ((p₁ ++ list) ++ z) places t₄) in
    let l₄ : length (((p₁ ++ list) ++ z) ++ places) ≡ lines_at =
    length-append ((p₁ ++ list) ++ z) places ∙ omega (arith, l₃, hp) in
    let m : length ((((p₁ ++ list) ++ z) ++ places) ++ t₄) - lines_at ≡ lines_length = omega (
      arith,
      length-append (((p₁ ++ list) ++ z) ++ places) t₄,
      l₄,
      length-drop places_length t₃,
      length-drop (records_length - length list) t₂,
      length-drop (length list) t₁,
      length-drop head_length w,
    ) in
    let s₅ = mid_at (((p₁ ++ list) ++ z) ++ places) t₄ lines lines_at lines_length l₄ in
    let left : drop lines_length t₄ ≡ [] = simp drop-drop (drop_of_length-le w (omega arith)) in
    let lines_put = λ (l : List ℕ). put_mid lines_at (length l - lines_at) l lines in
    let places_put = λ (l : List ℕ). put_mid places_at places_length l places in
    let zeros_put = λ (l : List ℕ). put_mid (records_at + length list) (records_length - length list) l z in
    rw (s₁, h₂, none_is, h₄, h₅, r, q)
    (ap (λ l. lines_put (places_put (zeros_put l))) s₂
    ∙ ap (λ l. lines_put (places_put l)) s₃
    ∙ ap lines_put s₄
    ∙ ap (λ n. put_mid lines_at n ((((p₁ ++ list) ++ z) ++ places) ++ t₄) lines) m
    ∙ s₅
    ∙ ap (λ t. (((p₁ ++ list) ++ z) ++ places) ++ (lines ++ t)) left
    ∙ regroup p₁ list z places lines)
