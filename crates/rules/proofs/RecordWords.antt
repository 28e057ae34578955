-- Records and their words: the words of the records of some words are those words, and parts of one are parts of the
-- other. Assumes nothing.
use Rattle.std.proofs.Common.{◌≡◌, refl, ap, ◌∙◌, ℕ, zero, suc, ◌+◌, ◌*◌, ◌-◌, ◌≤◌, ◌<◌, arith, add-zero, zero-add}
use Rattle.std.proofs.Common.{suc-add, add_assoc, mul-suc, List, ◌∷◌, ◌++◌, length, get_or, take, drop, get_or-take}
use Rattle.std.proofs.Common.{get_or-drop, drop-cons, get_or-append-add}
use Rattle.std.proofs.Math.ListN.{get_or-append}
use Rattle.std.proofs.Math.Nat.{sub-zero}
use Rattle.std.proofs.Math.Numerals.{add_six}
use Rattle.rules.specs.Records.{rec_at, records, record_words}
use Rattle.rules.proofs.Decisions.{cons_path}

-- records hang on their own words alone
rec_alike : (ws vs : List ℕ) (i j : ℕ) → ((k : ℕ) → k < 6 → get_or ws (6 * i + k) 0 ≡ get_or vs (6 * j + k) 0) →
    rec_at ws i ≡ rec_at vs j
rec_alike ws vs i j h =
    λ t.
    record {
      code = (rw (add-zero, add-zero) at (h 0 (omega arith))) t;
      class = h 1 (omega arith) t;
      size = h 2 (omega arith) t;
      advance = h 3 (omega arith) t;
      group = h 4 (omega arith) t;
      ruby = h 5 (omega arith) t;
    }

pub records_alike : (ws vs : List ℕ) (i j n : ℕ) →
    ((k : ℕ) → k < 6 * n → get_or ws (6 * i + k) 0 ≡ get_or vs (6 * j + k) 0) →
    records ws i n ≡ records vs j n
unfolding records
records_alike ws vs i j zero h = refl
records_alike ws vs i j (suc n) h =
    cons_path (rec_alike ws vs i j (λ k l. h k (omega arith)))
    (records_alike ws vs (suc i) (suc j) n (λ k l. simp (mul-suc, add_assoc) (h (6 + k) (omega arith))))

pub records_take : (ws : List ℕ) (n : ℕ) → records (take (6 * n) ws) 0 n ≡ records ws 0 n
records_take ws n = records_alike (take (6 * n) ws) ws 0 0 n (λ k h. get_or-take (6 * n) ws (6 * 0 + k) 0 (omega arith))

pub records_drop : (ws : List ℕ) (i n : ℕ) → records (drop (6 * i) ws) 0 n ≡ records ws i n
records_drop ws i n =
    records_alike (drop (6 * i) ws) ws 0 i n
    (λ k h. rw zero-add (get_or-drop (6 * i) ws k 0))

pub take_records : (ws : List ℕ) (i n k : ℕ) → k ≤ n → take k (records ws i n) ≡ records ws i k
unfolding records
take_records ws i n zero h = refl
take_records ws i zero (suc k) h = absurd (omega arith)
take_records ws i (suc n) (suc k) h = ap (λ rs. rec_at ws i ∷ rs) (take_records ws (suc i) n k (omega arith))

pub drop_records : (ws : List ℕ) (i n k : ℕ) → k ≤ n → drop k (records ws i n) ≡ records ws (i + k) (n - k)
unfolding records
drop_records ws i n zero h = rw (add-zero, sub-zero)
drop_records ws i zero (suc k) h = absurd (omega arith)
drop_records ws i (suc n) (suc k) h =
    let e : suc i + k ≡ i + suc k = omega arith in
    let f : suc n - suc k ≡ n - k = omega arith in
    rw f (rw e at (drop_records ws (suc i) n k (omega arith)))

pub length_records : (ws : List ℕ) (i n : ℕ) → length (records ws i n) ≡ n
unfolding records
length_records ws i zero = refl
length_records ws i (suc n) = ap suc (length_records ws (suc i) n)

records_split : (ws : List ℕ) (i n k : ℕ) → records ws i (n + k) ≡ records ws i n ++ records ws (i + n) k
unfolding records
records_split ws i zero k = rw (zero-add, add-zero)
records_split ws i (suc n) k =
    let e : suc i + n ≡ i + suc n = omega arith in
    rw suc-add (ap (λ rs. rec_at ws i ∷ rs) (rw e at (records_split ws (suc i) n k)))

-- the records of one list of words after another
pub records_append : (ws vs : List ℕ) (n k : ℕ) → length ws ≡ 6 * n →
    records (ws ++ vs) 0 (n + k) ≡ records ws 0 n ++ records vs 0 k
records_append ws vs n k e =
    records_split (ws ++ vs) 0 n k
    ∙ (λ t. first t ++ second t)
  where
    first : records (ws ++ vs) 0 n ≡ records ws 0 n
    first = records_alike (ws ++ vs) ws 0 0 n (λ j h. get_or-append ws vs 0 (6 * 0 + j) (omega arith))

    second : records (ws ++ vs) (0 + n) k ≡ records vs 0 k
    second = records_alike (ws ++ vs) vs (0 + n) 0 k (λ j h. rw (zero-add, zero-add, ← e) (get_or-append-add ws vs j 0))

one_word : (ws : List ℕ) (a b : ℕ) → a + 1 ≡ b → a < length ws → drop a ws ≡ get_or ws a 0 ∷ drop b ws
one_word ws a b e h = let f : suc a ≡ b = omega arith in rw f at (drop-cons ws a 0 h)

six_words : (ws : List ℕ) (a : ℕ) → a + 6 ≤ length ws →
    drop a ws
    ≡ get_or ws a 0 ∷ get_or ws (a + 1) 0 ∷ get_or ws (a + 2) 0 ∷ get_or ws (a + 3) 0 ∷ get_or ws (a + 4) 0
    ∷ get_or ws (a + 5) 0 ∷ drop (a + 6) ws
six_words ws a h =
    rw (
      one_word ws a (a + 1) refl (omega arith),
      one_word ws (a + 1) (a + 2) (omega arith) (omega arith),
      one_word ws (a + 2) (a + 3) (omega arith) (omega arith),
      one_word ws (a + 3) (a + 4) (omega arith) (omega arith),
      one_word ws (a + 4) (a + 5) (omega arith) (omega arith),
      one_word ws (a + 5) (a + 6) (omega arith) (omega arith),
    )

words_from : (ws : List ℕ) (i n : ℕ) → 6 * i + 6 * n ≤ length ws →
    record_words (records ws i n) ≡ take (6 * n) (drop (6 * i) ws)
unfolding records record_words
words_from ws i zero h = refl
words_from ws i (suc n) h =
    rw (words_from ws (suc i) n (omega arith), six_words ws (6 * i) (omega arith), mul-suc, mul-suc, add_six (6 * n))

-- the words of the records of some words are those words
pub words_records : (ws : List ℕ) (n : ℕ) → 6 * n ≤ length ws → record_words (records ws 0 n) ≡ take (6 * n) ws
words_records ws n h = words_from ws 0 n (omega arith)
