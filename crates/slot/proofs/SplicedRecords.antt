-- The spliced record list: its records are the old ones with the named stretch replaced. Assumes nothing.
use Rattle.std.proofs.Common.{◌≡◌, sym, ap, ◌∙◌, List, ◌++◌, ℕ, ◌+◌, ◌-◌, ◌*◌, ◌≤◌, arith, zero-add, length, take}
use Rattle.std.proofs.Common.{drop, length-append, length-drop, get_or-take, length-take-le}
use Rattle.rules.specs.Records.{records}
use Rattle.rules.specs.Refusals.{splice}
use Rattle.rules.proofs.RecordWords.{records_alike, records_take, records_drop, take_records}
use Rattle.rules.proofs.RecordWords.{drop_records, records_append}
use Rattle.slot.specs.Slot.{spliced}

-- records of a front of some words
front : (w : List ℕ) (c i n : ℕ) → i + n ≤ c → records (take (6 * c) w) i n ≡ records w i n
front w c i n h = records_alike (take (6 * c) w) w i i n (λ k l. get_or-take (6 * c) w (6 * i + k) 0 (omega arith))

module _ (w ins : List ℕ) (c p d k : ℕ) (room : 6 * c ≤ length w) (within : p + d ≤ c) (inserted : length ins ≡ 6 * k)
  where
    old : List ℕ
    old = take (6 * c) w

    length_old : length old ≡ 6 * c
    unfolding old
    length_old = length-take-le (6 * c) w room

    -- the old records before the place, and those after the deletion
    before_place : records (take (6 * p) old) 0 p ≡ take p (records w 0 c)
    unfolding old
    before_place =
        records_take (take (6 * c) w) p ∙ front w c 0 p (omega arith) ∙ sym (take_records w 0 c p (omega arith))

    after_deletion : records (drop (6 * (p + d)) old) 0 (c - (p + d)) ≡ drop (p + d) (records w 0 c)
    unfolding old
    after_deletion =
        records_drop (take (6 * c) w) (p + d) (c - (p + d)) ∙ front w c (p + d) (c - (p + d)) (omega arith)
        ∙ sym (rw zero-add at (drop_records w 0 c (p + d) (omega arith)))

    pub spliced_records : records (spliced (take (6 * c) w) (6 * p) (6 * (p + d)) ins) 0 (p + (k + (c - (p + d)))) ≡
        splice (records w 0 c) p d (records ins 0 k)
    unfolding old splice
    spliced_records =
        records_append (take (6 * p) old) (ins ++ drop (6 * (p + d)) old) p (k + (c - (p + d)))
        (length-take-le (6 * p) old (omega (arith, length_old)))
        ∙ (λ t. before_place t ++ later t)
      where
        later : records (ins ++ drop (6 * (p + d)) old) 0 (k + (c - (p + d))) ≡ records ins 0 k ++ drop (p + d)
            (records w 0 c)
        later =
            records_append ins (drop (6 * (p + d)) old) k (c - (p + d)) inserted
            ∙ ap (λ rs. records ins 0 k ++ rs) after_deletion

    pub length_spliced : length (spliced (take (6 * c) w) (6 * p) (6 * (p + d)) ins) ≡ 6 * (p + (k + (c - (p + d))))
    unfolding old
    length_spliced =
        let a : length (take (6 * p) old) ≡ 6 * p = length-take-le (6 * p) old (omega (arith, length_old)) in
        let b = length-append (take (6 * p) old) (ins ++ drop (6 * (p + d)) old) in
        let e = length-append ins (drop (6 * (p + d)) old) in
        omega (arith, a, b, e, length-drop (6 * (p + d)) old, length_old)
