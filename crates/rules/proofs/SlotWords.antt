-- A slot's words: how many there are, and what is read back from them. Assumes nothing.
use Rattle.std.proofs.Common.{◌≡◌, refl, sym, ap, ◌∙◌, ℕ, zero, suc, ◌+◌, ◌-◌, ◌*◌, ◌/◌, ◌≤◌, ◌<◌, add-zero, mul-suc}
use Rattle.std.proofs.Common.{arith, List, [], ◌∷◌, ◌++◌, append_assoc, append-nil, length, get_or, set, take, drop}
use Rattle.std.proofs.Common.{length-append, get_or-append-add, get_or-take, take_at, drop_at}
use Rattle.std.proofs.Math.Numerals.{add-three}
use Rattle.rules.specs.Basics.{cut, zeros, padded}
use Rattle.rules.specs.Layout.{most_records, head_length, records_length, places_length, lines_length, slot_length}
use Rattle.rules.specs.Layout.{places_at, lines_at}
use Rattle.rules.specs.Records.{Rec, rec_at, records, record_words}
use Rattle.rules.specs.Groups.{units}
use Rattle.rules.specs.Breaks.{runs, breaking}
use Rattle.rules.specs.Adjustment.{Line, lines_of, compose}
use Rattle.rules.specs.Sheet.{Setting, setting, with_use, place_words, line_words, head, slot_words, fresh}
use Rattle.rules.specs.Sheet.{clinic_of, measure_of, indent_of, in_use_of, setting_of, count_of, line_count_of}
use Rattle.rules.specs.Sheet.{records_of}
use Rattle.rules.specs.Pool.{emptied}
use Rattle.rules.specs.Redone.{start}
use Rattle.rules.specs.Stable.{used_by, used_of, AsRuled}
use Rattle.rules.proofs.Decisions.{cons_path}
use Rattle.rules.proofs.Zeros.{length_zeros, zeros_append}
use Rattle.rules.proofs.WordCounts.{length_line_words, composed_places, composed_few}

-- Records as words --------------------------------------------------------------------------------------------------

pub length_record_words : (rs : List Rec) → length (record_words rs) ≡ 6 * length rs
unfolding record_words
length_record_words [] = omega arith
length_record_words (r ∷ rs) = omega (arith, length_record_words rs)

-- the records that follow words p, six to a record
records_after : (p : List ℕ) (i : ℕ) (rs : List Rec) (ws : List ℕ) → length p ≡ 6 * i →
    records (p ++ (record_words rs ++ ws)) i (length rs) ≡ rs
unfolding records record_words
records_after p i [] ws e = refl
records_after p i (r ∷ rs) ws e =
    let w : List ℕ = r.code ∷ r.class ∷ r.size ∷ r.advance ∷ r.group ∷ r.ruby ∷ [] in
    let l : List ℕ = w ++ (record_words rs ++ ws) in
    let at : (j : ℕ) → get_or (p ++ l) (6 * i + j) 0 ≡ get_or l j 0 = λ j. rw (← e) (get_or-append-add p l j 0) in
    let at₀ : get_or (p ++ l) (6 * i) 0 ≡ r.code = rw add-zero at (at 0) in
    let one : rec_at (p ++ l) i ≡ r = rw (at₀, at 1, at 2, at 3, at 4, at 5) in
    let longer : length (p ++ w) ≡ 6 * suc i = omega (arith, length-append p w) in
    let rest : records ((p ++ w) ++ (record_words rs ++ ws)) (suc i) (length rs) ≡ rs =
    records_after (p ++ w) (suc i) rs ws longer in
    cons_path one (rw append_assoc at rest)

-- the records of a slot's record words, whatever follows them
pub records_of_words : (rs : List Rec) (ws : List ℕ) → records (record_words rs ++ ws) 0 (length rs) ≡ rs
records_of_words rs ws = records_after [] 0 rs ws refl

pub records_again : (rs : List Rec) → records (record_words rs) 0 (length (record_words rs) / 6) ≡ rs
records_again rs =
    let n : length (record_words rs) / 6 ≡ length rs = omega (arith, length_record_words rs) in
    rw n (ap (λ ws. records ws 0 (length rs)) (sym (append-nil (record_words rs))) ∙ records_of_words rs [])

-- Lines as words -----------------------------------------------------------------------------------------------------

-- the first record of a line is the first of its words
line_first : (i : ℕ) (ls : List Line) (j : ℕ) → j < length ls → get_or (line_words i ls) (3 * j) 0 ≡ i + start j ls
unfolding line_words start
line_first i [] j h = absurd (omega arith)
line_first i (l ∷ ls) zero h = omega arith
line_first i (l ∷ ls) (suc j) h =
    rw (mul-suc, add-three) (omega (arith, line_first (i + l.count) ls j (omega arith)))

-- A slot ------------------------------------------------------------------------------------------------------------

length_padded : (n : ℕ) (ws : List ℕ) → length ws ≤ n → length (padded n ws) ≡ n
length_padded n ws h = length-append ws _ ∙ omega (arith, length_zeros (n - length ws))

module _ (t : Setting) (rs : List Rec) where
  abbrev lines : List Line
  lines = compose t.measure t.indent (units rs)

  abbrev first : List ℕ
  first = head t (length rs) (length lines)

  abbrev second : List ℕ
  second = padded records_length (record_words rs)

  abbrev third : List ℕ
  third = padded places_length (place_words 0 lines)

  abbrev fourth : List ℕ
  fourth = padded lines_length (line_words 0 lines)

  -- the head and the records are read back
  pub slot_setting : setting_of (slot_words t rs) ≡ t
  unfolding slot_words
  slot_setting = refl

  pub slot_measure : measure_of (slot_words t rs) ≡ t.measure
  slot_measure = ap (λ (p : Setting). p.measure) slot_setting

  pub slot_indent : indent_of (slot_words t rs) ≡ t.indent
  slot_indent = ap (λ (p : Setting). p.indent) slot_setting

  pub slot_in_use : in_use_of (slot_words t rs) ≡ t.in_use
  slot_in_use = ap (λ (p : Setting). p.in_use) slot_setting

  -- with another in-use word
  pub slot_with_use : (w : ℕ) → set (slot_words t rs) 5 w ≡ slot_words (with_use t w) rs
  unfolding slot_words
  slot_with_use w = refl

  pub slot_count : count_of (slot_words t rs) ≡ length rs
  unfolding slot_words
  slot_count = refl

  pub slot_line_count : line_count_of (slot_words t rs) ≡ length lines
  unfolding slot_words
  slot_line_count = refl

  pub slot_records : records_of (slot_words t rs) ≡ rs
  unfolding slot_words
  slot_records =
      let rest : List ℕ = zeros (records_length - length (record_words rs)) in
      let parts : slot_words t rs ≡ first ++ (record_words rs ++ (rest ++ (third ++ fourth)))
      = simp append_assoc in
      ap (λ w. records (drop 8 w) 0 (length rs)) parts ∙ records_of_words rs (rest ++ (third ++ fourth))

  module _ (few : length rs ≤ most_records) where
    length_second : length second ≡ records_length
    length_second = length_padded records_length (record_words rs) (omega (arith, length_record_words rs))

    length_third : length third ≡ places_length
    length_third =
        length_padded places_length (place_words 0 lines) (omega (arith, composed_places t.measure t.indent rs))

    length_fourth : length fourth ≡ lines_length
    length_fourth =
        let few_lines = composed_few t.measure t.indent rs in
        length_padded lines_length (line_words 0 lines) (omega (arith, length_line_words 0 lines, few_lines))

    length_three : length (first ++ second ++ third) ≡ lines_at
    length_three =
        length-append (first ++ second) third
        ∙ omega (arith, length-append first second, length_second, length_third)

    -- a slot has 2,824 words
    pub length_slot : length (slot_words t rs) ≡ slot_length
    unfolding slot_words
    length_slot = length-append (first ++ second ++ third) fourth ∙ omega (arith, length_three, length_fourth)

    -- the used ones of its places stand from word 1544 on
    pub slot_places : take (2 * length rs) (drop places_at (slot_words t rs)) ≡ place_words 0 lines
    unfolding slot_words
    slot_places =
        let rest : List ℕ = zeros (places_length - length (place_words 0 lines)) in
        let parts : slot_words t rs ≡ (first ++ second) ++ (place_words 0 lines ++ (rest ++ fourth))
        = simp append_assoc in
        let two : length (first ++ second) ≡ places_at = length-append first second ∙ omega (arith, length_second) in
        ap (λ w. take (2 * length rs) (drop places_at w)) parts
        ∙ ap (take (2 * length rs)) (drop_at (first ++ second) (place_words 0 lines ++ (rest ++ fourth)) places_at two)
        ∙ take_at (place_words 0 lines) (rest ++ fourth) (2 * length rs) (composed_places t.measure t.indent rs)

    -- and those of its lines from word 2056 on
    from_lines : drop lines_at (slot_words t rs) ≡ fourth
    unfolding slot_words
    from_lines = drop_at (first ++ second ++ third) fourth lines_at length_three

    pub slot_lines : take (3 * length lines) (drop lines_at (slot_words t rs)) ≡ line_words 0 lines
    slot_lines =
        ap (take (3 * length lines)) from_lines
        ∙ take_at (line_words 0 lines) _ (3 * length lines) (length_line_words 0 lines)

    pub slot_used : used_of (slot_words t rs) ≡ used_by lines
    slot_used =
        let places = ap (λ n. take (2 * n) (drop places_at (slot_words t rs))) slot_count ∙ slot_places in
        let words = ap (λ n. take (3 * n) (drop lines_at (slot_words t rs))) slot_line_count ∙ slot_lines in
        λ i. record { places = places i; lines = words i }

    pub slot_as_ruled : AsRuled (slot_words t rs)
    slot_as_ruled = slot_used ∙ rw (slot_measure, slot_indent, slot_records)

    -- the first record of each line
    pub slot_firsts : (j : ℕ) → j < length lines → get_or (drop lines_at (slot_words t rs)) (3 * j) 0 ≡ start j lines
    slot_firsts j h =
        sym (get_or-take (3 * length lines) (drop lines_at (slot_words t rs)) (3 * j) 0 (omega arith))
        ∙ ap (λ ws. get_or ws (3 * j) 0) slot_lines ∙ omega (arith, line_first 0 lines j h)

two_zeros : zeros 2 ≡ 0 ∷ 0 ∷ []
unfolding zeros
two_zeros = refl

-- a slot without records is fresh
pub slot_fresh : (t : Setting) → slot_words t [] ≡ fresh t
unfolding slot_words compose units cut runs breaking lines_of record_words place_words line_words
slot_fresh t =
    let after : List ℕ → List ℕ = λ l. t.clinic ∷ t.measure ∷ t.indent ∷ 0 ∷ 0 ∷ t.in_use ∷ l in
    let z : zeros records_length ++ zeros places_length ++ zeros lines_length ≡ zeros (slot_length - head_length)
    = ap (λ l. l ++ zeros lines_length) (zeros_append records_length places_length)
    ∙ zeros_append (records_length + places_length) lines_length in
    ap (λ l. after (0 ∷ 0 ∷ l)) z
    ∙ ap (λ l. after (l ++ zeros 2816)) (sym two_zeros)
    ∙ ap after (zeros_append 2 2816)

three_zeros : zeros 3 ≡ 0 ∷ 0 ∷ 0 ∷ []
unfolding zeros
three_zeros = refl

-- and one that is given back is as set-up leaves it
pub emptied_fresh : (s : List ℕ) → emptied s ≡ fresh (setting (clinic_of s) (measure_of s) (indent_of s))
emptied_fresh s =
    let after : List ℕ → List ℕ = λ l. clinic_of s ∷ measure_of s ∷ indent_of s ∷ l in
    ap after (sym (zeros_append 3 (slot_length - 6))) ∙ ap (λ l. after (l ++ zeros (slot_length - 6))) three_zeros
