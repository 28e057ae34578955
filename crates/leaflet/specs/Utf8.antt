-- Unicode 15.1, section 3.9: code points as bytes. "Malformed UTF-8 is judged by the Unicode standard's table of
-- well-formed sequences": a sequence is well-formed if it is `utf8` of a scalar value, a code point that is no
-- surrogate (D76), which is the rule for each code point of a record, `code_ok`. proofs/Claims.antt has the table.
--
--   more         a byte that goes on: 10, and the last six bits of a number
--   utf8         the bytes of a scalar value (table 3-6)
--
-- Assumes nothing.
use Rattle.std.specs.Prelude.{ℕ, ◌+◌, ◌/◌, ◌%◌, cond, List, [], ◌∷◌, ltb}

abbrev pub more : ℕ → ℕ
more c = 128 + c % 64

unfoldable pub utf8 : ℕ → List ℕ
utf8 c =
    cond (ltb c 128) (c ∷ [])
    (cond (ltb c 2048) ((192 + c / 64) ∷ more c ∷ [])
    (cond (ltb c 65536) ((224 + c / 4096) ∷ more (c / 64) ∷ more c ∷ [])
    ((240 + c / 262144) ∷ more (c / 4096) ∷ more (c / 64) ∷ more c ∷ [])))
