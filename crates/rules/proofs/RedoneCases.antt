-- docs/RULES.md, "How many lines an edit composes anew", as edits worked by hand: one table, with one claim over all
-- rows that the checker computes. A row wants the answer's number, f, r, the report and the new line count. Assumes
-- nothing.
--
--   full stop    。, of class 6
--   small        a K of size 8, which a line has room for
--   grouped      a K of group 1 with two ruby characters
--   text         thirty K: six lines of five in a measure of 440
use Rattle.std.proofs.Common.{◌≡◌, refl, ℕ, Bool, true, ◌&&◌, List, [], ◌∷◌, ◌++◌, length, replicate}
use Rattle.lists.proofs.Decisions.{same}
use Rattle.rules.specs.Records.{Rec, rec_of}
use Rattle.rules.specs.Groups.{units}
use Rattle.rules.specs.Adjustment.{compose}
use Rattle.rules.specs.Redone.{first_redone, resumed}
use Rattle.rules.specs.Refusals.{judged, splice, lines_redone}
use Rattle.rules.proofs.WorkedCases.{sized, K, worked}

abbrev full_stop : Rec
full_stop = sized 0x3002 6 40 0 0

abbrev small : Rec
small = rec_of 0x4E00 19 8 8 0 0

abbrev grouped : Rec
grouped = sized 0x4E00 19 80 1 2

pub record EditRow : Type 0 where
  pub measure : ℕ
  pub indent : ℕ
  pub text : List Rec
  pub place : ℕ
  pub deleted : ℕ
  pub inserted : List Rec
  pub want : List ℕ

abbrev row : ℕ → ℕ → List Rec → ℕ → ℕ → List Rec → List ℕ → EditRow
row m x t p d ins w =
    record { measure = m; indent = x; text = t; place = p; deleted = d; inserted = ins; want = w }

abbrev text : List Rec
text = replicate 30 K

pub edit_rows : List EditRow
edit_rows =
    -- in the last line of many
    row 440 0 text 27 1 (K ∷ []) (0 ∷ 4 ∷ 6 ∷ 2 ∷ 6 ∷ [])
    -- nothing changes after its own line; everything to the end does
    ∷ row 440 0 text 12 0 (small ∷ []) (0 ∷ 1 ∷ 3 ∷ 2 ∷ 6 ∷ [])
    ∷ row 440 0 text 12 0 (K ∷ []) (0 ∷ 1 ∷ 7 ∷ 6 ∷ 7 ∷ [])
    -- at the end, at 0, of an empty slot
    ∷ row 440 0 text 30 0 (K ∷ []) (0 ∷ 4 ∷ 7 ∷ 3 ∷ 7 ∷ [])
    ∷ row 440 0 text 0 0 (K ∷ []) (0 ∷ 0 ∷ 7 ∷ 7 ∷ 7 ∷ [])
    ∷ row 440 0 text 0 5 [] (0 ∷ 0 ∷ 1 ∷ 1 ∷ 5 ∷ [])
    ∷ row 440 0 [] 0 0 (replicate 6 K) (0 ∷ 0 ∷ 2 ∷ 2 ∷ 2 ∷ [])
    -- everything deleted; the end deleted; nothing changed
    ∷ row 440 0 text 0 30 [] (0 ∷ 0 ∷ 0 ∷ 0 ∷ 0 ∷ [])
    ∷ row 440 0 text 15 15 [] (0 ∷ 2 ∷ 3 ∷ 1 ∷ 3 ∷ [])
    ∷ row 440 0 text 30 0 [] (0 ∷ 4 ∷ 6 ∷ 2 ∷ 6 ∷ [])
    -- at the start of line 3: a group that ends line 2 gets a record; a full stop, which starts no line, comes in, and
    -- comes to the place by a deletion
    ∷ row 400 0 (replicate 14 K ++ grouped ∷ replicate 10 K) 15 0 (grouped ∷ []) (0 ∷ 2 ∷ 6 ∷ 4 ∷ 6 ∷ [])
    ∷ row 400 0 (replicate 25 K) 15 0 (full_stop ∷ []) (0 ∷ 2 ∷ 6 ∷ 4 ∷ 6 ∷ [])
    ∷ row 400 0 (replicate 16 K ++ full_stop ∷ replicate 9 K) 15 1 [] (0 ∷ 2 ∷ 4 ∷ 2 ∷ 6 ∷ [])
    -- with an indent
    ∷ row 400 80 (replicate 25 K) 10 0 (K ∷ K ∷ K ∷ []) (0 ∷ 1 ∷ 6 ∷ 5 ∷ 6 ∷ [])
    ∷ []

given : EditRow → List ℕ
given r =
    let rs = splice r.text r.place r.deleted r.inserted in
    let old = compose r.measure r.indent (units r.text) in
    let new = compose r.measure r.indent (units rs) in
    (judged r.measure r.indent rs).number
    ∷ first_redone r.place old
    ∷ resumed r.place r.deleted (length r.inserted) old new
    ∷ lines_redone r.measure r.indent r.text r.place r.deleted r.inserted
    ∷ length new
    ∷ []

pub edits_right : List EditRow → Bool
edits_right [] = true
edits_right (r ∷ rs) = same (given r) r.want && edits_right rs

-- every row comes out as it was worked
pub edit_cases_hold : edits_right edit_rows ≡ true
unfolding worked given edit_rows edits_right
edit_cases_hold = refl
