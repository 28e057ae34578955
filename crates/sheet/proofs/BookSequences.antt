-- Whole sequences of calls: on the sheet and in the book they give the same replies, and the sheet then holds the
-- book's words. Assumes nothing.
use Rattle.std.proofs.Common.{◌≡◌, refl, ap, ◌∙◌, ℕ, ◌/◌, arith, List, [], ◌∷◌, ◌++◌, length, eq-eqb, ne_eqb}
use Rattle.rules.specs.Layout.{slot_length}
use Rattle.rules.specs.Refusals.{Outcome, set_up_answer, set_up}
use Rattle.rules.specs.Meanings.{All, all_none, all_more}
use Rattle.sheet.specs.Book.{Call, call_set_up, call_take, call_on, Reply, answer_reply, edit_reply, number_of}
use Rattle.sheet.specs.Book.{fault_of, run_book, BookSlot, book_set_up, book_own, book_take, book_step}
use Rattle.sheet.specs.OnSheet.{step, run_sheet, encode, in_words}
use Rattle.sheet.proofs.TextFaults.{unless}
use Rattle.sheet.proofs.NumbersNotGiven.{set_up_not_4, take_not_4}
use Rattle.sheet.proofs.BookWords.{WellFormed, encode_empty}
use Rattle.sheet.proofs.BookSteps.{agrees}
use Rattle.sheet.proofs.BookStays.{stays, new_book, on_book_not_4}

-- from a well-formed book on
pub sequence : (n : ℕ) (calls : List Call) (b : List BookSlot) → WellFormed n b →
    run_sheet calls (encode b) ≡ in_words (run_book n calls b)
sequence n [] b g = refl
sequence n (c ∷ calls) b g =
    let o = book_step n c b in
    ap (λ (p : Outcome Reply). (p.0 ∷ (run_sheet calls p.1).0, (run_sheet calls p.1).1)) (agrees n b g c)
    ∙ ap (λ (l : List Reply × List ℕ). (o.0 ∷ l.0, l.1)) (sequence n calls o.1 (stays n b g c))

pub remains : (n : ℕ) (calls : List Call) (b : List BookSlot) → WellFormed n b → WellFormed n (run_book n calls b).1
remains n [] b g = g
remains n (c ∷ calls) b g = remains n calls (book_step n c b).1 (stays n b g c)

-- The first set-up --------------------------------------------------------------------------------------------------

-- an accepted set-up gives the same book, whatever the sheet and the book held
module _ (n : ℕ) (clinics measures indents : List ℕ) (z : (set_up_answer n clinics measures indents).number ≡ 0) where
  pub begins_book : (b : List BookSlot) → WellFormed n (book_step n (call_set_up clinics measures indents) b).1
  unfolding book_set_up
  begins_book b = rw (eq-eqb _ _ z) (new_book n clinics measures indents z)

  pub begins_anew : (b d : List BookSlot) →
      book_step n (call_set_up clinics measures indents) b ≡ book_step n (call_set_up clinics measures indents) d
  unfolding book_set_up
  begins_anew b d = rw (eq-eqb _ _ z)

  pub begins : (ws : List ℕ) (b : List BookSlot) → length ws ≡ n →
      step (call_set_up clinics measures indents) ws ≡ in_words (book_step n (call_set_up clinics measures indents) b)
  unfolding set_up book_set_up
  begins ws b e = rw (e, eq-eqb _ _ z, encode_empty clinics measures indents 0 (n / slot_length))

  -- a sequence that begins with it
  pub whole_sequence : (ws : List ℕ) (b : List BookSlot) → length ws ≡ n → (more : List Call) →
      run_sheet (call_set_up clinics measures indents ∷ more) ws
      ≡ in_words (run_book n (call_set_up clinics measures indents ∷ more) b)
  whole_sequence ws b e more =
      let o = book_step n (call_set_up clinics measures indents) b in
      ap (λ (p : Outcome Reply). (p.0 ∷ (run_sheet more p.1).0, (run_sheet more p.1).1)) (begins ws b e)
      ∙ ap (λ (l : List Reply × List ℕ). (o.0 ∷ l.0, l.1)) (sequence n more o.1 (begins_book b))

-- a refused set-up changes nothing in the book
pub refused_book : (n : ℕ) (clinics measures indents : List ℕ) (b : List BookSlot) →
    ((set_up_answer n clinics measures indents).number ≡ 0 → ⊥) →
    book_step n (call_set_up clinics measures indents) b ≡ (answer_reply (set_up_answer n clinics measures indents), b)
unfolding book_set_up
refused_book n clinics measures indents b z = rw (ne_eqb _ _ z)

-- calls, then calls
pub then_calls : (n : ℕ) (calls more : List Call) (b : List BookSlot) →
    let first = run_book n calls b in
    let second = run_book n more first.1 in
    run_book n (calls ++ more) b ≡ (first.0 ++ second.0, second.1)
then_calls n [] more b = refl
then_calls n (c ∷ calls) more b =
    let o = book_step n c b in
    ap (λ (l : List Reply × List BookSlot). (o.0 ∷ l.0, l.1)) (then_calls n calls more o.1)

-- an accepted set-up starts the history again
pub restarts : (n : ℕ) (before : List Call) (clinics measures indents : List ℕ) (after : List Call)
    (b : List BookSlot) →
    (set_up_answer n clinics measures indents).number ≡ 0 →
    let anew = run_book n (call_set_up clinics measures indents ∷ after) [] in
    run_book n (before ++ call_set_up clinics measures indents ∷ after) b ≡ ((run_book n before b).0 ++ anew.0, anew.1)
restarts n before clinics measures indents after b z =
    let rest : Reply × List BookSlot → List Reply × List BookSlot
    = λ o. let l = run_book n after o.1 in ((run_book n before b).0 ++ (o.0 ∷ l.0), l.1) in
    then_calls n before (call_set_up clinics measures indents ∷ after) b
    ∙ ap rest (begins_anew n clinics measures indents z (run_book n before b).1 [])

-- Answer 4 ----------------------------------------------------------------------------------------------------------

book_not_4 : (n : ℕ) (c : Call) (b : List BookSlot) → number_of (book_step n c b).0 ≡ 4 → ⊥
unfolding book_set_up book_take
book_not_4 n (call_set_up clinics measures indents) b = set_up_not_4 n clinics measures indents
book_not_4 n (call_take caller) b = take_not_4 n caller.0 (book_own n caller.0 b)
book_not_4 n (call_on caller k q) b =
    unless edit_reply (λ o. number_of o.0 ≡ 4 → ⊥) (fault_of q) b _ (λ p e. omega (arith, e))
    (on_book_not_4 q n caller.0 k.0 b)

-- it never comes up in the book
pub never_4 : (n : ℕ) (calls : List Call) (b : List BookSlot) → All (λ r. number_of r ≡ 4 → ⊥) (run_book n calls b).0
never_4 n [] b = all_none
never_4 n (c ∷ calls) b = all_more (book_not_4 n c b) (never_4 n calls (book_step n c b).1)
