-- What the claims say of sheets. proofs/Claims.antt proves each of these.
--
--   outside      a word that is not of the named slot
--   beyond       answer 1 or 2 is due: the sheet's length tells
--   alike        two sheets that a caller of a slot cannot tell apart; alike in a caller's own slots, for a take
--   left alike   what a call makes of two such sheets is the same where it may look and write
--   none before 12    an edit to which no answer before 12 applies
--   no earlier   an edit to which no answer before 10 applies
--   spliced      a slot after an accepted edit
--   by           a call is a clinic's
--
-- Assumes nothing.
use Rattle.std.specs.Prelude.{◌≡◌, ℕ, ◌+◌, ◌*◌, ◌/◌, ◌≤◌, ◌<◌, ◌⊎◌, Bool, true, false, not, ◌||◌}
use Rattle.std.specs.Prelude.{List, leb, length, None}
use Rattle.rules.specs.Basics.{first_of}
use Rattle.rules.specs.Layout.{slot_length}
use Rattle.rules.specs.Records.{Rec, bad_record, record_words}
use Rattle.rules.specs.Listed.{not_listed}
use Rattle.rules.specs.Groups.{group_fault, units}
use Rattle.rules.specs.Adjustment.{compose}
use Rattle.rules.specs.Sheet.{slot_words, clinic_of, measure_of, indent_of, setting_of, records_of, length_ok, slot_at}
use Rattle.rules.specs.Refusals.{EditAnswer, says, splice, edited, slot_rows, entry_answer}
use Rattle.rules.specs.Pool.{own_slots}
use Rattle.sheet.specs.Book.{Call, call_set_up, call_take, call_on, Reply, number_of}
use Rattle.sheet.specs.declared.entry.Clinic.{Clinic}

-- word i is not one of slot k's 2,824
abbrev pub Outside : ℕ → ℕ → Type 0
Outside k i = (i < slot_length * k) ⊎ (slot_length * k + slot_length ≤ i)

-- answer 1 or 2 is due on a sheet of n words
abbrev pub beyond : ℕ → ℕ → Bool
beyond n k = not (length_ok n) || leb (n / slot_length) k

-- sheets of one length, alike in slot k's clinic and, where that is a caller other than 0, in the slot's words; where
-- answer 1 or 2 is due, alike in length alone
pub record Alike (caller k : ℕ) (ws vs : List ℕ) : Type 0 where
  pub same_length : length ws ≡ length vs
  pub same_clinic : beyond (length ws) k ≡ false → clinic_of (slot_at ws k) ≡ clinic_of (slot_at vs k)
  pub same_words : beyond (length ws) k ≡ false → (caller ≡ 0 → ⊥) → caller ≡ clinic_of (slot_at ws k) →
      slot_at ws k ≡ slot_at vs k

-- sheets of one length, alike in a caller's own slots; where answer 1 or 3 is due on a take, alike in length alone
pub record AlikeOwn (caller : ℕ) (ws vs : List ℕ) : Type 0 where
  pub same_length : length ws ≡ length vs
  pub same_own : length_ok (length ws) ≡ true → (caller ≡ 0 → ⊥) → own_slots ws caller ≡ own_slots vs caller

-- for a call: a set-up looks at the sheet's length alone, and "taking depends only on the caller, P and the caller's
-- own slots"
abbrev pub AlikeFor : Call → List ℕ → List ℕ → Type 0
AlikeFor (call_set_up clinics measures indents) ws vs = length ws ≡ length vs
AlikeFor (call_take caller) ws vs = AlikeOwn caller.0 ws vs
AlikeFor (call_on caller k q) ws vs = Alike caller.0 k.0 ws vs

-- what a call with reply a leaves of a sheet ws and of another that was alike for it: an accepted set-up leaves the
-- two sheets the same, a take sheets that are alike for the caller's next, a call on a slot the slot, where the caller
-- is its clinic
abbrev pub LeftAlike : Call → Reply → List ℕ → List ℕ → List ℕ → Type 0
LeftAlike (call_set_up clinics measures indents) a ws left right = number_of a ≡ 0 → left ≡ right
LeftAlike (call_take caller) a ws left right = AlikeOwn caller.0 left right
LeftAlike (call_on caller k q) a ws left right =
    beyond (length ws) k.0 ≡ false → (caller.0 ≡ 0 → ⊥) → caller.0 ≡ clinic_of (slot_at ws k.0) →
    slot_at left k.0 ≡ slot_at right k.0

-- no answer before 12 is due on an edit: the rows 1 to 3, 14 and 4 to 7 do not apply, and each record that would result
-- keeps its own rules
pub record NoneBefore12 (ws : List ℕ) (caller k place deleted : ℕ) (inserted : List ℕ) : Type 0 where
  pub call : (entry_answer ws caller k).number ≡ 0
  pub slot : (first_of (slot_rows (slot_at ws k) place deleted inserted) (says 0 0)).number ≡ 0
  pub records : bad_record 0 (edited (slot_at ws k) place deleted inserted) ≡ None

-- no answer before 10 is due on an edit: the rows 1 to 3, 14 and 4 to 7 do not apply, and each record that would result
-- keeps its own rules, stands in the list of its class and keeps its group's rules
pub record NoEarlier (ws : List ℕ) (caller k place deleted : ℕ) (inserted : List ℕ) : Type 0 where
  pub call : (entry_answer ws caller k).number ≡ 0
  pub slot : (first_of (slot_rows (slot_at ws k) place deleted inserted) (says 0 0)).number ≡ 0
  pub records : bad_record 0 (edited (slot_at ws k) place deleted inserted) ≡ None
  pub listed : not_listed 0 (edited (slot_at ws k) place deleted inserted) ≡ None
  pub groups : group_fault (edited (slot_at ws k) place deleted inserted) ≡ None

-- a slot s becomes t by an accepted edit with answer a: its records are the old ones with exactly the named stretch
-- replaced by the inserted ones, whose words are all that was inserted; and all its words follow from them, clinic,
-- measure, indent and in use as they were
pub record Spliced (s t : List ℕ) (a : EditAnswer) (place deleted : ℕ) (inserted : List ℕ) : Type 0 where
  pub fits : place + deleted ≤ length (records_of s)
  pub new : List Rec
  pub whole : record_words new ≡ inserted
  pub changed : records_of t ≡ splice (records_of s) place deleted new
  pub composed : t ≡ slot_words (setting_of s) (records_of t)
  pub lines : a.place ≡ length (compose (measure_of s) (indent_of s) (units (records_of t)))

-- set-up is nobody's
abbrev pub By : Clinic → Call → Type 0
By d (call_set_up clinics measures indents) = ⊥
By d (call_take caller) = caller.0 ≡ d.0
By d (call_on caller k q) = caller.0 ≡ d.0
