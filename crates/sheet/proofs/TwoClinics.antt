-- Calls of two clinics: what one of them leaves is the same to the other, and the order in which they come tells in
-- nothing. Assumes nothing.
use Rattle.std.proofs.Common.{◌≡◌, sym, ap, subst, ◌∙◌, ℕ, ◌+◌, ◌*◌, ◌/◌, ◌%◌, ◌<◌, arith, List, ◌↔◌, inl, inr, eqb}
use Rattle.std.proofs.Common.{length, get_or, ext_get_or, eqb-true}
use borrow.Author.Tests.{eqb-false}
use Rattle.rules.specs.Layout.{slot_length}
use Rattle.rules.specs.Sheet.{clinic_of, in_use_of, slot_count, slot_at}
use Rattle.rules.specs.Refusals.{Answer}
use Rattle.rules.specs.Pool.{own_among, own_slots}
use Rattle.std.proofs.lemmas.Bool.{cases_Bool}
use Rattle.sheet.specs.Book.{Call, call_set_up, call_take, call_on}
use Rattle.sheet.specs.OnSheet.{step}
use Rattle.sheet.specs.Meanings.{AlikeFor, By}
use Rattle.sheet.specs.declared.entry.Clinic.{Clinic}
use Rattle.sheet.proofs.Tables.{same_number}
use Rattle.sheet.proofs.EntryLaws.{word_at}
use Rattle.rules.proofs.OwnSlots.{own_same}
use Rattle.sheet.proofs.TakeLaws.{settings}
use Rattle.sheet.proofs.TwoSheets.{same_entry}
use Rattle.sheet.proofs.TakenSlots.{take_alike}
use Rattle.sheet.proofs.AnyCall.{step_length, same_reply}
use Rattle.sheet.proofs.SlotAfterCall.{Reaches, makes, After, changed, stayed, after_call, clinic_kept}
use Rattle.sheet.proofs.SlotAfterCall.{slot_kept}

-- sheets of one length with the same slots are the same
same_sheets : (ws vs : List ℕ) → length ws ≡ length vs → ((k : ℕ) → slot_at ws k ≡ slot_at vs k) → ws ≡ vs
same_sheets ws vs e f =
    ext_get_or 0 ws vs e
    (λ i h.
    let k = i / slot_length in
    let j = i % slot_length in
    let here : i ≡ slot_length * k + j = omega arith in
    let small : j < slot_length = omega arith in
    ap (λ n. get_or ws n 0) here
    ∙ sym (word_at ws k j small)
    ∙ ap (λ s. get_or s j 0) (f k)
    ∙ word_at vs k j small
    ∙ ap (λ n. get_or vs n 0) (sym here))

-- Two sheets for one clinic -----------------------------------------------------------------------------------------

module _ (d : Clinic) where
  -- sheets of the same clinics, with the same words in this one's slots
  record SameOwn (ws vs : List ℕ) : Type 0 where
    pub same_length : length ws ≡ length vs
    pub clinics : (k : ℕ) → clinic_of (slot_at ws k) ≡ clinic_of (slot_at vs k)
    pub own : (k : ℕ) → d.0 ≡ clinic_of (slot_at ws k) → slot_at vs k ≡ slot_at ws k

  module _ (ws vs : List ℕ) (h : SameOwn ws vs) where
    -- are alike for its calls
    alike : (c : Call) → By d c → AlikeFor c ws vs
    unfolding own_slots
    alike (call_set_up clinics measures indents) b = absurd b
    alike (call_take caller) b =
        record {
          same_length = h.same_length;
          same_own = λ e known.
              own_same (settings vs) (settings ws) caller.0 h.clinics
              (λ k f. sym (ap in_use_of (h.own k (sym b ∙ f ∙ sym (h.clinics k))))) 0 (slot_count ws)
              ∙ ap (λ n. own_among (settings vs) caller.0 0 (n / slot_length)) h.same_length;
        }
    alike (call_on caller j q) b =
        record {
          same_length = h.same_length;
          same_clinic = λ e. h.clinics j.0;
          same_words = λ e known f. sym (h.own j.0 (sym b ∙ f));
        }

    -- and its calls get to the same slots
    reaches : (c : Call) → By d c → (k : ℕ) → Reaches c vs k ↔ Reaches c ws k
    reaches (call_set_up clinics measures indents) b k = absurd b
    reaches (call_take caller) b k =
        let a = take_alike ws vs caller.0 (alike (call_take caller) b) in
        let place = ap (λ (o : Answer). o.place) a in
        (λ r. (same_number a ∙ r.0, r.1 ∙ sym place), λ r. (sym (same_number a) ∙ r.0, r.1 ∙ place))
    reaches (call_on caller j q) b k =
        let a = same_number (same_entry ws vs caller.0 j.0 (alike (call_on caller j q) b)) in
        (λ r. (r.0, a ∙ r.1, r.2), λ r. (r.0, sym a ∙ r.1, r.2))

    -- so its slots stay the same
    own_left : (c : Call) → By d c → (k : ℕ) → d.0 ≡ clinic_of (slot_at ws k) →
        slot_at (step c vs).1 k ≡ slot_at (step c ws).1 k
    own_left c b k own = from (h.own k own) (after_call d c b ws k) (after_call d c b vs k)
      where
        from : {s t u v : List ℕ} → u ≡ s → After d.0 c ws k s t → After d.0 c vs k u v → v ≡ t
        from e (changed r o f) (changed p n g) = g ∙ ap (makes c) e ∙ sym f
        from e (changed r o f) (stayed p g) = absurd (p ((reaches c b k).1 r))
        from e (stayed r f) (changed p n g) = absurd (r ((reaches c b k).0 p))
        from e (stayed r f) (stayed p g) = g ∙ e ∙ sym f

-- Two clinics' calls ------------------------------------------------------------------------------------------------

-- a sheet us that a call of clinic d leaves of ws: no slot changes hands, and those of others stay
record Left (d : ℕ) (ws us : List ℕ) : Type 0 where
  pub same_length : length us ≡ length ws
  pub clinics : (k : ℕ) → clinic_of (slot_at us k) ≡ clinic_of (slot_at ws k)
  pub others : (k : ℕ) → (d ≡ clinic_of (slot_at ws k) → ⊥) → slot_at us k ≡ slot_at ws k

left_by : (d : Clinic) (c : Call) → By d c → (ws : List ℕ) → Left d.0 ws (step c ws).1
left_by d c b ws =
    record { same_length = step_length c ws; clinics = clinic_kept d c b ws; others = slot_kept d c b ws }

-- it is the same to another clinic
left_own : (d : ℕ) (e : Clinic) → (d ≡ e.0 → ⊥) → (ws us : List ℕ) → Left d ws us → SameOwn e ws us
left_own d e other ws us l =
    record {
      same_length = sym l.same_length;
      clinics = λ k. sym (l.clinics k);
      own = λ k own. l.others k (λ f. other (f ∙ sym own));
    }

-- of d's call us is left, then of e's vs; of e's call ts is left, then of d's ss: where each leaves its own slots as
-- it does on ws, the slots come out the same
module _ (d e : ℕ) (other : d ≡ e → ⊥) (ws us vs ts ss : List ℕ) (first : Left d ws us) (second : Left e us vs)
    (other_first : Left e ws ts) (other_second : Left d ts ss)
    (own_d : (k : ℕ) → d ≡ clinic_of (slot_at ws k) → slot_at ss k ≡ slot_at us k)
    (own_e : (k : ℕ) → e ≡ clinic_of (slot_at ws k) → slot_at vs k ≡ slot_at ts k) where
  same_slots : (k : ℕ) → slot_at vs k ≡ slot_at ss k
  same_slots k =
      let c = clinic_of (slot_at ws k) in
      let e_left : (e ≡ c → ⊥) → slot_at vs k ≡ slot_at us k
      = λ f. second.others k (λ g. f (g ∙ first.clinics k)) in
      let d_left : (d ≡ c → ⊥) → slot_at ss k ≡ slot_at ts k
      = λ f. other_second.others k (λ g. f (g ∙ other_first.clinics k)) in
      elim (cases_Bool (eqb d c)) [
        | inl t ↦ let own = eqb-true d c t in e_left (λ f. other (own ∙ sym f)) ∙ sym (own_d k own)
        | inr t ↦
            let not_d = eqb-false d c t in
            elim (cases_Bool (eqb e c)) [
              | inl r ↦ own_e k (eqb-true e c r) ∙ sym (d_left not_d)
              | inr r ↦
                  let not_e = eqb-false e c r in
                  e_left not_e ∙ first.others k not_d ∙ sym (other_first.others k not_e) ∙ sym (d_left not_d)
            ]
      ]

module _ (d e : Clinic) (other : d.0 ≡ e.0 → ⊥) (p q : Call) (b : By d p) (a : By e q) where
  -- a call of d's changes no answer of e's
  answer_same : (ws us : List ℕ) → Left d.0 ws us → (step q us).0 ≡ (step q ws).0
  answer_same ws us l = sym (same_reply q ws us (alike e ws us (left_own d.0 e other ws us l) q a))

  pub answer_kept : (ws us : List ℕ) → us ≡ (step p ws).1 → (step q us).0 ≡ (step q ws).0
  answer_kept ws us f = answer_same ws us (subst (Left d.0 ws) (sym f) (left_by d p b ws))

  sheets_same : (ws us ts : List ℕ) → Left d.0 ws us → Left e.0 ws ts → us ≡ (step p ws).1 → ts ≡ (step q ws).1 →
      (step q us).1 ≡ (step p ts).1
  sheets_same ws us ts l m f g =
      let own_d : (k : ℕ) → d.0 ≡ clinic_of (slot_at ws k) → slot_at (step p ts).1 k ≡ slot_at us k
      = λ k own.
      own_left d ws ts (left_own e.0 d (λ z. other (sym z)) ws ts m) p b k own ∙ ap (λ s. slot_at s k) (sym f) in
      let own_e : (k : ℕ) → e.0 ≡ clinic_of (slot_at ws k) → slot_at (step q us).1 k ≡ slot_at ts k
      = λ k own. own_left e ws us (left_own d.0 e other ws us l) q a k own ∙ ap (λ s. slot_at s k) (sym g) in
      same_sheets (step q us).1 (step p ts).1
      (step_length q us ∙ l.same_length ∙ sym (step_length p ts ∙ m.same_length))
      (same_slots d.0 e.0 other ws us (step q us).1 ts (step p ts).1 l (left_by e q a us) m (left_by d p b ts)
      own_d own_e)

  -- in either order they leave the same sheet
  pub same_in_either_order : (ws us ts : List ℕ) → us ≡ (step p ws).1 → ts ≡ (step q ws).1 →
      (step q us).1 ≡ (step p ts).1
  same_in_either_order ws us ts f g =
      sheets_same ws us ts (subst (Left d.0 ws) (sym f) (left_by d p b ws))
      (subst (Left e.0 ws) (sym g) (left_by e q a ws)) f g
