-- Laws of an import by its definition: when it answers 17, that it is its edit where it does not, and what records it
-- leaves. Assumes nothing.
use Rattle.std.proofs.Common.{◌≡◌, refl, sym, ap, subst, ◌∙◌, ℕ, ◌+◌, ◌/◌, arith, List, append-nil, ◌↔◌, Option, None}
use Rattle.std.proofs.Common.{Some, length, drop}
use Rattle.std.proofs.Math.Seq.{drop-length}
use Rattle.rules.specs.Layout.{record_length}
use Rattle.rules.specs.Records.{Rec, records, record_words}
use Rattle.rules.specs.Sheet.{count_of, records_of, slot_at}
use Rattle.rules.specs.Refusals.{EditAnswer, as_edit, Outcome, splice, edit}
use Rattle.std.proofs.lemmas.Option.{none-some}
use Rattle.rules.proofs.RecordWords.{length_records}
use Rattle.rules.proofs.SlotWords.{records_again}
use Rattle.leaflet.specs.Contents.{Piece, Spells, reading}
use Rattle.leaflet.specs.Faults.{Fault}
use Rattle.leaflet.specs.Imported.{imported_records}
use Rattle.leaflet.specs.Reader.{fault_in, words_in}
use Rattle.leaflet.proofs.Claims.{words_spelt, fault_none, fault_some}
use Rattle.sheet.specs.Import.{replace_slot, unless_fault, import}
use Rattle.sheet.specs.Meanings.{Spliced}
use Rattle.sheet.proofs.OnSlot.{on_same}
use Rattle.sheet.proofs.TextFaults.{unless}
use Rattle.sheet.proofs.NumbersNotGiven.{edit_not_17}
use Rattle.sheet.proofs.EditChanges.{accepted_edit, refused_none}

module _ (ws : List ℕ) (caller k size : ℕ) (text : List ℕ) where
  abbrev out : Outcome EditAnswer
  out = import ws caller k size text

  abbrev its : List ℕ → Outcome EditAnswer
  its inserted = edit ws caller k 0 (count_of (slot_at ws k)) inserted

  -- where the text has no fault it is its edit
  by_edit : import ws caller k size text ≡ unless_fault (λ a. a) (fault_in text) ws (its (words_in size text))
  unfolding import edit replace_slot
  by_edit = ap (unless_fault (λ a. a) (fault_in text) ws) (on_same as_edit ws caller k _ _ refl)

  pub exactly_17 : (p : ℕ) → ((out.0.number ≡ 17) × (out.0.place ≡ p)) ↔ Fault text p
  exactly_17 p =
      subst (λ (o : Outcome EditAnswer). ((o.0.number ≡ 17) × (o.0.place ≡ p)) ↔ Fault text p) (sym by_edit)
      (from (fault_in text) refl)
    where
      from : (f : Option ℕ) → fault_in text ≡ f →
          let o = unless_fault (λ a. a) f ws (its (words_in size text)) in
          ((o.0.number ≡ 17) × (o.0.place ≡ p)) ↔ Fault text p
      from None e = (
        λ h. absurd (edit_not_17 ws caller k 0 (count_of (slot_at ws k)) (words_in size text) h.0),
        λ g. absurd (none-some _ (sym e ∙ (fault_some text p).1 g)),
      )
      from (Some j) e = (
        λ h. (fault_some text p).0 (e ∙ ap Some h.1),
        λ g. let f = (fault_some text p).1 g in (refl, cc),
      )

  module _ (ps : List Piece) (s : Spells text ps) where
    abbrev new : List Rec
    new = imported_records size (reading ps)

    pub spelt_edit : out ≡ its (record_words new)
    spelt_edit =
        by_edit
        ∙ ap (λ f. unless_fault (λ a. a) f ws (its (words_in size text)))
        ((fault_none text).1 (record { content = ps; spells = s }))
        ∙ ap its (words_spelt size text ps s)

    -- all records go out, and exactly the content's come in
    spliced_all : {t : List ℕ} {a : EditAnswer} →
        Spliced (slot_at ws k) t a 0 (count_of (slot_at ws k)) (record_words new) → records_of t ≡ new
    unfolding splice
    spliced_all d =
        let old = records_of (slot_at ws k) in
        let n : 0 + count_of (slot_at ws k) ≡ length old
        = omega (arith, length_records (drop 8 (slot_at ws k)) 0 (count_of (slot_at ws k))) in
        let same : d.new ≡ new
        = sym (records_again d.new)
        ∙ ap (λ w. records w 0 (length w / record_length)) d.whole
        ∙ records_again new in
        d.changed ∙ rw (same, n, drop-length, append-nil)

    pub leaves_records : out.0.number ≡ 0 → records_of (slot_at out.1 k) ≡ new
    unfolding edit
    leaves_records =
        subst (λ (o : Outcome EditAnswer). o.0.number ≡ 0 → records_of (slot_at o.1 k) ≡ new) (sym spelt_edit)
        (λ z. spliced_all (accepted_edit ws caller k 0 (count_of (slot_at ws k)) (record_words new) z))

  -- a refused one reports no lines redone
  pub reports_none : (out.0.number ≡ 0 → ⊥) → out.0.redone ≡ 0
  unfolding edit
  reports_none =
      subst (λ (o : Outcome EditAnswer). (o.0.number ≡ 0 → ⊥) → o.0.redone ≡ 0) (sym by_edit)
      (unless (λ a. a) (λ o. (o.0.number ≡ 0 → ⊥) → o.0.redone ≡ 0) (fault_in text) ws _ (λ p z. refl)
      (refused_none ws caller k 0 (count_of (slot_at ws k)) (words_in size text)))
