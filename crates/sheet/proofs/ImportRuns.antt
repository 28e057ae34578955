-- Laws of each run of an import, from those of the definition. Assumes nothing.
use Rattle.std.proofs.Common.{◌≡◌, refl, sym, ap, subst, ◌∙◌, ℕ, List, inl, inr, ◌↔◌, Bor}
use Rattle.rules.specs.Records.{record_words}
use Rattle.rules.specs.Sheet.{count_of, records_of, slot_at}
use Rattle.rules.specs.Refusals.{EditAnswer, Outcome}
use Rattle.leaflet.specs.Contents.{Piece, Spells, Accepted, reading}
use Rattle.leaflet.specs.Faults.{Fault}
use Rattle.leaflet.specs.Imported.{imported_records}
use Rattle.leaflet.proofs.Claims.{accepted_or_fault, never_both}
use Rattle.sheet.specs.Import.{import}
use Rattle.sheet.proofs.ImportLaws.{exactly_17, spelt_edit, leaves_records, reports_none}
use Rattle.sheet.proofs.Demand3.{EditRun, ImportRun}
use Rattle.sheet.proofs.Runs.{answer, importer, import_slot, size, text, import_answer, import_before, import_after}
use Rattle.sheet.proofs.Runs.{EditOf}

module _ (u : ImportRun) where
  abbrev ws : List ℕ
  ws = u.args.0.now

  by_contract : (P : Outcome EditAnswer → Type 0) → P (import ws (importer u).0 (import_slot u).0 (size u) (text u)) →
      P (import_answer u, u.exit.0.now)
  by_contract P h = subst P (sym u.learnt) h

  pub import_17 : (p : ℕ) → (((import_answer u).number ≡ 17) × ((import_answer u).place ≡ p)) ↔ Fault (text u) p
  import_17 p =
      by_contract (λ o. ((o.0.number ≡ 17) × (o.0.place ≡ p)) ↔ Fault (text u) p)
      (exactly_17 ws (importer u).0 (import_slot u).0 (size u) (text u) p)

  -- any other answer is an accepted text's
  pub import_not_17 : ((import_answer u).number ≡ 17 → ⊥) ↔ Accepted (text u)
  import_not_17 = (
    there,
    λ a z. let p = (import_answer u).place in never_both (text u) p a ((import_17 p).0 (z, refl)),
  )
    where
      there : ((import_answer u).number ≡ 17 → ⊥) → Accepted (text u)
      there h =
          elim (accepted_or_fault (text u)) [ inl a ↦ a | inr f ↦ absurd (h ((import_17 f.0).1 f.1).0) ]

  pub import_none : ((import_answer u).number ≡ 0 → ⊥) → (import_answer u).redone ≡ 0
  import_none =
      by_contract (λ o. (o.0.number ≡ 0 → ⊥) → o.0.redone ≡ 0)
      (reports_none ws (importer u).0 (import_slot u).0 (size u) (text u))

  module _ (ps : List Piece) (s : Spells (text u) ps) where
    pub import_edit : (e : EditRun) → EditOf u ps e →
        (import_answer u ≡ answer e) × (u.exit.0.now ≡ e.exit.0.now)
    import_edit e h =
        let o : ◌≡◌ {A = Outcome EditAnswer} (answer e, e.exit.0.now) (import_answer u, u.exit.0.now)
        = rw (h.same_sheet, h.same_caller, h.same_slot, h.start, h.all, h.words) at e.learnt
        ∙ sym (spelt_edit ws (importer u).0 (import_slot u).0 (size u) (text u) ps s)
        ∙ sym u.learnt in
        (ap (λ (r : Outcome EditAnswer). r.0) (sym o), ap (λ (r : Outcome EditAnswer). r.1) (sym o))

    pub import_leaves : (import_answer u).number ≡ 0 →
        records_of (import_after u) ≡ imported_records (size u) (reading ps)
    import_leaves =
        by_contract
        (λ o. o.0.number ≡ 0 → records_of (slot_at o.1 (import_slot u).0) ≡ imported_records (size u) (reading ps))
        (leaves_records ws (importer u).0 (import_slot u).0 (size u) (text u) ps s)

    -- and there is such an edit
    abbrev its_words : Bor (List ℕ)
    its_words =
        let t = u.args.1.1.1.1.0 in
        record { ref_ptr = t.ref_ptr; now = record_words (imported_records (size u) (reading ps)) }

    abbrev its_edit : EditRun
    its_edit =
        record {
          κs = u.κs;
          args = (u.args.0, (importer u, (import_slot u, (0, (count_of (import_before u), (its_words, tt))))));
          result = record { number = u.result.number; place = u.result.place; redone = u.result.redone };
          exit = (u.exit.0, (importer u, (import_slot u, (0, (count_of (import_before u), (its_words, tt))))));
          learnt = u.learnt ∙ spelt_edit ws (importer u).0 (import_slot u).0 (size u) (text u) ps s;
        }

    pub import_has_edit : (e : EditRun) × EditOf u ps e
    import_has_edit = (
      its_edit,
      record { same_sheet = refl; same_caller = refl; same_slot = refl; start = refl; all = refl; words = refl },
    )
