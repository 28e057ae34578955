-- Laws of each run of an edit, from those of the definitions: what it does to its slot, when it answers 0, 12 and 10,
-- and what a read then hands back. Assumes nothing.
use Rattle.std.proofs.Common.{◌≡◌, sym, ap, subst, ◌∙◌, ℕ, ◌/◌, List, ◌↔◌, None, length}
use Rattle.rules.specs.Basics.{Run}
use Rattle.rules.specs.Layout.{record_length}
use Rattle.rules.specs.Records.{Rec, records}
use Rattle.rules.specs.Groups.{TextUnit, units}
use Rattle.rules.specs.Breaks.{runs, no_breaking}
use Rattle.rules.specs.Adjustment.{Line, compose}
use Rattle.rules.specs.Sheet.{line_words, measure_of, indent_of, records_of, slot_at}
use Rattle.rules.specs.Stable.{Used, used_by, used_of, ruled_lines, AsRuled, StableEdit}
use Rattle.rules.specs.Refusals.{EditAnswer, Outcome, splice, edited, edit, read_number, read_words}
use Rattle.rules.specs.Meanings.{All, Choice, Fits, FirstWide, RubyPlaced, FirstLacking, Listed}
use Rattle.rules.proofs.Claims.{no_12_exactly}
use Rattle.rules.proofs.RubyPlaces.{rubies_placed}
use Rattle.sheet.specs.Book.{reads, call_on, read_reply}
use Rattle.sheet.specs.Meanings.{NoneBefore12, NoEarlier, Spliced}
use Rattle.rules.proofs.SlotWords.{records_again}
use Rattle.sheet.proofs.EditChanges.{accepted_edit, accepted_stable, accepted_used, accepted_as_ruled}
use Rattle.sheet.proofs.EditChanges.{refused_none, read_after}
use Rattle.sheet.proofs.EditAnswers.{found_0, exactly_0, exactly_12, place_12, exactly_10, place_10}
use Rattle.sheet.proofs.Demand3.{EditRun, CallRun, call, before, reply}
use Rattle.sheet.proofs.Runs.{caller, slot, place, deleted, inserted, answer, slot_before, slot_after}
use Rattle.sheet.proofs.RunLaws.{read_replied}

module _ (u : EditRun) where
  abbrev us : List TextUnit
  us = units (edited (slot_before u) (place u) (deleted u) (inserted u))

  abbrev m : ℕ
  m = measure_of (slot_before u)

  abbrev x : ℕ
  x = indent_of (slot_before u)

  abbrev ws : List ℕ
  ws = u.args.0.now

  by_contract : (P : Outcome EditAnswer → Type 0) →
      P (edit ws (caller u).0 (slot u).0 (place u) (deleted u) (inserted u)) → P (answer u, u.exit.0.now)
  by_contract P h = subst P (sym u.learnt) h

  pub run_splices : (answer u).number ≡ 0 →
      Spliced (slot_before u) (slot_after u) (answer u) (place u) (deleted u) (inserted u)
  unfolding edit
  run_splices =
      by_contract
      (λ o. o.0.number ≡ 0 →
      Spliced (slot_before u) (slot_at o.1 (slot u).0) o.0 (place u) (deleted u) (inserted u))
      (accepted_edit ws (caller u).0 (slot u).0 (place u) (deleted u) (inserted u))

  pub run_found_0 : (answer u).number ≡ 0 → no_breaking m x us ≡ None
  unfolding edit
  run_found_0 =
      by_contract (λ o. o.0.number ≡ 0 → no_breaking m x us ≡ None)
      (found_0 ws (caller u).0 (slot u).0 (place u) (deleted u) (inserted u))

  abbrev pub Breakable : Type 0
  Breakable = (ls : List (Run TextUnit)) × Choice us ls × Fits m x ls

  abbrev pub NoneDue : Type 0
  NoneDue = NoEarlier ws (caller u).0 (slot u).0 (place u) (deleted u) (inserted u)

  pub run_0 : ((answer u).number ≡ 0) ↔ (NoneDue × Breakable)
  unfolding edit
  run_0 =
      by_contract (λ o. (o.0.number ≡ 0) ↔ (NoneDue × Breakable))
      (exactly_0 ws (caller u).0 (slot u).0 (place u) (deleted u) (inserted u))

  pub run_10 : ((answer u).number ≡ 10) ↔ (NoneDue × (Breakable → ⊥))
  unfolding edit
  run_10 =
      by_contract (λ o. (o.0.number ≡ 10) ↔ (NoneDue × (Breakable → ⊥)))
      (exactly_10 ws (caller u).0 (slot u).0 (place u) (deleted u) (inserted u))

  pub run_10_place : (answer u).number ≡ 10 → FirstWide m x (runs us) (answer u).place
  unfolding edit
  run_10_place =
      by_contract (λ o. o.0.number ≡ 10 → FirstWide m x (runs us) o.0.place)
      (place_10 ws (caller u).0 (slot u).0 (place u) (deleted u) (inserted u))

  -- answer 12
  abbrev pub records_new : List Rec
  records_new = edited (slot_before u) (place u) (deleted u) (inserted u)

  abbrev pub Reached12 : Type 0
  Reached12 = NoneBefore12 ws (caller u).0 (slot u).0 (place u) (deleted u) (inserted u)

  pub run_12 : ((answer u).number ≡ 12) ↔ (Reached12 × (All Listed records_new → ⊥))
  unfolding edit
  run_12 =
      by_contract (λ o. (o.0.number ≡ 12) ↔ (Reached12 × (All Listed records_new → ⊥)))
      (exactly_12 ws (caller u).0 (slot u).0 (place u) (deleted u) (inserted u))

  pub run_12_place : (answer u).number ≡ 12 → FirstLacking Listed records_new (answer u).place
  unfolding edit
  run_12_place =
      by_contract (λ o. o.0.number ≡ 12 → FirstLacking Listed records_new o.0.place)
      (place_12 ws (caller u).0 (slot u).0 (place u) (deleted u) (inserted u))

  -- the slot's lines by the rules, before and after
  abbrev pub old : List Line
  old = ruled_lines (slot_before u)

  abbrev pub new : List Line
  new = compose m x us

  abbrev pub StableIn : Used → Used → Type 0
  StableIn w v = StableEdit (place u) (deleted u) (length (inserted u) / record_length) old new w v (answer u).redone

  -- what the edit composes anew, and what stays
  pub run_stable : (answer u).number ≡ 0 → StableIn (used_by old) (used_by new)
  unfolding edit
  run_stable =
      by_contract
      (λ o. o.0.number ≡ 0 →
      StableEdit (place u) (deleted u) (length (inserted u) / record_length) old new (used_by old) (used_by new)
      o.0.redone)
      (accepted_stable ws (caller u).0 (slot u).0 (place u) (deleted u) (inserted u))

  run_used : (answer u).number ≡ 0 → used_of (slot_after u) ≡ used_by new
  unfolding edit
  run_used =
      by_contract (λ o. o.0.number ≡ 0 → used_of (slot_at o.1 (slot u).0) ≡ used_by new)
      (accepted_used ws (caller u).0 (slot u).0 (place u) (deleted u) (inserted u))

  pub run_as_ruled : (answer u).number ≡ 0 → AsRuled (slot_after u)
  unfolding edit
  run_as_ruled =
      by_contract (λ o. o.0.number ≡ 0 → AsRuled (slot_at o.1 (slot u).0))
      (accepted_as_ruled ws (caller u).0 (slot u).0 (place u) (deleted u) (inserted u))

  pub run_words_stable : (answer u).number ≡ 0 → AsRuled (slot_before u) →
      StableIn (used_of (slot_before u)) (used_of (slot_after u))
  run_words_stable z e = subst (λ w. StableIn w (used_of (slot_after u))) (sym e)
      (subst (λ v. StableIn (used_by old) v) (sym (run_used z)) (run_stable z))

  pub run_none : ((answer u).number ≡ 0 → ⊥) → (answer u).redone ≡ 0
  unfolding edit
  run_none =
      by_contract (λ o. (o.0.number ≡ 0 → ⊥) → o.0.redone ≡ 0)
      (refused_none ws (caller u).0 (slot u).0 (place u) (deleted u) (inserted u))

  -- the records of the slot that it leaves
  records_left : (answer u).number ≡ 0 → records_new ≡ records_of (slot_after u)
  records_left z =
      let s = run_splices z in
      let same : records (inserted u) 0 (length (inserted u) / record_length) ≡ s.new
      = ap (λ w. records w 0 (length w / record_length)) (sym s.whole) ∙ records_again s.new in
      ap (splice (records_of (slot_before u)) (place u) (deleted u)) same ∙ sym s.changed

  -- its groups are within ruby place's limits
  pub run_rubies : (answer u).number ≡ 0 → All RubyPlaced (units (records_of (slot_after u)))
  run_rubies z =
      let due = (run_0.0 z).0 in rw (← records_left z) (rubies_placed _ due.records due.groups)

  -- and each stands in the list of its class
  pub run_listed : (answer u).number ≡ 0 → All Listed (records_of (slot_after u))
  run_listed z = rw (← records_left z) ((no_12_exactly _).0 (run_0.0 z).0.listed)

  -- a read by the same caller on the sheet that it left
  pub run_read : (answer u).number ≡ 0 → (r : CallRun) → call r ≡ call_on (caller u) (slot u) reads →
      before r ≡ u.exit.0.now → reply r ≡ read_reply 0 (line_words 0 (compose m x us))
  unfolding edit
  run_read z r e f =
      let h = by_contract
      (λ o. o.0.number ≡ 0 →
      (read_number o.1 (caller u).0 (slot u).0 ≡ 0)
      × (read_words o.1 (caller u).0 (slot u).0 ≡ line_words 0 (compose m x us)))
      (read_after ws (caller u).0 (slot u).0 (place u) (deleted u) (inserted u)) z in
      read_replied r (caller u) (slot u) e ∙ rw (f, h.0, h.1)
