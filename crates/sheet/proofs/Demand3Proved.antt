-- Demand 3 proved of each sequence of runs, from the first accepted set-up on. Assumes nothing.
use Rattle.std.proofs.Common.{◌≡◌, refl, sym, ap, subst, ◌∙◌, ℕ, ◌/◌, ◌<◌, arith, List, [], ◌∷◌, ◌++◌, map, length}
use Rattle.std.proofs.Common.{ne_eqb}
use mathlib.Core.List.{map-append}
use Rattle.rules.specs.Layout.{slot_length}
use Rattle.rules.specs.Sheet.{records_of, slot_count, slot_at}
use Rattle.rules.specs.Refusals.{Answer, says, Outcome, set_up_answer, set_up}
use Rattle.rules.specs.Stable.{AsRuled}
use Rattle.rules.specs.Meanings.{All, Listed}
use Rattle.rules.proofs.Claims.{accepted_listed}
use Rattle.rules.proofs.SlotWords.{slot_records, slot_as_ruled}
use Rattle.sheet.specs.Book.{Reply, answer_reply, number_of, BookSlot, book_at, run_book, anew, next, history_from}
use Rattle.sheet.specs.Book.{Follows}
use Rattle.sheet.specs.OnSheet.{step, encode_slot, in_words}
use Rattle.sheet.proofs.Tables.{same_number}
use Rattle.sheet.proofs.BookWords.{Sound, WellFormed, all_at, slot_of}
use Rattle.sheet.proofs.BookSequences.{begins_book, refused_book, remains, whole_sequence, restarts, never_4}
use Rattle.sheet.proofs.BookHistories.{set_up_follows, sequence_follows}
use Rattle.sheet.proofs.AnyCall.{refused_unchanged, step_length}
use Rattle.sheet.proofs.Demand3.{SetUpRun, CallRun, set_up_run, call, before, after, reply, Chained, final}
use Rattle.sheet.proofs.Demand3.{take_run, give_back_run, edit_run, import_run, read_run, read_part_run}
use Rattle.sheet.proofs.Demand3.{booked, BySingleEdit, Begun, accepted_first, refused_first, AsBooked}
use Rattle.sheet.proofs.Runs.{clinics, measures, indents}
use Rattle.sheet.proofs.RunSteps.{told, runs_are}
use Rattle.sheet.proofs.SingleEdits.{by_single_edit}

-- no run changes the sheet's length
final_length : (rs : List CallRun) (ws : List ℕ) → Chained ws rs → length (final ws rs) ≡ length ws
final_length [] ws h = refl
final_length (r ∷ rs) ws h =
    final_length rs (after r) h.1
    ∙ ap (λ (o : Outcome Reply). length o.1) (told r)
    ∙ step_length (call r) (before r)
    ∙ ap length h.0

-- a run after some others gets the sheet as they left it
length_before : (qs : List CallRun) (r : CallRun) (ts : List CallRun) (ws : List ℕ) → Chained ws (qs ++ r ∷ ts) →
    length (before r) ≡ length ws
length_before [] r ts ws h = ap length h.0
length_before (q ∷ qs) r ts ws h =
    length_before qs r ts (after q) h.1 ∙ final_length (q ∷ []) ws (h.0, tt)

-- what a run of set-up answered, by its lists
module _ (u : SetUpRun) where
  abbrev said : Answer
  said = says u.result.number u.result.place

  set_up_said : (n : ℕ) → length (before (set_up_run u)) ≡ n →
      said ≡ set_up_answer n (clinics u) (measures u) (indents u)
  unfolding set_up
  set_up_said n e = rw (← e) (ap (λ (o : Outcome Answer). o.0) u.learnt)

-- what all of `AsBooked` follows from: the replies and the words are a well-formed book's
record Kept (ws : List ℕ) (rs : List CallRun) : Type 0 where
  pub well : WellFormed (length ws) (booked (length ws) rs).1
  pub same : ◌≡◌ {A = List Reply × List ℕ} (map reply rs, final ws rs) (in_words (booked (length ws) rs))

-- from an accepted set-up on
kept_accepted : (ws : List ℕ) (u : SetUpRun) (rs : List CallRun) → u.result.number ≡ 0 →
    Chained ws (set_up_run u ∷ rs) → Kept ws (set_up_run u ∷ rs)
kept_accepted ws u rs z h =
    let n = length ws in
    let ok = sym (same_number (set_up_said u n (ap length h.0))) ∙ z in
    record {
      well = remains n (map call rs) _ (begins_book n (clinics u) (measures u) (indents u) ok []);
      same = runs_are (set_up_run u ∷ rs) ws h
          ∙ whole_sequence n (clinics u) (measures u) (indents u) ok ws [] refl (map call rs);
    }

-- a refused set-up changes neither sheet nor book
kept_refused : (ws : List ℕ) (u : SetUpRun) (rs : List CallRun) → (u.result.number ≡ 0 → ⊥) →
    Chained ws (set_up_run u ∷ rs) → (Chained ws rs → Kept ws rs) → Kept ws (set_up_run u ∷ rs)
kept_refused ws u rs z h rest =
    let n = length ws in
    let r = set_up_run u in
    let a = set_up_said u n (ap length h.0) in
    let no : (set_up_answer n (clinics u) (measures u) (indents u)).number ≡ 0 → ⊥ = λ e. z (same_number a ∙ e) in
    let t : ◌≡◌ {A = Outcome Reply} (reply r, after r) (step (call r) ws) = rw h.0 at (told r) in
    let unchanged : after r ≡ ws
    = ap (λ (o : Outcome Reply). o.1) t
    ∙ refused_unchanged (call r) ws (λ e. z (ap (λ (o : Outcome Reply). number_of o.0) t ∙ e)) in
    let k = rest (subst (λ vs. Chained vs rs) unchanged h.1) in
    let book : booked n (r ∷ rs) ≡ (reply r ∷ (booked n rs).0, (booked n rs).1)
    = ap
    (λ (o : Reply × List BookSlot). let l = run_book n (map call rs) o.1 in (o.0 ∷ l.0, l.1))
    (refused_book n (clinics u) (measures u) (indents u) [] no ∙ ap (λ (o : Answer). (answer_reply o, [])) (sym a)) in
    record {
      well = rw book k.well;
      same = ap (λ vs. (reply r ∷ map reply rs, final vs rs)) unchanged
          ∙ ap (λ (o : List Reply × List ℕ). (reply r ∷ o.0, o.1)) k.same
          ∙ ap (λ (o : List Reply × List BookSlot). in_words o) (sym book);
    }

kept : (ws : List ℕ) (rs : List CallRun) → Begun rs → Chained ws rs → Kept ws rs
kept ws [] b h = elim b [ ]
kept ws (take_run _ ∷ rs) b h = elim b [ ]
kept ws (give_back_run _ ∷ rs) b h = elim b [ ]
kept ws (edit_run _ ∷ rs) b h = elim b [ ]
kept ws (import_run _ ∷ rs) b h = elim b [ ]
kept ws (read_run _ ∷ rs) b h = elim b [ ]
kept ws (read_part_run _ ∷ rs) b h = elim b [ ]
kept ws (set_up_run u ∷ rs) (accepted_first z) h = kept_accepted ws u rs z h
kept ws (set_up_run u ∷ rs) (refused_first z b) h = kept_refused ws u rs z h (kept ws rs b)

-- the book follows the histories that its own replies tell, on a sheet of n words
book_follows : (n : ℕ) (ws : List ℕ) (rs : List CallRun) → Begun rs → Chained ws rs → length ws ≡ n → (k : ℕ) →
    k < n / slot_length → Follows (book_at (booked n rs).1 k) (history_from k (anew 0) (map call rs) (booked n rs).0)
book_follows n ws [] b h e k within = elim b [ ]
book_follows n ws (take_run _ ∷ rs) b h e k within = elim b [ ]
book_follows n ws (give_back_run _ ∷ rs) b h e k within = elim b [ ]
book_follows n ws (edit_run _ ∷ rs) b h e k within = elim b [ ]
book_follows n ws (import_run _ ∷ rs) b h e k within = elim b [ ]
book_follows n ws (read_run _ ∷ rs) b h e k within = elim b [ ]
book_follows n ws (read_part_run _ ∷ rs) b h e k within = elim b [ ]
book_follows n ws (set_up_run u ∷ rs) (accepted_first z) h e k within =
    let ok = sym (same_number (set_up_said u n (ap length h.0 ∙ e))) ∙ z in
    let w = begins_book n (clinics u) (measures u) (indents u) ok [] in
    sequence_follows n (map call rs) _ w k (omega (arith, w.exact)) _
    (set_up_follows n (clinics u) (measures u) (indents u) [] k (anew 0) (record { records = refl; in_use = refl }))
book_follows n ws (set_up_run u ∷ rs) (refused_first z b) h e k within =
    let a = set_up_said u n (ap length h.0 ∙ e) in
    let no : (set_up_answer n (clinics u) (measures u) (indents u)).number ≡ 0 → ⊥ = λ y. z (same_number a ∙ y) in
    subst
    (λ (o : Reply × List BookSlot).
    let l = run_book n (map call rs) o.1 in
    Follows (book_at l.1 k) (history_from k (next k (call (set_up_run u)) o.0 (anew 0)) (map call rs) l.0))
    (sym (refused_book n (clinics u) (measures u) (indents u) [] no))
    (rw (ne_eqb _ _ no)
    (book_follows n (after (set_up_run u)) rs b h.1 (final_length (set_up_run u ∷ []) ws (h.0, tt) ∙ e) k within))

module _ (ws : List ℕ) (rs : List CallRun) (b : Begun rs) (h : Chained ws rs) where
  abbrev n : ℕ
  n = length ws

  abbrev book : List BookSlot
  book = (booked n rs).1

  slot_encoded : (k : ℕ) → k < slot_count ws →
      Sound (book_at book k) × (slot_at (final ws rs) k ≡ encode_slot (book_at book k))
  slot_encoded k within =
      let g = kept ws rs b h in
      let here : k < length book = omega (arith, g.well.exact) in (
        all_at g.well.sound k _ here,
        ap (λ (o : List Reply × List ℕ). slot_at o.1 k) g.same ∙ slot_of book g.well.sound k here,
      )

  slot_is : (k : ℕ) → k < slot_count ws → BySingleEdit (book_at book k) (slot_at (final ws rs) k)
  slot_is k within = let e = slot_encoded k within in rw e.1 (by_single_edit (book_at book k) e.0)

  -- each slot holds what the rules give its records
  pub slots_as_ruled : (k : ℕ) → k < slot_count ws → AsRuled (slot_at (final ws rs) k)
  slots_as_ruled k within =
      let e = slot_encoded k within in
      let s = book_at book k in
      subst AsRuled (sym e.1) (slot_as_ruled s.setting s.records e.0.few)

  -- each of which stands in the list of its class
  pub slots_listed : (k : ℕ) → k < slot_count ws → All Listed (records_of (slot_at (final ws rs) k))
  slots_listed k within =
      let e = slot_encoded k within in
      let s = book_at book k in
      rw (e.1, slot_records s.setting s.records) (accepted_listed _ _ s.records e.0.right)

  starts_anew : (qs : List CallRun) (v : SetUpRun) (ts : List CallRun) → rs ≡ qs ++ set_up_run v ∷ ts →
      v.result.number ≡ 0 →
      let o = booked n (set_up_run v ∷ ts) in
      booked n rs ≡ ((booked n qs).0 ++ o.0, o.1)
  starts_anew qs v ts e y =
      let a = set_up_said v n (length_before qs (set_up_run v) ts ws (subst (Chained ws) e h)) in
      ap (λ calls. run_book n calls []) (ap (map call) e ∙ map-append call qs (set_up_run v ∷ ts))
      ∙ restarts n (map call qs) (clinics v) (measures v) (indents v) (map call ts) [] (sym (same_number a) ∙ y)

  pub as_booked : AsBooked ws rs
  as_booked =
      let answers : map reply rs ≡ (booked n rs).0 = ap (λ (o : List Reply × List ℕ). o.0) (kept ws rs b h).same in
      record {
        answers = answers;
        whole = final_length rs ws h;
        slots = slot_is;
        histories = λ k within. rw answers (book_follows n ws rs b h refl k within);
        anew = starts_anew;
        never = rw answers (never_4 n (map call rs) []);
      }
