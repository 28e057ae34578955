-- `sheet::reading::read` meets its contract. Assumes nothing.
use Rattle.std.proofs.Common.{◌≡◌, refl, ap, ℕ, ◌+◌, ◌-◌, ◌≤◌, arith, List, length}
use Rattle.rules.specs.Refusals.{read_start, read_length, read_part}
use Rattle.sheet.proofs.ReadLaws.{read_fits, part_is}
use Rattle.sheet.proofs.reading.read.Goals as goal

-- what was told of the part that is read: where it starts and ends, within the sheet
record Told (ws : List ℕ) (caller k start end : ℕ) : Type 0 where
  pub start_is : start ≡ read_start ws caller k
  pub end_is : end ≡ read_start ws caller k + read_length ws caller k
  pub inside : end ≤ length ws
  pub small : end ≤ 180736

told : {ws : List ℕ} {caller k start end : ℕ} → ◌≡◌ {A = ℕ × ℕ} (start, end) (read_part ws caller k) →
    Told ws caller k start end
told {ws} {caller} {k} e =
    let f = read_fits ws caller k in
    let q = ap (λ (p : ℕ × ℕ). p.1) e in
    record { start_is = ap (λ (p : ℕ × ℕ). p.0) e; end_is = q; inside = rw q f.inside; small = rw q f.small }

pub offset_bounds-sheet-start : goal.offset_bounds-sheet-start
offset_bounds-sheet-start c = let t = told c.read_part-start.ensures.part in omega arith

pub slice_bounds-result-start : goal.slice_bounds-result-start
slice_bounds-result-start c = let t = told c.read_part-start.ensures.part in omega arith

pub slice_bounds-result-end : goal.slice_bounds-result-end
slice_bounds-result-end c = (told c.read_part-start.ensures.part).inside

pub slice_bounds-result-count : goal.slice_bounds-result-count
slice_bounds-result-count c = let t = told c.read_part-start.ensures.part in omega arith

pub returns : goal.returns
returns c =
    let t = told c.read_part-start.ensures.part in
    let r = c.read_part-start.result in
    let part = part_is _ _ _ r.start (r.end - r.start) t.start_is (omega arith) (omega arith) in
    record { words = part.words; count = part.count; place = (refl, omega arith); kept = refl }
