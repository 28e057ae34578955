-- The loop of `break_lines`, as steps: what is left from a record on gives what the whole paragraph gives.
-- Assumes nothing.
use Rattle.std.proofs.Common.{◌≡◌, refl, ap, sym, ◌∙◌, ℕ, suc, ◌+◌, ◌≤◌, arith, add-one, List, [], ◌∷◌, ◌++◌}
use Rattle.std.proofs.Common.{append_assoc, append-nil, length, take, set, length-set, take-suc-set, length-take-le}
use Rattle.rules.specs.Layout.{most_records}
use Rattle.rules.specs.Basics.{Run, whole}
use Rattle.rules.specs.Groups.{TextUnit, counts}
use Rattle.rules.specs.Breaks.{runs, breaking}
use Rattle.compose.specs.Paragraph.{record_count, units_from}
use Rattle.compose.specs.Lines.{firsts, broken}
use Rattle.compose.specs.LineFrom.{LineTaken, BrokenTo}
use Rattle.compose.proofs.UnitsFrom.{runs_end}
use Rattle.compose.proofs.LinesLeft.{ToBreak, Left, from_start, left_start, left_none, left_more}
use Rattle.compose.specs.declared.metrics.Metrics.{Metrics}

length_firsts : (i : ℕ) (ls : List (Run TextUnit)) → length (firsts i ls) ≡ length ls
unfolding firsts
length_firsts i [] = refl
length_firsts i (l ∷ ls) = ap suc (length_firsts (i + counts (whole l)) ls)

-- a line is due: it starts with record i, and the first records of the lines before it are written
pub record Due (ws : List ℕ) (ms : Metrics) (i lines m x start : ℕ) (starts : List ℕ) : Type 0 where
  pub left : Left ws ms i m x start
  pub room : length starts ≡ most_records
  pub fewer : lines ≤ i
  pub all : take lines starts ++ firsts i (breaking m start (runs (units_from ws i))) ≡ firsts 0 (broken ws m x)

module _ {ws : List ℕ} {ms : Metrics} {m x : ℕ} {starts : List ℕ} where
  pub due_start : ToBreak ws ms m x → length starts ≡ most_records → Due ws ms 0 0 m x x starts
  due_start p e = search (left_start, from_start, arith)

  module _ {lines i start : ℕ} (d : Due ws ms i lines m x start starts) where
    pub due_end : record_count ws ≤ i → BrokenTo ws m x starts lines
    unfolding breaking firsts
    due_end h =
        let n : length (take lines starts) ≡ lines = length-take-le lines starts (omega arith) in
        let all = sym (append-nil (take lines starts)) ∙ rw (runs_end ws i h, breaking, firsts) at d.all in
        record {
          fits = left_none d.left h;
          broken = record { count = sym n ∙ ap length all ∙ length_firsts 0 (broken ws m x); first = all };
        }

    pub due_more : {j : ℕ} → LineTaken ws i j m start → Due ws ms j (lines + 1) m x 0 (set starts lines i)
    unfolding firsts
    due_more t =
        record {
          left = left_more d.left t;
          room = length-set starts lines i ∙ d.room;
          fewer = omega arith;
          all =
              rw (add-one, take-suc-set starts lines i (omega arith), append_assoc)
              (rw (t.lines, firsts, t.ends) at d.all);
        }
