-- The lines of a paragraph, one after the other, as `compose_lines` breaks and composes them. Assumes nothing.
use Rattle.std.proofs.Common.{◌≡◌, ℕ, ◌+◌, ◌*◌, ◌-◌, ◌≤◌, arith, add-one, List, eqb, length}
use Rattle.rules.specs.Layout.{place_length, line_length, places_length as places_size, lines_length as lines_size}
use Rattle.rules.specs.Adjustment.{line_of, compose}
use Rattle.rules.specs.Sheet.{places_of, place_words, line_words}
use Rattle.rules.proofs.WordCounts.{length_line_words, length_places_of, length_xs}
use Rattle.compose.specs.Paragraph.{record_count, units_from}
use Rattle.compose.specs.Lines.{line_at, composed}
use Rattle.compose.specs.LineFrom.{LineFrom}
use Rattle.compose.specs.Places.{words_of, LineComposed, ComposedTo}
use Rattle.compose.specs.declared.breaking.LineSums.{LineSums}
use Rattle.compose.proofs.LinesLeft.{ToBreak, Left, from_start, left_start, left_none, left_more}
use Rattle.compose.proofs.LinesLeft.{lines_end, lines_first}
use Rattle.compose.proofs.Pastes.{Pasting, paste_start, paste_left, paste_length, paste_more}
use Rattle.compose.specs.declared.metrics.Metrics.{Metrics}

-- k lines are composed, up to record i; the next starts at `start`
pub record LinesToCome (ws : List ℕ) (ms : Metrics) (i k m x start : ℕ) (places₀ lines₀ places lines : List ℕ)
    : Type 0 where
  pub left : Left ws ms i m x start
  pub few : k ≤ i
  pub places_written :
      Pasting places₀ 0 (place_words 0 (composed ws m x)) (place_length * i)
      (place_words k (compose m start (units_from ws i))) places
  pub lines_written :
      Pasting lines₀ 0 (line_words 0 (composed ws m x)) (line_length * k)
      (line_words i (compose m start (units_from ws i))) lines

-- a paragraph's metrics, with room for its places and its lines
pub record ToCompose (ws : List ℕ) (ms : Metrics) (m x : ℕ) (places lines : List ℕ) : Type 0 where
  pub line_due : ToBreak ws ms m x
  pub place_room : place_length * record_count ws ≤ length places
  pub line_room : line_length * record_count ws ≤ length lines

pub to_compose : {ws : List ℕ} {ms : Metrics} {m x : ℕ} {places lines : List ℕ} → ToBreak ws ms m x →
    (places_size ≤ length places) × (lines_size ≤ length lines) → ToCompose ws ms m x places lines
to_compose t room =
    record {
      line_due = t;
      place_room = omega (arith, t.few, room);
      line_room = omega (arith, t.few, room);
    }

module _ {ws : List ℕ} {ms : Metrics} {places₀ lines₀ : List ℕ} {m x : ℕ} (p : ToCompose ws ms m x places₀ lines₀) where
  pub lines_start : LinesToCome ws ms 0 0 m x x places₀ lines₀ places₀ lines₀
  lines_start =
      record {
        left = left_start p.line_due;
        few = omega arith;
        places_written = rw from_start paste_start;
        lines_written = rw from_start paste_start;
      }

  module _ {places lines : List ℕ} {k i start : ℕ}
      (q : LinesToCome ws ms i k m x start places₀ lines₀ places lines) where
    pub places_length : length places ≡ length places₀
    places_length = paste_length q.places_written (omega (arith, q.left.within, p.place_room))

    pub lines_length : length lines ≡ length lines₀
    lines_length = paste_length q.lines_written (omega (arith, q.left.within, q.few, p.line_room))

    -- all lines are composed
    pub lines_done : record_count ws ≤ i →
        ComposedTo ws m x places₀ lines₀ places lines k
    unfolding line_words
    lines_done h =
        let e : i ≡ record_count ws = omega (arith, q.left.within) in
        let w = rw (lines_end ws m start i h) at q.lines_written in
        record {
          fits = left_none q.left h;
          count = omega (arith, paste_left w, length_line_words 0 (composed ws m x));
          written = record { places_written = cc q.places_written.is; lines_written = w.is };
        }

    -- l is the next line
    module _ {l : LineSums} (f : LineFrom ws i m start l) where
      pub lines_more : {after words : List ℕ} →
          LineComposed ws i l.end k m start places lines after words →
          LinesToCome ws ms l.end (k + 1) m x 0 places₀ lines₀ after words
      unfolding place_words line_words line_of
      lines_more d =
          let t = f.taken in
          let g = line_at ws i l.end in
          let last = eqb l.end (record_count ws) in
          let v = line_of m start last g in
          record {
            left = left_more q.left t;
            few = omega (arith, q.few, t.some);
            places_written =
                rw (add-one k)
                (paste_more (places_of k v.xs) (place_length * (l.end - i)) (place_length * i)
                (rw (lines_first t) at q.places_written)
                (omega (arith, length_places_of k v.xs, length_xs m start last g, t)) d.places_written);
            lines_written =
                paste_more (words_of i v) line_length (line_length * k)
                (rw (lines_first t, t.ends) at q.lines_written)
                (omega arith)
                d.lines_written;
          }
