-- A line composed from its sums, adjustment and places, as `compose_line` does it. Assumes nothing.
use Rattle.std.proofs.Common.{◌≡◌, refl, ap, ◌∙◌, ℕ, ◌+◌, ◌*◌, ◌-◌, arith, Bool, List, [], ◌∷◌, eqb}
use Rattle.std.proofs.Math.Seq.{paste}
use Rattle.rules.specs.Layout.{place_length, line_length}
use Rattle.rules.specs.Gaps.{Gap}
use Rattle.rules.specs.Adjustment.{Amounts, natural, gaps_of, amounts_of, ending, kind_of, line_of}
use Rattle.rules.specs.Gaps.{no_gaps}
use Rattle.rules.specs.Structs.{gap_from}
use Rattle.rules.proofs.LineEnds.{taken, at_most}
use Rattle.compose.specs.Paragraph.{record_count}
use Rattle.compose.specs.Lines.{line_at}
use Rattle.compose.specs.Rates.{amounts_from, RateBounds, place_by}
use Rattle.compose.specs.Adjusted.{due, Adjustable, Adjusted}
use Rattle.compose.specs.Places.{line_places, LineToCompose, LineComposed}
use Rattle.compose.specs.declared.adjustment.Adjustment.{Adjustment}
use Rattle.compose.specs.declared.breaking.LineSums.{LineSums}
use Rattle.compose.specs.declared.metrics.Metrics.{Metrics}
use Rattle.compose.proofs.PlaceAt.{place_end}

-- a line's gaps, and its amounts by them and by the end of its units where they stand solid
module _ {ws : List ℕ} {ms : Metrics} {places lines : List ℕ} {i : ℕ} {l : LineSums} {k m x : ℕ}
    (p : LineToCompose ws ms i k m x l places lines) (last : Bool) {c : Gap} (u : c ≡ l.gaps) where
  gaps_are : c ≡ gaps_of (line_at ws i l.end)
  gaps_are = u ∙ p.sums.gaps_are

  module _ {e : Amounts} (d : e ≡ due m (l.solid + c.space) c last) where
    amounts_are : e ≡ amounts_of m x last (line_at ws i l.end)
    unfolding amounts_of
    amounts_are = cc (gaps_are, p.sums.solid_is)

    pub line_bounds : RateBounds e c
    line_bounds =
        let n = line_at ws i l.end in
        rw (amounts_are, gaps_are)
        (omega (
          arith,
          taken m x last n p.taken.fits,
          at_most last (m - natural x n),
          p.measure,
          rw p.sums.gaps_are at p.sums.gaps_limit,
          rw p.sums.gaps_are at p.sums.packs,
        ))

  pub adjustable : Adjustable m l.solid c last
  adjustable =
      record {
        fits = omega (arith, ap (λ g. g.space) u, p.sums.gaps_limit, p.sums.solid_limit);
        bounds = line_bounds refl;
      }

  -- its adjustment
  module _ {a : Adjustment} (f : Adjusted m l.solid c last a) where
    abbrev e : Amounts
    e = amounts_from a.amounts

    abbrev cs : Gap
    cs = gap_from a.capacities

    -- the line's end x is the place after all of its units and gaps
    end_is : place_by e cs l.solid l.gaps ≡ ending e cs no_gaps x (line_at ws i l.end).first (line_at ws i l.end).rest
    end_is =
        let g = rw p.sums.gaps_are at p.sums.packs.gives in
        rw (p.sums.solid_is, p.sums.gaps_are) (place_end a.bounds x _ _ g)

    pub line_composed : {after words : List ℕ} {end kind : ℕ} → last ≡ eqb l.end (record_count ws) →
        after ≡ paste places (place_length * i) (line_places ws i l.end k x a) (place_length * (l.end - i)) →
        end ≡ place_by e cs l.solid l.gaps → kind ≡ kind_of last e cs →
        words ≡ paste lines (line_length * k) (i ∷ end ∷ kind ∷ []) line_length →
        LineComposed ws i l.end k m x places lines after words
    unfolding line_of
    line_composed z q f₁ h w =
        let g : cs ≡ gaps_of (line_at ws i l.end) = f.capacities_are ∙ gaps_are in
        record {
          places_written = cc (amounts_are f.amounts_are, g);
          lines_written = cc (amounts_are f.amounts_are, g, end_is);
        }
