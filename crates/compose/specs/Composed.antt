-- A paragraph judged, and composed.
--
--   refused      a refusal, in any measure
--   kept         what a check leaves of a paragraph that it lets pass: it is checked, and its metrics are filled
--   outcome      what the rules answer of a paragraph in a measure
--   starts       the first record of each line
--
-- Assumes nothing.
use Rattle.std.specs.Prelude.{◌≡◌, ℕ, ◌<◌, List, get_or}
use Rattle.rules.specs.Refusals.{Answer, judged}
use Rattle.rules.specs.Numbers.{refused_with}
use Rattle.rules.specs.Redone.{start}
use Rattle.rules.specs.declared.refusal.Refusal.{Refusal}
use Rattle.rules.specs.declared.measure.Measure.{Measure}
use Rattle.compose.specs.Paragraph.{paragraph, Checked}
use Rattle.compose.specs.Metrics.{MetricsFrom}
use Rattle.compose.specs.Lines.{composed}
use Rattle.compose.specs.declared.metrics.Metrics.{Metrics}

abbrev pub Refused : List ℕ → Refusal → Type 0
Refused ws e = (m x : ℕ) → judged m x (paragraph ws) ≡ refused_with e

pub record Kept (ws : List ℕ) (ms : Metrics) : Type 0 where
  pub checked : Checked ws
  pub metrics : MetricsFrom ws ms 0

abbrev pub outcome : List ℕ → Measure → Answer
outcome ws m = judged m.measure m.indent (paragraph ws)

abbrev pub Starts : List ℕ → Measure → List ℕ → ℕ → Type 0
Starts ws m starts lines = (j : ℕ) → j < lines → get_or starts j 0 ≡ start j (composed ws m.measure m.indent)
