-- `slot::stretch::Stretch::of` meets its contract: row 5 comes of either test. Assumes nothing.
use Rattle.slot.proofs.EditRows.{refuses_5, refuses_5_end}
use Rattle.slot.proofs.stretch.Stretch.of.Goals as goal
use Rattle.slot.proofs.stretch.Stretch.of.Goals.{then-count-place-via-then-count-place}
use Rattle.slot.proofs.stretch.Stretch.of.Goals.{then-count-place-via-else-count-place+then-count-place-2}

pub returns-then-count-place-clause-refused : goal.returns-then-count-place-clause-refused
returns-then-count-place-clause-refused c =
    elim c.then-count-place.branch [
      | then-count-place-via-then-count-place w ↦
          refuses_5 _ _ _ _ c.requires.sound_is w.if-count-place.true
      | then-count-place-via-else-count-place+then-count-place-2 w ↦
          refuses_5_end _ _ _ _ c.requires.sound_is w.if-count-place.false w.if-count-place-2.true
    ]
