-- What the functions of set-up ask of its three lists, and write of them. Assumes nothing.
use Rattle.std.specs.Prelude.{◌≡◌, ℕ, List, length}
use Rattle.rules.specs.Refusals.{fresh_slots}

-- lists of clinics, measures and indents, of one length
pub record Matched (clinics measures indents : List ℕ) : Type 0 where
  pub same_measures : length measures ≡ length clinics
  pub same_indents : length indents ≡ length clinics

-- the words of a sheet whose slots are all fresh
abbrev pub all_fresh : List ℕ → List ℕ → List ℕ → List ℕ
all_fresh clinics measures indents = fresh_slots 0 clinics measures indents (length clinics)
