-- The items of moves are elements: characters other than "<", and tags. Assumes nothing.
use Rattle.std.proofs.Common.{◌≡◌, sym, ◌∙◌, ℕ, true, not}
use Rattle.std.proofs.Math.Bool.{and-eq-true_iff}
use borrow.Author.Tests.{not-true}
use Rattle.rules.specs.Records.{code_ok}
use Rattle.leaflet.specs.Items.{Item, char, less_than}
use Rattle.leaflet.specs.Contents.{bracket, text_char, plain_char, listed}
use Rattle.leaflet.specs.Faults.{Element}
use Rattle.leaflet.specs.Spots.{Spot}
use Rattle.std.proofs.lemmas.Bool.{true≢false}
use Rattle.leaflet.proofs.SpotMoves.{Move, single_char, open_ruby, first_base, more_base, open_bare, first_bare}
use Rattle.leaflet.proofs.SpotMoves.{more_bare, end_bare, open_first, more_first, end_first, open_fenced}
use Rattle.leaflet.proofs.SpotMoves.{first_fenced, more_fenced, end_fenced, open_last, more_last, end_last}
use Rattle.leaflet.proofs.SpotMoves.{close}

text_element : (c : ℕ) → text_char c ≡ true → Element (char c)
unfolding text_char
text_element c e =
    let p = (and-eq-true_iff (code_ok c) (not (bracket c))).0 e in
    (p.0, λ z. true≢false (sym (not_bracket z) ∙ not-true _ p.1))
  where
    not_bracket : c ≡ less_than → bracket c ≡ true
    not_bracket z = rw z

pub plain_element : (c : ℕ) → plain_char c ≡ true → Element (char c)
unfolding plain_char
plain_element c e = text_element c ((and-eq-true_iff (text_char c) (listed c)).0 e).0

pub move_element : {q p : Spot} {i : Item} → Move q i p → Element i
move_element (single_char h) = plain_element _ h
move_element open_ruby = tt
move_element (first_base h) = plain_element _ h
move_element (more_base h) = plain_element _ h
move_element open_bare = tt
move_element (first_bare h) = text_element _ h
move_element (more_bare h) = text_element _ h
move_element end_bare = tt
move_element open_first = tt
move_element (more_first h) = text_element _ h
move_element end_first = tt
move_element open_fenced = tt
move_element (first_fenced h) = text_element _ h
move_element (more_fenced h) = text_element _ h
move_element end_fenced = tt
move_element open_last = tt
move_element (more_last h) = text_element _ h
move_element end_last = tt
move_element close = tt
