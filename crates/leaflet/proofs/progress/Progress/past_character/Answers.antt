-- `leaflet::progress::Progress::past_character` meets its contract. Assumes nothing.
use Rattle.std.proofs.Common.{rules, arith, refl, ◌≡◌, None, Err}
use Rattle.leaflet.specs.Spots.{char_step}
use Rattle.leaflet.specs.Enums.{spot_of}
use Rattle.leaflet.specs.Past.{refused, character}
use Rattle.leaflet.specs.declared.progress.NotPassed.TheVariants.{Refused}
use Rattle.leaflet.proofs.Passing.{no_char, not_put, counted, placed}
use Rattle.leaflet.proofs.progress.Progress.past_character.Goals as goal
use Rattle.leaflet.proofs.progress.Progress.past_character.Goals.{then-is_outside, else-is_outside}

pub returns-in_err-spot : goal.returns-in_err-spot
returns-in_err-spot c =
    let o : char_step (spot_of c.args.self.spot) ≡ None = search rules in
    let e : c.from_residual.result ≡ Err Refused = search rules in
    rw e (refused (no_char _ _ o))

pub returns-in_err-end : goal.returns-in_err-end
returns-in_err-end c =
    let e : c.from_residual-in_err-end.result ≡ Err c.in_err-end.field-0.0 = search rules in
    rw e (not_put c.in_err-end.ensures)

-- six words more, or none
pub invariant_of-result : goal.invariant_of-result
invariant_of-result c =
    let p = placed c.in_ok-end.ensures c.args.self.whole in
    elim c.if-is_outside.branch [
      | then-is_outside w ↦
          record { room = p.1; order = omega (arith, w.start-is); whole = p.2; whole_before = rw w.start-is p.2 }
      | else-is_outside w ↦
          record {
            room = p.1;
            order = omega (arith, p.0, w.start-is, c.args.self.order);
            whole = p.2;
            whole_before = rw w.start-is c.args.self.whole_before;
          }
    ]

pub returns : goal.returns
returns c =
    character (record {
      leads = search rules;
      put = c.in_ok-end.ensures;
      groups = refl;
      ruby = search (rules, counted);
      start =
          elim c.if-is_outside.branch [
            | then-is_outside w ↦ rw (← w.if-is_outside.ensures) w.start-is
            | else-is_outside w ↦ rw (← w.if-is_outside.ensures) w.start-is
          ];
    })
