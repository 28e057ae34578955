-- `leaflet::progress::Progress::put_character` meets its contract. Assumes nothing.
use Rattle.std.proofs.Common.{rules, ◌≡◌, sym, ◌∙◌, Some, Err, true, false}
use Rattle.leaflet.specs.Contents.{plain_char}
use Rattle.leaflet.specs.declared.progress.NotPassed.TheVariants.{Refused}
use Rattle.leaflet.proofs.PutCharacter.{put_none, put_no_text, put_refused, put_full, put_plain}
use Rattle.leaflet.proofs.progress.Progress.put_character.Goals as goal

pub returns-then-is_text_char : goal.returns-then-is_text_char
returns-then-is_text_char c =
    put_none _ _ _ _ _ _ (sym c.if-not-becomes_record.ensures) (sym c.if-is_text_char.ensures) c.args.self.room

pub returns-else-is_text_char : goal.returns-else-is_text_char
returns-else-is_text_char c =
    put_no_text _ _ _ _ _ _ (sym c.if-not-becomes_record.ensures) (sym c.if-is_text_char.ensures)

pub returns-in_err-class : goal.returns-in_err-class
returns-in_err-class c =
    let refused : plain_char c.args.code ≡ false = search rules in
    let e : c.from_residual.result ≡ Err Refused = search rules in
    rw e (put_refused _ _ _ _ _ _ (sym c.if-not-becomes_record.ensures) refused)

pub returns-then-self-lt-RECORD_WORDS : goal.returns-then-self-lt-RECORD_WORDS
returns-then-self-lt-RECORD_WORDS c =
    put_full _ _ _ _ _ _ (sym c.if-not-becomes_record.ensures) c.args.self.room c.if-self-lt-RECORD_WORDS.true

pub returns : goal.returns
returns c =
    let allowed : plain_char c.args.code ≡ true = search rules in
    let z : c.plain_class.result ≡ Some c.in_ok-class.class = search rules in
    let known = rw z at c.plain_class.ensures.class in
    put_plain _ _ _ _ _ _ (sym c.if-not-becomes_record.ensures) _ _ _ allowed (c.number.ensures ∙ known)
    c.if-self-lt-RECORD_WORDS.false c.args.self.room (rw c.number.ensures c.advance_of-advance.ensures)
    c.group.ensures c.put.ensures
