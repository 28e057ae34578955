-- `leaflet::progress::Progress::put_ruby` meets its contract. Assumes nothing.
use Rattle.leaflet.proofs.PutRuby.{rubying_more, rubying_end}
use Rattle.leaflet.proofs.progress.Progress.put_ruby.Goals as goal

pub loop-k-preserved : goal.loop-k-preserved
loop-k-preserved c =
    rubying_more _ c.loop-k.k c.args.self.start c.as_word-count.result c.loop-k.words c.loop-k-test.true
    c.loop-k.invariant

pub returns : goal.returns
returns c =
    rw (← c.as_word-count.ensures)
    (rubying_end _ c.loop-k.k c.args.self.start c.as_word-count.result c.loop-k.words c.loop-k-test.false
    c.loop-k.invariant)
