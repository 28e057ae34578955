-- `leaflet::ahead::rt_ahead` meets its contract. Assumes nothing.
use Rattle.std.proofs.Common.{arith, rules, ◌≡◌, ◌∙◌, inl, tests}
use Rattle.std.proofs.lemmas.Iterator.Adapters.{YieldsList-from_skip, YieldsList-from_skip_while}
use Rattle.std.proofs.lemmas.Iterator.Consumers.{count_from_yields_List, YieldsList-at, YieldsList-from_first}
use Rattle.std.proofs.lemmas.Iterator.Search.{YieldsList-from_take_while}
use Rattle.leaflet.specs.Reader.{items_from}
use Rattle.leaflet.specs.Enums.{item_of}
use Rattle.leaflet.proofs.ItemsFrom.{is_char, is_no_rt, items_fit, rt_taken}
use Rattle.leaflet.proofs.ahead.rt_ahead.Goals as goal

pub count-requires-clause-fits : goal.count-requires-clause-fits
count-requires-clause-fits c =
    let few = items_fit c.args.text.now in
    let same : c.take_while.result.iter.iter.iter.0.now ≡ c.args.text.now = search rules in
    inl (rw same (omega (arith, few)))

pub returns : goal.returns
returns c =
    count_from_yields_List c.take_while.result c.count.result c.count.ensures.ran
    (YieldsList-from_take_while _ is_char
    (YieldsList-at c.take_while.ensures.source
    (YieldsList-from_skip 1
    (YieldsList-at c.skip.ensures.source
    (YieldsList-from_skip_while _ item_of _ is_no_rt _ (λ x b q k. search (rules, tests))
    (YieldsList-at c.skip_while.ensures.source
    (YieldsList-from_first item_of (λ s. items_from s.0.now) (items_from c.args.text.now) cc))
    c.skip_while.ensures.closure c.skip_while.ensures.done_skipping))
    c.skip.ensures.count))
    c.take_while.ensures.closure c.take_while.ensures.done (λ x b q k. search (rules, tests)))
    ∙ rt_taken (items_from c.args.text.now)
