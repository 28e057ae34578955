-- `compose::adjustment::cumulative_share` meets its contract. Assumes nothing.
use Rattle.std.proofs.Common.{arith}
use Rattle.compose.proofs.Rates.{product_fits, share_within, rate_share}
use Rattle.compose.proofs.adjustment.cumulative_share.Goals as goal

pub overflow_mul-result : goal.overflow_mul-result
overflow_mul-result c = record { fits = rw (c.requires.0, c.from.ensures) (search product_fits) }

pub returns : goal.returns
returns c = rw (c.requires.0, c.from.ensures) (search rate_share)

pub overflow_cast-result : goal.overflow_cast-result
overflow_cast-result c = omega (arith, returns c, share_within c.args.e c.args.s c.args.c c.requires.2)
