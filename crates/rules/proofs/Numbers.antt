-- The numbers and places tell the refusals apart: each comes back from its own. So an equation between an answer and
-- `answer_from` says which refusal it is. Assumes nothing.
use Rattle.std.proofs.Common.{◌≡◌, Some, refl}
use Rattle.rules.specs.Numbers.{number_of, place_of, refusal_of}
use Rattle.rules.specs.declared.refusal.Refusal.{Refusal}
use Rattle.rules.specs.declared.refusal.Refusal.TheVariants.{NoSheet, NoSlot, NotTheCallers, Damaged, PastTheEnd}
use Rattle.rules.specs.declared.refusal.Refusal.TheVariants.{NotWhole, TooMany, IllRecord, IllGroup, TooWide}
use Rattle.rules.specs.declared.refusal.Refusal.TheVariants.{OutOfLimits, NotListed, NoneFree, NotInUse}

pub refusal_told : (e : Refusal) → refusal_of (number_of e) (place_of e) ≡ Some e
refusal_told NoSheet = refl
refusal_told NoSlot = refl
refusal_told NotTheCallers = refl
refusal_told Damaged = refl
refusal_told (PastTheEnd count) = refl
refusal_told NotWhole = refl
refusal_told TooMany = refl
refusal_told (IllRecord at) = refl
refusal_told (IllGroup at) = refl
refusal_told (TooWide at) = refl
refusal_told (OutOfLimits slot) = refl
refusal_told (NotListed at) = refl
refusal_told NoneFree = refl
refusal_told NotInUse = refl
