-- What the slot's contracts cite beside the rules.
pub mod Redone
pub mod Slot
