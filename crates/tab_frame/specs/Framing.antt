-- What a framer gives out of the bytes that it keeps.
use Rattle.std.specs.Prelude.{◌≡◌, ℕ, true, false, List, [], ◌++◌}
use Rattle.tab_spec.specs.Frame.{StreamItem, command, cancel, bad, is_frame, item_of, with_item, frames, meets_bad_size}
use Rattle.tab_frame.specs.declared.framer.Frame.{Frame}
use Rattle.tab_frame.specs.declared.framer.Frame.TheVariants as gave

-- the kept bytes begin with this frame, which is this item, and are otherwise kept
pub record GaveItem (item : StreamItem) (old new out : List ℕ) : Type 0 where
  pub frame : is_frame out ≡ true
  pub is_item : item_of out ≡ item
  pub parts : old ≡ out ++ new
  pub first : frames old ≡ with_item item (frames new)

-- what came next of the kept bytes, and what is kept then
abbrev pub Gave : Frame → List ℕ → List ℕ → List ℕ → Type 0
Gave gave.Command old new out = GaveItem (command out) old new out
Gave gave.Cancel old new out = GaveItem cancel old new out
Gave gave.NotYet old new out = ((frames old).items ≡ []) × (meets_bad_size old ≡ false) × (new ≡ old)
Gave (gave.BadSize size) old new out = (frames old ≡ record { items = []; ending = bad size }) × (new ≡ old)
