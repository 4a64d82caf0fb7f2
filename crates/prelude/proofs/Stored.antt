-- The layout written item by item, each item within the prelude. Assumes nothing.
use mathlib.Core.Path.{◌≡◌}
use mathlib.Core.List.{List, [], ◌∷◌}
use Prim.Native.Nat.{ℕ, zero, suc, ◌+◌, ◌<◌, ◌≤◌}
use native.Mathlib.Numerals.{add-one}
use native.Mathlib.Omega.{arith}
use lib.Dec.{lit≤}
use lib.ListN.{length, drop, get_or}
use lib.Seq.{drop-cons}
use lib.ListN.{drop_of_length-le}
use Rattle.prelude.specs.declared.layout.LayoutItem.TheVariants.{Tag}
use Rattle.prelude.specs.Layout.{layout}
use Rattle.prelude.specs.Steps.{Within, write_item, write_items}
use Rattle.prelude.specs.declared.layout.LayoutItem.{LayoutItem}

abbrev pub AllWithin : List LayoutItem → Type 0
AllWithin [] = Unit
AllWithin (item ∷ items) = Within item × AllWithin items

-- every item ends within the prelude
pub within_all : AllWithin layout
unfolding layout
within_all = omega arith

within-at : (items : List LayoutItem) → AllWithin items → (i : ℕ) → Within (get_or items i (Tag 0 0))
within-at [] t i = lit≤ tt
within-at (item ∷ items) t zero = t.0
within-at (item ∷ items) t (suc i) = within-at items t.1 i

pub within : (i : ℕ) → Within (get_or layout i (Tag 0 0))
within i = within-at layout within_all i

pub written_step : (bytes : List ℕ) (items : List LayoutItem) (i : ℕ) (d : LayoutItem) → i < length items
    → write_items bytes (drop i items) ≡ write_items (write_item bytes (get_or items i d)) (drop (i + 1) items)
unfolding write_items
written_step bytes items i d h = rw (add-one, drop-cons items i d)

-- past the last item nothing is left to write
pub written_end : (bytes : List ℕ) (i : ℕ) → length layout ≤ i → write_items bytes (drop i layout) ≡ bytes
unfolding write_items
written_end bytes i h = rw (drop_of_length-le layout h)
