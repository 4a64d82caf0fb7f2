-- The layout, item by item; a file that passes it has the whole prelude. Assumes nothing.
use mathlib.Core.Path.{◌≡◌}
use mathlib.Core.List.{List, [], ◌∷◌}
use Prim.Native.Nat.{ℕ, zero, suc, ◌+◌, ◌≤◌, ◌<◌}
use native.Mathlib.Numerals.{add-one}
use borrow.Author.Tests.{leb-true}
use lib.Dec.{leb}
use lib.ListN.{length, drop, get_or}
use lib.Seq.{drop-cons}
use lib.ListN.{drop_of_length-le}
use Rattle.error.specs.Answer.{accepted, numbered, and_then}
use Rattle.error.proofs.Answers.{then-passed, ask-passed}
use Rattle.prelude.specs.Layout.{prelude_len, layout, ask_word, ask_item, ask_items, movi}
use Rattle.fields.specs.File.{within_limit}
use Rattle.prelude.specs.Prelude.{prelude_fields, parse_of}
use Rattle.prelude.specs.declared.layout.LayoutItem.{LayoutItem}
use Rattle.prelude.specs.declared.prelude.AmvPrelude.{AmvPrelude}

pub items-step : (file : List ℕ) (items : List LayoutItem) (i : ℕ) (d : LayoutItem) → i < length items
    → ask_items file (drop i items) ≡ and_then (ask_item file (get_or items i d)) (λ _. ask_items file (drop (i + 1) items))
unfolding ask_items
items-step file items i d h = rw (add-one, drop-cons items i d)

-- past the last item nothing is left to ask
pub items-end : (file : List ℕ) (i : ℕ) → length layout ≤ i → ask_items file (drop i layout) ≡ accepted tt
unfolding ask_items
items-end file i h = rw (drop_of_length-le layout h)

items-drop : (file : List ℕ) (n : ℕ) (items : List LayoutItem) → ask_items file items ≡ accepted tt → ask_items file (drop n items) ≡ accepted tt
unfolding ask_items
items-drop file zero items e = e
items-drop file (suc n) [] e = e
items-drop file (suc n) (x ∷ items) e = items-drop file n items (then-passed (ask_item file x) (λ _. ask_items file items) e).1

pub layout-length : (file : List ℕ) → ask_items file layout ≡ accepted tt → prelude_len ≤ length file
unfolding layout ask_items ask_word
layout-length file e =
    let last : ask_word file 312 movi (numbered 12 312) ≡ accepted tt =
    (then-passed (ask_word file 312 movi (numbered 12 312)) (λ _. accepted tt) (items-drop file 21 layout e)).0 in
    leb-true _ _ (ask-passed (leb prelude_len (length file)) 11 312 _ last).0

pub parsed-length : (file : List ℕ) {p : AmvPrelude} → parse_of file ≡ accepted p → prelude_len ≤ length file
unfolding parse_of
parsed-length file e =
    let asked = (ask-passed (within_limit file) 10 0 _ e).1 in
    layout-length file (then-passed (ask_items file layout) (λ _. accepted (prelude_fields file)) asked).0
