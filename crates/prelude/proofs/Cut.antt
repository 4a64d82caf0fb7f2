-- The first bytes of a file with a prelude, fewer than that has: refused with 11 at the first item that is not whole. Those before it are asked as
-- they are of the file. Assumes nothing.
use mathlib.Core.Path.{◌≡◌, refl, ap, ◌∙◌}
use mathlib.Core.List.{List, [], ◌∷◌}
use mathlib.Core.Logic.{◌⊎◌, inl, inr, ⊎_elim}
use Prim.Native.Nat.{ℕ, ◌+◌, ◌≤◌, ◌<◌}
use native.Mathlib.Decide.{dec_le}
use native.Mathlib.Nat.{lt_of_not-le}
use native.Mathlib.Omega.{arith}
use borrow.Author.Tests.{le-leb, lt-leb}
use lib.ListN.{length, take, length-take}
use Rattle.error.specs.Answer.{Answer, accepted, refused, numbered, and_then}
use Rattle.error.proofs.Answers.{then-passed, ask-passed}
use Rattle.fields.specs.File.{within_limit, file_limit}
use Rattle.prelude.specs.Layout.{prelude_len, layout, start_of, end_of, first_cut, ask_word, ask_body, ask_item, ask_items}
use Rattle.prelude.specs.Prelude.{prelude_fields, parse_of, validated_of, strict_of}
use Rattle.prelude.specs.declared.layout.LayoutItem.{LayoutItem}
use Rattle.prelude.specs.declared.layout.LayoutItem.TheVariants.{Tag, Size, Body}
use Rattle.prelude.specs.declared.prelude.AmvPrelude.{AmvPrelude}
use Rattle.prelude.proofs.Layouts.{layout-length}
use Rattle.prelude.proofs.Local.{item_local}

-- the size at 28 ends at 32: a cut to 31 bytes is told at 28, and one to 32 at the body that follows
at_the_size : (first_cut 28 layout ≡ 28) × (first_cut 31 layout ≡ 28) × (first_cut 32 layout ≡ 32)
unfolding layout first_cut
at_the_size = (refl, refl, refl)

module _ (n : ℕ) (file : List ℕ) where
  -- an item that does not end within them
  item_cut : (item : LayoutItem) → n < end_of item → ask_item (take n file) item ≡ refused (numbered 11 (start_of item))
  unfolding ask_word ask_body
  item_cut (Tag place value) h = rw (lt-leb (place + 4) (length (take n file)) (simp length-take (omega arith)))
  item_cut (Size place value) h = rw (lt-leb (place + 4) (length (take n file)) (simp length-take (omega arith)))
  item_cut (Body place width) h = rw (lt-leb (place + width) (length (take n file)) (simp length-take (omega arith)))

  -- where the file passes all, its first bytes do so too, or are refused at the first one that is cut
  items-cut : (items : List LayoutItem) → ask_items file items ≡ accepted tt
      → (ask_items (take n file) items ≡ accepted tt) ⊎ (ask_items (take n file) items ≡ refused (numbered 11 (first_cut n items)))
  unfolding ask_items first_cut
  items-cut [] e = inl refl
  items-cut (item ∷ items) e =
      let q = then-passed (ask_item file item) (λ _. ask_items file items) e in
      elim (dec_le (end_of item) n) [
        | yes l ↦ rw (item_local n file item l ∙ q.0, le-leb (end_of item) n l) (items-cut items q.1)
        | no l ↦ inr (rw (item_cut item (lt_of_not-le l), lt-leb (end_of item) n (lt_of_not-le l)))
      ]

  module _ (short : n < prelude_len) {p : AmvPrelude} (e : parse_of file ≡ accepted p) where
    layout-cut : ask_items (take n file) layout ≡ refused (numbered 11 (first_cut n layout))
    unfolding parse_of
    layout-cut =
        let asked = (ask-passed (within_limit file) 10 0 _ e).1 in
        ⊎_elim
        (λ whole. let l = layout-length (take n file) whole in let t = length-take n file in absurd (omega arith))
        (λ cut. cut)
        (items-cut layout (then-passed (ask_items file layout) (λ _. accepted (prelude_fields file)) asked).0)

    pub parse-cut : parse_of (take n file) ≡ refused (numbered 11 (first_cut n layout))
    unfolding parse_of
    parse-cut =
        let fits : length (take n file) ≤ file_limit = simp length-take (omega arith) in
        rw (le-leb (length (take n file)) file_limit fits, layout-cut)

    pub strict-cut : strict_of (take n file) ≡ refused (numbered 11 (first_cut n layout))
    unfolding strict_of
    strict-cut = ap (λ (x : Answer AmvPrelude). and_then x (λ q. validated_of q (take n file))) parse-cut
