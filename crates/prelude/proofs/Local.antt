-- The prelude's questions look at the prelude's bytes alone: every item and every stretch of zeros ends within them. Assumes nothing.
use mathlib.Core.Path.{◌≡◌, refl, sym, ◌∙◌}
use mathlib.Core.Bool.{true}
use mathlib.Core.List.{List, [], ◌∷◌}
use Prim.Native.Nat.{ℕ, zero, suc, ◌+◌, ◌≤◌}
use native.Mathlib.Decide.{dec_le}
use native.Mathlib.Nat.{lt_of_not-le}
use native.Mathlib.Omega.{arith}
use borrow.Author.Tests.{le-leb, lt-leb, leb-true}
use lib.Dec.{leb}
use lib.ListN.{length, take, drop, length-take}
use lib.Seq.{take-take, take-nil, get_or-take}
use Rattle.error.specs.Answer.{Answer, numbered, and_then}
use Rattle.error.specs.declared.Refusal.{Refusal}
use Rattle.fields.proofs.Laws.{le-take}
use Rattle.fields.specs.File.{within_limit, file_limit}
use Rattle.prelude.specs.Layout.{prelude_len, layout, end_of, ask_word, ask_body, ask_item, ask_items}
use Rattle.prelude.specs.Prelude.{prelude_fields, parse_of, zeros, zero_ranges, validated_of, strict_of}
use Rattle.prelude.specs.declared.layout.LayoutItem.{LayoutItem}
use Rattle.prelude.specs.declared.layout.LayoutItem.TheVariants.{Tag, Size, Body}
use Rattle.prelude.specs.declared.prelude.AmvPrelude.{AmvPrelude}
use Rattle.prelude.proofs.Stored.{AllWithin, within_all}

-- a part of the first m elements is that part of the whole
take-drop-take : {A : Type 0} (k n m : ℕ) (xs : List A) → k + n ≤ m → take n (drop k (take m xs)) ≡ take n (drop k xs)
take-drop-take zero n m xs h = take-take n m xs (omega arith)
take-drop-take (suc k) n m [] h = rw (take-nil m)
take-drop-take (suc k) n zero (x ∷ xs) h = absurd (omega arith)
take-drop-take (suc k) n (suc m) (x ∷ xs) h = take-drop-take k n m xs (omega arith)

-- an item that ends within the first m bytes is asked of them as of the file: whether n of them are there ..
reach_local : (m : ℕ) (file : List ℕ) (n : ℕ) → n ≤ m → leb n (length (take m file)) ≡ leb n (length file)
reach_local m file n h =
    elim (dec_le n (length file)) [
      | yes l ↦ le-leb n (length (take m file)) (simp length-take (omega arith)) ∙ sym (le-leb n (length file) l)
      | no l ↦ lt-leb n (length (take m file)) (simp length-take (omega (arith, lt_of_not-le l))) ∙ sym (lt-leb n (length file) (lt_of_not-le l))
    ]

-- .. and which
word_local : (m : ℕ) (file : List ℕ) (place value : ℕ) (wrong : Refusal) → place + 4 ≤ m
    → ask_word (take m file) place value wrong ≡ ask_word file place value wrong
unfolding ask_word
word_local m file place value wrong h = rw (reach_local m file (place + 4) h, le-take 4 m file place h)

pub item_local : (m : ℕ) (file : List ℕ) (item : LayoutItem) → end_of item ≤ m → ask_item (take m file) item ≡ ask_item file item
item_local m file (Tag place value) h = word_local m file place value (numbered 12 place) h
item_local m file (Size place value) h = word_local m file place value (numbered 13 place) h
item_local m file (Body place len) h = unfold ask_body in rw (reach_local m file (place + len) h)

items_local : (file : List ℕ) (items : List LayoutItem) → AllWithin items → ask_items (take prelude_len file) items ≡ ask_items file items
unfolding ask_items
items_local file [] t = refl
items_local file (item ∷ items) t = rw (item_local prelude_len file item t.0, items_local file items t.1)

fields_local : (file : List ℕ) → prelude_fields (take prelude_len file) ≡ prelude_fields file
unfolding prelude_fields
fields_local file = rw (take-drop-take 32 56 prelude_len file (omega arith), take-drop-take 284 20 prelude_len file (omega arith))

limit_local : (file : List ℕ) → within_limit file ≡ true → within_limit (take prelude_len file) ≡ true
limit_local file e =
    let l : length file ≤ file_limit = leb-true _ _ e in
    le-leb (length (take prelude_len file)) file_limit (simp length-take (omega arith))

pub parse_local : (file : List ℕ) → within_limit file ≡ true → parse_of (take prelude_len file) ≡ parse_of file
unfolding parse_of
parse_local file e = rw (e, limit_local file e, items_local file layout within_all, fields_local file)

zeros_local : (file : List ℕ) (place n : ℕ) → place + n ≤ prelude_len → zeros (take prelude_len file) place n ≡ zeros file place n
unfolding zeros
zeros_local file place zero h = refl
zeros_local file place (suc n) h =
    rw (get_or-take prelude_len file place 0 (omega arith), zeros_local file (suc place) n (omega arith))

ranges_local : (file : List ℕ) → zero_ranges (take prelude_len file) ≡ zero_ranges file
unfolding zero_ranges
ranges_local file =
    rw (
      zeros_local file 36 28 (omega arith),
      zeros_local file 108 56 (omega arith),
      zeros_local file 172 36 (omega arith),
      zeros_local file 228 48 (omega arith),
    )

validated_local : (p : AmvPrelude) (file : List ℕ) → validated_of p (take prelude_len file) ≡ validated_of p file
unfolding validated_of
validated_local p file = rw (ranges_local file)

pub strict_local : (file : List ℕ) → within_limit file ≡ true → strict_of (take prelude_len file) ≡ strict_of file
unfolding strict_of
strict_local file e = rw (parse_local file e) (go (parse_of file))
  where
    go : (x : Answer AmvPrelude) → and_then x (λ p. validated_of p (take prelude_len file)) ≡ and_then x (λ p. validated_of p file)
    go x = simp (validated_local)
