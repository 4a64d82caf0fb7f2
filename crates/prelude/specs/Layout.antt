-- The layout of the prelude. Assumes nothing.
use Rattle.std.specs.Prelude.{ℕ, ◌+◌, cond, List, [], ◌∷◌, leb, eqb, length}
use Rattle.error.specs.Answer.{Answer, accepted, refused, numbered, ask, and_then}
use Rattle.error.specs.declared.Refusal.{Refusal}
use Rattle.fields.specs.Le.{le}
use Rattle.prelude.specs.declared.layout.LayoutItem.{LayoutItem}
use Rattle.prelude.specs.declared.layout.LayoutItem.TheVariants.{Tag, Size, Body}

-- 01: "The prelude travels .. as one value of 316 bytes"; a fresh walker "starts at 316"
abbrev pub prelude_len : ℕ
prelude_len = 316

-- the characters of a tag as a little-endian number; `Tags` spells them out
abbrev pub RIFF : ℕ
RIFF = 0x46464952

abbrev pub AMV : ℕ
AMV = 0x20564d41

abbrev pub LIST : ℕ
LIST = 0x5453494c

abbrev pub hdrl : ℕ
hdrl = 0x6c726468

abbrev pub amvh : ℕ
amvh = 0x68766d61

abbrev pub strl : ℕ
strl = 0x6c727473

abbrev pub strh : ℕ
strh = 0x68727473

abbrev pub strf : ℕ
strf = 0x66727473

abbrev pub movi : ℕ
movi = 0x69766f6d

-- 01: "the 15 tags and 5 sizes above in offset order, with the bodies 32..88 (after its size) and 284..304 (after theirs) in turn"
unfoldable pub layout : List LayoutItem
layout =
    Tag 0 RIFF ∷ Tag 8 AMV ∷ Tag 12 LIST ∷ Tag 20 hdrl ∷ Tag 24 amvh ∷ Size 28 56 ∷ Body 32 56
    ∷ Tag 88 LIST ∷ Tag 96 strl ∷ Tag 100 strh ∷ Size 104 56 ∷ Tag 164 strf ∷ Size 168 36
    ∷ Tag 208 LIST ∷ Tag 216 strl ∷ Tag 220 strh ∷ Size 224 48 ∷ Tag 276 strf ∷ Size 280 20 ∷ Body 284 20
    ∷ Tag 304 LIST ∷ Tag 312 movi ∷ []

-- where an item starts, and where it ends
abbrev pub start_of : LayoutItem → ℕ
start_of (Tag place value) = place
start_of (Size place value) = place
start_of (Body place width) = place

abbrev pub end_of : LayoutItem → ℕ
end_of (Tag place value) = place + 4
end_of (Size place value) = place + 4
end_of (Body place width) = place + width

-- what stands past the last item: nothing, at the first chunk
abbrev pub past : LayoutItem
past = Body prelude_len 0

-- "For each: does the file reach its end? 11. Tag equal? 12. Size equal? 13. Place: its start."
unfoldable pub ask_word : List ℕ → ℕ → ℕ → Refusal → Answer Unit
ask_word file place value wrong =
    ask (leb (place + 4) (length file)) 11 place
    (cond (eqb (le 4 file place) value) (accepted tt) (refused wrong))

unfoldable pub ask_body : List ℕ → ℕ → ℕ → Answer Unit
ask_body file place width = ask (leb (place + width) (length file)) 11 place (accepted tt)

abbrev pub ask_item : List ℕ → LayoutItem → Answer Unit
ask_item file (Tag place value) = ask_word file place value (numbered 12 place)
ask_item file (Size place value) = ask_word file place value (numbered 13 place)
ask_item file (Body place width) = ask_body file place width

unfoldable pub ask_items : List ℕ → List LayoutItem → Answer Unit
ask_items file [] = accepted tt
ask_items file (item ∷ items) = and_then (ask_item file item) (λ _. ask_items file items)

-- 02, M-107: of a file that is cut to n bytes, the start of the first item that does not end within them
unfoldable pub first_cut : ℕ → List LayoutItem → ℕ
first_cut n [] = n
first_cut n (item ∷ items) = cond (leb (end_of item) n) (first_cut n items) (start_of item)
