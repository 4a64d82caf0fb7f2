-- Steps on the way: what functions below the calls promise each other. Nothing here need be believed. Assumes nothing.
use Rattle.std.specs.Prelude.{ℕ, ◌≤◌, List, [], ◌∷◌}
use Rattle.fields.specs.Capped.{quotient}
use Rattle.fields.specs.Le.{put_le}
use Rattle.parse.specs.WaveFormat.{average_of}
use Rattle.prelude.specs.Layout.{prelude_len, end_of}
use Rattle.prelude.specs.declared.layout.LayoutItem.{LayoutItem}
use Rattle.prelude.specs.declared.layout.LayoutItem.TheVariants.{Tag, Size, Body}

-- the item ends within the prelude
abbrev pub Within : LayoutItem → Type 0
Within item = end_of item ≤ prelude_len

abbrev pub write_item : List ℕ → LayoutItem → List ℕ
write_item bytes (Tag place value) = put_le 4 bytes place value
write_item bytes (Size place value) = put_le 4 bytes place value
write_item bytes (Body place len) = bytes

unfoldable pub write_items : List ℕ → List LayoutItem → List ℕ
write_items bytes [] = bytes
write_items bytes (item ∷ items) = write_items (write_item bytes item) items

unfoldable pub header_stores : List ℕ → ℕ → ℕ → ℕ → ℕ → List ℕ
header_stores bytes width height fps duration =
    put_le 4 (put_le 4 (put_le 4 (put_le 4 (put_le 4 (put_le 4 bytes 32 (quotient 1000000 fps)) 64 width) 68 height) 72 fps) 76 1) 84 duration

unfoldable pub wave_format_stores : List ℕ → ℕ → ℕ → List ℕ
wave_format_stores bytes rate channels =
    put_le 2 (put_le 2 (put_le 4 (put_le 4 (put_le 2 (put_le 2 bytes 284 1) 286 channels) 288 rate) 292 (average_of rate)) 296 2) 298 16
