-- Little-endian fields of any width in a list of bytes. Document 01: "Multi-byte fields are little-endian". Assumes nothing.
use Rattle.std.specs.Prelude.{ℕ, zero, suc, ◌+◌, ◌*◌, ◌/◌, ◌%◌, ◌<◌, List, [], ◌∷◌, ◌++◌, length, take, drop, get_or}

-- the number that the w bytes of xs from an offset spell, the lowest byte first; a byte past the end counts 0
unfoldable pub le : ℕ → List ℕ → ℕ → ℕ
le zero xs off = 0
le (suc w) xs off = get_or xs off 0 + 256 * le w xs (suc off)

-- the low w bytes of v, the lowest first
unfoldable pub le_bytes : ℕ → ℕ → List ℕ
le_bytes zero v = []
le_bytes (suc w) v = v % 256 ∷ le_bytes w (v / 256)

-- xs with ys at an offset in place of as many bytes; every other byte as it was
unfoldable pub put : List ℕ → ℕ → List ℕ → List ℕ
put xs off ys = take off xs ++ (ys ++ drop (off + length ys) xs)

-- xs with v as w bytes at an offset
abbrev pub put_le : ℕ → List ℕ → ℕ → ℕ → List ℕ
put_le w xs off v = put xs off (le_bytes w v)

-- every element is a byte
unfoldable pub Bytes : List ℕ → Type 0
Bytes xs = (i : ℕ) → get_or xs i 0 < 256
