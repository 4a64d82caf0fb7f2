-- 02's sentences about the page, a second time: by what is read from it. Assumes nothing.
use Rattle.std.specs.Prelude.{◌≡◌, ℕ, ◌*◌, ◌≤◌, ◌<◌, true, false, List, [], ◌∷◌, ◌++◌, map, length, take, drop, get_or, replicate}
use Rattle.std.specs.Prelude.{Some}
use Rattle.error.specs.Answer.{accepted, refused, numbered}
use Rattle.error.specs.Sentences.{GivesBack, RefusedBy}
use Rattle.fields.specs.Le.{Bytes}
use Rattle.chunk_index.specs.Entry.{entries_of}
use Rattle.chunk_index.specs.declared.entry.ChunkIndexEntry.{ChunkIndexEntry}
use Rattle.table.specs.Sentences.{AllPass, FirstNo, Good}
use Rattle.page.specs.Page.{narrow_samples, print_of}
use Rattle.page.specs.Reading.{from_to, number_in, Shown, read_line, lines_of}

-- each of some lines
abbrev pub Each : {A : Type 0} → (A → Type 0) → List A → Type 0
Each P [] = Unit
Each P (x ∷ xs) = P x × Each P xs

-- a character of ASCII that a printer shows: from the space to `~`
abbrev pub Printable : ℕ → Type 0
Printable c = (32 ≤ c) × (c ≤ 126)

-- a line for the strip printer
pub record GoodLine (line : List ℕ) : Type 0 where
  pub columns : length line ≡ 40
  pub printable : Each Printable line
  -- "column 22 stays blank"
  pub blank : get_or line 21 0 ≡ 32

-- "right-aligned with spaces": blanks, then the digits of a number, without leading zeros
pub record RightAligned (field : List ℕ) (n : ℕ) : Type 0 where
  pub blanks : ℕ
  pub digits : List ℕ
  pub is : field ≡ replicate blanks 32 ++ digits
  pub each : Each (λ c. (48 ≤ c) × (c ≤ 57)) digits
  pub worth : number_in 0 digits ≡ n
  pub zero : n ≡ 0 → digits ≡ 48 ∷ []
  pub leading : 0 < n → 48 < get_or digits 0 0

-- a record's line, field by field
pub record Aligned (line : List ℕ) (e : ChunkIndexEntry) : Type 0 where
  pub offset : RightAligned (from_to 2 11 line) e.position.cursor
  pub frames : RightAligned (from_to 12 21 line) e.position.frames.0
  pub samples : RightAligned (from_to 22 40 line) e.position.samples.0

-- as many lines as records, each of its own
abbrev pub AllAligned : List (List ℕ) → List ChunkIndexEntry → Type 0
AllAligned [] [] = Unit
AllAligned [] (e ∷ es) = ⊥
AllAligned (line ∷ lines) [] = ⊥
AllAligned (line ∷ lines) (e ∷ es) = Aligned line e × AllAligned lines es

-- what a record's line is to show
abbrev pub shown_of : ChunkIndexEntry → Shown
shown_of e = record { tag = Some e.tag; offset = e.position.cursor; frames = e.position.frames.0; samples = e.position.samples.0 }

-- of every table of bytes, as a lent one is
pub record PageSentences : Type 0 where
  -- "The answer is the line count": a line for each record, all of them within the page
  pub count : (table page : List ℕ) (n : ℕ) → (print_of table page).answer ≡ accepted n → (n ≡ length (entries_of table)) × (40 * n ≤ length page)
  -- "lines of exactly 40 columns"
  pub lines : (table page : List ℕ) (n : ℕ) → Bytes table → (print_of table page).answer ≡ accepted n
      → Each GoodLine (lines_of n (print_of table page).page)
  -- "right-aligned with spaces"
  pub aligned : (table page : List ℕ) (n : ℕ) → Bytes table → (print_of table page).answer ≡ accepted n
      → AllAligned (lines_of n (print_of table page).page) (entries_of table)
  -- "reading the columns yields the record's kind, offset, frames and samples"
  pub reads_back : (table page : List ℕ) (n : ℕ) → Bytes table → (print_of table page).answer ≡ accepted n
      → map read_line (lines_of n (print_of table page).page) ≡ map shown_of (entries_of table)
  -- so tables whose pages are the same agree in these
  pub tells_apart : (table page table' page' : List ℕ) (n n' : ℕ) → Bytes table → Bytes table' → (print_of table page).answer ≡ accepted n
      → (print_of table' page').answer ≡ accepted n' → take (40 * n) (print_of table page).page ≡ take (40 * n') (print_of table' page').page
      → map shown_of (entries_of table) ≡ map shown_of (entries_of table')
  -- "later bytes stay"
  pub later : (table page : List ℕ) (n : ℕ) → Bytes table → (print_of table page).answer ≡ accepted n
      → drop (40 * n) (print_of table page).page ≡ drop (40 * n) page
  -- "a sample count needs more than 18 digits" exactly from 10^18 on
  pub wide : (e : ChunkIndexEntry) → 1000000000000000000 ≤ e.position.samples.0 → e.position.samples.0 < 18446744073709551616
      → narrow_samples e ≡ false
  pub narrow : (e : ChunkIndexEntry) → e.position.samples.0 < 1000000000000000000 → narrow_samples e ≡ true
  -- "place of the first such record, after 41 and 43 over the whole table"
  pub seventy : (table page : List ℕ) (at : ℕ) → (print_of table page).answer ≡ refused (numbered 70 at)
      → Good table × FirstNo narrow_samples (entries_of table) at
  -- "40 when the page buffer is too short, last"
  pub forty : (table page : List ℕ) (at : ℕ) → (print_of table page).answer ≡ refused (numbered 40 at)
      → Good table × AllPass narrow_samples (entries_of table) × (length page < 40 * length (entries_of table))
  -- "It returns the state it was given and changes no lent byte", and the numbers that 02 lists
  pub gives_back : (table : List ℕ) → GivesBack (λ page. (print_of table page).answer) (λ page. (print_of table page).page)
  pub numbers : (table page : List ℕ) → RefusedBy (41 ∷ 43 ∷ 70 ∷ 40 ∷ []) (print_of table page).answer
