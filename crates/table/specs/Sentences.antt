-- What is said of the questions over a table, a second time: by where the records stand. Assumes nothing.
use Rattle.std.specs.Prelude.{◌≡◌, ℕ, ◌*◌, ◌%◌, Bool, true, false, List, [], ◌∷◌, ◌++◌, length}
use Rattle.error.specs.Answer.{accepted, refused, numbered}
use Rattle.error.specs.declared.Refusal.{Refusal}
use Rattle.chunk_index.specs.Entry.{entries_of}
use Rattle.chunk_index.specs.declared.entry.ChunkIndexEntry.{ChunkIndexEntry}
use Rattle.table.specs.Table.{ask_each, good_entry}

-- every one of some records passes
abbrev pub AllPass : (ChunkIndexEntry → Bool) → List ChunkIndexEntry → Type 0
AllPass test [] = Unit
AllPass test (e ∷ es) = (test e ≡ true) × AllPass test es

-- the first record that does not pass, and the offset of its 24 bytes
pub record FirstNo (test : ChunkIndexEntry → Bool) (es : List ChunkIndexEntry) (at : ℕ) : Type 0 where
  pub before : List ChunkIndexEntry
  pub first : ChunkIndexEntry
  pub later : List ChunkIndexEntry
  pub is : es ≡ before ++ (first ∷ later)
  pub passed : AllPass test before
  pub no : test first ≡ false
  pub there : at ≡ 24 * length before

-- 41 and 43 have been answered with yes, the second of every record
pub record Good (table : List ℕ) : Type 0 where
  pub whole : length table % 24 ≡ 0
  pub records : AllPass good_entry (entries_of table)

pub record EachSentences : Type 0 where
  -- "place of the record's start": the first record of which the answer is no
  pub refused_first : (test : ChunkIndexEntry → Bool) (number : ℕ) (es : List ChunkIndexEntry) (r : Refusal) → ask_each test number 0 es ≡ refused r
      → (r.number ≡ number) × FirstNo test es r.place
  pub first_refused : (test : ChunkIndexEntry → Bool) (number : ℕ) (es : List ChunkIndexEntry) (at : ℕ) → FirstNo test es at
      → ask_each test number 0 es ≡ refused (numbered number at)
  pub accepted_all : (test : ChunkIndexEntry → Bool) (number : ℕ) (es : List ChunkIndexEntry) → ask_each test number 0 es ≡ accepted tt → AllPass test es
  -- and all that pass are accepted
  pub all_accepted : (test : ChunkIndexEntry → Bool) (number : ℕ) (es : List ChunkIndexEntry) → AllPass test es → ask_each test number 0 es ≡ accepted tt
