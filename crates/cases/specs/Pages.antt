-- Document 02's page of the smallest tables, and a case for each of its numbers. Assumes nothing.
use Rattle.std.specs.Prelude.{◌≡◌, List, [], ◌∷◌, ◌++◌, ℕ, ◌-◌, ◌^◌, replicate}
use Rattle.error.specs.Answer.{Answer, accepted}
use Rattle.fields.specs.Le.{Bytes}
use Rattle.chunk.specs.Chunk.{video_tag, audio_tag}
use Rattle.chunk_index.specs.Entry.{entry_bytes}
use Rattle.page.specs.Page.{print_of}
use Rattle.cases.specs.Cases.{position, own_index}
use Rattle.cases.specs.Numbers.{no, zeroed, record_of}

-- so many blanks, and what stands after them
abbrev pub blank : ℕ → List ℕ → List ℕ
blank n rest = replicate n 32 ++ rest

-- `V       316         0                  0` and `A       327         1                  0`
abbrev pub first_line : List ℕ
first_line = 86 ∷ blank 7 (51 ∷ 49 ∷ 54 ∷ blank 9 (48 ∷ blank 18 (48 ∷ [])))

abbrev pub second_line : List ℕ
second_line = 65 ∷ blank 7 (51 ∷ 50 ∷ 55 ∷ blank 9 (49 ∷ blank 18 (48 ∷ [])))

-- `4294967295`
abbrev pub u32_digits : List ℕ
u32_digits = 52 ∷ 50 ∷ 57 ∷ 52 ∷ 57 ∷ 54 ∷ 55 ∷ 50 ∷ 57 ∷ 53 ∷ []

-- a record of the largest numbers that have a line
abbrev pub widest : List ℕ
widest = entry_bytes (record { tag = audio_tag; position = position (2 ^ 32 - 1) (2 ^ 32 - 1) (10 ^ 18 - 1) 0 })

abbrev pub prints : List ℕ → ℕ → Answer ℕ
prints table room = (print_of table (zeroed room)).answer

pub record Pages : Type 0 where
  -- the claims of page/Sentences are of tables of bytes whose page is accepted: this one, with the page of the next line
  pub bytes : Bytes own_index
  -- E's own index, in a page of one byte more: "later bytes stay"
  pub example : print_of own_index (zeroed 81) ≡ record { answer = accepted 2; page = first_line ++ (second_line ++ zeroed 1) }
  -- each number fills its columns, but for column 22: "column 22 stays blank"
  pub full : print_of widest (zeroed 40) ≡ record { answer = accepted 1; page = 65 ∷ (u32_digits ++ (u32_digits ++ blank 1 (replicate 18 57))) }
  pub empty : print_of [] [] ≡ record { answer = accepted 0; page = [] }
  -- "70 when a sample count needs more than 18 digits .., place of the first such record"
  pub seventy : prints (record_of video_tag (10 ^ 18)) 40 ≡ no 70 0
  pub seventy_not : prints (record_of video_tag (10 ^ 18 - 1)) 40 ≡ accepted 1
  pub seventy_second : prints (record_of video_tag 0 ++ record_of audio_tag (2 ^ 62 - 1)) 80 ≡ no 70 24
  -- "after 41 and 43 over the whole table"
  pub forty_one : prints (record_of 0 0 ++ zeroed 1) 0 ≡ no 41 0
  pub forty_three : prints (record_of video_tag (10 ^ 18) ++ zeroed 24) 0 ≡ no 43 24
  pub forty_three_samples : prints (record_of audio_tag (2 ^ 62)) 0 ≡ no 43 0
  -- "40 when the page buffer is too short, last"; a refused call leaves the page
  pub forty : print_of own_index (zeroed 79) ≡ record { answer = no 40 0; page = zeroed 79 }
  pub forty_last : prints (record_of video_tag (10 ^ 18)) 0 ≡ no 70 0
