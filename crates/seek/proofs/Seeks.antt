-- A seek, by what its questions and its search said; and its questions, by what each of them says. Assumes nothing.
use mathlib.Core.Path.{◌≡◌, sym, ap, ◌∙◌}
use Rattle.std.proofs.Common.{Option}
use mathlib.Core.Bool.{true, false}
use mathlib.Core.List.{List}
use Prim.Native.Nat.{ℕ}
use lib.Dec.{leb}
use lib.IntN.{ℤ, pos}
use Rattle.error.specs.Answer.{accepted, refused, numbered}
use Rattle.error.specs.declared.Refusal.{Refusal}
use Rattle.chunk_index.specs.Entry.{entries_of}
use Rattle.demuxer.specs.Position.{in_range}
use Rattle.demuxer.specs.declared.position.Position.{Position}
use Rattle.demuxer.specs.declared.walker.Walker.{Walker}
use Rattle.table.specs.Table.{table_questions}
use Rattle.seek.specs.Seek.{seek_questions, find, landed, seek_of}
use Rattle.seek.specs.Steps.{least}
use Rattle.seek.proofs.Records.{find-least}

-- ---- the questions, by the answers to them: first the stream's, then the table's, then the walker's

module _ (table : List ℕ) (w : Walker) (stream : ℕ) where
  pub no_stream : leb stream 1 ≡ false → seek_questions table w stream ≡ refused (numbered 42 0)
  unfolding seek_questions
  no_stream s = rw s

  module _ (s : leb stream 1 ≡ true) where
    pub bad_table : {r : Refusal} → table_questions table ≡ refused r → seek_questions table w stream ≡ refused r
    unfolding seek_questions
    bad_table g = rw (s, g)

    module _ (g : table_questions table ≡ accepted tt) where
      pub out_of_range : in_range w.position ≡ false → seek_questions table w stream ≡ refused (numbered 32 0)
      unfolding seek_questions
      out_of_range r = rw (s, g, r)

      pub all_pass : in_range w.position ≡ true → seek_questions table w stream ≡ accepted tt
      unfolding seek_questions
      all_pass r = rw (s, g, r)

-- ---- the call

module _ (table : List ℕ) (w : Walker) (stream : ℕ) (z : ℤ) where
  pub when_refused : {r : Refusal} → seek_questions table w stream ≡ refused r → seek_of table w stream z ≡ record { answer = refused r; walker = w }
  unfolding seek_of
  when_refused q = rw q

  pub when_accepted : seek_questions table w stream ≡ accepted tt
      → seek_of table w stream z ≡ landed (entries_of table) w stream (find stream z (entries_of table))
  unfolding seek_of
  when_accepted q = rw q

-- where the questions pass, the search goes by the least stamp that reaches the request
pub seek_lands : (table : List ℕ) (w : Walker) (stream : ℕ) (z : ℤ) {found : Option Position} → seek_questions table w stream ≡ accepted tt
    → found ≡ find stream (pos (least z)) (entries_of table) → seek_of table w stream z ≡ landed (entries_of table) w stream found
seek_lands table w stream z asked e =
    when_accepted table w stream z asked ∙ ap (landed (entries_of table) w stream) (sym (e ∙ find-least stream z (entries_of table)))
