-- 02's sentences about the order of the seek's questions, by the answers of the two that it exchanges: whether the stream is one of the two, and
-- whether the table is whole records. Assumes nothing.
use mathlib.Core.Path.{◌≡◌, refl, ap}
use mathlib.Core.Bool.{Bool, true, false}
use mathlib.Core.List.{List}
use Prim.Native.Nat.{ℕ, ◌%◌}
use borrow.Author.Tests.{leb-false, eqb-false, ne_eqb}
use lib.Dec.{eqb, leb}
use lib.IntN.{ℤ}
use lib.ListN.{length}
use Rattle.error.specs.Answer.{Answer, accepted, refused, numbered, ask, and_then}
use Rattle.chunk_index.specs.Entry.{entry_len, entries_of}
use Rattle.demuxer.specs.Position.{in_range}
use Rattle.demuxer.specs.declared.walker.Walker.{Walker}
use Rattle.table.specs.Table.{good_entries}
use Rattle.seek.specs.Seek.{seek_questions, find, Seeking, landed, sought_from, seek_of}
use Rattle.seek.specs.StreamFirst.{questions_before, seek_before, BothWrong, StreamFirst}
use Rattle.seek.proofs.Sentences.{seek_sentences}

-- ---- the two orders, over the answers to the questions

abbrev whole_or41 : Bool → Answer Unit
whole_or41 whole = ask whole 41 0 (accepted tt)

abbrev stream_first : Bool → Bool → Answer Unit → Answer Unit → Answer Unit
stream_first known whole good last = ask known 42 0 (and_then (and_then (whole_or41 whole) (λ _. good)) (λ _. last))

abbrev table_first : Bool → Bool → Answer Unit → Answer Unit → Answer Unit
table_first known whole good last = and_then (whole_or41 whole) (λ _. ask known 42 0 (and_then good (λ _. last)))

same : (known whole : Bool) (good last : Answer Unit) → (known ≡ false → whole ≡ false → ⊥)
    → stream_first known whole good last ≡ table_first known whole good last
same true true good last n = refl
same true false good last n = refl
same false true good last n = refl
same false false good last n = absurd (n refl refl)

leaves-same : (known whole : Bool) (good last : Answer Unit) (w : Walker) (s : Seeking)
    → (sought_from (stream_first known whole good last) w s).walker ≡ (sought_from (table_first known whole good last) w s).walker
leaves-same true true good last w s = refl
leaves-same true false good last w s = refl
leaves-same false true good last w s = refl
leaves-same false false good last w s = refl

-- ---- the seek

module _ (table : List ℕ) (w : Walker) (stream : ℕ) (request : ℤ) where
  was_ragged : BothWrong table stream → (seek_before table w stream request).answer ≡ refused (numbered 41 0)
  unfolding seek_before questions_before
  was_ragged b = rw (ne_eqb (length table % entry_len) 0 b.ragged)

  no_other : (BothWrong table stream → ⊥) → seek_of table w stream request ≡ seek_before table w stream request
  unfolding seek_of seek_questions seek_before questions_before
  no_other n =
      ap (λ (q : Answer Unit). sought_from q w (landed (entries_of table) w stream (find stream request (entries_of table))))
      (same (leb stream 1) (eqb (length table % entry_len) 0) (good_entries (entries_of table)) (ask (in_range w.position) 32 0 (accepted tt))
      (λ k r. n (record { no_stream = leb-false stream 1 k; ragged = eqb-false (length table % entry_len) 0 r })))

  same_walker : (seek_of table w stream request).walker ≡ (seek_before table w stream request).walker
  unfolding seek_of seek_questions seek_before questions_before
  same_walker =
      leaves-same (leb stream 1) (eqb (length table % entry_len) 0) (good_entries (entries_of table)) (ask (in_range w.position) 32 0 (accepted tt)) w
      (landed (entries_of table) w stream (find stream request (entries_of table)))

pub stream_first_lem : StreamFirst
stream_first_lem =
    record {
      changed = λ table w stream request b. (was_ragged table w stream request b, seek_sentences.forty_two table w stream request b.no_stream);
      no_other = no_other;
      same_walker = same_walker;
    }
