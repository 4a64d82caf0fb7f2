-- The records of a table, one after another: what a loop keeps that asks a question of each, or passes over them for the most samples too, and that
-- records of few enough samples pass a question about them. Assumes nothing.
use mathlib.Core.Path.{◌≡◌, refl, sym, ap, ◌∙◌}
use Rattle.std.proofs.Common.{Result, Ok, Err}
use mathlib.Core.Bool.{Bool, true, false, ◌||◌, and-false, and-true}
use mathlib.Core.List.{List, [], ◌∷◌}
use Prim.Native.Nat.{ℕ, ◌+◌, ◌*◌, ◌≤◌, ◌<◌, max}
use native.Mathlib.Omega.{arith}
use borrow.Author.Tests.{lt-ltb, le-ltb}
use lib.Dec.{eqb}
use lib.ListN.{length}
use Rattle.fields.specs.Le.{Bytes}
use Rattle.fields.proofs.Laws.{le-lt}
use Rattle.error.specs.Answer.{Answer, accepted, refused, numbered, and_then}
use Rattle.error.specs.Refusal.{refusal_of, said}
use Rattle.error.specs.declared.AmvError.{AmvError}
use Rattle.error.specs.declared.Refusal.{Refusal}
use Rattle.error.proofs.Answers.{never, accepted-same, then-passed}
use Rattle.chunk.specs.Chunk.{video_tag, audio_tag}
use Rattle.demuxer.specs.Position.{count_limit}
use Rattle.chunk_index.specs.Entry.{entry_len, entry_at, entries_of}
use Rattle.chunk_index.specs.Steps.{Small}
use Rattle.chunk_index.specs.declared.entry.ChunkIndexEntry.{ChunkIndexEntry}
use Rattle.table.specs.Table.{ask_each, whole_records, good_entry, good_entries, table_questions}
use Rattle.table.specs.Steps.{most_samples, pass_over}

abbrev pub known_tag : ChunkIndexEntry → Bool
known_tag e = eqb e.tag video_tag || eqb e.tag audio_tag

-- with too many samples no tag helps; with few enough the tags alone decide
pub good_many : (e : ChunkIndexEntry) → count_limit ≤ e.position.samples.0 → good_entry e ≡ false
good_many e h = rw (le-ltb e.position.samples.0 count_limit h) (and-false (known_tag e))

pub good_few : (e : ChunkIndexEntry) → e.position.samples.0 < count_limit → good_entry e ≡ known_tag e
good_few e h = rw (lt-ltb e.position.samples.0 count_limit h) (and-true (known_tag e))

-- the three 32-bit fields of a record
pub entry-small : (table : List ℕ) (at : ℕ) → Bytes table → Small (entry_at table at).position
unfolding entry_at
entry-small table at b =
    record {
      cursor_small = omega (arith, le-lt 4 table (at + 4) b);
      frames_small = omega (arith, le-lt 4 table (at + 8) b);
      blocks_small = omega (arith, le-lt 4 table (at + 12) b);
    }

-- ---- a question of each

-- what a loop keeps that asks one: so many records are behind it, and asking those that are left, from there on, is asking all
pub record Asking (test : ChunkIndexEntry → Bool) (question number : ℕ) (left es : List ChunkIndexEntry) : Type 0 where
  pub many : number + length left ≡ length es
  pub rest : ask_each test question (number * entry_len) left ≡ ask_each test question 0 es

pub asking_start : (test : ChunkIndexEntry → Bool) (question : ℕ) {number : ℕ} {left es : List ChunkIndexEntry} → number ≡ 0 → left ≡ es
    → Asking test question number left es
asking_start test question n e = record { many = omega (arith, n, ap length e); rest = rw (n) (ap (ask_each test question 0) e) }

module _ {test : ChunkIndexEntry → Bool} {question number : ℕ} {left es : List ChunkIndexEntry} (k : Asking test question number left es) where
  pub asking_on : {e : ChunkIndexEntry} {later : List ChunkIndexEntry} {next : ℕ} → left ≡ e ∷ later → test e ≡ true → next ≡ number + 1
      → Asking test question next later es
  unfolding ask_each
  asking_on {e} {later} {next} is t n =
      let offset : next * entry_len ≡ number * entry_len + entry_len = omega (arith, n) in
      record {
        many = omega (arith, k.many, ap length is, n);
        rest = rw (offset) (rw (t) at (ap (ask_each test question (number * entry_len)) (sym is) ∙ k.rest));
      }

  pub asking_no : {e : ChunkIndexEntry} {later : List ChunkIndexEntry} {at : ℕ} → left ≡ e ∷ later → test e ≡ false → at ≡ number
      → refused (numbered question (at * entry_len)) ≡ ask_each test question 0 es
  unfolding ask_each
  asking_no {e} {later} {at} is t n = rw n (rw t at (ap (ask_each test question (number * entry_len)) (sym is) ∙ k.rest))

  pub asking_end : left ≡ [] → accepted tt ≡ ask_each test question 0 es
  unfolding ask_each
  asking_end is = rw is at k.rest

-- ---- few enough samples

most-least : (most : ℕ) (es : List ChunkIndexEntry) → most ≤ most_samples most es
unfolding most_samples
most-least most [] = omega arith
most-least most (e ∷ es) = omega (arith, most-least (max most e.position.samples.0) es)

-- where the most samples are below a limit, a question that all counts below it pass is passed by each record
pub each_below : (limit : ℕ) (test : ChunkIndexEntry → Bool) → ((e : ChunkIndexEntry) → e.position.samples.0 < limit → test e ≡ true)
    → (number place most : ℕ) (es : List ChunkIndexEntry) → most_samples most es < limit → ask_each test number place es ≡ accepted tt
unfolding ask_each most_samples
each_below limit test t number place most [] h = refl
each_below limit test t number place most (e ∷ es) h =
    rw (t e (omega (arith, most-least (max most e.position.samples.0) es)))
    (each_below limit test t number (place + entry_len) (max most e.position.samples.0) es h)

-- ---- what the pass says of the questions

asked : Answer ℕ → Answer Unit
asked (accepted n) = accepted tt
asked (refused r) = refused r

module _ (table : List ℕ) {r : Result ℕ AmvError} (s : said r ≡ and_then (whole_records table) (λ _. pass_over 0 0 (entries_of table))) where
  pub table_ok : {n : ℕ} → r ≡ Ok n → (table_questions table ≡ accepted tt) × (n ≡ most_samples 0 (entries_of table))
  table_ok e =
      let whole = then-passed (whole_records table) (λ _. pass_over 0 0 (entries_of table)) (sym s ∙ ap said e) in
      let good = then-passed (good_entries (entries_of table)) (λ _. accepted (most_samples 0 (entries_of table))) whole.1 in
      (rw (whole.0, good.0), sym (accepted-same good.1))

  pub table_err : {f : AmvError} → r ≡ Err f → table_questions table ≡ refused (refusal_of f)
  unfolding asked
  table_err {f} e = go (refusal_of f) (whole_records table) (good_entries (entries_of table)) (sym s ∙ ap said e)
    where
      go : (q : Refusal) (x y : Answer Unit) → and_then x (λ _. and_then y (λ _. accepted (most_samples 0 (entries_of table)))) ≡ refused q
          → and_then x (λ _. y) ≡ refused q
      go q (accepted u) (accepted v) h = never h
      go q (accepted u) (refused r) h = ap asked h
      go q (refused r) y h = ap asked h

-- ---- the pass that keeps the most samples

-- what its loop keeps of all records: so many are behind it, and the pass over those that are left, from there on, is the pass over all
pub record Passing (number most : ℕ) (left es : List ChunkIndexEntry) : Type 0 where
  pub many : number + length left ≡ length es
  pub rest : pass_over (number * entry_len) most left ≡ pass_over 0 0 es

pub passing_start : {number : ℕ} {left es : List ChunkIndexEntry} → number ≡ 0 → left ≡ es → Passing number 0 left es
passing_start {number} {left} {es} n e =
    record {
      many = omega (arith, n, ap length e);
      rest = rw (n) (ap (pass_over 0 0) e);
    }

module _ {number most : ℕ} {left es : List ChunkIndexEntry} (k : Passing number most left es) where
  pub passing_on : {e : ChunkIndexEntry} {later : List ChunkIndexEntry} {next more : ℕ} → left ≡ e ∷ later → good_entry e ≡ true → next ≡ number + 1
      → more ≡ max most e.position.samples.0 → Passing next more later es
  unfolding ask_each most_samples
  passing_on {e} {later} {next} {more} is g n m =
      let offset : next * entry_len ≡ number * entry_len + entry_len = omega (arith, n) in
      record {
        many = omega (arith, k.many, ap length is, n);
        rest = rw (offset, m) (rw (g) at (ap (pass_over (number * entry_len) most) (sym is) ∙ k.rest));
      }

  pub passing_no : {e : ChunkIndexEntry} {later : List ChunkIndexEntry} {at : ℕ} → left ≡ e ∷ later → good_entry e ≡ false → at ≡ number
      → refused (numbered 43 (at * entry_len)) ≡ pass_over 0 0 es
  unfolding ask_each
  passing_no {e} {later} {at} is g n = rw n (rw g at (ap (pass_over (number * entry_len) most) (sym is) ∙ k.rest))

  pub passing_end : left ≡ [] → accepted most ≡ pass_over 0 0 es
  unfolding ask_each most_samples
  passing_end is = rw is at k.rest
