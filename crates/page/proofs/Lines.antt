-- A line of the page and a turn of the loops: how long it is, when the samples are narrow, and that lines one after another make the page;
-- and how its questions can end.
-- Assumes nothing.
use mathlib.Core.Path.{◌≡◌, refl, sym, ap, subst}
use mathlib.Core.Bool.{Bool, true, false}
use mathlib.Core.List.{List, [], ◌∷◌, ◌++◌}
use Prim.Native.Nat.{ℕ, zero, suc, ◌+◌, ◌*◌, ◌/◌, ◌≤◌, ◌<◌}
use native.Mathlib.Decide.{dec_le}
use native.Mathlib.Omega.{arith}
use borrow.Author.Tests.{le-leb, lt-leb, leb-true, leb-false}
use lib.Dec.{leb, eqb}
use lib.ListN.{length, length-append}
use Rattle.error.specs.Answer.{Answer, accepted, refused, numbered, ask, and_then}
use Rattle.error.specs.declared.Refusal.{Refusal}
use Rattle.error.proofs.Answers.{never, clash, ask-passed}
use Rattle.fields.specs.Le.{Bytes, put}
use Rattle.fields.proofs.Laws.{le-lt}
use Rattle.chunk.specs.Chunk.{video_tag}
use Rattle.chunk_index.specs.Entry.{entry_len, entry_at, entries_from, entries_of}
use Rattle.chunk_index.specs.declared.entry.ChunkIndexEntry.{ChunkIndexEntry}
use Rattle.table.specs.Table.{ask_each, table_questions}
use Rattle.table.proofs.Records.{entry-small}
use Rattle.text.specs.Text.{decimal, kind, right}
use Rattle.text.proofs.Digits.{decimal_fit, decimal_many}
use Rattle.text.proofs.Laws.{join, puts_nothing, length-right}
use Rattle.text.specs.Puts.{Puts}
use Rattle.text.specs.declared.Text.{Text}
use Rattle.page.specs.Page.{columns, narrow_samples, page_line, page_lines, page_questions, print_of}
use Rattle.page.specs.Sentences.{Each}
use Rattle.page.specs.Steps.{Fits}

-- ---- 18 digits

pub narrow_below : (e : ChunkIndexEntry) → e.position.samples.0 < 1000000000000000000 → narrow_samples e ≡ true
narrow_below e h = le-leb (length (decimal e.position.samples.0)) 18 (decimal_fit 17 e.position.samples.0 (omega arith))

pub narrow-above : (e : ChunkIndexEntry) → 1000000000000000000 ≤ e.position.samples.0 → e.position.samples.0 < 18446744073709551616
    → narrow_samples e ≡ false
narrow-above e h b = lt-leb (length (decimal e.position.samples.0)) 18 (decimal_many 18 e.position.samples.0 b (omega arith))

-- a record that is read from bytes and has passed 70 fits its line
pub entry-fits : (table : List ℕ) (at : ℕ) → Bytes table → narrow_samples (entry_at table at) ≡ true → Fits (entry_at table at)
unfolding entry_at
entry-fits table at b n =
    record {
      small = entry-small table at b;
      samples_narrow =
          elim (dec_le 1000000000000000000 (entry_at table at).position.samples.0) [
            | yes h ↦ clash n (narrow-above (entry_at table at) h (omega (arith, le-lt 8 table (at + 16) b)))
            | no h ↦ omega arith
          ];
    }

-- so all of them do that are read from bytes and have passed it
all_fit : (n : ℕ) (table : List ℕ) (at place : ℕ) → Bytes table → ask_each narrow_samples 70 place (entries_from n table at) ≡ accepted tt
    → Each Fits (entries_from n table at)
unfolding ask_each entries_from
all_fit zero table at place b a = tt
all_fit (suc n) table at place b a =
    let p = ask-passed (narrow_samples (entry_at table at)) 70 place (ask_each narrow_samples 70 (place + entry_len) (entries_from n table (at + entry_len))) a in
    (entry-fits table at b p.0, all_fit n table (at + entry_len) (place + entry_len) b p.1)

-- ---- the loop that puts the lines

-- what it keeps: the records that are left fit their lines, for which there is room, and whoever puts those has put all
pub record Putting (first now : Text) (left es : List ChunkIndexEntry) : Type 0 where
  pub fitting : Each Fits left
  pub room : now.len + columns * length left ≤ length now.buffer.now
  pub all : (last : Text) → Puts now (page_lines left) last → Puts first (page_lines es) last

pub putting_start : {first : Text} (table : List ℕ) {left : List ChunkIndexEntry} → Bytes table
    → first.len + columns * length (entries_of table) ≤ length first.buffer.now → ask_each narrow_samples 70 0 (entries_of table) ≡ accepted tt
    → left ≡ entries_of table → Putting first first left (entries_of table)
putting_start {first} table {left} b room narrow is =
    rw is (record { fitting = all_fit (length table / entry_len) table 0 0 b narrow; room = room; all = λ last p. p })

module _ {first now : Text} {left es : List ChunkIndexEntry} (k : Putting first now left es) where
  module _ {e : ChunkIndexEntry} {later : List ChunkIndexEntry} (is : left ≡ e ∷ later) where
    pub putting_fits : Fits e
    putting_fits = (subst (Each Fits) is k.fitting).0

    pub putting_room : now.len + columns ≤ length now.buffer.now
    putting_room = omega (arith, k.room, ap length is)

    pub putting_on : {next : Text} → Puts now (page_line e) next → next.len ≡ now.len + columns → Putting first next later es
    unfolding page_lines
    putting_on {next} put n =
        record {
          fitting = (subst (Each Fits) is k.fitting).1;
          room = omega (arith, k.room, ap length is, put.same_size, n);
          all = λ last p. k.all last (subst (λ (l : List ChunkIndexEntry). Puts now (page_lines l) last) (sym is) (join put p));
        }

  pub putting_end : left ≡ [] → Puts first (page_lines es) now
  unfolding page_lines
  putting_end is =
      let here : now.len ≤ length now.buffer.now = omega (arith, k.room) in
      k.all now (subst (λ (l : List ChunkIndexEntry). Puts now (page_lines l) now) (sym is) (puts_nothing here))

-- ---- a line

pub length-kind : (e : ChunkIndexEntry) → length (kind (eqb e.tag video_tag)) ≡ 1
length-kind e = go (eqb e.tag video_tag)
  where
    go : (b : Bool) → length (kind b) ≡ 1
    go true = refl
    go false = refl

-- the three numbers fit their columns
pub record Narrow (e : ChunkIndexEntry) : Type 0 where
  pub offset : length (decimal e.position.cursor) ≤ 10
  pub frames : length (decimal e.position.frames.0) ≤ 10
  pub samples : length (decimal e.position.samples.0) ≤ 18

pub narrow : (e : ChunkIndexEntry) → Fits e → Narrow e
narrow e f =
    record {
      offset = decimal_fit 9 e.position.cursor (omega (arith, f.small.cursor_small));
      frames = decimal_fit 9 e.position.frames.0 (omega (arith, f.small.frames_small));
      samples = decimal_fit 17 e.position.samples.0 (omega (arith, f.samples_narrow));
    }

pub length-line : (e : ChunkIndexEntry) → Fits e → length (page_line e) ≡ columns
unfolding page_line
length-line e f =
    let n = narrow e f in
    let k : List ℕ = kind (eqb e.tag video_tag) in
    let a : List ℕ = right 10 e.position.cursor in
    let b : List ℕ = right 10 e.position.frames.0 in
    let c : List ℕ = right 19 e.position.samples.0 in
    omega (
      arith,
      length-kind e,
      length-right 10 e.position.cursor n.offset,
      length-right 10 e.position.frames.0 n.frames,
      length-right 19 e.position.samples.0 (omega (arith, n.samples)),
      length-append k (a ++ (b ++ c)),
      length-append a (b ++ c),
      length-append b c,
    )

-- ---- what the questions let pass

pub record Passed (table : List ℕ) (room : ℕ) : Type 0 where
  pub good : table_questions table ≡ accepted tt
  pub narrow : ask_each narrow_samples 70 0 (entries_of table) ≡ accepted tt
  pub fits : columns * length (entries_of table) ≤ room

-- the questions end in one of four ways: 41 or 43 says no; both say yes and 70 says no; all three say yes and 40 says no; all say yes
abbrev done : Answer Unit
done = accepted tt

module _ (table : List ℕ) (room : ℕ) (P : Answer Unit → Type 0)
    (bad : (r : Refusal) → table_questions table ≡ refused r → P (refused r))
    (wide : (r : Refusal) → table_questions table ≡ done → ask_each narrow_samples 70 0 (entries_of table) ≡ refused r → P (refused r))
    (short : table_questions table ≡ done → ask_each narrow_samples 70 0 (entries_of table) ≡ done → room < columns * length (entries_of table)
    → P (refused (numbered 40 0)))
    (passes : Passed table room → P done) where
  by_room : table_questions table ≡ done → ask_each narrow_samples 70 0 (entries_of table) ≡ done → (b : Bool)
      → leb (columns * length (entries_of table)) room ≡ b → P (ask b 40 0 done)
  by_room g n true e = passes (record { good = g; narrow = n; fits = leb-true _ _ e })
  by_room g n false e = short g n (leb-false _ _ e)

  by_samples : table_questions table ≡ done → (y : Answer Unit) → ask_each narrow_samples 70 0 (entries_of table) ≡ y
      → P (and_then y (λ _. ask (leb (columns * length (entries_of table)) room) 40 0 done))
  by_samples g (accepted u) e = by_room g e _ refl
  by_samples g (refused r) e = wide r g e

  by_table : (x : Answer Unit) → table_questions table ≡ x
      → P
      (and_then x (λ _. and_then (ask_each narrow_samples 70 0 (entries_of table)) (λ _. ask (leb (columns * length (entries_of table)) room) 40 0 done)))
  by_table (accepted u) e = by_samples e _ refl
  by_table (refused r) e = bad r e

  pub page_cases : P (page_questions table room)
  unfolding page_questions
  page_cases = by_table _ refl

pub questions_passed : (table : List ℕ) (room : ℕ) → page_questions table room ≡ accepted tt → Passed table room
questions_passed table room =
    page_cases table room (λ (q : Answer Unit). q ≡ accepted tt → Passed table room)
    (λ r e h. never (sym h))
    (λ r g e h. never (sym h))
    (λ g n e h. never (sym h))
    (λ p h. p)

module _ (table page : List ℕ) where
  pub print_refused : {r : Refusal} → page_questions table (length page) ≡ refused r → print_of table page ≡ record { answer = refused r; page = page }
  unfolding print_of
  print_refused e = rw e

  pub printed : page_questions table (length page) ≡ accepted tt
      → print_of table page ≡ record { answer = accepted (length (entries_of table)); page = put page 0 (page_lines (entries_of table)) }
  unfolding print_of
  printed e = rw e
