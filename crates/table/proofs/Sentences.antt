-- The questions over a table: where the first no stands, by induction over the records, and its number. Assumes nothing.
use mathlib.Core.Path.{◌≡◌, refl, sym, ap, ◌∙◌, subst}
use Prim.Native.Nat.{ℕ, ◌+◌, ◌*◌, ◌%◌}
use mathlib.Core.Bool.{Bool, true, false}
use mathlib.Core.List.{List, [], ◌∷◌, ◌++◌}
use native.Mathlib.Omega.{arith}
use borrow.Author.Tests.{eq-eqb, eqb-true, ne_eqb}
use lib.Dec.{eqb}
use lib.ListN.{length}
use Rattle.error.specs.Answer.{Answer, accepted, refused, numbered, number_of, place_of, ask}
use Rattle.error.specs.declared.Refusal.{Refusal}
use Rattle.error.proofs.Answers.{never, then-passed, ask-passed}
use Rattle.error.specs.Sentences.{one_of, RefusedBy}
use Rattle.error.proofs.Sentences.{asked_by, then_by}
use Rattle.chunk_index.specs.Entry.{entry_len, entries_of}
use Rattle.chunk_index.specs.declared.entry.ChunkIndexEntry.{ChunkIndexEntry}
use Rattle.table.specs.Table.{ask_each, whole_records, good_entry, good_entries, table_questions}
use Rattle.table.specs.Sentences.{AllPass, FirstNo, Good, EachSentences}

module _ (numbers : List ℕ) where
  whole_by : one_of numbers 41 ≡ true → (table : List ℕ) → RefusedBy numbers (whole_records table)
  whole_by n table = asked_by numbers (eqb (length table % entry_len) 0) 41 0 (accepted tt) n tt

  pub each_by : (test : ChunkIndexEntry → Bool) (number : ℕ) → one_of numbers number ≡ true → (place : ℕ) (es : List ChunkIndexEntry)
      → RefusedBy numbers (ask_each test number place es)
  unfolding ask_each
  each_by test number n place [] = tt
  each_by test number n place (e ∷ es) = asked_by numbers (test e) number place _ n (each_by test number n (place + entry_len) es)

  pub table_by : one_of numbers 41 ≡ true → one_of numbers 43 ≡ true → (table : List ℕ) → RefusedBy numbers (table_questions table)
  table_by a b table =
      then_by numbers (whole_records table) (λ _. good_entries (entries_of table)) (whole_by a table) (λ u. each_by good_entry 43 b 0 (entries_of table))

-- ---- the first no

module _ (test : ChunkIndexEntry → Bool) (number : ℕ) where
  -- from an offset on
  record From (place : ℕ) (es : List ChunkIndexEntry) (r : Refusal) : Type 0 where
    numbered_so : r.number ≡ number
    offset : ℕ
    from : r.place ≡ place + offset
    first : FirstNo test es offset

  refused-from : (place : ℕ) (es : List ChunkIndexEntry) (r : Refusal) → ask_each test number place es ≡ refused r → From place es r
  unfolding ask_each
  refused-from place [] r h = never h
  refused-from place (e ∷ es) r h = go (test e) refl h (refused-from (place + entry_len) es r)
    where
      go : (b : Bool) → test e ≡ b → ask b number place (ask_each test number (place + entry_len) es) ≡ refused r
          → (ask_each test number (place + entry_len) es ≡ refused r → From (place + entry_len) es r) → From place (e ∷ es) r
      go false t h later =
          record {
            numbered_so = ap {A = Answer Unit} number_of (sym h);
            offset = 0;
            from = ap {A = Answer Unit} place_of (sym h) ∙ omega arith;
            first = record { before = []; first = e; later = es; is = refl; passed = tt; no = t; there = refl };
          }
      go true t h later =
          let f = later h in
          let g = f.first in
          record {
            numbered_so = f.numbered_so;
            offset = entry_len + f.offset;
            from = omega (arith, f.from);
            first =
                record {
                  before = e ∷ g.before;
                  first = g.first;
                  later = g.later;
                  is = ap (λ (l : List ChunkIndexEntry). e ∷ l) g.is;
                  passed = (t, g.passed);
                  no = g.no;
                  there = omega (arith, g.there);
                };
          }

  first-no : (es : List ChunkIndexEntry) (r : Refusal) → ask_each test number 0 es ≡ refused r → (r.number ≡ number) × FirstNo test es r.place
  first-no es r h =
      let f = refused-from 0 es r h in
      let o : f.offset ≡ r.place = omega (arith, f.from) in
      (f.numbered_so, subst (FirstNo test es) o f.first)

  -- and where one stands, it is the answer
  no-from : (place : ℕ) (before : List ChunkIndexEntry) (e : ChunkIndexEntry) (later : List ChunkIndexEntry) → AllPass test before → test e ≡ false
      → ask_each test number place (before ++ (e ∷ later)) ≡ refused (numbered number (place + 24 * length before))
  unfolding ask_each
  no-from place [] e later p n =
      let z : place ≡ place + 24 * 0 = omega arith in
      rw n (ap (λ (at : ℕ). refused (numbered number at)) z)
  no-from place (x ∷ before) e later p n =
      let z : place + entry_len + 24 * length before ≡ place + 24 * length (x ∷ before) = omega arith in
      rw p.0 (no-from (place + entry_len) before e later p.1 n ∙ ap (λ (at : ℕ). refused (numbered number at)) z)

  no-first : (es : List ChunkIndexEntry) (at : ℕ) → FirstNo test es at → ask_each test number 0 es ≡ refused (numbered number at)
  no-first es at f =
      let z : 0 + 24 * length f.before ≡ at = omega (arith, f.there) in
      ap (ask_each test number 0) f.is ∙ no-from 0 f.before f.first f.later f.passed f.no
      ∙ ap (λ (n : ℕ). refused (numbered number n)) z

  all_pass : (place : ℕ) (es : List ChunkIndexEntry) → ask_each test number place es ≡ accepted tt → AllPass test es
  unfolding ask_each
  all_pass place [] h = tt
  all_pass place (e ∷ es) h =
      let p = ask-passed (test e) number place (ask_each test number (place + entry_len) es) h in
      (p.0, all_pass (place + entry_len) es p.1)

  pass_all : (place : ℕ) (es : List ChunkIndexEntry) → AllPass test es → ask_each test number place es ≡ accepted tt
  unfolding ask_each
  pass_all place [] h = refl
  pass_all place (e ∷ es) h = rw h.0 (pass_all (place + entry_len) es h.1)

pub each_sentences : EachSentences
each_sentences =
    record {
      refused_first = first-no;
      first_refused = no-first;
      accepted_all = λ test number. all_pass test number 0;
      all_accepted = λ test number. pass_all test number 0;
    }

-- ---- a table that 41 and 43 let pass

module _ (table : List ℕ) where
  pub good : table_questions table ≡ accepted tt → Good table
  good h =
      let p = then-passed (whole_records table) (λ _. good_entries (entries_of table)) h in
      record {
        whole = eqb-true _ _ (ask-passed (eqb (length table % entry_len) 0) 41 0 (accepted tt) p.0).0;
        records = each_sentences.accepted_all good_entry 43 (entries_of table) p.1;
      }

  pub good_back : Good table → table_questions table ≡ accepted tt
  good_back g = rw (eq-eqb (length table % entry_len) 0 g.whole, each_sentences.all_accepted good_entry 43 (entries_of table) g.records)

  -- and what they do not
  pub ragged : (length table % 24 ≡ 0 → ⊥) → table_questions table ≡ refused (numbered 41 0)
  ragged n = rw (ne_eqb (length table % entry_len) 0 n)

  pub bad_record : {at : ℕ} → length table % 24 ≡ 0 → FirstNo good_entry (entries_of table) at → table_questions table ≡ refused (numbered 43 at)
  bad_record {at} h f = rw (eq-eqb (length table % entry_len) 0 h, each_sentences.first_refused good_entry 43 (entries_of table) at f)
