-- 02's sentences about the page hold. An accepted page has passed the questions, so each of its records has a line; the lines are taken off one by
-- one and read back. A refusal is one of three (`page_cases`). Assumes nothing.
use mathlib.Core.Path.{◌≡◌, refl, sym, ap, ◌∙◌, subst}
use mathlib.Core.Bool.{true, false}
use mathlib.Core.List.{List, [], ◌∷◌, ◌++◌, map}
use Prim.Native.Nat.{ℕ, zero, suc, ◌+◌, ◌*◌, ◌/◌, ◌<◌}
use native.Mathlib.Nat.{zero-add}
use native.Mathlib.Omega.{arith}
use lib.ListN.{length, take, drop}
use lib.Seq.{drop_at}
use Rattle.error.specs.Answer.{Answer, accepted, refused, numbered, number_of, and_then}
use Rattle.error.specs.Sentences.{one_of, RefusedBy}
use Rattle.error.specs.declared.Refusal.{Refusal}
use Rattle.error.proofs.Answers.{never, clash, accepted-same}
use Rattle.fields.specs.Le.{Bytes, put}
use Rattle.fields.proofs.Laws.{front_put}
use Rattle.chunk_index.specs.Entry.{entry_len, entries_from, entries_of}
use Rattle.chunk_index.specs.declared.entry.ChunkIndexEntry.{ChunkIndexEntry}
use Rattle.table.specs.Table.{good_entry}
use Rattle.table.specs.Sentences.{AllPass, FirstNo, Good}
use Rattle.table.proofs.Sentences.{each_by, table_by, good, each_sentences}
use Rattle.page.specs.Page.{narrow_samples, page_line, page_lines, page_questions, printed_from, print_of}
use Rattle.page.specs.Reading.{read_line, lines_of}
use Rattle.page.specs.Sentences.{Each, GoodLine, AllAligned, shown_of, PageSentences}
use Rattle.page.proofs.Lines.{narrow_below, narrow-above, entry-fits, Passed, page_cases, questions_passed}
use Rattle.page.proofs.Reading.{Lined, length-lines, lines_back, all_read, all_aligned, all_good}

-- ---- an accepted page

pub record Accepted (table page : List ℕ) (n : ℕ) : Type 0 where
  pub passed : Passed table (length page)
  pub lines : n ≡ length (entries_of table)
  pub bytes : (print_of table page).page ≡ put page 0 (page_lines (entries_of table))

accept : (table page : List ℕ) (n : ℕ) → (print_of table page).answer ≡ accepted n → Accepted table page n
unfolding print_of
accept table page n = go (page_questions table (length page)) refl
  where
    go : (q : Answer Unit) → page_questions table (length page) ≡ q → (printed_from page (entries_of table) q).answer ≡ accepted n → Accepted table page n
    go (refused r) e a = never (sym a)
    go (accepted u) e a =
        record {
          passed = questions_passed table (length page) e;
          lines = sym (accepted-same a);
          bytes = rw e;
        }

-- each record of it has a line
lined : (n : ℕ) (table : List ℕ) (at : ℕ) → Bytes table → AllPass good_entry (entries_from n table at) → AllPass narrow_samples (entries_from n table at)
    → Each Lined (entries_from n table at)
unfolding entries_from
lined zero table at b g w = tt
lined (suc n) table at b g w =
    (record { fits = entry-fits table at b w.0; good = g.0 }, lined n table (at + entry_len) b g.1 w.1)

module _ (table page : List ℕ) (n : ℕ) (b : Bytes table) (h : (print_of table page).answer ≡ accepted n) where
  abbrev es : List ChunkIndexEntry
  es = entries_of table

  abbrev a : Accepted table page n
  a = accept table page n h

  all_lined : Each Lined es
  all_lined =
      lined (length table / entry_len) table 0 b (good table a.passed.good).records
      (each_sentences.accepted_all narrow_samples 70 es a.passed.narrow)

  size : length (page_lines es) ≡ 40 * n
  size = omega (arith, length-lines es all_lined, a.lines)

  -- the page is its lines and what stood after them
  page-is : (print_of table page).page ≡ page_lines es ++ drop (length (page_lines es)) page
  unfolding put
  page-is = a.bytes ∙ ap (λ (m : ℕ). page_lines es ++ drop m page) (zero-add (length (page_lines es)))

  its_lines : lines_of n (print_of table page).page ≡ map page_line es
  its_lines =
      ap (λ (p : List ℕ). lines_of n p) page-is
      ∙ ap (λ (m : ℕ). lines_of m (page_lines es ++ drop (length (page_lines es)) page)) a.lines
      ∙ lines_back es all_lined (drop (length (page_lines es)) page)

  its_bytes : take (40 * n) (print_of table page).page ≡ page_lines es
  its_bytes = ap (λ (k : ℕ). take k (print_of table page).page) (sym size) ∙ front_put page (page_lines es) a.bytes

  reads_back : map read_line (lines_of n (print_of table page).page) ≡ map shown_of es
  reads_back = ap (map read_line) its_lines ∙ all_read es all_lined

  lines : Each GoodLine (lines_of n (print_of table page).page)
  lines = rw its_lines (all_good es all_lined)

  aligned : AllAligned (lines_of n (print_of table page).page) es
  aligned = rw its_lines (all_aligned es all_lined)

  later : drop (40 * n) (print_of table page).page ≡ drop (40 * n) page
  later =
      ap (drop (40 * n)) page-is
      ∙ drop_at (page_lines es) (drop (length (page_lines es)) page) (40 * n) size
      ∙ ap (λ (k : ℕ). drop k page) size

tells_apart : (table page table' page' : List ℕ) (n n' : ℕ) → Bytes table → Bytes table' → (print_of table page).answer ≡ accepted n
    → (print_of table' page').answer ≡ accepted n' → take (40 * n) (print_of table page).page ≡ take (40 * n') (print_of table' page').page
    → map shown_of (entries_of table) ≡ map shown_of (entries_of table')
tells_apart table page table' page' n n' b b' h h' e =
    let same : page_lines (entries_of table) ≡ page_lines (entries_of table') =
    sym (its_bytes table page n b h) ∙ e ∙ its_bytes table' page' n' b' h' in
    let many : length (entries_of table) ≡ length (entries_of table') =
    omega (
      arith,
      ap length same,
      length-lines (entries_of table) (all_lined table page n b h),
      length-lines (entries_of table') (all_lined table' page' n' b' h'),
    ) in
    sym (all_read (entries_of table) (all_lined table page n b h))
    ∙ ap (map read_line)
    (sym (lines_back (entries_of table) (all_lined table page n b h) [])
    ∙ ap (λ (m : ℕ). lines_of m (page_lines (entries_of table) ++ [])) many
    ∙ ap (λ (p : List ℕ). lines_of (length (entries_of table')) (p ++ [])) same
    ∙ lines_back (entries_of table') (all_lined table' page' n' b' h') [])
    ∙ all_read (entries_of table') (all_lined table' page' n' b' h')

-- ---- a refusal

asked : (table : List ℕ) (room : ℕ) → RefusedBy (41 ∷ 43 ∷ 70 ∷ 40 ∷ []) (page_questions table room)
asked table room =
    let ns : List ℕ = 41 ∷ 43 ∷ 70 ∷ 40 ∷ [] in
    page_cases table room (RefusedBy ns)
    (λ r e. subst (RefusedBy ns) e (table_by ns refl refl table))
    (λ r g e. subst (RefusedBy ns) e (each_by ns narrow_samples 70 refl 0 (entries_of table)))
    (λ g n e. refl)
    (λ p. tt)

module _ (table page : List ℕ) where
  gives_back : (r : Refusal) → (print_of table page).answer ≡ refused r → (print_of table page).page ≡ page
  unfolding print_of
  gives_back r = go (page_questions table (length page))
    where
      go : (q : Answer Unit) → (printed_from page (entries_of table) q).answer ≡ refused r → (printed_from page (entries_of table) q).page ≡ page
      go (accepted u) h = never h
      go (refused q) h = refl

  numbers : RefusedBy (41 ∷ 43 ∷ 70 ∷ 40 ∷ []) (print_of table page).answer
  unfolding print_of
  numbers = go (page_questions table (length page)) (asked table (length page))
    where
      go : (q : Answer Unit) → RefusedBy (41 ∷ 43 ∷ 70 ∷ 40 ∷ []) q → RefusedBy (41 ∷ 43 ∷ 70 ∷ 40 ∷ []) (printed_from page (entries_of table) q).answer
      go (accepted u) h = tt
      go (refused r) h = h

  questions_refused : (r : Refusal) → (print_of table page).answer ≡ refused r → page_questions table (length page) ≡ refused r
  unfolding print_of
  questions_refused r = go (page_questions table (length page))
    where
      go : (q : Answer Unit) → (printed_from page (entries_of table) q).answer ≡ refused r → q ≡ refused r
      go (accepted u) h = never h
      go (refused q) h = ap {A = Answer ℕ} {B = Answer Unit} (λ a. and_then a (λ _. accepted tt)) h

  -- a number that is none of some is no refusal's that they list
  not_by : (ns : List ℕ) (q : Refusal) (m at : ℕ) → RefusedBy {A = Unit} ns (refused q) → ◌≡◌ {A = Answer Unit} (refused q) (refused (numbered m at))
      → one_of ns m ≡ false → {B : Type 0} → B
  not_by ns q m at h e f = clash (subst (λ (k : ℕ). one_of ns k ≡ true) (ap {A = Answer Unit} number_of e) h) f

  seventy : (at : ℕ) → (print_of table page).answer ≡ refused (numbered 70 at) → Good table × FirstNo narrow_samples (entries_of table) at
  seventy at h =
      page_cases table (length page)
      (λ (q : Answer Unit). q ≡ refused (numbered 70 at) → Good table × FirstNo narrow_samples (entries_of table) at)
      (λ r e a. not_by (41 ∷ 43 ∷ []) r 70 at (subst (RefusedBy (41 ∷ 43 ∷ [])) e (table_by (41 ∷ 43 ∷ []) refl refl table)) a refl)
      (λ r g e a. (good table g, (each_sentences.refused_first narrow_samples 70 (entries_of table) (numbered 70 at) (e ∙ a)).1))
      (λ g n e a. not_by (40 ∷ []) (numbered 40 0) 70 at refl a refl)
      (λ p a. never a)
      (questions_refused (numbered 70 at) h)

  forty : (at : ℕ) → (print_of table page).answer ≡ refused (numbered 40 at)
      → Good table × AllPass narrow_samples (entries_of table) × (length page < 40 * length (entries_of table))
  forty at h =
      page_cases table (length page)
      (λ (q : Answer Unit). q ≡ refused (numbered 40 at)
      → Good table × AllPass narrow_samples (entries_of table) × (length page < 40 * length (entries_of table)))
      (λ r e a. not_by (41 ∷ 43 ∷ []) r 40 at (subst (RefusedBy (41 ∷ 43 ∷ [])) e (table_by (41 ∷ 43 ∷ []) refl refl table)) a refl)
      (λ r g e a. not_by (70 ∷ []) r 40 at (subst (RefusedBy (70 ∷ [])) e (each_by (70 ∷ []) narrow_samples 70 refl 0 (entries_of table))) a refl)
      (λ g n e a. (good table g, each_sentences.accepted_all narrow_samples 70 (entries_of table) n, e))
      (λ p a. never a)
      (questions_refused (numbered 40 at) h)

pub page_sentences : PageSentences
page_sentences =
    record {
      count = λ table page n h. let a = accept table page n h in (a.lines, omega (arith, a.lines, a.passed.fits));
      lines = lines;
      aligned = aligned;
      reads_back = reads_back;
      tells_apart = tells_apart;
      later = later;
      wide = narrow-above;
      narrow = narrow_below;
      seventy = seventy;
      forty = forty;
      gives_back = λ table page. gives_back table page;
      numbers = numbers;
    }
