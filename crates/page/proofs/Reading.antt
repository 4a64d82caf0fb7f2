-- A line is read back: spaces add nothing, digits are worth the number, and each field stands in its columns. Assumes nothing.
use mathlib.Core.Path.{◌≡◌, refl, sym, ap, ◌∙◌, subst}
use Rattle.std.proofs.Common.{Some}
use mathlib.Core.Bool.{Bool, true, false, ◌||◌}
use mathlib.Core.List.{List, [], ◌∷◌, ◌++◌, map, append_assoc}
use Prim.Native.Nat.{ℕ, zero, suc, ◌+◌, ◌-◌, ◌*◌, ◌≤◌, ◌<◌}
use native.Mathlib.Omega.{arith}
use borrow.Author.Tests.{ne_eqb, eqb-true}
use lib.Dec.{eqb, ltb}
use lib.ListN.{length, take, drop, get_or, length-append}
use lib.Seq.{take_at, drop_at, drop-drop, take_all, get_or-drop}
use Rattle.error.proofs.Answers.{both}
use Rattle.chunk.specs.Chunk.{video_tag, audio_tag}
use Rattle.demuxer.specs.Position.{count_limit}
use Rattle.chunk_index.specs.declared.entry.ChunkIndexEntry.{ChunkIndexEntry}
use Rattle.table.specs.Table.{good_entry}
use Rattle.text.specs.Text.{decimal, kind, spaces, right}
use Rattle.text.proofs.Digits.{worth, Digits, digits-digits, decimal-worth, decimal_head, decimal-zero}
use Rattle.text.proofs.Laws.{length-right}
use Rattle.page.specs.Page.{columns, page_line, page_lines}
use Rattle.page.specs.Reading.{from_to, number_in, tag_in, Shown, read_line, lines_of}
use Rattle.page.specs.Sentences.{Each, Printable, GoodLine, RightAligned, Aligned, AllAligned, shown_of}
use Rattle.page.specs.Steps.{Fits}
use Rattle.page.proofs.Lines.{Narrow, narrow, length-kind, length-line}

-- ---- a number in its columns

number-spaces : (n k : ℕ) (cs : List ℕ) → number_in n (spaces k ++ cs) ≡ number_in n cs
unfolding number_in
number-spaces n zero cs = refl
number-spaces n (suc k) cs = number-spaces n k cs

number_digits : (n : ℕ) (ds : List ℕ) → Digits ds → number_in n ds ≡ worth n ds
unfolding number_in worth Digits
number_digits n [] h = refl
number_digits n (d ∷ ds) h = rw (ne_eqb d 32 (λ e. omega (arith, h.0))) (number_digits (10 * n + (d - 48)) ds h.2)

-- what is printed at the right of its columns is read there
pub number-right : (width n : ℕ) → n < 18446744073709551616 → number_in 0 (right width n) ≡ n
unfolding right
number-right width n h =
    number-spaces 0 (width - length (decimal n)) (decimal n) ∙ number_digits 0 (decimal n) (digits-digits 20 n) ∙ decimal-worth n h

-- ---- right-aligned

digits-each : (ds : List ℕ) → Digits ds → Each (λ c. (48 ≤ c) × (c ≤ 57)) ds
unfolding Digits
digits-each [] h = tt
digits-each (d ∷ ds) h = ((h.0, h.1), digits-each ds h.2)

right-aligned : (width n : ℕ) → n < 18446744073709551616 → RightAligned (right width n) n
unfolding right
right-aligned width n h =
    record {
      blanks = width - length (decimal n);
      digits = decimal n;
      is = refl;
      each = digits-each (decimal n) (digits-digits 20 n);
      worth = number_digits 0 (decimal n) (digits-digits 20 n) ∙ decimal-worth n h;
      zero = λ e. ap decimal e ∙ decimal-zero;
      leading = decimal_head n h;
    }

-- ---- printable characters

each_append : (xs ys : List ℕ) → Each Printable xs → Each Printable ys → Each Printable (xs ++ ys)
each_append [] ys a b = b
each_append (x ∷ xs) ys a b = (a.0, each_append xs ys a.1 b)

spaces-printable : (k : ℕ) → Each Printable (spaces k)
spaces-printable zero = tt
spaces-printable (suc k) = ((omega arith, omega arith), spaces-printable k)

digits-printable : (ds : List ℕ) → Digits ds → Each Printable ds
unfolding Digits
digits-printable [] h = tt
digits-printable (d ∷ ds) h = ((omega (arith, h.0), omega (arith, h.1)), digits-printable ds h.2)

right-printable : (width n : ℕ) → Each Printable (right width n)
unfolding right
right-printable width n =
    each_append (spaces (width - length (decimal n))) (decimal n) (spaces-printable (width - length (decimal n)))
    (digits-printable (decimal n) (digits-digits 20 n))

kind-printable : (b : Bool) → Each Printable (kind b)
kind-printable true = ((omega arith, omega arith), tt)
kind-printable false = ((omega arith, omega arith), tt)

-- ---- a line

-- the first of more columns than digits is blank
right-blank : (width n : ℕ) → length (decimal n) < width → get_or (right width n) 0 0 ≡ 32
unfolding right
right-blank width n h = go (width - length (decimal n)) (omega arith)
  where
    go : (k : ℕ) → 0 < k → get_or (spaces k ++ decimal n) 0 0 ≡ 32
    go zero p = absurd (omega arith)
    go (suc k) p = refl

-- the letter of a good record's kind
tag_back : (e : ChunkIndexEntry) → good_entry e ≡ true → tag_in (kind (eqb e.tag video_tag)) ≡ Some e.tag
tag_back e g = go (eqb e.tag video_tag) refl (both (eqb e.tag video_tag || eqb e.tag audio_tag) (ltb e.position.samples.0 count_limit) g).0
  where
    go : (b : Bool) → eqb e.tag video_tag ≡ b → (b || eqb e.tag audio_tag) ≡ true → tag_in (kind b) ≡ Some e.tag
    go true t h = ap {A = ℕ} Some (sym (eqb-true e.tag video_tag t))
    go false t h = ap {A = ℕ} Some (sym (eqb-true e.tag audio_tag h))

-- four fields of 1, 10, 10 and 19 columns, by where they stand
module _ (k a b c : List ℕ) (lk : length k ≡ 1) (la : length a ≡ 10) (lb : length b ≡ 10) (lc : length c ≡ 19) where
  abbrev line : List ℕ
  line = k ++ (a ++ (b ++ c))

  after_one : drop 1 line ≡ a ++ (b ++ c)
  after_one = drop_at k (a ++ (b ++ c)) 1 lk

  after-eleven : drop 11 line ≡ b ++ c
  after-eleven = sym (drop-drop 10 1 line) ∙ ap (drop 10) after_one ∙ drop_at a (b ++ c) 10 la

  after-twenty-one : drop 21 line ≡ c
  after-twenty-one = sym (drop-drop 10 11 line) ∙ ap (drop 10) after-eleven ∙ drop_at b c 10 lb

  in_one : from_to 1 1 line ≡ k
  in_one = take_at k (a ++ (b ++ c)) 1 lk

  in_eleven : from_to 2 11 line ≡ a
  in_eleven = ap (take 10) after_one ∙ take_at a (b ++ c) 10 la

  in_twenty_one : from_to 12 21 line ≡ b
  in_twenty_one = ap (take 10) after-eleven ∙ take_at b c 10 lb

  in_forty : from_to 22 40 line ≡ c
  in_forty = ap (take 19) after-twenty-one ∙ take_all 19 c (omega arith)

  column_22 : get_or line 21 0 ≡ get_or c 0 0
  column_22 = sym (get_or-drop 21 line 0 0) ∙ ap (λ (l : List ℕ). get_or l 0 0) after-twenty-one

-- a record whose line is printed
pub record Lined (e : ChunkIndexEntry) : Type 0 where
  pub fits : Fits e
  pub good : good_entry e ≡ true

module _ (e : ChunkIndexEntry) (l : Lined e) where
  abbrev n : Narrow e
  n = narrow e l.fits

  abbrev letter : List ℕ
  letter = kind (eqb e.tag video_tag)

  abbrev offset : List ℕ
  offset = right 10 e.position.cursor

  abbrev frames : List ℕ
  frames = right 10 e.position.frames.0

  abbrev samples : List ℕ
  samples = right 19 e.position.samples.0

  length-offset : length offset ≡ 10
  length-offset = length-right 10 e.position.cursor n.offset

  length-frames : length frames ≡ 10
  length-frames = length-right 10 e.position.frames.0 n.frames

  length-samples : length samples ≡ 19
  length-samples = length-right 19 e.position.samples.0 (omega (arith, n.samples))

  pub read_back : read_line (page_line e) ≡ shown_of e
  unfolding read_line page_line
  read_back =
      let t = ap tag_in (in_one letter offset frames samples (length-kind e) length-offset length-frames length-samples) ∙ tag_back e l.good in
      let o =
      ap (number_in 0) (in_eleven letter offset frames samples (length-kind e) length-offset length-frames length-samples)
      ∙ number-right 10 e.position.cursor (omega (arith, l.fits.small.cursor_small)) in
      let f =
      ap (number_in 0) (in_twenty_one letter offset frames samples (length-kind e) length-offset length-frames length-samples)
      ∙ number-right 10 e.position.frames.0 (omega (arith, l.fits.small.frames_small)) in
      let s =
      ap (number_in 0) (in_forty letter offset frames samples (length-kind e) length-offset length-frames length-samples)
      ∙ number-right 19 e.position.samples.0 (omega (arith, l.fits.samples_narrow)) in
      λ i. record { tag = t i; offset = o i; frames = f i; samples = s i }

  pub aligned : Aligned (page_line e) e
  unfolding page_line
  aligned =
      record {
        offset =
            subst (λ (cs : List ℕ). RightAligned cs e.position.cursor)
            (sym (in_eleven letter offset frames samples (length-kind e) length-offset length-frames length-samples))
            (right-aligned 10 e.position.cursor (omega (arith, l.fits.small.cursor_small)));
        frames =
            subst (λ (cs : List ℕ). RightAligned cs e.position.frames.0)
            (sym (in_twenty_one letter offset frames samples (length-kind e) length-offset length-frames length-samples))
            (right-aligned 10 e.position.frames.0 (omega (arith, l.fits.small.frames_small)));
        samples =
            subst (λ (cs : List ℕ). RightAligned cs e.position.samples.0)
            (sym (in_forty letter offset frames samples (length-kind e) length-offset length-frames length-samples))
            (right-aligned 19 e.position.samples.0 (omega (arith, l.fits.samples_narrow)));
      }

  pub good_line : GoodLine (page_line e)
  unfolding page_line
  good_line =
      record {
        columns = length-line e l.fits;
        printable =
            each_append letter (offset ++ (frames ++ samples)) (kind-printable (eqb e.tag video_tag))
            (each_append offset (frames ++ samples) (right-printable 10 e.position.cursor)
            (each_append frames samples (right-printable 10 e.position.frames.0) (right-printable 19 e.position.samples.0)));
        blank =
            column_22 letter offset frames samples (length-kind e) length-offset length-frames length-samples
            ∙ right-blank 19 e.position.samples.0 (omega (arith, n.samples));
      }

-- ---- a page

pub length-lines : (es : List ChunkIndexEntry) → Each Lined es → length (page_lines es) ≡ columns * length es
unfolding page_lines
length-lines [] h = refl
length-lines (e ∷ es) h =
    omega (arith, length-append (page_line e) (page_lines es), length-line e h.0.fits, length-lines es h.1)

-- its lines, taken off one by one
pub lines_back : (es : List ChunkIndexEntry) → Each Lined es → (rest : List ℕ) → lines_of (length es) (page_lines es ++ rest) ≡ map page_line es
unfolding lines_of page_lines
lines_back [] h rest = refl
lines_back (e ∷ es) h rest =
    let l = length-line e h.0.fits in
    let s : (page_line e ++ page_lines es) ++ rest ≡ page_line e ++ (page_lines es ++ rest) = append_assoc (page_line e) (page_lines es) rest in
    let t = ap (take 40) s ∙ take_at (page_line e) (page_lines es ++ rest) 40 l in
    let d = ap (drop 40) s ∙ drop_at (page_line e) (page_lines es ++ rest) 40 l in
    rw (t, d) (ap (λ (ls : List (List ℕ)). page_line e ∷ ls) (lines_back es h.1 rest))

pub all_read : (es : List ChunkIndexEntry) → Each Lined es → map read_line (map page_line es) ≡ map shown_of es
all_read [] h = refl
all_read (e ∷ es) h = rw (read_back e h.0) (ap (λ (ss : List Shown). shown_of e ∷ ss) (all_read es h.1))

pub all_aligned : (es : List ChunkIndexEntry) → Each Lined es → AllAligned (map page_line es) es
all_aligned [] h = tt
all_aligned (e ∷ es) h = (aligned e h.0, all_aligned es h.1)

pub all_good : (es : List ChunkIndexEntry) → Each Lined es → Each GoodLine (map page_line es)
all_good [] h = tt
all_good (e ∷ es) h = (good_line e h.0, all_good es h.1)
