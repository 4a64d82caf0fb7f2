-- The words stand for the state: taken for a state and written back they are the same, and a state's words spell it again. Assumes nothing.
use mathlib.Core.Path.{◌≡◌, refl, sym, ap, ◌∙◌}
use Prim.Native.Nat.{ℕ, zero, suc, ◌+◌}
use mathlib.Core.Bool.{Bool, true, false, ◌&&◌}
use mathlib.Core.List.{List, [], ◌∷◌}
use native.Mathlib.Omega.{arith}
use borrow.Author.Tests.{leb-true, eqb-true, eqb-false}
use lib.Dec.{leb}
use lib.ListN.{length, drop}
use lib.Seq.{drop-cons, drop-length}
use Rattle.error.specs.Answer.{accepted}
use Rattle.error.proofs.Answers.{never, both}
use Rattle.demuxer.specs.Read.{advanced}
use Rattle.demuxer.specs.declared.position.Position.{Position}
use Rattle.demuxer.specs.declared.walker.Walker.{Walker}
use Rattle.muxer.specs.declared.Writer.{Writer}
use Rattle.words.specs.State.{word, mark_of, mark_word, trailer_of, trailer_word, ask_state, walker_legal, walker_of, walker_words}
use Rattle.words.specs.State.{position_into, settings_legal, writer_legal, writer_of, writer_words, counts_into, WordsStand}

-- ---- a list by its elements

words_from : List ℕ → ℕ → ℕ → List ℕ
words_from ws at zero = []
words_from ws at (suc n) = word ws at ∷ words_from ws (suc at) n

spelled : (ws : List ℕ) (at n : ℕ) → at + n ≡ length ws → words_from ws at n ≡ drop at ws
unfolding words_from
spelled ws at zero h =
    let e : at ≡ length ws = omega arith in
    sym (drop-length ws) ∙ ap (λ (k : ℕ). drop k ws) (sym e)
spelled ws at (suc n) h = ap (λ (l : List ℕ). word ws at ∷ l) (spelled ws (suc at) n (omega arith)) ∙ sym (drop-cons ws at 0 (omega arith))

-- ---- one word

mark_kept : (n : ℕ) → leb n 1 ≡ true → mark_word (mark_of n) ≡ n
mark_kept n h = grind (arith, eqb-true, eqb-false, leb-true)

trailer-kept : (n : ℕ) → trailer_word (trailer_of n) ≡ n
trailer-kept n = grind (arith, eqb-true, eqb-false)

pub mark_back : (mark : Bool) → mark_of (mark_word mark) ≡ mark
mark_back true = refl
mark_back false = refl

mark_legal : (mark : Bool) → leb (mark_word mark) 1 ≡ true
mark_legal true = refl
mark_legal false = refl

-- ---- a whole state

-- an accepted state is the one that the words spell, and they are legal
decoded : {S : Type 0} {s w : S} (legal : Bool) → ask_state legal s ≡ accepted w → (legal ≡ true) × (w ≡ s)
decoded true e = (refl, cc)
decoded false e = never (sym e)

-- at another position only the first four words differ
pub position-kept : (ws : List ℕ) (w : Walker) (p : Position) → walker_of ws ≡ accepted w → position_into p ws ≡ walker_words (advanced w p)
unfolding walker_legal
position-kept ws w p e =
    let d = decoded (walker_legal ws) e in
    let m = both (leb (word ws 4) 1) (leb (word ws 5) 1) d.0 in
    sym (ap (λ v. walker_words (advanced v p)) d.1 ∙ rw (mark_kept (word ws 4) m.0, mark_kept (word ws 5) m.1, trailer-kept (word ws 6)) refl)

-- at other counts only the last two
abbrev pub at_counts : Writer → ℕ → ℕ → Writer
at_counts w written frames = record { settings = w.settings; begun = w.begun; ended = w.ended; written = written; frames = frames }

pub counts_kept : (ws : List ℕ) (w : Writer) (written frames : ℕ) → writer_of ws ≡ accepted w
    → counts_into written frames ws ≡ writer_words (at_counts w written frames)
unfolding writer_legal
counts_kept ws w written frames e =
    let d = decoded (writer_legal ws) e in
    let m = both (settings_legal ws && leb (word ws 5) 1) (leb (word ws 6) 1) d.0 in
    let b = both (settings_legal ws) (leb (word ws 5) 1) m.0 in
    sym
    (ap (λ v. writer_words (at_counts v written frames)) d.1
    ∙ rw (mark_kept (word ws 5) b.1, mark_kept (word ws 6) m.1) refl)

pub words_stand : WordsStand
unfolding walker_legal writer_legal words_from
words_stand =
    record {
      walker_kept =
          λ ws w h e.
          let d = decoded (walker_legal ws) e in
          let m = both (leb (word ws 4) 1) (leb (word ws 5) 1) d.0 in
          ap walker_words d.1
          ∙ rw (mark_kept (word ws 4) m.0, mark_kept (word ws 5) m.1, trailer-kept (word ws 6)) (spelled ws 0 7 (omega arith));
      writer_kept =
          λ ws w h e.
          let d = decoded (writer_legal ws) e in
          let m = both (settings_legal ws && leb (word ws 5) 1) (leb (word ws 6) 1) d.0 in
          let b = both (settings_legal ws) (leb (word ws 5) 1) m.0 in
          ap writer_words d.1 ∙ rw (mark_kept (word ws 5) b.1, mark_kept (word ws 6) m.1) (spelled ws 0 9 (omega arith));
      walker_back =
          λ w t.
          rw (mark_legal w.end, mark_legal w.cut)
          (λ i. accepted (record { position = w.position; end = mark_back w.end i; cut = mark_back w.cut i; trailer = t i }));
      writer_back =
          λ w l.
          rw (l, mark_legal w.begun, mark_legal w.ended)
          (λ i.
          accepted
          (record {
            settings = w.settings;
            begun = mark_back w.begun i;
            ended = mark_back w.ended i;
            written = w.written;
            frames = w.frames;
          }));
    }
