-- A run of calls, before one of them and after the last. Assumes nothing.
use mathlib.Core.Path.{◌≡◌, refl, sym, ap, ◌∙◌, subst}
use Prim.Native.Nat.{ℕ, suc, ◌+◌, ◌-◌, ◌*◌, ◌≤◌, ◌<◌}
use mathlib.Core.List.{List, [], ◌∷◌}
use native.Mathlib.Omega.{arith}
use lib.IntN.{ℤ}
use lib.ListN.{length}
use Rattle.fields.specs.Le.{Bytes, put}
use Rattle.demuxer.specs.Read.{fresh}
use Rattle.demuxer.specs.declared.walker.Walker.{Walker}
use Rattle.recording.specs.Machine.{Call, answers, after, call, OwnIndex}
use Rattle.recording.specs.Indexed.{FileAgreed}
use Rattle.recording.proofs.Lists.{indexed_files}
use Rattle.rows.specs.Rows.{calls_from, rows_of, state_after}
use Rattle.rows.proofs.Laws.{Going, going-first, going_on, last-state, last_rows, rows_back}
use Rattle.replay.specs.Replay.{call_at, row_words, row_answer, step, answers_by, answers_in, Run}
use Rattle.replay.specs.Steps.{Answered}
use Rattle.replay.specs.declared.Row.{Row}

-- the rows of a list of calls say its answers
abbrev RowsSay : List ℕ → List ℕ → Walker → List Call → Type 0
RowsSay file table w calls = answers_by file (rows_of (step file table) w calls) ≡ answers file table w calls

says-one : (file table : List ℕ) (w : Walker) (c : Call) (cs : List Call) {r : Row × Walker} → Answered file table w c r
    → RowsSay file table (call file table w c).walker cs → RowsSay file table w (c ∷ cs)
unfolding answers rows_of answers_by
says-one file table w c cs a s =
    λ i. (ap (row_answer file) (sym a.row_is) ∙ a.said_is) i ∷ s i

after_is : (file table : List ℕ) (w : Walker) (calls : List Call) → state_after (step file table) w calls ≡ after file table w calls
unfolding after state_after
after_is file table w [] = refl
after_is file table w (c ∷ cs) = after_is file table (call file table w c).walker cs

module _ (file table kinds streams : List ℕ) (requests : List ℤ) (n : ℕ) (before : List ℕ) where
  abbrev calls : ℕ → ℕ → List Call
  calls = calls_from (call_at kinds streams requests)

  -- before call i of n: besides, all rows say their answers if those of the calls left do
  pub record Replaying (w : Walker) (rows : List ℕ) (i : ℕ) : Type 0 where
    pub going : Going (step file table) 6 (call_at kinds streams requests) n fresh before w rows i
    pub says : RowsSay file table w (calls i (n - i)) → RowsSay file table fresh (calls 0 n)

  pub replaying_first : n * 6 ≤ length before → Replaying fresh before 0
  replaying_first h =
      let z : n - 0 ≡ n = omega arith in
      record { going = going-first _ _ _ _ _ _ h; says = λ s. subst (λ (k : ℕ). RowsSay file table fresh (calls 0 k)) z s }

  pub replaying_on : {w : Walker} {rows : List ℕ} {i : ℕ} → Replaying w rows i → i < n → (r : Row × Walker)
      → Answered file table w (call_at kinds streams requests i) r → {more : List ℕ} → more ≡ put rows (i * 6) (row_words r.0)
      → Replaying r.1 more (i + 1)
  unfolding calls_from
  replaying_on {w} {rows} {i} g l r a {more} p =
      let c = call_at kinds streams requests i in
      let z : suc (n - (i + 1)) ≡ n - i = omega arith in
      record {
        going =
            going_on _ _ _ _ _ _ (λ v d. refl) g.going l r.1 a.walker_is (p ∙ ap (λ (x : Row). put rows (i * 6) (row_words x)) a.row_is);
        says =
            λ s. g.says (subst (λ (k : ℕ). RowsSay file table w (calls i k)) z
            (says-one file table w c _ a (subst (λ (v : Walker). RowsSay file table v (calls (i + 1) (n - (i + 1)))) a.walker_is s)));
      }

  pub replaying_last : {w : Walker} {rows : List ℕ} {i : ℕ} → Replaying w rows i → n ≤ i → Run file table (calls 0 n) n before w rows
  unfolding answers calls_from rows_of answers_by
  replaying_last {w} {rows} {i} g l =
      let z : 0 ≡ n - i = omega arith in
      let rows_are = last_rows _ _ _ _ _ _ g.going l in
      record {
        room = g.going.room;
        walker_is = last-state _ _ _ _ _ _ g.going l ∙ after_is file table fresh (calls 0 n);
        said_are =
            ap (λ (l : List ℕ). answers_in file l n) rows_are
            ∙ ap (answers_by file) (rows_back (step file table) 6 (λ v d. refl) (call_at kinds streams requests) n fresh before)
            ∙ g.says (subst (λ (k : ℕ). RowsSay file table w (calls i k)) z refl);
        rows_are = rows_are;
      }

pub agreed : (file table : List ℕ) (calls : List Call) (n : ℕ) {before : List ℕ} (rows : List ℕ) {w : Walker} → Run file table calls n before w rows
    → Bytes file → OwnIndex file table → FileAgreed file calls w (answers_in file rows n)
agreed file table calls n rows run all own = rw (run.walker_is, run.said_are) (indexed_files.lists file all table own calls)
