-- A run of calls that puts a row for each, before one of them; and that the rows are read back. Assumes nothing.
use mathlib.Core.Path.{◌≡◌, refl, sym, ap, ◌∙◌}
use Prim.Native.Nat.{ℕ, zero, suc, ◌+◌, ◌-◌, ◌*◌, ◌≤◌, ◌<◌}
use native.Mathlib.Nat.{zero-mul, suc-mul, mul-le-mul_right}
use mathlib.Core.List.{List, [], ◌∷◌, ◌++◌, append_assoc}
use native.Mathlib.Omega.{arith}
use lib.ListN.{length, take, get_or, set}
use lib.Seq.{take_at, drop_at, take-suc}
use lib.Seq.{length-take-le}
use Rattle.fields.specs.Le.{put}
use Rattle.fields.proofs.Laws.{length-put, put_one, put-put, put-nothing}
use Rattle.rows.specs.Rows.{calls_from, CallStep, rows_of, state_after, numbers, rows_in}

-- ---- the run

length-calls : {C : Type 0} (call : ℕ → C) (at n : ℕ) → length (calls_from call at n) ≡ n
unfolding calls_from
length-calls call at zero = refl
length-calls call at (suc n) = ap suc (length-calls call (at + 1) n)

-- before call i of n: the calls left give the rest
pub record Going {S C : Type 0} (m : CallStep S C) (width : ℕ) (call : ℕ → C) (n : ℕ) (s₀ : S) (before : List ℕ) (s : S) (rows : List ℕ)
    (i : ℕ) : Type 0 where
  pub room : n * width ≤ length before
  pub same : length rows ≡ length before
  pub state-is : state_after m s (calls_from call i (n - i)) ≡ state_after m s₀ (calls_from call 0 n)
  pub rows_are : put rows (i * width) (numbers (rows_of m s (calls_from call i (n - i)))) ≡ put before 0 (numbers (rows_of m s₀ (calls_from call 0 n)))

module _ {S C : Type 0} (m : CallStep S C) (width : ℕ) (call : ℕ → C) (n : ℕ) (s₀ : S) (before : List ℕ) where
  pub going-first : n * width ≤ length before → Going m width call n s₀ before s₀ before 0
  going-first h =
      let z : n - 0 ≡ n = omega arith in
      record {
        room = h;
        same = refl;
        state-is = ap (λ (k : ℕ). state_after m s₀ (calls_from call 0 k)) z;
        rows_are = λ j. put before (zero-mul width j) (numbers (rows_of m s₀ (calls_from call 0 (z j))));
      }

  pub going_on : ((s : S) (c : C) → length (m.row s c) ≡ width) → {s : S} {rows : List ℕ} {i : ℕ} → Going m width call n s₀ before s rows i
      → i < n → (t : S) → t ≡ m.next s (call i) → {more : List ℕ} → more ≡ put rows (i * width) (m.row s (call i))
      → Going m width call n s₀ before t more (i + 1)
  unfolding calls_from rows_of state_after numbers
  going_on wide {s} {rows} {i} g l t e {more} p =
      let row = m.row s (call i) in
      let w : length row ≡ width = wide s (call i) in
      let cs = calls_from call (i + 1) (n - (i + 1)) in
      let rest : List ℕ = numbers (rows_of m (m.next s (call i)) cs) in
      let z : n - i ≡ suc (n - (i + 1)) = omega arith in
      let above : suc i ≡ i + 1 = omega arith in
      let y : (i + 1) * width ≡ i * width + width = ap (λ (k : ℕ). k * width) (sym above) ∙ suc-mul i width in
      let ends : (i + 1) * width ≤ n * width = mul-le-mul_right width (omega arith) in
      let fits : i * width + length row ≤ length rows = omega (arith, g.room, g.same, w, y, ends) in
      record {
        room = g.room;
        same = ap length p ∙ length-put rows (i * width) row fits ∙ g.same;
        state-is =
            ap (λ (u : S). state_after m u cs) e ∙ ap (λ (k : ℕ). state_after m s (calls_from call i k)) (sym z) ∙ g.state-is;
        rows_are =
            (λ j. put (p j) ((y ∙ ap (λ (k : ℕ). i * width + k) (sym w)) j) (numbers (rows_of m (e j) cs)))
            ∙ put-put rows (i * width) row rest fits
            ∙ ap (λ (k : ℕ). put rows (i * width) (numbers (rows_of m s (calls_from call i k)))) (sym z)
            ∙ g.rows_are;
      }

  module _ {s : S} {rows : List ℕ} {i : ℕ} (g : Going m width call n s₀ before s rows i) (l : n ≤ i) where
    pub last-state : s ≡ state_after m s₀ (calls_from call 0 n)
    unfolding calls_from state_after
    last-state =
        let z : n - i ≡ 0 = omega arith in
        ap (λ (k : ℕ). state_after m s (calls_from call i k)) (sym z) ∙ g.state-is

    pub last_rows : rows ≡ put before 0 (numbers (rows_of m s₀ (calls_from call 0 n)))
    unfolding calls_from rows_of numbers
    last_rows =
        let z : n - i ≡ 0 = omega arith in
        sym (put-nothing rows (i * width)) ∙ ap (λ (k : ℕ). put rows (i * width) (numbers (rows_of m s (calls_from call i k)))) (sym z) ∙ g.rows_are

-- ---- the rows read back

rows_read : {S C : Type 0} (m : CallStep S C) (width : ℕ) → ((s : S) (c : C) → length (m.row s c) ≡ width)
    → (s : S) (calls : List C) (rest : List ℕ) → rows_in width (length calls) (numbers (rows_of m s calls) ++ rest) ≡ rows_of m s calls
unfolding rows_of numbers rows_in
rows_read m width wide s [] rest = refl
rows_read m width wide s (c ∷ cs) rest =
    let row : List ℕ = m.row s c in
    let more : List ℕ = numbers (rows_of m (m.next s c) cs) in
    rw (append_assoc row more rest, take_at row (more ++ rest) width (wide s c), drop_at row (more ++ rest) width (wide s c))
    (ap (λ rs. row ∷ rs) (rows_read m width wide (m.next s c) cs rest))

pub rows_back : {S C : Type 0} (m : CallStep S C) (width : ℕ) → ((s : S) (c : C) → length (m.row s c) ≡ width) → (call : ℕ → C) (n : ℕ) (s : S)
    (before : List ℕ) → rows_in width n (put before 0 (numbers (rows_of m s (calls_from call 0 n)))) ≡ rows_of m s (calls_from call 0 n)
unfolding put
rows_back m width wide call n s before =
    ap (λ (k : ℕ). rows_in width k (put before 0 (numbers (rows_of m s (calls_from call 0 n))))) (sym (length-calls call 0 n))
    ∙ rows_read m width wide s (calls_from call 0 n) _

-- ---- a row put number by number

pub put_more : (xs : List ℕ) (at : ℕ) (row : List ℕ) (k : ℕ) → at + length row ≤ length xs → k < length row
    → set (put xs at (take k row)) (at + k) (get_or row k 0) ≡ put xs at (take (k + 1) row)
put_more xs at row k fits l =
    let long : length (take k row) ≡ k = length-take-le k row (omega arith) in
    let room : at + length (take k row) ≤ length xs = omega (arith, long) in
    let len : length (put xs at (take k row)) ≡ length xs = length-put xs at (take k row) room in
    let next : suc k ≡ k + 1 = omega arith in
    put_one _ (at + k) _ (omega (arith, len))
    ∙ ap (λ (n : ℕ). put (put xs at (take k row)) (at + n) (get_or row k 0 ∷ [])) (sym long)
    ∙ put-put xs at (take k row) (get_or row k 0 ∷ []) room
    ∙ ap (put xs at) (sym (take-suc row k 0 l) ∙ ap (λ (n : ℕ). take n row) next)
