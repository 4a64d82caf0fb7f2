-- Decimal digits: what they are worth, that each is a digit and none a leading zero, how many there are, and how a loop puts them.
-- Assumes nothing.
use mathlib.Core.Path.{◌≡◌, refl, sym, ap, ◌∙◌}
use mathlib.Core.List.{List, [], ◌∷◌, ◌++◌, append_assoc, append-nil}
use Prim.Native.Nat.{ℕ, zero, suc, ◌+◌, ◌-◌, ◌*◌, ◌^◌, ◌/◌, ◌%◌, ◌≤◌, ◌<◌}
use native.Mathlib.Decide.{dec_le}
use native.Mathlib.Nat.{pow-succ', one-le-pow}
use native.Mathlib.Omega.{arith}
use borrow.Author.Tests.{lt-ltb, le-ltb}
use lib.ListN.{length, get_or, set, length-append}
use Rattle.fields.specs.Le.{put}
use Rattle.fields.proofs.Laws.{put-before, put-nothing}
use Rattle.text.specs.Text.{digits, decimal}
use Rattle.text.specs.Written.{Written}

-- a number of one digit, and one of more
short : (k n : ℕ) → n < 10 → digits (suc k) n ≡ (48 + n) ∷ []
unfolding digits
short k n h = rw (lt-ltb n 10 h)

long : (k n : ℕ) → 9 < n → digits (suc k) n ≡ digits k (n / 10) ++ ((48 + n % 10) ∷ [])
unfolding digits
long k n h = rw (le-ltb n 10 h)

-- what digits are worth after a number that was read already
unfoldable pub worth : ℕ → List ℕ → ℕ
worth a [] = a
worth a (d ∷ ds) = worth (10 * a + (d - 48)) ds

worth-last : (a : ℕ) (ds : List ℕ) (d : ℕ) → worth a (ds ++ (d ∷ [])) ≡ 10 * worth a ds + (d - 48)
unfolding worth
worth-last a [] d = refl
worth-last a (e ∷ ds) d = worth-last (10 * a + (e - 48)) ds d

-- the rest of a number that has one digit more
pub tenth : (k n : ℕ) → n < 10 ^ suc k → n / 10 < 10 ^ k
tenth k n h = omega (arith, pow-succ' 10 k)

-- the digits' value is the number
pub digits-worth : (k n : ℕ) → n < 10 ^ k → worth 0 (digits k n) ≡ n
unfolding digits worth
digits-worth zero n h = omega arith
digits-worth (suc k) n h =
    elim (dec_le 10 n) [
      | yes l ↦ rw (long k n (omega arith), worth-last) (omega (arith, digits-worth k (n / 10) (tenth k n h)))
      | no l ↦ rw (short k n (omega arith)) (omega arith)
    ]

pub decimal-worth : (n : ℕ) → n < 18446744073709551616 → worth 0 (decimal n) ≡ n
decimal-worth n h = digits-worth 20 n (omega arith)

-- each byte is a digit
unfoldable pub Digits : List ℕ → Type 0
Digits [] = Unit
Digits (d ∷ ds) = (48 ≤ d) × (d ≤ 57) × Digits ds

digits_last : (ds : List ℕ) (d : ℕ) → Digits ds → 48 ≤ d → d ≤ 57 → Digits (ds ++ (d ∷ []))
unfolding Digits
digits_last [] d p a b = (a, b, tt)
digits_last (e ∷ ds) d p a b = (p.0, p.1, digits_last ds d p.2 a b)

pub digits-digits : (k n : ℕ) → Digits (digits k n)
unfolding digits Digits
digits-digits zero n = tt
digits-digits (suc k) n =
    elim (dec_le 10 n) [
      | yes l ↦
          rw (long k n (omega arith))
          (digits_last (digits k (n / 10)) (48 + n % 10) (digits-digits k (n / 10)) (omega arith) (omega arith))
      | no l ↦ rw (short k n (omega arith)) (omega arith, omega arith, tt)
    ]

head_append : (xs ys : List ℕ) → 48 < get_or xs 0 0 → 48 < get_or (xs ++ ys) 0 0
head_append [] ys h = absurd (omega arith)
head_append (x ∷ xs) ys h = h

-- no leading zero, unless the number is 0
digits_head : (k n : ℕ) → n < 10 ^ k → 0 < n → 48 < get_or (digits k n) 0 0
unfolding digits
digits_head zero n h p = absurd (omega arith)
digits_head (suc k) n h p =
    elim (dec_le 10 n) [
      | yes l ↦ rw (long k n (omega arith)) (head_append (digits k (n / 10)) _ (digits_head k (n / 10) (tenth k n h) (omega arith)))
      | no l ↦ rw (short k n (omega arith)) (omega arith)
    ]

pub decimal_head : (n : ℕ) → n < 18446744073709551616 → 0 < n → 48 < get_or (decimal n) 0 0
decimal_head n h p = digits_head 20 n (omega arith) p

pub decimal-zero : decimal 0 ≡ 48 ∷ []
unfolding digits
decimal-zero = refl

-- ---- how many there are

pub digits-most : (k n : ℕ) → length (digits k n) ≤ k
unfolding digits
digits-most zero n = omega arith
digits-most (suc k) n =
    elim (dec_le 10 n) [
      | yes l ↦ rw (long k n (omega arith), length-append) (omega (arith, digits-most k (n / 10)))
      | no l ↦ rw (short k n (omega arith)) (omega arith)
    ]

pub digits_some : (k n : ℕ) → 0 < length (digits (suc k) n)
unfolding digits
digits_some k n =
    elim (dec_le 10 n) [
      | yes l ↦ rw (long k n (omega arith), length-append) (omega arith)
      | no l ↦ rw (short k n (omega arith)) (omega arith)
    ]

-- a number has at most so many digits exactly where it is below the power of ten
digits_fit : (k w n : ℕ) → n < 10 ^ suc w → length (digits k n) ≤ suc w
unfolding digits
digits_fit zero w n h = omega arith
digits_fit (suc k) zero n h = rw (short k n (omega arith)) (omega arith)
digits_fit (suc k) (suc w) n h =
    elim (dec_le 10 n) [
      | yes l ↦ rw (long k n (omega arith), length-append) (omega (arith, digits_fit k w (n / 10) (tenth (suc w) n h)))
      | no l ↦ rw (short k n (omega arith)) (omega arith)
    ]

digits_many : (k w n : ℕ) → n < 10 ^ k → 10 ^ w ≤ n → w < length (digits k n)
unfolding digits
digits_many zero w n h p = absurd (omega (arith, one-le-pow w 10 (omega arith)))
digits_many (suc k) zero n h p = digits_some k n
digits_many (suc k) (suc w) n h p =
    let t : 10 ^ suc w ≡ 10 * 10 ^ w = pow-succ' 10 w in
    let o : 1 ≤ 10 ^ w = one-le-pow w 10 (omega arith) in
    rw (long k n (omega arith), length-append) (omega (arith, digits_many k w (n / 10) (tenth k n h) (omega arith)))

pub decimal_many : (w n : ℕ) → n < 18446744073709551616 → 10 ^ w ≤ n → w < length (decimal n)
decimal_many w n h p = digits_many 20 w n (omega arith) p

pub decimal_fit : (w n : ℕ) → n < 10 ^ suc w → length (decimal n) ≤ suc w
decimal_fit w n h = digits_fit 20 w n h

-- ---- the loop that puts them from the right

-- i is where the next digit goes; those of the rest are still to come, the others stand past i
pub record Putting (xs ys : List ℕ) (end n i rest : ℕ) : Type 0 where
  pub left : ℕ
  pub done : List ℕ
  pub all : decimal n ≡ digits (suc left) rest ++ done
  pub small : rest < 10 ^ suc left
  pub fits : length (decimal n) ≤ end
  pub ends : i + 1 + length done ≡ end
  pub within : end ≤ length xs
  pub bytes : ys ≡ put xs (i + 1) done

-- what is left has room
room : {xs ys : List ℕ} {end n i rest : ℕ} (p : Putting xs ys end n i rest) → length (digits (suc p.left) rest) ≤ i + 1
room {rest = rest} p = omega (arith, ap length p.all, length-append (digits (suc p.left) rest) p.done, p.fits, p.ends)

pub begin : (xs : List ℕ) (end n : ℕ) → n < 18446744073709551616 → length (decimal n) ≤ end → end ≤ length xs → Putting xs xs end n (end - 1) n
begin xs end n h f w =
    let s : 0 < length (decimal n) = digits_some 19 n in
    record {
      left = 19;
      done = [];
      all = sym (append-nil (digits 20 n));
      small = omega arith;
      fits = f;
      ends = omega arith;
      within = w;
      bytes = sym (put-nothing xs _);
    }

stored : {xs ys : List ℕ} {end n i rest : ℕ} (p : Putting xs ys end n i rest) (d : ℕ) → set ys i d ≡ put xs i (d ∷ p.done)
stored {xs} {ys} {end} {n} {i} p d =
    ap (λ (l : List ℕ). set l i d) p.bytes ∙ put-before xs i d p.done (omega (arith, p.ends, p.within))

-- a turn, for a rest of two digits or more
pub record Turned (xs ys : List ℕ) (end n i rest : ℕ) : Type 0 where
  pub below : 0 < i
  pub on : Putting xs ys end n (i - 1) (rest / 10)

pub turn : {xs ys : List ℕ} {end n i rest : ℕ} → 9 < rest → Putting xs ys end n i rest → Turned xs (set ys i (48 + rest % 10)) end n i rest
turn {xs} {ys} {end} {n} {i} {rest} h p = go p.left refl
  where
    go : (k : ℕ) → p.left ≡ k → Turned xs (set ys i (48 + rest % 10)) end n i rest
    go zero e = absurd (omega (arith, rw e at p.small))
    go (suc k) e =
        let f : digits (suc p.left) rest ≡ digits (suc k) (rest / 10) ++ ((48 + rest % 10) ∷ []) = rw e (long (suc k) rest h) in
        let l : length (digits (suc p.left) rest) ≡ length (digits (suc k) (rest / 10)) + 1 =
        ap length f ∙ length-append (digits (suc k) (rest / 10)) ((48 + rest % 10) ∷ []) in
        let b : 0 < i = omega (arith, room p, l, digits_some k (rest / 10)) in
        let j : i - 1 + 1 ≡ i = omega arith in
        record {
          below = b;
          on =
              record {
                left = k;
                done = (48 + rest % 10) ∷ p.done;
                all = p.all ∙ ap (λ (ds : List ℕ). ds ++ p.done) f ∙ append_assoc (digits (suc k) (rest / 10)) ((48 + rest % 10) ∷ []) p.done;
                small = tenth (suc k) rest (rw e at p.small);
                fits = p.fits;
                ends = omega (arith, p.ends);
                within = p.within;
                bytes = rw j (stored p (48 + rest % 10));
              };
        }

-- the first digit
pub first : {xs ys : List ℕ} {end n i rest : ℕ} → rest < 10 → Putting xs ys end n i rest → Written xs i (decimal n) (set ys i (48 + rest)) end
first {xs} {ys} {end} {n} {i} {rest} h p =
    let e : decimal n ≡ (48 + rest) ∷ p.done = p.all ∙ ap (λ (ds : List ℕ). ds ++ p.done) (short p.left rest h) in
    record {
      bytes = stored p (48 + rest) ∙ ap (put xs i) (sym e);
      ends = omega (arith, p.ends, ap length e);
      fits = p.within;
    }
