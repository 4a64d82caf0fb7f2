-- Laws of `le`, `le_bytes` and `put`, each over the width and the offset. Assumes nothing.
use mathlib.Core.Path.{◌≡◌, refl, sym, ap, ◌∙◌}
use mathlib.Core.List.{List, [], ◌∷◌, ◌++◌, append_assoc}
use Prim.Native.Nat.{ℕ, zero, suc, ◌+◌, ◌-◌, ◌*◌, ◌^◌, ◌/◌, ◌%◌, ◌≤◌, ◌<◌}
use native.Mathlib.Decide.{dec_le}
use native.Mathlib.Nat.{pow-suc, mul_assoc, mul_left_comm, add-zero, zero-add, add-suc, suc-add, lt_of_not-le, div-one, div-div-eq-div-mul, pow-succ'}
use native.Mathlib.Nat.{one-le-pow}
use native.Mathlib.Numerals.{add-one}
use native.Mathlib.Omega.{arith}
use lib.Arith.{mod-mul}
use lib.ListN.{length, get_or, set, length-set, take, drop, length-append, length-take, length-drop, take-append-drop, get_or-append, get_or-eq_default}
use lib.Seq.{take-length, length-take-le, drop-cons, set_split, get_or-append-add, get_or-drop, get_or-take, drop-append-add, drop-drop}
use lib.Seq.{drop_at, take_at, set_at, take-add, take-take, take-append-add, take-suc}
use borrow.Rule.Slice.PartMut.{put_mid}
use Rattle.std.specs.Int.{byte_at, bytes_low_first}
use Rattle.std.proofs.lemmas.Slice.{put_mid-paste}
use Rattle.fields.specs.Le.{le, le_bytes, put, put_le, Bytes}

-- ---- reading

-- two fields are equal where their bytes are: every law below on where a field is read comes from this one
pub le_ext : (w : ℕ) (xs ys : List ℕ) (i j : ℕ) → ((k : ℕ) → k < w → get_or xs (i + k) 0 ≡ get_or ys (j + k) 0) → le w xs i ≡ le w ys j
unfolding le
le_ext zero xs ys i j h = refl
le_ext (suc w) xs ys i j h =
    let head : get_or xs i 0 ≡ get_or ys j 0 = rw (add-zero, add-zero) at (h 0 (omega arith)) in
    let rest : le w xs (suc i) ≡ le w ys (suc j) =
    le_ext w xs ys (suc i) (suc j) (λ k l. rw (suc-add, suc-add, ← add-suc, ← add-suc) (h (suc k) (omega arith))) in
    omega arith

-- a wide field is a low part and a high one
pub le_split : (v w : ℕ) (xs : List ℕ) (off : ℕ) → le (v + w) xs off ≡ le v xs off + 256 ^ v * le w xs (off + v)
unfolding le
le_split zero w xs off = rw (zero-add, add-zero) (omega arith)
le_split (suc v) w xs off =
    let ih : le (v + w) xs (suc off) ≡ le v xs (suc off) + 256 ^ v * le w xs (suc off + v) = le_split v w xs (suc off) in
    let e : suc off + v ≡ off + suc v = omega arith in
    let p : 256 ^ suc v * le w xs (off + suc v) ≡ 256 * (256 ^ v * le w xs (off + suc v)) =
    rw (pow-suc, mul_assoc, mul_left_comm) in
    rw (suc-add, p) (omega (arith, rw e at ih))

-- a field read as two halves
pub le_halves : (w : ℕ) (xs : List ℕ) (off : ℕ) {low high : ℕ} → low ≡ le w xs off → high ≡ le w xs (off + w)
    → low + 256 ^ w * high ≡ le (w + w) xs off
le_halves w xs off p q = rw (p, q, le_split)

-- w bytes make a number below 256 ^ w
pub le-lt : (w : ℕ) (xs : List ℕ) (off : ℕ) → Bytes xs → le w xs off < 256 ^ w
unfolding le Bytes
le-lt zero xs off b = omega arith
le-lt (suc w) xs off b = omega (arith, b off, le-lt w xs (suc off) b)

pub le-append-left : (w : ℕ) (xs ys : List ℕ) (off : ℕ) → off + w ≤ length xs → le w (xs ++ ys) off ≡ le w xs off
le-append-left w xs ys off h = le_ext w (xs ++ ys) xs off off (λ k l. get_or-append xs ys 0 (off + k) (omega arith))

pub le-append-right : (w : ℕ) (xs ys : List ℕ) (off : ℕ) → le w (xs ++ ys) (length xs + off) ≡ le w ys off
le-append-right w xs ys off =
    le_ext w (xs ++ ys) ys (length xs + off) off
    (λ k l. let e : length xs + off + k ≡ length xs + (off + k) = omega arith in rw e (get_or-append-add xs ys (off + k) 0))

pub le-drop : (w n : ℕ) (xs : List ℕ) (off : ℕ) → le w (drop n xs) off ≡ le w xs (n + off)
le-drop w n xs off =
    le_ext w (drop n xs) xs off (n + off)
    (λ k l. let e : n + off + k ≡ n + (off + k) = omega arith in rw e (get_or-drop n xs (off + k) 0))

pub le-take : (w n : ℕ) (xs : List ℕ) (off : ℕ) → off + w ≤ n → le w (take n xs) off ≡ le w xs off
le-take w n xs off h = le_ext w (take n xs) xs off off (λ k l. get_or-take n xs (off + k) 0 (omega arith))

-- a field is what its own bytes spell
pub le_part : (w n : ℕ) (xs : List ℕ) (off : ℕ) → w ≤ n → le w (take n (drop off xs)) 0 ≡ le w xs off
le_part w n xs off h = le-take w n (drop off xs) 0 (omega arith) ∙ rw add-zero at (le-drop w off xs 0)

-- ---- the bytes of a number

pub length-le_bytes : (w v : ℕ) → length (le_bytes w v) ≡ w
unfolding le_bytes
length-le_bytes zero v = refl
length-le_bytes (suc w) v = ap suc (length-le_bytes w (v / 256))

-- what was written is read back
pub le-le_bytes : (w v : ℕ) (ys : List ℕ) → v < 256 ^ w → le w (le_bytes w v ++ ys) 0 ≡ v
unfolding le le_bytes
le-le_bytes zero v ys h = omega arith
le-le_bytes (suc w) v ys h =
    let ih : le w (le_bytes w (v / 256) ++ ys) 0 ≡ v / 256 = le-le_bytes w (v / 256) ys (omega arith) in
    let e : le w (v % 256 ∷ (le_bytes w (v / 256) ++ ys)) 1 ≡ le w (le_bytes w (v / 256) ++ ys) 0 =
    le-append-right w (v % 256 ∷ []) (le_bytes w (v / 256) ++ ys) 0 in
    omega arith

-- the bytes of a number that was read are those that were there
pub le_bytes-le : (w : ℕ) (xs : List ℕ) (off : ℕ) → Bytes xs → off + w ≤ length xs → le_bytes w (le w xs off) ≡ take w (drop off xs)
unfolding le le_bytes Bytes
le_bytes-le zero xs off b h = refl
le_bytes-le (suc w) xs off b h =
    let low : (get_or xs off 0 + 256 * le w xs (suc off)) % 256 ≡ get_or xs off 0 = omega (arith, b off) in
    let high : (get_or xs off 0 + 256 * le w xs (suc off)) / 256 ≡ le w xs (suc off) = omega (arith, b off) in
    rw (low, high, drop-cons xs off 0 (omega arith)) (ap (λ (l : List ℕ). get_or xs off 0 ∷ l) (le_bytes-le w xs (suc off) b (omega arith)))

-- the library's bytes of a number, from any byte on
low_first : (i w n : ℕ) → bytes_low_first i w n ≡ le_bytes w (n / 256 ^ i)
unfolding le_bytes
low_first i zero n = refl
low_first i (suc w) n =
    let high : n / 256 ^ i / 256 ≡ n / 256 ^ suc i = rw (pow-suc, div-div-eq-div-mul) in
    rw (byte i, high) (ap (λ (l : List ℕ). n / 256 ^ i % 256 ∷ l) (low_first (suc i) w n))
  where
    byte : (i : ℕ) → byte_at i n ≡ n / 256 ^ i % 256
    byte zero = rw div-one
    byte (suc i) = refl

-- all of them are these
pub library_bytes : (w n : ℕ) → bytes_low_first 0 w n ≡ le_bytes w n
library_bytes w n = rw div-one at (low_first 0 w n)

pub le_bytes_split : (v w n : ℕ) → le_bytes (v + w) n ≡ le_bytes v n ++ le_bytes w (n / 256 ^ v)
unfolding le_bytes
le_bytes_split zero w n = rw (zero-add, div-one)
le_bytes_split (suc v) w n =
    rw (suc-add, pow-succ', ← div-div-eq-div-mul) (ap (λ (l : List ℕ). n % 256 ∷ l) (le_bytes_split v w (n / 256)))

-- only the low w bytes count
pub le_bytes-mod : (w v : ℕ) → le_bytes w (v % 256 ^ w) ≡ le_bytes w v
unfolding le_bytes
le_bytes-mod zero v = refl
le_bytes-mod (suc w) v =
    let e : v % 256 ^ suc w ≡ (v / 256 % 256 ^ w) * 256 + v % 256 = rw pow-suc (mod-mul v (one-le-pow w 256 (omega arith)) (omega arith)) in
    let low : ((v / 256 % 256 ^ w) * 256 + v % 256) % 256 ≡ v % 256 = omega arith in
    let high : ((v / 256 % 256 ^ w) * 256 + v % 256) / 256 ≡ v / 256 % 256 ^ w = omega arith in
    rw (e, low, high) (ap (λ (l : List ℕ). v % 256 ∷ l) (le_bytes-mod w (v / 256)))

-- ---- writing

pub length-put : (xs : List ℕ) (off : ℕ) (ys : List ℕ) → off + length ys ≤ length xs → length (put xs off ys) ≡ length xs
unfolding put
length-put xs off ys h = simp (length-append, length-take, length-drop) (omega arith)

pub put_one : (xs : List ℕ) (off b : ℕ) → off < length xs → set xs off b ≡ put xs off (b ∷ [])
unfolding put
put_one xs off b h = rw add-one (set_split xs off b h)

-- two writes, the second right after the first, are one
pub put-put : (xs : List ℕ) (off : ℕ) (ys zs : List ℕ) → off + length ys ≤ length xs
    → put (put xs off ys) (off + length ys) zs ≡ put xs off (ys ++ zs)
unfolding put
put-put xs off ys zs h =
    let l : length (take off xs ++ ys) ≡ off + length ys = simp (length-append, length-take) (omega arith) in
    let r : take off xs ++ (ys ++ drop (off + length ys) xs) ≡ (take off xs ++ ys) ++ drop (off + length ys) xs = simp append_assoc in
    let t : take (off + length ys) ((take off xs ++ ys) ++ drop (off + length ys) xs) ≡ take off xs ++ ys = take_at _ _ _ l in
    let d : drop (off + length ys + length zs) ((take off xs ++ ys) ++ drop (off + length ys) xs) ≡ drop (off + length ys + length zs) xs =
    ap (λ (n : ℕ). drop (n + length zs) ((take off xs ++ ys) ++ drop (off + length ys) xs)) (sym l)
    ∙ drop-append-add (take off xs ++ ys) (drop (off + length ys) xs) (length zs)
    ∙ drop-drop (length zs) (off + length ys) xs in
    let e : off + length (ys ++ zs) ≡ off + length ys + length zs = simp length-append (omega arith) in
    rw (r, t, d, e) (simp append_assoc)

pub put-nothing : (xs : List ℕ) (off : ℕ) → put xs off [] ≡ xs
unfolding put
put-nothing xs off = rw add-zero (take-append-drop off xs)

-- a write in place of another of the same length
pub put-over : (xs : List ℕ) (off : ℕ) (ys zs : List ℕ) → off + length ys ≤ length xs → length zs ≡ length ys → put (put xs off ys) off zs ≡ put xs off zs
unfolding put
put-over xs off ys zs h e =
    let l : length (take off xs) ≡ off = length-take-le off xs (omega arith) in
    let t : take off (take off xs ++ (ys ++ drop (off + length ys) xs)) ≡ take off xs = take_at (take off xs) _ off l in
    let d : drop (off + length zs) (take off xs ++ (ys ++ drop (off + length ys) xs)) ≡ drop (off + length ys) xs =
    ap (λ (n : ℕ). drop (n + length zs) (take off xs ++ (ys ++ drop (off + length ys) xs))) (sym l)
    ∙ drop-append-add (take off xs) (ys ++ drop (off + length ys) xs) (length zs)
    ∙ drop_at ys (drop (off + length ys) xs) (length zs) (sym e) in
    rw (t, d, e)

-- a byte stored right before a write is the first of it
pub put-before : (xs : List ℕ) (off b : ℕ) (ys : List ℕ) → off + 1 + length ys ≤ length xs → set (put xs (off + 1) ys) off b ≡ put xs off (b ∷ ys)
unfolding put
put-before xs off b ys h =
    let l : length (take off xs) ≡ off = length-take-le off xs (omega arith) in
    let n : off + suc (length ys) ≡ suc off + length ys = omega arith in
    rw (add-one off, n, take-suc xs off 0 (omega arith), append_assoc (take off xs) (get_or xs off 0 ∷ []) (ys ++ drop (suc off + length ys) xs))
    (set_at (take off xs) (get_or xs off 0) (ys ++ drop (suc off + length ys) xs) b off l)

-- what stands there after a part of as many bytes was stored over
pub part_put : (xs : List ℕ) (off k : ℕ) (ys : List ℕ) → length ys ≡ k → put_mid off k xs ys ≡ put xs off ys
unfolding put
part_put xs off k ys e =
    put_mid-paste off k xs ys ys k refl refl (sym e) ∙ rw (← e, take-length, append_assoc)

-- numbers stored one after the other, from a number on
unfoldable pub sets : List ℕ → ℕ → ℕ → List ℕ → List ℕ
sets xs at k [] = xs
sets xs at k (b ∷ bs) = sets (set xs (at + k) b) at (suc k) bs

sets_put : (bs : List ℕ) (b : ℕ) (xs : List ℕ) (at k : ℕ) → at + k + suc (length bs) ≤ length xs → sets xs at k (b ∷ bs) ≡ put xs (at + k) (b ∷ bs)
unfolding sets
sets_put [] b xs at k h = put_one xs (at + k) b (omega arith)
sets_put (d ∷ bs) b xs at k h =
    let n : at + suc k ≡ at + k + 1 = omega arith in
    sets_put bs d (set xs (at + k) b) at (suc k) (simp length-set (omega arith))
    ∙ ap (λ (o : ℕ). put (set xs (at + k) b) o (d ∷ bs)) n
    ∙ ap (λ (l : List ℕ). put l (at + k + 1) (d ∷ bs)) (put_one xs (at + k) b (omega arith))
    ∙ put-put xs (at + k) (b ∷ []) (d ∷ bs) (omega arith)

-- are one write
pub stores_put : (xs : List ℕ) (at b : ℕ) (bs : List ℕ) → at + suc (length bs) ≤ length xs → sets (set xs at b) at 1 bs ≡ put xs at (b ∷ bs)
unfolding sets
stores_put xs at b [] h = put_one xs at b (omega arith)
stores_put xs at b (d ∷ bs) h =
    sets_put bs d (set xs at b) at 1 (simp length-set (omega arith))
    ∙ ap (λ (l : List ℕ). put l (at + 1) (d ∷ bs)) (put_one xs at b (omega arith))
    ∙ put-put xs at (b ∷ []) (d ∷ bs) (omega arith)

-- a wide field is written as its low part and then its high one
pub put_le_split : (v w : ℕ) (xs : List ℕ) (off n : ℕ) → off + v ≤ length xs
    → put_le w (put_le v xs off (n % 256 ^ v)) (off + v) (n / 256 ^ v) ≡ put_le (v + w) xs off n
put_le_split v w xs off n h =
    let l : length (le_bytes v n) ≡ v = length-le_bytes v n in
    let e : off + v ≡ off + length (le_bytes v n) = omega arith in
    rw (le_bytes-mod v n, e, le_bytes_split v w n) (put-put xs off (le_bytes v n) (le_bytes w (n / 256 ^ v)) (omega arith))

-- a field written as two halves
pub put_le_halves : (w : ℕ) (xs : List ℕ) (off n : ℕ) {ys zs : List ℕ} → off + w ≤ length xs
    → ys ≡ put_le w xs off (n % 256 ^ w) → zs ≡ put_le w ys (off + w) (n / 256 ^ w) → zs ≡ put_le (w + w) xs off n
put_le_halves w xs off n h p q = q ∙ ap (λ (l : List ℕ). put_le w l (off + w) (n / 256 ^ w)) p ∙ put_le_split w w xs off n h

-- ---- what stands where after a write

-- what was written is what is read there
pub get_or-put_in : (xs : List ℕ) (off : ℕ) (ys : List ℕ) (k i : ℕ) → off ≤ length xs → k < length ys → i ≡ off + k → get_or (put xs off ys) i 0 ≡ get_or ys k 0
unfolding put
get_or-put_in xs off ys k i h l e =
    let t : i ≡ length (take off xs) + k = e ∙ ap (λ (o : ℕ). o + k) (sym (length-take-le off xs h)) in
    ap (λ (o : ℕ). get_or (take off xs ++ (ys ++ drop (off + length ys) xs)) o 0) t
    ∙ get_or-append-add (take off xs) (ys ++ drop (off + length ys) xs) k 0
    ∙ get_or-append ys _ 0 k l

pub get_or-put-before : (xs : List ℕ) (off : ℕ) (ys : List ℕ) (i : ℕ) → off ≤ length xs → i < off → get_or (put xs off ys) i 0 ≡ get_or xs i 0
unfolding put
get_or-put-before xs off ys i h l =
    let t : length (take off xs) ≡ off = length-take-le off xs h in
    get_or-append (take off xs) _ 0 i (omega arith) ∙ get_or-take off xs i 0 l

pub get_or-put-after : (xs : List ℕ) (off : ℕ) (ys : List ℕ) (i : ℕ) → off + length ys ≤ length xs → off + length ys ≤ i
    → get_or (put xs off ys) i 0 ≡ get_or xs i 0
unfolding put
get_or-put-after xs off ys i h l =
    let t : length (take off xs ++ ys) ≡ off + length ys = simp (length-append, length-take) (omega arith) in
    let n : i ≡ length (take off xs ++ ys) + (i - (off + length ys)) = omega arith in
    let m : off + length ys + (i - (off + length ys)) ≡ i = omega arith in
    rw (← append_assoc)
    (ap (λ (k : ℕ). get_or ((take off xs ++ ys) ++ drop (off + length ys) xs) k 0) n
    ∙ get_or-append-add (take off xs ++ ys) (drop (off + length ys) xs) (i - (off + length ys)) 0
    ∙ get_or-drop (off + length ys) xs (i - (off + length ys)) 0
    ∙ ap (λ (k : ℕ). get_or xs k 0) m)

-- what stands at the front after a write that ends there
pub take_put : (xs : List ℕ) (off : ℕ) (ys : List ℕ) (n : ℕ) → off ≤ length xs → n ≡ off + length ys → take n (put xs off ys) ≡ take off xs ++ ys
unfolding put
take_put xs off ys n h e =
    let l : length (take off xs ++ ys) ≡ n = simp (length-append, length-take) (omega arith) in
    rw (← append_assoc) (take_at (take off xs ++ ys) (drop (off + length ys) xs) n l)

-- at offset 0 that is what was written
pub front_put : (xs ys : List ℕ) {zs : List ℕ} → zs ≡ put xs 0 ys → take (length ys) zs ≡ ys
front_put xs ys e = rw e (take_put xs 0 ys (length ys) (omega arith) (omega arith))

drop-take : (k m : ℕ) (xs : List ℕ) → k ≤ length xs → drop k (take (k + m) xs) ≡ take m (drop k xs)
drop-take k m xs h = rw (take-add k m xs) (drop_at (take k xs) (take m (drop k xs)) k (length-take-le k xs h))

-- a write within the first n bytes
pub take-put-inside : (xs : List ℕ) (off : ℕ) (ys : List ℕ) (n : ℕ) → off + length ys ≤ n → n ≤ length xs
    → take n (put xs off ys) ≡ put (take n xs) off ys
unfolding put
take-put-inside xs off ys n h l =
    let k = off + length ys in
    let m = n - k in
    let p = take off xs ++ ys in
    let q : n ≡ k + m = omega arith in
    let lp : length p ≡ k = simp (length-append, length-take) (omega arith) in
    let left : take n (p ++ drop k xs) ≡ p ++ take m (drop k xs) =
    ap (λ (i : ℕ). take i (p ++ drop k xs)) (q ∙ ap (λ (i : ℕ). i + m) (sym lp)) ∙ take-append-add p (drop k xs) m in
    let right : drop k (take n xs) ≡ take m (drop k xs) =
    ap (λ (i : ℕ). drop k (take i xs)) q ∙ drop-take k m xs (omega arith) in
    let front : take off (take n xs) ≡ take off xs = take-take off n xs (omega arith) in
    rw (front, right, ← append_assoc (take off xs) ys (drop k xs), ← append_assoc (take off xs) ys (take m (drop k xs))) left

-- what was written is read back
pub le-put : (w : ℕ) (xs : List ℕ) (off v : ℕ) → off ≤ length xs → v < 256 ^ w → le w (put_le w xs off v) off ≡ v
unfolding put
le-put w xs off v h l =
    let t : length (take off xs) + 0 ≡ off = omega (arith, length-take-le off xs h) in
    let e = le-append-right w (take off xs) (le_bytes w v ++ drop (off + length (le_bytes w v)) xs) 0 in
    (rw t at e) ∙ le-le_bytes w v _ l

-- and every field beside it stays
pub le-put-before : (w : ℕ) (xs : List ℕ) (off : ℕ) (ys : List ℕ) (i : ℕ) → off ≤ length xs → i + w ≤ off → le w (put xs off ys) i ≡ le w xs i
le-put-before w xs off ys i h l = le_ext w _ _ i i (λ k m. get_or-put-before xs off ys (i + k) h (omega arith))

pub le-put-after : (w : ℕ) (xs : List ℕ) (off : ℕ) (ys : List ℕ) (i : ℕ) → off + length ys ≤ length xs → off + length ys ≤ i
    → le w (put xs off ys) i ≡ le w xs i
le-put-after w xs off ys i h l = le_ext w _ _ i i (λ k m. get_or-put-after xs off ys (i + k) h (omega arith))

-- ---- bytes stay bytes

pub bytes-append : (xs ys : List ℕ) → Bytes xs → Bytes ys → Bytes (xs ++ ys)
unfolding Bytes
bytes-append xs ys a b i =
    elim (dec_le (length xs) i) [
      | yes h ↦
          let n : i ≡ length xs + (i - length xs) = omega arith in
          rw n (omega (arith, b (i - length xs), get_or-append-add xs ys (i - length xs) 0))
      | no h ↦ omega (arith, a i, get_or-append xs ys 0 i (lt_of_not-le h))
    ]

-- and so are those of a part
pub bytes_left : (xs ys : List ℕ) → Bytes (xs ++ ys) → Bytes xs
unfolding Bytes
bytes_left xs ys b i =
    elim (dec_le (length xs) i) [
      | yes h ↦ omega (arith, get_or-eq_default xs 0 {n = i} h)
      | no h ↦ omega (arith, b i, get_or-append xs ys 0 i (lt_of_not-le h))
    ]

pub bytes-right : (xs ys : List ℕ) → Bytes (xs ++ ys) → Bytes ys
unfolding Bytes
bytes-right xs ys b i = omega (arith, b (length xs + i), get_or-append-add xs ys i 0)

pub bytes_drop : (n : ℕ) (xs : List ℕ) → Bytes xs → Bytes (drop n xs)
unfolding Bytes
bytes_drop n xs b i = omega (arith, b (n + i), get_or-drop n xs i 0)

pub bytes_take : (n : ℕ) (xs : List ℕ) → Bytes xs → Bytes (take n xs)
unfolding Bytes
bytes_take n xs b i =
    elim (dec_le n i) [
      | yes h ↦ omega (arith, get_or-eq_default (take n xs) 0 {n = i} (simp length-take (omega arith)))
      | no h ↦ omega (arith, b i, get_or-take n xs i 0 (lt_of_not-le h))
    ]

pub bytes-le_bytes : (w v : ℕ) → Bytes (le_bytes w v)
unfolding Bytes le_bytes
bytes-le_bytes zero v i = omega (arith, get_or-eq_default {A = ℕ} [] 0 {n = i} (omega arith))
bytes-le_bytes (suc w) v zero = omega arith
bytes-le_bytes (suc w) v (suc i) = bytes-le_bytes w (v / 256) i

pub bytes-put : (xs : List ℕ) (off : ℕ) (ys : List ℕ) → Bytes xs → Bytes ys → Bytes (put xs off ys)
unfolding put
bytes-put xs off ys a b =
    bytes-append (take off xs) (ys ++ drop (off + length ys) xs) (bytes_take off xs a)
    (bytes-append ys (drop (off + length ys) xs) b (bytes_drop (off + length ys) xs a))
