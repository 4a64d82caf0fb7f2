-- Words put one after another: the buffer keeps its length, and a word right after another makes one longer word; a number over the last of
-- some spaces stands at their right. Assumes nothing.
use mathlib.Core.Path.{◌≡◌, refl, sym, ap, ◌∙◌}
use mathlib.Core.List.{List, [], ◌++◌}
use Prim.Native.Nat.{ℕ, ◌+◌, ◌-◌, ◌≤◌}
use native.Mathlib.Omega.{arith}
use lib.ListN.{length, take, drop, length-append, length-replicate, length-take, length-drop, replicate-append-replicate}
use lib.Seq.{take_at, drop_at, drop-drop, length-take-le}
use borrow.Rule.Slice.PartMut.{put_mid}
use Rattle.fields.specs.Le.{put}
use Rattle.fields.proofs.Laws.{put-put, put-nothing, put-over, length-put}
use Rattle.text.specs.Text.{decimal, spaces, right}
use Rattle.text.specs.Written.{Written}
use Rattle.text.specs.Puts.{Puts}
use Rattle.text.specs.declared.Text.{Text}

pub same_size : {xs ys word : List ℕ} {off end : ℕ} → Written xs off word ys end → length ys ≡ length xs
same_size {xs} {ys} {word} {off} {end} p = ap length p.bytes ∙ length-put xs off word (omega (arith, p.ends, p.fits))

-- a word ends within the buffer that holds it
pub ends_within : {xs ys word : List ℕ} {off end : ℕ} → Written xs off word ys end → end ≤ length ys
ends_within p = rw (same_size p) p.fits

-- a text with a word behind it, where there is room
pub puts : {s t : Text} {word : List ℕ} → s.len + length word ≤ length s.buffer.now → t.buffer.now ≡ put s.buffer.now s.len word
    → t.len ≡ s.len + length word → t.buffer.ghost_name ≡ s.buffer.ghost_name → Puts s word t
puts {s} {t} {word} h b e n =
    record {
      written = record { bytes = b; ends = e; fits = omega arith };
      same_buffer = n;
      same_size = ap length b ∙ length-put s.buffer.now s.len word h;
    }

pub puts_nothing : {s : Text} → s.len ≤ length s.buffer.now → Puts s [] s
puts_nothing {s} h = puts (omega arith) (sym (put-nothing s.buffer.now s.len)) (omega arith) refl

-- a word right after another is one
join_written : {xs ys zs : List ℕ} {off m n : ℕ} {a b : List ℕ} → Written xs off a ys m → Written ys m b zs n → Written xs off (a ++ b) zs n
join_written {xs} {ys} {zs} {off} {m} {n} {a} {b} p q =
    let h : off + length a ≤ length xs = omega (arith, p.ends, p.fits) in
    let l : length ys ≡ length xs = same_size p in
    record {
      bytes =
          q.bytes
          ∙ ap (λ (k : ℕ). put ys k b) p.ends
          ∙ ap (λ (k : List ℕ). put k (off + length a) b) p.bytes
          ∙ put-put xs off a b h;
      ends = simp length-append (omega (arith, p.ends, q.ends));
      fits = omega (arith, q.fits);
    }

pub join : {s t u : Text} {a b : List ℕ} → Puts s a t → Puts t b u → Puts s (a ++ b) u
join p q =
    record {
      written = join_written p.written q.written;
      same_buffer = q.same_buffer ∙ p.same_buffer;
      same_size = q.same_size ∙ p.same_size;
    }

-- a word stands from its start to its end
pub part : {xs ys word : List ℕ} {off end : ℕ} → Written xs off word ys end → take (end - off) (drop off ys) ≡ word
unfolding put
part {xs} {ys} {word} {off} {end} p =
    let n : length word ≡ end - off = omega (arith, p.ends) in
    let l : length (take off xs) ≡ off = length-take-le off xs (omega (arith, p.ends, p.fits)) in
    ap (λ (zs : List ℕ). take (end - off) (drop off zs)) p.bytes
    ∙ ap (take (end - off)) (drop_at (take off xs) (word ++ drop (off + length word) xs) off l)
    ∙ take_at word (drop (off + length word) xs) (end - off) n

-- a part of a buffer that was written whole
pub part_put : (xs ys : List ℕ) (off k : ℕ) → k ≡ length ys → put_mid off k xs ys ≡ put xs off ys
unfolding put
part_put xs ys off k e = ap (λ (l : List ℕ). take off xs ++ (ys ++ l)) (drop-drop k off xs ∙ ap (λ (n : ℕ). drop (off + n) xs) e)

-- ---- right-aligned

pub length-right : (width n : ℕ) → length (decimal n) ≤ width → length (right width n) ≡ width
unfolding right
length-right width n h =
    let k = width - length (decimal n) in
    let s : length (spaces k) ≡ k = length-replicate k 32 in
    omega (arith, length-append (spaces k) (decimal n))

-- digits over the last of some spaces
pub aligned : {xs ys zs : List ℕ} {off from end : ℕ} (width n : ℕ) → off + width ≤ length xs → length (decimal n) ≤ width → end ≡ off + width
    → ys ≡ put xs off (spaces width) → Written ys from (decimal n) zs end → Written xs off (right width n) zs end
unfolding right
aligned {xs} {ys} {zs} {off} {from} {end} width n h f at e w =
    let m = length (decimal n) in
    let k = width - m in
    let lk : length (spaces k) ≡ k = length-replicate k 32 in
    let lm : length (spaces m) ≡ m = length-replicate m 32 in
    let split : spaces width ≡ spaces k ++ spaces m =
    let s : width ≡ k + m = omega arith in ap spaces s ∙ sym (replicate-append-replicate k m 32) in
    let front : length (put xs off (spaces k)) ≡ length xs = length-put xs off (spaces k) (omega arith) in
    let here : from ≡ off + length (spaces k) = omega (arith, w.ends) in
    record {
      bytes =
          w.bytes
          ∙ ap (λ (l : List ℕ). put l from (decimal n)) (e ∙ ap (put xs off) split ∙ sym (put-put xs off (spaces k) (spaces m) (omega arith)))
          ∙ ap (λ (i : ℕ). put (put (put xs off (spaces k)) (off + length (spaces k)) (spaces m)) i (decimal n)) here
          ∙ put-over (put xs off (spaces k)) (off + length (spaces k)) (spaces m) (decimal n) (omega arith) (sym lm)
          ∙ put-put xs off (spaces k) (decimal n) (omega arith);
      ends = omega (arith, length-append (spaces k) (decimal n));
      fits = omega arith;
    }

-- columns of a buffer, blanked
pub spaces_put : (xs ys : List ℕ) (off k width : ℕ) → off + width ≤ length xs → k ≡ width → ys ≡ spaces (length (take k (drop off xs)))
    → put_mid off k xs ys ≡ put xs off (spaces width)
spaces_put xs ys off k width f w e =
    let l : length (take k (drop off xs)) ≡ width = simp (length-take, length-drop) (omega arith) in
    let r : ys ≡ spaces width = rw l at e in
    part_put xs ys off k (omega (arith, ap length r, length-replicate {A = ℕ} width 32)) ∙ ap (put xs off) r
