-- Tags put one after another, and what the loop that loads them keeps. Assumes nothing.
use Rattle.std.proofs.Common.{◌≡◌, ℕ, zero, suc, ◌+◌, ◌*◌, ◌<◌, List, [], ◌∷◌, length, set, sym, refl, ap, ◌∙◌, arith, length-append}
use Rattle.fields.specs.Le.{le, put}
use Rattle.fields.proofs.Laws.{put_one, put-put, put-nothing, length-put}
use Rattle.vectors.specs.Cases.{tags_in}

length_tags : (bytes : List ℕ) (n : ℕ) → length (tags_in bytes n) ≡ n
unfolding tags_in
length_tags bytes zero = refl
length_tags bytes (suc n) = let l : length (tags_in bytes n) ≡ n = length_tags bytes n in simp length-append (omega (arith, l))

pub tags_first : (to bytes : List ℕ) → to ≡ put to 0 (tags_in bytes 0)
unfolding tags_in
tags_first to bytes = sym (put-nothing to 0)

pub tags_more : (to bytes : List ℕ) (i v : ℕ) {now : List ℕ} → now ≡ put to 0 (tags_in bytes i) → i < length to → v ≡ le 4 bytes (4 * i)
    → set now i v ≡ put to 0 (tags_in bytes (i + 1))
unfolding tags_in
tags_more to bytes i v {now} e h q =
    let l : length (tags_in bytes i) ≡ i = length_tags bytes i in
    let k : length now ≡ length to = ap length e ∙ length-put to 0 (tags_in bytes i) (omega (arith, l)) in
    let at : i ≡ 0 + length (tags_in bytes i) = omega (arith, l) in
    let next : suc i ≡ i + 1 = omega arith in
    put_one now i v (omega (arith, k))
    ∙ (λ j. put (e j) (at j) (q j ∷ []))
    ∙ put-put to 0 (tags_in bytes i) (le 4 bytes (4 * i) ∷ []) (omega (arith, l))
    ∙ ap (λ (n : ℕ). put to 0 (tags_in bytes n)) next
