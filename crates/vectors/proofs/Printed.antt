-- Text put after text: what a number's buffer holds, and what the loops over numbers keep. Assumes nothing.
use Rattle.std.proofs.Common.{◌≡◌, ℕ, ◌+◌, ◌<◌, List, [], ◌∷◌, ◌++◌, length, take, map, get_or, refl, sym, ap, ◌∙◌, subst, append_assoc, append-nil, Option}
use Rattle.std.proofs.Math.Nat.{sub-zero}
use Rattle.std.proofs.lemmas.List.{take_more, map-append}
use Rattle.std.proofs.KnownBytes.{Appends-nil, Appends-trans}
use Rattle.std.specs.Io.KnownBytes.{Appends}
use Rattle.text.specs.Written.{Written}
use Rattle.text.proofs.Laws.{part}
use Rattle.vectors.specs.Printed.{number_text, numbers_text}

-- a word written to the front of its buffer
pub front : {xs ys word : List ℕ} {end : ℕ} → Written xs 0 word ys end → take end ys ≡ word
front p = rw sub-zero at (part p)

pub numbers-append : (xs ys : List ℕ) → numbers_text (xs ++ ys) ≡ numbers_text xs ++ numbers_text ys
unfolding numbers_text
numbers-append [] ys = refl
numbers-append (x ∷ xs) ys =
    ap (λ (l : List ℕ). number_text x ++ l) (numbers-append xs ys) ∙ sym (append_assoc (number_text x) (numbers_text xs) (numbers_text ys))

pub numbers-one : (n : ℕ) → numbers_text (n ∷ []) ≡ number_text n
unfolding numbers_text
numbers-one n = append-nil (number_text n)

-- one number more
pub printed_more : (old mid new : Option (List ℕ)) (xs ys : List ℕ) (n : ℕ) → Appends old mid (numbers_text xs)
    → Appends mid new (number_text n) → ys ≡ xs ++ (n ∷ []) → Appends old new (numbers_text ys)
printed_more old mid new xs ys n a b e =
    let text : numbers_text xs ++ number_text n ≡ numbers_text ys =
    ap (λ (l : List ℕ). numbers_text xs ++ l) (sym (numbers-one n)) ∙ sym (numbers-append xs (n ∷ [])) ∙ ap numbers_text (sym e) in
    subst (Appends old new) text (Appends-trans old mid new (numbers_text xs) (number_text n) a b)

pub printed_none : (known : Option (List ℕ)) → Appends known known (numbers_text [])
unfolding numbers_text
printed_none known = Appends-nil known

-- one number more, where each stands for an item of a list
pub printed_next : {A : Type 0} (f : A → ℕ) (old mid new : Option (List ℕ)) (xs : List A) (i n : ℕ) (d : A) → i < length xs
    → Appends old mid (numbers_text (map f (take i xs))) → Appends mid new (number_text n) → n ≡ f (get_or xs i d)
    → Appends old new (numbers_text (map f (take (i + 1) xs)))
printed_next f old mid new xs i n d h a b e =
    printed_more old mid new (map f (take i xs)) (map f (take (i + 1) xs)) n a b
    (ap (map f) (take_more xs i d h) ∙ map-append f (take i xs) (get_or xs i d ∷ []) ∙ ap (λ m. map f (take i xs) ++ (m ∷ [])) (sym e))
