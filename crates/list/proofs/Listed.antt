-- What is written is the listing of what was read, where both are known. Assumes nothing.
use Rattle.std.proofs.Common.{◌≡◌, ℕ, List, take, ap, ◌∙◌, subst, Ok, Err, Some, None, Option, Result, OnOk, IfSome}
use Rattle.std.proofs.Math.Nat.{sub-zero}
use Rattle.std.specs.Io.KnownBytes.{Appends}
use Rattle.text.specs.Written.{Written}
use Rattle.text.proofs.Laws.{part}

-- a listing written to the front of its buffer
pub front : {xs ys word : List ℕ} {end : ℕ} → Written xs 0 word ys end → take end ys ≡ word
front p = rw sub-zero at (part p)

-- a reader's first bytes read, as many as there was room for
pub listed : {E : Type 0} (r : Result (Unit {0}) E) (known old new : Option (List ℕ)) (room limit : ℕ) (read written : List ℕ) (listing : List ℕ → List ℕ)
    → room ≡ limit → IfSome known (λ bytes. read ≡ take room bytes) → written ≡ listing read → OnOk r (Appends old new written)
    → OnOk r (IfSome known (λ bytes. Appends old new (listing (take limit bytes))))
listed (Err e) known old new room limit read written listing l a b w = tt
listed (Ok u) None old new room limit read written listing l a b w = tt
listed (Ok u) (Some bytes) old new room limit read written listing l a b w =
    subst (Appends old new) (b ∙ ap listing (a ∙ ap (λ n. take n bytes) l)) w
