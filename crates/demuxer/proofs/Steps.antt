-- One read, by what stands at the cursor. Assumes nothing.
use mathlib.Core.Path.{◌≡◌, ◌∙◌}
use mathlib.Core.Bool.{Bool, true, false, cond}
use mathlib.Core.List.{List}
use Prim.Native.Nat.{ℕ}
use Rattle.fields.specs.File.{within_limit}
use Rattle.demuxer.specs.Position.{in_range}
use Rattle.demuxer.specs.Read.{End, read_chunk, read_of}
use Rattle.demuxer.specs.declared.walker.Walker.{Walker}

yes : {A : Type 0} {t : Bool} (x y : A) → t ≡ true → cond t x y ≡ x
yes x y e = rw e

no : {A : Type 0} {t : Bool} (x y : A) → t ≡ false → cond t x y ≡ y
no x y e = rw e

-- a read that is asked and has not ended looks at the cursor
pub read_on : (file : List ℕ) (w : Walker) → within_limit file ≡ true → in_range w.position ≡ true → w.end ≡ false → read_of file w ≡ read_chunk file w
unfolding read_of
read_on file w a b c = yes _ _ a ∙ yes _ _ b ∙ no _ _ c

-- and one that has ended does not
pub read_ended : (file : List ℕ) (w : Walker) → within_limit file ≡ true → in_range w.position ≡ true → w.end ≡ true
    → read_of file w ≡ record { answer = End; walker = w }
unfolding read_of
read_ended file w a b c = yes _ _ a ∙ yes _ _ b ∙ yes _ _ c
