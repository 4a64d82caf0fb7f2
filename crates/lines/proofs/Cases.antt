-- The lines that document 01 prints, each computed from its definition. Assumes nothing.
use mathlib.Core.Path.{◌≡◌, refl}
use mathlib.Core.Bool.{true, false}
use mathlib.Core.List.{[], ◌∷◌}
use Rattle.text.specs.Text.{digits}
use Rattle.lines.specs.Lines.{chunk_line, totals_line, refusal_line, long_line}

-- `V 316 0 0 0`
frame : chunk_line true 316 0 0 0 ≡ 86 ∷ 32 ∷ 51 ∷ 49 ∷ 54 ∷ 32 ∷ 48 ∷ 32 ∷ 48 ∷ 32 ∷ 48 ∷ 10 ∷ []
unfolding chunk_line digits
frame = refl

-- `A 327 1 0 0`
block : chunk_line false 327 1 0 0 ≡ 65 ∷ 32 ∷ 51 ∷ 50 ∷ 55 ∷ 32 ∷ 49 ∷ 32 ∷ 48 ∷ 32 ∷ 48 ∷ 10 ∷ []
unfolding chunk_line digits
block = refl

-- `END 345 FRAMES 1 BLOCKS 1 SAMPLES 2 PAIRED Y`
totals : totals_line 345 1 1 2 true
    ≡ 69 ∷ 78 ∷ 68 ∷ 32 ∷ 51 ∷ 52 ∷ 53 ∷ 32 ∷ 70 ∷ 82 ∷ 65 ∷ 77 ∷ 69 ∷ 83 ∷ 32 ∷ 49 ∷ 32 ∷ 66 ∷ 76 ∷ 79 ∷ 67 ∷ 75 ∷ 83 ∷ 32 ∷ 49 ∷ 32 ∷ 83
    ∷ 65 ∷ 77 ∷ 80 ∷ 76 ∷ 69 ∷ 83 ∷ 32 ∷ 50 ∷ 32 ∷ 80 ∷ 65 ∷ 73 ∷ 82 ∷ 69 ∷ 68 ∷ 32 ∷ 89 ∷ 10 ∷ []
unfolding totals_line digits
totals = refl

-- `NO 61 345`
refusal : refusal_line 61 345 ≡ 78 ∷ 79 ∷ 32 ∷ 54 ∷ 49 ∷ 32 ∷ 51 ∷ 52 ∷ 53 ∷ 10 ∷ []
unfolding refusal_line digits
refusal = refl

-- `NO LONG`
long : long_line ≡ 78 ∷ 79 ∷ 32 ∷ 76 ∷ 79 ∷ 78 ∷ 71 ∷ 10 ∷ []
unfolding long_line
long = refl
