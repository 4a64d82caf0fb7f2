-- `input::read_full` meets its contract: a read into the room that is left puts its bytes right after those before it. Assumes nothing.
use Rattle.std.proofs.Common.{◌≡◌, ℕ, ◌+◌, ◌-◌, ◌≤◌, List, ◌++◌, rules, length, take, drop, sym, ap, ◌∙◌, subst, le_refl, drop_at, length-take-le}
use Rattle.std.proofs.lemmas.Slice.{take-put_mid_below}
use Rattle.std.specs.Io.KnownBytes.{Consumes}
use Rattle.std.proofs.KnownBytes.{Consumes-trans, Consumes-kept}
use borrow.Rule.Slice.PartMut.{put_mid, post_of}
use lib.Seq.{take-add, take-append-le}
use Rattle.input.proofs.read_full.Goals as goal
use Rattle.input.proofs.read_full.Goals.{in-Ok, in-Err+else-ne}

-- a read of n bytes into what follows the first len
read_on : (len k n end : ℕ) (xs ys : List ℕ) → end ≡ len + n → len ≤ length xs → n ≤ length ys → take end (put_mid len k xs ys) ≡ take len xs ++ take n ys
read_on len k n end xs ys e within fits =
    let all = put_mid len k xs ys in
    ap (λ m. take m all) e
    ∙ take-add len n all
    ∙ ap (λ l. l ++ take n (drop len all)) (take-put_mid_below len k xs ys len (le_refl len) within)
    ∙ ap (λ l. take len xs ++ take n l) (drop_at (take len xs) (ys ++ post_of len k xs) len (length-take-le len xs within))
    ∙ ap (λ l. take len xs ++ l) (take-append-le n ys (post_of len k xs) fits)

-- a read that failed leaves what stands before len
read_none : (len k end : ℕ) (xs ys : List ℕ) → end ≡ len → len ≤ length xs → take end (put_mid len k xs ys) ≡ take len xs
read_none len k end xs ys e within = ap (λ m. take m (put_mid len k xs ys)) e ∙ take-put_mid_below len k xs ys len (le_refl len) within

pub loop-preserved : goal.loop-preserved
loop-preserved g c =
    let before = c.loop.invariant in
    let room = length c.loop.bytes - c.loop.len in
    elim c.match-read.branch [
      | in-Ok w ↦ (
        search rules,
        search rules,
        subst (Consumes _ _) (sym (read_on c.loop.len room w.in-Ok.n c.match-read.len c.loop.bytes c.read.new.buf w.len-is before.1 w.in-Ok.ensures.bound.0))
            (Consumes-trans _ _ _ _ _ before.2 w.in-Ok.ensures.bytes.0),
      )
      | in-Err+else-ne w ↦ (
        search rules,
        search rules,
        subst (Consumes _ _) (sym (read_none c.loop.len room c.match-read.len c.loop.bytes c.read.new.buf w.len-is before.1))
            (Consumes-kept _ _ _ _ before.2 w.in-Err.ensures.bytes),
      )
    ]
