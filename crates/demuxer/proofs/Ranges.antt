-- The range of a position, as a test and as facts: the four conjuncts, each way. Assumes nothing.
use mathlib.Core.Path.{◌≡◌, refl}
use mathlib.Core.Bool.{Bool, true, false, ◌&&◌}
use borrow.Author.Tests.{le-leb, leb-true}
use lib.Dec.{leb}
use Rattle.fields.proofs.Impossible.{impossible}
use Rattle.demuxer.specs.Position.{count_limit, in_range, InRange}
use Rattle.demuxer.specs.declared.position.Position.{Position}

module _ (p : Position) where
  pub in_range_lem : InRange p → in_range p ≡ true
  unfolding in_range
  in_range_lem r =
      rw (
        le-leb p.cursor count_limit r.cursor_in,
        le-leb p.frames.0 count_limit r.frames_in,
        le-leb p.samples.0 count_limit r.samples_in,
        le-leb p.blocks.0 count_limit r.blocks_in,
      )

  pub range_facts : in_range p ≡ true → InRange p
  unfolding in_range
  range_facts e = go _ _ _ _ refl refl refl refl e
    where
      go : (a b c d : Bool) → leb p.cursor count_limit ≡ a → leb p.frames.0 count_limit ≡ b
          → leb p.samples.0 count_limit ≡ c → leb p.blocks.0 count_limit ≡ d
          → (a && b && c && d) ≡ true → InRange p
      go true true true true f g h k t =
          record {
            cursor_in = leb-true p.cursor count_limit f;
            frames_in = leb-true p.frames.0 count_limit g;
            samples_in = leb-true p.samples.0 count_limit h;
            blocks_in = leb-true p.blocks.0 count_limit k;
          }
      go true true true false f g h k t = impossible cc
      go true true false d f g h k t = impossible cc
      go true false c d f g h k t = impossible cc
      go false b c d f g h k t = impossible cc
