-- A kind keeps the tag that it was told from, by the cases of the two tests; so two kinds tell their tags. Assumes nothing.
use mathlib.Core.Path.{◌≡◌, refl, sym, ap, ◌∙◌}
use mathlib.Core.Bool.{Bool, true, false, cond}
use Prim.Native.Nat.{ℕ}
use lib.Dec.{eqb}
use borrow.Author.Tests.{eqb-true}
use Rattle.chunk.specs.Chunk.{video_tag, audio_tag, kind_of, tag_of}
use Rattle.chunk.specs.declared.ChunkKind.TheVariants.{Video, Audio, Other}

-- a kind keeps its tag
pub tag_of-kind : (tag : ℕ) → tag_of (kind_of tag) ≡ tag
tag_of-kind tag = go _ _ refl refl
  where
    go : (v a : Bool) → eqb tag video_tag ≡ v → eqb tag audio_tag ≡ a → tag_of (cond v Video (cond a Audio (Other tag))) ≡ tag
    go true a p q = sym (eqb-true _ _ p)
    go false true p q = sym (eqb-true _ _ q)
    go false false p q = refl

-- the tags are told by the kinds
pub kind_video : (tag : ℕ) → kind_of tag ≡ Video → tag ≡ video_tag
kind_video tag e = sym (tag_of-kind tag) ∙ ap tag_of e

pub kind_audio : (tag : ℕ) → kind_of tag ≡ Audio → tag ≡ audio_tag
kind_audio tag e = sym (tag_of-kind tag) ∙ ap tag_of e
