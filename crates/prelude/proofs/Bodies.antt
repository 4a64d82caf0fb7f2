-- The two bodies of a whole prelude are long enough for their readers. Assumes nothing.
use mathlib.Core.Path.{◌≡◌}
use mathlib.Core.List.{List}
use Prim.Native.Nat.{ℕ, ◌≤◌}
use native.Mathlib.Omega.{arith}
use borrow.Author.Tests.{le-leb}
use lib.ListN.{length, length-take, length-drop}
use Rattle.error.specs.Answer.{accepted}
use Rattle.parse.specs.Header.{header_of, header_fields}
use Rattle.parse.specs.WaveFormat.{wave_format_of, wave_format_fields}
use Rattle.prelude.specs.Layout.{prelude_len}
use Rattle.prelude.specs.Prelude.{between}

module _ (file : List ℕ) (h : prelude_len ≤ length file) where
  pub header_body : header_of (between 32 88 file) ≡ accepted (header_fields (between 32 88 file))
  unfolding header_of
  header_body =
      let l : 56 ≤ length (between 32 88 file) = simp (length-take, length-drop) (omega arith) in
      rw (le-leb _ _ l)

  pub wave_format_body : wave_format_of (between 284 304 file) ≡ accepted (wave_format_fields (between 284 304 file))
  unfolding wave_format_of
  wave_format_body =
      let l : 18 ≤ length (between 284 304 file) = simp (length-take, length-drop) (omega arith) in
      rw (le-leb _ _ l)
