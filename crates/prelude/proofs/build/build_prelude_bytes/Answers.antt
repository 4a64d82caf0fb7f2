-- `prelude::build::build_prelude_bytes` meets its contract. The three helpers' stores follow one another, each over what the one before left; that all of
-- them over zeros are the fields in their order is a computation (`whole`).
-- Assumes nothing.
use mathlib.Core.Path.{◌≡◌, refl, ap, ◌∙◌}
use Prim.Native.Nat.{ℕ}
use mathlib.Core.List.{List}
use lib.ListN.{replicate}
use Rattle.fields.specs.Le.{le_bytes, put}
use Rattle.prelude.specs.Layout.{prelude_len, layout}
use Rattle.prelude.specs.Built.{prelude_bytes}
use Rattle.prelude.specs.Steps.{write_items, header_stores, wave_format_stores}
use Rattle.prelude.proofs.build.build_prelude_bytes.Goals as goal

-- the stores give the fields in their order, which antt computes
whole : (width height fps duration rate channels : ℕ)
    → wave_format_stores (header_stores (write_items (replicate prelude_len 0) layout) width height fps duration) rate channels
    ≡ prelude_bytes width height fps duration rate channels
unfolding le_bytes put layout prelude_bytes write_items header_stores wave_format_stores
whole width height fps duration rate channels = refl

pub returns : goal.returns
returns c =
    let a = c.args in
    let e : c.write_wave_format.new.bytes ≡ prelude_bytes a.width a.height a.fps a.duration_packed a.rate a.channels =
    c.write_wave_format.ensures
    ∙ ap (λ (l : List ℕ). wave_format_stores l a.rate a.channels) c.write_header_body.ensures
    ∙ ap (λ (l : List ℕ). wave_format_stores (header_stores l a.width a.height a.fps a.duration_packed) a.rate a.channels)
    c.write_layout.ensures
    ∙ whole a.width a.height a.fps a.duration_packed a.rate a.channels in
    λ i. record { bytes = e i; width = a.width; height = a.height; fps = a.fps; rate = a.rate; channels = a.channels }
