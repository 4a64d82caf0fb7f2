-- `list::write_listing` meets its contract. `ends_within` says that the listing ends within its buffer, and `listed` that it is that of what was read.
-- Assumes nothing.
use Rattle.std.proofs.Common.{ℕ, sym, length-take-le}
use Rattle.std.proofs.lemmas.List.{length-replicate}
use Rattle.listing.specs.Listing.{listing_of}
use Rattle.text.proofs.Laws.{ends_within}
use Rattle.list.proofs.Listed.{front, listed}
use Rattle.list.proofs.write_listing.Goals as goal

pub slice_bounds-lines-end : goal.slice_bounds-lines-end
slice_bounds-lines-end g c = ends_within c.list-end.ensures

pub slice_bounds-write_all-end : goal.slice_bounds-write_all-end
slice_bounds-write_all-end g c =
    sym (length-take-le c.list-end.result c.list-end.new.lines (ends_within c.list-end.ensures))

pub returns : goal.returns
returns g c =
    listed _ _ _ _ _ 65537 _ _ listing_of (length-replicate {A = ℕ} 65537 0) c.in_ok-len.ensures.front (front c.list-end.ensures) c.write_all.ensures.bytes
