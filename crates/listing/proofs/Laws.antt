-- The three kinds of listing: by the questions, each in its case. Assumes nothing.
use mathlib.Core.Path.{◌≡◌}
use mathlib.Core.List.{List}
use Prim.Native.Nat.{ℕ, ◌≤◌, ◌<◌}
use borrow.Author.Tests.{le-leb, lt-leb}
use lib.ListN.{length}
use Rattle.error.specs.Answer.{Answer, accepted, refused}
use Rattle.lines.specs.Lines.{long_line}
use Rattle.finished.specs.Check.{check_of}
use Rattle.finished.specs.declared.Totals.{Totals}
use Rattle.listing.specs.Listing.{checked_lines, input_limit, listing_of, ListingIs}

pub long_listed : (input : List ℕ) → input_limit < length input → listing_of input ≡ long_line
unfolding listing_of
long_listed input h = rw (lt-leb (length input) input_limit h)

pub checked_listed : (input : List ℕ) (x : Answer Totals) → length input ≤ input_limit → check_of input ≡ x
    → listing_of input ≡ checked_lines input x
unfolding listing_of
checked_listed input x h e = rw (le-leb (length input) input_limit h, e)

pub listing_is : ListingIs
listing_is =
    record {
      long = long_listed;
      refusal = λ input r. checked_listed input (refused r);
      chunks = λ input t. checked_listed input (accepted t);
    }
