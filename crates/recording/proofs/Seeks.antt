-- What a seek finds among the records of chunks: the first one that the machine goes to, with its stamp. Assumes nothing.
use mathlib.Core.Path.{◌≡◌, refl, ap}
use mathlib.Core.Bool.{Bool, true, false, cond, ◌&&◌}
use mathlib.Core.List.{List, [], ◌∷◌}
use mathlib.Core.Option.{some}
use Rattle.std.specs.Prelude.{Some, None}
use Prim.Native.Nat.{ℕ, zero, suc, ◌≤◌, ◌<◌, suc-le-suc}
use native.Mathlib.Nat.{zero-lt-suc}
use native.Mathlib.Omega.{arith}
use lib.Dec.{eqb}
use lib.IntN.{ℤ, pos}
use lib.ListN.{length, get_elem?}
use lib.Signed.{le_z}
use Rattle.fields.proofs.Impossible.{impossible}
use Rattle.demuxer.specs.Packet.{Shown}
use Rattle.demuxer.specs.declared.position.Position.{Position}
use Rattle.walk.specs.declared.Kind.{Kind}
use Rattle.walk.specs.declared.Kind.TheVariants.{Frame, Sound}
use Rattle.walk.specs.Chunks.{Chunk, chunk_of}
use Rattle.chunk_index.specs.Entry.{entry}
use Rattle.seek.specs.Seek.{stamp_of, reaches, find}
use Rattle.recording.specs.Drain.{drain_from}
use Rattle.recording.specs.Machine.{first}
use Rattle.recording.proofs.Positions.{passed, shown_at, position_at, drain_at, drain-cons}
use Rattle.recording.proofs.Tables.{records_of}

-- the machine's test of a packet
abbrev pub meets : ℕ → ℤ → Shown → Bool
meets stream request p = eqb p.stream stream && le_z request (pos p.stamp)

-- the test of the record and of the packet are one
test_same : (stream : ℕ) (request : ℤ) (p : Position) (kind : Kind) (payload : List ℕ) → stream ≤ 1
    → reaches stream request (entry kind p) ≡ meets stream request (shown_at p kind payload)
test_same zero request p Frame payload h = refl
test_same zero request p Sound payload h = refl
test_same (suc zero) request p Frame payload h = refl
test_same (suc zero) request p Sound payload h = refl
test_same (suc (suc n)) request p kind payload h = absurd (omega arith)

-- and a packet that meets it has the stream's stamp
same-stamp : (stream : ℕ) (request : ℤ) (p : Position) (kind : Kind) (payload : List ℕ) → stream ≤ 1
    → meets stream request (shown_at p kind payload) ≡ true → (shown_at p kind payload).stamp ≡ stamp_of stream p
same-stamp zero request p Frame payload h t = refl
same-stamp zero request p Sound payload h t = impossible cc
same-stamp (suc zero) request p Frame payload h t = impossible cc
same-stamp (suc zero) request p Sound payload h t = refl
same-stamp (suc (suc n)) request p kind payload h t = absurd (omega arith)

pub first-cons : (stream : ℕ) (request : ℤ) (p : Position) (kind : Kind) (payload : List ℕ) (cs : List Chunk)
    → first stream request (drain_at p (chunk_of kind payload ∷ cs))
    ≡ cond (meets stream request (shown_at p kind payload)) 0 (suc (first stream request (drain_at (passed p kind payload) cs)))
unfolding first
first-cons stream request p kind payload cs = rw drain-cons

-- chunk num is the first that meets the request
pub record Hit (stream : ℕ) (request : ℤ) (p : Position) (cs : List Chunk) : Type 0 where
  pub num : ℕ
  pub shown : Shown
  pub at : Position
  pub first-is : first stream request (drain_at p cs) ≡ num
  pub inside : num < length cs
  pub found : find stream request (records_of p cs) ≡ Some at
  pub at-is : at ≡ position_at p num cs
  pub shown-is : get_elem? (drain_at p cs) num ≡ some shown
  pub stamp-is : shown.stamp ≡ stamp_of stream at

pub data Finds (stream : ℕ) (request : ℤ) (p : Position) (cs : List Chunk) : Type 0 where
  hit : Hit stream request p cs → Finds stream request p cs
  miss : find stream request (records_of p cs) ≡ None → first stream request (drain_at p cs) ≡ length cs → Finds stream request p cs

pub finds : (stream : ℕ) (request : ℤ) (p : Position) (cs : List Chunk) → stream ≤ 1 → Finds stream request p cs
unfolding find position_at records_of
finds stream request p [] h = unfold drain_from first in (miss refl refl)
finds stream request p (chunk_of kind payload ∷ cs) h = go _ refl (finds stream request (passed p kind payload) cs h)
  where
    go : (t : Bool) → meets stream request (shown_at p kind payload) ≡ t → Finds stream request (passed p kind payload) cs
        → Finds stream request p (chunk_of kind payload ∷ cs)
    go true t f =
        hit (record {
          num = 0;
          shown = shown_at p kind payload;
          at = p;
          first-is = rw (first-cons stream request p kind payload cs, t);
          inside = zero-lt-suc (length cs);
          found = rw (test_same stream request p kind payload h, t);
          at-is = refl;
          shown-is = rw drain-cons;
          stamp-is = same-stamp stream request p kind payload h t;
        })
    go false t (hit f) =
        hit (record {
          num = suc f.num;
          shown = f.shown;
          at = f.at;
          first-is = rw (first-cons stream request p kind payload cs, t) (ap suc f.first-is);
          inside = suc-le-suc f.inside;
          found = rw (test_same stream request p kind payload h, t) f.found;
          at-is = f.at-is;
          shown-is = rw drain-cons f.shown-is;
          stamp-is = f.stamp-is;
        })
    go false t (miss a b) = miss (rw (test_same stream request p kind payload h, t) a) (rw (first-cons stream request p kind payload cs, t) (ap suc b))
