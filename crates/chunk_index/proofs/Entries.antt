-- A record written is a record read; and the records of a table from one on are that one and those after it. Assumes nothing.
use mathlib.Core.Path.{◌≡◌, refl, sym, ap, ◌∙◌}
use mathlib.Core.List.{List, [], ◌∷◌, ◌++◌}
use Prim.Native.Nat.{ℕ, zero, suc, ◌+◌, ◌-◌, ◌*◌, ◌/◌, ◌^◌, ◌≤◌, ◌<◌}
use native.Mathlib.Nat.{add-zero}
use native.Mathlib.Omega.{arith}
use lib.ListN.{length, take, drop, length-append}
use Rattle.fields.specs.Le.{le, le_bytes, put, put_le}
use Rattle.fields.proofs.Laws.{put-put, le-append-right, le-le_bytes}
use Rattle.chunk_index.specs.Entry.{entry_len, entry_bytes, table_bytes, entry_at, entries_from, entries_of}
use Rattle.chunk_index.specs.Steps.{Small, entries_on}
use Rattle.chunk_index.specs.declared.entry.ChunkIndexEntry.{ChunkIndexEntry}

-- five stores, one after another, write the record
pub entry_stored : (table : List ℕ) (at : ℕ) (e : ChunkIndexEntry) → at + entry_len ≤ length table
    → put_le 8
    (put_le 4 (put_le 4 (put_le 4 (put_le 4 table at e.tag) (at + 4) e.position.cursor) (at + 8) e.position.frames.0) (at + 12)
    e.position.blocks.0)
    (at + 16) e.position.samples.0
    ≡ put table at (entry_bytes e)
unfolding le_bytes entry_bytes
entry_stored table at e h =
    let a : List ℕ = le_bytes 4 e.tag in
    let b : List ℕ = le_bytes 4 e.position.cursor in
    let c : List ℕ = le_bytes 4 e.position.frames.0 in
    let d : List ℕ = le_bytes 4 e.position.blocks.0 in
    let f : List ℕ = le_bytes 8 e.position.samples.0 in
    ap (λ (t : List ℕ). put (put (put t (at + 8) c) (at + 12) d) (at + 16) f) (put-put table at a b (omega arith))
    ∙ ap (λ (t : List ℕ). put (put t (at + 12) d) (at + 16) f) (put-put table at (a ++ b) c (omega arith))
    ∙ ap (λ (t : List ℕ). put t (at + 16) f) (put-put table at ((a ++ b) ++ c) d (omega arith))
    ∙ put-put table at (((a ++ b) ++ c) ++ d) f (omega arith)

pub length-entry_bytes : (e : ChunkIndexEntry) → length (entry_bytes e) ≡ entry_len
unfolding le_bytes entry_bytes
length-entry_bytes e = refl

pub length-table : (es : List ChunkIndexEntry) → length (table_bytes es) ≡ entry_len * length es
unfolding table_bytes
length-table [] = refl
length-table (e ∷ es) = omega (arith, length-append (entry_bytes e) (table_bytes es), length-entry_bytes e, length-table es)

-- a record written after xs is the record read there
pub entry_back : (xs ys : List ℕ) (e : ChunkIndexEntry) → e.tag < 256 ^ 4 → Small e.position → e.position.samples.0 < 256 ^ 8
    → entry_at (xs ++ (entry_bytes e ++ ys)) (length xs) ≡ e
unfolding le_bytes entry_bytes entry_at
entry_back xs ys e t s n =
    let zs : List ℕ = entry_bytes e ++ ys in
    let a : le 4 (xs ++ zs) (length xs) ≡ e.tag =
    ap (le 4 (xs ++ zs)) (sym (add-zero (length xs))) ∙ le-append-right 4 xs zs 0 ∙ le-le_bytes 4 e.tag (drop 4 zs) t in
    let b : le 4 (xs ++ zs) (length xs + 4) ≡ e.position.cursor =
    le-append-right 4 xs zs 4 ∙ le-append-right 4 (le_bytes 4 e.tag) (drop 4 zs) 0
    ∙ le-le_bytes 4 e.position.cursor (drop 8 zs) (omega (arith, s.cursor_small)) in
    let c : le 4 (xs ++ zs) (length xs + 8) ≡ e.position.frames.0 =
    le-append-right 4 xs zs 8 ∙ le-append-right 4 (take 8 zs) (drop 8 zs) 0
    ∙ le-le_bytes 4 e.position.frames.0 (drop 12 zs) (omega (arith, s.frames_small)) in
    let d : le 4 (xs ++ zs) (length xs + 12) ≡ e.position.blocks.0 =
    le-append-right 4 xs zs 12 ∙ le-append-right 4 (take 12 zs) (drop 12 zs) 0
    ∙ le-le_bytes 4 e.position.blocks.0 (drop 16 zs) (omega (arith, s.blocks_small)) in
    let f : le 8 (xs ++ zs) (length xs + 16) ≡ e.position.samples.0 =
    le-append-right 8 xs zs 16 ∙ le-append-right 8 (take 16 zs) (drop 16 zs) 0 ∙ le-le_bytes 8 e.position.samples.0 ys n in
    λ i.
    record {
      tag = a i;
      position = record { cursor = b i; frames = record { 0 = c i }; samples = record { 0 = f i }; blocks = record { 0 = d i } };
    }

-- ---- the records of a table

pub length-entries : (n : ℕ) (table : List ℕ) (at : ℕ) → length (entries_from n table at) ≡ n
unfolding entries_from
length-entries zero table at = refl
length-entries (suc n) table at = ap suc (length-entries n table (at + entry_len))

module _ (table : List ℕ) where
  -- all of them at first
  pub entries_all : entries_on table 0 ≡ entries_of table
  entries_all =
      let k : length table / entry_len - 0 ≡ length table / entry_len = omega arith in
      ap (λ (n : ℕ). entries_from n table 0) k

  pub entries_many : length (entries_on table 0) ≡ length table / entry_len
  entries_many = length-entries (length table / entry_len - 0) table 0 ∙ omega arith

  module _ (number : ℕ) where
    -- none past the last one
    pub entries_none : length table / entry_len ≤ number → entries_on table number ≡ []
    unfolding entries_from
    entries_none h =
        let k : length table / entry_len - number ≡ 0 = omega arith in
        rw k

    -- else the one of the number, and those after it, which are one fewer
    pub entries_first : number < length table / entry_len → {e : ChunkIndexEntry} → e ≡ entry_at table (number * entry_len)
        → entries_on table number ≡ e ∷ entries_on table (number + 1)
    unfolding entries_from
    entries_first h read =
        let k : length table / entry_len - number ≡ suc (length table / entry_len - (number + 1)) = omega arith in
        let next : (number + 1) * entry_len ≡ number * entry_len + entry_len = omega arith in
        rw (read, k, next) refl

    pub entries_fewer : number < length table / entry_len → length (entries_on table (number + 1)) < length (entries_on table number)
    entries_fewer h =
        omega (
          arith,
          length-entries (length table / entry_len - number) table (number * entry_len),
          length-entries (length table / entry_len - (number + 1)) table ((number + 1) * entry_len),
        )
