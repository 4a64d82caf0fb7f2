-- The records of a table, one after another: a turn of the search, and that only the last record counts past the end. Assumes nothing.
use mathlib.Core.Path.{◌≡◌, refl, sym, ap, ◌∙◌}
use Rattle.std.proofs.Common.{Some}
use mathlib.Core.Bool.{true, false}
use mathlib.Core.List.{List, [], ◌∷◌}
use Prim.Native.Nat.{ℕ, zero, suc, ◌+◌, ◌-◌, ◌*◌, ◌/◌, ◌≤◌, ◌<◌}
use native.Mathlib.Omega.{arith}
use lib.IntN.{ℤ, pos, negsuc}
use lib.ListN.{length}
use lib.Signed.{le_z}
use borrow.Author.Tests.{le-leb}
use Rattle.demuxer.specs.declared.position.Position.{Position}
use Rattle.chunk_index.specs.Entry.{entry_len, entry_at, entries_from, entries_of}
use Rattle.chunk_index.specs.declared.entry.ChunkIndexEntry.{ChunkIndexEntry}
use Rattle.seek.specs.Seek.{stamp_of, reaches, find, beyond, past_last}
use Rattle.seek.specs.Steps.{least}

module _ (table : List ℕ) (at left : ℕ) where
  entries_on : entry_len ≤ left → entries_from (left / entry_len) table at ≡ entry_at table at ∷ entries_from ((left - entry_len) / entry_len) table (at + entry_len)
  unfolding entries_from
  entries_on h =
      let k : left / entry_len ≡ suc ((left - entry_len) / entry_len) = omega arith in
      rw k

  pub entries_off : left < entry_len → entries_from (left / entry_len) table at ≡ []
  unfolding entries_from
  entries_off h =
      let k : left / entry_len ≡ 0 = omega arith in
      rw k

  module _ (h : entry_len ≤ left) {e : ChunkIndexEntry} (read : e ≡ entry_at table at) where
    pub find_on : (stream : ℕ) (z : ℤ) → reaches stream z e ≡ false
        → find stream z (entries_from (left / entry_len) table at) ≡ find stream z (entries_from ((left - entry_len) / entry_len) table (at + entry_len))
    unfolding find
    find_on stream z g = rw (entries_on h, ap (reaches stream z) (sym read) ∙ g)

    pub find_here : (stream : ℕ) (z : ℤ) → reaches stream z e ≡ true → find stream z (entries_from (left / entry_len) table at) ≡ Some e.position
    unfolding find
    find_here stream z g = rw (entries_on h, ap (reaches stream z) (sym read) ∙ g, read)

-- past the last of some records: only that one counts
pub past-last : (n : ℕ) (p : Position) (table : List ℕ) (at : ℕ) → past_last p (entries_from (suc n) table at) ≡ beyond (entry_at table (at + n * entry_len))
unfolding past_last entries_from
past-last zero p table at =
    let k : at + 0 * entry_len ≡ at = omega arith in
    rw k
past-last (suc n) p table at =
    let k : at + suc n * entry_len ≡ at + entry_len + n * entry_len = omega arith in
    rw k (past-last n (beyond (entry_at table at)) table (at + entry_len))

pub past_records : (p : Position) (table : List ℕ) → (length table / entry_len ≡ 0 → ⊥)
    → past_last p (entries_of table) ≡ beyond (entry_at table ((length table / entry_len - 1) * entry_len))
past_records p table h =
    let n = length table / entry_len - 1 in
    let k : length table / entry_len ≡ suc n = omega arith in
    let z : 0 + n * entry_len ≡ n * entry_len = omega arith in
    ap (λ (m : ℕ). past_last p (entries_from m table 0)) k ∙ past-last n p table 0 ∙ ap (λ (a : ℕ). beyond (entry_at table a)) z

-- a request and the least stamp that reaches it find the same record
reach_least : (z : ℤ) (n : ℕ) → le_z (pos (least z)) (pos n) ≡ le_z z (pos n)
unfolding least
reach_least (pos m) n = refl
reach_least (negsuc m) n = le-leb 0 n (omega arith)

pub find-least : (stream : ℕ) (z : ℤ) (es : List ChunkIndexEntry) → find stream (pos (least z)) es ≡ find stream z es
unfolding find
find-least stream z [] = refl
find-least stream z (e ∷ es) = rw (reach_least z (stamp_of stream e.position), find-least stream z es)
