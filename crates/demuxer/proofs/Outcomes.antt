-- What a read leaves of the walker, by its answer. Assumes nothing.
use mathlib.Core.Path.{◌≡◌, refl, sym, subst}
use Rattle.std.proofs.Common.{Result, Ok}
use Rattle.std.proofs.Common.{Option, Some}
use Rattle.error.specs.declared.AmvError.{AmvError}
use Prim.Native.Nat.{ℕ}
use mathlib.Core.List.{List}
use Rattle.error.specs.declared.Refusal.{Refusal}
use Rattle.demuxer.specs.Read.{Reading, ReadAnswer, packet, End, refused, said_next, said_read, advanced, read_of}
use Rattle.demuxer.specs.declared.packet.Packet.{Packet}
use Rattle.demuxer.specs.declared.walker.Read.{Read}
use Rattle.demuxer.specs.declared.walker.Walker.{Walker}
use Rattle.demuxer.proofs.Readings.{read_cases}

-- a packet moves the walker's position alone, and a refusal nothing
Leaves : Walker → ReadAnswer → Walker → Type 0
Leaves w (packet s) x = x ≡ advanced w x.position
Leaves w End x = Unit
Leaves w (refused r) x = x ≡ w

abbrev WalkerLeft : Walker → Reading → Type 0
WalkerLeft w q = Leaves w q.answer q.walker

left : (file : List ℕ) (w : Walker) → WalkerLeft w (read_of file w)
unfolding Leaves
left file w = read_cases file w (WalkerLeft w) refl refl tt (λ h. tt) tt refl refl refl

pub packet-moves : (file : List ℕ) (w : Walker) {r : Read} {p : Packet} → said_read file r ≡ read_of file w → r.answer ≡ (Ok (Some p))
    → r.walker ≡ advanced w r.walker.position
unfolding Leaves
packet-moves file w {r} e t =
    subst (λ (a : Result (Option Packet) AmvError). Leaves w (said_next file a) r.walker) t (subst (λ (q : Reading). WalkerLeft w q) (sym e) (left file w))

pub refused-stays : (file : List ℕ) (w : Walker) {r : Refusal} → (read_of file w).answer ≡ refused r → (read_of file w).walker ≡ w
unfolding Leaves
refused-stays file w e = subst (λ (a : ReadAnswer). Leaves w a (read_of file w).walker) e (left file w)
