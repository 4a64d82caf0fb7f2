-- The reads that are left of a reader's file: a read takes one off them. Assumes nothing.
use mathlib.Core.Path.{◌≡◌, sym, ap, ◌∙◌}
use Rattle.std.proofs.Common.{Result, Option}
use Rattle.std.specs.Borrow.{Bor}
use Rattle.error.specs.declared.AmvError.{AmvError}
use Rattle.demuxer.specs.declared.packet.Packet.{Packet}
use Prim.Native.Nat.{ℕ, suc, ◌-◌, ◌+◌, ◌<◌, ◌≤◌}
use mathlib.Core.List.{List}
use native.Mathlib.Omega.{arith}
use Rattle.demuxer.specs.Read.{Reading, said_next, read_of}
use Rattle.amv.specs.Reader.{ReadsNext}
use Rattle.amv.specs.declared.reader.AmvDemuxer.{AmvDemuxer}
use Rattle.demuxer.specs.declared.walker.Walker.{Walker}
use Rattle.play.specs.Recording.{go_on, played}

-- the read after `at` of them, with an answer that is known
pub played_step : (d next : AmvDemuxer) (answer : Result (Option Packet) AmvError) (file : Bor (List ℕ)) (end at : ℕ) → d.file ≡ file → at < end
    → ReadsNext d answer next → (a : Result (Option Packet) AmvError) → answer ≡ a
    → played (end - at) file.now d.walker ≡ go_on (said_next file.now a) next.walker (played (end - (at + 1)) file.now next.walker)
unfolding played
played_step d next answer file end at held some reads a is =
    let one : end - at ≡ suc (end - (at + 1)) = omega (arith, some) in
    let reading : read_of file.now d.walker ≡ record { answer = said_next file.now answer; walker = next.walker } = rw (← held) (sym reads.0) in
    ap (λ (k : ℕ). played k file.now d.walker) one
    ∙ ap (λ (x : Reading). go_on x.answer x.walker (played (end - (at + 1)) file.now x.walker)) reading
    ∙ ap (λ (y : Result (Option Packet) AmvError). go_on (said_next file.now y) next.walker (played (end - (at + 1)) file.now next.walker)) is

-- none are left
pub played_none : (end at : ℕ) (file : List ℕ) (w : Walker) → end ≤ at → w ≡ played (end - at) file w
unfolding played
played_none end at file w none =
    let zeros : 0 ≡ end - at = omega (arith, none) in
    ap (λ (k : ℕ). played k file w) zeros
