-- No refusal has the number 0, and each number fits a byte: case by case, they are computed. Assumes nothing.
use mathlib.Core.Path.{◌≡◌, refl}
use mathlib.Core.Bool.{true, ◌&&◌}
use Prim.Native.Nat.{◌<◌}
use native.Mathlib.Omega.{arith}
use borrow.Author.Tests.{leb-true}
use lib.Dec.{leb}
use Rattle.error.specs.Refusal.{refusal_of}
use Rattle.error.specs.declared.AmvError.{AmvError}
use Rattle.error.specs.declared.AmvError.TheVariants.{FileTooLong, PreludeCut, WrongTag, WrongSize, ZeroFps, WrongMicros, WrongFlag, NonzeroReserved}
use Rattle.error.specs.declared.AmvError.TheVariants.{NonzeroByte, WrongFormat, WrongChannels, WrongAverage, WrongAlign, WrongBits}
use Rattle.error.specs.declared.AmvError.TheVariants.{WrongCbSize, PreambleTooShort, NoSamples, WaveFormatTooShort, HeaderTooShort}
use Rattle.error.specs.declared.AmvError.TheVariants.{ChunkHeaderTooShort, UnknownTag, StateOutOfRange, TableTooShort, TableRagged}
use Rattle.error.specs.declared.AmvError.TheVariants.{NoSuchStream, BadRecord, AlreadyBegun, NotBegun, PayloadTooLong, PacketOfNoStream}
use Rattle.error.specs.declared.AmvError.TheVariants.{NoRoom, AlreadyEnded, PreludeMissing, ChunkCut, AfterTrailer, VideoAtOddPosition}
use Rattle.error.specs.declared.AmvError.TheVariants.{AudioAtEvenPosition, OtherAtPosition, OddChunkCount, SamplesTooWide, StepIndexTooLarge}
use Rattle.error.specs.declared.AmvError.TheVariants.{NibblesMissing, SampleBufferTooShort, WrongRegisterBlock, UnknownCommand}
use Rattle.error.proofs.Answers.{both}

between : (e : AmvError) → (leb 1 (refusal_of e).number && leb (refusal_of e).number 255) ≡ true
between FileTooLong = refl
between (PreludeCut place) = refl
between (WrongTag place) = refl
between (WrongSize place) = refl
between ZeroFps = refl
between WrongMicros = refl
between WrongFlag = refl
between NonzeroReserved = refl
between (NonzeroByte place) = refl
between WrongFormat = refl
between WrongChannels = refl
between WrongAverage = refl
between WrongAlign = refl
between WrongBits = refl
between WrongCbSize = refl
between PreambleTooShort = refl
between NoSamples = refl
between WaveFormatTooShort = refl
between HeaderTooShort = refl
between ChunkHeaderTooShort = refl
between (UnknownTag place) = refl
between StateOutOfRange = refl
between TableTooShort = refl
between TableRagged = refl
between NoSuchStream = refl
between (BadRecord place) = refl
between (AlreadyBegun place) = refl
between (NotBegun place) = refl
between (PayloadTooLong place) = refl
between (PacketOfNoStream place) = refl
between (NoRoom place) = refl
between (AlreadyEnded place) = refl
between (PreludeMissing place) = refl
between (ChunkCut place) = refl
between (AfterTrailer place) = refl
between (VideoAtOddPosition place) = refl
between (AudioAtEvenPosition place) = refl
between (OtherAtPosition place) = refl
between (OddChunkCount place) = refl
between (SamplesTooWide place) = refl
between StepIndexTooLarge = refl
between NibblesMissing = refl
between SampleBufferTooShort = refl
between WrongRegisterBlock = refl
between UnknownCommand = refl

pub never_zero : (e : AmvError) → (refusal_of e).number ≡ 0 → ⊥
never_zero e z = omega (arith, leb-true 1 (refusal_of e).number (both (leb 1 (refusal_of e).number) _ (between e)).0)

pub in_a_byte : (e : AmvError) → (refusal_of e).number < 256
in_a_byte e = omega (arith, leb-true (refusal_of e).number 255 (both (leb 1 (refusal_of e).number) _ (between e)).1)
