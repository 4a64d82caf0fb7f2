-- The number and the place of each case of `AmvError`, as documents 01 and 02 fix them. Assumes nothing.
use Rattle.error.specs.Answer.{Answer, accepted, refused, numbered}
use Rattle.std.specs.Prelude.{Result, Ok, Err}
use Rattle.error.specs.declared.Refusal.{Refusal}
use Rattle.error.specs.declared.AmvError.{AmvError}
use Rattle.error.specs.declared.AmvError.TheVariants.{FileTooLong, PreludeCut, WrongTag, WrongSize, ZeroFps, WrongMicros, WrongFlag, NonzeroReserved}
use Rattle.error.specs.declared.AmvError.TheVariants.{NonzeroByte, WrongFormat, WrongChannels, WrongAverage, WrongAlign, WrongBits}
use Rattle.error.specs.declared.AmvError.TheVariants.{WrongCbSize, PreambleTooShort, NoSamples, WaveFormatTooShort, HeaderTooShort}
use Rattle.error.specs.declared.AmvError.TheVariants.{ChunkHeaderTooShort, UnknownTag, StateOutOfRange, TableTooShort, TableRagged}
use Rattle.error.specs.declared.AmvError.TheVariants.{NoSuchStream, BadRecord, AlreadyBegun, NotBegun, PayloadTooLong, PacketOfNoStream}
use Rattle.error.specs.declared.AmvError.TheVariants.{NoRoom, AlreadyEnded, PreludeMissing, ChunkCut, AfterTrailer, VideoAtOddPosition}
use Rattle.error.specs.declared.AmvError.TheVariants.{AudioAtEvenPosition, OtherAtPosition, OddChunkCount, SamplesTooWide, StepIndexTooLarge}
use Rattle.error.specs.declared.AmvError.TheVariants.{NibblesMissing, SampleBufferTooShort, WrongRegisterBlock, UnknownCommand}

-- in the order of the numbers
abbrev pub refusal_of : AmvError → Refusal
refusal_of FileTooLong = numbered 10 0
refusal_of (PreludeCut place) = numbered 11 place
refusal_of (WrongTag place) = numbered 12 place
refusal_of (WrongSize place) = numbered 13 place
refusal_of ZeroFps = numbered 14 72
refusal_of WrongMicros = numbered 15 32
refusal_of WrongFlag = numbered 16 76
refusal_of NonzeroReserved = numbered 17 80
refusal_of (NonzeroByte place) = numbered 18 place
refusal_of WrongFormat = numbered 19 284
refusal_of WrongChannels = numbered 20 286
refusal_of WrongAverage = numbered 21 292
refusal_of WrongAlign = numbered 22 296
refusal_of WrongBits = numbered 23 298
refusal_of WrongCbSize = numbered 24 300
refusal_of PreambleTooShort = numbered 25 0
refusal_of NoSamples = numbered 26 0
refusal_of WaveFormatTooShort = numbered 27 0
refusal_of HeaderTooShort = numbered 28 0
refusal_of ChunkHeaderTooShort = numbered 29 0
refusal_of (UnknownTag place) = numbered 31 place
refusal_of StateOutOfRange = numbered 32 0
refusal_of TableTooShort = numbered 40 0
refusal_of TableRagged = numbered 41 0
refusal_of NoSuchStream = numbered 42 0
refusal_of (BadRecord place) = numbered 43 place
refusal_of (AlreadyBegun written) = numbered 50 written
refusal_of (NotBegun written) = numbered 51 written
refusal_of (PayloadTooLong written) = numbered 52 written
refusal_of (PacketOfNoStream written) = numbered 53 written
refusal_of (NoRoom written) = numbered 54 written
refusal_of (AlreadyEnded written) = numbered 55 written
refusal_of (PreludeMissing written) = numbered 56 written
refusal_of (ChunkCut place) = numbered 60 place
refusal_of (AfterTrailer place) = numbered 61 place
refusal_of (VideoAtOddPosition position) = numbered 62 position
refusal_of (AudioAtEvenPosition position) = numbered 63 position
refusal_of (OtherAtPosition position) = numbered 64 position
refusal_of (OddChunkCount count) = numbered 65 count
refusal_of (SamplesTooWide place) = numbered 70 place
refusal_of StepIndexTooLarge = numbered 71 2
refusal_of NibblesMissing = numbered 72 4
refusal_of SampleBufferTooShort = numbered 73 0
refusal_of WrongRegisterBlock = numbered 74 0
refusal_of UnknownCommand = numbered 75 0

-- what a call answers, by what it returns
abbrev pub said : {A : Type 0} → Result A AmvError → Answer A
said (Ok x) = accepted x
said (Err e) = refused (refusal_of e)
