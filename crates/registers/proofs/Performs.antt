-- What the code has done by a command is what the definition says, and the block and the answer made of it are the definition's. Assumes nothing.
use mathlib.Core.Path.{◌≡◌, refl, sym, ap, ◌∙◌}
use Rattle.std.proofs.Common.{Result, Ok, Err}
use Rattle.std.proofs.Common.{Option, Some, None}
use Prim.Native.Nat.{ℕ, ◌+◌}
use mathlib.Core.Bool.{Bool, cond}
use mathlib.Core.List.{List, ◌++◌}
use native.Mathlib.Omega.{arith}
use lib.IntN.{ℤ}
use lib.ListN.{length, drop, length-drop, drop_of_length-le}
use mir.Syntax.{w64}
use mir.Val.{Fits, to_z, of_z}
use mir.ValLaws.{of_z-to_z}
use Rattle.error.specs.Answer.{Answer, accepted, refused}
use Rattle.error.specs.Refusal.{refusal_of, said}
use Rattle.error.specs.declared.AmvError.{AmvError}
use Rattle.fields.specs.Le.{le_bytes, put, put_le}
use Rattle.demuxer.specs.Packet.{shown_of}
use Rattle.demuxer.specs.Read.{said_next, said_read, Placed, read_of}
use Rattle.demuxer.specs.declared.walker.Read.{Read}
use Rattle.demuxer.specs.declared.packet.Packet.{Packet}
use Rattle.demuxer.specs.declared.walker.Walker.{Walker}
use Rattle.recording.specs.Machine.{Call, read_answer, seek_answer, call}
use Rattle.seek.specs.Seek.{said_seek_outcome, seek_of}
use Rattle.seek.specs.declared.SeekOutcome.{SeekOutcome}
use Rattle.registers.specs.Registers.{command_in, done_of, perform, status_of, front_after, request_after, block_after, stepped, stepped_from, step_of}
use Rattle.registers.specs.Registers.{said_step, StepPlaced, MeetsStep}
use Rattle.registers.specs.Registers as registers
use Rattle.registers.specs.Steps.{said_command, call_of, said_done, said_performed, DonePlaced, read_done, seek_done, result_of}
use Rattle.registers.specs.Steps.{told_of, told_by, bits_of, number_of, stamped_by, block_told}
use Rattle.registers.specs.declared.Command.{Command}
use Rattle.registers.specs.declared.Command.TheVariants as command
use Rattle.registers.specs.declared.Done.{Done}
use Rattle.registers.specs.declared.Done.TheVariants as done
use Rattle.registers.specs.declared.Performed.{Performed}
use Rattle.registers.specs.declared.Told.{Told}
use Rattle.registers.specs.declared.Told.TheVariants as told

-- ---- a command

module _ (file table : List ℕ) (w : Walker) where
  -- a command that is performed: what was done, and that a packet names its payload
  abbrev Performs : Command → Done → Walker → Type 0
  Performs c d after =
      (said_performed file (record { done = d; walker = after }) ≡ perform file table w (call_of c)) × DonePlaced file w d

  pub none_performed : {c : Command} → c ≡ command.None → Performs c done.Nothing w
  none_performed e = (ap (λ c. perform file table w (call_of c)) (sym e), tt)

  read_is : (a : Result (Option Packet) AmvError) → said_done file (read_done a) ≡ done_of (read_answer (said_next file a))
  read_is (Ok (Some p)) = refl
  read_is (Ok None) = refl
  read_is (Err e) = refl

  read-placed : (a : Result (Option Packet) AmvError) → Placed file w a → DonePlaced file w (read_done a)
  read-placed (Ok (Some p)) h = h
  read-placed (Ok None) h = tt
  read-placed (Err e) h = tt

  pub read_performed_lem : {c : Command} {d : Done} (r : Read) → c ≡ command.Read → said_read file r ≡ read_of file w → Placed file w r.answer
      → d ≡ read_done r.answer → Performs c d r.walker
  unfolding call
  read_performed_lem r e h p d =
      rw (e, d) (
        (λ i. record { done = read_is r.answer i; walker = r.walker })
            ∙ ap (λ q. record { done = done_of (read_answer q.answer); walker = q.walker }) h,
        read-placed r.answer p,
      )

  seek_is : (a : Result ℕ AmvError) → said_done file (seek_done a) ≡ done_of (seek_answer (said a))
  seek_is (Ok stamp) = refl
  seek_is (Err e) = refl

  seek-placed : (a : Result ℕ AmvError) → DonePlaced file w (seek_done a)
  seek-placed (Ok stamp) = tt
  seek-placed (Err e) = tt

  -- the request's bits, read as signed, go to the seek as 64 bits, which give the same number
  pub seek_performed_lem : {c : Command} {d : Done} (stream request : ℕ) {z : ℤ} (r : SeekOutcome) → c ≡ command.Seek stream request → Fits w64 request
      → z ≡ to_z w64 request → said_seek_outcome r ≡ seek_of table w stream (to_z w64 (of_z w64 z)) → d ≡ seek_done r.result → Performs c d r.walker
  unfolding call
  seek_performed_lem stream request {z} r e f s h d =
      let back : to_z w64 (of_z w64 z) ≡ to_z w64 request = ap (λ (z : ℤ). to_z w64 (of_z w64 z)) s ∙ ap (to_z w64) (of_z-to_z w64 request f) in
      rw (e, d) (
        (λ i. record { done = seek_is r.result i; walker = r.walker })
            ∙ ap (λ q. record { done = done_of (seek_answer q.answer); walker = q.walker }) (h ∙ ap (seek_of table w stream) back),
        seek-placed r.result,
      )

-- ---- the block

module _ (block : List ℕ) where
  -- a stamp over what is left of the block
  stamped : length block ≡ 16 → (status number stamp : ℕ)
      → put_le 8 (front_after block status number ++ drop 8 block) 8 stamp ≡ front_after block status number ++ le_bytes 8 stamp
  unfolding put le_bytes
  stamped whole status number stamp =
      ap (λ (l : List ℕ). front_after block status number ++ (le_bytes 8 stamp ++ l))
      (drop_of_length-le (drop 8 block) {i = 8} (omega (arith, length-drop 8 block)))

  written : length block ≡ 16 → (t : Told) (end cut : Bool)
      → stamped_by t (front_after block (bits_of t + cond end 2 0 + cond cut 4 0) (number_of t) ++ drop 8 block) ≡ block_told block t end cut
  unfolding block_told
  written whole told.Nothing end cut = refl
  written whole (told.Gave stamp) end cut = stamped whole _ _ stamp
  written whole (told.Went stamp) end cut = stamped whole _ _ stamp
  written whole (told.Refused number) end cut = refl

  pub block_written : length block ≡ 16 → (t : Told) (end cut : Bool) {status number : ℕ} {front last : List ℕ}
      → status ≡ bits_of t + cond end 2 0 + cond cut 4 0 → number ≡ number_of t
      → front ≡ front_after block status number ++ drop 8 block → last ≡ stamped_by t front
      → last ≡ block_told block t end cut
  block_written whole t end cut s n f l =
      l ∙ ap (stamped_by t) (f ∙ (λ i. front_after block (s i) (n i) ++ drop 8 block)) ∙ written whole t end cut

  -- what is told of a command makes the definition's block
  told_is : (d : registers.Done) (w : Walker)
      → block_told block (told_by d) w.end w.cut ≡ block_after block (record { done = d; walker = w })
  unfolding block_told block_after
  told_is registers.nothing w = refl
  told_is (registers.gave p) w = refl
  told_is (registers.went stamp) w = refl
  told_is (registers.refused r) w = refl

  pub block-told : (p : registers.Performed) {t : Told} {end cut : Bool} → t ≡ told_by p.done → end ≡ p.walker.end → cut ≡ p.walker.cut
      → block_told block t end cut ≡ block_after block p
  block-told p e m c = (λ i. block_told block (e i) (m i) (c i)) ∙ told_is p.done p.walker

-- ---- the step

result_said : (file : List ℕ) (d : Done) → said_step file (result_of d) ≡ accepted (registers.packet_of (said_done file d))
result_said file done.Nothing = refl
result_said file (done.Gave p) = refl
result_said file (done.Went stamp) = refl
result_said file (done.Refused e) = refl

result_placed : (file : List ℕ) (w : Walker) (d : Done) → DonePlaced file w d → StepPlaced file w (result_of d)
result_placed file w done.Nothing h = tt
result_placed file w (done.Gave p) h = h
result_placed file w (done.Went stamp) h = tt
result_placed file w (done.Refused e) h = tt

-- what the code's command tells is what the definition's does
told-said : (file : List ℕ) (d : Done) → told_of d ≡ told_by (said_done file d)
unfolding shown_of
told-said file done.Nothing = refl
told-said file (done.Gave p) = refl
told-said file (done.Went stamp) = refl
told-said file (done.Refused e) = refl

module _ (file table : List ℕ) (w : Walker) (block : List ℕ) {r : Result Command AmvError} (asked : said_command r ≡ command_in block) where
  pub step-refused : {e : AmvError} → r ≡ Err e → MeetsStep file table w block (record { result = Err e; walker = w }) block
  unfolding step_of
  step-refused {e} t =
      let q : command_in block ≡ refused (refusal_of e) = sym asked ∙ ap said_command t in
      record {
        answer = sym (ap (λ (a : Answer (Option Call)). (stepped_from file table w block a).answer) q);
        walker = sym (ap (λ (a : Answer (Option Call)). (stepped_from file table w block a).walker) q);
        block = sym (ap (λ (a : Answer (Option Call)). (stepped_from file table w block a).block) q);
        placed = tt;
      }

  pub command-is : {c : Command} → r ≡ Ok c → command_in block ≡ accepted (call_of c)
  command-is t = sym asked ∙ ap said_command t

  pub step-made : (p : Performed) {c : Command} {t : Told} {last : List ℕ} {result : Result (Option Packet) AmvError} → r ≡ Ok c
      → said_performed file p ≡ perform file table w (call_of c) → DonePlaced file w p.done
      → t ≡ told_of p.done → last ≡ block_told block t p.walker.end p.walker.cut → result ≡ result_of p.done
      → MeetsStep file table w block (record { result = result; walker = p.walker }) last
  unfolding step_of
  step-made p t h l d b e =
      let k = sym (ap (λ (a : Answer (Option Call)). stepped_from file table w block a) (command-is t)) in
      let m = ap (stepped block) h in
      record {
        answer = ap (said_step file) e ∙ result_said file p.done ∙ ap (λ s. s.answer) m ∙ ap (λ s. s.answer) k;
        walker = ap (λ s. s.walker) m ∙ ap (λ s. s.walker) k;
        block = b ∙ block-told block (said_performed file p) (d ∙ told-said file p.done) refl refl ∙ ap (λ s. s.block) m ∙ ap (λ s. s.block) k;
        placed = rw e (result_placed file w p.done l);
      }
