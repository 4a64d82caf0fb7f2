-- The numbers of the bodies' questions: each question is asked in turn, and every one of its numbers is listed. Assumes nothing.
use mathlib.Core.Path.{◌≡◌, refl}
use mathlib.Core.Bool.{Bool, true, false}
use mathlib.Core.List.{List, [], ◌∷◌}
use Prim.Native.Nat.{ℕ, ◌/◌}
use lib.Dec.{leb, ltb, eqb}
use lib.ListN.{length}
use Rattle.error.specs.Answer.{Answer, accepted, ask}
use Rattle.error.specs.Sentences.{one_of, RefusedBy}
use Rattle.error.proofs.Sentences.{asked_by}
use Rattle.parse.specs.Header.{header_fields, header_of, header_sentinels}
use Rattle.parse.specs.Preamble.{preamble_of}
use Rattle.parse.specs.Sentences.{BodySentences}
use Rattle.parse.specs.WaveFormat.{average_of, wave_format_fields, wave_format_of, wave_format_sentinels}
use Rattle.parse.specs.declared.header.AmvHeader.{AmvHeader}
use Rattle.parse.specs.declared.wave_format.AmvWaveFormat.{AmvWaveFormat}

-- four questions, and six: the numbers are listed whatever the questions' answers are
module _ (numbers : List ℕ) (n₁ n₂ n₃ n₄ p₁ p₂ p₃ p₄ : ℕ) (rest : Answer Unit) where
  four : (a b c d : Bool) → one_of numbers n₁ ≡ true → one_of numbers n₂ ≡ true → one_of numbers n₃ ≡ true → one_of numbers n₄ ≡ true
      → RefusedBy numbers rest → RefusedBy numbers (ask a n₁ p₁ (ask b n₂ p₂ (ask c n₃ p₃ (ask d n₄ p₄ rest))))
  four false b c d x y z w r = x
  four true false c d x y z w r = y
  four true true false d x y z w r = z
  four true true true false x y z w r = w
  four true true true true x y z w r = r

pub header-fields_by : (numbers : List ℕ) → one_of numbers 14 ≡ true → one_of numbers 15 ≡ true → one_of numbers 16 ≡ true → one_of numbers 17 ≡ true
    → (h : AmvHeader) → RefusedBy numbers (header_sentinels h)
unfolding header_sentinels
header-fields_by numbers x y z w h =
    four numbers 14 15 16 17 72 32 76 80 (accepted tt) (ltb 0 h.fps) (eqb h.micros_per_frame (1000000 / h.fps)) (eqb h.flag_one 1)
    (eqb h.reserved_30 0) x y z w tt

pub wave_format_fields_by : (numbers : List ℕ) → one_of numbers 19 ≡ true → one_of numbers 20 ≡ true → one_of numbers 21 ≡ true
    → one_of numbers 22 ≡ true → one_of numbers 23 ≡ true → one_of numbers 24 ≡ true → (f : AmvWaveFormat) → RefusedBy numbers (wave_format_sentinels f)
unfolding wave_format_sentinels
wave_format_fields_by numbers a b c d e g f =
    let last : Answer Unit = ask (eqb f.bits_per_sample 16) 23 298 (ask (eqb f.cb_size 0) 24 300 (accepted tt)) in
    four numbers 19 20 21 22 284 286 292 296 last (eqb f.format_tag 1) (eqb f.channels 1)
    (eqb f.avg_bytes_per_sec (average_of f.samples_per_sec)) (eqb f.block_align 2) a b c d
    (asked_by numbers (eqb f.bits_per_sample 16) 23 298 (ask (eqb f.cb_size 0) 24 300 (accepted tt)) e
    (asked_by numbers (eqb f.cb_size 0) 24 300 (accepted tt) g tt))

pub body_sentences : BodySentences
unfolding header_of wave_format_of preamble_of
body_sentences =
    record {
      header = λ body. asked_by (28 ∷ []) (leb 56 (length body)) 28 0 (accepted (header_fields body)) refl tt;
      wave_format = λ body. asked_by (27 ∷ []) (leb 18 (length body)) 27 0 (accepted (wave_format_fields body)) refl tt;
      preamble = λ body. asked_by (25 ∷ []) (leb 8 (length body)) 25 0 _ refl tt;
      samples = λ p. asked_by (26 ∷ []) (ltb 0 p.decoded_sample_count) 26 0 (accepted tt) refl tt;
      header_fields_lem = header-fields_by (14 ∷ 15 ∷ 16 ∷ 17 ∷ []) refl refl refl refl;
      wave_format_fields_lem = wave_format_fields_by (19 ∷ 20 ∷ 21 ∷ 22 ∷ 23 ∷ 24 ∷ []) refl refl refl refl refl refl;
    }
