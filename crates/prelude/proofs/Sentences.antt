-- The numbers of the prelude's questions: item by item, then those of the bodies and of the zero ranges. Assumes nothing.
use mathlib.Core.Path.{◌≡◌, refl, sym, ap}
use mathlib.Core.Bool.{Bool, true, false, cond}
use mathlib.Core.List.{List, [], ◌∷◌}
use Prim.Native.Nat.{ℕ, zero, suc, ◌+◌}
use lib.Dec.{leb, eqb}
use lib.ListN.{length, get_or}
use Rattle.error.specs.Answer.{Answer, accepted, refused, and_then}
use Rattle.error.specs.Sentences.{one_of, RefusedBy}
use Rattle.error.specs.declared.Refusal.{Refusal}
use Rattle.error.proofs.Answers.{never, accepted-same}
use Rattle.error.proofs.Sentences.{asked_by, then_by}
use Rattle.fields.specs.File.{within_limit}
use Rattle.fields.specs.Le.{le}
use Rattle.parse.specs.Header.{header_sentinels}
use Rattle.parse.specs.WaveFormat.{wave_format_sentinels}
use Rattle.parse.proofs.Sentences.{header-fields_by, wave_format_fields_by}
use Rattle.prelude.specs.Layout.{layout, ask_word, ask_body, ask_item, ask_items}
use Rattle.prelude.specs.Prelude.{prelude_fields, parse_of, zeros, zero_ranges, validated_of, strict_of}
use Rattle.prelude.specs.Sentences.{parse_numbers, strict_numbers, PreludeSentences}
use Rattle.prelude.specs.declared.layout.LayoutItem.{LayoutItem}
use Rattle.prelude.specs.declared.layout.LayoutItem.TheVariants.{Tag, Size, Body}
use Rattle.prelude.specs.declared.prelude.AmvPrelude.{AmvPrelude}
use Rattle.prelude.proofs.BuiltLaws.{length-prelude, parse-built, strict-built}

module _ (numbers : List ℕ) (ten : one_of numbers 10 ≡ true) (eleven : one_of numbers 11 ≡ true) (twelve : one_of numbers 12 ≡ true)
    (thirteen : one_of numbers 13 ≡ true) where
  word_by : (file : List ℕ) (place value : ℕ) (wrong : Refusal) → one_of numbers wrong.number ≡ true → RefusedBy numbers (ask_word file place value wrong)
  unfolding ask_word
  word_by file place value wrong n =
      asked_by numbers (leb (place + 4) (length file)) 11 place _ eleven (go (eqb (le 4 file place) value))
    where
      go : (b : Bool) → RefusedBy {A = Unit} numbers (cond b (accepted tt) (refused wrong))
      go true = tt
      go false = n

  item_by : (file : List ℕ) (item : LayoutItem) → RefusedBy numbers (ask_item file item)
  unfolding ask_body
  item_by file (Tag place value) = word_by file place value _ twelve
  item_by file (Size place value) = word_by file place value _ thirteen
  item_by file (Body place width) = asked_by numbers (leb (place + width) (length file)) 11 place (accepted tt) eleven tt

  items_by : (file : List ℕ) (items : List LayoutItem) → RefusedBy numbers (ask_items file items)
  unfolding ask_items
  items_by file [] = tt
  items_by file (item ∷ items) = then_by numbers (ask_item file item) (λ _. ask_items file items) (item_by file item) (λ _. items_by file items)

  parse_by : (file : List ℕ) → RefusedBy numbers (parse_of file)
  unfolding parse_of
  parse_by file =
      asked_by numbers (within_limit file) 10 0 (and_then (ask_items file layout) (λ _. accepted (prelude_fields file))) ten
      (then_by numbers (ask_items file layout) (λ _. accepted (prelude_fields file)) (items_by file layout) (λ _. tt))

zeros_by : (file : List ℕ) (place n : ℕ) → RefusedBy strict_numbers (zeros file place n)
unfolding zeros
zeros_by file place zero = tt
zeros_by file place (suc n) = asked_by strict_numbers (eqb (get_or file place 0) 0) 18 place (zeros file (suc place) n) refl (zeros_by file (suc place) n)

ranges_by : (file : List ℕ) → RefusedBy strict_numbers (zero_ranges file)
unfolding zero_ranges
ranges_by file =
    let third : Unit → Answer Unit = λ _. and_then (zeros file 172 36) (λ _. zeros file 228 48) in
    let second : Unit → Answer Unit = λ _. and_then (zeros file 108 56) third in
    then_by strict_numbers (zeros file 36 28) second (zeros_by file 36 28)
    (λ _. then_by strict_numbers (zeros file 108 56) third (zeros_by file 108 56)
    (λ _. then_by strict_numbers (zeros file 172 36) (λ _. zeros file 228 48) (zeros_by file 172 36) (λ _. zeros_by file 228 48)))

validated_by : (p : AmvPrelude) (file : List ℕ) → RefusedBy strict_numbers (validated_of p file)
unfolding validated_of
validated_by p file =
    let third : Unit → Answer AmvPrelude = λ _. and_then (wave_format_sentinels p.audio_format) (λ _. accepted p) in
    let second : Unit → Answer AmvPrelude = λ _. and_then (zero_ranges file) third in
    then_by strict_numbers (header_sentinels p.header) second (header-fields_by strict_numbers refl refl refl refl p.header)
    (λ _. then_by strict_numbers (zero_ranges file) third (ranges_by file)
    (λ _. then_by strict_numbers (wave_format_sentinels p.audio_format) (λ _. accepted p)
    (wave_format_fields_by strict_numbers refl refl refl refl refl refl p.audio_format)
    (λ _. tt)))

pub strict_by : (file : List ℕ) → RefusedBy strict_numbers (strict_of file)
unfolding strict_of
strict_by file = then_by strict_numbers (parse_of file) (λ p. validated_of p file) (parse_by strict_numbers refl refl refl refl file) (λ p. validated_by p file)

-- what is validated is what was parsed
same : (p : AmvPrelude) (file : List ℕ) {q : AmvPrelude} → validated_of p file ≡ accepted q → p ≡ q
unfolding validated_of
same p file = go (header_sentinels p.header) (zero_ranges file) (wave_format_sentinels p.audio_format)
  where
    go : (a b c : Answer Unit) {q : AmvPrelude} → and_then a (λ _. and_then b (λ _. and_then c (λ _. accepted p))) ≡ accepted q → p ≡ q
    go (refused r) b c e = never (sym e)
    go (accepted x) (refused r) c e = never (sym e)
    go (accepted x) (accepted y) (refused r) e = never (sym e)
    go (accepted x) (accepted y) (accepted z) e = accepted-same e

more : (file : List ℕ) (a : Answer AmvPrelude) {q : AmvPrelude} → and_then a (λ p. validated_of p file) ≡ accepted q → a ≡ accepted q
more file (refused r) e = never (sym e)
more file (accepted p) e = ap accepted (same p file e)

pub prelude_sentences : PreludeSentences
unfolding strict_of
prelude_sentences =
    record {
      numbers = parse_by parse_numbers refl refl refl refl;
      strict_numbers_lem = strict_by;
      long = length-prelude;
      built = λ width height fps duration rate channels h. parse-built h;
      passes = λ width height fps duration rate h p. strict-built h p;
      strict_is_more = λ file p e. more file (parse_of file) e;
    }
