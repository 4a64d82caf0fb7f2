-- The two states as words. Assumes nothing.
use Rattle.std.specs.Prelude.{◌≡◌, ℕ, Bool, true, cond, ◌&&◌, List, [], ◌∷◌, leb, eqb, length, get_or, Option, Some, None}
use Rattle.fields.specs.Capped.{u32_max}
use Rattle.error.specs.Answer.{Answer, accepted, refused, numbered, ask}
use Rattle.demuxer.specs.declared.position.Position.{Position}
use Rattle.demuxer.specs.declared.walker.Walker.{Walker}
use Rattle.muxer.specs.declared.Writer.{Writer}

-- word i
abbrev pub word : List ℕ → ℕ → ℕ
word ws i = get_or ws i 0

-- a mark is 0 or 1
abbrev pub mark_of : ℕ → Bool
mark_of n = eqb n 1

-- the mark of a word, if it is one
abbrev pub mark_in : ℕ → Option Bool
mark_in n = cond (leb n 1) (Some (mark_of n)) None

abbrev pub mark_word : Bool → ℕ
mark_word mark = cond mark 1 0

-- the trailer's offset; the largest word says that none was met
abbrev pub not_met : ℕ
not_met = 18446744073709551615

abbrev pub trailer_of : ℕ → Option ℕ
trailer_of n = cond (eqb n not_met) None (Some n)

abbrev pub trailer_word : Option ℕ → ℕ
trailer_word (Some n) = n
trailer_word None = not_met

-- words outside their fields' ranges spell no state: a call refuses them with 1 at 0, before 01's questions
abbrev pub ask_state : {S : Type 0} → Bool → S → Answer S
ask_state legal s = ask legal 1 0 (accepted s)

-- a walker: cursor, frames, samples, blocks, end, cut, trailer. A cursor or a count that is too large is for 32 to refuse.
unfoldable pub walker_legal : List ℕ → Bool
walker_legal ws = leb (word ws 4) 1 && leb (word ws 5) 1

abbrev pub walker_of : List ℕ → Answer Walker
walker_of ws =
    ask_state (walker_legal ws)
    (record {
      position =
          record {
            cursor = word ws 0;
            frames = record { 0 = word ws 1 };
            samples = record { 0 = word ws 2 };
            blocks = record { 0 = word ws 3 };
          };
      end = mark_of (word ws 4);
      cut = mark_of (word ws 5);
      trailer = trailer_of (word ws 6);
    })

abbrev pub walker_words : Walker → List ℕ
walker_words w =
    let p = w.position in
    p.cursor ∷ p.frames.0 ∷ p.samples.0 ∷ p.blocks.0 ∷ mark_word w.end ∷ mark_word w.cut ∷ trailer_word w.trailer ∷ []

-- the words of the same walker at another position
abbrev pub position_into : Position → List ℕ → List ℕ
position_into p ws = p.cursor ∷ p.frames.0 ∷ p.samples.0 ∷ p.blocks.0 ∷ word ws 4 ∷ word ws 5 ∷ word ws 6 ∷ []

abbrev pub said_walker : Option Walker → Answer Walker
said_walker (Some w) = accepted w
said_walker None = refused (numbered 1 0)

-- a writer: width, height, fps, rate, channels, begun, ended, written, frames
unfoldable pub settings_legal : List ℕ → Bool
settings_legal ws =
    leb (word ws 0) u32_max && leb (word ws 1) u32_max && leb (word ws 2) u32_max && leb (word ws 3) u32_max
    && leb (word ws 4) 65535

unfoldable pub writer_legal : List ℕ → Bool
writer_legal ws = settings_legal ws && leb (word ws 5) 1 && leb (word ws 6) 1

abbrev pub writer_of : List ℕ → Answer Writer
writer_of ws =
    ask_state (writer_legal ws)
    (record {
      settings = record { width = word ws 0; height = word ws 1; fps = word ws 2; rate = word ws 3; channels = word ws 4 };
      begun = mark_of (word ws 5);
      ended = mark_of (word ws 6);
      written = word ws 7;
      frames = word ws 8;
    })

abbrev pub writer_words : Writer → List ℕ
writer_words w =
    let s = w.settings in
    s.width ∷ s.height ∷ s.fps ∷ s.rate ∷ s.channels ∷ mark_word w.begun ∷ mark_word w.ended ∷ w.written ∷ w.frames ∷ []

-- the words of the same writer at other counts
abbrev pub counts_into : ℕ → ℕ → List ℕ → List ℕ
counts_into written frames ws =
    word ws 0 ∷ word ws 1 ∷ word ws 2 ∷ word ws 3 ∷ word ws 4 ∷ word ws 5 ∷ word ws 6 ∷ written ∷ frames ∷ []

abbrev pub said_writer : Option Writer → Answer Writer
said_writer (Some w) = accepted w
said_writer None = refused (numbered 1 0)

-- The words stand for the state. Taken for a state and written back they are the same, so a refusal, which returns the state that it
-- was given, changes no word. And a state's words spell that state again, where its trailer is not met at the largest word (no call
-- leaves it there) and its settings are in their fields' ranges (as those of code always are).
pub record WordsStand : Type 0 where
  pub walker_kept : (ws : List ℕ) (w : Walker) → length ws ≡ 7 → walker_of ws ≡ accepted w → walker_words w ≡ ws
  pub writer_kept : (ws : List ℕ) (w : Writer) → length ws ≡ 9 → writer_of ws ≡ accepted w → writer_words w ≡ ws
  pub walker_back : (w : Walker) → trailer_of (trailer_word w.trailer) ≡ w.trailer → walker_of (walker_words w) ≡ accepted w
  pub writer_back : (w : Writer) → settings_legal (writer_words w) ≡ true → writer_of (writer_words w) ≡ accepted w
