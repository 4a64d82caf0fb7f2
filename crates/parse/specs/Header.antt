-- The body of `amvh`. Assumes nothing.
use Rattle.std.specs.Prelude.{ℕ, ◌/◌, List, leb, ltb, eqb, length}
use Rattle.std.specs.Prelude.{Result, Ok, Err}
use Rattle.error.specs.declared.AmvError.{AmvError}
use Rattle.error.specs.Answer.{Answer, accepted, refused, ask}
use Rattle.error.specs.Refusal.{refusal_of}
use Rattle.fields.specs.Le.{le}
use Rattle.parse.specs.declared.header.AmvHeader.{AmvHeader}

-- 01: "prelude length and fresh states belong to their types"; the original's `AmvHeader::new`: the flag 1, and 0 elsewhere
abbrev pub new_header : ℕ → ℕ → AmvHeader
new_header width height =
    record {
      micros_per_frame = 0;
      width = width;
      height = height;
      fps = 0;
      flag_one = 1;
      reserved_30 = 0;
      duration_packed = 0;
    }

-- 01's offsets in the file, less the 32 at which the body starts: the quotient at 32, width 64, height 68, fps 72, the flag 76,
-- zero at 80, duration 84
unfoldable pub header_fields : List ℕ → AmvHeader
header_fields body =
    record {
      micros_per_frame = le 4 body 0;
      width = le 4 body 32;
      height = le 4 body 36;
      fps = le 4 body 40;
      flag_one = le 4 body 44;
      reserved_30 = le 4 body 48;
      duration_packed = le 4 body 52;
    }

-- 01: "`AmvHeader::parse` 56 bytes? 28."
unfoldable pub header_of : List ℕ → Answer AmvHeader
header_of body = ask (leb 56 (length body)) 28 0 (accepted (header_fields body))

-- 01: "fps above 0? 14. Is micros 1,000,000/fps? 15. Flag 1 (76)? 16. Zero at 80? 17. .. Places: field offsets."
unfoldable pub header_sentinels : AmvHeader → Answer Unit
header_sentinels h =
    ask (ltb 0 h.fps) 14 72
    (ask (eqb h.micros_per_frame (1000000 / h.fps)) 15 32
    (ask (eqb h.flag_one 1) 16 76
    (ask (eqb h.reserved_30 0) 17 80
    (accepted tt))))
