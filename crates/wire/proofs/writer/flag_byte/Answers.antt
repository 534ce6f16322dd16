use Rattle.std.proofs.Common.{◌≡◌, Bool, true, false, cond, refl, ◌∙◌}
use mir.Val.{bool_byte}
use Rattle.wire.specs.Format.{flag_byte}
use Rattle.wire.proofs.writer.flag_byte.Goals as goal

byte-is : (b : Bool) → bool_byte b ≡ cond b 1 0
byte-is true = refl
byte-is false = refl

pub returns : goal.returns
unfolding flag_byte
returns c =
    rw (
      c.from.ensures ∙ byte-is _,
      c.from-2.ensures ∙ byte-is _,
      c.from-3.ensures ∙ byte-is _,
      c.from-4.ensures ∙ byte-is _,
      c.from-5.ensures ∙ byte-is _,
      c.from-6.ensures ∙ byte-is _,
      c.from-7.ensures ∙ byte-is _,
      c.from-8.ensures ∙ byte-is _,
    )
