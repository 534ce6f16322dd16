-- What carries a packet. Defines, in this order:
--   carrier         the definition's carrier that one of the code is
--   number_of       the number of a link
--   Known h n c     it is one of h packets of the message, or of n links
-- Assumes nothing.
use Rattle.std.specs.Prelude.{ℕ, ◌<◌, Option, Some, None}
use Rattle.coding_theory.specs.Coding.{Carrier, message, link}
use Rattle.coding_steps.specs.declared.carrier.Carrier.{Carrier as Named}
use Rattle.coding_steps.specs.declared.carrier.Carrier.TheVariants.{Message, Link}

abbrev pub carrier : Named → Carrier
carrier (Message i) = message i
carrier (Link k) = link k

abbrev pub number_of : Named → Option ℕ
number_of (Message i) = None
number_of (Link k) = Some k

abbrev pub Known : ℕ → ℕ → Carrier → Type 0
Known h n (message i) = i < h
Known h n (link k) = k < n
