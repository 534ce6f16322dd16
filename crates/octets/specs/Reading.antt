-- Reading bytes item by item. Defines, in this order:
--   Reading   a value, or the number of a fault and the byte at which the item that has it begins
--   next      one item and then what follows it: the first fault is told
--   item      one item, judged
-- Assumes nothing.
use Rattle.std.specs.Prelude.{ℕ, cond, ◌==◌, nat_lt}

pub data Reading (A : Type 0) : Type 0 where
  got : A → Reading A
  fault : (number at : ℕ) → Reading A

-- an item that was judged and found good
abbrev pub fine : Reading (Unit {0})
fine = got tt

abbrev pub next : {A : Type 0} → Reading (Unit {0}) → Reading A → Reading A
next (got x) r = r
next (fault number at) r = fault number at

-- of `len` bytes, those from `at` to `end` (not included) are an item whose lowest fault is `number`, 0 for none;
-- an item that is cut short has fault 1, the lowest of all
unfoldable pub item : (len at end number : ℕ) → Reading (Unit {0})
item len at end number = cond (nat_lt len end) (fault 1 at) (cond (number == 0) fine (fault number at))
