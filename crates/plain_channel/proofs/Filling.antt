-- A side with another pour, and a pour with other numbers. Assumes nothing.
use Prim.Native.Nat.{ℕ}
use Rattle.plain_channel.specs.declared.Pour.{Pour}
use Rattle.plain_channel.specs.declared.Side.{Side}

abbrev pub with_pour : Pour → Side → Side
with_pour u k = record { hots = k.hots; pour = u }

abbrev pub with_eased : ℕ → Pour → Pour
with_eased n u = record { sums = u.sums; values = u.values; eased = n; next = u.next; left = u.left }

abbrev pub with_next : ℕ → Pour → Pour
with_next n u = record { sums = u.sums; values = u.values; eased = u.eased; next = n; left = u.left }

abbrev pub with_left : ℕ → Pour → Pour
with_left n u = record { sums = u.sums; values = u.values; eased = u.eased; next = u.next; left = n }
