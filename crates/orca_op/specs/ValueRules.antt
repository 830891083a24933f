-- The rules of the value operators: each reads the place at its left and the place at its right,
-- and writes below.
use Rattle.std.specs.Prelude.{ℕ, ◌+◌, ◌-◌, ◌*◌, ◌/◌, ◌%◌, ◌^◌, ◌==◌, ◌||◌, nat_lt, nat_le, min, max, if◌then◌else◌, List, [], ◌∷◌, ◌++◌}
use Rattle.orca_base.specs.declared.limits.TheConstants.{BASE}
use Rattle.orca_base.specs.declared.now.Now.{Now}
use Rattle.orca_base.specs.declared.place.Place.{Place}
use Rattle.orca_base.specs.Glyphs.{empty, bang, value, cased}
use Rattle.orca_base.specs.Grids.{Size, index_of}
use Rattle.orca_op.specs.State.{State, peek}
use Rattle.orca_base.specs.Grids.{below, left, right}
use Rattle.orca_op.specs.Deeds.{Deed, Write, input_at, param_at, output_at}
use Rattle.rand_pcg.specs.Lcg.{started, increment_of}
use Rattle.rand_pcg.specs.Pcg.{multiplier_64, pcg32}

-- the value of a glyph, or another where the value is 0
unfoldable pub value_or : ℕ → ℕ → ℕ
value_or glyph other = if value glyph == 0 then other else value glyph

-- the value of a rate: 1 where the glyph is `.` or `*`
unfoldable pub rate_of : ℕ → ℕ
rate_of glyph = if (glyph == empty) || (glyph == bang) then 1 else value glyph

-- the ports of a value operator
abbrev pub value_ports : Place → List Deed
value_ports at = param_at (left at 1) ∷ input_at (right at 1) ∷ output_at (below at) ∷ []

-- a value operator marks its ports, and writes its answer below
abbrev pub answer_deeds : Place → ℕ → List Deed
answer_deeds at glyph = value_ports at ++ Write (below at) glyph ∷ []

-- the same of one that also reads what stands below
abbrev pub change_deeds : Place → ℕ → List Deed
change_deeds at glyph = value_ports at ++ input_at (below at) ∷ Write (below at) glyph ∷ []

-- A: the sum of its inputs
abbrev pub add : ℕ → State → Place → Now → List Deed
add g s at now =
    let a = peek s (left at 1) in
    let b = peek s (right at 1) in
    answer_deeds at (cased ((value a + value b) % BASE) b)

-- B: the distance of its inputs
abbrev pub subtract : ℕ → State → Place → Now → List Deed
subtract g s at now =
    let a = peek s (left at 1) in
    let b = peek s (right at 1) in
    answer_deeds at (cased (max (value a) (value b) - min (value a) (value b)) b)

-- C: the frame's number, divided by the rate, modulo the modulus
abbrev pub clock : ℕ → State → Place → Now → List Deed
clock g s at now =
    let rate = peek s (left at 1) in
    let modulus = peek s (right at 1) in
    answer_deeds at (cased ((now.tick / value_or rate 1) % value_or modulus 8) modulus)

-- D: a bang on each multiple of the rate times the modulus
abbrev pub delay : ℕ → State → Place → Now → List Deed
delay g s at now =
    let rate = peek s (left at 1) in
    let modulus = peek s (right at 1) in
    let period = value_or rate 1 * value_or modulus 8 in
    answer_deeds at (if now.tick % period == 0 then bang else empty)

-- F: a bang where its inputs are the same glyph
abbrev pub if_equal : ℕ → State → Place → Now → List Deed
if_equal g s at now =
    let a = peek s (left at 1) in
    let b = peek s (right at 1) in
    answer_deeds at (if a == b then bang else empty)

-- I: what stands below, raised by the step, modulo the modulus
abbrev pub increment : ℕ → State → Place → Now → List Deed
increment g s at now =
    let step = peek s (left at 1) in
    let modulus = peek s (right at 1) in
    let current = peek s (below at) in
    change_deeds at (cased ((value current + rate_of step) % value_or modulus BASE) modulus)

-- L: the smaller of its inputs, and nothing where one is missing
abbrev pub lesser : ℕ → State → Place → Now → List Deed
lesser g s at now =
    let a = peek s (left at 1) in
    let b = peek s (right at 1) in
    let smaller = cased (min (value a) (value b)) b in
    answer_deeds at (if (a == empty) || (b == empty) then empty else smaller)

-- M: the product of its inputs
abbrev pub multiply : ℕ → State → Place → Now → List Deed
multiply g s at now =
    let a = peek s (left at 1) in
    let b = peek s (right at 1) in
    answer_deeds at (cased ((value a * value b) % BASE) b)

-- the random word of a place: the first word of the generator that the seed, the frame and the
-- place name
unfoldable pub word_in : Size → Place → Now → ℕ
word_in dims at now =
    let first = now.seed * 2 ^ 32 + now.tick in
    let stream = increment_of 64 (index_of dims at) in
    (pcg32 (started 64 multiplier_64 first stream)).0

-- a value from the smaller of two bounds to below the larger, by a word; the bound where they are
-- equal
unfoldable pub random_between : ℕ → ℕ → ℕ → ℕ
random_between a b word = if a == b then a else min a b + word % (max a b - min a b)

-- R: a random value between its inputs
abbrev pub random : ℕ → State → Place → Now → List Deed
random g s at now =
    let min = peek s (left at 1) in
    let max = peek s (right at 1) in
    let word = word_in s.dims at now in
    answer_deeds at (cased (random_between (value min) (value_or max BASE) word) max)

-- U: a bang on the frames of an even spread of `step` bangs over `max` frames
abbrev pub uclid : ℕ → State → Place → Now → List Deed
uclid g s at now =
    let step = peek s (left at 1) in
    let max = peek s (right at 1) in
    let n = rate_of step in
    let m = value_or max 8 in
    answer_deeds at (if nat_le m ((n * (now.tick + m - 1)) % m + n) then bang else empty)

-- the value one step nearer to the target
unfoldable pub lerped : ℕ → ℕ → ℕ → ℕ
lerped from rate target =
    if nat_lt from target then min (from + rate) target
    else (if nat_lt target from then max (from - rate) target else target)

-- Z: what stands below, a step nearer to the target
abbrev pub lerp : ℕ → State → Place → Now → List Deed
lerp g s at now =
    let rate = peek s (left at 1) in
    let target = peek s (right at 1) in
    let current = peek s (below at) in
    change_deeds at (cased (lerped (value current) (rate_of rate) (value target)) target)
