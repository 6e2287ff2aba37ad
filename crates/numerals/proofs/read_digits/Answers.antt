-- `read_digits` meets its contract.
use Rattle.std.proofs.Common.{◌≡◌, ◌+◌, ◌≤◌, get_or}
use Rattle.language.specs.Bytes.{digit_byte}
use native.Mathlib.Omega.{arith}
use Rattle.numerals.proofs.Numerals.{reading-more, rest-at, pow-up}
use Rattle.numerals.proofs.read_digits.Goals as goal

pub overflow_mul-read : goal.overflow_mul-read
overflow_mul-read c =
    let l = c.loop-b in
    let p = pow-up l.read.value l.read.count 8 (omega arith) l.invariant.below in
    record { fits = omega arith }

pub overflow_add-read : goal.overflow_add-read
overflow_add-read c =
    let l = c.loop-b in
    let p = pow-up l.read.value l.read.count 8 (omega arith) l.invariant.below in
    let h : c.from.result ≤ 9 = grind arith in
    record { fits = omega arith }

pub loop-b-preserved : goal.loop-b-preserved
loop-b-preserved c =
    let l = c.loop-b in
    let rest = c.in-Some.rest.now in
    let part = c.in-Some.ensures.lookup.0 in
    let at : get_or rest l.b-index 0 ≡ get_or c.args.text.now (c.args.from + l.b-index) 0 = rest-at _ _ _ _ part.2 part.3 (omega arith) in
    let low : digit_byte 0 ≤ get_or rest l.b-index 0 = grind arith in
    let high : get_or rest l.b-index 0 ≤ digit_byte 9 = grind arith in
    let more : c.args.from + (l.b-index + 1) ≡ c.args.from + l.b-index + 1 = omega arith in
    rw (c.from.ensures, at, more)
    (reading-more _ _ _ _ _ _ l.invariant (omega (arith, part.3)) (omega arith) (omega arith) (rw at at low) (rw at at high))
